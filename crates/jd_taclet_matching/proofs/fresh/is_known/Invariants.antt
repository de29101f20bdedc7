use Rattle.std.proofs.Common.{◌≡◌, drop, map}
use Rattle.std.specs.List.{list_any}
use Rattle.jd_syntax.specs.CodeNames.{same_name}
use Rattle.jd_syntax.specs.Names.{const_decl_view}
use Rattle.jd_term.specs.TermViews.{const_view}
use Rattle.jd_taclet_matching.proofs.fresh.is_known.Given as goal

abbrev pub invariant-loop-d : goal.invariant-loop-d
invariant-loop-d l = list_any (λ k. same_name (const_view l.c) k) (map const_decl_view (drop l.d-index l.consts)) ≡ list_any (λ k. same_name (const_view l.c) k) (map const_decl_view l.consts)
