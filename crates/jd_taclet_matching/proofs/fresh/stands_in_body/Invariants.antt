use Rattle.std.proofs.Common.{◌≡◌, drop, map}
use Rattle.std.specs.List.{list_any}
use Rattle.jd_model.specs.ContractForms.{PlainBody, body_view}
use Rattle.jd_syntax.specs.CodeNames.{named_in_code}
use Rattle.jd_syntax.specs.Names.{var_view}
use Rattle.jd_taclet_matching.proofs.fresh.stands_in_body.Given as goal

abbrev pub invariant-loop-body : goal.invariant-loop-body
invariant-loop-body l = list_any (λ (b : PlainBody). named_in_code (var_view l.x) b.code) (map body_view (drop l.body-index l.bodies)) ≡ list_any (λ (b : PlainBody). named_in_code (var_view l.x) b.code) (map body_view l.bodies)
