use Rattle.jd_term.proofs.renaming.put_for.Given as goal
use Rattle.jd_term.specs.Renamings.{both_views, put_for}
use Rattle.jd_term.specs.TermViews.{term_view}
use Rattle.std.proofs.Common.{◌≡◌, drop, map}

abbrev pub invariant-loop-p : goal.invariant-loop-p
invariant-loop-p l = put_for (map both_views l.pairs) (term_view l.t) ≡ put_for (map both_views (drop l.p-index l.pairs)) (term_view l.t)
