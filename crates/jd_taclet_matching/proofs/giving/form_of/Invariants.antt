use Rattle.std.proofs.Common.{◌≡◌, drop}
use Rattle.jd_schema_trees.specs.TacletViews.{form_said}
use Rattle.jd_taclet_matching.proofs.giving.form_of.Given as goal

abbrev pub invariant-loop-c : goal.invariant-loop-c
invariant-loop-c l = form_said (drop l.c-index l.conds) l.name ≡ form_said l.conds l.name
