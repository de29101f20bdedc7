use Rattle.jd_jml_cases.proofs.inherited.+add_inherited.Given as goal

abbrev pub decreases-add_inherited : goal.decreases-add_inherited
decreases-add_inherited c = c.left
