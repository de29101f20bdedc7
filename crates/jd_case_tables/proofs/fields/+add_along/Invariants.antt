use Rattle.jd_case_tables.proofs.fields.+add_along.Given as goal

abbrev pub decreases-add_along : goal.decreases-add_along
decreases-add_along g c = c.left
