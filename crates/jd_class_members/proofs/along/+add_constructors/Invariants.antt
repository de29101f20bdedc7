use Rattle.jd_class_members.proofs.along.+add_constructors.Given as goal

abbrev pub decreases-add_constructors : goal.decreases-add_constructors
decreases-add_constructors c = c.left
