use Rattle.jd_class_members.proofs.along.+add_members.Given as goal

abbrev pub decreases-add_members : goal.decreases-add_members
decreases-add_members c = c.left
