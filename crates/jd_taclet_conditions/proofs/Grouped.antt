-- What a condition tells, by the groups of the code.
use Rattle.std.proofs.Common.{refl, ◌≡◌}
use Rattle.jd_patterns.specs.Instances.{Instance}
use Rattle.jd_schema_trees.specs.declared.condition.VarCond.{VarCond}
use Rattle.jd_schema_trees.specs.declared.condition.VarCond.TheVariants as conds
use Rattle.jd_sequent.specs.Obligations.{PlainTask}
use Rattle.jd_taclet_conditions.specs.Telling.{in_groups, told_of}

pub told_in_groups : (t : PlainTask) (σ : Instance) (c : VarCond) → in_groups t σ c ≡ told_of t σ c
told_in_groups t σ (conds.Gives m f) = refl
told_in_groups t σ (conds.SteadyIn u a) = refl
told_in_groups t σ (conds.NamedFieldTerm f) = refl
told_in_groups t σ (conds.FieldsApart f e) = refl
told_in_groups t σ (conds.AtLeastZero m) = refl
told_in_groups t σ (conds.TermHasSort u s) = refl
told_in_groups t σ (conds.KindBelow d c) = refl
told_in_groups t σ (conds.KindsDiffer d c) = refl
told_in_groups t σ (conds.FieldRefersTo f d) = refl
told_in_groups t σ (conds.FieldTakes f s) = refl
told_in_groups t σ (conds.Calculated k a) = refl
told_in_groups t σ (conds.WhetherNumbers k q a c) = refl
told_in_groups t σ (conds.WhetherBelow k d c) = refl
told_in_groups t σ (conds.DefaultTerm k s) = refl
told_in_groups t σ (conds.DefaultExpr k x) = refl
told_in_groups t σ (conds.FieldHasSort k f) = refl
told_in_groups t σ (conds.DeclaredBy k f) = refl
told_in_groups t σ (conds.TypingOf k f h s) = refl
told_in_groups t σ (conds.InvariantsOf k c h o) = refl
told_in_groups t σ (conds.IndexSort a s) = refl
told_in_groups t σ (conds.IndexSortInTerm u s) = refl
told_in_groups t σ (conds.EntrySort s) = refl
told_in_groups t σ (conds.OnlyIndex a) = refl

pub ruleset grouped = told_in_groups
