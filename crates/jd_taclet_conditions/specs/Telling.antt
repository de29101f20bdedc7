-- What conditions tell, in the forms of the code.
use Rattle.std.specs.Prelude.{List, None, Option, Some, ◌++◌, ◌∷◌, []}
use Rattle.jd_patterns.specs.Bindings.{Bindings}
use Rattle.jd_patterns.specs.Instances.{Instance}
use Rattle.jd_schema_matching.specs.Tested.{tests}
use Rattle.jd_schema_trees.specs.TacletViews.{condition}
use Rattle.jd_schema_trees.specs.declared.condition.VarCond.{VarCond}
use Rattle.jd_schema_trees.specs.declared.condition.VarCond.TheVariants as conds
use Rattle.jd_sequent.specs.Obligations.{PlainTask}
use Rattle.jd_taclet_matching.specs.OwnedParts.{owned_part}
use Rattle.jd_taclet_stages.specs.Conditions.{Fails, Fixes, Stands, Told as PlainTold, condition_told}
use Rattle.jd_taclets.specs.Conditions.{Condition}
use Rattle.jd_taclet_conditions.specs.declared.told.Told.{Told}
use Rattle.jd_taclet_conditions.specs.declared.told.Told.TheVariants as tolds

abbrev pub told_view : Told → PlainTold
told_view tolds.Fails = Fails
told_view tolds.Stands = Stands
told_view (tolds.Fixes e) = Fixes e.name.now (owned_part e.part)

-- of a condition, or of none
abbrev pub one_told : PlainTask → Instance → List Condition → PlainTold
one_told t σ [] = Stands
one_told t σ (c ∷ l) = condition_told tests t σ c

abbrev pub told_of : PlainTask → Instance → VarCond → PlainTold
told_of t σ c = one_told t σ (condition c)

-- of the conditions that are tests, of those that compute a part without the tables of the program, and of those that look there
module _ (t : PlainTask) (σ : Instance) where
  abbrev pub test_told : VarCond → Option PlainTold
  test_told (conds.SteadyIn u a) = Some (told_of t σ (conds.SteadyIn u a))
  test_told (conds.NamedFieldTerm f) = Some (told_of t σ (conds.NamedFieldTerm f))
  test_told (conds.FieldsApart f e) = Some (told_of t σ (conds.FieldsApart f e))
  test_told (conds.AtLeastZero m) = Some (told_of t σ (conds.AtLeastZero m))
  test_told (conds.TermHasSort u s) = Some (told_of t σ (conds.TermHasSort u s))
  test_told (conds.KindBelow d c) = Some (told_of t σ (conds.KindBelow d c))
  test_told (conds.KindsDiffer d c) = Some (told_of t σ (conds.KindsDiffer d c))
  test_told (conds.FieldTakes f s) = Some (told_of t σ (conds.FieldTakes f s))
  test_told c = None

  abbrev pub computed_told : VarCond → Option PlainTold
  computed_told (conds.Calculated k a) = Some (told_of t σ (conds.Calculated k a))
  computed_told (conds.WhetherNumbers k q a c) = Some (told_of t σ (conds.WhetherNumbers k q a c))
  computed_told (conds.DefaultTerm k s) = Some (told_of t σ (conds.DefaultTerm k s))
  computed_told (conds.DefaultExpr k x) = Some (told_of t σ (conds.DefaultExpr k x))
  computed_told c = None

  abbrev pub looked_told : VarCond → PlainTold
  looked_told (conds.FieldRefersTo f d) = told_of t σ (conds.FieldRefersTo f d)
  looked_told (conds.WhetherBelow k d c) = told_of t σ (conds.WhetherBelow k d c)
  looked_told (conds.FieldHasSort k f) = told_of t σ (conds.FieldHasSort k f)
  looked_told (conds.DeclaredBy k f) = told_of t σ (conds.DeclaredBy k f)
  looked_told (conds.TypingOf k f h s) = told_of t σ (conds.TypingOf k f h s)
  looked_told (conds.InvariantsOf k c h o) = told_of t σ (conds.InvariantsOf k c h o)
  looked_told c = Stands

abbrev pub or_told : Option PlainTold → PlainTold → PlainTold
or_told None x = x
or_told (Some y) x = y

abbrev pub in_groups : PlainTask → Instance → VarCond → PlainTold
in_groups t σ c = or_told (test_told t σ c) (or_told (computed_told t σ c) (looked_told t σ c))

-- the bindings so far with what is told
abbrev pub with_told : Bindings → PlainTold → Option Bindings
with_told τ Fails = None
with_told τ Stands = Some τ
with_told τ (Fixes k x) = Some (τ ++ (k, x) ∷ [])
