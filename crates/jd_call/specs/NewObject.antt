-- The instances of `newObject`.
use Rattle.std.specs.Prelude.{List, Some, map, ◌≡◌, ◌∷◌, ℕ, []}
use Rattle.jd_base.specs.declared.sort.Sort.TheVariants.{Int as IntSort, Ref as RefSort}
use Rattle.jd_model.specs.Conjunctions.{created_at}
use Rattle.jd_model.specs.Contexts.{Context, fill}
use Rattle.jd_model.specs.InnermostFocus.{innermost_focus}
use Rattle.jd_model.specs.NumberedNames.{numbered_constant}
use Rattle.jd_model.specs.Places.{put_at}
use Rattle.jd_model.specs.Sequents.{PlainPlace, PlainSequent}
use Rattle.jd_model.specs.SimpleExpressions.{SimpleOf, term_of}
use Rattle.jd_model.specs.UpdatePlaces.{IsUpdatePlace}
use Rattle.jd_sequent.specs.Freshness.{IsNewConstant}
use Rattle.jd_sequent.specs.Obligations.{PlainTask}
use Rattle.jd_syntax.specs.CodeNames.{heap_name}
use Rattle.jd_syntax.specs.Codes.{AllocArray, AllocObject, Done, Expr, IntArray, OfClass, PlainCode, Stmt}
use Rattle.jd_syntax.specs.Names.{Name}
use Rattle.jd_term.specs.Formulas.{And, Equal, Implies, IsExactInstance, Modal, Not, PlainFormula, Updated}
use Rattle.jd_term.specs.Terms.{Constant, Create, Length, NullTerm, PlainTerm, ProgramVariable}
use Rattle.jd_term.specs.declared.formula.Modality.{Modality}

-- what is allocated: an object of the class, or an array of a length
pub data Allocation : Type 0 where
  ObjectOf : ℕ → Allocation
  ArrayOf : Expr → Allocation

abbrev pub alloc_stmt : Name → Allocation → Stmt
alloc_stmt x (ObjectOf c) = AllocObject x c
alloc_stmt x (ArrayOf e) = AllocArray x e

abbrev pub LengthIsSimple : Allocation → Type 0
LengthIsSimple (ObjectOf c) = Unit {0}
LengthIsSimple (ArrayOf e) = SimpleOf IntSort e

-- the new object's name in step n
abbrev pub object_constant : ℕ → Name
object_constant n = numbered_constant RefSort [] n

-- it is of exactly the class, or an array of this length
abbrev pub is_allocated_as : Allocation → PlainTerm → PlainFormula
is_allocated_as (ObjectOf c) o = IsExactInstance (OfClass c) o
is_allocated_as (ArrayOf e) o = And (IsExactInstance IntArray o) (Equal (Length o) (term_of e))

-- it was not created, and the variable names it once it is
abbrev pub allocation_premise : Name → Allocation → Name → Modality → Context → PlainFormula → PlainFormula
allocation_premise x k o m context a = Implies
    (And (And (Not (Equal (Constant o) NullTerm)) (is_allocated_as k (Constant o))) (Not (created_at (ProgramVariable heap_name) (Constant o))))
    (Updated ((x, Constant o) ∷ ((heap_name, Create (ProgramVariable heap_name) (Constant o)) ∷ [])) (Modal m (fill context Done) a))

-- at the place stands a modality, and at its innermost focus an allocation; the name of step n is new; the premise is the
-- sequent with the premise's formula at the place
pub record NewObjectInstance (t : PlainTask) (s : PlainSequent) (place : PlainPlace) (n : ℕ) (premises : List PlainSequent) : Type 0 where
  pub modality : Modality
  pub code : PlainCode
  pub after : PlainFormula
  pub at_place : IsUpdatePlace s place (Modal modality code after)
  pub context : Context
  pub variable : Name
  pub allocation : Allocation
  pub at_focus : innermost_focus code ≡ Some (context, alloc_stmt variable allocation)
  pub variable_sort : variable.sort ≡ RefSort
  pub length_simple : LengthIsSimple allocation
  pub constant_new : IsNewConstant t.obligation s (object_constant n)
  pub premises_are : premises ≡ map (put_at s place) (allocation_premise variable allocation (object_constant n) modality context after ∷ [])
