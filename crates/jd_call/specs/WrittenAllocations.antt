-- Allocations of an object and of an array, with the premises of `newObject` as they are written.
use Rattle.std.specs.Prelude.{codes, ◌∷◌, []}
use Rattle.jd_base.specs.declared.sort.Sort.TheVariants.{Ref as RefSort}
use Rattle.jd_call.specs.NewObject.{NewObjectInstance}
use Rattle.jd_call.specs.RecursiveCall.{call_task, created, goal, heap, method_with, n}
use Rattle.jd_task_classes.specs.OneClass.{the_class}
use Rattle.jd_model.specs.Contexts.{one}
use Rattle.jd_model.specs.Sequents.{PlainPlace, PlainSequent}
use Rattle.jd_model.specs.declared.sequent.Side.TheVariants.{Right}
use Rattle.jd_syntax.specs.CodeNames.{heap_name}
use Rattle.jd_syntax.specs.Codes.{AllocArray, AllocObject, IntArray, OfClass, PlainCode, Return, Then, Variable}
use Rattle.jd_syntax.specs.Names.{Name}
use Rattle.jd_term.specs.Formulas.{And, Equal, Implies, IsExactInstance, Modal, Not, PlainFormula, Updated}
use Rattle.jd_term.specs.Terms.{Constant, Create, Length, NullTerm, PlainTerm, ProgramVariable}
use Rattle.jd_term.specs.declared.formula.Modality.TheVariants as modalities

abbrev pub a : Name
a = record { text = codes "a"; sort = RefSort }

-- `#r~7`
abbrev pub new_reference : PlainTerm
new_reference = Constant (record { text = codes "#r~7"; sort = RefSort })

-- what is behind the allocation: `return n;`
abbrev pub return_n : PlainCode
return_n = one (Return (Variable n))

abbrev pub allocates_then : PlainCode → PlainFormula
allocates_then c = Modal modalities.Necessity (method_with c) goal

abbrev pub alone : PlainFormula → PlainSequent
alone f = record { left = []; right = f ∷ [] }

-- `R1`
abbrev pub whole_place : PlainPlace
whole_place = record { side = Right; index = 1; path = [] }

-- (imp (and (and (not (eq #r~7 null)) F) (not cr(@heap,#r~7))) (upd ((a #r~7) (@heap (create @heap #r~7))) (box (.. (return n) ..) ..)))
abbrev pub written_premise : PlainFormula → PlainFormula
written_premise f = Implies
    (And (And (Not (Equal new_reference NullTerm)) f) (Not (created heap new_reference)))
    (Updated ((a, new_reference) ∷ ((heap_name, Create heap new_reference) ∷ [])) (allocates_then return_n))

-- `(alloc a Z)`, with (exact Z #r~7) for F, and `(alloc a (arr n))`, with (and (exact int[] #r~7) (eq (len #r~7) n))
pub record AllocationsAreWritten : Type 0 where
  pub of_object : NewObjectInstance call_task (alone (allocates_then (Then (AllocObject a the_class) return_n))) whole_place 7 (alone (written_premise (IsExactInstance (OfClass the_class) new_reference)) ∷ [])
  pub of_array : NewObjectInstance call_task (alone (allocates_then (Then (AllocArray a (Variable n)) return_n))) whole_place 7 (alone (written_premise (And (IsExactInstance IntArray new_reference) (Equal (Length new_reference) (ProgramVariable n)))) ∷ [])
