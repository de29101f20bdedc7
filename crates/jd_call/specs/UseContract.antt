-- The instances of `useContract`.
use Rattle.std.specs.Prelude.{Bool, List, None, Option, Some, false, map, true, ◌≡◌, ◌∷◌, ◌&&◌, ◌==◌, ℕ, [], if◌then◌else◌}
use Rattle.jd_call.specs.Calls.{CallFits, FocusedCall, IsAtFocus, called_class, called_method, formula_of, parameters_of, target_kind}
use Rattle.jd_task_classes.specs.Classes.{methods_of}
use Rattle.jd_call.specs.Premises.{call_constants, call_premises, call_variables}
use Rattle.jd_model.specs.ContractForms.{PlainBody, PlainCase}
use Rattle.jd_model.specs.Occurrences.{AllOf}
use Rattle.jd_model.specs.Places.{put_at}
use Rattle.jd_model.specs.Sequents.{PlainPlace, PlainSequent}
use Rattle.jd_model.specs.Tables.{body_in}
use Rattle.jd_model.specs.UpdatePlaces.{IsUpdatePlace}
use Rattle.jd_sequent.specs.Freshness.{IsInNoBody, IsNewConstant, IsNewVariable}
use Rattle.jd_sequent.specs.Obligations.{PlainTask}
use Rattle.jd_term.specs.Formulas.{PlainFormula}
use Rattle.jd_term.specs.declared.formula.Modality.{Modality}
use Rattle.jd_term.specs.declared.formula.Modality.TheVariants as modalities

-- the row of a case by its class, its method and its number
abbrev pub case_in : List PlainCase → ℕ → ℕ → ℕ → Option PlainCase
case_in [] class method number = None
case_in (f ∷ fs) class method number = if (f.class == class && f.method == method) && f.number == number then Some f else case_in fs class method number

-- in a diamond the case's run ends, and the task's family reaches the callee's
abbrev pub MayCall : Modality → PlainCase → Bool → Type 0
MayCall modalities.Necessity f reached = Unit {0}
MayCall modalities.Possibility f reached = (f.diverges ≡ false) × (reached ≡ true)

-- in a diamond, where each family reaches the other
abbrev pub is_in_cluster : Modality → Bool → Bool → Bool
is_in_cluster modalities.Necessity reached back = false
is_in_cluster modalities.Possibility reached back = reached && back

-- the task's family reaches the callee's, and that reaches the task's
module _ (t : PlainTask) (c : FocusedCall) where
  abbrev pub caller_family : ℕ
  caller_family = (methods_of t.classes).family t.obligation.method

  abbrev pub callee_family : ℕ
  callee_family = (methods_of t.classes).family (called_method c.target)

  abbrev pub reaches_callee : Bool
  reaches_callee = (methods_of t.classes).reaches caller_family callee_family

  abbrev pub callee_reaches : Bool
  callee_reaches = (methods_of t.classes).reaches callee_family caller_family

-- the premises' formulas of step n, for the call's body and case
abbrev pub premises_of : PlainTask → FocusedCall → PlainBody → PlainCase → ℕ → List PlainFormula
premises_of t c b f n =
    call_premises f (parameters_of (target_kind c.target) b) ((methods_of t.classes).result (called_method c.target)) c.target c.operands n
    c.modality c.context c.after (methods_of t.classes).null_pointer c.into (is_in_cluster c.modality (reaches_callee t c) (callee_reaches t c))

-- at the place stands a modality, and at its innermost focus a call with simple operands; of the called method there is a
-- case of this number; the names of step n are new; the premises are the sequent with each of the premises' formulas at the
-- place
pub record UseContractInstance (t : PlainTask) (s : PlainSequent) (place : PlainPlace) (number n : ℕ) (premises : List PlainSequent) : Type 0 where
  pub call : FocusedCall
  pub at_place : IsUpdatePlace s place (formula_of call)
  pub at_focus : IsAtFocus call
  pub body : PlainBody
  pub body_found : body_in t.contracts.bodies (called_method call.target) ≡ Some body
  pub fits : CallFits (methods_of t.classes) call (parameters_of (target_kind call.target) body)
  pub case : PlainCase
  pub case_found : case_in t.contracts.cases (called_class (methods_of t.classes) call.target) (called_method call.target) number ≡ Some case
  pub permitted : MayCall call.modality case (reaches_callee t call)
  pub variables_new : AllOf (IsNewVariable s) (call_variables n)
  pub in_no_body : AllOf (IsInNoBody t) (call_variables n)
  pub constants_new : AllOf (IsNewConstant t.obligation s) (call_constants ((methods_of t.classes).result (called_method call.target)) n)
  pub premises_are : premises ≡ map (put_at s place) (premises_of t call body case n)
