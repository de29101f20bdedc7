-- Why a loop's form may hold no new name: with one, a step has valid premises and a sequent that is not valid.
use Rattle.std.specs.Prelude.{ℕ, ℤ, false, true, None, List, [], ◌∷◌, codes}
use Rattle.jd_base.specs.declared.sort.Sort.TheVariants.{Bool as BoolSort}
use Rattle.jd_syntax.specs.Names.{Name}
use Rattle.jd_syntax.specs.CodeNames.{heap_name}
use Rattle.jd_syntax.specs.Codes.{BoolLiteral, Variable, Set, While, PlainCode, Done}
use Rattle.jd_term.specs.declared.formula.Modality.TheVariants as modalities
use Rattle.jd_term.specs.Terms.{Boolean, ProgramVariable, Constant, AllLocations}
use Rattle.jd_term.specs.Formulas.{PlainFormula, Or, Equal, Modal, WellFormed}
use Rattle.jd_model.specs.declared.sequent.Side.TheVariants.{Right}
use Rattle.jd_model.specs.SpecialNames.{entry_heap, entry_measure, receiver}
use Rattle.jd_model.specs.Sequents.{PlainSequent, PlainPlace}
use Rattle.jd_model.specs.Contexts.{Here, one}
use Rattle.jd_model.specs.Truth.{Setting}
use Rattle.jd_model.specs.Validity.{Valid, AllValid}
use Rattle.jd_task_classes.specs.OneClass.{one_class, the_class}
use Rattle.jd_sequent.specs.Obligations.{PlainLoop, PlainTask}
use Rattle.jd_loop.specs.LoopNames.{LoopNames, loop_names}
use Rattle.jd_loop.specs.LoopPremises.{first_premise, second_premise}
use Rattle.jd_loop.specs.LoopInstances.{IsLoopInstance}

-- a local of the method
abbrev pub b : Name
b = record { text = codes "b"; sort = BoolSort }

-- a new name of the number 1
abbrev pub b_now : Name
b_now = record { text = codes "#b1~1"; sort = BoolSort }

-- `while (b) { b = false; }`
abbrev pub body : PlainCode
body = one (Set b (BoolLiteral false))

-- the loop alone
abbrev pub code : PlainCode
code = one (While 1 (Variable b) body)

-- the invariant (or (eq b true) (eq #b1~1 true))
abbrev pub form : PlainLoop
form = record {
  number = 1;
  scope = b ∷ [];
  assignable = AllLocations;
  invariant = Or (Equal (ProgramVariable b) (Boolean true)) (Equal (Constant b_now) (Boolean true));
  variant = None;
}

-- b is true
abbrev pub is_true : PlainFormula
is_true = Equal (ProgramVariable b) (Boolean true)

-- (wf @heap), (eq b true) ==> a
abbrev pub sequent_of : PlainFormula → PlainSequent
sequent_of a = record { left = WellFormed (ProgramVariable heap_name) ∷ (is_true ∷ []); right = a ∷ [] }

-- behind the loop b is true
abbrev pub wrong_sequent : PlainSequent
wrong_sequent = sequent_of (Modal modalities.Necessity code is_true)

-- R1
abbrev pub wrong_place : PlainPlace
wrong_place = record { side = Right; index = 1; path = [] }

-- the task, of which the loop names a constant that its obligation does not know
abbrev pub wrong_task : PlainTask
wrong_task = record {
  classes = one_class [];
  contracts = record { cases = []; invariants = []; bodies = [] };
  obligation = record {
    name = codes "Z::f#1";
    class = the_class;
    method = 0;
    case = 1;
    vars = record { name = b; class = None } ∷ [];
    loops = form ∷ [];
    consts = entry_heap ∷ entry_measure ∷ receiver ∷ [];
    diamond = false;
    sequent = wrong_sequent;
  };
}

-- the new names
abbrev pub names : LoopNames
names = loop_names 1 (Variable b) body

-- both premises
abbrev pub wrong_premises : List PlainSequent
wrong_premises =
    sequent_of (first_premise wrong_task.obligation.vars form names)
    ∷ (sequent_of (second_premise modalities.Necessity wrong_task.obligation.vars form names (Here Done) (Variable b) body is_true)
    ∷ [])

-- so the task must name only what is known to its obligation
pub record NewNameInFormIsUnsound : Type 0 where
  pub step : IsLoopInstance wrong_task wrong_sequent wrong_place 1 wrong_premises
  pub valid : (g : Setting) (d : ℕ) (m : ℤ) → AllValid g d m wrong_premises
  pub not_valid : (g : Setting) (d : ℕ) (m : ℤ) → ¬ (Valid g d m wrong_sequent)
