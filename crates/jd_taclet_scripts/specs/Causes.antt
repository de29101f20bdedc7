-- Why a step by a row is refused: what each cause says, by its number. A refusal names the least cause that holds. From the fifth on a cause
-- says that no instantiation passes the tests up to its own.
use Rattle.std.specs.Prelude.{All, List, None, Option, Some, suc, zero, ◌≡◌, ◌≢◌, ◌∷◌, ◌⊎◌, ℕ, []}
use Rattle.jd_declared.specs.Named.{first_named}
use Rattle.jd_model.specs.Places.{FormulaPart, Part, TermPart, at_place, numbered, on_side}
use Rattle.jd_model.specs.Sequents.{PlainPlace, PlainSequent}
use Rattle.jd_model.specs.declared.sequent.Side.{Side}
use Rattle.jd_model.specs.declared.sequent.Side.TheVariants.{Left, Right}
use Rattle.jd_patterns.specs.Instances.{Instance}
use Rattle.jd_patterns.specs.Patterns.{FormulaPattern}
use Rattle.jd_sequent.specs.Limits.{IsWithinLimits}
use Rattle.jd_sequent.specs.Obligations.{PlainTask}
use Rattle.jd_sequent.specs.Trees.{PlainStep}
use Rattle.jd_syntax.specs.Sxs.{Bracketed}
use Rattle.jd_taclet_scripts.specs.Given.{AreGiven, AreNewConstants, AreNewVariables}
use Rattle.jd_taclet_scripts.specs.Places.{AreAssumedAt, IsFoundAt, MayStandAt}
use Rattle.jd_taclet_scripts.specs.Steps.{IsStepOfRow, row_named}
use Rattle.jd_taclets.specs.Conditions.{AllHold}
use Rattle.jd_taclets.specs.Taclets.{AtFormula, AtTerm, FitAssumed, FitsFind, InstVar, OnLeft, OnRight, Pattern, Taclet, TacletKind, new_constants, new_variables}
use Rattle.jd_told_programs.specs.Told.{told_setting}

-- ---- the place

-- no place is given where something is to be found, or its index is none of the side's formulas
abbrev pub HasNoFormula : Option Pattern → PlainSequent → Option PlainPlace → Type 0
HasNoFormula f s None = f ≢ None
HasNoFormula f s (Some q) = numbered (on_side s q.side) q.index ≡ None

-- the path leaves the tree
abbrev pub HasNoPlace : PlainSequent → Option PlainPlace → Type 0
HasNoPlace s None = ⊥
HasNoPlace s (Some q) = at_place s q ≡ None

-- rows of the kind act on such a part there: a whole formula of the side, any formula, any term
abbrev pub ActsOn : TacletKind → PlainPlace → Part → Type 0
ActsOn OnLeft q (FormulaPart a) = (q.side ≡ Left) × (q.path ≡ [])
ActsOn OnRight q (FormulaPart a) = (q.side ≡ Right) × (q.path ≡ [])
ActsOn AtFormula q (FormulaPart a) = Unit {0}
ActsOn AtTerm q (TermPart t) = Unit {0}
ActsOn k q x = ⊥

-- something stands at the place, and the row does not act on it: it is of the wrong side or kind, or stands in an update's body or a
-- modality's formula where the row assumes something; a row that finds nothing acts on nothing
abbrev pub IsOfWrongKind : TacletKind → List (Side × FormulaPattern) → PlainSequent → Option PlainPlace → Type 0
IsOfWrongKind k assumes s None = ⊥
IsOfWrongKind k assumes s (Some q) = (x : Part) × (at_place s q ≡ Some x) × (ActsOn k q x × MayStandAt assumes s (Some q) → ⊥)

-- ---- what is given

-- one that is asked for is not given
abbrev pub IsMissing : List InstVar → List (List ℕ × Bracketed) → Type 0
IsMissing [] given = ⊥
IsMissing (v ∷ vs) given = (first_named given v.name ≡ None) ⊎ IsMissing vs given

-- ---- what instantiations pass

module _ (r : Taclet) (t : PlainTask) (s : PlainSequent) (step : PlainStep) (σ : Instance) where
  -- it makes what the row finds the part at the place
  pub record IsFoundBy : Type 0 where
    pub found : IsFoundAt (told_setting t).program σ s r.kind r.find step.place
    pub may_stand : MayStandAt r.assumes s step.place
    pub fits : FitsFind (told_setting t).program σ r.find

  -- and what is given is what is asked for, of the right forms and sorts
  pub record IsGivenBy : Type 0 where
    pub found : IsFoundBy
    pub given : AreGiven t (told_setting t).program σ r.insts step.insts

  -- and what the row assumes stands at the assumed places, which are others than the step's own
  pub record IsAssumedBy : Type 0 where
    pub given : IsGivenBy
    pub assumed : AreAssumedAt (told_setting t).program σ s step.place r.assumes step.assumes
    pub fit : FitAssumed (told_setting t).program σ r.assumes

  -- and new names are new
  pub record IsNewBy : Type 0 where
    pub assumed : IsAssumedBy
    pub constants : AreNewConstants t s (new_constants (told_setting t).program σ r.insts)
    pub variables : AreNewVariables t s (new_variables (told_setting t).program σ r.insts)

  -- and the row's conditions hold
  pub record IsAdmittedBy : Type 0 where
    pub new : IsNewBy
    pub conds : AllHold (told_setting t) σ r.conds

-- ---- the causes

-- the step is one of the row, and one of its premises passes a limit
pub record IsTooLarge (r : Taclet) (t : PlainTask) (s : PlainSequent) (step : PlainStep) : Type 0 where
  pub premises : List PlainSequent
  pub is : IsStepOfRow r t s step premises
  pub passes : All IsWithinLimits premises → ⊥

-- the cause with this number, of a step by the row; the numbers that are not written here are never a cause
module _ (r : Taclet) (t : PlainTask) (s : PlainSequent) (step : PlainStep) where
  abbrev pub RowCause : ℕ → Type 0
  -- 2, NoFormula
  RowCause (suc (suc zero)) = HasNoFormula r.find s step.place
  -- 3, NoPlace
  RowCause (suc (suc (suc zero))) = HasNoPlace s step.place
  -- 4, WrongPlaceKind
  RowCause (suc (suc (suc (suc zero)))) = IsOfWrongKind r.kind r.assumes s step.place
  -- 5, NoMatch
  RowCause (suc (suc (suc (suc (suc zero))))) = (σ : Instance) → IsFoundBy r t s step σ → ⊥
  -- 6, MissingInst
  RowCause (suc (suc (suc (suc (suc (suc zero)))))) = IsMissing r.insts step.insts
  -- 7, BadInst
  RowCause (suc (suc (suc (suc (suc (suc (suc zero))))))) = (σ : Instance) → IsGivenBy r t s step σ → ⊥
  -- 8, NoAssume
  RowCause (suc (suc (suc (suc (suc (suc (suc (suc zero)))))))) = (σ : Instance) → IsAssumedBy r t s step σ → ⊥
  -- 9, NotFresh
  RowCause (suc (suc (suc (suc (suc (suc (suc (suc (suc zero))))))))) = (σ : Instance) → IsNewBy r t s step σ → ⊥
  -- 10, SideCondition
  RowCause (suc (suc (suc (suc (suc (suc (suc (suc (suc (suc zero)))))))))) = (σ : Instance) → IsAdmittedBy r t s step σ → ⊥
  -- 13, TooLarge
  RowCause (suc (suc (suc (suc (suc (suc (suc (suc (suc (suc (suc (suc (suc zero))))))))))))) = IsTooLarge r t s step
  RowCause n = ⊥

-- so it is of the row that the step names, and of none where no row has the name
pub record OfRow (rows : List Taclet) (step : PlainStep) (C : Taclet → Type 0) : Type 0 where
  pub row : Taclet
  pub named : row_named rows step.rule ≡ Some row
  pub holds : C row

-- 1, UnknownRule: no row has the name; each other cause is one of the row that has it
abbrev pub TacletCause : List Taclet → PlainTask → PlainSequent → PlainStep → ℕ → Type 0
TacletCause rows t s step (suc zero) = row_named rows step.rule ≡ None
TacletCause rows t s step n = OfRow rows step (λ r. RowCause r t s step n)
