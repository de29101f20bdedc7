-- Why a step is refused: what each cause says, by its number. A refusal names the least cause that holds.
use Rattle.std.specs.Prelude.{◌≡◌, ◌≢◌, ℕ, zero, suc, List, [], ◌∷◌, All, Option, Some, None}
use Rattle.jd_term.specs.Formulas.{PlainFormula}
use Rattle.jd_model.specs.declared.sequent.Side.{Side}
use Rattle.jd_model.specs.declared.sequent.Side.TheVariants.{Left, Right}
use Rattle.jd_model.specs.Sequents.{PlainSequent, PlainPlace}
use Rattle.jd_model.specs.Places.{Part, FormulaPart, TermPart, LocPart, on_side, numbered, at_place}
use Rattle.jd_sequent.specs.Trees.{PlainStep}
use Rattle.jd_sequent.specs.Limits.{IsWithinLimits}
use Rattle.jd_first_steps.specs.declared.rules.FirstRule.{FirstRule}
use Rattle.jd_first_steps.specs.declared.rules.FirstRule.TheVariants.{Close, CloseTrue, NotLeft, AndLeft, AndRight, ImpRight}
use Rattle.jd_first_steps.specs.Names.{rule_name}
use Rattle.jd_first_steps.specs.Rows.{row_goals}
use Rattle.jd_first_steps.specs.Rewrites.{Rewrites}
use Rattle.jd_first_steps.specs.Instances.{IsInstance}
use Rattle.jd_first_rules.specs.declared.rules.Kind.{Kind}
use Rattle.jd_first_rules.specs.declared.rules.Kind.TheVariants.{Closing, Whole, Anywhere}
use Rattle.jd_first_rules.specs.Steps.{kind_of}

-- so it is of the rule that the step names, and of none where no rule has the name
pub record OfRule (p : PlainStep) (C : FirstRule → Type 0) : Type 0 where
  pub rule : FirstRule
  pub named : p.rule ≡ rule_name rule
  pub holds : C rule

-- so it is of the step's place and of what stands there, and of nothing where the path leaves the tree
pub record OfPlace (s : PlainSequent) (p : PlainStep) (C : PlainPlace → Part → Type 0) : Type 0 where
  pub place : PlainPlace
  pub part : Part
  pub placed : p.place ≡ Some place
  pub found : at_place s place ≡ Some part
  pub holds : C place part

-- no rule has the step's name
abbrev pub IsUnknownRule : PlainStep → Type 0
IsUnknownRule p = (rule : FirstRule) → p.rule ≢ rule_name rule

-- no place is given, or its index is none of the side's formulas
abbrev pub HasNoFormula : PlainSequent → Option PlainPlace → Type 0
HasNoFormula s None = Unit {0}
HasNoFormula s (Some place) = numbered (on_side s place.side) place.index ≡ None

-- the path leaves the tree
abbrev pub HasNoPlace : PlainSequent → Option PlainPlace → Type 0
HasNoPlace s None = ⊥
HasNoPlace s (Some place) = at_place s place ≡ None

-- the side on which the rule acts on whole formulas; None for a rule that acts on a formula at any place
abbrev pub whole_side : FirstRule → Option Side
whole_side Close = Some Right
whole_side CloseTrue = Some Right
whole_side NotLeft = Some Left
whole_side AndLeft = Some Left
whole_side AndRight = Some Right
whole_side ImpRight = Some Right
whole_side rule = None

-- the place is that of a whole formula on this side; where no side is given, each place is right
abbrev pub IsOn : Option Side → PlainPlace → Type 0
IsOn None place = Unit {0}
IsOn (Some side) place = (place.side ≡ side) × (place.path ≡ [])

abbrev pub IsFormula : Part → Type 0
IsFormula (FormulaPart a) = Unit {0}
IsFormula (TermPart t) = ⊥
IsFormula (LocPart l) = ⊥

-- the rule does not act on such a place: it is not on the rule's side, no whole formula, or no formula
abbrev pub IsOfWrongKind : FirstRule → PlainPlace → Part → Type 0
IsOfWrongKind rule place part = IsOn (whole_side rule) place × IsFormula part → ⊥

-- no row takes the formula, or no formula is put for it; `close` takes each formula
abbrev pub IsNotTaken : Kind → FirstRule → Side → PlainFormula → Type 0
IsNotTaken Closing rule side a = ⊥
IsNotTaken Whole rule side a = row_goals rule side a ≡ None
IsNotTaken Anywhere rule side a = (after : PlainFormula) → Rewrites rule a after → ⊥

-- a formula stands there, and the rule does not match it
abbrev pub IsNotMatched : FirstRule → PlainPlace → Part → Type 0
IsNotMatched rule place (FormulaPart a) = IsNotTaken (kind_of rule) rule place.side a
IsNotMatched rule place (TermPart t) = ⊥
IsNotMatched rule place (LocPart l) = ⊥

-- exactly one place is assumed, and this whole formula of the left stands there
pub record IsAssumed (s : PlainSequent) (assumes : List (Option PlainPlace)) (a : PlainFormula) : Type 0 where
  pub index : ℕ
  pub only : assumes ≡ Some (record { side = Left; index = index; path = [] }) ∷ []
  pub found : numbered s.left index ≡ Some a

-- for `close`: no formula of the left is assumed, or what stands at the step's place is another; for the others: something is assumed
abbrev pub AssumesWrongly : FirstRule → PlainSequent → PlainStep → Type 0
AssumesWrongly Close s p = (a : PlainFormula) → IsAssumed s p.assumes a → OfPlace s p (λ place part. part ≢ FormulaPart a)
AssumesWrongly rule s p = p.assumes ≢ []

-- the step is an instance, and one of its premises passes a limit
pub record IsTooLarge (s : PlainSequent) (p : PlainStep) : Type 0 where
  pub premises : List PlainSequent
  pub is : IsInstance s p premises
  pub passes : All IsWithinLimits premises → ⊥

-- the cause with this number, from 1; the numbers that are not written here are never a cause
abbrev pub Cause : PlainSequent → PlainStep → ℕ → Type 0
-- 1, UnknownRule
Cause s p (suc zero) = IsUnknownRule p
-- 2, NoFormula
Cause s p (suc (suc zero)) = HasNoFormula s p.place
-- 3, NoPlace
Cause s p (suc (suc (suc zero))) = HasNoPlace s p.place
-- 4, WrongPlaceKind
Cause s p (suc (suc (suc (suc zero)))) = OfRule p (λ rule. OfPlace s p (IsOfWrongKind rule))
-- 5, NoMatch
Cause s p (suc (suc (suc (suc (suc zero))))) = OfRule p (λ rule. OfPlace s p (IsNotMatched rule))
-- 7, BadInst: an instantiation is given
Cause s p (suc (suc (suc (suc (suc (suc (suc zero))))))) = p.insts ≢ []
-- 8, NoAssume
Cause s p (suc (suc (suc (suc (suc (suc (suc (suc zero)))))))) = OfRule p (λ rule. AssumesWrongly rule s p)
-- 13, TooLarge
Cause s p (suc (suc (suc (suc (suc (suc (suc (suc (suc (suc (suc (suc (suc zero))))))))))))) = IsTooLarge s p
Cause s p n = ⊥
