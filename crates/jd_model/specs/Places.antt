-- What stands at a place of a sequent, and a sequent with another formula there.
use Rattle.std.specs.Prelude.{◌≡◌, ℕ, zero, suc, ◌==◌, if◌then◌else◌, List, [], ◌∷◌, ◌++◌, map, Option, Some, None, option_and_then, slice_get}
use Rattle.jd_term.specs.Terms.{PlainTerm, Number, Boolean, NullTerm, ProgramVariable, Constant, Bound, Arithmetic, Negation, Wrap, Length, Select, Sum, Store, Create, Anon, NamedField, CreatedField, ElementField, PlainLoc, NoLocations, AllLocations, Single, ObjectFields, ArrayElements, ElementRange, Union}
use Rattle.jd_term.specs.Formulas.{PlainFormula, TrueFormula, FalseFormula, Not, And, Or, Implies, Iff, Equal, Less, LessOrEqual, Forall, Exists, Updated, Modal, InLocations, InInt, WellFormed, Invariant, IsInstance, IsExactInstance}
use Rattle.jd_model.specs.declared.sequent.Side.{Side}
use Rattle.jd_model.specs.declared.sequent.Side.TheVariants.{Left, Right}
use Rattle.jd_model.specs.Sequents.{PlainSequent, PlainPlace}

pub data Part : Type 0 where
  FormulaPart : PlainFormula → Part
  TermPart : PlainTerm → Part
  LocPart : PlainLoc → Part

abbrev pub term_children : PlainTerm → List Part
term_children (Number n) = []
term_children (Boolean b) = []
term_children NullTerm = []
term_children (ProgramVariable x) = []
term_children (Constant c) = []
term_children (Bound k s) = []
term_children (Arithmetic op t u) = TermPart t ∷ TermPart u ∷ []
term_children (Negation t) = TermPart t ∷ []
term_children (Wrap t) = TermPart t ∷ []
term_children (Length o) = TermPart o ∷ []
term_children (Select s h o f) = TermPart h ∷ TermPart o ∷ TermPart f ∷ []
term_children (Sum t u v) = TermPart t ∷ TermPart u ∷ TermPart v ∷ []
term_children (Store h o f t) = TermPart h ∷ TermPart o ∷ TermPart f ∷ TermPart t ∷ []
term_children (Create h o) = TermPart h ∷ TermPart o ∷ []
term_children (Anon h l g) = TermPart h ∷ LocPart l ∷ TermPart g ∷ []
term_children (NamedField f) = []
term_children CreatedField = []
term_children (ElementField t) = TermPart t ∷ []

abbrev pub loc_children : PlainLoc → List Part
loc_children NoLocations = []
loc_children AllLocations = []
loc_children (Single o f) = TermPart o ∷ TermPart f ∷ []
loc_children (ObjectFields o) = TermPart o ∷ []
loc_children (ArrayElements o) = TermPart o ∷ []
loc_children (ElementRange o t u) = TermPart o ∷ TermPart t ∷ TermPart u ∷ []
loc_children (Union l m) = LocPart l ∷ LocPart m ∷ []

-- names, sorts, classes and code are no children; an update's right sides come first
abbrev pub formula_children : PlainFormula → List Part
formula_children TrueFormula = []
formula_children FalseFormula = []
formula_children (Not a) = FormulaPart a ∷ []
formula_children (And a b) = FormulaPart a ∷ FormulaPart b ∷ []
formula_children (Or a b) = FormulaPart a ∷ FormulaPart b ∷ []
formula_children (Implies a b) = FormulaPart a ∷ FormulaPart b ∷ []
formula_children (Iff a b) = FormulaPart a ∷ FormulaPart b ∷ []
formula_children (Equal t u) = TermPart t ∷ TermPart u ∷ []
formula_children (Less t u) = TermPart t ∷ TermPart u ∷ []
formula_children (LessOrEqual t u) = TermPart t ∷ TermPart u ∷ []
formula_children (Forall s a) = FormulaPart a ∷ []
formula_children (Exists s a) = FormulaPart a ∷ []
formula_children (Updated u a) = map (λ p. TermPart p.1) u ++ (FormulaPart a ∷ [])
formula_children (Modal m c a) = FormulaPart a ∷ []
formula_children (InLocations o f l) = TermPart o ∷ TermPart f ∷ LocPart l ∷ []
formula_children (InInt t) = TermPart t ∷ []
formula_children (WellFormed h) = TermPart h ∷ []
formula_children (Invariant h o) = TermPart h ∷ TermPart o ∷ []
formula_children (IsInstance k o) = TermPart o ∷ []
formula_children (IsExactInstance k o) = TermPart o ∷ []

abbrev pub children : Part → List Part
children (FormulaPart a) = formula_children a
children (TermPart t) = term_children t
children (LocPart l) = loc_children l

-- counted from 1
abbrev pub numbered : {A : Type 0} → List A → ℕ → Option A
numbered xs zero = None
numbered xs (suc k) = slice_get xs k

-- the part that is reached by these numbers of children
abbrev pub part_at : List ℕ → Part → Option Part
part_at [] p = Some p
part_at (k ∷ ks) p = option_and_then (part_at ks) (numbered (children p) k)

abbrev pub on_side : PlainSequent → Side → List PlainFormula
on_side s Left = s.left
on_side s Right = s.right

-- what stands at the place
abbrev pub at_place : PlainSequent → PlainPlace → Option Part
at_place s p = option_and_then (λ a. part_at p.path (FormulaPart a)) (numbered (on_side s p.side) p.index)

-- the formula with another one at the end of a path that leads through formulas
abbrev pub put_formula : List ℕ → PlainFormula → PlainFormula → PlainFormula
put_formula [] new a = new
put_formula (k ∷ ks) new (Not a) = Not (put_formula ks new a)
put_formula (k ∷ ks) new (And a b) = And (if k == 1 then put_formula ks new a else a) (if k == 1 then b else put_formula ks new b)
put_formula (k ∷ ks) new (Or a b) = Or (if k == 1 then put_formula ks new a else a) (if k == 1 then b else put_formula ks new b)
put_formula (k ∷ ks) new (Implies a b) = Implies (if k == 1 then put_formula ks new a else a) (if k == 1 then b else put_formula ks new b)
put_formula (k ∷ ks) new (Iff a b) = Iff (if k == 1 then put_formula ks new a else a) (if k == 1 then b else put_formula ks new b)
put_formula (k ∷ ks) new (Forall s a) = Forall s (put_formula ks new a)
put_formula (k ∷ ks) new (Exists s a) = Exists s (put_formula ks new a)
put_formula (k ∷ ks) new (Updated u a) = Updated u (put_formula ks new a)
put_formula (k ∷ ks) new (Modal m c a) = Modal m c (put_formula ks new a)
put_formula (k ∷ ks) new a = a

-- the formulas with another one below the formula of this number
abbrev pub put_in : List PlainFormula → ℕ → List ℕ → PlainFormula → List PlainFormula
put_in [] k path new = []
put_in (a ∷ as') zero path new = a ∷ as'
put_in (a ∷ as') (suc zero) path new = put_formula path new a ∷ as'
put_in (a ∷ as') (suc (suc k)) path new = a ∷ put_in as' (suc k) path new

-- the sequent with another formula at the place
abbrev pub put_side : Side → PlainSequent → ℕ → List ℕ → PlainFormula → PlainSequent
put_side Left s k path new = record { left = put_in s.left k path new; right = s.right }
put_side Right s k path new = record { left = s.left; right = put_in s.right k path new }

abbrev pub put_at : PlainSequent → PlainPlace → PlainFormula → PlainSequent
put_at s p new = put_side p.side s p.index p.path new

-- a formula stands at the place
pub record IsFormulaPlace (s : PlainSequent) (p : PlainPlace) : Type 0 where
  pub formula : PlainFormula
  pub found : at_place s p ≡ Some (FormulaPart formula)
