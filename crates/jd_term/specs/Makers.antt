-- Trees made of parts that may be missing.
use Rattle.std.specs.Prelude.{IfOk, ◌≡◌, map}
use Rattle.std.specs.Global.{Box}
use Rattle.std.specs.declared.result.Result.{Result}
use Rattle.jd_base.specs.declared.memory.NoMemory.{NoMemory}
use Rattle.jd_syntax.specs.Codes.{PlainCode}
use Rattle.jd_syntax.specs.CodeViews.{code_view}
use Rattle.jd_syntax.specs.declared.code.Code.{Code}
use Rattle.jd_term.specs.Formulas.{PlainFormula, Pairs, Not, And, Or, Implies, Iff, Equal, Less, LessOrEqual, Forall, Exists, InInt, WellFormed, Invariant, IsInstance, IsExactInstance, formula_view, update_view}
use Rattle.jd_term.specs.TermViews.{loc_view, term_view}
use Rattle.jd_term.specs.Terms.{PlainTerm, Negation, Wrap, Length, ElementField, PlainLoc, ObjectFields, ArrayElements, Number, Boolean, NullTerm, ProgramVariable, Constant, Bound, NamedField, CreatedField}
use Rattle.jd_term.specs.declared.formula.Formula.{Formula}
use Rattle.jd_term.specs.declared.formula.Update.{Update}
use Rattle.jd_term.specs.declared.term.Loc.{Loc}
use Rattle.jd_term.specs.declared.term.Term.{Term}

-- what was made, if memory sufficed, is this tree
abbrev pub GivesTerm : Result Term NoMemory → PlainTerm → Type 0
GivesTerm r x = IfOk r (λ t. term_view t ≡ x)

abbrev pub GivesLoc : Result Loc NoMemory → PlainLoc → Type 0
GivesLoc r x = IfOk r (λ l. loc_view l ≡ x)

abbrev pub GivesUpdate : Result Update NoMemory → Pairs → Type 0
GivesUpdate r x = IfOk r (λ u. update_view u ≡ x)

abbrev pub GivesCode : Result Code NoMemory → PlainCode → Type 0
GivesCode r x = IfOk r (λ c. code_view c ≡ x)

abbrev pub GivesFormula : Result Formula NoMemory → PlainFormula → Type 0
GivesFormula r x = IfOk r (λ f. formula_view f ≡ x)

-- the same of a tree in a box
abbrev pub GivesBoxedTerm : Result (Box Term) NoMemory → PlainTerm → Type 0
GivesBoxedTerm r x = IfOk r (λ b. term_view b.value ≡ x)

abbrev pub GivesBoxedLoc : Result (Box Loc) NoMemory → PlainLoc → Type 0
GivesBoxedLoc r x = IfOk r (λ b. loc_view b.value ≡ x)

abbrev pub GivesBoxedFormula : Result (Box Formula) NoMemory → PlainFormula → Type 0
GivesBoxedFormula r x = IfOk r (λ b. formula_view b.value ≡ x)

-- nothing stands inside
abbrev pub IsLeaf : PlainTerm → Type 0
IsLeaf (Number n) = Unit {0}
IsLeaf (Boolean b) = Unit {0}
IsLeaf NullTerm = Unit {0}
IsLeaf (ProgramVariable x) = Unit {0}
IsLeaf (Constant c) = Unit {0}
IsLeaf (Bound i s) = Unit {0}
IsLeaf (NamedField f) = Unit {0}
IsLeaf CreatedField = Unit {0}
IsLeaf t = ⊥

-- the first tree's form with these parts
abbrev pub with_one : PlainTerm → PlainTerm → PlainTerm
with_one (Negation t) a = Negation a
with_one (Wrap t) a = Wrap a
with_one (Length t) a = Length a
with_one t a = ElementField a

abbrev pub with_object : PlainLoc → PlainTerm → PlainLoc
with_object (ObjectFields t) a = ObjectFields a
with_object l a = ArrayElements a

abbrev pub with_formula : PlainFormula → PlainFormula → PlainFormula
with_formula (Forall s f) a = Forall s a
with_formula (Exists s f) a = Exists s a
with_formula f a = Not a

abbrev pub with_formulas : PlainFormula → PlainFormula → PlainFormula → PlainFormula
with_formulas (And f g) a b = And a b
with_formulas (Or f g) a b = Or a b
with_formulas (Implies f g) a b = Implies a b
with_formulas f a b = Iff a b

abbrev pub with_terms : PlainFormula → PlainTerm → PlainTerm → PlainFormula
with_terms (Equal t u) a b = Equal a b
with_terms (Less t u) a b = Less a b
with_terms (LessOrEqual t u) a b = LessOrEqual a b
with_terms f a b = Invariant a b

abbrev pub with_term : PlainFormula → PlainTerm → PlainFormula
with_term (InInt t) a = InInt a
with_term (IsInstance w t) a = IsInstance w a
with_term (IsExactInstance w t) a = IsExactInstance w a
with_term f a = WellFormed a
