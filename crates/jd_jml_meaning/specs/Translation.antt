-- JML as terms and formulas, over terms that stand for what an expression speaks of (The KeY Book, 8.2).
use Rattle.std.specs.Prelude.{ℕ, true, false, neg_ℤ, List, [], ◌∷◌}
use Rattle.jd_base.specs.declared.sort.Sort.TheVariants.{Int as IntSort, Ref as RefSort}
use Rattle.jd_term.specs.Terms as terms
use Rattle.jd_term.specs.Terms.{PlainTerm, PlainLoc}
use Rattle.jd_term.specs.Formulas as formulas
use Rattle.jd_term.specs.Formulas.{PlainFormula}
use Rattle.jd_model.specs.Conjunctions.{created_at}
use Rattle.jd_model.specs.Programs.{Program, field_sort}
use Rattle.jd_jml_meaning.specs.Resolved.{QuantifiedType, OverInt, OverBigint, OverBoolean, OverReference, sort_of_type, JmlExpr, IntegerLiteral, BooleanLiteral, NullLiteral, This, Result, Thrown, Argument, Local, BoundVariable, FieldAccess, ElementAccess, LengthOf, Arithmetic, Minus, Plus, Sum, Cast, Old, Equal, Unequal, Less, LessOrEqual, Greater, GreaterOrEqual, Not, And, Or, Implies, Equivalent, Inequivalent, Conditional, InstanceOf, Fresh, InvariantFor, Forall, Exists, ForallIn, ExistsIn, JmlLocation, Nothing, Everything, FieldLocation, AllFields, Element, Elements, AllElements}
use Rattle.jd_jml_meaning.specs.Meaning.{When, Before}

-- the closed terms that stand for what an expression speaks of
pub record Spelling : Type 0 where
  pub heap : When → PlainTerm
  pub argument : When → ℕ → PlainTerm
  pub this : PlainTerm
  pub result : PlainTerm
  pub thrown : PlainTerm

-- what the bound variable is given to be
abbrev pub if_given : QuantifiedType → PlainTerm → PlainFormula → PlainFormula
if_given OverInt h a = formulas.Implies (formulas.InInt (terms.Bound 0 IntSort)) a
if_given OverBigint h a = a
if_given OverBoolean h a = a
if_given (OverReference k) h a = formulas.Implies (formulas.And (formulas.IsInstance k (terms.Bound 0 RefSort)) (created_at h (terms.Bound 0 RefSort))) a

abbrev pub and_given : QuantifiedType → PlainTerm → PlainFormula → PlainFormula
and_given OverInt h a = formulas.And (formulas.InInt (terms.Bound 0 IntSort)) a
and_given OverBigint h a = a
and_given OverBoolean h a = a
and_given (OverReference k) h a = formulas.And (formulas.And (formulas.IsInstance k (terms.Bound 0 RefSort)) (created_at h (terms.Bound 0 RefSort))) a

-- a minus directly before a literal is the literal's
abbrev pub negated : JmlExpr → PlainTerm → PlainTerm
negated (IntegerLiteral z) u = terms.Number (neg_ℤ z)
negated e u = terms.Negation u

module _ (p : Program) (sp : Spelling) where
  abbrev pub term : When → JmlExpr → PlainTerm
  term t (IntegerLiteral z) = terms.Number z
  term t (BooleanLiteral x) = terms.Boolean x
  term t NullLiteral = terms.NullTerm
  term t This = sp.this
  term t Result = sp.result
  term t Thrown = sp.thrown
  term t (Argument k) = sp.argument t k
  term t (Local x) = terms.ProgramVariable x
  term t (BoundVariable k s) = terms.Bound k s
  term t (FieldAccess e f) = terms.Select (field_sort p f) (sp.heap t) (term t e) (terms.NamedField f)
  term t (ElementAccess a e) = terms.Select IntSort (sp.heap t) (term t a) (terms.ElementField (term t e))
  term t (LengthOf a) = terms.Length (term t a)
  term t (Arithmetic op x y) = terms.Arithmetic op (term t x) (term t y)
  term t (Minus e) = negated e (term t e)
  term t (Plus e) = term t e
  term t (Sum x y e) = terms.Sum (term t x) (term t y) (term t e)
  term t (Cast e) = term t e
  term t (Old e) = term Before e
  term t e = terms.Boolean false

  abbrev pub formula : When → JmlExpr → PlainFormula
  formula t (BooleanLiteral true) = formulas.TrueFormula
  formula t (BooleanLiteral false) = formulas.FalseFormula
  formula t (Cast e) = formula t e
  formula t (Old e) = formula Before e
  formula t (Equal x y) = formulas.Equal (term t x) (term t y)
  formula t (Unequal x y) = formulas.Not (formulas.Equal (term t x) (term t y))
  formula t (Less x y) = formulas.Less (term t x) (term t y)
  formula t (LessOrEqual x y) = formulas.LessOrEqual (term t x) (term t y)
  formula t (Greater x y) = formulas.Less (term t y) (term t x)
  formula t (GreaterOrEqual x y) = formulas.LessOrEqual (term t y) (term t x)
  formula t (Not e) = formulas.Not (formula t e)
  formula t (And x y) = formulas.And (formula t x) (formula t y)
  formula t (Or x y) = formulas.Or (formula t x) (formula t y)
  formula t (Implies x y) = formulas.Implies (formula t x) (formula t y)
  formula t (Equivalent x y) = formulas.Iff (formula t x) (formula t y)
  formula t (Inequivalent x y) = formulas.Not (formulas.Iff (formula t x) (formula t y))
  formula t (Conditional c x y) = formulas.And (formulas.Implies (formula t c) (formula t x)) (formulas.Implies (formulas.Not (formula t c)) (formula t y))
  formula t (InstanceOf k e) = formulas.IsInstance k (term t e)
  formula t (Fresh e) = formulas.And (formulas.Not (formulas.Equal (term t e) terms.NullTerm)) (formulas.Not (created_at (sp.heap Before) (term t e)))
  formula t (InvariantFor e) = formulas.Invariant (sp.heap t) (term t e)
  formula t (Forall k e) = formulas.Forall (sort_of_type k) (if_given k (sp.heap t) (formula t e))
  formula t (ForallIn k r e) = formulas.Forall (sort_of_type k) (if_given k (sp.heap t) (formulas.Implies (formula t r) (formula t e)))
  formula t (Exists k e) = formulas.Exists (sort_of_type k) (and_given k (sp.heap t) (formula t e))
  formula t (ExistsIn k r e) = formulas.Exists (sort_of_type k) (and_given k (sp.heap t) (formulas.And (formula t r) (formula t e)))
  formula t e = formulas.Equal (term t e) (terms.Boolean true)

  abbrev pub location : When → JmlLocation → PlainLoc
  location t Nothing = terms.NoLocations
  location t Everything = terms.AllLocations
  location t (FieldLocation e f) = terms.Single (term t e) (terms.NamedField f)
  location t (AllFields e) = terms.ObjectFields (term t e)
  location t (Element a e) = terms.Single (term t a) (terms.ElementField (term t e))
  location t (Elements a x y) = terms.ElementRange (term t a) (term t x) (term t y)
  location t (AllElements a) = terms.ArrayElements (term t a)

  -- right-nested
  abbrev pub union_of : When → JmlLocation → List JmlLocation → PlainLoc
  union_of t l [] = location t l
  union_of t l (m ∷ ls) = terms.Union (location t l) (union_of t m ls)

  abbrev pub locations : When → List JmlLocation → PlainLoc
  locations t [] = terms.NoLocations
  locations t (l ∷ ls) = union_of t l ls
