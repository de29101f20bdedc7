-- Formulas of expressions have no update and no modality, and no free index.
use Rattle.std.proofs.Common.{ℕ, suc, true, false, List, [], ◌∷◌}
use Rattle.jd_term.specs.Terms.{PlainTerm}
use Rattle.jd_term.specs.Formulas.{PlainFormula}
use Rattle.jd_term.specs.Renamings.{FirstOrder}
use Rattle.jd_model.specs.Programs.{Program}
use Rattle.jd_model.specs.Closed.{Below, BelowLoc, BelowIn}
use Rattle.jd_jml_meaning.specs.Resolved.{QuantifiedType, OverInt, OverBigint, OverBoolean, OverReference, JmlExpr, IntegerLiteral, BooleanLiteral, NullLiteral, This, Result, Thrown, Argument, Local, BoundVariable, FieldAccess, ElementAccess, LengthOf, Arithmetic, Minus, Plus, Sum, Cast, Old, Equal, Unequal, Less, LessOrEqual, Greater, GreaterOrEqual, Not, And, Or, Implies, Equivalent, Inequivalent, Conditional, InstanceOf, Fresh, InvariantFor, Forall, Exists, ForallIn, ExistsIn, JmlLocation, Nothing, Everything, FieldLocation, AllFields, Element, Elements, AllElements}
use Rattle.jd_jml_meaning.specs.Meaning.{When, Before}
use Rattle.jd_jml_meaning.specs.Translation.{Spelling, if_given, and_given, negated, term, formula, location, union_of, locations}
use Rattle.jd_jml_meaning.specs.Scopes.{Scoped, LocationScoped, LocationsScoped, ClosedSpelling}

module _ (p : Program) (sp : Spelling) where
  plain_if : (k : QuantifiedType) (h : PlainTerm) (a : PlainFormula) → FirstOrder a → FirstOrder (if_given k h a)
  plain_if OverInt h a f = (tt, f)
  plain_if OverBigint h a f = f
  plain_if OverBoolean h a f = f
  plain_if (OverReference k) h a f = ((tt, tt), f)

  plain_and : (k : QuantifiedType) (h : PlainTerm) (a : PlainFormula) → FirstOrder a → FirstOrder (and_given k h a)
  plain_and OverInt h a f = (tt, f)
  plain_and OverBigint h a f = f
  plain_and OverBoolean h a f = f
  plain_and (OverReference k) h a f = ((tt, tt), f)

  pub first_order : (t : When) (e : JmlExpr) → FirstOrder (formula p sp t e)
  first_order t (BooleanLiteral true) = tt
  first_order t (BooleanLiteral false) = tt
  first_order t (Cast e) = first_order t e
  first_order t (Old e) = first_order Before e
  first_order t (Equal x y) = tt
  first_order t (Unequal x y) = tt
  first_order t (Less x y) = tt
  first_order t (LessOrEqual x y) = tt
  first_order t (Greater x y) = tt
  first_order t (GreaterOrEqual x y) = tt
  first_order t (Not e) = first_order t e
  first_order t (And x y) = (first_order t x, first_order t y)
  first_order t (Or x y) = (first_order t x, first_order t y)
  first_order t (Implies x y) = (first_order t x, first_order t y)
  first_order t (Equivalent x y) = (first_order t x, first_order t y)
  first_order t (Inequivalent x y) = (first_order t x, first_order t y)
  first_order t (Conditional c x y) = ((first_order t c, first_order t x), (first_order t c, first_order t y))
  first_order t (InstanceOf k e) = tt
  first_order t (Fresh e) = (tt, tt)
  first_order t (InvariantFor e) = tt
  first_order t (Forall k e) = plain_if k (sp.heap t) _ (first_order t e)
  first_order t (ForallIn k r e) = plain_if k (sp.heap t) _ (first_order t r, first_order t e)
  first_order t (Exists k e) = plain_and k (sp.heap t) _ (first_order t e)
  first_order t (ExistsIn k r e) = plain_and k (sp.heap t) _ (first_order t r, first_order t e)
  first_order t e = tt

  module _ (ok : ClosedSpelling sp) where
    negated_below : (c : ℕ) (e : JmlExpr) (u : PlainTerm) → Below c u → Below c (negated e u)
    negated_below c (IntegerLiteral z) u o = tt
    negated_below c e u o = o

    pub term_below : (t : When) (c : ℕ) (e : JmlExpr) → Scoped c e → Below c (term p sp t e)
    term_below t c (IntegerLiteral z) o = tt
    term_below t c (BooleanLiteral x) o = tt
    term_below t c NullLiteral o = tt
    term_below t c This o = ok.this c
    term_below t c Result o = ok.result c
    term_below t c Thrown o = ok.thrown c
    term_below t c (Argument k) o = ok.argument c t k
    term_below t c (Local x) o = tt
    term_below t c (BoundVariable k s) o = o
    term_below t c (FieldAccess e f) o = (ok.heap c t, term_below t c e o, tt)
    term_below t c (ElementAccess a e) o = (ok.heap c t, term_below t c a o.0, term_below t c e o.1)
    term_below t c (LengthOf a) o = term_below t c a o
    term_below t c (Arithmetic op x y) o = (term_below t c x o.0, term_below t c y o.1)
    term_below t c (Minus e) o = negated_below c e _ (term_below t c e o)
    term_below t c (Plus e) o = term_below t c e o
    term_below t c (Sum x y e) o = (term_below t c x o.0, term_below t c y o.1, term_below t (suc c) e o.2)
    term_below t c (Cast e) o = term_below t c e o
    term_below t c (Old e) o = term_below Before c e o
    term_below t c e o = tt

    if_below : (k : QuantifiedType) (t : When) (c : ℕ) (a : PlainFormula) → BelowIn (suc c) a → BelowIn (suc c) (if_given k (sp.heap t) a)
    if_below OverInt t c a o = (tt, o)
    if_below OverBigint t c a o = o
    if_below OverBoolean t c a o = o
    if_below (OverReference k) t c a o = ((tt, ((ok.heap (suc c) t, tt, tt), tt)), o)

    and_below : (k : QuantifiedType) (t : When) (c : ℕ) (a : PlainFormula) → BelowIn (suc c) a → BelowIn (suc c) (and_given k (sp.heap t) a)
    and_below OverInt t c a o = (tt, o)
    and_below OverBigint t c a o = o
    and_below OverBoolean t c a o = o
    and_below (OverReference k) t c a o = ((tt, ((ok.heap (suc c) t, tt, tt), tt)), o)

    pub formula_below : (t : When) (c : ℕ) (e : JmlExpr) → Scoped c e → BelowIn c (formula p sp t e)
    formula_below t c (BooleanLiteral true) o = tt
    formula_below t c (BooleanLiteral false) o = tt
    formula_below t c (Cast e) o = formula_below t c e o
    formula_below t c (Old e) o = formula_below Before c e o
    formula_below t c (Equal x y) o = (term_below t c x o.0, term_below t c y o.1)
    formula_below t c (Unequal x y) o = (term_below t c x o.0, term_below t c y o.1)
    formula_below t c (Less x y) o = (term_below t c x o.0, term_below t c y o.1)
    formula_below t c (LessOrEqual x y) o = (term_below t c x o.0, term_below t c y o.1)
    formula_below t c (Greater x y) o = (term_below t c y o.1, term_below t c x o.0)
    formula_below t c (GreaterOrEqual x y) o = (term_below t c y o.1, term_below t c x o.0)
    formula_below t c (Not e) o = formula_below t c e o
    formula_below t c (And x y) o = (formula_below t c x o.0, formula_below t c y o.1)
    formula_below t c (Or x y) o = (formula_below t c x o.0, formula_below t c y o.1)
    formula_below t c (Implies x y) o = (formula_below t c x o.0, formula_below t c y o.1)
    formula_below t c (Equivalent x y) o = (formula_below t c x o.0, formula_below t c y o.1)
    formula_below t c (Inequivalent x y) o = (formula_below t c x o.0, formula_below t c y o.1)
    formula_below t c (Conditional e x y) o = ((formula_below t c e o.0, formula_below t c x o.1), (formula_below t c e o.0, formula_below t c y o.2))
    formula_below t c (InstanceOf k e) o = term_below t c e o
    formula_below t c (Fresh e) o = ((term_below t c e o, tt), ((ok.heap c Before, term_below t c e o, tt), tt))
    formula_below t c (InvariantFor e) o = (ok.heap c t, term_below t c e o)
    formula_below t c (Forall k e) o = if_below k t c _ (formula_below t (suc c) e o)
    formula_below t c (ForallIn k r e) o = if_below k t c _ (formula_below t (suc c) r o.0, formula_below t (suc c) e o.1)
    formula_below t c (Exists k e) o = and_below k t c _ (formula_below t (suc c) e o)
    formula_below t c (ExistsIn k r e) o = and_below k t c _ (formula_below t (suc c) r o.0, formula_below t (suc c) e o.1)
    formula_below t c e o = (term_below t c e o, tt)

    location_below : (t : When) (c : ℕ) (l : JmlLocation) → LocationScoped c l → BelowLoc c (location p sp t l)
    location_below t c Nothing o = tt
    location_below t c Everything o = tt
    location_below t c (FieldLocation e f) o = (term_below t c e o, tt)
    location_below t c (AllFields e) o = term_below t c e o
    location_below t c (Element a e) o = (term_below t c a o.0, term_below t c e o.1)
    location_below t c (Elements a x y) o = (term_below t c a o.0, term_below t c x o.1, term_below t c y o.2)
    location_below t c (AllElements a) o = term_below t c a o

    union_below : (t : When) (c : ℕ) (l : JmlLocation) (ls : List JmlLocation) → LocationScoped c l → LocationsScoped c ls → BelowLoc c (union_of p sp t l ls)
    union_below t c l [] o os = location_below t c l o
    union_below t c l (m ∷ ls) o os = (location_below t c l o, union_below t c m ls os.0 os.1)

    pub locations_below : (t : When) (c : ℕ) (ls : List JmlLocation) → LocationsScoped c ls → BelowLoc c (locations p sp t ls)
    locations_below t c [] o = tt
    locations_below t c (l ∷ ls) o = union_below t c l ls o.0 o.1
