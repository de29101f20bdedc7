-- What two gatherings give of one tree is related, where each step keeps it so.
use Rattle.std.proofs.Common.{[], ◌∷◌}
use Rattle.jd_syntax.specs.Codes.{PlainCode}
use Rattle.jd_syntax.specs.Names.{Name}
use Rattle.jd_term.specs.Formulas.{PlainFormula, Pairs, TrueFormula, FalseFormula, Not, And, Or, Implies, Iff, Equal, Less, LessOrEqual, Forall, Exists, Updated, Modal, InLocations, InInt, WellFormed, Invariant, IsInstance, IsExactInstance}
use Rattle.jd_term.specs.Terms.{PlainTerm, Number, Boolean, NullTerm, ProgramVariable, Constant, Bound, Arithmetic, Negation, Wrap, Length, Select, Sum, Store, Create, Anon, NamedField, CreatedField, ElementField, PlainLoc, NoLocations, AllLocations, Single, ObjectFields, ArrayElements, ElementRange, Union}
use Rattle.jd_term.specs.Folds.{Gathering, fold_formula, fold_loc, fold_pairs, fold_term}

module _ {O P : Type 0} (R : O → P → Type 0) (g : Gathering O) (h : Gathering P)
    (none : R g.none h.none) (join : (a b : O) (c d : P) → R a c → R b d → R (g.join a b) (h.join c d))
    (term : (t : PlainTerm) (a : O) (c : P) → R a c → R (g.term t a) (h.term t c))
    (loc : (l : PlainLoc) (a : O) (c : P) → R a c → R (g.loc l a) (h.loc l c))
    (formula : (f : PlainFormula) (a : O) (c : P) → R a c → R (g.formula f a) (h.formula f c))
    (pair : (x : Name) (a : O) (c : P) → R a c → R (g.pair x a) (h.pair x c))
    (code : (c : PlainCode) → R (g.code c) (h.code c)) where
  mutual
    pub related_term : (t : PlainTerm) → R (fold_term g t) (fold_term h t)
    related_term (Number n) = term (Number n) _ _ none
    related_term (Boolean b) = term (Boolean b) _ _ none
    related_term NullTerm = term NullTerm _ _ none
    related_term (ProgramVariable x) = term (ProgramVariable x) _ _ none
    related_term (Constant c) = term (Constant c) _ _ none
    related_term (Bound i s) = term (Bound i s) _ _ none
    related_term (Arithmetic op a b) = term (Arithmetic op a b) _ _ (join _ _ _ _ (related_term a) (related_term b))
    related_term (Negation a) = term (Negation a) _ _ (related_term a)
    related_term (Wrap a) = term (Wrap a) _ _ (related_term a)
    related_term (Length a) = term (Length a) _ _ (related_term a)
    related_term (Select s a b d) = term (Select s a b d) _ _ (join _ _ _ _ (join _ _ _ _ (related_term a) (related_term b)) (related_term d))
    related_term (Sum a b d) = term (Sum a b d) _ _ (join _ _ _ _ (join _ _ _ _ (related_term a) (related_term b)) (related_term d))
    related_term (Store a b d e) = term (Store a b d e) _ _ (join _ _ _ _ (join _ _ _ _ (join _ _ _ _ (related_term a) (related_term b)) (related_term d)) (related_term e))
    related_term (Create a b) = term (Create a b) _ _ (join _ _ _ _ (related_term a) (related_term b))
    related_term (Anon a b d) = term (Anon a b d) _ _ (join _ _ _ _ (join _ _ _ _ (related_term a) (related_loc b)) (related_term d))
    related_term (NamedField f) = term (NamedField f) _ _ none
    related_term CreatedField = term CreatedField _ _ none
    related_term (ElementField a) = term (ElementField a) _ _ (related_term a)

    pub related_loc : (l : PlainLoc) → R (fold_loc g l) (fold_loc h l)
    related_loc NoLocations = loc NoLocations _ _ none
    related_loc AllLocations = loc AllLocations _ _ none
    related_loc (Single a b) = loc (Single a b) _ _ (join _ _ _ _ (related_term a) (related_term b))
    related_loc (ObjectFields a) = loc (ObjectFields a) _ _ (related_term a)
    related_loc (ArrayElements a) = loc (ArrayElements a) _ _ (related_term a)
    related_loc (ElementRange a b d) = loc (ElementRange a b d) _ _ (join _ _ _ _ (join _ _ _ _ (related_term a) (related_term b)) (related_term d))
    related_loc (Union a b) = loc (Union a b) _ _ (join _ _ _ _ (related_loc a) (related_loc b))

  pub related_pairs : (ps : Pairs) → R (fold_pairs g ps) (fold_pairs h ps)
  related_pairs [] = none
  related_pairs (p ∷ ps) = join _ _ _ _ (pair p.0 _ _ (related_term p.1)) (related_pairs ps)

  pub related_formula : (f : PlainFormula) → R (fold_formula g f) (fold_formula h f)
  related_formula TrueFormula = formula TrueFormula _ _ none
  related_formula FalseFormula = formula FalseFormula _ _ none
  related_formula (Not a) = formula (Not a) _ _ (related_formula a)
  related_formula (And a b) = formula (And a b) _ _ (join _ _ _ _ (related_formula a) (related_formula b))
  related_formula (Or a b) = formula (Or a b) _ _ (join _ _ _ _ (related_formula a) (related_formula b))
  related_formula (Implies a b) = formula (Implies a b) _ _ (join _ _ _ _ (related_formula a) (related_formula b))
  related_formula (Iff a b) = formula (Iff a b) _ _ (join _ _ _ _ (related_formula a) (related_formula b))
  related_formula (Equal a b) = formula (Equal a b) _ _ (join _ _ _ _ (related_term a) (related_term b))
  related_formula (Less a b) = formula (Less a b) _ _ (join _ _ _ _ (related_term a) (related_term b))
  related_formula (LessOrEqual a b) = formula (LessOrEqual a b) _ _ (join _ _ _ _ (related_term a) (related_term b))
  related_formula (Forall s a) = formula (Forall s a) _ _ (related_formula a)
  related_formula (Exists s a) = formula (Exists s a) _ _ (related_formula a)
  related_formula (Updated u a) = formula (Updated u a) _ _ (join _ _ _ _ (related_pairs u) (related_formula a))
  related_formula (Modal m c a) = formula (Modal m c a) _ _ (join _ _ _ _ (code c) (related_formula a))
  related_formula (InLocations a b d) = formula (InLocations a b d) _ _ (join _ _ _ _ (join _ _ _ _ (related_term a) (related_term b)) (related_loc d))
  related_formula (InInt a) = formula (InInt a) _ _ (related_term a)
  related_formula (WellFormed a) = formula (WellFormed a) _ _ (related_term a)
  related_formula (Invariant a b) = formula (Invariant a b) _ _ (join _ _ _ _ (related_term a) (related_term b))
  related_formula (IsInstance w a) = formula (IsInstance w a) _ _ (related_term a)
  related_formula (IsExactInstance w a) = formula (IsExactInstance w a) _ _ (related_term a)
