-- What the parts of a tree give together.
use Rattle.std.specs.Prelude.{[], ◌∷◌}
use Rattle.jd_syntax.specs.Codes.{PlainCode}
use Rattle.jd_syntax.specs.Names.{Name}
use Rattle.jd_term.specs.Formulas.{PlainFormula, Pairs, TrueFormula, FalseFormula, Not, And, Or, Implies, Iff, Equal, Less, LessOrEqual, Forall, Exists, Updated, Modal, InLocations, InInt, WellFormed, Invariant, IsInstance, IsExactInstance}
use Rattle.jd_term.specs.Terms.{PlainTerm, Number, Boolean, NullTerm, ProgramVariable, Constant, Bound, Arithmetic, Negation, Wrap, Length, Select, Sum, Store, Create, Anon, NamedField, CreatedField, ElementField, PlainLoc, NoLocations, AllLocations, Single, ObjectFields, ArrayElements, ElementRange, Union}

-- what no part gives, and two parts together; what a tree gives whose parts gave this, and a pair of an update whose right side did; what
-- code gives
pub record Gathering (O : Type 0) : Type 0 where
  pub none : O
  pub join : O → O → O
  pub term : PlainTerm → O → O
  pub loc : PlainLoc → O → O
  pub formula : PlainFormula → O → O
  pub pair : Name → O → O
  pub code : PlainCode → O

module _ {O : Type 0} (g : Gathering O) where
  abbrev mutual
    pub fold_term : PlainTerm → O
    fold_term (Number n) = g.term (Number n) g.none
    fold_term (Boolean b) = g.term (Boolean b) g.none
    fold_term NullTerm = g.term NullTerm g.none
    fold_term (ProgramVariable x) = g.term (ProgramVariable x) g.none
    fold_term (Constant c) = g.term (Constant c) g.none
    fold_term (Bound i s) = g.term (Bound i s) g.none
    fold_term (Arithmetic op a b) = g.term (Arithmetic op a b) (g.join (fold_term a) (fold_term b))
    fold_term (Negation a) = g.term (Negation a) (fold_term a)
    fold_term (Wrap a) = g.term (Wrap a) (fold_term a)
    fold_term (Length a) = g.term (Length a) (fold_term a)
    fold_term (Select s a b d) = g.term (Select s a b d) (g.join (g.join (fold_term a) (fold_term b)) (fold_term d))
    fold_term (Sum a b d) = g.term (Sum a b d) (g.join (g.join (fold_term a) (fold_term b)) (fold_term d))
    fold_term (Store a b d e) = g.term (Store a b d e) (g.join (g.join (g.join (fold_term a) (fold_term b)) (fold_term d)) (fold_term e))
    fold_term (Create a b) = g.term (Create a b) (g.join (fold_term a) (fold_term b))
    fold_term (Anon a b d) = g.term (Anon a b d) (g.join (g.join (fold_term a) (fold_loc b)) (fold_term d))
    fold_term (NamedField f) = g.term (NamedField f) g.none
    fold_term CreatedField = g.term CreatedField g.none
    fold_term (ElementField a) = g.term (ElementField a) (fold_term a)

    pub fold_loc : PlainLoc → O
    fold_loc NoLocations = g.loc NoLocations g.none
    fold_loc AllLocations = g.loc AllLocations g.none
    fold_loc (Single a b) = g.loc (Single a b) (g.join (fold_term a) (fold_term b))
    fold_loc (ObjectFields a) = g.loc (ObjectFields a) (fold_term a)
    fold_loc (ArrayElements a) = g.loc (ArrayElements a) (fold_term a)
    fold_loc (ElementRange a b d) = g.loc (ElementRange a b d) (g.join (g.join (fold_term a) (fold_term b)) (fold_term d))
    fold_loc (Union a b) = g.loc (Union a b) (g.join (fold_loc a) (fold_loc b))

  abbrev pub fold_pairs : Pairs → O
  fold_pairs [] = g.none
  fold_pairs (p ∷ ps) = g.join (g.pair p.0 (fold_term p.1)) (fold_pairs ps)

  abbrev pub fold_formula : PlainFormula → O
  fold_formula TrueFormula = g.formula TrueFormula g.none
  fold_formula FalseFormula = g.formula FalseFormula g.none
  fold_formula (Not a) = g.formula (Not a) (fold_formula a)
  fold_formula (And a b) = g.formula (And a b) (g.join (fold_formula a) (fold_formula b))
  fold_formula (Or a b) = g.formula (Or a b) (g.join (fold_formula a) (fold_formula b))
  fold_formula (Implies a b) = g.formula (Implies a b) (g.join (fold_formula a) (fold_formula b))
  fold_formula (Iff a b) = g.formula (Iff a b) (g.join (fold_formula a) (fold_formula b))
  fold_formula (Equal a b) = g.formula (Equal a b) (g.join (fold_term a) (fold_term b))
  fold_formula (Less a b) = g.formula (Less a b) (g.join (fold_term a) (fold_term b))
  fold_formula (LessOrEqual a b) = g.formula (LessOrEqual a b) (g.join (fold_term a) (fold_term b))
  fold_formula (Forall s a) = g.formula (Forall s a) (fold_formula a)
  fold_formula (Exists s a) = g.formula (Exists s a) (fold_formula a)
  fold_formula (Updated u a) = g.formula (Updated u a) (g.join (fold_pairs u) (fold_formula a))
  fold_formula (Modal m c a) = g.formula (Modal m c a) (g.join (g.code c) (fold_formula a))
  fold_formula (InLocations a b d) = g.formula (InLocations a b d) (g.join (g.join (fold_term a) (fold_term b)) (fold_loc d))
  fold_formula (InInt a) = g.formula (InInt a) (fold_term a)
  fold_formula (WellFormed a) = g.formula (WellFormed a) (fold_term a)
  fold_formula (Invariant a b) = g.formula (Invariant a b) (g.join (fold_term a) (fold_term b))
  fold_formula (IsInstance w a) = g.formula (IsInstance w a) (fold_term a)
  fold_formula (IsExactInstance w a) = g.formula (IsExactInstance w a) (fold_term a)
