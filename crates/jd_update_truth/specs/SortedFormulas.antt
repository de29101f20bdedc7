-- Updates and assignments whose right sides have the sorts of their variables. Other updates are not what they replace: a
-- variable of one sort that is sent to a term of another takes that sort's value in the updated state, and the term itself in
-- the replaced formula.
use Rattle.std.specs.Prelude.{◌≡◌, List, [], ◌∷◌, Option, Some, None}
use Rattle.jd_base.specs.declared.sort.Sort.{Sort}
use Rattle.jd_base.specs.declared.sort.Sort.TheVariants.{Int as IntSort, Bool as BoolSort, Ref as RefSort}
use Rattle.jd_syntax.specs.Names.{Name}
use Rattle.jd_syntax.specs.Codes.{Expr, IntLiteral, BoolLiteral, NullLiteral, Variable, Stmt, Set, If, While, Block, Catch, Finally, Return, Frame, PlainCode, Done, Then}
use Rattle.jd_term.specs.Terms.{sort_of_term}
use Rattle.jd_term.specs.Formulas.{Pairs, PlainFormula, Not, And, Or, Implies, Iff, Forall, Exists, Updated, Modal}
use Rattle.jd_model.specs.Sequents.{PlainSequent}

abbrev pub AreSorted : Pairs → Type 0
AreSorted [] = Unit {0}
AreSorted (p ∷ u) = (sort_of_term p.1 ≡ p.0.sort) × AreSorted u

-- a simple expression has this sort; of others nothing is asked
abbrev pub HasSort : Expr → Sort → Type 0
HasSort (IntLiteral z) k = IntSort ≡ k
HasSort (BoolLiteral b) k = BoolSort ≡ k
HasSort NullLiteral k = RefSort ≡ k
HasSort (Variable x) k = x.sort ≡ k
HasSort e k = Unit {0}

-- the expression has the sort of the result, where there is one
abbrev pub FitsResult : Option Name → Expr → Type 0
FitsResult None a = Unit {0}
FitsResult (Some x) a = HasSort a x.sort

-- what is assigned has its variable's sort, and what is returned that of its frame's result, where it is a simple expression.
-- The first argument is the variable for the result of the innermost frame, None where there is none. Nothing is asked of the
-- code in expressions: no rule touches it where it stands
abbrev mutual
  pub SortedStmt : Option Name → Stmt → Type 0
  SortedStmt r (Set x a) = HasSort a x.sort
  SortedStmt r (If a c d) = SortedCode r c × SortedCode r d
  SortedStmt r (While k a c) = SortedCode r c
  SortedStmt r (Block l c) = SortedCode r c
  SortedStmt r (Catch c x d) = SortedCode r c × SortedCode r d
  SortedStmt r (Finally c d) = SortedCode r c × SortedCode r d
  SortedStmt r (Return a) = FitsResult r a
  SortedStmt r (Frame q c) = SortedCode q c
  SortedStmt r s = Unit {0}

  pub SortedCode : Option Name → PlainCode → Type 0
  SortedCode r Done = Unit {0}
  SortedCode r (Then s c) = SortedStmt r s × SortedCode r c

-- each update in the formula, and all code, is so
abbrev pub SortedFormula : PlainFormula → Type 0
SortedFormula (Not a) = SortedFormula a
SortedFormula (And a b) = SortedFormula a × SortedFormula b
SortedFormula (Or a b) = SortedFormula a × SortedFormula b
SortedFormula (Implies a b) = SortedFormula a × SortedFormula b
SortedFormula (Iff a b) = SortedFormula a × SortedFormula b
SortedFormula (Forall s a) = SortedFormula a
SortedFormula (Exists s a) = SortedFormula a
SortedFormula (Updated u a) = AreSorted u × SortedFormula a
SortedFormula (Modal m c a) = SortedCode None c × SortedFormula a
SortedFormula a = Unit {0}

abbrev pub AllSorted : List PlainFormula → Type 0
AllSorted [] = Unit {0}
AllSorted (a ∷ l) = SortedFormula a × AllSorted l

pub record SortedSequent (s : PlainSequent) : Type 0 where
  pub left : AllSorted s.left
  pub right : AllSorted s.right
