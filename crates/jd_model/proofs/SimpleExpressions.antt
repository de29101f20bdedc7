-- Simple expressions have their terms' values, and change nothing.
use Rattle.std.proofs.Common.{List, refl, subst, ◌≡◌, ℕ}
use Rattle.jd_base.specs.declared.sort.Sort.{Sort}
use Rattle.jd_base.specs.declared.sort.Sort.TheVariants.{Bool as BoolSort, Int as IntSort, Ref as RefSort}
use Rattle.jd_heap.specs.Values.{IsOf, Value}
use Rattle.jd_model.proofs.States.{read_of}
use Rattle.jd_model.specs.Outcomes.{Normal}
use Rattle.jd_model.specs.Programs.{Program}
use Rattle.jd_model.specs.Runs.{Runner, eval}
use Rattle.jd_model.specs.SimpleExpressions.{IsSimple, SimpleOf, term_of}
use Rattle.jd_model.specs.States.{State, read}
use Rattle.jd_model.specs.TermValues.{value}
use Rattle.jd_syntax.specs.Codes.{BoolLiteral, Expr, IntLiteral, NullLiteral, Variable}

pub simple_of : (k : Sort) (e : Expr) → SimpleOf k e → IsSimple e
simple_of IntSort (IntLiteral z) o = tt
simple_of BoolSort (BoolLiteral z) o = tt
simple_of RefSort NullLiteral o = tt
simple_of k (Variable x) o = tt
simple_of k e o = absurd o

module _ (p : Program) (i : State) (b : List Value) where
  pub simple_eval : (run : Runner p) (n : ℕ) (e : Expr) → IsSimple e → (s : State) → eval p run n e s ≡ Normal (value i s b (term_of e)) s
  simple_eval run n (IntLiteral z) o s = refl
  simple_eval run n (BoolLiteral z) o s = refl
  simple_eval run n NullLiteral o s = refl
  simple_eval run n (Variable x) o s = refl
  simple_eval run n e o s = absurd o

pub value_of_simple : (i : State) (b : List Value) (k : Sort) (e : Expr) → SimpleOf k e → (s : State) → IsOf k (value i s b (term_of e))
value_of_simple i b IntSort (IntLiteral z) o s = tt
value_of_simple i b BoolSort (BoolLiteral z) o s = tt
value_of_simple i b RefSort NullLiteral o s = tt
value_of_simple i b k (Variable x) o s = subst (λ k. IsOf k (read s x)) o (read_of s x)
value_of_simple i b k e o s = absurd o
