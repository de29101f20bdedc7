-- Each row of logic has its meaning.
use Rattle.std.proofs.Common.{◌≡◌, ◌≢◌, ℕ, true, false, List, [], ◌∷◌, inl, refl, sym, ap, ◌∙◌, subst, true≢false}
use Rattle.std.specs.Prelude.{codes}
use Rattle.jd_base.specs.declared.sort.Sort.{Sort}
use Rattle.jd_base.specs.declared.sort.Sort.TheVariants.{Bool as BoolSort, Heap as HeapSort}
use Rattle.jd_syntax.specs.Names.{Name}
use Rattle.jd_term.specs.Terms.{PlainTerm, sort_of_term, Constant}
use Rattle.jd_term.specs.Formulas.{PlainFormula}
use Rattle.jd_term.specs.Substitutions.{SortsAgree, formula_subst}
use Rattle.jd_heap.specs.Values.{Value, BoolValue, as_bool, IsOf}
use Rattle.jd_model.specs.States.{State, write}
use Rattle.jd_model.specs.Occurrences.{NotIn, FormulaIn}
use Rattle.jd_model.specs.Substitutions.{Steady}
use Rattle.jd_model.specs.TermValues.{value}
use Rattle.jd_model.specs.Truth.{Setting, Truth, InvTruth}
use Rattle.jd_model.proofs.AllLaws.{are_substituted_by_sort}
use Rattle.jd_model.proofs.Coincidence.{truth_agree}
use Rattle.jd_model.proofs.Sorts.{value_sort}
use Rattle.jd_model.proofs.Stable.{stable_Truth}
use Rattle.jd_model.proofs.Writes.{new_values, read_own}
use Rattle.jd_taclets.specs.Conditions.{IsBoundSort}
use Rattle.jd_taclets.specs.Taclets.{RowMeans, AllMean}
use Rattle.jd_tac_logic.specs.Logic as row
use Rattle.jd_tac_logic.specs.Logic.{logic_rows}

-- ---- terms and new constants for an index

-- a term of a sort has values of the sort
of_sort : (k : Sort) (t : PlainTerm) → sort_of_term t ≡ k → (i s : State) (b : List Value) → IsOf k (value i s b t)
of_sort k t e i s b = subst (λ l. IsOf l (value i s b t)) e (value_sort i s b t)

no_heap : (k : Sort) → IsBoundSort k → k ≢ HeapSort
no_heap k h e = subst IsBoundSort e h

-- the formula with a term for its index is true exactly where the formula is, with the term's value bound
put_term : (g : Setting) (d : ℕ) (i s : State) (b : List Value) (k : Sort) (t : PlainTerm) (a : PlainFormula) → sort_of_term t ≡ k → IsBoundSort k → SortsAgree 0 k a → Steady 0 t a → (Truth g d i s b (formula_subst 0 0 t a) → Truth g d i s (value i s b t ∷ b) a) × (Truth g d i s (value i s b t ∷ b) a → Truth g d i s b (formula_subst 0 0 t a))
put_term g d i s b k t a e bound agree steady = are_substituted_by_sort.of_formulas g d i s b t a (λ h. no_heap k bound (sym e ∙ h)) (subst (λ l. SortsAgree 0 l a) (sym e) agree) steady

-- a new constant for the index may have any value of the sort
new_constant : (g : Setting) (d : ℕ) (i s : State) (b : List Value) (k : Sort) (c : Name) (a : PlainFormula) → c.sort ≡ k → IsBoundSort k → SortsAgree 0 k a → FormulaIn (λ y. NotIn y []) (λ y. NotIn y (c ∷ [])) a → (v : Value) → IsOf k v → (Truth g d (write i c v) s b (formula_subst 0 0 (Constant c) a) → Truth g d i s (v ∷ b) a) × (Truth g d i s (v ∷ b) a → Truth g d (write i c v) s b (formula_subst 0 0 (Constant c) a))
new_constant g d i s b k c a e bound agree absent v o = (λ x. back (subst (λ w. Truth g d (write i c v) s (w ∷ b) a) read (put.0 x)), λ x. put.1 (subst (λ w. Truth g d (write i c v) s (w ∷ b) a) (sym read) (forth x)))
  where
    put : (Truth g d (write i c v) s b (formula_subst 0 0 (Constant c) a) → Truth g d (write i c v) s (value (write i c v) s b (Constant c) ∷ b) a) × (Truth g d (write i c v) s (value (write i c v) s b (Constant c) ∷ b) a → Truth g d (write i c v) s b (formula_subst 0 0 (Constant c) a))
    put = put_term g d (write i c v) s b k (Constant c) a e bound agree (inl tt)

    read : value (write i c v) s b (Constant c) ≡ v
    read = read_own i c v (subst (λ l. IsOf l v) (sym e) o)

    same : Truth g d i s (v ∷ b) a ≡ Truth g d (write i c v) s (v ∷ b) a
    same = truth_agree g d (InvTruth g d) (λ y. NotIn y []) (λ y. NotIn y (c ∷ [])) i (write i c v) (new_values (c ∷ []) (v ∷ []) i) a absent (v ∷ b) s s (λ x _. refl)

    forth : Truth g d i s (v ∷ b) a → Truth g d (write i c v) s (v ∷ b) a
    forth x = subst (λ T. T) same x

    back : Truth g d (write i c v) s (v ∷ b) a → Truth g d i s (v ∷ b) a
    back x = subst (λ T. T) (sym same) x

-- a truth value is one of two
two_values : (v : Value) → IsOf BoolSort v → ¬ ((¬ (v ≡ BoolValue true)) × (¬ (v ≡ BoolValue false)))
two_values (BoolValue true) o n = n.0 refl
two_values (BoolValue false) o n = n.1 refl
two_values v o n = absurd o

-- ---- whole formulas

close : RowMeans row.close
close g σ c a f m w d i s b r t n = t r.0.0

close_true : RowMeans row.close_true
close_true g σ c a f m w d i s b r t n = t tt

close_false : RowMeans row.close_false
close_false g σ c a f m w d i s b r t n = t

not_left : RowMeans row.not_left
not_left g σ c a f m w d i s b r t n = n.0 [] (tt, (t, tt))

not_right : RowMeans row.not_right
not_right g σ c a f m w d i s b r t n = t (λ x. n.0 [] ((x, tt), tt))

and_left : RowMeans row.and_left
and_left g σ c a f m w d i s b r t n = n.0 [] ((t.0, (t.1, tt)), tt)

and_right : RowMeans row.and_right
and_right g σ c a f m w d i s b r t n = n.0 [] (tt, ((λ x. n.1.0 [] (tt, ((λ y. t (x, y)), tt))), tt))

or_left : RowMeans row.or_left
or_left g σ c a f m w d i s b r t n = t (λ x. n.0 [] ((x, tt), tt), λ y. n.1.0 [] ((y, tt), tt))

or_right : RowMeans row.or_right
or_right g σ c a f m w d i s b r t n = t (λ p. n.0 [] (tt, (p.0, (p.1, tt))))

imp_left : RowMeans row.imp_left
imp_left g σ c a f m w d i s b r t n = n.0 [] (tt, ((λ x. n.1.0 [] ((t x, tt), tt)), tt))

imp_right : RowMeans row.imp_right
imp_right g σ c a f m w d i s b r t n = t (λ x. absurd (n.0 [] ((x, tt), ((λ y. t (λ _. y)), tt))))

iff_left : RowMeans row.iff_left
iff_left g σ c a f m w d i s b r t n = n.1.0 [] (tt, ((λ x. n.0 [] ((x, (t.0 x, tt)), tt)), ((λ y. n.0 [] ((t.1 y, (y, tt)), tt)), tt)))

iff_right : RowMeans row.iff_right
iff_right g σ c a f m w d i s b r t n = t ((λ x. absurd (n.0 [] ((x, tt), ((λ y. t ((λ _. y), (λ _. x))), tt)))), (λ y. absurd (n.1.0 [] ((y, tt), ((λ x. t ((λ _. y), (λ _. x))), tt)))))

all_right : RowMeans row.all_right
all_right g σ c a f m w d i s b r t n = t (λ v o. stable_Truth g d i s (v ∷ b) (σ.formula (codes "A")) (λ no. n.0 (v ∷ []) (tt, ((λ x. no ((new_constant g d i s b (σ.sort (codes "S")) (σ.name (codes "c")) (σ.formula (codes "A")) a.0 c.0.0 c.0.1 w.0 v o).0 x)), tt))))

ex_left : RowMeans row.ex_left
ex_left g σ c a f m w d i s b r t n = t (λ v o x. n.0 (v ∷ []) (((new_constant g d i s b (σ.sort (codes "S")) (σ.name (codes "c")) (σ.formula (codes "A")) a.0 c.0.0 c.0.1 w.0 v o).1 x, tt), tt))

all_left : RowMeans row.all_left
all_left g σ c a f m w d i s b r t n = n.0 [] (((put_term g d i s b (σ.sort (codes "S")) (σ.term (codes "t")) (σ.formula (codes "A")) a.0 c.1.0.0 c.1.0.1 c.0).1 (t (value i s b (σ.term (codes "t"))) (of_sort (σ.sort (codes "S")) (σ.term (codes "t")) a.0 i s b)), tt), tt)

ex_right : RowMeans row.ex_right
ex_right g σ c a f m w d i s b r t n = t (λ all. n.0 [] (tt, ((λ x. all (value i s b (σ.term (codes "t"))) (of_sort (σ.sort (codes "S")) (σ.term (codes "t")) a.0 i s b) ((put_term g d i s b (σ.sort (codes "S")) (σ.term (codes "t")) (σ.formula (codes "A")) a.0 c.1.0.0 c.1.0.1 c.0).0 x)), tt)))

cut : RowMeans row.cut
cut g σ c a f m w d i s b r t n = n.1.0 [] (tt, ((λ x. n.0 [] ((x, tt), tt)), tt))

hide_left : RowMeans row.hide_left
hide_left g σ c a f m w d i s b r t n = n.0 [] (tt, tt)

hide_right : RowMeans row.hide_right
hide_right g σ c a f m w d i s b r t n = n.0 [] (tt, tt)

-- ---- equations, and what is known

eq_refl : RowMeans row.eq_refl
eq_refl g σ c a f m w d i s b r = (λ x. tt, λ x. refl)

eq_sym : RowMeans row.eq_sym
eq_sym g σ c a f m w d i s b r = (λ e. sym e, λ e. sym e)

apply_eq : RowMeans row.apply_eq
apply_eq g σ c a f m w d i s b r = r.0.0

known_left : RowMeans row.known_left
known_left g σ c a f m w d i s b r = (λ x. tt, λ x. r.0.0)

known_right : RowMeans row.known_right
known_right g σ c a f m w d i s b r = (λ x. r.1.0 x, λ x. absurd x)

bool_cases : RowMeans row.bool_cases
bool_cases g σ c a f m w d i s b r t n = two_values (value i s b (σ.term (codes "b"))) (of_sort BoolSort (σ.term (codes "b")) a.0 i s b) ((λ e. n.0 [] ((e, tt), tt)), (λ e. n.1.0 [] ((e, tt), tt)))

bool_distinct : RowMeans row.bool_distinct
bool_distinct g σ c a f m w d i s b r = (λ e. true≢false (ap as_bool e), λ x. absurd x)

-- ---- connectives with true and false

not_true : RowMeans row.not_true
not_true g σ c a f m w d i s b r = (λ x. x tt, λ x. absurd x)

not_false : RowMeans row.not_false
not_false g σ c a f m w d i s b r = (λ x. tt, λ x y. y)

not_not : RowMeans row.not_not
not_not g σ c a f m w d i s b r = (stable_Truth g d i s b (σ.formula (codes "A")), λ x n. n x)

and_true_left : RowMeans row.and_true_left
and_true_left g σ c a f m w d i s b r = (λ x. x.1, λ x. (tt, x))

and_true_right : RowMeans row.and_true_right
and_true_right g σ c a f m w d i s b r = (λ x. x.0, λ x. (x, tt))

and_false_left : RowMeans row.and_false_left
and_false_left g σ c a f m w d i s b r = (λ x. x.0, λ x. absurd x)

and_false_right : RowMeans row.and_false_right
and_false_right g σ c a f m w d i s b r = (λ x. x.1, λ x. absurd x)

or_true_left : RowMeans row.or_true_left
or_true_left g σ c a f m w d i s b r = (λ x. tt, λ x p. p.0 tt)

or_true_right : RowMeans row.or_true_right
or_true_right g σ c a f m w d i s b r = (λ x. tt, λ x p. p.1 tt)

or_false_left : RowMeans row.or_false_left
or_false_left g σ c a f m w d i s b r = (λ x. stable_Truth g d i s b (σ.formula (codes "A")) (λ no. x ((λ y. y), no)), λ x p. p.1 x)

or_false_right : RowMeans row.or_false_right
or_false_right g σ c a f m w d i s b r = (λ x. stable_Truth g d i s b (σ.formula (codes "A")) (λ no. x (no, (λ y. y))), λ x p. p.0 x)

imp_true_left : RowMeans row.imp_true_left
imp_true_left g σ c a f m w d i s b r = (λ x. x tt, λ x y. x)

imp_true_right : RowMeans row.imp_true_right
imp_true_right g σ c a f m w d i s b r = (λ x. tt, λ x y. tt)

imp_false_left : RowMeans row.imp_false_left
imp_false_left g σ c a f m w d i s b r = (λ x. tt, λ x y. absurd y)

imp_false_right : RowMeans row.imp_false_right
imp_false_right g σ c a f m w d i s b r = (λ x. x, λ x. x)

all_true : RowMeans row.all_true
all_true g σ c a f m w d i s b r = (λ x. tt, λ x v o. tt)

ex_false : RowMeans row.ex_false
ex_false g σ c a f m w d i s b r = (λ x. x (λ v o y. y), λ x. absurd x)

-- one beside the others
infixr 30 ◌⊗◌
abbrev pub ◌⊗◌ : {P Q : Type 0} → P → Q → P × Q
p ⊗ q = (p, q)

-- all of them
pub all_mean : AllMean logic_rows
all_mean =
    close ⊗ close_true ⊗ close_false ⊗ not_left ⊗ not_right ⊗ and_left ⊗ and_right ⊗ or_left ⊗ or_right ⊗ imp_left ⊗ imp_right ⊗ iff_left ⊗ iff_right ⊗
    all_right ⊗ ex_left ⊗ all_left ⊗ ex_right ⊗ cut ⊗ hide_left ⊗ hide_right ⊗ eq_refl ⊗ eq_sym ⊗ apply_eq ⊗ known_left ⊗ known_right ⊗ bool_cases ⊗
    bool_distinct ⊗ not_true ⊗ not_false ⊗ not_not ⊗ and_true_left ⊗ and_true_right ⊗ and_false_left ⊗ and_false_right ⊗ or_true_left ⊗ or_true_right ⊗
    or_false_left ⊗ or_false_right ⊗ imp_true_left ⊗ imp_true_right ⊗ imp_false_left ⊗ imp_false_right ⊗ all_true ⊗ ex_false ⊗ tt
