-- Each row of integers has its meaning.
use Rattle.std.proofs.Common.{◌≡◌, ℕ, Bool, true, false, ℤ, pos, ◌+ℤ◌, ◌*ℤ◌, List, [], ◌∷◌, refl, sym, ap, ◌∙◌, subst, true≢false}
use Rattle.std.proofs.Math.IntN.{+ℤ_comm, +ℤ_assoc, +ℤ_idr, *ℤ_comm}
use Rattle.std.specs.Prelude.{codes}
use Rattle.jd_base.specs.declared.sort.Sort.TheVariants.{Int as IntSort}
use Rattle.jd_term.specs.Terms.{PlainTerm, sort_of_term, Number, Arithmetic, Sum}
use Rattle.jd_term.specs.declared.term.ArithmeticOp.{ArithmeticOp}
use Rattle.jd_term.specs.declared.term.ArithmeticOp.TheVariants.{Add, Subtract, Multiply, Divide, Remainder}
use Rattle.jd_term.specs.Formulas.{PlainFormula}
use Rattle.jd_term.specs.Substitutions.{term_subst}
use Rattle.jd_heap.specs.Values.{Value, IntValue, as_int, IsOf}
use Rattle.jd_model.specs.States.{State}
use Rattle.jd_model.specs.TermValues.{value}
use Rattle.jd_model.specs.Truth.{Setting, Truth}
use Rattle.jd_model.proofs.AllLaws.{are_substituted_by_sort}
use Rattle.jd_model.proofs.Sorts.{value_sort}
use Rattle.jd_patterns.specs.Patterns.{SchemaVar}
use Rattle.jd_patterns.specs.Instances.{Instance}
use Rattle.jd_taclets.specs.Conditions.{IsBoundSort, truth_formula}
use Rattle.jd_taclets.specs.Taclets.{RowMeans, AllMean}
use Rattle.jd_tac_int.specs.Integers as row
use Rattle.jd_tac_int.specs.Integers.{integer_rows}
use Rattle.jd_tac_int.proofs.Products as product
use Rattle.jd_tac_int.proofs.Order as order
use Rattle.jd_tac_int.proofs.Wrapping as wrapping
use Rattle.jd_tac_int.proofs.Division as division
use Rattle.jd_tac_int.proofs.Sums as sums
use Rattle.jd_tac_int.proofs.Induction.{true_at_each}

-- ---- values of terms, and tests that are computed

-- a value of sort Int is that of its number
int_own : (v : Value) → IsOf IntSort v → IntValue (as_int v) ≡ v
int_own (IntValue z) o = refl
int_own v o = absurd o

-- the number that is the value of a variable's term
abbrev number : Instance → State → State → List Value → List ℕ → ℤ
number σ i s b n = as_int (value i s b (σ.term n))

-- a term of sort Int has the value of a number
own : (t : PlainTerm) → sort_of_term t ≡ IntSort → (i s : State) (b : List Value) → IntValue (as_int (value i s b t)) ≡ value i s b t
own t e i s b = int_own (value i s b t) (subst (λ k. IsOf k (value i s b t)) e (value_sort i s b t))

-- where two numbers are one, the terms have one value
same_values : (t u : PlainTerm) → sort_of_term t ≡ IntSort → sort_of_term u ≡ IntSort → (i s : State) (b : List Value) → as_int (value i s b t) ≡ as_int (value i s b u) → value i s b t ≡ value i s b u
same_values t u e h i s b same = sym (own t e i s b) ∙ ap IntValue same ∙ own u h i s b

-- a computed truth value as a formula
truth_of : (g : Setting) (d : ℕ) (i s : State) (b : List Value) (x : Bool) → (x ≡ true → Truth g d i s b (truth_formula x)) × (Truth g d i s b (truth_formula x) → x ≡ true)
truth_of g d i s b true = (λ _. tt, λ _. refl)
truth_of g d i s b false = (λ e. true≢false (sym e), λ e. absurd e)

-- the formula is that of a test's value
tested : (g : Setting) (d : ℕ) (i s : State) (b : List Value) (a : PlainFormula) (P : Type 0) (x : Bool) → a ≡ truth_formula x → (P → x ≡ true) × (x ≡ true → P) → (P → Truth g d i s b a) × (Truth g d i s b a → P)
tested g d i s b a P x e same =
    let value_of = truth_of g d i s b x in
    (λ p. subst (λ c. Truth g d i s b c) (sym e) (value_of.0 (same.0 p)), λ t. same.1 (value_of.1 (subst (λ c. Truth g d i s b c) e t)))

-- ---- numbers folded

fold_operation : (name : List ℕ) (op : ArithmeticOp) (result : SchemaVar) → RowMeans (row.fold_operation name op result)
fold_operation name op result g σ c a f m w d i s b r = ap IntValue (sym c.0.0)

fold_add : RowMeans row.fold_add
fold_add = fold_operation (codes "foldAdd") Add (codes "m+n")

fold_sub : RowMeans row.fold_sub
fold_sub = fold_operation (codes "foldSub") Subtract (codes "m-n")

fold_mul : RowMeans row.fold_mul
fold_mul = fold_operation (codes "foldMul") Multiply (codes "m*n")

fold_neg : RowMeans row.fold_neg
fold_neg g σ c a f m w d i s b r = ap IntValue (sym c.0.0)

fold_div : RowMeans row.fold_div
fold_div = fold_operation (codes "foldDiv") Divide (codes "m/n")

fold_mod : RowMeans row.fold_mod
fold_mod = fold_operation (codes "foldMod") Remainder (codes "m%n")

fold_wrap : RowMeans row.fold_wrap
fold_wrap g σ c a f m w d i s b r = ap IntValue (sym c.0.0)

fold_lt : RowMeans row.fold_lt
fold_lt g σ c a f m w d i s b r = tested g d i s b (σ.formula (codes "m<n")) _ _ c.0 (λ e. e, λ e. e)

fold_le : RowMeans row.fold_le
fold_le g σ c a f m w d i s b r = tested g d i s b (σ.formula (codes "m<=n")) _ _ c.0 (λ e. e, λ e. e)

fold_eq : RowMeans row.fold_eq
fold_eq g σ c a f m w d i s b r = tested g d i s b (σ.formula (codes "m=n")) _ _ c.0 (order.equal_numbers (σ.literal (codes "m")) (σ.literal (codes "n")))

-- ---- sums and products

add_comm : RowMeans row.add_comm
add_comm g σ c a f m w d i s b r = ap IntValue (+ℤ_comm (number σ i s b (codes "i")) (number σ i s b (codes "j")))

add_assoc : RowMeans row.add_assoc
add_assoc g σ c a f m w d i s b r = ap IntValue (+ℤ_assoc (number σ i s b (codes "i")) (number σ i s b (codes "j")) (number σ i s b (codes "k")))

add_zero : RowMeans row.add_zero
add_zero g σ c a f m w d i s b r = ap IntValue (+ℤ_idr (number σ i s b (codes "i"))) ∙ own (σ.term (codes "i")) f.0 i s b

mul_comm : RowMeans row.mul_comm
mul_comm g σ c a f m w d i s b r = ap IntValue (*ℤ_comm (number σ i s b (codes "i")) (number σ i s b (codes "j")))

mul_assoc : RowMeans row.mul_assoc
mul_assoc g σ c a f m w d i s b r = ap IntValue (product.product_assoc (number σ i s b (codes "i")) (number σ i s b (codes "j")) (number σ i s b (codes "k")))

mul_one : RowMeans row.mul_one
mul_one g σ c a f m w d i s b r = ap IntValue (product.product_one (number σ i s b (codes "i"))) ∙ own (σ.term (codes "i")) f.0 i s b

mul_zero : RowMeans row.mul_zero
mul_zero g σ c a f m w d i s b r = ap IntValue (product.product_zero (number σ i s b (codes "i")))

distrib : RowMeans row.distrib
distrib g σ c a f m w d i s b r = ap IntValue (product.product_of_sum (number σ i s b (codes "i")) (number σ i s b (codes "j")) (number σ i s b (codes "k")))

sub_def : RowMeans row.sub_def
sub_def g σ c a f m w d i s b r = refl

neg_def : RowMeans row.neg_def
neg_def g σ c a f m w d i s b r = ap IntValue (product.negated (number σ i s b (codes "i")))

collect : RowMeans row.collect
collect g σ c a f m w d i s b r = ap IntValue (sym (product.product_of_sum (number σ i s b (codes "i")) (σ.literal (codes "m")) (σ.literal (codes "n"))) ∙ ap (λ z. (number σ i s b (codes "i")) *ℤ z) (sym c.0.0))

collect_one : RowMeans row.collect_one
collect_one g σ c a f m w d i s b r = ap IntValue (product.product_of_next (number σ i s b (codes "i")) (σ.literal (codes "n")) ∙ ap (λ z. (number σ i s b (codes "i")) *ℤ z) (sym c.0.0))

-- ---- order

lt_to_le : RowMeans row.lt_to_le
lt_to_le g σ c a f m w d i s b r = order.less_is_next (number σ i s b (codes "i")) (number σ i s b (codes "j"))

not_le : RowMeans row.not_le
not_le g σ c a f m w d i s b r = order.not_at_most (number σ i s b (codes "i")) (number σ i s b (codes "j"))

not_lt : RowMeans row.not_lt
not_lt g σ c a f m w d i s b r = order.not_less (number σ i s b (codes "i")) (number σ i s b (codes "j"))

le_refl : RowMeans row.le_refl
le_refl g σ c a f m w d i s b r = (λ _. tt, λ _. order.at_most_itself (number σ i s b (codes "i")))

lt_refl : RowMeans row.lt_refl
lt_refl g σ c a f m w d i s b r = (λ e. order.not_less_itself (number σ i s b (codes "i")) e, λ x. absurd x)

le_trans : RowMeans row.le_trans
le_trans g σ c a f m w d i s b r t n = n.0 [] ((order.at_most_then (number σ i s b (codes "i")) (number σ i s b (codes "j")) (number σ i s b (codes "k")) t r.0.0, tt), tt)

le_antisym : RowMeans row.le_antisym
le_antisym g σ c a f m w d i s b r t n = n.0 [] ((same_values (σ.term (codes "i")) (σ.term (codes "j")) f.0 f.1 i s b (order.both_at_most (number σ i s b (codes "i")) (number σ i s b (codes "j")) t r.0.0), tt), tt)

le_sum : RowMeans row.le_sum
le_sum g σ c a f m w d i s b r t n = n.0 [] ((order.at_most_sums (number σ i s b (codes "i")) (number σ i s b (codes "j")) (number σ i s b (codes "k")) (number σ i s b (codes "l")) t r.0.0, tt), tt)

le_scale : RowMeans row.le_scale
le_scale g σ c a f m w d i s b r t n = n.0 [] ((order.at_most_scaled (number σ i s b (codes "i")) (number σ i s b (codes "j")) (σ.literal (codes "m")) t c.0, tt), tt)

le_weaken : RowMeans row.le_weaken
le_weaken g σ c a f m w d i s b r t n = n.0 [] ((order.at_most_more (number σ i s b (codes "i")) (number σ i s b (codes "j")) (σ.literal (codes "m")) t c.0, tt), tt)

le_shift : RowMeans row.le_shift
le_shift g σ c a f m w d i s b r = order.at_most_shifted (number σ i s b (codes "i")) (number σ i s b (codes "j")) (number σ i s b (codes "k"))

le_eq : RowMeans row.le_eq
le_eq g σ c a f m w d i s b r t n = n.0 [] ((order.at_most_same (number σ i s b (codes "i")) (number σ i s b (codes "j")) (ap as_int t), (order.at_most_same (number σ i s b (codes "j")) (number σ i s b (codes "i")) (sym (ap as_int t)), tt)), tt)

le_clash : RowMeans row.le_clash
le_clash g σ c a f m w d i s b r t n = order.never_both (number σ i s b (codes "i")) (number σ i s b (codes "j")) t r.0.0

int_cases : RowMeans row.int_cases
int_cases g σ c a f m w d i s b r t n = order.compared (number σ i s b (codes "i")) (number σ i s b (codes "j")) (λ e. n.0 [] ((e, tt), tt), λ e. n.1.0 [] ((same_values (σ.term (codes "i")) (σ.term (codes "j")) a.0 a.1.0 i s b e, tt), tt), λ e. n.1.1.0 [] ((e, tt), tt))

-- ---- induction

int_ind : RowMeans row.int_ind
int_ind g σ c v f m w d i s b r t n = n.0 [] (tt, ((λ x. n.1.0 [] (tt, ((λ p. n.1.1.0 [] (tt, ((λ q. t (true_at_each g (σ.formula (codes "A")) c.0.1 c.1.0 d i s b x p q)), tt))), tt))), tt))

-- ---- the 32 bits of an int

in_int_def : RowMeans row.in_int_def
in_int_def g σ c a f m w d i s b r = wrapping.in_int_parts (number σ i s b (codes "i"))

wrap_in : RowMeans row.wrap_in
wrap_in g σ c a f m w d i s b r = ap IntValue (wrapping.wrap_in (number σ i s b (codes "i")) r.0.0 r.0.1.0) ∙ own (σ.term (codes "i")) f i s b

wrap_range : RowMeans row.wrap_range
wrap_range g σ c a f m w d i s b r t n = n.0 [] ((wrapping.wrap_range (number σ i s b (codes "i")), tt), tt)

wrap_wrap : RowMeans row.wrap_wrap
wrap_wrap g σ c a f m w d i s b r = ap IntValue (wrapping.wrap_wrap (number σ i s b (codes "i")))

wrap_add : RowMeans row.wrap_add
wrap_add g σ c a f m w d i s b r = ap IntValue (wrapping.wrap_add (number σ i s b (codes "i")) (number σ i s b (codes "j")))

wrap_mul : RowMeans row.wrap_mul
wrap_mul g σ c a f m w d i s b r = ap IntValue (wrapping.wrap_mul (number σ i s b (codes "i")) (number σ i s b (codes "j")))

wrap_neg : RowMeans row.wrap_neg
wrap_neg g σ c a f m w d i s b r = ap IntValue (wrapping.wrap_neg (number σ i s b (codes "i")))

-- ---- division

mod_def : RowMeans row.mod_def
mod_def g σ c a f m w d i s b r = ap IntValue (division.remainder_is (number σ i s b (codes "i")) (number σ i s b (codes "j")))

div_neg_left : RowMeans row.div_neg_left
div_neg_left g σ c a f m w d i s b r = ap IntValue (division.quotient_of_negated (number σ i s b (codes "i")) (number σ i s b (codes "j")))

div_neg_right : RowMeans row.div_neg_right
div_neg_right g σ c a f m w d i s b r = ap IntValue (division.quotient_by_negated (number σ i s b (codes "i")) (number σ i s b (codes "j")))

div_bound : RowMeans row.div_bound
div_bound g σ c a f m w d i s b r t n = n.0 [] ((λ p. division.quotient_bounds (number σ i s b (codes "i")) (number σ i s b (codes "j")) p.0 p.1, tt), tt)

-- ---- sums over a range

sum_empty : RowMeans row.sum_empty
sum_empty g σ c a f m w d i s b r = ap IntValue (sums.sum_empty (number σ i s b (codes "i")) (number σ i s b (codes "j")) _ r.0.0)

sum_last : RowMeans row.sum_last
sum_last g σ c a f m w d i s b r =
    let last = Arithmetic Subtract (σ.term (codes "j")) (Number (pos 1)) in
    let put : value i s b (term_subst 0 0 last (σ.term (codes "s"))) ≡ value i s (value i s b last ∷ b) (σ.term (codes "s")) = are_substituted_by_sort.of_terms i s b last (σ.term (codes "s")) (λ e. subst IsBoundSort e tt) c.0.1 in
    ap IntValue (sums.sum_last (number σ i s b (codes "i")) (number σ i s b (codes "j")) (λ z. as_int (value i s (IntValue z ∷ b) (σ.term (codes "s")))) r.0.0 ∙ ap (λ v. as_int (value i s b (Sum (σ.term (codes "i")) last (σ.term (codes "s")))) +ℤ as_int v) (sym put))

-- one beside the others
infixr 30 ◌⊗◌
abbrev pub ◌⊗◌ : {P Q : Type 0} → P → Q → P × Q
p ⊗ q = (p, q)

-- all of them
pub all_mean : AllMean integer_rows
all_mean =
    fold_add ⊗ fold_sub ⊗ fold_mul ⊗ fold_neg ⊗ fold_div ⊗ fold_mod ⊗ fold_wrap ⊗ fold_lt ⊗ fold_le ⊗ fold_eq ⊗ add_comm ⊗ add_assoc ⊗ add_zero ⊗
    mul_comm ⊗ mul_assoc ⊗ mul_one ⊗ mul_zero ⊗ distrib ⊗ sub_def ⊗ neg_def ⊗ collect ⊗ collect_one ⊗ lt_to_le ⊗ not_le ⊗ not_lt ⊗ le_refl ⊗
    lt_refl ⊗ le_trans ⊗ le_antisym ⊗ le_sum ⊗ le_scale ⊗ le_weaken ⊗ le_shift ⊗ le_eq ⊗ le_clash ⊗ int_cases ⊗ int_ind ⊗ in_int_def ⊗ wrap_in ⊗
    wrap_range ⊗ wrap_wrap ⊗ wrap_add ⊗ wrap_mul ⊗ wrap_neg ⊗ mod_def ⊗ div_neg_left ⊗ div_neg_right ⊗ div_bound ⊗ sum_empty ⊗ sum_last ⊗ tt
