-- The worked rows mean what they should.
use Rattle.std.proofs.Common.{◌≡◌, inl, ℕ, zero, suc, Bool, true, false, pos, negsuc, ◌+ℤ◌, ◌-ℤ◌, int_le, not, nat_eq, List, [], ◌∷◌, Some, refl, sym, ap, ◌∙◌, subst, arith, true≢false, cond}
use Rattle.std.specs.Prelude.{codes}
use Rattle.std.proofs.lemmas.Bool.{eqb-true}
use Rattle.jd_base.specs.declared.sort.Sort.{Sort}
use Rattle.jd_base.specs.declared.sort.Sort.TheVariants.{Int as IntSort, Bool as BoolSort, Ref as RefSort, Heap as HeapSort, Field as FieldSort}
use Rattle.jd_syntax.specs.Names.{Name}
use Rattle.jd_syntax.specs.Codes.{PlainKind, OfClass, IntArray, Expr, IntLiteral, BoolLiteral, NullLiteral, Variable, Stmt, Set, Block, Break, Return, ReturnVoid, Frame, PlainCode, Then, Done}
use Rattle.jd_term.specs.Terms.{PlainTerm, sort_of_term, Number, Bound, Arithmetic, NamedField, ElementField}
use Rattle.jd_term.specs.Formulas.{PlainFormula, And, Implies, LessOrEqual}
use Rattle.jd_term.specs.declared.term.ArithmeticOp.TheVariants.{Add, Subtract}
use Rattle.jd_term.specs.Substitutions.{SortsAgree, formula_subst}
use Rattle.jd_heap.specs.References.{Reference, Object, Array, is_created_field}
use Rattle.jd_heap.specs.HeapLaws.{IsEntrySort}
use Rattle.jd_heap.specs.Values.{Value, IntValue, RefValue, as_ref, as_field, IsOf, default}
use Rattle.jd_heap.proofs.HeapLaws.{select_over_store, select_over_create}
use Rattle.jd_model.specs.Closed.{BelowIn}
use Rattle.jd_model.specs.Contexts.{one}
use Rattle.jd_model.specs.Outcomes.{Normal, Broke, Returned, then, after_block, after_frame}
use Rattle.jd_model.specs.Programs.{Program, is_instance, is_exactly, is_subclass}
use Rattle.jd_model.specs.Runs.{runner, exec, exec_at, step}
use Rattle.jd_model.specs.SimpleExpressions.{IsSimple, term_of}
use Rattle.jd_model.specs.States.{State, write}
use Rattle.jd_model.specs.TermValues.{value, updated}
use Rattle.jd_model.specs.Truth.{Setting, Truth, InvTruth}
use Rattle.jd_model.proofs.AllLaws.{are_substituted_by_sort}
use Rattle.jd_model.proofs.Modalities.{modal_alike, both_ways}
use Rattle.jd_model.proofs.SimpleExpressions.{simple_eval}
use Rattle.jd_model.proofs.Sorts.{value_sort}
use Rattle.jd_model.proofs.Unseen.{closed_truth}
use Rattle.jd_patterns.specs.Instances.{is_simple, is_return}
use Rattle.jd_taclets.specs.Conditions.{is_named_field, is_below, truth_formula, default_term}
use Rattle.jd_taclets.specs.Taclets.{RowMeans, AllMean, AllFinds}
use Rattle.jd_taclets.specs.WorkedRows as row
use Rattle.jd_taclets.specs.WorkedRows.{worked_rows, read_rows}

-- ---- integers

fold_add : RowMeans row.fold_add
fold_add g σ c a f m w d i s b r = ap IntValue (sym c.0.0)

module _ (g : Setting) (a : PlainFormula) (agree : SortsAgree 0 IntSort a) (only : BelowIn 1 a) (d : ℕ) (i s : State) (b : List Value) where
  abbrev At : Value → Type 0
  At v = Truth g d i s (v ∷ b) a

  other : IntSort ≡ HeapSort → ⊥
  other e = true≢false (ap (λ k. elim k as (λ _. Bool) [ IntSort ↦ true | BoolSort ↦ true | RefSort ↦ true | HeapSort ↦ false | FieldSort ↦ true ]) e)

  -- below a binder, with a term of the bound variable in place of the formula's own
  forth : (v : Value) (t : PlainTerm) → sort_of_term t ≡ IntSort → (steady : Truth g d i s (v ∷ b) (formula_subst 0 0 t a) → Truth g d i s (value i s (v ∷ b) t ∷ (v ∷ b)) a) → Truth g d i s (v ∷ b) (formula_subst 0 0 t a) → At (value i s (v ∷ b) t)
  forth v t e put x = subst (λ T. T) (closed_truth g d (InvTruth g d) i (v ∷ b) b a (value i s (v ∷ b) t ∷ []) only s) (put x)

  up : At (IntValue (pos 0)) → ((v : Value) → IsOf IntSort v → Truth g d i s (v ∷ b) (Implies (And (LessOrEqual (Number (pos 0)) (Bound 0 IntSort)) a) (formula_subst 0 0 (Arithmetic Add (Bound 0 IntSort) (Number (pos 1))) a))) → (n : ℕ) → At (IntValue (pos n))
  up z h zero = z
  up z h (suc n) = subst (λ k. At (IntValue k)) (next n) (forth (IntValue (pos n)) t refl ((are_substituted_by_sort.of_formulas g d i s (IntValue (pos n) ∷ b) t a other agree (inl (tt, tt))).0) (h (IntValue (pos n)) tt (at_least n, up z h n)))
    where
      t : PlainTerm
      t = Arithmetic Add (Bound 0 IntSort) (Number (pos 1))

      next : (n : ℕ) → pos n +ℤ pos 1 ≡ pos (suc n)
      next n = grind arith

      at_least : (n : ℕ) → int_le (pos 0) (pos n) ≡ true
      at_least n = grind arith

  down : At (IntValue (pos 0)) → ((v : Value) → IsOf IntSort v → Truth g d i s (v ∷ b) (Implies (And (LessOrEqual (Bound 0 IntSort) (Number (pos 0))) a) (formula_subst 0 0 (Arithmetic Subtract (Bound 0 IntSort) (Number (pos 1))) a))) → (n : ℕ) → At (IntValue (negsuc n))
  down z h zero = forth (IntValue (pos 0)) (Arithmetic Subtract (Bound 0 IntSort) (Number (pos 1))) refl ((are_substituted_by_sort.of_formulas g d i s (IntValue (pos 0) ∷ b) (Arithmetic Subtract (Bound 0 IntSort) (Number (pos 1))) a other agree (inl (tt, tt))).0) (h (IntValue (pos 0)) tt (refl, z))
  down z h (suc n) = subst (λ k. At (IntValue k)) (next n) (forth (IntValue (negsuc n)) t refl ((are_substituted_by_sort.of_formulas g d i s (IntValue (negsuc n) ∷ b) t a other agree (inl (tt, tt))).0) (h (IntValue (negsuc n)) tt (at_most n, down z h n)))
    where
      t : PlainTerm
      t = Arithmetic Subtract (Bound 0 IntSort) (Number (pos 1))

      next : (n : ℕ) → negsuc n -ℤ pos 1 ≡ negsuc (suc n)
      next n = grind arith

      at_most : (n : ℕ) → int_le (negsuc n) (pos 0) ≡ true
      at_most n = grind arith

  start : Truth g d i s b (formula_subst 0 0 (Number (pos 0)) a) → At (IntValue (pos 0))
  start x = (are_substituted_by_sort.of_formulas g d i s b (Number (pos 0)) a other agree (inl tt)).0 x

  each : At (IntValue (pos 0)) → ((n : ℕ) → At (IntValue (pos n))) → ((n : ℕ) → At (IntValue (negsuc n))) → (v : Value) → IsOf IntSort v → At v
  each z p n (IntValue (pos k)) o = p k
  each z p n (IntValue (negsuc k)) o = n k
  each z p n v o = absurd o

int_ind : RowMeans row.int_ind
int_ind g σ c y f m w d i s b r t n =
    let a = σ.formula (codes "A") in
    n.0 [] (tt, ((λ x. n.1.0 [] (tt, ((λ p. n.1.1.0 [] (tt, ((λ q. t (each g a c.0.1 c.1.0 d i s b (start g a c.0.1 c.1.0 d i s b x) (up g a c.0.1 c.1.0 d i s b (start g a c.0.1 c.1.0 d i s b x) p) (down g a c.0.1 c.1.0 d i s b (start g a c.0.1 c.1.0 d i s b x) q))), tt))), tt))), tt))

-- ---- heaps

of_sort : (k : Sort) (t : PlainTerm) → sort_of_term t ≡ k → (i s : State) (b : List Value) → IsOf k (value i s b t)
of_sort k t e i s b = subst (λ l. IsOf l (value i s b t)) e (value_sort i s b t)

ref_own : (v : Value) → IsOf RefSort v → RefValue (as_ref v) ≡ v
ref_own (RefValue r) o = refl
ref_own v o = absurd o

sel_store_obj : RowMeans row.sel_store_obj
sel_store_obj g σ c a f m w d i s b r = select_over_store.elsewhere (σ.sort (codes "X")) _ (as_ref (value i s b (σ.term (codes "o")))) (as_ref (value i s b (σ.term (codes "p")))) _ _ _ (λ e. r.1.0 (sym (ref_own _ (of_sort RefSort (σ.term (codes "o")) f.0.1.0 i s b)) ∙ ap (λ l. RefValue l.at) (sym e) ∙ ref_own _ (of_sort RefSort (σ.term (codes "p")) f.1.0 i s b)))

named : (t : PlainTerm) → is_named_field t ≡ true → (i s : State) (b : List Value) → is_created_field (as_field (value i s b t)) ≡ false
named (NamedField n) o i s b = refl
named (ElementField t) o i s b = refl
named t o i s b = absurd (true≢false (sym o))

default_value : (k : Sort) → IsEntrySort k → (i s : State) (b : List Value) → default k ≡ value i s b (default_term k)
default_value IntSort o i s b = refl
default_value BoolSort o i s b = refl
default_value RefSort o i s b = refl
default_value HeapSort o i s b = absurd o
default_value FieldSort o i s b = absurd o

sel_create_default : RowMeans row.sel_create_default
sel_create_default g σ c a f m w d i s b r = select_over_create.fields (σ.sort (codes "X")) _ _ _ (named (σ.term (codes "f")) c.0 i s b) ∙ default_value (σ.sort (codes "X")) c.1.0 i s b ∙ ap (value i s b) (sym c.1.1.0)

-- ---- classes

truth_of : (g : Setting) (d : ℕ) (i s : State) (b : List Value) (x y : Bool) → x ≡ y → (x ≡ true → Truth g d i s b (truth_formula y)) × (Truth g d i s b (truth_formula y) → x ≡ true)
truth_of g d i s b x true e = (λ _. tt, λ _. e)
truth_of g d i s b x false e = (λ h. true≢false (sym h ∙ e), λ h. absurd h)

exactly_below : (p : Program) (k c : PlainKind) (o : Reference) → is_exactly k o ≡ true → is_instance p c o ≡ is_below p k c
exactly_below p (OfClass e) (OfClass c) (Object n m) h = ap (λ j. is_subclass p j c) (eqb-true n e h)
exactly_below p (OfClass e) IntArray (Object n m) h = refl
exactly_below p IntArray (OfClass c) (Array l n) h = refl
exactly_below p IntArray IntArray (Array l n) h = refl
exactly_below p k c o h = absurd (true≢false (sym h))

inst_exact : RowMeans row.inst_exact
inst_exact g σ c a f m w d i s b r = subst (λ x. (is_instance g.program (σ.kind (codes "C")) o ≡ true → Truth g d i s b x) × (Truth g d i s b x → is_instance g.program (σ.kind (codes "C")) o ≡ true)) (sym c.0) (truth_of g d i s b _ _ (exactly_below g.program (σ.kind (codes "D")) (σ.kind (codes "C")) o r.0.0))
  where
    o : Reference
    o = as_ref (value i s b (σ.term (codes "o")))

-- ---- execution

simple : (e : Expr) → is_simple e ≡ true → IsSimple e
simple (IntLiteral z) h = tt
simple (BoolLiteral z) h = tt
simple NullLiteral h = tt
simple (Variable x) h = tt
simple e h = absurd (true≢false (sym h))

set_runs : (g : Setting) (i s : State) (b : List Value) (x : Name) (e : Expr) → is_simple e ≡ true → (f n : ℕ) → exec_at g.program f n (one (Set x e)) s ≡ exec_at g.program f n Done (updated i s b ((x, term_of e) ∷ []) s)
set_runs g i s b x e o f n = ap (λ r. then (then r (λ v t. Normal tt (write t x v))) (λ _ t. Normal tt t)) (simple_eval g.program i b (runner g.program f n) n e (simple e o) s)

set_simple : RowMeans row.set_simple
set_simple g σ c a f m w d i s b r = both_ways (modal_alike g d (InvTruth g d) i b (σ.modality (codes "M")) (σ.context (codes "..")) _ Done (σ.formula (codes "A")) s _ (set_runs g i s b (σ.name (codes "x")) (σ.simple (codes "s")) f.0))

-- a return of a simple expression ends the run with its value
returns : (g : Setting) (i s : State) (b : List Value) (e : Expr) → is_simple e ≡ true → (f n : ℕ) → step g.program (runner g.program f n) n (Return e) s ≡ Returned (Some (value i s b (term_of e))) s
returns g i s b e o f n = ap (λ r. then r (λ v t. Returned (Some v) t)) (simple_eval g.program i b (runner g.program f n) n e (simple e o) s)

return_runs : (g : Setting) (i s : State) (b : List Value) (x : Name) (e : Expr) (c : PlainCode) → is_simple e ≡ true → (f n : ℕ) → exec_at g.program f n (one (Frame (Some x) (Then (Return e) c))) s ≡ exec_at g.program f n (one (Set x e)) s
return_runs g i s b x e c o f n =
    ap (λ r. then (after_frame (Some x) (then r (λ _ t. exec g.program (runner g.program f n) n c t))) (λ _ t. Normal tt t)) (returns g i s b e o f n)
    ∙ sym (set_runs g i s b x e o f n)

frame_return : RowMeans row.frame_return
frame_return g σ c a f m w d i s b r = both_ways (modal_alike g d (InvTruth g d) i b (σ.modality (codes "M")) (σ.context (codes "..")) _ _ (σ.formula (codes "A")) s s (return_runs g i s b (σ.name (codes "r")) (σ.simple (codes "s")) (σ.code (codes "rest")) f.0.0))

-- a block passes a return on
block_returns : (g : Setting) (s : State) (l : ℕ) (t : Stmt) (c : PlainCode) → is_return t ≡ true → (f n : ℕ) → exec_at g.program f n (one (Block l (Then t c))) s ≡ exec_at g.program f n (one t) s
block_returns g s l (Return e) c o f n =
    ap (λ r. then (after_block l (then r (λ _ t. exec g.program (runner g.program f n) n c t))) (λ _ t. Normal tt t)) (returns g s s [] e o f n)
    ∙ sym (ap (λ r. then r (λ _ t. Normal tt t)) (returns g s s [] e o f n))
block_returns g s l ReturnVoid c o f n = refl
block_returns g s l t c o f n = absurd (true≢false (sym o))

block_return : RowMeans row.block_return
block_return g σ c a f m w d i s b r = both_ways (modal_alike g d (InvTruth g d) i b (σ.modality (codes "M")) (σ.context (codes "..")) _ _ (σ.formula (codes "A")) s s (λ e n. block_returns g s (σ.label (codes "l")) (σ.returned (codes "R")) (σ.code (codes "rest")) f.0.0 e n))

-- or a break to another label
block_breaks : (g : Setting) (s : State) (l k : ℕ) (c : PlainCode) → not (nat_eq k l) ≡ true → (f n : ℕ) → exec_at g.program f n (one (Block l (Then (Break k) c))) s ≡ exec_at g.program f n (one (Break k)) s
block_breaks g s l k c o f n = by (nat_eq k l) refl
  where
    by : (x : Bool) → nat_eq k l ≡ x → exec_at g.program f n (one (Block l (Then (Break k) c))) s ≡ exec_at g.program f n (one (Break k)) s
    by true e = absurd (true≢false (sym o ∙ ap not e))
    by false e = ap (λ x. then (cond x (Normal tt s) (Broke k s)) (λ _ t. Normal tt t)) e

block_other : RowMeans row.block_other
block_other g σ c a f m w d i s b r = both_ways (modal_alike g d (InvTruth g d) i b (σ.modality (codes "M")) (σ.context (codes "..")) _ _ (σ.formula (codes "A")) s s (block_breaks g s (σ.label (codes "l")) (σ.label (codes "k")) (σ.code (codes "rest")) f.0.0))

pub rows_mean : AllMean worked_rows
rows_mean = (fold_add, (int_ind, (sel_store_obj, (sel_create_default, (inst_exact, (set_simple, (block_other, (block_return, (frame_return, tt)))))))))

-- what they find and assume are forms that matching decides
pub rows_are_found : AllFinds worked_rows × AllFinds read_rows
rows_are_found = (
  (((tt, tt), tt), ((tt, tt), (((((tt, (tt, (tt, tt)))), (tt, tt)), ((tt, tt), tt)), ((((tt, tt), (tt, tt)), tt), ((tt, (tt, tt)), (((tt, (tt, tt)), tt), (((tt, (tt, tt)), tt), (((tt, ((tt, tt), tt)), tt), (((tt, ((tt, tt), tt)), tt), tt))))))))),
  (((tt, (tt, (tt, tt))), tt), (((tt, tt), (tt, tt)), (((tt, (tt, tt)), tt), (((tt, (((tt, tt), tt), tt)), tt), tt)))),
)
