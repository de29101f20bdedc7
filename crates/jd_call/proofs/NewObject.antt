-- `newObject`: some value of the new constant makes the premise the code.
use Rattle.std.proofs.Common.{Bool, ap, cond, eq-eqb, false, negsuc, pos, refl, subst, sym, true, true≢false, ◌≡◌, ◌∷◌, ◌∙◌, ℕ, []}
use Rattle.jd_base.specs.declared.sort.Sort.TheVariants.{Int as IntSort, Ref as RefSort}
use Rattle.jd_call.specs.NewObject.{ArrayOf, ObjectOf, allocation_premise}
use Rattle.jd_heap.proofs.Fresh.{fresh_array_is_free, fresh_is_free}
use Rattle.jd_heap.specs.Allocation.{fresh_array, fresh_object}
use Rattle.jd_heap.specs.Heaps.{Heap, create, is_created, is_length, length_of}
use Rattle.jd_heap.specs.References.{Null, Reference, is_null}
use Rattle.jd_heap.specs.Values.{BoolValue, HeapValue, IntValue, IsOf, RefValue, Value, as_bool, as_heap, as_int, as_ref, at_sort}
use Rattle.jd_model.proofs.Coincidence.{truth_agree}
use Rattle.jd_model.proofs.Contexts.{around, exec-fill}
use Rattle.jd_model.proofs.Modalities.{modal_alike}
use Rattle.jd_model.proofs.RightRows.{AllGiven}
use Rattle.jd_model.proofs.SimpleExpressions.{simple_eval, simple_of, value_of_simple}
use Rattle.jd_model.proofs.Wider.{fill_ctx, fill_in}
use Rattle.jd_model.proofs.Writes.{new_values, read_here, read_own, write_swap}
use Rattle.jd_model.specs.Contexts.{Context, Here, InBlock, InCatch, InFinally, InFrame, fill, one}
use Rattle.jd_model.specs.Occurrences.{Always, FormulaIn, HeapIn, NotIn}
use Rattle.jd_model.specs.Outcomes.{NoLength, Normal, after_block, after_catch, after_finally, after_frame, then}
use Rattle.jd_model.specs.Programs.{Program, is_exactly}
use Rattle.jd_model.specs.Runs.{exec, exec_at, magnitude, runner, with_values}
use Rattle.jd_model.specs.SimpleExpressions.{SimpleOf, term_of}
use Rattle.jd_model.specs.States.{State, heap_of, read, with_heap, write}
use Rattle.jd_model.specs.TermValues.{value}
use Rattle.jd_model.specs.Truth.{EndsIn, IfEnds, InvTruth, Setting, Truth}
use Rattle.jd_syntax.specs.CodeNames.{heap_name, same_name}
use Rattle.jd_syntax.specs.Codes.{AllocArray, AllocObject, Done, Expr, IntArray, IntLiteral, OfClass, PlainCode, Then, Variable}
use Rattle.jd_syntax.specs.Names.{Name}
use Rattle.jd_term.specs.Formulas.{Modal, PlainFormula}
use Rattle.jd_term.specs.declared.formula.Modality.{Modality}
use Rattle.jd_term.specs.declared.formula.Modality.TheVariants as modalities

fresh_some : (h : Heap) (c : ℕ) → is_null (fresh_object h c) ≡ false
unfolding fresh_object
fresh_some h c = refl

fresh_kind : (h : Heap) (c : ℕ) → is_exactly (OfClass c) (fresh_object h c) ≡ true
unfolding fresh_object
fresh_kind h c = eq-eqb c c refl

heap_always : (c : PlainCode) → HeapIn Always c
heap_always Done = tt
heap_always (Then s c) = tt

-- the code without its focus has the names of the code
module _ (Q : Name → Type 0) (m : Modality) (k : Context) (c : PlainCode) (a : PlainFormula) where
  pub without_focus : FormulaIn Always Q (Modal m (fill k c) a) → FormulaIn Always Q (Modal m (fill k Done) a)
  without_focus o = ((fill_in Always Always k Done (fill_ctx Always Always k c o.0.0) tt, heap_always (fill k Done)), o.1)

pub new_object_means : (g : Setting) (d : ℕ) (m : Modality) (k : Context) (x : Name) (c : ℕ) (r : Name) (a : PlainFormula) → r.sort ≡ RefSort → same_name x heap_name ≡ false → FormulaIn Always (λ y. NotIn y (r ∷ [])) (Modal m (fill k Done) a) → (i s : State) → AllGiven g d i s [] (r ∷ []) (allocation_premise x (ObjectOf c) r m k a ∷ []) → Truth g d i s [] (Modal m (fill k (one (AllocObject x c))) a)
new_object_means g d m k x c r a r_sort apart a_in i s h =
    subst (λ X. X) (sym (modal_alike g d (InvTruth g d) i [] m k (one (AllocObject x c)) Done a s made (λ f n. refl)))
    (subst (λ X. X) (truth_agree g d (InvTruth g d) Always (λ y. NotIn y (r ∷ [])) consts i (λ y o. sym (new_values (r ∷ []) (RefValue o_new ∷ []) i y o)) (Modal m (fill k Done) a) a_in [] made made (λ y u. refl))
    (subst (λ t. Truth g d consts t [] (Modal m (fill k Done) a)) same_state (h.0 (RefValue o_new ∷ []) (
      ((λ e. true≢false (sym (ap (λ v. is_null (as_ref v)) (sym is_new ∙ e)) ∙ fresh_some (heap_of s) c)), subst (λ v. is_exactly (OfClass c) (as_ref v) ≡ true) (sym is_new) (fresh_kind (heap_of s) c)),
      λ e. true≢false (sym (ap as_bool e) ∙ ap (λ v. is_created (heap_of s) (as_ref v)) is_new ∙ fresh_is_free (heap_of s) c),
    ))))
  where
    o_new : Reference
    o_new = fresh_object (heap_of s) c

    consts : State
    consts = with_values i (r ∷ []) (RefValue o_new ∷ [])

    made : State
    made = write (with_heap s (create (heap_of s) o_new)) x (RefValue o_new)

    is_new : read consts r ≡ RefValue o_new
    is_new = read_here i r (RefValue o_new) ∙ ap (λ q. at_sort q (RefValue o_new)) r_sort

    same_state : write (write s x (read consts r)) heap_name (HeapValue (create (heap_of s) (as_ref (read consts r)))) ≡ made
    same_state = (λ e. write (write s x (is_new e)) heap_name (HeapValue (create (heap_of s) (as_ref (is_new e))))) ∙ write_swap s x heap_name (RefValue o_new) (HeapValue (create (heap_of s) o_new)) apart

-- ---- an array: with a length that is none the run has no length, which both modalities take

around_no_length : (p : Program) (d n : ℕ) (k : Context) → around p (runner p d n) n k NoLength ≡ NoLength
unfolding around
around_no_length p d n (Here rest) = refl
around_no_length p d n (InBlock l k rest) = ap (λ o. then (after_block l o) (λ _ t. exec p (runner p d n) n rest t)) (around_no_length p d n k)
around_no_length p d n (InFrame r k rest) = ap (λ o. then (after_frame r o) (λ _ t. exec p (runner p d n) n rest t)) (around_no_length p d n k)
around_no_length p d n (InCatch k x h rest) = ap (λ o. then (after_catch o x (λ t. exec p (runner p d n) n h t)) (λ _ t. exec p (runner p d n) n rest t)) (around_no_length p d n k)
around_no_length p d n (InFinally k f rest) = ap (λ o. then (after_finally o (λ t. exec p (runner p d n) n f t)) (λ _ t. exec p (runner p d n) n rest t)) (around_no_length p d n k)

-- a focus that ends NoLength makes both modalities true
no_length_true : (g : Setting) (d : ℕ) (i s : State) (m : Modality) (k : Context) (c : PlainCode) (a : PlainFormula) → ((f n : ℕ) → exec_at g.program f n c s ≡ NoLength) → Truth g d i s [] (Modal m (fill k c) a)
no_length_true g d i s modalities.Necessity k c a h = λ n. subst (λ o. IfEnds o (λ t. Truth g d i t [] a)) (sym (exec-fill g.program (runner g.program d n) n k c s ∙ ap (around g.program (runner g.program d n) n k) (h d n) ∙ around_no_length g.program d n k)) tt
no_length_true g d i s modalities.Possibility k c a h = λ denied. denied 0 0 (subst (λ o. EndsIn o (λ t. Truth g d i t [] a)) (sym (exec-fill g.program (runner g.program 0 0) 0 k c s ∙ ap (around g.program (runner g.program 0 0) 0 k) (h 0 0) ∙ around_no_length g.program 0 0 k)) tt)

length_is : (v : Value) → IsOf IntSort v → is_length (as_int v) ≡ true → IntValue (cond (is_length (pos (magnitude (as_int v)))) (pos (magnitude (as_int v))) (pos 0)) ≡ v
length_is (IntValue (pos n)) o e = ap (λ b. IntValue (cond b (pos n) (pos 0))) e
length_is (IntValue (negsuc n)) o e = absurd (true≢false (sym e))
length_is v o e = absurd o

module _ (g : Setting) (d : ℕ) (x : Name) (e : Expr) (e_int : SimpleOf IntSort e) (o : Name) (o_sort : o.sort ≡ RefSort) (apart : same_name x heap_name ≡ false) (m : Modality) (k : Context) (a : PlainFormula) (a_in : FormulaIn Always (λ z. NotIn z (o ∷ [])) (Modal m (fill k Done) a)) (i s : State) where
  abbrev size : Value
  size = value i s [] (term_of e)

  abbrev pub made_array : Reference
  made_array = fresh_array (heap_of s) (magnitude (as_int size))

  abbrev array_j : State
  array_j = with_values i (o ∷ []) (RefValue made_array ∷ [])

  allocates : (f n : ℕ) (b : Bool) → is_length (as_int size) ≡ b → exec_at g.program f n (one (AllocArray x e)) s ≡ then (cond b (Normal (tt {0}) (write (with_heap s (create (heap_of s) made_array)) x (RefValue made_array))) NoLength) (λ _ t. Normal (tt {0}) t)
  allocates f n b q =
      ap (λ r. then (then r (λ v t. cond (is_length (as_int v)) (Normal (tt {0}) (write (with_heap t (create (heap_of t) (fresh_array (heap_of t) (magnitude (as_int v))))) x (RefValue (fresh_array (heap_of t) (magnitude (as_int v)))))) NoLength)) (λ _ t. Normal (tt {0}) t)) (simple_eval g.program i [] (runner g.program f n) n e (simple_of IntSort e e_int) s)
      ∙ ap (λ b. then (cond b (Normal (tt {0}) (write (with_heap s (create (heap_of s) made_array)) x (RefValue made_array))) NoLength) (λ _ t. Normal (tt {0}) t)) q

  array_is : read array_j o ≡ RefValue made_array
  array_is = read_own i o (RefValue made_array) (subst (λ z. IsOf z (RefValue made_array)) (sym o_sort) tt)

  abbrev array_t : State
  array_t = write (with_heap s (create (heap_of s) made_array)) x (RefValue made_array)

  array_swapped : write (write s x (read array_j o)) heap_name (HeapValue (create (as_heap (read s heap_name)) (as_ref (read array_j o)))) ≡ array_t
  array_swapped = (λ e. write (write s x (array_is e)) heap_name (HeapValue (create (heap_of s) (as_ref (array_is e)))))
      ∙ write_swap s x heap_name (RefValue made_array) (HeapValue (create (heap_of s) made_array)) apart

  -- the array is new, and its length is the number where that is one
  array_facts : is_length (as_int size) ≡ true → ((¬ (RefValue made_array ≡ RefValue Null)) × ((is_exactly IntArray made_array ≡ true) × (IntValue (length_of made_array) ≡ size))) × (¬ (BoolValue (is_created (heap_of s) made_array) ≡ BoolValue true))
  unfolding fresh_array
  array_facts q = (((λ e. true≢false (sym (ap (λ v. is_null (as_ref v)) e))), (refl, length_is size (value_of_simple i [] IntSort e e_int s) q)), λ e. true≢false (sym (ap as_bool e) ∙ fresh_array_is_free (heap_of s) (magnitude (as_int size))))

  same_size : value array_j s [] (term_of e) ≡ size
  same_size = by e e_int
    where
      by : (e : Expr) → SimpleOf IntSort e → value array_j s [] (term_of e) ≡ value i s [] (term_of e)
      by (IntLiteral z) q = refl
      by (Variable z) q = refl
      by e q = absurd q

  pub new_array_object : Truth g d array_j s [] (allocation_premise x (ArrayOf e) o m k a) → Truth g d i s [] (Modal m (fill k (one (AllocArray x e))) a)
  new_array_object h = by (is_length (as_int size)) refl
    where
      goes : is_length (as_int size) ≡ true → Truth g d array_j array_t [] (Modal m (fill k Done) a)
      goes q = subst (λ u. Truth g d array_j u [] (Modal m (fill k Done) a)) array_swapped (h (subst (λ (v : Value × Value). ((¬ (v.0 ≡ RefValue Null)) × ((is_exactly IntArray (as_ref v.0) ≡ true) × (IntValue (length_of (as_ref v.0)) ≡ v.1))) × (¬ (BoolValue (is_created (heap_of s) (as_ref v.0)) ≡ BoolValue true))) (λ z. (sym array_is z, sym same_size z)) (array_facts q)))

      by : (b : Bool) → is_length (as_int size) ≡ b → Truth g d i s [] (Modal m (fill k (one (AllocArray x e))) a)
      by false q = no_length_true g d i s m k (one (AllocArray x e)) a (λ f n. allocates f n false q)
      by true q = subst (λ X. X) (sym (modal_alike g d (InvTruth g d) i [] m k (one (AllocArray x e)) Done a s array_t (λ f n. allocates f n true q)))
          (subst (λ X. X) (sym (truth_agree g d (InvTruth g d) Always (λ z. NotIn z (o ∷ [])) i array_j (new_values (o ∷ []) (RefValue made_array ∷ []) i) (Modal m (fill k Done) a) a_in [] array_t array_t (λ z _. refl))) (goes q))
