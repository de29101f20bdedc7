-- What follows a run that is known, and what an exception of the machine brings.
use Rattle.std.proofs.Common.{◌≡◌, ℕ, Bool, true, false, cond, Some, None, refl, sym, ap, ◌∙◌, subst, true≢false}
use Rattle.std.proofs.lemmas.Bool.Decides.{Decides-eqb}
use Rattle.jd_syntax.specs.CodeNames.{heap_name}
use Rattle.jd_heap.specs.Codings.{same, same_decides}
use Rattle.jd_heap.specs.References.{Reference, Field, Created, location, is_created_field}
use Rattle.jd_heap.specs.ReferenceCodings.{location_coding, reference_coding}
use Rattle.jd_heap.specs.Heaps.{Heap, BoolEntry, entry, create, is_created, SameAt, int_in, bool_in, ref_in}
use Rattle.jd_heap.specs.Allocation.{fresh_object}
use Rattle.jd_heap.specs.Values.{Value, HeapValue}
use Rattle.jd_heap.proofs.Entries.{entry-create}
use Rattle.jd_heap.proofs.Fresh.{fresh_is_free}
use Rattle.jd_model.specs.States.{State, read, heap_of, with_heap}
use Rattle.jd_model.specs.Programs.{Program, is_exactly}
use Rattle.jd_syntax.specs.Codes.{OfClass}
use Rattle.jd_model.specs.Outcomes.{Outcome, Normal, Thrown, then}
use Rattle.jd_model.specs.Runs.{raise}
use Rattle.jd_model.specs.Examples.{ComesNew, ThrowsNew, Gives}
use Rattle.jd_model.specs.AllocationExamples.{CreateEmpties, CreateKeepsOthers}
use Rattle.jd_model.proofs.States.{read-write}
use Rattle.jd_model.proofs.Grows.{heap_written}

pub after_normal : {A B : Type 0} (o : Outcome A) (k : A → State → Outcome B) (v : A) (t : State) → o ≡ Normal v t → then o k ≡ k v t
after_normal o k v t e = ap (λ o. then o k) e

pub after_thrown : {A B : Type 0} (o : Outcome A) (k : A → State → Outcome B) (r : Reference) (t : State) → o ≡ Thrown r t → then o k ≡ Thrown r t
after_thrown o k r t e = ap (λ o. then o k) e

pub gives_by : (o : Outcome Value) (v w : Value) (t : State) → o ≡ Normal v t → v ≡ w → Gives o w
gives_by o v w t e f = subst (λ o. Gives o w) (sym e) f

-- locations of different objects differ
apart : (o r : Reference) (f g : Field) → same reference_coding o r ≡ false → (b : Bool) → same location_coding (location o f) (location r g) ≡ b → b ≡ false
apart o r f g n false e = refl
apart o r f g n true e = absurd (true≢false (sym ((same_decides reference_coding o r).1 (ap (λ l. l.at) ((same_decides location_coding (location o f) (location r g)).0 e))) ∙ n))

-- so do those of `created` and of another field
other_field : (o r : Reference) (f : Field) → is_created_field f ≡ false → (b : Bool) → same location_coding (location o f) (location r Created) ≡ b → b ≡ false
other_field o r f n false e = refl
other_field o r f n true e = absurd (true≢false (ap (λ l. is_created_field l.field) (sym ((same_decides location_coding (location o f) (location r Created)).0 e)) ∙ n))

pub created_here : (h : Heap) (o : Reference) → is_created (create h o) o ≡ true
created_here h o = ap bool_in (entry-create h o (location o Created) ∙ ap (λ b. cond b (Some (BoolEntry true)) (cond (same reference_coding o o) None (entry h (location o Created)))) ((same_decides location_coding (location o Created) (location o Created)).1 refl))

pub emptied : (h : Heap) (o : Reference) (f : Field) → is_created_field f ≡ false → entry (create h o) (location o f) ≡ None
emptied h o f n =
    entry-create h o (location o f)
    ∙ ap (λ b. cond b (Some (BoolEntry true)) (cond (same reference_coding o o) None (entry h (location o f)))) (other_field o o f n _ refl)
    ∙ ap (λ b. cond b None (entry h (location o f))) ((same_decides reference_coding o o).1 refl)

kept_entry : (h : Heap) (o q : Reference) (f : Field) → same reference_coding q o ≡ false → entry h (location q f) ≡ entry (create h o) (location q f)
kept_entry h o q f n = sym (entry-create h o (location q f)
    ∙ ap (λ b. cond b (Some (BoolEntry true)) (cond (same reference_coding q o) None (entry h (location q f)))) (apart q o f Created n _ refl)
    ∙ ap (λ b. cond b None (entry h (location q f))) n)

pub create_empties : CreateEmpties
create_empties h o f n = (created_here h o, emptied h o f n)

pub create_keeps_others : CreateKeepsOthers
create_keeps_others h o q f n = (ap int_in (kept_entry h o q f n), ap bool_in (kept_entry h o q f n), ap ref_in (kept_entry h o q f n))

fresh_class : (h : Heap) (c : ℕ) → is_exactly (OfClass c) (fresh_object h c) ≡ true
unfolding fresh_object
fresh_class h c = (Decides-eqb c c).1 refl

-- the object that `raise` makes is new
pub comes_new : (c : ℕ) (s : State) → ComesNew c s (fresh_object (heap_of s) c) (with_heap s (create (heap_of s) (fresh_object (heap_of s) c)))
comes_new c s =
    let r = fresh_object (heap_of s) c in
    let h : Heap = create (heap_of s) r in
    record {
      class = fresh_class (heap_of s) c;
      new = fresh_is_free (heap_of s) c;
      created = ap (λ k. is_created k r) (heap_written s h) ∙ created_here (heap_of s) r;
      fields = λ f n. ap (λ k. entry k (location r f)) (heap_written s h) ∙ emptied (heap_of s) r f n;
      others = λ o f n. subst (λ k. SameAt (heap_of s) k o f) (sym (heap_written s h)) (create_keeps_others (heap_of s) r o f n);
      variables = λ x n. read-write s heap_name (HeapValue h) x ∙ ap (λ b. cond b (HeapValue h) (read s x)) n;
    }

module _ (p : Program) {A : Type 0} where
  -- what equals `raise` throws a new object
  pub raises : (c : ℕ) (s : State) (o : Outcome A) → o ≡ raise p c s → ThrowsNew c s o
  raises c s o e = subst (ThrowsNew c s) (sym e) (comes_new c s)
