-- The premises of the counting step are valid.
use Rattle.std.proofs.Common.{◌≡◌, ℕ, ℤ, pos, ◌+ℤ◌, ◌-ℤ◌, int_lt, int_le, Bool, true, false, cond, Some, [], refl, sym, ap, ◌∙◌, subst, true≢false}
use Rattle.jd_base.specs.declared.sort.Sort.TheVariants.{Int as IntSort, Bool as BoolSort, Ref as RefSort}
use Rattle.jd_base.specs.declared.sort.Sort.{Sort}
use Rattle.jd_syntax.specs.Names.{Name}
use Rattle.jd_syntax.specs.CodeNames.{same_name, heap_name}
use Rattle.jd_heap.specs.References.{Reference, Field}
use Rattle.jd_heap.specs.Heaps.{Heap, is_created, anon}
use Rattle.jd_heap.specs.Values.{Value, IntValue, BoolValue, HeapValue, as_int, as_bool, as_ref, as_heap, as_field, select_at, IsOf}
use Rattle.jd_heap.proofs.HeapLaws.{select_over_anon}
use Rattle.jd_model.specs.SpecialNames.{thrown_variable}
use Rattle.jd_model.specs.States.{State, read, write}
use Rattle.jd_model.specs.Outcomes.{Outcome, Normal, Returned, Stopped, then, after_frame, after_catch}
use Rattle.jd_model.specs.Runs.{wrap32}
use Rattle.jd_model.specs.WellFormedHeaps.{in_int}
use Rattle.jd_model.specs.Truth.{Setting, Truth, IsWf, EndsIn}
use Rattle.jd_model.specs.Validity.{AllValid}
use Rattle.jd_model.proofs.States.{read_of}
use Rattle.jd_model.proofs.Writes.{read_here, read_there}
use Rattle.jd_loop.specs.CountingMethod.{n, i, t, int_result}
use Rattle.jd_loop.specs.CountingLoop.{heap_before, heap_now, variant_before, mark, i_before, i_now, t_before, t_now, goal, counting_invariant, counting_frame, counting_falls, counting_turn, counting_premises}
use Rattle.jd_loop.proofs.CountingNumbers.{no_more, Counted, counted}

false_true : BoolValue false ≡ BoolValue true → ⊥
false_true e = true≢false (sym (ap as_bool e))

int_of : (v : Value) → IsOf IntSort v → v ≡ IntValue (as_int v)
int_of (IntValue z) o = refl
int_of v o = absurd o

module _ (g : Setting) (d : ℕ) (j s : State) where
  -- behind `i = 0`, behind the saving and the renewing update, and where the turn starts
  s1 : State
  s1 = write s i (IntValue (pos 0))

  s2 : State
  s2 = write (write (write s1 heap_before (read s1 heap_name)) i_before (read s1 i)) t_before (read s1 t)

  any_heap : Heap
  any_heap = anon (as_heap (read s2 heap_name)) (λ q. false) (as_heap (read j heap_now))

  s3 : State
  s3 = write (write (write s2 heap_name (HeapValue any_heap)) i (read j i_now)) t (read j t_now)

  s4 : State
  s4 = write (write s3 variant_before (IntValue (as_int (read s3 n) -ℤ as_int (read s3 i)))) mark (BoolValue false)

  -- in a turn, and behind it
  s5 : State
  s5 = write s4 t (read s4 i)

  z : State
  z = write (write s5 i (IntValue (wrap32 (as_int (read s5 t) +ℤ pos 1)))) mark (BoolValue true)

  u : State
  u = write s4 int_result (IntValue (pos 0))

  x : ℤ
  x = as_int (read s3 i)

  y : ℤ
  y = as_int (read s3 n)

  -- ---- what is read there
  n_three : read s3 n ≡ read s n
  unfolding s1 s2 s3
  n_three = read_there _ t (read j t_now) n refl ∙ read_there _ i (read j i_now) n refl ∙ read_there s2 heap_name (HeapValue any_heap) n refl
      ∙ read_there _ t_before (read s1 t) n refl ∙ read_there _ i_before (read s1 i) n refl ∙ read_there s1 heap_before (read s1 heap_name) n refl ∙ read_there s i (IntValue (pos 0)) n refl

  heap_two : read s2 heap_name ≡ read s1 heap_name
  unfolding s2
  heap_two = read_there _ t_before (read s1 t) heap_name refl ∙ read_there _ i_before (read s1 i) heap_name refl ∙ read_there s1 heap_before (read s1 heap_name) heap_name refl

  before_two : as_heap (read s2 heap_before) ≡ as_heap (read s1 heap_name)
  unfolding s2
  before_two = ap as_heap (read_there _ t_before (read s1 t) heap_before refl ∙ read_there _ i_before (read s1 i) heap_before refl ∙ read_here s1 heap_before (read s1 heap_name))

  heap_three : as_heap (read s3 heap_name) ≡ any_heap
  unfolding s3
  heap_three = ap as_heap (read_there _ t (read j t_now) heap_name refl ∙ read_there _ i (read j i_now) heap_name refl ∙ read_here s2 heap_name (HeapValue any_heap))

  before_three : as_heap (read s3 heap_before) ≡ as_heap (read s2 heap_name)
  unfolding s3
  before_three = ap as_heap (read_there _ t (read j t_now) heap_before refl ∙ read_there _ i (read j i_now) heap_before refl ∙ read_there s2 heap_name (HeapValue any_heap) heap_before refl)
      ∙ before_two ∙ ap as_heap (sym heap_two)

  four : (q : Name) → same_name q mark ≡ false → same_name q variant_before ≡ false → read s4 q ≡ read s3 q
  unfolding s4
  four q p r = read_there _ mark (BoolValue false) q p ∙ read_there s3 variant_before _ q r

  variant_four : as_int (read s4 variant_before) ≡ y -ℤ x
  unfolding s4 x y
  variant_four = ap as_int (read_there _ mark (BoolValue false) variant_before refl ∙ read_here s3 variant_before _)

  -- behind a turn
  ended : (q : Name) → same_name q mark ≡ false → same_name q i ≡ false → same_name q t ≡ false → read z q ≡ read s4 q
  unfolding z s5
  ended q p r w = read_there _ mark (BoolValue true) q p ∙ read_there _ i _ q r ∙ read_there s4 t (read s4 i) q w

  mark_z : read z mark ≡ BoolValue true
  unfolding z
  mark_z = read_here _ mark (BoolValue true)

  t_five : as_int (read s5 t) ≡ x
  unfolding s5 x
  t_five = ap as_int (read_here s4 t (read s4 i) ∙ ap (λ v. IntValue (as_int v)) (four i refl refl))

  i_z : as_int (read z i) ≡ wrap32 (x +ℤ pos 1)
  unfolding z
  i_z = ap as_int (read_there _ mark (BoolValue true) i refl ∙ read_here s5 i _) ∙ ap (λ k. wrap32 (k +ℤ pos 1)) t_five

  n_z : as_int (read z n) ≡ y
  unfolding y
  n_z = ap as_int (ended n refl refl refl ∙ four n refl refl)

  heap_z : read z heap_name ≡ read s3 heap_name
  heap_z = ended heap_name refl refl refl ∙ four heap_name refl refl

  before_z : read z heap_before ≡ read s3 heap_before
  before_z = ended heap_before refl refl refl ∙ four heap_before refl refl

  -- ---- what holds behind it
  same_selects : (o : Reference) (f : Field) → is_created (as_heap (read z heap_before)) o ≡ true → (k : Sort) → select_at k (as_heap (read z heap_name)) o f ≡ select_at k (as_heap (read z heap_before)) o f
  unfolding any_heap
  same_selects o f made k =
      ap (λ h. select_at k (as_heap h) o f) heap_z ∙ ap (λ h. select_at k h o f) heap_three
      ∙ select_over_anon.outside k (as_heap (read s2 heap_name)) (as_heap (read j heap_now)) (λ q. false) o f refl (ap (λ h. is_created h o) (sym before_three ∙ ap as_heap (sym before_z)) ∙ made)
      ∙ ap (λ h. select_at k h o f) (sym before_three ∙ ap as_heap (sym before_z))

  framed : Truth g d j z [] counting_frame
  framed v o f p q = q.1 (λ r. r.0 (λ made. r.1 (
    same_selects (as_ref v) (as_field f) (ap as_bool made) IntSort,
    (same_selects (as_ref v) (as_field f) (ap as_bool made) BoolSort, same_selects (as_ref v) (as_field f) (ap as_bool made) RefSort),
  )))

  module _ (n_in : in_int (as_int (read s n)) ≡ true) (w : Truth g d j s3 [] counting_invariant) where
    y_in : in_int y ≡ true
    unfolding y
    y_in = ap (λ v. in_int (as_int v)) n_three ∙ n_in

    turned : int_lt x y ≡ true → Truth g d j z [] counting_invariant × (Truth g d j z [] counting_frame × Truth g d j z [] counting_falls)
    unfolding x y
    turned p =
        let c : Counted x y = counted x y w.1.1.0 p y_in in
        let next : as_int (read z i) ≡ x +ℤ pos 1 = i_z ∙ c.wraps in
        let old : as_int (read z variant_before) ≡ y -ℤ x = ap as_int (ended variant_before refl refl refl) ∙ variant_four in (
          (
            subst (λ v. IsWf g v) (sym heap_z) w.0,
            (ap in_int next ∙ c.in_range, (ap (int_le (pos 0)) next ∙ c.not_negative, (λ e. int_le (next e) (n_z e)) ∙ c.below)),
          ),
          (framed, (ap (int_le (pos 0)) old ∙ c.bound, (λ e. int_lt (n_z e -ℤ next e) (old e)) ∙ c.falls)),
        )

    -- what is behind the statement at the focus
    abbrev rest : Outcome (Unit {0}) → Outcome (Unit {0})
    rest o = then (after_catch (then (after_frame (Some int_result) (then o (λ _ t. Returned (Some (IntValue (pos 0))) t))) (λ _ t. Normal (tt {0}) t)) thrown_variable (λ t. Normal (tt {0}) t)) (λ _ t. Normal (tt {0}) t)

    abbrev Wanted : State → Type 0
    Wanted q = ((read q mark ≡ BoolValue false → Truth g d j q [] goal) × (read q mark ≡ BoolValue true → Truth g d j q [] counting_invariant × (Truth g d j q [] counting_frame × Truth g d j q [] counting_falls)))

    unmarked : read u mark ≡ BoolValue false
    unfolding u s4
    unmarked = read_there _ int_result (IntValue (pos 0)) mark refl ∙ read_here _ mark (BoolValue false)

    less_three : (b : Bool) → int_lt (as_int (read s4 i)) (as_int (read s4 n)) ≡ b → int_lt x y ≡ b
    unfolding x y
    less_three b p = (λ e. int_lt (as_int (sym (four i refl refl) e)) (as_int (sym (four n refl refl) e))) ∙ p

    ends : int_lt x y ≡ false → read u i ≡ read u n
    unfolding u x y
    ends p =
        read_there s4 int_result (IntValue (pos 0)) i refl ∙ four i refl refl ∙ int_of (read s3 i) (read_of s3 i)
        ∙ ap IntValue (no_more (as_int (read s3 i)) (as_int (read s3 n)) p w.1.1.1)
        ∙ sym (read_there s4 int_result (IntValue (pos 0)) n refl ∙ four n refl refl ∙ int_of (read s3 n) (read_of s3 n))

    choose : (b : Bool) → int_lt (as_int (read s4 i)) (as_int (read s4 n)) ≡ b → EndsIn (rest (cond b (Stopped z) (Normal (tt {0}) s4))) Wanted
    unfolding u
    choose true p = (λ m. absurd (false_true (sym m ∙ mark_z)), λ m. turned (less_three true p))
    choose false p = (λ m. (read_here s4 int_result (IntValue (pos 0)), ends (less_three false p)), λ m. absurd (false_true (sym unmarked ∙ m)))

  turn_true : in_int (as_int (read s n)) ≡ true → Truth g d j s1 [] counting_turn
  unfolding any_heap s1 s2 s3 s4 s5 z
  turn_true n_in w none = none 0 0 (choose n_in w (int_lt (as_int (read s4 i)) (as_int (read s4 n))) refl)

  start_true : IsWf g (read s heap_name) → int_le (pos 0) (as_int (read s n)) ≡ true → Truth g d j s1 [] counting_invariant
  unfolding s1
  start_true wf le =
      let zero : as_int (read (write s i (IntValue (pos 0))) i) ≡ pos 0 = ap as_int (read_here s i (IntValue (pos 0))) in (
        subst (λ v. IsWf g v) (sym (read_there s i (IntValue (pos 0)) heap_name refl)) wf,
        (ap in_int zero, (ap (int_le (pos 0)) zero, (λ e. int_le (zero e) (as_int (read_there s i (IntValue (pos 0)) n refl e))) ∙ le)),
      )

pub counting_valid : (g : Setting) (d : ℕ) (m : ℤ) → AllValid g d m counting_premises
unfolding s1
counting_valid g d m = (
  λ j s e r. r.1.0 (start_true g d j s r.0.0 r.0.1.1.0),
  (λ j s e r. r.1.0 (turn_true g d j s r.0.1.0), tt),
)
