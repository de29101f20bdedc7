-- The rule for loops keeps truth: box by induction on turns, diamond by induction on the variant.
use Rattle.std.proofs.Common.{◌≡◌, ℕ, suc, ◌<◌, true, false, ℤ, pos, negsuc, int_lt, int_le, ltb→lt, T, List, refl, sym, ap, ◌∙◌, subst, true≢false, arith}
use Rattle.jd_heap.specs.Heaps.{Heap, is_created, SameAt}
use Rattle.jd_heap.specs.References.{Reference, location}
use Rattle.jd_heap.specs.Values.{Value, IntValue, BoolValue, HeapValue, as_int, as_heap}
use Rattle.jd_loop.proofs.LoopStates.{Fixed, written_apart, fixed_no_heap, written_no_heap, new_apart, mark_new, bound_new, old_mark, old_bound, bound_mark, mark_heap_before, heap_before_bound, before_mark, before_bound, start, start_old, start_mark, Fits, Keeps, fits, fits_but, start_keeps, start_within, Framed, start_framed, chosen, chosen_old, renewed, renewed_old, begun, begun_else, begun_bound, premise_there}
use Rattle.jd_loop.proofs.NewNames.{Written, AreNewNames, NamesAreOld, OldVariable, OldConstant}
use Rattle.jd_loop.specs.LoopNames.{LoopNames, new_constants}
use Rattle.jd_loop.specs.LoopPremises.{start_locations, variant_falls, turn_code, after_turn, turn_premise, loop_formula}
use Rattle.jd_model.proofs.Coincidence.{Agree, Alike, by_writes, agree_write, OutcomesAgree, normal, broke, returned, thrown, stopped, no_length, not_ended, exec_at_agree, truth_agree, value_agree}
use Rattle.jd_model.proofs.FrameTruth.{frame_truth}
use Rattle.jd_model.proofs.KeptByCode.{keeps_test, keeps_body}
use Rattle.jd_model.proofs.MarkedTurns.{Wants, box_by_turns, diamond_by_turns}
use Rattle.jd_model.proofs.Wider.{expr_wider, code_wider, ctx_wider, chain_in, fill_in, fill_ctx, fill_focus}
use Rattle.jd_model.proofs.Writes.{flip_apart, read_there}
use Rattle.jd_model.specs.Bodies.{AllAssignNoHeap}
use Rattle.jd_model.specs.Conjunctions.{frame}
use Rattle.jd_model.specs.Contexts.{Context, fill, one}
use Rattle.jd_model.specs.Occurrences.{ExprIn, CodeIn, HeapIn, FormulaIn, LocIn, Always, But, ContextIn}
use Rattle.jd_model.specs.Outcomes.{Outcome}
use Rattle.jd_model.specs.Runs.{exec_at, with_values}
use Rattle.jd_model.specs.States.{State, read, write, heap_of, with_heap}
use Rattle.jd_model.specs.TermValues.{value}
use Rattle.jd_model.specs.Truth.{Setting, truth, IfEnds, EndsIn}
use Rattle.jd_syntax.specs.CodeNames.{same_name, heap_name}
use Rattle.jd_syntax.specs.Codes.{Expr, While, PlainCode, Done, Then, Set, Stop, BoolLiteral}
use Rattle.jd_syntax.specs.Names.{Name}
use Rattle.jd_term.specs.Formulas.{PlainFormula, Modal}
use Rattle.jd_term.specs.Terms.{PlainTerm, ProgramVariable, PlainLoc}
use Rattle.jd_term.specs.declared.formula.Modality.{Modality}
use Rattle.jd_term.specs.declared.formula.Modality.TheVariants as modalities

-- runs that agree: what the second's end has gives what the first's is to have
if_ends_by : {A : Type 0} {R : State → State → Type 0} {o q : Outcome A} → (F G : State → Type 0) → OutcomesAgree R o q → ((z y : State) → R z y → F y → G z) → IfEnds q F → IfEnds o G
if_ends_by F G (normal h) m f = m _ _ h f
if_ends_by F G (broke h) m f = tt
if_ends_by F G (returned h) m f = tt
if_ends_by F G (thrown h) m f = tt
if_ends_by F G (stopped h) m f = m _ _ h f
if_ends_by F G no_length m f = tt
if_ends_by F G not_ended m f = tt

ends_in_by : {A : Type 0} {R : State → State → Type 0} {o q : Outcome A} → (F G : State → Type 0) → OutcomesAgree R o q → ((z y : State) → R z y → F y → G z) → EndsIn q F → EndsIn o G
ends_in_by F G (normal h) m f = m _ _ h f
ends_in_by F G (broke h) m f = f
ends_in_by F G (returned h) m f = f
ends_in_by F G (thrown h) m f = f
ends_in_by F G (stopped h) m f = m _ _ h f
ends_in_by F G no_length m f = f
ends_in_by F G not_ended m f = f

heap_in_code : (P : Name → Type 0) → P heap_name → (c : PlainCode) → HeapIn P c
heap_in_code P h Done = tt
heap_in_code P h (Then s c) = h

-- a variant as a natural number: a negative one is the least
abbrev pub measure : ℤ → ℕ
measure (pos x) = suc x
measure (negsuc x) = 0

pub falls_below : (x y : ℤ) → int_le (pos 0) x ≡ true → int_lt y x ≡ true → measure y < measure x
falls_below (pos x) (pos y) p q = let e : y < x = ltb→lt y x (subst T (sym q) tt) in omega arith
falls_below (pos x) (negsuc y) p q = omega arith
falls_below (negsuc x) y p q = absurd (true≢false (sym p))

module _ (g : Setting) (d : ℕ) (inv : Heap → Reference → Type 0) (bodies : AllAssignNoHeap g.program) (n : LoopNames) (ok : AreNewNames n) (k : Context) (j : ℕ) (e : Expr) (c : PlainCode) (a w : PlainFormula) (l : PlainLoc) (v : PlainTerm) (uses : NamesAreOld n k j e c a w l v) (i s : State) (b : List Value) where
  abbrev l_in : LocIn (OldVariable n) (OldConstant n) l
  l_in = uses.locations_in

  -- ---- the names of the code
  loop_in : CodeIn (OldVariable n) (OldVariable n) (one (While j e c))
  loop_in = fill_focus (OldVariable n) (OldVariable n) k (one (While j e c)) uses.code_in

  context_in : ContextIn (OldVariable n) (OldVariable n) k
  context_in = fill_ctx (OldVariable n) (OldVariable n) k (one (While j e c)) uses.code_in

  unmarked_by : (x : Name) → OldVariable n x → But n.mark x
  unmarked_by x o = new_apart n ok n.mark x (mark_new n ok) o

  abbrev NotBound : Name → Type 0
  NotBound x = same_name x n.variant_before ≡ false

  mark_not_bound : NotBound n.mark
  mark_not_bound = flip_apart n.variant_before n.mark (bound_mark n ok)

  heap_not_bound : NotBound heap_name
  heap_not_bound = old_bound n ok heap_name ok.heap_old

  k_mark : ContextIn Always (But n.mark) k
  k_mark = ctx_wider (OldVariable n) (OldVariable n) Always (But n.mark) (λ x o. tt) unmarked_by k context_in

  e_mark : ExprIn Always (But n.mark) e
  e_mark = expr_wider (OldVariable n) (OldVariable n) Always (But n.mark) (λ x o. tt) unmarked_by e loop_in.0.0

  c_mark : CodeIn Always (But n.mark) c
  c_mark = code_wider (OldVariable n) (OldVariable n) Always (But n.mark) (λ x o. tt) unmarked_by c loop_in.0.1

  turn_code_in : CodeIn NotBound NotBound (fill k (turn_code n.mark e c))
  turn_code_in = fill_in NotBound NotBound k (turn_code n.mark e c) (ctx_wider (OldVariable n) (OldVariable n) NotBound NotBound (old_bound n ok) (old_bound n ok) k context_in) (
    (
      expr_wider (OldVariable n) (OldVariable n) NotBound NotBound (old_bound n ok) (old_bound n ok) e loop_in.0.0,
      chain_in NotBound NotBound c (Then (Set n.mark (BoolLiteral true)) (Then Stop Done)) (code_wider (OldVariable n) (OldVariable n) NotBound NotBound (old_bound n ok) (old_bound n ok) c loop_in.0.1) ((mark_not_bound, tt), (tt, tt)),
      tt,
    ),
    tt,
  )

  -- ---- what the loop keeps
  abbrev After : State → Type 0
  After z = truth g d inv i z b a

  abbrev Invariant : State → Type 0
  Invariant z = truth g d inv i z b w × (Fits n ok s z → Framed n ok s i b l l_in z)

  abbrev var : State → ℕ
  var z = measure (as_int (value i z b v))

  old_marked : (z : State) → Agree (OldVariable n) (write z n.mark (BoolValue true)) z
  old_marked z x o = read_there z n.mark (BoolValue true) x (old_mark n ok x o)

  blind : (z : State) → Invariant (write z n.mark (BoolValue true)) → Invariant z
  blind z h = (
    subst (λ X. X) (truth_agree g d inv (OldVariable n) (OldConstant n) i i (λ x o. refl) w uses.invariant_in b (write z n.mark (BoolValue true)) z (old_marked z)) h.0,
    λ f o fd out made. subst (λ q. SameAt q (heap_of s) o fd) (ap as_heap (old_marked z heap_name ok.heap_old))
        (h.1 (fits_but n ok s n.mark (mark_new n ok) (flip_apart n.mark n.heap_before (mark_heap_before n ok)) (before_mark n ok) z (write z n.mark (BoolValue true)) (λ x u. read_there z n.mark (BoolValue true) x u) f) o fd out made),
  )

  blind_var : (z : State) → value i (write z n.mark (BoolValue true)) b v ≡ value i z b v
  blind_var z = value_agree (OldVariable n) (OldConstant n) i i (write z n.mark (BoolValue true)) z (λ x o. refl) (old_marked z) v uses.variant_in b

  -- a state, and the state of the premise, which has the variant's old value
  abbrev Lag : Value → State → State → Type 0
  Lag old z y = Agree NotBound z y × (read y n.variant_before ≡ old)

  lag_alike : (old : Value) → Alike NotBound NotBound (Lag old)
  lag_alike old = by_writes NotBound NotBound (Lag old) (λ x o z y h. h.0 x o)
      (λ x o u z y h. (agree_write NotBound z y x u u refl h.0, read_there y x u n.variant_before (flip_apart x n.variant_before o) ∙ h.1))
      heap_not_bound heap_not_bound

  lag_any : (old : Value) (h : Heap) (z y : State) → Lag old z y → Lag old (with_heap z h) (with_heap y h)
  lag_any old h z y r = (lag_alike old).writes heap_name heap_not_bound (HeapValue h) z y r

  -- what is so after a turn
  ended : (m : Modality) (q : State) → Agree (OldConstant n) q i → (old : Value) (z y : State) → Lag old z y → truth g d inv q y b (after_turn m n w l v a) → (read z n.mark ≡ BoolValue false → After z) × (read z n.mark ≡ BoolValue true → Invariant z × truth g d inv q y b (variant_falls m n v))
  ended m q cs old z y h t = (
    λ p. same_truth a uses.formula_in (t.0 (sym (h.0 n.mark mark_not_bound) ∙ p)),
    λ p. let r = t.1 (sym (h.0 n.mark mark_not_bound) ∙ p) in ((same_truth w uses.invariant_in r.0, framed r.1.0), r.1.1),
  )
    where
      same_truth : (x : PlainFormula) → FormulaIn (OldVariable n) (OldConstant n) x → truth g d inv q y b x → truth g d inv i z b x
      same_truth x x_in f = subst (λ X. X) (truth_agree g d inv (OldVariable n) (OldConstant n) q i cs x x_in b y z (λ u o. sym (h.0 u (old_bound n ok u o)))) f

      framed : truth g d inv q y b (frame (start_locations n l) (ProgramVariable n.heap_before)) → Fits n ok s z → Framed n ok s i b l l_in z
      framed t f o fd out made =
          let fy : Fits n ok s y = fits_but n ok s n.variant_before (bound_new n ok) (heap_before_bound n ok) (before_bound n ok) z y (λ x u. sym (h.0 x u)) f in
          let there : SameAt (heap_of y) (as_heap (read y n.heap_before)) o fd = frame_truth g d inv q y b (start_locations n l) (ProgramVariable n.heap_before) t o fd
          (start_within n ok s i b l l_in q y cs fy (location o fd) ∙ out)
          (ap (λ x. is_created (as_heap x) o) fy.1 ∙ made) in
          subst (λ x. SameAt (as_heap x) (heap_of s) o fd) (sym (h.0 heap_name heap_not_bound)) (subst (λ x. SameAt (heap_of y) (as_heap x) o fd) fy.1 there)

  abbrev Begins : State → Type 0
  Begins t = Invariant t × (read t n.mark ≡ BoolValue false) × Keeps n ok s t

  -- the state of the premise that stands for t
  module _ (t : State) (st : Begins t) where
    frames : Framed n ok s i b l l_in t
    frames = st.0.1 (fits n ok s t st.2)

    abbrev there : State
    there = begun n ok s i b l l_in v uses.variant_in t st.2 frames st.1

    abbrev consts : State
    consts = chosen n ok s i b l l_in v uses.variant_in t st.2 frames st.1

    consts_old : Agree (OldConstant n) consts i
    consts_old = chosen_old n ok s i b l l_in v uses.variant_in t st.2 frames st.1

    abbrev old_value : Value
    old_value = IntValue (as_int (value i t b v))

    lags : Lag old_value t there
    lags = (begun_else n ok s i b l l_in v uses.variant_in t st.2 frames st.1, begun_bound n ok s i b l l_in v uses.variant_in t st.2 frames st.1)

    runs_agree : (f m : ℕ) → OutcomesAgree (Lag old_value) (exec_at g.program f m (fill k (turn_code n.mark e c)) t) (exec_at g.program f m (fill k (turn_code n.mark e c)) there)
    runs_agree f m = exec_at_agree NotBound NotBound (Lag old_value) (lag_alike old_value) g.program (lag_any old_value) f m (fill k (turn_code n.mark e c)) turn_code_in t there lags

    turn_truth : (m : Modality) → ((vs : List Value) → truth g d inv (with_values i (new_constants n) vs) s b (turn_premise m n w l v k e c a)) → truth g d inv consts there b (Modal m (fill k (turn_code n.mark e c)) (after_turn m n w l v a))
    turn_truth m p = premise_there n ok s i b l l_in v uses.variant_in t st.2 frames st.1 g d inv w (Modal m (fill k (turn_code n.mark e c)) (after_turn m n w l v a)) p
        (subst (λ X. X) (truth_agree g d inv (OldVariable n) (OldConstant n) i consts (λ x o. sym (consts_old x o)) w uses.invariant_in b t (renewed n ok s i b l l_in v uses.variant_in t st.2 frames st.1) (λ x o. sym (renewed_old n ok s i b l l_in v uses.variant_in t st.2 frames st.1 x o))) st.0.0)

    lower : (z y : State) → Lag old_value z y → truth g d inv consts y b (variant_falls modalities.Possibility n v) → var z < var t
    lower z y h f =
        let same : value consts y b v ≡ value i z b v = value_agree (OldVariable n) (OldConstant n) consts i y z consts_old (λ u o. sym (h.0 u (old_bound n ok u o))) v uses.variant_in b in
        falls_below (as_int (value i t b v)) (as_int (value i z b v))
        (subst (λ x. int_le (pos 0) (as_int x) ≡ true) h.1 f.0)
        (subst (λ x. int_lt (as_int x) (as_int (value i t b v)) ≡ true) same (subst (λ x. int_lt (as_int (value consts y b v)) (as_int x) ≡ true) h.1 f.1))

  begins : truth g d inv i s b w → Begins (start n ok s)
  begins h = (
    (
      subst (λ X. X) (truth_agree g d inv (OldVariable n) (OldConstant n) i i (λ x o. refl) w uses.invariant_in b s (start n ok s) (λ x o. sym (start_old n ok s x o))) h,
      λ f. start_framed n ok s i b l l_in,
    ),
    start_mark n ok s,
    start_keeps n ok s,
  )

  from_start : (m : Modality) → truth g d inv i (start n ok s) b (loop_formula m k j e c a) → truth g d inv i s b (loop_formula m k j e c a)
  from_start m h = subst (λ X. X) (truth_agree g d inv (OldVariable n) (OldConstant n) i i (λ x o. refl) (loop_formula m k j e c a) ((uses.code_in, heap_in_code (OldVariable n) ok.heap_old (fill k (one (While j e c)))), uses.formula_in) b (start n ok s) s (start_old n ok s)) h

  pub necessity_sound : truth g d inv i s b w → ((vs : List Value) → truth g d inv (with_values i (new_constants n) vs) s b (turn_premise modalities.Necessity n w l v k e c a)) → truth g d inv i s b (loop_formula modalities.Necessity k j e c a)
  necessity_sound h p = from_start modalities.Necessity (λ m. box_by_turns g.program k e c n.mark ok.mark_sort (unmarked_by heap_name ok.heap_old) k_mark e_mark c_mark Invariant (Keeps n ok s) After d m
      (keeps_test (Written n) (Fixed n ok) (written_apart n ok) (fixed_no_heap n ok) (written_no_heap n ok) (start n ok s) (heap_of s) g.program bodies d m e uses.test_writes) (keeps_body (Written n) (Fixed n ok) (written_apart n ok) (fixed_no_heap n ok) (written_no_heap n ok) (start n ok s) (heap_of s) g.program bodies d m c uses.body_writes) blind
      (λ t st. if_ends_by (λ y. truth g d inv (consts t st) y b (after_turn modalities.Necessity n w l v a)) (Wants n.mark After Invariant) (runs_agree t st d m)
      (λ z y r q. let x = ended modalities.Necessity (consts t st) (consts_old t st) (old_value t st) z y r q in (x.0, λ o. (x.1 o).0))
      (turn_truth t st modalities.Necessity p m))
      j (start n ok s) (begins h))

  pub possibility_sound : truth g d inv i s b w → ((vs : List Value) → truth g d inv (with_values i (new_constants n) vs) s b (turn_premise modalities.Possibility n w l v k e c a)) → truth g d inv i s b (loop_formula modalities.Possibility k j e c a)
  possibility_sound h p = from_start modalities.Possibility (diamond_by_turns g.program k e c n.mark ok.mark_sort (unmarked_by heap_name ok.heap_old) k_mark e_mark c_mark Invariant (Keeps n ok s) After var
      (λ f m. keeps_test (Written n) (Fixed n ok) (written_apart n ok) (fixed_no_heap n ok) (written_no_heap n ok) (start n ok s) (heap_of s) g.program bodies f m e uses.test_writes) (λ f m. keeps_body (Written n) (Fixed n ok) (written_apart n ok) (fixed_no_heap n ok) (written_no_heap n ok) (start n ok s) (heap_of s) g.program bodies f m c uses.body_writes)
      (λ x z q. (blind z q.0, subst (λ y. measure (as_int y) < x) (blind_var z) q.1))
      (λ t st no. turn_truth t st modalities.Possibility p (λ f m q. no f m (ends_in_by (λ y. truth g d inv (consts t st) y b (after_turn modalities.Possibility n w l v a)) (Wants n.mark After (λ z. Invariant z × (var z < var t))) (runs_agree t st f m)
      (λ z y r u. let x = ended modalities.Possibility (consts t st) (consts_old t st) (old_value t st) z y r u in (x.0, λ o. let y2 = x.1 o in (y2.0, lower t st z y r y2.1)))
      q)))
      j (start n ok s) (begins h))
