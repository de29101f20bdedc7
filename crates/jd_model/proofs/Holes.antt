-- A term of equal value in a term's place gives equal values and truth; a formula of equal truth does so too in a place where no state changes.
use Rattle.std.proofs.Common.{◌≡◌, ℕ, true, ◌&&◌, ◌||◌, neg_ℤ, int_lt, int_le, List, [], ◌∷◌, ◌++◌, ap}
use Rattle.jd_heap.specs.Codings.{same}
use Rattle.jd_heap.specs.Heaps.{Heap, create, anon, length_of}
use Rattle.jd_heap.specs.ReferenceCodings.{location_coding, reference_coding}
use Rattle.jd_heap.specs.References.{Reference, Location, Index, location}
use Rattle.jd_heap.specs.Values.{Value, IntValue, HeapValue, FieldValue, as_int, as_ref, as_heap, as_field, IsOf, select_at, store_value}
use Rattle.jd_model.specs.Holes.{WholeTerm, Around, Hole, NotH, AndL, OrL, ImpL, IffL, AndR, OrR, ImpR, IffR, AllH, ExH, UpdH, ModalH, plug, Calm, TermHole, LocHole, AtomHole, UpdRight, fill_term, fill_loc, fill_atom, Arith1, Arith2, Neg0, Wrap0, Len0, Select1, Select2, Select3, Sum0, Sum1, Sum2, StoreT0, StoreT1, StoreT2, StoreT3, CreateT0, CreateT1, AnonT0, AnonT1, AnonT2, IdxT0, LLoc0, LLoc1, LObj0, LArrAll0, LArr0, LArr1, LArr2, LUnion0, LUnion1, Eq0, Eq1, Lt0, Lt1, Le0, Le1, In0, In1, In2, InInt0, Wf0, Inv0, Inv1, Inst1, Exact1}
use Rattle.jd_model.specs.Programs.{is_instance, is_exactly}
use Rattle.jd_model.specs.Runs.{wrap32}
use Rattle.jd_model.specs.States.{State, write}
use Rattle.jd_model.specs.TermValues.{updated, value, within, sum_range, arithmetic, is_index, in_range}
use Rattle.jd_model.specs.Truth.{Setting, truth, EitherOf, IsWf}
use Rattle.jd_model.specs.WellFormedHeaps.{in_int}
use Rattle.jd_syntax.specs.Names.{Name}
use Rattle.jd_term.specs.Formulas.{Pairs, PlainFormula}
use Rattle.jd_term.specs.Terms.{PlainTerm}

module _ (i s : State) (t u : PlainTerm) (equal : (b : List Value) → value i s b t ≡ value i s b u) where
  mutual
    pub term_same : (h : TermHole) (b : List Value) → value i s b (fill_term h t) ≡ value i s b (fill_term h u)
    term_same WholeTerm b = equal b
    term_same (Arith1 x0 x1 x2) b = λ e. IntValue (arithmetic x0 (as_int (term_same x1 b e)) (as_int (value i s b x2)))
    term_same (Arith2 x0 x1 x2) b = λ e. IntValue (arithmetic x0 (as_int (value i s b x1)) (as_int (term_same x2 b e)))
    term_same (Neg0 x0) b = λ e. IntValue (neg_ℤ (as_int (term_same x0 b e)))
    term_same (Wrap0 x0) b = λ e. IntValue (wrap32 (as_int (term_same x0 b e)))
    term_same (Len0 x0) b = λ e. IntValue (length_of (as_ref (term_same x0 b e)))
    term_same (Select1 x0 x1 x2 x3) b = λ e. select_at x0 (as_heap (term_same x1 b e)) (as_ref (value i s b x2)) (as_field (value i s b x3))
    term_same (Select2 x0 x1 x2 x3) b = λ e. select_at x0 (as_heap (value i s b x1)) (as_ref (term_same x2 b e)) (as_field (value i s b x3))
    term_same (Select3 x0 x1 x2 x3) b = λ e. select_at x0 (as_heap (value i s b x1)) (as_ref (value i s b x2)) (as_field (term_same x3 b e))
    term_same (Sum0 x0 x1 x2) b = λ e. IntValue (sum_range (as_int (term_same x0 b e)) (as_int (value i s b x1)) (λ z. as_int (value i s (IntValue z ∷ b) x2)))
    term_same (Sum1 x0 x1 x2) b = λ e. IntValue (sum_range (as_int (value i s b x0)) (as_int (term_same x1 b e)) (λ z. as_int (value i s (IntValue z ∷ b) x2)))
    term_same (Sum2 x0 x1 x2) b = λ e. IntValue (sum_range (as_int (value i s b x0)) (as_int (value i s b x1)) (λ z. as_int (term_same x2 (IntValue z ∷ b) e)))
    term_same (StoreT0 x0 x1 x2 x3) b = λ e. HeapValue (store_value (as_heap (term_same x0 b e)) (as_ref (value i s b x1)) (as_field (value i s b x2)) (value i s b x3))
    term_same (StoreT1 x0 x1 x2 x3) b = λ e. HeapValue (store_value (as_heap (value i s b x0)) (as_ref (term_same x1 b e)) (as_field (value i s b x2)) (value i s b x3))
    term_same (StoreT2 x0 x1 x2 x3) b = λ e. HeapValue (store_value (as_heap (value i s b x0)) (as_ref (value i s b x1)) (as_field (term_same x2 b e)) (value i s b x3))
    term_same (StoreT3 x0 x1 x2 x3) b = λ e. HeapValue (store_value (as_heap (value i s b x0)) (as_ref (value i s b x1)) (as_field (value i s b x2)) (term_same x3 b e))
    term_same (CreateT0 x0 x1) b = λ e. HeapValue (create (as_heap (term_same x0 b e)) (as_ref (value i s b x1)))
    term_same (CreateT1 x0 x1) b = λ e. HeapValue (create (as_heap (value i s b x0)) (as_ref (term_same x1 b e)))
    term_same (AnonT0 x0 x1 x2) b = λ e. HeapValue (anon (as_heap (term_same x0 b e)) (λ q. (within i s b x1 q)) (as_heap (value i s b x2)))
    term_same (AnonT1 x0 x1 x2) b = λ e. HeapValue (anon (as_heap (value i s b x0)) (λ q. (loc_same x1 b q e)) (as_heap (value i s b x2)))
    term_same (AnonT2 x0 x1 x2) b = λ e. HeapValue (anon (as_heap (value i s b x0)) (λ q. (within i s b x1 q)) (as_heap (term_same x2 b e)))
    term_same (IdxT0 x0) b = λ e. FieldValue (Index (as_int (term_same x0 b e)))

    pub loc_same : (h : LocHole) (b : List Value) (q : Location) → within i s b (fill_loc h t) q ≡ within i s b (fill_loc h u) q
    loc_same (LLoc0 x0 x1) b q = λ e. same location_coding q (location (as_ref (term_same x0 b e)) (as_field (value i s b x1)))
    loc_same (LLoc1 x0 x1) b q = λ e. same location_coding q (location (as_ref (value i s b x0)) (as_field (term_same x1 b e)))
    loc_same (LObj0 x0) b q = λ e. same reference_coding q.at (as_ref (term_same x0 b e))
    loc_same (LArrAll0 x0) b q = λ e. same reference_coding q.at (as_ref (term_same x0 b e)) && is_index q.field
    loc_same (LArr0 x0 x1 x2) b q = λ e. same reference_coding q.at (as_ref (term_same x0 b e)) && in_range (as_int (value i s b x1)) (as_int (value i s b x2)) q.field
    loc_same (LArr1 x0 x1 x2) b q = λ e. same reference_coding q.at (as_ref (value i s b x0)) && in_range (as_int (term_same x1 b e)) (as_int (value i s b x2)) q.field
    loc_same (LArr2 x0 x1 x2) b q = λ e. same reference_coding q.at (as_ref (value i s b x0)) && in_range (as_int (value i s b x1)) (as_int (term_same x2 b e)) q.field
    loc_same (LUnion0 x0 x1) b q = λ e. (loc_same x0 b q e) || (within i s b x1 q)
    loc_same (LUnion1 x0 x1) b q = λ e. (within i s b x0 q) || (loc_same x1 b q e)

  updated_same : (l : Pairs) (x : Name) (h : TermHole) (w : Pairs) (b : List Value) (r : State) → updated i s b (l ++ ((x, fill_term h t) ∷ w)) r ≡ updated i s b (l ++ ((x, fill_term h u) ∷ w)) r
  updated_same [] x h w b r = ap (λ v. updated i s b w (write r x v)) (term_same h b)
  updated_same (e ∷ l) x h w b r = updated_same l x h w b (write r e.0 (value i s b e.1))

  pub atom_same : (g : Setting) (d : ℕ) (inv : Heap → Reference → Type 0) (h : AtomHole) (b : List Value) → truth g d inv i s b (fill_atom h t) ≡ truth g d inv i s b (fill_atom h u)
  atom_same g d inv (Eq0 x0 x1) b = λ e. (term_same x0 b e) ≡ (value i s b x1)
  atom_same g d inv (Eq1 x0 x1) b = λ e. (value i s b x0) ≡ (term_same x1 b e)
  atom_same g d inv (Lt0 x0 x1) b = λ e. int_lt (as_int (term_same x0 b e)) (as_int (value i s b x1)) ≡ true
  atom_same g d inv (Lt1 x0 x1) b = λ e. int_lt (as_int (value i s b x0)) (as_int (term_same x1 b e)) ≡ true
  atom_same g d inv (Le0 x0 x1) b = λ e. int_le (as_int (term_same x0 b e)) (as_int (value i s b x1)) ≡ true
  atom_same g d inv (Le1 x0 x1) b = λ e. int_le (as_int (value i s b x0)) (as_int (term_same x1 b e)) ≡ true
  atom_same g d inv (In0 x0 x1 x2) b = λ e. (within i s b x2 (location (as_ref (term_same x0 b e)) (as_field (value i s b x1)))) ≡ true
  atom_same g d inv (In1 x0 x1 x2) b = λ e. (within i s b x2 (location (as_ref (value i s b x0)) (as_field (term_same x1 b e)))) ≡ true
  atom_same g d inv (In2 x0 x1 x2) b = λ e. (loc_same x2 b (location (as_ref (value i s b x0)) (as_field (value i s b x1))) e) ≡ true
  atom_same g d inv (InInt0 x0) b = λ e. in_int (as_int (term_same x0 b e)) ≡ true
  atom_same g d inv (Wf0 x0) b = λ e. IsWf g (term_same x0 b e)
  atom_same g d inv (Inv0 x0 x1) b = λ e. inv (as_heap (term_same x0 b e)) (as_ref (value i s b x1))
  atom_same g d inv (Inv1 x0 x1) b = λ e. inv (as_heap (value i s b x0)) (as_ref (term_same x1 b e))
  atom_same g d inv (Inst1 x0 x1) b = λ e. is_instance g.program x0 (as_ref (term_same x1 b e)) ≡ true
  atom_same g d inv (Exact1 x0 x1) b = λ e. is_exactly x0 (as_ref (term_same x1 b e)) ≡ true
  atom_same g d inv (UpdRight l x h w a) b = ap (λ r. truth g d inv i r b a) (updated_same l x h w b s)

module _ (g : Setting) (d : ℕ) (inv : Heap → Reference → Type 0) (i s : State) (a c : PlainFormula) (same : (b : List Value) → truth g d inv i s b a ≡ truth g d inv i s b c) where
  pub calm_same : (h : Around) → Calm h → (b : List Value) → truth g d inv i s b (plug h a) ≡ truth g d inv i s b (plug h c)
  calm_same Hole o b = same b
  calm_same (NotH h) o b = λ e. ¬ (calm_same h o b e)
  calm_same (AndL h x) o b = λ e. calm_same h o b e × truth g d inv i s b x
  calm_same (OrL h x) o b = λ e. EitherOf (calm_same h o b e) (truth g d inv i s b x)
  calm_same (ImpL h x) o b = λ e. calm_same h o b e → truth g d inv i s b x
  calm_same (IffL h x) o b = λ e. (calm_same h o b e → truth g d inv i s b x) × (truth g d inv i s b x → calm_same h o b e)
  calm_same (AndR x h) o b = λ e. truth g d inv i s b x × calm_same h o b e
  calm_same (OrR x h) o b = λ e. EitherOf (truth g d inv i s b x) (calm_same h o b e)
  calm_same (ImpR x h) o b = λ e. truth g d inv i s b x → calm_same h o b e
  calm_same (IffR x h) o b = λ e. (truth g d inv i s b x → calm_same h o b e) × (calm_same h o b e → truth g d inv i s b x)
  calm_same (AllH k h) o b = λ e. (v : Value) → IsOf k v → calm_same h o (v ∷ b) e
  calm_same (ExH k h) o b = λ e. ¬ ((v : Value) → IsOf k v → ¬ (calm_same h o (v ∷ b) e))
  calm_same (UpdH u h) o b = absurd o
  calm_same (ModalH m k h) o b = absurd o
