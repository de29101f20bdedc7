-- The states of the loop rule: where the loop starts, and where a turn starts.
use Rattle.std.proofs.Common.{◌≡◌, ℕ, Bool, true, false, cond, List, [], ◌∷◌, refl, sym, ap, ◌∙◌, subst}
use Rattle.jd_heap.specs.Heaps.{Heap, is_created, anon, select_int, select_bool, select_ref, SameAt}
use Rattle.jd_heap.specs.References.{Reference, Field, Location, location}
use Rattle.jd_heap.specs.Values.{Value, IntValue, BoolValue, HeapValue, as_int, as_heap, at_sort}
use Rattle.jd_loop.proofs.LoopReads.{saved, updated_saves, saved_else, AllBefore, saved_all, before_same, read_before, AllNow, values_in, now_all, renewed_read}
use Rattle.jd_loop.proofs.NewNames.{Written, OldVariable, OldConstant, AreNewNames}
use Rattle.jd_loop.specs.LoopNames.{LoopNames, renewed_variables, variables_before, constants_now, new_variables, new_constants}
use Rattle.jd_loop.specs.LoopPremises.{variable_before, at_start, start_locations, saving, renewing, beginning, start_renaming}
use Rattle.jd_model.proofs.Coincidence.{Agree, value_agree, within_agree}
use Rattle.jd_model.proofs.Frames.{anon_frame}
use Rattle.jd_model.proofs.KeptByCode.{Keeps as KeepsFrom}
use Rattle.jd_model.proofs.Renaming.{rename_within}
use Rattle.jd_model.proofs.Writes.{new_values, all_of, out_tail, apart_by, flip_apart, member_here, member_there, not_in, read_back, read_here, read_there, read_copied, in_not}
use Rattle.jd_model.specs.Bodies.{NotHeap}
use Rattle.jd_model.specs.Occurrences.{TermIn, LocIn, AllOf, member}
use Rattle.jd_model.specs.Runs.{with_values}
use Rattle.jd_model.specs.States.{State, read, write, heap_of}
use Rattle.jd_model.specs.TermValues.{updated, value, within}
use Rattle.jd_model.specs.Truth.{Setting, truth}
use Rattle.jd_syntax.proofs.NameTests.{same_name_decides}
use Rattle.jd_syntax.specs.CodeNames.{same_name, heap_name}
use Rattle.jd_syntax.specs.Names.{Name}
use Rattle.jd_term.specs.Formulas.{PlainFormula, Implies, Updated}
use Rattle.jd_term.specs.Terms.{PlainTerm, PlainLoc}

module _ (n : LoopNames) (ok : AreNewNames n) where
  abbrev assigned : List Name
  assigned = renewed_variables n.renewed

  -- what no code of the loop may change
  abbrev pub Fixed : Name → Type 0
  Fixed x = (member x assigned ≡ false) × NotHeap x

  pub written_apart : (q : Name) → Fixed q → (x : Name) → Written n x → same_name q x ≡ false
  written_apart q f x m = flip_apart x q (apart_by (λ y. member y assigned) x q m f.0)

  pub fixed_no_heap : (q : Name) → Fixed q → NotHeap q
  fixed_no_heap q f = f.1

  pub written_no_heap : (x : Name) → Written n x → NotHeap x
  written_no_heap x m = all_of NotHeap assigned ok.no_heap x m

  -- a new variable is another than an old one
  pub new_apart : (p x : Name) → member p (new_variables n) ≡ true → OldVariable n x → same_name p x ≡ false
  new_apart p x a b = apart_by (λ y. member y (new_variables n)) p x a b

  out_of : (p : Name) → member p (new_variables n) ≡ true → (ys : List Name) → AllOf (OldVariable n) ys → member p ys ≡ false
  out_of p a [] h = refl
  out_of p a (y ∷ ys) h = ap (λ b. cond b true (member p ys)) (new_apart p y a h.0) ∙ out_of p a ys h.1

  pub new_fixed : (p : Name) → member p (new_variables n) ≡ true → Fixed p
  new_fixed p a = (out_of p a assigned ok.assigned_old, flip_apart p heap_name (new_apart p heap_name a ok.heap_old))

  pub heap_before_new : member n.heap_before (new_variables n) ≡ true
  heap_before_new = member_here n.heap_before (n.variant_before ∷ (n.mark ∷ variables_before n.renewed))

  pub bound_new : member n.variant_before (new_variables n) ≡ true
  bound_new = member_there n.variant_before n.heap_before (n.variant_before ∷ (n.mark ∷ variables_before n.renewed)) (member_here n.variant_before (n.mark ∷ variables_before n.renewed))

  pub mark_new : member n.mark (new_variables n) ≡ true
  mark_new = member_there n.mark n.heap_before (n.variant_before ∷ (n.mark ∷ variables_before n.renewed)) (member_there n.mark n.variant_before (n.mark ∷ variables_before n.renewed) (member_here n.mark (variables_before n.renewed)))

  pub before_new : (p : Name) → member p (variables_before n.renewed) ≡ true → member p (new_variables n) ≡ true
  before_new p e = member_there p n.heap_before (n.variant_before ∷ (n.mark ∷ variables_before n.renewed)) (member_there p n.variant_before (n.mark ∷ variables_before n.renewed) (member_there p n.mark (variables_before n.renewed) e))

  -- the new variables are apart from each other
  pub mark_heap_before : same_name n.mark n.heap_before ≡ false
  mark_heap_before = flip_apart n.heap_before n.mark ok.apart_variables.0.1.0

  pub heap_before_bound : same_name n.heap_before n.variant_before ≡ false
  heap_before_bound = ok.apart_variables.0.0

  heap_before_out : member n.heap_before (variables_before n.renewed) ≡ false
  heap_before_out = in_not n.heap_before (variables_before n.renewed) ok.apart_variables.0.1.1

  pub bound_mark : same_name n.variant_before n.mark ≡ false
  bound_mark = ok.apart_variables.1.0.0

  pub before_mark : (p : Name) → member p (variables_before n.renewed) ≡ true → same_name p n.mark ≡ false
  before_mark p e = apart_by (λ y. member y (variables_before n.renewed)) p n.mark e (in_not n.mark (variables_before n.renewed) ok.apart_variables.1.1.0)

  pub before_bound : (p : Name) → member p (variables_before n.renewed) ≡ true → same_name p n.variant_before ≡ false
  before_bound p e = apart_by (λ y. member y (variables_before n.renewed)) p n.variant_before e (in_not n.variant_before (variables_before n.renewed) ok.apart_variables.1.0.1)

  pub old_mark : (x : Name) → OldVariable n x → same_name x n.mark ≡ false
  old_mark x o = flip_apart n.mark x (new_apart n.mark x mark_new o)

  pub old_bound : (x : Name) → OldVariable n x → same_name x n.variant_before ≡ false
  old_bound x o = flip_apart n.variant_before x (new_apart n.variant_before x bound_new o)

  old_before : (x : Name) → OldVariable n x → member x (variables_before n.renewed) ≡ false
  old_before x o = out_tail (same_name x n.mark) (member x (variables_before n.renewed)) (out_tail (same_name x n.variant_before) (member x (n.mark ∷ variables_before n.renewed)) (out_tail (same_name x n.heap_before) (member x (n.variant_before ∷ (n.mark ∷ variables_before n.renewed))) o))

  -- ---- where the loop starts
  module _ (s : State) where
    pub kept : State
    kept = saved s n.renewed (write s n.heap_before (read s heap_name))

    pub start : State
    start = write kept n.mark (BoolValue false)

    pub start_mark : read start n.mark ≡ BoolValue false
    unfolding start
    start_mark = read_here kept n.mark (BoolValue false) ∙ ap (λ k. at_sort k (BoolValue false)) ok.mark_sort

    pub start_else : (x : Name) → same_name x n.mark ≡ false → read start x ≡ read kept x
    unfolding start
    start_else x e = read_there kept n.mark (BoolValue false) x e

    kept_else : (x : Name) → same_name x n.heap_before ≡ false → member x (variables_before n.renewed) ≡ false → read kept x ≡ read s x
    unfolding kept
    kept_else x e m = saved_else s n.renewed (write s n.heap_before (read s heap_name)) x m ∙ read_there s n.heap_before (read s heap_name) x e

    pub kept_old : (x : Name) → OldVariable n x → read kept x ≡ read s x
    kept_old x o = kept_else x (flip_apart n.heap_before x (new_apart n.heap_before x heap_before_new o)) (old_before x o)

    pub kept_is : (i : State) (b : List Value) → updated i s b (saving n) s ≡ kept
    unfolding kept
    kept_is i b = updated_saves i s b n.renewed (write s n.heap_before (read s heap_name))

    pub start_old : (x : Name) → OldVariable n x → read start x ≡ read s x
    start_old x o = start_else x (old_mark x o) ∙ kept_else x (flip_apart n.heap_before x (new_apart n.heap_before x heap_before_new o)) (old_before x o)

    start_heap_before : read start n.heap_before ≡ read s heap_name
    unfolding kept
    start_heap_before = start_else n.heap_before (flip_apart n.mark n.heap_before mark_heap_before)
        ∙ saved_else s n.renewed (write s n.heap_before (read s heap_name)) n.heap_before heap_before_out
        ∙ read_copied s s n.heap_before heap_name ok.heap_before_sort

    kept_before : AllBefore kept s n.renewed
    unfolding kept
    kept_before = saved_all s n.renewed ok.apart_variables.1.1.1 ok.sorts (write s n.heap_before (read s heap_name))

    -- a state that still has what was saved, and what the loop does not change
    abbrev pub Fits : State → Type 0
    Fits t = AllBefore t s n.renewed × (read t n.heap_before ≡ read s heap_name) × ((x : Name) → OldVariable n x → Fixed x → read t x ≡ read s x)

    -- what no code of the loop changes, and what is created
    abbrev pub Keeps : State → Type 0
    Keeps t = KeepsFrom (Written n) Fixed written_apart fixed_no_heap written_no_heap start (heap_of s) t

    pub fits : (t : State) → Keeps t → Fits t
    fits t k = (
      before_same kept t s n.renewed (λ x e. k.0 x (new_fixed x (before_new x e)) ∙ start_else x (before_mark x e)) kept_before,
      k.0 n.heap_before (new_fixed n.heap_before heap_before_new) ∙ start_heap_before,
      λ x o f. k.0 x f ∙ start_old x o,
    )

    -- the same of a state that differs at one new variable alone
    pub fits_but : (v : Name) → member v (new_variables n) ≡ true → same_name n.heap_before v ≡ false → ((p : Name) → member p (variables_before n.renewed) ≡ true → same_name p v ≡ false) → (y z : State) → ((x : Name) → same_name x v ≡ false → read z x ≡ read y x) → Fits y → Fits z
    fits_but v v_new no_h no_p y z h f = (
      before_same y z s n.renewed (λ x e. h x (no_p x e)) f.0,
      h n.heap_before no_h ∙ f.1,
      λ x o g. h x (flip_apart v x (new_apart v x v_new o)) ∙ f.2 x o g,
    )

    pub start_keeps : Keeps start
    start_keeps = (λ x f. refl, λ o c. ap (λ v. is_created (as_heap v) o) (start_old heap_name ok.heap_old) ∙ c)

    -- the renamed variables have their old values
    pub at_start_read : (t : State) → Fits t → (x : Name) → OldVariable n x → read t (at_start n x) ≡ read s x
    at_start_read t f x o = by (same_name x heap_name) refl
      where
        by : (b : Bool) → same_name x heap_name ≡ b → read t (cond b n.heap_before (variable_before n.renewed x)) ≡ read s x
        by true p = f.1 ∙ ap (read s) (sym ((same_name_decides x heap_name).0 p))
        by false p = read_before t s n.renewed f.0 x (λ e. f.2 x o (e, flip_apart x heap_name p))

    module _ (i : State) (b : List Value) (l : PlainLoc) (l_in : LocIn (OldVariable n) (OldConstant n) l) where
      pub start_within : (j t : State) → Agree (OldConstant n) j i → Fits t → (q : Location) → within j t b (start_locations n l) q ≡ within i s b l q
      start_within j t cs f q = rename_within (start_renaming n) (OldVariable n) (OldConstant n) j t i s (λ c o z. cs c o) (λ x o z. at_start_read t f x o) l l_in b q

      -- the heap is that of the start outside the locations
      abbrev pub Framed : State → Type 0
      Framed t = (o : Reference) (f : Field) → within i s b l (location o f) ≡ false → is_created (heap_of s) o ≡ true → SameAt (heap_of t) (heap_of s) o f

      pub start_framed : Framed start
      start_framed o f e c = let p = ap as_heap (start_old heap_name ok.heap_old) in (ap (λ h. select_int h o f) p, ap (λ h. select_bool h o f) p, ap (λ h. select_ref h o f) p)

      -- ---- where a turn starts: the new constants have the values that the state t has
      module _ (v : PlainTerm) (v_in : TermIn (OldVariable n) (OldConstant n) v) (t : State) (keeps : Keeps t) (framed : Framed t) (unmarked : read t n.mark ≡ BoolValue false) where
        abbrev pub chosen_values : List Value
        chosen_values = read t heap_name ∷ values_in t n.renewed

        pub chosen : State
        chosen = with_values i (new_constants n) chosen_values

        pub chosen_old : Agree (OldConstant n) chosen i
        unfolding chosen
        chosen_old c o = sym (new_values (new_constants n) chosen_values i c (not_in c (new_constants n) o))

        chosen_heap : read chosen n.heap_now ≡ read t heap_name
        unfolding chosen
        chosen_heap = sym (new_values (constants_now n.renewed) (values_in t n.renewed) (write i n.heap_now (read t heap_name)) n.heap_now ok.apart_constants.0)
            ∙ read_copied i t n.heap_now heap_name ok.heap_now_sort

        chosen_now : AllNow chosen t n.renewed
        unfolding chosen
        chosen_now = now_all t n.renewed ok.apart_constants.1 ok.sorts (write i n.heap_now (read t heap_name))

        new_heap : HeapValue (anon (heap_of kept) (within chosen kept b l) (as_heap (read chosen n.heap_now))) ≡ read t heap_name
        new_heap = (λ e. HeapValue (anon (as_heap (kept_old heap_name ok.heap_old e)) (λ q. within_agree (OldVariable n) (OldConstant n) chosen i kept s chosen_old kept_old l l_in b q e) (as_heap (chosen_heap e))))
            ∙ ap HeapValue (anon_frame (heap_of s) (heap_of t) (within i s b l) keeps.1 (λ o f out made. let same = framed o f out made in (sym same.0, sym same.1, sym same.2)))
            ∙ read_back t heap_name

        pub renewed : State
        renewed = updated chosen kept b (renewing n l) kept

        pub renewed_else : (x : Name) → same_name x n.mark ≡ false → read renewed x ≡ read t x
        unfolding renewed
        renewed_else x u = renewed_read chosen kept b t n.renewed chosen_now (write kept heap_name heap_term) x (λ m. by m (same_name x heap_name) refl)
          where
            heap_term : Value
            heap_term = HeapValue (anon (heap_of kept) (within chosen kept b l) (as_heap (read chosen n.heap_now)))

            by : member x assigned ≡ false → (c : Bool) → same_name x heap_name ≡ c → read (write kept heap_name heap_term) x ≡ read t x
            by m true p = ap (read (write kept heap_name heap_term)) ((same_name_decides x heap_name).0 p) ∙ read_here kept heap_name heap_term ∙ new_heap ∙ ap (read t) (sym ((same_name_decides x heap_name).0 p))
            by m false p = read_there kept heap_name heap_term x p ∙ sym (start_else x u) ∙ sym (keeps.0 x (m, flip_apart x heap_name p))

        pub renewed_old : Agree (OldVariable n) renewed t
        renewed_old x o = renewed_else x (old_mark x o)

        pub begun : State
        begun = updated chosen renewed b (beginning n v) renewed

        -- the turn starts in the state t, but for the variant's old value
        pub begun_else : (x : Name) → same_name x n.variant_before ≡ false → read t x ≡ read begun x
        unfolding begun
        begun_else x u = by (same_name x n.mark) refl
          where
            with_bound : State
            with_bound = write renewed n.variant_before (value chosen renewed b v)

            by : (c : Bool) → same_name x n.mark ≡ c → read t x ≡ read (write with_bound n.mark (BoolValue false)) x
            by true p = ap (read t) ((same_name_decides x n.mark).0 p) ∙ unmarked ∙ sym (read_here with_bound n.mark (BoolValue false) ∙ ap (λ q. at_sort q (BoolValue false)) ok.mark_sort) ∙ ap (read (write with_bound n.mark (BoolValue false))) (sym ((same_name_decides x n.mark).0 p))
            by false p = sym (read_there with_bound n.mark (BoolValue false) x p ∙ read_there renewed n.variant_before (value chosen renewed b v) x u ∙ renewed_else x p)

        pub begun_bound : read begun n.variant_before ≡ IntValue (as_int (value i t b v))
        unfolding begun
        begun_bound = read_there (write renewed n.variant_before (value chosen renewed b v)) n.mark (BoolValue false) n.variant_before bound_mark
            ∙ read_here renewed n.variant_before (value chosen renewed b v)
            ∙ ap (λ q. at_sort q (value chosen renewed b v)) ok.variant_sort
            ∙ ap (λ x. IntValue (as_int x)) (value_agree (OldVariable n) (OldConstant n) chosen i renewed t chosen_old renewed_old v v_in b)

        -- what the second premise says there
        pub premise_there : (g : Setting) (d : ℕ) (inv : Heap → Reference → Type 0) (w x : PlainFormula) → ((vs : List Value) → truth g d inv (with_values i (new_constants n) vs) s b (Updated (saving n) (Updated (renewing n l) (Implies w (Updated (beginning n v) x))))) → truth g d inv chosen renewed b w → truth g d inv chosen begun b x
        unfolding chosen renewed begun
        premise_there g d inv w x p h = subst (λ y. truth g d inv chosen y b (Updated (renewing n l) (Implies w (Updated (beginning n v) x)))) (kept_is chosen b) (p chosen_values) h
