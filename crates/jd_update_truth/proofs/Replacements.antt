-- A replaced term has the value of the term in a state where each variable is what it is replaced by.
use Rattle.std.proofs.Common.{◌≡◌, suc, Bool, true, false, cond, List, [], ◌∷◌, ◌+◌, refl, sym, ap, ◌∙◌, subst, neg_ℤ, ◌&&◌, ◌||◌, arith}
use Rattle.jd_syntax.specs.Names.{Name}
use Rattle.jd_syntax.specs.CodeNames.{same_name}
use Rattle.jd_term.specs.Terms.{PlainTerm, sort_of_term, Number, Boolean, NullTerm, ProgramVariable, Constant, Bound, Arithmetic, Negation, Wrap, Length, Select, Sum, Store, Create, Anon, NamedField, CreatedField, ElementField, PlainLoc, NoLocations, AllLocations, Single, ObjectFields, ArrayElements, ElementRange, Union}
use Rattle.jd_term.specs.Formulas.{Pairs}
use Rattle.jd_term.specs.Shifts.{term_shift}
use Rattle.jd_heap.specs.Codings.{same}
use Rattle.jd_heap.specs.Heaps.{create, anon, length_of}
use Rattle.jd_heap.specs.ReferenceCodings.{location_coding, reference_coding}
use Rattle.jd_heap.specs.References.{Location, Index, location}
use Rattle.jd_heap.specs.Values.{Value, IntValue, HeapValue, FieldValue, as_int, as_ref, as_heap, as_field, at_sort, IsOf, select_at, store_value}
use Rattle.jd_update.specs.Replace.{look, inner, replace, replace_loc}
use Rattle.jd_update.specs.Push.{joined}
use Rattle.jd_model.specs.States.{State, read, write}
use Rattle.jd_model.specs.Runs.{wrap32}
use Rattle.jd_model.specs.TermValues.{bound_at, updated, value, within, sum_range, arithmetic, is_index, in_range}
use Rattle.jd_model.proofs.States.{read-write}
use Rattle.jd_model.proofs.Sorts.{value_sort}
use Rattle.jd_model.proofs.Writes.{at_sort_of}
use Rattle.jd_model.proofs.Substitution.{ReachesTo, shift_value}
use Rattle.jd_update_truth.specs.SortedFormulas.{AreSorted}
use Rattle.jd_update_truth.specs.UpdateLaws.{replaced}

-- in the state t each variable has the value of what it is replaced by in s
abbrev pub Holds : State → State → State → List Value → Pairs → Type 0
Holds i s t b q = (x : Name) → value i s b (look q x) ≡ read t x

one_further : (v : Value) (b : List Value) → ReachesTo (v ∷ b) 1 b
one_further v b j k = let e : 1 + j ≡ suc j = omega arith in ap (λ n. bound_at (v ∷ b) n k) e

module _ (i s t : State) where
  look_inner : (q : Pairs) (x : Name) (v : Value) (b : List Value) → value i s (v ∷ b) (look (inner q) x) ≡ value i s b (look q x)
  look_inner [] x v b = refl
  look_inner (p ∷ q) x v b = by (look_inner q x v b) (same_name x p.0)
    where
      by : value i s (v ∷ b) (look (inner q) x) ≡ value i s b (look q x) → (c : Bool) → value i s (v ∷ b) (cond c (term_shift 0 1 p.1) (look (inner q) x)) ≡ value i s b (cond c p.1 (look q x))
      by later true = shift_value i s (v ∷ b) b 1 (one_further v b) p.1 []
      by later false = later

  pub holds_inner : (b : List Value) (q : Pairs) (v : Value) → Holds i s t b q → Holds i s t (v ∷ b) (inner q)
  holds_inner b q v h x = look_inner q x v b ∙ h x

  mutual
    pub replace_value : (a : PlainTerm) (b : List Value) (q : Pairs) → Holds i s t b q → value i s b (replace q a) ≡ value i t b a
    replace_value (Number z) b q h = refl
    replace_value (Boolean x) b q h = refl
    replace_value NullTerm b q h = refl
    replace_value (ProgramVariable x) b q h = h x
    replace_value (Constant c) b q h = refl
    replace_value (Bound k srt) b q h = refl
    replace_value (Arithmetic op a c) b q h = λ e. IntValue (arithmetic op (as_int (replace_value a b q h e)) (as_int (replace_value c b q h e)))
    replace_value (Negation a) b q h = ap (λ v. IntValue (neg_ℤ (as_int v))) (replace_value a b q h)
    replace_value (Wrap a) b q h = ap (λ v. IntValue (wrap32 (as_int v))) (replace_value a b q h)
    replace_value (Length a) b q h = ap (λ v. IntValue (length_of (as_ref v))) (replace_value a b q h)
    replace_value (Select srt a o f) b q h = λ e. select_at srt (as_heap (replace_value a b q h e)) (as_ref (replace_value o b q h e)) (as_field (replace_value f b q h e))
    replace_value (Sum a c u) b q h = λ e. IntValue (sum_range (as_int (replace_value a b q h e)) (as_int (replace_value c b q h e)) (λ x. as_int (replace_value u (IntValue x ∷ b) (inner q) (holds_inner b q (IntValue x) h) e)))
    replace_value (Store a o f c) b q h = λ e. HeapValue (store_value (as_heap (replace_value a b q h e)) (as_ref (replace_value o b q h e)) (as_field (replace_value f b q h e)) (replace_value c b q h e))
    replace_value (Create a o) b q h = λ e. HeapValue (create (as_heap (replace_value a b q h e)) (as_ref (replace_value o b q h e)))
    replace_value (Anon a l g) b q h = λ e. HeapValue (anon (as_heap (replace_value a b q h e)) (λ x. replace_within l b q h x e) (as_heap (replace_value g b q h e)))
    replace_value (NamedField f) b q h = refl
    replace_value CreatedField b q h = refl
    replace_value (ElementField a) b q h = ap (λ v. FieldValue (Index (as_int v))) (replace_value a b q h)

    pub replace_within : (l : PlainLoc) (b : List Value) (q : Pairs) → Holds i s t b q → (x : Location) → within i s b (replace_loc q l) x ≡ within i t b l x
    replace_within NoLocations b q h x = refl
    replace_within AllLocations b q h x = refl
    replace_within (Single o f) b q h x = λ e. same location_coding x (location (as_ref (replace_value o b q h e)) (as_field (replace_value f b q h e)))
    replace_within (ObjectFields o) b q h x = λ e. same reference_coding x.at (as_ref (replace_value o b q h e))
    replace_within (ArrayElements o) b q h x = λ e. same reference_coding x.at (as_ref (replace_value o b q h e)) && is_index x.field
    replace_within (ElementRange o a c) b q h x = λ e. same reference_coding x.at (as_ref (replace_value o b q h e)) && in_range (as_int (replace_value a b q h e)) (as_int (replace_value c b q h e)) x.field
    replace_within (Union l m) b q h x = λ e. replace_within l b q h x e || replace_within m b q h x e

-- a right side of the variable's sort comes through a write whole
whole : (i s : State) (b : List Value) (p : Name × PlainTerm) → sort_of_term p.1 ≡ p.0.sort → at_sort p.0.sort (value i s b p.1) ≡ value i s b p.1
whole i s b p e = at_sort_of p.0.sort (value i s b p.1) (subst (λ k. IsOf k (value i s b p.1)) e (value_sort i s b p.1))

pub replaced_holds : (i s : State) (b : List Value) (q : Pairs) → AreSorted q → Holds i s (replaced i s b q) b q
replaced_holds i s b [] o x = refl
replaced_holds i s b (p ∷ q) o x = by (replaced_holds i s b q o.1 x) (same_name x p.0) ∙ sym (read-write (replaced i s b q) p.0 (value i s b p.1) x)
  where
    by : value i s b (look q x) ≡ read (replaced i s b q) x → (c : Bool) → value i s b (cond c p.1 (look q x)) ≡ cond c (at_sort p.0.sort (value i s b p.1)) (read (replaced i s b q) x)
    by later true = sym (whole i s b p o.0)
    by later false = later

module _ (i s t : State) (b : List Value) (old : Pairs) (old_holds : Holds i s t b old) where
  -- the replacement after an update holds in the updated state
  pub joined_holds : (u : Pairs) → AreSorted u → (q : Pairs) (y : State) → Holds i s y b q → Holds i s (updated i t b u y) b (joined old u q)
  joined_holds [] o q y h = h
  joined_holds (p ∷ u) o q y h = joined_holds u o.1 ((p.0, replace old p.1) ∷ q) (write y p.0 (value i t b p.1)) (λ x.
      by x (same_name x p.0) ∙ sym (read-write y p.0 (value i t b p.1) x))
    where
      by : (x : Name) (c : Bool) → value i s b (cond c (replace old p.1) (look q x)) ≡ cond c (at_sort p.0.sort (value i t b p.1)) (read y x)
      by x true = replace_value i s t p.1 b old old_holds ∙ sym (whole i t b p o.0)
      by x false = h x
