-- A renamed term has the value that the old one has where each replaced name has its new term's value.
use Rattle.std.proofs.Common.{◌≡◌, ℕ, true, List, [], ◌∷◌, refl, ap, neg_ℤ, int_lt, int_le, ◌&&◌, ◌||◌}
use Rattle.jd_heap.specs.Codings.{same}
use Rattle.jd_heap.specs.Heaps.{Heap, create, anon, length_of}
use Rattle.jd_heap.specs.ReferenceCodings.{location_coding, reference_coding}
use Rattle.jd_heap.specs.References.{Reference, Location, Index, location}
use Rattle.jd_heap.specs.Values.{Value, IntValue, HeapValue, FieldValue, as_int, as_ref, as_heap, as_field, IsOf, select_at, store_value}
use Rattle.jd_model.specs.Occurrences.{TermIn, LocIn, FormulaIn, Always}
use Rattle.jd_model.specs.Programs.{is_instance, is_exactly}
use Rattle.jd_model.specs.Renamings.{AllFirstOrder, rename_all}
use Rattle.jd_term.specs.Renamings.{Renaming, rename_term, rename_loc, rename, FirstOrder}
use Rattle.jd_model.specs.Runs.{wrap32}
use Rattle.jd_model.specs.States.{State, read}
use Rattle.jd_model.specs.TermValues.{value, within, sum_range, arithmetic, is_index, in_range}
use Rattle.jd_model.specs.Truth.{Setting, truth, EitherOf, IsWf, InvTruth}
use Rattle.jd_model.specs.Validity.{AllTrue}
use Rattle.jd_model.specs.WellFormedHeaps.{in_int}
use Rattle.jd_syntax.specs.Names.{Name}
use Rattle.jd_term.specs.Formulas.{PlainFormula, TrueFormula, FalseFormula, Not, And, Or, Implies, Iff, Equal, Less, LessOrEqual, Forall, Exists, Updated, Modal, InLocations, InInt, WellFormed, Invariant, IsInstance, IsExactInstance}
use Rattle.jd_term.specs.Terms.{PlainTerm, Number, Boolean, NullTerm, ProgramVariable, Constant, Bound, Arithmetic, Negation, Wrap, Length, Select, Sum, Store, Create, Anon, NamedField, CreatedField, ElementField, PlainLoc, NoLocations, AllLocations, Single, ObjectFields, ArrayElements, ElementRange, Union}

-- every name has the property that all have
mutual
  term_always : (a : PlainTerm) → TermIn Always Always a
  term_always (Arithmetic op a d) = (term_always a, term_always d)
  term_always (Negation a) = term_always a
  term_always (Wrap a) = term_always a
  term_always (Length a) = term_always a
  term_always (Select srt h q f) = (term_always h, term_always q, term_always f)
  term_always (Sum a d u) = (term_always a, term_always d, term_always u)
  term_always (Store h q f a) = (term_always h, term_always q, term_always f, term_always a)
  term_always (Create h q) = (term_always h, term_always q)
  term_always (Anon h l g) = (term_always h, loc_always l, term_always g)
  term_always (ElementField a) = term_always a
  term_always (Number z) = tt
  term_always (Boolean z) = tt
  term_always NullTerm = tt
  term_always (ProgramVariable x) = tt
  term_always (Constant x) = tt
  term_always (Bound k srt) = tt
  term_always (NamedField f) = tt
  term_always CreatedField = tt

  loc_always : (l : PlainLoc) → LocIn Always Always l
  loc_always NoLocations = tt
  loc_always AllLocations = tt
  loc_always (Single q f) = (term_always q, term_always f)
  loc_always (ObjectFields q) = term_always q
  loc_always (ArrayElements q) = term_always q
  loc_always (ElementRange q a d) = (term_always q, term_always a, term_always d)
  loc_always (Union l m) = (loc_always l, loc_always m)

formula_always : (a : PlainFormula) → FirstOrder a → FormulaIn Always Always a
formula_always TrueFormula o = tt
formula_always FalseFormula o = tt
formula_always (Not a) o = formula_always a o
formula_always (And a q) o = (formula_always a o.0, formula_always q o.1)
formula_always (Or a q) o = (formula_always a o.0, formula_always q o.1)
formula_always (Implies a q) o = (formula_always a o.0, formula_always q o.1)
formula_always (Iff a q) o = (formula_always a o.0, formula_always q o.1)
formula_always (Equal a q) o = (term_always a, term_always q)
formula_always (Less a q) o = (term_always a, term_always q)
formula_always (LessOrEqual a q) o = (term_always a, term_always q)
formula_always (Forall k a) o = formula_always a o
formula_always (Exists k a) o = formula_always a o
formula_always (Updated u a) o = absurd o
formula_always (Modal m k a) o = absurd o
formula_always (InLocations q f l) o = (term_always q, term_always f, loc_always l)
formula_always (InInt a) o = term_always a
formula_always (WellFormed a) o = term_always a
formula_always (Invariant a q) o = (term_always a, term_always q)
formula_always (IsInstance k q) o = term_always q
formula_always (IsExactInstance k q) o = term_always q

module _ (r : Renaming) (P Q : Name → Type 0) (i s j t : State) (cs : (x : Name) → Q x → (b : List Value) → value i s b (r.con x) ≡ read j x) (vs : (x : Name) → P x → (b : List Value) → value i s b (r.var x) ≡ read t x) where
  mutual
    pub rename_value : (a : PlainTerm) → TermIn P Q a → (b : List Value) → value i s b (rename_term r a) ≡ value j t b a
    rename_value (Number z) o b = refl
    rename_value (Boolean x) o b = refl
    rename_value NullTerm o b = refl
    rename_value (ProgramVariable x) o b = vs x o b
    rename_value (Constant x) o b = cs x o b
    rename_value (Bound k srt) o b = refl
    rename_value (Arithmetic op a d) o b = λ e. IntValue (arithmetic op (as_int (rename_value a o.0 b e)) (as_int (rename_value d o.1 b e)))
    rename_value (Negation a) o b = ap (λ v. IntValue (neg_ℤ (as_int v))) (rename_value a o b)
    rename_value (Wrap a) o b = ap (λ v. IntValue (wrap32 (as_int v))) (rename_value a o b)
    rename_value (Length a) o b = ap (λ v. IntValue (length_of (as_ref v))) (rename_value a o b)
    rename_value (Select srt h q f) o b = λ e. select_at srt (as_heap (rename_value h o.0 b e)) (as_ref (rename_value q o.1 b e)) (as_field (rename_value f o.2 b e))
    rename_value (Sum a d u) o b = λ e. IntValue (sum_range (as_int (rename_value a o.0 b e)) (as_int (rename_value d o.1 b e)) (λ z. as_int (rename_value u o.2 (IntValue z ∷ b) e)))
    rename_value (Store h q f a) o b = λ e. HeapValue (store_value (as_heap (rename_value h o.0 b e)) (as_ref (rename_value q o.1 b e)) (as_field (rename_value f o.2 b e)) (rename_value a o.3 b e))
    rename_value (Create h q) o b = λ e. HeapValue (create (as_heap (rename_value h o.0 b e)) (as_ref (rename_value q o.1 b e)))
    rename_value (Anon h l g) o b = λ e. HeapValue (anon (as_heap (rename_value h o.0 b e)) (λ q. rename_within l o.1 b q e) (as_heap (rename_value g o.2 b e)))
    rename_value (NamedField f) o b = refl
    rename_value CreatedField o b = refl
    rename_value (ElementField a) o b = ap (λ v. FieldValue (Index (as_int v))) (rename_value a o b)

    pub rename_within : (l : PlainLoc) → LocIn P Q l → (b : List Value) (q : Location) → within i s b (rename_loc r l) q ≡ within j t b l q
    rename_within NoLocations o b q = refl
    rename_within AllLocations o b q = refl
    rename_within (Single x f) o b q = λ e. same location_coding q (location (as_ref (rename_value x o.0 b e)) (as_field (rename_value f o.1 b e)))
    rename_within (ObjectFields x) o b q = λ e. same reference_coding q.at (as_ref (rename_value x o b e))
    rename_within (ArrayElements x) o b q = λ e. same reference_coding q.at (as_ref (rename_value x o b e)) && is_index q.field
    rename_within (ElementRange x a d) o b q = λ e. same reference_coding q.at (as_ref (rename_value x o.0 b e)) && in_range (as_int (rename_value a o.1 b e)) (as_int (rename_value d o.2 b e)) q.field
    rename_within (Union l m) o b q = λ e. rename_within l o.0 b q e || rename_within m o.1 b q e

  -- and a renamed formula the old one's truth
  module _ (g : Setting) (d : ℕ) (inv : Heap → Reference → Type 0) where
    pub rename_truth : (a : PlainFormula) → FirstOrder a → FormulaIn P Q a → (b : List Value) → truth g d inv i s b (rename r a) ≡ truth g d inv j t b a
    rename_truth TrueFormula st o b = refl
    rename_truth FalseFormula st o b = refl
    rename_truth (Not a) st o b = λ e. ¬ (rename_truth a st o b e)
    rename_truth (And a q) st o b = λ e. rename_truth a st.0 o.0 b e × rename_truth q st.1 o.1 b e
    rename_truth (Or a q) st o b = λ e. EitherOf (rename_truth a st.0 o.0 b e) (rename_truth q st.1 o.1 b e)
    rename_truth (Implies a q) st o b = λ e. rename_truth a st.0 o.0 b e → rename_truth q st.1 o.1 b e
    rename_truth (Iff a q) st o b = λ e. (rename_truth a st.0 o.0 b e → rename_truth q st.1 o.1 b e) × (rename_truth q st.1 o.1 b e → rename_truth a st.0 o.0 b e)
    rename_truth (Equal a q) st o b = λ e. rename_value a o.0 b e ≡ rename_value q o.1 b e
    rename_truth (Less a q) st o b = λ e. int_lt (as_int (rename_value a o.0 b e)) (as_int (rename_value q o.1 b e)) ≡ true
    rename_truth (LessOrEqual a q) st o b = λ e. int_le (as_int (rename_value a o.0 b e)) (as_int (rename_value q o.1 b e)) ≡ true
    rename_truth (Forall k a) st o b = λ e. (x : Value) → IsOf k x → rename_truth a st o (x ∷ b) e
    rename_truth (Exists k a) st o b = λ e. ¬ ((x : Value) → IsOf k x → ¬ (rename_truth a st o (x ∷ b) e))
    rename_truth (Updated u a) st o b = absurd st
    rename_truth (Modal m k a) st o b = absurd st
    rename_truth (InLocations q f l) st o b = λ e. rename_within l o.2 b (location (as_ref (rename_value q o.0 b e)) (as_field (rename_value f o.1 b e))) e ≡ true
    rename_truth (InInt a) st o b = ap (λ x. in_int (as_int x) ≡ true) (rename_value a o b)
    rename_truth (WellFormed a) st o b = ap (λ x. IsWf g x) (rename_value a o b)
    rename_truth (Invariant a q) st o b = λ e. inv (as_heap (rename_value a o.0 b e)) (as_ref (rename_value q o.1 b e))
    rename_truth (IsInstance k q) st o b = ap (λ x. is_instance g.program k (as_ref x) ≡ true) (rename_value q o b)
    rename_truth (IsExactInstance k q) st o b = ap (λ x. is_exactly k (as_ref x) ≡ true) (rename_value q o b)

-- ---- where the equations hold at every name
module _ (r : Renaming) (i s j t : State) (cs : (x : Name) (b : List Value) → value i s b (r.con x) ≡ read j x) (vs : (x : Name) (b : List Value) → value i s b (r.var x) ≡ read t x) where
  pub rename_value_all : (a : PlainTerm) (b : List Value) → value i s b (rename_term r a) ≡ value j t b a
  rename_value_all a = rename_value r Always Always i s j t (λ x o b. cs x b) (λ x o b. vs x b) a (term_always a)

  pub rename_within_all : (l : PlainLoc) (b : List Value) (q : Location) → within i s b (rename_loc r l) q ≡ within j t b l q
  rename_within_all l = rename_within r Always Always i s j t (λ x o b. cs x b) (λ x o b. vs x b) l (loc_always l)

  pub rename_truth_all : (g : Setting) (d : ℕ) (inv : Heap → Reference → Type 0) (a : PlainFormula) → FirstOrder a → (b : List Value) → truth g d inv i s b (rename r a) ≡ truth g d inv j t b a
  rename_truth_all g d inv a o b = rename_truth r Always Always i s j t (λ x u c. cs x c) (λ x u c. vs x c) g d inv a o (formula_always a o) b

  pub rename_all_true : (g : Setting) (d : ℕ) (l : List PlainFormula) → AllFirstOrder l → AllTrue g d i s [] (rename_all r l) ≡ AllTrue g d j t [] l
  rename_all_true g d [] o = refl
  rename_all_true g d (a ∷ l) o = λ e. rename_truth_all g d (InvTruth g d) a o.0 [] e × rename_all_true g d l o.1 e
