-- Names that are given terms, and the values of these.
use Rattle.std.proofs.Common.{Bool, List, cond, false, map, refl, sym, true, ◌≡◌, ◌∷◌, ◌∙◌, []}
use Rattle.jd_heap.specs.Values.{IsOf, Value, at_sort}
use Rattle.jd_model.proofs.States.{read-write}
use Rattle.jd_model.proofs.Writes.{at_sort_of, read_other, read_own}
use Rattle.jd_model.specs.Occurrences.{AllApart}
use Rattle.jd_model.specs.Renamings.{look}
use Rattle.jd_model.specs.Runs.{with_values}
use Rattle.jd_model.specs.States.{State, read, write}
use Rattle.jd_model.specs.TermValues.{value}
use Rattle.jd_syntax.specs.CodeNames.{same_name}
use Rattle.jd_syntax.specs.Names.{Name}
use Rattle.jd_term.specs.Terms.{PlainTerm}

-- ---- a list of names and a list of terms

-- the terms' values, each of its name's sort and the same under any bound list
abbrev pub Fit : State → State → List Name → List PlainTerm → List Value → Type 0
Fit i s [] [] [] = Unit {0}
Fit i s (x ∷ xs) (u ∷ us) (v ∷ vs) = ((b : List Value) → value i s b u ≡ v) × IsOf x.sort v × Fit i s xs us vs
Fit i s xs us vs = ⊥

one_look : (i s y : State) (x z : Name) (u t : PlainTerm) (v : Value) (b : List Value) → value i s b u ≡ v → IsOf z.sort v → value i s b t ≡ read y x → (c : Bool) → value i s b (cond c u t) ≡ cond c (at_sort z.sort v) (read y x)
one_look i s y x z u t v b e o h true = e ∙ sym (at_sort_of z.sort v o)
one_look i s y x z u t v b e o h false = h

pub look_value : (i s : State) (xs : List Name) (us : List PlainTerm) (vs : List Value) → Fit i s xs us vs → (y : State) (t : PlainTerm) (x : Name) (b : List Value) → value i s b t ≡ read y x → value i s b (look xs us t x) ≡ read (with_values y xs vs) x
look_value i s [] [] [] o = λ y t x b h. h
look_value i s (z ∷ xs) (u ∷ us) (v ∷ vs) o = λ y t x b h. look_value i s xs us vs o.2 (write y z v) (cond (same_name x z) u t) x b (one_look i s y x z u t v b (o.0 b) o.1 h (same_name x z) ∙ sym (read-write y z v x))
look_value i s [] [] (v ∷ vs) o = absurd o
look_value i s [] (u ∷ us) vs o = absurd o
look_value i s (z ∷ xs) [] vs o = absurd o
look_value i s (z ∷ xs) (u ∷ us) [] o = absurd o

-- values of the names' sorts
abbrev pub Sorted : List Name → List Value → Type 0
Sorted [] [] = Unit {0}
Sorted (x ∷ xs) (v ∷ vs) = IsOf x.sort v × Sorted xs vs
Sorted xs vs = ⊥

pub fit_sorted : (i s : State) (xs : List Name) (us : List PlainTerm) (vs : List Value) → Fit i s xs us vs → Sorted xs vs
fit_sorted i s [] [] [] o = tt
fit_sorted i s (z ∷ xs) (u ∷ us) (v ∷ vs) o = (o.1, fit_sorted i s xs us vs o.2)
fit_sorted i s [] [] (v ∷ vs) o = absurd o
fit_sorted i s [] (u ∷ us) vs o = absurd o
fit_sorted i s (z ∷ xs) [] vs o = absurd o
fit_sorted i s (z ∷ xs) (u ∷ us) [] o = absurd o

-- what was given is read back
pub reads_given : (i : State) (xs : List Name) (vs : List Value) → AllApart xs → Sorted xs vs → map (read (with_values i xs vs)) xs ≡ vs
reads_given i [] [] a o = refl
reads_given i (x ∷ xs) (v ∷ vs) a o = λ e. (read_other (write i x v) xs vs x a.0 ∙ read_own i x v o.0) e ∷ reads_given (write i x v) xs vs a.1 o.1 e
reads_given i [] (v ∷ vs) a o = absurd o
reads_given i (x ∷ xs) [] a o = absurd o
