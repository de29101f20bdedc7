-- Tests on names and on lists of names, and what is read after writes.
use Rattle.std.proofs.Common.{◌≡◌, Bool, true, false, cond, List, [], ◌∷◌, refl, sym, ap, ◌∙◌, subst, true≢false}
use Rattle.jd_base.specs.declared.sort.Sort.{Sort}
use Rattle.jd_base.specs.declared.sort.Sort.TheVariants.{Int as IntSort, Bool as BoolSort, Ref as RefSort, Heap as HeapSort, Field as FieldSort}
use Rattle.jd_heap.specs.Values.{Value, IntValue, BoolValue, RefValue, HeapValue, FieldValue, at_sort, IsOf}
use Rattle.jd_model.proofs.States.{read-write, read_of, state_same}
use Rattle.jd_model.proofs.Coincidence.{Agree}
use Rattle.jd_model.specs.Occurrences.{NotIn, AllOf, member}
use Rattle.jd_model.specs.Runs.{with_values}
use Rattle.jd_model.specs.States.{State, read, write}
use Rattle.jd_syntax.proofs.NameTests.{same_name_decides}
use Rattle.jd_syntax.specs.CodeNames.{same_name}
use Rattle.jd_syntax.specs.Names.{Name}

-- ---- tests on names

pub out_head : (b m : Bool) → cond b true m ≡ false → b ≡ false
out_head true m e = e
out_head false m e = refl

pub out_tail : (b m : Bool) → cond b true m ≡ false → m ≡ false
out_tail true m e = absurd (true≢false e)
out_tail false m e = e

pub name_refl : (x : Name) → same_name x x ≡ true
name_refl x = (same_name_decides x x).1 refl

not_by : (b : Bool) → (b ≡ true → ⊥) → b ≡ false
not_by true h = absurd (h refl)
not_by false h = refl

-- two names of which one has a property that the other has not
pub apart_by : (P : Name → Bool) (x y : Name) → P x ≡ true → P y ≡ false → same_name x y ≡ false
apart_by P x y p q = not_by (same_name x y) (λ e. true≢false (sym p ∙ ap P ((same_name_decides x y).0 e) ∙ q))

pub flip_apart : (x y : Name) → same_name x y ≡ false → same_name y x ≡ false
flip_apart x y h = not_by (same_name y x) (λ e. true≢false (sym ((same_name_decides x y).1 (sym ((same_name_decides y x).0 e))) ∙ h))

pub member_here : (x : Name) (ys : List Name) → member x (x ∷ ys) ≡ true
member_here x ys = ap (λ b. cond b true (member x ys)) (name_refl x)

in_either : (b m : Bool) → m ≡ true → cond b true m ≡ true
in_either true m e = refl
in_either false m e = e

pub member_there : (x y : Name) (ys : List Name) → member x ys ≡ true → member x (y ∷ ys) ≡ true
member_there x y ys e = in_either (same_name x y) (member x ys) e

pub not_in : (x : Name) (ys : List Name) → member x ys ≡ false → NotIn x ys
not_in x [] e = tt
not_in x (y ∷ ys) e = (out_head (same_name x y) (member x ys) e, not_in x ys (out_tail (same_name x y) (member x ys) e))

pub in_not : (x : Name) (ys : List Name) → NotIn x ys → member x ys ≡ false
in_not x [] e = refl
in_not x (y ∷ ys) e = ap (λ b. cond b true (member x ys)) e.0 ∙ in_not x ys e.1

-- what a list of names all have, each has
pub all_of : (P : Name → Type 0) (ys : List Name) → AllOf P ys → (x : Name) → member x ys ≡ true → P x
all_of P [] h x e = absurd (true≢false (sym e))
all_of P (y ∷ ys) h x e = by (λ q. all_of P ys h.1 x q) (same_name x y) refl e
  where
    by : (member x ys ≡ true → P x) → (b : Bool) → same_name x y ≡ b → cond b true (member x ys) ≡ true → P x
    by more true p q = subst P (sym ((same_name_decides x y).0 p)) h.0
    by more false p q = more q

-- ---- what is read after a write

pub at_sort_of : (k : Sort) (v : Value) → IsOf k v → at_sort k v ≡ v
at_sort_of IntSort (IntValue z) e = refl
at_sort_of BoolSort (BoolValue z) e = refl
at_sort_of RefSort (RefValue z) e = refl
at_sort_of HeapSort (HeapValue z) e = refl
at_sort_of FieldSort (FieldValue z) e = refl
at_sort_of k v e = absurd e

pub read_back : (s : State) (x : Name) → at_sort x.sort (read s x) ≡ read s x
read_back s x = at_sort_of x.sort (read s x) (read_of s x)

pub read_here : (s : State) (x : Name) (v : Value) → read (write s x v) x ≡ at_sort x.sort v
read_here s x v = read-write s x v x ∙ ap (λ b. cond b (at_sort x.sort v) (read s x)) (name_refl x)

pub read_there : (s : State) (x : Name) (v : Value) (q : Name) → same_name q x ≡ false → read (write s x v) q ≡ read s q
read_there s x v q e = read-write s x v q ∙ ap (λ b. cond b (at_sort x.sort v) (read s q)) e

-- the value of a name of the same sort comes through whole
pub read_copied : (s t : State) (x y : Name) → x.sort ≡ y.sort → read (write s x (read t y)) x ≡ read t y
read_copied s t x y e = read_here s x (read t y) ∙ ap (λ k. at_sort k (read t y)) e ∙ read_back t y

-- a value of the name's sort comes through whole
pub read_own : (s : State) (x : Name) (v : Value) → IsOf x.sort v → read (write s x v) x ≡ v
read_own s x v o = read_here s x v ∙ at_sort_of x.sort v o

pub new_values : (news : List Name) (vs : List Value) (i : State) → Agree (λ x. NotIn x news) i (with_values i news vs)
new_values [] vs i x o = refl
new_values (y ∷ news) [] i x o = refl
new_values (y ∷ news) (v ∷ vs) i x o =
    sym (read-write i y v x ∙ ap (λ b. cond b (at_sort y.sort v) (read i x)) o.0) ∙ new_values news vs (write i y v) x o.1

pub read_other : (i : State) (xs : List Name) (vs : List Value) (x : Name) → NotIn x xs → read (with_values i xs vs) x ≡ read i x
read_other i xs vs x o = sym (new_values xs vs i x o)

-- writes of two names may change places
pub write_swap : (s : State) (x y : Name) (v w : Value) → same_name x y ≡ false → write (write s x v) y w ≡ write (write s y w) x v
write_swap s x y v w apart = state_same (write (write s x v) y w) (write (write s y w) x v) (λ q.
    read-write (write s x v) y w q
    ∙ ap (cond (same_name q y) (at_sort y.sort w)) (read-write s x v q)
    ∙ by q (same_name q y) (same_name q x) refl refl
    ∙ sym (read-write (write s y w) x v q ∙ ap (cond (same_name q x) (at_sort x.sort v)) (read-write s y w q)))
  where
    by : (q : Name) (a b : Bool) → same_name q y ≡ a → same_name q x ≡ b → cond a (at_sort y.sort w) (cond b (at_sort x.sort v) (read s q)) ≡ cond b (at_sort x.sort v) (cond a (at_sort y.sort w) (read s q))
    by q true true p r = absurd (true≢false (sym ((same_name_decides x y).1 (sym ((same_name_decides q x).0 r) ∙ (same_name_decides q y).0 p)) ∙ apart))
    by q true false p r = refl
    by q false true p r = refl
    by q false false p r = refl
