-- The number of a routine is that of the routines before it among the members.
use Rattle.std.proofs.Common.{◌≡◌, ℕ, zero, suc, Bool, true, false, cond, List, [], ◌∷◌, length, take, Some, refl, sym, ap, ◌∙◌}
use Rattle.std.specs.List.{filter, slice_get}
use Rattle.std.proofs.lemmas.Option.{same_Some}
use Rattle.jd_jclasses.specs.Members.{Declared, declared_members, is_routine}
use Rattle.jd_jseen.specs.Laws.{MembersAreRoutines, RoutinesAreMembers}

-- ---- what is kept of a list stands behind what is kept before it

one_kept : {X : Type 0} (x y : X) (ys front : List X) (b : Bool) → slice_get ys (length front) ≡ Some x → slice_get (cond b (y ∷ ys) ys) (length (cond b (y ∷ front) front)) ≡ Some x
one_kept x y ys front true h = h
one_kept x y ys front false h = h

head_kept : {X : Type 0} (y : X) (ys : List X) (b : Bool) → b ≡ true → slice_get (cond b (y ∷ ys) ys) 0 ≡ Some y
head_kept y ys true e = refl
head_kept y ys false e = absurd cc

pub kept_at : {X : Type 0} (p : X → Bool) (xs : List X) (i : ℕ) (x : X) → slice_get xs i ≡ Some x → p x ≡ true → slice_get (filter p xs) (length (filter p (take i xs))) ≡ Some x
kept_at p [] i x h passes = absurd cc
kept_at p (y ∷ ys) zero x h passes =
    let same = same_Some y x h in head_kept y (filter p ys) (p y) (ap p same ∙ passes) ∙ h
kept_at p (y ∷ ys) (suc i) x h passes = one_kept x y (filter p ys) (filter p (take i ys)) (p y) (kept_at p ys i x h passes)

-- and it is an element of the list
pub record IsKept {X : Type 0} (p : X → Bool) (xs : List X) (m : ℕ) (x : X) : Type 0 where
  pub i : ℕ
  pub there : slice_get xs i ≡ Some x
  pub passes : p x ≡ true
  pub number : m ≡ length (filter p (take i xs))

kept_here : {X : Type 0} (p : X → Bool) (y : X) (ys : List X) (m : ℕ) (x : X) (b : Bool) → p y ≡ b → ((k : ℕ) → slice_get (filter p ys) k ≡ Some x → IsKept p ys k x) → slice_get (cond b (y ∷ filter p ys) (filter p ys)) m ≡ Some x → IsKept p (y ∷ ys) m x
kept_here p y ys zero x true e behind h = record { i = 0; there = h; passes = ap p (sym (same_Some y x h)) ∙ e; number = refl }
kept_here p y ys (suc m) x true e behind h =
    let k = behind m h in
    record {
      i = suc k.i;
      there = k.there;
      passes = k.passes;
      number = ap suc k.number ∙ ap (λ (b : Bool). length (cond b (y ∷ filter p (take k.i ys)) (filter p (take k.i ys)))) (sym e);
    }
kept_here p y ys m x false e behind h =
    let k = behind m h in
    record {
      i = suc k.i;
      there = k.there;
      passes = k.passes;
      number = k.number ∙ ap (λ (b : Bool). length (cond b (y ∷ filter p (take k.i ys)) (filter p (take k.i ys)))) (sym e);
    }

pub kept : {X : Type 0} (p : X → Bool) (xs : List X) (m : ℕ) (x : X) → slice_get (filter p xs) m ≡ Some x → IsKept p xs m x
kept p [] m x h = absurd cc
kept p (y ∷ ys) m x h = kept_here p y ys m x (p y) refl (λ k e. kept p ys k x e) h

-- ---- the laws

pub members_are_routines : MembersAreRoutines
members_are_routines units i r there routine = kept_at (λ (m : Declared). is_routine m.kind) (declared_members units) i r there routine

pub routines_are_members : RoutinesAreMembers
routines_are_members units m r there =
    let k = kept (λ (x : Declared). is_routine x.kind) (declared_members units) m r there in (k.i, k.there, k.passes, k.number)
