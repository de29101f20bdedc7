-- The columns of members.
use Rattle.std.proofs.Common.{◌≡◌, ◌⊎◌, ℕ, ◌+◌, ◌<◌, Bool, true, false, not, cond, Option, Some, None, refl, arith, inl, inr}
use Rattle.std.proofs.lemmas.Option.{none-some, same_Some}
use Rattle.jd_jclasses.specs.Members.{Kind, FieldOf, ConstantOf, RoutineOf, builds, is_constructor, is_method, is_routine}
use Rattle.jd_jseen.specs.Own.{column_of}

-- what has this column: a constructor, or a method whose name has this number
abbrev pub OfColumn : ℕ → ℕ → ℕ → Kind → Type 0
OfColumn name count k kind = ((is_constructor kind ≡ true) × (count ≡ k)) ⊎ ((is_method kind ≡ true) × (name ≡ k))

routine_of : (name count k : ℕ) (b : Bool) → Some (cond b count name) ≡ Some k → ((b ≡ true) × (count ≡ k)) ⊎ ((not b ≡ true) × (name ≡ k))
routine_of name count k true h = inl (refl, same_Some count k h)
routine_of name count k false h = inr (refl, same_Some name k h)

pub of_column : (name count k : ℕ) (kind : Kind) → column_of name count kind ≡ Some k → OfColumn name count k kind
of_column name count k (FieldOf t) h = absurd (none-some k h)
of_column name count k (ConstantOf n) h = absurd (none-some k h)
of_column name count k (RoutineOf m) h = routine_of name count k (builds m.result) h

pub routine_has_column : (name count k : ℕ) (kind : Kind) → column_of name count kind ≡ Some k → is_routine kind ≡ true
routine_has_column name count k (FieldOf t) h = absurd (none-some k h)
routine_has_column name count k (ConstantOf n) h = absurd (none-some k h)
routine_has_column name count k (RoutineOf m) h = refl

pub no_routine_without : (name count : ℕ) (kind : Kind) → column_of name count kind ≡ None → is_routine kind ≡ false
no_routine_without name count (FieldOf t) h = refl
no_routine_without name count (ConstantOf n) h = refl
no_routine_without name count (RoutineOf m) h = absurd cc

pub column_below : (name count k : ℕ) (kind : Kind) → name < count → column_of name count kind ≡ Some k → k < count + 1
column_below name count k kind lt h =
    elim (of_column name count k kind h) [
      | inl built ↦ omega (arith, built.1)
      | inr named ↦ omega (arith, named.1)
    ]

method_column : (name count : ℕ) (b : Bool) → not b ≡ true → ◌≡◌ {A = Option ℕ} (Some (cond b count name)) (Some name)
method_column name count true h = absurd cc
method_column name count false h = refl

pub column_of_method : (name count : ℕ) (kind : Kind) → is_method kind ≡ true → column_of name count kind ≡ Some name
column_of_method name count (FieldOf t) h = absurd cc
column_of_method name count (ConstantOf n) h = absurd cc
column_of_method name count (RoutineOf m) h = method_column name count (builds m.result) h

constructor_column : (name count : ℕ) (b : Bool) → b ≡ true → ◌≡◌ {A = Option ℕ} (Some (cond b count name)) (Some count)
constructor_column name count true h = refl
constructor_column name count false h = absurd cc

pub column_of_constructor : (name count : ℕ) (kind : Kind) → is_constructor kind ≡ true → column_of name count kind ≡ Some count
column_of_constructor name count (FieldOf t) h = absurd cc
column_of_constructor name count (ConstantOf n) h = absurd cc
column_of_constructor name count (RoutineOf m) h = constructor_column name count (builds m.result) h
