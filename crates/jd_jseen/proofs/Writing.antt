-- Cells that are written, one after the other.
use Rattle.std.proofs.Common.{◌≡◌, ◌≢◌, ℕ, ◌+◌, ◌*◌, ◌<◌, ◌≤◌, Bool, true, false, cond, List, length, set, Option, Some, None, slice_index, refl, ◌⊎◌, sym, ap, ◌∙◌, inl, inr, arith, mul_comm}
use Rattle.std.specs.List.{slice_get}
use Rattle.std.proofs.lemmas.Bool.{cases_eq, cases_lt}
use Rattle.std.proofs.lemmas.Grind.{get_or-set_at}
use Rattle.std.proofs.lemmas.List.{get_or-set_other, length-set}
use Rattle.std.proofs.lemmas.List.Filters.{length-filter_more}
use Rattle.std.proofs.lemmas.Nat.{mul-add-lt, same_from_place}
use Rattle.std.proofs.lemmas.Option.{get_or_from_slice_get, none-some, same_Some, slice_get_within}
use Rattle.jd_nearest.specs.Nearest.{column}
use Rattle.jd_jclasses.specs.Members.{Declared, is_routine}
use Rattle.jd_jseen.specs.Own.{AreOwn, AreWithin, StandAlone, StandsAt, column_of, routines_before}
use Rattle.jd_jseen.proofs.Columns.{column_below, no_routine_without, routine_has_column}

-- ---- the number of the next routine

next_number : (members : List Declared) (i : ℕ) (a : Declared) (b : Bool) → slice_get members i ≡ Some a → is_routine a.kind ≡ b → routines_before members (i + 1) ≡ routines_before members i + cond b 1 0
next_number members i a b there is =
    length-filter_more (λ (m : Declared). is_routine m.kind) members i a (slice_get_within members i a there)
    ∙ ap (λ (x : Declared). routines_before members i + cond (is_routine x.kind) 1 0) (get_or_from_slice_get members i a a there)
    ∙ ap (λ (t : Bool). routines_before members i + cond t 1 0) is

-- ---- one more member

module _ (members : List Declared) (names : List ℕ) (count classes i : ℕ) (a : Declared) (cells : List (Option ℕ)) (there : slice_get members i ≡ Some a) (own : AreOwn members names count classes i cells) where
  module _ (without : column_of (slice_index names i) count a.kind ≡ None) where
    not_there : (class k : ℕ) → StandsAt members names count i class k → ⊥
    not_there class k s =
        let same : s.member ≡ a = same_Some s.member a (sym s.there ∙ there) in
        none-some k (sym (ap (λ (x : Declared). column_of (slice_index names i) count x.kind) same ∙ without) ∙ s.in_column)

    pub not_written : AreOwn members names count classes (i + 1) cells
    not_written =
        record {
          each = own.each;
          written = λ j class k lt s.
              elim (cases_lt j i) [
                | inl before ↦ own.written j class k before s
                | inr not ↦ let last : j ≡ i = omega (arith, lt, not) in absurd (not_there class k (at_place j last class k s))
              ];
          only = λ class k m lt e. let o = own.only class k m lt e in (o.0, omega (arith, o.1), o.2, o.3);
        }
      where
        at_place : (j : ℕ) → j ≡ i → (class k : ℕ) → StandsAt members names count j class k → StandsAt members names count i class k
        at_place j last class k s =
            record {
              member = s.member;
              there = ap (λ (n : ℕ). slice_get members n) (sym last) ∙ s.there;
              of_class = s.of_class;
              in_column = ap (λ (n : ℕ). column_of (slice_index names n) count s.member.kind) (sym last) ∙ s.in_column;
            }

    pub same_number : routines_before members (i + 1) ≡ routines_before members i
    same_number = omega (arith, next_number members i a false there (no_routine_without (slice_index names i) count a.kind without))

  module _ (k : ℕ) (has : column_of (slice_index names i) count a.kind ≡ Some k) where
    pub next_routine : routines_before members (i + 1) ≡ routines_before members i + 1
    next_routine = omega (arith, next_number members i a true there (routine_has_column (slice_index names i) count k a.kind has))

    module _ (within : AreWithin members names count classes) where
      in_row : k < count + 1
      in_row = column_below (slice_index names i) count k a.kind (within i a there).1 has

      pub inside : a.class * (count + 1) + k < length cells
      inside = omega (arith, mul-add-lt a.class (count + 1) k classes (within i a there).0 in_row, own.each, mul_comm (count + 1) classes)

      module _ (alone : StandAlone members names count) where
        it_stands : StandsAt members names count i a.class k
        it_stands = record { member = a; there = there; of_class = refl; in_column = has }

        column_in_row : (j class m : ℕ) → StandsAt members names count j class m → m < count + 1
        column_in_row j class m s = column_below (slice_index names j) count m s.member.kind (within j s.member s.there).1 s.in_column

        abbrev place : ℕ
        place = a.class * (count + 1) + k

        abbrev after : List (Option ℕ)
        after = set cells place (Some (routines_before members i))

        pub one_written : AreOwn members names count classes (i + 1) after
        one_written =
            record {
              each = length-set cells place (Some (routines_before members i)) ∙ own.each;
              written = λ j class m lt s. is_written j class m lt s (cases_lt j i);
              only = λ class m n lt e. is_only class m n lt e (cases_eq (class * (count + 1) + m) place);
            }
          where
            is_written : (j class m : ℕ) → j < i + 1 → StandsAt members names count j class m → (j < i) ⊎ (i ≤ j) → column (count + 1) after m class ≡ Some (routines_before members j)
            is_written j class m lt s (inl before) =
                get_or-set_other cells place (class * (count + 1) + m) (Some (routines_before members i)) None
                (λ same. let p = same_from_place class m a.class k (count + 1) (column_in_row j class m s) in_row same in
                alone j i a.class k before (record { member = s.member; there = s.there; of_class = s.of_class ∙ p.0; in_column = s.in_column ∙ ap Some p.1 }) it_stands)
                ∙ own.written j class m before s
            is_written j class m lt s (inr not) =
                let last : j ≡ i = omega (arith, lt, not) in
                let same : s.member ≡ a = same_Some s.member a (sym s.there ∙ ap (λ (n : ℕ). slice_get members n) last ∙ there) in
                let of_class : class ≡ a.class = sym s.of_class ∙ ap (λ (x : Declared). x.class) same in
                let in_column : Some m ≡ Some k =
                sym s.in_column ∙ ap (λ (x : Declared). column_of (slice_index names j) count x.kind) same ∙ ap (λ (n : ℕ). column_of (slice_index names n) count a.kind) last ∙ has in
                get_or-set_at cells place (class * (count + 1) + m) (Some (routines_before members i)) None
                (ap (λ (c : ℕ). c * (count + 1) + m) of_class ∙ ap (λ (n : ℕ). a.class * (count + 1) + n) (same_Some m k in_column)) inside
                ∙ ap (λ (n : ℕ). Some (routines_before members n)) (sym last)

            is_only : (class m n : ℕ) → m < count + 1 → column (count + 1) after m class ≡ Some n → (class * (count + 1) + m ≡ place) ⊎ (class * (count + 1) + m ≢ place)
                → (j : ℕ) × (j < i + 1) × StandsAt members names count j class m × (n ≡ routines_before members j)
            is_only class m n lt e (inl same) =
                let p = same_from_place class m a.class k (count + 1) lt in_row same in
                let value : Some n ≡ Some (routines_before members i) = sym e ∙ get_or-set_at cells place (class * (count + 1) + m) (Some (routines_before members i)) None same inside in
                (i, omega arith, record { member = a; there = there; of_class = sym p.0; in_column = has ∙ ap Some (sym p.1) }, same_Some n (routines_before members i) value)
            is_only class m n lt e (inr other) =
                let o = own.only class m n lt (sym (get_or-set_other cells place (class * (count + 1) + m) (Some (routines_before members i)) None other) ∙ e) in
                (o.0, omega (arith, o.1), o.2, o.3)
