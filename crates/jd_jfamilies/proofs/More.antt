-- One more routine that is listed.
use Rattle.std.proofs.Common.{◌≡◌, ℕ, zero, suc, ◌+◌, ◌<◌, Bool, true, false, cond, List, [], ◌∷◌, ◌++◌, length, map, take, get_or, Option, Some, slice_index, refl, sym, ap, ◌∙◌, inl, inr, arith, length-append}
use Rattle.std.specs.List.{slice_get}
use Rattle.std.specs.Option.{option_map}
use Rattle.std.proofs.lemmas.Bool.{cases_lt, false≢true}
use Rattle.std.proofs.lemmas.List.{length-take}
use Rattle.std.proofs.lemmas.List.Filters.{length-filter_more}
use Rattle.std.proofs.lemmas.List.Sums.{count_by-le-length, length-filter}
use Rattle.std.proofs.lemmas.Option.{get_or_from_slice_get, same_Some, slice_get-map, slice_get_read, slice_get_within}
use Rattle.jd_jclasses.specs.Members.{Declared, is_routine}
use Rattle.jd_jlists.specs.Views.{member_of_view}
use Rattle.jd_jlists.specs.declared.member.MemberOf.{MemberOf}
use Rattle.jd_jseen.specs.Own.{routines_before}
use Rattle.jd_jfamilies.specs.Listed.{AreListed, seen_above}

-- ---- places of lists

-- a member of the code, as it is declared
pub viewed_at : (xs : List MemberOf) (i : ℕ) (x : MemberOf) → x ≡ get_or xs i x → i < length xs → slice_get (map member_of_view xs) i ≡ Some (member_of_view x)
viewed_at xs i x is lt = slice_get-map member_of_view xs i ∙ ap (option_map member_of_view) (slice_get_read xs (length xs) i x refl lt is)

kept_in_front : {X : Type 0} (xs ys : List X) (i : ℕ) (x : X) → slice_get xs i ≡ Some x → slice_get (xs ++ ys) i ≡ Some x
kept_in_front [] ys i x h = absurd cc
kept_in_front (y ∷ xs) ys zero x h = h
kept_in_front (y ∷ xs) ys (suc i) x h = kept_in_front xs ys i x h

last_of : {X : Type 0} (xs : List X) (x : X) → slice_get (xs ++ x ∷ []) (length xs) ≡ Some x
last_of [] x = refl
last_of (y ∷ xs) x = last_of xs x

-- ---- the number of the next routine

pub few_before : (members : List Declared) (i : ℕ) → routines_before members i < i + 1
few_before members i =
    omega (arith, length-filter (λ (m : Declared). is_routine m.kind) (take i members), count_by-le-length (λ (m : Declared). is_routine m.kind) (take i members), length-take i members)

next_number : (members : List Declared) (i : ℕ) (a : Declared) (b : Bool) → slice_get members i ≡ Some a → is_routine a.kind ≡ b → routines_before members (i + 1) ≡ routines_before members i + cond b 1 0
next_number members i a b there is =
    length-filter_more (λ (m : Declared). is_routine m.kind) members i a (slice_get_within members i a there)
    ∙ ap (λ (x : Declared). routines_before members i + cond (is_routine x.kind) 1 0) (get_or_from_slice_get members i a a there)
    ∙ ap (λ (t : Bool). routines_before members i + cond t 1 0) is

-- ---- one more member

module _ (parents : List (Option ℕ)) (members : List Declared) (names : List ℕ) (count : ℕ) (cells : List (Option ℕ)) (i : ℕ) (a : Declared) (listed : List (Option ℕ)) (there : slice_get members i ≡ Some a)
    (all : AreListed parents members names count cells i listed) where
  pub not_listed : is_routine a.kind ≡ false → AreListed parents members names count cells (i + 1) listed
  not_listed e =
      record {
        each = omega (arith, all.each, next_number members i a false there e);
        written = λ j b lt at routine.
            elim (cases_lt j i) [
              | inl before ↦ all.written j b before at routine
              | inr not ↦
                  let last : j ≡ i = omega (arith, lt, not) in
                  let same : a ≡ b = same_Some a b (sym there ∙ ap (λ (n : ℕ). slice_get members n) (sym last) ∙ at) in
                  absurd (false≢true (sym e ∙ ap (λ (x : Declared). is_routine x.kind) same ∙ routine))
            ];
      }

  pub one_listed : is_routine a.kind ≡ true → (value : Option ℕ) → value ≡ seen_above parents count cells a (slice_index names i) → AreListed parents members names count cells (i + 1) (listed ++ value ∷ [])
  one_listed e value is =
      record {
        each = omega (arith, length-append listed (value ∷ []), all.each, next_number members i a true there e);
        written = λ j b lt at routine.
            elim (cases_lt j i) [
              | inl before ↦ kept_in_front listed (value ∷ []) (routines_before members j) (seen_above parents count cells b (slice_index names j)) (all.written j b before at routine)
              | inr not ↦
                  let last : j ≡ i = omega (arith, lt, not) in
                  let same : a ≡ b = same_Some a b (sym there ∙ ap (λ (n : ℕ). slice_get members n) (sym last) ∙ at) in
                  ap (λ (n : ℕ). slice_get (listed ++ value ∷ []) (routines_before members n)) last
                  ∙ ap (λ (n : ℕ). slice_get (listed ++ value ∷ []) n) (sym all.each)
                  ∙ last_of listed value
                  ∙ ap Some (is ∙ ap (λ (x : Declared). seen_above parents count cells x (slice_index names i)) same ∙ ap (λ (n : ℕ). seen_above parents count cells b (slice_index names n)) (sym last))
            ];
      }
