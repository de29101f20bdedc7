-- Members of the code, and the numbers of routines.
use Rattle.std.proofs.Common.{◌≡◌, ℕ, ◌+◌, ◌<◌, ◌≤◌, Bool, true, false, cond, List, length, map, take, get_or, Some, refl, sym, ap, ◌∙◌, subst, arith}
use Rattle.std.specs.List.{filter, slice_get}
use Rattle.std.specs.Option.{option_map}
use Rattle.std.proofs.Math.Seq.{take-length}
use Rattle.std.proofs.lemmas.List.{length-map, length-take}
use Rattle.std.proofs.lemmas.List.Filters.{length-filter_more}
use Rattle.std.proofs.lemmas.List.Sums.{count_by-le-length, length-filter}
use Rattle.std.proofs.lemmas.Option.{get_or_from_slice_get, slice_get-map, slice_get_read, slice_get_within}
use Rattle.jd_jclasses.specs.Members.{Declared, is_routine}
use Rattle.jd_jlists.specs.Views.{member_of_view}
use Rattle.jd_jlists.specs.declared.member.MemberOf.{MemberOf}
use Rattle.jd_jseen.specs.Own.{routines_before}
use Rattle.jd_jseen.proofs.Routines.{kept_at}

pub viewed_at : (xs : List MemberOf) (i : ℕ) (x : MemberOf) → x ≡ get_or xs i x → i < length xs → slice_get (map member_of_view xs) i ≡ Some (member_of_view x)
viewed_at xs i x is lt = slice_get-map member_of_view xs i ∙ ap (option_map member_of_view) (slice_get_read xs (length xs) i x refl lt is)

module _ (members : List Declared) (i : ℕ) where
  pub few_before : routines_before members i ≤ i
  few_before =
      omega (arith, length-filter (λ (m : Declared). is_routine m.kind) (take i members), count_by-le-length (λ (m : Declared). is_routine m.kind) (take i members), length-take i members)

  module _ (a : Declared) (there : slice_get members i ≡ Some a) where
    next_number : (b : Bool) → is_routine a.kind ≡ b → routines_before members (i + 1) ≡ routines_before members i + cond b 1 0
    next_number b is =
        length-filter_more (λ (m : Declared). is_routine m.kind) members i a (slice_get_within members i a there)
        ∙ ap (λ (x : Declared). routines_before members i + cond (is_routine x.kind) 1 0) (get_or_from_slice_get members i a a there)
        ∙ ap (λ (t : Bool). routines_before members i + cond t 1 0) is

    pub after_routine : is_routine a.kind ≡ true → routines_before members (i + 1) ≡ routines_before members i + 1
    after_routine is = next_number true is

    pub after_other : is_routine a.kind ≡ false → routines_before members (i + 1) ≡ routines_before members i
    after_other is = omega (arith, next_number false is)

    -- its number is one of those of all routines
    pub within : is_routine a.kind ≡ true → routines_before members i < routines_before members (length members)
    within is =
        subst (λ (l : List Declared). routines_before members i < length (filter (λ m. is_routine m.kind) l)) (sym (take-length members))
        (slice_get_within (filter (λ m. is_routine m.kind) members) (routines_before members i) a (kept_at (λ (m : Declared). is_routine m.kind) members i a there is))

-- the same of members of the code
pub within_all : (members : List MemberOf) (i : ℕ) (a : Declared) → slice_get (map member_of_view members) i ≡ Some a → is_routine a.kind ≡ true
    → routines_before (map member_of_view members) i < routines_before (map member_of_view members) (length members)
within_all members i a there is =
    subst (λ (n : ℕ). routines_before (map member_of_view members) i < routines_before (map member_of_view members) n) (length-map members member_of_view) (within (map member_of_view members) i a there is)
