-- Members of the code, and how many routines stand before one.
use Rattle.std.proofs.Common.{◌≡◌, ℕ, ◌<◌, ◌≤◌, List, length, map, take, get_or, Some, refl, ap, ◌∙◌, arith}
use Rattle.std.specs.List.{slice_get}
use Rattle.std.specs.Option.{option_map}
use Rattle.std.proofs.lemmas.List.{length-take}
use Rattle.std.proofs.lemmas.List.Sums.{count_by-le-length, length-filter}
use Rattle.std.proofs.lemmas.Option.{slice_get-map, slice_get_read}
use Rattle.jd_jclasses.specs.Members.{Declared, is_routine}
use Rattle.jd_jlists.specs.Views.{member_of_view}
use Rattle.jd_jlists.specs.declared.member.MemberOf.{MemberOf}
use Rattle.jd_jseen.specs.Own.{routines_before}

pub viewed_at : (xs : List MemberOf) (i : ℕ) (x : MemberOf) → x ≡ get_or xs i x → i < length xs → slice_get (map member_of_view xs) i ≡ Some (member_of_view x)
viewed_at xs i x is lt = slice_get-map member_of_view xs i ∙ ap (option_map member_of_view) (slice_get_read xs (length xs) i x refl lt is)

pub few_before : (members : List Declared) (i : ℕ) → routines_before members i ≤ i
few_before members i =
    omega (arith, length-filter (λ (m : Declared). is_routine m.kind) (take i members), count_by-le-length (λ (m : Declared). is_routine m.kind) (take i members), length-take i members)
