-- The reasons in their order: the first that holds is answered, and the members stand where none does.
use Rattle.std.proofs.Common.{◌≡◌, ℕ, zero, suc, ◌<◌, ◌≤◌, List, [], ◌∷◌, Option, length, get_or, refl, Some, inl, inr, arith}
use Rattle.std.proofs.lemmas.Option.{MatchOption-at_some, slice_get_within}
use Rattle.std.specs.List.{slice_get}
use Rattle.jd_syntax.specs.JavaTrees.{JavaUnit}
use Rattle.jd_jclasses.specs.Members.{Declared, declared_members}
use Rattle.jd_jclasses.specs.Refusals.{ClassesStand, FirstAt, FirstPlace, MemberPlace, MembersStand, Nowhere}
use Rattle.jd_jclashes.specs.declared.reason.Reason.{Reason}
use Rattle.jd_jclashes.specs.declared.reason.Reason.TheVariants.{SecondMember, Hidden, Overloaded, BadlyOverridden}
use Rattle.jd_jclashes.specs.Clashes.{ClashRefuses, clash_of, holds_at}
use Rattle.jd_jclashes.specs.Firsts.{IsFoundFirst}

abbrev pub reason_at : ℕ → Reason
reason_at n = get_or (SecondMember ∷ Hidden ∷ Overloaded ∷ BadlyOverridden ∷ []) n SecondMember

-- none of the first so many reasons holds anywhere
abbrev pub NoneBefore : List JavaUnit → ℕ → Type 0
NoneBefore units n = (k : ℕ) → k < n → Nowhere (holds_at units (reason_at k))

-- what a reason holds of is a member
inside : (units : List JavaUnit) (r : Reason) (i : ℕ) → holds_at units r i → i < length (declared_members units)
inside units SecondMember i h = slice_get_within (declared_members units) i h.one h.there
inside units Hidden i h = slice_get_within (declared_members units) i h.one h.there
inside units Overloaded i h =
    elim h [
      | inl e ↦ slice_get_within (declared_members units) i e.one e.there
      | inr o ↦ slice_get_within (declared_members units) i o.one o.there
    ]
inside units BadlyOverridden i h = slice_get_within (declared_members units) i h.one h.there

pub found_inside : (units : List JavaUnit) (r : Reason) (found : Option ℕ) (i : ℕ) → IsFoundFirst (holds_at units r) found → found ≡ Some i → i < length (declared_members units)
found_inside units r found i h is = inside units r i (MatchOption-at_some (Nowhere (holds_at units r)) (FirstAt (holds_at units r)) i is h).here

pub all_stand : (units : List JavaUnit) (n : ℕ) → 4 ≤ n → NoneBefore units n → MembersStand units
all_stand units n all none = record { members = none 0 (omega (arith, all)); variables = none 1 (omega (arith, all)); overloads = none 2 (omega (arith, all)); overrides = none 3 (omega (arith, all)) }

first_refused : (units : List JavaUnit) (n : ℕ) (file at : ℕ) → n < 4 → ClassesStand units → NoneBefore units n → FirstPlace (holds_at units (reason_at n)) (MemberPlace units) file at → ClashRefuses units (clash_of (reason_at n) file at)
first_refused units zero file at lt stand none first = (stand, first)
first_refused units (suc zero) file at lt stand none first = (stand, none 0 (omega arith), first)
first_refused units (suc (suc zero)) file at lt stand none first = (stand, none 0 (omega arith), none 1 (omega arith), first)
first_refused units (suc (suc (suc zero))) file at lt stand none first = (stand, none 0 (omega arith), none 1 (omega arith), none 2 (omega arith), first)
first_refused units (suc (suc (suc (suc n)))) file at lt stand none first = absurd (omega (arith, lt))

pub refused : (units : List JavaUnit) (n i : ℕ) (m : Declared) (found : Option ℕ) → n < 4 → ClassesStand units → NoneBefore units n → IsFoundFirst (holds_at units (reason_at n)) found → found ≡ Some i
    → slice_get (declared_members units) i ≡ Some m → ClashRefuses units (clash_of (reason_at n) m.file m.name.at)
refused units n i m found lt stand none h is there =
    let first = MatchOption-at_some (Nowhere (holds_at units (reason_at n))) (FirstAt (holds_at units (reason_at n))) i is h in
    first_refused units n m.file m.name.at lt stand none (record { i = i; holds = first; place = record { one = m; there = there; file_ = refl; at_ = refl } })
