-- Lists without an element.
use Rattle.std.proofs.Common.{List, arith, false, length, refl, true, ◌<◌, ◌≡◌, ◌∷◌, []}
use Rattle.jd_taclet_stages.specs.Stages.{is_empty}

pub none_is_empty : {A : Type 0} (xs : List A) → length xs ≡ 0 → is_empty xs ≡ true
none_is_empty [] none = refl
none_is_empty (x ∷ xs) none = absurd (omega (arith, none))

pub some_is_not_empty : {A : Type 0} (xs : List A) → 0 < length xs → is_empty xs ≡ false
some_is_not_empty [] some = absurd (omega (arith, some))
some_is_not_empty (x ∷ xs) some = refl

pub ruleset empty = (none_is_empty, some_is_not_empty)
