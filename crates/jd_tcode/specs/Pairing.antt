-- Parts that may be absent, and several of them.
use Rattle.std.specs.Prelude.{◌≡◌, ◌⊎◌, Option, Some, None, option_map, Result, Ok, IfOk}

-- both, where there are both
abbrev pub ArePaired : {A B E : Type 0} → Result (Option A) E → Result (Option B) E → Option (A × B) → Type 0
ArePaired a b None = (a ≡ Ok None) ⊎ (b ≡ Ok None)
ArePaired a b (Some p) = (a ≡ Ok (Some p.0)) × (b ≡ Ok (Some p.1))

-- all three, where there are all
abbrev pub AreThree : {A B C E : Type 0} → Result (Option A) E → Result (Option B) E → Result (Option C) E → Option (A × B × C) → Type 0
AreThree a b c None = (a ≡ Ok None) ⊎ ((b ≡ Ok None) ⊎ (c ≡ Ok None))
AreThree a b c (Some p) = (a ≡ Ok (Some p.0)) × (b ≡ Ok (Some p.1)) × (c ≡ Ok (Some p.2))

-- and all four
abbrev pub AreFour : {A B C D E : Type 0} → Result (Option A) E → Result (Option B) E → Result (Option C) E → Result (Option D) E → Option (A × B × C × D) → Type 0
AreFour a b c d None = (a ≡ Ok None) ⊎ ((b ≡ Ok None) ⊎ ((c ≡ Ok None) ⊎ (d ≡ Ok None)))
AreFour a b c d (Some p) = (a ≡ Ok (Some p.0)) × (b ≡ Ok (Some p.1)) × (c ≡ Ok (Some p.2)) × (d ≡ Ok (Some p.3))

-- what was read of a part is the tree that it is, or nothing where it is none
abbrev pub Gives : {A X E : Type 0} → (A → X) → Result (Option A) E → Option X → Type 0
Gives view part tree = IfOk part (λ o. option_map view o ≡ tree)
