-- What holds of all components, whichever nodes these are of.
use Rattle.std.specs.Prelude.{◌≡◌, ℕ, List, Option}
use Rattle.jd_components.specs.Components.{AreComponents, Tied}

-- nodes have one numbering of their components
abbrev pub ComponentsAreOne : Type 0
ComponentsAreOne = (parents : List (Option ℕ)) (numbers others : List ℕ) (count other : ℕ) → AreComponents parents numbers count → AreComponents parents others other → (numbers ≡ others) × (count ≡ other)

-- being tied goes both ways
abbrev pub TiesAreSymmetric : Type 0
TiesAreSymmetric = (parents : List (Option ℕ)) (a b : ℕ) → Tied parents a b → Tied parents b a

-- and on from one to the next
abbrev pub TiesAreTransitive : Type 0
TiesAreTransitive = (parents : List (Option ℕ)) (a b c : ℕ) → Tied parents a b → Tied parents b c → Tied parents a c
