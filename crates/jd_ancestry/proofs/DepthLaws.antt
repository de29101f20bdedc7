-- What depths say of the nodes above a node.
use Rattle.std.proofs.Common.{◌<◌, ◌≤◌, ◌≡◌, ◌↔◌, ℕ, List, get_or, Option, Some, false, sym, ap, ◌∙◌, inl, inr, arith}
use Rattle.std.proofs.lemmas.Bool.{false≢true}
use Rattle.std.specs.Bool.{Decides}
use Rattle.std.specs.List.{slice_get}
use Rattle.jd_ancestry.specs.Ancestors.{Above}
use Rattle.jd_ancestry.specs.Ancestors.Above.{above_child, above_parent}
use Rattle.jd_ancestry.specs.Depths.{IsDepths}
use Rattle.jd_ancestry.proofs.Ancestry.{first_step}

pub grow : (parents : List (Option ℕ)) (depths : List ℕ) → IsDepths parents depths → (a b : ℕ) → Above parents a b → get_or depths a 0 < get_or depths b 0
grow parents depths known a b (above_child _ _ e) = omega (arith, known.below a b e)
grow parents depths known a b (above_parent _ d _ e p) = omega (arith, grow parents depths known a d p, known.below d b e)

pub exclude_cycles : (parents : List (Option ℕ)) (depths : List ℕ) → IsDepths parents depths → (a : ℕ) → Above parents a a → ⊥
exclude_cycles parents depths known a p = let lower = grow parents depths known a a p in absurd (omega arith)

-- a node that is not directly above another stands above it where it stands above the node that is
pub one_up : (parents : List (Option ℕ)) (a b node parent : ℕ) → slice_get parents node ≡ Some (Some parent) → (parent ≡ a → ⊥) → (Above parents a node ↔ Above parents a b) → (Above parents a parent ↔ Above parents a b)
one_up parents a b node parent e other same = (
  λ p. same.0 (above_parent a parent node e p),
  λ p. elim (first_step parents a parent node e (same.1 p)) [
    | inl here ↦ absurd (other (sym here))
    | inr above ↦ above
  ],
)

pub is_child_above : (parents : List (Option ℕ)) (a b node parent : ℕ) → slice_get parents node ≡ Some (Some parent) → parent ≡ a → (Above parents a node ↔ Above parents a b) → Above parents a b
is_child_above parents a b node parent e same both = both.0 (above_child a node (e ∙ ap (λ (x : ℕ). Some (Some x)) same))

-- a node whose depth is not smaller does not stand above
pub none_below : (parents : List (Option ℕ)) (depths : List ℕ) → IsDepths parents depths → (a b node : ℕ) → (Above parents a node ↔ Above parents a b) → get_or depths node 0 ≤ get_or depths a 0 → Decides false (Above parents a b)
none_below parents depths known a b node both le = (
  λ wrong. absurd (false≢true wrong),
  λ p. let lower = grow parents depths known a node (both.1 p) in absurd (omega arith),
)

pub smaller_up : (parents : List (Option ℕ)) (depths : List ℕ) → IsDepths parents depths → (node parent : ℕ) → slice_get parents node ≡ Some (Some parent) → get_or depths parent 0 < get_or depths node 0
smaller_up parents depths known node parent e = grow parents depths known parent node (above_child parent node e)
