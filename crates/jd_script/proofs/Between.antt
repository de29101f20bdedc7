-- A token of a step, where neither a tree nor an instantiation may stand.
use Rattle.std.proofs.Common.{◌≡◌, ℕ, List, Option, refl, ap, ◌∙◌}
use Rattle.std.specs.Prelude.{option_map}
use Rattle.jd_bracketed.specs.Tokens.{TokenKind}
use Rattle.jd_sequent.specs.Trees.{PlainNode}
use Rattle.jd_scripts.specs.Scripts.{Limits}
use Rattle.jd_scripts.specs.Machine as machine
use Rattle.jd_scripts.specs.Machine.{Context, part_step, goes_part, in_proof, decide}
use Rattle.jd_script.specs.PartViews.{part_view}
use Rattle.jd_script.specs.TurnViews.{turn_at}
use Rattle.jd_script.specs.declared.draft.Draft.{Draft}
use Rattle.jd_script.specs.declared.draft.Part.{Part}
use Rattle.jd_script.specs.declared.draft.Part.TheVariants as parts
use Rattle.jd_script.specs.declared.stop.PartTurn.{PartTurn}

module _ (l : Limits) (c : Context) (ns : List PlainNode) (os : List ℕ) (k : ℕ) (old new : Draft) (t : TokenKind) (o : Option Part) (turn : PartTurn) where
  pub between : (part : Part) → (part ≡ parts.TreeNext → ⊥) → (part ≡ parts.InstNext → ⊥) → (part ≡ parts.InstBody → ⊥) → (part_view old part ≡ machine.TreeEnd → ⊥)
      → option_map (part_view new) o ≡ part_step (part_view old part) t → turn_at c ns os k new turn ≡ decide l (goes_part c ns os k (option_map (part_view new) o))
      → turn_at c ns os k new turn ≡ decide l (in_proof c (part_view old part) ns os k t)
  between parts.TreeNext x y z w h g = absurd (x refl)
  between parts.RuleNext x y z w h g = g ∙ ap (λ q. decide l (goes_part c ns os k q)) h
  between parts.PlaceNext x y z w h g = g ∙ ap (λ q. decide l (goes_part c ns os k q)) h
  between parts.AssumesNext x y z w h g = g ∙ ap (λ q. decide l (goes_part c ns os k q)) h
  between parts.AssumedNext x y z w h g = g ∙ ap (λ q. decide l (goes_part c ns os k q)) h
  between parts.InstsNext x y z w h g = g ∙ ap (λ q. decide l (goes_part c ns os k q)) h
  between parts.InstNext x y z w h g = absurd (y refl)
  between parts.InstName x y z w h g = g ∙ ap (λ q. decide l (goes_part c ns os k q)) h
  between parts.InstBody x y z w h g = absurd (z refl)
  between parts.TreeEnd x y z w h g = absurd (w refl)
