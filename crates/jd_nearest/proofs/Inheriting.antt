-- What a node takes from the nearest, from its own value and from what the node that it stands directly below takes.
use Rattle.std.proofs.Common.{◌≡◌, refl, ◌⊎◌, ℕ, List, Option, Some, None, sym, ap, ◌∙◌, inl, inr}
use Rattle.std.proofs.lemmas.Option.{none-some, same_Some}
use Rattle.std.specs.List.{slice_get}
use Rattle.std.specs.Option.{option_or}
use Rattle.jd_ancestry.specs.Depths.{IsDepths}
use Rattle.jd_nearest.specs.Nearest.{HaveNone, IsInherited, IsNearest}
use Rattle.jd_nearest.proofs.Standing.{none_above, one_of_both, step_down, step_up}

pub one_nearest : (parents : List (Option ℕ)) (depths : List ℕ) → IsDepths parents depths → (own : ℕ → Option ℕ) (a v w : ℕ) → IsNearest parents own a v → IsNearest parents own a w → v ≡ w
one_nearest parents depths known own a v w p q =
    let same : p.owner ≡ q.owner = one_of_both parents depths known p.owner q.owner (q.nearest p.owner v p.there p.has) (p.nearest q.owner w q.there q.has) in
    same_Some v w (sym p.has ∙ ap own same ∙ q.has)

module _ (parents : List (Option ℕ)) (own : ℕ → Option ℕ) where
  -- a node that has a value takes its own
  takes_own : (a v : ℕ) → own a ≡ Some v → IsNearest parents own a v
  takes_own a v e = record {
    owner = a;
    has = e;
    there = inl refl;
    nearest = λ other w at f. at;
  }

  not_here : (a b w : ℕ) → own a ≡ None → b ≡ a → own b ≡ Some w → ⊥
  not_here a b w e same f = none-some w (sym e ∙ ap own (sym same) ∙ f)

  -- one that has none takes what the node directly above takes
  takes_next : (a p : ℕ) (value : Option ℕ) → own a ≡ None → slice_get parents a ≡ Some (Some p) → IsInherited parents own p value → IsInherited parents own a value
  takes_next a p None e parent none = λ other w at f.
      elim at [
        | inl here ↦ not_here a other w e here f
        | inr above ↦ none other w (step_up parents other p a parent above) f
      ]
  takes_next a p (Some v) e parent near = record {
    owner = near.owner;
    has = near.has;
    there = inr (step_down parents near.owner p a parent near.there);
    nearest = λ other w at f.
        elim at [
          | inl here ↦ absurd (not_here a other w e here f)
          | inr above ↦ near.nearest other w (step_up parents other p a parent above) f
        ];
  }

  -- where none stands above
  takes_on_top : (a : ℕ) (value : Option ℕ) → slice_get parents a ≡ Some None → value ≡ own a → IsInherited parents own a value
  takes_on_top a None top e = λ other w at f.
      elim at [
        | inl here ↦ not_here a other w (sym e) here f
        | inr above ↦ none_above parents other a top above
      ]
  takes_on_top a (Some v) top e = takes_own a v (sym e)

  pub inherits_on_top : (a : ℕ) (value : Option ℕ) → slice_get parents a ≡ Some None → (value ≡ own a) ⊎ IsInherited parents own a value → IsInherited parents own a value
  inherits_on_top a value top (inl e) = takes_on_top a value top e
  inherits_on_top a value top (inr there) = there

  has_none : (a : ℕ) (o : Option ℕ) → own a ≡ o → HaveNone parents own a → own a ≡ None
  has_none a None e none = e
  has_none a (Some w) e none = absurd (none a w (inl refl) e)

  -- what a node has, its own or already the nearest, or else what the node directly above takes
  pub inherits : (a p : ℕ) (value above : Option ℕ) → slice_get parents a ≡ Some (Some p) → (value ≡ own a) ⊎ IsInherited parents own a value → IsInherited parents own p above
      → IsInherited parents own a (option_or value above)
  inherits a p None above parent (inl e) there = takes_next a p above (sym e) parent there
  inherits a p None above parent (inr none) there = takes_next a p above (has_none a (own a) refl none) parent there
  inherits a p (Some v) above parent (inl e) there = takes_own a v (sym e)
  inherits a p (Some v) above parent (inr near) there = near
