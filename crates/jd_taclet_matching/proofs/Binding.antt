-- Binding parts that are made for a step, one after the other.
use Rattle.std.proofs.Common.{List, ap, get_or, length, map, drop, sym, ◌+◌, ◌<◌, ◌≡◌, ◌∙◌, ◌∷◌, ℕ}
use Rattle.std.proofs.lemmas.List.{drop_more}
use Rattle.jd_patterns.specs.Bindings.{Bindings, bind, next}
use Rattle.jd_schema_matching.specs.Tested.{tests}
use Rattle.jd_taclet_stages.specs.Stages.{bind_all}
use Rattle.jd_taclet_matching.specs.OwnedParts.{owned_entry}
use Rattle.jd_taclet_matching.specs.declared.owned.OwnedEntry.{OwnedEntry}

-- what is left, with one bound
pub next_bound : (es : List OwnedEntry) (i : ℕ) (e : OwnedEntry) (τ : Bindings) → i < length es → e ≡ get_or es i e → bind_all tests (map owned_entry (drop i es)) τ ≡ next (bind tests (owned_entry e).0 (owned_entry e).1 τ) (bind_all tests (map owned_entry (drop (i + 1) es)))
next_bound es i e τ lt is = ap (λ l. bind_all tests (map owned_entry l) τ) (drop_more es i e lt ∙ ap (λ x. x ∷ drop (i + 1) es) (sym is))

pub ruleset binds = next_bound
