-- Lists of numbers that grow.
use Rattle.std.proofs.Common.{◌≡◌, ℕ, ◌<◌, List, [], ◌∷◌, ◌++◌, length, get_or, set, sym, ap, ◌∙◌}
use Rattle.std.specs.Global.{Vec}
use Rattle.std.proofs.lemmas.List.{get_or-map, map-set}
use Rattle.jd_jgraph.specs.Named.{lists_of, put_behind}

pub put_made : (vs : List (Vec ℕ)) (place x : ℕ) (old new : Vec ℕ) → old ≡ get_or vs place old → place < length vs → new.items ≡ old.items ++ x ∷ [] → lists_of (set vs place new) ≡ put_behind (lists_of vs) place x
put_made vs place x old new is lt made =
    map-set (λ (v : Vec ℕ). v.items) vs place new
    ∙ ap (λ (l : List ℕ). set (lists_of vs) place l)
    (made ∙ ap (λ (l : List ℕ). l ++ x ∷ []) (ap (λ (v : Vec ℕ). v.items) is ∙ sym (get_or-map (λ (v : Vec ℕ). v.items) vs place old [] lt)))
