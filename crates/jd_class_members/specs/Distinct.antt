-- Numbers that are put behind others, each once.
use Rattle.std.specs.Prelude.{ℕ, nat_eq, List, [], ◌∷◌, Option, Some, None}
use Rattle.indexmap.specs.IndexSet.{insert_key}

abbrev pub inserted : List ℕ → Option ℕ → List ℕ
inserted ks None = ks
inserted ks (Some k) = insert_key nat_eq ks k

-- what is found for each
abbrev pub all_inserted : (ℕ → Option ℕ) → List ℕ → List ℕ → List ℕ
all_inserted f ks [] = ks
all_inserted f ks (m ∷ ms) = all_inserted f (inserted ks (f m)) ms
