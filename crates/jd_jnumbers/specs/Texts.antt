-- Texts without repetition, each with its place as its number.
use Rattle.std.specs.Prelude.{ℕ, List, [], ◌∷◌, ◌++◌, fold, map, Option, if◌then◌else◌}
use Rattle.std.specs.List.{list_any, position_from}
use Rattle.std.specs.Str.{bytes_eq}
use Rattle.std.specs.Global.{Vec}
use Rattle.indexmap.specs.IndexSet.{IndexSet}

-- the texts that a set holds, in its order
abbrev pub text_list : {S : Type 0} → IndexSet (Vec ℕ) S → List (List ℕ)
text_list s = map (λ t. t.items) s.keys

-- a text behind the others, where it is none of them
abbrev pub insert_text : List (List ℕ) → List ℕ → List (List ℕ)
insert_text texts text = if list_any (bytes_eq text) texts then texts else texts ++ text ∷ []

-- each text once, in the order in which they occur first
abbrev pub distinct : List (List ℕ) → List (List ℕ)
distinct texts = fold insert_text [] texts

-- the number of a text: the first place where it stands
abbrev pub number_in : List (List ℕ) → List ℕ → Option ℕ
number_in texts text = position_from (λ t. bytes_eq t text) 0 texts
