-- The words that the program is called with.
use Rattle.std.specs.Prelude.{ℕ, Bool, false, not, ◌&&◌, ◌||◌, ◌==◌, if◌then◌else◌, List, [], ◌∷◌, map, Option, Some, None, String, string_bytes, codes}
use Rattle.std.specs.Global.{Global}
use Rattle.std.specs.List.{list_all}
use Rattle.std.specs.Str.{bytes_eq}

abbrev pub word_texts : List (String Global) → List (List ℕ)
word_texts words = map string_bytes words

-- the name of a file: not empty, and not beginning with `-`
abbrev pub is_file_name : List ℕ → Bool
is_file_name [] = false
is_file_name (b ∷ bs) = not (b == 45)

abbrev pub is_command : List ℕ → Bool
is_command word = bytes_eq word (codes "replay") || bytes_eq word (codes "goals")

-- the proof file and the Java files of `replay PROOF FILE+` and `goals PROOF FILE+`; None for all other words
abbrev pub command_words : List (List ℕ) → Option (List ℕ × List (List ℕ))
command_words (command ∷ proof ∷ file ∷ files) =
    if is_command command && is_file_name proof && list_all is_file_name (file ∷ files) then Some (proof, file ∷ files) else None
command_words words = None

-- the goals that a proof leaves are asked for
abbrev pub asks_goals : List (List ℕ) → Bool
asks_goals [] = false
asks_goals (command ∷ words) = bytes_eq command (codes "goals")
