-- Whether words name files.
use Rattle.std.proofs.Common.{◌≡◌, ◌<◌, ◌≤◌, ◌+◌, ℕ, Bool, ◌&&◌, List, length, take, get_or, ap, sym, ◌∙◌, arith}
use Rattle.std.specs.Prelude.{String, string_bytes}
use Rattle.std.specs.Global.{Global}
use Rattle.std.specs.List.{list_all}
use Rattle.std.proofs.Math.Bool.{and_comm}
use Rattle.std.proofs.lemmas.List.{get_or-map, length-map, take_all}
use Rattle.std.proofs.lemmas.List.Folds.{list_all_more}
use Rattle.jd_answer.specs.Words.{is_file_name, word_texts}

pub one_name_more : (words : List (String Global)) (i : ℕ) (w : String Global) (text : List ℕ) (here all next : Bool) → i < length words → w ≡ get_or words i w → text ≡ string_bytes w → here ≡ is_file_name text
    → all ≡ list_all is_file_name (take i (word_texts words)) → next ≡ (here && all) → next ≡ list_all is_file_name (take (i + 1) (word_texts words))
one_name_more words i w text here all next lt is same_text named so_far joined =
    joined ∙ and_comm here all
    ∙ ap (λ b. b && here) so_far
    ∙ ap (λ b. list_all is_file_name (take i (word_texts words)) && b) (named ∙ ap is_file_name (same_text ∙ ap string_bytes is ∙ sym (get_or-map string_bytes words i w text lt)))
    ∙ sym (list_all_more is_file_name (word_texts words) i text (omega (arith, lt, length-map words string_bytes)))

pub all_named : (words : List (String Global)) (i : ℕ) (all : Bool) → length words ≤ i → all ≡ list_all is_file_name (take i (word_texts words)) → all ≡ list_all is_file_name (word_texts words)
all_named words i all past is = is ∙ ap (list_all is_file_name) (take_all i (word_texts words) (omega (arith, past, length-map words string_bytes)))
