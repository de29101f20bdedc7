-- What the first of some tokens tell.
use Rattle.std.specs.Prelude.{ℕ, List, [], Bool, true, false}
use Rattle.std.specs.List.{slice_get}
use Rattle.std.specs.Option.{option_map_or}
use Rattle.jd_java_tokens.specs.Contents.{PlainContent, NoContent, WordContent, NumberContent, SpecsContent, PlainLexeme}

-- the place of the token of that number, from 0
abbrev pub place_of : ℕ → List PlainLexeme → ℕ
place_of n ts = option_map_or (λ t. t.at) (slice_get ts n) 0

-- what the first says
abbrev pub content_of : List PlainLexeme → PlainContent
content_of ts = option_map_or (λ t. t.content) (slice_get ts 0) NoContent

abbrev pub word_in : PlainContent → List ℕ
word_in (WordContent w) = w
word_in _ = []

-- the text of the first
abbrev pub text_of : List PlainLexeme → List ℕ
text_of ts = word_in (content_of ts)

abbrev pub number_in : PlainContent → ℕ
number_in (NumberContent n) = n
number_in _ = 0

-- the value of the first
abbrev pub number_of : List PlainLexeme → ℕ
number_of ts = number_in (content_of ts)

-- whether it is a run of JML
abbrev pub is_run : PlainContent → Bool
is_run (SpecsContent n m) = true
is_run _ = false

abbrev pub run_in : PlainContent → ℕ × ℕ
run_in (SpecsContent n m) = (n, m)
run_in _ = (0, 0)

-- the numbers of the first token of the run of JML that the first is, and of that behind its last
abbrev pub run_of : List PlainLexeme → ℕ × ℕ
run_of ts = run_in (content_of ts)

abbrev pub begins_with_run : List PlainLexeme → Bool
begins_with_run ts = is_run (content_of ts)
