-- Which expressions have a form at a place, whatever the names in them stand for.
use Rattle.std.specs.Prelude.{ℕ, List, [], ◌∷◌, Bool, true, false, ◌&&◌, ◌||◌, Option, Some, None, codes}
use Rattle.std.specs.List.{list_any}
use Rattle.std.specs.Option.{is_some}
use Rattle.std.specs.Str.{bytes_eq}
use Rattle.jd_syntax.specs.Sxs.{Bracketed, BracketedList, Atom, Brackets, NoneBracketed, BracketedThen}
use Rattle.jd_tgrammar.specs.Words.{array_word}
use Rattle.jd_tforms.specs.Forms as places
use Rattle.jd_tforms.specs.Forms.{Place, Form, forms}
use Rattle.jd_tforms.specs.Naming.{sort_of_word}
use Rattle.jd_tforms.specs.Shapes.{is_name, bound_number, integer_of, loop_of, label_of, wide, narrow}

abbrev pub word_fits : Place → List ℕ → Bool
word_fits places.TermPlace w = is_some (integer_of wide w) || is_name w || is_some (bound_number w)
word_fits places.LocPlace w = bytes_eq (codes "none") w || bytes_eq (codes "all") w
word_fits places.FormulaPlace w = bytes_eq (codes "true") w || bytes_eq (codes "false") w
word_fits places.ExprPlace w = is_some (integer_of narrow w) || is_name w
word_fits places.StmtPlace w = false
word_fits places.CodePlace w = false
word_fits places.PairsPlace w = false
word_fits places.PairPlace w = false
word_fits places.ArrayPlace w = false
word_fits places.SortPlace w = is_some (sort_of_word w)
word_fits places.KindPlace w = bytes_eq array_word w || is_name w
word_fits places.NamePlace w = is_name w
word_fits places.ResultPlace w = bytes_eq (codes "-") w || is_name w
word_fits places.LoopPlace w = is_some (loop_of w)
word_fits places.LabelPlace w = is_some (label_of w)
word_fits (places.WordPlace v) w = bytes_eq v w

-- one of the forms of a place, where `go` tells of what stands in the brackets
abbrev pub any_form : (List Place → Option Place → Bool) → List Form → Bool
any_form go fs = list_any (λ (f : Form). go f.parts f.rest) fs

abbrev mutual
  pub has_form : Bracketed → Place → Bool
  has_form (Atom w) p = word_fits p w
  has_form (Brackets xs) p = any_form (have_forms xs) (forms p)

  -- these parts, and what may follow them
  pub have_forms : BracketedList → List Place → Option Place → Bool
  have_forms NoneBracketed [] rest = true
  have_forms NoneBracketed (p ∷ ps) rest = false
  have_forms (BracketedThen x xs) [] None = false
  have_forms (BracketedThen x xs) [] (Some p) = has_form x p && have_forms xs [] (Some p)
  have_forms (BracketedThen x xs) (p ∷ ps) rest = has_form x p && have_forms xs ps rest
