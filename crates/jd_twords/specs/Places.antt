-- What the code's places and forms stand for.
use Rattle.std.specs.Prelude.{ℕ, zero, suc, List, [], ◌∷◌, Option, Some, None, map, option_map}
use Rattle.std.specs.Borrow.{Bor}
use Rattle.jd_tforms.specs.Forms as plain
use Rattle.jd_twords.specs.declared.places.Place.{Place}
use Rattle.jd_twords.specs.declared.places.Place.TheVariants as places
use Rattle.jd_twords.specs.declared.places.Form.{Form}

abbrev pub place_view : Place → plain.Place
place_view places.Term = plain.TermPlace
place_view places.Loc = plain.LocPlace
place_view places.Formula = plain.FormulaPlace
place_view places.Expr = plain.ExprPlace
place_view places.Stmt = plain.StmtPlace
place_view places.Code = plain.CodePlace
place_view places.Pairs = plain.PairsPlace
place_view places.Pair = plain.PairPlace
place_view places.Array = plain.ArrayPlace
place_view places.Sort = plain.SortPlace
place_view places.Kind = plain.KindPlace
place_view places.Name = plain.NamePlace
place_view places.Result = plain.ResultPlace
place_view places.Loop = plain.LoopPlace
place_view places.Label = plain.LabelPlace
place_view (places.Word w) = plain.WordPlace w.now

-- a word and the parts behind it
abbrev pub with_word : Option (Bor (List ℕ)) → List plain.Place → List plain.Place
with_word None ps = ps
with_word (Some w) ps = plain.WordPlace w.now ∷ ps

abbrev pub form_view : Form → plain.Form
form_view f = record { parts = with_word f.word (map place_view f.parts.now); rest = option_map place_view f.rest }

-- the form of a row
abbrev pub row_form : List ℕ → List Place → Option Place → plain.Form
row_form w ps rest = record { parts = plain.WordPlace w ∷ map place_view ps; rest = option_map place_view rest }

-- the form of that number
abbrev pub at_number : ℕ → List plain.Form → Option plain.Form
at_number number [] = None
at_number zero (f ∷ fs) = Some f
at_number (suc number) (f ∷ fs) = at_number number fs

-- what has to stand at that number
abbrev pub place_at : List plain.Place → ℕ → Option plain.Place → Option plain.Place
place_at [] number rest = rest
place_at (p ∷ ps) zero rest = Some p
place_at (p ∷ ps) (suc number) rest = place_at ps number rest
