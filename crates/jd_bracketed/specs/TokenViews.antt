-- What the code's tokens stand for.
use Rattle.std.specs.Prelude.{ℕ, List, [], ◌∷◌, Option, Some, None}
use Rattle.jd_bracketed.specs.Tokens as plain
use Rattle.jd_bracketed.specs.Tokens.{TokenKind, Placed}
use Rattle.jd_bracketed.specs.declared.token.Kind.{Kind}
use Rattle.jd_bracketed.specs.declared.token.Kind.TheVariants as code
use Rattle.jd_bracketed.specs.declared.token.Token.{Token}

abbrev pub kind_view : Kind → TokenKind
kind_view code.Open = plain.Open
kind_view code.Close = plain.Close
kind_view code.OpenSquare = plain.OpenSquare
kind_view code.CloseSquare = plain.CloseSquare
kind_view (code.Word w) = plain.Word w.now
kind_view code.Bad = plain.Bad

abbrev pub token_view : Token → Placed
token_view t = (kind_view t.kind, t.at)

-- the token that was found at that offset, if one was
abbrev pub found_view : ℕ → Option Kind → List Placed
found_view at None = []
found_view at (Some kind) = (kind_view kind, at) ∷ []
