-- A code is its innermost focus in its context.
use Rattle.std.proofs.Common.{◌≡◌, ℕ, Option, Some, None, refl, ap}
use Rattle.jd_syntax.specs.Codes.{Stmt, Block, Catch, Finally, Frame, PlainCode, Done, Then}
use Rattle.jd_syntax.specs.Names.{Name}
use Rattle.jd_model.specs.Contexts.{Here, InBlock, InFrame, InCatch, InFinally, fill}
use Rattle.jd_model.specs.InnermostFocus.{Focus, inside_or, innermost_focus, focus_at}

abbrev pub Fills : PlainCode → Focus → Type 0
Fills c None = Unit {0}
Fills c (Some q) = c ≡ fill q.0 (Then q.1 Done)

block_fills : (l : ℕ) (c rest : PlainCode) (o : Focus) → Fills c o → Fills (Then (Block l c) rest) (inside_or (λ k. InBlock l k rest) (Here rest, Block l c) o)
block_fills l c rest None h = refl
block_fills l c rest (Some q) h = ap (λ x. Then (Block l x) rest) h

frame_fills : (r : Option Name) (c rest : PlainCode) (o : Focus) → Fills c o → Fills (Then (Frame r c) rest) (inside_or (λ k. InFrame r k rest) (Here rest, Frame r c) o)
frame_fills r c rest None h = refl
frame_fills r c rest (Some q) h = ap (λ x. Then (Frame r x) rest) h

catch_fills : (c : PlainCode) (y : Name) (d rest : PlainCode) (o : Focus) → Fills c o → Fills (Then (Catch c y d) rest) (inside_or (λ k. InCatch k y d rest) (Here rest, Catch c y d) o)
catch_fills c y d rest None h = refl
catch_fills c y d rest (Some q) h = ap (λ x. Then (Catch x y d) rest) h

finally_fills : (c d rest : PlainCode) (o : Focus) → Fills c o → Fills (Then (Finally c d) rest) (inside_or (λ k. InFinally k d rest) (Here rest, Finally c d) o)
finally_fills c d rest None h = refl
finally_fills c d rest (Some q) h = ap (λ x. Then (Finally x d) rest) h

mutual
  pub focus_fills : (c : PlainCode) → Fills c (innermost_focus c)
  focus_fills Done = tt
  focus_fills (Then c rest) = focus_at_fills c rest

  focus_at_fills : (c : Stmt) (rest : PlainCode) → Fills (Then c rest) (focus_at c rest)
  focus_at_fills (Block l c) rest = block_fills l c rest (innermost_focus c) (focus_fills c)
  focus_at_fills (Frame r c) rest = frame_fills r c rest (innermost_focus c) (focus_fills c)
  focus_at_fills (Catch c x d) rest = catch_fills c x d rest (innermost_focus c) (focus_fills c)
  focus_at_fills (Finally c d) rest = finally_fills c d rest (innermost_focus c) (focus_fills c)
  focus_at_fills c rest = refl
