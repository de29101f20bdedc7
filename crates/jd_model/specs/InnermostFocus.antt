-- The innermost focus of a code: where the next statement to run stands.
use Rattle.std.specs.Prelude.{Option, Some, None}
use Rattle.jd_syntax.specs.Codes.{Stmt, Block, Catch, Finally, Frame, PlainCode, Done, Then}
use Rattle.jd_model.specs.Contexts.{Context, Here, InBlock, InFrame, InCatch, InFinally}

-- a context and the statement in it
abbrev pub Focus : Type 0
Focus = Option (Context × Stmt)

-- the focus inside a statement's first list, or the statement itself where that list is empty
abbrev pub inside_or : (Context → Context) → Context × Stmt → Focus → Focus
inside_or around self None = Some self
inside_or around self (Some q) = Some (around q.0, q.1)

-- of a code, which has none where it is empty, and of a statement with what is behind it
abbrev mutual
  pub innermost_focus : PlainCode → Focus
  innermost_focus Done = None
  innermost_focus (Then c rest) = focus_at c rest

  pub focus_at : Stmt → PlainCode → Focus
  focus_at (Block l c) rest = inside_or (λ k. InBlock l k rest) (Here rest, Block l c) (innermost_focus c)
  focus_at (Frame r c) rest = inside_or (λ k. InFrame r k rest) (Here rest, Frame r c) (innermost_focus c)
  focus_at (Catch c x d) rest = inside_or (λ k. InCatch k x d rest) (Here rest, Catch c x d) (innermost_focus c)
  focus_at (Finally c d) rest = inside_or (λ k. InFinally k d rest) (Here rest, Finally c d) (innermost_focus c)
  focus_at s rest = Some (Here rest, s)
