-- Code with a focus: the first statement, or one in the first list of a frame, block, catch or finally that is the first statement.
use Rattle.std.specs.Prelude.{ℕ, Option}
use Rattle.jd_syntax.specs.Names.{Name}
use Rattle.jd_syntax.specs.Codes.{Block, Catch, Finally, Frame, PlainCode, Done, Then, Stmt}

-- one code after another
abbrev pub chain : PlainCode → PlainCode → PlainCode
chain Done d = d
chain (Then s c) d = Then s (chain c d)

-- a code with a place for the focus
pub data Context : Type 0 where
  Here : PlainCode → Context
  InBlock : ℕ → Context → PlainCode → Context
  InFrame : Option Name → Context → PlainCode → Context
  InCatch : Context → Name → PlainCode → PlainCode → Context
  InFinally : Context → PlainCode → PlainCode → Context

-- the code with these statements for the focus
abbrev pub fill : Context → PlainCode → PlainCode
fill (Here rest) c = chain c rest
fill (InBlock l k rest) c = Then (Block l (fill k c)) rest
fill (InFrame r k rest) c = Then (Frame r (fill k c)) rest
fill (InCatch k x h rest) c = Then (Catch (fill k c) x h) rest
fill (InFinally k f rest) c = Then (Finally (fill k c) f) rest

-- one statement alone
abbrev pub one : Stmt → PlainCode
one s = Then s Done
