-- Reading tokens from left to right, with the lists that are open.
use Rattle.std.specs.Prelude.{ℕ, suc, List, [], ◌∷◌, ◌++◌, length, nat_lt, cond, Result, Ok, Err}
use Rattle.jd_syntax.specs.Sxs.{Bracketed, Atom, Brackets, bracketed_list}
use Rattle.jd_bracketed.specs.Tokens.{TokenKind, Open, Close, OpenSquare, CloseSquare, Word, Bad}

-- nothing yet; the parts of the innermost list that is open, and those of the lists around it, the innermost first; a whole
-- expression
pub data State : Type 0 where
  Before : State
  Inside : List Bracketed → List (List Bracketed) → State
  Whole : Bracketed → State

-- no expression goes on so; too many lists would be open
pub data Fault : Type 0 where
  WrongToken : Fault
  TooManyLevels : Fault

-- the next expression comes
abbrev pub added : Bracketed → State → Result State Fault
added x Before = Ok (Whole x)
added x (Inside parts around) = Ok (Inside (parts ++ x ∷ []) around)
added x (Whole y) = Err WrongToken

-- how many lists are open
abbrev pub level : State → ℕ
level Before = 0
level (Inside parts around) = suc (length around)
level (Whole x) = 0

abbrev pub opened : State → Result State Fault
opened Before = Ok (Inside [] [])
opened (Inside parts around) = Ok (Inside [] (parts ∷ around))
opened (Whole x) = Err WrongToken

abbrev pub may_open : ℕ → State → Result State Fault → Result State Fault
may_open limit st (Ok s) = cond (nat_lt (level st) limit) (Ok s) (Err TooManyLevels)
may_open limit st (Err f) = Err f

abbrev pub closed : State → Result State Fault
closed Before = Err WrongToken
closed (Inside parts []) = Ok (Whole (Brackets (bracketed_list parts)))
closed (Inside parts (outer ∷ around)) = Ok (Inside (outer ++ Brackets (bracketed_list parts) ∷ []) around)
closed (Whole x) = Err WrongToken

abbrev pub step : ℕ → State → TokenKind → Result State Fault
step limit st Open = may_open limit st (opened st)
step limit st Close = closed st
step limit st OpenSquare = Err WrongToken
step limit st CloseSquare = Err WrongToken
step limit st (Word w) = added (Atom w) st
step limit st Bad = Err WrongToken

abbrev pub then_run : (State → Result State Fault) → Result State Fault → Result State Fault
then_run f (Ok s) = f s
then_run f (Err e) = Err e

unfoldable pub run : ℕ → List TokenKind → State → Result State Fault
run limit [] st = Ok st
run limit (t ∷ ts) st = then_run (run limit ts) (step limit st t)
