-- Runs of tokens.
use Rattle.std.proofs.Common.{◌≡◌, ℕ, zero, suc, ◌+◌, Bool, true, false, cond, nat_lt, List, [], ◌∷◌, ◌++◌, length, Result, Ok, Err, refl, ap, ◌∙◌, arith}
use Rattle.jd_bracketed.specs.Tokens.{TokenKind, Open, Close, OpenSquare, CloseSquare, Word, Bad}
use Rattle.jd_bracketed.specs.Readings as brackets
use Rattle.jd_sequent.specs.Trees.{PlainNode}
use Rattle.jd_scripts.specs.Scripts.{Limits}
use Rattle.jd_scripts.specs.Answers.{Levels}
use Rattle.jd_scripts.specs.Machine.{State, Fault, WrongToken, Over, in_body, decide, step, then_run, run, one_child_more, counted}

pub on : (l : Limits) (t : TokenKind) (ts : List TokenKind) (st s : State) → step l st t ≡ Ok s → run l (t ∷ ts) st ≡ run l ts s
unfolding run
on l t ts st s e = ap (then_run (run l ts)) e

pub ran : (f : State → Result State Fault) (r : Result State Fault) (s : State) → then_run f r ≡ Ok s → (m : State) × (r ≡ Ok m) × (f m ≡ Ok s)
ran f (Ok m) s e = (m, refl, e)
ran f (Err d) s e = absurd cc

pub same_state : {s t : State} → (let r : Result State Fault = Ok s in r) ≡ Ok t → s ≡ t
same_state e = cc

pub err_ok : (f : Fault) (s : State) → (let r : Result State Fault = Err f in r) ≡ Ok s → ⊥
err_ok f s e = absurd cc

pub run-append : (l : Limits) (a b : List TokenKind) (st s : State) → run l a st ≡ Ok s → run l (a ++ b) st ≡ run l b s
unfolding run
run-append l [] b st s e = let h : st ≡ s = cc in ap (run l b) h
run-append l (t ∷ a) b st s e =
    let k = ran (run l a) (step l st t) s e in
    ap (then_run (run l (a ++ b))) k.1 ∙ run-append l a b k.0 s k.2

pub run_one : (l : Limits) (ts : List TokenKind) (t : TokenKind) (start st s : State) → run l ts start ≡ Ok st → step l st t ≡ Ok s → run l (ts ++ t ∷ []) start ≡ Ok s
unfolding run
run_one l ts t start st s e g = run-append l ts (t ∷ []) start st e ∙ ap (then_run (λ m. Ok m)) g

-- ---- expressions in brackets

-- a state of an expression is part of one of the file
abbrev pub mapped : (brackets.State → State) → Result brackets.State brackets.Fault → Result State Fault
mapped f (Ok x) = Ok (f x)
mapped f (Err brackets.WrongToken) = Err WrongToken
mapped f (Err brackets.TooManyLevels) = Err (Over Levels)

either : (f : brackets.State → State) (x : brackets.State) (b : Bool) → cond b (let r : Result State Fault = Ok (f x) in r) (Err (Over Levels)) ≡ mapped f (cond b (Ok x) (Err brackets.TooManyLevels))
either f x true = refl
either f x false = refl

pub in_body_is : (l : Limits) (f : brackets.State → State) (x : brackets.State) (t : TokenKind) → decide l (in_body f x t) ≡ mapped f (brackets.step l.levels x t)
in_body_is l f brackets.Before Open = either f (brackets.Inside [] []) (nat_lt 0 l.levels)
in_body_is l f (brackets.Inside xs around) Open = either f (brackets.Inside [] (xs ∷ around)) (nat_lt (suc (length around)) l.levels)
in_body_is l f (brackets.Whole x) Open = refl
in_body_is l f brackets.Before Close = refl
in_body_is l f (brackets.Inside xs []) Close = refl
in_body_is l f (brackets.Inside xs (o ∷ around)) Close = refl
in_body_is l f (brackets.Whole x) Close = refl
in_body_is l f brackets.Before (Word w) = refl
in_body_is l f (brackets.Inside xs around) (Word w) = refl
in_body_is l f (brackets.Whole x) (Word w) = refl
in_body_is l f x OpenSquare = refl
in_body_is l f x CloseSquare = refl
in_body_is l f x Bad = refl

-- ---- one child more

pub more_at : (i : ℕ) (pre : List PlainNode) (n : PlainNode) (post : List PlainNode) → i ≡ length pre → one_child_more i (pre ++ n ∷ post) ≡ pre ++ record { step = n.step; children = n.children + 1 } ∷ post
more_at zero [] n post e = refl
more_at zero (m ∷ pre) n post e = absurd (omega arith)
more_at (suc i) [] n post e = absurd (omega arith)
more_at (suc i) (m ∷ pre) n post e = ap (λ l. m ∷ l) (more_at i pre n post (omega arith))

length-more : (i : ℕ) (ns : List PlainNode) → length (one_child_more i ns) ≡ length ns
length-more i [] = refl
length-more zero (n ∷ ns) = refl
length-more (suc i) (n ∷ ns) = ap suc (length-more i ns)

pub length-counted : (ns : List PlainNode) (is : List ℕ) → length (counted ns is) ≡ length ns
length-counted ns [] = refl
length-counted ns (i ∷ is) = length-more i ns
