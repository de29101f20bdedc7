-- What reading leaves behind is spelled by what was read, and the tokens of an expression are read as that expression.
use Rattle.std.proofs.Common.{◌≡◌, ℕ, suc, ◌+◌, ◌<◌, ◌≤◌, cond, List, [], ◌∷◌, ◌++◌, length, Result, Ok, Err, refl, sym, ap, subst, ◌∙◌, append_assoc, arith, inl, inr}
use Rattle.std.proofs.lemmas.Bool.{lt-ltb, cases_lt, le-ltb}
use Rattle.std.proofs.lemmas.List.{append-nil}
use Rattle.jd_syntax.specs.Sxs.{Bracketed, Atom, Brackets, BracketedList, NoneBracketed, BracketedThen, bracketed_list}
use Rattle.jd_bracketed.specs.Tokens.{TokenKind, Open, Close, OpenSquare, CloseSquare, Word, Bad}
use Rattle.jd_bracketed.specs.Trees.{spell, spell_all, depth, depth_all, IsFront}
use Rattle.jd_bracketed.specs.Readings.{State, Before, Inside, Whole, Fault, WrongToken, TooManyLevels, added, level, opened, may_open, closed, step, then_run, run}
use Rattle.jd_bracketed.specs.Answers.{IsRead, FailsAt, DeepAt, EndsEarly}

-- ---- runs

pub ran : (f : State → Result State Fault) (r : Result State Fault) (s : State) → then_run f r ≡ Ok s → (m : State) × (r ≡ Ok m) × (f m ≡ Ok s)
ran f (Ok m) s e = (m, refl, e)
ran f (Err d) s e = absurd cc

pub run-append : (l : ℕ) (a b : List TokenKind) (st s : State) → run l a st ≡ Ok s → run l (a ++ b) st ≡ run l b s
unfolding run
run-append l [] b st s e = let h : st ≡ s = cc in ap (run l b) h
run-append l (t ∷ a) b st s e =
    let k = ran (run l a) (step l st t) s e in
    ap (then_run (run l (a ++ b))) k.1 ∙ run-append l a b k.0 s k.2

-- ---- what is spelled so is read

abbrev pub list_of : BracketedList → List Bracketed
list_of NoneBracketed = []
list_of (BracketedThen x xs) = x ∷ list_of xs

pub list_is : (xs : BracketedList) → bracketed_list (list_of xs) ≡ xs
list_is NoneBracketed = refl
list_is (BracketedThen x xs) = ap (BracketedThen x) (list_is xs)

opens : (l : ℕ) (st s : State) → opened st ≡ Ok s → level st < l → step l st Open ≡ Ok s
opens l st s e lt = ap (may_open l st) e ∙ ap (λ b. cond b (Ok s) (Err TooManyLevels)) (lt-ltb _ _ lt)

mutual
  unfolding run

  pub reads : (x : Bracketed) (l : ℕ) (st s : State) → added x st ≡ Ok s → level st + depth x ≤ l → run l (spell x) st ≡ Ok s
  reads (Atom w) l st s e le = ap (then_run (λ s. Ok s)) e
  reads (Brackets xs) l Before s e le =
      ap (then_run (run l (spell_all xs ++ Close ∷ []))) (opens l Before (Inside [] []) refl (omega arith))
      ∙ (run-append l (spell_all xs) (Close ∷ []) (Inside [] []) (Inside (list_of xs) []) (reads_all xs l [] [] (omega arith)) ∙ (ap (λ ys. Ok (Whole (Brackets ys))) (list_is xs) ∙ e))
  reads (Brackets xs) l (Inside parts around) s e le =
      ap (then_run (run l (spell_all xs ++ Close ∷ []))) (opens l (Inside parts around) (Inside [] (parts ∷ around)) refl (omega arith))
      ∙ (run-append l (spell_all xs) (Close ∷ []) (Inside [] (parts ∷ around)) (Inside (list_of xs) (parts ∷ around)) (reads_all xs l [] (parts ∷ around) (omega arith)) ∙ (ap (λ ys. Ok (Inside (parts ++ Brackets ys ∷ []) around)) (list_is xs) ∙ e))
  reads (Brackets xs) l (Whole y) s e le = absurd cc

  pub reads_all : (xs : BracketedList) (l : ℕ) (parts : List Bracketed) (around : List (List Bracketed)) → suc (length around) + depth_all xs ≤ l → run l (spell_all xs) (Inside parts around) ≡ Ok (Inside (parts ++ list_of xs) around)
  reads_all NoneBracketed l parts around le = ap (λ c. Ok (Inside c around)) (sym (append-nil parts))
  reads_all (BracketedThen x xs) l parts around le =
      run-append l (spell x) (spell_all xs) (Inside parts around) (Inside (parts ++ x ∷ []) around) (reads x l (Inside parts around) (Inside (parts ++ x ∷ []) around) refl (omega arith))
      ∙ (reads_all xs l (parts ++ x ∷ []) around (omega arith) ∙ ap (λ c. Ok (Inside c around)) (append_assoc parts (x ∷ []) (list_of xs)))

-- ---- what is read is spelled so

abbrev pub spell_list : List Bracketed → List TokenKind
spell_list xs = spell_all (bracketed_list xs)

abbrev pub heard_outer : List (List Bracketed) → List TokenKind
heard_outer [] = []
heard_outer (o ∷ os) = heard_outer os ++ (Open ∷ spell_list o)

-- the tokens that led to a state
abbrev pub heard : State → List TokenKind
heard Before = []
heard (Inside parts around) = heard_outer around ++ (Open ∷ spell_list parts)
heard (Whole x) = spell x

spell_more : (xs : List Bracketed) (x : Bracketed) → spell_list (xs ++ x ∷ []) ≡ spell_list xs ++ spell x
spell_more [] x = append-nil (spell x)
spell_more (y ∷ xs) x = ap (λ t. spell y ++ t) (spell_more xs x) ∙ sym (append_assoc (spell y) (spell_list xs) (spell x))

heard_more : (front : List TokenKind) (xs : List Bracketed) (x : Bracketed) → front ++ (Open ∷ spell_list (xs ++ x ∷ [])) ≡ (front ++ (Open ∷ spell_list xs)) ++ spell x
heard_more front xs x = ap (λ t. front ++ (Open ∷ t)) (spell_more xs x) ∙ sym (append_assoc front (Open ∷ spell_list xs) (spell x))

state_ok : (x y : State) (x-is : (let r : Result State Fault = Ok x in r) ≡ Ok y) → x ≡ y
state_ok x y e = cc

opened_is : (l : ℕ) (st s : State) → step l st Open ≡ Ok s → (opened st ≡ Ok s) × (level st < l)
opened_is l st s e = by_open (opened st) e
  where
    by_open : (r : Result State Fault) → may_open l st r ≡ Ok s → (r ≡ Ok s) × (level st < l)
    by_open (Ok m) e = elim (cases_lt (level st) l) [
      | inl lt ↦ (sym (ap (λ b. cond b (Ok m) (Err TooManyLevels)) (lt-ltb _ _ lt)) ∙ e, lt)
      | inr le ↦ let no : Err TooManyLevels ≡ Ok s = sym (ap (λ b. cond b (Ok m) (Err TooManyLevels)) (le-ltb _ _ le)) ∙ e in absurd cc
    ]
    by_open (Err d) e = absurd cc

err_ok : (f : Fault) (s : State) → (let r : Result State Fault = Err f in r) ≡ Ok s → ⊥
err_ok f s e = absurd cc

add_heard : (x : Bracketed) (st s : State) → added x st ≡ Ok s → heard s ≡ heard st ++ spell x
add_heard x Before s e = ap heard (sym (state_ok _ _ e))
add_heard x (Inside parts around) s e = ap heard (sym (state_ok _ _ e)) ∙ heard_more (heard_outer around) parts x
add_heard x (Whole y) s e = absurd (err_ok _ _ e)

opened_heard : (st s : State) → opened st ≡ Ok s → heard s ≡ heard st ++ Open ∷ []
opened_heard Before s e = ap heard (sym (state_ok _ _ e))
opened_heard (Inside parts around) s e = ap heard (sym (state_ok _ _ e))
opened_heard (Whole y) s e = absurd (err_ok _ _ e)

closed_heard : (st s : State) → closed st ≡ Ok s → heard s ≡ heard st ++ Close ∷ []
closed_heard Before s e = absurd (err_ok _ _ e)
closed_heard (Inside parts []) s e = ap heard (sym (state_ok _ _ e))
closed_heard (Inside parts (o ∷ os)) s e =
    ap heard (sym (state_ok _ _ e))
    ∙ (heard_more (heard_outer os) o (Brackets (bracketed_list parts))
    ∙ sym (append_assoc (heard_outer os ++ (Open ∷ spell_list o)) (Open ∷ spell_list parts) (Close ∷ [])))
closed_heard (Whole y) s e = absurd (err_ok _ _ e)

pub step_heard : (l : ℕ) (st : State) (t : TokenKind) (s : State) → step l st t ≡ Ok s → heard s ≡ heard st ++ t ∷ []
step_heard l st Open s e = opened_heard st s (opened_is l st s e).0
step_heard l st Close s e = closed_heard st s e
step_heard l st (Word w) s e = add_heard (Atom w) st s e
step_heard l st Bad s e = absurd (err_ok _ _ e)
step_heard l st OpenSquare s e = absurd (err_ok _ _ e)
step_heard l st CloseSquare s e = absurd (err_ok _ _ e)

pub run_heard : (l : ℕ) (ts : List TokenKind) (st s : State) → run l ts st ≡ Ok s → heard s ≡ heard st ++ ts
unfolding run
run_heard l [] st s e = ap heard (sym (state_ok _ _ e)) ∙ sym (append-nil (heard st))
run_heard l (t ∷ ts) st s e =
    let k = ran (run l ts) (step l st t) s e in
    run_heard l ts k.0 s k.2 ∙ (ap (λ h. h ++ ts) (step_heard l st t k.0 k.1) ∙ append_assoc (heard st) (t ∷ []) ts)

-- ---- how deep a state is

abbrev pub fits_outer : ℕ → List (List Bracketed) → Type 0
fits_outer l [] = Unit {0}
fits_outer l (o ∷ os) = (suc (length os) + depth_all (bracketed_list o) ≤ l) × fits_outer l os

abbrev pub fits : ℕ → State → Type 0
fits l Before = Unit {0}
fits l (Inside parts around) = fits_outer l (parts ∷ around)
fits l (Whole x) = depth x ≤ l

depth_more : (n l : ℕ) (xs : List Bracketed) (x : Bracketed) → n + depth_all (bracketed_list xs) ≤ l → n + depth x ≤ l → n + depth_all (bracketed_list (xs ++ x ∷ [])) ≤ l
depth_more n l [] x h k = omega arith
depth_more n l (y ∷ xs) x h k = let more = depth_more n l xs x (omega arith) k in omega (arith, more)

step_fits : (l : ℕ) (st : State) (t : TokenKind) (s : State) → step l st t ≡ Ok s → fits l st → fits l s
step_fits l Before Open s e f = let o = opened_is l Before s e in subst (fits l) (state_ok _ _ o.0) (omega (arith, o.1), tt)
step_fits l (Inside parts around) Open s e f = let o = opened_is l (Inside parts around) s e in subst (fits l) (state_ok _ _ o.0) (omega (arith, o.1), f)
step_fits l (Whole y) Open s e f = let o = opened_is l (Whole y) s e in absurd (err_ok _ _ o.0)
step_fits l Before Close s e f = absurd (err_ok _ _ e)
step_fits l (Inside parts []) Close s e f = subst (fits l) (state_ok _ _ e) (omega (arith, f.0))
step_fits l (Inside parts (o ∷ os)) Close s e f = subst (fits l) (state_ok _ _ e) (depth_more (suc (length os)) l o (Brackets (bracketed_list parts)) f.1.0 (omega (arith, f.0)), f.1.1)
step_fits l (Whole y) Close s e f = absurd (err_ok _ _ e)
step_fits l Before (Word w) s e f = subst (fits l) (state_ok _ _ e) (omega arith)
step_fits l (Inside parts around) (Word w) s e f = subst (fits l) (state_ok _ _ e) (depth_more (suc (length around)) l parts (Atom w) f.0 (omega (arith, f.0)), f.1)
step_fits l (Whole y) (Word w) s e f = absurd (err_ok _ _ e)
step_fits l st Bad s e f = absurd (err_ok _ _ e)
step_fits l st OpenSquare s e f = absurd (err_ok _ _ e)
step_fits l st CloseSquare s e f = absurd (err_ok _ _ e)

pub run_fits : (l : ℕ) (ts : List TokenKind) (st s : State) → run l ts st ≡ Ok s → fits l st → fits l s
unfolding run
run_fits l [] st s e f = subst (fits l) (state_ok _ _ e) f
run_fits l (t ∷ ts) st s e f =
    let k = ran (run l ts) (step l st t) s e in
    run_fits l ts k.0 s k.2 (step_fits l st t k.0 k.1 f)

-- ---- more levels change nothing that was read

step_more : (l m : ℕ) (st : State) (t : TokenKind) (s : State) → l ≤ m → step l st t ≡ Ok s → step m st t ≡ Ok s
step_more l m st Open s le e = let o = opened_is l st s e in opens m st s o.0 (omega (arith, o.1))
step_more l m st Close s le e = e
step_more l m st (Word w) s le e = e
step_more l m st Bad s le e = e
step_more l m st OpenSquare s le e = e
step_more l m st CloseSquare s le e = e

pub run_more : (l m : ℕ) (ts : List TokenKind) (st s : State) → l ≤ m → run l ts st ≡ Ok s → run m ts st ≡ Ok s
unfolding run
run_more l m [] st s le e = e
run_more l m (t ∷ ts) st s le e =
    let k = ran (run l ts) (step l st t) s e in
    ap (then_run (run m ts)) (step_more l m st t k.0 le k.1) ∙ run_more l m ts k.0 s le k.2

-- ---- every state goes on to an expression

abbrev pub Ends : ℕ → State → Type 0
Ends l st = (more : List TokenKind) × (x : Bracketed) × (run l more st ≡ Ok (Whole x))

pub ends_inside : (around : List (List Bracketed)) (l : ℕ) (parts : List Bracketed) → Ends l (Inside parts around)
unfolding run
ends_inside [] l parts = (Close ∷ [], Brackets (bracketed_list parts), refl)
ends_inside (o ∷ os) l parts =
    let k = ends_inside os l (o ++ Brackets (bracketed_list parts) ∷ []) in
    (Close ∷ k.0, k.1, k.2)

pub ends_state : (st : State) (l : ℕ) → Ends l st
unfolding run
ends_state Before l = (Word [] ∷ [], Atom [], refl)
ends_state (Inside parts around) l = ends_inside around l parts
ends_state (Whole x) l = ([], x, refl)

pub front_of : (l : ℕ) (ts : List TokenKind) (st : State) → run l ts Before ≡ Ok st → IsFront l ts
front_of l ts st e =
    let k = ends_state st l in
    let whole : run l (ts ++ k.0) Before ≡ Ok (Whole k.1) = run-append l ts k.0 Before st e ∙ k.2 in
    (k.0, k.1, sym (run_heard l (ts ++ k.0) Before (Whole k.1) whole), run_fits l (ts ++ k.0) Before (Whole k.1) whole tt)

-- ---- the answers

run_fails : (l : ℕ) (ts more : List TokenKind) (t : TokenKind) (st : State) (f : Fault) → run l ts Before ≡ Ok st → step l st t ≡ Err f → run l ((ts ++ t ∷ []) ++ more) Before ≡ Err f
unfolding run
run_fails l ts more t st f e g =
    ap (λ us. run l us Before) (append_assoc ts (t ∷ []) more) ∙ (run-append l ts (t ∷ more) Before st e ∙ ap (then_run (run l more)) g)

pub read_whole : (l : ℕ) (us : List TokenKind) (x : Bracketed) → us ≡ spell x → depth x ≤ l → run l us Before ≡ Ok (Whole x)
read_whole l us x e le = ap (λ ts. run l ts Before) e ∙ reads x l Before (Whole x) refl (omega arith)

pub no_front : (l : ℕ) (ts : List TokenKind) (t : TokenKind) (st : State) (f : Fault) → run l ts Before ≡ Ok st → step l st t ≡ Err f → IsFront l (ts ++ t ∷ []) → ⊥
no_front l ts t st f e g (more, x, is, le) = err_ok f (Whole x) (sym (run_fails l ts more t st f e g) ∙ read_whole l _ x is le)

syn_more : (l m : ℕ) (st : State) (t : TokenKind) → step l st t ≡ Err WrongToken → step m st t ≡ Err WrongToken
syn_more l m st Open e = by_open (opened st) e
  where
    by_open : (r : Result State Fault) → may_open l st r ≡ Err WrongToken → may_open m st r ≡ Err WrongToken
    by_open (Ok s) h = elim (cases_lt (level st) l) [
      | inl lt ↦ let no : Ok s ≡ Err WrongToken = sym (ap (λ b. cond b (Ok s) (Err TooManyLevels)) (lt-ltb _ _ lt)) ∙ h in absurd cc
      | inr le ↦ let no : Err TooManyLevels ≡ Err WrongToken = sym (ap (λ b. cond b (Ok s) (Err TooManyLevels)) (le-ltb _ _ le)) ∙ h in absurd cc
    ]
    by_open (Err d) h = h
syn_more l m st Close e = e
syn_more l m st (Word w) e = e
syn_more l m st Bad e = e
syn_more l m st OpenSquare e = e
syn_more l m st CloseSquare e = e

pub fails_at : (l : ℕ) (ts : List TokenKind) (t : TokenKind) (st : State) → run l ts Before ≡ Ok st → step l st t ≡ Err WrongToken → FailsAt l ts t
fails_at l ts t st e g = record {
  before = front_of l ts st e;
  here = λ any h.
      let wide : IsFront (l + any) (ts ++ t ∷ []) = (h.0, h.1, h.2, omega (arith, h.3)) in
      no_front (l + any) ts t st WrongToken (run_more l (l + any) ts Before st (omega arith) e) (syn_more l (l + any) st t g) wide;
}

deep_opens : (l : ℕ) (st : State) (t : TokenKind) → step l st t ≡ Err TooManyLevels → (s : State) × (step (suc (level st)) st t ≡ Ok s)
deep_opens l Before Open e = (Inside [] [], opens 1 Before (Inside [] []) refl (omega arith))
deep_opens l (Inside parts around) Open e = (Inside [] (parts ∷ around), opens (suc (suc (length around))) (Inside parts around) (Inside [] (parts ∷ around)) refl (omega arith))
deep_opens l (Whole x) Open e = absurd cc
deep_opens l Before Close e = absurd cc
deep_opens l (Inside parts []) Close e = absurd cc
deep_opens l (Inside parts (o ∷ os)) Close e = absurd cc
deep_opens l (Whole x) Close e = absurd cc
deep_opens l Before (Word w) e = absurd cc
deep_opens l (Inside parts around) (Word w) e = absurd cc
deep_opens l (Whole x) (Word w) e = absurd cc
deep_opens l st Bad e = absurd cc
deep_opens l st OpenSquare e = absurd cc
deep_opens l st CloseSquare e = absurd cc

pub run_one : (l : ℕ) (ts : List TokenKind) (t : TokenKind) (st s : State) → run l ts Before ≡ Ok st → step l st t ≡ Ok s → run l (ts ++ t ∷ []) Before ≡ Ok s
unfolding run
run_one l ts t st s e g = run-append l ts (t ∷ []) Before st e ∙ ap (then_run (λ m. Ok m)) g

pub deep_at : (l : ℕ) (ts : List TokenKind) (t : TokenKind) (st : State) → run l ts Before ≡ Ok st → step l st t ≡ Err TooManyLevels → DeepAt l ts t
deep_at l ts t st e g =
    let k = deep_opens l st t g in
    let m = l + suc (level st) in
    record {
      before = front_of l ts st e;
      deeper = (m, front_of m (ts ++ t ∷ []) k.0 (run_one m ts t st k.0 (run_more l m ts Before st (omega arith) e) (step_more (suc (level st)) m st t k.0 (omega arith) k.1)));
      here = no_front l ts t st TooManyLevels e g;
    }

abbrev pub IsWhole : State → Type 0
IsWhole Before = ⊥
IsWhole (Inside parts around) = ⊥
IsWhole (Whole x) = Unit {0}

pub ends_early : (l : ℕ) (ts : List TokenKind) (st : State) → run l ts Before ≡ Ok st → (IsWhole st → ⊥) → EndsEarly l ts
ends_early l ts st e unless = record {
  before = front_of l ts st e;
  here = λ x is.
      let m = l + depth x in
      unless (subst IsWhole (sym (state_ok st (Whole x) (sym (run_more l m ts Before st (omega arith) e) ∙ read_whole m ts x is (omega arith)))) tt);
}

pub is_read : (l : ℕ) (ts : List TokenKind) (x : Bracketed) → run l ts Before ≡ Ok (Whole x) → IsRead l ts x
is_read l ts x e = record { spelled = sym (run_heard l ts Before (Whole x) e); within = run_fits l ts Before (Whole x) e tt }

-- no two expressions have one spelling
whole_is : (x y : Bracketed) → (let r : Result State Fault = Ok (Whole x) in r) ≡ Ok (Whole y) → x ≡ y
whole_is x y e = cc

pub one_reading : (x y : Bracketed) → spell x ≡ spell y → x ≡ y
one_reading x y e =
    let m = depth x + depth y in
    whole_is x y (sym (read_whole m (spell x) x refl (omega arith)) ∙ read_whole m (spell x) y e (omega arith))
