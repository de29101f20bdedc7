-- What a token, and the end, come to.
use Rattle.std.proofs.Common.{arith, eqb-true, eq-eqb, nat_eq, get_or, ◌≡◌, ℕ, ◌+◌, ◌<◌, ◌≤◌, not, Bool, true, false, List, [], ◌∷◌, ◌++◌, length, take, Option, Some, None, refl, sym, ap, subst, ◌∙◌}
use Rattle.std.specs.Prelude.{reverse, Result, Ok, Err, IfOk}
use Rattle.jd_base.specs.declared.memory.NoMemory.{NoMemory}
use Rattle.std.specs.Bool.{then_some}
use Rattle.std.specs.List.{slice_get}
use Rattle.std.proofs.lemmas.List.{append-nil, reverse-append, reverse-reverse, take_all, take_more}
use Rattle.std.proofs.lemmas.Bool.{true≢false}
use Rattle.std.proofs.lemmas.Option.{none-some, same_Some, slice_get_past, slice_get-get_or}
use Rattle.jd_grammar.specs.declared.table.Symbol.{Symbol}
use Rattle.jd_grammar.specs.declared.table.Symbol.TheVariants.{Token, Name}
use Rattle.jd_grammar.specs.declared.machine.Machine.{Machine}
use Rattle.jd_grammar.specs.Grammars.{Spells, ahead}
use Rattle.jd_grammar.specs.Tables.{PlainTable}
use Rattle.jd_grammar.specs.Tests.{Sets, is_start, is_ll1}
use Rattle.jd_grammar.specs.Moves.{Leads, LeadsTo, Expands, Takes, Reads, EndsIn, ReadsAll}
use Rattle.jd_grammar.specs.Readings.{Begins}
use Rattle.jd_grammar.proofs.Steps.{begun, taken, refused, ends, goes_on, narrowed, begins}

ahead-is : (rest : List ℕ) (k : ℕ) → slice_get rest 0 ≡ Some k → ahead rest ≡ k
ahead-is [] k e = absurd (none-some k e)
ahead-is (j ∷ rest) k e = same_Some j k e

-- no production was there for a name
pub not_expanded : (t : PlainTable) (k : ℕ) (m m' : Machine) (b : Bool) → b ≡ false → Expands t k m m' b → Reads t k m m' false
not_expanded t k m m' b e x = λ s start done passed l rest order w h.
    subst (Expands t k m m') e x s start done passed (narrowed s t start k done m.order.items (reverse m.stack.items) l) rest order (ahead-is rest k w) h

pub read_by : (t : PlainTable) (k : ℕ) (m n m' : Machine) (a b : Bool) → a ≡ true → Expands t k m n a → Takes k n m' b → Reads t k m m' b
read_by t k m n m' a true e x y = λ s start done passed l.
    let l1 = (subst (Expands t k m n) e x).0 s start done passed (narrowed s t start k done m.order.items (reverse m.stack.items) l) in
    let next : reverse n.stack.items ≡ Token k ∷ reverse m'.stack.items = ap reverse y.0 ∙ reverse-append m'.stack.items (Token k ∷ []) in
    subst (λ xs. Leads s t start None (done ++ k ∷ []) xs (reverse m'.stack.items)) (sym y.1)
    (taken s t start k done n.order.items (reverse m'.stack.items) (subst (Leads s t start (Some k) done n.order.items) next l1))
read_by t k m n m' a false e x y = λ s start done passed l rest order w h.
    let both = subst (Expands t k m n) e x in
    let l1 = both.0 s start done passed (narrowed s t start k done m.order.items (reverse m.stack.items) l) in
    refused s t start k done n.order.items (reverse n.stack.items) both.1 y l1 rest order w h

-- ---- the end

pub not_ended : (t : PlainTable) (m m' : Machine) (b : Bool) → b ≡ false → Expands t 0 m m' b → EndsIn t m m' false
not_ended t m m' b e x = λ s start done passed l order h.
    subst (Expands t 0 m m') e x s start done passed (narrowed s t start 0 done m.order.items (reverse m.stack.items) l) [] order refl
    (subst (λ ts. Spells t.productions start ts order) (sym (append-nil done)) h)

reversed-nil : (xs : List Symbol) → reverse xs ≡ [] → xs ≡ []
reversed-nil xs e = sym (reverse-reverse xs) ∙ ap reverse e

pub ended_by : (t : PlainTable) (m m' : Machine) (a b : Bool) → a ≡ true → Expands t 0 m m' a → (b ≡ true → m'.stack.items ≡ []) → (b ≡ false → m'.stack.items ≡ [] → ⊥) → EndsIn t m m' b
ended_by t m m' a true e x y z = λ s start done passed l.
    let l1 = (subst (Expands t 0 m m') e x).0 s start done passed (narrowed s t start 0 done m.order.items (reverse m.stack.items) l) in
    ends s t start done m'.order.items (subst (Leads s t start (Some 0) done m'.order.items) (ap reverse (y refl)) l1)
ended_by t m m' a false e x y z = λ s start done passed l order h.
    let both = subst (Expands t 0 m m') e x in
    let l1 = both.0 s start done passed (narrowed s t start 0 done m.order.items (reverse m.stack.items) l) in
    goes_on s t start done m'.order.items (reverse m'.stack.items) both.1 (λ i. z refl (reversed-nil m'.stack.items i)) l1 order h

-- ---- all tokens

-- a state after the first tokens
abbrev pub HasRead : PlainTable → List ℕ → Machine → Machine → Type 0
HasRead t done m m' = (s : Sets) (start : ℕ) → is_ll1 s t ≡ true → LeadsTo s t start None [] m → LeadsTo s t start None done m'

pub one_more : (t : PlainTable) (k : ℕ) (done : List ℕ) (m n m' : Machine) (b : Bool) → b ≡ true → HasRead t done m n → Reads t k n m' b → HasRead t (done ++ k ∷ []) m m'
one_more t k done m n m' b e x y = λ s start passed l. subst (Reads t k n m') e y s start done passed (x s start passed l)

nothing : (rest : List ℕ) → slice_get rest 0 ≡ None → rest ≡ []
nothing [] e = refl
nothing (k ∷ rest) e = absurd (none-some k (sym e))

pub stops_there : (t : PlainTable) (tokens : List ℕ) (at k : ℕ) (m n m' : Machine) (b : Bool) → b ≡ false → at ≤ length tokens → slice_get tokens at ≡ Some k → HasRead t (take at tokens) m n → Reads t k n m' b → ReadsAll t tokens m m' (Some at)
stops_there t tokens at k m n m' b e inside here x y = λ s start passed l.
    let l1 = x s start passed l in
    record {
      inside = inside;
      begins = begins s t start (take at tokens) n.order.items (reverse n.stack.items) passed l1;
      ends = λ rest order w h. subst (Reads t k n m') e y s start (take at tokens) passed l1 rest order (w ∙ here) h;
    }

pub all_read : (t : PlainTable) (tokens : List ℕ) (m n m' : Machine) (b : Bool) → b ≡ true → HasRead t tokens m n → EndsIn t n m' b → ReadsAll t tokens m m' None
all_read t tokens m n m' b e x y = λ s start passed l. subst (EndsIn t n m') e y s start tokens passed (x s start passed l)

pub stops_at_end : (t : PlainTable) (tokens : List ℕ) (m n m' : Machine) (b : Bool) → b ≡ false → HasRead t tokens m n → EndsIn t n m' b → ReadsAll t tokens m m' (Some (length tokens))
stops_at_end t tokens m n m' b e x y = λ s start passed l.
    let l1 = x s start passed l in
    let whole : take (length tokens) tokens ≡ tokens = take_all (length tokens) tokens (omega arith) in
    record {
      inside = omega arith;
      begins = subst (Begins t.productions start) (sym whole) (begins s t start tokens n.order.items (reverse n.stack.items) passed l1);
      ends = λ rest order w h.
          let none = nothing rest (w ∙ slice_get_past tokens (length tokens) (omega arith)) in
          let same : take (length tokens) tokens ++ rest ≡ tokens = ap (λ ts. ts ++ rest) whole ∙ (ap (λ r. tokens ++ r) none ∙ append-nil tokens) in
          subst (EndsIn t n m') e y s start tokens passed l1 order (subst (λ ts. Spells t.productions start ts order) same h);
    }

pub read_with : (t : PlainTable) (k : ℕ) (m n m' : Machine) (a : Bool) (r : Result Bool NoMemory) → a ≡ true → Expands t k m n a → IfOk r (Takes k n m') → IfOk r (Reads t k m m')
read_with t k m n m' a (Ok b) e x y = read_by t k m n m' a b e x y
read_with t k m n m' a (Err z) e x y = tt

pub emptied : (xs : List Symbol) (n : ℕ) (b : Bool) → b ≡ nat_eq n 0 → n ≡ length xs → b ≡ true → xs ≡ []
emptied [] n b e z y = refl
emptied (x ∷ xs) n b e z y = absurd (omega (arith, eqb-true n 0 (sym e ∙ y), z))

pub not_emptied : (xs : List Symbol) (n : ℕ) (b : Bool) → b ≡ nat_eq n 0 → n ≡ length xs → b ≡ false → xs ≡ [] → ⊥
not_emptied xs n b e z y i = true≢false (sym (eq-eqb n 0 (z ∙ ap length i)) ∙ (sym e ∙ y))

pub finished : (t : PlainTable) (tokens : List ℕ) (at : ℕ) (m n m' : Machine) (whole : Bool) (r : Option ℕ) → r ≡ then_some (not whole) (length tokens) → length tokens ≤ at → HasRead t (take at tokens) m n → EndsIn t n m' whole → ReadsAll t tokens m m' r
finished t tokens at m n m' true r e past x y =
    subst (ReadsAll t tokens m m') (sym e) (all_read t tokens m n m' true refl (subst (λ ts. HasRead t ts m n) (take_all at tokens past) x) y)
finished t tokens at m n m' false r e past x y =
    subst (ReadsAll t tokens m m') (sym e) (stops_at_end t tokens m n m' false refl (subst (λ ts. HasRead t ts m n) (take_all at tokens past) x) y)

pub read_next : (t : PlainTable) (tokens : List ℕ) (at : ℕ) (m n m' : Machine) (b : Bool) → b ≡ true → at < length tokens → HasRead t (take at tokens) m n → Reads t (get_or tokens at 0) n m' b → HasRead t (take (at + 1) tokens) m m'
read_next t tokens at m n m' b e inside x y =
    subst (λ ts. HasRead t ts m m') (sym (take_more tokens at 0 inside)) (one_more t (get_or tokens at 0) (take at tokens) m n m' b e x y)

pub stops_here : (t : PlainTable) (tokens : List ℕ) (at : ℕ) (m n m' : Machine) (b : Bool) → b ≡ false → at < length tokens → HasRead t (take at tokens) m n → Reads t (get_or tokens at 0) n m' b → ReadsAll t tokens m m' (Some at)
stops_here t tokens at m n m' b e inside x y =
    stops_there t tokens at (get_or tokens at 0) m n m' b e (omega (arith, inside)) (slice_get-get_or tokens at 0 inside) x y

-- a state in which only a name is to come
pub begun_so : (s : Sets) (t : PlainTable) (start : ℕ) (m : Machine) → is_ll1 s t ≡ true → is_start t start ≡ true → (m.stack.items ≡ Name start ∷ []) × (m.order.items ≡ []) → LeadsTo s t start None [] m
begun_so s t start m passed st is =
    subst (λ xs. Leads s t start None [] xs (reverse m.stack.items)) (sym is.1) (subst (λ xs. Leads s t start None [] [] (reverse xs)) (sym is.0) (begun s t start passed st))
