-- What the parser's state has to do with trees.
use Rattle.std.specs.Prelude.{◌≡◌, ℕ, List, [], ◌∷◌, ◌++◌, Bool, true, false, Option, Some, None, length, reverse, take}
use Rattle.std.specs.Borrow.{Bor}
use Rattle.std.specs.Int.{bit_at}
use Rattle.std.specs.List.{slice_get}
use Rattle.std.specs.Prelude.{slice_index}
use Rattle.jd_grammar.specs.declared.table.Symbol.{Symbol}
use Rattle.jd_grammar.specs.declared.table.Symbol.TheVariants.{Token, Name}
use Rattle.jd_grammar.specs.declared.machine.Machine.{Machine}
use Rattle.jd_grammar.specs.Grammars.{Forest, IsForest, Spells, ahead, yield, preorder}
use Rattle.jd_grammar.specs.Readings.{StopsAt}
use Rattle.jd_grammar.specs.Tables.{HasRun, PlainTable}
use Rattle.jd_grammar.specs.Tests.{Sets, is_ll1, is_followed, are_known}

abbrev pub chosen_view : Option (ℕ × Bor (List Symbol)) → Option (ℕ × List Symbol)
chosen_view None = None
chosen_view (Some c) = Some (c.0, c.1.now)

-- the tokens to come: any, or those with this kind ahead
abbrev pub IsAhead : Option ℕ → List ℕ → Type 0
IsAhead None rest = Unit {0}
IsAhead (Some k) rest = ahead rest ≡ k

-- after the tokens `done`, with the preorder `out`, these symbols are to come: with trees of them and tokens that may come the whole is
-- a tree of `start`, and each such tree is one of these
pub record Leads (s : Sets) (t : PlainTable) (start : ℕ) (next : Option ℕ) (done out : List ℕ) (symbols : List Symbol) : Type 0 where
  pub sound : (f : Forest) → IsForest t.productions f symbols [] → IsAhead next (yield f) → Spells t.productions start (done ++ yield f) (out ++ preorder f)
  pub complete : (rest order : List ℕ) → IsAhead next rest → Spells t.productions start (done ++ rest) order → (f : Forest) × IsForest t.productions f symbols [] × (yield f ≡ rest) × (out ++ preorder f ≡ order)
  pub followed : is_followed s symbols (slice_index s.follow start) ≡ true
  pub known : are_known t.width (length s.ranks) symbols ≡ true
  pub ended : bit_at (slice_index s.follow start) 0 ≡ 1

-- a parser's state does
abbrev pub LeadsTo : Sets → PlainTable → ℕ → Option ℕ → List ℕ → Machine → Type 0
LeadsTo s t start next done m = Leads s t start next done m.order.items (reverse m.stack.items)

-- what held of a state holds of another
abbrev pub Keeps : PlainTable → ℕ → Machine → Machine → Type 0
Keeps t k m m' = (s : Sets) (start : ℕ) (done : List ℕ) → is_ll1 s t ≡ true → LeadsTo s t start (Some k) done m → LeadsTo s t start (Some k) done m'

abbrev pub NoName : Option Symbol → Type 0
NoName None = Unit {0}
NoName (Some (Token k)) = Unit {0}
NoName (Some (Name a)) = ⊥

-- no name is to come next
abbrev pub HasNoNameNext : Machine → Type 0
HasNoNameNext m = NoName (slice_get (reverse m.stack.items) 0)

-- no tree goes on with this kind ahead
abbrev pub Stops : PlainTable → ℕ → Machine → Type 0
Stops t k m = (s : Sets) (start : ℕ) (done : List ℕ) → is_ll1 s t ≡ true → LeadsTo s t start (Some k) done m
    → (rest order : List ℕ) → ahead rest ≡ k → Spells t.productions start (done ++ rest) order → ⊥

-- what the use of productions before a kind comes to
abbrev pub Expands : PlainTable → ℕ → Machine → Machine → Bool → Type 0
Expands t k m m' true = Keeps t k m m' × HasNoNameNext m'
Expands t k m m' false = Stops t k m

-- a run of these productions may be used where this stack is to come before a kind: so many of its symbols stay, and these come onto them
pub record IsRunAhead (t : PlainTable) (k : ℕ) (stack : List Symbol) (order : List ℕ) (more : List Symbol) (left : ℕ) : Type 0 where
  pub before : List Symbol
  pub has : HasRun t k order before (reverse more)
  pub next : reverse stack ≡ before ++ reverse (take left stack)

-- what a token comes to
abbrev pub Reads : PlainTable → ℕ → Machine → Machine → Bool → Type 0
Reads t k m m' true = (s : Sets) (start : ℕ) (done : List ℕ) → is_ll1 s t ≡ true → LeadsTo s t start None done m → LeadsTo s t start None (done ++ k ∷ []) m'
Reads t k m m' false = (s : Sets) (start : ℕ) (done : List ℕ) → is_ll1 s t ≡ true → LeadsTo s t start None done m
    → (rest order : List ℕ) → slice_get rest 0 ≡ Some k → Spells t.productions start (done ++ rest) order → ⊥

-- what the end comes to
abbrev pub EndsIn : PlainTable → Machine → Machine → Bool → Type 0
EndsIn t m m' true = (s : Sets) (start : ℕ) (done : List ℕ) → is_ll1 s t ≡ true → LeadsTo s t start None done m → Spells t.productions start done m'.order.items
EndsIn t m m' false = (s : Sets) (start : ℕ) (done : List ℕ) → is_ll1 s t ≡ true → LeadsTo s t start None done m → (order : List ℕ) → Spells t.productions start done order → ⊥

-- what a token that is taken comes to
abbrev pub Takes : ℕ → Machine → Machine → Bool → Type 0
Takes k m m' true = (m.stack.items ≡ m'.stack.items ++ Token k ∷ []) × (m'.order.items ≡ m.order.items ++ 0 ∷ [])
Takes k m m' false = (s : List Symbol) → reverse m.stack.items ≡ Token k ∷ s → ⊥

-- what tokens and their end come to
abbrev pub ReadsAll : PlainTable → List ℕ → Machine → Machine → Option ℕ → Type 0
ReadsAll t tokens m m' None = (s : Sets) (start : ℕ) → is_ll1 s t ≡ true → LeadsTo s t start None [] m → Spells t.productions start tokens m'.order.items
ReadsAll t tokens m m' (Some at) = (s : Sets) (start : ℕ) → is_ll1 s t ≡ true → LeadsTo s t start None [] m → StopsAt t.productions start tokens at
