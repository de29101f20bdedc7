-- What a grammar spells: trees, the tokens at their leaves, and the productions at their nodes.
use Rattle.std.specs.Prelude.{◌≡◌, ◌≢◌, ℕ, suc, List, [], ◌∷◌, ◌++◌, Some}
use Rattle.std.specs.List.{slice_get}
use Rattle.jd_grammar.specs.declared.table.Symbol.{Symbol}
use Rattle.jd_grammar.specs.declared.table.Symbol.TheVariants.{Token, Name}

-- a production: its name, the kind of token before which it is not used, and what stands for the name
pub record Production : Type 0 where
  pub head : ℕ
  pub unless : ℕ
  pub body : List Symbol

-- a production that is used before each kind; 255 is no token's
abbrev pub produces : ℕ → List Symbol → Production
produces a ss = record { head = a; unless = 255; body = ss }

-- one that is not used before this kind
abbrev pub produces_unless : ℕ → ℕ → List Symbol → Production
produces_unless a k ss = record { head = a; unless = k; body = ss }

-- trees side by side: none; a leaf with a token's kind, and others behind it; a node with a production's number, the trees below it,
-- and others behind it
pub data Forest : Type 0 where
  Done : Forest
  Leaf : ℕ → Forest → Forest
  Node : ℕ → Forest → Forest → Forest

-- the tokens at the leaves, from left to right
abbrev pub yield : Forest → List ℕ
yield Done = []
yield (Leaf k f) = k ∷ yield f
yield (Node p c f) = yield c ++ yield f

-- the trees from the left, each node before what is below it: 0 for a leaf, and one more than the production's number for a node
abbrev pub preorder : Forest → List ℕ
preorder Done = []
preorder (Leaf k f) = 0 ∷ preorder f
preorder (Node p c f) = suc p ∷ preorder c ++ preorder f

-- the kind of the first token, 0 at the end
abbrev pub ahead : List ℕ → ℕ
ahead [] = 0
ahead (k ∷ ks) = k

-- one tree for each symbol, where `after` are the tokens behind them: a leaf for a token, and for a name a node by one of its
-- productions that may be used before the token ahead
abbrev pub IsForest : List Production → Forest → List Symbol → List ℕ → Type 0
IsForest g Done [] after = Unit {0}
IsForest g (Leaf k f) (Token j ∷ ss) after = (j ≡ k) × IsForest g f ss after
IsForest g (Node p c f) (Name a ∷ ss) after =
    (r : Production) × (slice_get g p ≡ Some r) × (r.head ≡ a) × (r.unless ≢ ahead (yield c ++ (yield f ++ after)))
    × IsForest g c r.body (yield f ++ after) × IsForest g f ss after
IsForest g _ _ after = ⊥

-- a tree of the name `start` has these tokens and this preorder
abbrev pub Spells : List Production → ℕ → List ℕ → List ℕ → Type 0
Spells g start tokens order =
    (f : Forest) × IsForest g f (Name start ∷ []) [] × (yield f ≡ tokens) × (preorder f ≡ order)
