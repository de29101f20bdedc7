-- What trees stand for, where a relation says what a node may stand for; and the same of a preorder.
use Rattle.std.specs.Prelude.{◌≡◌, ℕ, zero, suc, ◌+◌, List, [], ◌∷◌, length, take, drop}
use Rattle.jd_grammar.specs.declared.piles.NodeParts.{NodeParts}
use Rattle.jd_grammar.specs.declared.table.Symbol.TheVariants.{Name}
use Rattle.jd_grammar.specs.Folds.{AritiesFit}
use Rattle.jd_grammar.specs.Grammars.{Forest, Done, Leaf, Node, yield, preorder, IsForest, Production}

-- the first of these, or another where there is none
abbrev pub top_or : {V : Type 0} → V → List V → V
top_or other [] = other
top_or other (v ∷ vs) = v

-- the parts by their places, and what stands for nothing behind the last
abbrev pub filled : {V : Type 0} → NodeParts V → List V → NodeParts V
filled nothing [] = nothing
filled nothing (a ∷ []) = record nothing { first = a }
filled nothing (a ∷ b ∷ []) = record nothing { first = a; second = b }
filled nothing (a ∷ b ∷ c ∷ []) = record nothing { first = a; second = b; third = c }
filled nothing (a ∷ b ∷ c ∷ d ∷ more) = record nothing { first = a; second = b; third = c; fourth = d }

-- the same at each place
abbrev pub all_of : {V : Type 0} → V → NodeParts V
all_of v = record { first = v; second = v; third = v; fourth = v }

-- what a node of a production may stand for, with the tokens from its first on and what its parts stand for
abbrev pub Stands : Type 0 → Type 0 → Type 1
Stands T V = ℕ → List T → List V → V → Type 0

-- these values may be those of the nodes among trees side by side; `ts` are the tokens from their first one on
abbrev pub StandFor : {T V : Type 0} → Stands T V → Forest → List T → List V → Type 0
StandFor stands Done ts vs = vs ≡ []
StandFor stands (Leaf k f) ts vs = StandFor stands f (drop 1 ts) vs
StandFor stands (Node p c f) ts [] = ⊥
StandFor {V} stands (Node p c f) ts (v ∷ vs) =
    (ws : List V) × StandFor stands c ts ws × stands p ts ws v × StandFor stands f (drop (length (yield c)) ts) vs

-- these values may be those that a preorder leads to from its end, where a production has so many parts
abbrev pub Evaluates : {T V : Type 0} → (ℕ → ℕ) → Stands T V → List ℕ → List T → List V → Type 0
Evaluates count stands [] ts vs = vs ≡ []
Evaluates count stands (zero ∷ es) ts vs = Evaluates count stands es (drop 1 ts) vs
Evaluates count stands (suc p ∷ es) ts [] = ⊥
Evaluates {V} count stands (suc p ∷ es) ts (v ∷ vs) =
    (us : List V) × Evaluates count stands es ts us × stands p ts (take (count p) us) v × (vs ≡ drop (count p) us)

-- the leaves of a preorder
abbrev pub leaves : List ℕ → ℕ
leaves [] = 0
leaves (zero ∷ es) = 1 + leaves es
leaves (suc p ∷ es) = leaves es

-- a tree of a name
pub record Rooted : Type 0 where
  pub productions : List Production
  pub name : ℕ
  pub forest : Forest

-- it has this preorder and so many tokens, and its productions have so many names each
pub record IsReadAs (t : Rooted) (count : ℕ → ℕ) (order : List ℕ) (n : ℕ) : Type 0 where
  pub fits : AritiesFit t.productions count
  pub tree : IsForest t.productions t.forest (Name t.name ∷ []) []
  pub order_is : preorder t.forest ≡ order
  pub tokens : length (yield t.forest) ≡ n

-- some tree is read so
pub record IsRead (count : ℕ → ℕ) (order : List ℕ) (n : ℕ) : Type 0 where
  pub tree : Rooted
  pub read : IsReadAs tree count order n
