-- Values on a stack that counts those of nothing, and a preorder that is read from its end onto it. The top comes first.
use Rattle.std.specs.Prelude.{◌≡◌, ℕ, suc, ◌+◌, ◌≤◌, List, [], ◌∷◌, ◌++◌, length, take, drop, replicate, reverse}
use Rattle.jd_grammar.specs.Nodes.{Stands, Evaluates, leaves}
use Rattle.jd_grammar.specs.declared.piles.Pile.{Pile}
use Rattle.jd_grammar.specs.declared.piles.Piles.{Piles}
use Rattle.jd_grammar.specs.declared.walk.Run.{Run}

-- each value with those of nothing right below it
abbrev pub piled : {V : Type 0} → V → List (Pile V) → List V
piled nothing [] = []
piled nothing (p ∷ ps) = p.value ∷ (replicate p.under nothing ++ piled nothing ps)

-- those of nothing that wait on top, and the others
abbrev pub shown : {V : Type 0} → V → Piles V → List V
shown nothing s = replicate s.waiting nothing ++ piled nothing (reverse s.piles.items)

-- this value lies on top, on so many of nothing, and these piles below
pub record IsTop {V : Type 0} (s : Piles V) (others : List (Pile V)) (v : V) (under : ℕ) : Type 0 where
  pub none_waits : s.waiting ≡ 0
  pub is : s.piles.items ≡ others ++ record { value = v; under = under } ∷ []

-- of so many values on top this is the first, and the others are nothing; those below are left
pub record IsAlone {V : Type 0} (nothing : V) (n : ℕ) (v : V) (before after : List V) : Type 0 where
  pub others : ℕ
  pub count : n ≡ suc others
  pub parts : take n before ≡ v ∷ replicate others nothing
  pub left : after ≡ drop n before

-- ---- nodes for which nothing has to be taken off the stack but parts that are nothing

-- nodes of a production, which have so many parts, stand for nothing where their parts do
pub record IsQuiet {T V : Type 0} (count : ℕ → ℕ) (stands : Stands T V) (nothing : V) (p n : ℕ) : Type 0 where
  pub names : count p ≡ n
  pub quiet : (ts : List T) → stands p ts (replicate n nothing) nothing

-- they stand for their first part where that is this value, and the others, so many of them, stand for nothing
pub record IsKept {T V : Type 0} (count : ℕ → ℕ) (stands : Stands T V) (nothing : V) (p n : ℕ) (v : V) : Type 0 where
  pub names : count p ≡ suc n
  pub keeps : (ts : List T) → stands p ts (v ∷ replicate n nothing) v

-- of w values of nothing a quiet node takes its parts, and leaves m with its own
pub record QuietStep {T V : Type 0} (count : ℕ → ℕ) (stands : Stands T V) (nothing : V) (p w m : ℕ) : Type 0 where
  pub parts : ℕ
  pub left : ℕ
  pub quiet : IsQuiet count stands nothing p parts
  pub all : w ≡ parts + left
  pub after : m ≡ suc left

-- of w values of nothing below its first part a node that stands for that leaves m
pub record KeptStep {T V : Type 0} (count : ℕ → ℕ) (stands : Stands T V) (nothing : V) (p : ℕ) (v : V) (w m : ℕ) : Type 0 where
  pub parts : ℕ
  pub kept : IsKept count stands nothing p parts v
  pub all : w ≡ parts + m

-- ---- a preorder

-- so many entries and tokens are left of it
pub record IsLeft (order : List ℕ) (left at : ℕ) : Type 0 where
  pub within : left ≤ length order
  pub tokens_left : leaves (take left order) ≡ at

-- these are the values of what was passed
pub record IsWalked {T V : Type 0} (count : ℕ → ℕ) (stands : Stands T V) (order : List ℕ) (ts : List T) (left at : ℕ) (vs : List V) : Type 0 where
  pub within : left ≤ length order
  pub tokens_left : leaves (take left order) ≡ at
  pub inside : at ≤ length ts
  pub values : Evaluates count stands (drop left order) (drop at ts) vs

-- from here one comes there by nodes that stand for what lies on top
pub record KeepsTop {T V : Type 0} (count : ℕ → ℕ) (stands : Stands T V) (nothing : V) (order : List ℕ) (left at : ℕ) (s : Piles V) (run : Run) : Type 0 where
  pub others : List (Pile V)
  pub value : V
  pub under : ℕ
  pub top : IsTop s others value under
  pub fewer : run.left ≤ left
  pub goes : (ts : List T) (rest : List V) → IsWalked count stands order ts left at (value ∷ (replicate under nothing ++ rest)) → IsWalked count stands order ts run.left run.at (value ∷ (replicate run.nothing nothing ++ rest))
