-- Plain scripts: trees of steps, and the same trees as lists of nodes in preorder.
use Rattle.std.specs.Prelude.{ℕ, zero, suc, ◌+◌, ◌==◌, Bool, true, false, ◌&&◌, List, [], ◌∷◌, ◌++◌, Option, Some, None}
use Rattle.jd_syntax.specs.Sxs.{Bracketed}
use Rattle.jd_model.specs.Sequents.{PlainPlace}

-- one application of a rule
pub record PlainStep : Type 0 where
  pub rule : List ℕ
  pub place : Option PlainPlace
  pub assumes : List (Option PlainPlace)
  pub insts : List (List ℕ × Bracketed)

mutual
  pub data ProofTree : Type 0 where
    OpenLeaf : ProofTree
    ByStep : PlainStep → ProofTrees → ProofTree

  pub data ProofTrees : Type 0 where
    NoTrees : ProofTrees
    TreeThen : ProofTree → ProofTrees → ProofTrees

-- a node of a tree in preorder, with its number of children
pub record PlainNode : Type 0 where
  pub step : Option PlainStep
  pub children : ℕ

abbrev pub first_trees : ℕ → ProofTrees → ProofTrees
first_trees zero ts = NoTrees
first_trees (suc n) NoTrees = NoTrees
first_trees (suc n) (TreeThen t ts) = TreeThen t (first_trees n ts)

abbrev pub after_trees : ℕ → ProofTrees → ProofTrees
after_trees zero ts = ts
after_trees (suc n) NoTrees = NoTrees
after_trees (suc n) (TreeThen t ts) = after_trees n ts

abbrev pub count_trees : ProofTrees → ℕ
count_trees NoTrees = 0
count_trees (TreeThen t ts) = count_trees ts + 1

abbrev pub tree_at : Option PlainStep → ProofTrees → ProofTree
tree_at None ts = OpenLeaf
tree_at (Some p) ts = ByStep p ts

-- the trees whose nodes these are, the last node read first
unfoldable pub forest : List PlainNode → ProofTrees
forest [] = NoTrees
forest (n ∷ ns) = TreeThen (tree_at n.step (first_trees n.children (forest ns))) (after_trees n.children (forest ns))

abbrev pub head_tree : ProofTrees → ProofTree
head_tree NoTrees = OpenLeaf
head_tree (TreeThen t ts) = t

-- the tree of a script
abbrev pub tree_of : List PlainNode → ProofTree
tree_of ns = head_tree (forest ns)

abbrev pub leaf_is_bare : Option PlainStep → ℕ → Bool
leaf_is_bare None c = c == 0
leaf_is_bare (Some p) c = true

-- the nodes are those of this many trees, and a node without a step has no children
unfoldable pub are_trees : ℕ → List PlainNode → Bool
are_trees zero [] = true
are_trees (suc k) [] = false
are_trees zero (n ∷ ns) = false
are_trees (suc k) (n ∷ ns) = leaf_is_bare n.step n.children && are_trees (k + n.children) ns

-- the nodes of a tree in preorder
abbrev mutual
  pub preorder : ProofTree → List PlainNode
  preorder OpenLeaf = record { step = None; children = 0 } ∷ []
  preorder (ByStep p ts) = record { step = Some p; children = count_trees ts } ∷ preorder_all ts

  pub preorder_all : ProofTrees → List PlainNode
  preorder_all NoTrees = []
  preorder_all (TreeThen t ts) = preorder t ++ preorder_all ts

-- the number of steps in a tree
abbrev mutual
  pub steps_in : ProofTree → ℕ
  steps_in OpenLeaf = 0
  steps_in (ByStep p ts) = 1 + steps_in_all ts

  pub steps_in_all : ProofTrees → ℕ
  steps_in_all NoTrees = 0
  steps_in_all (TreeThen t ts) = steps_in t + steps_in_all ts
