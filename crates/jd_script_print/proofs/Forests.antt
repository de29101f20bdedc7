-- Nodes that are one tree are that tree's, in preorder.
use Rattle.std.proofs.Common.{◌≡◌, ℕ, zero, suc, ◌+◌, true, List, [], ◌∷◌, ◌++◌, Option, Some, None, refl, sym, ap, ◌∙◌, append_assoc, arith}
use Rattle.std.proofs.lemmas.Bool.{and_parts, eqb-true, false≢true}
use Rattle.jd_sequent.specs.Trees.{PlainNode, PlainStep, ProofTrees, NoTrees, TreeThen, after_trees, are_trees, count_trees, first_trees, forest, head_tree, leaf_is_bare, preorder, preorder_all, tree_at, tree_of}

count_first : (c k : ℕ) (ts : ProofTrees) → count_trees ts ≡ k + c → count_trees (first_trees c ts) ≡ c
count_first zero k ts e = refl
count_first (suc c) k NoTrees e = absurd (omega (arith, e))
count_first (suc c) k (TreeThen t ts) e = let less : count_trees ts ≡ k + c = omega (arith, e) in omega (arith, count_first c k ts less)

count_after : (c k : ℕ) (ts : ProofTrees) → count_trees ts ≡ k + c → count_trees (after_trees c ts) ≡ k
count_after zero k ts e = omega (arith, e)
count_after (suc c) k NoTrees e = absurd (omega (arith, e))
count_after (suc c) k (TreeThen t ts) e = count_after c k ts (omega (arith, e))

split_trees : (c : ℕ) (ts : ProofTrees) → preorder_all (first_trees c ts) ++ preorder_all (after_trees c ts) ≡ preorder_all ts
split_trees zero ts = refl
split_trees (suc c) NoTrees = refl
split_trees (suc c) (TreeThen t ts) =
    append_assoc (preorder t) (preorder_all (first_trees c ts)) (preorder_all (after_trees c ts)) ∙ ap (λ l. preorder t ++ l) (split_trees c ts)

-- the first node's tree, and those behind it
begun : (s : Option PlainStep) (c k : ℕ) (ts : ProofTrees) → leaf_is_bare s c ≡ true → count_trees ts ≡ k + c
    → preorder (tree_at s (first_trees c ts)) ++ preorder_all (after_trees c ts) ≡ record { step = s; children = c } ∷ preorder_all ts
begun None c k ts bare e =
    let none : c ≡ 0 = eqb-true c 0 bare in
    ap (λ n. record { step = None; children = 0 } ∷ preorder_all (after_trees n ts)) none
    ∙ ap (λ n. record { step = None; children = n } ∷ preorder_all ts) (sym none)
begun (Some p) c k ts bare e =
    ap (λ n. record { step = Some p; children = n } ∷ (preorder_all (first_trees c ts) ++ preorder_all (after_trees c ts))) (count_first c k ts e)
    ∙ ap (λ l. record { step = Some p; children = c } ∷ l) (split_trees c ts)

record AreOf (k : ℕ) (ns : List PlainNode) : Type 0 where
  count : count_trees (forest ns) ≡ k
  nodes : preorder_all (forest ns) ≡ ns

are_of : (k : ℕ) (ns : List PlainNode) → are_trees k ns ≡ true → AreOf k ns
unfolding are_trees forest
are_of zero [] e = record { count = refl; nodes = refl }
are_of (suc k) [] e = absurd (false≢true e)
are_of zero (n ∷ ns) e = absurd (false≢true e)
are_of (suc k) (n ∷ ns) e =
    let parts = and_parts (leaf_is_bare n.step n.children) (are_trees (k + n.children) ns) e in
    let rest = are_of (k + n.children) ns parts.1 in
    record {
      count = omega (arith, count_after n.children k (forest ns) rest.count);
      nodes = begun n.step n.children k (forest ns) parts.0 rest.count ∙ ap (λ l. n ∷ l) rest.nodes;
    }

only : (ts : ProofTrees) → count_trees ts ≡ 1 → preorder_all ts ≡ preorder (head_tree ts) ++ []
only NoTrees e = absurd (omega (arith, e))
only (TreeThen t NoTrees) e = refl
only (TreeThen t (TreeThen u ts)) e = absurd (omega (arith, e))

-- the tree of one tree's nodes has these nodes
pub tree_nodes : (ns : List PlainNode) → are_trees 1 ns ≡ true → preorder (tree_of ns) ++ [] ≡ ns
tree_nodes ns e = let are = are_of 1 ns e in sym (only (forest ns) are.count) ∙ are.nodes
