-- The nodes of a tree in preorder are one tree, and that tree.
use Rattle.std.proofs.Common.{◌≡◌, ℕ, suc, ◌+◌, true, List, [], ◌++◌, refl, sym, ap, ◌∙◌, append_assoc, add-zero, add-one, arith}
use Rattle.std.proofs.lemmas.List.{append-nil}
use Rattle.jd_sequent.specs.Trees.{PlainNode, ProofTree, OpenLeaf, ByStep, ProofTrees, NoTrees, TreeThen, are_trees, forest, tree_of, head_tree, first_trees, after_trees, count_trees, preorder, preorder_all}

mutual
  unfolding are_trees

  one_more : (t : ProofTree) (k : ℕ) (ns : List PlainNode) → are_trees (suc k) (preorder t ++ ns) ≡ are_trees k ns
  one_more OpenLeaf k ns = ap (λ n. are_trees n ns) (add-zero k)
  one_more (ByStep p ts) k ns = all_more ts k ns

  all_more : (ts : ProofTrees) (k : ℕ) (ns : List PlainNode) → are_trees (k + count_trees ts) (preorder_all ts ++ ns) ≡ are_trees k ns
  all_more NoTrees k ns = ap (λ n. are_trees n ns) (add-zero k)
  all_more (TreeThen t ts) k ns =
      let count : k + (count_trees ts + 1) ≡ suc (k + count_trees ts) = omega arith in
      ap (λ n. are_trees n ((preorder t ++ preorder_all ts) ++ ns)) count
      ∙ (ap (are_trees (suc (k + count_trees ts))) (append_assoc (preorder t) (preorder_all ts) ns)
      ∙ (one_more t (k + count_trees ts) (preorder_all ts ++ ns) ∙ all_more ts k ns))

pub are_trees-preorder : (t : ProofTree) → are_trees 1 (preorder t) ≡ true
unfolding are_trees
are_trees-preorder t = ap (are_trees 1) (sym (append-nil (preorder t))) ∙ one_more t 0 []

abbrev before : ProofTrees → ProofTrees → ProofTrees
before NoTrees us = us
before (TreeThen t ts) us = TreeThen t (before ts us)

first_all : (ts us : ProofTrees) → first_trees (count_trees ts) (before ts us) ≡ ts
first_all NoTrees us = refl
first_all (TreeThen t ts) us = ap (λ n. first_trees n (TreeThen t (before ts us))) (add-one (count_trees ts)) ∙ ap (TreeThen t) (first_all ts us)

after_all : (ts us : ProofTrees) → after_trees (count_trees ts) (before ts us) ≡ us
after_all NoTrees us = refl
after_all (TreeThen t ts) us = ap (λ n. after_trees n (TreeThen t (before ts us))) (add-one (count_trees ts)) ∙ after_all ts us

mutual
  unfolding forest

  forest_one : (t : ProofTree) (ns : List PlainNode) → forest (preorder t ++ ns) ≡ TreeThen t (forest ns)
  forest_one OpenLeaf ns = refl
  forest_one (ByStep p ts) ns =
      ap (λ f. TreeThen (ByStep p (first_trees (count_trees ts) f)) (after_trees (count_trees ts) f)) (forest_all ts ns)
      ∙ (ap (λ us. TreeThen (ByStep p us) (after_trees (count_trees ts) (before ts (forest ns)))) (first_all ts (forest ns))
      ∙ ap (TreeThen (ByStep p ts)) (after_all ts (forest ns)))

  forest_all : (ts : ProofTrees) (ns : List PlainNode) → forest (preorder_all ts ++ ns) ≡ before ts (forest ns)
  forest_all NoTrees ns = refl
  forest_all (TreeThen t ts) ns =
      ap forest (append_assoc (preorder t) (preorder_all ts) ns)
      ∙ (forest_one t (preorder_all ts ++ ns) ∙ ap (TreeThen t) (forest_all ts ns))

pub tree_of-preorder : (t : ProofTree) → tree_of (preorder t) ≡ t
unfolding forest
tree_of-preorder t = ap tree_of (sym (append-nil (preorder t))) ∙ ap head_tree (forest_one t [])
