-- The nodes of a tree, written one after the other, are written as the tree is spelled.
use Rattle.std.proofs.Common.{◌≡◌, ℕ, zero, suc, ◌+◌, ◌-◌, ◌<◌, cond, List, [], ◌∷◌, ◌++◌, refl, sym, ap, ◌∙◌, append_assoc, arith}
use Rattle.std.proofs.lemmas.Bool.{lt-ltb}
use Rattle.jd_bracketed.specs.Tokens.{TokenKind, Close}
use Rattle.jd_sequent.specs.Trees.{PlainNode, ProofTree, ProofTrees, OpenLeaf, ByStep, NoTrees, TreeThen, count_trees, preorder, preorder_all}
use Rattle.jd_written.specs.Written.{Text, write, write_all}
use Rattle.jd_written.proofs.Writing.{write_all-append}
use Rattle.jd_scripts.specs.Scripts.{spell_step, spell_tree, spell_trees}
use Rattle.jd_script_print.specs.Writing.{OpenSteps, end_tree, open_step, put_nodes, put_step}
use Rattle.jd_script_print.proofs.Parts.{step_written}

abbrev ends : Text → List TokenKind → List ℕ → OpenSteps
ends text ts left = end_tree (write_all text ts) left

-- a step with one tree more to write
opened : (text : Text) (left : List ℕ) (n : ℕ) → open_step text left (n + 1) ≡ (text, (n + 1) ∷ left)
opened text left n =
    let e : n + 1 ≡ suc n = omega arith in
    ap (open_step text left) e ∙ ap (λ m. let s : OpenSteps = (text, m ∷ left) in s) (sym e)

-- where one of its trees has ended it has one less to write
one_less : (text : Text) (left : List ℕ) (n : ℕ) → end_tree text ((n + 1) ∷ left) ≡ open_step text left n
one_less text left zero = refl
one_less text left (suc n) =
    let more : 1 < suc n + 1 = omega arith in
    let e : (suc n + 1) - 1 ≡ suc n = omega arith in
    ap (λ b. cond b (let s : OpenSteps = (text, ((suc n + 1) - 1) ∷ left) in s) (end_tree (write text Close) left)) (lt-ltb 1 (suc n + 1) more)
    ∙ ap (λ m. let s : OpenSteps = (text, m ∷ left) in s) e

mutual
  unfolding put_nodes

  pub tree_written : (t : ProofTree) (text : Text) (left : List ℕ) (ns : List PlainNode) → put_nodes (text, left) (preorder t ++ ns) ≡ put_nodes (ends text (spell_tree t) left) ns
  tree_written OpenLeaf text left ns = refl
  tree_written (ByStep p ts) text left ns =
      trees_written ts (put_step text p) left ns
      ∙ ap (λ (u : Text). put_nodes (ends u (spell_trees ts ++ Close ∷ []) left) ns) (step_written text p)
      ∙ ap (λ (u : Text). put_nodes (end_tree u left) ns) (sym (write_all-append text (spell_step p) (spell_trees ts ++ Close ∷ [])))

  trees_written : (ts : ProofTrees) (text : Text) (left : List ℕ) (ns : List PlainNode)
      → put_nodes (open_step text left (count_trees ts)) (preorder_all ts ++ ns) ≡ put_nodes (ends text (spell_trees ts ++ Close ∷ []) left) ns
  trees_written NoTrees text left ns = refl
  trees_written (TreeThen t ts) text left ns =
      ap (λ (s : OpenSteps). put_nodes s ((preorder t ++ preorder_all ts) ++ ns)) (opened text left (count_trees ts))
      ∙ ap (λ l. put_nodes (text, (count_trees ts + 1) ∷ left) l) (append_assoc (preorder t) (preorder_all ts) ns)
      ∙ tree_written t text ((count_trees ts + 1) ∷ left) (preorder_all ts ++ ns)
      ∙ ap (λ (s : OpenSteps). put_nodes s (preorder_all ts ++ ns)) (one_less (write_all text (spell_tree t)) left (count_trees ts))
      ∙ trees_written ts (write_all text (spell_tree t)) left ns
      ∙ ap (λ (u : Text). put_nodes (end_tree u left) ns)
      (sym (ap (write_all text) (append_assoc (spell_tree t) (spell_trees ts) (Close ∷ [])) ∙ write_all-append text (spell_tree t) (spell_trees ts ++ Close ∷ [])))
