-- The steps that are open, with the trees that are whole below each.
use Rattle.std.proofs.Common.{◌≡◌, ℕ, ◌+◌, ◌≤◌, List, [], ◌∷◌, ◌++◌, length, Some, refl, sym, ap, ◌∙◌, append_assoc, arith, inl, inr}
use Rattle.std.specs.Prelude.{◌⊎◌}
use Rattle.std.proofs.lemmas.List.{append-nil}
use Rattle.jd_bracketed.specs.Tokens.{TokenKind}
use Rattle.jd_sequent.specs.Trees.{PlainStep, PlainNode, ProofTree, ProofTrees, NoTrees, TreeThen, count_trees, preorder, preorder_all, steps_in, steps_in_all}
use Rattle.jd_scripts.specs.Scripts.{Limits, StepFits, TreeFits, TreesFit, spell_step, spell_tree, spell_trees}
use Rattle.jd_scripts.specs.Machine.{Part, TreeEnd, counted, after_tree}
use Rattle.jd_scripts.proofs.Parts.{part_text, PartFits, part_steps}
use Rattle.jd_scripts.proofs.Runs.{more_at}

-- ---- one tree behind others

abbrev pub then_tree : ProofTrees → ProofTree → ProofTrees
then_tree NoTrees t = TreeThen t NoTrees
then_tree (TreeThen u us) t = TreeThen u (then_tree us t)

count-then : (us : ProofTrees) (t : ProofTree) → count_trees (then_tree us t) ≡ count_trees us + 1
count-then NoTrees t = refl
count-then (TreeThen u us) t = ap (λ n. n + 1) (count-then us t)

preorder-then : (us : ProofTrees) (t : ProofTree) → preorder_all (then_tree us t) ≡ preorder_all us ++ preorder t
preorder-then NoTrees t = append-nil (preorder t)
preorder-then (TreeThen u us) t = ap (λ l. preorder u ++ l) (preorder-then us t) ∙ sym (append_assoc (preorder u) (preorder_all us) (preorder t))

pub spell-then : (us : ProofTrees) (t : ProofTree) → spell_trees (then_tree us t) ≡ spell_trees us ++ spell_tree t
spell-then NoTrees t = append-nil (spell_tree t)
spell-then (TreeThen u us) t = ap (λ l. spell_tree u ++ l) (spell-then us t) ∙ sym (append_assoc (spell_tree u) (spell_trees us) (spell_tree t))

pub fit-then : (levels : ℕ) (us : ProofTrees) (t : ProofTree) → TreesFit levels us → TreeFits levels t → TreesFit levels (then_tree us t)
fit-then levels NoTrees t h k = (k, tt)
fit-then levels (TreeThen u us) t h k = (h.0, fit-then levels us t h.1 k)

pub steps-then : (us : ProofTrees) (t : ProofTree) → steps_in_all (then_tree us t) ≡ steps_in_all us + steps_in t
steps-then NoTrees t = omega arith
steps-then (TreeThen u us) t = let more = steps-then us t in omega (arith, more)

-- ---- open steps, the innermost first

pub record Frame : Type 0 where
  pub by : PlainStep
  pub done : ProofTrees

abbrev node_of : Frame → ℕ → PlainNode
node_of f n = record { step = Some f.by; children = n }

-- the nodes where a child is open under each
abbrev pub outer : List Frame → List PlainNode
outer [] = []
outer (f ∷ fs) = outer fs ++ node_of f (count_trees f.done + 1) ∷ preorder_all f.done

abbrev pub flat : List Frame → List PlainNode
flat [] = []
flat (f ∷ fs) = outer fs ++ node_of f (count_trees f.done) ∷ preorder_all f.done

abbrev pub positions : List Frame → List ℕ
positions [] = []
positions (f ∷ fs) = length (outer fs) ∷ positions fs

abbrev pub heard : List Frame → List TokenKind
heard [] = []
heard (f ∷ fs) = heard fs ++ (spell_step f.by ++ spell_trees f.done)

abbrev pub AreOpen : ℕ → List Frame → Type 0
AreOpen levels [] = Unit {0}
AreOpen levels (f ∷ fs) = StepFits levels f.by × TreesFit levels f.done × AreOpen levels fs

abbrev pub steps_of : List Frame → ℕ
steps_of [] = 0
steps_of (f ∷ fs) = steps_of fs + (1 + steps_in_all f.done)

pub counted_is : (fs : List Frame) → counted (flat fs) (positions fs) ≡ outer fs
counted_is [] = refl
counted_is (f ∷ fs) = more_at (length (outer fs)) (outer fs) (node_of f (count_trees f.done)) (preorder_all f.done) refl

-- ---- what led to a part of a proof

pub record Inside (l : Limits) (ts : List TokenKind) (q : Part) (ns : List PlainNode) (os : List ℕ) (k : ℕ) : Type 0 where
  pub frames : List Frame
  pub nodes : ns ≡ flat frames
  pub places : os ≡ positions frames
  pub text : ts ≡ heard frames ++ part_text q
  pub steps : k ≡ steps_of frames + part_steps q
  pub few : k ≤ l.steps
  pub fits : AreOpen l.levels frames
  pub part_fits : PartFits l.levels q

pub record Whole (l : Limits) (ts : List TokenKind) (ns : List PlainNode) (k : ℕ) : Type 0 where
  pub tree : ProofTree
  pub text : ts ≡ spell_tree tree
  pub nodes : ns ≡ preorder tree
  pub steps : k ≡ steps_in tree
  pub few : k ≤ l.steps
  pub fits : TreeFits l.levels tree

abbrev pub TreeReached : Limits → List TokenKind → Part → List PlainNode → List ℕ → ℕ → Type 0
TreeReached l ts q ns os k = Inside l ts q ns os k ⊎ ((q ≡ TreeEnd) × Whole l ts ns k)

-- one tree more below the innermost step, or the whole
pub tree_reached : (l : Limits) (ts : List TokenKind) (fs : List Frame) (t : ProofTree) (ns : List PlainNode) (k : ℕ) → AreOpen l.levels fs → TreeFits l.levels t → k ≤ l.steps
    → ts ≡ heard fs ++ spell_tree t → ns ≡ counted (flat fs) (positions fs) ++ preorder t → k ≡ steps_of fs + steps_in t
    → TreeReached l ts (after_tree (positions fs)) ns (positions fs) k
tree_reached l ts [] t ns k h g few text nodes steps = inr (refl, record { tree = t; text = text; nodes = nodes; steps = omega (arith, steps); few = few; fits = g })
tree_reached l ts (f ∷ fs) t ns k h g few text nodes steps =
    let us = then_tree f.done t in
    let sum = steps-then f.done t in
    let counted_nodes : ns ≡ (outer fs ++ node_of f (count_trees f.done + 1) ∷ preorder_all f.done) ++ preorder t = nodes ∙ ap (λ l. l ++ preorder t) (counted_is (f ∷ fs)) in
    inl (record {
      frames = record { by = f.by; done = us } ∷ fs;
      nodes = counted_nodes ∙ (append_assoc (outer fs) (node_of f (count_trees f.done + 1) ∷ preorder_all f.done) (preorder t)
          ∙ (ap (λ n. outer fs ++ node_of f n ∷ (preorder_all f.done ++ preorder t)) (sym (count-then f.done t))
          ∙ ap (λ l. outer fs ++ node_of f (count_trees us) ∷ l) (sym (preorder-then f.done t))));
      places = refl;
      text = text ∙ (append_assoc (heard fs) (spell_step f.by ++ spell_trees f.done) (spell_tree t)
          ∙ (ap (λ l. heard fs ++ l) (append_assoc (spell_step f.by) (spell_trees f.done) (spell_tree t) ∙ ap (λ l. spell_step f.by ++ l) (sym (spell-then f.done t)))
          ∙ sym (append-nil (heard fs ++ (spell_step f.by ++ spell_trees us)))));
      steps = omega (arith, steps, sum);
      few = few;
      fits = (h.0, fit-then l.levels f.done t h.1 g, h.2);
      part_fits = tt;
    })
