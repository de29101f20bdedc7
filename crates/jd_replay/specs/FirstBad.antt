-- The first step of a proof tree that breaks the derivation.
use Rattle.std.specs.Prelude.{◌≡◌, ◌+◌, ◌⊎◌, ℕ, List, [], ◌∷◌, length}
use Rattle.jd_model.specs.Sequents.{PlainSequent}
use Rattle.jd_sequent.specs.Trees.{PlainStep, ProofTree, OpenLeaf, ByStep, ProofTrees, NoTrees, TreeThen, count_trees, steps_in}
use Rattle.jd_sequent.specs.Derives.{Derives}
use Rattle.jd_sequent.specs.Rules.{IsCaused}
use Rattle.jd_sequent.specs.declared.bad.Bad.TheVariants.{NoMemory}
use Rattle.jd_replay.specs.declared.verdict.Cause.{Cause}
use Rattle.jd_replay.specs.declared.verdict.Cause.TheVariants.{Rule, BranchCount}

-- why a step with so many children breaks the derivation of a sequent: its rule's least cause, or premises that it leads
-- to and that are more or fewer than the children, with the two numbers; want of memory is no such cause
abbrev pub Breaks : (PlainSequent → PlainStep → List PlainSequent → Type 0) → (PlainSequent → PlainStep → ℕ → Type 0) → PlainSequent → PlainStep → ℕ → Cause → Type 0
Breaks leads causes s p children (Rule bad) = (bad ≡ NoMemory → ⊥) × IsCaused (causes s p) bad
Breaks leads causes s p children (BranchCount script rule) =
    (ps : List PlainSequent) × leads s p ps × (script ≡ children) × (rule ≡ length ps) × (script ≡ rule → ⊥)

-- the step with this number in preorder, from 1 and with open leaves not counted, breaks the derivation of the sequent for
-- this cause, and no step before it breaks it: it is the tree's first step, or that one leads to as many premises as there
-- are children, and it is in a child whose elder siblings derive their premises
abbrev mutual
  pub FirstBad : (PlainSequent → PlainStep → List PlainSequent → Type 0) → (PlainSequent → PlainStep → ℕ → Type 0) → ProofTree → PlainSequent → ℕ → Cause → Type 0
  FirstBad leads causes OpenLeaf s n c = ⊥
  FirstBad leads causes (ByStep p ts) s n c =
      ((n ≡ 1) × Breaks leads causes s p (count_trees ts) c)
      ⊎ ((ps : List PlainSequent) × leads s p ps × (count_trees ts ≡ length ps) × (k : ℕ) × (n ≡ k + 1) × FirstBadIn leads causes ts ps k c)

  pub FirstBadIn : (PlainSequent → PlainStep → List PlainSequent → Type 0) → (PlainSequent → PlainStep → ℕ → Type 0) → ProofTrees → List PlainSequent → ℕ → Cause → Type 0
  FirstBadIn leads causes NoTrees ss n c = ⊥
  FirstBadIn leads causes (TreeThen t ts) [] n c = ⊥
  FirstBadIn leads causes (TreeThen t ts) (s ∷ ss) n c =
      FirstBad leads causes t s n c
      ⊎ ((goals : List PlainSequent) × Derives leads t s goals × (k : ℕ) × (n ≡ steps_in t + k) × FirstBadIn leads causes ts ss k c)

-- a tree with a first bad step derives nothing
abbrev pub BadDerivesNothing : (PlainSequent → PlainStep → List PlainSequent → Type 0) → (PlainSequent → PlainStep → ℕ → Type 0) → Type 0
BadDerivesNothing leads causes =
    (tree : ProofTree) (s : PlainSequent) (n : ℕ) (c : Cause) (goals : List PlainSequent) → FirstBad leads causes tree s n c → Derives leads tree s goals → ⊥

-- at most one step is first bad, and for one cause
abbrev pub OneIsFirstBad : (PlainSequent → PlainStep → List PlainSequent → Type 0) → (PlainSequent → PlainStep → ℕ → Type 0) → Type 0
OneIsFirstBad leads causes =
    (tree : ProofTree) (s : PlainSequent) (n m : ℕ) (c d : Cause) → FirstBad leads causes tree s n c → FirstBad leads causes tree s m d → (n ≡ m) × (c ≡ d)
