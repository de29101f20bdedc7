-- What a tree derives is determined where each step's premises are, and so is its first bad step.
use Rattle.std.proofs.Common.{◌≡◌, ℕ, List, [], ◌∷◌, ◌++◌, ap, sym, subst, ◌∙◌}
use Rattle.jd_model.specs.Sequents.{PlainSequent}
use Rattle.jd_sequent.specs.Trees.{PlainStep, ProofTree, OpenLeaf, ByStep, ProofTrees, NoTrees, TreeThen}
use Rattle.jd_sequent.specs.Derives.{Derives, DeriveAll}

-- a step leads to one list of premises
abbrev pub OneWay : (PlainSequent → PlainStep → List PlainSequent → Type 0) → Type 0
OneWay leads =
    (s : PlainSequent) (p : PlainStep) (ps qs : List PlainSequent) → leads s p ps → leads s p qs → ps ≡ qs

-- and then has no cause
abbrev pub HasNoCause : (PlainSequent → PlainStep → List PlainSequent → Type 0) → (PlainSequent → PlainStep → ℕ → Type 0) → Type 0
HasNoCause leads causes =
    (s : PlainSequent) (p : PlainStep) (ps : List PlainSequent) (n : ℕ) → leads s p ps → causes s p n → ⊥

mutual
  pub one_derivation : (leads : PlainSequent → PlainStep → List PlainSequent → Type 0) → OneWay leads → (t : ProofTree) (s : PlainSequent) (gs hs : List PlainSequent) → Derives leads t s gs → Derives leads t s hs → gs ≡ hs
  one_derivation leads one OpenLeaf s gs hs d e = d ∙ sym e
  one_derivation leads one (ByStep p ts) s gs hs d e =
      all_one_derivation leads one ts e.0 gs hs (subst (λ ps. DeriveAll leads ts ps gs) (one s p d.0 e.0 d.1 e.1) d.2) e.2

  pub all_one_derivation : (leads : PlainSequent → PlainStep → List PlainSequent → Type 0) → OneWay leads → (ts : ProofTrees) (ss gs hs : List PlainSequent) → DeriveAll leads ts ss gs → DeriveAll leads ts ss hs → gs ≡ hs
  all_one_derivation leads one NoTrees [] gs hs d e = d ∙ sym e
  all_one_derivation leads one NoTrees (s ∷ ss) gs hs d e = absurd d
  all_one_derivation leads one (TreeThen t ts) [] gs hs d e = absurd d
  all_one_derivation leads one (TreeThen t ts) (s ∷ ss) gs hs d e =
      d.4 ∙ ap (λ x. x ++ d.1) (one_derivation leads one t s d.0 e.0 d.2 e.2) ∙ ap (λ y. e.0 ++ y) (all_one_derivation leads one ts ss d.1 e.1 d.3 e.3) ∙ sym e.4
