-- What a proof tree derives.
use Rattle.std.specs.Prelude.{◌≡◌, List, [], ◌∷◌, ◌++◌}
use Rattle.jd_model.specs.Sequents.{PlainSequent}
use Rattle.jd_sequent.specs.Trees.{PlainStep, ProofTree, OpenLeaf, ByStep, ProofTrees, NoTrees, TreeThen}

-- a step leads from a sequent to its premises
abbrev pub Leads : Type 1
Leads = PlainSequent → PlainStep → List PlainSequent → Type 0

-- an open leaf has its sequent as its one goal; a step leads to premises that its children derive, and its goals are theirs in order
abbrev mutual
  pub Derives : (PlainSequent → PlainStep → List PlainSequent → Type 0) → ProofTree → PlainSequent → List PlainSequent → Type 0
  Derives leads OpenLeaf s goals = goals ≡ s ∷ []
  Derives leads (ByStep p ts) s goals = (ps : List PlainSequent) × leads s p ps × DeriveAll leads ts ps goals

  pub DeriveAll : (PlainSequent → PlainStep → List PlainSequent → Type 0) → ProofTrees → List PlainSequent → List PlainSequent → Type 0
  DeriveAll leads NoTrees [] goals = goals ≡ []
  DeriveAll leads NoTrees (s ∷ ss) goals = ⊥
  DeriveAll leads (TreeThen t ts) [] goals = ⊥
  DeriveAll leads (TreeThen t ts) (s ∷ ss) goals =
      (here : List PlainSequent) × (there : List PlainSequent) × Derives leads t s here × DeriveAll leads ts ss there × (goals ≡ here ++ there)
