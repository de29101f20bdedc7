-- Where a first bad step is, nothing is derived, and it is one, for one cause.
use Rattle.std.proofs.Common.{◌≡◌, ◌+◌, ℕ, List, [], ◌∷◌, inl, inr, length, refl, sym, ap, ◌∙◌, subst, arith}
use Rattle.jd_model.specs.Sequents.{PlainSequent}
use Rattle.jd_sequent.specs.Trees.{PlainStep, ProofTree, OpenLeaf, ByStep, ProofTrees, NoTrees, TreeThen, count_trees, steps_in}
use Rattle.jd_sequent.specs.Derives.{Derives, DeriveAll}
use Rattle.jd_sequent.proofs.Causes.{some_cause, one_refusal}
use Rattle.jd_replay.specs.declared.verdict.Cause.{Cause}
use Rattle.jd_replay.specs.declared.verdict.Cause.TheVariants.{Rule, BranchCount}
use Rattle.jd_replay.specs.FirstBad.{Breaks, FirstBad, FirstBadIn, BadDerivesNothing, OneIsFirstBad}

derived_count : (leads : PlainSequent → PlainStep → List PlainSequent → Type 0) (ts : ProofTrees) (ss goals : List PlainSequent) → DeriveAll leads ts ss goals → count_trees ts ≡ length ss
derived_count leads NoTrees [] goals d = refl
derived_count leads NoTrees (s ∷ ss) goals d = absurd d
derived_count leads (TreeThen t ts) [] goals d = absurd d
derived_count leads (TreeThen t ts) (s ∷ ss) goals d = let rest = derived_count leads ts ss d.1 d.3 in omega arith

-- in a set of rules where a step leads one way, and then has no cause
module _ (leads : PlainSequent → PlainStep → List PlainSequent → Type 0) (causes : PlainSequent → PlainStep → ℕ → Type 0) (one_way : (s : PlainSequent) (p : PlainStep) (ps qs : List PlainSequent) → leads s p ps → leads s p qs → ps ≡ qs) (has_no_cause : (s : PlainSequent) (p : PlainStep) (ps : List PlainSequent) (n : ℕ) → leads s p ps → causes s p n → ⊥) where
  -- a step that leads to as many premises as there are children does not break
  fits_not_breaks : (s : PlainSequent) (p : PlainStep) (ps : List PlainSequent) (children : ℕ) (c : Cause) → leads s p ps → children ≡ length ps → Breaks leads causes s p children c → ⊥
  fits_not_breaks s p ps children (Rule bad) is fits b =
      let some = some_cause (causes s p) bad b.0 b.1 in
      has_no_cause s p ps some.0 is some.1
  fits_not_breaks s p ps children (BranchCount script rule) is fits b =
      b.4 (b.2 ∙ fits ∙ ap length (one_way s p ps b.0 is b.1) ∙ sym b.3)

  one_break : (s : PlainSequent) (p : PlainStep) (children : ℕ) (c d : Cause) → Breaks leads causes s p children c → Breaks leads causes s p children d → c ≡ d
  one_break s p children (Rule a) (Rule b) h k = ap Rule (one_refusal (causes s p) a b h.0 h.1 k.0 k.1)
  one_break s p children (Rule a) (BranchCount script rule) h k =
      let some = some_cause (causes s p) a h.0 h.1 in
      absurd (has_no_cause s p k.0 some.0 k.1 some.1)
  one_break s p children (BranchCount script rule) (Rule b) h k =
      let some = some_cause (causes s p) b k.0 k.1 in
      absurd (has_no_cause s p h.0 some.0 h.1 some.1)
  one_break s p children (BranchCount script rule) (BranchCount script_ rule_) h k =
      ap (λ n. BranchCount n rule) (h.2 ∙ sym k.2) ∙ ap (BranchCount script_) (h.3 ∙ ap length (one_way s p h.0 k.0 h.1 k.1) ∙ sym k.3)

  mutual
    nothing : (t : ProofTree) (s : PlainSequent) (n : ℕ) (c : Cause) (goals : List PlainSequent) → FirstBad leads causes t s n c → Derives leads t s goals → ⊥
    nothing OpenLeaf s n c goals b d = b
    nothing (ByStep p ts) s n c goals (inl b) d =
        fits_not_breaks s p d.0 (count_trees ts) c d.1 (derived_count leads ts d.0 goals d.2) b.1
    nothing (ByStep p ts) s n c goals (inr b) d =
        nothing_in ts b.0 b.3 c goals b.5 (subst (λ ps. DeriveAll leads ts ps goals) (one_way s p d.0 b.0 d.1 b.1) d.2)

    nothing_in : (ts : ProofTrees) (ss : List PlainSequent) (n : ℕ) (c : Cause) (goals : List PlainSequent) → FirstBadIn leads causes ts ss n c → DeriveAll leads ts ss goals → ⊥
    nothing_in NoTrees ss n c goals b d = b
    nothing_in (TreeThen t ts) [] n c goals b d = b
    nothing_in (TreeThen t ts) (s ∷ ss) n c goals (inl b) d = nothing t s n c d.0 b d.2
    nothing_in (TreeThen t ts) (s ∷ ss) n c goals (inr b) d = nothing_in ts ss b.2 c d.1 b.4 d.3

  mutual
    same : (t : ProofTree) (s : PlainSequent) (n m : ℕ) (c d : Cause) → FirstBad leads causes t s n c → FirstBad leads causes t s m d → (n ≡ m) × (c ≡ d)
    same OpenLeaf s n m c d a b = absurd a
    same (ByStep p ts) s n m c d (inl a) (inl b) = (a.0 ∙ sym b.0, one_break s p (count_trees ts) c d a.1 b.1)
    same (ByStep p ts) s n m c d (inl a) (inr b) = absurd (fits_not_breaks s p b.0 (count_trees ts) c b.1 b.2 a.1)
    same (ByStep p ts) s n m c d (inr a) (inl b) = absurd (fits_not_breaks s p a.0 (count_trees ts) d a.1 a.2 b.1)
    same (ByStep p ts) s n m c d (inr a) (inr b) =
        let below = same_in ts a.0 a.3 b.3 c d a.5 (subst (λ ps. FirstBadIn leads causes ts ps b.3 d) (one_way s p b.0 a.0 b.1 a.1) b.5) in
        (a.4 ∙ ap (λ k. k + 1) below.0 ∙ sym b.4, below.1)

    same_in : (ts : ProofTrees) (ss : List PlainSequent) (n m : ℕ) (c d : Cause) → FirstBadIn leads causes ts ss n c → FirstBadIn leads causes ts ss m d → (n ≡ m) × (c ≡ d)
    same_in NoTrees ss n m c d a b = absurd a
    same_in (TreeThen t ts) [] n m c d a b = absurd a
    same_in (TreeThen t ts) (s ∷ ss) n m c d (inl a) (inl b) = same t s n m c d a b
    same_in (TreeThen t ts) (s ∷ ss) n m c d (inl a) (inr b) = absurd (nothing t s n c b.0 a b.1)
    same_in (TreeThen t ts) (s ∷ ss) n m c d (inr a) (inl b) = absurd (nothing t s m d a.0 b a.1)
    same_in (TreeThen t ts) (s ∷ ss) n m c d (inr a) (inr b) =
        let behind = same_in ts ss a.2 b.2 c d a.4 b.4 in
        (a.3 ∙ ap (λ k. steps_in t + k) behind.0 ∙ sym b.3, behind.1)

  pub bad_derives_nothing : BadDerivesNothing leads causes
  bad_derives_nothing tree s n c goals b d = nothing tree s n c goals b d

  pub one_first_bad : OneIsFirstBad leads causes
  one_first_bad tree s n m c d a b = same tree s n m c d a b
