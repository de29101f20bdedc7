-- States that some tokens lead to.
use Rattle.std.proofs.Common.{◌≡◌, ℕ, true, List, [], ◌∷◌, ◌++◌, Ok, refl, ap, subst, ◌∙◌, inl, inr}
use Rattle.jd_bracketed.specs.Tokens.{TokenKind}
use Rattle.jd_sequent.specs.Trees.{PlainNode, are_trees}
use Rattle.jd_sequent.proofs.Preorder.{are_trees-preorder}
use Rattle.jd_scripts.specs.Scripts.{Limits}
use Rattle.jd_scripts.specs.Machine.{State, FileNext, WordNext, VersionNext, ProofNext, ProofWord, NameNext, InProof, FileEnd, Part, TreeEnd, IsReached, IsWhole, step, run}
use Rattle.jd_scripts.proofs.Runs.{run_one}
use Rattle.jd_scripts.proofs.Parts.{PartFits}
use Rattle.jd_scripts.proofs.Open.{TreeReached}
use Rattle.jd_scripts.proofs.Sound.{reached}

pub first_reached : (l : Limits) → IsReached l FileNext
unfolding run
first_reached l = ([], refl)

pub next_reached : (l : Limits) (t : TokenKind) (st s : State) → IsReached l st → step l st t ≡ Ok s → IsReached l s
next_reached l t st s (ts, led) e = (ts ++ t ∷ [], run_one l ts t FileNext st s led e)

one_tree : (l : Limits) (ts : List TokenKind) (q : Part) (ns : List PlainNode) (os : List ℕ) (k : ℕ) → TreeReached l ts q ns os k → q ≡ TreeEnd → are_trees 1 ns ≡ true
one_tree l ts q ns os k (inl i) is = absurd (subst (PartFits l.levels) is i.part_fits)
one_tree l ts q ns os k (inr (_, w)) is = ap (are_trees 1) w.nodes ∙ are_trees-preorder w.tree

pub reached_whole : (l : Limits) (st : State) → IsReached l st → IsWhole st
reached_whole l FileNext r = tt
reached_whole l WordNext r = tt
reached_whole l VersionNext r = tt
reached_whole l (ProofNext v done) r = tt
reached_whole l (ProofWord v done) r = tt
reached_whole l (NameNext v done) r = tt
reached_whole l (InProof c q ns os k) (ts, led) = let r = reached l ts (InProof c q ns os k) led in one_tree l r.behind q ns os k r.tree
reached_whole l (FileEnd v done) r = tt
