-- Derivations of sound steps are sound, by induction on the tree.
use Rattle.std.proofs.Common.{ℕ, suc, ℤ, List, [], ◌∷◌, ◌++◌, All, arith, subst}
use Rattle.jd_model.specs.Sequents.{PlainSequent}
use Rattle.jd_model.specs.Truth.{Setting}
use Rattle.jd_model.specs.Validity.{Valid, AllValid}
use Rattle.jd_model.specs.Cases.{Case, SpecifiedProgram}
use Rattle.jd_model.specs.KeptCases.{Usable}
use Rattle.jd_sequent.specs.Trees.{PlainStep, ProofTree, OpenLeaf, ByStep, ProofTrees, NoTrees, TreeThen}
use Rattle.jd_sequent.specs.Derives.{Derives, DeriveAll}
use Rattle.jd_sequent.specs.Obligations.{PlainTask}
use Rattle.jd_sequent.specs.TaskMeaning.{TaskStandsFor, StepIsSound}
use Rattle.jd_sequent.specs.SoundDerivations.{DerivationsAreSound}

module _ (g : Setting) (d : ℕ) (m : ℤ) where
  front_valid : (l k : List PlainSequent) → AllValid g d m (l ++ k) → AllValid g d m l
  front_valid [] k h = tt
  front_valid (q ∷ l) k h = (h.0, front_valid l k h.1)

  back_valid : (l k : List PlainSequent) → AllValid g d m (l ++ k) → AllValid g d m k
  back_valid [] k h = h
  back_valid (q ∷ l) k h = back_valid l k h.1

first_of : (P : PlainSequent → Type 0) (s : PlainSequent) (ss : List PlainSequent) → All P (s ∷ ss) → P s
first_of P s ss all = all 0 s (omega arith)

rest_of : (P : PlainSequent → Type 0) (s : PlainSequent) (ss : List PlainSequent) → All P (s ∷ ss) → All P ss
rest_of P s ss all k d lt = all (suc k) d (omega arith)

-- in a set of rules whose steps are sound and take their premises again
module _ (t : PlainTask) (accepts : PlainSequent → Type 0) (leads : PlainSequent → PlainStep → List PlainSequent → Type 0) (keeps : (s : PlainSequent) (step : PlainStep) (ps : List PlainSequent) → accepts s → leads s step ps → All accepts ps) (sound : (s : PlainSequent) (step : PlainStep) (ps : List PlainSequent) → accepts s → leads s step ps → StepIsSound t s ps) where
  module _ (p : SpecifiedProgram) (c : Case) (stands : TaskStandsFor t p c) (d : ℕ) (m : ℤ) (usable : Usable p c.family d m) where
    mutual
      derived : (tree : ProofTree) (s : PlainSequent) (goals : List PlainSequent) → accepts s → Derives leads tree s goals → AllValid p.setting d m goals → Valid p.setting d m s
      derived OpenLeaf s goals ok e given = (subst (AllValid p.setting d m) e given).0
      derived (ByStep step ts) s goals ok e given = sound s step e.0 ok e.1 p c stands d m usable (all_derived ts e.0 goals (keeps s step e.0 ok e.1) e.2 given)

      all_derived : (ts : ProofTrees) (ss goals : List PlainSequent) → All accepts ss → DeriveAll leads ts ss goals → AllValid p.setting d m goals → AllValid p.setting d m ss
      all_derived NoTrees [] goals ok e given = tt
      all_derived NoTrees (s ∷ ss) goals ok e given = absurd e
      all_derived (TreeThen t ts) [] goals ok e given = absurd e
      all_derived (TreeThen t ts) (s ∷ ss) goals ok e given =
          let parts : AllValid p.setting d m (e.0 ++ e.1) = subst (AllValid p.setting d m) e.4 given in
          (derived t s e.0 (first_of accepts s ss ok) e.2 (front_valid p.setting d m e.0 e.1 parts), all_derived ts ss e.1 (rest_of accepts s ss ok) e.3 (back_valid p.setting d m e.0 e.1 parts))

  pub derivations_are_sound : DerivationsAreSound t accepts leads
  derivations_are_sound tree s goals ok e p c stands d m usable given = derived p c stands d m usable tree s goals ok e given
