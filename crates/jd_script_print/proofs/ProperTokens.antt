-- The tokens of a file of scripts are brackets and words.
use Rattle.std.proofs.Common.{List, [], ◌∷◌, ◌++◌, Option, map}
use Rattle.jd_syntax.specs.Sxs.{Bracketed, Atom, Brackets, BracketedList, NoneBracketed, BracketedThen}
use Rattle.jd_bracketed.specs.Tokens.{Close, OpenSquare, CloseSquare}
use Rattle.jd_bracketed.specs.Trees.{spell, spell_all}
use Rattle.jd_model.specs.Sequents.{PlainPlace}
use Rattle.jd_sequent.specs.Trees.{PlainStep, ProofTree, ProofTrees, OpenLeaf, ByStep, NoTrees, TreeThen}
use Rattle.jd_written.proofs.ReadWords.{AllProper, proper_more}
use Rattle.jd_scripts.specs.Scripts.{Inst, PlainProof, ScriptFile, spell_file, spell_insts, spell_place, spell_proof, spell_proofs, spell_step, spell_tree, spell_trees}

mutual
  proper_sx : (x : Bracketed) → AllProper (spell x)
  proper_sx (Atom w) = (tt, tt)
  proper_sx (Brackets xs) = (tt, proper_more (spell_all xs) (Close ∷ []) (proper_sxs xs) (tt, tt))

  proper_sxs : (xs : BracketedList) → AllProper (spell_all xs)
  proper_sxs NoneBracketed = tt
  proper_sxs (BracketedThen x xs) = proper_more (spell x) (spell_all xs) (proper_sx x) (proper_sxs xs)

proper_places : (ps : List (Option PlainPlace)) → AllProper (map spell_place ps)
proper_places [] = tt
proper_places (p ∷ ps) = (tt, proper_places ps)

proper_insts : (is : List Inst) → AllProper (spell_insts is)
proper_insts [] = tt
proper_insts (i ∷ is) = (tt, (tt, proper_more (spell i.1) (Close ∷ spell_insts is) (proper_sx i.1) (tt, proper_insts is)))

proper_step : (p : PlainStep) → AllProper (spell_step p)
proper_step p =
    let insts = proper_more (spell_insts p.insts) (CloseSquare ∷ []) (proper_insts p.insts) (tt, tt) in
    let behind = CloseSquare ∷ OpenSquare ∷ (spell_insts p.insts ++ CloseSquare ∷ []) in
    (tt, (tt, (tt, (tt, proper_more (map spell_place p.assumes) behind (proper_places p.assumes) (tt, (tt, insts))))))

mutual
  proper_tree : (t : ProofTree) → AllProper (spell_tree t)
  proper_tree OpenLeaf = (tt, tt)
  proper_tree (ByStep p ts) =
      proper_more (spell_step p) (spell_trees ts ++ Close ∷ []) (proper_step p) (proper_more (spell_trees ts) (Close ∷ []) (proper_trees ts) (tt, tt))

  proper_trees : (ts : ProofTrees) → AllProper (spell_trees ts)
  proper_trees NoTrees = tt
  proper_trees (TreeThen t ts) = proper_more (spell_tree t) (spell_trees ts) (proper_tree t) (proper_trees ts)

proper_proof : (p : PlainProof) → AllProper (spell_proof p)
proper_proof p = (tt, (tt, (tt, proper_more (spell_tree p.tree) (Close ∷ []) (proper_tree p.tree) (tt, tt))))

proper_proofs : (ps : List PlainProof) → AllProper (spell_proofs ps)
proper_proofs [] = tt
proper_proofs (p ∷ ps) = proper_more (spell_proof p) (spell_proofs ps) (proper_proof p) (proper_proofs ps)

pub proper_file : (f : ScriptFile) → AllProper (spell_file f)
proper_file f = (tt, (tt, (tt, proper_more (spell_proofs f.proofs) (Close ∷ []) (proper_proofs f.proofs) (tt, tt))))
