-- What is written for a file of proof scripts, part after part; of a tree its nodes in preorder, with the steps whose trees are not
-- all written yet.
use Rattle.std.specs.Prelude.{ℕ, zero, suc, ◌-◌, nat_lt, cond, List, [], ◌∷◌, Option, Some, None, codes}
use Rattle.jd_syntax.specs.Sxs.{Bracketed, Atom, Brackets, BracketedList, NoneBracketed, BracketedThen}
use Rattle.jd_bracketed.specs.Tokens.{Open, Close, OpenSquare, CloseSquare, Word}
use Rattle.jd_model.specs.Sequents.{PlainPlace}
use Rattle.jd_sequent.specs.Trees.{PlainStep, PlainNode}
use Rattle.jd_written.specs.Written.{Text, empty_text, write}
use Rattle.jd_scripts.specs.Scripts.{Inst, spell_place}

abbrev mutual
  pub put_sx : Text → Bracketed → Text
  put_sx text (Atom w) = write text (Word w)
  put_sx text (Brackets xs) = write (put_all (write text Open) xs) Close

  pub put_all : Text → BracketedList → Text
  put_all text NoneBracketed = text
  put_all text (BracketedThen x xs) = put_all (put_sx text x) xs

abbrev pub put_places : Text → List (Option PlainPlace) → Text
put_places text [] = text
put_places text (p ∷ ps) = put_places (write text (spell_place p)) ps

abbrev pub put_insts : Text → List Inst → Text
put_insts text [] = text
put_insts text (i ∷ is) = put_insts (write (put_sx (write (write text Open) (Word i.0)) i.1) Close) is

-- a step, up to its trees
abbrev pub put_step : Text → PlainStep → Text
put_step text p =
    write (put_insts (write (write (put_places (write (write (write (write text Open) (Word p.rule)) (spell_place p.place)) OpenSquare) p.assumes) CloseSquare) OpenSquare) p.insts) CloseSquare

-- ---- nodes in preorder: the text, and how many trees of each open step are still to be written, the innermost step first

abbrev pub OpenSteps : Type 0
OpenSteps = Text × List ℕ

-- a tree ends, and so does each step of which it is the last tree
abbrev pub end_tree : Text → List ℕ → OpenSteps
end_tree text [] = (text, [])
end_tree text (n ∷ left) = cond (nat_lt 1 n) (text, (n - 1) ∷ left) (end_tree (write text Close) left)

-- so many trees of a step are to be written
abbrev pub open_step : Text → List ℕ → ℕ → OpenSteps
open_step text left zero = end_tree (write text Close) left
open_step text left (suc n) = (text, suc n ∷ left)

abbrev pub put_node : Text → List ℕ → Option PlainStep → ℕ → OpenSteps
put_node text left None c = end_tree (write text (Word (codes "-"))) left
put_node text left (Some p) c = open_step (put_step text p) left c

unfoldable pub put_nodes : OpenSteps → List PlainNode → OpenSteps
put_nodes s [] = s
put_nodes s (n ∷ ns) = put_nodes (put_node s.0 s.1 n.step n.children) ns

-- ---- files

-- a name and the nodes of a tree
abbrev pub NamedNodes : Type 0
NamedNodes = List ℕ × List PlainNode

abbrev pub put_proof : Text → NamedNodes → Text
put_proof text p = write (put_nodes (write (write (write text Open) (Word (codes "proof"))) (Word p.0), []) p.1).0 Close

abbrev pub put_proofs : Text → List NamedNodes → Text
put_proofs text [] = text
put_proofs text (p ∷ ps) = put_proofs (put_proof text p) ps

abbrev pub put_file : List NamedNodes → Text
put_file ps = write (put_proofs (write (write (write empty_text Open) (Word (codes "jdl"))) (Word (codes "1"))) ps) Close
