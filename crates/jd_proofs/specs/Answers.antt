-- What the code answers.
use Rattle.std.specs.Prelude.{ℕ, List, map, Option, option_map}
use Rattle.jd_bracketed.specs.Tokens.{Placed}
use Rattle.jd_sequent.specs.Trees.{ProofTree, tree_of}
use Rattle.jd_sequent.specs.Steps.{node_view}
use Rattle.jd_sequent.specs.declared.script.ScriptTree.{ScriptTree}
use Rattle.jd_scripts.specs.Answers.{limits_of, most_levels, most_steps}
use Rattle.jd_script.specs.Answers.{IsRefused}
use Rattle.jd_proofs.specs.Outcomes.{IsOutcome, UnknownObligation}
use Rattle.jd_proofs.specs.declared.refusal.ProofsRefusal.{ProofsRefusal}
use Rattle.jd_proofs.specs.declared.refusal.ProofsRefusal.TheVariants as refusals

abbrev pub tree_view : ScriptTree → ProofTree
tree_view t = tree_of (map node_view t.nodes.items)

abbrev pub trees_view : List (Option ScriptTree) → List (Option ProofTree)
trees_view ts = map (option_map tree_view) ts

-- want of memory, which the refusal of a file may be, says nothing of the text
abbrev pub IsUnread : List (List ℕ) → List Placed → ProofsRefusal → Type 0
IsUnread names tokens (refusals.File e) = IsRefused (limits_of most_steps most_levels) tokens e
IsUnread names tokens (refusals.UnknownObligation name) = IsOutcome names tokens (UnknownObligation name.items)
