-- Which proof of a file of scripts each obligation has, by the names of both.
use Rattle.std.specs.Prelude.{◌≡◌, ℕ, List, [], ◌∷◌, map, Option, Some, None, cond}
use Rattle.std.specs.List.{list_any}
use Rattle.std.specs.Str.{bytes_eq}
use Rattle.jd_bracketed.specs.Tokens.{Placed}
use Rattle.jd_sequent.specs.Trees.{ProofTree}
use Rattle.jd_scripts.specs.Scripts.{PlainProof}
use Rattle.jd_scripts.specs.Answers.{Answer, Proofs, IsAnswer, limits_of, most_levels, most_steps}

-- the tree of the first proof of that name
abbrev pub tree_in : List PlainProof → List ℕ → Option ProofTree
tree_in [] name = None
tree_in (p ∷ ps) name = cond (bytes_eq p.name name) (Some p.tree) (tree_in ps name)

-- the name of the first proof that is of no obligation of these names
abbrev pub first_unknown : List (List ℕ) → List PlainProof → Option (List ℕ)
first_unknown names [] = None
first_unknown names (p ∷ ps) = cond (list_any (bytes_eq p.name) names) (first_unknown names ps) (Some p.name)

-- what a text is for obligations of some names: a file with a proof or none for each; no file of scripts; or a file in which
-- this name is the first that is none of an obligation
pub data Outcome : Type 0 where
  Trees : List (Option ProofTree) → Outcome
  NoFile : Answer → Outcome
  UnknownObligation : List ℕ → Outcome

abbrev pub outcome_of : List (List ℕ) → List PlainProof → Option (List ℕ) → Outcome
outcome_of names ps None = Trees (map (tree_in ps) names)
outcome_of names ps (Some name) = UnknownObligation name

abbrev pub outcome : List (List ℕ) → Answer → Outcome
outcome names (Proofs ps) = outcome_of names ps (first_unknown names ps)
outcome names a = NoFile a

-- the text with these tokens is this for obligations of these names
pub record IsOutcome (names : List (List ℕ)) (tokens : List Placed) (o : Outcome) : Type 0 where
  pub answer : Answer
  pub answered : IsAnswer (limits_of most_steps most_levels) tokens answer
  pub is : o ≡ outcome names answer
