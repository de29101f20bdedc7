-- How each proof's tree is given to the obligation of its name.
use Rattle.std.specs.Prelude.{◌≡◌, ℕ, List, [], ◌∷◌, map, Option, Some, cond}
use Rattle.std.specs.Str.{bytes_eq}
use Rattle.std.specs.Global.{Vec}
use Rattle.indexmap.specs.IndexSet.{IndexSet}
use Rattle.jd_sequent.specs.Trees.{ProofTree}
use Rattle.jd_scripts.specs.Scripts.{PlainProof}
use Rattle.jd_scripts.specs.Answers.{Proofs}
use Rattle.jd_script.specs.declared.refusal.ScriptRefusal.TheVariants as scripts
use Rattle.jd_proofs.specs.Outcomes.{Outcome, UnknownObligation, outcome}
use Rattle.jd_proofs.specs.declared.refusal.ProofsRefusal.{ProofsRefusal}
use Rattle.jd_proofs.specs.declared.refusal.ProofsRefusal.TheVariants as refusals

abbrev pub names_view : List (Vec ℕ) → List (List ℕ)
names_view names = map (λ n. n.items) names

-- the names that a set holds, in its order
abbrev pub name_list : {S : Type 0} → IndexSet (Vec ℕ) S → List (List ℕ)
name_list s = names_view s.keys

-- the trees for these names, with the proof's at the first place of its name
abbrev pub with_tree : List (List ℕ) → PlainProof → List (Option ProofTree) → List (Option ProofTree)
with_tree [] p ts = ts
with_tree (n ∷ ns) p [] = []
with_tree (n ∷ ns) p (t ∷ ts) = cond (bytes_eq p.name n) (Some p.tree ∷ ts) (t ∷ with_tree ns p ts)

-- what a file with these proofs is for obligations of these names
abbrev pub outcome_with : List (List ℕ) → List PlainProof → Outcome
outcome_with names ps = outcome names (Proofs ps)

-- memory ran out, or a file of that outcome has this unknown name
abbrev pub IsRefusedFor : Outcome → ProofsRefusal → Type 0
IsRefusedFor o (refusals.File e) = e ≡ scripts.NoMemory
IsRefusedFor o (refusals.UnknownObligation name) = o ≡ UnknownObligation name.items
