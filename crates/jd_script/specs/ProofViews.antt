-- What a list of proofs and their names stand for.
use Rattle.std.specs.Prelude.{◌≡◌, ℕ, List, map}
use Rattle.std.specs.List.{list_any}
use Rattle.std.specs.Str.{bytes_eq}
use Rattle.std.specs.Global.{Vec}
use Rattle.indexmap.specs.IndexSet.{IndexSet}
use Rattle.jd_scripts.specs.Scripts.{PlainProof, names_of}
use Rattle.jd_scripts.specs.ProofViews.{proof_view}
use Rattle.jd_script.specs.declared.proofs.Proofs.{Proofs}

-- the same names, in any order
abbrev pub AreNames : List (List ℕ) → List (List ℕ) → Type 0
AreNames set names = (name : List ℕ) → list_any (bytes_eq name) set ≡ list_any (bytes_eq name) names

-- the names that a set holds, in its order
abbrev pub name_list : {S : Type 0} → IndexSet (Vec ℕ) S → List (List ℕ)
name_list s = map (λ name. name.items) s.keys

abbrev pub proofs_view : Proofs → List PlainProof
proofs_view p = map proof_view p.done.items

-- the set holds the names of the proofs
abbrev pub AreHashed : Proofs → Type 0
AreHashed p = AreNames (name_list p.names) (names_of (proofs_view p))
