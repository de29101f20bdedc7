-- Unions of location sets have as many levels as sets.
use Rattle.std.proofs.Common.{◌≡◌, ◌<◌, ◌≤◌, ℕ, suc, List, [], ◌∷◌, length, map, IfOk, Ok, Err, Result, subst, arith}
use Rattle.std.proofs.lemmas.List.{length-map}
use Rattle.jd_base.specs.declared.memory.NoMemory.{NoMemory}
use Rattle.jd_term.specs.TermSizes.{loc_depth}
use Rattle.jd_model.specs.Programs.{Program}
use Rattle.jd_jml_formulas.specs.declared.whole.Unmade.{Unmade}
use Rattle.jd_jml_meaning.specs.Meaning.{When}
use Rattle.jd_jml_meaning.specs.Resolved as jml
use Rattle.jd_jml_meaning.specs.Resolved.{JmlLocation}
use Rattle.jd_jml_meaning.specs.Translation.{Spelling, location, locations, union_of}

-- what holds of what was made, if memory sufficed
pub handed_on : {A : Type 0} (P : A → Type 0) (r : Result A NoMemory) (k : Result A Unmade) → IfOk k (λ x. r ≡ Ok x) → IfOk r P → IfOk k P
handed_on P r (Ok x) is told = subst (λ i. IfOk i P) is told
handed_on P r (Err e) is told = tt

module _ (p : Program) (sp : Spelling) (t : When) where
  some_level : (l : JmlLocation) → 1 ≤ loc_depth (location p sp t l)
  some_level jml.Nothing = omega arith
  some_level jml.Everything = omega arith
  some_level (jml.FieldLocation e f) = omega arith
  some_level (jml.AllFields e) = omega arith
  some_level (jml.Element a i) = omega arith
  some_level (jml.Elements a i j) = omega arith
  some_level (jml.AllElements a) = omega arith

  levels : (l : JmlLocation) (ls : List JmlLocation) → suc (length ls) ≤ loc_depth (union_of p sp t l ls)
  levels l [] = some_level l
  levels l (m ∷ ls) = let below = levels m ls in omega (arith, below)

  union_levels : (ls : List JmlLocation) → length ls ≤ loc_depth (locations p sp t ls)
  union_levels [] = omega arith
  union_levels (l ∷ ls) = levels l ls

  pub many_sets : {X : Type 0} (f : X → JmlLocation) (xs : List X) (n : ℕ) → n < length xs → n < loc_depth (locations p sp t (map f xs))
  many_sets f xs n lt =
      let many : length (map f xs) ≡ length xs = length-map xs f in
      let below = union_levels (map f xs) in
      omega (arith, lt, many, below)
