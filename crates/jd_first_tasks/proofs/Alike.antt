-- The cases of a program are alike but for their families, whatever families its methods have.
use Rattle.std.proofs.Common.{◌≡◌, ℕ, suc, List, [], ◌∷◌, ◌++◌, flat_map, Option, Some, None, option_map, length, refl, sym, ap, ap₂, ◌∙◌}
use Rattle.std.specs.List.{range_with_len, slice_get}
use Rattle.std.proofs.lemmas.Option.{same_Some, none-some}
use Rattle.jd_syntax.specs.JavaTrees.{JavaUnit}
use Rattle.jd_jclasses.specs.Classes.{parents}
use Rattle.jd_bodies.specs.Declarations.{Declarations}
use Rattle.jd_jml_meaning.specs.JmlCases.{JmlCase}
use Rattle.jd_jml_meaning.specs.JmlContracts.{JmlContract}
use Rattle.jd_programs.specs.Cases.{all_cases, cases_of, constructor_cases, contracts_in, method_cases, numbered, written_at}
use Rattle.jd_programs.specs.Members.{constructors_run, methods_seen}
use Rattle.jd_listed_tables.proofs.Families.{alike, beside}

abbrev pub without_family : JmlCase → JmlCase
without_family c = record { contract = c.contract; class = c.class; method = c.method; number = c.number; body = c.body; family = 0 }

abbrev marked : JmlCase → List JmlCase
marked c = without_family c ∷ []

module _ (units : List JavaUnit) (lineage : ℕ → List ℕ) (d : Declarations) (f g : ℕ → ℕ) where
  same_numbered : (n c m : ℕ) (xs : List JmlContract) → flat_map marked (numbered units lineage d f n c m xs) ≡ flat_map marked (numbered units lineage d g n c m xs)
  same_numbered n c m [] = refl
  same_numbered n c m (x ∷ xs) = ap (λ l. record { contract = x; class = c; method = m; number = n; body = m; family = 0 } ∷ l) (same_numbered (suc n) c m xs)

  same_class : (c : ℕ) → flat_map marked (cases_of units lineage d f c) ≡ flat_map marked (cases_of units lineage d g c)
  same_class c =
      beside marked (flat_map (constructor_cases units lineage d f c) (constructors_run units lineage c)) (flat_map (method_cases units lineage d f c) (methods_seen units lineage d c))
      ∙ ap₂ (λ a b. a ++ b)
      (alike marked (constructor_cases units lineage d f c) (constructor_cases units lineage d g c) (λ m. same_numbered 1 c m (written_at units lineage d m)) (constructors_run units lineage c))
      (alike marked (method_cases units lineage d f c) (method_cases units lineage d g c) (λ m. same_numbered 1 c m (contracts_in units lineage d c m)) (methods_seen units lineage d c))
      ∙ sym (beside marked (flat_map (constructor_cases units lineage d g c) (constructors_run units lineage c)) (flat_map (method_cases units lineage d g c) (methods_seen units lineage d c)))

  same_cases : flat_map marked (all_cases units lineage d f) ≡ flat_map marked (all_cases units lineage d g)
  same_cases = alike marked (cases_of units lineage d f) (cases_of units lineage d g) same_class (range_with_len 0 (length (parents units)))

  -- the first of them
  pub same_first : option_map without_family (slice_get (all_cases units lineage d f) 0) ≡ option_map without_family (slice_get (all_cases units lineage d g) 0)
  same_first = sym (first_of (all_cases units lineage d f)) ∙ ap (λ l. slice_get l 0) same_cases ∙ first_of (all_cases units lineage d g)
    where
      first_of : (l : List JmlCase) → slice_get (flat_map marked l) 0 ≡ option_map without_family (slice_get l 0)
      first_of [] = refl
      first_of (c ∷ l) = refl

-- what is alike is there
pub alike_there : (o : Option JmlCase) (x : JmlCase) → option_map without_family o ≡ Some x → (c : JmlCase) × (o ≡ Some c) × (without_family c ≡ x)
alike_there None x e = absurd (none-some x e)
alike_there (Some c) x e = (c, refl, same_Some (without_family c) x e)
