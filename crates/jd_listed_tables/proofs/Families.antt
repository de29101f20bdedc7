-- The rows do not hang on families.
use Rattle.std.proofs.Common.{◌≡◌, ℕ, suc, List, [], ◌∷◌, ◌++◌, flat_map, Option, Some, None, length, refl, sym, ap, ap₂, ◌∙◌}
use Rattle.std.proofs.lemmas.List.{append_assoc}
use Rattle.std.specs.List.{range_with_len}
use Rattle.jd_syntax.specs.JavaTrees.{JavaUnit}
use Rattle.jd_jclasses.specs.Classes.{parents}
use Rattle.jd_bodies.specs.Declarations.{Declarations}
use Rattle.jd_model.specs.ContractForms.{PlainCase}
use Rattle.jd_model.specs.Programs.{Body, Program}
use Rattle.jd_jml_meaning.specs.JmlCases.{JmlCase}
use Rattle.jd_jml_meaning.specs.JmlContracts.{JmlContract}
use Rattle.jd_programs.specs.Cases.{all_cases, cases_of, constructor_cases, contracts_in, method_cases, numbered, written_at}
use Rattle.jd_programs.specs.Members.{constructors_run, methods_seen}
use Rattle.jd_listed_tables.specs.Listed.{row_at, row_by, rows_of}

-- what is flat of two lists beside one another
pub beside : {X Y : Type 0} (h : X → List Y) (xs ys : List X) → flat_map h (xs ++ ys) ≡ flat_map h xs ++ flat_map h ys
beside h [] ys = refl
beside h (x ∷ xs) ys = ap (λ l. h x ++ l) (beside h xs ys) ∙ sym (append_assoc (h x) (flat_map h xs) (flat_map h ys))

-- lists that are flat of alike ones
pub alike : {X Y Z : Type 0} (h : Y → List Z) (k l : X → List Y) → ((x : X) → flat_map h (k x) ≡ flat_map h (l x)) → (xs : List X) → flat_map h (flat_map k xs) ≡ flat_map h (flat_map l xs)
alike h k l same [] = refl
alike h k l same (x ∷ xs) = beside h (k x) (flat_map k xs) ∙ ap₂ (λ a b. a ++ b) (same x) (alike h k l same xs) ∙ sym (beside h (l x) (flat_map l xs))

module _ (units : List JavaUnit) (lineage : ℕ → List ℕ) (d : Declarations) (p : Program) (fields : ℕ → List ℕ) (f g : ℕ → ℕ) where
  abbrev case_with : ℕ → ℕ → ℕ → ℕ → JmlContract → JmlCase
  case_with family n c m x = record { contract = x; class = c; method = m; number = n; body = m; family = family }

  by_body : (n c m a b : ℕ) (x : JmlContract) (o : Option Body) → row_by p fields (case_with a n c m x) o ≡ row_by p fields (case_with b n c m x) o
  by_body n c m a b x None = refl
  by_body n c m a b x (Some o) = refl

  same_numbered : (n c m : ℕ) (xs : List JmlContract) → rows_of p fields (numbered units lineage d f n c m xs) ≡ rows_of p fields (numbered units lineage d g n c m xs)
  same_numbered n c m [] = refl
  same_numbered n c m (x ∷ xs) = ap₂ (λ a b. a ++ b) (by_body n c m (f m) (g m) x (p.body m)) (same_numbered (suc n) c m xs)

  same_class : (c : ℕ) → rows_of p fields (cases_of units lineage d f c) ≡ rows_of p fields (cases_of units lineage d g c)
  same_class c =
      beside (row_at p fields) (flat_map (constructor_cases units lineage d f c) (constructors_run units lineage c)) (flat_map (method_cases units lineage d f c) (methods_seen units lineage d c))
      ∙ ap₂ (λ a b. a ++ b)
      (alike (row_at p fields) (constructor_cases units lineage d f c) (constructor_cases units lineage d g c) (λ m. same_numbered 1 c m (written_at units lineage d m)) (constructors_run units lineage c))
      (alike (row_at p fields) (method_cases units lineage d f c) (method_cases units lineage d g c) (λ m. same_numbered 1 c m (contracts_in units lineage d c m)) (methods_seen units lineage d c))
      ∙ sym (beside (row_at p fields) (flat_map (constructor_cases units lineage d g c) (constructors_run units lineage c)) (flat_map (method_cases units lineage d g c) (methods_seen units lineage d c)))

  pub same_rows : rows_of p fields (all_cases units lineage d f) ≡ rows_of p fields (all_cases units lineage d g)
  same_rows = alike (row_at p fields) (cases_of units lineage d f) (cases_of units lineage d g) same_class (range_with_len 0 (length (parents units)))
