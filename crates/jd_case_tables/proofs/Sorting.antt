-- The sorts of fields by the tables are those that the program has.
use Rattle.std.proofs.Common.{◌≡◌, ℕ, true, List, [], ◌∷◌, ◌++◌, map, flat_map, Option, Some, None, option_map, refl, sym, ap, ap₂, ◌∙◌, slice_get}
use Rattle.std.proofs.lemmas.List.{map-append}
use Rattle.std.proofs.lemmas.Option.{slice_get-map}
use Rattle.jd_base.specs.declared.sort.Sort.{Sort}
use Rattle.jd_syntax.specs.JavaTrees.{JavaUnit}
use Rattle.jd_jclasses.specs.Members.{Declared, Kind, FieldOf, ConstantOf, RoutineOf, declared_members, is_field}
use Rattle.jd_jclasses.specs.Methods.{fields}
use Rattle.jd_jinfos.specs.Infos.{field_info, variable_type}
use Rattle.jd_jseen.proofs.Routines.{kept}
use Rattle.jd_bodies.specs.Declarations.{Declarations, type_by}
use Rattle.jd_bodies.specs.Variables.{sort_of}
use Rattle.jd_bodies.specs.declared.value.ValueType.{ValueType}
use Rattle.jd_bodies.specs.declared.value.ValueType.TheVariants as types
use Rattle.jd_model.specs.Programs.{Program, field_sort, type_sort}
use Rattle.jd_programs.specs.Members.{own}
use Rattle.jd_programs.specs.Programs.{HasFields}
use Rattle.jd_specifications.specs.WrittenCases.{model_type}
use Rattle.jd_case_tables.specs.Fielded.{all_sorted, sort_by, sorted}

type_sorted : (d : Declarations) (t : ValueType) → type_sort (model_type d t) ≡ sort_of t
type_sorted d types.Int = refl
type_sorted d types.Boolean = refl
type_sorted d types.Null = refl
type_sorted d types.IntArray = refl
type_sorted d (types.Class c) = refl
type_sorted d types.Missing = refl

module _ (units : List JavaUnit) (d : Declarations) (p : Program) (has : HasFields units d p) where
  by_declared : (f : ℕ) (o : Option Declared) → slice_get (fields units) f ≡ o → sort_by units d (option_map field_info o) ≡ field_sort p f
  by_declared f None there = sym (ap type_sort (has.no_type f there))
  by_declared f (Some r) there = by r.kind refl (kept (λ (x : Declared). is_field x.kind) (declared_members units) f r there).passes
    where
      by : (k : Kind) → r.kind ≡ k → is_field k ≡ true → sort_of (type_by d.class_named (variable_type k)) ≡ field_sort p f
      by (FieldOf t) is field = sym (ap type_sort (has.types f r t there is) ∙ type_sorted d (type_by d.class_named t))
      by (ConstantOf n) is field = absurd cc
      by (RoutineOf m) is field = absurd cc

  sort_is : (f : ℕ) → sorted units d f ≡ (f, field_sort p f)
  sort_is f = ap (λ (s : Sort). (f, s)) (ap (sort_by units d) (slice_get-map field_info (fields units) f) ∙ by_declared f (slice_get (fields units) f) refl)

  each : (fs : List ℕ) → map (sorted units d) fs ≡ map (λ f. (f, field_sort p f)) fs
  each [] = refl
  each (f ∷ fs) = ap₂ ◌∷◌ (sort_is f) (each fs)

  pub fields_sorted : (cs : List ℕ) → all_sorted units d cs ≡ map (λ f. (f, field_sort p f)) (flat_map (λ a. (own units a).fields) cs)
  fields_sorted [] = refl
  fields_sorted (c ∷ cs) = ap₂ ◌++◌ (each (own units c).fields) (fields_sorted cs) ∙ sym (map-append (λ f. (f, field_sort p f)) (own units c).fields (flat_map (λ a. (own units a).fields) cs))
