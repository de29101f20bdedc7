-- The declarations of methods and constructors are those of the program's routines.
use Rattle.std.proofs.Common.{◌≡◌, Bool, ℕ, suc, ◌+◌, List, [], ◌∷◌, ◌++◌, map, take, Option, Some, None, option_map, refl, sym, ap, ap₂, ◌∙◌, slice_get, flat_map}
use Rattle.std.specs.List.{enumerate_from, filter}
use Rattle.std.proofs.lemmas.Grind.{flat_map-append}
use Rattle.std.proofs.lemmas.List.{flat_map_more, map-append}
use Rattle.std.proofs.lemmas.List.Elements.{filter-append}
use Rattle.std.proofs.lemmas.Option.{slice_get-map}
use Rattle.jd_syntax.specs.JavaTypes.{PlainIdentifier, PlainType}
use Rattle.jd_syntax.specs.JavaTrees.{JavaMember, FieldMember, ConstantMember, MethodMember, JavaMethod, JavaUnit}
use Rattle.jd_jclasses.specs.Classes.{DeclaredClass, declared_classes, prelude, prelude_count}
use Rattle.jd_jclasses.specs.Members.{Declared, Kind, FieldOf, RoutineOf, is_routine, of_classes, of_member, of_members}
use Rattle.jd_jclasses.specs.Methods.{routines}
use Rattle.jd_jinfos.specs.Infos.{PlainClassInfo, declared_info, prelude_info}
use Rattle.jd_jml_written.specs.Marked.{PlainCase}
use Rattle.jd_jml_cases.specs.Cases.{cases_of_declared, cases_of_kind, written_at}
use Rattle.jd_jml_cases.specs.Trees.{cases_by, cases_of_tree, method_in, methods_of_info, trees_of}
use Rattle.jd_jml_cases.proofs.Listing.{taken_more}

abbrev routine : Declared → Bool
routine m = is_routine m.kind

abbrev kind_of : Declared → Kind
kind_of m = m.kind

abbrev kinds : List Declared → List Kind
kinds ms = map kind_of (filter routine ms)

kinds_apart : (xs ys : List Declared) → kinds (xs ++ ys) ≡ kinds xs ++ kinds ys
kinds_apart xs ys = ap (map kind_of) (filter-append routine xs ys) ∙ map-append kind_of (filter routine xs) (filter routine ys)

no_routines : (class file place : ℕ) (t : PlainType) (xs : List PlainIdentifier) → kinds (map (λ x. record { class = class; file = file; member = place; name = x; kind = FieldOf t }) xs) ≡ []
no_routines class file place t [] = refl
no_routines class file place t (x ∷ xs) = no_routines class file place t xs

in_member : (class file place : ℕ) (m : JavaMember) → kinds (of_member class file place m) ≡ map RoutineOf (method_in m)
in_member class file place (FieldMember f) = no_routines class file place f.ty.written f.names
in_member class file place (ConstantMember c) = refl
in_member class file place (MethodMember m) = refl

in_members : (class file place : ℕ) (ms : List JavaMember) → kinds (of_members class file place ms) ≡ map RoutineOf (flat_map method_in ms)
in_members class file place [] = refl
in_members class file place (m ∷ ms) =
    kinds_apart (of_member class file place m) (of_members class file (suc place) ms)
    ∙ ap₂ ◌++◌ (in_member class file place m) (in_members class file (suc place) ms)
    ∙ sym (map-append RoutineOf (method_in m) (flat_map method_in ms))

abbrev in_class : DeclaredClass → List JavaMethod
in_class d = flat_map method_in d.tree.members

in_classes : (class : ℕ) (ds : List DeclaredClass) → kinds (of_classes class ds) ≡ map RoutineOf (flat_map in_class ds)
in_classes class [] = refl
in_classes class (d ∷ ds) =
    kinds_apart (of_members class d.file 0 d.tree.members) (of_classes (suc class) ds)
    ∙ ap₂ ◌++◌ (in_members class d.file 0 d.tree.members) (in_classes (suc class) ds)
    ∙ sym (map-append RoutineOf (in_class d) (flat_map in_class ds))

in_infos : (units : List JavaUnit) (n : ℕ) (ds : List DeclaredClass) → flat_map methods_of_info (map (declared_info units) (enumerate_from n ds)) ≡ flat_map in_class ds
in_infos units n [] = refl
in_infos units n (d ∷ ds) = ap (λ l. in_class d ++ l) (in_infos units (n + 1) ds)

module _ (units : List JavaUnit) where
  -- a class that is always there has none
  of_files : trees_of units ≡ flat_map in_class (declared_classes units)
  of_files = flat_map-append methods_of_info (map prelude_info prelude) (map (declared_info units) (enumerate_from prelude_count (declared_classes units))) ∙ in_infos units prelude_count (declared_classes units)

  pub kinds_listed : map kind_of (routines units) ≡ map RoutineOf (trees_of units)
  kinds_listed = in_classes prelude_count (declared_classes units) ∙ ap (map RoutineOf) (sym of_files)

  -- the tree of a routine
  pub kind_at : (m : ℕ) → option_map kind_of (slice_get (routines units) m) ≡ option_map RoutineOf (slice_get (trees_of units) m)
  kind_at m = sym (slice_get-map kind_of (routines units) m) ∙ ap (λ (l : List Kind). slice_get l m) kinds_listed ∙ slice_get-map RoutineOf (trees_of units) m

  abbrev by_kind : ℕ → Option Kind → List PlainCase
  by_kind m None = []
  by_kind m (Some k) = cases_of_kind m k

  by_declared : (m : ℕ) (o : Option Declared) → by_kind m (option_map kind_of o) ≡ cases_of_declared m o
  by_declared m None = refl
  by_declared m (Some r) = refl

  by_tree : (m : ℕ) (o : Option JavaMethod) → cases_of_tree m o ≡ by_kind m (option_map RoutineOf o)
  by_tree m None = refl
  by_tree m (Some t) = refl

  pub written_is : (trees : List JavaMethod) (m : ℕ) → trees ≡ trees_of units → cases_by trees m ≡ written_at units m
  written_is trees m are =
      ap (λ (l : List JavaMethod). cases_by l m) are
      ∙ by_tree m (slice_get (trees_of units) m)
      ∙ ap (by_kind m) (sym (kind_at m))
      ∙ by_declared m (slice_get (routines units) m)

  pub all_written : (trees : List JavaMethod) (ms : List ℕ) → trees ≡ trees_of units → flat_map (cases_by trees) ms ≡ flat_map (written_at units) ms
  all_written trees [] are = refl
  all_written trees (m ∷ ms) are = ap₂ ◌++◌ (written_is trees m are) (all_written trees ms are)

-- ---- those of the classes so far

pub one_more_class : (infos : List PlainClassInfo) (i : ℕ) (info : PlainClassInfo) (done new : List JavaMethod) → slice_get infos i ≡ Some info → done ≡ flat_map methods_of_info (take i infos) → new ≡ done ++ methods_of_info info → new ≡ flat_map methods_of_info (take (i + 1) infos)
one_more_class infos i info done new there so_far is =
    is
    ∙ ap (λ (l : List JavaMethod). l ++ methods_of_info info) so_far
    ∙ flat_map_more methods_of_info [] (take i infos) info
    ∙ ap (flat_map methods_of_info) (sym (taken_more infos i info there))
