-- What the tables of the task's program tell, for each program that has these tables.
use Rattle.std.proofs.Common.{List, None, Option, Some, ap, arith, map, option_map, refl, ◌≡◌, ◌≤◌, ◌∙◌, ℕ}
use Rattle.std.proofs.Math.Logic.{∥∥₁_elim}
use Rattle.std.proofs.lemmas.Option.{slice_get-map, slice_get_past}
use Rattle.std.proofs.lemmas.List.{length-map}
use Rattle.std.specs.Coded.{Coded, Coded-set, code_by, coded_option, coded_ℕ}
use Rattle.std.specs.List.{slice_get}
use Rattle.std.specs.Option.{option_and_then}
use Rattle.jd_ancestry.specs.Walks.{parent_of}
use Rattle.jd_classes.specs.Tables.{AreTables, class_count_of, field_count_of, listed_classes, listed_fields}
use Rattle.jd_classes.specs.declared.classes.Classes.{Classes}
use Rattle.jd_jclasses.specs.Classes.{class_in, class_named}
use Rattle.jd_jinfos.specs.Infos.{PlainClassInfo, PlainFieldInfo, class_infos, field_infos}
use Rattle.jd_jinfos.specs.Views.{class_info_view, field_info_view}
use Rattle.jd_model.specs.Programs.{BooleanType, IntType, ReferenceType, ValueType}
use Rattle.jd_names.specs.Tables.{ClassTables, class_name}
use Rattle.jd_names.proofs.ClassNames.{listed_names}
use Rattle.jd_syntax.specs.Codes.{IntArray, OfClass}
use Rattle.jd_syntax.specs.JavaTrees.{JavaUnit}
use Rattle.jd_task_classes.specs.Classes.{named_in, parents_in, tables_view}
use Rattle.jd_task_classes.specs.Standing.{field_type_in}
use Rattle.jd_tparse.specs.Programs.{AreSomeTables}
use Rattle.jd_told_tables.specs.Types.{class_of_field}

-- values of a type that has a code are the same, if they are for each program
pub same_for_each : (c : Classes) → ∥ AreSomeTables c ∥₁ → {A : Type 0} (a b : A) → Coded A → ((units : List JavaUnit) → AreTables units c → a ≡ b) → a ≡ b
same_for_each c some a b code each = ∥∥₁_elim some (Coded-set code a b) (λ s. each s.0 s.1)

-- ---- types

abbrev coded_as : ValueType → Option (Option (Option ℕ))
coded_as IntType = None
coded_as BooleanType = Some None
coded_as (ReferenceType IntArray) = Some (Some None)
coded_as (ReferenceType (OfClass c)) = Some (Some (Some c))

abbrev coded_back : Option (Option (Option ℕ)) → ValueType
coded_back None = IntType
coded_back (Some None) = BooleanType
coded_back (Some (Some None)) = ReferenceType IntArray
coded_back (Some (Some (Some c))) = ReferenceType (OfClass c)

back : (t : ValueType) → coded_back (coded_as t) ≡ t
back IntType = refl
back BooleanType = refl
back (ReferenceType IntArray) = refl
back (ReferenceType (OfClass c)) = refl

pub coded_type : Coded ValueType
coded_type = code_by (Option (Option (Option ℕ))) (coded_option (coded_option (coded_option coded_ℕ))) coded_as coded_back back

-- ---- classes

module _ (k : Classes) (units : List JavaUnit) (tables : AreTables units k) where
  pub parent_is : (c : ℕ) (info : PlainClassInfo) → slice_get (class_infos units) c ≡ Some info → parent_of (parents_in (tables_view k)) c ≡ info.parent
  parent_is c info there =
      ap (option_and_then (λ p. p))
      (slice_get-map (λ (i : PlainClassInfo). i.parent) (listed_classes k) c
      ∙ ap (option_map (λ (i : PlainClassInfo). i.parent)) (ap (λ (l : List PlainClassInfo). slice_get l c) tables.classes_ ∙ there))

  pub name_is : (name : List ℕ) → named_in (tables_view k) name ≡ class_named units name
  name_is name = ap (λ l. class_in l name) (ap (map class_name) tables.classes_ ∙ listed_names units)

  pub field_is : (f : ℕ) (info : PlainFieldInfo) → slice_get (field_infos units) f ≡ Some info → slice_get (listed_fields k) f ≡ Some info
  field_is f info there = ap (λ (l : List PlainFieldInfo). slice_get l f) tables.fields_ ∙ there

-- past the tables
pub no_parent : (k : Classes) (c : ℕ) → class_count_of k ≤ c → parent_of (parents_in (tables_view k)) c ≡ None
no_parent k c le =
    ap (option_and_then (λ p. p))
    (slice_get-map (λ (i : PlainClassInfo). i.parent) (listed_classes k) c ∙ ap (option_map (λ (i : PlainClassInfo). i.parent)) (slice_get_past (listed_classes k) c (omega (arith, le, length-map k.classes.items class_info_view))))

pub no_type : (t : ClassTables) (k : Classes) (f : ℕ) → field_count_of k ≤ f → field_type_in t (slice_get (listed_fields k) f) ≡ IntType
no_type t k f le = ap (field_type_in t) (slice_get_past (listed_fields k) f (omega (arith, le, length-map k.fields.items field_info_view)))

pub no_class : (k : Classes) (f : ℕ) → field_count_of k ≤ f → option_map class_of_field (slice_get (listed_fields k) f) ≡ None
no_class k f le = ap (option_map class_of_field) (slice_get_past (listed_fields k) f (omega (arith, le, length-map k.fields.items field_info_view)))
