-- Classes and constructors by their names.
use Rattle.std.proofs.Common.{◌≡◌, ℕ, ◌<◌, Bool, true, false, cond, ◌&&◌, nat_eq, List, [], length, map, Option, None, Some, IfSome, option_map, refl, sym, ap, ◌∙◌, arith}
use Rattle.std.specs.List.{slice_get}
use Rattle.std.specs.Str.{bytes_eq}
use Rattle.std.proofs.lemmas.Bool.{eq-eqb}
use Rattle.std.proofs.lemmas.List.{length-map}
use Rattle.std.proofs.lemmas.Option.{same_Some, slice_get-get_or}
use Rattle.jd_base.specs.declared.ids.ClassId.{ClassId}
use Rattle.jd_syntax.specs.JavaTrees.{JavaUnit}
use Rattle.jd_syntax.specs.Names.{Name}
use Rattle.jd_jclasses.specs.Classes.{class_named, class_names, parents}
use Rattle.jd_jclasses.specs.Members.{Declared, is_constructor as constructs}
use Rattle.jd_jclasses.specs.Methods.{routines}
use Rattle.jd_jclasses.specs.Refusals.{AreClasses}
use Rattle.jd_jinfos.specs.Infos.{class_infos, is_constructor_of}
use Rattle.jd_jinfos.specs.Views.{class_info_view, method_number}
use Rattle.jd_jinfos.specs.declared.info.ClassInfo.{ClassInfo}
use Rattle.jd_classes.specs.Tables.{AreTables}
use Rattle.jd_classes.specs.declared.classes.Classes.{Classes}
use Rattle.jd_tgrammar.specs.NameTables.{NameTable}
use Rattle.jd_tforms.specs.Naming.{class_of, constructor_of, is_constructor, number_where}
use Rattle.jd_tforms.specs.Shapes.{is_name}
use Rattle.jd_tforms.proofs.Somes.{bytes_same, guarded, same_bytes}
use Rattle.jd_names.specs.Tables.{class_name, name_table, program_tables}
use Rattle.jd_names.specs.Words.{class_called, names_constructor}
use Rattle.jd_names.proofs.ClassNames.{found_name, listed_names, named_is, one_name}
use Rattle.jd_names.proofs.Firsts.{first_place, first_same, none_first, none_passes}
use Rattle.jd_names.proofs.Letters.{same_byte, where_name}
use Rattle.jd_names.proofs.Members.{constructors_named, routine_class}
use Rattle.jd_names.proofs.Seeing.{as_many_listed}
use Rattle.jd_tparse.specs.Programs.{AreSomeTables, tables_of}
use Rattle.jd_tparse.proofs.Members.{own_constructor}
use Rattle.jd_tparse.proofs.Opening.{less_for_each, tables_are}

-- a number that is below another for each program
pub within_for_each : (c : Classes) → ∥ AreSomeTables c ∥₁ → (count : ℕ) (r : Option ClassId) → ((units : List JavaUnit) → AreTables units c → IfSome r (λ k. k.0 < count)) → IfSome r (λ k. k.0 < count)
within_for_each c some count None each = tt
within_for_each c some count (Some k) each = less_for_each c some k.0 count each

pub class_is : (c : Classes) (units : List JavaUnit) (tables : AreTables units c) (vs : List Name) (w : List ℕ) → is_name w ≡ true → class_of (name_table (tables_of c) vs) w ≡ class_named units w
class_is c units tables vs w is =
    ap (λ t. class_of (name_table t vs) w) (tables_are c units tables)
    ∙ where_name w (number_where (λ n. bytes_eq n w) (map class_name (class_infos units))) is
    ∙ ap (number_where (λ n. bytes_eq n w)) (listed_names units)
    ∙ sym (named_is units w)

same_tests : (a b : Bool) → (a ≡ true → b ≡ true) → (b ≡ true → a ≡ true) → a ≡ b
same_tests true b to from = sym (to refl)
same_tests false true to from = from refl
same_tests false false to from = refl

module _ (units : List JavaUnit) (are : AreClasses units) (vs : List Name) (w : List ℕ) where
  abbrev Names : NameTable
  Names = name_table (program_tables units) vs

  listed_name : (k : ℕ) → k < length (parents units) → slice_get (class_names units) k ≡ Some (class_called units k)
  listed_name k lt =
      ap (λ (l : List (List ℕ)). slice_get l k) (sym (listed_names units))
      ∙ slice_get-get_or (map class_name (class_infos units)) k [] (omega (arith, lt, as_many_listed units, length-map (class_infos units) class_name))

  module _ (c : ℕ) (found : number_where (λ n. bytes_eq n w) (class_names units) ≡ Some c) where
    of_class : (i : ℕ) (d : Declared) → slice_get (routines units) i ≡ Some d → nat_eq c d.class ≡ bytes_eq (class_called units d.class) w
    of_class i d there =
        let named = listed_name d.class (routine_class units i d there) in
        same_tests (nat_eq c d.class) (bytes_eq (class_called units d.class) w)
        (λ same.
        let called = same_Some (class_called units d.class) w (sym named ∙ ap (slice_get (class_names units)) (sym (same_byte c d.class same)) ∙ found_name units w c found) in
        ap (λ n. bytes_eq n w) called ∙ bytes_same w)
        (λ same.
        eq-eqb c d.class (one_name units are c d.class w (found_name units w c found) (named ∙ ap Some (same_bytes (class_called units d.class) w same))))

    constructor_of_class : number_where (is_constructor_of c) (routines units) ≡ number_where (names_constructor units w) (routines units)
    constructor_of_class = first_same (is_constructor_of c) (names_constructor units w) (routines units) (λ i d there. ap (λ b. constructs d.kind && b) (of_class i d there))

  pub constructor_is : (c : ℕ) (info : ClassInfo) → class_of Names w ≡ Some c → slice_get (class_infos units) c ≡ Some (class_info_view info) → option_map method_number info.constructor ≡ constructor_of Names w
  constructor_is c info is there =
      let g = guarded (is_name w) (number_where (λ n. bytes_eq n w) Names.classes) c is in
      let found = sym (ap (number_where (λ n. bytes_eq n w)) (listed_names units)) ∙ g.1 in
      own_constructor units c info there
      ∙ first_place (is_constructor_of c) (routines units)
      ∙ constructor_of_class c found
      ∙ sym (constructors_named units vs w)
      ∙ sym (where_name w (number_where (is_constructor Names w) Names.routines) g.0)

  both_fail : (a b : Bool) → b ≡ false → (a && b) ≡ false
  both_fail true b e = e
  both_fail false b e = refl

  no_constructor : number_where (λ n. bytes_eq n w) (class_names units) ≡ None → number_where (is_constructor Names w) Names.routines ≡ None
  no_constructor none =
      constructors_named units vs w
      ∙ none_first (names_constructor units w) (routines units) (λ i d there.
      both_fail (constructs d.kind) (bytes_eq (class_called units d.class) w)
      (none_passes (λ n. bytes_eq n w) (class_names units) none d.class (class_called units d.class) (listed_name d.class (routine_class units i d there))))

  pub no_constructor_is : class_of Names w ≡ None → None ≡ constructor_of Names w
  no_constructor_is is = by (is_name w) is
    where
      by : (b : Bool) → cond b (number_where (λ n. bytes_eq n w) Names.classes) None ≡ None → None ≡ cond b (number_where (is_constructor Names w) Names.routines) None
      by true none = sym (no_constructor (sym (ap (number_where (λ n. bytes_eq n w)) (listed_names units)) ∙ none))
      by false none = refl
