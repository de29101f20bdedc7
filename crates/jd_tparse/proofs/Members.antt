-- A class's own members, as the tables of its program list them.
use Rattle.std.proofs.Common.{◌≡◌, ℕ, ◌<◌, ◌&&◌, nat_eq, List, [], length, map, Option, None, Some, option_map, refl, sym, ap, ◌∙◌, subst, arith}
use Rattle.std.specs.List.{All, find, position_from, slice_get, slice_index_or}
use Rattle.std.proofs.lemmas.List.{get_or-map, length-map}
use Rattle.std.proofs.lemmas.Option.{slice_get-map, slice_get_within}
use Rattle.jd_base.specs.declared.ids.FieldId.{FieldId}
use Rattle.jd_base.specs.declared.ids.MethodId.{MethodId}
use Rattle.jd_syntax.specs.JavaTrees.{JavaUnit}
use Rattle.jd_jclasses.specs.Members.{declared_members}
use Rattle.jd_jclasses.specs.Methods.{fields, routines}
use Rattle.jd_jinfos.specs.Infos.{PlainOwnMembers, class_infos, field_info, is_constructor_of, is_method_of, is_of, method_info, own_of, places_from}
use Rattle.jd_jinfos.specs.Views.{class_info_view, field_info_view, field_number, method_info_view, method_number}
use Rattle.jd_jinfos.specs.declared.info.ClassInfo.{ClassInfo}
use Rattle.jd_classes.specs.Tables.{AreTables, field_count_of, method_count_of}
use Rattle.jd_classes.specs.declared.classes.Classes.{Classes}
use Rattle.jd_tgrammar.specs.NameTables.{member_word}
use Rattle.jd_tforms.specs.Naming.{number_where}
use Rattle.jd_names.specs.Tables.{class_name}
use Rattle.jd_names.specs.Words.{class_called, names_field, names_static}
use Rattle.jd_names.proofs.Seeing.{as_many_listed}
use Rattle.jd_tparse.specs.Called.{field_called, has_name, is_static_of, static_called}
use Rattle.jd_tparse.specs.Programs.{AreSomeTables}
use Rattle.jd_tparse.proofs.Opening.{less_for_each, read_at}
use Rattle.jd_tparse.proofs.Owning.{no_field_of, no_static_of, own_at, own_field, own_static, places_below}

-- ---- a class of this number

module _ (units : List JavaUnit) (class : ℕ) (info : ClassInfo) (there : slice_get (class_infos units) class ≡ Some (class_info_view info)) where
  called : class_called units class ≡ info.name.items
  called = read_at class_name (class_infos units) (class_infos units) class (class_info_view info) [] refl there

  own_members : (class_info_view info).own ≡ own_of (declared_members units) class
  own_members =
      let within = slice_get_within (class_infos units) class (class_info_view info) there in
      own_at units class (class_info_view info) there (omega (arith, within, as_many_listed units))

  pub own_fields : map field_number info.fields.items ≡ places_from 0 (is_of class) (fields units)
  own_fields = ap (λ (o : PlainOwnMembers). o.fields) own_members

  pub own_methods : map method_number info.methods.items ≡ places_from 0 (is_method_of class) (routines units)
  own_methods = ap (λ (o : PlainOwnMembers). o.methods) own_members

  pub own_constructor : option_map method_number info.constructor ≡ position_from (is_constructor_of class) 0 (routines units)
  own_constructor = ap (λ (o : PlainOwnMembers). o.constructor) own_members

  module _ (w name : List ℕ) (same : name ≡ info.name.items) where
    -- where the word does not begin with the class's name and a dot
    module _ (none : (rest : List ℕ) → member_word name rest ≡ w → ⊥) where
      other : (rest : List ℕ) → member_word (class_called units class) rest ≡ w → ⊥
      other rest e = none rest (ap (λ n. member_word n rest) (same ∙ sym called) ∙ e)

      pub no_field_in : None ≡ number_where (λ d. nat_eq class d.class && names_field units w d) (fields units)
      no_field_in = sym (no_field_of units w class other)

      pub no_static_in : None ≡ number_where (λ d. nat_eq class d.class && names_static units w d) (routines units)
      no_static_in = sym (no_static_of units w class other)

    -- where it does
    module _ (rest : List ℕ) (is : member_word name rest ≡ w) (r : Option ℕ) where
      behind : member_word (class_called units class) rest ≡ w
      behind = ap (λ n. member_word n rest) (called ∙ sym same) ∙ is

      pub own_field_of : (own : List FieldId) → own ≡ info.fields.items → r ≡ find (field_called units rest) (map field_number own)
          → r ≡ number_where (λ d. nat_eq class d.class && names_field units w d) (fields units)
      own_field_of own same_own found =
          found
          ∙ ap (λ l. find (field_called units rest) (map field_number l)) same_own
          ∙ ap (find (field_called units rest)) own_fields
          ∙ own_field units w class rest behind (field_called units rest) (λ i d at. ap (has_name rest) (slice_get-map field_info (fields units) i ∙ ap (option_map field_info) at))

      pub own_static_of : (own : List MethodId) → own ≡ info.methods.items → r ≡ find (static_called units rest) (map method_number own)
          → r ≡ number_where (λ d. nat_eq class d.class && names_static units w d) (routines units)
      own_static_of own same_own found =
          found
          ∙ ap (λ l. find (static_called units rest) (map method_number l)) same_own
          ∙ ap (find (static_called units rest)) own_methods
          ∙ own_static units w class rest behind (static_called units rest) (λ i d at. ap (is_static_of rest) (slice_get-map method_info (routines units) i ∙ ap (option_map method_info) at))

-- ---- their numbers

abbrev IsAt : Classes → ℕ → ClassInfo → Type 0
IsAt c class info = (units : List JavaUnit) → AreTables units c → slice_get (class_infos units) class ≡ Some (class_info_view info)

numbers_below : {X : Type 0} (number : X → ℕ) (xs : List X) (ns : List ℕ) (count : ℕ) → map number xs ≡ ns → All (λ n. n < count) ns → (k : ℕ) (d : X) → k < length xs → number (slice_index_or xs k d) < count
numbers_below number xs ns count same all k d lt =
    subst (λ n. n < count) (get_or-map number xs k d (number d) lt)
    (subst (All (λ n. n < count)) (sym same) all k (number d) (omega (arith, lt, length-map xs number)))

module _ (c : Classes) (some : ∥ AreSomeTables c ∥₁) (class : ℕ) (info : ClassInfo) (there : IsAt c class info) where
  fields_below : (units : List JavaUnit) → AreTables units c → (k : ℕ) (d : FieldId) → k < length info.fields.items → field_number (slice_index_or info.fields.items k d) < field_count_of c
  fields_below units tables =
      numbers_below field_number info.fields.items (places_from 0 (is_of class) (fields units)) (field_count_of c) (own_fields units class info (there units tables)) (λ i e le.
      let below = places_below (is_of class) 0 (fields units) i e le in
      omega (arith, below, length-map (fields units) field_info, ap length tables.fields_, length-map c.fields.items field_info_view))

  pub fields_within : (own : List FieldId) → own ≡ info.fields.items → All (λ f. f.0 < field_count_of c) own
  fields_within own same =
      subst (All (λ (f : FieldId). f.0 < field_count_of c)) (sym same) (λ k d lt. less_for_each c some _ _ (λ units tables. fields_below units tables k d lt))

  methods_below : (units : List JavaUnit) → AreTables units c → (k : ℕ) (d : MethodId) → k < length info.methods.items → method_number (slice_index_or info.methods.items k d) < method_count_of c
  methods_below units tables =
      numbers_below method_number info.methods.items (places_from 0 (is_method_of class) (routines units)) (method_count_of c) (own_methods units class info (there units tables)) (λ i e le.
      let below = places_below (is_method_of class) 0 (routines units) i e le in
      omega (arith, below, length-map (routines units) method_info, ap length tables.methods_, length-map c.methods.items method_info_view))

  pub methods_within : (own : List MethodId) → own ≡ info.methods.items → All (λ m. m.0 < method_count_of c) own
  methods_within own same =
      subst (All (λ (m : MethodId). m.0 < method_count_of c)) (sym same) (λ k d lt. less_for_each c some _ _ (λ units tables. methods_below units tables k d lt))
