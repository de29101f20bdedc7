-- What is told of the files' classes stands for each program that they mean.
use Rattle.std.proofs.Common.{◌≡◌, ◌<◌, ℕ, true, List, map, length, reverse, codes, Option, Some, None, option_map, refl, sym, ap, subst, ◌∙◌, arith}
use Rattle.std.specs.List.{slice_get}
use Rattle.std.specs.Option.{option_and_then, unwrap_or}
use Rattle.std.proofs.lemmas.Option.{same_Some, none-some, slice_get-map, slice_get_within}
use Rattle.jd_ancestry.specs.Depths.{IsDepths}
use Rattle.jd_ancestry.specs.Laws.{AboveIsTransitive}
use Rattle.jd_syntax.specs.JavaTypes.{PlainType, IntType, BooleanType, IntArrayType, NamedType}
use Rattle.jd_syntax.specs.JavaTrees.{JavaResult, Void, Gives, OfConstructor, JavaUnit}
use Rattle.jd_jclasses.specs.Classes.{class_in, class_named, parents}
use Rattle.jd_jclasses.specs.Laws.{OneMethod}
use Rattle.jd_jclasses.specs.Members.{Declared, Kind, FieldOf, ConstantOf, RoutineOf, declared_members, is_field, result_of, result_type}
use Rattle.jd_jclasses.specs.Methods.{fields, routines}
use Rattle.jd_jclasses.specs.Refusals.{AreClasses}
use Rattle.jd_jinfos.specs.Infos.{PlainMethodInfo, class_infos, field_info, field_infos, method_info, method_infos, variable_type}
use Rattle.jd_classes.specs.Fields.{IsLineage}
use Rattle.jd_model.specs.Programs as model
use Rattle.jd_model.specs.Programs.{Body, Program}
use Rattle.jd_model.specs.Cases.{Case}
use Rattle.jd_bodies.specs.Declarations.{Declarations, class_type, type_by}
use Rattle.jd_bodies.specs.Variables.{sort_of as sort_value}
use Rattle.jd_jml_meaning.specs.JmlCases.{JmlProgram, specified}
use Rattle.jd_specifications.specs.WrittenCases.{model_type}
use Rattle.jd_programs.specs.Programs as programs
use Rattle.jd_programs.specs.Programs.{IsProgram, body_of_declared, body_of_kind, body_with, declared_along}
use Rattle.jd_declared.proofs.Lists.{at_place, in_filter}
use Rattle.jd_names.specs.Tables.{ClassTables, program_tables, sees, sort_of}
use Rattle.jd_names.proofs.ClassNames.{listed_names}
use Rattle.jd_names.proofs.Seeing.{as_many_listed, listed_parents, one_sees, sees_is}
use Rattle.jd_task_classes.specs.Classes.{PlainClasses, kind_of, methods_of, named_in, of_routine, parents_in, result_of as sort_given}
use Rattle.jd_task_classes.specs.Methods.{IsKindOf, IsResultSort, MethodOfCase, StaticMethod}
use Rattle.jd_task_classes.specs.Standing.{AreItsClasses, AreItsFields, AreItsMethods, ClassesStandFor, declared_among, field_type_in, kind_named, result_sort, type_in}
use Rattle.jd_program_laws.specs.Laws.{ConstructorsAreNotStatic}
use Rattle.jd_program_laws.specs.TaskClasses.{AreClassesOf, ClassesOfProgramsStand}
use Rattle.jd_program_laws.proofs.Calls.{case_told, resolved}
use Rattle.jd_program_laws.proofs.ClassTables.{decided}
use Rattle.jd_program_laws.proofs.OneFamilies.{one_number, reached_too}

-- what stands at a place of a mapped list
record Mapped {A B : Type 0} (f : A → B) (xs : List A) (i : ℕ) (y : B) : Type 0 where
  from : A
  there : slice_get xs i ≡ Some from
  is : y ≡ f from

unmapped : {A B : Type 0} (f : A → B) (xs : List A) (i : ℕ) (y : B) → slice_get (map f xs) i ≡ Some y → Mapped f xs i y
unmapped {A = A} {B = B} f xs i y e = by (slice_get xs i) refl
  where
    by : (o : Option A) → slice_get xs i ≡ o → Mapped f xs i y
    by None none = absurd (none-some y (sym (slice_get-map f xs i ∙ ap (option_map f) none) ∙ e))
    by (Some x) some = record { from = x; there = some; is = sym (same_Some (f x) y (sym (slice_get-map f xs i ∙ ap (option_map f) some) ∙ e)) }

mapped : {A B : Type 0} (f : A → B) (xs : List A) (i : ℕ) (x : A) → slice_get xs i ≡ Some x → slice_get (map f xs) i ≡ Some (f x)
mapped f xs i x e = slice_get-map f xs i ∙ ap (option_map f) e

-- ---- classes

module _ (units : List JavaUnit) where
  named_is : (name : List ℕ) → named_in (program_tables units) name ≡ class_named units name
  named_is name = ap (λ names. class_in names name) (listed_names units)

  parents_are : parents_in (program_tables units) ≡ parents units
  parents_are = listed_parents units

  classes_fit : (p : Program) → programs.HasClasses units p → AreItsClasses (program_tables units) p
  classes_fit p h = record {
    superclasses = λ c lt. let many = as_many_listed units in subst (λ ps. IsLineage ps c (reverse (p.superclasses c))) (sym parents_are) (h.superclasses c (omega (arith, lt, many)));
    no_class = λ c le. let many = as_many_listed units in h.no_class c (omega (arith, le, many));
    object = named_is (codes "Object") ∙ h.object;
    throwable = named_is (codes "Throwable") ∙ h.throwable;
    null_pointer = named_is (codes "NullPointerException") ∙ h.null_pointer;
    arithmetic = named_is (codes "ArithmeticException") ∙ h.arithmetic;
    bounds = named_is (codes "ArrayIndexOutOfBoundsException") ∙ h.bounds;
    cast = named_is (codes "ClassCastException") ∙ h.cast;
    negative_size = named_is (codes "NegativeArraySizeException") ∙ h.negative_size;
  }

  -- ---- fields

  its_type : (d : Declarations) → ((name : List ℕ) → d.class_named name ≡ class_named units name) → (t : PlainType) → model_type d (type_by d.class_named t) ≡ type_in (program_tables units) t
  its_type d named IntType = refl
  its_type d named BooleanType = refl
  its_type d named IntArrayType = refl
  its_type d named (NamedType x) = by (d.class_named x) ∙ ap (λ o. model.ReferenceType (kind_named o)) (named x ∙ sym (named_is x))
    where
      by : (o : Option ℕ) → model_type d (class_type o) ≡ model.ReferenceType (kind_named o)
      by None = refl
      by (Some c) = refl

  module _ (d : Declarations) (named : (name : List ℕ) → d.class_named name ≡ class_named units name) (p : Program) (h : programs.HasFields units d p) where
    type_there : (f : ℕ) (one : Declared) (k : Kind) → slice_get (fields units) f ≡ Some one → one.kind ≡ k → is_field k ≡ true → p.field_type f ≡ type_in (program_tables units) (variable_type one.kind)
    type_there f one (FieldOf t) there kind passes = h.types f one t there kind ∙ its_type d named t ∙ ap (λ k. type_in (program_tables units) (variable_type k)) (sym kind)
    type_there f one (ConstantOf n) there kind passes = absurd cc
    type_there f one (RoutineOf m) there kind passes = absurd cc

    typed_by : (f : ℕ) (o : Option Declared) → slice_get (fields units) f ≡ o → p.field_type f ≡ field_type_in (program_tables units) (option_map field_info o)
    typed_by f None none = h.no_type f none
    typed_by f (Some one) there =
        let passes = (in_filter (λ (q : Declared). is_field q.kind) (declared_members units) one (at_place (fields units) f one there)).1 in
        type_there f one one.kind there refl passes

    typed : (f : ℕ) → p.field_type f ≡ field_type_in (program_tables units) (slice_get (field_infos units) f)
    typed f = typed_by f (slice_get (fields units) f) refl ∙ ap (field_type_in (program_tables units)) (sym (slice_get-map field_info (fields units) f))

    has : (c f : ℕ) → p.has_field c f ≡ declared_among (p.superclasses c) (slice_get (field_infos units) f)
    has c f = h.has_field c f ∙ by (slice_get (fields units) f) ∙ ap (declared_among (p.superclasses c)) (sym (slice_get-map field_info (fields units) f))
      where
        by : (o : Option Declared) → declared_along (p.superclasses c) o ≡ declared_among (p.superclasses c) (option_map field_info o)
        by None = refl
        by (Some one) = refl

    fields_fit : AreItsFields (program_tables units) p
    fields_fit = record { types = typed; has_field = has }

  -- ---- methods

  given : (d : Declarations) (class : ℕ) (k : Kind) (b : Body) → body_of_kind d class k ≡ Some b → b.result ≡ result_sort (result_of k)
  given d class (FieldOf t) b e = absurd (none-some b e)
  given d class (ConstantOf n) b e = absurd (none-some b e)
  given d class (RoutineOf m) b e = ap (λ (x : Body). x.result) (sym (same_Some (body_with d class m) b e)) ∙ by m.result
    where
      sorts : (t : PlainType) → sort_value (type_by d.class_named t) ≡ sort_of t
      sorts IntType = refl
      sorts BooleanType = refl
      sorts IntArrayType = refl
      sorts (NamedType x) = of_class (d.class_named x)
        where
          of_class : (o : Option ℕ) → sort_value (class_type o) ≡ sort_of (NamedType x)
          of_class None = refl
          of_class (Some c) = refl

      by : (r : JavaResult) → programs.result_sort d r ≡ result_sort (result_type r)
      by Void = refl
      by (Gives w) = sorts w.written
      by OfConstructor = refl

  module _ (are : AreClasses units) (law : OneMethod) (depths : List ℕ) (deep : IsDepths (parents units) depths) (j : JmlProgram) (is : IsProgram units j) where
    seen : (c m : ℕ) (i : PlainMethodInfo) → c < length (class_infos units) → slice_get (method_infos units) m ≡ Some i → j.program.lookup c m ≡ sees (program_tables units) c i.name
    seen c m i lt e =
        let r = unmapped method_info (routines units) m i e in
        let many = as_many_listed units in
        let name = r.from.name.name in
        one_sees law units name are c (j.program.lookup c m) (sees (program_tables units) c name) (is.lookup.seen c m r.from r.there) (sees_is units name depths deep c (omega (arith, lt, many)))
        ∙ ap (λ (x : PlainMethodInfo). sees (program_tables units) c x.name) (sym r.is)

    result_is : (m : ℕ) (i : PlainMethodInfo) (b : Body) → slice_get (method_infos units) m ≡ Some i → j.program.body m ≡ Some b → b.result ≡ result_sort i.result
    result_is m i b e f =
        let r = unmapped method_info (routines units) m i e in
        given is.declarations r.from.class r.from.kind b (sym (is.bodies m ∙ ap (option_and_then (body_of_declared is.declarations)) r.there) ∙ f)
        ∙ ap (λ (x : PlainMethodInfo). result_sort x.result) (sym r.is)

    methods_fit : AreItsMethods (program_tables units) j.program
    methods_fit = record { lookup = seen; results = result_is }

-- ---- cases

module _ (units : List JavaUnit) (are : AreClasses units) (not_static : ConstructorsAreNotStatic units) (k : PlainClasses) (of : AreClassesOf units k) (j : JmlProgram) (is : IsProgram units j) (above : AboveIsTransitive) (law : OneMethod) where
  numbers : (m : ℕ) → m < length (routines units) → k.families m ≡ is.family m
  numbers = one_number units of.count k.families of.are_families j.families is.family is.are_families

  listed : (m : ℕ) (r : Declared) → slice_get (routines units) m ≡ Some r → slice_get k.tables.routines m ≡ Some (method_info r)
  listed m r e = ap (λ (t : ClassTables). slice_get t.routines m) of.tables ∙ mapped method_info (routines units) m r e

  case_fits : (κ : ℕ) (c : Case) → (specified j).case κ ≡ Some c → MethodOfCase (methods_of k) c
  case_fits κ c e =
      let t = case_told units are not_static j is above law κ c e in
      let at = listed c.method t.it t.there in
      record {
        kind = subst (λ o. IsKindOf (of_routine StaticMethod kind_of o) c.contract.role) (sym at) t.kind;
        result = subst (λ o. IsResultSort (of_routine None sort_given o) c.contract.result) (sym at) t.result;
        family = numbers c.method (slice_get_within (routines units) c.method t.it t.there) ∙ sym t.family_;
      }

  -- the family of a case is one of the program's
  family_below : (κ : ℕ) (c : Case) → (specified j).case κ ≡ Some c → c.family < of.count
  family_below κ c e =
      let t = case_told units are not_static j is above law κ c e in
      subst (λ f. f < of.count) (numbers c.method (slice_get_within (routines units) c.method t.it t.there) ∙ sym t.family_) (of.are_families.below c.method t.it t.there)

  reach : (κ ι : ℕ) (c d : Case) → (specified j).case κ ≡ Some c → (specified j).case ι ≡ Some d → k.reaches c.family d.family ≡ j.reaches c.family d.family
  reach κ ι c d e f =
      let here = of.reaches c.family d.family (family_below κ c e) (family_below ι d f) in
      let there = is.reaches c.family d.family in
      decided (k.reaches c.family d.family) (j.reaches c.family d.family) here (
        λ h. reached_too units is.family k.families (λ m lt. sym (numbers m lt)) is.calls of.calls is.are_calls of.are_calls c.family d.family (there.0 h),
        λ r. there.1 (reached_too units k.families is.family numbers of.calls is.calls of.are_calls is.are_calls c.family d.family r),
      )

  named_null : unwrap_or (named_in k.tables (codes "NullPointerException")) 0 ≡ j.program.null_pointer
  named_null = ap (λ (t : ClassTables). unwrap_or (named_in t (codes "NullPointerException")) 0) of.tables ∙ ap (λ o. unwrap_or o 0) (named_is units (codes "NullPointerException") ∙ is.classes.null_pointer)

  stands : ClassesStandFor k (specified j)
  stands = record {
    classes = subst (λ t. AreItsClasses t j.program) (sym of.tables) (classes_fit units j.program is.classes);
    fields = subst (λ t. AreItsFields t j.program) (sym of.tables) (fields_fit units is.declarations is.are_declarations.classes_ j.program is.fields_);
    methods = subst (λ t. AreItsMethods t j.program) (sym of.tables) (methods_fit units are law of.depths of.are_depths j is);
    cases = record { cases = case_fits; reaches = reach; null_pointer = named_null };
    calls = resolved units are not_static j is above law;
  }

pub classes_stand : AboveIsTransitive → OneMethod → ClassesOfProgramsStand
classes_stand above law units are not_static k of j is = stands units are not_static k of j is above law
