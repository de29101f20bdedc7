-- Parameters that are ints: their variables have that sort, and their constants are known.
use Rattle.std.proofs.Common.{Bool, List, Option, Some, [], ap, arith, cond, drop, false, length, map, pos, refl, subst, suc, sym, true, true≢false, zero, ◌&&◌, ◌+◌, ◌++◌, ◌∙◌, ◌∷◌, ◌≡◌, ℕ}
use Rattle.std.proofs.lemmas.Bool.{and_parts}
use Rattle.std.proofs.lemmas.List.{length-append}
use Rattle.std.specs.List.{AllByRecursion as Every, list_all}
use Rattle.jd_base.specs.declared.sort.Sort.TheVariants.{Int as IntSort}
use Rattle.jd_bodies.specs.Bodies.{begun, with_parameters}
use Rattle.jd_bodies.specs.Declarations.{Declarations, type_by}
use Rattle.jd_bodies.specs.Variables.{Progress, declared, local_name, sort_of, with_local}
use Rattle.jd_bodies.specs.declared.value.ValueType.TheVariants as types
use Rattle.jd_case_rows.specs.Rows.{parameter_members, respelled, value_members}
use Rattle.jd_first_form.specs.Forms.{is_int, takes_int}
use Rattle.jd_java_names.proofs.Every.{every_append}
use Rattle.jd_jml_meaning.specs.ContractFormulas.{constant_at}
use Rattle.jd_model.specs.Cases.{Parameter}
use Rattle.jd_model.specs.Programs as model
use Rattle.jd_model.specs.SpecialNames.{entry_heap}
use Rattle.jd_model.specs.Tables.{parameter_constant}
use Rattle.jd_oblig.specs.CaseObligations.{parameter_pair}
use Rattle.jd_programs.specs.Programs.{parameter_names, variable_name}
use Rattle.jd_specifications.specs.WrittenCases.{model_type, parameter}
use Rattle.jd_spelled_tasks.proofs.Formulas.{IntTerm, both_spelled, constant_known, in_int_spelled, number_known}
use Rattle.jd_straight_bodies.specs.Laws.{ParametersKnown}
use Rattle.jd_spelled_trees.specs.Places.{AreSpelled}
use Rattle.jd_syntax.specs.CodeNames.{same_sort}
use Rattle.jd_syntax.specs.JavaTrees.{JavaMethod, JavaParameter}
use Rattle.jd_syntax.specs.JavaTypes.{BooleanType, IntArrayType, IntType, NamedType, PlainType}
use Rattle.jd_syntax.specs.Names.{Declared, Name}
use Rattle.jd_term.specs.Formulas.{Pairs}
use Rattle.jd_term.specs.Terms.{Constant}
use Rattle.jd_tforms.specs.Known.{PairsKnown}
use Rattle.jd_tforms.specs.Naming.{constant_of}
use Rattle.jd_tforms.specs.Sorted.{pairs_sorted}
use Rattle.jd_tgrammar.specs.NameTables.{NameTable}

pub int_type : (named : List ℕ → Option ℕ) (t : PlainType) → is_int t ≡ true → type_by named t ≡ types.Int
int_type named IntType e = refl
int_type named BooleanType e = absurd (true≢false (sym e))
int_type named IntArrayType e = absurd (true≢false (sym e))
int_type named (NamedType x) e = absurd (true≢false (sym e))

-- ---- variables

abbrev IsIntVariable : Declared → Type 0
IsIntVariable v = v.name.sort ≡ IntSort

abbrev pub IsIntName : Name → Type 0
IsIntName x = x.sort ≡ IntSort

names_are_ints : (vs : List Declared) → Every IsIntVariable vs → Every IsIntName (map variable_name vs)
names_are_ints [] h = tt
names_are_ints (v ∷ vs) h = (h.0, names_are_ints vs h.1)

mapped_length : (vs : List Declared) → length (map variable_name vs) ≡ length vs
mapped_length [] = refl
mapped_length (v ∷ vs) = ap suc (mapped_length vs)

-- ints, as many as these
pub record AreInts (count : ℕ) (xs : List Name) : Type 0 where
  pub ints : Every IsIntName xs
  pub many : length xs ≡ count

module _ (d : Declarations) where
  variables_are_ints : (ps : List JavaParameter) (p : Progress) → list_all takes_int ps ≡ true → Every IsIntVariable p.variables → Every IsIntVariable (with_parameters d ps p).variables
  variables_are_ints [] p e h = h
  variables_are_ints (x ∷ xs) p e h =
      let t = type_by d.class_named x.ty.written in
      let q = with_local x.name.name t p in
      let parts = and_parts (takes_int x) (list_all takes_int xs) e in
      variables_are_ints xs q parts.1
      (every_append IsIntVariable p.variables (declared (local_name (x.name.name ∷ p.names) x.name.name t) t ∷ []) h (ap sort_of (int_type d.class_named x.ty.written parts.0), tt))

  count_variables : (ps : List JavaParameter) (p : Progress) → length (with_parameters d ps p).variables ≡ length p.variables + length ps
  count_variables [] p = omega arith
  count_variables (x ∷ xs) p =
      let t = type_by d.class_named x.ty.written in
      let q = with_local x.name.name t p in
      let more : length (with_parameters d xs q).variables ≡ length q.variables + length xs = count_variables xs q in
      let one : length q.variables ≡ length p.variables + 1 = length-append p.variables (declared (local_name (x.name.name ∷ p.names) x.name.name t) t ∷ []) in
      let all : length (with_parameters d xs q).variables ≡ length p.variables + suc (length xs) = omega (arith, more, one) in
      all

  named_ints : (ps : List JavaParameter) (p : Progress) → list_all takes_int ps ≡ true → p.variables ≡ [] → AreInts (length ps) (map variable_name (with_parameters d ps p).variables)
  named_ints ps p e none = record {
    ints = names_are_ints (with_parameters d ps p).variables (variables_are_ints ps p e (subst (Every IsIntVariable) (sym none) tt));
    many =
        let all : length (map variable_name (with_parameters d ps p).variables) ≡ 0 + length ps = mapped_length (with_parameters d ps p).variables ∙ count_variables ps p ∙ ap (λ l. length l + length ps) none in
        let same : 0 + length ps ≡ length ps = omega arith in
        all ∙ same;
  }

  pub parameters_are_ints : (class : ℕ) (m : JavaMethod) → m.is_static ≡ true → list_all takes_int m.parameters ≡ true → AreInts (length m.parameters) (parameter_names d class m)
  parameters_are_ints class m static e = by m.is_static static
    where
      by : (b : Bool) → b ≡ true → AreInts (length m.parameters) (drop (cond b 0 1) (map variable_name (with_parameters d m.parameters (begun (record { class = class; is_static = b }))).variables))
      by true is = named_ints m.parameters (begun (record { class = class; is_static = true })) e refl
      by false is = absurd (true≢false (sym is))

-- ---- constants

pub record IsIntParameter (p : Parameter) : Type 0 where
  pub constant : constant_of p.constant.text ≡ Some p.constant
  pub sort : p.constant.sort ≡ IntSort
  pub type : p.declared.type ≡ model.IntType

module _ (names : NameTable) where
  pub respelled_ints : (d : Declarations) (xs : List Name) (ps : List JavaParameter) → AreInts (length ps) xs → ParametersKnown names xs → list_all takes_int ps ≡ true → Every IsIntParameter (respelled (map parameter_constant xs) (map (parameter d) ps))
  respelled_ints d [] [] are known e = tt
  respelled_ints d [] (p ∷ ps) are known e = absurd (let n : 0 ≡ suc (length ps) = are.many in omega (arith, n))
  respelled_ints d (x ∷ xs) [] are known e = tt
  respelled_ints d (x ∷ xs) (p ∷ ps) are known e =
      let parts = and_parts (takes_int p) (list_all takes_int ps) e in
      let count : suc (length xs) ≡ suc (length ps) = are.many in (
        record { constant = known.0.1; sort = are.ints.0; type = ap (model_type d) (int_type d.class_named p.ty.written parts.0) },
        respelled_ints d xs ps (record { ints = are.ints.1; many = omega (arith, count) }) known.1 parts.1,
      )

  pub members_spelled : (ps : List Parameter) → Every IsIntParameter ps → AreSpelled names (parameter_members ps)
  members_spelled [] h = tt
  members_spelled (p ∷ ps) h =
      both_spelled names (value_members (Constant entry_heap) p.declared.type p.declared.nullable (Constant p.constant)) (parameter_members ps)
      (subst (λ t. AreSpelled names (value_members (Constant entry_heap) t p.declared.nullable (Constant p.constant))) (sym h.0.type)
      (in_int_spelled names (Constant p.constant) (constant_known names p.constant h.0.constant h.0.sort), tt))
      (members_spelled ps h.1)

  -- whatever the number of the argument is
  pub argument_known : (ps : List Parameter) (k : ℕ) → Every IsIntParameter ps → IntTerm names (constant_at ps k)
  argument_known [] k h = number_known names (pos 0) refl
  argument_known (p ∷ ps) zero h = constant_known names p.constant h.0.constant h.0.sort
  argument_known (p ∷ ps) (suc k) h = argument_known ps k h.1

  -- ---- updates

  pub record PairsSpelled (ps : Pairs) : Type 0 where
    pub known : PairsKnown names [] ps
    pub sorted : pairs_sorted names ps ≡ true

  pub pairs_spelled : (xs : List Name) (more : Pairs) → Every IsIntName xs → ParametersKnown names xs → PairsSpelled more → PairsSpelled (map parameter_pair xs ++ more)
  pairs_spelled [] more ints known behind = behind
  pairs_spelled (x ∷ xs) more ints known behind =
      let rest = pairs_spelled xs more ints.1 known.1 behind in
      let constant = constant_known names (parameter_constant x) known.0.1 ints.0 in
      record { known = ((known.0.0, constant.0), rest.known); sorted = λ i. same_sort (ints.0 i) (ints.0 i) && true && rest.sorted i }
