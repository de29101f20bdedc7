-- Names in the clauses of a case of a static method of ints: parameters, or constants of the class.
use Rattle.std.proofs.Common.{Bool, List, None, Option, Some, [], ap, false, refl, subst, suc, sym, true, true≢false, ◌∷◌, ◌≡◌, if◌then◌else◌, ℕ, ℤ}
use Rattle.std.proofs.lemmas.Bool.{and_parts}
use Rattle.std.specs.List.{list_all}
use Rattle.std.specs.Prelude.{Err, Ok, Result}
use Rattle.std.specs.Str.{bytes_eq}
use Rattle.jd_bodies.specs.Declarations.{Declarations, type_by}
use Rattle.jd_bodies.specs.declared.value.ValueType.{ValueType}
use Rattle.jd_bodies.specs.declared.value.ValueType.TheVariants as types
use Rattle.jd_bodies.specs.declared.value.Variable.{Variable}
use Rattle.jd_bodies.specs.declared.value.Variable.TheVariants as variables
use Rattle.jd_first_form.specs.Forms.{takes_int}
use Rattle.jd_jml_meaning.specs.Meaning.{When}
use Rattle.jd_jml_meaning.specs.Resolved as jml
use Rattle.jd_jml_meaning.specs.Resolved.{JmlExpr}
use Rattle.jd_jml_meaning.specs.Translation.{Spelling, term}
use Rattle.jd_model.specs.Programs.{Program}
use Rattle.jd_model.specs.WellFormedHeaps.{in_int}
use Rattle.jd_specifications.specs.Refused.{parameters}
use Rattle.jd_specifications.specs.Resolution.{AnArgument, Entry, is_boolean, looked_up, named, or_member, typed}
use Rattle.jd_specifications.specs.Scopes.{AParameter, SpecLocal, local_named}
use Rattle.jd_specifications.specs.Types.{name_type}
use Rattle.jd_specifications.specs.WrittenCases.{entries}
use Rattle.jd_specifications.specs.declared.fault.SpecFault.{SpecFault}
use Rattle.jd_spelled_tasks.proofs.Formulas.{IntTerm, int_is_wide, number_known}
use Rattle.jd_spelled_tasks.proofs.Parameters.{int_type}
use Rattle.jd_syntax.specs.JavaTrees.{JavaParameter}
use Rattle.jd_tgrammar.specs.NameTables.{NameTable}

-- no token is refused
abbrev pub Fine : {A : Type 0} → Result A SpecFault → Type 0
Fine (Ok a) = Unit {0}
Fine (Err e) = ⊥

-- ---- what is in scope, for what a name stands for and for what is refused

-- none has the name, or it is a parameter's
abbrev pub Found : Option JmlExpr → Option ValueType → Option SpecLocal → Type 0
Found None None None = Unit {0}
Found (Some e) (Some t) (Some l) = (k : ℕ) × (e ≡ jml.Argument k) × (t ≡ types.Int)
Found e t l = ⊥

abbrev pub FoundIn : List Entry → List SpecLocal → Type 0
FoundIn es ls = (x : List ℕ) → Found (looked_up 0 es x) (typed es x) (local_named ls x)

-- behind one more name in scope, which is a parameter's
found_here : (here : Bool) (n : ℕ) (t : ValueType) (l : SpecLocal) (e : Option JmlExpr) (u : Option ValueType) (k : Option SpecLocal) → t ≡ types.Int → Found e u k
    → Found (if here then Some (jml.Argument n) else e) (if here then Some t else u) (if here then Some l else k)
found_here true n t l e u k is h = (n, refl, is)
found_here false n t l e u k is h = h

module _ (d : Declarations) where
  one_more : (n : ℕ) (p : JavaParameter) (es : List Entry) (ls : List SpecLocal) → takes_int p ≡ true → FoundIn es ls
      → FoundIn (record { name = p.name.name; known = AnArgument n; type = type_by d.class_named p.ty.written } ∷ es) (record { name = p.name.name; named = AParameter; type = type_by d.class_named p.ty.written } ∷ ls)
  one_more n p es ls e found x =
      found_here (bytes_eq p.name.name x) n (type_by d.class_named p.ty.written) (record { name = p.name.name; named = AParameter; type = type_by d.class_named p.ty.written }) (looked_up 0 es x) (typed es x) (local_named ls x)
      (int_type d.class_named p.ty.written e) (found x)

  all_found : (n : ℕ) (ps : List JavaParameter) (es : List Entry) (ls : List SpecLocal) → list_all takes_int ps ≡ true → FoundIn es ls → FoundIn (entries d n ps es) (parameters d ps ls)
  all_found n [] es ls e found = found
  all_found n (p ∷ ps) es ls e found =
      let parts = and_parts (takes_int p) (list_all takes_int ps) e in
      all_found (suc n) ps (record { name = p.name.name; known = AnArgument n; type = type_by d.class_named p.ty.written } ∷ es) (record { name = p.name.name; named = AParameter; type = type_by d.class_named p.ty.written } ∷ ls) parts.1 (one_more n p es ls parts.0 found)

  pub parameters_found : (ps : List JavaParameter) → list_all takes_int ps ≡ true → FoundIn (entries d 0 ps []) (parameters d ps [])
  parameters_found ps e = all_found 0 ps [] [] e (λ x. tt)

-- ---- a name that is not refused is an int's

module _ (names : NameTable) (p : Program) (sp : Spelling) (d : Declarations) where
  abbrev pub NameIsInt : Option JmlExpr → Option ValueType → Option Variable → Type 0
  NameIsInt e t v = ((when : When) → IntTerm names (term p sp when (named e v))) × (is_boolean (or_member d t v) ≡ false)

  own_is_int : (static : Bool) (at : ℕ) (v : Option Variable) → static ≡ true → ((n : ℤ) → v ≡ Some (variables.Constant n) → in_int n ≡ true) → Fine (name_type false static at None v) → NameIsInt None None v
  own_is_int static at None is fits fine = absurd fine
  own_is_int true at (Some (variables.Field f t)) is fits fine = absurd fine
  own_is_int false at (Some (variables.Field f t)) is fits fine = absurd (true≢false (sym is))
  own_is_int static at (Some (variables.Constant n)) is fits fine = (λ when. number_known names n (int_is_wide n (fits n refl)), refl)

  pub name_is_int : ((when : When) (k : ℕ) → IntTerm names (sp.argument when k)) → (static : Bool) (at : ℕ) (e : Option JmlExpr) (t : Option ValueType) (l : Option SpecLocal) (v : Option Variable) → static ≡ true → Found e t l
      → ((n : ℤ) → v ≡ Some (variables.Constant n) → in_int n ≡ true) → Fine (name_type false static at l v) → NameIsInt e t v
  name_is_int argument static at None None None v is found fits fine = own_is_int static at v is fits fine
  name_is_int argument static at (Some e) (Some t) (Some l) v is found fits fine =
      (λ when. subst (λ x. IntTerm names (term p sp when x)) (sym found.1) (argument when found.0), ap is_boolean found.2)
  name_is_int argument static at None None (Some l) v is found fits fine = absurd found
  name_is_int argument static at None (Some t) l v is found fits fine = absurd found
  name_is_int argument static at (Some e) None l v is found fits fine = absurd found
  name_is_int argument static at (Some e) (Some t) None v is found fits fine = absurd found
