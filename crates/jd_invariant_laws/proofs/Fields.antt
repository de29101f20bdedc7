-- What a class sees by the name of a field that it declares.
use Rattle.std.proofs.Common.{◌≡◌, inl, ◌&&◌, ℕ, Bool, true, false, cond, nat_eq, List, Some, MatchOption, refl, sym, ap, ap₂, ◌∙◌, slice_get}
use Rattle.std.specs.Str.{bytes_eq}
use Rattle.std.proofs.lemmas.Bool.Decides.{Decides-eqb}
use Rattle.std.proofs.lemmas.Slice.Eq.{bytes_eq-Decides}
use Rattle.jd_syntax.specs.JavaTypes.{PlainType}
use Rattle.jd_syntax.specs.JavaTrees.{JavaUnit}
use Rattle.jd_jclasses.specs.Members.{Declared, FieldOf}
use Rattle.jd_jclasses.specs.Methods.{fields}
use Rattle.jd_jclasses.specs.Refusals.{AreClasses}
use Rattle.jd_bodies.specs.Declarations.{AreDeclarations, Declarations, HasNoVariable, IsVariableOf, type_of}
use Rattle.jd_bodies.specs.Declarations.IsVariableOf.{a_field}
use Rattle.jd_bodies.specs.declared.value.Variable.{Variable}
use Rattle.jd_bodies.specs.declared.value.Variable.TheVariants as variables
use Rattle.jd_declaration_laws.specs.Laws.{DeclarationsAreOne}

both_true : (a b : Bool) → (a && b) ≡ true → (a ≡ true) × (b ≡ true)
both_true true true e = (refl, refl)
both_true true false e = absurd (wrong e)
  where
    wrong : false ≡ true → ⊥
    wrong p = cc
both_true false b e = absurd (wrong e)
  where
    wrong : false ≡ true → ⊥
    wrong p = cc

module _ (units : List JavaUnit) (d : Declarations) (are : AreDeclarations units d) (c f : ℕ) (one : Declared) (t : PlainType) (there : slice_get (fields units) f ≡ Some one) (kind : one.kind ≡ FieldOf t) (owner : one.class ≡ c) where
  abbrev it : Variable
  it = variables.Field f (type_of units t)

  abbrev is_it : ℕ → List ℕ → Bool
  is_it k x = nat_eq k c && bytes_eq x one.name.name

  -- the same answers, but that this field is seen
  abbrev with_it : Declarations
  with_it = record d { variable = λ k x. cond (is_it k x) (Some it) (d.variable k x) }

  seen : (k : ℕ) (x : List ℕ) (b : Bool) → is_it k x ≡ b → MatchOption (cond b (Some it) (d.variable k x)) (HasNoVariable units k x) (IsVariableOf units k x)
  seen k x true e =
      let tests = both_true (nat_eq k c) (bytes_eq x one.name.name) e in
      let class : k ≡ c = (Decides-eqb k c).0 tests.0 in
      let name : x ≡ one.name.name = (bytes_eq-Decides x one.name.name).0 tests.1 in
      a_field f one t there kind (sym name) (inl (class ∙ sym owner))
  seen k x false e = are.variables_ k x

  stands : AreDeclarations units with_it
  stands = record {
    classes_ = are.classes_;
    parents_ = are.parents_;
    subclasses_ = are.subclasses_;
    joined_ = are.joined_;
    variables_ = λ k x. seen k x (is_it k x) refl;
    methods_ = are.methods_;
    constructors_ = are.constructors_;
    signatures_ = are.signatures_;
  }

  itself : is_it c one.name.name ≡ true
  itself = ap₂ ◌&&◌ ((Decides-eqb c c).1 refl) ((bytes_eq-Decides one.name.name one.name.name).1 refl)

  pub field_seen : DeclarationsAreOne → AreClasses units → d.variable c one.name.name ≡ Some it
  field_seen law classes =
      ap (λ (k : Declarations). k.variable c one.name.name) (law units classes d with_it are stands)
      ∙ ap (λ b. cond b (Some it) (d.variable c one.name.name)) itself
