-- Two that are both a program's declarations answer alike.
use Rattle.std.proofs.Common.{◌≡◌, ◌⊎◌, inl, inr, ℕ, Bool, true, false, List, length, take, Option, Some, None, MatchOption, refl, sym, ap, subst, ◌∙◌}
use Rattle.std.specs.Bool.{Decides}
use Rattle.std.specs.List.{filter, slice_get}
use Rattle.std.proofs.lemmas.Option.{same_Some}
use mathlib.Core.Path.{fun_ext}
use Rattle.jd_syntax.specs.JavaTypes.{PlainType}
use Rattle.jd_syntax.specs.JavaTrees.{JavaUnit}
use Rattle.jd_jclasses.specs.CallGraph.{DeclaresConstructor, IsConstructorFor}
use Rattle.jd_jclasses.specs.Classes.{IsSubclass}
use Rattle.jd_jclasses.specs.Members.{Declared, Kind, FieldOf, ConstantOf, RoutineOf, declared_members, is_field, is_variable}
use Rattle.jd_jclasses.specs.Laws.{OneMethod}
use Rattle.jd_jclasses.specs.Methods.{IsSeen, fields}
use Rattle.jd_jclasses.specs.Refusals.{AreClasses}
use Rattle.jd_jseen.proofs.Routines.{kept}
use Rattle.jd_bodies.specs.Declarations.{AreDeclarations, Declarations, HasNoVariable, IsJoined, IsVariableOf, RunsNoConstructor, Signature, type_of}
use Rattle.jd_bodies.specs.Declarations.IsVariableOf.{a_constant, a_field}
use Rattle.jd_bodies.specs.declared.value.ValueType.TheVariants.{Missing}
use Rattle.jd_bodies.specs.declared.value.Variable.{Variable}
use Rattle.jd_bodies.specs.declared.value.Variable.TheVariants as variables
use Rattle.jd_declaration_laws.proofs.Members as seen
use Rattle.jd_declaration_laws.proofs.Members.{each_other, one_constructor, one_variable}

-- two tests of one thing
one_test : {P : Type 0} (a b : Bool) → Decides a P → Decides b P → a ≡ b
one_test true true h g = refl
one_test true false h g = sym (g.1 (h.0 refl))
one_test false true h g = h.1 (g.0 refl)
one_test false false h g = refl

-- of two answers of which each is right, where only one is
one_of : {A : Type 0} {None_ : Type 0} {Is : A → Type 0} → ((x : A) → None_ → Is x → ⊥) → ((x y : A) → Is x → Is y → x ≡ y) → (o q : Option A) → MatchOption o None_ Is → MatchOption q None_ Is → o ≡ q
one_of apart same None None h g = refl
one_of apart same None (Some y) h g = absurd (apart y h g)
one_of apart same (Some x) None h g = absurd (apart x g h)
one_of apart same (Some x) (Some y) h g = ap Some (same x y h g)

module _ (methods : OneMethod) (units : List JavaUnit) (stand : AreClasses units) where
  -- ---- the class where two meet

  one_joined : (a b c k : ℕ) → IsJoined units a b c → IsJoined units a b k → c ≡ k
  one_joined a b c k (inl m) (inl n) = each_other units stand c k (m.nearest k n.of_one n.of_other) (n.nearest c m.of_one m.of_other)
  one_joined a b c k (inl m) (inr none) = absurd (none.0 c m.of_one m.of_other)
  one_joined a b c k (inr none) (inl n) = absurd (none.0 k n.of_one n.of_other)
  one_joined a b c k (inr none) (inr none') = none.1 ∙ sym none'.1

  -- ---- variables

  -- what a member is as a variable, by its place
  abbrev variable_of : Kind → ℕ → Variable
  variable_of (FieldOf t) i = variables.Field (length (filter (λ (m : Declared). is_field m.kind) (take i (declared_members units)))) (type_of units t)
  variable_of (ConstantOf n) i = variables.Constant n
  variable_of (RoutineOf m) i = variables.Field i Missing

  record Shown (class : ℕ) (name : List ℕ) (v : Variable) : Type 0 where
    member : seen.Variable units stand class name
    is : v ≡ variable_of member.one.kind member.place

  shown : (class : ℕ) (name : List ℕ) (v : Variable) → IsVariableOf units class name v → Shown class name v
  shown class name _ (a_field f one t there kind named sub) =
      let k = kept (λ (m : Declared). is_field m.kind) (declared_members units) f one there in
      record {
        member = record { place = k.i; one = one; there = k.there; is = ap is_variable kind; named = named; seen = sub };
        is = ap (λ n. variables.Field n (type_of units t)) k.number ∙ ap (λ x. variable_of x k.i) (sym kind);
      }
  shown class name _ (a_constant i one n there kind named sub) =
      record {
        member = record { place = i; one = one; there = there; is = ap is_variable kind; named = named; seen = sub };
        is = ap (λ x. variable_of x i) (sym kind);
      }

  same_variable : (class : ℕ) (name : List ℕ) (v w : Variable) → IsVariableOf units class name v → IsVariableOf units class name w → v ≡ w
  same_variable class name v w h g =
      let a = shown class name v h in
      let b = shown class name w g in
      let place = one_variable units stand class name a.member b.member in
      let one : a.member.one ≡ b.member.one = same_Some a.member.one b.member.one (sym a.member.there ∙ ap (slice_get (declared_members units)) place ∙ b.member.there) in
      a.is ∙ ap (λ m. variable_of m.kind a.member.place) one ∙ ap (variable_of b.member.one.kind) place ∙ sym b.is

  -- ---- methods and constructors

  same_method : (class : ℕ) (name : List ℕ) (m n : ℕ) → IsSeen units class name m → IsSeen units class name n → m ≡ n
  same_method class name m n h g = methods.one_seen units class name m n stand h g

  same_constructor : (class m n : ℕ) → IsConstructorFor units class m → IsConstructorFor units class n → m ≡ n
  same_constructor class m n h g =
      let owners = each_other units stand h.owner g.owner (h.nearest g.owner n g.inherited g.declared) (g.nearest h.owner m h.inherited h.declared) in
      one_constructor units stand g.owner m n (subst (λ c. DeclaresConstructor units c m) owners h.declared) g.declared

  -- ---- all of it

  module _ (d e : Declarations) (of_d : AreDeclarations units d) (of_e : AreDeclarations units e) where
    classes : d.class_named ≡ e.class_named
    classes = fun_ext (λ name. of_d.classes_ name ∙ sym (of_e.classes_ name))

    supers : d.parent ≡ e.parent
    supers = fun_ext (λ c. of_d.parents_ c ∙ sym (of_e.parents_ c))

    subclasses : d.is_subclass ≡ e.is_subclass
    subclasses = fun_ext (λ a. fun_ext (λ b. one_test (d.is_subclass a b) (e.is_subclass a b) (of_d.subclasses_ a b) (of_e.subclasses_ a b)))

    joins : d.joined ≡ e.joined
    joins = fun_ext (λ a. fun_ext (λ b. one_joined a b (d.joined a b) (e.joined a b) (of_d.joined_ a b) (of_e.joined_ a b)))

    named : d.variable ≡ e.variable
    named = fun_ext (λ c. fun_ext (λ name. one_of (λ v none is. none v is) (same_variable c name) (d.variable c name) (e.variable c name) (of_d.variables_ c name) (of_e.variables_ c name)))

    seen_methods : d.method ≡ e.method
    seen_methods = fun_ext (λ c. fun_ext (λ name. one_of (λ m none is. none is.owner m is.inherited is.declared) (same_method c name) (d.method c name) (e.method c name) (of_d.methods_ c name) (of_e.methods_ c name)))

    constructors : d.constructor ≡ e.constructor
    constructors = fun_ext (λ c. one_of (λ m none is. none is.owner m is.inherited is.declared) (same_constructor c) (d.constructor c) (e.constructor c) (of_d.constructors_ c) (of_e.constructors_ c))

    signatures : d.signature ≡ e.signature
    signatures = fun_ext (λ m. of_d.signatures_ m ∙ sym (of_e.signatures_ m))

    pub one_answer : d ≡ e
    one_answer =
        ap (λ x. record { class_named = x; parent = d.parent; is_subclass = d.is_subclass; joined = d.joined; variable = d.variable; method = d.method; constructor = d.constructor; signature = d.signature }) classes
        ∙ ap (λ x. record { class_named = e.class_named; parent = x; is_subclass = d.is_subclass; joined = d.joined; variable = d.variable; method = d.method; constructor = d.constructor; signature = d.signature }) supers
        ∙ ap (λ x. record { class_named = e.class_named; parent = e.parent; is_subclass = x; joined = d.joined; variable = d.variable; method = d.method; constructor = d.constructor; signature = d.signature }) subclasses
        ∙ ap (λ x. record { class_named = e.class_named; parent = e.parent; is_subclass = e.is_subclass; joined = x; variable = d.variable; method = d.method; constructor = d.constructor; signature = d.signature }) joins
        ∙ ap (λ x. record { class_named = e.class_named; parent = e.parent; is_subclass = e.is_subclass; joined = e.joined; variable = x; method = d.method; constructor = d.constructor; signature = d.signature }) named
        ∙ ap (λ x. record { class_named = e.class_named; parent = e.parent; is_subclass = e.is_subclass; joined = e.joined; variable = e.variable; method = x; constructor = d.constructor; signature = d.signature }) seen_methods
        ∙ ap (λ x. record { class_named = e.class_named; parent = e.parent; is_subclass = e.is_subclass; joined = e.joined; variable = e.variable; method = e.method; constructor = x; signature = d.signature }) constructors
        ∙ ap (λ x. record { class_named = e.class_named; parent = e.parent; is_subclass = e.is_subclass; joined = e.joined; variable = e.variable; method = e.method; constructor = e.constructor; signature = x }) signatures
