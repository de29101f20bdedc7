-- The types of fields and of parameters are known where no token of the bodies is refused.
use Rattle.std.proofs.Common.{◌≡◌, inl, inr, ⊎_elim, ℕ, suc, List, [], ◌∷◌, Option, Some, None, Result, Ok, Err, MatchOption, refl, sym, ap, subst, ◌∙◌}
use Rattle.std.specs.List.{slice_get}
use Rattle.std.proofs.lemmas.Option.{none-some}
use Rattle.jd_syntax.specs.JavaTypes.{PlainType, IntType, BooleanType, IntArrayType, NamedType}
use Rattle.jd_syntax.specs.JavaTrees.{JavaMember, FieldMember, ConstantMember, MethodMember, JavaMethod, JavaParameter, JavaUnit}
use Rattle.jd_jclasses.specs.Classes.{DeclaredClass, declared_classes, prelude_count}
use Rattle.jd_jclasses.specs.Members.{Declared, FieldOf, ConstantOf, RoutineOf, declared_members, is_field, of_classes, of_member, of_members}
use Rattle.jd_jclasses.specs.Methods.{fields}
use Rattle.jd_bodies.specs.declared.fault.Fault.{Fault}
use Rattle.jd_bodies.specs.declared.value.ValueType.{ValueType}
use Rattle.jd_bodies.specs.declared.value.ValueType.TheVariants as types
use Rattle.jd_bodies.specs.declared.value.Variable.{Variable}
use Rattle.jd_bodies.specs.declared.value.Variable.TheVariants as variables
use Rattle.jd_bodies.specs.Declarations.{AreDeclarations, Declarations, HasNoVariable, IsVariableOf, class_type, type_by, type_of}
use Rattle.jd_bodies.specs.Declarations.IsVariableOf.{a_constant, a_field}
use Rattle.jd_bodies.specs.Expressions.{known, written_type}
use Rattle.jd_bodies.specs.Judgements.{and_then}
use Rattle.jd_bodies.specs.Refused.{begins_with_super, body, fault_from, fault_or, first_fault, member, members, method, result_known, runs_above, with_parameters}
use Rattle.jd_bodies.specs.Scopes.{Scope, empty_scope}
use Rattle.jd_bodies.specs.Statements.{with_name}
use Rattle.jd_declared.proofs.Lists.{In, at_place, in_either, in_filter, in_map}
use Rattle.jd_program_laws.proofs.Bodies.{through}
use Rattle.jd_static_types.specs.Types.{IsKnown}

same_field : (t u : PlainType) → FieldOf t ≡ FieldOf u → t ≡ u
same_field t u e = cc

module _ (d : Declarations) where
  known_is : (at : ℕ) (s t : ValueType) → known d at s ≡ Ok t → IsKnown s
  known_is at types.Int t e = tt
  known_is at types.Boolean t e = tt
  known_is at types.Null t e = tt
  known_is at types.IntArray t e = tt
  known_is at (types.Class c) t e = tt
  known_is at types.Missing t e = absurd cc

  abbrev pub IsKnownWritten : PlainType → Type 0
  IsKnownWritten t = IsKnown (type_by d.class_named t)

  -- ---- parameters

  abbrev pub AllKnown : List JavaParameter → Type 0
  AllKnown [] = Unit {0}
  AllKnown (p ∷ ps) = IsKnownWritten p.ty.written × AllKnown ps

  parameters_known : (ps : List JavaParameter) (s t : Scope) → with_parameters d ps s ≡ Ok t → AllKnown ps
  parameters_known [] s t e = tt
  parameters_known (p ∷ ps) s t e =
      let g = through (with_parameters d ps) (and_then (λ u. with_name p.name u s) (written_type d p.ty)) t e in
      let h = through _ (written_type d p.ty) g.0 g.1 in
      (known_is p.ty.at (type_by d.class_named p.ty.written) h.0 h.1, parameters_known ps g.0 t g.2)

  pub method_known : (class : ℕ) (m : JavaMethod) (s : Scope) → method d class m empty_scope ≡ Ok s → AllKnown m.parameters
  method_known class m s e =
      let before = and_then (runs_above d class m.name m.result (begins_with_super m.body)) (result_known d m.result empty_scope) in
      let g = through (body d class m) (and_then (with_parameters d m.parameters) before) s e in
      let h = through (with_parameters d m.parameters) before g.0 g.1 in parameters_known m.parameters h.0 g.0 h.2

  -- ---- fields

  of_one : (class file place : ℕ) (m : JavaMember) (s : Scope) (r : Declared) (t : PlainType) → member d class m ≡ Ok s → In r (of_member class file place m) → r.kind ≡ FieldOf t → IsKnownWritten t
  of_one class file place (FieldMember f) s r t e h kind =
      let x = in_map _ f.names r h in
      let same : FieldOf f.ty.written ≡ FieldOf t = ap (λ (q : Declared). q.kind) x.2 ∙ kind in
      let g = through _ (written_type d f.ty) s e in
      subst IsKnownWritten (same_field f.ty.written t same) (known_is f.ty.at (type_by d.class_named f.ty.written) g.0 g.1)
  of_one class file place (ConstantMember c) s r t e (inl same) kind = absurd (let k : ConstantOf c.value ≡ FieldOf t = ap (λ (q : Declared). q.kind) (sym same) ∙ kind in cc)
  of_one class file place (ConstantMember c) s r t e (inr none) kind = absurd none
  of_one class file place (MethodMember m) s r t e (inl same) kind = absurd (let k : RoutineOf m ≡ FieldOf t = ap (λ (q : Declared). q.kind) (sym same) ∙ kind in cc)
  of_one class file place (MethodMember m) s r t e (inr none) kind = absurd none

  of_class : (class file place : ℕ) (ms : List JavaMember) (s : Scope) (r : Declared) (t : PlainType) → members d class ms ≡ Ok s → In r (of_members class file place ms) → r.kind ≡ FieldOf t → IsKnownWritten t
  of_class class file place [] s r t e h kind = absurd h
  of_class class file place (m ∷ ms) s r t e h kind =
      let g = through (λ q. members d class ms) (member d class m) s e in
      ⊎_elim (λ first. of_one class file place m g.0 r t g.1 first kind) (λ behind. of_class class file (suc place) ms s r t g.2 behind kind) (in_either r (of_member class file place m) (of_members class file (suc place) ms) h)

  no_fault : (file : ℕ) (r : Result Scope Fault) (rest : Option (ℕ × Fault)) → fault_or d file r rest ≡ None → ((s : Scope) × (r ≡ Ok s)) × (rest ≡ None)
  no_fault file (Ok s) rest e = ((s, refl), e)
  no_fault file (Err f) rest e = absurd (none-some (file, f) (sym e))

  of_all : (class : ℕ) (ds : List DeclaredClass) (r : Declared) (t : PlainType) → fault_from d class ds ≡ None → In r (of_classes class ds) → r.kind ≡ FieldOf t → IsKnownWritten t
  of_all class [] r t e h kind = absurd h
  of_all class (c ∷ cs) r t e h kind =
      let g = no_fault c.file (members d class c.tree.members) (fault_from d (suc class) cs) e in
      ⊎_elim (λ first. of_class class c.file 0 c.tree.members g.0.0 r t g.0.1 first kind) (λ behind. of_all (suc class) cs r t g.1 behind kind) (in_either r (of_members class c.file 0 c.tree.members) (of_classes (suc class) cs) h)

  module _ (units : List JavaUnit) (are : AreDeclarations units d) (none : first_fault d units ≡ None) where
    known_there : (f : ℕ) (r : Declared) (t : PlainType) → slice_get (fields units) f ≡ Some r → r.kind ≡ FieldOf t → IsKnownWritten t
    known_there f r t there kind =
        of_all prelude_count (declared_classes units) r t none (in_filter (λ (x : Declared). is_field x.kind) (declared_members units) r (at_place (fields units) f r there)).0 kind

    same_type : (t : PlainType) → type_by d.class_named t ≡ type_of units t
    same_type IntType = refl
    same_type BooleanType = refl
    same_type IntArrayType = refl
    same_type (NamedType x) = ap class_type (are.classes_ x)

    abbrev IsKnownVariable : Variable → Type 0
    IsKnownVariable (variables.Field f t) = IsKnown t
    IsKnownVariable (variables.Constant n) = Unit {0}

    variable_known : (c : ℕ) (x : List ℕ) (v : Variable) → IsVariableOf units c x v → IsKnownVariable v
    variable_known c x _ (a_field f one t there kind named sub) = subst IsKnown (same_type t) (known_there f one t there kind)
    variable_known c x _ (a_constant i one n there kind named sub) = tt

    pub fields_known : (c : ℕ) (x : List ℕ) (f : ℕ) (t : ValueType) → d.variable c x ≡ Some (variables.Field f t) → IsKnown t
    fields_known c x f t is = variable_known c x (variables.Field f t) (subst (λ o. MatchOption o (HasNoVariable units c x) (IsVariableOf units c x)) is (are.variables_ c x))
