-- The sort of a field is that of its declared type.
use Rattle.std.proofs.Common.{◌≡◌, ℕ, List, Some, MatchOption, refl, ap, subst, ◌∙◌}
use Rattle.jd_syntax.specs.JavaTypes.{PlainType, IntType, BooleanType, IntArrayType, NamedType}
use Rattle.jd_syntax.specs.JavaTrees.{JavaUnit}
use Rattle.jd_bodies.specs.Declarations.{AreDeclarations, Declarations, HasNoVariable, IsVariableOf, class_type, type_by, type_of}
use Rattle.jd_bodies.specs.Declarations.IsVariableOf.{a_constant, a_field}
use Rattle.jd_bodies.specs.Variables.{sort_of}
use Rattle.jd_bodies.specs.declared.value.ValueType.{ValueType}
use Rattle.jd_bodies.specs.declared.value.ValueType.TheVariants as types
use Rattle.jd_bodies.specs.declared.value.Variable.{Variable}
use Rattle.jd_bodies.specs.declared.value.Variable.TheVariants as variables
use Rattle.jd_model.specs.Programs.{Program, type_sort}
use Rattle.jd_specifications.specs.WrittenCases.{model_type}
use Rattle.jd_jml_meaning.specs.JmlCases.{JmlProgram}
use Rattle.jd_jml_known.specs.Members.{FieldsHaveSorts, HasItsSort, own_of}
use Rattle.jd_programs.specs.Programs.{HasFields, IsProgram}

-- a type and what stands for it have one sort
type_sorted : (d : Declarations) (t : ValueType) → type_sort (model_type d t) ≡ sort_of t
type_sorted d types.Int = refl
type_sorted d types.Boolean = refl
type_sorted d types.Null = refl
type_sorted d types.IntArray = refl
type_sorted d (types.Class c) = refl
type_sorted d types.Missing = refl

module _ (units : List JavaUnit) (d : Declarations) (p : Program) (are : AreDeclarations units d) (has : HasFields units d p) where
  same_type : (t : PlainType) → type_by d.class_named t ≡ type_of units t
  same_type IntType = refl
  same_type BooleanType = refl
  same_type IntArrayType = refl
  same_type (NamedType x) = ap class_type (are.classes_ x)

  -- a field or a constant that a class sees
  variable_sorted : (c : ℕ) (x : List ℕ) (v : Variable) → IsVariableOf units c x v → HasItsSort p (own_of (Some v))
  variable_sorted c x _ (a_field f one t there kind named sub) = ap type_sort (has.types f one t there kind) ∙ type_sorted d (type_by d.class_named t) ∙ ap sort_of (same_type t)
  variable_sorted c x _ (a_constant i one n there kind named sub) = tt

  pub sorted : FieldsHaveSorts d p
  sorted c x f t is = variable_sorted c x (variables.Field f t) (subst (λ o. MatchOption o (HasNoVariable units c x) (IsVariableOf units c x)) is (are.variables_ c x))

pub program_sorted : (units : List JavaUnit) (j : JmlProgram) (is : IsProgram units j) → FieldsHaveSorts is.declarations j.program
program_sorted units j is = sorted units is.declarations j.program is.are_declarations is.fields_
