-- Invariants resolved one by one.
use Rattle.std.proofs.Common.{◌≡◌, ℕ, suc, Bool, true, false, cond, List, [], ◌∷◌, ◌++◌, map, flat_map, Option, Some, None, refl, sym, ap, ap₂, ◌∙◌}
use Rattle.std.proofs.lemmas.List.{map-append}
use Rattle.jd_syntax.specs.JavaTypes.{PlainIdentifier, PlainType, IntType, BooleanType, IntArrayType, NamedType}
use Rattle.jd_syntax.specs.JavaTrees.{JavaClass, JavaField, JavaMember, FieldMember, ConstantMember, MethodMember, JavaUnit}
use Rattle.jd_syntax.specs.SpecTrees as clauses
use Rattle.jd_syntax.specs.SpecTrees.{PlainClause, PlainSpec, PlainSpecBlock}
use Rattle.jd_syntax.specs.declared.java.InfixOperator.TheVariants as operators
use Rattle.jd_jclasses.specs.Classes.{class_named}
use Rattle.jd_jclasses.specs.Members.{Declared, FieldOf, declared_members, is_field, of_member, of_members}
use Rattle.jd_jclasses.specs.Refusals.{AreClasses}
use Rattle.jd_bodies.specs.declared.value.ValueType.{ValueType}
use Rattle.jd_bodies.specs.declared.value.ValueType.TheVariants as types
use Rattle.jd_bodies.specs.declared.value.Variable.{Variable}
use Rattle.jd_bodies.specs.declared.value.Variable.TheVariants as variables
use Rattle.jd_bodies.specs.Declarations.{AreDeclarations, Declarations, class_type, type_by, type_of}
use Rattle.jd_bodies.specs.Types.{is_reference}
use Rattle.jd_declaration_laws.specs.Laws.{DeclarationsAreOne}
use Rattle.jd_jml_meaning.specs.Resolved as jml
use Rattle.jd_jml_meaning.specs.Resolved.{JmlExpr}
use Rattle.jd_specifications.specs.Resolution.{field_number, is_boolean, member_type, operation, own_member, resolved}
use Rattle.jd_specifications.specs.WrittenCases as plain
use Rattle.jd_specifications.specs.WrittenCases.{all_clauses, has_mark, is_nullable}
use Rattle.jd_jml_copies.specs.NotNull.{not_null}
use Rattle.jd_jml_written.specs.Loops.{clauses_at}
use Rattle.jd_jml_written.specs.Marked.{class_invariants, field_invariants, holds_reference, member_invariants, written_invariants}
use Rattle.jd_programs.specs.Programs.{class_tree}
use Rattle.jd_invariant_laws.proofs.Fields.{field_seen}
use Rattle.jd_invariant_laws.proofs.Places.{There, has_tree, there_filter, there_left, there_right}

-- ---- types

references : (named : List ℕ → Option ℕ) (t : PlainType) → holds_reference t ≡ is_reference (type_by named t)
references named IntType = refl
references named BooleanType = refl
references named IntArrayType = refl
references named (NamedType x) = by (named x)
  where
    by : (o : Option ℕ) → true ≡ is_reference (class_type o)
    by None = refl
    by (Some c) = refl

no_boolean : (named : List ℕ → Option ℕ) (t : PlainType) → holds_reference t ≡ true → is_boolean (type_by named t) ≡ false
no_boolean named IntType holds = absurd (wrong holds)
  where
    wrong : false ≡ true → ⊥
    wrong p = cc
no_boolean named BooleanType holds = absurd (wrong holds)
  where
    wrong : false ≡ true → ⊥
    wrong p = cc
no_boolean named IntArrayType holds = refl
no_boolean named (NamedType x) holds = by (named x)
  where
    by : (o : Option ℕ) → is_boolean (class_type o) ≡ false
    by None = refl
    by (Some c) = refl

module _ (law : DeclarationsAreOne) (units : List JavaUnit) (stand : AreClasses units) (d : Declarations) (are : AreDeclarations units d) (c file : ℕ) where
  abbrev R : PlainSpec → JmlExpr
  R e = resolved d c types.Missing [] e

  written : (cs : List PlainClause) → map R (written_invariants cs) ≡ plain.written_invariants d c cs
  written [] = refl
  written (clauses.Invariant at e ∷ cs) = ap (λ l. R e ∷ l) (written cs)
  written (k ∷ cs) = written cs

  -- that a field is not null
  abbrev unequal : Option Variable → JmlExpr
  unequal v = operation operators.NotEqual (is_boolean (member_type d v)) (own_member jml.This v) jml.NullLiteral

  abbrev stated : Option Variable → JmlExpr
  stated v = jml.Unequal (jml.FieldAccess jml.This (field_number d c types.Missing v)) jml.NullLiteral

  of_field : (v : Option Variable) (f : ℕ) (t : ValueType) → v ≡ Some (variables.Field f t) → is_boolean t ≡ false → unequal v ≡ stated v
  of_field v f t is not_boolean =
      ap unequal is
      ∙ ap (λ b. operation operators.NotEqual b (jml.FieldAccess jml.This f) jml.NullLiteral) not_boolean
      ∙ ap stated (sym is)

  abbrev Known : List Declared → Type 0
  Known ms = (m : Declared) → There ms m → There (declared_members units) m

  seen : (one : Declared) (t : PlainType) → one.kind ≡ FieldOf t → one.class ≡ c → There (declared_members units) one → holds_reference t ≡ true → R (not_null one.name) ≡ plain.not_null d c one.name
  seen one t kind owner there holds =
      let field = there_filter (λ (m : Declared). is_field m.kind) (declared_members units) one (ap is_field kind) there in
      of_field (d.variable c one.name.name) field.0 (type_of units t) (field_seen units d are c field.0 one t field.1 kind owner law stand) (no_boolean (class_named units) t holds)

  fields : (f : JavaField) (place : ℕ) (xs : List PlainIdentifier) → holds_reference f.ty.written ≡ true
      → Known (map (λ x. record { class = c; file = file; member = place; name = x; kind = FieldOf f.ty.written }) xs) → map R (map not_null xs) ≡ map (plain.not_null d c) xs
  fields f place [] holds known = refl
  fields f place (x ∷ xs) holds known =
      ap₂ (λ e l. e ∷ l)
      (seen (record { class = c; file = file; member = place; name = x; kind = FieldOf f.ty.written }) f.ty.written refl refl (known _ (0, refl)) holds)
      (fields f place xs holds (λ m there. known m (suc there.0, there.1)))

  of_fields : (f : JavaField) (place : ℕ) → Known (of_member c file place (FieldMember f)) → map R (field_invariants f) ≡ plain.field_invariants d c f
  of_fields f place known =
      by (holds_reference f.ty.written) refl (has_mark is_nullable f.specs)
      ∙ ap (λ b. cond b (cond (has_mark is_nullable f.specs) [] (map (plain.not_null d c) f.names)) []) (references d.class_named f.ty.written)
    where
      by : (b : Bool) → holds_reference f.ty.written ≡ b → (n : Bool) → map R (cond b (cond n [] (map not_null f.names)) []) ≡ cond b (cond n [] (map (plain.not_null d c) f.names)) []
      by false is n = refl
      by true is true = refl
      by true is false = fields f place f.names is known

  of_one : (m : JavaMember) (place : ℕ) → Known (of_member c file place m) → map R (member_invariants m) ≡ plain.member_invariants d c m
  of_one (FieldMember f) place known = map-append R (written_invariants (all_clauses f.specs)) (field_invariants f) ∙ ap₂ ◌++◌ (written (all_clauses f.specs)) (of_fields f place known)
  of_one (ConstantMember k) place known = written (all_clauses k.specs)
  of_one (MethodMember m) place known = written (all_clauses m.specs)

  of_all : (ms : List JavaMember) (place : ℕ) → Known (of_members c file place ms) → map R (flat_map member_invariants ms) ≡ plain.members_invariants d c ms
  of_all [] place known = refl
  of_all (m ∷ ms) place known =
      map-append R (member_invariants m) (flat_map member_invariants ms)
      ∙ ap₂ ◌++◌
      (of_one m place (λ x there. known x (there_left (of_member c file place m) (of_members c file (suc place) ms) x there)))
      (of_all ms (suc place) (λ x there. known x (there_right (of_member c file place m) (of_members c file (suc place) ms) x there)))

  of_end : (b : Option PlainSpecBlock) → map R (written_invariants (clauses_at b)) ≡ plain.end_invariants d c b
  of_end None = refl
  of_end (Some b) = written b.clauses

pub all_resolved : DeclarationsAreOne → (units : List JavaUnit) → AreClasses units → (d : Declarations) → AreDeclarations units d → (c : ℕ) (t : JavaClass) → class_tree units c ≡ Some t → map (resolved d c types.Missing []) (class_invariants t) ≡ plain.invariants d c t
all_resolved law units stand d are c t is =
    let tree = has_tree units d c t is in
    map-append (resolved d c types.Missing []) (flat_map member_invariants t.members) (written_invariants (clauses_at t.end))
    ∙ ap₂ ◌++◌ (of_all law units stand d are c tree.file t.members 0 tree.members) (of_end law units stand d are c tree.file t.end)
