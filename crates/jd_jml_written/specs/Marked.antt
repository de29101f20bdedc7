-- The cases that are written at a method or constructor, with what the words at its declaration say, and the invariants of a class.
use Rattle.std.specs.Prelude.{ℕ, Bool, true, false, List, [], ◌++◌, map, flat_map, cond}
use Rattle.jd_syntax.specs.JavaTypes.{PlainType, IntType, BooleanType, IntArrayType, NamedType}
use Rattle.jd_syntax.specs.SpecTrees.{PlainSpec, PlainClause}
use Rattle.jd_syntax.specs.JavaTrees.{JavaParameter, JavaMethod, JavaField, JavaMember, FieldMember, ConstantMember, MethodMember, JavaClass}
use Rattle.jd_specifications.specs.WrittenCases.{all_clauses, cases_of, has_mark, is_helper, is_nullable, is_pure}
use Rattle.jd_jml_copies.specs.NotNull.{not_null}
use Rattle.jd_jml_written.specs.Loops.{clauses_at}
use Rattle.jd_jml_written.specs.Said.{invariant_in}

-- ---- cases

pub record PlainMarks : Type 0 where
  pub is_pure : Bool
  pub is_helper : Bool
  pub nullable_result : Bool
  pub nullable_params : List Bool

pub record PlainCase : Type 0 where
  pub declared : ℕ
  pub marks : PlainMarks
  pub clauses : List PlainClause

abbrev pub nullable_parameters : List JavaParameter → List Bool
nullable_parameters ps = map (λ (p : JavaParameter). has_mark is_nullable p.specs) ps

abbrev pub marks_of : JavaMethod → PlainMarks
marks_of m = record {
  is_pure = has_mark is_pure m.specs;
  is_helper = has_mark is_helper m.specs;
  nullable_result = has_mark is_nullable m.specs;
  nullable_params = nullable_parameters m.parameters;
}

abbrev pub case_of : ℕ → PlainMarks → List PlainClause → PlainCase
case_of declared marks clauses = record { declared = declared; marks = marks; clauses = clauses }

-- in the order of the text, where the declaration has this number
abbrev pub own_cases : ℕ → JavaMethod → List PlainCase
own_cases declared m = map (case_of declared (marks_of m)) (cases_of m.specs)

-- ---- invariants: those that are written, and at the place of each reference field without `nullable` that it is not null

abbrev pub written_invariants : List PlainClause → List PlainSpec
written_invariants cs = flat_map invariant_in cs

abbrev pub holds_reference : PlainType → Bool
holds_reference IntType = false
holds_reference BooleanType = false
holds_reference IntArrayType = true
holds_reference (NamedType name) = true

abbrev pub field_invariants : JavaField → List PlainSpec
field_invariants f = cond (holds_reference f.ty.written) (cond (has_mark is_nullable f.specs) [] (map not_null f.names)) []

abbrev pub member_invariants : JavaMember → List PlainSpec
member_invariants (FieldMember f) = written_invariants (all_clauses f.specs) ++ field_invariants f
member_invariants (ConstantMember c) = written_invariants (all_clauses c.specs)
member_invariants (MethodMember m) = written_invariants (all_clauses m.specs)

-- in the order of the text
abbrev pub class_invariants : JavaClass → List PlainSpec
class_invariants c = flat_map member_invariants c.members ++ written_invariants (clauses_at c.end)
