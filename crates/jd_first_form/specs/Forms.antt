-- Which programs have an obligation by now: one class in one file, with one static method, of ints, whose body assigns and returns simple
-- values, and which has one case that requires and ensures comparisons.
use Rattle.std.specs.Prelude.{ℕ, suc, ◌&&◌, ◌==◌, nat_le, Bool, true, false, List, [], ◌∷◌, length, Option, Some, None}
use Rattle.std.specs.List.{list_all}
use Rattle.jd_syntax.specs.Codes.{PlainCode, Done, Then}
use Rattle.jd_syntax.specs.JavaTypes.{PlainType, IntType, BooleanType, IntArrayType, NamedType}
use Rattle.jd_syntax.specs.JavaTrees.{JavaParameter, JavaResult, Void, Gives, OfConstructor, JavaMethod, JavaMember, FieldMember, ConstantMember, MethodMember, JavaClass, JavaUnit}
use Rattle.jd_syntax.specs.SpecTrees.{PlainClause}
use Rattle.jd_jclasses.specs.Classes.{parents}
use Rattle.jd_bodies.specs.Bodies.{body_of}
use Rattle.jd_bodies.specs.Declarations.{Declarations}
use Rattle.jd_specifications.specs.WrittenCases.{cases_of}
use Rattle.jd_jml_written.specs.Marked.{class_invariants}
use Rattle.jd_programs.specs.Programs.{class_tree}
use Rattle.jd_first_form.specs.Conditions.{all_comparisons, are_few}
use Rattle.jd_first_form.specs.Steps.{is_step}

-- ---- how much such a program has at most

abbrev pub parameter_limit : ℕ
parameter_limit = 20

abbrev pub step_limit : ℕ
step_limit = 100

abbrev pub comparison_limit : ℕ
comparison_limit = 100

-- ---- its method

abbrev pub is_int : PlainType → Bool
is_int IntType = true
is_int BooleanType = false
is_int IntArrayType = false
is_int (NamedType name) = false

abbrev pub takes_int : JavaParameter → Bool
takes_int x = is_int x.ty.written

abbrev pub gives_int : JavaResult → Bool
gives_int Void = false
gives_int (Gives w) = is_int w.written
gives_int OfConstructor = false

abbrev pub has_signature : JavaMethod → Bool
has_signature m = m.is_static && (gives_int m.result && (nat_le (length m.parameters) parameter_limit && list_all takes_int m.parameters))

-- its contract is one case
abbrev pub are_one_case : List (List PlainClause) → Bool
are_one_case [] = false
are_one_case (cs ∷ []) = are_few comparison_limit (all_comparisons cs)
are_one_case (cs ∷ ds ∷ rest) = false

abbrev pub statement_count : PlainCode → ℕ
statement_count Done = 0
statement_count (Then s c) = suc (statement_count c)

abbrev pub all_steps : PlainCode → Bool
all_steps Done = true
all_steps (Then s c) = is_step s && all_steps c

abbrev pub is_straight : PlainCode → Bool
is_straight c = nat_le (statement_count c) step_limit && all_steps c

-- ---- the program; the class comes behind the ten that are always there

abbrev pub class_count : ℕ
class_count = 11

abbrev pub class_number : ℕ
class_number = 10

module _ (d : Declarations) where
  abbrev pub is_method_form : JavaMethod → Bool
  is_method_form m = has_signature m && (are_one_case (cases_of m.specs) && is_straight (body_of d class_number m).code_)

  abbrev pub is_member_form : List JavaMember → Bool
  is_member_form [] = false
  is_member_form (FieldMember f ∷ ms) = false
  is_member_form (ConstantMember c ∷ ms) = false
  is_member_form (MethodMember m ∷ []) = is_method_form m
  is_member_form (MethodMember m ∷ n ∷ ms) = false

  -- it has no invariant
  abbrev pub is_class_form : Option JavaClass → Bool
  is_class_form None = false
  is_class_form (Some c) = length (class_invariants c) == 0 && is_member_form c.members

  abbrev pub is_first_form : List JavaUnit → Bool
  is_first_form units = length units == 1 && (length (parents units) == class_count && is_class_form (class_tree units class_number))
