-- The form by what was made of the program's one method: its cases and its code.
use Rattle.std.specs.Prelude.{ℕ, ◌&&◌, ◌==◌, Bool, false, List, [], ◌∷◌, map, Option, Some, None}
use Rattle.jd_syntax.specs.Codes.{PlainCode}
use Rattle.jd_syntax.specs.JavaTrees.{JavaMember, FieldMember, ConstantMember, MethodMember, JavaMethod, JavaClass}
use Rattle.jd_syntax.specs.SpecTrees.{PlainClause}
use Rattle.jd_bodies.specs.Bodies.{PlainBody}
use Rattle.jd_jml_written.specs.Marked.{PlainCase}
use Rattle.jd_jmlcheck.specs.Specified.{PlainMethodSpec}
use Rattle.jd_first_form.specs.Forms.{are_one_case, has_signature, is_straight}

abbrev pub clauses_of_case : PlainCase → List PlainClause
clauses_of_case c = c.clauses

-- of the first method's specification and body
abbrev pub is_form_of : JavaMethod → List PlainMethodSpec → List PlainBody → Bool
is_form_of m [] bs = false
is_form_of m (s ∷ ss) [] = false
is_form_of m (s ∷ ss) (b ∷ bs) = has_signature m && (are_one_case (map clauses_of_case s.cases) && is_straight b.code_)

abbrev pub are_form_of : List JavaMember → List PlainMethodSpec → List PlainBody → Bool
are_form_of [] ss bs = false
are_form_of (FieldMember f ∷ ms) ss bs = false
are_form_of (ConstantMember c ∷ ms) ss bs = false
are_form_of (MethodMember m ∷ []) ss bs = is_form_of m ss bs
are_form_of (MethodMember m ∷ n ∷ ms) ss bs = false

-- with so many invariants
abbrev pub is_class_form_of : Option JavaClass → ℕ → List PlainMethodSpec → List PlainBody → Bool
is_class_form_of None invariants ss bs = false
is_class_form_of (Some c) invariants ss bs = invariants == 0 && are_form_of c.members ss bs
