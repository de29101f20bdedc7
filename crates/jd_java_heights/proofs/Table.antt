-- What the nodes of each production tell, in the order of the productions.
use Rattle.std.proofs.Common.{inl, inr, [], drop, true, false, refl, ap}
use Rattle.jd_java_grammar.specs.Productions.{java_productions}
use Rattle.jd_java_tokens.specs.Heads.{place_of, text_of, number_of}
use Rattle.jd_syntax.specs.JavaTypes.{BooleanType}
use Rattle.jd_syntax.specs.JavaTrees as java
use Rattle.jd_syntax.specs.declared.java.InfixOperator.TheVariants as infixes
use Rattle.jd_syntax.specs.declared.java.PrefixOperator.TheVariants as prefixes
use Rattle.jd_syntax.specs.declared.java.CountOperator.TheVariants as counts
use Rattle.jd_syntax.specs.declared.java.AssignmentOperator.TheVariants as assignments
use Rattle.jd_java_values.specs.Values as values
use Rattle.jd_java_values.specs.Heads.{type_at}
use Rattle.jd_java_values.specs.Parts.{expression_of, type_of, static_of, blocks_of, members_of, end_of, classes_of}
use Rattle.jd_java_statements.specs.Meaning.{loop_block}
use Rattle.jd_java_attributes.specs.Judging.{plain_forms}
use Rattle.jd_java_heights.proofs.Levels.{nothing_is, equal_to, only1, only2, only3, only4, both_is, low_is}
use Rattle.jd_java_heights.proofs.Sizes.{highest_in_declared, declared_height, int_in, named_in, member_highest, member_height_is, body_highest, body_height, members_highest, members_behind, classes_highest, classes_behind}
use Rattle.jd_java_heights.proofs.Roles.{expr_is, optional_is, statement_is, no_tail}
use Rattle.jd_java_heights.proofs.Lines.{tails, operand, name_operand, name_effect, this_operand, inside_operand, begun_operand, passed, literal, counted, prefixed, before, alone, count, choice, member, cast_is, int_cast_is, cast_operand_is, suffixes_there, parenthesis_is, array_is, object_is, arguments_more, called, variables1, variables2, labelled, local_behind, effect_behind, named_stmt, effect_named, start_variables, start_effects, named_start_is, effects_start, statement_passed, annotated_is, labelled_is, if_is, while_is, for_is, statements_is, super_is, try_is, rescue_is, finally_is, handlers_is, single_is}
use Rattle.jd_java_heights.proofs.Rows.{Each}

-- ---- the productions from that name on; the last ones come first

from_identifier : Each 224 (drop 224 java_productions)
from_identifier = (
  λ ts parts marks h q. low_is (plain_forms marks) (nothing_is h.0) (nothing_is h.1) (nothing_is h.2) (nothing_is h.3),
  tt,
)

from_more_arguments : Each 216 (drop 216 java_productions)
from_more_arguments = (
  λ ts parts marks h q. arguments_more parts (plain_forms marks) h.0 h.1.0 (nothing_is h.1.1.0) (nothing_is h.1.1.1),
  (
    λ ts parts marks h q. ([], refl, low_is (plain_forms marks) (nothing_is h.0) (nothing_is h.1) (nothing_is h.2) (nothing_is h.3)),
    (
      λ ts parts marks h q. member parts (plain_forms marks) h.0 h.1.0 h.1.1.0 (no_tail h.1.1.1.0 h.1.1.1.4),
      (
        λ ts parts marks h q. before (values.Element (expression_of parts.first)) parts (plain_forms marks) (expr_is parts.first marks.first.form h.0) h.1.0 (no_tail h.1.1.0 h.1.1.4) (no_tail h.1.1.1 h.1.1.5),
        (
          λ ts parts marks h q. tails parts (plain_forms marks) (no_tail h.0 h.4) (no_tail h.1 h.5) (no_tail h.2 h.6) (no_tail h.3 h.7),
          (
            λ ts parts marks h q. count (values.Count counts.Increment) (plain_forms marks) refl (nothing_is h.0) (nothing_is h.1) (nothing_is h.2) (nothing_is h.3),
            (
              λ ts parts marks h q. count (values.Count counts.Decrement) (plain_forms marks) refl (nothing_is h.0) (nothing_is h.1) (nothing_is h.2) (nothing_is h.3),
              (
                λ ts parts marks h q. tails parts (plain_forms marks) (no_tail h.0 h.4) (no_tail h.1 h.5) (no_tail h.2 h.6) (no_tail h.3 h.7),
                from_identifier,
              ),
            ),
          ),
        ),
      ),
    ),
  ),
)

from_creation : Each 207 (drop 207 java_productions)
from_creation = (
  λ ts parts marks h q. object_is parts (plain_forms marks) h.0 h.1.0 h.1.1.0 h.1.1.1.0,
  (
    λ ts parts marks h q. array_is parts (plain_forms marks) h.0 h.1.0 (no_tail h.1.1.0 h.1.1.4) (no_tail h.1.1.1 h.1.1.5),
    (
      λ ts parts marks h q. tails parts (plain_forms marks) h.0 h.1.0 (no_tail h.1.1.0 h.1.1.4) (no_tail h.1.1.1 h.1.1.5),
      (
        λ ts parts marks h q. tails parts (plain_forms marks) (no_tail h.0 h.4) (no_tail h.1 h.5) (no_tail h.2 h.6) (no_tail h.3 h.7),
        (
          λ ts parts marks h q. member parts (plain_forms marks) h.0 h.1.0 h.1.1.0 (no_tail h.1.1.1.0 h.1.1.1.4),
          (
            λ ts parts marks h q. called parts (plain_forms marks) h.0 (nothing_is h.1.0) (nothing_is h.1.1) (nothing_is h.1.2),
            (
              λ ts parts marks h q. low_is (plain_forms marks) (nothing_is h.0) (nothing_is h.1) (nothing_is h.2) (nothing_is h.3),
              (
                λ ts parts marks h q. ([], refl, low_is (plain_forms marks) (nothing_is h.0) (nothing_is h.1) (nothing_is h.2) (nothing_is h.3)),
                (
                  λ ts parts marks h q. arguments_more parts (plain_forms marks) h.0 h.1.0 (nothing_is h.1.1.0) (nothing_is h.1.1.1),
                  from_more_arguments,
                ),
              ),
            ),
          ),
        ),
      ),
    ),
  ),
)

from_parenthesis : Each 196 (drop 196 java_productions)
from_parenthesis = (
  λ ts parts marks h q. int_cast_is ts parts (plain_forms marks) h.0 (nothing_is h.1.0) (nothing_is h.1.1) (nothing_is h.1.2),
  (
    λ ts parts marks h q. cast_is (type_at ts BooleanType) parts (plain_forms marks) h.0 (nothing_is h.1.0) (nothing_is h.1.1) (nothing_is h.1.2),
    (
      λ ts parts marks h q. parenthesis_is parts (plain_forms marks) h.0 h.1.0 (nothing_is h.1.1.0) (nothing_is h.1.1.1) q,
      (
        λ ts parts marks h q. inl (passed parts (plain_forms marks) h.0 (nothing_is h.1.0) (nothing_is h.1.1) (nothing_is h.1.2)),
        (
          λ ts parts marks h q. inr (expression_of parts.first, refl, only1 (plain_forms marks) (expr_is parts.first marks.first.form h.0) (nothing_is h.1.0) (nothing_is h.1.1) (nothing_is h.1.2)),
          (
            λ ts parts marks h q. cast_operand_is parts (plain_forms marks) h.0,
            (
              λ ts parts marks h q. suffixes_there parts (plain_forms marks) h.0 h.1.0 (no_tail h.1.1.0 h.1.1.4) (no_tail h.1.1.1 h.1.1.5),
              (
                λ ts parts marks h q. literal (java.Integer (place_of 0 ts) (number_of ts)) (plain_forms marks) refl (nothing_is h.0) (nothing_is h.1) (nothing_is h.2) (nothing_is h.3),
                (
                  λ ts parts marks h q. literal (java.Boolean (place_of 0 ts) true) (plain_forms marks) refl (nothing_is h.0) (nothing_is h.1) (nothing_is h.2) (nothing_is h.3),
                  (
                    λ ts parts marks h q. literal (java.Boolean (place_of 0 ts) false) (plain_forms marks) refl (nothing_is h.0) (nothing_is h.1) (nothing_is h.2) (nothing_is h.3),
                    (
                      λ ts parts marks h q. literal (java.Null (place_of 0 ts)) (plain_forms marks) refl (nothing_is h.0) (nothing_is h.1) (nothing_is h.2) (nothing_is h.3),
                      from_creation,
                    ),
                  ),
                ),
              ),
            ),
          ),
        ),
      ),
    ),
  ),
)

from_unary : Each 183 (drop 183 java_productions)
from_unary = (
  λ ts parts marks h q. prefixed (place_of 0 ts) prefixes.Plus parts (plain_forms marks) h.0 (nothing_is h.1.0) (nothing_is h.1.1) (nothing_is h.1.2),
  (
    λ ts parts marks h q. prefixed (place_of 0 ts) prefixes.Minus parts (plain_forms marks) h.0 (nothing_is h.1.0) (nothing_is h.1.1) (nothing_is h.1.2),
    (
      λ ts parts marks h q. counted (place_of 0 ts) (prefixes.Count counts.Increment) parts (plain_forms marks) h.0,
      (
        λ ts parts marks h q. counted (place_of 0 ts) (prefixes.Count counts.Decrement) parts (plain_forms marks) h.0,
        (
          λ ts parts marks h q. passed parts (plain_forms marks) h.0 (nothing_is h.1.0) (nothing_is h.1.1) (nothing_is h.1.2),
          (
            λ ts parts marks h q. literal (java.Integer (place_of 0 ts) (number_of ts)) (plain_forms marks) refl (nothing_is h.0) (nothing_is h.1) (nothing_is h.2) (nothing_is h.3),
            (
              λ ts parts marks h q. passed parts (plain_forms marks) h.0 (nothing_is h.1.0) (nothing_is h.1.1) (nothing_is h.1.2),
              (
                λ ts parts marks h q. prefixed (place_of 0 ts) prefixes.Not parts (plain_forms marks) h.0 (nothing_is h.1.0) (nothing_is h.1.1) (nothing_is h.1.2),
                (
                  λ ts parts marks h q. begun_operand (place_of 0 ts) parts (plain_forms marks) h.0 (nothing_is h.1.0) (nothing_is h.1.1) (nothing_is h.1.2),
                  (
                    λ ts parts marks h q. name_operand (place_of 0 ts) (text_of ts) parts (plain_forms marks) h.0 h.1.0 h.1.1.0 (no_tail h.1.1.1.0 h.1.1.1.4),
                    (
                      λ ts parts marks h q. operand parts (plain_forms marks) h.0 h.1.0 h.1.1.0 (no_tail h.1.1.1.0 h.1.1.1.4),
                      (
                        λ ts parts marks h q. this_operand (place_of 0 ts) parts (plain_forms marks) h.0 h.1.0 (no_tail h.1.1.0 h.1.1.4) (no_tail h.1.1.1 h.1.1.5),
                        (
                          λ ts parts marks h q. begun_operand (place_of 0 ts) parts (plain_forms marks) h.0 (nothing_is h.1.0) (nothing_is h.1.1) (nothing_is h.1.2),
                          from_parenthesis,
                        ),
                      ),
                    ),
                  ),
                ),
              ),
            ),
          ),
        ),
      ),
    ),
  ),
)

from_reference_type : Each 172 (drop 172 java_productions)
from_reference_type = (
  λ ts parts marks h q. low_is (plain_forms marks) (nothing_is h.0) (nothing_is h.1) (nothing_is h.2) (nothing_is h.3),
  (
    λ ts parts marks h q. low_is (plain_forms marks) (nothing_is h.0) (nothing_is h.1) (nothing_is h.2) (nothing_is h.3),
    (
      λ ts parts marks h q. operand parts (plain_forms marks) h.0 h.1.0 (no_tail h.1.1.0 h.1.1.4) (no_tail h.1.1.1 h.1.1.5),
      (
        λ ts parts marks h q. before (values.Infix infixes.Add (expression_of parts.first)) parts (plain_forms marks) (expr_is parts.first marks.first.form h.0) h.1.0 (no_tail h.1.1.0 h.1.1.4) (no_tail h.1.1.1 h.1.1.5),
        (
          λ ts parts marks h q. before (values.Infix infixes.Subtract (expression_of parts.first)) parts (plain_forms marks) (expr_is parts.first marks.first.form h.0) h.1.0 (no_tail h.1.1.0 h.1.1.4) (no_tail h.1.1.1 h.1.1.5),
          (
            λ ts parts marks h q. tails parts (plain_forms marks) (no_tail h.0 h.4) (no_tail h.1 h.5) (no_tail h.2 h.6) (no_tail h.3 h.7),
            (
              λ ts parts marks h q. operand parts (plain_forms marks) h.0 h.1.0 (no_tail h.1.1.0 h.1.1.4) (no_tail h.1.1.1 h.1.1.5),
              (
                λ ts parts marks h q. before (values.Infix infixes.Multiply (expression_of parts.first)) parts (plain_forms marks) (expr_is parts.first marks.first.form h.0) h.1.0 (no_tail h.1.1.0 h.1.1.4) (no_tail h.1.1.1 h.1.1.5),
                (
                  λ ts parts marks h q. before (values.Infix infixes.Divide (expression_of parts.first)) parts (plain_forms marks) (expr_is parts.first marks.first.form h.0) h.1.0 (no_tail h.1.1.0 h.1.1.4) (no_tail h.1.1.1 h.1.1.5),
                  (
                    λ ts parts marks h q. before (values.Infix infixes.Remainder (expression_of parts.first)) parts (plain_forms marks) (expr_is parts.first marks.first.form h.0) h.1.0 (no_tail h.1.1.0 h.1.1.4) (no_tail h.1.1.1 h.1.1.5),
                    (
                      λ ts parts marks h q. tails parts (plain_forms marks) (no_tail h.0 h.4) (no_tail h.1 h.5) (no_tail h.2 h.6) (no_tail h.3 h.7),
                      from_unary,
                    ),
                  ),
                ),
              ),
            ),
          ),
        ),
      ),
    ),
  ),
)

from_equality : Each 161 (drop 161 java_productions)
from_equality = (
  λ ts parts marks h q. operand parts (plain_forms marks) h.0 h.1.0 (no_tail h.1.1.0 h.1.1.4) (no_tail h.1.1.1 h.1.1.5),
  (
    λ ts parts marks h q. before (values.Infix infixes.Equal (expression_of parts.first)) parts (plain_forms marks) (expr_is parts.first marks.first.form h.0) h.1.0 (no_tail h.1.1.0 h.1.1.4) (no_tail h.1.1.1 h.1.1.5),
    (
      λ ts parts marks h q. before (values.Infix infixes.NotEqual (expression_of parts.first)) parts (plain_forms marks) (expr_is parts.first marks.first.form h.0) h.1.0 (no_tail h.1.1.0 h.1.1.4) (no_tail h.1.1.1 h.1.1.5),
      (
        λ ts parts marks h q. tails parts (plain_forms marks) (no_tail h.0 h.4) (no_tail h.1 h.5) (no_tail h.2 h.6) (no_tail h.3 h.7),
        (
          λ ts parts marks h q. operand parts (plain_forms marks) h.0 h.1.0 (no_tail h.1.1.0 h.1.1.4) (no_tail h.1.1.1 h.1.1.5),
          (
            λ ts parts marks h q. before (values.Infix infixes.Less (expression_of parts.first)) parts (plain_forms marks) (expr_is parts.first marks.first.form h.0) h.1.0 (no_tail h.1.1.0 h.1.1.4) (no_tail h.1.1.1 h.1.1.5),
            (
              λ ts parts marks h q. before (values.Infix infixes.LessOrEqual (expression_of parts.first)) parts (plain_forms marks) (expr_is parts.first marks.first.form h.0) h.1.0 (no_tail h.1.1.0 h.1.1.4) (no_tail h.1.1.1 h.1.1.5),
              (
                λ ts parts marks h q. before (values.Infix infixes.Greater (expression_of parts.first)) parts (plain_forms marks) (expr_is parts.first marks.first.form h.0) h.1.0 (no_tail h.1.1.0 h.1.1.4) (no_tail h.1.1.1 h.1.1.5),
                (
                  λ ts parts marks h q. before (values.Infix infixes.GreaterOrEqual (expression_of parts.first)) parts (plain_forms marks) (expr_is parts.first marks.first.form h.0) h.1.0 (no_tail h.1.1.0 h.1.1.4) (no_tail h.1.1.1 h.1.1.5),
                  (
                    λ ts parts marks h q. before (values.InstanceOf (type_of parts.first)) parts (plain_forms marks) h.0 h.1.0 (no_tail h.1.1.0 h.1.1.4) (no_tail h.1.1.1 h.1.1.5),
                    (
                      λ ts parts marks h q. tails parts (plain_forms marks) (no_tail h.0 h.4) (no_tail h.1 h.5) (no_tail h.2 h.6) (no_tail h.3 h.7),
                      from_reference_type,
                    ),
                  ),
                ),
              ),
            ),
          ),
        ),
      ),
    ),
  ),
)

from_conditional : Each 152 (drop 152 java_productions)
from_conditional = (
  λ ts parts marks h q. operand parts (plain_forms marks) h.0 h.1.0 (no_tail h.1.1.0 h.1.1.4) (no_tail h.1.1.1 h.1.1.5),
  (
    λ ts parts marks h q. choice (expression_of parts.first) (expression_of parts.second) (plain_forms marks) (expr_is parts.first marks.first.form h.0) (expr_is parts.second marks.second.form h.1.0) (nothing_is h.1.1.0) (nothing_is h.1.1.1),
    (
      λ ts parts marks h q. tails parts (plain_forms marks) (no_tail h.0 h.4) (no_tail h.1 h.5) (no_tail h.2 h.6) (no_tail h.3 h.7),
      (
        λ ts parts marks h q. operand parts (plain_forms marks) h.0 h.1.0 (no_tail h.1.1.0 h.1.1.4) (no_tail h.1.1.1 h.1.1.5),
        (
          λ ts parts marks h q. before (values.Infix infixes.OrElse (expression_of parts.first)) parts (plain_forms marks) (expr_is parts.first marks.first.form h.0) h.1.0 (no_tail h.1.1.0 h.1.1.4) (no_tail h.1.1.1 h.1.1.5),
          (
            λ ts parts marks h q. tails parts (plain_forms marks) (no_tail h.0 h.4) (no_tail h.1 h.5) (no_tail h.2 h.6) (no_tail h.3 h.7),
            (
              λ ts parts marks h q. operand parts (plain_forms marks) h.0 h.1.0 (no_tail h.1.1.0 h.1.1.4) (no_tail h.1.1.1 h.1.1.5),
              (
                λ ts parts marks h q. before (values.Infix infixes.AndAlso (expression_of parts.first)) parts (plain_forms marks) (expr_is parts.first marks.first.form h.0) h.1.0 (no_tail h.1.1.0 h.1.1.4) (no_tail h.1.1.1 h.1.1.5),
                (
                  λ ts parts marks h q. tails parts (plain_forms marks) (no_tail h.0 h.4) (no_tail h.1 h.5) (no_tail h.2 h.6) (no_tail h.3 h.7),
                  from_equality,
                ),
              ),
            ),
          ),
        ),
      ),
    ),
  ),
)

from_expression : Each 144 (drop 144 java_productions)
from_expression = (
  λ ts parts marks h q. operand parts (plain_forms marks) h.0 h.1.0 (no_tail h.1.1.0 h.1.1.4) (no_tail h.1.1.1 h.1.1.5),
  (
    λ ts parts marks h q. alone (values.Assign assignments.Set (expression_of parts.first)) (plain_forms marks) (expr_is parts.first marks.first.form h.0) (nothing_is h.1.0) (nothing_is h.1.1) (nothing_is h.1.2),
    (
      λ ts parts marks h q. alone (values.Assign assignments.Add (expression_of parts.first)) (plain_forms marks) (expr_is parts.first marks.first.form h.0) (nothing_is h.1.0) (nothing_is h.1.1) (nothing_is h.1.2),
      (
        λ ts parts marks h q. alone (values.Assign assignments.Subtract (expression_of parts.first)) (plain_forms marks) (expr_is parts.first marks.first.form h.0) (nothing_is h.1.0) (nothing_is h.1.1) (nothing_is h.1.2),
        (
          λ ts parts marks h q. alone (values.Assign assignments.Multiply (expression_of parts.first)) (plain_forms marks) (expr_is parts.first marks.first.form h.0) (nothing_is h.1.0) (nothing_is h.1.1) (nothing_is h.1.2),
          (
            λ ts parts marks h q. alone (values.Assign assignments.Divide (expression_of parts.first)) (plain_forms marks) (expr_is parts.first marks.first.form h.0) (nothing_is h.1.0) (nothing_is h.1.1) (nothing_is h.1.2),
            (
              λ ts parts marks h q. alone (values.Assign assignments.Remainder (expression_of parts.first)) (plain_forms marks) (expr_is parts.first marks.first.form h.0) (nothing_is h.1.0) (nothing_is h.1.1) (nothing_is h.1.2),
              (
                λ ts parts marks h q. tails parts (plain_forms marks) (no_tail h.0 h.4) (no_tail h.1 h.5) (no_tail h.2 h.6) (no_tail h.3 h.7),
                from_conditional,
              ),
            ),
          ),
        ),
      ),
    ),
  ),
)

from_effect_creation : Each 133 (drop 133 java_productions)
from_effect_creation = (
  λ ts parts marks h q. object_is parts (plain_forms marks) h.0 h.1.0 h.1.1.0 h.1.1.1.0,
  (
    λ ts parts marks h q. array_is parts (plain_forms marks) h.0 h.1.0 h.1.1.0 (no_tail h.1.1.1.0 h.1.1.1.4),
    (
      λ ts parts marks h q. count (values.Count counts.Increment) (plain_forms marks) refl (nothing_is h.0) (nothing_is h.1) (nothing_is h.2) (nothing_is h.3),
      (
        λ ts parts marks h q. count (values.Count counts.Decrement) (plain_forms marks) refl (nothing_is h.0) (nothing_is h.1) (nothing_is h.2) (nothing_is h.3),
        (
          λ ts parts marks h q. alone (values.Assign assignments.Set (expression_of parts.first)) (plain_forms marks) (expr_is parts.first marks.first.form h.0) (nothing_is h.1.0) (nothing_is h.1.1) (nothing_is h.1.2),
          (
            λ ts parts marks h q. alone (values.Assign assignments.Add (expression_of parts.first)) (plain_forms marks) (expr_is parts.first marks.first.form h.0) (nothing_is h.1.0) (nothing_is h.1.1) (nothing_is h.1.2),
            (
              λ ts parts marks h q. alone (values.Assign assignments.Subtract (expression_of parts.first)) (plain_forms marks) (expr_is parts.first marks.first.form h.0) (nothing_is h.1.0) (nothing_is h.1.1) (nothing_is h.1.2),
              (
                λ ts parts marks h q. alone (values.Assign assignments.Multiply (expression_of parts.first)) (plain_forms marks) (expr_is parts.first marks.first.form h.0) (nothing_is h.1.0) (nothing_is h.1.1) (nothing_is h.1.2),
                (
                  λ ts parts marks h q. alone (values.Assign assignments.Divide (expression_of parts.first)) (plain_forms marks) (expr_is parts.first marks.first.form h.0) (nothing_is h.1.0) (nothing_is h.1.1) (nothing_is h.1.2),
                  (
                    λ ts parts marks h q. alone (values.Assign assignments.Remainder (expression_of parts.first)) (plain_forms marks) (expr_is parts.first marks.first.form h.0) (nothing_is h.1.0) (nothing_is h.1.1) (nothing_is h.1.2),
                    (
                      λ ts parts marks h q. tails parts (plain_forms marks) (no_tail h.0 h.4) (no_tail h.1 h.5) (no_tail h.2 h.6) (no_tail h.3 h.7),
                      from_expression,
                    ),
                  ),
                ),
              ),
            ),
          ),
        ),
      ),
    ),
  ),
)

from_effect : Each 124 (drop 124 java_productions)
from_effect = (
  λ ts parts marks h q. effect_named (place_of 0 ts) (text_of ts) parts (plain_forms marks) h.0 (nothing_is h.1.0) (nothing_is h.1.1) (nothing_is h.1.2),
  (
    λ ts parts marks h q. passed parts (plain_forms marks) h.0 (nothing_is h.1.0) (nothing_is h.1.1) (nothing_is h.1.2),
    (
      λ ts parts marks h q. name_effect parts (plain_forms marks) h.0 h.1.0 h.1.1.0 (no_tail h.1.1.1.0 h.1.1.1.4),
      (
        λ ts parts marks h q. counted (place_of 0 ts) (prefixes.Count counts.Increment) parts (plain_forms marks) h.0,
        (
          λ ts parts marks h q. counted (place_of 0 ts) (prefixes.Count counts.Decrement) parts (plain_forms marks) h.0,
          (
            λ ts parts marks h q. operand parts (plain_forms marks) h.0 h.1.0 h.1.1.0 (no_tail h.1.1.1.0 h.1.1.1.4),
            (
              λ ts parts marks h q. this_operand (place_of 0 ts) parts (plain_forms marks) h.0 h.1.0 (no_tail h.1.1.0 h.1.1.4) (no_tail h.1.1.1 h.1.1.5),
              (
                λ ts parts marks h q. inside_operand (place_of 0 ts) parts (plain_forms marks) h.0 h.1.0 h.1.1.0 (no_tail h.1.1.1.0 h.1.1.1.4),
                (
                  λ ts parts marks h q. begun_operand (place_of 0 ts) parts (plain_forms marks) h.0 (nothing_is h.1.0) (nothing_is h.1.1) (nothing_is h.1.2),
                  from_effect_creation,
                ),
              ),
            ),
          ),
        ),
      ),
    ),
  ),
)

from_rescue : Each 115 (drop 115 java_productions)
from_rescue = (
  λ ts parts marks h q. rescue_is parts (plain_forms marks) h.0 h.1.0 h.1.1.0 (nothing_is h.1.1.1.0),
  (
    λ ts parts marks h q. finally_is parts (plain_forms marks) h.0 (nothing_is h.1.0) (nothing_is h.1.1) (nothing_is h.1.2),
    (
      λ ts parts marks h q. handlers_is parts (plain_forms marks) h.0 h.1.0 (nothing_is h.1.1.0) (nothing_is h.1.1.1),
      (
        λ ts parts marks h q. low_is (plain_forms marks) (nothing_is h.0) (nothing_is h.1) (nothing_is h.2) (nothing_is h.3),
        (
          λ ts parts marks h q. single_is (only4 (plain_forms marks) h.0 h.1.0 h.1.1.0 h.1.1.1.0),
          (
            λ ts parts marks h q. low_is (plain_forms marks) (nothing_is h.0) (nothing_is h.1) (nothing_is h.2) (nothing_is h.3),
            (
              λ ts parts marks h q. low_is (plain_forms marks) (nothing_is h.0) (nothing_is h.1) (nothing_is h.2) (nothing_is h.3),
              (
                λ ts parts marks h q. only1 (plain_forms marks) h.0 (nothing_is h.1.0) (nothing_is h.1.1) (nothing_is h.1.2),
                (
                  λ ts parts marks h q. low_is (plain_forms marks) (nothing_is h.0) (nothing_is h.1) (nothing_is h.2) (nothing_is h.3),
                  from_effect,
                ),
              ),
            ),
          ),
        ),
      ),
    ),
  ),
)

from_for_update : Each 107 (drop 107 java_productions)
from_for_update = (
  λ ts parts marks h q. ([], refl, low_is (plain_forms marks) (nothing_is h.0) (nothing_is h.1) (nothing_is h.2) (nothing_is h.3)),
  (
    λ ts parts marks h q. arguments_more parts (plain_forms marks) h.0 h.1.0 (nothing_is h.1.1.0) (nothing_is h.1.1.1),
    (
      λ ts parts marks h q. arguments_more parts (plain_forms marks) h.0 h.1.0 (nothing_is h.1.1.0) (nothing_is h.1.1.1),
      (
        λ ts parts marks h q. ([], refl, low_is (plain_forms marks) (nothing_is h.0) (nothing_is h.1) (nothing_is h.2) (nothing_is h.3)),
        (
          λ ts parts marks h q. low_is (plain_forms marks) h.0 (nothing_is h.1.0) (nothing_is h.1.1) (nothing_is h.1.2),
          (
            λ ts parts marks h q. low_is (plain_forms marks) (nothing_is h.0) (nothing_is h.1) (nothing_is h.2) (nothing_is h.3),
            (
              λ ts parts marks h q. low_is (plain_forms marks) (nothing_is h.0) (nothing_is h.1) (nothing_is h.2) (nothing_is h.3),
              (
                λ ts parts marks h q. only1 (plain_forms marks) (optional_is parts.first marks.first.form h.0) (nothing_is h.1.0) (nothing_is h.1.1) (nothing_is h.1.2),
                from_rescue,
              ),
            ),
          ),
        ),
      ),
    ),
  ),
)

from_for_init : Each 98 (drop 98 java_productions)
from_for_init = (
  λ ts parts marks h q. low_is (plain_forms marks) (nothing_is h.0) (nothing_is h.1) (nothing_is h.2) (nothing_is h.3),
  (
    λ ts parts marks h q. variables2 parts (plain_forms marks) h.0 h.1.0 h.1.1.0 h.1.1.1.0,
    (
      λ ts parts marks h q. variables1 parts (plain_forms marks) h.0 h.1.0 h.1.1.0 (nothing_is h.1.1.1.0),
      (
        λ ts parts marks h q. named_start_is (place_of 0 ts) (text_of ts) parts (plain_forms marks) h.0 (nothing_is h.1.0) (nothing_is h.1.1) (nothing_is h.1.2),
        (
          λ ts parts marks h q. effects_start parts (plain_forms marks) h.0 h.1.0 (nothing_is h.1.1.0) (nothing_is h.1.1.1),
          (
            λ ts parts marks h q. start_variables parts (plain_forms marks) h.0 (nothing_is h.1.0) (nothing_is h.1.1) (nothing_is h.1.2),
            (
              λ ts parts marks h q. start_effects parts (plain_forms marks) h.0 h.1.0 (nothing_is h.1.1.0) (nothing_is h.1.1.1),
              (
                λ ts parts marks h q. low_is (plain_forms marks) (nothing_is h.0) (nothing_is h.1) (nothing_is h.2) (nothing_is h.3),
                (
                  λ ts parts marks h q. only1 (plain_forms marks) (optional_is parts.first marks.first.form h.0) (nothing_is h.1.0) (nothing_is h.1.1) (nothing_is h.1.2),
                  from_for_update,
                ),
              ),
            ),
          ),
        ),
      ),
    ),
  ),
)

from_else : Each 90 (drop 90 java_productions)
from_else = (
  λ ts parts marks h q. only1 (plain_forms marks) (statement_is parts.first marks.first.form h.0) (nothing_is h.1.0) (nothing_is h.1.1) (nothing_is h.1.2),
  (
    λ ts parts marks h q. low_is (plain_forms marks) (nothing_is h.0) (nothing_is h.1) (nothing_is h.2) (nothing_is h.3),
    (
      λ ts parts marks h q. while_is (place_of 0 ts) parts (plain_forms marks) h.0 h.1.0 (nothing_is h.1.1.0) (nothing_is h.1.1.1),
      (
        λ ts parts marks h q. for_is (place_of 0 ts) parts (plain_forms marks) h.0 h.1.0 h.1.1.0 h.1.1.1.0,
        (
          λ ts parts marks h q. statement_passed parts (plain_forms marks) h.0 (nothing_is h.1.0) (nothing_is h.1.1) (nothing_is h.1.2),
          (
            λ ts parts marks h q. labelled_is (place_of 0 ts) (text_of ts) parts (plain_forms marks) h.0 (nothing_is h.1.0) (nothing_is h.1.1) (nothing_is h.1.2),
            (
              λ ts parts marks h q. annotated_is (loop_block ts) parts (plain_forms marks) h.0 (nothing_is h.1.0) (nothing_is h.1.1) (nothing_is h.1.2),
              (
                λ ts parts marks h q. statement_passed parts (plain_forms marks) h.0 (nothing_is h.1.0) (nothing_is h.1.1) (nothing_is h.1.2),
                from_for_init,
              ),
            ),
          ),
        ),
      ),
    ),
  ),
)

from_statement_without_name : Each 79 (drop 79 java_productions)
from_statement_without_name = (
  λ ts parts marks h q. (_, refl, only1 (plain_forms marks) h.0 (nothing_is h.1.0) (nothing_is h.1.1) (nothing_is h.1.2)),
  (
    λ ts parts marks h q. (_, refl, low_is (plain_forms marks) (nothing_is h.0) (nothing_is h.1) (nothing_is h.2) (nothing_is h.3)),
    (
      λ ts parts marks h q. (_, refl, only1 (plain_forms marks) (expr_is parts.first marks.first.form h.0) (nothing_is h.1.0) (nothing_is h.1.1) (nothing_is h.1.2)),
      (
        λ ts parts marks h q. if_is (place_of 0 ts) parts (plain_forms marks) h.0 h.1.0 h.1.1.0 (nothing_is h.1.1.1.0),
        (
          λ ts parts marks h q. statement_passed parts (plain_forms marks) h.0 (nothing_is h.1.0) (nothing_is h.1.1) (nothing_is h.1.2),
          (
            λ ts parts marks h q. annotated_is (loop_block ts) parts (plain_forms marks) h.0 (nothing_is h.1.0) (nothing_is h.1.1) (nothing_is h.1.2),
            (
              λ ts parts marks h q. (_, refl, low_is (plain_forms marks) h.0 (nothing_is h.1.0) (nothing_is h.1.1) (nothing_is h.1.2)),
              (
                λ ts parts marks h q. (_, refl, low_is (plain_forms marks) h.0 (nothing_is h.1.0) (nothing_is h.1.1) (nothing_is h.1.2)),
                (
                  λ ts parts marks h q. (_, refl, only1 (plain_forms marks) h.0 (nothing_is h.1.0) (nothing_is h.1.1) (nothing_is h.1.2)),
                  (
                    λ ts parts marks h q. (_, refl, only1 (plain_forms marks) (expr_is parts.first marks.first.form h.0) (nothing_is h.1.0) (nothing_is h.1.1) (nothing_is h.1.2)),
                    (
                      λ ts parts marks h q. try_is (place_of 0 ts) parts (plain_forms marks) h.0 h.1.0 (nothing_is h.1.1.0) (nothing_is h.1.1.1),
                      from_else,
                    ),
                  ),
                ),
              ),
            ),
          ),
        ),
      ),
    ),
  ),
)

from_variables : Each 70 (drop 70 java_productions)
from_variables = (
  λ ts parts marks h q. (_, refl, variables1 parts (plain_forms marks) h.0 h.1.0 h.1.1.0 (nothing_is h.1.1.1.0)),
  (
    λ ts parts marks h q. only1 (plain_forms marks) (optional_is parts.first marks.first.form h.0) (nothing_is h.1.0) (nothing_is h.1.1) (nothing_is h.1.2),
    (
      λ ts parts marks h q. low_is (plain_forms marks) (nothing_is h.0) (nothing_is h.1) (nothing_is h.2) (nothing_is h.3),
      (
        λ ts parts marks h q. (_, refl, variables1 parts (plain_forms marks) h.0 h.1.0 h.1.1.0 (nothing_is h.1.1.1.0)),
        (
          λ ts parts marks h q. ([], refl, low_is (plain_forms marks) (nothing_is h.0) (nothing_is h.1) (nothing_is h.2) (nothing_is h.3)),
          (
            λ ts parts marks h q. named_stmt (place_of 0 ts) (text_of ts) parts (plain_forms marks) h.0 (nothing_is h.1.0) (nothing_is h.1.1) (nothing_is h.1.2),
            (
              λ ts parts marks h q. statement_passed parts (plain_forms marks) h.0 (nothing_is h.1.0) (nothing_is h.1.1) (nothing_is h.1.2),
              (
                λ ts parts marks h q. labelled parts (plain_forms marks) h.0 (nothing_is h.1.0) (nothing_is h.1.1) (nothing_is h.1.2),
                (
                  λ ts parts marks h q. effect_behind parts (plain_forms marks) h.0 (nothing_is h.1.0) (nothing_is h.1.1) (nothing_is h.1.2),
                  from_statement_without_name,
                ),
              ),
            ),
          ),
        ),
      ),
    ),
  ),
)

from_block_statement : Each 62 (drop 62 java_productions)
from_block_statement = (
  λ ts parts marks h q. (_, refl, variables2 parts (plain_forms marks) h.0 h.1.0 h.1.1.0 h.1.1.1.0),
  (
    λ ts parts marks h q. (_, refl, variables2 parts (plain_forms marks) h.0 h.1.0 h.1.1.0 h.1.1.1.0),
    (
      λ ts parts marks h q. (_, refl, variables1 parts (plain_forms marks) h.0 h.1.0 h.1.1.0 (nothing_is h.1.1.1.0)),
      (
        λ ts parts marks h q. named_stmt (place_of 0 ts) (text_of ts) parts (plain_forms marks) h.0 (nothing_is h.1.0) (nothing_is h.1.1) (nothing_is h.1.2),
        (
          λ ts parts marks h q. statement_passed parts (plain_forms marks) h.0 (nothing_is h.1.0) (nothing_is h.1.1) (nothing_is h.1.2),
          (
            λ ts parts marks h q. labelled parts (plain_forms marks) h.0 (nothing_is h.1.0) (nothing_is h.1.1) (nothing_is h.1.2),
            (
              λ ts parts marks h q. local_behind parts (plain_forms marks) h.0 (nothing_is h.1.0) (nothing_is h.1.1) (nothing_is h.1.2),
              (
                λ ts parts marks h q. effect_behind parts (plain_forms marks) h.0 (nothing_is h.1.0) (nothing_is h.1.1) (nothing_is h.1.2),
                from_variables,
              ),
            ),
          ),
        ),
      ),
    ),
  ),
)

from_throws : Each 54 (drop 54 java_productions)
from_throws = (
  λ ts parts marks h q. low_is (plain_forms marks) h.0 h.1.0 (nothing_is h.1.1.0) (nothing_is h.1.1.1),
  (
    λ ts parts marks h q. low_is (plain_forms marks) (nothing_is h.0) (nothing_is h.1) (nothing_is h.2) (nothing_is h.3),
    (
      λ ts parts marks h q. only1 (plain_forms marks) h.0 (nothing_is h.1.0) (nothing_is h.1.1) (nothing_is h.1.2),
      (
        λ ts parts marks h q. super_is (place_of 0 ts) parts (plain_forms marks) h.0 h.1.0 (nothing_is h.1.1.0) (nothing_is h.1.1.1),
        (
          λ ts parts marks h q. only1 (plain_forms marks) h.0 (nothing_is h.1.0) (nothing_is h.1.1) (nothing_is h.1.2),
          (
            λ ts parts marks h q. only1 (plain_forms marks) h.0 (nothing_is h.1.0) (nothing_is h.1.1) (nothing_is h.1.2),
            (
              λ ts parts marks h q. low_is (plain_forms marks) (nothing_is h.0) (nothing_is h.1) (nothing_is h.2) (nothing_is h.3),
              (
                λ ts parts marks h q. statements_is parts (plain_forms marks) h.0 h.1.0 (nothing_is h.1.1.0) (nothing_is h.1.1.1),
                from_block_statement,
              ),
            ),
          ),
        ),
      ),
    ),
  ),
)

from_more_parameters : Each 46 (drop 46 java_productions)
from_more_parameters = (
  λ ts parts marks h q. low_is (plain_forms marks) h.0 h.1.0 (nothing_is h.1.1.0) (nothing_is h.1.1.1),
  (
    λ ts parts marks h q. low_is (plain_forms marks) (nothing_is h.0) (nothing_is h.1) (nothing_is h.2) (nothing_is h.3),
    (
      λ ts parts marks h q. low_is (plain_forms marks) h.0 h.1.0 h.1.1.0 h.1.1.1.0,
      (
        λ ts parts marks h q. low_is (plain_forms marks) h.0 (nothing_is h.1.0) (nothing_is h.1.1) (nothing_is h.1.2),
        (
          λ ts parts marks h q. low_is (plain_forms marks) (nothing_is h.0) (nothing_is h.1) (nothing_is h.2) (nothing_is h.3),
          (
            λ ts parts marks h q. low_is (plain_forms marks) (nothing_is h.0) (nothing_is h.1) (nothing_is h.2) (nothing_is h.3),
            (
              λ ts parts marks h q. low_is (plain_forms marks) (nothing_is h.0) (nothing_is h.1) (nothing_is h.2) (nothing_is h.3),
              (
                λ ts parts marks h q. low_is (plain_forms marks) (nothing_is h.0) (nothing_is h.1) (nothing_is h.2) (nothing_is h.3),
                from_throws,
              ),
            ),
          ),
        ),
      ),
    ),
  ),
)

from_magnitude : Each 37 (drop 37 java_productions)
from_magnitude = (
  λ ts parts marks h q. low_is (plain_forms marks) (nothing_is h.0) (nothing_is h.1) (nothing_is h.2) (nothing_is h.3),
  (
    λ ts parts marks h q. low_is (plain_forms marks) (nothing_is h.0) (nothing_is h.1) (nothing_is h.2) (nothing_is h.3),
    (
      λ ts parts marks h q. only1 (plain_forms marks) h.0 (nothing_is h.1.0) (nothing_is h.1.1) (nothing_is h.1.2),
      (
        λ ts parts marks h q. low_is (plain_forms marks) h.0 (nothing_is h.1.0) (nothing_is h.1.1) (nothing_is h.1.2),
        (
          λ ts parts marks h q. low_is (plain_forms marks) h.0 h.1.0 (nothing_is h.1.1.0) (nothing_is h.1.1.1),
          (
            λ ts parts marks h q. low_is (plain_forms marks) (nothing_is h.0) (nothing_is h.1) (nothing_is h.2) (nothing_is h.3),
            (
              λ ts parts marks h q. only3 (plain_forms marks) h.0 h.1.0 h.1.1.0 (nothing_is h.1.1.1.0),
              (
                λ ts parts marks h q. low_is (plain_forms marks) (nothing_is h.0) (nothing_is h.1) (nothing_is h.2) (nothing_is h.3),
                (
                  λ ts parts marks h q. low_is (plain_forms marks) h.0 h.1.0 (nothing_is h.1.1.0) (nothing_is h.1.1.1),
                  from_more_parameters,
                ),
              ),
            ),
          ),
        ),
      ),
    ),
  ),
)

from_int_declaration : Each 29 (drop 29 java_productions)
from_int_declaration = (
  λ ts parts marks h q. only2 (plain_forms marks) h.0 h.1.0 (nothing_is h.1.1.0) (nothing_is h.1.1.1),
  (
    λ ts parts marks h q. only2 (plain_forms marks) h.0 h.1.0 (nothing_is h.1.1.0) (nothing_is h.1.1.1),
    (
      λ ts parts marks h q. only3 (plain_forms marks) h.0 h.1.0 h.1.1.0 (nothing_is h.1.1.1.0),
      (
        λ ts parts marks h q. only2 (plain_forms marks) h.0 h.1.0 (nothing_is h.1.1.0) (nothing_is h.1.1.1),
        (
          λ ts parts marks h q. only1 (plain_forms marks) h.0 (nothing_is h.1.0) (nothing_is h.1.1) (nothing_is h.1.2),
          (
            λ ts parts marks h q. only1 (plain_forms marks) h.0 (nothing_is h.1.0) (nothing_is h.1.1) (nothing_is h.1.2),
            (
              λ ts parts marks h q. low_is (plain_forms marks) (nothing_is h.0) (nothing_is h.1) (nothing_is h.2) (nothing_is h.3),
              (
                λ ts parts marks h q. low_is (plain_forms marks) h.0 (nothing_is h.1.0) (nothing_is h.1.1) (nothing_is h.1.2),
                from_magnitude,
              ),
            ),
          ),
        ),
      ),
    ),
  ),
)

from_class_body_behind_specs : Each 18 (drop 18 java_productions)
from_class_body_behind_specs = (
  λ ts parts marks h q. low_is (plain_forms marks) (nothing_is h.0) (nothing_is h.1) (nothing_is h.2) (nothing_is h.3),
  (
    λ ts parts marks h q. equal_to (both_is (plain_forms marks) h.0 h.1.0 (nothing_is h.1.1.0) (nothing_is h.1.1.1)) (members_highest (members_of parts.first) (members_of parts.second)) refl (members_behind (members_of parts.first) (members_of parts.second)),
    (
      λ ts parts marks h q. equal_to (only2 (plain_forms marks) h.0 h.1.0 (nothing_is h.1.1.0) (nothing_is h.1.1.1)) (member_highest (place_of 0 ts) (static_of parts.first) (blocks_of parts.first) parts.second) refl (member_height_is (place_of 0 ts) (static_of parts.first) (blocks_of parts.first) parts.second),
      (
        λ ts parts marks h q. low_is (plain_forms marks) h.0 h.1.0 h.1.1.0 (nothing_is h.1.1.1.0),
        (
          λ ts parts marks h q. low_is (plain_forms marks) (nothing_is h.0) (nothing_is h.1) (nothing_is h.2) (nothing_is h.3),
          (
            λ ts parts marks h q. low_is (plain_forms marks) (nothing_is h.0) (nothing_is h.1) (nothing_is h.2) (nothing_is h.3),
            (
              λ ts parts marks h q. low_is (plain_forms marks) (nothing_is h.0) (nothing_is h.1) (nothing_is h.2) (nothing_is h.3),
              (
                λ ts parts marks h q. only2 (plain_forms marks) h.0 h.1.0 (nothing_is h.1.1.0) (nothing_is h.1.1.1),
                (
                  λ ts parts marks h q. only2 (plain_forms marks) h.0 h.1.0 (nothing_is h.1.1.0) (nothing_is h.1.1.1),
                  (
                    λ ts parts marks h q. equal_to (only1 (plain_forms marks) h.0 (nothing_is h.1.0) (nothing_is h.1.1) (nothing_is h.1.2)) (ap highest_in_declared (int_in ts parts.first)) refl (ap declared_height (int_in ts parts.first)),
                    (
                      λ ts parts marks h q. equal_to (only1 (plain_forms marks) h.0 (nothing_is h.1.0) (nothing_is h.1.1) (nothing_is h.1.2)) (ap highest_in_declared (named_in ts parts.first)) refl (ap declared_height (named_in ts parts.first)),
                      from_int_declaration,
                    ),
                  ),
                ),
              ),
            ),
          ),
        ),
      ),
    ),
  ),
)

from_modifier : Each 9 (drop 9 java_productions)
from_modifier = (
  λ ts parts marks h q. low_is (plain_forms marks) (nothing_is h.0) (nothing_is h.1) (nothing_is h.2) (nothing_is h.3),
  (
    λ ts parts marks h q. low_is (plain_forms marks) (nothing_is h.0) (nothing_is h.1) (nothing_is h.2) (nothing_is h.3),
    (
      λ ts parts marks h q. low_is (plain_forms marks) (nothing_is h.0) (nothing_is h.1) (nothing_is h.2) (nothing_is h.3),
      (
        λ ts parts marks h q. low_is (plain_forms marks) h.0 (nothing_is h.1.0) (nothing_is h.1.1) (nothing_is h.1.2),
        (
          λ ts parts marks h q. low_is (plain_forms marks) h.0 (nothing_is h.1.0) (nothing_is h.1.1) (nothing_is h.1.2),
          (
            λ ts parts marks h q. low_is (plain_forms marks) (nothing_is h.0) (nothing_is h.1) (nothing_is h.2) (nothing_is h.3),
            (
              λ ts parts marks h q. low_is (plain_forms marks) (nothing_is h.0) (nothing_is h.1) (nothing_is h.2) (nothing_is h.3),
              (
                λ ts parts marks h q. equal_to (only1 (plain_forms marks) h.0 (nothing_is h.1.0) (nothing_is h.1.1) (nothing_is h.1.2)) (body_highest ts (members_of parts.first) (end_of parts.first)) refl (body_height ts (members_of parts.first) (end_of parts.first)),
                (
                  λ ts parts marks h q. equal_to (both_is (plain_forms marks) h.0 h.1.0 (nothing_is h.1.1.0) (nothing_is h.1.1.1)) (members_highest (members_of parts.first) (members_of parts.second)) refl (members_behind (members_of parts.first) (members_of parts.second)),
                  from_class_body_behind_specs,
                ),
              ),
            ),
          ),
        ),
      ),
    ),
  ),
)

from_compilation_unit : Each 0 (drop 0 java_productions)
from_compilation_unit = (
  λ ts parts marks h q. only3 (plain_forms marks) h.0 h.1.0 h.1.1.0 (nothing_is h.1.1.1.0),
  (
    λ ts parts marks h q. only1 (plain_forms marks) h.0 (nothing_is h.1.0) (nothing_is h.1.1) (nothing_is h.1.2),
    (
      λ ts parts marks h q. low_is (plain_forms marks) h.0 h.1.0 (nothing_is h.1.1.0) (nothing_is h.1.1.1),
      (
        λ ts parts marks h q. low_is (plain_forms marks) (nothing_is h.0) (nothing_is h.1) (nothing_is h.2) (nothing_is h.3),
        (
          λ ts parts marks h q. equal_to (both_is (plain_forms marks) h.0 h.1.0 (nothing_is h.1.1.0) (nothing_is h.1.1.1)) (classes_highest (classes_of parts.first) (classes_of parts.second)) refl (classes_behind (classes_of parts.first) (classes_of parts.second)),
          (
            λ ts parts marks h q. low_is (plain_forms marks) (nothing_is h.0) (nothing_is h.1) (nothing_is h.2) (nothing_is h.3),
            (
              λ ts parts marks h q. single_is (only4 (plain_forms marks) h.0 h.1.0 h.1.1.0 h.1.1.1.0),
              (
                λ ts parts marks h q. low_is (plain_forms marks) h.0 h.1.0 (nothing_is h.1.1.0) (nothing_is h.1.1.1),
                (
                  λ ts parts marks h q. low_is (plain_forms marks) (nothing_is h.0) (nothing_is h.1) (nothing_is h.2) (nothing_is h.3),
                  from_modifier,
                ),
              ),
            ),
          ),
        ),
      ),
    ),
  ),
)

pub each : Each 0 java_productions
each = from_compilation_unit
