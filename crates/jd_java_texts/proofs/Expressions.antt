-- What the nodes of the productions of expressions show, in the order of the productions.
use Rattle.std.proofs.Common.{◌+◌, [], ◌∷◌, ◌++◌, drop, codes, refl, sym, ap, ◌∙◌}
use Rattle.jd_java_grammar.specs.Productions.{java_productions}
use Rattle.jd_java_tokens.specs.Heads.{place_of, text_of}
use Rattle.jd_syntax.specs.JavaTypes.{BooleanType}
use Rattle.jd_syntax.specs.declared.java.InfixOperator.TheVariants as infixes
use Rattle.jd_syntax.specs.declared.java.PrefixOperator.TheVariants as prefixes
use Rattle.jd_syntax.specs.declared.java.CountOperator.TheVariants as counts
use Rattle.jd_syntax.specs.declared.java.AssignmentOperator.TheVariants as assignments
use Rattle.jd_java_values.specs.Parts.{arguments_of}
use Rattle.jd_java_values.specs.Heads.{type_at}
use Rattle.jd_java_expressions.specs.Meaning.{behind_two, behind_one, all_suffixes}
use Rattle.jd_java_texts.specs.Texts.{prefix_text}
use Rattle.jd_java_texts.proofs.Frames.{int_cast_texts, behind_parenthesis_texts, call_texts}
use Rattle.jd_java_texts.proofs.Shapes.{expr_text, two_behind, third_behind, second_before, second_behind, first_before, none_behind, operand, this_operand, name_operand, begun_shown, infix_behind, instance_behind, assigned_behind, choice_behind, member_behind, element_behind, parenthesized, int_cast_shown, cast_shown, object_shown, array_shown, first_argument, next_argument}
use Rattle.jd_java_texts.proofs.Rows.{Each}

-- ---- the productions from that name on; the last ones come first

from_suffixes : Each 218 (drop 218 java_productions)
from_suffixes = (
  λ ts parts us h q. member_behind parts.first parts.second us.first.texts us.second.texts us.third.texts (behind_two parts) h.0 h.1.0 (third_behind parts us.third.texts h.1.1.0 h.1.1.1.0),
  (
    λ ts parts us h q. element_behind parts.first us.first.texts us.second.texts (behind_one parts) h.0 (second_behind parts us.second.texts h.1.0 h.1.1.0 h.1.1.1),
    (
      λ ts parts us h q. none_behind parts h.0 h.1 h.2 h.3,
      (
        λ ts parts us h q. refl,
        (
          λ ts parts us h q. refl,
          (
            λ ts parts us h q. none_behind parts h.0 h.1 h.2 h.3,
            (
              λ ts parts us h q. (_, refl, refl),
              tt,
            ),
          ),
        ),
      ),
    ),
  ),
)

from_array_member : Each 211 (drop 211 java_productions)
from_array_member = (
  λ ts parts us h q. member_behind parts.first parts.second us.first.texts us.second.texts us.third.texts (behind_two parts) h.0 h.1.0 (third_behind parts us.third.texts h.1.1.0 h.1.1.1.0),
  (
    λ ts parts us h q. (let (es, is, et) = h.0 in ap (λ t. codes "(" ∷ t) et ∙ sym (ap (λ v. call_texts (arguments_of v)) is)),
    (
      λ ts parts us h q. refl,
      (
        λ ts parts us h q. (_, refl, refl),
        (
          λ ts parts us h q. first_argument parts.first parts.second us.first.texts us.second.texts h.0 h.1.0,
          (
            λ ts parts us h q. next_argument parts.first parts.second us.first.texts us.second.texts h.0 h.1.0,
            (
              λ ts parts us h q. (_, refl, refl),
              from_suffixes,
            ),
          ),
        ),
      ),
    ),
  ),
)

from_literal : Each 203 (drop 203 java_productions)
from_literal = (
  λ ts parts us h q. (_, refl, refl),
  (
    λ ts parts us h q. (_, refl, refl),
    (
      λ ts parts us h q. (_, refl, refl),
      (
        λ ts parts us h q. (_, refl, refl),
        (
          λ ts parts us h q. object_shown parts.first parts.second us.first.texts us.second.texts (us.third.texts ++ us.fourth.texts) (behind_two parts) h.0 h.1.0 (two_behind parts us.third.texts us.fourth.texts h.1.1.0 h.1.1.1.0),
          (
            λ ts parts us h q. array_shown parts.first us.first.texts us.second.texts (behind_one parts) h.0 (second_behind parts us.second.texts h.1.0 h.1.1.0 h.1.1.1),
            (
              λ ts parts us h q. (first_before parts us.first.texts us.second.texts h.0 (second_behind parts us.second.texts h.1.0 h.1.1.0 h.1.1.1)),
              (
                λ ts parts us h q. none_behind parts h.0 h.1 h.2 h.3,
                from_array_member,
              ),
            ),
          ),
        ),
      ),
    ),
  ),
)

from_unsigned : Each 192 (drop 192 java_productions)
from_unsigned = (
  λ ts parts us h q. name_operand (place_of 0 ts) (text_of ts) parts.first us.first.texts (us.second.texts ++ us.third.texts) (behind_one parts) h.0 (second_before parts us.second.texts us.third.texts h.1.0 (third_behind parts us.third.texts h.1.1.0 h.1.1.1.0)),
  (
    λ ts parts us h q. operand parts.first us.first.texts (us.second.texts ++ us.third.texts) (behind_one parts) h.0 (second_before parts us.second.texts us.third.texts h.1.0 (third_behind parts us.third.texts h.1.1.0 h.1.1.1.0)),
    (
      λ ts parts us h q. this_operand (place_of 0 ts) (us.first.texts ++ us.second.texts) (all_suffixes parts) (first_before parts us.first.texts us.second.texts h.0 (second_behind parts us.second.texts h.1.0 h.1.1.0 h.1.1.1)),
      (
        λ ts parts us h q. begun_shown (place_of 0 ts) (codes "new") parts.first us.first.texts h.0,
        (
          λ ts parts us h q. int_cast_shown ts parts.first us.first.texts h.0,
          (
            λ ts parts us h q. cast_shown (type_at ts BooleanType) parts.first us.first.texts (codes "boolean" ∷ codes ")" ∷ []) refl h.0,
            (
              λ ts parts us h q. parenthesized parts.first parts.second us.first.texts us.second.texts h.0 h.1.0 q,
              (
                λ ts parts us h q. (let (e, is, et) = h.0 in ap (λ t. codes ")" ∷ t) et ∙ sym (ap int_cast_texts is)),
                (
                  λ ts parts us h q. ap (λ t. codes "[" ∷ codes "]" ∷ codes ")" ∷ t) (expr_text parts.first us.first.texts h.0),
                  (
                    λ ts parts us h q. (let (e, is, et) = h.0 in et ∙ sym (ap behind_parenthesis_texts is)),
                    (
                      λ ts parts us h q. (first_before parts us.first.texts us.second.texts h.0 (second_behind parts us.second.texts h.1.0 h.1.1.0 h.1.1.1)),
                      from_literal,
                    ),
                  ),
                ),
              ),
            ),
          ),
        ),
      ),
    ),
  ),
)

from_unary : Each 183 (drop 183 java_productions)
from_unary = (
  λ ts parts us h q. (_, refl, ap (λ t. prefix_text prefixes.Plus ∷ t) (expr_text parts.first us.first.texts h.0)),
  (
    λ ts parts us h q. (_, refl, ap (λ t. prefix_text prefixes.Minus ∷ t) (expr_text parts.first us.first.texts h.0)),
    (
      λ ts parts us h q. (_, refl, ap (λ t. prefix_text (prefixes.Count counts.Increment) ∷ t) (expr_text parts.first us.first.texts h.0)),
      (
        λ ts parts us h q. (_, refl, ap (λ t. prefix_text (prefixes.Count counts.Decrement) ∷ t) (expr_text parts.first us.first.texts h.0)),
        (
          λ ts parts us h q. h.0,
          (
            λ ts parts us h q. (_, refl, refl),
            (
              λ ts parts us h q. h.0,
              (
                λ ts parts us h q. (_, refl, ap (λ t. prefix_text prefixes.Not ∷ t) (expr_text parts.first us.first.texts h.0)),
                (
                  λ ts parts us h q. begun_shown (place_of 0 ts) (codes "(") parts.first us.first.texts h.0,
                  from_unsigned,
                ),
              ),
            ),
          ),
        ),
      ),
    ),
  ),
)

from_reference_type : Each 172 (drop 172 java_productions)
from_reference_type = (
  λ ts parts us h q. (_, refl, refl),
  (
    λ ts parts us h q. (_, refl, refl),
    (
      λ ts parts us h q. operand parts.first us.first.texts us.second.texts (behind_one parts) h.0 (second_behind parts us.second.texts h.1.0 h.1.1.0 h.1.1.1),
      (
        λ ts parts us h q. infix_behind infixes.Add parts.first us.first.texts us.second.texts (behind_one parts) h.0 (second_behind parts us.second.texts h.1.0 h.1.1.0 h.1.1.1),
        (
          λ ts parts us h q. infix_behind infixes.Subtract parts.first us.first.texts us.second.texts (behind_one parts) h.0 (second_behind parts us.second.texts h.1.0 h.1.1.0 h.1.1.1),
          (
            λ ts parts us h q. none_behind parts h.0 h.1 h.2 h.3,
            (
              λ ts parts us h q. operand parts.first us.first.texts us.second.texts (behind_one parts) h.0 (second_behind parts us.second.texts h.1.0 h.1.1.0 h.1.1.1),
              (
                λ ts parts us h q. infix_behind infixes.Multiply parts.first us.first.texts us.second.texts (behind_one parts) h.0 (second_behind parts us.second.texts h.1.0 h.1.1.0 h.1.1.1),
                (
                  λ ts parts us h q. infix_behind infixes.Divide parts.first us.first.texts us.second.texts (behind_one parts) h.0 (second_behind parts us.second.texts h.1.0 h.1.1.0 h.1.1.1),
                  (
                    λ ts parts us h q. infix_behind infixes.Remainder parts.first us.first.texts us.second.texts (behind_one parts) h.0 (second_behind parts us.second.texts h.1.0 h.1.1.0 h.1.1.1),
                    (
                      λ ts parts us h q. none_behind parts h.0 h.1 h.2 h.3,
                      from_unary,
                    ),
                  ),
                ),
              ),
            ),
          ),
        ),
      ),
    ),
  ),
)

from_equality : Each 161 (drop 161 java_productions)
from_equality = (
  λ ts parts us h q. operand parts.first us.first.texts us.second.texts (behind_one parts) h.0 (second_behind parts us.second.texts h.1.0 h.1.1.0 h.1.1.1),
  (
    λ ts parts us h q. infix_behind infixes.Equal parts.first us.first.texts us.second.texts (behind_one parts) h.0 (second_behind parts us.second.texts h.1.0 h.1.1.0 h.1.1.1),
    (
      λ ts parts us h q. infix_behind infixes.NotEqual parts.first us.first.texts us.second.texts (behind_one parts) h.0 (second_behind parts us.second.texts h.1.0 h.1.1.0 h.1.1.1),
      (
        λ ts parts us h q. none_behind parts h.0 h.1 h.2 h.3,
        (
          λ ts parts us h q. operand parts.first us.first.texts us.second.texts (behind_one parts) h.0 (second_behind parts us.second.texts h.1.0 h.1.1.0 h.1.1.1),
          (
            λ ts parts us h q. infix_behind infixes.Less parts.first us.first.texts us.second.texts (behind_one parts) h.0 (second_behind parts us.second.texts h.1.0 h.1.1.0 h.1.1.1),
            (
              λ ts parts us h q. infix_behind infixes.LessOrEqual parts.first us.first.texts us.second.texts (behind_one parts) h.0 (second_behind parts us.second.texts h.1.0 h.1.1.0 h.1.1.1),
              (
                λ ts parts us h q. infix_behind infixes.Greater parts.first us.first.texts us.second.texts (behind_one parts) h.0 (second_behind parts us.second.texts h.1.0 h.1.1.0 h.1.1.1),
                (
                  λ ts parts us h q. infix_behind infixes.GreaterOrEqual parts.first us.first.texts us.second.texts (behind_one parts) h.0 (second_behind parts us.second.texts h.1.0 h.1.1.0 h.1.1.1),
                  (
                    λ ts parts us h q. instance_behind parts.first us.first.texts us.second.texts (behind_one parts) h.0 (second_behind parts us.second.texts h.1.0 h.1.1.0 h.1.1.1),
                    (
                      λ ts parts us h q. none_behind parts h.0 h.1 h.2 h.3,
                      from_reference_type,
                    ),
                  ),
                ),
              ),
            ),
          ),
        ),
      ),
    ),
  ),
)

from_conditional : Each 152 (drop 152 java_productions)
from_conditional = (
  λ ts parts us h q. operand parts.first us.first.texts us.second.texts (behind_one parts) h.0 (second_behind parts us.second.texts h.1.0 h.1.1.0 h.1.1.1),
  (
    λ ts parts us h q. choice_behind parts.first parts.second us.first.texts us.second.texts h.0 h.1.0,
    (
      λ ts parts us h q. none_behind parts h.0 h.1 h.2 h.3,
      (
        λ ts parts us h q. operand parts.first us.first.texts us.second.texts (behind_one parts) h.0 (second_behind parts us.second.texts h.1.0 h.1.1.0 h.1.1.1),
        (
          λ ts parts us h q. infix_behind infixes.OrElse parts.first us.first.texts us.second.texts (behind_one parts) h.0 (second_behind parts us.second.texts h.1.0 h.1.1.0 h.1.1.1),
          (
            λ ts parts us h q. none_behind parts h.0 h.1 h.2 h.3,
            (
              λ ts parts us h q. operand parts.first us.first.texts us.second.texts (behind_one parts) h.0 (second_behind parts us.second.texts h.1.0 h.1.1.0 h.1.1.1),
              (
                λ ts parts us h q. infix_behind infixes.AndAlso parts.first us.first.texts us.second.texts (behind_one parts) h.0 (second_behind parts us.second.texts h.1.0 h.1.1.0 h.1.1.1),
                (
                  λ ts parts us h q. none_behind parts h.0 h.1 h.2 h.3,
                  from_equality,
                ),
              ),
            ),
          ),
        ),
      ),
    ),
  ),
)

pub from_expression : Each 144 (drop 144 java_productions)
from_expression = (
  λ ts parts us h q. operand parts.first us.first.texts us.second.texts (behind_one parts) h.0 (second_behind parts us.second.texts h.1.0 h.1.1.0 h.1.1.1),
  (
    λ ts parts us h q. assigned_behind assignments.Set parts.first us.first.texts h.0,
    (
      λ ts parts us h q. assigned_behind assignments.Add parts.first us.first.texts h.0,
      (
        λ ts parts us h q. assigned_behind assignments.Subtract parts.first us.first.texts h.0,
        (
          λ ts parts us h q. assigned_behind assignments.Multiply parts.first us.first.texts h.0,
          (
            λ ts parts us h q. assigned_behind assignments.Divide parts.first us.first.texts h.0,
            (
              λ ts parts us h q. assigned_behind assignments.Remainder parts.first us.first.texts h.0,
              (
                λ ts parts us h q. none_behind parts h.0 h.1 h.2 h.3,
                from_conditional,
              ),
            ),
          ),
        ),
      ),
    ),
  ),
)
