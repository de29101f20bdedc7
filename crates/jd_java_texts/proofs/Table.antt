-- What the nodes of each production show, in the order of the productions.
use Rattle.std.proofs.Common.{inl, inr, ◌+◌, [], ◌∷◌, ◌++◌, map, drop, codes, refl, sym, ap, ◌∙◌}
use Rattle.std.proofs.lemmas.List.{append-nil}
use Rattle.std.proofs.lemmas.List.Concat.{flat_map-append}
use Rattle.jd_java_grammar.specs.Productions.{java_productions}
use Rattle.jd_java_tokens.specs.Heads.{place_of, text_of}
use Rattle.jd_syntax.specs.JavaTypes.{BooleanType, IntArrayType, NamedType}
use Rattle.jd_syntax.specs.JavaTrees.{java_exprs}
use Rattle.jd_syntax.specs.declared.java.PrefixOperator.TheVariants as prefixes
use Rattle.jd_syntax.specs.declared.java.CountOperator.TheVariants as counts
use Rattle.jd_syntax.specs.declared.java.AssignmentOperator.TheVariants as assignments
use Rattle.jd_java_values.specs.Parts as part
use Rattle.jd_java_values.specs.Parts.{some_expression, expressions_of, name_of, some_name, type_of, is_dimension, statement_of, some_statement, start_of, static_of, blocks_of, members_of, end_of, classes_of}
use Rattle.jd_java_values.specs.Heads.{type_at, int_type}
use Rattle.jd_java_expressions.specs.Meaning.{behind_two, behind_one, all_suffixes}
use Rattle.jd_java_statements.specs.Meaning.{variables, loop_block}
use Rattle.jd_java_texts.specs.Texts.{prefix_text, separated, exprs_texts, optional_texts, value_texts, declarator_texts, for_start_texts, target_texts, stmt_texts, members_texts, parent_texts, class_texts}
use Rattle.jd_java_texts.specs.Kept.{first_there}
use Rattle.jd_java_texts.proofs.Frames.{behind_name_texts, behind_start_name_texts, else_texts}
use Rattle.jd_java_texts.proofs.Shapes.{two, four, expr_text, name_text, type_text, stmt_text, block_text, two_behind, third_behind, second_before, second_behind, first_before, none_behind, operand, this_operand, inside_operand, begun_shown, name_effect_shown, assigned_behind, object_shown, array_shown, first_effect, int_type_text, variables_text, variables_shown, more_variables, local_text, start_text, named_shown, named_start_shown, name_effect_behind, name_effects_behind, annotated_shown, if_shown, up_to_signs, try_shown, handlers_shown, rescue_shown, finally_shown, handler_shown, next_statement, super_shown, either_static, annotated_body_text, member_shown, members_shown, negated_text, first_parameter, next_parameter, routine_text, void_shown, typed_shown, int_shown, constructor_shown}
use Rattle.jd_java_texts.proofs.Rows.{Each}
use Rattle.jd_java_texts.proofs.Expressions.{from_expression}

-- ---- the productions from that name on; the last ones come first

from_effect_creation : Each 133 (drop 133 java_productions)
from_effect_creation = (
  λ ts parts us h q. object_shown parts.first parts.second us.first.texts us.second.texts (us.third.texts ++ us.fourth.texts) (behind_two parts) h.0 h.1.0 (two_behind parts us.third.texts us.fourth.texts h.1.1.0 h.1.1.1.0),
  (
    λ ts parts us h q. array_shown parts.first us.first.texts (us.second.texts ++ us.third.texts) (behind_one parts) h.0 (second_before parts us.second.texts us.third.texts h.1.0 (third_behind parts us.third.texts h.1.1.0 h.1.1.1.0)),
    (
      λ ts parts us h q. refl,
      (
        λ ts parts us h q. refl,
        (
          λ ts parts us h q. assigned_behind assignments.Set parts.first us.first.texts h.0,
          (
            λ ts parts us h q. assigned_behind assignments.Add parts.first us.first.texts h.0,
            (
              λ ts parts us h q. assigned_behind assignments.Subtract parts.first us.first.texts h.0,
              (
                λ ts parts us h q. assigned_behind assignments.Multiply parts.first us.first.texts h.0,
                (
                  λ ts parts us h q. assigned_behind assignments.Divide parts.first us.first.texts h.0,
                  (
                    λ ts parts us h q. assigned_behind assignments.Remainder parts.first us.first.texts h.0,
                    (
                      λ ts parts us h q. none_behind parts h.0 h.1 h.2 h.3,
                      from_expression,
                    ),
                  ),
                ),
              ),
            ),
          ),
        ),
      ),
    ),
  ),
)

from_effect : Each 124 (drop 124 java_productions)
from_effect = (
  λ ts parts us h q. name_effect_shown (place_of 0 ts) (text_of ts) parts.first us.first.texts h.0,
  (
    λ ts parts us h q. h.0,
    (
      λ ts parts us h q. (_, _, refl, two (λ x y. x ++ y) h.0 (second_before parts us.second.texts us.third.texts h.1.0 (third_behind parts us.third.texts h.1.1.0 h.1.1.1.0))),
      (
        λ ts parts us h q. (_, refl, ap (λ t. prefix_text (prefixes.Count counts.Increment) ∷ t) (expr_text parts.first us.first.texts h.0)),
        (
          λ ts parts us h q. (_, refl, ap (λ t. prefix_text (prefixes.Count counts.Decrement) ∷ t) (expr_text parts.first us.first.texts h.0)),
          (
            λ ts parts us h q. operand parts.first us.first.texts (us.second.texts ++ us.third.texts) (behind_one parts) h.0 (second_before parts us.second.texts us.third.texts h.1.0 (third_behind parts us.third.texts h.1.1.0 h.1.1.1.0)),
            (
              λ ts parts us h q. this_operand (place_of 0 ts) (us.first.texts ++ us.second.texts) (all_suffixes parts) (first_before parts us.first.texts us.second.texts h.0 (second_behind parts us.second.texts h.1.0 h.1.1.0 h.1.1.1)),
              (
                λ ts parts us h q. inside_operand (place_of 0 ts) parts.first us.first.texts (us.second.texts ++ us.third.texts) (behind_one parts) h.0 (second_before parts us.second.texts us.third.texts h.1.0 (third_behind parts us.third.texts h.1.1.0 h.1.1.1.0)),
                (
                  λ ts parts us h q. begun_shown (place_of 0 ts) (codes "new") parts.first us.first.texts h.0,
                  from_effect_creation,
                ),
              ),
            ),
          ),
        ),
      ),
    ),
  ),
)

from_rescue : Each 115 (drop 115 java_productions)
from_rescue = (
  λ ts parts us h q. rescue_shown parts.first parts.second parts.third us.first.texts us.second.texts us.third.texts h.0 h.1.0 h.1.1.0,
  (
    λ ts parts us h q. (_, _, refl, finally_shown parts.first us.first.texts h.0),
    (
      λ ts parts us h q. handlers_shown parts.first parts.second us.first.texts us.second.texts h.0 h.1.0,
      (
        λ ts parts us h q. refl,
        (
          λ ts parts us h q. handler_shown (place_of 0 ts) parts.second parts.third parts.fourth us.first.texts us.second.texts us.third.texts us.fourth.texts h.0 h.1.0 h.1.1.0 h.1.1.1.0,
          (
            λ ts parts us h q. refl,
            (
              λ ts parts us h q. refl,
              (
                λ ts parts us h q. finally_shown parts.first us.first.texts h.0,
                (
                  λ ts parts us h q. refl,
                  from_effect,
                ),
              ),
            ),
          ),
        ),
      ),
    ),
  ),
)

from_for_update : Each 107 (drop 107 java_productions)
from_for_update = (
  λ ts parts us h q. refl,
  (
    λ ts parts us h q. first_effect (codes ")") parts.first parts.second us.first.texts us.second.texts h.0 h.1.0,
    (
      λ ts parts us h q. two (λ x y. codes "," ∷ (x ++ y)) (expr_text parts.first us.first.texts h.0) h.1.0,
      (
        λ ts parts us h q. refl,
        (
          λ ts parts us h q. (let (x, is, et) = h.0 in et ∙ sym (ap (λ v. target_texts (some_name v)) is)),
          (
            λ ts parts us h q. refl,
            (
              λ ts parts us h q. refl,
              (
                λ ts parts us h q. (let (e, is, et) = h.0 in ap (λ t. t ++ codes ";" ∷ []) et ∙ sym (ap (λ v. optional_texts (some_expression v) ++ codes ";" ∷ []) is)),
                from_rescue,
              ),
            ),
          ),
        ),
      ),
    ),
  ),
)

from_for_init : Each 98 (drop 98 java_productions)
from_for_init = (
  λ ts parts us h q. refl,
  (
    λ ts parts us h q. start_text (type_at ts (int_type (is_dimension parts.first))) (separated (map declarator_texts (variables parts.second parts.third parts.fourth))) (codes "int" ∷ us.first.texts) (us.second.texts ++ (us.third.texts ++ (us.fourth.texts ++ codes ";" ∷ []))) (ap (λ t. codes "int" ∷ t) h.0 ∙ int_type_text (is_dimension parts.first)) (variables_text (codes ";" ∷ []) parts.second parts.third parts.fourth us.second.texts us.third.texts us.fourth.texts h.1.0 h.1.1.0 h.1.1.1.0),
    (
      λ ts parts us h q. start_text (type_at ts BooleanType) (separated (map declarator_texts (variables parts.first parts.second parts.third))) (codes "boolean" ∷ []) (us.first.texts ++ (us.second.texts ++ (us.third.texts ++ codes ";" ∷ []))) refl (variables_text (codes ";" ∷ []) parts.first parts.second parts.third us.first.texts us.second.texts us.third.texts h.0 h.1.0 h.1.1.0),
      (
        λ ts parts us h q. named_start_shown (place_of 0 ts) (text_of ts) parts.first us.first.texts h.0,
        (
          λ ts parts us h q. first_effect (codes ";") parts.first parts.second us.first.texts us.second.texts h.0 h.1.0,
          (
            λ ts parts us h q. (let (ds, is, et) = h.0 in ap (λ t. t ++ codes ";" ∷ []) et ∙ sym (ap behind_start_name_texts is)),
            (
              λ ts parts us h q. name_effects_behind parts.first us.first.texts us.second.texts (expressions_of parts.second) h.0 h.1.0,
              (
                λ ts parts us h q. refl,
                (
                  λ ts parts us h q. (let (e, is, et) = h.0 in ap (λ t. t ++ codes ";" ∷ []) et ∙ sym (ap (λ v. optional_texts (some_expression v) ++ codes ";" ∷ []) is)),
                  from_for_update,
                ),
              ),
            ),
          ),
        ),
      ),
    ),
  ),
)

from_else : Each 90 (drop 90 java_productions)
from_else = (
  λ ts parts us h q. (let (s, is, et) = h.0 in ap (λ t. codes "else" ∷ t) et ∙ sym (ap (λ v. else_texts (some_statement v)) is)),
  (
    λ ts parts us h q. refl,
    (
      λ ts parts us h q. (_, refl, two (λ x y. codes "while" ∷ codes "(" ∷ (x ++ codes ")" ∷ y)) (expr_text parts.first us.first.texts h.0) (stmt_text parts.second us.second.texts h.1.0)),
      (
        λ ts parts us h q. (_, refl, four (λ a b c d. codes "for" ∷ codes "(" ∷ (a ++ (b ++ (c ++ d)))) h.0 h.1.0 h.1.1.0 (stmt_text parts.fourth us.fourth.texts h.1.1.1.0) ∙ ap (λ t. codes "for" ∷ codes "(" ∷ t) (up_to_signs (for_start_texts (start_of parts.first)) (optional_texts (some_expression parts.second)) (exprs_texts (java_exprs (expressions_of parts.third))) (stmt_texts (statement_of parts.fourth)) (codes ";") (codes ";") (codes ")"))),
        (
          λ ts parts us h q. h.0,
          (
            λ ts parts us h q. (_, refl, ap (λ t. text_of ts ∷ codes ":" ∷ t) (stmt_text parts.first us.first.texts h.0)),
            (
              λ ts parts us h q. annotated_shown (loop_block ts) parts.first us.first.texts h.0,
              (
                λ ts parts us h q. h.0,
                from_for_init,
              ),
            ),
          ),
        ),
      ),
    ),
  ),
)

from_statement_without_name : Each 79 (drop 79 java_productions)
from_statement_without_name = (
  λ ts parts us h q. (_, refl, block_text parts.first us.first.texts h.0),
  (
    λ ts parts us h q. (_, refl, refl),
    (
      λ ts parts us h q. (_, refl, ap (λ t. t ++ codes ";" ∷ []) (expr_text parts.first us.first.texts h.0)),
      (
        λ ts parts us h q. if_shown (place_of 0 ts) parts.first parts.second parts.third us.first.texts us.second.texts us.third.texts h.0 h.1.0 h.1.1.0,
        (
          λ ts parts us h q. h.0,
          (
            λ ts parts us h q. annotated_shown (loop_block ts) parts.first us.first.texts h.0,
            (
              λ ts parts us h q. (_, refl, ap (λ t. codes "break" ∷ (t ++ codes ";" ∷ [])) h.0),
              (
                λ ts parts us h q. (_, refl, ap (λ t. codes "continue" ∷ (t ++ codes ";" ∷ [])) h.0),
                (
                  λ ts parts us h q. (_, refl, ap (λ t. codes "return" ∷ t) h.0),
                  (
                    λ ts parts us h q. (_, refl, ap (λ t. codes "throw" ∷ (t ++ codes ";" ∷ [])) (expr_text parts.first us.first.texts h.0)),
                    (
                      λ ts parts us h q. try_shown (place_of 0 ts) parts.first parts.second us.first.texts us.second.texts h.0 h.1.0,
                      from_else,
                    ),
                  ),
                ),
              ),
            ),
          ),
        ),
      ),
    ),
  ),
)

from_variables : Each 70 (drop 70 java_productions)
from_variables = (
  λ ts parts us h q. (_, refl, variables_shown parts.first parts.second parts.third us.first.texts us.second.texts us.third.texts h.0 h.1.0 h.1.1.0),
  (
    λ ts parts us h q. (let (e, is, et) = h.0 in ap (λ t. codes "=" ∷ t) et ∙ sym (ap (λ v. value_texts (some_expression v)) is)),
    (
      λ ts parts us h q. refl,
      (
        λ ts parts us h q. more_variables parts.first parts.second parts.third us.first.texts us.second.texts us.third.texts h.0 h.1.0 h.1.1.0,
        (
          λ ts parts us h q. refl,
          (
            λ ts parts us h q. named_shown (place_of 0 ts) (text_of ts) parts.first us.first.texts h.0,
            (
              λ ts parts us h q. h.0,
              (
                λ ts parts us h q. (let (s, is, et) = h.0 in ap (λ t. codes ":" ∷ t) et ∙ sym (ap behind_name_texts is)),
                (
                  λ ts parts us h q. name_effect_behind parts.first us.first.texts h.0,
                  from_statement_without_name,
                ),
              ),
            ),
          ),
        ),
      ),
    ),
  ),
)

from_block_statement : Each 62 (drop 62 java_productions)
from_block_statement = (
  λ ts parts us h q. (_, refl, local_text (type_of parts.first) (separated (map declarator_texts (variables parts.second parts.third parts.fourth))) us.first.texts (us.second.texts ++ (us.third.texts ++ (us.fourth.texts ++ codes ";" ∷ []))) (type_text parts.first us.first.texts h.0) (variables_text (codes ";" ∷ []) parts.second parts.third parts.fourth us.second.texts us.third.texts us.fourth.texts h.1.0 h.1.1.0 h.1.1.1.0)),
  (
    λ ts parts us h q. (_, refl, local_text (type_at ts (int_type (is_dimension parts.first))) (separated (map declarator_texts (variables parts.second parts.third parts.fourth))) (codes "int" ∷ us.first.texts) (us.second.texts ++ (us.third.texts ++ (us.fourth.texts ++ codes ";" ∷ []))) (ap (λ t. codes "int" ∷ t) h.0 ∙ int_type_text (is_dimension parts.first)) (variables_text (codes ";" ∷ []) parts.second parts.third parts.fourth us.second.texts us.third.texts us.fourth.texts h.1.0 h.1.1.0 h.1.1.1.0)),
    (
      λ ts parts us h q. (_, refl, local_text (type_at ts BooleanType) (separated (map declarator_texts (variables parts.first parts.second parts.third))) (codes "boolean" ∷ []) (us.first.texts ++ (us.second.texts ++ (us.third.texts ++ codes ";" ∷ []))) refl (variables_text (codes ";" ∷ []) parts.first parts.second parts.third us.first.texts us.second.texts us.third.texts h.0 h.1.0 h.1.1.0)),
      (
        λ ts parts us h q. named_shown (place_of 0 ts) (text_of ts) parts.first us.first.texts h.0,
        (
          λ ts parts us h q. h.0,
          (
            λ ts parts us h q. (let (s, is, et) = h.0 in ap (λ t. codes ":" ∷ t) et ∙ sym (ap behind_name_texts is)),
            (
              λ ts parts us h q. (let (ds, is, et) = h.0 in ap (λ t. t ++ codes ";" ∷ []) et ∙ sym (ap behind_name_texts is)),
              (
                λ ts parts us h q. name_effect_behind parts.first us.first.texts h.0,
                from_variables,
              ),
            ),
          ),
        ),
      ),
    ),
  ),
)

from_constructor_body : Each 56 (drop 56 java_productions)
from_constructor_body = (
  λ ts parts us h q. (let (ss, is, et) = h.0 in (ss, is, ap (λ t. codes "{" ∷ t) et)),
  (
    λ ts parts us h q. super_shown (place_of 0 ts) parts.first parts.second us.first.texts us.second.texts h.0 h.1.0,
    (
      λ ts parts us h q. h.0,
      (
        λ ts parts us h q. (let (ss, is, et) = h.0 in (ss, is, ap (λ t. codes "{" ∷ t) et)),
        (
          λ ts parts us h q. (_, refl, refl),
          (
            λ ts parts us h q. next_statement parts.first parts.second us.first.texts us.second.texts h.0 h.1.0,
            from_block_statement,
          ),
        ),
      ),
    ),
  ),
)

from_type : Each 49 (drop 49 java_productions)
from_type = (
  λ ts parts us h q. (_, refl, ap (λ t. codes "int" ∷ t) h.0 ∙ int_type_text (is_dimension parts.first)),
  (
    λ ts parts us h q. (_, refl, refl),
    (
      λ ts parts us h q. (_, refl, refl),
      (
        λ ts parts us h q. refl,
        (
          λ ts parts us h q. refl,
          (
            λ ts parts us h q. refl,
            (
              λ ts parts us h q. refl,
              from_constructor_body,
            ),
          ),
        ),
      ),
    ),
  ),
)

from_declared : Each 39 (drop 39 java_productions)
from_declared = (
  λ ts parts us h q. inl h.0,
  (
    λ ts parts us h q. inr (_, refl, ap (λ t. t ++ codes ";" ∷ []) h.0),
    (
      λ ts parts us h q. two (λ x y. codes "," ∷ (x ++ y)) (name_text parts.first us.first.texts h.0) h.1.0,
      (
        λ ts parts us h q. refl,
        (
          λ ts parts us h q. (_, _, refl, routine_text parts.first parts.third us.first.texts us.second.texts us.third.texts h.0 h.1.0 h.1.1.0),
          (
            λ ts parts us h q. refl,
            (
              λ ts parts us h q. first_parameter parts.first parts.second us.first.texts us.second.texts h.0 h.1.0,
              (
                λ ts parts us h q. next_parameter parts.first parts.second us.first.texts us.second.texts h.0 h.1.0,
                (
                  λ ts parts us h q. refl,
                  (
                    λ ts parts us h q. (_, refl, two (λ x y. x ++ y) (type_text parts.third us.third.texts h.1.1.0) (name_text parts.fourth us.fourth.texts h.1.1.1.0)),
                    from_type,
                  ),
                ),
              ),
            ),
          ),
        ),
      ),
    ),
  ),
)

from_int_declaration : Each 29 (drop 29 java_productions)
from_int_declaration = (
  λ ts parts us h q. λ ls. typed_shown (type_at ls IntArrayType) parts.first parts.second us.first.texts us.second.texts h.0 h.1.0,
  (
    λ ts parts us h q. λ ls. int_shown ls parts.first parts.second us.first.texts us.second.texts h.0 h.1.0,
    (
      λ ts parts us h q. λ ls. constructor_shown ls (part.parameters_of parts.first) (part.statements_of parts.third) _ (routine_text parts.first parts.third us.first.texts us.second.texts us.third.texts h.0 h.1.0 h.1.1.0),
      (
        λ ts parts us h q. λ ls. typed_shown (type_at ls (NamedType (text_of ls))) parts.first parts.second us.first.texts us.second.texts h.0 h.1.0,
        (
          λ ts parts us h q. inr (let (z, is, et) = h.0 in (z, is, ap (λ t. codes "=" ∷ (t ++ codes ";" ∷ [])) et)),
          (
            λ ts parts us h q. inl h.0,
            (
              λ ts parts us h q. (_, refl, refl),
              (
                λ ts parts us h q. (_, refl, h.0 ∙ negated_text (part.number_of parts.first)),
                (
                  λ ts parts us h q. refl,
                  (
                    λ ts parts us h q. refl,
                    from_declared,
                  ),
                ),
              ),
            ),
          ),
        ),
      ),
    ),
  ),
)

from_member_declaration : Each 20 (drop 20 java_productions)
from_member_declaration = (
  λ ts parts us h q. member_shown (place_of 0 ts) (static_of parts.first) us.second.of_constructor (blocks_of parts.first) parts.second us.first.texts us.second.texts h.0 h.1.0 q,
  (
    λ ts parts us h q. two first_there h.0 h.1.1.0 ∙ either_static (static_of parts.first) (static_of parts.third),
    (
      λ ts parts us h q. refl,
      (
        λ ts parts us h q. refl,
        (
          λ ts parts us h q. refl,
          (
            λ ts parts us h q. void_shown parts.first parts.second us.first.texts us.second.texts h.0 h.1.0,
            (
              λ ts parts us h q. typed_shown (type_at ts BooleanType) parts.first parts.second us.first.texts us.second.texts h.0 h.1.0,
              (
                λ ts parts us h q. h.0 ts,
                (
                  λ ts parts us h q. h.0 ts,
                  from_int_declaration,
                ),
              ),
            ),
          ),
        ),
      ),
    ),
  ),
)

from_modifier : Each 9 (drop 9 java_productions)
from_modifier = (
  λ ts parts us h q. refl,
  (
    λ ts parts us h q. refl,
    (
      λ ts parts us h q. refl,
      (
        λ ts parts us h q. refl,
        (
          λ ts parts us h q. (let (x, is, et) = h.0 in ap (λ t. codes "extends" ∷ t) et ∙ sym (ap (λ v. parent_texts (some_name v)) is)),
          (
            λ ts parts us h q. refl,
            (
              λ ts parts us h q. refl,
              (
                λ ts parts us h q. h.0 ∙ ap (λ t. t ++ codes "}" ∷ []) (sym (annotated_body_text ts (members_of parts.first) (end_of parts.first))),
                (
                  λ ts parts us h q. members_shown parts.first parts.second us.first.texts us.second.texts h.0 h.1.0,
                  (
                    λ ts parts us h q. refl,
                    (
                      λ ts parts us h q. members_shown parts.first parts.second us.first.texts us.second.texts h.0 h.1.0,
                      from_member_declaration,
                    ),
                  ),
                ),
              ),
            ),
          ),
        ),
      ),
    ),
  ),
)

from_compilation_unit : Each 0 (drop 0 java_productions)
from_compilation_unit = (
  λ ts parts us h q. h.1.1.0,
  (
    λ ts parts us h q. h.0,
    (
      λ ts parts us h q. refl,
      (
        λ ts parts us h q. refl,
        (
          λ ts parts us h q. two (λ x y. x ++ y) h.0 h.1.0 ∙ sym (flat_map-append class_texts (classes_of parts.first) (classes_of parts.second)),
          (
            λ ts parts us h q. refl,
            (
              λ ts parts us h q. four (λ a b c d. a ++ codes "class" ∷ (b ++ (c ++ codes "{" ∷ d))) h.0 (name_text parts.second us.second.texts h.1.0) h.1.1.0 h.1.1.1.0 ∙ sym (append-nil (codes "class" ∷ (name_of parts.second).name ∷ (parent_texts (some_name parts.third) ++ codes "{" ∷ (members_texts (members_of parts.fourth) ++ codes "}" ∷ [])))),
              (
                λ ts parts us h q. refl,
                (
                  λ ts parts us h q. refl,
                  from_modifier,
                ),
              ),
            ),
          ),
        ),
      ),
    ),
  ),
)

pub each : Each 0 java_productions
each = from_compilation_unit
