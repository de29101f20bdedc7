-- What the nodes of each production show, in the order of the productions.
use Rattle.std.proofs.Common.{◌≡◌, inl, inr, ℕ, ◌+◌, List, [], ◌∷◌, ◌++◌, map, drop, codes, refl, sym, ap, ◌∙◌}
use Rattle.jd_grammar.specs.Grammars.{Production}
use Rattle.jd_grammar.specs.declared.piles.NodeParts.{NodeParts}
use Rattle.jd_grammar.specs.declared.table.Symbol.{Symbol}
use Rattle.jd_grammar.specs.declared.table.Symbol.TheVariants.{Token, Name}
use Rattle.jd_jml_grammar.specs.Productions.{jml_productions}
use Rattle.jd_jml_tokens.specs.Lexemes.{PlainLexeme, place_of}
use Rattle.jd_syntax.specs.SpecTrees as jml
use Rattle.jd_syntax.specs.SpecTrees.{specs_of}
use Rattle.jd_syntax.specs.declared.java.InfixOperator.TheVariants as operators
use Rattle.jd_syntax.specs.declared.spec.SpecPrefix.TheVariants as prefixes
use Rattle.jd_syntax.specs.declared.spec.Quantifier.TheVariants as quantifiers
use Rattle.jd_jml_values.specs.Values as values
use Rattle.jd_jml_values.specs.Values.{PlainValue}
use Rattle.jd_jml_values.specs.Parts.{expression_of, some_expression, arguments_of, some_name, type_of, bound_type_of, is_dimension, name_of, names_of, steps_of, end_of, locations_of}
use Rattle.jd_jml_expressions.specs.Meaning.{begun_at}
use Rattle.jd_jml_clauses.specs.Meaning.{truth_of}
use Rattle.jd_jml_trees.specs.Meaning.{action_of, meaning_by}
use Rattle.jd_jml_print.specs.Texts.{Texts, infix_text, prefix_text, spec_type_texts, specs_texts, location_texts, exception_texts}
use Rattle.jd_jml_texts.specs.Kept.{rest, production_texts, IsProperNode}
use Rattle.jd_jml_texts.proofs.Frames.{behind_name_texts, int_cast_texts, behind_parenthesis_texts, behind_range_texts, call_texts, behind_commas, Shown}
use Rattle.jd_jml_texts.proofs.Shapes.{two, three, expr_text, name_text, type_text, steps_text, exprs_text, single, clauses0, clauses1, clauses2, clauses3, operand, name_operand, begun_texts, alone, before, member, element, started, inside_alone, parenthesized, int_cast_shown, followed_shown, quantified_shown, sum_shown, int_type_text, located_text, named_location_shown, member_shown, index_shown, element_behind, first_location, next_location, first_argument, next_argument}

-- the parts of a node show what their names say, and there are no others
abbrev pub Fits : List Symbol → NodeParts PlainValue → NodeParts Texts → Type 0
Fits [] parts us = (parts.first ≡ values.Nothing) × (parts.second ≡ values.Nothing) × (parts.third ≡ values.Nothing)
Fits (Token kind ∷ ss) parts us = Fits ss parts us
Fits (Name a ∷ ss) parts us = Shown a parts.first us.first × Fits ss (rest values.Nothing parts) (rest [] us)

-- then so does a node of that production
abbrev pub Shows : ℕ → Production → Type 0
Shows n r =
    (ts : List PlainLexeme) (parts : NodeParts PlainValue) (us : NodeParts Texts) → Fits r.body parts us → IsProperNode (action_of n) parts
    → Shown r.head (meaning_by (action_of n) ts parts) (production_texts r ts us)

abbrev pub Each : ℕ → List Production → Type 0
Each n [] = Unit {0}
Each n (r ∷ rs) = Shows n r × Each (n + 1) rs

-- ---- the productions from that name on; the last ones come first

from_suffixes : Each 163 (drop 163 jml_productions)
from_suffixes = (
  λ ts parts us h q. member parts.first parts.second parts.third us.first us.second us.third h.0 h.1.0 h.1.1.0,
  (
    λ ts parts us h q. element parts.first parts.second us.first us.second h.0 h.1.0,
    (
      λ ts parts us h q. (_, refl, refl),
      (
        λ ts parts us h q. (_, refl, refl),
        (
          λ ts parts us h q. (_, refl, refl),
          (
            λ ts parts us h q. (_, refl, refl),
            (
              λ ts parts us h q. (_, refl, refl),
              (
                λ ts parts us h q. (_, refl, refl),
                (
                  λ ts parts us h q. (_, refl, refl),
                  (
                    λ ts parts us h q. (_, refl, refl),
                    (
                      λ ts parts us h q. (_, refl, refl),
                      (
                        λ ts parts us h q. (_, refl, refl),
                        (
                          λ ts parts us h q. (_, refl, refl),
                          (
                            λ ts parts us h q. (_, refl, refl),
                            (
                              λ ts parts us h q. (_, refl, refl),
                              (
                                λ ts parts us h q. (_, refl, refl),
                                (
                                  λ ts parts us h q. (_, refl, refl),
                                  (
                                    λ ts parts us h q. (_, refl, refl),
                                    (
                                      λ ts parts us h q. (_, refl, refl),
                                      (
                                        λ ts parts us h q. (_, refl, refl),
                                        (
                                          λ ts parts us h q. (_, refl, refl),
                                          (
                                            λ ts parts us h q. (_, refl, refl),
                                            (
                                              λ ts parts us h q. (_, refl, refl),
                                              (
                                                λ ts parts us h q. (_, refl, refl),
                                                tt,
                                              ),
                                            ),
                                          ),
                                        ),
                                      ),
                                    ),
                                  ),
                                ),
                              ),
                            ),
                          ),
                        ),
                      ),
                    ),
                  ),
                ),
              ),
            ),
          ),
        ),
      ),
    ),
  ),
)

from_invocation : Each 158 (drop 158 jml_productions)
from_invocation = (
  λ ts parts us h q. (let (es, is, et) = h.0 in (es, is, ap (λ t. codes "(" ∷ t) et)),
  (
    λ ts parts us h q. (_, refl, refl),
    (
      λ ts parts us h q. first_argument parts.first parts.second us.first us.second h.0 h.1.0,
      (
        λ ts parts us h q. next_argument parts.first parts.second us.first us.second h.0 h.1.0,
        (
          λ ts parts us h q. (_, refl, refl),
          from_suffixes,
        ),
      ),
    ),
  ),
)

from_class_type : Each 153 (drop 153 jml_productions)
from_class_type = (
  λ ts parts us h q. (_, refl, name_text parts.first us.first h.0),
  (
    λ ts parts us h q. refl,
    (
      λ ts parts us h q. refl,
      (
        λ ts parts us h q. (let (es, is, et) = h.0 in et ∙ sym (ap (λ v. call_texts (arguments_of v)) is)),
        (
          λ ts parts us h q. refl,
          from_invocation,
        ),
      ),
    ),
  ),
)

from_behind_range : Each 147 (drop 147 jml_productions)
from_behind_range = (
  λ ts parts us h q. (let (e, is, et) = h.0 in ap (λ t. codes ";" ∷ (t ++ codes ")" ∷ [])) et ∙ sym (ap (λ v. behind_range_texts (some_expression v)) is)),
  (
    λ ts parts us h q. refl,
    (
      λ ts parts us h q. ap (λ t. codes "int" ∷ t) h.0 ∙ int_type_text (is_dimension parts.first),
      (
        λ ts parts us h q. refl,
        (
          λ ts parts us h q. (let (x, is, et) = h.0 in et ∙ sym (ap (λ v. spec_type_texts (bound_type_of v)) is)),
          (
            λ ts parts us h q. refl,
            from_class_type,
          ),
        ),
      ),
    ),
  ),
)

from_behind_parenthesis : Each 142 (drop 142 jml_productions)
from_behind_parenthesis = (
  λ ts parts us h q. (let (x, is, et) = h.0 in et ∙ sym (ap behind_parenthesis_texts is)),
  (
    λ ts parts us h q. (let (x, is, et) = h.0 in et ∙ sym (ap behind_parenthesis_texts is)),
    (
      λ ts parts us h q. quantified_shown quantifiers.ForAll parts.first parts.second parts.third parts.fourth us.first us.second us.third us.fourth h.0 h.1.0 h.1.1.0 h.1.1.1.0,
      (
        λ ts parts us h q. quantified_shown quantifiers.Exists parts.first parts.second parts.third parts.fourth us.first us.second us.third us.fourth h.0 h.1.0 h.1.1.0 h.1.1.1.0,
        (
          λ ts parts us h q. sum_shown parts.first parts.second parts.third us.first us.second us.third h.0 h.1.0 h.1.1.0 q,
          from_behind_range,
        ),
      ),
    ),
  ),
)

from_parenthesis : Each 136 (drop 136 jml_productions)
from_parenthesis = (
  λ ts parts us h q. int_cast_shown ts parts.first us.first h.0,
  (
    λ ts parts us h q. started _ _ (ap (λ t. codes "boolean" ∷ codes ")" ∷ t) (expr_text parts.first us.first h.0)),
    (
      λ ts parts us h q. followed_shown parts.first parts.second us.first us.second h.0 h.1.0,
      (
        λ ts parts us h q. parenthesized parts.first parts.second us.first us.second h.0 h.1.0 q,
        (
          λ ts parts us h q. (let (e, is, et) = h.0 in ap (λ t. codes ")" ∷ t) et ∙ sym (ap int_cast_texts is)),
          (
            λ ts parts us h q. ap (λ t. codes "[" ∷ codes "]" ∷ codes ")" ∷ t) (expr_text parts.first us.first h.0),
            from_behind_parenthesis,
          ),
        ),
      ),
    ),
  ),
)

from_atom : Each 127 (drop 127 jml_productions)
from_atom = (
  λ ts parts us h q. (_, refl, refl),
  (
    λ ts parts us h q. (_, refl, refl),
    (
      λ ts parts us h q. (_, refl, refl),
      (
        λ ts parts us h q. (_, refl, refl),
        (
          λ ts parts us h q. (_, refl, refl),
          (
            λ ts parts us h q. (_, refl, refl),
            (
              λ ts parts us h q. (_, refl, ap (λ t. codes "\\old" ∷ codes "(" ∷ (t ++ codes ")" ∷ [])) (expr_text parts.first us.first h.0)),
              (
                λ ts parts us h q. (_, refl, ap (λ t. codes "\\fresh" ∷ codes "(" ∷ (t ++ codes ")" ∷ [])) (expr_text parts.first us.first h.0)),
                (
                  λ ts parts us h q. (_, refl, ap (λ t. codes "\\invariant_for" ∷ codes "(" ∷ (t ++ codes ")" ∷ [])) (expr_text parts.first us.first h.0)),
                  from_parenthesis,
                ),
              ),
            ),
          ),
        ),
      ),
    ),
  ),
)

from_unary : Each 120 (drop 120 jml_productions)
from_unary = (
  λ ts parts us h q. (_, refl, ap (λ t. prefix_text prefixes.Plus ∷ t) (expr_text parts.first us.first h.0)),
  (
    λ ts parts us h q. (_, refl, ap (λ t. prefix_text prefixes.Minus ∷ t) (expr_text parts.first us.first h.0)),
    (
      λ ts parts us h q. h.0,
      (
        λ ts parts us h q. (_, refl, ap (λ t. prefix_text prefixes.Not ∷ t) (expr_text parts.first us.first h.0)),
        (
          λ ts parts us h q. (_, refl, begun_texts (place_of 0 ts) parts.first us.first h.0),
          (
            λ ts parts us h q. name_operand parts.first parts.second parts.third us.first us.second us.third h.0 h.1.0 h.1.1.0,
            (
              λ ts parts us h q. operand parts.first parts.second us.first us.second h.0 h.1.0,
              from_atom,
            ),
          ),
        ),
      ),
    ),
  ),
)

from_multiplicative : Each 115 (drop 115 jml_productions)
from_multiplicative = (
  λ ts parts us h q. operand parts.first parts.second us.first us.second h.0 h.1.0,
  (
    λ ts parts us h q. before (values.Infix operators.Multiply (expression_of parts.first)) parts.second (infix_text operators.Multiply ∷ us.first) us.second (ap (λ t. infix_text operators.Multiply ∷ t) (expr_text parts.first us.first h.0)) h.1.0,
    (
      λ ts parts us h q. before (values.Infix operators.Divide (expression_of parts.first)) parts.second (infix_text operators.Divide ∷ us.first) us.second (ap (λ t. infix_text operators.Divide ∷ t) (expr_text parts.first us.first h.0)) h.1.0,
      (
        λ ts parts us h q. before (values.Infix operators.Remainder (expression_of parts.first)) parts.second (infix_text operators.Remainder ∷ us.first) us.second (ap (λ t. infix_text operators.Remainder ∷ t) (expr_text parts.first us.first h.0)) h.1.0,
        (
          λ ts parts us h q. (_, refl, refl),
          from_unary,
        ),
      ),
    ),
  ),
)

from_reference_type : Each 109 (drop 109 jml_productions)
from_reference_type = (
  λ ts parts us h q. h.0,
  (
    λ ts parts us h q. (_, refl, refl),
    (
      λ ts parts us h q. operand parts.first parts.second us.first us.second h.0 h.1.0,
      (
        λ ts parts us h q. before (values.Infix operators.Add (expression_of parts.first)) parts.second (infix_text operators.Add ∷ us.first) us.second (ap (λ t. infix_text operators.Add ∷ t) (expr_text parts.first us.first h.0)) h.1.0,
        (
          λ ts parts us h q. before (values.Infix operators.Subtract (expression_of parts.first)) parts.second (infix_text operators.Subtract ∷ us.first) us.second (ap (λ t. infix_text operators.Subtract ∷ t) (expr_text parts.first us.first h.0)) h.1.0,
          (
            λ ts parts us h q. (_, refl, refl),
            from_multiplicative,
          ),
        ),
      ),
    ),
  ),
)

from_relational_tail : Each 103 (drop 103 jml_productions)
from_relational_tail = (
  λ ts parts us h q. before (values.Infix operators.Less (expression_of parts.first)) parts.second (infix_text operators.Less ∷ us.first) us.second (ap (λ t. infix_text operators.Less ∷ t) (expr_text parts.first us.first h.0)) h.1.0,
  (
    λ ts parts us h q. before (values.Infix operators.LessOrEqual (expression_of parts.first)) parts.second (infix_text operators.LessOrEqual ∷ us.first) us.second (ap (λ t. infix_text operators.LessOrEqual ∷ t) (expr_text parts.first us.first h.0)) h.1.0,
    (
      λ ts parts us h q. before (values.Infix operators.Greater (expression_of parts.first)) parts.second (infix_text operators.Greater ∷ us.first) us.second (ap (λ t. infix_text operators.Greater ∷ t) (expr_text parts.first us.first h.0)) h.1.0,
      (
        λ ts parts us h q. before (values.Infix operators.GreaterOrEqual (expression_of parts.first)) parts.second (infix_text operators.GreaterOrEqual ∷ us.first) us.second (ap (λ t. infix_text operators.GreaterOrEqual ∷ t) (expr_text parts.first us.first h.0)) h.1.0,
        (
          λ ts parts us h q. before (values.InstanceOf (type_of parts.first)) parts.second (codes "instanceof" ∷ us.first) us.second (ap (λ t. codes "instanceof" ∷ t) (type_text parts.first us.first h.0)) h.1.0,
          (
            λ ts parts us h q. (_, refl, refl),
            from_reference_type,
          ),
        ),
      ),
    ),
  ),
)

from_equality : Each 98 (drop 98 jml_productions)
from_equality = (
  λ ts parts us h q. operand parts.first parts.second us.first us.second h.0 h.1.0,
  (
    λ ts parts us h q. before (values.Infix operators.Equal (expression_of parts.first)) parts.second (infix_text operators.Equal ∷ us.first) us.second (ap (λ t. infix_text operators.Equal ∷ t) (expr_text parts.first us.first h.0)) h.1.0,
    (
      λ ts parts us h q. before (values.Infix operators.NotEqual (expression_of parts.first)) parts.second (infix_text operators.NotEqual ∷ us.first) us.second (ap (λ t. infix_text operators.NotEqual ∷ t) (expr_text parts.first us.first h.0)) h.1.0,
      (
        λ ts parts us h q. (_, refl, refl),
        (
          λ ts parts us h q. operand parts.first parts.second us.first us.second h.0 h.1.0,
          from_relational_tail,
        ),
      ),
    ),
  ),
)

from_or : Each 92 (drop 92 jml_productions)
from_or = (
  λ ts parts us h q. operand parts.first parts.second us.first us.second h.0 h.1.0,
  (
    λ ts parts us h q. before (values.Infix operators.OrElse (expression_of parts.first)) parts.second (infix_text operators.OrElse ∷ us.first) us.second (ap (λ t. infix_text operators.OrElse ∷ t) (expr_text parts.first us.first h.0)) h.1.0,
    (
      λ ts parts us h q. (_, refl, refl),
      (
        λ ts parts us h q. operand parts.first parts.second us.first us.second h.0 h.1.0,
        (
          λ ts parts us h q. before (values.Infix operators.AndAlso (expression_of parts.first)) parts.second (infix_text operators.AndAlso ∷ us.first) us.second (ap (λ t. infix_text operators.AndAlso ∷ t) (expr_text parts.first us.first h.0)) h.1.0,
          (
            λ ts parts us h q. (_, refl, refl),
            from_equality,
          ),
        ),
      ),
    ),
  ),
)

from_equivalence : Each 86 (drop 86 jml_productions)
from_equivalence = (
  λ ts parts us h q. operand parts.first parts.second us.first us.second h.0 h.1.0,
  (
    λ ts parts us h q. before (values.Equivalent (expression_of parts.first)) parts.second (codes "<==>" ∷ us.first) us.second (ap (λ t. codes "<==>" ∷ t) (expr_text parts.first us.first h.0)) h.1.0,
    (
      λ ts parts us h q. (_, refl, refl),
      (
        λ ts parts us h q. operand parts.first parts.second us.first us.second h.0 h.1.0,
        (
          λ ts parts us h q. alone (values.Implies (expression_of parts.first)) _ (ap (λ t. codes "==>" ∷ t) (expr_text parts.first us.first h.0)),
          (
            λ ts parts us h q. (_, refl, refl),
            from_or,
          ),
        ),
      ),
    ),
  ),
)

from_behind_location_element : Each 81 (drop 81 jml_productions)
from_behind_location_element = (
  λ ts parts us h q. inl (refl, refl),
  (
    λ ts parts us h q. inr h.0,
    (
      λ ts parts us h q. operand parts.first parts.second us.first us.second h.0 h.1.0,
      (
        λ ts parts us h q. alone (values.Choice (expression_of parts.first) (expression_of parts.second)) _ (two (λ t u. codes "?" ∷ (t ++ codes ":" ∷ u)) (expr_text parts.first us.first h.0) (expr_text parts.second us.second h.1.0)),
        (
          λ ts parts us h q. (_, refl, refl),
          from_equivalence,
        ),
      ),
    ),
  ),
)

from_location_member : Each 75 (drop 75 jml_productions)
from_location_member = (
  λ ts parts us h q. (_, _, refl, refl),
  (
    λ ts parts us h q. member_shown parts.first parts.second us.first us.second h.0 h.1.0,
    (
      λ ts parts us h q. (_, _, refl, refl),
      (
        λ ts parts us h q. index_shown parts.first parts.second us.first us.second h.0 h.1.0,
        (
          λ ts parts us h q. element_behind parts.first us.first h.0,
          (
            λ ts parts us h q. ap (λ t. codes ".." ∷ (t ++ codes "]" ∷ [])) (expr_text parts.first us.first h.0),
            from_behind_location_element,
          ),
        ),
      ),
    ),
  ),
)

from_behind_location_name : Each 70 (drop 70 jml_productions)
from_behind_location_name = (
  λ ts parts us h q. refl,
  (
    λ ts parts us h q. two (λ t u. t ++ u) (exprs_text (λ es. codes "(" ∷ specs_texts (specs_of es) ++ codes ")" ∷ []) parts.first us.first h.0) (steps_text parts.second us.second h.1.0),
    (
      λ ts parts us h q. (let (ss, end, is, et) = h.0 in et ∙ sym (ap behind_name_texts is)),
      (
        λ ts parts us h q. h.0,
        (
          λ ts parts us h q. h.0,
          from_location_member,
        ),
      ),
    ),
  ),
)

from_location : Each 65 (drop 65 jml_productions)
from_location = (
  λ ts parts us h q. named_location_shown parts.first parts.second us.first us.second h.0 h.1.0,
  (
    λ ts parts us h q. (_, refl, two (λ t u. t ++ u) (expr_text parts.first us.first h.0) (steps_text parts.second us.second h.1.0) ∙ located_text (place_of 0 ts) (expression_of parts.first) (steps_of parts.second) (end_of parts.second)),
    (
      λ ts parts us h q. (_, refl, two (λ t u. t ++ u) (begun_texts (place_of 0 ts) parts.first us.first h.0) (steps_text parts.second us.second h.1.0) ∙ located_text (place_of 0 ts) (begun_at (place_of 0 ts) parts.first) (steps_of parts.second) (end_of parts.second)),
      (
        λ ts parts us h q. h.0,
        (
          λ ts parts us h q. inside_alone parts.first parts.second us.first h.0 h.1.0,
          from_behind_location_name,
        ),
      ),
    ),
  ),
)

from_invariant_clause : Each 59 (drop 59 jml_productions)
from_invariant_clause = (
  λ ts parts us h q. ap (λ t. codes "invariant" ∷ (t ++ codes ";" ∷ [])) (expr_text parts.first us.first h.0) ∙ single (jml.Invariant (place_of 0 ts) (expression_of parts.first)),
  (
    λ ts parts us h q. refl,
    (
      λ ts parts us h q. refl,
      (
        λ ts parts us h q. first_location parts.first parts.second us.first us.second h.0 h.1.0,
        (
          λ ts parts us h q. next_location parts.first parts.second us.first us.second h.0 h.1.0,
          (
            λ ts parts us h q. sym (two (λ v w. behind_commas (map location_texts (locations_of v ++ locations_of w))) h.0 h.1),
            from_location,
          ),
        ),
      ),
    ),
  ),
)

from_truth : Each 54 (drop 54 jml_productions)
from_truth = (
  λ ts parts us h q. refl,
  (
    λ ts parts us h q. refl,
    (
      λ ts parts us h q. ap (λ t. codes "loop_invariant" ∷ (t ++ codes ";" ∷ [])) (expr_text parts.first us.first h.0) ∙ single (jml.LoopInvariant (place_of 0 ts) (expression_of parts.first)),
      (
        λ ts parts us h q. ap (λ t. codes "decreases" ∷ (t ++ codes ";" ∷ [])) (expr_text parts.first us.first h.0) ∙ single (jml.Decreases (place_of 0 ts) (expression_of parts.first)),
        (
          λ ts parts us h q. ap (λ t. codes "assignable" ∷ (t ++ codes ";" ∷ [])) h.0 ∙ single (jml.Assignable (place_of 0 ts) (locations_of parts.first)),
          from_invariant_clause,
        ),
      ),
    ),
  ),
)

from_exception_name : Each 48 (drop 48 jml_productions)
from_exception_name = (
  λ ts parts us h q. (let (x, is, et) = h.0 in et ∙ sym (ap (λ v. exception_texts (some_name v)) is)),
  (
    λ ts parts us h q. refl,
    (
      λ ts parts us h q. refl,
      (
        λ ts parts us h q. two (λ t u. t ++ u) (name_text parts.first us.first h.0) h.1.0,
        (
          λ ts parts us h q. two (λ t u. codes "," ∷ (t ++ u)) (name_text parts.first us.first h.0) h.1.0,
          (
            λ ts parts us h q. refl,
            from_truth,
          ),
        ),
      ),
    ),
  ),
)

from_clauses : Each 39 (drop 39 jml_productions)
from_clauses = (
  λ ts parts us h q. clauses2 parts us.first us.second h.0 h.1.0 h.1.1.0,
  (
    λ ts parts us h q. clauses0 parts h.0 h.1 h.2,
    (
      λ ts parts us h q. ap (λ t. codes "requires" ∷ (t ++ codes ";" ∷ [])) (expr_text parts.first us.first h.0) ∙ single (jml.Requires (place_of 0 ts) (expression_of parts.first)),
      (
        λ ts parts us h q. ap (λ t. codes "ensures" ∷ (t ++ codes ";" ∷ [])) (expr_text parts.first us.first h.0) ∙ single (jml.Ensures (place_of 0 ts) (expression_of parts.first)),
        (
          λ ts parts us h q. three (λ t u r. codes "signals" ∷ codes "(" ∷ (t ++ (u ++ codes ")" ∷ (r ++ codes ";" ∷ [])))) (name_text parts.first us.first h.0) h.1.0 (expr_text parts.third us.third h.1.1.0) ∙ single (jml.Signals (place_of 0 ts) (name_of parts.first) (some_name parts.second) (expression_of parts.third)),
          (
            λ ts parts us h q. ap (λ t. codes "signals_only" ∷ (t ++ codes ";" ∷ [])) h.0 ∙ single (jml.SignalsOnly (place_of 0 ts) (names_of parts.first)),
            (
              λ ts parts us h q. ap (λ t. codes "assignable" ∷ (t ++ codes ";" ∷ [])) h.0 ∙ single (jml.Assignable (place_of 0 ts) (locations_of parts.first)),
              (
                λ ts parts us h q. ap (λ t. codes "measured_by" ∷ (t ++ codes ";" ∷ [])) (expr_text parts.first us.first h.0) ∙ single (jml.MeasuredBy (place_of 0 ts) (expression_of parts.first)),
                (
                  λ ts parts us h q. ap (λ t. codes "diverges" ∷ (t ++ codes ";" ∷ [])) h.0 ∙ single (jml.Diverges (place_of 0 ts) (truth_of (expression_of parts.first))),
                  from_exception_name,
                ),
              ),
            ),
          ),
        ),
      ),
    ),
  ),
)

from_behavior_case : Each 34 (drop 34 jml_productions)
from_behavior_case = (
  λ ts parts us h q. ap (λ t. codes "normal_behavior" ∷ t) (clauses1 parts us.first h.0 h.1.0 h.1.1),
  (
    λ ts parts us h q. ap (λ t. codes "exceptional_behavior" ∷ t) (clauses1 parts us.first h.0 h.1.0 h.1.1),
    (
      λ ts parts us h q. ap (λ t. codes "behavior" ∷ t) (clauses1 parts us.first h.0 h.1.0 h.1.1),
      (
        λ ts parts us h q. ap (λ t. codes "also" ∷ t) (clauses2 parts us.first us.second h.0 h.1.0 h.1.1.0),
        (
          λ ts parts us h q. clauses0 parts h.0 h.1 h.2,
          from_clauses,
        ),
      ),
    ),
  ),
)

from_contract : Each 28 (drop 28 jml_productions)
from_contract = (
  λ ts parts us h q. clauses3 parts us.first us.second us.third h.0 h.1.0 h.1.1.0,
  (
    λ ts parts us h q. clauses3 parts us.first us.second us.third h.0 h.1.0 h.1.1.0,
    (
      λ ts parts us h q. clauses1 parts us.first h.0 h.1.0 h.1.1,
      (
        λ ts parts us h q. clauses1 parts us.first h.0 h.1.0 h.1.1,
        (
          λ ts parts us h q. clauses1 parts us.first h.0 h.1.0 h.1.1,
          (
            λ ts parts us h q. clauses2 parts us.first us.second h.0 h.1.0 h.1.1.0,
            from_behavior_case,
          ),
        ),
      ),
    ),
  ),
)

from_modifier_word : Each 22 (drop 22 jml_productions)
from_modifier_word = (
  λ ts parts us h q. ap (λ t. codes "pure" ∷ t) (clauses0 parts h.0 h.1 h.2),
  (
    λ ts parts us h q. ap (λ t. codes "helper" ∷ t) (clauses0 parts h.0 h.1 h.2),
    (
      λ ts parts us h q. ap (λ t. codes "nullable" ∷ t) (clauses0 parts h.0 h.1 h.2),
      (
        λ ts parts us h q. ap (λ t. codes "non_null" ∷ t) (clauses0 parts h.0 h.1 h.2),
        (
          λ ts parts us h q. ap (λ t. codes "spec_public" ∷ t) (clauses0 parts h.0 h.1 h.2),
          (
            λ ts parts us h q. ap (λ t. codes "spec_protected" ∷ t) (clauses0 parts h.0 h.1 h.2),
            from_contract,
          ),
        ),
      ),
    ),
  ),
)

from_class_end_specs : Each 17 (drop 17 jml_productions)
from_class_end_specs = (
  λ ts parts us h q. clauses2 parts us.first us.second h.0 h.1.0 h.1.1.0,
  (
    λ ts parts us h q. clauses2 parts us.first us.second h.0 h.1.0 h.1.1.0,
    (
      λ ts parts us h q. clauses0 parts h.0 h.1 h.2,
      (
        λ ts parts us h q. clauses2 parts us.first us.second h.0 h.1.0 h.1.1.0,
        (
          λ ts parts us h q. clauses0 parts h.0 h.1 h.2,
          from_modifier_word,
        ),
      ),
    ),
  ),
)

from_field_specs : Each 11 (drop 11 jml_productions)
from_field_specs = (
  λ ts parts us h q. clauses2 parts us.first us.second h.0 h.1.0 h.1.1.0,
  (
    λ ts parts us h q. clauses2 parts us.first us.second h.0 h.1.0 h.1.1.0,
    (
      λ ts parts us h q. clauses1 parts us.first h.0 h.1.0 h.1.1,
      (
        λ ts parts us h q. clauses1 parts us.first h.0 h.1.0 h.1.1,
        (
          λ ts parts us h q. clauses2 parts us.first us.second h.0 h.1.0 h.1.1.0,
          (
            λ ts parts us h q. clauses0 parts h.0 h.1 h.2,
            from_class_end_specs,
          ),
        ),
      ),
    ),
  ),
)

from_method_specs_behind_visibility : Each 5 (drop 5 jml_productions)
from_method_specs_behind_visibility = (
  λ ts parts us h q. clauses2 parts us.first us.second h.0 h.1.0 h.1.1.0,
  (
    λ ts parts us h q. clauses3 parts us.first us.second us.third h.0 h.1.0 h.1.1.0,
    (
      λ ts parts us h q. clauses2 parts us.first us.second h.0 h.1.0 h.1.1.0,
      (
        λ ts parts us h q. clauses1 parts us.first h.0 h.1.0 h.1.1,
        (
          λ ts parts us h q. clauses3 parts us.first us.second us.third h.0 h.1.0 h.1.1.0,
          (
            λ ts parts us h q. clauses0 parts h.0 h.1 h.2,
            from_field_specs,
          ),
        ),
      ),
    ),
  ),
)

pub each : Each 0 jml_productions
each = (
  λ ts parts us h q. clauses2 parts us.first us.second h.0 h.1.0 h.1.1.0,
  (
    λ ts parts us h q. clauses1 parts us.first h.0 h.1.0 h.1.1,
    (
      λ ts parts us h q. clauses1 parts us.first h.0 h.1.0 h.1.1,
      (
        λ ts parts us h q. clauses2 parts us.first us.second h.0 h.1.0 h.1.1.0,
        (
          λ ts parts us h q. clauses0 parts h.0 h.1 h.2,
          from_method_specs_behind_visibility,
        ),
      ),
    ),
  ),
)
