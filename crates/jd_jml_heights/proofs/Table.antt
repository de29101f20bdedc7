-- What the nodes of each production tell, in the order of the productions.
use Rattle.std.proofs.Common.{◌≡◌, inl, inr, ℕ, ◌+◌, List, [], ◌∷◌, drop, refl, sym}
use Rattle.jd_grammar.specs.Grammars.{Production}
use Rattle.jd_grammar.specs.declared.piles.NodeParts.{NodeParts}
use Rattle.jd_grammar.specs.declared.table.Symbol.{Symbol}
use Rattle.jd_grammar.specs.declared.table.Symbol.TheVariants.{Token, Name}
use Rattle.jd_jml_grammar.specs.Productions.{jml_productions}
use Rattle.jd_jml_tokens.specs.Lexemes.{PlainLexeme, place_of}
use Rattle.jd_syntax.specs.JavaTypes.{BooleanType}
use Rattle.jd_syntax.specs.declared.java.InfixOperator.TheVariants as operators
use Rattle.jd_syntax.specs.declared.spec.Quantifier.TheVariants as quantifiers
use Rattle.jd_jml_values.specs.Values as values
use Rattle.jd_jml_values.specs.Values.{PlainValue}
use Rattle.jd_jml_values.specs.Heads.{type_at}
use Rattle.jd_jml_values.specs.Parts.{expression_of, type_of}
use Rattle.jd_jml_attributes.specs.declared.form.Link.TheVariants as links
use Rattle.jd_jml_attributes.specs.Forms.{Less, Other, PlainForm, empty, linked}
use Rattle.jd_jml_attributes.specs.Rules as forms
use Rattle.jd_jml_attributes.specs.Rules.{row_of, made}
use Rattle.jd_jml_trees.specs.Meaning.{action_of, meaning_by}
use Rattle.jd_jml_texts.specs.Kept.{rest, IsProperNode}
use Rattle.jd_jml_heights.proofs.Levels.{zero_is, equal_to, parts0_is, flat1_is}
use Rattle.jd_jml_heights.proofs.Roles.{Tells, expr_is, some_is, call_is}
use Rattle.jd_jml_heights.proofs.Lines.{zero_twice, single_is, behind_none_is, clauses0, clauses1, clauses2, clauses3, asserted_is, signals_is, flats2, passed, raised, operand, name_operand, begun_operand, no_suffixes, before, alone, choice, member, inside_alone, parenthesis_is, int_cast_is, cast_is, cast_operand_is, suffixes_passed, followed_is, start_passed, quantified_is, sum_is, arguments_more, no_arguments, invoked, locations_more, no_locations, operand_location, begun_location, named_is, member_step_is, index_step_is, steps_passed, none_there, element_passed, bound_is, invoked_steps}

-- the parts of a node tell what their names say, and there are no others
abbrev pub Fits : List Symbol → NodeParts PlainValue → NodeParts PlainForm → Type 0
Fits [] parts p =
    (p.first ≡ empty) × (p.second ≡ empty) × (p.third ≡ empty) × (p.fourth ≡ empty) × (parts.first ≡ values.Nothing) × (parts.second ≡ values.Nothing) × (parts.third ≡ values.Nothing)
Fits (Token kind ∷ ss) parts p = Fits ss parts p
Fits (Name a ∷ ss) parts p = Tells a parts.first p.first × Fits ss (rest values.Nothing parts) (forms.rest p)

-- then so does a node of that production
abbrev pub Shows : ℕ → Production → Type 0
Shows n r =
    (ts : List PlainLexeme) (parts : NodeParts PlainValue) (p : NodeParts PlainForm) → Fits r.body parts p → IsProperNode (action_of n) parts
    → Tells r.head (meaning_by (action_of n) ts parts) (made (row_of n).1 ts p)

abbrev pub Each : ℕ → List Production → Type 0
Each n [] = Unit {0}
Each n (r ∷ rs) = Shows n r × Each (n + 1) rs

-- ---- the productions from that name on; the last ones come first

from_suffixes : Each 163 (drop 163 jml_productions)
from_suffixes = (
  λ ts parts p h q. member Other parts p h.0 h.1.0 h.1.1.0 h.1.1.1.0,
  (
    λ ts parts p h q. before (values.Element (expression_of parts.first)) Other parts.second p (expr_is parts.first p.first h.0) h.1.0 h.1.1.0 h.1.1.1,
    (
      λ ts parts p h q. no_suffixes p h.0 h.1 h.2 h.3,
      (
        λ ts parts p h q. zero_is,
        (
          λ ts parts p h q. zero_is,
          (
            λ ts parts p h q. zero_is,
            (
              λ ts parts p h q. zero_is,
              (
                λ ts parts p h q. zero_is,
                (
                  λ ts parts p h q. zero_is,
                  (
                    λ ts parts p h q. zero_is,
                    (
                      λ ts parts p h q. zero_is,
                      (
                        λ ts parts p h q. zero_is,
                        (
                          λ ts parts p h q. zero_is,
                          (
                            λ ts parts p h q. zero_is,
                            (
                              λ ts parts p h q. zero_is,
                              (
                                λ ts parts p h q. zero_is,
                                (
                                  λ ts parts p h q. zero_is,
                                  (
                                    λ ts parts p h q. zero_is,
                                    (
                                      λ ts parts p h q. zero_is,
                                      (
                                        λ ts parts p h q. zero_is,
                                        (
                                          λ ts parts p h q. zero_is,
                                          (
                                            λ ts parts p h q. zero_is,
                                            (
                                              λ ts parts p h q. zero_is,
                                              (
                                                λ ts parts p h q. zero_is,
                                                tt,
                                              ),
                                            ),
                                          ),
                                        ),
                                      ),
                                    ),
                                  ),
                                ),
                              ),
                            ),
                          ),
                        ),
                      ),
                    ),
                  ),
                ),
              ),
            ),
          ),
        ),
      ),
    ),
  ),
)

from_invocation : Each 158 (drop 158 jml_productions)
from_invocation = (
  λ ts parts p h q. invoked parts p h.0 h.1.0 h.1.1 h.1.2,
  (
    λ ts parts p h q. no_arguments p h.0 h.1 h.2 h.3,
    (
      λ ts parts p h q. arguments_more parts p h.0 h.1.0 h.1.1.0 h.1.1.1,
      (
        λ ts parts p h q. arguments_more parts p h.0 h.1.0 h.1.1.0 h.1.1.1,
        (
          λ ts parts p h q. no_arguments p h.0 h.1 h.2 h.3,
          from_suffixes,
        ),
      ),
    ),
  ),
)

from_class_type : Each 153 (drop 153 jml_productions)
from_class_type = (
  λ ts parts p h q. flat1_is p h.0 h.1.0 h.1.1 h.1.2,
  (
    λ ts parts p h q. parts0_is p h.0 h.1 h.2 h.3,
    (
      λ ts parts p h q. parts0_is p h.0 h.1 h.2 h.3,
      (
        λ ts parts p h q. flat1_is p (call_is parts.first p.first h.0) h.1.0 h.1.1 h.1.2,
        (
          λ ts parts p h q. parts0_is p h.0 h.1 h.2 h.3,
          from_invocation,
        ),
      ),
    ),
  ),
)

from_behind_range : Each 147 (drop 147 jml_productions)
from_behind_range = (
  λ ts parts p h q. flat1_is p (some_is parts.first p.first h.0) h.1.0 h.1.1 h.1.2,
  (
    λ ts parts p h q. parts0_is p h.0 h.1 h.2 h.3,
    (
      λ ts parts p h q. flat1_is p h.0 h.1.0 h.1.1 h.1.2,
      (
        λ ts parts p h q. parts0_is p h.0 h.1 h.2 h.3,
        (
          λ ts parts p h q. flat1_is p h.0 h.1.0 h.1.1 h.1.2,
          (
            λ ts parts p h q. parts0_is p h.0 h.1 h.2 h.3,
            from_class_type,
          ),
        ),
      ),
    ),
  ),
)

from_behind_parenthesis : Each 142 (drop 142 jml_productions)
from_behind_parenthesis = (
  λ ts parts p h q. inl (cast_operand_is parts p.first h.0),
  (
    λ ts parts p h q. inr (suffixes_passed parts p h.0 h.1.0 h.1.1 h.1.2),
    (
      λ ts parts p h q. quantified_is quantifiers.ForAll parts p h.0 h.1.0 h.1.1.0 h.1.1.1.0,
      (
        λ ts parts p h q. quantified_is quantifiers.Exists parts p h.0 h.1.0 h.1.1.0 h.1.1.1.0,
        (
          λ ts parts p h q. sum_is parts p h.0 h.1.0 h.1.1.0 h.1.1.1.0 q,
          from_behind_range,
        ),
      ),
    ),
  ),
)

from_parenthesis : Each 136 (drop 136 jml_productions)
from_parenthesis = (
  λ ts parts p h q. int_cast_is ts parts p h.0 h.1.0 h.1.1 h.1.2,
  (
    λ ts parts p h q. cast_is (type_at ts BooleanType) parts p h.0 h.1.0 h.1.1 h.1.2,
    (
      λ ts parts p h q. followed_is parts p h.0 h.1.0 h.1.1.0 h.1.1.1,
      (
        λ ts parts p h q. parenthesis_is parts p h.0 h.1.0 h.1.1.0 h.1.1.1 q,
        (
          λ ts parts p h q. inl (passed parts p h.0 h.1.0 h.1.1 h.1.2),
          (
            λ ts parts p h q. inr (expression_of parts.first, refl, flat1_is p (expr_is parts.first p.first h.0) h.1.0 h.1.1 h.1.2),
            from_behind_parenthesis,
          ),
        ),
      ),
    ),
  ),
)

from_atom : Each 127 (drop 127 jml_productions)
from_atom = (
  λ ts parts p h q. (_, refl, zero_is),
  (
    λ ts parts p h q. (_, refl, zero_is),
    (
      λ ts parts p h q. (_, refl, zero_is),
      (
        λ ts parts p h q. (_, refl, zero_is),
        (
          λ ts parts p h q. (_, refl, zero_is),
          (
            λ ts parts p h q. (_, refl, zero_is),
            (
              λ ts parts p h q. (_, refl, raised parts p h.0 h.1.0 h.1.1 h.1.2),
              (
                λ ts parts p h q. (_, refl, raised parts p h.0 h.1.0 h.1.1 h.1.2),
                (
                  λ ts parts p h q. (_, refl, raised parts p h.0 h.1.0 h.1.1 h.1.2),
                  from_parenthesis,
                ),
              ),
            ),
          ),
        ),
      ),
    ),
  ),
)

from_unary : Each 120 (drop 120 jml_productions)
from_unary = (
  λ ts parts p h q. (_, refl, raised parts p h.0 h.1.0 h.1.1 h.1.2),
  (
    λ ts parts p h q. (_, refl, raised parts p h.0 h.1.0 h.1.1 h.1.2),
    (
      λ ts parts p h q. passed parts p h.0 h.1.0 h.1.1 h.1.2,
      (
        λ ts parts p h q. (_, refl, raised parts p h.0 h.1.0 h.1.1 h.1.2),
        (
          λ ts parts p h q. begun_operand (place_of 0 ts) parts p h.0 h.1.0 h.1.1 h.1.2,
          (
            λ ts parts p h q. name_operand parts p h.0 h.1.0 h.1.1.0 h.1.1.1.0,
            (
              λ ts parts p h q. operand parts p h.0 h.1.0 h.1.1.0 h.1.1.1,
              from_atom,
            ),
          ),
        ),
      ),
    ),
  ),
)

from_multiplicative : Each 115 (drop 115 jml_productions)
from_multiplicative = (
  λ ts parts p h q. operand parts p h.0 h.1.0 h.1.1.0 h.1.1.1,
  (
    λ ts parts p h q. before (values.Infix operators.Multiply (expression_of parts.first)) Other parts.second p (expr_is parts.first p.first h.0) h.1.0 h.1.1.0 h.1.1.1,
    (
      λ ts parts p h q. before (values.Infix operators.Divide (expression_of parts.first)) Other parts.second p (expr_is parts.first p.first h.0) h.1.0 h.1.1.0 h.1.1.1,
      (
        λ ts parts p h q. before (values.Infix operators.Remainder (expression_of parts.first)) Other parts.second p (expr_is parts.first p.first h.0) h.1.0 h.1.1.0 h.1.1.1,
        (
          λ ts parts p h q. no_suffixes p h.0 h.1 h.2 h.3,
          from_unary,
        ),
      ),
    ),
  ),
)

from_reference_type : Each 109 (drop 109 jml_productions)
from_reference_type = (
  λ ts parts p h q. flat1_is p h.0 h.1.0 h.1.1 h.1.2,
  (
    λ ts parts p h q. parts0_is p h.0 h.1 h.2 h.3,
    (
      λ ts parts p h q. operand parts p h.0 h.1.0 h.1.1.0 h.1.1.1,
      (
        λ ts parts p h q. before (values.Infix operators.Add (expression_of parts.first)) Other parts.second p (expr_is parts.first p.first h.0) h.1.0 h.1.1.0 h.1.1.1,
        (
          λ ts parts p h q. before (values.Infix operators.Subtract (expression_of parts.first)) Other parts.second p (expr_is parts.first p.first h.0) h.1.0 h.1.1.0 h.1.1.1,
          (
            λ ts parts p h q. no_suffixes p h.0 h.1 h.2 h.3,
            from_multiplicative,
          ),
        ),
      ),
    ),
  ),
)

from_relational_tail : Each 103 (drop 103 jml_productions)
from_relational_tail = (
  λ ts parts p h q. before (values.Infix operators.Less (expression_of parts.first)) Less parts.second p (expr_is parts.first p.first h.0) h.1.0 h.1.1.0 h.1.1.1,
  (
    λ ts parts p h q. before (values.Infix operators.LessOrEqual (expression_of parts.first)) (linked links.AtMost p.first.kind) parts.second p (expr_is parts.first p.first h.0) h.1.0 h.1.1.0 h.1.1.1,
    (
      λ ts parts p h q. before (values.Infix operators.Greater (expression_of parts.first)) Other parts.second p (expr_is parts.first p.first h.0) h.1.0 h.1.1.0 h.1.1.1,
      (
        λ ts parts p h q. before (values.Infix operators.GreaterOrEqual (expression_of parts.first)) Other parts.second p (expr_is parts.first p.first h.0) h.1.0 h.1.1.0 h.1.1.1,
        (
          λ ts parts p h q. before (values.InstanceOf (type_of parts.first)) Other parts.second p h.0 h.1.0 h.1.1.0 h.1.1.1,
          (
            λ ts parts p h q. no_suffixes p h.0 h.1 h.2 h.3,
            from_reference_type,
          ),
        ),
      ),
    ),
  ),
)

from_equality : Each 98 (drop 98 jml_productions)
from_equality = (
  λ ts parts p h q. operand parts p h.0 h.1.0 h.1.1.0 h.1.1.1,
  (
    λ ts parts p h q. before (values.Infix operators.Equal (expression_of parts.first)) Other parts.second p (expr_is parts.first p.first h.0) h.1.0 h.1.1.0 h.1.1.1,
    (
      λ ts parts p h q. before (values.Infix operators.NotEqual (expression_of parts.first)) Other parts.second p (expr_is parts.first p.first h.0) h.1.0 h.1.1.0 h.1.1.1,
      (
        λ ts parts p h q. no_suffixes p h.0 h.1 h.2 h.3,
        (
          λ ts parts p h q. operand parts p h.0 h.1.0 h.1.1.0 h.1.1.1,
          from_relational_tail,
        ),
      ),
    ),
  ),
)

from_or : Each 92 (drop 92 jml_productions)
from_or = (
  λ ts parts p h q. operand parts p h.0 h.1.0 h.1.1.0 h.1.1.1,
  (
    λ ts parts p h q. before (values.Infix operators.OrElse (expression_of parts.first)) Other parts.second p (expr_is parts.first p.first h.0) h.1.0 h.1.1.0 h.1.1.1,
    (
      λ ts parts p h q. no_suffixes p h.0 h.1 h.2 h.3,
      (
        λ ts parts p h q. operand parts p h.0 h.1.0 h.1.1.0 h.1.1.1,
        (
          λ ts parts p h q. before (values.Infix operators.AndAlso (expression_of parts.first)) (linked links.And p.first.kind) parts.second p (expr_is parts.first p.first h.0) h.1.0 h.1.1.0 h.1.1.1,
          (
            λ ts parts p h q. no_suffixes p h.0 h.1 h.2 h.3,
            from_equality,
          ),
        ),
      ),
    ),
  ),
)

from_equivalence : Each 86 (drop 86 jml_productions)
from_equivalence = (
  λ ts parts p h q. operand parts p h.0 h.1.0 h.1.1.0 h.1.1.1,
  (
    λ ts parts p h q. before (values.Equivalent (expression_of parts.first)) Other parts.second p (expr_is parts.first p.first h.0) h.1.0 h.1.1.0 h.1.1.1,
    (
      λ ts parts p h q. no_suffixes p h.0 h.1 h.2 h.3,
      (
        λ ts parts p h q. operand parts p h.0 h.1.0 h.1.1.0 h.1.1.1,
        (
          λ ts parts p h q. alone (values.Implies (expression_of parts.first)) Other p (expr_is parts.first p.first h.0) h.1.0 h.1.1 h.1.2,
          (
            λ ts parts p h q. no_suffixes p h.0 h.1 h.2 h.3,
            from_or,
          ),
        ),
      ),
    ),
  ),
)

from_behind_location_element : Each 81 (drop 81 jml_productions)
from_behind_location_element = (
  λ ts parts p h q. inl (none_there p h.0 h.1 h.2 h.3),
  (
    λ ts parts p h q. inr (steps_passed parts p h.0 h.1.0 h.1.1 h.1.2),
    (
      λ ts parts p h q. operand parts p h.0 h.1.0 h.1.1.0 h.1.1.1,
      (
        λ ts parts p h q. choice (expression_of parts.first) (expression_of parts.second) Other p (expr_is parts.first p.first h.0) (expr_is parts.second p.second h.1.0) h.1.1.0 h.1.1.1,
        (
          λ ts parts p h q. no_suffixes p h.0 h.1 h.2 h.3,
          from_equivalence,
        ),
      ),
    ),
  ),
)

from_location_member : Each 75 (drop 75 jml_productions)
from_location_member = (
  λ ts parts p h q. ([], values.AllFieldsEnd, refl, (equal_to zero_is (sym zero_twice) refl, refl)),
  (
    λ ts parts p h q. member_step_is parts p h.0 h.1.0,
    (
      λ ts parts p h q. ([], values.AllElementsEnd, refl, (equal_to zero_is (sym zero_twice) refl, refl)),
      (
        λ ts parts p h q. index_step_is parts p h.0 h.1.0,
        (
          λ ts parts p h q. element_passed parts p h.0 h.1.0 h.1.1 h.1.2,
          (
            λ ts parts p h q. inr (inl (expression_of parts.first, refl, bound_is parts p.first h.0, refl)),
            from_behind_location_element,
          ),
        ),
      ),
    ),
  ),
)

from_behind_location_name : Each 70 (drop 70 jml_productions)
from_behind_location_name = (
  λ ts parts p h q. inl (none_there p h.0 h.1 h.2 h.3),
  (
    λ ts parts p h q. inr (inr (invoked_steps parts p h.0 h.1.0 h.1.1.0 h.1.1.1)),
    (
      λ ts parts p h q. inr (inl (steps_passed parts p h.0 h.1.0 h.1.1 h.1.2)),
      (
        λ ts parts p h q. steps_passed parts p h.0 h.1.0 h.1.1 h.1.2,
        (
          λ ts parts p h q. steps_passed parts p h.0 h.1.0 h.1.1 h.1.2,
          from_location_member,
        ),
      ),
    ),
  ),
)

from_location : Each 65 (drop 65 jml_productions)
from_location = (
  λ ts parts p h q. named_is parts p h.0 h.1.0 h.1.1.0 h.1.1.1,
  (
    λ ts parts p h q. operand_location (place_of 0 ts) parts p h.0 h.1.0 h.1.1.0 h.1.1.1,
    (
      λ ts parts p h q. begun_location (place_of 0 ts) parts p h.0 h.1.0 h.1.1.0 h.1.1.1,
      (
        λ ts parts p h q. start_passed parts p h.0 h.1.0 h.1.1 h.1.2,
        (
          λ ts parts p h q. inside_alone parts p h.0 h.1.0 h.1.1 h.1.2 h.1.4,
          from_behind_location_name,
        ),
      ),
    ),
  ),
)

from_invariant_clause : Each 59 (drop 59 jml_productions)
from_invariant_clause = (
  λ ts parts p h q. asserted_is parts p h.0 h.1.0 h.1.1 h.1.2,
  (
    λ ts parts p h q. single_is (parts0_is p h.0 h.1 h.2 h.3),
    (
      λ ts parts p h q. single_is (parts0_is p h.0 h.1 h.2 h.3),
      (
        λ ts parts p h q. locations_more parts p h.0 h.1.0 h.1.1.0 h.1.1.1,
        (
          λ ts parts p h q. locations_more parts p h.0 h.1.0 h.1.1.0 h.1.1.1,
          (
            λ ts parts p h q. no_locations parts p h.0 h.1 h.2 h.3 h.4 h.5,
            from_location,
          ),
        ),
      ),
    ),
  ),
)

from_truth : Each 54 (drop 54 jml_productions)
from_truth = (
  λ ts parts p h q. parts0_is p h.0 h.1 h.2 h.3,
  (
    λ ts parts p h q. parts0_is p h.0 h.1 h.2 h.3,
    (
      λ ts parts p h q. asserted_is parts p h.0 h.1.0 h.1.1 h.1.2,
      (
        λ ts parts p h q. asserted_is parts p h.0 h.1.0 h.1.1 h.1.2,
        (
          λ ts parts p h q. single_is (flat1_is p h.0 h.1.0 h.1.1 h.1.2),
          from_invariant_clause,
        ),
      ),
    ),
  ),
)

from_exception_name : Each 48 (drop 48 jml_productions)
from_exception_name = (
  λ ts parts p h q. flat1_is p h.0 h.1.0 h.1.1 h.1.2,
  (
    λ ts parts p h q. parts0_is p h.0 h.1 h.2 h.3,
    (
      λ ts parts p h q. parts0_is p h.0 h.1 h.2 h.3,
      (
        λ ts parts p h q. flats2 p h.0 h.1.0 h.1.1.0 h.1.1.1,
        (
          λ ts parts p h q. flats2 p h.0 h.1.0 h.1.1.0 h.1.1.1,
          (
            λ ts parts p h q. parts0_is p h.0 h.1 h.2 h.3,
            from_truth,
          ),
        ),
      ),
    ),
  ),
)

from_clauses : Each 39 (drop 39 jml_productions)
from_clauses = (
  λ ts parts p h q. clauses2 parts p h.0 h.1.0 h.1.1.0 h.1.1.1 h.1.1.4,
  (
    λ ts parts p h q. clauses0 parts p h.0 h.1 h.2 h.3 h.4 h.5 h.6,
    (
      λ ts parts p h q. asserted_is parts p h.0 h.1.0 h.1.1 h.1.2,
      (
        λ ts parts p h q. asserted_is parts p h.0 h.1.0 h.1.1 h.1.2,
        (
          λ ts parts p h q. signals_is parts p h.0 h.1.0 h.1.1.0 h.1.1.1.0,
          (
            λ ts parts p h q. single_is (flat1_is p h.0 h.1.0 h.1.1 h.1.2),
            (
              λ ts parts p h q. single_is (flat1_is p h.0 h.1.0 h.1.1 h.1.2),
              (
                λ ts parts p h q. asserted_is parts p h.0 h.1.0 h.1.1 h.1.2,
                (
                  λ ts parts p h q. single_is (flat1_is p h.0 h.1.0 h.1.1 h.1.2),
                  from_exception_name,
                ),
              ),
            ),
          ),
        ),
      ),
    ),
  ),
)

from_behavior_case : Each 34 (drop 34 jml_productions)
from_behavior_case = (
  λ ts parts p h q. behind_none_is (clauses1 parts p h.0 h.1.0 h.1.1 h.1.2 h.1.4 h.1.5),
  (
    λ ts parts p h q. behind_none_is (clauses1 parts p h.0 h.1.0 h.1.1 h.1.2 h.1.4 h.1.5),
    (
      λ ts parts p h q. behind_none_is (clauses1 parts p h.0 h.1.0 h.1.1 h.1.2 h.1.4 h.1.5),
      (
        λ ts parts p h q. behind_none_is (clauses2 parts p h.0 h.1.0 h.1.1.0 h.1.1.1 h.1.1.4),
        (
          λ ts parts p h q. clauses0 parts p h.0 h.1 h.2 h.3 h.4 h.5 h.6,
          from_clauses,
        ),
      ),
    ),
  ),
)

from_contract : Each 28 (drop 28 jml_productions)
from_contract = (
  λ ts parts p h q. clauses3 parts p h.0 h.1.0 h.1.1.0 h.1.1.1.0,
  (
    λ ts parts p h q. clauses3 parts p h.0 h.1.0 h.1.1.0 h.1.1.1.0,
    (
      λ ts parts p h q. clauses1 parts p h.0 h.1.0 h.1.1 h.1.2 h.1.4 h.1.5,
      (
        λ ts parts p h q. clauses1 parts p h.0 h.1.0 h.1.1 h.1.2 h.1.4 h.1.5,
        (
          λ ts parts p h q. clauses1 parts p h.0 h.1.0 h.1.1 h.1.2 h.1.4 h.1.5,
          (
            λ ts parts p h q. clauses2 parts p h.0 h.1.0 h.1.1.0 h.1.1.1 h.1.1.4,
            from_behavior_case,
          ),
        ),
      ),
    ),
  ),
)

from_modifier_word : Each 22 (drop 22 jml_productions)
from_modifier_word = (
  λ ts parts p h q. behind_none_is (clauses0 parts p h.0 h.1 h.2 h.3 h.4 h.5 h.6),
  (
    λ ts parts p h q. behind_none_is (clauses0 parts p h.0 h.1 h.2 h.3 h.4 h.5 h.6),
    (
      λ ts parts p h q. behind_none_is (clauses0 parts p h.0 h.1 h.2 h.3 h.4 h.5 h.6),
      (
        λ ts parts p h q. behind_none_is (clauses0 parts p h.0 h.1 h.2 h.3 h.4 h.5 h.6),
        (
          λ ts parts p h q. behind_none_is (clauses0 parts p h.0 h.1 h.2 h.3 h.4 h.5 h.6),
          (
            λ ts parts p h q. behind_none_is (clauses0 parts p h.0 h.1 h.2 h.3 h.4 h.5 h.6),
            from_contract,
          ),
        ),
      ),
    ),
  ),
)

from_class_end_specs : Each 17 (drop 17 jml_productions)
from_class_end_specs = (
  λ ts parts p h q. clauses2 parts p h.0 h.1.0 h.1.1.0 h.1.1.1 h.1.1.4,
  (
    λ ts parts p h q. clauses2 parts p h.0 h.1.0 h.1.1.0 h.1.1.1 h.1.1.4,
    (
      λ ts parts p h q. clauses0 parts p h.0 h.1 h.2 h.3 h.4 h.5 h.6,
      (
        λ ts parts p h q. clauses2 parts p h.0 h.1.0 h.1.1.0 h.1.1.1 h.1.1.4,
        (
          λ ts parts p h q. clauses0 parts p h.0 h.1 h.2 h.3 h.4 h.5 h.6,
          from_modifier_word,
        ),
      ),
    ),
  ),
)

from_field_specs : Each 11 (drop 11 jml_productions)
from_field_specs = (
  λ ts parts p h q. clauses2 parts p h.0 h.1.0 h.1.1.0 h.1.1.1 h.1.1.4,
  (
    λ ts parts p h q. clauses2 parts p h.0 h.1.0 h.1.1.0 h.1.1.1 h.1.1.4,
    (
      λ ts parts p h q. clauses1 parts p h.0 h.1.0 h.1.1 h.1.2 h.1.4 h.1.5,
      (
        λ ts parts p h q. clauses1 parts p h.0 h.1.0 h.1.1 h.1.2 h.1.4 h.1.5,
        (
          λ ts parts p h q. clauses2 parts p h.0 h.1.0 h.1.1.0 h.1.1.1 h.1.1.4,
          (
            λ ts parts p h q. clauses0 parts p h.0 h.1 h.2 h.3 h.4 h.5 h.6,
            from_class_end_specs,
          ),
        ),
      ),
    ),
  ),
)

from_method_specs_behind_visibility : Each 5 (drop 5 jml_productions)
from_method_specs_behind_visibility = (
  λ ts parts p h q. clauses2 parts p h.0 h.1.0 h.1.1.0 h.1.1.1 h.1.1.4,
  (
    λ ts parts p h q. clauses3 parts p h.0 h.1.0 h.1.1.0 h.1.1.1.0,
    (
      λ ts parts p h q. clauses2 parts p h.0 h.1.0 h.1.1.0 h.1.1.1 h.1.1.4,
      (
        λ ts parts p h q. clauses1 parts p h.0 h.1.0 h.1.1 h.1.2 h.1.4 h.1.5,
        (
          λ ts parts p h q. clauses3 parts p h.0 h.1.0 h.1.1.0 h.1.1.1.0,
          (
            λ ts parts p h q. clauses0 parts p h.0 h.1 h.2 h.3 h.4 h.5 h.6,
            from_field_specs,
          ),
        ),
      ),
    ),
  ),
)

pub each : Each 0 jml_productions
each = (
  λ ts parts p h q. clauses2 parts p h.0 h.1.0 h.1.1.0 h.1.1.1 h.1.1.4,
  (
    λ ts parts p h q. clauses1 parts p h.0 h.1.0 h.1.1 h.1.2 h.1.4 h.1.5,
    (
      λ ts parts p h q. clauses1 parts p h.0 h.1.0 h.1.1 h.1.2 h.1.4 h.1.5,
      (
        λ ts parts p h q. clauses2 parts p h.0 h.1.0 h.1.1.0 h.1.1.1 h.1.1.4,
        (
          λ ts parts p h q. clauses0 parts p h.0 h.1 h.2 h.3 h.4 h.5 h.6,
          from_method_specs_behind_visibility,
        ),
      ),
    ),
  ),
)
