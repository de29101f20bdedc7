-- What the nodes of each production tell, in the order of the productions.
use Rattle.std.proofs.Common.{◌≡◌, ◌⊎◌, inl, inr, [], ◌∷◌, drop, refl, sym, ap, subst, ◌∙◌}
use Rattle.jd_jml_grammar.specs.Productions.{jml_productions}
use Rattle.jd_syntax.specs.declared.java.InfixOperator.TheVariants as operators
use Rattle.jd_jml_values.specs.Values as values
use Rattle.jd_jml_values.specs.Parts.{expression_of, suffixes_of, arguments_of, name_of, type_of}
use Rattle.jd_jml_expressions.specs.Applying.{all_applied, named, joined}
use Rattle.jd_jml_attributes.specs.declared.form.Link.TheVariants as links
use Rattle.jd_jml_attributes.specs.Forms.{Same, NameInParentheses, Less, Other, inside, behind, linked}
use Rattle.jd_jml_proper.proofs.Told.{OfExpr, OfRelational, OfAnd, OfTail, put_together, put_before, relational_operand, and_operand, tail_operand, relational_before, at_most_alone, and_before, and_alone, tail_before}
use Rattle.jd_jml_proper.proofs.Rules.{without, without2, without3, none_kind, one_kind, two_kind, three_kind, tail_kind, inside_kind, stays_inside, stays_other, paren_operand, name_operand_kind, not_expression, nothing_is_no_expression}
use Rattle.jd_jml_proper.proofs.Sums.{proper_cast, proper_sum}
use Rattle.jd_jml_proper.proofs.Roles.{call_kind, Each}

-- ---- the productions from that name on; the last ones come first

from_suffixes : Each 163 (drop 163 jml_productions)
from_suffixes = (
  λ ts parts forms h q. (tt, subst (λ k. OfTail k (put_before (joined (name_of parts.first) (arguments_of parts.second)) parts.third)) (sym (without (behind (behind Other forms.second.kind) forms.third.kind) forms.fourth h.1.1.1.0 ∙ ap (λ k. behind k forms.third.kind) (stays_other Other forms.second.kind refl (call_kind h.1.0)))) (tail_before (joined (name_of parts.first) (arguments_of parts.second)) forms.third.kind parts.third h.1.1.0)),
  (
    λ ts parts forms h q. (tt, subst (λ k. OfTail k (put_before (values.Element (expression_of parts.first)) parts.second)) (sym (without2 (behind (Other) forms.second.kind) forms.third forms.fourth h.1.1.0 h.1.1.1)) (tail_before (values.Element (expression_of parts.first)) forms.second.kind parts.second h.1.0)),
    (
      λ ts parts forms h q. (tt, subst (λ k. OfTail k (values.Suffixes [])) (sym (none_kind forms h.0 h.1 h.2 h.3)) refl),
      (
        λ ts parts forms h q. (tt, (_, refl, refl)),
        (
          λ ts parts forms h q. (tt, (_, refl, refl)),
          (
            λ ts parts forms h q. (tt, (_, refl, refl)),
            (
              λ ts parts forms h q. (tt, (_, refl, refl)),
              (
                λ ts parts forms h q. (tt, (_, refl, refl)),
                (
                  λ ts parts forms h q. (tt, (_, refl, refl)),
                  (
                    λ ts parts forms h q. (tt, (_, refl, refl)),
                    (
                      λ ts parts forms h q. (tt, (_, refl, refl)),
                      (
                        λ ts parts forms h q. (tt, (_, refl, refl)),
                        (
                          λ ts parts forms h q. (tt, (_, refl, refl)),
                          (
                            λ ts parts forms h q. (tt, (_, refl, refl)),
                            (
                              λ ts parts forms h q. (tt, (_, refl, refl)),
                              (
                                λ ts parts forms h q. (tt, (_, refl, refl)),
                                (
                                  λ ts parts forms h q. (tt, (_, refl, refl)),
                                  (
                                    λ ts parts forms h q. (tt, (_, refl, refl)),
                                    (
                                      λ ts parts forms h q. (tt, (_, refl, refl)),
                                      (
                                        λ ts parts forms h q. (tt, (_, refl, refl)),
                                        (
                                          λ ts parts forms h q. (tt, (_, refl, refl)),
                                          (
                                            λ ts parts forms h q. (tt, (_, refl, refl)),
                                            (
                                              λ ts parts forms h q. (tt, (_, refl, refl)),
                                              (
                                                λ ts parts forms h q. (tt, (_, refl, refl)),
                                                tt,
                                              ),
                                            ),
                                          ),
                                        ),
                                      ),
                                    ),
                                  ),
                                ),
                              ),
                            ),
                          ),
                        ),
                      ),
                    ),
                  ),
                ),
              ),
            ),
          ),
        ),
      ),
    ),
  ),
)

from_invocation : Each 158 (drop 158 jml_productions)
from_invocation = (
  λ ts parts forms h q. (tt, refl),
  (
    λ ts parts forms h q. (tt, tt),
    (
      λ ts parts forms h q. (tt, tt),
      (
        λ ts parts forms h q. (tt, tt),
        (
          λ ts parts forms h q. (tt, tt),
          from_suffixes,
        ),
      ),
    ),
  ),
)

from_class_type : Each 153 (drop 153 jml_productions)
from_class_type = (
  λ ts parts forms h q. (tt, tt),
  (
    λ ts parts forms h q. (tt, tt),
    (
      λ ts parts forms h q. (tt, tt),
      (
        λ ts parts forms h q. (tt, inr (one_kind forms h.1.0 h.1.1 h.1.2 ∙ h.0)),
        (
          λ ts parts forms h q. (tt, inl (none_kind forms h.0 h.1 h.2 h.3, refl)),
          from_invocation,
        ),
      ),
    ),
  ),
)

from_behind_range : Each 147 (drop 147 jml_productions)
from_behind_range = (
  λ ts parts forms h q. (tt, tt),
  (
    λ ts parts forms h q. (tt, tt),
    (
      λ ts parts forms h q. (tt, tt),
      (
        λ ts parts forms h q. (tt, tt),
        (
          λ ts parts forms h q. (tt, tt),
          (
            λ ts parts forms h q. (tt, tt),
            from_class_type,
          ),
        ),
      ),
    ),
  ),
)

from_behind_parenthesis : Each 142 (drop 142 jml_productions)
from_behind_parenthesis = (
  λ ts parts forms h q. (tt, (inr refl, λ d e. (_, refl))),
  (
    λ ts parts forms h q. (tt, (subst (λ k. (k ≡ Same) ⊎ (k ≡ Other)) (sym (one_kind forms h.1.0 h.1.1 h.1.2)) (tail_kind forms.first.kind parts.first h.0), λ d e. absurd (not_expression forms.first.kind parts.first d h.0 e))),
    (
      λ ts parts forms h q. (tt, refl),
      (
        λ ts parts forms h q. (tt, refl),
        (
          λ ts parts forms h q. (proper_sum ts forms parts h.0 h.1.0 q, refl),
          from_behind_range,
        ),
      ),
    ),
  ),
)

from_parenthesis : Each 136 (drop 136 jml_productions)
from_parenthesis = (
  λ ts parts forms h q. (tt, inr refl),
  (
    λ ts parts forms h q. (tt, inr refl),
    (
      λ ts parts forms h q. (tt, inr (two_kind forms h.1.1.0 h.1.1.1 ∙ stays_other forms.first.kind forms.second.kind h.0 (tail_kind forms.second.kind parts.second h.1.0))),
      (
        λ ts parts forms h q. (proper_cast forms parts h.0 h.1.0 q, subst (λ k. (k ≡ NameInParentheses) ⊎ (k ≡ Other)) (sym (without2 (behind (inside forms.first.kind) forms.second.kind) forms.third forms.fourth h.1.1.0 h.1.1.1)) (stays_inside (inside forms.first.kind) forms.second.kind (inside_kind forms.first.kind) h.1.0.0)),
        (
          λ ts parts forms h q. (tt, tt),
          (
            λ ts parts forms h q. (tt, tt),
            from_behind_parenthesis,
          ),
        ),
      ),
    ),
  ),
)

from_atom : Each 127 (drop 127 jml_productions)
from_atom = (
  λ ts parts forms h q. (tt, (_, refl)),
  (
    λ ts parts forms h q. (tt, (_, refl)),
    (
      λ ts parts forms h q. (tt, (_, refl)),
      (
        λ ts parts forms h q. (tt, (_, refl)),
        (
          λ ts parts forms h q. (tt, (_, refl)),
          (
            λ ts parts forms h q. (tt, (_, refl)),
            (
              λ ts parts forms h q. (tt, (_, refl)),
              (
                λ ts parts forms h q. (tt, (_, refl)),
                (
                  λ ts parts forms h q. (tt, (_, refl)),
                  from_parenthesis,
                ),
              ),
            ),
          ),
        ),
      ),
    ),
  ),
)

from_unary : Each 120 (drop 120 jml_productions)
from_unary = (
  λ ts parts forms h q. (tt, (_, refl)),
  (
    λ ts parts forms h q. (tt, (_, refl)),
    (
      λ ts parts forms h q. (tt, subst (λ k. OfExpr k parts.first) (sym (one_kind forms h.1.0 h.1.1 h.1.2)) h.0),
      (
        λ ts parts forms h q. (tt, (_, refl)),
        (
          λ ts parts forms h q. (tt, paren_operand _ forms.first.kind _ (one_kind forms h.1.0 h.1.1 h.1.2) h.0),
          (
            λ ts parts forms h q. (tt, (let (x, is, ek) = h.0 in subst (λ k. OfExpr k (values.Expression (all_applied (named (name_of parts.first) (arguments_of parts.second)) (suffixes_of parts.third)))) (sym (three_kind forms h.1.1.1.0)) (name_operand_kind forms.first.kind forms.second.kind forms.third.kind parts.first parts.second parts.third x is ek h.1.0 h.1.1.0))),
            (
              λ ts parts forms h q. (tt, subst (λ k. OfExpr k (put_together parts.first parts.second)) (sym (two_kind forms h.1.1.0 h.1.1.1)) (tail_operand forms.first.kind forms.second.kind parts.first parts.second h.0 h.1.0)),
              from_atom,
            ),
          ),
        ),
      ),
    ),
  ),
)

from_multiplicative : Each 115 (drop 115 jml_productions)
from_multiplicative = (
  λ ts parts forms h q. (tt, subst (λ k. OfExpr k (put_together parts.first parts.second)) (sym (two_kind forms h.1.1.0 h.1.1.1)) (tail_operand forms.first.kind forms.second.kind parts.first parts.second h.0 h.1.0)),
  (
    λ ts parts forms h q. (tt, subst (λ k. OfTail k (put_before (values.Infix operators.Multiply (expression_of parts.first)) parts.second)) (sym (without2 (behind (Other) forms.second.kind) forms.third forms.fourth h.1.1.0 h.1.1.1)) (tail_before (values.Infix operators.Multiply (expression_of parts.first)) forms.second.kind parts.second h.1.0)),
    (
      λ ts parts forms h q. (tt, subst (λ k. OfTail k (put_before (values.Infix operators.Divide (expression_of parts.first)) parts.second)) (sym (without2 (behind (Other) forms.second.kind) forms.third forms.fourth h.1.1.0 h.1.1.1)) (tail_before (values.Infix operators.Divide (expression_of parts.first)) forms.second.kind parts.second h.1.0)),
      (
        λ ts parts forms h q. (tt, subst (λ k. OfTail k (put_before (values.Infix operators.Remainder (expression_of parts.first)) parts.second)) (sym (without2 (behind (Other) forms.second.kind) forms.third forms.fourth h.1.1.0 h.1.1.1)) (tail_before (values.Infix operators.Remainder (expression_of parts.first)) forms.second.kind parts.second h.1.0)),
        (
          λ ts parts forms h q. (tt, subst (λ k. OfTail k (values.Suffixes [])) (sym (none_kind forms h.0 h.1 h.2 h.3)) refl),
          from_unary,
        ),
      ),
    ),
  ),
)

from_reference_type : Each 109 (drop 109 jml_productions)
from_reference_type = (
  λ ts parts forms h q. (tt, tt),
  (
    λ ts parts forms h q. (tt, tt),
    (
      λ ts parts forms h q. (tt, subst (λ k. OfExpr k (put_together parts.first parts.second)) (sym (two_kind forms h.1.1.0 h.1.1.1)) (tail_operand forms.first.kind forms.second.kind parts.first parts.second h.0 h.1.0)),
      (
        λ ts parts forms h q. (tt, subst (λ k. OfTail k (put_before (values.Infix operators.Add (expression_of parts.first)) parts.second)) (sym (without2 (behind (Other) forms.second.kind) forms.third forms.fourth h.1.1.0 h.1.1.1)) (tail_before (values.Infix operators.Add (expression_of parts.first)) forms.second.kind parts.second h.1.0)),
        (
          λ ts parts forms h q. (tt, subst (λ k. OfTail k (put_before (values.Infix operators.Subtract (expression_of parts.first)) parts.second)) (sym (without2 (behind (Other) forms.second.kind) forms.third forms.fourth h.1.1.0 h.1.1.1)) (tail_before (values.Infix operators.Subtract (expression_of parts.first)) forms.second.kind parts.second h.1.0)),
          (
            λ ts parts forms h q. (tt, subst (λ k. OfTail k (values.Suffixes [])) (sym (none_kind forms h.0 h.1 h.2 h.3)) refl),
            from_multiplicative,
          ),
        ),
      ),
    ),
  ),
)

from_relational_tail : Each 103 (drop 103 jml_productions)
from_relational_tail = (
  λ ts parts forms h q. (tt, subst (λ k. OfRelational k (put_before (values.Infix operators.Less (expression_of parts.first)) parts.second)) (sym (without2 (behind (Less) forms.second.kind) forms.third forms.fourth h.1.1.0 h.1.1.1)) (relational_before (values.Infix operators.Less (expression_of parts.first)) Less forms.second.kind parts.second refl (_, refl) h.1.0)),
  (
    λ ts parts forms h q. (tt, subst (λ k. OfRelational k (put_before (values.Infix operators.LessOrEqual (expression_of parts.first)) parts.second)) (sym (without2 (behind (linked links.AtMost forms.first.kind) forms.second.kind) forms.third forms.fourth h.1.1.0 h.1.1.1)) ((let (a, b) = at_most_alone forms.first.kind parts.first h.0 in relational_before (values.Infix operators.LessOrEqual (expression_of parts.first)) (linked links.AtMost forms.first.kind) forms.second.kind parts.second a b h.1.0))),
    (
      λ ts parts forms h q. (tt, subst (λ k. OfRelational k (put_before (values.Infix operators.Greater (expression_of parts.first)) parts.second)) (sym (without2 (behind (Other) forms.second.kind) forms.third forms.fourth h.1.1.0 h.1.1.1)) (relational_before (values.Infix operators.Greater (expression_of parts.first)) Other forms.second.kind parts.second refl (_, refl) h.1.0)),
      (
        λ ts parts forms h q. (tt, subst (λ k. OfRelational k (put_before (values.Infix operators.GreaterOrEqual (expression_of parts.first)) parts.second)) (sym (without2 (behind (Other) forms.second.kind) forms.third forms.fourth h.1.1.0 h.1.1.1)) (relational_before (values.Infix operators.GreaterOrEqual (expression_of parts.first)) Other forms.second.kind parts.second refl (_, refl) h.1.0)),
        (
          λ ts parts forms h q. (tt, subst (λ k. OfRelational k (put_before (values.InstanceOf (type_of parts.first)) parts.second)) (sym (without2 (behind (Other) forms.second.kind) forms.third forms.fourth h.1.1.0 h.1.1.1)) (relational_before (values.InstanceOf (type_of parts.first)) Other forms.second.kind parts.second refl (_, refl) h.1.0)),
          (
            λ ts parts forms h q. (tt, subst (λ k. OfRelational k (values.Suffixes [])) (sym (none_kind forms h.0 h.1 h.2 h.3)) refl),
            from_reference_type,
          ),
        ),
      ),
    ),
  ),
)

from_equality : Each 98 (drop 98 jml_productions)
from_equality = (
  λ ts parts forms h q. (tt, subst (λ k. OfExpr k (put_together parts.first parts.second)) (sym (two_kind forms h.1.1.0 h.1.1.1)) (tail_operand forms.first.kind forms.second.kind parts.first parts.second h.0 h.1.0)),
  (
    λ ts parts forms h q. (tt, subst (λ k. OfTail k (put_before (values.Infix operators.Equal (expression_of parts.first)) parts.second)) (sym (without2 (behind (Other) forms.second.kind) forms.third forms.fourth h.1.1.0 h.1.1.1)) (tail_before (values.Infix operators.Equal (expression_of parts.first)) forms.second.kind parts.second h.1.0)),
    (
      λ ts parts forms h q. (tt, subst (λ k. OfTail k (put_before (values.Infix operators.NotEqual (expression_of parts.first)) parts.second)) (sym (without2 (behind (Other) forms.second.kind) forms.third forms.fourth h.1.1.0 h.1.1.1)) (tail_before (values.Infix operators.NotEqual (expression_of parts.first)) forms.second.kind parts.second h.1.0)),
      (
        λ ts parts forms h q. (tt, subst (λ k. OfTail k (values.Suffixes [])) (sym (none_kind forms h.0 h.1 h.2 h.3)) refl),
        (
          λ ts parts forms h q. (tt, subst (λ k. OfExpr k (put_together parts.first parts.second)) (sym (two_kind forms h.1.1.0 h.1.1.1)) (relational_operand forms.first.kind forms.second.kind parts.first parts.second h.0 h.1.0)),
          from_relational_tail,
        ),
      ),
    ),
  ),
)

from_or : Each 92 (drop 92 jml_productions)
from_or = (
  λ ts parts forms h q. (tt, subst (λ k. OfExpr k (put_together parts.first parts.second)) (sym (two_kind forms h.1.1.0 h.1.1.1)) (tail_operand forms.first.kind forms.second.kind parts.first parts.second h.0 h.1.0)),
  (
    λ ts parts forms h q. (tt, subst (λ k. OfTail k (put_before (values.Infix operators.OrElse (expression_of parts.first)) parts.second)) (sym (without2 (behind (Other) forms.second.kind) forms.third forms.fourth h.1.1.0 h.1.1.1)) (tail_before (values.Infix operators.OrElse (expression_of parts.first)) forms.second.kind parts.second h.1.0)),
    (
      λ ts parts forms h q. (tt, subst (λ k. OfTail k (values.Suffixes [])) (sym (none_kind forms h.0 h.1 h.2 h.3)) refl),
      (
        λ ts parts forms h q. (tt, subst (λ k. OfExpr k (put_together parts.first parts.second)) (sym (two_kind forms h.1.1.0 h.1.1.1)) (and_operand forms.first.kind forms.second.kind parts.first parts.second h.0 h.1.0)),
        (
          λ ts parts forms h q. (tt, subst (λ k. OfAnd k (put_before (values.Infix operators.AndAlso (expression_of parts.first)) parts.second)) (sym (without2 (behind (linked links.And forms.first.kind) forms.second.kind) forms.third forms.fourth h.1.1.0 h.1.1.1)) ((let (a, b) = and_alone forms.first.kind parts.first h.0 in and_before (values.Infix operators.AndAlso (expression_of parts.first)) (linked links.And forms.first.kind) forms.second.kind parts.second a b h.1.0))),
          (
            λ ts parts forms h q. (tt, subst (λ k. OfAnd k (values.Suffixes [])) (sym (none_kind forms h.0 h.1 h.2 h.3)) refl),
            from_equality,
          ),
        ),
      ),
    ),
  ),
)

from_equivalence : Each 86 (drop 86 jml_productions)
from_equivalence = (
  λ ts parts forms h q. (tt, subst (λ k. OfExpr k (put_together parts.first parts.second)) (sym (two_kind forms h.1.1.0 h.1.1.1)) (tail_operand forms.first.kind forms.second.kind parts.first parts.second h.0 h.1.0)),
  (
    λ ts parts forms h q. (tt, subst (λ k. OfTail k (put_before (values.Equivalent (expression_of parts.first)) parts.second)) (sym (without2 (behind (Other) forms.second.kind) forms.third forms.fourth h.1.1.0 h.1.1.1)) (tail_before (values.Equivalent (expression_of parts.first)) forms.second.kind parts.second h.1.0)),
    (
      λ ts parts forms h q. (tt, subst (λ k. OfTail k (values.Suffixes [])) (sym (none_kind forms h.0 h.1 h.2 h.3)) refl),
      (
        λ ts parts forms h q. (tt, subst (λ k. OfExpr k (put_together parts.first parts.second)) (sym (two_kind forms h.1.1.0 h.1.1.1)) (tail_operand forms.first.kind forms.second.kind parts.first parts.second h.0 h.1.0)),
        (
          λ ts parts forms h q. (tt, subst (λ k. OfTail k (values.Suffixes (values.Implies (expression_of parts.first) ∷ []))) (sym (without3 Other forms.second forms.third forms.fourth h.1.0 h.1.1 h.1.2)) (_, refl)),
          (
            λ ts parts forms h q. (tt, subst (λ k. OfTail k (values.Suffixes [])) (sym (none_kind forms h.0 h.1 h.2 h.3)) refl),
            from_or,
          ),
        ),
      ),
    ),
  ),
)

from_behind_location_element : Each 81 (drop 81 jml_productions)
from_behind_location_element = (
  λ ts parts forms h q. (tt, tt),
  (
    λ ts parts forms h q. (tt, tt),
    (
      λ ts parts forms h q. (tt, subst (λ k. OfExpr k (put_together parts.first parts.second)) (sym (two_kind forms h.1.1.0 h.1.1.1)) (tail_operand forms.first.kind forms.second.kind parts.first parts.second h.0 h.1.0)),
      (
        λ ts parts forms h q. (tt, subst (λ k. OfTail k (values.Suffixes (values.Choice (expression_of parts.first) (expression_of parts.second) ∷ []))) (sym (without2 Other forms.third forms.fourth h.1.1.0 h.1.1.1)) (_, refl)),
        (
          λ ts parts forms h q. (tt, subst (λ k. OfTail k (values.Suffixes [])) (sym (none_kind forms h.0 h.1 h.2 h.3)) refl),
          from_equivalence,
        ),
      ),
    ),
  ),
)

from_location_member : Each 75 (drop 75 jml_productions)
from_location_member = (
  λ ts parts forms h q. (tt, tt),
  (
    λ ts parts forms h q. (tt, tt),
    (
      λ ts parts forms h q. (tt, tt),
      (
        λ ts parts forms h q. (tt, tt),
        (
          λ ts parts forms h q. (tt, tt),
          (
            λ ts parts forms h q. (tt, tt),
            from_behind_location_element,
          ),
        ),
      ),
    ),
  ),
)

from_behind_location_name : Each 70 (drop 70 jml_productions)
from_behind_location_name = (
  λ ts parts forms h q. (tt, tt),
  (
    λ ts parts forms h q. (tt, tt),
    (
      λ ts parts forms h q. (tt, tt),
      (
        λ ts parts forms h q. (tt, tt),
        (
          λ ts parts forms h q. (tt, tt),
          from_location_member,
        ),
      ),
    ),
  ),
)

from_location : Each 65 (drop 65 jml_productions)
from_location = (
  λ ts parts forms h q. (tt, tt),
  (
    λ ts parts forms h q. (tt, tt),
    (
      λ ts parts forms h q. (tt, tt),
      (
        λ ts parts forms h q. (tt, tt),
        (
          λ ts parts forms h q. (λ d e. absurd (nothing_is_no_expression parts.second d h.1.4 e), tt),
          from_behind_location_name,
        ),
      ),
    ),
  ),
)

from_invariant_clause : Each 59 (drop 59 jml_productions)
from_invariant_clause = (
  λ ts parts forms h q. (tt, tt),
  (
    λ ts parts forms h q. (tt, tt),
    (
      λ ts parts forms h q. (tt, tt),
      (
        λ ts parts forms h q. (tt, tt),
        (
          λ ts parts forms h q. (tt, tt),
          (
            λ ts parts forms h q. (tt, tt),
            from_location,
          ),
        ),
      ),
    ),
  ),
)

from_truth : Each 54 (drop 54 jml_productions)
from_truth = (
  λ ts parts forms h q. (tt, tt),
  (
    λ ts parts forms h q. (tt, tt),
    (
      λ ts parts forms h q. (tt, tt),
      (
        λ ts parts forms h q. (tt, tt),
        (
          λ ts parts forms h q. (tt, tt),
          from_invariant_clause,
        ),
      ),
    ),
  ),
)

from_exception_name : Each 48 (drop 48 jml_productions)
from_exception_name = (
  λ ts parts forms h q. (tt, tt),
  (
    λ ts parts forms h q. (tt, tt),
    (
      λ ts parts forms h q. (tt, tt),
      (
        λ ts parts forms h q. (tt, tt),
        (
          λ ts parts forms h q. (tt, tt),
          (
            λ ts parts forms h q. (tt, tt),
            from_truth,
          ),
        ),
      ),
    ),
  ),
)

from_clauses : Each 39 (drop 39 jml_productions)
from_clauses = (
  λ ts parts forms h q. (tt, tt),
  (
    λ ts parts forms h q. (tt, tt),
    (
      λ ts parts forms h q. (tt, tt),
      (
        λ ts parts forms h q. (tt, tt),
        (
          λ ts parts forms h q. (tt, tt),
          (
            λ ts parts forms h q. (tt, tt),
            (
              λ ts parts forms h q. (tt, tt),
              (
                λ ts parts forms h q. (tt, tt),
                (
                  λ ts parts forms h q. (tt, tt),
                  from_exception_name,
                ),
              ),
            ),
          ),
        ),
      ),
    ),
  ),
)

from_behavior_case : Each 34 (drop 34 jml_productions)
from_behavior_case = (
  λ ts parts forms h q. (tt, tt),
  (
    λ ts parts forms h q. (tt, tt),
    (
      λ ts parts forms h q. (tt, tt),
      (
        λ ts parts forms h q. (tt, tt),
        (
          λ ts parts forms h q. (tt, tt),
          from_clauses,
        ),
      ),
    ),
  ),
)

from_contract : Each 28 (drop 28 jml_productions)
from_contract = (
  λ ts parts forms h q. (tt, tt),
  (
    λ ts parts forms h q. (tt, tt),
    (
      λ ts parts forms h q. (tt, tt),
      (
        λ ts parts forms h q. (tt, tt),
        (
          λ ts parts forms h q. (tt, tt),
          (
            λ ts parts forms h q. (tt, tt),
            from_behavior_case,
          ),
        ),
      ),
    ),
  ),
)

from_modifier_word : Each 22 (drop 22 jml_productions)
from_modifier_word = (
  λ ts parts forms h q. (tt, tt),
  (
    λ ts parts forms h q. (tt, tt),
    (
      λ ts parts forms h q. (tt, tt),
      (
        λ ts parts forms h q. (tt, tt),
        (
          λ ts parts forms h q. (tt, tt),
          (
            λ ts parts forms h q. (tt, tt),
            from_contract,
          ),
        ),
      ),
    ),
  ),
)

from_class_end_specs : Each 17 (drop 17 jml_productions)
from_class_end_specs = (
  λ ts parts forms h q. (tt, tt),
  (
    λ ts parts forms h q. (tt, tt),
    (
      λ ts parts forms h q. (tt, tt),
      (
        λ ts parts forms h q. (tt, tt),
        (
          λ ts parts forms h q. (tt, tt),
          from_modifier_word,
        ),
      ),
    ),
  ),
)

from_field_specs : Each 11 (drop 11 jml_productions)
from_field_specs = (
  λ ts parts forms h q. (tt, tt),
  (
    λ ts parts forms h q. (tt, tt),
    (
      λ ts parts forms h q. (tt, tt),
      (
        λ ts parts forms h q. (tt, tt),
        (
          λ ts parts forms h q. (tt, tt),
          (
            λ ts parts forms h q. (tt, tt),
            from_class_end_specs,
          ),
        ),
      ),
    ),
  ),
)

from_method_specs_behind_visibility : Each 5 (drop 5 jml_productions)
from_method_specs_behind_visibility = (
  λ ts parts forms h q. (tt, tt),
  (
    λ ts parts forms h q. (tt, tt),
    (
      λ ts parts forms h q. (tt, tt),
      (
        λ ts parts forms h q. (tt, tt),
        (
          λ ts parts forms h q. (tt, tt),
          (
            λ ts parts forms h q. (tt, tt),
            from_field_specs,
          ),
        ),
      ),
    ),
  ),
)

pub each : Each 0 jml_productions
each = (
  λ ts parts forms h q. (tt, tt),
  (
    λ ts parts forms h q. (tt, tt),
    (
      λ ts parts forms h q. (tt, tt),
      (
        λ ts parts forms h q. (tt, tt),
        (
          λ ts parts forms h q. (tt, tt),
          from_method_specs_behind_visibility,
        ),
      ),
    ),
  ),
)
