-- What the nodes of each production tell, in the order of the productions.
use Rattle.std.proofs.Common.{drop, refl, sym, subst, ◌∙◌}
use Rattle.jd_java_grammar.specs.Productions.{java_productions}
use Rattle.jd_java_tokens.specs.Heads.{place_of, text_of}
use Rattle.jd_java_values.specs.Parts.{static_of, declared_of}
use Rattle.jd_java_expressions.specs.Meaning.{all_suffixes}
use Rattle.jd_java_attributes.specs.declared.form.Kind.TheVariants as kinds
use Rattle.jd_java_attributes.specs.declared.heading.Declared.TheVariants as declares
use Rattle.jd_java_attributes.specs.declared.rows.Rule.TheVariants as rules
use Rattle.jd_java_attributes.specs.Forms.{inside}
use Rattle.jd_java_attributes.specs.Rules.{made}
use Rattle.jd_java_attributes.specs.Headings.{all_joined, told}
use Rattle.jd_java_attributes.specs.Judging.{plain_forms, plain_headings}
use Rattle.jd_java_trees.specs.Meaning.{action_of, meaning_by}
use Rattle.jd_java_proper.proofs.Told.{chain, same_is_no_name, target_is_no_name, effect_is_no_name, other_is_no_name, target_is_not_same, effect_is_not_same, other_is_not_same, no_name_inside, no_name_chain, no_operand, first_operand, operand_told, name_told, tails_told, tail_told, call_told, no_expression}
use Rattle.jd_java_proper.proofs.Headings.{DeclaredAs, named_part, int_part, class_part, none_static, first_and_third_static, first_declared, second_declared, declaration_static, declaration_declared}
use Rattle.jd_java_proper.proofs.Rules.{first_none, cast_proper}
use Rattle.jd_java_proper.proofs.Roles.{missing_static, missing_declared, missing_no_name, missing_tail, member_proper, Each}

-- ---- the productions from that name on; the last ones come first

from_suffixes : Each 218 (drop 218 java_productions)
from_suffixes = (
  λ ts parts us h q. (tt, (tail_told (meaning_by (action_of 218) ts parts) kinds.Target us.second.form.kind us.third.form.kind us.fourth.form.kind kinds.Same target_is_no_name target_is_not_same h.1.0.0.0 h.1.1.0.0.0 (missing_no_name us.fourth h.1.1.1.0) same_is_no_name, none_static (plain_headings us) h.0.1.0 h.1.0.1 h.1.1.0.1 (missing_static us.fourth h.1.1.1.0))),
  (
    λ ts parts us h q. (tt, (tail_told (meaning_by (action_of 219) ts parts) kinds.Target us.second.form.kind us.third.form.kind us.fourth.form.kind kinds.Same target_is_no_name target_is_not_same h.1.0.0.0 (missing_no_name us.third h.1.1.0) (missing_no_name us.fourth h.1.1.1) same_is_no_name, none_static (plain_headings us) h.0.1 h.1.0.1 (missing_static us.third h.1.1.0) (missing_static us.fourth h.1.1.1))),
    (
      λ ts parts us h q. (tt, (tails_told parts us.first.form.kind us.second.form.kind us.third.form.kind us.fourth.form.kind (missing_tail us.first parts.first h.0 h.4) (missing_tail us.second parts.second h.1 h.5) (missing_tail us.third parts.third h.2 h.6) (missing_tail us.fourth parts.fourth h.3 h.7), none_static (plain_headings us) (missing_static us.first h.0) (missing_static us.second h.1) (missing_static us.third h.2) (missing_static us.fourth h.3))),
      (
        λ ts parts us h q. (tt, (tail_told (meaning_by (action_of 221) ts parts) kinds.Effect us.first.form.kind us.second.form.kind us.third.form.kind us.fourth.form.kind effect_is_no_name effect_is_not_same (missing_no_name us.first h.0) (missing_no_name us.second h.1) (missing_no_name us.third h.2) (missing_no_name us.fourth h.3), none_static (plain_headings us) (missing_static us.first h.0) (missing_static us.second h.1) (missing_static us.third h.2) (missing_static us.fourth h.3))),
        (
          λ ts parts us h q. (tt, (tail_told (meaning_by (action_of 222) ts parts) kinds.Effect us.first.form.kind us.second.form.kind us.third.form.kind us.fourth.form.kind effect_is_no_name effect_is_not_same (missing_no_name us.first h.0) (missing_no_name us.second h.1) (missing_no_name us.third h.2) (missing_no_name us.fourth h.3), none_static (plain_headings us) (missing_static us.first h.0) (missing_static us.second h.1) (missing_static us.third h.2) (missing_static us.fourth h.3))),
          (
            λ ts parts us h q. (tt, (tails_told parts us.first.form.kind us.second.form.kind us.third.form.kind us.fourth.form.kind (missing_tail us.first parts.first h.0 h.4) (missing_tail us.second parts.second h.1 h.5) (missing_tail us.third parts.third h.2 h.6) (missing_tail us.fourth parts.fourth h.3 h.7), none_static (plain_headings us) (missing_static us.first h.0) (missing_static us.second h.1) (missing_static us.third h.2) (missing_static us.fourth h.3))),
            (
              λ ts parts us h q. (tt, (tt, (none_static (plain_headings us) (missing_static us.first h.0) (missing_static us.second h.1) (missing_static us.third h.2) (missing_static us.fourth h.3), first_declared (plain_headings us) (missing_declared us.second h.1) (missing_declared us.third h.2) (missing_declared us.fourth h.3) ∙ (missing_declared us.first h.0)))),
              tt,
            ),
          ),
        ),
      ),
    ),
  ),
)

from_array_member : Each 211 (drop 211 java_productions)
from_array_member = (
  λ ts parts us h q. (tt, (tail_told (meaning_by (action_of 211) ts parts) kinds.Target us.second.form.kind us.third.form.kind us.fourth.form.kind kinds.Same target_is_no_name target_is_not_same h.1.0.0.0 h.1.1.0.0.0 (missing_no_name us.fourth h.1.1.1.0) same_is_no_name, none_static (plain_headings us) h.0.1.0 h.1.0.1 h.1.1.0.1 (missing_static us.fourth h.1.1.1.0))),
  (
    λ ts parts us h q. (tt, (call_told (meaning_by (action_of 212) ts parts) kinds.Effect us.second.form.kind us.third.form.kind us.fourth.form.kind kinds.Same effect_is_no_name effect_is_not_same (missing_no_name us.second h.1.0) (missing_no_name us.third h.1.1) (missing_no_name us.fourth h.1.2) same_is_no_name, none_static (plain_headings us) h.0.1 (missing_static us.second h.1.0) (missing_static us.third h.1.1) (missing_static us.fourth h.1.2))),
    (
      λ ts parts us h q. (tt, ((no_name_chain kinds.Same us.first.form.kind us.second.form.kind us.third.form.kind us.fourth.form.kind same_is_no_name (missing_no_name us.first h.0) (missing_no_name us.second h.1) (missing_no_name us.third h.2) (missing_no_name us.fourth h.3), λ e. refl), none_static (plain_headings us) (missing_static us.first h.0) (missing_static us.second h.1) (missing_static us.third h.2) (missing_static us.fourth h.3))),
      (
        λ ts parts us h q. (tt, (tt, none_static (plain_headings us) (missing_static us.first h.0) (missing_static us.second h.1) (missing_static us.third h.2) (missing_static us.fourth h.3))),
        (
          λ ts parts us h q. (tt, (tt, none_static (plain_headings us) h.0.1 h.1.0.1 (missing_static us.third h.1.1.0) (missing_static us.fourth h.1.1.1))),
          (
            λ ts parts us h q. (tt, (tt, none_static (plain_headings us) h.0.1 h.1.0.1 (missing_static us.third h.1.1.0) (missing_static us.fourth h.1.1.1))),
            (
              λ ts parts us h q. (tt, (tt, none_static (plain_headings us) (missing_static us.first h.0) (missing_static us.second h.1) (missing_static us.third h.2) (missing_static us.fourth h.3))),
              from_suffixes,
            ),
          ),
        ),
      ),
    ),
  ),
)

from_literal : Each 203 (drop 203 java_productions)
from_literal = (
  λ ts parts us h q. (tt, (no_operand (chain kinds.Other us.first.form.kind us.second.form.kind us.third.form.kind us.fourth.form.kind) (meaning_by (action_of 203) ts parts) (no_name_chain kinds.Other us.first.form.kind us.second.form.kind us.third.form.kind us.fourth.form.kind other_is_no_name (missing_no_name us.first h.0) (missing_no_name us.second h.1) (missing_no_name us.third h.2) (missing_no_name us.fourth h.3)), none_static (plain_headings us) (missing_static us.first h.0) (missing_static us.second h.1) (missing_static us.third h.2) (missing_static us.fourth h.3))),
  (
    λ ts parts us h q. (tt, (no_operand (chain kinds.Other us.first.form.kind us.second.form.kind us.third.form.kind us.fourth.form.kind) (meaning_by (action_of 204) ts parts) (no_name_chain kinds.Other us.first.form.kind us.second.form.kind us.third.form.kind us.fourth.form.kind other_is_no_name (missing_no_name us.first h.0) (missing_no_name us.second h.1) (missing_no_name us.third h.2) (missing_no_name us.fourth h.3)), none_static (plain_headings us) (missing_static us.first h.0) (missing_static us.second h.1) (missing_static us.third h.2) (missing_static us.fourth h.3))),
    (
      λ ts parts us h q. (tt, (no_operand (chain kinds.Other us.first.form.kind us.second.form.kind us.third.form.kind us.fourth.form.kind) (meaning_by (action_of 205) ts parts) (no_name_chain kinds.Other us.first.form.kind us.second.form.kind us.third.form.kind us.fourth.form.kind other_is_no_name (missing_no_name us.first h.0) (missing_no_name us.second h.1) (missing_no_name us.third h.2) (missing_no_name us.fourth h.3)), none_static (plain_headings us) (missing_static us.first h.0) (missing_static us.second h.1) (missing_static us.third h.2) (missing_static us.fourth h.3))),
      (
        λ ts parts us h q. (tt, (no_operand (chain kinds.Other us.first.form.kind us.second.form.kind us.third.form.kind us.fourth.form.kind) (meaning_by (action_of 206) ts parts) (no_name_chain kinds.Other us.first.form.kind us.second.form.kind us.third.form.kind us.fourth.form.kind other_is_no_name (missing_no_name us.first h.0) (missing_no_name us.second h.1) (missing_no_name us.third h.2) (missing_no_name us.fourth h.3)), none_static (plain_headings us) (missing_static us.first h.0) (missing_static us.second h.1) (missing_static us.third h.2) (missing_static us.fourth h.3))),
        (
          λ ts parts us h q. (tt, (no_name_chain kinds.Effect us.third.form.kind us.fourth.form.kind kinds.Same kinds.Same effect_is_no_name h.1.1.0.0.0 h.1.1.1.0.0.0 same_is_no_name same_is_no_name, none_static (plain_headings us) h.0.1.0 h.1.0.1 h.1.1.0.1 h.1.1.1.0.1)),
          (
            λ ts parts us h q. (tt, (no_name_chain kinds.Other us.second.form.kind us.third.form.kind us.fourth.form.kind kinds.Same other_is_no_name h.1.0.0.0 (missing_no_name us.third h.1.1.0) (missing_no_name us.fourth h.1.1.1) same_is_no_name, none_static (plain_headings us) h.0.1 h.1.0.1 (missing_static us.third h.1.1.0) (missing_static us.fourth h.1.1.1))),
            (
              λ ts parts us h q. (tt, (tails_told parts us.first.form.kind us.second.form.kind us.third.form.kind us.fourth.form.kind h.0.0 h.1.0.0 (missing_tail us.third parts.third h.1.1.0 h.1.1.4) (missing_tail us.fourth parts.fourth h.1.1.1 h.1.1.5), none_static (plain_headings us) h.0.1 h.1.0.1 (missing_static us.third h.1.1.0) (missing_static us.fourth h.1.1.1))),
              (
                λ ts parts us h q. (tt, (tails_told parts us.first.form.kind us.second.form.kind us.third.form.kind us.fourth.form.kind (missing_tail us.first parts.first h.0 h.4) (missing_tail us.second parts.second h.1 h.5) (missing_tail us.third parts.third h.2 h.6) (missing_tail us.fourth parts.fourth h.3 h.7), none_static (plain_headings us) (missing_static us.first h.0) (missing_static us.second h.1) (missing_static us.third h.2) (missing_static us.fourth h.3))),
                from_array_member,
              ),
            ),
          ),
        ),
      ),
    ),
  ),
)

from_unsigned : Each 192 (drop 192 java_productions)
from_unsigned = (
  λ ts parts us h q. (tt, (name_told (place_of 0 ts) (text_of ts) parts us.first.form.kind us.second.form.kind us.third.form.kind us.fourth.form.kind h.0.0 h.1.0.0 h.1.1.0.0 (missing_tail us.fourth parts.fourth h.1.1.1.0 h.1.1.1.4), none_static (plain_headings us) h.0.1 h.1.0.1 h.1.1.0.1 (missing_static us.fourth h.1.1.1.0))),
  (
    λ ts parts us h q. (tt, (operand_told parts us.first.form.kind us.second.form.kind us.third.form.kind us.fourth.form.kind h.0.0 h.1.0.0 h.1.1.0.0 (missing_tail us.fourth parts.fourth h.1.1.1.0 h.1.1.1.4), none_static (plain_headings us) h.0.1 h.1.0.1 h.1.1.0.1 (missing_static us.fourth h.1.1.1.0))),
    (
      λ ts parts us h q. (tt, (no_operand (chain kinds.Target us.first.form.kind us.second.form.kind us.third.form.kind us.fourth.form.kind) (meaning_by (action_of 194) ts parts) (no_name_chain kinds.Target us.first.form.kind us.second.form.kind us.third.form.kind us.fourth.form.kind target_is_no_name h.0.0.0 h.1.0.0.0 (missing_no_name us.third h.1.1.0) (missing_no_name us.fourth h.1.1.1)), none_static (plain_headings us) h.0.1 h.1.0.1 (missing_static us.third h.1.1.0) (missing_static us.fourth h.1.1.1))),
      (
        λ ts parts us h q. (tt, (no_operand (chain kinds.Same us.first.form.kind us.second.form.kind us.third.form.kind us.fourth.form.kind) (meaning_by (action_of 195) ts parts) (no_name_chain kinds.Same us.first.form.kind us.second.form.kind us.third.form.kind us.fourth.form.kind same_is_no_name h.0.0 (missing_no_name us.second h.1.0) (missing_no_name us.third h.1.1) (missing_no_name us.fourth h.1.2)), none_static (plain_headings us) h.0.1 (missing_static us.second h.1.0) (missing_static us.third h.1.1) (missing_static us.fourth h.1.2))),
        (
          λ ts parts us h q. (tt, (no_name_chain kinds.Other us.second.form.kind us.third.form.kind us.fourth.form.kind kinds.Same other_is_no_name (missing_no_name us.second h.1.0) (missing_no_name us.third h.1.1) (missing_no_name us.fourth h.1.2) same_is_no_name, none_static (plain_headings us) h.0.1 (missing_static us.second h.1.0) (missing_static us.third h.1.1) (missing_static us.fourth h.1.2))),
          (
            λ ts parts us h q. (tt, (no_name_chain kinds.Other us.second.form.kind us.third.form.kind us.fourth.form.kind kinds.Same other_is_no_name (missing_no_name us.second h.1.0) (missing_no_name us.third h.1.1) (missing_no_name us.fourth h.1.2) same_is_no_name, none_static (plain_headings us) h.0.1 (missing_static us.second h.1.0) (missing_static us.third h.1.1) (missing_static us.fourth h.1.2))),
            (
              λ ts parts us h q. (cast_proper (plain_forms us) parts.first parts.second 1 ts h.0.0 h.1.0.0.1 (first_none (made rules.Parenthesized 1 ts (plain_forms us)).fault (all_joined (plain_headings us)).fault q).0, (no_name_chain (inside us.first.form.kind) us.second.form.kind us.third.form.kind us.fourth.form.kind kinds.Same (no_name_inside us.first.form.kind) h.1.0.0.0 (missing_no_name us.third h.1.1.0) (missing_no_name us.fourth h.1.1.1) same_is_no_name, none_static (plain_headings us) h.0.1 h.1.0.1 (missing_static us.third h.1.1.0) (missing_static us.fourth h.1.1.1))),
              (
                λ ts parts us h q. (tt, (tt, none_static (plain_headings us) h.0.1 (missing_static us.second h.1.0) (missing_static us.third h.1.1) (missing_static us.fourth h.1.2))),
                (
                  λ ts parts us h q. (tt, (tt, none_static (plain_headings us) h.0.1 (missing_static us.second h.1.0) (missing_static us.third h.1.1) (missing_static us.fourth h.1.2))),
                  (
                    λ ts parts us h q. (tt, ((other_is_no_name, λ d e. (_, refl)), none_static (plain_headings us) h.0.1 (missing_static us.second h.1.0) (missing_static us.third h.1.1) (missing_static us.fourth h.1.2))),
                    (
                      λ ts parts us h q. (tt, ((no_name_chain kinds.Same us.first.form.kind us.second.form.kind us.third.form.kind us.fourth.form.kind same_is_no_name h.0.0.0 h.1.0.0.0 (missing_no_name us.third h.1.1.0) (missing_no_name us.fourth h.1.1.1), λ d e. absurd (no_expression (all_suffixes parts) d e)), none_static (plain_headings us) h.0.1 h.1.0.1 (missing_static us.third h.1.1.0) (missing_static us.fourth h.1.1.1))),
                      from_literal,
                    ),
                  ),
                ),
              ),
            ),
          ),
        ),
      ),
    ),
  ),
)

from_unary : Each 183 (drop 183 java_productions)
from_unary = (
  λ ts parts us h q. (tt, (no_operand (chain kinds.Other us.second.form.kind us.third.form.kind us.fourth.form.kind kinds.Same) (meaning_by (action_of 183) ts parts) (no_name_chain kinds.Other us.second.form.kind us.third.form.kind us.fourth.form.kind kinds.Same other_is_no_name (missing_no_name us.second h.1.0) (missing_no_name us.third h.1.1) (missing_no_name us.fourth h.1.2) same_is_no_name), none_static (plain_headings us) h.0.1 (missing_static us.second h.1.0) (missing_static us.third h.1.1) (missing_static us.fourth h.1.2))),
  (
    λ ts parts us h q. (tt, (no_operand (chain kinds.Other us.second.form.kind us.third.form.kind us.fourth.form.kind kinds.Same) (meaning_by (action_of 184) ts parts) (no_name_chain kinds.Other us.second.form.kind us.third.form.kind us.fourth.form.kind kinds.Same other_is_no_name (missing_no_name us.second h.1.0) (missing_no_name us.third h.1.1) (missing_no_name us.fourth h.1.2) same_is_no_name), none_static (plain_headings us) h.0.1 (missing_static us.second h.1.0) (missing_static us.third h.1.1) (missing_static us.fourth h.1.2))),
    (
      λ ts parts us h q. (tt, (no_operand kinds.Effect (meaning_by (action_of 185) ts parts) effect_is_no_name, none_static (plain_headings us) h.0.1 (missing_static us.second h.1.0) (missing_static us.third h.1.1) (missing_static us.fourth h.1.2))),
      (
        λ ts parts us h q. (tt, (no_operand kinds.Effect (meaning_by (action_of 186) ts parts) effect_is_no_name, none_static (plain_headings us) h.0.1 (missing_static us.second h.1.0) (missing_static us.third h.1.1) (missing_static us.fourth h.1.2))),
        (
          λ ts parts us h q. (tt, (first_operand parts.first us.first.form.kind us.second.form.kind us.third.form.kind us.fourth.form.kind h.0.0 (missing_no_name us.second h.1.0) (missing_no_name us.third h.1.1) (missing_no_name us.fourth h.1.2), none_static (plain_headings us) h.0.1 (missing_static us.second h.1.0) (missing_static us.third h.1.1) (missing_static us.fourth h.1.2))),
          (
            λ ts parts us h q. (tt, (tt, none_static (plain_headings us) (missing_static us.first h.0) (missing_static us.second h.1) (missing_static us.third h.2) (missing_static us.fourth h.3))),
            (
              λ ts parts us h q. (tt, (tt, none_static (plain_headings us) h.0.1 (missing_static us.second h.1.0) (missing_static us.third h.1.1) (missing_static us.fourth h.1.2))),
              (
                λ ts parts us h q. (tt, (no_operand (chain kinds.Other us.second.form.kind us.third.form.kind us.fourth.form.kind kinds.Same) (meaning_by (action_of 190) ts parts) (no_name_chain kinds.Other us.second.form.kind us.third.form.kind us.fourth.form.kind kinds.Same other_is_no_name (missing_no_name us.second h.1.0) (missing_no_name us.third h.1.1) (missing_no_name us.fourth h.1.2) same_is_no_name), none_static (plain_headings us) h.0.1 (missing_static us.second h.1.0) (missing_static us.third h.1.1) (missing_static us.fourth h.1.2))),
                (
                  λ ts parts us h q. (tt, (no_operand (chain kinds.Same us.first.form.kind us.second.form.kind us.third.form.kind us.fourth.form.kind) (meaning_by (action_of 191) ts parts) (no_name_chain kinds.Same us.first.form.kind us.second.form.kind us.third.form.kind us.fourth.form.kind same_is_no_name h.0.0 (missing_no_name us.second h.1.0) (missing_no_name us.third h.1.1) (missing_no_name us.fourth h.1.2)), none_static (plain_headings us) h.0.1 (missing_static us.second h.1.0) (missing_static us.third h.1.1) (missing_static us.fourth h.1.2))),
                  from_unsigned,
                ),
              ),
            ),
          ),
        ),
      ),
    ),
  ),
)

from_reference_type : Each 172 (drop 172 java_productions)
from_reference_type = (
  λ ts parts us h q. (tt, (tt, none_static (plain_headings us) (missing_static us.first h.0) (missing_static us.second h.1) (missing_static us.third h.2) (missing_static us.fourth h.3))),
  (
    λ ts parts us h q. (tt, (tt, none_static (plain_headings us) (missing_static us.first h.0) (missing_static us.second h.1) (missing_static us.third h.2) (missing_static us.fourth h.3))),
    (
      λ ts parts us h q. (tt, (operand_told parts us.first.form.kind us.second.form.kind us.third.form.kind us.fourth.form.kind h.0.0 h.1.0.0 (missing_tail us.third parts.third h.1.1.0 h.1.1.4) (missing_tail us.fourth parts.fourth h.1.1.1 h.1.1.5), none_static (plain_headings us) h.0.1 h.1.0.1 (missing_static us.third h.1.1.0) (missing_static us.fourth h.1.1.1))),
      (
        λ ts parts us h q. (tt, (tail_told (meaning_by (action_of 175) ts parts) kinds.Other us.second.form.kind us.third.form.kind us.fourth.form.kind kinds.Same other_is_no_name other_is_not_same h.1.0.0.0 (missing_no_name us.third h.1.1.0) (missing_no_name us.fourth h.1.1.1) same_is_no_name, none_static (plain_headings us) h.0.1 h.1.0.1 (missing_static us.third h.1.1.0) (missing_static us.fourth h.1.1.1))),
        (
          λ ts parts us h q. (tt, (tail_told (meaning_by (action_of 176) ts parts) kinds.Other us.second.form.kind us.third.form.kind us.fourth.form.kind kinds.Same other_is_no_name other_is_not_same h.1.0.0.0 (missing_no_name us.third h.1.1.0) (missing_no_name us.fourth h.1.1.1) same_is_no_name, none_static (plain_headings us) h.0.1 h.1.0.1 (missing_static us.third h.1.1.0) (missing_static us.fourth h.1.1.1))),
          (
            λ ts parts us h q. (tt, (tails_told parts us.first.form.kind us.second.form.kind us.third.form.kind us.fourth.form.kind (missing_tail us.first parts.first h.0 h.4) (missing_tail us.second parts.second h.1 h.5) (missing_tail us.third parts.third h.2 h.6) (missing_tail us.fourth parts.fourth h.3 h.7), none_static (plain_headings us) (missing_static us.first h.0) (missing_static us.second h.1) (missing_static us.third h.2) (missing_static us.fourth h.3))),
            (
              λ ts parts us h q. (tt, (operand_told parts us.first.form.kind us.second.form.kind us.third.form.kind us.fourth.form.kind h.0.0 h.1.0.0 (missing_tail us.third parts.third h.1.1.0 h.1.1.4) (missing_tail us.fourth parts.fourth h.1.1.1 h.1.1.5), none_static (plain_headings us) h.0.1 h.1.0.1 (missing_static us.third h.1.1.0) (missing_static us.fourth h.1.1.1))),
              (
                λ ts parts us h q. (tt, (tail_told (meaning_by (action_of 179) ts parts) kinds.Other us.second.form.kind us.third.form.kind us.fourth.form.kind kinds.Same other_is_no_name other_is_not_same h.1.0.0.0 (missing_no_name us.third h.1.1.0) (missing_no_name us.fourth h.1.1.1) same_is_no_name, none_static (plain_headings us) h.0.1 h.1.0.1 (missing_static us.third h.1.1.0) (missing_static us.fourth h.1.1.1))),
                (
                  λ ts parts us h q. (tt, (tail_told (meaning_by (action_of 180) ts parts) kinds.Other us.second.form.kind us.third.form.kind us.fourth.form.kind kinds.Same other_is_no_name other_is_not_same h.1.0.0.0 (missing_no_name us.third h.1.1.0) (missing_no_name us.fourth h.1.1.1) same_is_no_name, none_static (plain_headings us) h.0.1 h.1.0.1 (missing_static us.third h.1.1.0) (missing_static us.fourth h.1.1.1))),
                  (
                    λ ts parts us h q. (tt, (tail_told (meaning_by (action_of 181) ts parts) kinds.Other us.second.form.kind us.third.form.kind us.fourth.form.kind kinds.Same other_is_no_name other_is_not_same h.1.0.0.0 (missing_no_name us.third h.1.1.0) (missing_no_name us.fourth h.1.1.1) same_is_no_name, none_static (plain_headings us) h.0.1 h.1.0.1 (missing_static us.third h.1.1.0) (missing_static us.fourth h.1.1.1))),
                    (
                      λ ts parts us h q. (tt, (tails_told parts us.first.form.kind us.second.form.kind us.third.form.kind us.fourth.form.kind (missing_tail us.first parts.first h.0 h.4) (missing_tail us.second parts.second h.1 h.5) (missing_tail us.third parts.third h.2 h.6) (missing_tail us.fourth parts.fourth h.3 h.7), none_static (plain_headings us) (missing_static us.first h.0) (missing_static us.second h.1) (missing_static us.third h.2) (missing_static us.fourth h.3))),
                      from_unary,
                    ),
                  ),
                ),
              ),
            ),
          ),
        ),
      ),
    ),
  ),
)

from_equality : Each 161 (drop 161 java_productions)
from_equality = (
  λ ts parts us h q. (tt, (operand_told parts us.first.form.kind us.second.form.kind us.third.form.kind us.fourth.form.kind h.0.0 h.1.0.0 (missing_tail us.third parts.third h.1.1.0 h.1.1.4) (missing_tail us.fourth parts.fourth h.1.1.1 h.1.1.5), none_static (plain_headings us) h.0.1 h.1.0.1 (missing_static us.third h.1.1.0) (missing_static us.fourth h.1.1.1))),
  (
    λ ts parts us h q. (tt, (tail_told (meaning_by (action_of 162) ts parts) kinds.Other us.second.form.kind us.third.form.kind us.fourth.form.kind kinds.Same other_is_no_name other_is_not_same h.1.0.0.0 (missing_no_name us.third h.1.1.0) (missing_no_name us.fourth h.1.1.1) same_is_no_name, none_static (plain_headings us) h.0.1 h.1.0.1 (missing_static us.third h.1.1.0) (missing_static us.fourth h.1.1.1))),
    (
      λ ts parts us h q. (tt, (tail_told (meaning_by (action_of 163) ts parts) kinds.Other us.second.form.kind us.third.form.kind us.fourth.form.kind kinds.Same other_is_no_name other_is_not_same h.1.0.0.0 (missing_no_name us.third h.1.1.0) (missing_no_name us.fourth h.1.1.1) same_is_no_name, none_static (plain_headings us) h.0.1 h.1.0.1 (missing_static us.third h.1.1.0) (missing_static us.fourth h.1.1.1))),
      (
        λ ts parts us h q. (tt, (tails_told parts us.first.form.kind us.second.form.kind us.third.form.kind us.fourth.form.kind (missing_tail us.first parts.first h.0 h.4) (missing_tail us.second parts.second h.1 h.5) (missing_tail us.third parts.third h.2 h.6) (missing_tail us.fourth parts.fourth h.3 h.7), none_static (plain_headings us) (missing_static us.first h.0) (missing_static us.second h.1) (missing_static us.third h.2) (missing_static us.fourth h.3))),
        (
          λ ts parts us h q. (tt, (operand_told parts us.first.form.kind us.second.form.kind us.third.form.kind us.fourth.form.kind h.0.0 h.1.0.0 (missing_tail us.third parts.third h.1.1.0 h.1.1.4) (missing_tail us.fourth parts.fourth h.1.1.1 h.1.1.5), none_static (plain_headings us) h.0.1 h.1.0.1 (missing_static us.third h.1.1.0) (missing_static us.fourth h.1.1.1))),
          (
            λ ts parts us h q. (tt, (tail_told (meaning_by (action_of 166) ts parts) kinds.Other us.second.form.kind us.third.form.kind us.fourth.form.kind kinds.Same other_is_no_name other_is_not_same h.1.0.0.0 (missing_no_name us.third h.1.1.0) (missing_no_name us.fourth h.1.1.1) same_is_no_name, none_static (plain_headings us) h.0.1 h.1.0.1 (missing_static us.third h.1.1.0) (missing_static us.fourth h.1.1.1))),
            (
              λ ts parts us h q. (tt, (tail_told (meaning_by (action_of 167) ts parts) kinds.Other us.second.form.kind us.third.form.kind us.fourth.form.kind kinds.Same other_is_no_name other_is_not_same h.1.0.0.0 (missing_no_name us.third h.1.1.0) (missing_no_name us.fourth h.1.1.1) same_is_no_name, none_static (plain_headings us) h.0.1 h.1.0.1 (missing_static us.third h.1.1.0) (missing_static us.fourth h.1.1.1))),
              (
                λ ts parts us h q. (tt, (tail_told (meaning_by (action_of 168) ts parts) kinds.Other us.second.form.kind us.third.form.kind us.fourth.form.kind kinds.Same other_is_no_name other_is_not_same h.1.0.0.0 (missing_no_name us.third h.1.1.0) (missing_no_name us.fourth h.1.1.1) same_is_no_name, none_static (plain_headings us) h.0.1 h.1.0.1 (missing_static us.third h.1.1.0) (missing_static us.fourth h.1.1.1))),
                (
                  λ ts parts us h q. (tt, (tail_told (meaning_by (action_of 169) ts parts) kinds.Other us.second.form.kind us.third.form.kind us.fourth.form.kind kinds.Same other_is_no_name other_is_not_same h.1.0.0.0 (missing_no_name us.third h.1.1.0) (missing_no_name us.fourth h.1.1.1) same_is_no_name, none_static (plain_headings us) h.0.1 h.1.0.1 (missing_static us.third h.1.1.0) (missing_static us.fourth h.1.1.1))),
                  (
                    λ ts parts us h q. (tt, (tail_told (meaning_by (action_of 170) ts parts) kinds.Other us.second.form.kind us.third.form.kind us.fourth.form.kind kinds.Same other_is_no_name other_is_not_same h.1.0.0.0 (missing_no_name us.third h.1.1.0) (missing_no_name us.fourth h.1.1.1) same_is_no_name, none_static (plain_headings us) h.0.1 h.1.0.1 (missing_static us.third h.1.1.0) (missing_static us.fourth h.1.1.1))),
                    (
                      λ ts parts us h q. (tt, (tails_told parts us.first.form.kind us.second.form.kind us.third.form.kind us.fourth.form.kind (missing_tail us.first parts.first h.0 h.4) (missing_tail us.second parts.second h.1 h.5) (missing_tail us.third parts.third h.2 h.6) (missing_tail us.fourth parts.fourth h.3 h.7), none_static (plain_headings us) (missing_static us.first h.0) (missing_static us.second h.1) (missing_static us.third h.2) (missing_static us.fourth h.3))),
                      from_reference_type,
                    ),
                  ),
                ),
              ),
            ),
          ),
        ),
      ),
    ),
  ),
)

from_conditional : Each 152 (drop 152 java_productions)
from_conditional = (
  λ ts parts us h q. (tt, (operand_told parts us.first.form.kind us.second.form.kind us.third.form.kind us.fourth.form.kind h.0.0 h.1.0.0 (missing_tail us.third parts.third h.1.1.0 h.1.1.4) (missing_tail us.fourth parts.fourth h.1.1.1 h.1.1.5), none_static (plain_headings us) h.0.1 h.1.0.1 (missing_static us.third h.1.1.0) (missing_static us.fourth h.1.1.1))),
  (
    λ ts parts us h q. (tt, (tail_told (meaning_by (action_of 153) ts parts) kinds.Other us.third.form.kind us.fourth.form.kind kinds.Same kinds.Same other_is_no_name other_is_not_same (missing_no_name us.third h.1.1.0) (missing_no_name us.fourth h.1.1.1) same_is_no_name same_is_no_name, none_static (plain_headings us) h.0.1 h.1.0.1 (missing_static us.third h.1.1.0) (missing_static us.fourth h.1.1.1))),
    (
      λ ts parts us h q. (tt, (tails_told parts us.first.form.kind us.second.form.kind us.third.form.kind us.fourth.form.kind (missing_tail us.first parts.first h.0 h.4) (missing_tail us.second parts.second h.1 h.5) (missing_tail us.third parts.third h.2 h.6) (missing_tail us.fourth parts.fourth h.3 h.7), none_static (plain_headings us) (missing_static us.first h.0) (missing_static us.second h.1) (missing_static us.third h.2) (missing_static us.fourth h.3))),
      (
        λ ts parts us h q. (tt, (operand_told parts us.first.form.kind us.second.form.kind us.third.form.kind us.fourth.form.kind h.0.0 h.1.0.0 (missing_tail us.third parts.third h.1.1.0 h.1.1.4) (missing_tail us.fourth parts.fourth h.1.1.1 h.1.1.5), none_static (plain_headings us) h.0.1 h.1.0.1 (missing_static us.third h.1.1.0) (missing_static us.fourth h.1.1.1))),
        (
          λ ts parts us h q. (tt, (tail_told (meaning_by (action_of 156) ts parts) kinds.Other us.second.form.kind us.third.form.kind us.fourth.form.kind kinds.Same other_is_no_name other_is_not_same h.1.0.0.0 (missing_no_name us.third h.1.1.0) (missing_no_name us.fourth h.1.1.1) same_is_no_name, none_static (plain_headings us) h.0.1 h.1.0.1 (missing_static us.third h.1.1.0) (missing_static us.fourth h.1.1.1))),
          (
            λ ts parts us h q. (tt, (tails_told parts us.first.form.kind us.second.form.kind us.third.form.kind us.fourth.form.kind (missing_tail us.first parts.first h.0 h.4) (missing_tail us.second parts.second h.1 h.5) (missing_tail us.third parts.third h.2 h.6) (missing_tail us.fourth parts.fourth h.3 h.7), none_static (plain_headings us) (missing_static us.first h.0) (missing_static us.second h.1) (missing_static us.third h.2) (missing_static us.fourth h.3))),
            (
              λ ts parts us h q. (tt, (operand_told parts us.first.form.kind us.second.form.kind us.third.form.kind us.fourth.form.kind h.0.0 h.1.0.0 (missing_tail us.third parts.third h.1.1.0 h.1.1.4) (missing_tail us.fourth parts.fourth h.1.1.1 h.1.1.5), none_static (plain_headings us) h.0.1 h.1.0.1 (missing_static us.third h.1.1.0) (missing_static us.fourth h.1.1.1))),
              (
                λ ts parts us h q. (tt, (tail_told (meaning_by (action_of 159) ts parts) kinds.Other us.second.form.kind us.third.form.kind us.fourth.form.kind kinds.Same other_is_no_name other_is_not_same h.1.0.0.0 (missing_no_name us.third h.1.1.0) (missing_no_name us.fourth h.1.1.1) same_is_no_name, none_static (plain_headings us) h.0.1 h.1.0.1 (missing_static us.third h.1.1.0) (missing_static us.fourth h.1.1.1))),
                (
                  λ ts parts us h q. (tt, (tails_told parts us.first.form.kind us.second.form.kind us.third.form.kind us.fourth.form.kind (missing_tail us.first parts.first h.0 h.4) (missing_tail us.second parts.second h.1 h.5) (missing_tail us.third parts.third h.2 h.6) (missing_tail us.fourth parts.fourth h.3 h.7), none_static (plain_headings us) (missing_static us.first h.0) (missing_static us.second h.1) (missing_static us.third h.2) (missing_static us.fourth h.3))),
                  from_equality,
                ),
              ),
            ),
          ),
        ),
      ),
    ),
  ),
)

from_expression : Each 144 (drop 144 java_productions)
from_expression = (
  λ ts parts us h q. (tt, (operand_told parts us.first.form.kind us.second.form.kind us.third.form.kind us.fourth.form.kind h.0.0 h.1.0.0 (missing_tail us.third parts.third h.1.1.0 h.1.1.4) (missing_tail us.fourth parts.fourth h.1.1.1 h.1.1.5), none_static (plain_headings us) h.0.1 h.1.0.1 (missing_static us.third h.1.1.0) (missing_static us.fourth h.1.1.1))),
  (
    λ ts parts us h q. (tt, (tail_told (meaning_by (action_of 145) ts parts) kinds.Effect us.second.form.kind us.third.form.kind us.fourth.form.kind kinds.Same effect_is_no_name effect_is_not_same (missing_no_name us.second h.1.0) (missing_no_name us.third h.1.1) (missing_no_name us.fourth h.1.2) same_is_no_name, none_static (plain_headings us) h.0.1 (missing_static us.second h.1.0) (missing_static us.third h.1.1) (missing_static us.fourth h.1.2))),
    (
      λ ts parts us h q. (tt, (tail_told (meaning_by (action_of 146) ts parts) kinds.Effect us.second.form.kind us.third.form.kind us.fourth.form.kind kinds.Same effect_is_no_name effect_is_not_same (missing_no_name us.second h.1.0) (missing_no_name us.third h.1.1) (missing_no_name us.fourth h.1.2) same_is_no_name, none_static (plain_headings us) h.0.1 (missing_static us.second h.1.0) (missing_static us.third h.1.1) (missing_static us.fourth h.1.2))),
      (
        λ ts parts us h q. (tt, (tail_told (meaning_by (action_of 147) ts parts) kinds.Effect us.second.form.kind us.third.form.kind us.fourth.form.kind kinds.Same effect_is_no_name effect_is_not_same (missing_no_name us.second h.1.0) (missing_no_name us.third h.1.1) (missing_no_name us.fourth h.1.2) same_is_no_name, none_static (plain_headings us) h.0.1 (missing_static us.second h.1.0) (missing_static us.third h.1.1) (missing_static us.fourth h.1.2))),
        (
          λ ts parts us h q. (tt, (tail_told (meaning_by (action_of 148) ts parts) kinds.Effect us.second.form.kind us.third.form.kind us.fourth.form.kind kinds.Same effect_is_no_name effect_is_not_same (missing_no_name us.second h.1.0) (missing_no_name us.third h.1.1) (missing_no_name us.fourth h.1.2) same_is_no_name, none_static (plain_headings us) h.0.1 (missing_static us.second h.1.0) (missing_static us.third h.1.1) (missing_static us.fourth h.1.2))),
          (
            λ ts parts us h q. (tt, (tail_told (meaning_by (action_of 149) ts parts) kinds.Effect us.second.form.kind us.third.form.kind us.fourth.form.kind kinds.Same effect_is_no_name effect_is_not_same (missing_no_name us.second h.1.0) (missing_no_name us.third h.1.1) (missing_no_name us.fourth h.1.2) same_is_no_name, none_static (plain_headings us) h.0.1 (missing_static us.second h.1.0) (missing_static us.third h.1.1) (missing_static us.fourth h.1.2))),
            (
              λ ts parts us h q. (tt, (tail_told (meaning_by (action_of 150) ts parts) kinds.Effect us.second.form.kind us.third.form.kind us.fourth.form.kind kinds.Same effect_is_no_name effect_is_not_same (missing_no_name us.second h.1.0) (missing_no_name us.third h.1.1) (missing_no_name us.fourth h.1.2) same_is_no_name, none_static (plain_headings us) h.0.1 (missing_static us.second h.1.0) (missing_static us.third h.1.1) (missing_static us.fourth h.1.2))),
              (
                λ ts parts us h q. (tt, (tails_told parts us.first.form.kind us.second.form.kind us.third.form.kind us.fourth.form.kind (missing_tail us.first parts.first h.0 h.4) (missing_tail us.second parts.second h.1 h.5) (missing_tail us.third parts.third h.2 h.6) (missing_tail us.fourth parts.fourth h.3 h.7), none_static (plain_headings us) (missing_static us.first h.0) (missing_static us.second h.1) (missing_static us.third h.2) (missing_static us.fourth h.3))),
                from_conditional,
              ),
            ),
          ),
        ),
      ),
    ),
  ),
)

from_effect_creation : Each 133 (drop 133 java_productions)
from_effect_creation = (
  λ ts parts us h q. (tt, (tt, none_static (plain_headings us) h.0.1.0 h.1.0.1 h.1.1.0.1 h.1.1.1.0.1)),
  (
    λ ts parts us h q. (tt, (tt, none_static (plain_headings us) h.0.1 h.1.0.1 h.1.1.0.1 (missing_static us.fourth h.1.1.1.0))),
    (
      λ ts parts us h q. (tt, (tt, none_static (plain_headings us) (missing_static us.first h.0) (missing_static us.second h.1) (missing_static us.third h.2) (missing_static us.fourth h.3))),
      (
        λ ts parts us h q. (tt, (tt, none_static (plain_headings us) (missing_static us.first h.0) (missing_static us.second h.1) (missing_static us.third h.2) (missing_static us.fourth h.3))),
        (
          λ ts parts us h q. (tt, (tt, none_static (plain_headings us) h.0.1 (missing_static us.second h.1.0) (missing_static us.third h.1.1) (missing_static us.fourth h.1.2))),
          (
            λ ts parts us h q. (tt, (tt, none_static (plain_headings us) h.0.1 (missing_static us.second h.1.0) (missing_static us.third h.1.1) (missing_static us.fourth h.1.2))),
            (
              λ ts parts us h q. (tt, (tt, none_static (plain_headings us) h.0.1 (missing_static us.second h.1.0) (missing_static us.third h.1.1) (missing_static us.fourth h.1.2))),
              (
                λ ts parts us h q. (tt, (tt, none_static (plain_headings us) h.0.1 (missing_static us.second h.1.0) (missing_static us.third h.1.1) (missing_static us.fourth h.1.2))),
                (
                  λ ts parts us h q. (tt, (tt, none_static (plain_headings us) h.0.1 (missing_static us.second h.1.0) (missing_static us.third h.1.1) (missing_static us.fourth h.1.2))),
                  (
                    λ ts parts us h q. (tt, (tt, none_static (plain_headings us) h.0.1 (missing_static us.second h.1.0) (missing_static us.third h.1.1) (missing_static us.fourth h.1.2))),
                    (
                      λ ts parts us h q. (tt, (tt, none_static (plain_headings us) (missing_static us.first h.0) (missing_static us.second h.1) (missing_static us.third h.2) (missing_static us.fourth h.3))),
                      from_expression,
                    ),
                  ),
                ),
              ),
            ),
          ),
        ),
      ),
    ),
  ),
)

from_effect : Each 124 (drop 124 java_productions)
from_effect = (
  λ ts parts us h q. (tt, (tt, none_static (plain_headings us) h.0.1 (missing_static us.second h.1.0) (missing_static us.third h.1.1) (missing_static us.fourth h.1.2))),
  (
    λ ts parts us h q. (tt, (tt, none_static (plain_headings us) h.0.1 (missing_static us.second h.1.0) (missing_static us.third h.1.1) (missing_static us.fourth h.1.2))),
    (
      λ ts parts us h q. (tt, (tt, none_static (plain_headings us) h.0.1 h.1.0.1 h.1.1.0.1 (missing_static us.fourth h.1.1.1.0))),
      (
        λ ts parts us h q. (tt, (tt, none_static (plain_headings us) h.0.1 (missing_static us.second h.1.0) (missing_static us.third h.1.1) (missing_static us.fourth h.1.2))),
        (
          λ ts parts us h q. (tt, (tt, none_static (plain_headings us) h.0.1 (missing_static us.second h.1.0) (missing_static us.third h.1.1) (missing_static us.fourth h.1.2))),
          (
            λ ts parts us h q. (tt, (tt, none_static (plain_headings us) h.0.1 h.1.0.1 h.1.1.0.1 (missing_static us.fourth h.1.1.1.0))),
            (
              λ ts parts us h q. (tt, (tt, none_static (plain_headings us) h.0.1 h.1.0.1 (missing_static us.third h.1.1.0) (missing_static us.fourth h.1.1.1))),
              (
                λ ts parts us h q. (tt, (tt, none_static (plain_headings us) h.0.1 h.1.0.1 h.1.1.0.1 (missing_static us.fourth h.1.1.1.0))),
                (
                  λ ts parts us h q. (tt, (tt, none_static (plain_headings us) h.0.1 (missing_static us.second h.1.0) (missing_static us.third h.1.1) (missing_static us.fourth h.1.2))),
                  from_effect_creation,
                ),
              ),
            ),
          ),
        ),
      ),
    ),
  ),
)

from_rescue : Each 115 (drop 115 java_productions)
from_rescue = (
  λ ts parts us h q. (tt, (tt, none_static (plain_headings us) h.0.1 h.1.0.1 h.1.1.0.1 (missing_static us.fourth h.1.1.1.0))),
  (
    λ ts parts us h q. (tt, (tt, none_static (plain_headings us) h.0.1 (missing_static us.second h.1.0) (missing_static us.third h.1.1) (missing_static us.fourth h.1.2))),
    (
      λ ts parts us h q. (tt, (tt, none_static (plain_headings us) h.0.1 h.1.0.1 (missing_static us.third h.1.1.0) (missing_static us.fourth h.1.1.1))),
      (
        λ ts parts us h q. (tt, (tt, none_static (plain_headings us) (missing_static us.first h.0) (missing_static us.second h.1) (missing_static us.third h.2) (missing_static us.fourth h.3))),
        (
          λ ts parts us h q. (tt, (tt, none_static (plain_headings us) h.0.1 h.1.0.1.0 h.1.1.0.1.0 h.1.1.1.0.1)),
          (
            λ ts parts us h q. (tt, (tt, none_static (plain_headings us) (missing_static us.first h.0) (missing_static us.second h.1) (missing_static us.third h.2) (missing_static us.fourth h.3))),
            (
              λ ts parts us h q. (tt, (tt, none_static (plain_headings us) (missing_static us.first h.0) (missing_static us.second h.1) (missing_static us.third h.2) (missing_static us.fourth h.3))),
              (
                λ ts parts us h q. (tt, (tt, none_static (plain_headings us) h.0.1 (missing_static us.second h.1.0) (missing_static us.third h.1.1) (missing_static us.fourth h.1.2))),
                (
                  λ ts parts us h q. (tt, (tt, none_static (plain_headings us) (missing_static us.first h.0) (missing_static us.second h.1) (missing_static us.third h.2) (missing_static us.fourth h.3))),
                  from_effect,
                ),
              ),
            ),
          ),
        ),
      ),
    ),
  ),
)

from_for_update : Each 107 (drop 107 java_productions)
from_for_update = (
  λ ts parts us h q. (tt, (tt, none_static (plain_headings us) (missing_static us.first h.0) (missing_static us.second h.1) (missing_static us.third h.2) (missing_static us.fourth h.3))),
  (
    λ ts parts us h q. (tt, (tt, none_static (plain_headings us) h.0.1 h.1.0.1 (missing_static us.third h.1.1.0) (missing_static us.fourth h.1.1.1))),
    (
      λ ts parts us h q. (tt, (tt, none_static (plain_headings us) h.0.1 h.1.0.1 (missing_static us.third h.1.1.0) (missing_static us.fourth h.1.1.1))),
      (
        λ ts parts us h q. (tt, (tt, none_static (plain_headings us) (missing_static us.first h.0) (missing_static us.second h.1) (missing_static us.third h.2) (missing_static us.fourth h.3))),
        (
          λ ts parts us h q. (tt, (tt, none_static (plain_headings us) h.0.1.0 (missing_static us.second h.1.0) (missing_static us.third h.1.1) (missing_static us.fourth h.1.2))),
          (
            λ ts parts us h q. (tt, (tt, none_static (plain_headings us) (missing_static us.first h.0) (missing_static us.second h.1) (missing_static us.third h.2) (missing_static us.fourth h.3))),
            (
              λ ts parts us h q. (tt, (tt, none_static (plain_headings us) (missing_static us.first h.0) (missing_static us.second h.1) (missing_static us.third h.2) (missing_static us.fourth h.3))),
              (
                λ ts parts us h q. (tt, (tt, none_static (plain_headings us) h.0.1 (missing_static us.second h.1.0) (missing_static us.third h.1.1) (missing_static us.fourth h.1.2))),
                from_rescue,
              ),
            ),
          ),
        ),
      ),
    ),
  ),
)

from_for_init : Each 98 (drop 98 java_productions)
from_for_init = (
  λ ts parts us h q. (tt, (tt, none_static (plain_headings us) (missing_static us.first h.0) (missing_static us.second h.1) (missing_static us.third h.2) (missing_static us.fourth h.3))),
  (
    λ ts parts us h q. (tt, (tt, none_static (plain_headings us) h.0.1 h.1.0.1.0 h.1.1.0.1 h.1.1.1.0.1)),
    (
      λ ts parts us h q. (tt, (tt, none_static (plain_headings us) h.0.1.0 h.1.0.1 h.1.1.0.1 (missing_static us.fourth h.1.1.1.0))),
      (
        λ ts parts us h q. (tt, (tt, none_static (plain_headings us) h.0.1 (missing_static us.second h.1.0) (missing_static us.third h.1.1) (missing_static us.fourth h.1.2))),
        (
          λ ts parts us h q. (tt, (tt, none_static (plain_headings us) h.0.1 h.1.0.1 (missing_static us.third h.1.1.0) (missing_static us.fourth h.1.1.1))),
          (
            λ ts parts us h q. (tt, (tt, none_static (plain_headings us) h.0.1 (missing_static us.second h.1.0) (missing_static us.third h.1.1) (missing_static us.fourth h.1.2))),
            (
              λ ts parts us h q. (tt, (tt, none_static (plain_headings us) h.0.1 h.1.0.1 (missing_static us.third h.1.1.0) (missing_static us.fourth h.1.1.1))),
              (
                λ ts parts us h q. (tt, (tt, none_static (plain_headings us) (missing_static us.first h.0) (missing_static us.second h.1) (missing_static us.third h.2) (missing_static us.fourth h.3))),
                (
                  λ ts parts us h q. (tt, (tt, none_static (plain_headings us) h.0.1 (missing_static us.second h.1.0) (missing_static us.third h.1.1) (missing_static us.fourth h.1.2))),
                  from_for_update,
                ),
              ),
            ),
          ),
        ),
      ),
    ),
  ),
)

from_else : Each 90 (drop 90 java_productions)
from_else = (
  λ ts parts us h q. (tt, (tt, none_static (plain_headings us) h.0.1 (missing_static us.second h.1.0) (missing_static us.third h.1.1) (missing_static us.fourth h.1.2))),
  (
    λ ts parts us h q. (tt, (tt, none_static (plain_headings us) (missing_static us.first h.0) (missing_static us.second h.1) (missing_static us.third h.2) (missing_static us.fourth h.3))),
    (
      λ ts parts us h q. (tt, (tt, none_static (plain_headings us) h.0.1 h.1.0.1 (missing_static us.third h.1.1.0) (missing_static us.fourth h.1.1.1))),
      (
        λ ts parts us h q. (tt, (tt, none_static (plain_headings us) h.0.1 h.1.0.1 h.1.1.0.1 h.1.1.1.0.1)),
        (
          λ ts parts us h q. (tt, (tt, none_static (plain_headings us) h.0.1 (missing_static us.second h.1.0) (missing_static us.third h.1.1) (missing_static us.fourth h.1.2))),
          (
            λ ts parts us h q. (tt, (tt, none_static (plain_headings us) h.0.1 (missing_static us.second h.1.0) (missing_static us.third h.1.1) (missing_static us.fourth h.1.2))),
            (
              λ ts parts us h q. (tt, (tt, none_static (plain_headings us) h.0.1 (missing_static us.second h.1.0) (missing_static us.third h.1.1) (missing_static us.fourth h.1.2))),
              (
                λ ts parts us h q. (tt, (tt, none_static (plain_headings us) h.0.1 (missing_static us.second h.1.0) (missing_static us.third h.1.1) (missing_static us.fourth h.1.2))),
                from_for_init,
              ),
            ),
          ),
        ),
      ),
    ),
  ),
)

from_statement_without_name : Each 79 (drop 79 java_productions)
from_statement_without_name = (
  λ ts parts us h q. (tt, (tt, none_static (plain_headings us) h.0.1 (missing_static us.second h.1.0) (missing_static us.third h.1.1) (missing_static us.fourth h.1.2))),
  (
    λ ts parts us h q. (tt, (tt, none_static (plain_headings us) (missing_static us.first h.0) (missing_static us.second h.1) (missing_static us.third h.2) (missing_static us.fourth h.3))),
    (
      λ ts parts us h q. (tt, (tt, none_static (plain_headings us) h.0.1 (missing_static us.second h.1.0) (missing_static us.third h.1.1) (missing_static us.fourth h.1.2))),
      (
        λ ts parts us h q. (tt, (tt, none_static (plain_headings us) h.0.1 h.1.0.1 h.1.1.0.1 (missing_static us.fourth h.1.1.1.0))),
        (
          λ ts parts us h q. (tt, (tt, none_static (plain_headings us) h.0.1 (missing_static us.second h.1.0) (missing_static us.third h.1.1) (missing_static us.fourth h.1.2))),
          (
            λ ts parts us h q. (tt, (tt, none_static (plain_headings us) h.0.1 (missing_static us.second h.1.0) (missing_static us.third h.1.1) (missing_static us.fourth h.1.2))),
            (
              λ ts parts us h q. (tt, (tt, none_static (plain_headings us) h.0.1 (missing_static us.second h.1.0) (missing_static us.third h.1.1) (missing_static us.fourth h.1.2))),
              (
                λ ts parts us h q. (tt, (tt, none_static (plain_headings us) h.0.1 (missing_static us.second h.1.0) (missing_static us.third h.1.1) (missing_static us.fourth h.1.2))),
                (
                  λ ts parts us h q. (tt, (tt, none_static (plain_headings us) h.0.1 (missing_static us.second h.1.0) (missing_static us.third h.1.1) (missing_static us.fourth h.1.2))),
                  (
                    λ ts parts us h q. (tt, (tt, none_static (plain_headings us) h.0.1 (missing_static us.second h.1.0) (missing_static us.third h.1.1) (missing_static us.fourth h.1.2))),
                    (
                      λ ts parts us h q. (tt, (tt, none_static (plain_headings us) h.0.1 h.1.0.1 (missing_static us.third h.1.1.0) (missing_static us.fourth h.1.1.1))),
                      from_else,
                    ),
                  ),
                ),
              ),
            ),
          ),
        ),
      ),
    ),
  ),
)

from_variables : Each 70 (drop 70 java_productions)
from_variables = (
  λ ts parts us h q. (tt, (tt, none_static (plain_headings us) h.0.1.0 h.1.0.1 h.1.1.0.1 (missing_static us.fourth h.1.1.1.0))),
  (
    λ ts parts us h q. (tt, (tt, none_static (plain_headings us) h.0.1 (missing_static us.second h.1.0) (missing_static us.third h.1.1) (missing_static us.fourth h.1.2))),
    (
      λ ts parts us h q. (tt, (tt, none_static (plain_headings us) (missing_static us.first h.0) (missing_static us.second h.1) (missing_static us.third h.2) (missing_static us.fourth h.3))),
      (
        λ ts parts us h q. (tt, (tt, none_static (plain_headings us) h.0.1.0 h.1.0.1 h.1.1.0.1 (missing_static us.fourth h.1.1.1.0))),
        (
          λ ts parts us h q. (tt, (tt, none_static (plain_headings us) (missing_static us.first h.0) (missing_static us.second h.1) (missing_static us.third h.2) (missing_static us.fourth h.3))),
          (
            λ ts parts us h q. (tt, (tt, none_static (plain_headings us) h.0.1 (missing_static us.second h.1.0) (missing_static us.third h.1.1) (missing_static us.fourth h.1.2))),
            (
              λ ts parts us h q. (tt, (tt, none_static (plain_headings us) h.0.1 (missing_static us.second h.1.0) (missing_static us.third h.1.1) (missing_static us.fourth h.1.2))),
              (
                λ ts parts us h q. (tt, (tt, none_static (plain_headings us) h.0.1 (missing_static us.second h.1.0) (missing_static us.third h.1.1) (missing_static us.fourth h.1.2))),
                (
                  λ ts parts us h q. (tt, (tt, none_static (plain_headings us) h.0.1 (missing_static us.second h.1.0) (missing_static us.third h.1.1) (missing_static us.fourth h.1.2))),
                  from_statement_without_name,
                ),
              ),
            ),
          ),
        ),
      ),
    ),
  ),
)

from_block_statement : Each 62 (drop 62 java_productions)
from_block_statement = (
  λ ts parts us h q. (tt, (tt, none_static (plain_headings us) h.0.1 h.1.0.1.0 h.1.1.0.1 h.1.1.1.0.1)),
  (
    λ ts parts us h q. (tt, (tt, none_static (plain_headings us) h.0.1 h.1.0.1.0 h.1.1.0.1 h.1.1.1.0.1)),
    (
      λ ts parts us h q. (tt, (tt, none_static (plain_headings us) h.0.1.0 h.1.0.1 h.1.1.0.1 (missing_static us.fourth h.1.1.1.0))),
      (
        λ ts parts us h q. (tt, (tt, none_static (plain_headings us) h.0.1 (missing_static us.second h.1.0) (missing_static us.third h.1.1) (missing_static us.fourth h.1.2))),
        (
          λ ts parts us h q. (tt, (tt, none_static (plain_headings us) h.0.1 (missing_static us.second h.1.0) (missing_static us.third h.1.1) (missing_static us.fourth h.1.2))),
          (
            λ ts parts us h q. (tt, (tt, none_static (plain_headings us) h.0.1 (missing_static us.second h.1.0) (missing_static us.third h.1.1) (missing_static us.fourth h.1.2))),
            (
              λ ts parts us h q. (tt, (tt, none_static (plain_headings us) h.0.1 (missing_static us.second h.1.0) (missing_static us.third h.1.1) (missing_static us.fourth h.1.2))),
              (
                λ ts parts us h q. (tt, (tt, none_static (plain_headings us) h.0.1 (missing_static us.second h.1.0) (missing_static us.third h.1.1) (missing_static us.fourth h.1.2))),
                from_variables,
              ),
            ),
          ),
        ),
      ),
    ),
  ),
)

from_constructor_body : Each 56 (drop 56 java_productions)
from_constructor_body = (
  λ ts parts us h q. (tt, (tt, none_static (plain_headings us) h.0.1 (missing_static us.second h.1.0) (missing_static us.third h.1.1) (missing_static us.fourth h.1.2))),
  (
    λ ts parts us h q. (tt, (tt, none_static (plain_headings us) h.0.1 h.1.0.1 (missing_static us.third h.1.1.0) (missing_static us.fourth h.1.1.1))),
    (
      λ ts parts us h q. (tt, (tt, none_static (plain_headings us) h.0.1 (missing_static us.second h.1.0) (missing_static us.third h.1.1) (missing_static us.fourth h.1.2))),
      (
        λ ts parts us h q. (tt, (tt, none_static (plain_headings us) h.0.1 (missing_static us.second h.1.0) (missing_static us.third h.1.1) (missing_static us.fourth h.1.2))),
        (
          λ ts parts us h q. (tt, (tt, none_static (plain_headings us) (missing_static us.first h.0) (missing_static us.second h.1) (missing_static us.third h.2) (missing_static us.fourth h.3))),
          (
            λ ts parts us h q. (tt, (tt, none_static (plain_headings us) h.0.1 h.1.0.1 (missing_static us.third h.1.1.0) (missing_static us.fourth h.1.1.1))),
            from_block_statement,
          ),
        ),
      ),
    ),
  ),
)

from_type : Each 49 (drop 49 java_productions)
from_type = (
  λ ts parts us h q. (tt, (tt, none_static (plain_headings us) h.0.1 (missing_static us.second h.1.0) (missing_static us.third h.1.1) (missing_static us.fourth h.1.2))),
  (
    λ ts parts us h q. (tt, (tt, none_static (plain_headings us) (missing_static us.first h.0) (missing_static us.second h.1) (missing_static us.third h.2) (missing_static us.fourth h.3))),
    (
      λ ts parts us h q. (tt, (tt, none_static (plain_headings us) (missing_static us.first h.0) (missing_static us.second h.1) (missing_static us.third h.2) (missing_static us.fourth h.3))),
      (
        λ ts parts us h q. (tt, (tt, none_static (plain_headings us) (missing_static us.first h.0) (missing_static us.second h.1) (missing_static us.third h.2) (missing_static us.fourth h.3))),
        (
          λ ts parts us h q. (tt, (tt, none_static (plain_headings us) (missing_static us.first h.0) (missing_static us.second h.1) (missing_static us.third h.2) (missing_static us.fourth h.3))),
          (
            λ ts parts us h q. (tt, (tt, none_static (plain_headings us) h.0.1.0 h.1.0.1.0 (missing_static us.third h.1.1.0) (missing_static us.fourth h.1.1.1))),
            (
              λ ts parts us h q. (tt, (tt, none_static (plain_headings us) (missing_static us.first h.0) (missing_static us.second h.1) (missing_static us.third h.2) (missing_static us.fourth h.3))),
              from_constructor_body,
            ),
          ),
        ),
      ),
    ),
  ),
)

from_declared : Each 39 (drop 39 java_productions)
from_declared = (
  λ ts parts us h q. (tt, (tt, (none_static (plain_headings us) h.0.1.0 (missing_static us.second h.1.0) (missing_static us.third h.1.1) (missing_static us.fourth h.1.2), subst (λ t. DeclaredAs t (declared_of parts.first)) (sym (first_declared (plain_headings us) (missing_declared us.second h.1.0) (missing_declared us.third h.1.1) (missing_declared us.fourth h.1.2))) h.0.1.1))),
  (
    λ ts parts us h q. (tt, (tt, (none_static (plain_headings us) h.0.1.0 (missing_static us.second h.1.0) (missing_static us.third h.1.1) (missing_static us.fourth h.1.2), (_, refl)))),
    (
      λ ts parts us h q. (tt, (tt, (none_static (plain_headings us) h.0.1.0 h.1.0.1.0 (missing_static us.third h.1.1.0) (missing_static us.fourth h.1.1.1), first_declared (plain_headings us) h.1.0.1.1 (missing_declared us.third h.1.1.0) (missing_declared us.fourth h.1.1.1) ∙ h.0.1.1))),
      (
        λ ts parts us h q. (tt, (tt, (none_static (plain_headings us) (missing_static us.first h.0) (missing_static us.second h.1) (missing_static us.third h.2) (missing_static us.fourth h.3), first_declared (plain_headings us) (missing_declared us.second h.1) (missing_declared us.third h.2) (missing_declared us.fourth h.3) ∙ (missing_declared us.first h.0)))),
        (
          λ ts parts us h q. (tt, (tt, (none_static (plain_headings us) h.0.1 h.1.0.1 h.1.1.0.1 (missing_static us.fourth h.1.1.1.0), tt))),
          (
            λ ts parts us h q. (tt, (tt, none_static (plain_headings us) (missing_static us.first h.0) (missing_static us.second h.1) (missing_static us.third h.2) (missing_static us.fourth h.3))),
            (
              λ ts parts us h q. (tt, (tt, none_static (plain_headings us) h.0.1 h.1.0.1 (missing_static us.third h.1.1.0) (missing_static us.fourth h.1.1.1))),
              (
                λ ts parts us h q. (tt, (tt, none_static (plain_headings us) h.0.1 h.1.0.1 (missing_static us.third h.1.1.0) (missing_static us.fourth h.1.1.1))),
                (
                  λ ts parts us h q. (tt, (tt, none_static (plain_headings us) (missing_static us.first h.0) (missing_static us.second h.1) (missing_static us.third h.2) (missing_static us.fourth h.3))),
                  (
                    λ ts parts us h q. (tt, (tt, refl)),
                    from_type,
                  ),
                ),
              ),
            ),
          ),
        ),
      ),
    ),
  ),
)

from_int_declaration : Each 29 (drop 29 java_productions)
from_int_declaration = (
  λ ts parts us h q. (tt, (tt, (none_static (plain_headings us) h.0.1.0 h.1.0.1.0 (missing_static us.third h.1.1.0) (missing_static us.fourth h.1.1.1), subst (λ t. DeclaredAs t (declared_of parts.second)) (sym (second_declared (plain_headings us) h.0.1.1 (missing_declared us.third h.1.1.0) (missing_declared us.fourth h.1.1.1))) h.1.0.1.1))),
  (
    λ ts parts us h q. (tt, (tt, (none_static (plain_headings us) h.0.1.0 h.1.0.1.0 (missing_static us.third h.1.1.0) (missing_static us.fourth h.1.1.1), subst (λ t. DeclaredAs t (declared_of parts.second)) (sym (second_declared (plain_headings us) h.0.1.1 (missing_declared us.third h.1.1.0) (missing_declared us.fourth h.1.1.1))) h.1.0.1.1))),
    (
      λ ts parts us h q. (tt, (tt, (none_static (plain_headings us) h.0.1 h.1.0.1 h.1.1.0.1 (missing_static us.fourth h.1.1.1.0), tt))),
      (
        λ ts parts us h q. (tt, (tt, (none_static (plain_headings us) h.0.1.0 h.1.0.1.0 (missing_static us.third h.1.1.0) (missing_static us.fourth h.1.1.1), subst (λ t. DeclaredAs t (declared_of parts.second)) (sym (second_declared (plain_headings us) h.0.1.1 (missing_declared us.third h.1.1.0) (missing_declared us.fourth h.1.1.1))) h.1.0.1.1))),
        (
          λ ts parts us h q. (tt, (tt, (none_static (plain_headings us) h.0.1.0 (missing_static us.second h.1.0) (missing_static us.third h.1.1) (missing_static us.fourth h.1.2), subst (λ v. DeclaredAs (declares.Constant (place_of 0 ts)) (declared_of v)) (sym (h.0.1.1.1)) (_, refl)))),
          (
            λ ts parts us h q. (tt, (tt, (none_static (plain_headings us) h.0.1.0 (missing_static us.second h.1.0) (missing_static us.third h.1.1) (missing_static us.fourth h.1.2), subst (λ t. DeclaredAs t (declared_of parts.first)) (sym (first_declared (plain_headings us) (missing_declared us.second h.1.0) (missing_declared us.third h.1.1) (missing_declared us.fourth h.1.2))) h.0.1.1))),
            (
              λ ts parts us h q. (tt, (tt, (none_static (plain_headings us) (missing_static us.first h.0) (missing_static us.second h.1) (missing_static us.third h.2) (missing_static us.fourth h.3), (_, refl)))),
              (
                λ ts parts us h q. (tt, (tt, (none_static (plain_headings us) h.0.1 (missing_static us.second h.1.0) (missing_static us.third h.1.1) (missing_static us.fourth h.1.2), (_, refl)))),
                (
                  λ ts parts us h q. (tt, (tt, none_static (plain_headings us) (missing_static us.first h.0) (missing_static us.second h.1) (missing_static us.third h.2) (missing_static us.fourth h.3))),
                  (
                    λ ts parts us h q. (tt, (tt, none_static (plain_headings us) (missing_static us.first h.0) (missing_static us.second h.1) (missing_static us.third h.2) (missing_static us.fourth h.3))),
                    from_declared,
                  ),
                ),
              ),
            ),
          ),
        ),
      ),
    ),
  ),
)

from_member_declaration : Each 20 (drop 20 java_productions)
from_member_declaration = (
  λ ts parts us h q. (member_proper us parts.first parts.second ts h.0.1 h.1.0.1 h.1.1.0 h.1.1.1 q, (tt, tt)),
  (
    λ ts parts us h q. (tt, (tt, (first_and_third_static (plain_headings us) (static_of parts.first) (static_of parts.third) h.0.1.0 h.1.0.1.0 h.1.1.0.1.0 (missing_static us.fourth h.1.1.1.0), first_declared (plain_headings us) h.1.0.1.1 h.1.1.0.1.1 (missing_declared us.fourth h.1.1.1.0) ∙ h.0.1.1))),
    (
      λ ts parts us h q. (tt, (tt, (none_static (plain_headings us) (missing_static us.first h.0) (missing_static us.second h.1) (missing_static us.third h.2) (missing_static us.fourth h.3), first_declared (plain_headings us) (missing_declared us.second h.1) (missing_declared us.third h.2) (missing_declared us.fourth h.3) ∙ (missing_declared us.first h.0)))),
      (
        λ ts parts us h q. (tt, (tt, (none_static (plain_headings us) (missing_static us.first h.0) (missing_static us.second h.1) (missing_static us.third h.2) (missing_static us.fourth h.3), first_declared (plain_headings us) (missing_declared us.second h.1) (missing_declared us.third h.2) (missing_declared us.fourth h.3) ∙ (missing_declared us.first h.0)))),
        (
          λ ts parts us h q. (tt, (tt, (none_static (plain_headings us) (missing_static us.first h.0) (missing_static us.second h.1) (missing_static us.third h.2) (missing_static us.fourth h.3), first_declared (plain_headings us) (missing_declared us.second h.1) (missing_declared us.third h.2) (missing_declared us.fourth h.3) ∙ (missing_declared us.first h.0)))),
          (
            λ ts parts us h q. (tt, (tt, (none_static (plain_headings us) h.0.1.0 h.1.0.1.0 (missing_static us.third h.1.1.0) (missing_static us.fourth h.1.1.1), subst (λ t. DeclaredAs t (declared_of parts.second)) (sym (second_declared (plain_headings us) h.0.1.1 (missing_declared us.third h.1.1.0) (missing_declared us.fourth h.1.1.1))) h.1.0.1.1))),
            (
              λ ts parts us h q. (tt, (tt, (none_static (plain_headings us) h.0.1.0 h.1.0.1.0 (missing_static us.third h.1.1.0) (missing_static us.fourth h.1.1.1), subst (λ t. DeclaredAs t (declared_of parts.second)) (sym (second_declared (plain_headings us) h.0.1.1 (missing_declared us.third h.1.1.0) (missing_declared us.fourth h.1.1.1))) h.1.0.1.1))),
              (
                λ ts parts us h q. (tt, (tt, (none_static (plain_headings us) h.0.1.0 (missing_static us.second h.1.0) (missing_static us.third h.1.1) (missing_static us.fourth h.1.2), subst (DeclaredAs (all_joined (plain_headings us)).declared) (sym (int_part ts parts.first)) (subst (λ t. DeclaredAs t (named_part parts.first)) (sym (first_declared (plain_headings us) (missing_declared us.second h.1.0) (missing_declared us.third h.1.1) (missing_declared us.fourth h.1.2))) h.0.1.1)))),
                (
                  λ ts parts us h q. (tt, (tt, (declaration_static (all_joined (plain_headings us)).declared (text_of ts) (all_joined (plain_headings us)) ∙ none_static (plain_headings us) h.0.1.0 (missing_static us.second h.1.0) (missing_static us.third h.1.1) (missing_static us.fourth h.1.2), subst (DeclaredAs (told rules.Declaration ts (plain_headings us)).declared) (sym (class_part ts parts.first)) (subst (λ t. DeclaredAs t (named_part parts.first)) (sym (declaration_declared (all_joined (plain_headings us)).declared (text_of ts) (all_joined (plain_headings us)) ∙ first_declared (plain_headings us) (missing_declared us.second h.1.0) (missing_declared us.third h.1.1) (missing_declared us.fourth h.1.2))) h.0.1.1)))),
                  from_int_declaration,
                ),
              ),
            ),
          ),
        ),
      ),
    ),
  ),
)

from_modifier : Each 9 (drop 9 java_productions)
from_modifier = (
  λ ts parts us h q. (tt, (tt, (none_static (plain_headings us) (missing_static us.first h.0) (missing_static us.second h.1) (missing_static us.third h.2) (missing_static us.fourth h.3), first_declared (plain_headings us) (missing_declared us.second h.1) (missing_declared us.third h.2) (missing_declared us.fourth h.3) ∙ (missing_declared us.first h.0)))),
  (
    λ ts parts us h q. (tt, (tt, (refl, first_declared (plain_headings us) (missing_declared us.second h.1) (missing_declared us.third h.2) (missing_declared us.fourth h.3) ∙ (missing_declared us.first h.0)))),
    (
      λ ts parts us h q. (tt, (tt, (none_static (plain_headings us) (missing_static us.first h.0) (missing_static us.second h.1) (missing_static us.third h.2) (missing_static us.fourth h.3), first_declared (plain_headings us) (missing_declared us.second h.1) (missing_declared us.third h.2) (missing_declared us.fourth h.3) ∙ (missing_declared us.first h.0)))),
      (
        λ ts parts us h q. (tt, (tt, (none_static (plain_headings us) h.0.1.0 (missing_static us.second h.1.0) (missing_static us.third h.1.1) (missing_static us.fourth h.1.2), first_declared (plain_headings us) (missing_declared us.second h.1.0) (missing_declared us.third h.1.1) (missing_declared us.fourth h.1.2) ∙ h.0.1.1))),
        (
          λ ts parts us h q. (tt, (tt, tt)),
          (
            λ ts parts us h q. (tt, (tt, tt)),
            (
              λ ts parts us h q. (tt, (tt, tt)),
              (
                λ ts parts us h q. (tt, (tt, tt)),
                (
                  λ ts parts us h q. (tt, (tt, tt)),
                  (
                    λ ts parts us h q. (tt, (tt, tt)),
                    (
                      λ ts parts us h q. (tt, (tt, tt)),
                      from_member_declaration,
                    ),
                  ),
                ),
              ),
            ),
          ),
        ),
      ),
    ),
  ),
)

from_compilation_unit : Each 0 (drop 0 java_productions)
from_compilation_unit = (
  λ ts parts us h q. (tt, (tt, tt)),
  (
    λ ts parts us h q. (tt, (tt, tt)),
    (
      λ ts parts us h q. (tt, (tt, tt)),
      (
        λ ts parts us h q. (tt, (tt, tt)),
        (
          λ ts parts us h q. (tt, (tt, tt)),
          (
            λ ts parts us h q. (tt, (tt, tt)),
            (
              λ ts parts us h q. (tt, (tt, tt)),
              (
                λ ts parts us h q. (tt, (tt, tt)),
                (
                  λ ts parts us h q. (tt, (tt, tt)),
                  from_modifier,
                ),
              ),
            ),
          ),
        ),
      ),
    ),
  ),
)

pub each : Each 0 java_productions
each = from_compilation_unit
