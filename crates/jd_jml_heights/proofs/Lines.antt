-- What each form of a node tells, where its parts tell what their names say.
use Rattle.std.proofs.Common.{◌≡◌, ◌⊎◌, inl, inr, ℕ, suc, ◌+◌, ◌≤◌, max, List, [], ◌∷◌, ◌++◌, length, Some, None, refl, sym, ap, subst, ◌∙◌, arith}
use Rattle.jd_grammar.specs.declared.piles.NodeParts.{NodeParts}
use Rattle.jd_jml_tokens.specs.Lexemes.{PlainLexeme}
use Rattle.jd_syntax.specs.JavaTypes.{PlainIdentifier, PlainWritten, IntType, IntArrayType}
use Rattle.jd_syntax.specs.SpecTrees as jml
use Rattle.jd_syntax.specs.SpecTrees.{PlainSpec, specs_of}
use Rattle.jd_syntax.specs.declared.spec.Quantifier.{Quantifier}
use Rattle.jd_jml_values.specs.Values as values
use Rattle.jd_jml_values.specs.Values.{PlainSuffix, PlainStart, PlainValue}
use Rattle.jd_jml_values.specs.Heads.{type_at}
use Rattle.jd_jml_values.specs.Parts.{expression_of, some_expression, suffixes_of, expressions_of, arguments_of, name_of, bound_type_of, steps_of, end_of, locations_of, clauses_of}
use Rattle.jd_jml_expressions.specs.Applying.{all_applied, named, joined, begun, class_type, quantified, sum}
use Rattle.jd_jml_expressions.specs.Meaning.{begun_at, parenthesis, int_cast, followed}
use Rattle.jd_jml_clauses.specs.Locating.{located, named_location, member_step, index_step}
use Rattle.jd_jml_clauses.specs.Meaning.{all_clauses}
use Rattle.jd_jml_attributes.specs.Forms.{PlainKind, Same, Other, PlainForm, empty, in_order}
use Rattle.jd_jml_attributes.specs.Rules.{rest, all_in_order, above, suffix, closed, parenthesized, step_before}
use Rattle.jd_jml_texts.specs.Kept.{IsRange}
use Rattle.jd_jml_heights.specs.Heights.{spec_height, specs_height, location_height, locations_height, highest}
use Rattle.jd_jml_heights.proofs.Levels.{Is, IsForm, Flat, not_below, equal_to, above_is, closed_is, first_is, parts0_is, parts1_is, parts2_is, parts3_is, flat1_is, flat2_is, flat3_is, flat4_is, operand_is, parenthesized_is, alone_is, before_is, two_before_is, choice_is, none_kind, one_kind, two_kind, last_step, step_more}
use Rattle.jd_jml_heights.proofs.Sizes.{suffix_height, at_least, levels_least, applied_heights, call_height, named_height, joined_height, start_height, begun_height, some_height, quantified_height, sum_height, end_height, located_height, locations_append, highest_append}
use Rattle.jd_jml_heights.proofs.Roles.{IsExpr, AreSuffixes, IsStart, IsBareStart, AreSteps, AreInvoked, IsNone, IsBound, AreExprs, IsInvocation, expr_is, suffixes_is, steps_is, exprs_is, invocation_is}

-- ---- numbers

max_zero : (n : ℕ) → n ≡ max n 0
max_zero n = omega arith

zero_max : (n : ℕ) → n ≡ max 0 n
zero_max n = omega arith

pub zero_twice : max 0 0 ≡ 0
zero_twice = omega arith

no_levels : (n : ℕ) → n ≡ max (n + 0) 0
no_levels n = omega arith

grouped : (a b c d : ℕ) → d ≡ max a (max b c) → max (max a b) c ≡ d
grouped a b c d e = omega arith

-- ---- clauses

pub single_is : {m n h a : ℕ} → Is m n h a → Is m n (max h 0) a
single_is {m} {n} {h} i = equal_to i (max_zero h) refl

pub behind_none_is : {m n h a : ℕ} → Is m n h a → Is m n (max 0 h) a
behind_none_is {m} {n} {h} i = equal_to i (zero_max h) refl

abbrev TellsClauses : PlainValue → PlainForm → Type 0
TellsClauses v f = IsForm f (highest (clauses_of v)) 0

all_highest : (parts : NodeParts PlainValue)
    → highest (all_clauses parts) ≡ max (highest (clauses_of parts.first)) (max (highest (clauses_of parts.second)) (highest (clauses_of parts.third)))
all_highest parts =
    highest_append (clauses_of parts.first) (clauses_of parts.second ++ clauses_of parts.third)
    ∙ ap (max (highest (clauses_of parts.first))) (highest_append (clauses_of parts.second) (clauses_of parts.third))

highest3 : (parts : NodeParts PlainValue)
    → max (max (highest (clauses_of parts.first)) (highest (clauses_of parts.second))) (highest (clauses_of parts.third)) ≡ highest (all_clauses parts)
highest3 parts =
    grouped (highest (clauses_of parts.first)) (highest (clauses_of parts.second)) (highest (clauses_of parts.third)) (highest (all_clauses parts)) (all_highest parts)

none_highest : (v : PlainValue) → v ≡ values.Nothing → 0 ≡ highest (clauses_of v)
none_highest v e = sym (ap (λ x. highest (clauses_of x)) e)

highest2 : (parts : NodeParts PlainValue) → parts.third ≡ values.Nothing
    → max (highest (clauses_of parts.first)) (highest (clauses_of parts.second)) ≡ highest (all_clauses parts)
highest2 parts e =
    max_zero (max (highest (clauses_of parts.first)) (highest (clauses_of parts.second)))
    ∙ ap (max (max (highest (clauses_of parts.first)) (highest (clauses_of parts.second)))) (none_highest parts.third e)
    ∙ highest3 parts

highest1 : (parts : NodeParts PlainValue) → parts.second ≡ values.Nothing → parts.third ≡ values.Nothing
    → highest (clauses_of parts.first) ≡ highest (all_clauses parts)
highest1 parts e g = max_zero (highest (clauses_of parts.first)) ∙ ap (max (highest (clauses_of parts.first))) (none_highest parts.second e) ∙ highest2 parts g

pub clauses3 : (parts : NodeParts PlainValue) (p : NodeParts PlainForm) → TellsClauses parts.first p.first → TellsClauses parts.second p.second
    → TellsClauses parts.third p.third → p.fourth ≡ empty → IsForm (all_in_order empty p) (highest (all_clauses parts)) 0
clauses3 parts p h k l d = equal_to (flat3_is p h k l d) (highest3 parts) refl

pub clauses2 : (parts : NodeParts PlainValue) (p : NodeParts PlainForm) → TellsClauses parts.first p.first → TellsClauses parts.second p.second
    → p.third ≡ empty → p.fourth ≡ empty → parts.third ≡ values.Nothing → IsForm (all_in_order empty p) (highest (all_clauses parts)) 0
clauses2 parts p h k c d e = equal_to (flat2_is p h k c d) (highest2 parts e) refl

pub clauses1 : (parts : NodeParts PlainValue) (p : NodeParts PlainForm) → TellsClauses parts.first p.first → p.second ≡ empty → p.third ≡ empty
    → p.fourth ≡ empty → parts.second ≡ values.Nothing → parts.third ≡ values.Nothing
    → IsForm (all_in_order empty p) (highest (all_clauses parts)) 0
clauses1 parts p h b c d e g = equal_to (flat1_is p h b c d) (highest1 parts e g) refl

pub clauses0 : (parts : NodeParts PlainValue) (p : NodeParts PlainForm) → p.first ≡ empty → p.second ≡ empty → p.third ≡ empty
    → p.fourth ≡ empty → parts.first ≡ values.Nothing → parts.second ≡ values.Nothing → parts.third ≡ values.Nothing
    → IsForm (all_in_order empty p) (highest (all_clauses parts)) 0
clauses0 parts p a b c d e g i = equal_to (parts0_is p a b c d) (none_highest parts.first e ∙ highest1 parts g i) refl

-- of one expression
pub asserted_is : (parts : NodeParts PlainValue) (p : NodeParts PlainForm) → IsExpr parts.first p.first → p.second ≡ empty → p.third ≡ empty
    → p.fourth ≡ empty → IsForm (all_in_order empty p) (max (spec_height (expression_of parts.first)) 0) 0
asserted_is parts p h b c d = single_is (flat1_is p (expr_is parts.first p.first h) b c d)

pub signals_is : (parts : NodeParts PlainValue) (p : NodeParts PlainForm) → Flat p.first → Flat p.second → IsExpr parts.third p.third
    → p.fourth ≡ empty → IsForm (all_in_order empty p) (max (spec_height (expression_of parts.third)) 0) 0
signals_is parts p h k l d =
    single_is (equal_to (flat3_is p h k (expr_is parts.third p.third l) d) (ap (λ n. max n (spec_height (expression_of parts.third))) zero_twice ∙ sym (zero_max (spec_height (expression_of parts.third)))) refl)

-- ---- what is flat

pub flats2 : (p : NodeParts PlainForm) → Flat p.first → Flat p.second → p.third ≡ empty → p.fourth ≡ empty → Flat (all_in_order empty p)
flats2 p h k c d = equal_to (flat2_is p h k c d) zero_twice refl

-- ---- expressions

pub passed : (parts : NodeParts PlainValue) (p : NodeParts PlainForm) → IsExpr parts.first p.first → p.second ≡ empty → p.third ≡ empty
    → p.fourth ≡ empty → IsExpr parts.first (all_in_order empty p)
passed parts p (e, is, i) b c d = (e, is, flat1_is p i b c d)

-- one level above an expression
pub raised : (parts : NodeParts PlainValue) (p : NodeParts PlainForm) → IsExpr parts.first p.first → p.second ≡ empty → p.third ≡ empty
    → p.fourth ≡ empty → IsForm (above Other (all_in_order empty p)) (1 + spec_height (expression_of parts.first)) 0
raised parts p h b c d = above_is (flat1_is p (expr_is parts.first p.first h) b c d)

pub operand : (parts : NodeParts PlainValue) (p : NodeParts PlainForm) → IsExpr parts.first p.first → AreSuffixes parts.second p.second
    → p.third ≡ empty → p.fourth ≡ empty
    → IsExpr (values.Expression (all_applied (expression_of parts.first) (suffixes_of parts.second))) (closed (all_in_order empty p))
operand parts p h k c d = (
  all_applied (expression_of parts.first) (suffixes_of parts.second),
  refl,
  equal_to (operand_is p (expr_is parts.first p.first h) (suffixes_is parts.second p.second k) c d) (sym (applied_heights (expression_of parts.first) (suffixes_of parts.second))) refl,
)

name_levels : (c b k n e : ℕ) → n ≡ c → e ≡ max (n + b) k → max (max (0 + 0) c + b) k ≡ e
name_levels c b k n e is x = omega arith

pub name_operand : (parts : NodeParts PlainValue) (p : NodeParts PlainForm) → Flat p.first
    → IsForm p.second (call_height (arguments_of parts.second)) 0 → AreSuffixes parts.third p.third → p.fourth ≡ empty
    → IsExpr (values.Expression (all_applied (named (name_of parts.first) (arguments_of parts.second)) (suffixes_of parts.third))) (closed (all_in_order empty p))
name_operand parts p h k l d = (
  all_applied (named (name_of parts.first) (arguments_of parts.second)) (suffixes_of parts.third),
  refl,
  equal_to (closed_is (parts3_is p (not_below 0) h k (suffixes_is parts.third p.third l) d))
      (name_levels (call_height (arguments_of parts.second)) (length (suffixes_of parts.third)) (at_least (suffixes_of parts.third)) (spec_height (named (name_of parts.first) (arguments_of parts.second)))
      (spec_height (all_applied (named (name_of parts.first) (arguments_of parts.second)) (suffixes_of parts.third))) (named_height (name_of parts.first) (arguments_of parts.second))
      (applied_heights (named (name_of parts.first) (arguments_of parts.second)) (suffixes_of parts.third)))
      refl,
)

begun_is : (at : ℕ) (v : PlainValue) (f : PlainForm) → IsStart v f → IsForm f (spec_height (begun_at at v)) 0
begun_is at v f (s, ss, is, i) =
    subst (λ x. IsForm f (spec_height (begun_at at x)) 0) (sym is)
    (equal_to i (ap (λ n. max (n + length ss) (at_least ss)) (sym (begun_height at s)) ∙ sym (applied_heights (begun at s) ss)) refl)

pub begun_operand : (at : ℕ) (parts : NodeParts PlainValue) (p : NodeParts PlainForm) → IsStart parts.first p.first → p.second ≡ empty
    → p.third ≡ empty → p.fourth ≡ empty → IsExpr (values.Expression (begun_at at parts.first)) (closed (all_in_order empty p))
begun_operand at parts p h b c d = (begun_at at parts.first, refl, closed_is (flat1_is p (begun_is at parts.first p.first h) b c d))

-- ---- what stands behind an operand

pub no_suffixes : (p : NodeParts PlainForm) → p.first ≡ empty → p.second ≡ empty → p.third ≡ empty → p.fourth ≡ empty
    → AreSuffixes (values.Suffixes []) (all_in_order empty p)
no_suffixes p a b c d = ([], refl, parts0_is p a b c d)

next_length : (n : ℕ) → 1 + n ≡ suc n
next_length n = omega arith

pub before : (s : PlainSuffix) (kind : PlainKind) (w : PlainValue) (p : NodeParts PlainForm) → IsForm p.first (suffix_height s) 0
    → AreSuffixes w p.second → p.third ≡ empty → p.fourth ≡ empty
    → AreSuffixes (values.Suffixes (s ∷ suffixes_of w)) (all_in_order (suffix kind (in_order empty p.first)) (rest p))
before s kind w p h k c d = (s ∷ suffixes_of w, refl, equal_to (before_is kind p h (suffixes_is w p.second k) c d) refl (next_length (length (suffixes_of w))))

pub alone : (s : PlainSuffix) (kind : PlainKind) (p : NodeParts PlainForm) → IsForm p.first (suffix_height s) 0 → p.second ≡ empty
    → p.third ≡ empty → p.fourth ≡ empty → AreSuffixes (values.Suffixes (s ∷ [])) (all_in_order (suffix kind (in_order empty p.first)) (rest p))
alone s kind p h b c d = (s ∷ [], refl, equal_to (alone_is kind p h b c d) (no_levels (1 + suffix_height s)) refl)

choice_levels : (h k : ℕ) → 1 + max (h + 0) k ≡ max (1 + max h k + 0) 0
choice_levels h k = omega arith

pub choice : (a b : PlainSpec) (kind : PlainKind) (p : NodeParts PlainForm) → IsForm p.first (spec_height a) 0
    → IsForm p.second (spec_height b) 0 → p.third ≡ empty → p.fourth ≡ empty
    → AreSuffixes (values.Suffixes (values.Choice a b ∷ [])) (all_in_order (suffix kind (in_order (in_order empty p.first) p.second)) (rest (rest p)))
choice a b kind p h k c d = (values.Choice a b ∷ [], refl, equal_to (choice_is kind p h k c d) (choice_levels (spec_height a) (spec_height b)) refl)

member_levels : (s c b k : ℕ) → 1 + s ≡ max 1 c → max (max (1 + 0 + 0) c + b) k ≡ max (1 + s + b) k
member_levels s c b k is = omega arith

member_length : (n : ℕ) → 1 + 0 + n ≡ suc n
member_length n = omega arith

pub member : (kind : PlainKind) (parts : NodeParts PlainValue) (p : NodeParts PlainForm) → Flat p.first
    → IsForm p.second (call_height (arguments_of parts.second)) 0 → AreSuffixes parts.third p.third → p.fourth ≡ empty
    → AreSuffixes (values.Suffixes (joined (name_of parts.first) (arguments_of parts.second) ∷ suffixes_of parts.third)) (all_in_order (suffix kind (in_order empty p.first)) (rest p))
member kind parts p h k l d = (
  joined (name_of parts.first) (arguments_of parts.second) ∷ suffixes_of parts.third,
  refl,
  equal_to (two_before_is kind p h k (suffixes_is parts.third p.third l) d)
      (member_levels (suffix_height (joined (name_of parts.first) (arguments_of parts.second))) (call_height (arguments_of parts.second)) (length (suffixes_of parts.third)) (at_least (suffixes_of parts.third))
      (joined_height (name_of parts.first) (arguments_of parts.second)))
      (member_length (length (suffixes_of parts.third))),
)

-- ---- parentheses

started : (v : PlainValue) (f : PlainForm) (s : PlainStart) → v ≡ values.Started s [] → IsForm f (start_height s) 0 → IsStart v f
started v f s is i = (s, [], is, equal_to i (no_levels (start_height s)) refl)

pub inside_alone : (parts : NodeParts PlainValue) (p : NodeParts PlainForm) → IsExpr parts.first p.first → p.second ≡ empty → p.third ≡ empty
    → p.fourth ≡ empty → parts.second ≡ values.Nothing
    → IsStart (parenthesis (expression_of parts.first) parts.second) (above Other (all_in_order empty p))
inside_alone parts p h b c d n = started (parenthesis (expression_of parts.first) parts.second) (above Other (all_in_order empty p)) (values.Inside (expression_of parts.first)) (ap (parenthesis (expression_of parts.first)) n) (raised parts p h b c d)

abbrev IsCast : PlainValue → PlainSpec → Type 0
IsCast w e = (d : PlainSpec) → w ≡ values.Expression d → (at : ℕ) × (x : List ℕ) × (e ≡ jml.Name at x)

cast_levels : (e d : ℕ) → e ≡ 0 → max (1 + e + 0) (1 + d) ≡ max (1 + d + 0) 0
cast_levels e d is = omega arith

pub parenthesis_is : (parts : NodeParts PlainValue) (p : NodeParts PlainForm) → IsExpr parts.first p.first
    → ((d : PlainSpec) × (parts.second ≡ values.Expression d) × IsForm p.second (1 + spec_height d) 0) ⊎ AreSuffixes parts.second p.second
    → p.third ≡ empty → p.fourth ≡ empty → IsCast parts.second (expression_of parts.first)
    → IsStart (parenthesis (expression_of parts.first) parts.second) (parenthesized p)
parenthesis_is parts p h (inl (d, is, i)) c e q =
    let (at, x, name) = q d is in (
      values.Cast (class_type (expression_of parts.first)) d,
      [],
      ap (parenthesis (expression_of parts.first)) is,
      equal_to (parenthesized_is p (expr_is parts.first p.first h) i c e) (cast_levels (spec_height (expression_of parts.first)) (spec_height d) (ap spec_height name)) refl,
    )
parenthesis_is parts p h (inr (ss, is, i)) c e q =
    (values.Inside (expression_of parts.first), ss, ap (parenthesis (expression_of parts.first)) is, parenthesized_is p (expr_is parts.first p.first h) i c e)

pub int_cast_is : (ts : List PlainLexeme) (parts : NodeParts PlainValue) (p : NodeParts PlainForm)
    → IsExpr parts.first p.first ⊎ ((e : PlainSpec) × (parts.first ≡ values.ArrayOperand e) × IsForm p.first (spec_height e) 0) → p.second ≡ empty → p.third ≡ empty → p.fourth ≡ empty
    → IsStart (int_cast ts parts.first) (above Other (all_in_order empty p))
int_cast_is ts parts p (inl (e, is, i)) b c d = started (int_cast ts parts.first) (above Other (all_in_order empty p)) (values.Cast (type_at ts IntType) e) (ap (int_cast ts) is) (above_is (flat1_is p i b c d))
int_cast_is ts parts p (inr (e, is, i)) b c d = started (int_cast ts parts.first) (above Other (all_in_order empty p)) (values.Cast (type_at ts IntArrayType) e) (ap (int_cast ts) is) (above_is (flat1_is p i b c d))

pub cast_is : (t : PlainWritten) (parts : NodeParts PlainValue) (p : NodeParts PlainForm) → IsExpr parts.first p.first → p.second ≡ empty
    → p.third ≡ empty → p.fourth ≡ empty
    → IsStart (values.Started (values.Cast t (expression_of parts.first)) []) (above Other (all_in_order empty p))
cast_is t parts p h b c d = started (values.Started (values.Cast t (expression_of parts.first)) []) (above Other (all_in_order empty p)) (values.Cast t (expression_of parts.first)) refl (raised parts p h b c d)

pub cast_operand_is : (parts : NodeParts PlainValue) (f : PlainForm) → IsExpr parts.first f
    → (d : PlainSpec) × (parts.first ≡ values.Expression d) × IsForm (above Other (in_order empty f)) (1 + spec_height d) 0
cast_operand_is parts f (e, is, i) = (e, is, above_is (first_is (not_below (spec_height e)) i))

pub suffixes_passed : (parts : NodeParts PlainValue) (p : NodeParts PlainForm) → AreSuffixes parts.first p.first → p.second ≡ empty
    → p.third ≡ empty → p.fourth ≡ empty → AreSuffixes parts.first (all_in_order empty p)
suffixes_passed parts p (ss, is, i) b c d = (ss, is, parts1_is p (levels_least ss) i b c d)

pub followed_is : (parts : NodeParts PlainValue) (p : NodeParts PlainForm) → IsBareStart parts.first p.first → AreSuffixes parts.second p.second
    → p.third ≡ empty → p.fourth ≡ empty → IsStart (followed parts.first (suffixes_of parts.second)) (closed (all_in_order empty p))
followed_is parts p (s, is, i) k c d = (s, suffixes_of parts.second, ap (λ x. followed x (suffixes_of parts.second)) is, operand_is p i (suffixes_is parts.second p.second k) c d)

pub start_passed : (parts : NodeParts PlainValue) (p : NodeParts PlainForm) → IsBareStart parts.first p.first → p.second ≡ empty
    → p.third ≡ empty → p.fourth ≡ empty → IsStart parts.first (all_in_order empty p)
start_passed parts p (s, is, i) b c d = started parts.first (all_in_order empty p) s is (flat1_is p i b c d)

quantified_levels : (e r s : ℕ) → 1 + max e r ≡ s → 1 + max (max (max 0 0) e) r ≡ s
quantified_levels e r s is = omega arith

pub quantified_is : (q : Quantifier) (parts : NodeParts PlainValue) (p : NodeParts PlainForm) → Flat p.first → Flat p.second
    → IsExpr parts.third p.third → IsForm p.fourth (some_height (some_expression parts.fourth)) 0
    → IsBareStart (values.Started (quantified q (bound_type_of parts.first) (name_of parts.second) (expression_of parts.third) (some_expression parts.fourth)) []) (above Other (all_in_order empty p))
quantified_is q parts p h k l m = (
  quantified q (bound_type_of parts.first) (name_of parts.second) (expression_of parts.third) (some_expression parts.fourth),
  refl,
  equal_to (above_is (flat4_is p h k (expr_is parts.third p.third l) m))
      (quantified_levels (spec_height (expression_of parts.third)) (some_height (some_expression parts.fourth))
      (start_height (quantified q (bound_type_of parts.first) (name_of parts.second) (expression_of parts.third) (some_expression parts.fourth)))
      (quantified_height q (bound_type_of parts.first) (name_of parts.second) (expression_of parts.third) (some_expression parts.fourth)))
      refl,
)

sum_levels : (r e s : ℕ) → 1 + max r e ≡ s → 1 + max (max 0 r) e ≡ s
sum_levels r e s is = omega arith

pub sum_is : (parts : NodeParts PlainValue) (p : NodeParts PlainForm) → Flat p.first → IsExpr parts.second p.second → IsExpr parts.third p.third
    → p.fourth ≡ empty → IsRange (name_of parts.first).name (expression_of parts.second)
    → IsBareStart (values.Started (sum (name_of parts.first) (expression_of parts.second) (expression_of parts.third)) []) (above Other (all_in_order empty p))
sum_is parts p h k l d q = (
  sum (name_of parts.first) (expression_of parts.second) (expression_of parts.third),
  refl,
  equal_to (above_is (flat3_is p h (expr_is parts.second p.second k) (expr_is parts.third p.third l) d))
      (sum_levels (spec_height (expression_of parts.second)) (spec_height (expression_of parts.third)) (start_height (sum (name_of parts.first) (expression_of parts.second) (expression_of parts.third)))
      (sum_height (name_of parts.first) (expression_of parts.second) (expression_of parts.third) q))
      refl,
)

-- ---- arguments

pub arguments_more : (parts : NodeParts PlainValue) (p : NodeParts PlainForm) → IsExpr parts.first p.first → AreExprs parts.second p.second
    → p.third ≡ empty → p.fourth ≡ empty
    → AreExprs (values.Expressions (expression_of parts.first ∷ expressions_of parts.second)) (all_in_order empty p)
arguments_more parts p h k c d = (expression_of parts.first ∷ expressions_of parts.second, refl, flat2_is p (expr_is parts.first p.first h) (exprs_is parts.second p.second k) c d)

pub no_arguments : (p : NodeParts PlainForm) → p.first ≡ empty → p.second ≡ empty → p.third ≡ empty → p.fourth ≡ empty
    → AreExprs (values.Expressions []) (all_in_order empty p)
no_arguments p a b c d = ([], refl, parts0_is p a b c d)

pub invoked : (parts : NodeParts PlainValue) (p : NodeParts PlainForm) → AreExprs parts.first p.first → p.second ≡ empty → p.third ≡ empty
    → p.fourth ≡ empty → IsInvocation parts.first (above Other (all_in_order empty p))
invoked parts p (es, is, i) b c d = (es, is, above_is (flat1_is p i b c d))

-- ---- locations

pub locations_more : (parts : NodeParts PlainValue) (p : NodeParts PlainForm) → IsForm p.first (locations_height (locations_of parts.first)) 0
    → IsForm p.second (locations_height (locations_of parts.second)) 0 → p.third ≡ empty → p.fourth ≡ empty
    → IsForm (all_in_order empty p) (locations_height (locations_of parts.first ++ locations_of parts.second)) 0
locations_more parts p h k c d = equal_to (flat2_is p h k c d) (sym (locations_append (locations_of parts.first) (locations_of parts.second))) refl

pub no_locations : (parts : NodeParts PlainValue) (p : NodeParts PlainForm) → p.first ≡ empty → p.second ≡ empty → p.third ≡ empty
    → p.fourth ≡ empty → parts.first ≡ values.Nothing → parts.second ≡ values.Nothing
    → IsForm (all_in_order empty p) (locations_height (locations_of parts.first ++ locations_of parts.second)) 0
no_locations parts p a b c d e g =
    equal_to (parts0_is p a b c d) (sym (ap (λ x. locations_height (locations_of x ++ locations_of parts.second)) e ∙ ap (λ x. locations_height (locations_of x)) g)) refl

-- behind an operand
located_is : (at : ℕ) (e : PlainSpec) (w : PlainValue) (p : NodeParts PlainForm) → IsForm p.first (spec_height e) 0 → AreSteps w p.second
    → p.third ≡ empty → p.fourth ≡ empty
    → IsForm (closed (all_in_order empty p)) (max (location_height (located at e (steps_of w) (end_of w))) 0) 0
located_is at e w p h k c d = single_is (equal_to (operand_is p h (steps_is w p.second k).0 c d) (located_height at e (steps_of w) (end_of w)) refl)

pub operand_location : (at : ℕ) (parts : NodeParts PlainValue) (p : NodeParts PlainForm) → IsExpr parts.first p.first
    → AreSteps parts.second p.second → p.third ≡ empty → p.fourth ≡ empty
    → IsForm (closed (all_in_order empty p)) (max (location_height (located at (expression_of parts.first) (steps_of parts.second) (end_of parts.second))) 0) 0
operand_location at parts p h k c d = located_is at (expression_of parts.first) parts.second p (expr_is parts.first p.first h) k c d

pub begun_location : (at : ℕ) (parts : NodeParts PlainValue) (p : NodeParts PlainForm) → IsStart parts.first p.first
    → AreSteps parts.second p.second → p.third ≡ empty → p.fourth ≡ empty
    → IsForm (closed (all_in_order empty p)) (max (location_height (located at (begun_at at parts.first) (steps_of parts.second) (end_of parts.second))) 0) 0
begun_location at parts p h k c d = located_is at (begun_at at parts.first) parts.second p (begun_is at parts.first p.first h) k c d

abbrev IsBehindName : PlainValue → PlainForm → Type 0
IsBehindName v f = IsNone v f ⊎ (AreSteps v f ⊎ AreInvoked v f)

no_expression : max (0 + 0) 0 ≡ 0
no_expression = omega arith

call_located : (n l a i : ℕ) → max (0 + l) (max (1 + n + l) (max a i)) ≡ max (1 + n + l) (max a i)
call_located n l a i = omega arith

named_location_is : (x : PlainIdentifier) (v : PlainValue) (p : NodeParts PlainForm) → Flat p.first → IsBehindName v p.second → p.third ≡ empty
    → p.fourth ≡ empty → IsForm (closed (all_in_order empty p)) (location_height (named_location x v)) 0
named_location_is x v p h (inl (is, i, k)) c d =
    subst (λ y. IsForm (closed (all_in_order empty p)) (location_height (named_location x y)) 0) (sym is) (equal_to (operand_is p h i c d) no_expression refl)
named_location_is x v p h (inr (inl (ss, end, is, i))) c d =
    subst (λ y. IsForm (closed (all_in_order empty p)) (location_height (named_location x y)) 0) (sym is) (equal_to (operand_is p h i.0 c d) (located_height x.at (named x None) ss end) refl)
named_location_is x v p h (inr (inr (es, ss, end, is, i))) c d =
    subst (λ y. IsForm (closed (all_in_order empty p)) (location_height (named_location x y)) 0) (sym is)
    (equal_to (operand_is p h i.0 c d) (call_located (specs_height (specs_of es)) (length ss) (at_least ss) (end_height end) ∙ located_height x.at (named x (Some es)) ss end) refl)

pub named_is : (parts : NodeParts PlainValue) (p : NodeParts PlainForm) → Flat p.first → IsBehindName parts.second p.second → p.third ≡ empty
    → p.fourth ≡ empty → IsForm (closed (all_in_order empty p)) (max (location_height (named_location (name_of parts.first) parts.second)) 0) 0
named_is parts p h k c d = single_is (named_location_is (name_of parts.first) parts.second p h k c d)

last_member : max (0 + 0) 0 ≡ max 0 0
last_member = omega arith

member_before : (l a i : ℕ) → max (1 + 0 + l) (max a i) ≡ max (max (1 + 0 + l) a) i
member_before l a i = omega arith

method_before : (n l a i : ℕ) → max (1 + 0 + l) (max (1 + n + l) (max a i)) ≡ max (max (1 + n + l) a) i
method_before n l a i = omega arith

pub member_step_is : (parts : NodeParts PlainValue) (p : NodeParts PlainForm) → Flat p.first → IsBehindName parts.second p.second
    → AreSteps (member_step (name_of parts.first) parts.second) (step_before p.second.kind p)
member_step_is parts p h (inl (is, i, e)) =
    let (j, k) = last_step p 0 0 0 h i e in
    ([], values.FieldEnd (name_of parts.first), ap (member_step (name_of parts.first)) is, (equal_to j last_member refl, k))
member_step_is parts p h (inr (inl (ss, end, is, i))) =
    let (j, k) = step_more p 0 (max (at_least ss) (end_height end)) (length ss) h i.0 i.1 in (
      values.Member (name_of parts.first) ∷ ss,
      end,
      ap (member_step (name_of parts.first)) is,
      (equal_to j (member_before (length ss) (at_least ss) (end_height end)) (next_length (length ss)), k),
    )
member_step_is parts p h (inr (inr (es, ss, end, is, i))) =
    let (j, k) = step_more p 0 (max (1 + specs_height (specs_of es) + length ss) (max (at_least ss) (end_height end))) (length ss) h i.0 i.1 in (
      values.Method (name_of parts.first) es ∷ ss,
      end,
      ap (member_step (name_of parts.first)) is,
      (equal_to j (method_before (specs_height (specs_of es)) (length ss) (at_least ss) (end_height end)) (next_length (length ss)), k),
    )

last_index : (n : ℕ) → max (n + 0) 0 ≡ max 0 n
last_index n = omega arith

bound_index : (n m : ℕ) → max (n + 0) m ≡ max 0 (max n m)
bound_index n m = omega arith

index_before : (n l a i : ℕ) → max (1 + n + l) (max a i) ≡ max (max (1 + n + l) a) i
index_before n l a i = omega arith

pub index_step_is : (parts : NodeParts PlainValue) (p : NodeParts PlainForm) → IsExpr parts.first p.first
    → IsNone parts.second p.second ⊎ (IsBound parts.second p.second ⊎ AreSteps parts.second p.second)
    → AreSteps (index_step (expression_of parts.first) parts.second) (step_before p.second.kind p)
index_step_is parts p h (inl (is, i, e)) =
    let (j, k) = last_step p (spec_height (expression_of parts.first)) 0 0 (expr_is parts.first p.first h) i e in
    ([], values.ElementEnd (expression_of parts.first), ap (index_step (expression_of parts.first)) is, (equal_to j (last_index (spec_height (expression_of parts.first))) refl, k))
index_step_is parts p h (inr (inl (b, is, i, e))) =
    let (j, k) = last_step p (spec_height (expression_of parts.first)) (spec_height b) 0 (expr_is parts.first p.first h) i e in (
      [],
      values.RangeEnd (expression_of parts.first) b,
      ap (index_step (expression_of parts.first)) is,
      (equal_to j (bound_index (spec_height (expression_of parts.first)) (spec_height b)) refl, k),
    )
index_step_is parts p h (inr (inr (ss, end, is, i))) =
    let (j, k) = step_more p (spec_height (expression_of parts.first)) (max (at_least ss) (end_height end)) (length ss) (expr_is parts.first p.first h) i.0 i.1 in (
      values.Element (expression_of parts.first) ∷ ss,
      end,
      ap (index_step (expression_of parts.first)) is,
      (equal_to j (index_before (spec_height (expression_of parts.first)) (length ss) (at_least ss) (end_height end)) (next_length (length ss)), k),
    )

steps_within : (l a i : ℕ) → l ≤ a → l ≤ max a i
steps_within l a i le = omega arith

pub steps_passed : (parts : NodeParts PlainValue) (p : NodeParts PlainForm) → AreSteps parts.first p.first → p.second ≡ empty → p.third ≡ empty
    → p.fourth ≡ empty → AreSteps parts.first (all_in_order empty p)
steps_passed parts p (ss, end, is, i) b c d =
    (ss, end, is, (parts1_is p (steps_within (length ss) (at_least ss) (end_height end) (levels_least ss)) i.0 b c d, one_kind p Other i.1 b c d))

pub none_there : (p : NodeParts PlainForm) → p.first ≡ empty → p.second ≡ empty → p.third ≡ empty → p.fourth ≡ empty
    → IsNone values.Nothing (all_in_order empty p)
none_there p a b c d = (refl, parts0_is p a b c d, none_kind p a b c d)

pub none_passed : (parts : NodeParts PlainValue) (p : NodeParts PlainForm) → IsNone parts.first p.first → p.second ≡ empty → p.third ≡ empty
    → p.fourth ≡ empty → IsNone parts.first (all_in_order empty p)
none_passed parts p (is, i, e) b c d = (is, flat1_is p i b c d, one_kind p Same e b c d)

pub element_passed : (parts : NodeParts PlainValue) (p : NodeParts PlainForm) → IsNone parts.first p.first ⊎ AreSteps parts.first p.first
    → p.second ≡ empty → p.third ≡ empty → p.fourth ≡ empty
    → IsNone parts.first (all_in_order empty p) ⊎ (IsBound parts.first (all_in_order empty p) ⊎ AreSteps parts.first (all_in_order empty p))
element_passed parts p (inl h) b c d = inl (none_passed parts p h b c d)
element_passed parts p (inr h) b c d = inr (inr (steps_passed parts p h b c d))

pub bound_is : (parts : NodeParts PlainValue) (f : PlainForm) → IsExpr parts.first f
    → Is (in_order empty f).height 0 (spec_height (expression_of parts.first)) 0
bound_is parts f h = closed_is (first_is (not_below (spec_height (expression_of parts.first))) (expr_is parts.first f h))

invoked_length : (n : ℕ) → 0 + n ≡ n
invoked_length n = omega arith

pub invoked_steps : (parts : NodeParts PlainValue) (p : NodeParts PlainForm) → IsInvocation parts.first p.first → AreSteps parts.second p.second
    → p.third ≡ empty → p.fourth ≡ empty
    → AreInvoked (values.Invoked (expressions_of parts.first) (steps_of parts.second) (end_of parts.second)) (all_in_order empty p)
invoked_steps parts p h k c d =
    let (i, e) = steps_is parts.second p.second k in (
      expressions_of parts.first,
      steps_of parts.second,
      end_of parts.second,
      refl,
      (
        equal_to (parts2_is p (not_below (1 + specs_height (specs_of (expressions_of parts.first)))) (invocation_is parts.first p.first h) i c d) refl (invoked_length (length (steps_of parts.second))),
        two_kind p e c d,
      ),
    )
