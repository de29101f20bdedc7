-- What each form of a node tells, where its parts tell what their names say.
use Rattle.std.proofs.Common.{◌≡◌, inl, inr, ℕ, suc, ◌+◌, ◌≤◌, max, List, [], ◌∷◌, ◌++◌, length, Option, None, refl, sym, ap, subst, ◌∙◌, arith}
use Rattle.jd_grammar.specs.declared.piles.NodeParts.{NodeParts}
use Rattle.jd_java_tokens.specs.Contents.{PlainLexeme}
use Rattle.jd_syntax.specs.JavaTypes.{PlainWritten, IntType, IntArrayType}
use Rattle.jd_syntax.specs.SpecTrees.{PlainSpecBlock}
use Rattle.jd_syntax.specs.JavaTrees as java
use Rattle.jd_syntax.specs.JavaTrees.{JavaExpr, java_exprs, java_stmts, java_handlers}
use Rattle.jd_syntax.specs.declared.java.PrefixOperator.{PrefixOperator}
use Rattle.jd_java_values.specs.Values as values
use Rattle.jd_java_values.specs.Values.{PlainSuffix, PlainStart, PlainValue}
use Rattle.jd_java_values.specs.Heads.{type_at}
use Rattle.jd_java_values.specs.Parts.{expression_of, some_expression, suffixes_of, expressions_of, arguments_of, name_of, statement_of, some_statement, statements_of, some_statements, variables_of, start_of, handlers_of}
use Rattle.jd_java_expressions.specs.Applying.{all_applied, named, joined, begun, class_type}
use Rattle.jd_java_expressions.specs.Meaning.{behind_two, behind_one, all_suffixes, begun_at, effect_of_name, parenthesis, int_cast}
use Rattle.jd_java_statements.specs.Meaning.{variables, annotated, if_statement, rescued, named_statement, named_start, with_effects}
use Rattle.jd_java_attributes.specs.declared.form.Form.{Form}
use Rattle.jd_java_attributes.specs.declared.form.Kind.TheVariants as kinds
use Rattle.jd_java_attributes.specs.declared.form.Asked.TheVariants as asks
use Rattle.jd_java_attributes.specs.Forms.{in_order}
use Rattle.jd_java_attributes.specs.Rules.{rest, all_in_order, only_tokens, above, suffix, closed, nested}
use Rattle.jd_java_heights.specs.Heights.{expr_height, exprs_height, some_height, declarators_height, for_start_height, highest_in_stmt, highest_in_stmts, highest_in_handlers, stmt_height, stmts_height, handlers_height}
use Rattle.jd_java_heights.proofs.Levels.{Is, IsForm, Flat, equal_to, zero_is, order_is, above_is, suffix_is, closed_is, nested_is, together, all_is, flats_is, only1, both_is, raised_is, lifted_is}
use Rattle.jd_java_heights.proofs.Sizes.{suffix_height, at_least, levels_least, length_behind, least_behind, applied_heights, call_height, named_height, joined_height, start_height, begun_height, if_highest, if_height, annotated_highest, annotated_height, highest_in_some, some_stmts_height, some_highest, some_height_is, try_highest, try_height, handlers_highest, handlers_behind}
use Rattle.jd_java_heights.proofs.Roles.{IsExpr, OfTail, AreExprs, IsStart, IsIntCast, IsBehindParenthesis, IsNameEffect, IsBehindStatementName, IsBehindStartName, IsStatement, OfStatement, OfStatements, AreVariables, OfOptional, OfHandlers, IsRescue, expr_is, exprs_is, statement_is, variables_is}

abbrev Values : Type 0
Values = NodeParts PlainValue

-- ---- what stands behind an operand, in several parts

length_one : (parts : Values)
    → length (behind_one parts) ≡ length (suffixes_of parts.second) + (length (suffixes_of parts.third) + length (suffixes_of parts.fourth))
length_one parts =
    length_behind (suffixes_of parts.second) (behind_two parts) ∙ ap (λ n. length (suffixes_of parts.second) + n) (length_behind (suffixes_of parts.third) (suffixes_of parts.fourth))

least_one : (parts : Values)
    → at_least (behind_one parts)
    ≡ max (at_least (suffixes_of parts.second) + (length (suffixes_of parts.third) + length (suffixes_of parts.fourth)))
    (max (at_least (suffixes_of parts.third) + length (suffixes_of parts.fourth)) (at_least (suffixes_of parts.fourth)))
least_one parts =
    least_behind (suffixes_of parts.second) (behind_two parts)
    ∙ ap (λ n. max (at_least (suffixes_of parts.second) + n) (at_least (behind_two parts))) (length_behind (suffixes_of parts.third) (suffixes_of parts.fourth))
    ∙ ap (max (at_least (suffixes_of parts.second) + (length (suffixes_of parts.third) + length (suffixes_of parts.fourth)))) (least_behind (suffixes_of parts.third) (suffixes_of parts.fourth))

first_heights : (h b l c m d n e g k : ℕ) → e ≡ l + (m + n) → g ≡ max (b + (m + n)) (max (c + n) d)
    → max (max (max (max (0 + 0) h + l) b + m) c + n) d ≡ max (h + e) g
first_heights h b l c m d n e g k x y = omega arith

first_levels : (l m n e : ℕ) → e ≡ l + (m + n) → 0 + 0 + l + m + n ≡ e
first_levels l m n e x = omega arith

first_nesting : (s : ℕ) → max (max (max (max 0 s) 0) 0) 0 ≡ s
first_nesting s = omega arith

-- the first part, and what stands behind it
first_tails : (parts : Values) (p : NodeParts Form) {h : ℕ} → IsForm p.first h 0 0 → OfTail parts.second p.second → OfTail parts.third p.third
    → OfTail parts.fourth p.fourth
    → IsForm (together p) (max (h + length (behind_one parts)) (at_least (behind_one parts))) (length (behind_one parts)) 0
first_tails parts p {h} i j k l =
    equal_to (all_is (only_tokens 0) p zero_is i j k l)
    (first_heights h (at_least (suffixes_of parts.second)) (length (suffixes_of parts.second)) (at_least (suffixes_of parts.third)) (length (suffixes_of parts.third)) (at_least (suffixes_of parts.fourth)) (length (suffixes_of parts.fourth))
    (length (behind_one parts)) (at_least (behind_one parts)) 0 (length_one parts) (least_one parts))
    (first_levels (length (suffixes_of parts.second)) (length (suffixes_of parts.third)) (length (suffixes_of parts.fourth)) (length (behind_one parts)) (length_one parts)) (first_nesting 0)

rest_heights : (h b l c m d n e g : ℕ) → e ≡ l + (m + n) → g ≡ max (b + (m + n)) (max (c + n) d)
    → max (max (max (max (h + l) b + m) c + n) d + 0) 0 ≡ max (h + e) g
rest_heights h b l c m d n e g x y = omega arith

rest_levels : (a l m n e : ℕ) → e ≡ l + (m + n) → a + l + m + n + 0 ≡ a + e
rest_levels a l m n e x = omega arith

none_nested : max (max (max (max 0 0) 0) 0) 0 ≡ 0
none_nested = omega arith

-- one of the first part, and what stands behind it
rest_tails : (f : Form) (parts : Values) (p : NodeParts Form) {h a : ℕ} → IsForm f h a 0 → OfTail parts.second p.second → OfTail parts.third p.third
    → OfTail parts.fourth p.fourth
    → IsForm (all_in_order f (rest p)) (max (h + length (behind_one parts)) (at_least (behind_one parts))) (a + length (behind_one parts)) 0
rest_tails f parts p {h} {a} i j k l =
    equal_to (all_is f (rest p) i j k l zero_is)
    (rest_heights h (at_least (suffixes_of parts.second)) (length (suffixes_of parts.second)) (at_least (suffixes_of parts.third)) (length (suffixes_of parts.third)) (at_least (suffixes_of parts.fourth)) (length (suffixes_of parts.fourth))
    (length (behind_one parts)) (at_least (behind_one parts)) (length_one parts) (least_one parts))
    (rest_levels a (length (suffixes_of parts.second)) (length (suffixes_of parts.third)) (length (suffixes_of parts.fourth)) (length (behind_one parts)) (length_one parts)) none_nested

two_heights : (h c m d n e g : ℕ) → e ≡ m + n → g ≡ max (c + n) d → max (max (max (max (h + m) c + n) d + 0) 0 + 0) 0 ≡ max (h + e) g
two_heights h c m d n e g x y = omega arith

two_levels : (a m n e : ℕ) → e ≡ m + n → a + m + n + 0 + 0 ≡ a + e
two_levels a m n e x = omega arith

-- one of the first two parts, and what stands behind it
two_tails : (f : Form) (parts : Values) (p : NodeParts Form) {h a : ℕ} → IsForm f h a 0 → OfTail parts.third p.third → OfTail parts.fourth p.fourth
    → IsForm (all_in_order f (rest (rest p))) (max (h + length (behind_two parts)) (at_least (behind_two parts))) (a + length (behind_two parts)) 0
two_tails f parts p {h} {a} i k l =
    equal_to (all_is f (rest (rest p)) i k l zero_is zero_is)
    (two_heights h (at_least (suffixes_of parts.third)) (length (suffixes_of parts.third)) (at_least (suffixes_of parts.fourth)) (length (suffixes_of parts.fourth)) (length (behind_two parts)) (at_least (behind_two parts))
    (length_behind (suffixes_of parts.third) (suffixes_of parts.fourth)) (least_behind (suffixes_of parts.third) (suffixes_of parts.fourth)))
    (two_levels a (length (suffixes_of parts.third)) (length (suffixes_of parts.fourth)) (length (behind_two parts)) (length_behind (suffixes_of parts.third) (suffixes_of parts.fourth))) none_nested

all_heights : (a i b l c m d n e g k o : ℕ) → e ≡ l + (m + n) → g ≡ max (b + (m + n)) (max (c + n) d) → o ≡ max (a + e) g → i ≤ a
    → max (max (max (max (0 + i) a + l) b + m) c + n) d ≡ o
all_heights a i b l c m d n e g k o x y z le = omega arith

all_levels : (i l m n e o : ℕ) → e ≡ l + (m + n) → o ≡ i + e → 0 + i + l + m + n ≡ o
all_levels i l m n e o x z = omega arith

-- nothing but what stands behind an operand
pub tails : (parts : Values) (p : NodeParts Form) → OfTail parts.first p.first → OfTail parts.second p.second → OfTail parts.third p.third
    → OfTail parts.fourth p.fourth
    → OfTail (values.Suffixes (all_suffixes parts)) (together p)
tails parts p i j k l =
    equal_to (all_is (only_tokens 0) p zero_is i j k l)
    (all_heights (at_least (suffixes_of parts.first)) (length (suffixes_of parts.first)) (at_least (suffixes_of parts.second)) (length (suffixes_of parts.second)) (at_least (suffixes_of parts.third))
    (length (suffixes_of parts.third)) (at_least (suffixes_of parts.fourth)) (length (suffixes_of parts.fourth)) (length (behind_one parts)) (at_least (behind_one parts)) 0 (at_least (all_suffixes parts)) (length_one parts)
    (least_one parts) (least_behind (suffixes_of parts.first) (behind_one parts)) (levels_least (suffixes_of parts.first)))
    (all_levels (length (suffixes_of parts.first)) (length (suffixes_of parts.second)) (length (suffixes_of parts.third)) (length (suffixes_of parts.fourth)) (length (behind_one parts)) (length (all_suffixes parts)) (length_one parts)
    (length_behind (suffixes_of parts.first) (behind_one parts))) none_nested

-- ---- nothing behind

plain_heights : (h : ℕ) → max (max (max (max (h + 0) 0 + 0) 0 + 0) 0 + 0) 0 ≡ h
plain_heights h = omega arith

plain_levels : (a : ℕ) → a + 0 + 0 + 0 + 0 ≡ a
plain_levels a = omega arith

pub alone0 : (f : Form) (p : NodeParts Form) {h a : ℕ} → IsForm f h a 0 → Flat p.first → Flat p.second → Flat p.third → Flat p.fourth
    → IsForm (all_in_order f p) h a 0
alone0 f p {h} {a} i j k l m = equal_to (all_is f p i j k l m) (plain_heights h) (plain_levels a) none_nested

pub alone1 : (f : Form) (p : NodeParts Form) {h a : ℕ} → IsForm f h a 0 → Flat p.second → Flat p.third → Flat p.fourth
    → IsForm (all_in_order f (rest p)) h a 0
alone1 f p i b c d = alone0 f (rest p) i b c d zero_is

pub alone2 : (f : Form) (p : NodeParts Form) {h a : ℕ} → IsForm f h a 0 → Flat p.third → Flat p.fourth → IsForm (all_in_order f (rest (rest p))) h a 0
alone2 f p i c d = alone0 f (rest (rest p)) i c d zero_is zero_is

-- ---- expressions

-- one level above the first part, and the same behind an operand
abbrev raised : NodeParts Form → Form
raised p = above kinds.Other (in_order (only_tokens 0) p.first)

abbrev lifted : NodeParts Form → Form
lifted p = suffix kinds.Other asks.Nothing (in_order (only_tokens 0) p.first)

pub operand : (parts : Values) (p : NodeParts Form) → IsExpr parts.first p.first → OfTail parts.second p.second → OfTail parts.third p.third
    → OfTail parts.fourth p.fourth
    → IsExpr (values.Expression (all_applied (expression_of parts.first) (behind_one parts))) (closed (together p))
operand parts p i j k l = (
  all_applied (expression_of parts.first) (behind_one parts),
  refl,
  equal_to (closed_is (first_tails parts p (expr_is parts.first p.first i) j k l)) (sym (applied_heights (expression_of parts.first) (behind_one parts))) refl refl,
)

named_heights : (at : ℕ) (x : List ℕ) (args : Option (List JavaExpr)) (ss : List PlainSuffix)
    → max (call_height args + length ss) (at_least ss) ≡ expr_height (all_applied (named at x args) ss)
named_heights at x args ss = sym (applied_heights (named at x args) ss ∙ ap (λ n. max (n + length ss) (at_least ss)) (named_height at x args))

pub name_operand : (at : ℕ) (x : List ℕ) (parts : Values) (p : NodeParts Form) → IsForm p.first (call_height (arguments_of parts.first)) 0 0
    → OfTail parts.second p.second → OfTail parts.third p.third
    → OfTail parts.fourth p.fourth
    → IsExpr (values.Expression (all_applied (named at x (arguments_of parts.first)) (behind_one parts))) (closed (together p))
name_operand at x parts p i j k l = (
  all_applied (named at x (arguments_of parts.first)) (behind_one parts),
  refl,
  equal_to (closed_is (first_tails parts p i j k l)) (named_heights at x (arguments_of parts.first) (behind_one parts)) refl refl,
)

pub name_effect : (parts : Values) (p : NodeParts Form) → IsForm p.first (call_height (arguments_of parts.first)) 0 0 → OfTail parts.second p.second
    → OfTail parts.third p.third
    → OfTail parts.fourth p.fourth → IsNameEffect (values.BehindName (arguments_of parts.first) (behind_one parts) []) (together p)
name_effect parts p i j k l = (arguments_of parts.first, behind_one parts, refl, first_tails parts p i j k l)

this_heights : (n a : ℕ) → n ≤ a → a ≡ max (0 + n) a
this_heights n a le = omega arith

pub this_operand : (at : ℕ) (parts : Values) (p : NodeParts Form) → OfTail parts.first p.first → OfTail parts.second p.second
    → OfTail parts.third p.third → OfTail parts.fourth p.fourth
    → IsExpr (values.Expression (all_applied (java.This at) (all_suffixes parts))) (closed (together p))
this_operand at parts p i j k l = (
  all_applied (java.This at) (all_suffixes parts),
  refl,
  equal_to (closed_is (tails parts p i j k l))
      (this_heights (length (all_suffixes parts)) (at_least (all_suffixes parts)) (levels_least (all_suffixes parts)) ∙ sym (applied_heights (java.This at) (all_suffixes parts))) refl refl,
)

pub inside_operand : (at : ℕ) (parts : Values) (p : NodeParts Form) → IsExpr parts.first p.first → OfTail parts.second p.second
    → OfTail parts.third p.third → OfTail parts.fourth p.fourth
    → IsExpr (values.Expression (all_applied (java.Parenthesized at (expression_of parts.first)) (behind_one parts))) (closed (all_in_order (raised p) (rest p)))
inside_operand at parts p i j k l = (
  all_applied (java.Parenthesized at (expression_of parts.first)) (behind_one parts),
  refl,
  equal_to (closed_is (rest_tails (raised p) parts p (raised_is (expr_is parts.first p.first i)) j k l)) (sym (applied_heights (java.Parenthesized at (expression_of parts.first)) (behind_one parts))) refl refl,
)

begun_is : (at : ℕ) (v : PlainValue) (f : Form) → IsStart v f → IsForm f (expr_height (begun_at at v)) 0 0
begun_is at v f (s, ss, is, i) =
    subst (λ x. IsForm f (expr_height (begun_at at x)) 0 0) (sym is)
    (equal_to i (ap (λ n. max (n + length ss) (at_least ss)) (sym (begun_height at s)) ∙ sym (applied_heights (begun at s) ss)) refl refl)

pub begun_operand : (at : ℕ) (parts : Values) (p : NodeParts Form) → IsStart parts.first p.first → Flat p.second → Flat p.third → Flat p.fourth
    → IsExpr (values.Expression (begun_at at parts.first)) (closed (together p))
begun_operand at parts p h b c d = (begun_at at parts.first, refl, closed_is (only1 p (begun_is at parts.first p.first h) b c d))

pub passed : (parts : Values) (p : NodeParts Form) → IsExpr parts.first p.first → Flat p.second → Flat p.third → Flat p.fourth
    → IsExpr parts.first (together p)
passed parts p (e, is, i) b c d = (e, is, only1 p i b c d)

pub literal : (e : JavaExpr) (p : NodeParts Form) → expr_height e ≡ 0 → Flat p.first → Flat p.second → Flat p.third → Flat p.fourth
    → IsExpr (values.Expression e) (closed (together p))
literal e p is a b c d = (e, refl, equal_to (closed_is (only1 p a b c d)) (sym is) refl refl)

-- `++` before an operand, and another operator
pub counted : (at : ℕ) (o : PrefixOperator) (parts : Values) (p : NodeParts Form) → IsExpr parts.first p.first
    → IsExpr (values.Expression (java.Prefix at o (expression_of parts.first))) (raised p)
counted at o parts p i = (java.Prefix at o (expression_of parts.first), refl, raised_is (expr_is parts.first p.first i))

pub prefixed : (at : ℕ) (o : PrefixOperator) (parts : Values) (p : NodeParts Form) → IsExpr parts.first p.first → Flat p.second → Flat p.third
    → Flat p.fourth
    → IsExpr (values.Expression (java.Prefix at o (expression_of parts.first))) (closed (all_in_order (raised p) (rest p)))
prefixed at o parts p i b c d = (java.Prefix at o (expression_of parts.first), refl, closed_is (alone1 (raised p) p (raised_is (expr_is parts.first p.first i)) b c d))

-- ---- one thing behind an operand

next_length : (n : ℕ) → 1 + n ≡ suc n
next_length n = omega arith

pub before : (s : PlainSuffix) (parts : Values) (p : NodeParts Form) → IsForm p.first (suffix_height s) 0 0 → OfTail parts.second p.second
    → OfTail parts.third p.third → OfTail parts.fourth p.fourth
    → OfTail (values.Suffixes (s ∷ behind_one parts)) (all_in_order (lifted p) (rest p))
before s parts p i j k l = equal_to (rest_tails (lifted p) parts p (lifted_is i) j k l) refl (next_length (length (behind_one parts))) refl

no_levels : (n : ℕ) → n ≡ max (n + 0) 0
no_levels n = omega arith

pub alone : (s : PlainSuffix) (p : NodeParts Form) → IsForm p.first (suffix_height s) 0 0 → Flat p.second → Flat p.third → Flat p.fourth
    → OfTail (values.Suffixes (s ∷ [])) (all_in_order (lifted p) (rest p))
alone s p i b c d = equal_to (alone1 (lifted p) p (lifted_is i) b c d) (no_levels (1 + suffix_height s)) refl refl

pub count : (s : PlainSuffix) (p : NodeParts Form) → suffix_height s ≡ 0 → Flat p.first → Flat p.second → Flat p.third → Flat p.fourth
    → OfTail (values.Suffixes (s ∷ [])) (all_in_order (suffix kinds.Other asks.Nothing (only_tokens 0)) p)
count s p is a b c d =
    equal_to (alone0 (suffix kinds.Other asks.Nothing (only_tokens 0)) p (suffix_is zero_is) a b c d) (no_levels (1 + 0) ∙ ap (λ n. max (1 + n + 0) 0) (sym is)) refl refl

choice_levels : (h k : ℕ) → 1 + max (max (0 + 0) h + 0) k ≡ max (1 + max h k + 0) 0
choice_levels h k = omega arith

pub choice : (a b : JavaExpr) (p : NodeParts Form) → IsForm p.first (expr_height a) 0 0 → IsForm p.second (expr_height b) 0 0 → Flat p.third
    → Flat p.fourth
    → OfTail (values.Suffixes (values.Choice a b ∷ [])) (all_in_order (suffix kinds.Other asks.Nothing (in_order (in_order (only_tokens 0) p.first) p.second)) (rest (rest p)))
choice a b p i j c d =
    equal_to
    (alone2 (suffix kinds.Other asks.Nothing (in_order (in_order (only_tokens 0) p.first) p.second)) p (equal_to (suffix_is (order_is (order_is zero_is i) j)) refl refl no_nesting) c d)
    (choice_levels (expr_height a) (expr_height b)) refl refl
  where
    no_nesting : max (max 0 0) 0 ≡ 0
    no_nesting = omega arith

member_heights : (s c m a n d e g : ℕ) → 1 + s ≡ max 1 c → e ≡ m + n → g ≡ max (a + n) d
    → max (max (max (max (1 + 0 + 0) c + m) a + n) d + 0) 0 ≡ max (1 + s + e) g
member_heights s c m a n d e g x y z = omega arith

member_length : (m n e : ℕ) → e ≡ m + n → 1 + 0 + m + n + 0 ≡ suc e
member_length m n e x = omega arith

pub member : (parts : Values) (p : NodeParts Form) → Flat p.first → IsForm p.second (call_height (arguments_of parts.second)) 0 0
    → OfTail parts.third p.third → OfTail parts.fourth p.fourth
    → OfTail (values.Suffixes (joined (name_of parts.first) (arguments_of parts.second) ∷ behind_two parts)) (all_in_order (lifted p) (rest p))
member parts p i j k l =
    equal_to (all_is (lifted p) (rest p) (lifted_is i) j k l zero_is)
    (member_heights (suffix_height (joined (name_of parts.first) (arguments_of parts.second))) (call_height (arguments_of parts.second)) (length (suffixes_of parts.third)) (at_least (suffixes_of parts.third))
    (length (suffixes_of parts.fourth)) (at_least (suffixes_of parts.fourth)) (length (behind_two parts)) (at_least (behind_two parts)) (joined_height (name_of parts.first) (arguments_of parts.second))
    (length_behind (suffixes_of parts.third) (suffixes_of parts.fourth)) (least_behind (suffixes_of parts.third) (suffixes_of parts.fourth)))
    (member_length (length (suffixes_of parts.third)) (length (suffixes_of parts.fourth)) (length (behind_two parts)) (length_behind (suffixes_of parts.third) (suffixes_of parts.fourth))) none_nested

-- ---- what begins in parentheses or behind `new`

started : (v : PlainValue) (f : Form) (s : PlainStart) → v ≡ values.Started s [] → IsForm f (start_height s) 0 0 → IsStart v f
started v f s is i = (s, [], is, equal_to i (no_levels (start_height s)) refl refl)

abbrev closed_rest : NodeParts Form → Form
closed_rest p = closed (all_in_order (raised p) (rest p))

pub cast_is : (t : PlainWritten) (parts : Values) (p : NodeParts Form) → IsExpr parts.first p.first → Flat p.second → Flat p.third → Flat p.fourth
    → IsStart (values.Started (values.Cast t (expression_of parts.first)) []) (closed_rest p)
cast_is t parts p i b c d =
    started (values.Started (values.Cast t (expression_of parts.first)) []) (closed_rest p) (values.Cast t (expression_of parts.first)) refl
    (closed_is (alone1 (raised p) p (raised_is (expr_is parts.first p.first i)) b c d))

pub int_cast_is : (ts : List PlainLexeme) (parts : Values) (p : NodeParts Form) → IsIntCast parts.first p.first → Flat p.second → Flat p.third
    → Flat p.fourth
    → IsStart (int_cast ts parts.first) (closed_rest p)
int_cast_is ts parts p (inl (e, is, i)) b c d =
    started (int_cast ts parts.first) (closed_rest p) (values.Cast (type_at ts IntType) e) (ap (int_cast ts) is) (closed_is (alone1 (raised p) p (raised_is i) b c d))
int_cast_is ts parts p (inr (e, is, i)) b c d =
    started (int_cast ts parts.first) (closed_rest p) (values.Cast (type_at ts IntArrayType) e) (ap (int_cast ts) is) (closed_is (alone1 (raised p) p (raised_is i) b c d))

pub cast_operand_is : (parts : Values) (p : NodeParts Form) → IsExpr parts.first p.first → IsBehindParenthesis parts.first (raised p)
cast_operand_is parts p (e, is, i) = inl (e, is, raised_is i)

pub suffixes_there : (parts : Values) (p : NodeParts Form) → OfTail parts.first p.first → OfTail parts.second p.second → OfTail parts.third p.third
    → OfTail parts.fourth p.fourth
    → IsBehindParenthesis (values.Suffixes (all_suffixes parts)) (together p)
suffixes_there parts p i j k l = inr (all_suffixes parts, refl, tails parts p i j k l)

abbrev IsCast : PlainValue → JavaExpr → Type 0
IsCast w e = (d : JavaExpr) → w ≡ values.Expression d → (at : ℕ) × (x : List ℕ) × (e ≡ java.Name at x)

cast_levels : (e d : ℕ) → e ≡ 0 → max (max (max (max (1 + e + 0) (1 + d) + 0) 0 + 0) 0 + 0) 0 ≡ max (1 + d + 0) 0
cast_levels e d is = omega arith

inside_levels : (e l a : ℕ) → max (max (max (max (1 + e + l) a + 0) 0 + 0) 0 + 0) 0 ≡ max (1 + e + l) a
inside_levels e l a = omega arith

pub parenthesis_is : (parts : Values) (p : NodeParts Form) → IsExpr parts.first p.first → IsBehindParenthesis parts.second p.second → Flat p.third
    → Flat p.fourth
    → IsCast parts.second (expression_of parts.first) → IsStart (parenthesis (expression_of parts.first) parts.second) (closed_rest p)
parenthesis_is parts p h (inl (d, is, i)) c g q =
    let (at, x, name) = q d is in (
      values.Cast (class_type (expression_of parts.first)) d,
      [],
      ap (parenthesis (expression_of parts.first)) is,
      equal_to (closed_is (all_is (raised p) (rest p) (raised_is (expr_is parts.first p.first h)) i c g zero_is))
          (cast_levels (expr_height (expression_of parts.first)) (expr_height d) (ap expr_height name)) refl none_nested,
    )
parenthesis_is parts p h (inr (ss, is, i)) c g q = (
  values.Inside (expression_of parts.first),
  ss,
  ap (parenthesis (expression_of parts.first)) is,
  equal_to (closed_is (all_is (raised p) (rest p) (raised_is (expr_is parts.first p.first h)) i c g zero_is))
      (inside_levels (expr_height (expression_of parts.first)) (length ss) (at_least ss)) refl none_nested,
)

pub array_is : (parts : Values) (p : NodeParts Form) → IsExpr parts.first p.first → OfTail parts.second p.second → OfTail parts.third p.third
    → OfTail parts.fourth p.fourth
    → IsStart (values.Started (values.Array (expression_of parts.first)) (behind_one parts)) (closed_rest p)
array_is parts p i j k l =
    (values.Array (expression_of parts.first), behind_one parts, refl, closed_is (rest_tails (raised p) parts p (raised_is (expr_is parts.first p.first i)) j k l))

second_level : (k : ℕ) → 1 + max (max (0 + 0) 0 + 0) k ≡ 1 + k
second_level k = omega arith

pub object_is : (parts : Values) (p : NodeParts Form) → Flat p.first → AreExprs parts.second p.second → OfTail parts.third p.third
    → OfTail parts.fourth p.fourth
    → IsStart (values.Started (values.Object (name_of parts.first) (expressions_of parts.second)) (behind_two parts))
    (closed (all_in_order (above kinds.Other (in_order (in_order (only_tokens 0) p.first) p.second)) (rest (rest p))))
object_is parts p i j k l = (
  values.Object (name_of parts.first) (expressions_of parts.second),
  behind_two parts,
  refl,
  closed_is
      (two_tails (above kinds.Other (in_order (in_order (only_tokens 0) p.first) p.second)) parts p
      (equal_to (above_is (order_is (order_is zero_is i) (exprs_is parts.second p.second j))) (second_level (exprs_height (java_exprs (expressions_of parts.second)))) refl no_nesting) k l),
)
  where
    no_nesting : max (max 0 0) 0 ≡ 0
    no_nesting = omega arith

-- ---- arguments

pub arguments_more : (parts : Values) (p : NodeParts Form) → IsExpr parts.first p.first → AreExprs parts.second p.second → Flat p.third
    → Flat p.fourth
    → AreExprs (values.Expressions (expression_of parts.first ∷ expressions_of parts.second)) (together p)
arguments_more parts p h k c d = (
  expression_of parts.first ∷ expressions_of parts.second,
  refl,
  equal_to (both_is p (expr_is parts.first p.first h) (exprs_is parts.second p.second k) c d) refl refl none_twice,
)
  where
    none_twice : max 0 0 ≡ 0
    none_twice = omega arith

pub called : (parts : Values) (p : NodeParts Form) → AreExprs parts.first p.first → Flat p.second → Flat p.third → Flat p.fourth
    → IsForm (closed_rest p) (call_height (arguments_of parts.first)) 0 0
called parts p (es, is, i) b c d = subst (λ v. IsForm (closed_rest p) (call_height (arguments_of v)) 0 0) (sym is) (closed_is (alone1 (raised p) p (raised_is i) b c d))

-- ---- variables

variable_heights : (o v : ℕ) → max (max (max 0 o) v) 0 ≡ max o v
variable_heights o v = omega arith

typed_heights : (o v : ℕ) → max (max (max 0 0) o) v ≡ max o v
typed_heights o v = omega arith

none_flat : max (max (max 0 0) 0) 0 ≡ 0
none_flat = omega arith

-- behind a name that is the first part, or the second
pub variables1 : (parts : Values) (p : NodeParts Form) → Flat p.first → OfOptional parts.second p.second → AreVariables parts.third p.third
    → Flat p.fourth
    → IsForm (together p) (declarators_height (variables parts.first parts.second parts.third)) 0 0
variables1 parts p a b c d =
    equal_to (flats_is p a b (variables_is parts.third p.third c) d) (variable_heights (some_height (some_expression parts.second)) (declarators_height (variables_of parts.third))) refl none_flat

pub variables2 : (parts : Values) (p : NodeParts Form) → Flat p.first → Flat p.second → OfOptional parts.third p.third
    → AreVariables parts.fourth p.fourth
    → IsForm (together p) (declarators_height (variables parts.second parts.third parts.fourth)) 0 0
variables2 parts p a b c d =
    equal_to (flats_is p a b c (variables_is parts.fourth p.fourth d)) (typed_heights (some_height (some_expression parts.third)) (declarators_height (variables_of parts.fourth))) refl none_flat

-- ---- statements that begin with a name

pub labelled : (parts : Values) (p : NodeParts Form) → IsStatement parts.first p.first → Flat p.second → Flat p.third → Flat p.fourth
    → IsBehindStatementName parts.first (nested (together p))
labelled parts p (s, is, i) b c d = (
  highest_in_stmt s,
  0,
  1 + stmt_height s,
  nested_is (only1 p i b c d),
  none_below (highest_in_stmt s),
  λ at x. sym (ap (λ v. highest_in_stmt (named_statement at x v)) is),
  λ at x. sym (ap (λ v. stmt_height (named_statement at x v)) is),
)
  where
    none_below : (n : ℕ) → 0 ≤ n
    none_below n = omega arith

not_below : (n : ℕ) → 0 ≤ n
not_below n = omega arith

pub local_behind : (parts : Values) (p : NodeParts Form) → AreVariables parts.first p.first → Flat p.second → Flat p.third → Flat p.fourth
    → IsBehindStatementName parts.first (together p)
local_behind parts p (ds, is, i) b c d = (
  declarators_height ds,
  0,
  0,
  only1 p i b c d,
  not_below (declarators_height ds),
  λ at x. sym (ap (λ v. highest_in_stmt (named_statement at x v)) is),
  λ at x. sym (ap (λ v. stmt_height (named_statement at x v)) is),
)

effect_first : (h a : ℕ) → a ≤ h → max (max (max (max (0 + a) h + 0) 0 + 0) 0 + 0) 0 ≡ h
effect_first h a le = omega arith

effect_levels : (a : ℕ) → 0 + a + 0 + 0 + 0 ≡ a
effect_levels a = omega arith

levels_within : (c l a : ℕ) → l ≤ max (c + l) a
levels_within c l a = omega arith

pub effect_behind : (parts : Values) (p : NodeParts Form) → IsNameEffect parts.first p.first → Flat p.second → Flat p.third → Flat p.fourth
    → IsBehindStatementName parts.first (together p)
effect_behind parts p (args, ss, is, i) b c d = (
  max (call_height args + length ss) (at_least ss),
  length ss,
  0,
  equal_to (all_is (only_tokens 0) p zero_is i b c d) (effect_first (max (call_height args + length ss) (at_least ss)) (length ss) (levels_within (call_height args) (length ss) (at_least ss)))
      (effect_levels (length ss)) none_nested,
  levels_within (call_height args) (length ss) (at_least ss),
  λ at x. named_heights at x args ss ∙ sym (ap (λ v. highest_in_stmt (named_statement at x v)) is),
  λ at x. sym (ap (λ v. stmt_height (named_statement at x v)) is),
)

pub named_stmt : (at : ℕ) (x : List ℕ) (parts : Values) (p : NodeParts Form) → IsBehindStatementName parts.first p.first → Flat p.second
    → Flat p.third → Flat p.fourth
    → IsStatement (values.Statement (named_statement at x parts.first)) (closed (together p))
named_stmt at x parts p (h, a, s, i, le, same, nests) b c d = (
  named_statement at x parts.first,
  refl,
  equal_to (closed_is (all_is (only_tokens 0) p zero_is i b c d)) (effect_first h a le ∙ same at x) refl (first_nesting s ∙ nests at x),
)

pub effect_named : (at : ℕ) (x : List ℕ) (parts : Values) (p : NodeParts Form) → IsNameEffect parts.first p.first → Flat p.second → Flat p.third
    → Flat p.fourth
    → IsExpr (values.Expression (effect_of_name at x parts.first)) (closed (together p))
effect_named at x parts p (args, ss, is, i) b c d = (
  effect_of_name at x parts.first,
  refl,
  equal_to (closed_is (all_is (only_tokens 0) p zero_is i b c d))
      (effect_first (max (call_height args + length ss) (at_least ss)) (length ss) (levels_within (call_height args) (length ss) (at_least ss))
      ∙ named_heights at x args ss
      ∙ sym (ap (λ v. expr_height (effect_of_name at x v)) is)) refl none_nested,
)

-- ---- what a `for` begins with

pub start_variables : (parts : Values) (p : NodeParts Form) → AreVariables parts.first p.first → Flat p.second → Flat p.third → Flat p.fourth
    → IsBehindStartName parts.first (together p)
start_variables parts p (ds, is, i) b c d =
    (declarators_height ds, 0, only1 p i b c d, not_below (declarators_height ds), λ at x. sym (ap (λ v. for_start_height (named_start at x v)) is))

effects_heights : (c l a k : ℕ) → max (max (max (max (0 + l) (max (c + l) a) + 0) k + 0) 0 + 0) 0 ≡ max (max (c + l) a) k
effects_heights c l a k = omega arith

levels_before : (c l a k : ℕ) → l ≤ max (max (c + l) a) k
levels_before c l a k = omega arith

pub start_effects : (parts : Values) (p : NodeParts Form) → IsNameEffect parts.first p.first → AreExprs parts.second p.second → Flat p.third
    → Flat p.fourth
    → IsBehindStartName (with_effects parts.first (expressions_of parts.second)) (together p)
start_effects parts p (args, ss, is, i) j c d = (
  max (max (call_height args + length ss) (at_least ss)) (exprs_height (java_exprs (expressions_of parts.second))),
  length ss,
  equal_to (all_is (only_tokens 0) p zero_is i (exprs_is parts.second p.second j) c d)
      (effects_heights (call_height args) (length ss) (at_least ss) (exprs_height (java_exprs (expressions_of parts.second)))) (effect_levels (length ss)) none_nested,
  levels_before (call_height args) (length ss) (at_least ss) (exprs_height (java_exprs (expressions_of parts.second))),
  λ at x. ap (λ n. max n (exprs_height (java_exprs (expressions_of parts.second)))) (named_heights at x args ss)
      ∙ sym (ap (λ v. for_start_height (named_start at x (with_effects v (expressions_of parts.second)))) is),
)

pub named_start_is : (at : ℕ) (x : List ℕ) (parts : Values) (p : NodeParts Form) → IsBehindStartName parts.first p.first → Flat p.second
    → Flat p.third → Flat p.fourth
    → IsForm (closed (together p)) (for_start_height (named_start at x parts.first)) 0 0
named_start_is at x parts p (h, a, i, le, same) b c d =
    equal_to (closed_is (all_is (only_tokens 0) p zero_is i b c d)) (effect_first h a le ∙ same at x) refl none_nested

pub effects_start : (parts : Values) (p : NodeParts Form) → IsExpr parts.first p.first → AreExprs parts.second p.second → Flat p.third → Flat p.fourth
    → IsForm (together p) (max (expr_height (expression_of parts.first)) (exprs_height (java_exprs (expressions_of parts.second)))) 0 0
effects_start parts p i j c d = equal_to (both_is p (expr_is parts.first p.first i) (exprs_is parts.second p.second j) c d) refl refl none_twice
  where
    none_twice : max 0 0 ≡ 0
    none_twice = omega arith

-- ---- statements

pub statement_passed : (parts : Values) (p : NodeParts Form) → IsStatement parts.first p.first → Flat p.second → Flat p.third → Flat p.fourth
    → IsStatement parts.first (together p)
statement_passed parts p (s, is, i) b c d = (s, is, only1 p i b c d)

pub annotated_is : (block : PlainSpecBlock) (parts : Values) (p : NodeParts Form) → IsStatement parts.first p.first → Flat p.second → Flat p.third
    → Flat p.fourth
    → IsStatement (values.Statement (annotated block (statement_of parts.first))) (together p)
annotated_is block parts p i b c d = (
  annotated block (statement_of parts.first),
  refl,
  equal_to (only1 p (statement_is parts.first p.first i) b c d) (sym (annotated_highest block (statement_of parts.first))) refl (sym (annotated_height block (statement_of parts.first))),
)

pub labelled_is : (at : ℕ) (x : List ℕ) (parts : Values) (p : NodeParts Form) → IsStatement parts.first p.first → Flat p.second → Flat p.third
    → Flat p.fourth
    → IsStatement (values.Statement (java.Label at None x (statement_of parts.first))) (nested (together p))
labelled_is at x parts p i b c d = (java.Label at None x (statement_of parts.first), refl, nested_is (only1 p (statement_is parts.first p.first i) b c d))

if_heights : (c s t n : ℕ) → max c (max s t) ≡ n → max (max (max c s) t) 0 ≡ n
if_heights c s t n is = omega arith

if_nesting : (s t n : ℕ) → 1 + max s t ≡ n → 1 + max (max (max 0 s) t) 0 ≡ n
if_nesting s t n is = omega arith

pub if_is : (at : ℕ) (parts : Values) (p : NodeParts Form) → IsExpr parts.first p.first → IsStatement parts.second p.second
    → OfStatement parts.third p.third → Flat p.fourth
    → IsStatement (values.Statement (if_statement at (expression_of parts.first) (statement_of parts.second) (some_statement parts.third))) (nested (together p))
if_is at parts p i j k d = (
  if_statement at (expression_of parts.first) (statement_of parts.second) (some_statement parts.third),
  refl,
  equal_to (nested_is (flats_is p (expr_is parts.first p.first i) (statement_is parts.second p.second j) k d))
      (if_heights (expr_height (expression_of parts.first)) (highest_in_stmt (statement_of parts.second)) (highest_in_stmt (statement_of parts.third))
      (highest_in_stmt (if_statement at (expression_of parts.first) (statement_of parts.second) (some_statement parts.third)))
      (if_highest at (expression_of parts.first) (statement_of parts.second) parts.third))
      refl
      (if_nesting (stmt_height (statement_of parts.second)) (stmt_height (statement_of parts.third))
      (stmt_height (if_statement at (expression_of parts.first) (statement_of parts.second) (some_statement parts.third)))
      (if_height at (expression_of parts.first) (statement_of parts.second) parts.third)),
)

loop_nesting : (s : ℕ) → 1 + max 0 s ≡ 1 + s
loop_nesting s = omega arith

pub while_is : (at : ℕ) (parts : Values) (p : NodeParts Form) → IsExpr parts.first p.first → IsStatement parts.second p.second → Flat p.third
    → Flat p.fourth
    → IsStatement (values.Statement (java.While at None (expression_of parts.first) (statement_of parts.second))) (nested (together p))
while_is at parts p i j c d = (
  java.While at None (expression_of parts.first) (statement_of parts.second),
  refl,
  equal_to (nested_is (both_is p (expr_is parts.first p.first i) (statement_is parts.second p.second j) c d)) refl refl (loop_nesting (stmt_height (statement_of parts.second))),
)

for_heights : (a b c d : ℕ) → max (max (max a b) c) d ≡ max a (max b (max c d))
for_heights a b c d = omega arith

for_nesting : (s : ℕ) → 1 + max (max (max 0 0) 0) s ≡ 1 + s
for_nesting s = omega arith

pub for_is : (at : ℕ) (parts : Values) (p : NodeParts Form) → IsForm p.first (for_start_height (start_of parts.first)) 0 0
    → OfOptional parts.second p.second → AreExprs parts.third p.third
    → IsStatement parts.fourth p.fourth
    → IsStatement (values.Statement (java.For at None (start_of parts.first) (some_expression parts.second) (expressions_of parts.third) (statement_of parts.fourth))) (nested (together p))
for_is at parts p i j k l = (
  java.For at None (start_of parts.first) (some_expression parts.second) (expressions_of parts.third) (statement_of parts.fourth),
  refl,
  equal_to (nested_is (flats_is p i j (exprs_is parts.third p.third k) (statement_is parts.fourth p.fourth l)))
      (for_heights (for_start_height (start_of parts.first)) (some_height (some_expression parts.second)) (exprs_height (java_exprs (expressions_of parts.third))) (highest_in_stmt (statement_of parts.fourth)))
      refl (for_nesting (stmt_height (statement_of parts.fourth))),
)

-- one before others in a block
first_statement : (k s l t : ℕ) → max (max (max (max 0 (1 + s)) t) 0) 0 ≡ max (1 + s) t
first_statement k s l t = omega arith

two_flat : (k l : ℕ) → max (max (max (max (0 + 0) k + 0) l + 0) 0 + 0) 0 ≡ max k l
two_flat k l = omega arith

abbrev in_block : NodeParts Form → Form
in_block p = all_in_order (only_tokens 0) (record p { first = nested p.first })

in_block_is : (p : NodeParts Form) {h s k t : ℕ} → IsForm p.first h 0 s → IsForm p.second k 0 t → Flat p.third → Flat p.fourth
    → IsForm (in_block p) (max h k) 0 (max (1 + s) t)
in_block_is p {h} {s} {k} {t} i j c d =
    equal_to (all_is (only_tokens 0) (record p { first = nested p.first }) zero_is (nested_is i) j c d) (two_flat h k) refl (first_statement h s k t)

pub statements_is : (parts : Values) (p : NodeParts Form) → IsStatement parts.first p.first → OfStatements parts.second p.second → Flat p.third
    → Flat p.fourth
    → OfStatements (values.Statements (statement_of parts.first ∷ statements_of parts.second)) (in_block p)
statements_is parts p i j c d = in_block_is p (statement_is parts.first p.first i) j c d

pub super_is : (at : ℕ) (parts : Values) (p : NodeParts Form) → AreExprs parts.first p.first → OfStatements parts.second p.second → Flat p.third
    → Flat p.fourth
    → OfStatements (values.Statements (java.Super at (expressions_of parts.first) ∷ statements_of parts.second)) (in_block p)
super_is at parts p i j c d = in_block_is p (exprs_is parts.first p.first i) j c d

-- ---- `try`

pub try_is : (at : ℕ) (parts : Values) (p : NodeParts Form) → OfStatements parts.first p.first → IsRescue parts.second p.second → Flat p.third
    → Flat p.fourth
    → IsStatement (values.Statement (rescued at (statements_of parts.first) parts.second)) (nested (together p))
try_is at parts p i (hs, o, is, j) c d = (
  rescued at (statements_of parts.first) parts.second,
  refl,
  equal_to (nested_is (both_is p i j c d))
      (try_highest at (statements_of parts.first) hs o ∙ sym (ap (λ v. highest_in_stmt (rescued at (statements_of parts.first) v)) is))
      refl
      (try_height at (statements_of parts.first) hs o ∙ sym (ap (λ v. stmt_height (rescued at (statements_of parts.first) v)) is)),
)

rescue_heights : (a b c h o : ℕ) → h ≡ max a b → c ≡ o → max (max (max a b) c) 0 ≡ max h o
rescue_heights a b c h o x y = omega arith

pub rescue_is : (parts : Values) (p : NodeParts Form) → OfHandlers parts.first p.first → OfHandlers parts.second p.second
    → OfStatements parts.third p.third → Flat p.fourth
    → IsRescue (values.Rescue (handlers_of parts.first ++ handlers_of parts.second) (some_statements parts.third)) (together p)
rescue_is parts p i j k d = (
  handlers_of parts.first ++ handlers_of parts.second,
  some_statements parts.third,
  refl,
  equal_to (flats_is p i j k d)
      (rescue_heights (highest_in_handlers (java_handlers (handlers_of parts.first))) (highest_in_handlers (java_handlers (handlers_of parts.second))) (highest_in_stmts (java_stmts (statements_of parts.third)))
      (highest_in_handlers (java_handlers (handlers_of parts.first ++ handlers_of parts.second))) (highest_in_some (some_statements parts.third))
      (handlers_highest (handlers_of parts.first) (handlers_of parts.second)) (some_highest parts.third))
      refl
      (rescue_heights (handlers_height (java_handlers (handlers_of parts.first))) (handlers_height (java_handlers (handlers_of parts.second))) (stmts_height (java_stmts (statements_of parts.third)))
      (handlers_height (java_handlers (handlers_of parts.first ++ handlers_of parts.second))) (some_stmts_height (some_statements parts.third))
      (handlers_behind (handlers_of parts.first) (handlers_of parts.second)) (some_height_is parts.third)),
)

finally_heights : (n o : ℕ) → n ≡ o → n ≡ max 0 o
finally_heights n o e = omega arith

pub finally_is : (parts : Values) (p : NodeParts Form) → OfStatements parts.first p.first → Flat p.second → Flat p.third → Flat p.fourth
    → IsRescue (values.Rescue [] (some_statements parts.first)) (together p)
finally_is parts p i b c d = (
  [],
  some_statements parts.first,
  refl,
  equal_to (only1 p i b c d) (finally_heights (highest_in_stmts (java_stmts (statements_of parts.first))) (highest_in_some (some_statements parts.first)) (some_highest parts.first)) refl
      (finally_heights (stmts_height (java_stmts (statements_of parts.first))) (some_stmts_height (some_statements parts.first)) (some_height_is parts.first)),
)

pub handlers_is : (parts : Values) (p : NodeParts Form) → OfHandlers parts.first p.first → OfHandlers parts.second p.second → Flat p.third
    → Flat p.fourth
    → OfHandlers (values.Handlers (handlers_of parts.first ++ handlers_of parts.second)) (together p)
handlers_is parts p i j c d =
    equal_to (both_is p i j c d) (sym (handlers_highest (handlers_of parts.first) (handlers_of parts.second))) refl (sym (handlers_behind (handlers_of parts.first) (handlers_of parts.second)))

-- one alone in a list
pub single_is : {m n o h a s : ℕ} → Is m n o h a s → Is m n o (max h 0) a (max s 0)
single_is {m} {n} {o} {h} {a} {s} i = equal_to i (alone_max h) refl (alone_max s)
  where
    alone_max : (k : ℕ) → k ≡ max k 0
    alone_max k = omega arith
