-- Expressions, without places.
use Rattle.std.proofs.Common.{◌≡◌, ℕ, List, [], ◌∷◌, map, Option, Some, None, option_map, refl, ap, ◌∙◌}
use Rattle.std.proofs.lemmas.List.{map-append}
use Rattle.jd_grammar.specs.declared.piles.NodeParts.{NodeParts}
use Rattle.jd_jml_tokens.specs.Lexemes.{PlainLexeme, place_of}
use Rattle.jd_syntax.specs.JavaTypes.{PlainIdentifier, PlainType, IntType, BooleanType, IntArrayType}
use Rattle.jd_syntax.specs.SpecTrees as jml
use Rattle.jd_syntax.specs.SpecTrees.{PlainSpec, PlainSpecType, specs_of}
use Rattle.jd_syntax.specs.declared.spec.Quantifier.{Quantifier}
use Rattle.jd_jml_values.specs.Values as values
use Rattle.jd_jml_values.specs.Values.{PlainSuffix, PlainStart, PlainValue}
use Rattle.jd_jml_values.specs.Heads.{type_at, int_type}
use Rattle.jd_jml_values.specs.Parts.{expression_of, some_expression, suffixes_of, expressions_of, arguments_of, name_of, type_of, bound_type_of, is_dimension}
use Rattle.jd_jml_expressions.specs.Applying.{at_of, applied, all_applied, named, joined, begun, class_type, quantified, halves, sum}
use Rattle.jd_jml_expressions.specs.Meaning.{begun_at, parenthesis, int_cast, followed, class_of, meaning}
use Rattle.jd_jml_expressions.specs.declared.action.Action.{Action}
use Rattle.jd_jml_expressions.specs.declared.action.Action.TheVariants as actions
use Rattle.jd_jml_places.specs.Unplaced.{unplaced_name, unplaced_written, unplaced_type, unplaced_spec, unplaced_specs}
use Rattle.jd_jml_places.proofs.Values.{two, three, four, unplaced_suffix, unplaced_suffixes, unplaced_start, unplaced_value, unplaced_parts, unplaced, place_apart, text_apart, number_apart}

-- ---- what a value is as a part

pub expression_apart : (v : PlainValue) → unplaced_spec (expression_of v) ≡ expression_of (unplaced_value v)
expression_apart (values.Expression e) = refl
expression_apart _ = refl

pub some_expression_apart : (v : PlainValue) → option_map unplaced_spec (some_expression v) ≡ some_expression (unplaced_value v)
some_expression_apart (values.Expression e) = refl
some_expression_apart _ = refl

pub suffixes_apart : (v : PlainValue) → unplaced_suffixes (suffixes_of v) ≡ suffixes_of (unplaced_value v)
suffixes_apart (values.Suffixes ss) = refl
suffixes_apart _ = refl

pub expressions_apart : (v : PlainValue) → map unplaced_spec (expressions_of v) ≡ expressions_of (unplaced_value v)
expressions_apart (values.Expressions es) = refl
expressions_apart _ = refl

pub arguments_apart : (v : PlainValue) → option_map (map unplaced_spec) (arguments_of v) ≡ arguments_of (unplaced_value v)
arguments_apart (values.Expressions es) = refl
arguments_apart _ = refl

pub name_apart : (v : PlainValue) → unplaced_name (name_of v) ≡ name_of (unplaced_value v)
name_apart (values.Named x) = refl
name_apart _ = refl

pub type_apart : (v : PlainValue) → unplaced_written (type_of v) ≡ type_of (unplaced_value v)
type_apart (values.Typed t) = refl
type_apart _ = refl

bound_type_apart : (v : PlainValue) → unplaced_type (bound_type_of v) ≡ bound_type_of (unplaced_value v)
bound_type_apart (values.Typed t) = refl
bound_type_apart _ = refl

dimension_apart : (v : PlainValue) → is_dimension v ≡ is_dimension (unplaced_value v)
dimension_apart values.Dimension = refl
dimension_apart _ = refl

-- ---- operands with what stands behind them

pub specs_apart : (es : List PlainSpec) → unplaced_specs (specs_of es) ≡ specs_of (map unplaced_spec es)
specs_apart [] = refl
specs_apart (e ∷ es) = ap (jml.SpecThen (unplaced_spec e)) (specs_apart es)

at_apart : (e : PlainSpec) → 0 ≡ at_of (unplaced_spec e)
at_apart (jml.Integer at n) = refl
at_apart _ = refl

applied_apart : (e : PlainSpec) (s : PlainSuffix) → unplaced_spec (applied e s) ≡ applied (unplaced_spec e) (unplaced_suffix s)
applied_apart e (values.Infix o r) = ap (λ at. jml.Infix at o (unplaced_spec e) (unplaced_spec r)) (at_apart e)
applied_apart e (values.InstanceOf t) = ap (λ at. jml.InstanceOf at (unplaced_spec e) (unplaced_written t)) (at_apart e)
applied_apart e (values.Choice a b) = ap (λ at. jml.Conditional at (unplaced_spec e) (unplaced_spec a) (unplaced_spec b)) (at_apart e)
applied_apart e (values.Implies r) = ap (λ at. jml.Implies at (unplaced_spec e) (unplaced_spec r)) (at_apart e)
applied_apart e (values.Equivalent r) = ap (λ at. jml.Equivalent at (unplaced_spec e) (unplaced_spec r)) (at_apart e)
applied_apart e (values.Member x) = ap (λ at. jml.Field at (unplaced_spec e) (unplaced_name x)) (at_apart e)
applied_apart e (values.Method x es) = two (λ at fs. jml.MethodCall at (unplaced_spec e) (unplaced_name x) fs) (at_apart e) (specs_apart es)
applied_apart e (values.Element i) = ap (λ at. jml.Index at (unplaced_spec e) (unplaced_spec i)) (at_apart e)

pub all_applied_apart : (e : PlainSpec) (ss : List PlainSuffix) → unplaced_spec (all_applied e ss) ≡ all_applied (unplaced_spec e) (unplaced_suffixes ss)
all_applied_apart e [] = refl
all_applied_apart e (s ∷ ss) = all_applied_apart (applied e s) ss ∙ ap (λ x. all_applied x (unplaced_suffixes ss)) (applied_apart e s)

-- the same of an operand and of what stands behind it that are known without places
pub all_applied_to : (e d : PlainSpec) (ss us : List PlainSuffix) → unplaced_spec e ≡ d → unplaced_suffixes ss ≡ us → unplaced_spec (all_applied e ss) ≡ all_applied d us
all_applied_to e d ss us x y = all_applied_apart e ss ∙ two all_applied x y

pub named_apart : (x : PlainIdentifier) (es : Option (List PlainSpec)) → unplaced_spec (named x es) ≡ named (unplaced_name x) (option_map (map unplaced_spec) es)
named_apart x None = refl
named_apart x (Some es) = ap (jml.Call 0 x.name) (specs_apart es)

joined_apart : (x : PlainIdentifier) (es : Option (List PlainSpec)) → unplaced_suffix (joined x es) ≡ joined (unplaced_name x) (option_map (map unplaced_spec) es)
joined_apart x None = refl
joined_apart x (Some es) = refl

begun_apart : (at : ℕ) (s : PlainStart) → unplaced_spec (begun at s) ≡ begun 0 (unplaced_start s)
begun_apart at (values.Inside e) = refl
begun_apart at (values.Cast t e) = refl
begun_apart at (values.Quantified q t x e) = refl
begun_apart at (values.QuantifiedIn q t x r e) = refl
begun_apart at (values.Sum x a b e) = refl

class_type_apart : (e : PlainSpec) → unplaced_written (class_type e) ≡ class_type (unplaced_spec e)
class_type_apart (jml.Name at x) = refl
class_type_apart _ = refl

quantified_apart : (q : Quantifier) (t : PlainSpecType) (x : PlainIdentifier) (e : PlainSpec) (r : Option PlainSpec)
    → unplaced_start (quantified q t x e r) ≡ quantified q (unplaced_type t) (unplaced_name x) (unplaced_spec e) (option_map unplaced_spec r)
quantified_apart q t x e None = refl
quantified_apart q t x e (Some r) = refl

abbrev both : PlainSpec × PlainSpec → PlainSpec × PlainSpec
both p = (unplaced_spec p.0, unplaced_spec p.1)

halves_apart : (e : PlainSpec) → both (halves e) ≡ halves (unplaced_spec e)
halves_apart (jml.Infix at o a b) = refl
halves_apart _ = refl

sum_apart : (x : PlainIdentifier) (r e : PlainSpec) → unplaced_start (sum x r e) ≡ sum (unplaced_name x) (unplaced_spec r) (unplaced_spec e)
sum_apart x r e =
    two (λ a b. values.Sum (unplaced_name x) a b (unplaced_spec e))
    (ap (λ (p : PlainSpec × PlainSpec). p.0) (halves_apart (halves r).0) ∙ ap (λ (p : PlainSpec × PlainSpec). (halves p.0).0) (halves_apart r))
    (ap (λ (p : PlainSpec × PlainSpec). p.1) (halves_apart (halves r).1) ∙ ap (λ (p : PlainSpec × PlainSpec). (halves p.1).1) (halves_apart r))

-- ---- by what a part is

pub begun_at_apart : (at : ℕ) (v : PlainValue) → unplaced_spec (begun_at at v) ≡ begun_at 0 (unplaced_value v)
begun_at_apart at (values.Started s ss) = all_applied_to (begun at s) (begun 0 (unplaced_start s)) ss (unplaced_suffixes ss) (begun_apart at s) refl
begun_at_apart at _ = refl

parenthesis_apart : (e : PlainSpec) (v : PlainValue) → unplaced_value (parenthesis e v) ≡ parenthesis (unplaced_spec e) (unplaced_value v)
parenthesis_apart e (values.Expression operand) = ap (λ t. values.Started (values.Cast t (unplaced_spec operand)) []) (class_type_apart e)
parenthesis_apart e _ = refl

type_at_apart : (ts : List PlainLexeme) (t : PlainType) → unplaced_written (type_at ts t) ≡ type_at (unplaced ts) t
type_at_apart ts t = ap (λ at. record { at = at; written = t }) (place_apart 0 ts)

int_cast_apart : (ts : List PlainLexeme) (v : PlainValue) → unplaced_value (int_cast ts v) ≡ int_cast (unplaced ts) (unplaced_value v)
int_cast_apart ts (values.ArrayOperand e) = ap (λ t. values.Started (values.Cast t (unplaced_spec e)) []) (type_at_apart ts IntArrayType)
int_cast_apart ts (values.Expression e) = ap (λ t. values.Started (values.Cast t (unplaced_spec e)) []) (type_at_apart ts IntType)
int_cast_apart ts _ = ap (λ t. values.Started (values.Cast t (jml.Null 0)) []) (type_at_apart ts IntType)

followed_apart : (v : PlainValue) (ss : List PlainSuffix) → unplaced_value (followed v ss) ≡ followed (unplaced_value v) (unplaced_suffixes ss)
followed_apart (values.Started s us) ss = ap (values.Started (unplaced_start s)) (map-append unplaced_suffix us ss)
followed_apart _ ss = refl

-- ---- actions

pub expression_meaning_apart : (a : Action) (ts : List PlainLexeme) (parts : NodeParts PlainValue) → unplaced_value (meaning a ts parts) ≡ meaning a (unplaced ts) (unplaced_parts parts)
expression_meaning_apart actions.Nothing ts parts = refl
expression_meaning_apart actions.First ts parts = refl
expression_meaning_apart actions.Identifier ts parts = two (λ at x. values.Named (record { at = at; name = x })) (place_apart 0 ts) (text_apart ts)
expression_meaning_apart actions.Dimension ts parts = refl
expression_meaning_apart actions.BigInteger ts parts = refl
expression_meaning_apart actions.IntType ts parts = ap values.Typed (type_at_apart ts (int_type (is_dimension parts.first)) ∙ ap (λ b. type_at (unplaced ts) (int_type b)) (dimension_apart parts.first))
expression_meaning_apart actions.BooleanType ts parts = ap values.Typed (type_at_apart ts BooleanType)
expression_meaning_apart actions.ArrayType ts parts = ap values.Typed (type_at_apart ts IntArrayType)
expression_meaning_apart actions.ClassType ts parts = ap (λ x. values.Typed (class_of x)) (name_apart parts.first)
expression_meaning_apart actions.Number ts parts = two (λ at n. values.Expression (jml.Integer at n)) (place_apart 0 ts) (number_apart ts)
expression_meaning_apart (actions.Boolean b) ts parts = ap (λ at. values.Expression (jml.Boolean at b)) (place_apart 0 ts)
expression_meaning_apart actions.Null ts parts = ap (λ at. values.Expression (jml.Null at)) (place_apart 0 ts)
expression_meaning_apart actions.This ts parts = ap (λ at. values.Expression (jml.This at)) (place_apart 0 ts)
expression_meaning_apart actions.Result ts parts = ap (λ at. values.Expression (jml.Result at)) (place_apart 0 ts)
expression_meaning_apart actions.Old ts parts = two (λ at e. values.Expression (jml.Old at e)) (place_apart 0 ts) (expression_apart parts.first)
expression_meaning_apart actions.Fresh ts parts = two (λ at e. values.Expression (jml.Fresh at e)) (place_apart 0 ts) (expression_apart parts.first)
expression_meaning_apart actions.InvariantFor ts parts = two (λ at e. values.Expression (jml.InvariantFor at e)) (place_apart 0 ts) (expression_apart parts.first)
expression_meaning_apart actions.Operand ts parts = ap values.Expression (all_applied_to (expression_of parts.first) _ (suffixes_of parts.second) _ (expression_apart parts.first) (suffixes_apart parts.second))
expression_meaning_apart actions.Name ts parts =
    ap values.Expression (all_applied_to (named (name_of parts.first) (arguments_of parts.second)) _ (suffixes_of parts.third) _
    (named_apart (name_of parts.first) (arguments_of parts.second) ∙ two named (name_apart parts.first) (arguments_apart parts.second)) (suffixes_apart parts.third))
expression_meaning_apart actions.Begun ts parts = ap values.Expression (begun_at_apart (place_of 0 ts) parts.first ∙ ap (λ at. begun_at at (unplaced_value parts.first)) (place_apart 0 ts))
expression_meaning_apart (actions.Prefix op) ts parts = two (λ at e. values.Expression (jml.Prefix at op e)) (place_apart 0 ts) (expression_apart parts.first)
expression_meaning_apart actions.NoSuffixes ts parts = refl
expression_meaning_apart (actions.Infix op) ts parts = two (λ e ss. values.Suffixes (values.Infix op e ∷ ss)) (expression_apart parts.first) (suffixes_apart parts.second)
expression_meaning_apart actions.InstanceOf ts parts = two (λ t ss. values.Suffixes (values.InstanceOf t ∷ ss)) (type_apart parts.first) (suffixes_apart parts.second)
expression_meaning_apart actions.Choice ts parts = two (λ a b. values.Suffixes (values.Choice a b ∷ [])) (expression_apart parts.first) (expression_apart parts.second)
expression_meaning_apart actions.Implies ts parts = ap (λ e. values.Suffixes (values.Implies e ∷ [])) (expression_apart parts.first)
expression_meaning_apart actions.Equivalent ts parts = two (λ e ss. values.Suffixes (values.Equivalent e ∷ ss)) (expression_apart parts.first) (suffixes_apart parts.second)
expression_meaning_apart actions.Member ts parts =
    two (λ s ss. values.Suffixes (s ∷ ss)) (joined_apart (name_of parts.first) (arguments_of parts.second) ∙ two joined (name_apart parts.first) (arguments_apart parts.second)) (suffixes_apart parts.third)
expression_meaning_apart actions.Element ts parts = two (λ e ss. values.Suffixes (values.Element e ∷ ss)) (expression_apart parts.first) (suffixes_apart parts.second)
expression_meaning_apart actions.Parenthesis ts parts = parenthesis_apart (expression_of parts.first) parts.second ∙ ap (λ e. parenthesis e (unplaced_value parts.second)) (expression_apart parts.first)
expression_meaning_apart actions.IntCast ts parts = int_cast_apart ts parts.first
expression_meaning_apart actions.BooleanCast ts parts = two (λ t e. values.Started (values.Cast t e) []) (type_at_apart ts BooleanType) (expression_apart parts.first)
expression_meaning_apart actions.ArrayOperand ts parts = ap values.ArrayOperand (expression_apart parts.first)
expression_meaning_apart actions.Followed ts parts = followed_apart parts.first (suffixes_of parts.second) ∙ ap (followed (unplaced_value parts.first)) (suffixes_apart parts.second)
expression_meaning_apart (actions.Quantified q) ts parts =
    ap (λ s. values.Started s [])
    (quantified_apart q (bound_type_of parts.first) (name_of parts.second) (expression_of parts.third) (some_expression parts.fourth)
    ∙ four (quantified q) (bound_type_apart parts.first) (name_apart parts.second) (expression_apart parts.third) (some_expression_apart parts.fourth))
expression_meaning_apart actions.Sum ts parts =
    ap (λ s. values.Started s [])
    (sum_apart (name_of parts.first) (expression_of parts.second) (expression_of parts.third) ∙ three sum (name_apart parts.first) (expression_apart parts.second) (expression_apart parts.third))
expression_meaning_apart actions.NoExpressions ts parts = refl
expression_meaning_apart actions.Expressions ts parts = two (λ e es. values.Expressions (e ∷ es)) (expression_apart parts.first) (expressions_apart parts.second)
