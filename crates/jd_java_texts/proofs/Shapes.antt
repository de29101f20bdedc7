-- What each form of a node shows, where its parts show what their names say.
use Rattle.std.proofs.Common.{◌≡◌, inl, inr, ℕ, zero, suc, List, [], ◌∷◌, ◌++◌, map, Bool, true, false, ◌||◌, cond, Option, Some, None, codes, refl, sym, ap, subst, ◌∙◌, append_assoc}
use Rattle.std.proofs.lemmas.List.{append-nil}
use Rattle.std.proofs.lemmas.List.Concat.{flat_map-append}
use Rattle.jd_grammar.specs.declared.piles.NodeParts.{NodeParts}
use Rattle.jd_java_tokens.specs.Contents.{PlainLexeme}
use Rattle.jd_java_tokens.specs.Heads.{text_of}
use Rattle.jd_syntax.specs.JavaTypes.{PlainIdentifier, PlainWritten}
use Rattle.jd_syntax.specs.SpecTrees.{PlainSpecBlock}
use Rattle.jd_syntax.specs.JavaTrees as java
use Rattle.jd_syntax.specs.JavaTrees.{JavaExpr, java_exprs, JavaForStart, JavaStmt, java_stmts, JavaHandler, java_handlers, JavaParameter, JavaResult, JavaMember, FieldMember, ConstantMember, MethodMember}
use Rattle.jd_syntax.specs.declared.java.InfixOperator.{InfixOperator}
use Rattle.jd_syntax.specs.declared.java.AssignmentOperator.{AssignmentOperator}
use Rattle.jd_java_values.specs.Values as values
use Rattle.jd_java_values.specs.Values.{PlainSuffix, PlainStart, PlainValue}
use Rattle.jd_java_values.specs.Parts.{expression_of, some_expression, suffixes_of, expressions_of, arguments_of, name_of, type_of, statement_of, some_statement, statements_of, some_statements, variables_of, handlers_of, declared_of, parameters_of, members_of}
use Rattle.jd_java_values.specs.Heads.{identifier_at, type_at, int_type}
use Rattle.jd_java_expressions.specs.Applying.{applied, all_applied, named, joined, begun, class_type}
use Rattle.jd_java_expressions.specs.Meaning.{behind_two, behind_one, all_suffixes, begun_at, effect_of_name, parenthesis, int_cast}
use Rattle.jd_java_statements.specs.Meaning.{variables, annotated as annotated_loop, if_statement, try_statement, rescued, named_statement, named_start, with_effects}
use Rattle.jd_java_members.specs.Meaning.{annotated as annotated_member, annotated_body, is_static, member_at, int_declaration, named_declaration, negated}
use Rattle.jd_java_texts.specs.Texts.{Texts, infix_text, assignment_text, type_texts, behind_commas, separated, names_texts, expr_texts, exprs_texts, more_exprs_texts, value_texts, declarator_texts, for_start_texts, stmt_texts, stmts_texts, handler_texts, handlers_texts, parameter_texts, result_texts, static_texts, integer_texts, member_texts, members_texts}
use Rattle.jd_java_texts.specs.Kept.{first_there, negated_texts, IsStaticAsDeclared}
use Rattle.jd_java_texts.proofs.Frames.{suffix_texts, suffixes_texts, start_texts, int_cast_texts, behind_parenthesis_texts, call_texts, behind_name_texts, behind_start_name_texts, else_texts, finally_texts, routine_texts, IsExpr, IsStart, AreExprs, IsNamed, IsTyped, IsNameEffect, IsStmt, AreStmts, IsBlock, IsRescue, IsParameter, IsMethod, IsDeclared, IsIntDeclared, IsDeclaration}

pub two : {A B C : Type 0} (f : A → B → C) {a a' : A} {b b' : B} → a ≡ a' → b ≡ b' → f a b ≡ f a' b'
two f {a} {a'} {b} {b'} e g = ap (λ x. f x b) e ∙ ap (f a') g

pub three : {A B C D : Type 0} (f : A → B → C → D) {a a' : A} {b b' : B} {c c' : C} → a ≡ a' → b ≡ b' → c ≡ c' → f a b c ≡ f a' b' c'
three f {a} {a'} {b} {b'} {c} {c'} e g h = ap (λ x. f x b c) e ∙ two (f a') g h

pub four : {A B C D E : Type 0} (f : A → B → C → D → E) {a a' : A} {b b' : B} {c c' : C} {d d' : D} → a ≡ a' → b ≡ b' → c ≡ c' → d ≡ d' → f a b c d ≡ f a' b' c' d'
four f {a} {a'} {b} {b'} {c} {c'} {d} {d'} e g h i = ap (λ x. f x b c d) e ∙ three (f a') g h i

-- ---- texts of parts

pub expr_text : (v : PlainValue) (t : Texts) → IsExpr v t → t ≡ expr_texts (expression_of v)
expr_text v t (e, is, et) = et ∙ sym (ap (λ x. expr_texts (expression_of x)) is)

pub name_text : (v : PlainValue) (t : Texts) → IsNamed v t → t ≡ (name_of v).name ∷ []
name_text v t (x, is, et) = et ∙ sym (ap (λ y. (name_of y).name ∷ []) is)

pub type_text : (v : PlainValue) (t : Texts) → IsTyped v t → t ≡ type_texts (type_of v).written
type_text v t (x, is, et) = et ∙ sym (ap (λ y. type_texts (type_of y).written) is)

pub exprs_text : (texts : List JavaExpr → Texts) (v : PlainValue) (t : Texts) → AreExprs texts v t → t ≡ texts (expressions_of v)
exprs_text texts v t (es, is, et) = et ∙ sym (ap (λ y. texts (expressions_of y)) is)

pub stmt_text : (v : PlainValue) (t : Texts) → IsStmt v t → t ≡ stmt_texts (statement_of v)
stmt_text v t (s, is, et) = et ∙ sym (ap (λ x. stmt_texts (statement_of x)) is)

pub stmts_text : (v : PlainValue) (t : Texts) → AreStmts v t → t ≡ stmts_texts (java_stmts (statements_of v)) ++ codes "}" ∷ []
stmts_text v t (ss, is, et) = et ∙ sym (ap (λ x. stmts_texts (java_stmts (statements_of x)) ++ codes "}" ∷ []) is)

pub block_text : (v : PlainValue) (t : Texts) → IsBlock v t → t ≡ codes "{" ∷ stmts_texts (java_stmts (statements_of v)) ++ codes "}" ∷ []
block_text v t (ss, is, et) = et ∙ sym (ap (λ x. codes "{" ∷ stmts_texts (java_stmts (statements_of x)) ++ codes "}" ∷ []) is)

-- ---- what stands behind an operand, in the parts of a node

no_suffixes : (v : PlainValue) → v ≡ values.Nothing → [] ≡ suffixes_texts (suffixes_of v)
no_suffixes v e = sym (ap (λ x. suffixes_texts (suffixes_of x)) e)

abbrev ShowsSuffixes : PlainValue → Texts → Type 0
ShowsSuffixes v t = t ≡ suffixes_texts (suffixes_of v)

pub two_behind : (parts : NodeParts PlainValue) (t u : Texts) → ShowsSuffixes parts.third t → ShowsSuffixes parts.fourth u → t ++ u ≡ suffixes_texts (behind_two parts)
two_behind parts t u h k = two (λ x y. x ++ y) h k ∙ sym (flat_map-append suffix_texts (suffixes_of parts.third) (suffixes_of parts.fourth))

pub third_behind : (parts : NodeParts PlainValue) (t : Texts) → ShowsSuffixes parts.third t → parts.fourth ≡ values.Nothing → t ≡ suffixes_texts (behind_two parts)
third_behind parts t h n = sym (append-nil t) ∙ two_behind parts t [] h (no_suffixes parts.fourth n)

none_behind_two : (parts : NodeParts PlainValue) → parts.third ≡ values.Nothing → parts.fourth ≡ values.Nothing → [] ≡ suffixes_texts (behind_two parts)
none_behind_two parts m n = third_behind parts [] (no_suffixes parts.third m) n

pub second_before : (parts : NodeParts PlainValue) (t u : Texts) → ShowsSuffixes parts.second t → u ≡ suffixes_texts (behind_two parts) → t ++ u ≡ suffixes_texts (behind_one parts)
second_before parts t u h k = two (λ x y. x ++ y) h k ∙ sym (flat_map-append suffix_texts (suffixes_of parts.second) (behind_two parts))

pub second_behind : (parts : NodeParts PlainValue) (t : Texts) → ShowsSuffixes parts.second t → parts.third ≡ values.Nothing → parts.fourth ≡ values.Nothing → t ≡ suffixes_texts (behind_one parts)
second_behind parts t h m n = sym (append-nil t) ∙ second_before parts t [] h (none_behind_two parts m n)

none_behind_one : (parts : NodeParts PlainValue) → parts.second ≡ values.Nothing → parts.third ≡ values.Nothing → parts.fourth ≡ values.Nothing → [] ≡ suffixes_texts (behind_one parts)
none_behind_one parts l m n = second_behind parts [] (no_suffixes parts.second l) m n

pub first_before : (parts : NodeParts PlainValue) (t u : Texts) → ShowsSuffixes parts.first t → u ≡ suffixes_texts (behind_one parts) → t ++ u ≡ suffixes_texts (all_suffixes parts)
first_before parts t u h k = two (λ x y. x ++ y) h k ∙ sym (flat_map-append suffix_texts (suffixes_of parts.first) (behind_one parts))

pub none_behind : (parts : NodeParts PlainValue) → parts.first ≡ values.Nothing → parts.second ≡ values.Nothing → parts.third ≡ values.Nothing → parts.fourth ≡ values.Nothing → [] ≡ suffixes_texts (all_suffixes parts)
none_behind parts k l m n = first_before parts [] [] (no_suffixes parts.first k) (none_behind_one parts l m n)

-- ---- operands

applied_text : (e : JavaExpr) (s : PlainSuffix) → expr_texts (applied e s) ≡ expr_texts e ++ suffix_texts s
applied_text e (values.Infix o r) = refl
applied_text e (values.InstanceOf t) = refl
applied_text e (values.Assign o r) = refl
applied_text e (values.Choice a b) = refl
applied_text e (values.Member x) = refl
applied_text e (values.Method x es) = refl
applied_text e (values.Element i) = refl
applied_text e (values.Count o) = refl

applied_texts : (e : JavaExpr) (ss : List PlainSuffix) → expr_texts (all_applied e ss) ≡ expr_texts e ++ suffixes_texts ss
applied_texts e [] = sym (append-nil (expr_texts e))
applied_texts e (s ∷ ss) = applied_texts (applied e s) ss ∙ ap (λ t. t ++ suffixes_texts ss) (applied_text e s) ∙ append_assoc (expr_texts e) (suffix_texts s) (suffixes_texts ss)

pub operand : (v : PlainValue) (t u : Texts) (ss : List PlainSuffix) → IsExpr v t → u ≡ suffixes_texts ss → IsExpr (values.Expression (all_applied (expression_of v) ss)) (t ++ u)
operand v t u ss h k = (_, refl, two (λ x y. x ++ y) (expr_text v t h) k ∙ sym (applied_texts (expression_of v) ss))

pub this_operand : (at : ℕ) (u : Texts) (ss : List PlainSuffix) → u ≡ suffixes_texts ss → IsExpr (values.Expression (all_applied (java.This at) ss)) (codes "this" ∷ u)
this_operand at u ss k = (_, refl, ap (λ x. codes "this" ∷ x) k ∙ sym (applied_texts (java.This at) ss))

pub inside_operand : (at : ℕ) (v : PlainValue) (t u : Texts) (ss : List PlainSuffix) → IsExpr v t → u ≡ suffixes_texts ss
    → IsExpr (values.Expression (all_applied (java.Parenthesized at (expression_of v)) ss)) (codes "(" ∷ (t ++ codes ")" ∷ u))
inside_operand at v t u ss h k = (
  _,
  refl,
  two (λ x y. codes "(" ∷ (x ++ codes ")" ∷ y)) (expr_text v t h) k
      ∙ ap (λ x. codes "(" ∷ x) (sym (append_assoc (expr_texts (expression_of v)) (codes ")" ∷ []) (suffixes_texts ss)))
      ∙ sym (applied_texts (java.Parenthesized at (expression_of v)) ss),
)

named_text : (at : ℕ) (w : List ℕ) (args : Option (List JavaExpr)) → w ∷ call_texts args ≡ expr_texts (named at w args)
named_text at w None = refl
named_text at w (Some es) = refl

called_text : (at : ℕ) (w : List ℕ) (args : Option (List JavaExpr)) (ss : List PlainSuffix) → w ∷ (call_texts args ++ suffixes_texts ss) ≡ expr_texts (all_applied (named at w args) ss)
called_text at w args ss = ap (λ x. x ++ suffixes_texts ss) (named_text at w args) ∙ sym (applied_texts (named at w args) ss)

pub name_operand : (at : ℕ) (w : List ℕ) (v : PlainValue) (t u : Texts) (ss : List PlainSuffix) → t ≡ call_texts (arguments_of v) → u ≡ suffixes_texts ss
    → IsExpr (values.Expression (all_applied (named at w (arguments_of v)) ss)) (w ∷ (t ++ u))
name_operand at w v t u ss h k = (_, refl, two (λ x y. w ∷ (x ++ y)) h k ∙ called_text at w (arguments_of v) ss)

begun_text : (at : ℕ) (s : PlainStart) → start_texts s ≡ expr_texts (begun at s)
begun_text at (values.Inside e) = refl
begun_text at (values.Cast t e) = refl
begun_text at (values.Object x es) = refl
begun_text at (values.Array e) = refl

pub begun_shown : (at : ℕ) (before : List ℕ) (v : PlainValue) (t : Texts) → IsStart before v t → IsExpr (values.Expression (begun_at at v)) (before ∷ t)
begun_shown at before v t (s, ss, is, et) =
    (_, refl, et ∙ ap (λ x. x ++ suffixes_texts ss) (begun_text at s) ∙ sym (applied_texts (begun at s) ss) ∙ sym (ap (λ x. expr_texts (begun_at at x)) is))

pub name_effect_shown : (at : ℕ) (w : List ℕ) (v : PlainValue) (t : Texts) → IsNameEffect v t → IsExpr (values.Expression (effect_of_name at w v)) (w ∷ t)
name_effect_shown at w v t (args, ss, is, et) = (_, refl, ap (λ x. w ∷ x) et ∙ called_text at w args ss ∙ sym (ap (λ x. expr_texts (effect_of_name at w x)) is))

-- ---- what stands behind an operand

pub infix_behind : (o : InfixOperator) (v : PlainValue) (t u : Texts) (ss : List PlainSuffix) → IsExpr v t → u ≡ suffixes_texts ss → infix_text o ∷ (t ++ u) ≡ suffixes_texts (values.Infix o (expression_of v) ∷ ss)
infix_behind o v t u ss h k = two (λ x y. infix_text o ∷ (x ++ y)) (expr_text v t h) k

pub instance_behind : (v : PlainValue) (t u : Texts) (ss : List PlainSuffix) → IsTyped v t → u ≡ suffixes_texts ss → codes "instanceof" ∷ (t ++ u) ≡ suffixes_texts (values.InstanceOf (type_of v) ∷ ss)
instance_behind v t u ss h k = two (λ x y. codes "instanceof" ∷ (x ++ y)) (type_text v t h) k

pub assigned_behind : (o : AssignmentOperator) (v : PlainValue) (t : Texts) → IsExpr v t → assignment_text o ∷ t ≡ suffixes_texts (values.Assign o (expression_of v) ∷ [])
assigned_behind o v t h = ap (λ x. assignment_text o ∷ x) (expr_text v t h ∙ sym (append-nil (expr_texts (expression_of v))))

pub choice_behind : (v w : PlainValue) (t u : Texts) → IsExpr v t → IsExpr w u → codes "?" ∷ (t ++ codes ":" ∷ u) ≡ suffixes_texts (values.Choice (expression_of v) (expression_of w) ∷ [])
choice_behind v w t u h k =
    two (λ x y. codes "?" ∷ (x ++ codes ":" ∷ y)) (expr_text v t h) (expr_text w u k)
    ∙ sym (append-nil (codes "?" ∷ (expr_texts (expression_of v) ++ codes ":" ∷ expr_texts (expression_of w))))

joined_text : (x : PlainIdentifier) (args : Option (List JavaExpr)) → codes "." ∷ x.name ∷ call_texts args ≡ suffix_texts (joined x args)
joined_text x None = refl
joined_text x (Some es) = refl

pub member_behind : (v w : PlainValue) (t u r : Texts) (ss : List PlainSuffix) → IsNamed v t → u ≡ call_texts (arguments_of w) → r ≡ suffixes_texts ss
    → codes "." ∷ (t ++ (u ++ r)) ≡ suffixes_texts (joined (name_of v) (arguments_of w) ∷ ss)
member_behind v w t u r ss h k l =
    three (λ x y z. codes "." ∷ (x ++ (y ++ z))) (name_text v t h) k l ∙ ap (λ x. x ++ suffixes_texts ss) (joined_text (name_of v) (arguments_of w))

pub element_behind : (v : PlainValue) (t u : Texts) (ss : List PlainSuffix) → IsExpr v t → u ≡ suffixes_texts ss → codes "[" ∷ (t ++ codes "]" ∷ u) ≡ suffixes_texts (values.Element (expression_of v) ∷ ss)
element_behind v t u ss h k =
    two (λ x y. codes "[" ∷ (x ++ codes "]" ∷ y)) (expr_text v t h) k
    ∙ ap (λ x. codes "[" ∷ x) (sym (append_assoc (expr_texts (expression_of v)) (codes "]" ∷ []) (suffixes_texts ss)))

-- ---- behind `(` and `new`

-- what begins so, with nothing behind it
started : (before : List ℕ) (s : PlainStart) (t : Texts) → before ∷ t ≡ start_texts s → IsStart before (values.Started s []) t
started before s t e = (s, [], refl, e ∙ sym (append-nil (start_texts s)))

abbrev IsCast : PlainValue → JavaExpr → Type 0
IsCast w e = (d : JavaExpr) → w ≡ values.Expression d → (at : ℕ) × (x : List ℕ) × (e ≡ java.Name at x)

cast_text : (e d : JavaExpr) (at : ℕ) (x : List ℕ) → e ≡ java.Name at x → codes "(" ∷ (expr_texts e ++ codes ")" ∷ expr_texts d) ≡ start_texts (values.Cast (class_type e) d)
cast_text e d at x is =
    ap (λ y. codes "(" ∷ (expr_texts y ++ codes ")" ∷ expr_texts d)) is ∙ sym (ap (λ y. codes "(" ∷ (type_texts (class_type y).written ++ codes ")" ∷ expr_texts d)) is)

in_parentheses : (e : JavaExpr) (w : PlainValue) → IsCast w e → IsStart (codes "(") (parenthesis e w) (expr_texts e ++ codes ")" ∷ behind_parenthesis_texts w)
in_parentheses e (values.Expression d) q = let (at, x, is) = q d refl in started (codes "(") (values.Cast (class_type e) d) _ (cast_text e d at x is)
in_parentheses e (values.Suffixes ss) q = (values.Inside e, ss, refl, ap (λ x. codes "(" ∷ x) (sym (append_assoc (expr_texts e) (codes ")" ∷ []) (suffixes_texts ss))))
in_parentheses e _ q = started (codes "(") (values.Inside e) _ refl

pub parenthesized : (v w : PlainValue) (t u : Texts) → IsExpr v t → u ≡ behind_parenthesis_texts w → IsCast w (expression_of v) → IsStart (codes "(") (parenthesis (expression_of v) w) (t ++ codes ")" ∷ u)
parenthesized v w t u h k q =
    let (s, ss, is, et) = in_parentheses (expression_of v) w q in
    (s, ss, is, two (λ x y. codes "(" ∷ (x ++ codes ")" ∷ y)) (expr_text v t h) k ∙ et)

pub int_cast_shown : (ts : List PlainLexeme) (v : PlainValue) (t : Texts) → t ≡ int_cast_texts v → IsStart (codes "(") (int_cast ts v) (codes "int" ∷ t)
int_cast_shown ts (values.ArrayOperand e) t h = started (codes "(") _ _ (ap (λ x. codes "(" ∷ codes "int" ∷ x) h)
int_cast_shown ts (values.Expression e) t h = started (codes "(") _ _ (ap (λ x. codes "(" ∷ codes "int" ∷ x) h)
int_cast_shown ts _ t h = started (codes "(") _ _ (ap (λ x. codes "(" ∷ codes "int" ∷ x) h)

pub cast_shown : (x : PlainWritten) (v : PlainValue) (t u : Texts) → u ≡ type_texts x.written ++ codes ")" ∷ [] → IsExpr v t → IsStart (codes "(") (values.Started (values.Cast x (expression_of v)) []) (u ++ t)
cast_shown x v t u e h =
    started (codes "(") _ _ (two (λ y z. codes "(" ∷ (y ++ z)) e (expr_text v t h) ∙ ap (λ y. codes "(" ∷ y) (append_assoc (type_texts x.written) (codes ")" ∷ []) (expr_texts (expression_of v))))

pub object_shown : (v w : PlainValue) (t u r : Texts) (ss : List PlainSuffix) → IsNamed v t → AreExprs (λ es. exprs_texts (java_exprs es) ++ codes ")" ∷ []) w u → r ≡ suffixes_texts ss
    → IsStart (codes "new") (values.Started (values.Object (name_of v) (expressions_of w)) ss) (t ++ codes "(" ∷ (u ++ r))
object_shown v w t u r ss h k l =
    (_, _, refl, three (λ x y z. codes "new" ∷ (x ++ codes "(" ∷ (y ++ z))) (name_text v t h) (exprs_text (λ es. exprs_texts (java_exprs es) ++ codes ")" ∷ []) w u k) l)

pub array_shown : (v : PlainValue) (t u : Texts) (ss : List PlainSuffix) → IsExpr v t → u ≡ suffixes_texts ss
    → IsStart (codes "new") (values.Started (values.Array (expression_of v)) ss) (codes "int" ∷ codes "[" ∷ (t ++ codes "]" ∷ u))
array_shown v t u ss h k = (
  _,
  _,
  refl,
  two (λ x y. codes "new" ∷ codes "int" ∷ codes "[" ∷ (x ++ codes "]" ∷ y)) (expr_text v t h) k
      ∙ ap (λ x. codes "new" ∷ codes "int" ∷ codes "[" ∷ x) (sym (append_assoc (expr_texts (expression_of v)) (codes "]" ∷ []) (suffixes_texts ss))),
)

-- ---- arguments

pub first_argument : (v w : PlainValue) (t u : Texts) → IsExpr v t → AreExprs (λ es. more_exprs_texts (java_exprs es) ++ codes ")" ∷ []) w u
    → AreExprs (λ es. exprs_texts (java_exprs es) ++ codes ")" ∷ []) (values.Expressions (expression_of v ∷ expressions_of w)) (t ++ u)
first_argument v w t u h k = (
  _,
  refl,
  two (λ x y. x ++ y) (expr_text v t h) (exprs_text (λ es. more_exprs_texts (java_exprs es) ++ codes ")" ∷ []) w u k)
      ∙ sym (append_assoc (expr_texts (expression_of v)) (more_exprs_texts (java_exprs (expressions_of w))) (codes ")" ∷ [])),
)

pub next_argument : (v w : PlainValue) (t u : Texts) → IsExpr v t → AreExprs (λ es. more_exprs_texts (java_exprs es) ++ codes ")" ∷ []) w u
    → AreExprs (λ es. more_exprs_texts (java_exprs es) ++ codes ")" ∷ []) (values.Expressions (expression_of v ∷ expressions_of w)) (codes "," ∷ (t ++ u))
next_argument v w t u h k = (
  _,
  refl,
  ap (λ x. codes "," ∷ x)
      (two (λ x y. x ++ y) (expr_text v t h) (exprs_text (λ es. more_exprs_texts (java_exprs es) ++ codes ")" ∷ []) w u k)
      ∙ sym (append_assoc (expr_texts (expression_of v)) (more_exprs_texts (java_exprs (expressions_of w))) (codes ")" ∷ []))),
)

-- expressions up to a sign
pub first_effect : (sign : List ℕ) (v w : PlainValue) (t u : Texts) → IsExpr v t → u ≡ more_exprs_texts (java_exprs (expressions_of w))
    → t ++ (u ++ sign ∷ []) ≡ exprs_texts (java_exprs (expression_of v ∷ expressions_of w)) ++ sign ∷ []
first_effect sign v w t u h k =
    two (λ x y. x ++ (y ++ sign ∷ [])) (expr_text v t h) k ∙ sym (append_assoc (expr_texts (expression_of v)) (more_exprs_texts (java_exprs (expressions_of w))) (sign ∷ []))

-- ---- types

pub int_type_text : (b : Bool) → codes "int" ∷ cond b (codes "[" ∷ codes "]" ∷ []) [] ≡ type_texts (int_type b)
int_type_text true = refl
int_type_text false = refl

-- ---- variables

-- up to what stands behind them
pub variables_text : (end : Texts) (v w x : PlainValue) (t u r : Texts) → IsNamed v t → u ≡ value_texts (some_expression w) → r ≡ behind_commas (map declarator_texts (variables_of x))
    → t ++ (u ++ (r ++ end)) ≡ separated (map declarator_texts (variables v w x)) ++ end
variables_text end v w x t u r h k l =
    three (λ a b c. a ++ (b ++ (c ++ end))) (name_text v t h) k l
    ∙ ap (λ y. (name_of v).name ∷ y) (sym (append_assoc (value_texts (some_expression w)) (behind_commas (map declarator_texts (variables_of x))) end))

pub variables_shown : (v w x : PlainValue) (t u r : Texts) → IsNamed v t → u ≡ value_texts (some_expression w) → r ≡ behind_commas (map declarator_texts (variables_of x))
    → t ++ (u ++ r) ≡ separated (map declarator_texts (variables v w x))
variables_shown v w x t u r h k l = three (λ a b c. a ++ (b ++ c)) (name_text v t h) k l

pub more_variables : (v w x : PlainValue) (t u r : Texts) → IsNamed v t → u ≡ value_texts (some_expression w) → r ≡ behind_commas (map declarator_texts (variables_of x))
    → codes "," ∷ (t ++ (u ++ r)) ≡ behind_commas (map declarator_texts (variables v w x))
more_variables v w x t u r h k l = three (λ a b c. codes "," ∷ (a ++ (b ++ c))) (name_text v t h) k l

-- variables of a type up to `;`, as a statement and as the start of a `for`
pub local_text : (x : PlainWritten) (ds : Texts) (t u : Texts) → t ≡ type_texts x.written → u ≡ ds ++ codes ";" ∷ [] → t ++ u ≡ type_texts x.written ++ (ds ++ codes ";" ∷ [])
local_text x ds t u h k = two (λ a b. a ++ b) h k

pub start_text : (x : PlainWritten) (ds : Texts) (t u : Texts) → t ≡ type_texts x.written → u ≡ ds ++ codes ";" ∷ [] → t ++ u ≡ (type_texts x.written ++ ds) ++ codes ";" ∷ []
start_text x ds t u h k = local_text x ds t u h k ∙ sym (append_assoc (type_texts x.written) ds (codes ";" ∷ []))

-- ---- statements

named_statement_text : (at : ℕ) (w : List ℕ) (v : PlainValue) → w ∷ behind_name_texts v ≡ stmt_texts (named_statement at w v)
named_statement_text at w (values.Statement s) = refl
named_statement_text at w (values.Variables ds) = refl
named_statement_text at w (values.BehindName args ss es) =
    ap (λ x. w ∷ x) (sym (append_assoc (call_texts args) (suffixes_texts ss) (codes ";" ∷ []))) ∙ ap (λ x. x ++ codes ";" ∷ []) (called_text at w args ss)
named_statement_text at w _ = refl

pub named_shown : (at : ℕ) (w : List ℕ) (v : PlainValue) (t : Texts) → t ≡ behind_name_texts v → IsStmt (values.Statement (named_statement at w v)) (w ∷ t)
named_shown at w v t h = (_, refl, ap (λ x. w ∷ x) h ∙ named_statement_text at w v)

named_start_text : (at : ℕ) (w : List ℕ) (v : PlainValue) → w ∷ behind_start_name_texts v ≡ for_start_texts (named_start at w v) ++ codes ";" ∷ []
named_start_text at w (values.Variables ds) = refl
named_start_text at w (values.BehindName args ss es) =
    ap (λ x. w ∷ x) (sym (append_assoc (call_texts args) (suffixes_texts ss) (more_exprs_texts (java_exprs es) ++ codes ";" ∷ [])))
    ∙ ap (λ x. x ++ (more_exprs_texts (java_exprs es) ++ codes ";" ∷ [])) (called_text at w args ss)
    ∙ sym (append_assoc (expr_texts (all_applied (named at w args) ss)) (more_exprs_texts (java_exprs es)) (codes ";" ∷ []))
named_start_text at w _ = refl

pub named_start_shown : (at : ℕ) (w : List ℕ) (v : PlainValue) (t : Texts) → t ≡ behind_start_name_texts v → w ∷ t ≡ for_start_texts (named_start at w v) ++ codes ";" ∷ []
named_start_shown at w v t h = ap (λ x. w ∷ x) h ∙ named_start_text at w v

-- behind a name, what makes it a statement
pub name_effect_behind : (v : PlainValue) (t : Texts) → IsNameEffect v t → t ++ codes ";" ∷ [] ≡ behind_name_texts v
name_effect_behind v t (args, ss, is, et) =
    ap (λ x. x ++ codes ";" ∷ []) et ∙ append_assoc (call_texts args) (suffixes_texts ss) (codes ";" ∷ []) ∙ sym (ap behind_name_texts is)

pub name_effects_behind : (v : PlainValue) (t u : Texts) (es : List JavaExpr) → IsNameEffect v t → u ≡ more_exprs_texts (java_exprs es)
    → t ++ (u ++ codes ";" ∷ []) ≡ behind_start_name_texts (with_effects v es)
name_effects_behind v t u es (args, ss, is, et) k =
    two (λ x y. x ++ (y ++ codes ";" ∷ [])) et k
    ∙ append_assoc (call_texts args) (suffixes_texts ss) (more_exprs_texts (java_exprs es) ++ codes ";" ∷ [])
    ∙ sym (ap (λ x. behind_start_name_texts (with_effects x es)) is)

annotated_text : (b : PlainSpecBlock) (s : JavaStmt) → stmt_texts (annotated_loop b s) ≡ stmt_texts s
annotated_text b (java.While at before c s) = refl
annotated_text b (java.For at before start c update s) = refl
annotated_text b (java.Label at before l s) = refl
annotated_text b _ = refl

pub annotated_shown : (b : PlainSpecBlock) (v : PlainValue) (t : Texts) → IsStmt v t → IsStmt (values.Statement (annotated_loop b (statement_of v))) t
annotated_shown b v t h = (_, refl, stmt_text v t h ∙ sym (annotated_text b (statement_of v)))

if_text : (at : ℕ) (c : JavaExpr) (s : JavaStmt) (o : Option JavaStmt)
    → codes "if" ∷ codes "(" ∷ (expr_texts c ++ codes ")" ∷ (stmt_texts s ++ else_texts o)) ≡ stmt_texts (if_statement at c s o)
if_text at c s None = ap (λ x. codes "if" ∷ codes "(" ∷ (expr_texts c ++ codes ")" ∷ x)) (append-nil (stmt_texts s))
if_text at c s (Some d) = refl

pub if_shown : (at : ℕ) (v w x : PlainValue) (t u r : Texts) → IsExpr v t → IsStmt w u → r ≡ else_texts (some_statement x)
    → IsStmt (values.Statement (if_statement at (expression_of v) (statement_of w) (some_statement x))) (codes "if" ∷ codes "(" ∷ (t ++ codes ")" ∷ (u ++ r)))
if_shown at v w x t u r h k l = (
  _,
  refl,
  three (λ a b c. codes "if" ∷ codes "(" ∷ (a ++ codes ")" ∷ (b ++ c))) (expr_text v t h) (stmt_text w u k) l
      ∙ if_text at (expression_of v) (statement_of w) (some_statement x),
)

-- each of three up to its sign
pub up_to_signs : (a b c d : Texts) (k l m : List ℕ) → (a ++ k ∷ []) ++ ((b ++ l ∷ []) ++ ((c ++ m ∷ []) ++ d)) ≡ a ++ k ∷ (b ++ l ∷ (c ++ m ∷ d))
up_to_signs a b c d k l m =
    append_assoc a (k ∷ []) ((b ++ l ∷ []) ++ ((c ++ m ∷ []) ++ d))
    ∙ ap (λ x. a ++ k ∷ x) (append_assoc b (l ∷ []) ((c ++ m ∷ []) ++ d) ∙ ap (λ x. b ++ l ∷ x) (append_assoc c (m ∷ []) d))

abbrev tried : List JavaStmt → Texts
tried ss = codes "try" ∷ codes "{" ∷ stmts_texts (java_stmts ss)

try_text : (at : ℕ) (ss : List JavaStmt) (hs : List JavaHandler) (o : Option (List JavaStmt))
    → tried ss ++ codes "}" ∷ (handlers_texts (java_handlers hs) ++ finally_texts o) ≡ stmt_texts (try_statement at ss hs o)
try_text at ss hs None = ap (λ x. tried ss ++ codes "}" ∷ x) (append-nil (handlers_texts (java_handlers hs)))
try_text at ss hs (Some ks) = refl

pub try_shown : (at : ℕ) (v w : PlainValue) (t u : Texts) → IsBlock v t → IsRescue w u → IsStmt (values.Statement (rescued at (statements_of v) w)) (codes "try" ∷ (t ++ u))
try_shown at v w t u h (hs, o, is, et) = (
  _,
  refl,
  two (λ x y. codes "try" ∷ (x ++ y)) (block_text v t h) et
      ∙ append_assoc (tried (statements_of v)) (codes "}" ∷ []) (handlers_texts (java_handlers hs) ++ finally_texts o)
      ∙ try_text at (statements_of v) hs o
      ∙ sym (ap (λ x. stmt_texts (rescued at (statements_of v) x)) is),
)

handlers_append : (hs ks : List JavaHandler) → handlers_texts (java_handlers (hs ++ ks)) ≡ handlers_texts (java_handlers hs) ++ handlers_texts (java_handlers ks)
handlers_append [] ks = refl
handlers_append (h ∷ hs) ks =
    ap (λ x. handler_texts h ++ x) (handlers_append hs ks) ∙ sym (append_assoc (handler_texts h) (handlers_texts (java_handlers hs)) (handlers_texts (java_handlers ks)))

pub handlers_shown : (v w : PlainValue) (t u : Texts) → t ≡ handlers_texts (java_handlers (handlers_of v)) → u ≡ handlers_texts (java_handlers (handlers_of w))
    → t ++ u ≡ handlers_texts (java_handlers (handlers_of v ++ handlers_of w))
handlers_shown v w t u h k = two (λ x y. x ++ y) h k ∙ sym (handlers_append (handlers_of v) (handlers_of w))

pub rescue_shown : (v w x : PlainValue) (t u r : Texts) → t ≡ handlers_texts (java_handlers (handlers_of v)) → u ≡ handlers_texts (java_handlers (handlers_of w)) → r ≡ finally_texts (some_statements x)
    → IsRescue (values.Rescue (handlers_of v ++ handlers_of w) (some_statements x)) (t ++ (u ++ r))
rescue_shown v w x t u r h k l = (_, _, refl, sym (append_assoc t u r) ∙ two (λ y z. y ++ z) (handlers_shown v w t u h k) l)

pub finally_shown : (v : PlainValue) (t : Texts) → IsBlock v t → codes "finally" ∷ t ≡ finally_texts (some_statements v)
finally_shown v t (ss, is, et) = ap (λ x. codes "finally" ∷ x) et ∙ sym (ap (λ x. finally_texts (some_statements x)) is)

pub handler_shown : (at : ℕ) (v w x : PlainValue) (t u r i : Texts) → t ≡ [] → IsNamed v u → IsNamed w r → IsBlock x i
    → codes "catch" ∷ codes "(" ∷ (t ++ (u ++ (r ++ codes ")" ∷ i))) ≡ handlers_texts (java_handlers (java.Catch at (name_of v) (name_of w) (java_stmts (statements_of x)) ∷ []))
handler_shown at v w x t u r i h k l m =
    four (λ a b c d. codes "catch" ∷ codes "(" ∷ (a ++ (b ++ (c ++ codes ")" ∷ d)))) h (name_text v u k) (name_text w r l) (block_text x i m)
    ∙ sym (append-nil (handler_texts (java.Catch at (name_of v) (name_of w) (java_stmts (statements_of x)))))

pub next_statement : (v w : PlainValue) (t u : Texts) → IsStmt v t → AreStmts w u → AreStmts (values.Statements (statement_of v ∷ statements_of w)) (t ++ u)
next_statement v w t u h k =
    (_, refl, two (λ x y. x ++ y) (stmt_text v t h) (stmts_text w u k) ∙ sym (append_assoc (stmt_texts (statement_of v)) (stmts_texts (java_stmts (statements_of w))) (codes "}" ∷ [])))

pub super_shown : (at : ℕ) (v w : PlainValue) (t u : Texts) → AreExprs (λ es. exprs_texts (java_exprs es) ++ codes ")" ∷ []) v t → AreStmts w u
    → AreStmts (values.Statements (java.Super at (expressions_of v) ∷ statements_of w)) (codes "super" ∷ codes "(" ∷ (t ++ codes ";" ∷ u))
super_shown at v w t u h k = (
  _,
  refl,
  two (λ x y. codes "super" ∷ codes "(" ∷ (x ++ codes ";" ∷ y)) (exprs_text (λ es. exprs_texts (java_exprs es) ++ codes ")" ∷ []) v t h) (stmts_text w u k)
      ∙ ap (λ x. codes "super" ∷ codes "(" ∷ x)
      (append_assoc (exprs_texts (java_exprs (expressions_of v))) (codes ")" ∷ []) (codes ";" ∷ (stmts_texts (java_stmts (statements_of w)) ++ codes "}" ∷ []))
      ∙ sym (append_assoc (exprs_texts (java_exprs (expressions_of v))) (codes ")" ∷ codes ";" ∷ []) (stmts_texts (java_stmts (statements_of w)) ++ codes "}" ∷ [])))
      ∙ sym (append_assoc (stmt_texts (java.Super at (expressions_of v))) (stmts_texts (java_stmts (statements_of w))) (codes "}" ∷ [])),
)

-- ---- members

declared_text : (constructor : Bool) (t u : Texts) → cond constructor u (t ++ u) ≡ cond constructor [] t ++ u
declared_text true t u = refl
declared_text false t u = refl

-- a member of modifiers and a declaration
pub member_shown : (at : ℕ) (static constructor : Bool) (blocks : List PlainSpecBlock) (v : PlainValue) (t u : Texts) → t ≡ static_texts static → IsDeclaration v u constructor → IsStaticAsDeclared static v
    → cond constructor u (t ++ u) ≡ members_texts (members_of (member_at at static blocks v))
member_shown at static constructor blocks v t u h k q = declared_text constructor t u ∙ ap (λ x. cond constructor [] x ++ u) h ∙ k static q at blocks

pub either_static : (a b : Bool) → first_there (static_texts a) (static_texts b) ≡ static_texts (a || b)
either_static true b = refl
either_static false b = refl

annotated_member_text : (ts : List PlainLexeme) (m : JavaMember) → member_texts (annotated_member ts m) ≡ member_texts m
annotated_member_text ts (FieldMember f) = refl
annotated_member_text ts (ConstantMember c) = refl
annotated_member_text ts (MethodMember m) = refl

pub annotated_body_text : (ts : List PlainLexeme) (ms : List JavaMember) (end : Option PlainSpecBlock) → members_texts (members_of (annotated_body ts ms end)) ≡ members_texts ms
annotated_body_text ts [] end = refl
annotated_body_text ts (m ∷ ms) end = ap (λ x. x ++ members_texts ms) (annotated_member_text ts m)

pub members_shown : (v w : PlainValue) (t u : Texts) → t ≡ members_texts (members_of v) → u ≡ members_texts (members_of w) ++ codes "}" ∷ []
    → t ++ u ≡ members_texts (members_of v ++ members_of w) ++ codes "}" ∷ []
members_shown v w t u h k =
    two (λ x y. x ++ y) h k
    ∙ sym (append_assoc (members_texts (members_of v)) (members_texts (members_of w)) (codes "}" ∷ []))
    ∙ ap (λ x. x ++ codes "}" ∷ []) (sym (flat_map-append member_texts (members_of v) (members_of w)))

pub negated_text : (n : ℕ) → negated_texts n ≡ integer_texts (negated n)
negated_text zero = refl
negated_text (suc n) = refl

-- ---- parameters

pub first_parameter : (v w : PlainValue) (t u : Texts) → IsParameter v t → u ≡ behind_commas (map parameter_texts (parameters_of w)) ++ codes ")" ∷ []
    → t ++ u ≡ separated (map parameter_texts (parameters_of v ++ parameters_of w)) ++ codes ")" ∷ []
first_parameter v w t u (p, is, et) k =
    two (λ x y. x ++ y) et k
    ∙ sym (append_assoc (parameter_texts p) (behind_commas (map parameter_texts (parameters_of w))) (codes ")" ∷ []))
    ∙ sym (ap (λ ps. separated (map parameter_texts (ps ++ parameters_of w)) ++ codes ")" ∷ []) is)

pub next_parameter : (v w : PlainValue) (t u : Texts) → IsParameter v t → u ≡ behind_commas (map parameter_texts (parameters_of w)) ++ codes ")" ∷ []
    → codes "," ∷ (t ++ u) ≡ behind_commas (map parameter_texts (parameters_of v ++ parameters_of w)) ++ codes ")" ∷ []
next_parameter v w t u (p, is, et) k =
    ap (λ x. codes "," ∷ x) (two (λ x y. x ++ y) et k ∙ sym (append_assoc (parameter_texts p) (behind_commas (map parameter_texts (parameters_of w))) (codes ")" ∷ [])))
    ∙ sym (ap (λ ps. behind_commas (map parameter_texts (ps ++ parameters_of w)) ++ codes ")" ∷ []) is)

-- ---- declarations

pub routine_text : (v w : PlainValue) (t u r : Texts) → t ≡ separated (map parameter_texts (parameters_of v)) ++ codes ")" ∷ [] → u ≡ [] → IsBlock w r
    → codes "(" ∷ (t ++ (u ++ r)) ≡ routine_texts (parameters_of v) (statements_of w)
routine_text v w t u r h k l =
    three (λ a b c. codes "(" ∷ (a ++ (b ++ c))) h k (block_text w r l)
    ∙ ap (λ x. codes "(" ∷ x)
    (append_assoc (separated (map parameter_texts (parameters_of v))) (codes ")" ∷ []) (codes "{" ∷ (stmts_texts (java_stmts (statements_of w)) ++ codes "}" ∷ [])))

abbrev one_member : Bool → ℕ → List PlainSpecBlock → PlainValue → Texts
one_member static at blocks v = members_texts (members_of (member_at at static blocks v))

routine_member : (static : Bool) (at : ℕ) (blocks : List PlainSpecBlock) (given : JavaResult) (x : PlainIdentifier) (ps : List JavaParameter) (ss : List JavaStmt)
    → static_texts (is_static static given) ++ (result_texts given ++ (x.name ∷ routine_texts ps ss)) ≡ one_member static at blocks (values.Declaration given x (values.Routine ps ss))
routine_member static at blocks given x ps ss = sym (append-nil (static_texts (is_static static given) ++ (result_texts given ++ (x.name ∷ routine_texts ps ss))))

field_member : (static : Bool) (at : ℕ) (blocks : List PlainSpecBlock) (t : PlainWritten) (x : PlainIdentifier) (xs : List PlainIdentifier)
    → type_texts t.written ++ (x.name ∷ (behind_commas (names_texts xs) ++ codes ";" ∷ [])) ≡ one_member static at blocks (values.Declaration (java.Gives t) x (values.FieldNames xs))
field_member static at blocks t x xs = sym (append-nil (type_texts t.written ++ (x.name ∷ (behind_commas (names_texts xs) ++ codes ";" ∷ []))))

pub void_shown : (v w : PlainValue) (t u : Texts) → IsNamed v t → IsMethod w u → IsDeclaration (values.Declaration java.Void (name_of v) (declared_of w)) (codes "void" ∷ (t ++ u)) false
void_shown v w t u h (ps, ss, is, et) static q at blocks =
    two (λ x y. static_texts static ++ codes "void" ∷ (x ++ y)) (name_text v t h) et
    ∙ routine_member static at blocks java.Void (name_of v) ps ss
    ∙ sym (ap (λ x. one_member static at blocks (values.Declaration java.Void (name_of v) (declared_of x))) is)

pub typed_shown : (y : PlainWritten) (v w : PlainValue) (t u : Texts) → IsNamed v t → IsDeclared w u
    → IsDeclaration (values.Declaration (java.Gives y) (name_of v) (declared_of w)) (type_texts y.written ++ (t ++ u)) false
typed_shown y v w t u h (inl (ps, ss, is, et)) static q at blocks =
    two (λ a b. static_texts static ++ (type_texts y.written ++ (a ++ b))) (name_text v t h) et
    ∙ routine_member static at blocks (java.Gives y) (name_of v) ps ss
    ∙ sym (ap (λ x. one_member static at blocks (values.Declaration (java.Gives y) (name_of v) (declared_of x))) is)
typed_shown y v w t u h (inr (xs, is, et)) static q at blocks =
    let off : static ≡ false = subst (λ x. IsStaticAsDeclared static (values.Declaration (java.Gives y) (name_of v) (declared_of x))) is q in
    three (λ s a b. static_texts s ++ (type_texts y.written ++ (a ++ b))) off (name_text v t h) et
    ∙ field_member static at blocks y (name_of v) xs
    ∙ sym (ap (λ x. one_member static at blocks (values.Declaration (java.Gives y) (name_of v) (declared_of x))) is)

pub int_shown : (ts : List PlainLexeme) (v w : PlainValue) (t u : Texts) → IsNamed v t → IsIntDeclared w u
    → IsDeclaration (int_declaration ts (values.Declarator false (name_of v) (declared_of w))) (codes "int" ∷ (t ++ u)) false
int_shown ts v w t u h (inl k) = typed_shown (type_at ts (int_type false)) v w t u h k
int_shown ts v w t u h (inr (z, is, et)) = λ static q at blocks.
    let on : static ≡ true = subst (λ x. IsStaticAsDeclared static (values.Declaration (java.Gives (type_at ts (int_type false))) (name_of v) (declared_of x))) is q in
    three (λ s a b. static_texts s ++ codes "int" ∷ (a ++ b)) on (name_text v t h) et
    ∙ sym (append-nil (codes "static" ∷ codes "int" ∷ (name_of v).name ∷ codes "=" ∷ (integer_texts z ++ codes ";" ∷ [])))
    ∙ sym (ap (λ x. one_member static at blocks (values.Declaration (java.Gives (type_at ts (int_type false))) (name_of v) (declared_of x))) is)

pub constructor_shown : (ts : List PlainLexeme) (ps : List JavaParameter) (ss : List JavaStmt) (t : Texts) → t ≡ routine_texts ps ss
    → IsDeclaration (named_declaration ts (values.Declared (values.Routine ps ss))) (text_of ts ∷ t) true
constructor_shown ts ps ss t e static q at blocks = ap (λ x. text_of ts ∷ x) e ∙ routine_member static at blocks java.OfConstructor (identifier_at ts) ps ss
