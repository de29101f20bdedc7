-- How high the values of nodes are, and what they are put together to.
use Rattle.std.proofs.Common.{◌≡◌, ℕ, suc, ◌+◌, ◌≤◌, max, List, [], ◌∷◌, ◌++◌, length, Option, Some, None, refl, sym, ap, ◌∙◌, arith, Bool}
use Rattle.jd_java_tokens.specs.Contents.{PlainLexeme}
use Rattle.jd_syntax.specs.JavaTypes.{PlainIdentifier}
use Rattle.jd_syntax.specs.SpecTrees.{PlainSpecBlock}
use Rattle.jd_syntax.specs.JavaTrees as java
use Rattle.jd_syntax.specs.JavaTrees.{JavaExpr, java_exprs, JavaStmt, java_stmts, JavaHandler, java_handlers, JavaMember, FieldMember, ConstantMember, MethodMember, JavaClass}
use Rattle.jd_java_values.specs.Values as values
use Rattle.jd_java_values.specs.Values.{PlainSuffix, PlainStart, PlainDeclared, FieldNames, Routine, Constant, PlainValue}
use Rattle.jd_java_values.specs.Parts.{statement_of, some_statement, statements_of, some_statements, declared_of, members_of}
use Rattle.jd_java_expressions.specs.Applying.{applied, all_applied, named, joined, begun}
use Rattle.jd_java_statements.specs.Meaning.{annotated, if_statement, try_statement}
use Rattle.jd_java_members.specs.Meaning as member
use Rattle.jd_java_members.specs.Meaning.{annotated_body, member_at, int_declaration, named_declaration}
use Rattle.jd_java_heights.specs.Heights.{expr_height, exprs_height, highest_in_stmt, highest_in_stmts, highest_in_handlers, highest_in_handler, stmt_height, stmts_height, handler_height, handlers_height, highest_in_member, member_height, highest_in_members, members_height, highest_in_classes, classes_height}

-- ---- what stands behind an operand

-- that of the highest expression in it
abbrev pub suffix_height : PlainSuffix → ℕ
suffix_height (values.Infix o e) = expr_height e
suffix_height (values.InstanceOf t) = 0
suffix_height (values.Assign o e) = expr_height e
suffix_height (values.Choice a b) = max (expr_height a) (expr_height b)
suffix_height (values.Member x) = 0
suffix_height (values.Method x es) = exprs_height (java_exprs es)
suffix_height (values.Element i) = expr_height i
suffix_height (values.Count o) = 0

-- how high at least the whole is
abbrev pub at_least : List PlainSuffix → ℕ
at_least [] = 0
at_least (s ∷ ss) = max (1 + suffix_height s + length ss) (at_least ss)

next_level : (n l a : ℕ) → n ≤ a → suc n ≤ max (1 + l + n) a
next_level n l a le = omega arith

pub levels_least : (ss : List PlainSuffix) → length ss ≤ at_least ss
levels_least [] = omega arith
levels_least (s ∷ ss) = next_level (length ss) (suffix_height s) (at_least ss) (levels_least ss)

next_length : (n l r : ℕ) → n ≡ l + r → suc n ≡ suc l + r
next_length n l r e = omega arith

no_length : (n : ℕ) → n ≡ 0 + n
no_length n = omega arith

pub length_behind : (ss rs : List PlainSuffix) → length (ss ++ rs) ≡ length ss + length rs
length_behind [] rs = no_length (length rs)
length_behind (s ∷ ss) rs = next_length (length (ss ++ rs)) (length ss) (length rs) (length_behind ss rs)

none_first : (r b : ℕ) → r ≤ b → b ≡ max (0 + r) b
none_first r b le = omega arith

one_first : (s n l r c a b : ℕ) → n ≡ l + r → c ≡ max (a + r) b → max (1 + s + n) c ≡ max (max (1 + s + l) a + r) b
one_first s n l r c a b e g = omega arith

pub least_behind : (ss rs : List PlainSuffix) → at_least (ss ++ rs) ≡ max (at_least ss + length rs) (at_least rs)
least_behind [] rs = none_first (length rs) (at_least rs) (levels_least rs)
least_behind (s ∷ ss) rs =
    one_first (suffix_height s) (length (ss ++ rs)) (length ss) (length rs) (at_least (ss ++ rs)) (at_least ss) (at_least rs) (length_behind ss rs) (least_behind ss rs)

one_more : (n : ℕ) → 1 + n ≡ 1 + max n 0
one_more n = omega arith

applied_height : (e : JavaExpr) (s : PlainSuffix) → expr_height (applied e s) ≡ 1 + max (expr_height e) (suffix_height s)
applied_height e (values.Infix o r) = refl
applied_height e (values.InstanceOf t) = one_more (expr_height e)
applied_height e (values.Assign o r) = refl
applied_height e (values.Choice a b) = refl
applied_height e (values.Member x) = one_more (expr_height e)
applied_height e (values.Method x es) = refl
applied_height e (values.Element i) = refl
applied_height e (values.Count o) = one_more (expr_height e)

none_behind : (n : ℕ) → n ≡ max (n + 0) 0
none_behind n = omega arith

one_behind : (n e s l a : ℕ) → n ≡ 1 + max e s → max (n + l) a ≡ max (e + suc l) (max (1 + s + l) a)
one_behind n e s l a is = omega arith

pub applied_heights : (e : JavaExpr) (ss : List PlainSuffix) → expr_height (all_applied e ss) ≡ max (expr_height e + length ss) (at_least ss)
applied_heights e [] = none_behind (expr_height e)
applied_heights e (s ∷ ss) =
    applied_heights (applied e s) ss ∙ one_behind (expr_height (applied e s)) (expr_height e) (suffix_height s) (length ss) (at_least ss) (applied_height e s)

-- ---- names and calls

abbrev pub call_height : Option (List JavaExpr) → ℕ
call_height None = 0
call_height (Some es) = 1 + exprs_height (java_exprs es)

pub named_height : (at : ℕ) (x : List ℕ) (es : Option (List JavaExpr)) → expr_height (named at x es) ≡ call_height es
named_height at x None = refl
named_height at x (Some es) = refl

one_level : 1 ≡ max 1 0
one_level = omega arith

call_level : (n : ℕ) → 1 + n ≡ max 1 (1 + n)
call_level n = omega arith

pub joined_height : (x : PlainIdentifier) (es : Option (List JavaExpr)) → 1 + suffix_height (joined x es) ≡ max 1 (call_height es)
joined_height x None = one_level
joined_height x (Some es) = call_level (exprs_height (java_exprs es))

-- ---- what begins in parentheses or behind `new`

abbrev pub start_height : PlainStart → ℕ
start_height (values.Inside e) = 1 + expr_height e
start_height (values.Cast t e) = 1 + expr_height e
start_height (values.Object x es) = 1 + exprs_height (java_exprs es)
start_height (values.Array e) = 1 + expr_height e

pub begun_height : (at : ℕ) (s : PlainStart) → expr_height (begun at s) ≡ start_height s
begun_height at (values.Inside e) = refl
begun_height at (values.Cast t e) = refl
begun_height at (values.Object x es) = refl
begun_height at (values.Array e) = refl

-- ---- statements

none_above : (n : ℕ) → n ≡ max n 0
none_above n = omega arith

-- an `if`, of which what stands behind `else` may be nothing
pub if_highest : (at : ℕ) (c : JavaExpr) (s : JavaStmt) (v : PlainValue)
    → max (expr_height c) (max (highest_in_stmt s) (highest_in_stmt (statement_of v))) ≡ highest_in_stmt (if_statement at c s (some_statement v))
if_highest at c s (values.Statement t) = refl
if_highest at c s _ = ap (max (expr_height c)) (sym (none_above (highest_in_stmt s)))

pub if_height : (at : ℕ) (c : JavaExpr) (s : JavaStmt) (v : PlainValue)
    → 1 + max (stmt_height s) (stmt_height (statement_of v)) ≡ stmt_height (if_statement at c s (some_statement v))
if_height at c s (values.Statement t) = refl
if_height at c s _ = ap (λ x. 1 + x) (sym (none_above (stmt_height s)))

pub annotated_highest : (b : PlainSpecBlock) (s : JavaStmt) → highest_in_stmt (annotated b s) ≡ highest_in_stmt s
annotated_highest b (java.While at before c s) = refl
annotated_highest b (java.For at before start c update s) = refl
annotated_highest b (java.Label at before l s) = refl
annotated_highest b _ = refl

pub annotated_height : (b : PlainSpecBlock) (s : JavaStmt) → stmt_height (annotated b s) ≡ stmt_height s
annotated_height b (java.While at before c s) = refl
annotated_height b (java.For at before start c update s) = refl
annotated_height b (java.Label at before l s) = refl
annotated_height b _ = refl

abbrev pub highest_in_some : Option (List JavaStmt) → ℕ
highest_in_some None = 0
highest_in_some (Some ss) = highest_in_stmts (java_stmts ss)

abbrev pub some_stmts_height : Option (List JavaStmt) → ℕ
some_stmts_height None = 0
some_stmts_height (Some ss) = stmts_height (java_stmts ss)

pub some_highest : (v : PlainValue) → highest_in_stmts (java_stmts (statements_of v)) ≡ highest_in_some (some_statements v)
some_highest (values.Statements ss) = refl
some_highest _ = refl

pub some_height_is : (v : PlainValue) → stmts_height (java_stmts (statements_of v)) ≡ some_stmts_height (some_statements v)
some_height_is (values.Statements ss) = refl
some_height_is _ = refl

pub try_highest : (at : ℕ) (ss : List JavaStmt) (hs : List JavaHandler) (o : Option (List JavaStmt))
    → max (highest_in_stmts (java_stmts ss)) (max (highest_in_handlers (java_handlers hs)) (highest_in_some o)) ≡ highest_in_stmt (try_statement at ss hs o)
try_highest at ss hs None = ap (max (highest_in_stmts (java_stmts ss))) (sym (none_above (highest_in_handlers (java_handlers hs))))
try_highest at ss hs (Some ts) = refl

pub try_height : (at : ℕ) (ss : List JavaStmt) (hs : List JavaHandler) (o : Option (List JavaStmt))
    → 1 + max (stmts_height (java_stmts ss)) (max (handlers_height (java_handlers hs)) (some_stmts_height o)) ≡ stmt_height (try_statement at ss hs o)
try_height at ss hs None = ap (λ n. 1 + max (stmts_height (java_stmts ss)) n) (sym (none_above (handlers_height (java_handlers hs))))
try_height at ss hs (Some ts) = refl

max_none_first : (n : ℕ) → n ≡ max 0 n
max_none_first n = omega arith

max_grouped : (a b c : ℕ) → max a (max b c) ≡ max (max a b) c
max_grouped a b c = omega arith

pub handlers_highest : (hs gs : List JavaHandler)
    → highest_in_handlers (java_handlers (hs ++ gs)) ≡ max (highest_in_handlers (java_handlers hs)) (highest_in_handlers (java_handlers gs))
handlers_highest [] gs = max_none_first (highest_in_handlers (java_handlers gs))
handlers_highest (h ∷ hs) gs =
    ap (max (highest_in_handler h)) (handlers_highest hs gs) ∙ max_grouped (highest_in_handler h) (highest_in_handlers (java_handlers hs)) (highest_in_handlers (java_handlers gs))

pub handlers_behind : (hs gs : List JavaHandler)
    → handlers_height (java_handlers (hs ++ gs)) ≡ max (handlers_height (java_handlers hs)) (handlers_height (java_handlers gs))
handlers_behind [] gs = max_none_first (handlers_height (java_handlers gs))
handlers_behind (h ∷ hs) gs = ap (max (handler_height h)) (handlers_behind hs gs) ∙ max_grouped (handler_height h) (handlers_height (java_handlers hs)) (handlers_height (java_handlers gs))

-- ---- members

abbrev pub highest_in_declared : PlainDeclared → ℕ
highest_in_declared (Routine ps ss) = highest_in_stmts (java_stmts ss)
highest_in_declared _ = 0

abbrev pub declared_height : PlainDeclared → ℕ
declared_height (Routine ps ss) = stmts_height (java_stmts ss)
declared_height _ = 0

-- behind the first token of a type, and behind a type
abbrev pub declarator_in : PlainValue → PlainDeclared
declarator_in (values.Declarator array x d) = d
declarator_in v = declared_of v

abbrev pub declaration_in : PlainValue → PlainDeclared
declaration_in (values.Declaration gives x d) = d
declaration_in _ = FieldNames []

pub int_in : (ts : List PlainLexeme) (v : PlainValue) → declarator_in v ≡ declaration_in (int_declaration ts v)
int_in ts (values.Declarator array x d) = refl
int_in ts _ = refl

pub named_in : (ts : List PlainLexeme) (v : PlainValue) → declarator_in v ≡ declaration_in (named_declaration ts v)
named_in ts (values.Declarator array x d) = refl
named_in ts _ = refl

pub member_highest : (at : ℕ) (static : Bool) (blocks : List PlainSpecBlock) (v : PlainValue)
    → highest_in_declared (declaration_in v) ≡ highest_in_members (members_of (member_at at static blocks v))
member_highest at static blocks (values.Declaration gives x (FieldNames xs)) = none_above 0
member_highest at static blocks (values.Declaration gives x (Constant n)) = none_above 0
member_highest at static blocks (values.Declaration gives x (Routine ps ss)) = none_above (highest_in_stmts (java_stmts ss))
member_highest at static blocks _ = refl

pub member_height_is : (at : ℕ) (static : Bool) (blocks : List PlainSpecBlock) (v : PlainValue)
    → declared_height (declaration_in v) ≡ members_height (members_of (member_at at static blocks v))
member_height_is at static blocks (values.Declaration gives x (FieldNames xs)) = none_above 0
member_height_is at static blocks (values.Declaration gives x (Constant n)) = none_above 0
member_height_is at static blocks (values.Declaration gives x (Routine ps ss)) = none_above (stmts_height (java_stmts ss))
member_height_is at static blocks _ = refl

same_highest : (ts : List PlainLexeme) (m : JavaMember) → highest_in_member m ≡ highest_in_member (member.annotated ts m)
same_highest ts (FieldMember f) = refl
same_highest ts (ConstantMember c) = refl
same_highest ts (MethodMember m) = refl

same_height : (ts : List PlainLexeme) (m : JavaMember) → member_height m ≡ member_height (member.annotated ts m)
same_height ts (FieldMember f) = refl
same_height ts (ConstantMember c) = refl
same_height ts (MethodMember m) = refl

pub body_highest : (ts : List PlainLexeme) (ms : List JavaMember) (end : Option PlainSpecBlock)
    → highest_in_members ms ≡ highest_in_members (members_of (annotated_body ts ms end))
body_highest ts [] end = refl
body_highest ts (m ∷ ms) end = ap (λ x. max x (highest_in_members ms)) (same_highest ts m)

pub body_height : (ts : List PlainLexeme) (ms : List JavaMember) (end : Option PlainSpecBlock)
    → members_height ms ≡ members_height (members_of (annotated_body ts ms end))
body_height ts [] end = refl
body_height ts (m ∷ ms) end = ap (λ x. max x (members_height ms)) (same_height ts m)

pub members_highest : (ms ns : List JavaMember) → max (highest_in_members ms) (highest_in_members ns) ≡ highest_in_members (ms ++ ns)
members_highest [] ns = sym (max_none_first (highest_in_members ns))
members_highest (m ∷ ms) ns =
    sym (max_grouped (highest_in_member m) (highest_in_members ms) (highest_in_members ns)) ∙ ap (max (highest_in_member m)) (members_highest ms ns)

pub members_behind : (ms ns : List JavaMember) → max (members_height ms) (members_height ns) ≡ members_height (ms ++ ns)
members_behind [] ns = sym (max_none_first (members_height ns))
members_behind (m ∷ ms) ns = sym (max_grouped (member_height m) (members_height ms) (members_height ns)) ∙ ap (max (member_height m)) (members_behind ms ns)

pub classes_highest : (cs ds : List JavaClass) → max (highest_in_classes cs) (highest_in_classes ds) ≡ highest_in_classes (cs ++ ds)
classes_highest [] ds = sym (max_none_first (highest_in_classes ds))
classes_highest (c ∷ cs) ds =
    sym (max_grouped (highest_in_members c.members) (highest_in_classes cs) (highest_in_classes ds)) ∙ ap (max (highest_in_members c.members)) (classes_highest cs ds)

pub classes_behind : (cs ds : List JavaClass) → max (classes_height cs) (classes_height ds) ≡ classes_height (cs ++ ds)
classes_behind [] ds = sym (max_none_first (classes_height ds))
classes_behind (c ∷ cs) ds = sym (max_grouped (members_height c.members) (classes_height cs) (classes_height ds)) ∙ ap (max (members_height c.members)) (classes_behind cs ds)
