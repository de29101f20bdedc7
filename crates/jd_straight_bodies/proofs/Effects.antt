-- Statements that are expressions, and declarations of locals.
use Rattle.std.proofs.Common.{List, None, Option, Some, [], Result, Ok, length, refl, sym, ap, arith, subst, Bool, true, false, ◌++◌, ◌+◌, ◌∙◌, ◌∷◌, ◌≡◌, ◌≤◌, ℕ, is_none}
use Rattle.std.proofs.lemmas.List.{append-nil, length-append}
use Rattle.jd_bodies.specs.declared.fault.Cause.{Cause}
use Rattle.jd_bodies.specs.declared.fault.Fault.{Fault}
use Rattle.jd_bodies.specs.declared.given.Given.{Given}
use Rattle.jd_bodies.specs.declared.place.Place.{Place}
use Rattle.jd_bodies.specs.declared.value.ValueType.{ValueType}
use Rattle.jd_bodies.specs.declared.value.ValueType.TheVariants as types
use Rattle.jd_bodies.specs.declared.value.Variable.{Variable}
use Rattle.jd_bodies.specs.declared.value.Variable.TheVariants as variables
use Rattle.jd_bodies.specs.Bodies.{assign_lines, behind_default, call_lines, change_lines, declared_lines, default, default_set, effect_lines, in_scope, initial_lines, prefix_lines, set_lines, static_on, with_stmt}
use Rattle.jd_bodies.specs.Codes.{Made, NoTarget, Target, ToElement, ToField, ToLocal, assignment_operation, code_of, count_operation, field_target, member_target, name_target, one, target_of, type_before}
use Rattle.jd_bodies.specs.Declarations.{Declarations}
use Rattle.jd_bodies.specs.Expressions.{at_of, class_before, given, assign_by, target as target_type, value, valued, wanted}
use Rattle.jd_bodies.specs.Judgements.{and_then, only_if}
use Rattle.jd_bodies.specs.Jumps.{names as names_in}
use Rattle.jd_bodies.specs.Scopes.{Local, Scope, local_named, meaning_by}
use Rattle.jd_bodies.specs.Statements as judged
use Rattle.jd_bodies.specs.Statements.{declared_names, optional_part, with_name}
use Rattle.jd_bodies.specs.Variables.{Progress, local_name, with_local}
use Rattle.jd_expression_temporaries.specs.Growing.{Grows}
use Rattle.jd_expression_temporaries.specs.Laws.{ExpressionsAddTemporaries}
use Rattle.jd_local_texts.specs.Laws.{TextsOfLocalsAreApart}
use Rattle.jd_syntax.specs.Codes as code
use Rattle.jd_syntax.specs.Codes.{Stmt}
use Rattle.jd_syntax.specs.JavaTrees as java
use Rattle.jd_syntax.specs.JavaTypes.{PlainIdentifier}
use Rattle.jd_syntax.specs.JavaTrees.{JavaDeclarator, JavaExpr, JavaExprs}
use Rattle.jd_syntax.specs.declared.code.BinaryOp.{BinaryOp}
use Rattle.jd_syntax.specs.declared.java.PrefixOperator.{PrefixOperator}
use Rattle.jd_syntax.specs.declared.java.PrefixOperator.TheVariants as prefixes
use Rattle.jd_tgrammar.specs.NameTables.{NameTable}
use Rattle.jd_variable_words.specs.Words.{DeclaratorsHaveWords}
use Rattle.jd_straight_bodies.proofs.Found.{Behind, IsFound, Stands, entered, grown, joined, limit, more_behind, new_behind, new_found, still, wider}
use Rattle.jd_straight_bodies.proofs.Lines.{AreStraight, Walks, earlier, none_walk, return_known, set_known, straight_parts, then_walks}
use Rattle.jd_straight_bodies.proofs.Simple.{IsFine, IsTable, expr_fine, found_known, given_of, through}

-- ---- what is assigned

abbrev pub IsTarget : List Local → Target → Type 0
IsTarget locals (ToLocal x t) = local_named locals x ≡ Some t
IsTarget locals w = Unit {0}

name_target_is : (locals : List Local) (this : ValueType) (x : List ℕ) (o : Option ValueType) (v : Option Variable) → local_named locals x ≡ o → IsTarget locals (name_target this x (meaning_by o v))
name_target_is locals this x (Some t) v e = e
name_target_is locals this x None None e = tt
name_target_is locals this x None (Some (variables.Field f t)) e = tt
name_target_is locals this x None (Some (variables.Constant n)) e = tt

field_target_is : (locals : List Local) (object : Progress → Made) (t : ValueType) (v : Option Variable) → IsTarget locals (field_target object t v)
field_target_is locals object t (Some (variables.Field f u)) = tt
field_target_is locals object t (Some (variables.Constant n)) = tt
field_target_is locals object t None = tt

member_target_is : (d : Declarations) (locals : List Local) (object : Progress → Made) (x : List ℕ) (c : Option ℕ) (t : ValueType) → IsTarget locals (member_target d object x c t)
member_target_is d locals object x (Some c) t = tt
member_target_is d locals object x None (types.Class c) = field_target_is locals object (types.Class c) (d.variable c x)
member_target_is d locals object x None t = tt

target_is : (d : Declarations) (place : Place) (locals : List Local) (e : JavaExpr) → IsTarget locals (target_of d place locals e)
target_is d place locals (java.Name at x) = name_target_is locals (types.Class place.class) x (local_named locals x) (d.variable place.class x) refl
target_is d place locals (java.Field at e x) = member_target_is d locals (code_of d place locals e) x.name (class_before d place locals e) (type_before d place locals e)
target_is d place locals (java.Parenthesized at e) = target_is d place locals e
target_is d place locals (java.Index at a i) = tt
target_is d place locals e = tt

-- where nothing is known of what has another form
differs : {A : Type 0} → false ≡ true → A
differs e = absurd cc

-- ---- assignments

-- a value that is made in this state adds temporaries, and is known where what it names is
pub record Value (p : Progress) (v : Progress → Made) : Type 0 where
  pub grows : Grows p (v p).0
  pub fine : (names : NameTable) → IsTable names p → IsFine names (v p).1

-- a local that is there is set, or a value returned
pub set_walks : (p : Progress) (locals : List Local) (x : List ℕ) (t : ValueType) (v : Progress → Made) → TextsOfLocalsAreApart → length p.names ≤ limit → Stands p locals → IsFound p x t → Value p v
    → AreStraight (with_stmt (code.Set (local_name p.names x t)) (v p)).1 → Walks p (v p).0 locals locals 0 (code.Set (local_name p.names x t) (v p).1 ∷ [])
set_walks p locals x t v texts few s f w straight = record {
  behind = grown p (v p).0 locals 0 s.made w.grows;
  stands = still p (v p).0 locals 0 s (grown p (v p).0 locals 0 s.made w.grows);
  wider_ = λ y u e. e;
  known = λ names table.
      let before = earlier names p (v p).0 w.grows.more w.grows.is table in
      (set_known names (local_name p.names x t) (v p).1 (found_known texts names p before few x t f) straight.0 (w.fine names before), tt);
}

pub return_walks : (p : Progress) (locals : List Local) (v : Progress → Made) → Stands p locals → Value p v → AreStraight (with_stmt code.Return (v p)).1 → Walks p (v p).0 locals locals 0 (code.Return (v p).1 ∷ [])
return_walks p locals v s w straight = record {
  behind = grown p (v p).0 locals 0 s.made w.grows;
  stands = still p (v p).0 locals 0 s (grown p (v p).0 locals 0 s.made w.grows);
  wider_ = λ y u e. e;
  known = λ names table. (return_known names (v p).1 straight.0 (w.fine names (earlier names p (v p).0 w.grows.more w.grows.is table)), tt);
}

pub same_ok : (s t : Scope) → ◌≡◌ {A = Result Scope Fault} (Ok s) (Ok t) → s ≡ t
same_ok s t e = cc

-- with one more name before
entering : (p q r : Progress) (locals inner behind_ : List Local) (j k : ℕ) (ss : List Stmt) → ((x : List ℕ) (u : ValueType) → local_named locals x ≡ Some u → local_named inner x ≡ Some u) → Behind p q locals 1 → 1 + j ≤ k
    → Walks q r inner behind_ j ss → Walks p r locals behind_ k ss
entering p q r locals inner behind_ j k ss wide new le w = record {
  behind = more_behind p r locals (1 + j) k le (joined p q r locals inner 1 j wide new w.behind);
  stands = w.stands;
  wider_ = λ x u e. w.wider_ x u (wide x u e);
  known = w.known;
}

-- what is in scope behind a name, and that it was not in scope
pub named_once : (o : Option ValueType) (at : ℕ) (c : Cause) (s t : Scope) → only_if (is_none o) at c s ≡ Ok t → (o ≡ None) × (s ≡ t)
named_once None at c s t e = (refl, same_ok s t e)
named_once (Some u) at c s t e = absurd cc

module _ (texts : TextsOfLocalsAreApart) where
  set_lines_walk : (p : Progress) (locals : List Local) (target : Target) (v : Progress → Made) → IsTarget locals target → length p.names ≤ limit → Stands p locals → Value p v
      → AreStraight (set_lines target v p).1 → Walks p (set_lines target v p).0 locals locals 0 (set_lines target v p).1
  set_lines_walk p locals (ToLocal x t) v is few s w straight = set_walks p locals x t v texts few s (s.found x t is) w straight
  set_lines_walk p locals (ToField object ot f t) v is few s w straight = absurd straight.0
  set_lines_walk p locals (ToElement a i) v is few s w straight = absurd straight.0
  set_lines_walk p locals NoTarget v is few s w straight = none_walk p locals s

  -- where a part is computed, no statement is straight
  change_lines_walk : (p : Progress) (locals : List Local) (op : BinaryOp) (target : Target) (v : Progress → Made) → Stands p locals → AreStraight (change_lines op target v p).1 → Walks p (change_lines op target v p).0 locals locals 0 (change_lines op target v p).1
  change_lines_walk p locals op (ToLocal x t) v s straight = differs straight.0.0
  change_lines_walk p locals op (ToField object ot f t) v s straight = differs straight.1.0.0
  change_lines_walk p locals op (ToElement a i) v s straight = differs straight.1.1.0.0
  change_lines_walk p locals op NoTarget v s straight = none_walk p locals s

  assign_lines_walk : (p : Progress) (locals : List Local) (o : Option BinaryOp) (target : Target) (v : Progress → Made) → IsTarget locals target → length p.names ≤ limit → Stands p locals → Value p v
      → AreStraight (assign_lines o target v p).1 → Walks p (assign_lines o target v p).0 locals locals 0 (assign_lines o target v p).1
  assign_lines_walk p locals None target v is few s w straight = set_lines_walk p locals target v is few s w straight
  assign_lines_walk p locals (Some op) target v is few s w straight = change_lines_walk p locals op target v s straight

  prefix_lines_walk : (p : Progress) (locals : List Local) (o : PrefixOperator) (target : Target) → Stands p locals → AreStraight (prefix_lines o target p).1 → Walks p (prefix_lines o target p).0 locals locals 0 (prefix_lines o target p).1
  prefix_lines_walk p locals (prefixes.Count c) target s straight = change_lines_walk p locals (count_operation c) target one s straight
  prefix_lines_walk p locals prefixes.Plus _ s straight = none_walk p locals s
  prefix_lines_walk p locals prefixes.Minus _ s straight = none_walk p locals s
  prefix_lines_walk p locals prefixes.Not _ s straight = none_walk p locals s

  module _ (adds : ExpressionsAddTemporaries) (d : Declarations) (place : Place) (static : place.is_static ≡ true) where
    -- the value of an expression that is not refused
    pub value_of_expr : (locals : List Local) (p : Progress) (e : JavaExpr) (g : Given) → length p.names ≤ limit → Stands p locals → given d place locals e ≡ Ok g → Value p (code_of d place locals e)
    value_of_expr locals p e g few s is = record { grows = adds d place locals e p; fine = λ names table. expr_fine names d texts place static locals p table few s e g is }

    no_call : (locals : List Local) (o : Option ℕ) (e : JavaExpr) (es : JavaExprs) (whole : JavaExpr) (p : Progress) → AreStraight (call_lines d place locals o e es whole p).1 → ⊥
    no_call locals None e es whole p straight = straight.0
    no_call locals (Some m) e es whole p straight = straight.1.0

    assigned_given : (locals : List Local) (at : ℕ) (o : _) (e v : JavaExpr) (g : Given) → given d place locals (java.Assign at o e v) ≡ Ok g → (h : Given) × (given d place locals v ≡ Ok h)
    assigned_given locals at o e v g is =
        let h = through (λ t. and_then (assign_by d o (at_of e) t (at_of v)) (valued (at_of v) (given d place locals v))) (target_type (at_of e) (given d place locals e)) g is in
        let i = through (assign_by d o (at_of e) h.0 (at_of v)) (valued (at_of v) (given d place locals v)) g h.2 in
        given_of (at_of v) (given d place locals v) i.0 i.1

    pub effect_walks : (locals : List Local) (e : JavaExpr) (g : Given) (p : Progress) → given d place locals e ≡ Ok g → length p.names ≤ limit → Stands p locals
        → AreStraight (effect_lines d place locals e p).1 → Walks p (effect_lines d place locals e p).0 locals locals 0 (effect_lines d place locals e p).1
    effect_walks locals (java.Assign at o e v) g p is few s straight =
        let h = assigned_given locals at o e v g is in
        assign_lines_walk p locals (assignment_operation o) (target_of d place locals e) (code_of d place locals v) (target_is d place locals e) few s (value_of_expr locals p v h.0 few s h.1) straight
    effect_walks locals (java.Prefix at o e) g p is few s straight = prefix_lines_walk p locals o (target_of d place locals e) s straight
    effect_walks locals (java.Postfix at c e) g p is few s straight = change_lines_walk p locals (count_operation c) (target_of d place locals e) one s straight
    effect_walks locals (java.MethodCall at e m es) g p is few s straight =
        absurd (no_call locals (static_on d m.name (class_before d place locals e) (type_before d place locals e)) e es (java.MethodCall at e m es) p straight)
    effect_walks locals e g p is few s straight = absurd straight.0

    -- ---- declarations

    default_fine : (names : NameTable) (t : ValueType) → IsFine names (default t)
    default_fine names types.Int = tt
    default_fine names types.Boolean = tt
    default_fine names types.Null = tt
    default_fine names types.IntArray = tt
    default_fine names (types.Class c) = tt
    default_fine names types.Missing = tt

    default_value : (p : Progress) (t : ValueType) → Value p (λ q. (q, default t))
    default_value p t = record { grows = record { more = []; is = sym (append-nil p.variables); marked = tt; names = refl }; fine = λ names table. default_fine names t }

    behind_walks : (b : Bool) (locals : List Local) (x : List ℕ) (t : ValueType) (v : Progress → Made) (p : Progress) → length p.names ≤ limit → Stands p locals → IsFound p x t → Value p v
        → AreStraight (behind_default b (local_name p.names x t) t (with_stmt (code.Set (local_name p.names x t)) (v p))).1
        → Walks p (behind_default b (local_name p.names x t) t (with_stmt (code.Set (local_name p.names x t)) (v p))).0 locals locals 0 (behind_default b (local_name p.names x t) t (with_stmt (code.Set (local_name p.names x t)) (v p))).1
    behind_walks false locals x t v p few s f w straight = set_walks p locals x t v texts few s f w straight
    behind_walks true locals x t v p few s f w straight =
        then_walks p p (v p).0 locals locals locals 0 0 (default_set (local_name p.names x t) t) (code.Set (local_name p.names x t) (v p).1 ∷ [])
        (set_walks p locals x t (λ q. (q, default t)) texts few s f (default_value p t) (straight.0, tt)) (set_walks p locals x t v texts few s f w straight.1)

    -- a first value is not refused, where there is one
    abbrev Valued : List Local → Option JavaExpr → Type 0
    Valued locals None = Unit {0}
    Valued locals (Some e) = (g : Given) × (given d place locals e ≡ Ok g)

    initial_walks : (locals : List Local) (x : PlainIdentifier) (t : ValueType) (o : Option JavaExpr) (p : Progress) → Valued locals o → length p.names ≤ limit → Stands p locals → IsFound p x.name t
        → AreStraight (initial_lines d place locals x t o p).1 → Walks p (initial_lines d place locals x t o p).0 locals locals 0 (initial_lines d place locals x t o p).1
    initial_walks locals x t None p is few s f straight = set_walks p locals x.name t (λ q. (q, default t)) texts few s f (default_value p t) straight
    initial_walks locals x t (Some e) p is few s f straight = behind_walks (names_in x.name e) locals x.name t (code_of d place locals e) p few s f (value_of_expr locals p e is.0 few s is.1) straight

    some_lines : (locals : List Local) (x : PlainIdentifier) (t : ValueType) (o : Option JavaExpr) (p : Progress) → 1 ≤ length (initial_lines d place locals x t o p).1
    some_lines locals x t None p = omega arith
    some_lines locals x t (Some e) p = by (names_in x.name e)
      where
        by : (b : Bool) → 1 ≤ length (behind_default b (local_name p.names x.name t) t (with_stmt (code.Set (local_name p.names x.name t)) (code_of d place locals e p))).1
        by true = omega arith
        by false = omega arith

    valued_part : (t : ValueType) (o : Option JavaExpr) (s u : Scope) (locals : List Local) → s.locals ≡ locals → optional_part d place t o s ≡ Ok u → Valued locals o × (s ≡ u)
    valued_part t None s u locals same e = (tt, same_ok s u e)
    valued_part t (Some e) s u locals same is =
        let h = through (λ v. and_then (λ w. Ok s) (wanted d t (at_of e) v)) (value d place s.locals e) u is in
        let i = through (λ w. Ok s) (wanted d t (at_of e) h.0) u h.2 in
        (subst (λ l. Valued l (Some e)) same (given_of (at_of e) (given d place s.locals e) h.0 h.1), same_ok s u i.2)

    pub declared_walks : (t : ValueType) (xs : List JavaDeclarator) → DeclaratorsHaveWords xs → (s u : Scope) → declared_names d place t xs s ≡ Ok u → (locals : List Local) → s.locals ≡ locals → (p : Progress) → Stands p locals
        → AreStraight (declared_lines d place t xs locals p).lines.1 → length p.names + length (declared_lines d place t xs locals p).lines.1 ≤ limit
        → Walks p (declared_lines d place t xs locals p).lines.0 locals (declared_lines d place t xs locals p).locals (length (declared_lines d place t xs locals p).lines.1) (declared_lines d place t xs locals p).lines.1
        × (u.locals ≡ (declared_lines d place t xs locals p).locals)
    declared_walks t [] words s u e locals same p stands straight few = (none_walk p locals stands, ap (λ v. v.locals) (sym (same_ok s u e)) ∙ same)
    declared_walks t (x ∷ xs) words s u e locals same p stands straight few =
        let h = through (declared_names d place t xs) (and_then (optional_part d place t x.value) (with_name x.name t s)) u e in
        let g = through (optional_part d place t x.value) (with_name x.name t s) h.0 h.1 in
        let n = named_once (local_named s.locals x.name.name) x.name.at _ (judged.with_local x.name.name t s) g.0 g.1 in
        let once : local_named locals x.name.name ≡ None = subst (λ l. local_named l x.name.name ≡ None) same n.0 in
        let inner = in_scope d place x.name t locals in
        let here : g.0.locals ≡ inner = ap (λ v. v.locals) (sym n.1) ∙ ap (λ l. record { name = x.name.name; type = t } ∷ l) same in
        let v = valued_part t x.value g.0 h.0 inner here g.2 in
        let there : h.0.locals ≡ inner = ap (λ w. w.locals) (sym v.1) ∙ here in
        let q = with_local x.name.name t p in
        let r = initial_lines d place inner x.name t x.value q in
        let rest = declared_lines d place t xs inner r.0 in
        let parts = straight_parts r.1 rest.lines.1 straight in
        let some = some_lines inner x.name t x.value q in
        let long : length (r.1 ++ rest.lines.1) ≡ length r.1 + length rest.lines.1 = length-append r.1 rest.lines.1 in
        let first = initial_walks inner x.name t x.value q v.0 (omega (arith, few, long, some)) (entered texts p x.name.name t locals stands once words.0 (omega (arith, few, long, some)))
        (new_found texts p x.name.name t words.0 (omega (arith, few, long, some)) stands.made) parts.0 in
        let low = first.behind.few in
        let i = declared_walks t xs words.1 h.0 u h.2 inner there r.0 first.stands parts.1 (omega (arith, few, long, some, low)) in
        let walk = then_walks q r.0 rest.lines.0 inner inner rest.locals 0 (length rest.lines.1) r.1 rest.lines.1 first i.0 in
        (entering p q rest.lines.0 locals inner rest.locals (0 + length rest.lines.1) (length (r.1 ++ rest.lines.1)) (r.1 ++ rest.lines.1) (wider x.name.name t locals once) (new_behind texts p x.name.name t locals once words.0 stands.made) (omega (arith, long, some)) walk, i.1)
