-- The code of statements and of whole bodies (JLS 14, 8.4.7, 8.8.7).
use Rattle.std.specs.Prelude.{ℕ, pos, Bool, true, false, cond, List, [], ◌∷◌, ◌++◌, map, reverse, if◌then◌else◌, Option, Some, None}
use Rattle.std.specs.Str.{bytes_eq}
use Rattle.jd_syntax.specs.JavaTypes.{PlainIdentifier, PlainWritten}
use Rattle.jd_syntax.specs.JavaTrees as java
use Rattle.jd_syntax.specs.JavaTrees.{JavaExpr, JavaExprs, java_exprs, JavaDeclarator, JavaForStart, Declared as DeclaredStart, Evaluated, JavaStmt, Block, Empty, Local as Declaration, Evaluate, Label, If, IfElse, While, For, Break, Continue, Return, Throw, Try, TryFinally, Super, JavaStmts, NoStmts, StmtThen, java_stmts, JavaHandlers, Catch, NoHandlers, HandlerThen, JavaParameter, JavaResult, Void, Gives, OfConstructor, JavaMethod, JavaUnit}
use Rattle.jd_syntax.specs.declared.java.PrefixOperator.{PrefixOperator}
use Rattle.jd_syntax.specs.declared.java.PrefixOperator.TheVariants as prefixes
use Rattle.jd_syntax.specs.declared.code.BinaryOp.{BinaryOp}
use Rattle.jd_syntax.specs.Codes as code
use Rattle.jd_syntax.specs.Codes.{PlainKind, OfClass, Expr, Stmt, PlainCode, Done, exprs_of, stmts_of}
use Rattle.jd_syntax.specs.Names.{Name, Declared}
use Rattle.jd_jclasses.specs.Members.{Kind, RoutineOf}
use Rattle.jd_jclasses.specs.Methods.{routines}
use Rattle.jd_bodies.specs.declared.place.Place.{Place}
use Rattle.jd_bodies.specs.declared.value.ValueType.{ValueType}
use Rattle.jd_bodies.specs.declared.value.ValueType.TheVariants as types
use Rattle.jd_bodies.specs.Codes.{Made, Target, ToLocal, ToField, ToElement, NoTarget, variable, one, count_operation, assignment_operation, with_list, this_code, code_of, codes_of, target_of, type_before}
use Rattle.jd_bodies.specs.Declarations.{Declarations, type_by}
use Rattle.jd_bodies.specs.Expressions.{class_before}
use Rattle.jd_bodies.specs.Jumps.{names, leaves_label, leaves_loop, repeats_loop}
use Rattle.jd_bodies.specs.Refused.{begins_with_super, place_of}
use Rattle.jd_bodies.specs.Scopes.{Local}
use Rattle.jd_bodies.specs.Types.{throwable}
use Rattle.jd_bodies.specs.Variables.{Progress, temporary, with_local, with_label, with_loop, local_name, this_name, declared}

-- ---- what is made

-- the statements that stand for one, with what was made on the way
abbrev pub Lines : Type 0
Lines = Progress × List Stmt

abbrev pub with_stmt : (Expr → Stmt) → Made → Lines
with_stmt f m = (m.0, f m.1 ∷ [])

abbrev pub with_stmt_of_two : (Expr → Expr → Stmt) → Made → (Progress → Made) → Lines
with_stmt_of_two f m other = with_stmt (f m.1) (other m.0)

abbrev pub with_lines : (List Stmt → List Stmt) → Lines → Lines
with_lines f r = (r.0, f r.1)

-- the one, and then the other
abbrev pub in_order : Lines → (Progress → Lines) → Lines
in_order r next = with_lines (λ ss. r.1 ++ ss) (next r.0)

abbrev pub code_in : Lines → PlainCode
code_in r = stmts_of r.1

-- a value in a temporary, before what is done next
abbrev pub keeping : ValueType → Made → (Name → Progress → Lines) → Lines
keeping t m next =
    let k = temporary t m.0 in
    with_lines (λ ss. code.Set k.1 m.1 ∷ ss) (next k.1 k.0)

-- ---- expressions that stand as statements (JLS 14.8)

abbrev pub set_lines : Target → (Progress → Made) → Progress → Lines
set_lines (ToLocal x t) v p = with_stmt (code.Set (local_name p.names x t)) (v p)
set_lines (ToField object ot f t) v p = with_stmt_of_two (λ e. code.WriteField e f) (object p) v
set_lines (ToElement a i) v p =
    let o = a p in
    let j = i o.0 in
    with_stmt (code.WriteElement o.1 j.1) (v j.0)
set_lines NoTarget v p = (p, [])

abbrev pub change_lines : BinaryOp → Target → (Progress → Made) → Progress → Lines
change_lines op (ToLocal x t) v p = with_stmt (λ e. code.Set (local_name p.names x t) (code.Binary op (variable (local_name p.names x t)) e)) (v p)
change_lines op (ToField object ot f t) v p =
    keeping ot (object p) (λ o q. keeping t (q, code.ReadField (variable o) f)
    (λ u r. with_stmt (λ e. code.WriteField (variable o) f (code.Binary op (variable u) e)) (v r)))
change_lines op (ToElement a i) v p =
    keeping types.IntArray (a p) (λ o q. keeping types.Int (i q) (λ j r. keeping types.Int (r, code.ReadElement (variable o) (variable j))
    (λ u s. with_stmt (λ e. code.WriteElement (variable o) (variable j) (code.Binary op (variable u) e)) (v s))))
change_lines op NoTarget v p = (p, [])

abbrev pub assign_lines : Option BinaryOp → Target → (Progress → Made) → Progress → Lines
assign_lines None target v p = set_lines target v p
assign_lines (Some op) target v p = change_lines op target v p

abbrev pub prefix_lines : PrefixOperator → Target → Progress → Lines
prefix_lines (prefixes.Count c) assigned p = change_lines (count_operation c) assigned one p
prefix_lines o assigned p = (p, [])

-- the method, if it is static, that is called on a value (JLS 15.12.4.1)
module _ (d : Declarations) where
  abbrev pub if_static : Bool → ℕ → Option ℕ
  if_static true m = Some m
  if_static false m = None

  abbrev pub static_by : Option ℕ → Option ℕ
  static_by None = None
  static_by (Some m) = if_static (d.signature m).static m

  abbrev pub static_on : List ℕ → Option ℕ → ValueType → Option ℕ
  static_on m None (types.Class c) = static_by (d.method c m)
  static_on m c t = None

module _ (d : Declarations) (place : Place) where
  -- what the object of a static method gives is dropped
  abbrev pub call_lines : List Local → Option ℕ → JavaExpr → JavaExprs → JavaExpr → Progress → Lines
  call_lines locals None e es whole p = with_stmt code.Evaluate (code_of d place locals whole p)
  call_lines locals (Some m) e es whole p =
      keeping (type_before d place locals e) (code_of d place locals e p) (λ k q. with_stmt code.Evaluate (with_list (λ r. code.StaticCall m (exprs_of r)) (codes_of d place locals es q)))

  abbrev pub effect_lines : List Local → JavaExpr → Progress → Lines
  effect_lines locals (java.Assign at o e v) p = assign_lines (assignment_operation o) (target_of d place locals e) (code_of d place locals v) p
  effect_lines locals (java.Prefix at o e) p = prefix_lines o (target_of d place locals e) p
  effect_lines locals (java.Postfix at c e) p = change_lines (count_operation c) (target_of d place locals e) one p
  effect_lines locals (java.MethodCall at e m es) p =
      call_lines locals (static_on d m.name (class_before d place locals e) (type_before d place locals e)) e es (java.MethodCall at e m es) p
  effect_lines locals e p = with_stmt code.Evaluate (code_of d place locals e p)

  abbrev pub effects_lines : List Local → List JavaExpr → Progress → Lines
  effects_lines locals [] p = (p, [])
  effects_lines locals (e ∷ es) p = in_order (effect_lines locals e p) (effects_lines locals es)

-- ---- declared locals (JLS 14.4): one without a first value holds that of its type, and so does one that its first value names

abbrev pub default : ValueType → Expr
default types.Int = code.IntLiteral (pos 0)
default types.Boolean = code.BoolLiteral false
default t = code.NullLiteral

-- what was made of a declaration, and what is in scope behind it
pub record Scoped : Type 0 where
  pub lines : Lines
  pub locals : List Local

abbrev pub default_set : Name → ValueType → List Stmt
default_set x t = code.Set x (default t) ∷ []

abbrev pub behind_default : Bool → Name → ValueType → Lines → Lines
behind_default true x t r = with_lines (λ ss. default_set x t ++ ss) r
behind_default false x t r = r

module _ (d : Declarations) (place : Place) where
  -- the local is in scope already
  abbrev pub initial_lines : List Local → PlainIdentifier → ValueType → Option JavaExpr → Progress → Lines
  initial_lines locals x t None p = (p, default_set (local_name p.names x.name t) t)
  initial_lines locals x t (Some e) p =
      behind_default (names x.name e) (local_name p.names x.name t) t (with_stmt (code.Set (local_name p.names x.name t)) (code_of d place locals e p))

  abbrev pub in_scope : PlainIdentifier → ValueType → List Local → List Local
  in_scope x t locals = record { name = x.name; type = t } ∷ locals

  abbrev pub before : Lines → Scoped → Scoped
  before r s = record { lines = (s.lines.0, r.1 ++ s.lines.1); locals = s.locals }

  abbrev pub declared_lines : ValueType → List JavaDeclarator → List Local → Progress → Scoped
  declared_lines t [] locals p = record { lines = (p, []); locals = locals }
  declared_lines t (x ∷ xs) locals p =
      let r = initial_lines (in_scope x.name t locals) x.name t x.value (with_local x.name.name t p) in
      before r (declared_lines t xs (in_scope x.name t locals) r.0)

  abbrev pub declaration : PlainWritten → List JavaDeclarator → List Local → Progress → Scoped
  declaration w xs locals p = declared_lines (type_by d.class_named w.written) xs locals p

  abbrev pub start : JavaForStart → List Local → Progress → Scoped
  start (DeclaredStart w xs) locals p = declaration w xs locals p
  start (Evaluated es) locals p = record { lines = effects_lines d place locals es p; locals = locals }

-- ---- where jumps go

-- the blocks that a `break` with a label leaves, those that a `continue` with a label does, and those of both without one
pub record Exits : Type 0 where
  pub labels : List (List ℕ × ℕ)
  pub loops : List (List ℕ × ℕ)
  pub left : ℕ
  pub repeated : ℕ

abbrev pub no_exits : Exits
no_exits = record { labels = []; loops = []; left = 0; repeated = 0 }

abbrev pub exit_named : List (List ℕ × ℕ) → List ℕ → ℕ
exit_named [] l = 0
exit_named (x ∷ xs) l = if bytes_eq x.0 l then x.1 else exit_named xs l

abbrev pub break_exit : Exits → Option PlainIdentifier → ℕ
break_exit x None = x.left
break_exit x (Some l) = exit_named x.labels l.name

abbrev pub continue_exit : Exits → Option PlainIdentifier → ℕ
continue_exit x None = x.repeated
continue_exit x (Some l) = exit_named x.loops l.name

abbrev pub with_exit : List ℕ → ℕ → Exits → Exits
with_exit l n x = record x { labels = (l, n) ∷ x.labels }

-- of the body of a loop with these labels
abbrev pub loop_exits : List (List ℕ) → ℕ → ℕ → Exits → Exits
loop_exits names left repeated x = record { labels = x.labels; loops = map (λ l. (l, repeated)) names ++ x.loops; left = left; repeated = repeated }

-- a block with the last label, if one is asked for
abbrev pub label_if : Bool → Progress → Progress
label_if wanted p = cond wanted (with_label p) p

abbrev pub block_if : Bool → ℕ → List Stmt → List Stmt
block_if true n ss = code.Block n (stmts_of ss) ∷ []
block_if false n ss = ss

-- ---- loops (JLS 14.12, 14.14)

abbrev pub scope_names : Progress → List Local → List Name
scope_names p locals = map (λ l. local_name p.names l.name l.type) (reverse locals)

-- the condition; what follows each turn; the body, by its exits
pub record Loop : Type 0 where
  pub labels : List (List ℕ)
  pub leaves : Bool
  pub repeats : Bool
  pub scope : List Local
  pub condition : Progress → Made
  pub update : Progress → Lines
  pub body : Exits → Progress → Lines

-- labels count the outer block first, and the loop's own number the loops around it
abbrev pub loop_lines : Loop → Exits → Progress → Lines
loop_lines l x p =
    let p = label_if l.leaves p in
    let left = p.labels in
    let q = with_loop (scope_names p l.scope) p in
    let number = q.loops in
    let c = l.condition q in
    let r = label_if l.repeats c.0 in
    let repeated = r.labels in
    let b = l.body (loop_exits l.labels left repeated x) r in
    let u = l.update b.0 in
    (u.0, block_if l.leaves left (code.While number c.1 (stmts_of (block_if l.repeats repeated b.1 ++ u.1)) ∷ []))

-- ---- handlers (JLS 14.20): the first whose class is the thrown object's; else it is thrown again

abbrev pub thrown_again : Name → PlainCode
thrown_again x = stmts_of (code.ThrowUnchecked (variable x) ∷ [])

abbrev pub class_number : Option ℕ → ℕ
class_number None = 0
class_number (Some c) = c

-- a `try` without handlers is its block
abbrev pub has_handlers : JavaHandlers → Bool
has_handlers NoHandlers = false
has_handlers (HandlerThen h hs) = true

-- ---- statements

-- the default of a condition that is not written
abbrev pub condition_code : (JavaExpr → Progress → Made) → Option JavaExpr → Progress → Made
condition_code f None p = (p, code.BoolLiteral true)
condition_code f (Some e) p = f e p

abbrev pub return_lines : (JavaExpr → Progress → Made) → Option JavaExpr → Progress → Lines
return_lines f None p = (p, code.ReturnVoid ∷ [])
return_lines f (Some e) p = with_stmt code.Return (f e p)

abbrev pub if_lines : Made → (Progress → Lines) → (Progress → Lines) → Lines
if_lines c first second =
    let a = first c.0 in
    let b = second a.0 in
    (b.0, code.If c.1 (code_in a) (code_in b) ∷ [])

abbrev pub nothing_done : Progress → Lines
nothing_done p = (p, [])

-- the constructor that runs above (JLS 8.8.7)
abbrev pub above_lines : Option ℕ → Progress × List Expr → Lines
above_lines None r = (r.0, [])
above_lines (Some m) r = (r.0, code.Evaluate (code.ConstructorCall m this_code (exprs_of r.1)) ∷ [])

abbrev pub above : Declarations → Option ℕ → Option ℕ
above d None = None
above d (Some c) = d.constructor c

-- the body is caught into a temporary, and the handlers follow
abbrev pub try_lines : Bool → Lines → (Name → Progress → Progress × PlainCode) → Lines
try_lines false b next = b
try_lines true b next =
    let k = temporary throwable b.0 in
    let h = next k.1 k.0 in
    (h.0, code.Catch (code_in b) k.1 h.1 ∷ [])

abbrev pub finally_lines : Lines → (Progress → Lines) → Lines
finally_lines b last =
    let f = last b.0 in
    (f.0, code.Finally (code_in b) (code_in f) ∷ [])

abbrev pub handler_code : Name → ℕ → Name → Lines → (Progress → Progress × PlainCode) → Progress × PlainCode
handler_code k c x r next =
    let h = next r.0 in
    (h.0, stmts_of (code.If (code.InstanceOf (OfClass c) (variable k)) (stmts_of (code.Set x (variable k) ∷ r.1)) h.1 ∷ []))

abbrev pub inner : List Local → Lines → Scoped
inner locals r = record { lines = r; locals = locals }

module _ (d : Declarations) (place : Place) where
  abbrev mutual
    -- the labels that stand directly before it, where jumps go, and what is in scope
    pub lines : JavaStmt → List (List ℕ) → Exits → List Local → Progress → Scoped
    lines (Block at ss) ls x locals p = inner locals (block_lines ss x locals p)
    lines (Empty at) ls x locals p = inner locals (p, [])
    lines (Declaration at w xs) ls x locals p = declaration d place w xs locals p
    lines (Evaluate at e) ls x locals p = inner locals (effect_lines d place locals e p)
    lines (Label at j l s) ls x locals p =
        let wanted = leaves_label l s in
        let q = label_if wanted p in
        let r = (lines s (l ∷ ls) (with_exit l q.labels x) locals q).lines in
        inner locals (r.0, block_if wanted q.labels r.1)
    lines (If at c s) ls x locals p = inner locals (if_lines (code_of d place locals c p) (λ q. (lines s [] x locals q).lines) nothing_done)
    lines (IfElse at c s t) ls x locals p =
        inner locals (if_lines (code_of d place locals c p) (λ q. (lines s [] x locals q).lines) (λ q. (lines t [] x locals q).lines))
    lines (While at j c s) ls x locals p =
        inner locals (loop_lines
        (record {
          labels = ls;
          leaves = leaves_loop s;
          repeats = repeats_loop ls s;
          scope = locals;
          condition = code_of d place locals c;
          update = nothing_done;
          body = λ y q. (lines s [] y locals q).lines;
        }) x p)
    lines (For at j first c update s) ls x locals p =
        let b = start d place first locals p in
        inner locals (in_order b.lines (loop_lines
        (record {
          labels = ls;
          leaves = leaves_loop s;
          repeats = repeats_loop ls s;
          scope = b.locals;
          condition = condition_code (code_of d place b.locals) c;
          update = effects_lines d place b.locals update;
          body = λ y q. (lines s [] y b.locals q).lines;
        }) x))
    lines (Break at l) ls x locals p = inner locals (p, code.Break (break_exit x l) ∷ [])
    lines (Continue at l) ls x locals p = inner locals (p, code.Break (continue_exit x l) ∷ [])
    lines (Return at e) ls x locals p = inner locals (return_lines (code_of d place locals) e p)
    lines (Throw at e) ls x locals p = inner locals (with_stmt code.Throw (code_of d place locals e p))
    lines (Try at ss hs) ls x locals p = inner locals (try_lines (has_handlers hs) (block_lines ss x locals p) (λ k. handler_lines hs k x locals))
    lines (TryFinally at ss hs ts) ls x locals p =
        inner locals (finally_lines (try_lines (has_handlers hs) (block_lines ss x locals p) (λ k. handler_lines hs k x locals)) (block_lines ts x locals))
    lines (Super at es) ls x locals p = inner locals (above_lines (above d (d.parent place.class)) (codes_of d place locals (java_exprs es) p))

    pub block_lines : JavaStmts → Exits → List Local → Progress → Lines
    block_lines NoStmts x locals p = (p, [])
    block_lines (StmtThen s ss) x locals p =
        let r = lines s [] x locals p in
        in_order r.lines (block_lines ss x r.locals)

    -- the thrown object is in this variable
    pub handler_lines : JavaHandlers → Name → Exits → List Local → Progress → Progress × PlainCode
    handler_lines NoHandlers k x locals p = (p, thrown_again k)
    handler_lines (HandlerThen (Catch at c y ss) hs) k x locals p =
        let t = types.Class (class_number (d.class_named c.name)) in
        let q = with_local y.name t p in
        handler_code k (class_number (d.class_named c.name)) (local_name q.names y.name t) (block_lines ss x (in_scope d place y t locals) q) (handler_lines hs k x locals)

-- ---- bodies

-- the variables of a body, `this` and the parameters first; its code; and of each loop, by its number, what is in scope where it begins
pub record PlainBody : Type 0 where
  pub variables : List Declared
  pub code_ : PlainCode
  pub scopes : List (List Name)

-- `this`, unless the method is static
abbrev pub receiver : Place → List Declared
receiver place = cond place.is_static [] (declared this_name (types.Class place.class) ∷ [])

abbrev pub begun : Place → Progress
begun place = record { names = []; variables = receiver place; temporaries = 0; loops = 0; labels = 0; scopes = [] }

module _ (d : Declarations) where
  abbrev pub parameter_locals : List JavaParameter → List Local → List Local
  parameter_locals [] locals = locals
  parameter_locals (p ∷ ps) locals = parameter_locals ps (record { name = p.name.name; type = type_by d.class_named p.ty.written } ∷ locals)

  abbrev pub with_parameters : List JavaParameter → Progress → Progress
  with_parameters [] p = p
  with_parameters (x ∷ xs) p = with_parameters xs (with_local x.name.name (type_by d.class_named x.ty.written) p)

  -- a constructor that does not say what runs above it calls that first
  abbrev pub unwritten : JavaResult → Bool → ℕ → List Stmt
  unwritten OfConstructor false class = (above_lines (above d (d.parent class)) (begun (record { class = class; is_static = false }), [])).1
  unwritten r says class = []

  abbrev pub whole : List Stmt → Lines → PlainBody
  whole first r = record { variables = r.0.variables; code_ = stmts_of (first ++ r.1); scopes = r.0.scopes }

  abbrev pub body_of : ℕ → JavaMethod → PlainBody
  body_of class m =
      whole
      (unwritten m.result (begins_with_super m.body) class)
      (block_lines d (place_of d class m) (java_stmts m.body) no_exits (parameter_locals m.parameters []) (with_parameters m.parameters (begun (place_of d class m))))

  abbrev pub no_body : PlainBody
  no_body = record { variables = []; code_ = Done; scopes = [] }

  abbrev pub body_by : ℕ → Kind → PlainBody
  body_by class (RoutineOf m) = body_of class m
  body_by class k = no_body

  -- of all methods and constructors by their numbers
  abbrev pub bodies : List JavaUnit → List PlainBody
  bodies units = map (λ r. body_by r.class r.kind) (routines units)
