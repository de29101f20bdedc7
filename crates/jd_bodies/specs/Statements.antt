-- Which statements are refused, and what is in scope behind them (JLS 6.3, 14).
use Rattle.std.specs.Prelude.{ℕ, Bool, true, false, List, [], ◌∷◌, ◌++◌, if◌then◌else◌, is_none, Option, Some, None, Result, Ok}
use Rattle.std.specs.Str.{bytes_eq}
use Rattle.jd_syntax.specs.JavaTypes.{PlainIdentifier, PlainWritten}
use Rattle.jd_syntax.specs.JavaTrees.{JavaExpr, java_exprs, JavaDeclarator, JavaForStart, Declared, Evaluated, JavaStmt, Block, Empty, Local as Declaration, Evaluate, Label, If, IfElse, While, For, Break, Continue, Return, Throw, Try, TryFinally, Super, JavaStmts, NoStmts, StmtThen, Catch, JavaHandlers, NoHandlers, HandlerThen}
use Rattle.jd_bodies.specs.declared.fault.Fault.{Fault}
use Rattle.jd_bodies.specs.declared.fault.Cause.TheVariants.{TypeMismatch, BadLabel, Redeclared}
use Rattle.jd_bodies.specs.declared.place.Place.{Place}
use Rattle.jd_bodies.specs.declared.place.Returns.{Returns}
use Rattle.jd_bodies.specs.declared.place.Returns.TheVariants.{Nothing, Value}
use Rattle.jd_bodies.specs.declared.value.ValueType.{ValueType}
use Rattle.jd_bodies.specs.declared.value.ValueType.TheVariants.{Boolean, Class}
use Rattle.jd_bodies.specs.Declarations.{Declarations}
use Rattle.jd_bodies.specs.Judgements.{and_then, refused, only_if}
use Rattle.jd_bodies.specs.Scopes.{Scope, local_named}
use Rattle.jd_bodies.specs.Types.{throwable}
use Rattle.jd_bodies.specs.Expressions.{at_of, given, value, arguments, wanted, value_of, written_type, written_class, creation_fits, constructor_parameters, or_nothing}

-- ---- what stands around a statement

-- a loop, with the labels that are there
abbrev pub inside_loop : Scope → Scope
inside_loop s = record s { in_loop = true }

abbrev pub inside_label : List ℕ → Bool → Scope → Scope
inside_label l loop s = record s { labels = s.labels ++ ((l, loop) ∷ []) }

-- a loop, perhaps behind labels (JLS 14.16)
abbrev pub is_loop : JavaStmt → Bool
is_loop (While at j c s) = true
is_loop (For at j start c update s) = true
is_loop (Label at j l s) = is_loop s
is_loop s = false

-- whether the last label of the name is a loop's; none where there is no such label
abbrev pub last_label : Option Bool → List (List ℕ × Bool) → List ℕ → Option Bool
last_label found [] name = found
last_label found (l ∷ ls) name = last_label (if bytes_eq l.0 name then Some l.1 else found) ls name

abbrev pub label_named : List (List ℕ × Bool) → List ℕ → Option Bool
label_named labels name = last_label None labels name

abbrev pub some_label : Option Bool → Bool
some_label None = false
some_label (Some loop) = true

abbrev pub loop_label : Option Bool → Bool
loop_label None = false
loop_label (Some loop) = loop

-- whether `break` and `continue` have their target (JLS 14.15, 14.16)
abbrev pub may_break : Scope → Option PlainIdentifier → Bool
may_break a None = a.in_loop
may_break a (Some l) = some_label (label_named a.labels l.name)

abbrev pub may_continue : Scope → Option PlainIdentifier → Bool
may_continue a None = a.in_loop
may_continue a (Some l) = loop_label (label_named a.labels l.name)

-- ---- what is declared

abbrev pub with_local : List ℕ → ValueType → Scope → Scope
with_local name t s = record s { locals = record { name = name; type = t } ∷ s.locals }

-- one more name is in scope, which no other in scope has (JLS 8.4.1, 14.4, 14.20)
abbrev pub with_name : PlainIdentifier → ValueType → Scope → Result Scope Fault
with_name x t s = only_if (is_none (local_named s.locals x.name)) x.at Redeclared (with_local x.name t s)

-- what was declared inside is in scope no more
abbrev pub out_of : Scope → Result Scope Fault → Result Scope Fault
out_of s r = and_then (λ t. Ok s) r

module _ (d : Declarations) where
  -- what the constructor takes that runs for what a class extends; none where no arguments fit
  abbrev pub above_parameters : Option ℕ → Option (List ValueType)
  above_parameters None = Some []
  above_parameters (Some c) = constructor_parameters d c

  -- what is caught is Throwable or below it (JLS 14.20); its name is in scope in the handler
  abbrev pub caught : PlainIdentifier → PlainIdentifier → Scope → Result Scope Fault
  caught c x s = and_then (λ k. and_then (λ t. with_name x (Class k) s) (wanted d throwable c.at (Class k))) (written_class d c)

module _ (d : Declarations) (place : Place) where
  -- ---- parts, with what is in scope behind them

  abbrev pub part : ValueType → JavaExpr → Scope → Result Scope Fault
  part want e s = and_then (λ t. and_then (λ u. Ok s) (wanted d want (at_of e) t)) (value d place s.locals e)

  abbrev pub optional_part : ValueType → Option JavaExpr → Scope → Result Scope Fault
  optional_part want None s = Ok s
  optional_part want (Some e) s = part want e s

  -- what is evaluated and dropped (JLS 14.8)
  abbrev pub effect : JavaExpr → Scope → Result Scope Fault
  effect e s = and_then (λ g. Ok s) (given d place s.locals e)

  abbrev pub effects : List JavaExpr → Scope → Result Scope Fault
  effects [] s = Ok s
  effects (e ∷ es) s = and_then (effects es) (effect e s)

  -- each name is in scope in its own first value and behind it (JLS 6.3)
  abbrev pub declared_names : ValueType → List JavaDeclarator → Scope → Result Scope Fault
  declared_names t [] s = Ok s
  declared_names t (x ∷ xs) s = and_then (declared_names t xs) (and_then (optional_part t x.value) (with_name x.name t s))

  abbrev pub declared : PlainWritten → List JavaDeclarator → Scope → Result Scope Fault
  declared w xs s = and_then (λ t. declared_names t xs s) (written_type d w)

  abbrev pub for_start : JavaForStart → Scope → Result Scope Fault
  for_start (Declared w xs) s = declared w xs s
  for_start (Evaluated es) s = effects es s

  -- what stands before the body of a `for` (JLS 14.14.1)
  abbrev pub for_head : JavaForStart → Option JavaExpr → List JavaExpr → Scope → Result Scope Fault
  for_head start c update s = and_then (λ t. Ok (inside_loop t)) (and_then (effects update) (and_then (optional_part Boolean c) (for_start start s)))

  abbrev pub while_head : JavaExpr → Scope → Result Scope Fault
  while_head c s = and_then (λ t. Ok (inside_loop t)) (part Boolean c s)

  -- `return e;` gives what the method gives, and `return;` where it gives nothing (JLS 14.17)
  abbrev pub returned_value : ℕ → Returns → ℕ → ValueType → Scope → Result Scope Fault
  returned_value at Nothing first t s = refused at TypeMismatch
  returned_value at (Value want) first t s = and_then (λ u. Ok s) (wanted d want first t)

  abbrev pub returned_nothing : ℕ → Returns → Scope → Result Scope Fault
  returned_nothing at Nothing s = Ok s
  returned_nothing at (Value want) s = refused at TypeMismatch

  abbrev pub returned : Returns → ℕ → Option JavaExpr → Scope → Result Scope Fault
  returned r at None s = returned_nothing at r s
  returned r at (Some e) s = and_then (λ t. returned_value at r (at_of e) t s) (value d place s.locals e)

  -- the arguments of the constructor that runs for what the class extends (JLS 8.8.7.1)
  abbrev pub constructed : ℕ → List JavaExpr → Scope → Result Scope Fault
  constructed at es s =
      and_then
      (λ a. and_then (λ g. Ok s) (creation_fits at (above_parameters d (d.parent place.class)) (value_of Boolean) a))
      (arguments d place s.locals (java_exprs es) (or_nothing (above_parameters d (d.parent place.class))))

module _ (d : Declarations) (place : Place) (returns : Returns) where
  -- ---- statements: one part behind the other, and what was declared inside is left at the end

  abbrev mutual
    pub stmt : JavaStmt → Scope → Result Scope Fault
    stmt (Block at ss) s = out_of s (stmts ss s)
    stmt (Empty at) s = Ok s
    stmt (Declaration at w xs) s = declared d place w xs s
    stmt (Evaluate at e) s = effect d place e s
    stmt (Label at j l b) s = out_of s (stmt b (inside_label l (is_loop b) s))
    stmt (If at c b) s = out_of s (and_then (stmt b) (part d place Boolean c s))
    stmt (IfElse at c b e) s = out_of s (and_then (stmt e) (and_then (stmt b) (part d place Boolean c s)))
    stmt (While at j c b) s = out_of s (and_then (stmt b) (while_head d place c s))
    stmt (For at j start c update b) s = out_of s (and_then (stmt b) (for_head d place start c update s))
    stmt (Break at l) s = only_if (may_break s l) at BadLabel s
    stmt (Continue at l) s = only_if (may_continue s l) at BadLabel s
    stmt (Return at e) s = returned d place returns at e s
    stmt (Throw at e) s = part d place throwable e s
    stmt (Try at bs hs) s = and_then (handlers hs) (out_of s (stmts bs s))
    stmt (TryFinally at bs hs fs) s = out_of s (and_then (stmts fs) (and_then (handlers hs) (out_of s (stmts bs s))))
    stmt (Super at es) s = constructed d place at es s

    pub stmts : JavaStmts → Scope → Result Scope Fault
    stmts NoStmts s = Ok s
    stmts (StmtThen b bs) s = and_then (stmts bs) (stmt b s)

    pub handlers : JavaHandlers → Scope → Result Scope Fault
    handlers NoHandlers s = Ok s
    handlers (HandlerThen (Catch at c x bs) hs) s = and_then (handlers hs) (out_of s (and_then (stmts bs) (caught d c x s)))
