-- The making of a body adds variables behind the parameters.
use Rattle.std.proofs.Common.{◌≡◌, ℕ, Bool, true, false, List, [], ◌∷◌, ◌++◌, Option, Some, None, sym, subst}
use Rattle.std.specs.List.{AllByRecursion}
use Rattle.std.proofs.lemmas.List.Elements.{All-from_recursion}
use Rattle.jd_syntax.specs.JavaTypes.{PlainIdentifier}
use Rattle.jd_syntax.specs.JavaTrees as java
use Rattle.jd_syntax.specs.JavaTrees.{JavaExpr, JavaExprs, java_exprs, JavaDeclarator, JavaForStart, JavaStmt, Block, Empty, Local as Declaration, Evaluate, Label, If, IfElse, While, For, Break, Continue, Return, Throw, Try, TryFinally, Super, JavaStmts, NoStmts, StmtThen, java_stmts, JavaHandlers, Catch, NoHandlers, HandlerThen, JavaParameter, JavaMethod}
use Rattle.jd_syntax.specs.Codes.{Expr, PlainCode}
use Rattle.jd_syntax.specs.Names.{Name, Declared}
use Rattle.jd_syntax.specs.declared.code.BinaryOp.{BinaryOp}
use Rattle.jd_syntax.specs.declared.java.PrefixOperator.{PrefixOperator}
use Rattle.jd_syntax.specs.declared.java.PrefixOperator.TheVariants as prefixes
use Rattle.jd_bodies.specs.declared.place.Place.{Place}
use Rattle.jd_bodies.specs.declared.value.ValueType.{ValueType}
use Rattle.jd_bodies.specs.declared.value.ValueType.TheVariants as types
use Rattle.jd_bodies.specs.Bodies.{Exits, Lines, Loop, above, above_lines, assign_lines, begun, behind_default, block_lines, body_of, call_lines, change_lines, class_number, condition_code, declared_lines, effect_lines, effects_lines, handler_lines, has_handlers, in_scope, initial_lines, label_if, lines, loop_exits, loop_lines, no_exits, nothing_done, parameter_locals, prefix_lines, receiver, return_lines, scope_names, set_lines, start, static_on, try_lines, with_exit, with_parameters}
use Rattle.jd_bodies.specs.Codes.{Made, Target, ToLocal, ToField, ToElement, NoTarget, assignment_operation, code_of, codes_of, count_operation, one, target_of, type_before}
use Rattle.jd_bodies.specs.Declarations.{Declarations, type_by}
use Rattle.jd_bodies.specs.Expressions.{class_before}
use Rattle.jd_bodies.specs.Jumps.{leaves_label, leaves_loop, names, repeats_loop}
use Rattle.jd_bodies.specs.Refused.{place_of}
use Rattle.jd_bodies.specs.Scopes.{Local}
use Rattle.jd_bodies.specs.Types.{throwable}
use Rattle.jd_bodies.specs.Variables.{Progress, local_name, temporary, with_local, with_loop}
use Rattle.jd_body_variables.specs.Laws.{VariablesAreMadeOfNames}
use Rattle.jd_body_variables.specs.Names.{DeclaratorsPass, HandlersPass, IsMadeOf, ParametersPass, StartPasses, StmtPasses, StmtsPass}
use Rattle.jd_body_variables.specs.Names.IsMadeOf.{the_receiver}
use Rattle.jd_body_variables.proofs.Growing.{Grows, all_both, joined, kept, labelled, local, looped, stays}
use Rattle.jd_body_variables.proofs.Expressions.{GrowsPart, GrowsTarget, code_grows, codes_grow, one_grows, target_grows, then_kept, then_part}

module _ (test : List ℕ → Bool) (L : Type 0) where
  abbrev GrowsLines : (Progress → Lines) → Type 0
  GrowsLines f = (p : Progress) → Grows test L p (f p).0

  then_lines : (f : Progress → Lines) (p q : Progress) → GrowsLines f → Grows test L p q → Grows test L p (f q).0
  then_lines f p q g h = joined test L p q (f q).0 h (g q)

  -- ---- expressions that stand as statements

  set_grows : (target : Target) (v : Progress → Made) (p : Progress) → GrowsTarget test L target → GrowsPart test L v → Grows test L p (set_lines target v p).0
  set_grows (ToLocal x t) v p is g = g p
  set_grows (ToField object ot f t) v p is g = then_part test L v p (object p).0 g (is p)
  set_grows (ToElement a i) v p is g = let o = a p in let j = i o.0 in then_part test L v p j.0 g (then_part test L i p o.0 is.1 (is.0 p))
  set_grows NoTarget v p is g = stays test L p

  change_grows : (op : BinaryOp) (target : Target) (v : Progress → Made) (p : Progress) → GrowsTarget test L target → GrowsPart test L v → Grows test L p (change_lines op target v p).0
  change_grows op (ToLocal x t) v p is g = g p
  change_grows op (ToField object ot f t) v p is g =
      let o = temporary ot (object p).0 in
      let u = temporary t o.0 in
      then_part test L v p u.0 g (kept test L t p o.0 (then_kept test L ot object p p is (stays test L p)))
  change_grows op (ToElement a i) v p is g =
      let o = temporary types.IntArray (a p).0 in
      let j = temporary types.Int (i o.0).0 in
      let u = temporary types.Int j.0 in
      then_part test L v p u.0 g (kept test L types.Int p j.0 (then_kept test L types.Int i p o.0 is.1 (then_kept test L types.IntArray a p p is.0 (stays test L p))))
  change_grows op NoTarget v p is g = stays test L p

  assign_grows : (o : Option BinaryOp) (target : Target) (v : Progress → Made) (p : Progress) → GrowsTarget test L target → GrowsPart test L v → Grows test L p (assign_lines o target v p).0
  assign_grows None target v p is g = set_grows target v p is g
  assign_grows (Some op) target v p is g = change_grows op target v p is g

  prefix_grows : (o : PrefixOperator) (target : Target) (p : Progress) → GrowsTarget test L target → Grows test L p (prefix_lines o target p).0
  prefix_grows (prefixes.Count c) target p is = change_grows (count_operation c) target one p is (one_grows test L)
  prefix_grows prefixes.Plus _ p is = stays test L p
  prefix_grows prefixes.Minus _ p is = stays test L p
  prefix_grows prefixes.Not _ p is = stays test L p

  -- ---- forms of statements

  label_grows : (b : Bool) (p q : Progress) → Grows test L p q → Grows test L p (label_if b q)
  label_grows true p q g = labelled test L p q g
  label_grows false p q g = g

  loop_grows : (l : Loop) (x : Exits) (p : Progress) → GrowsPart test L l.condition → GrowsLines l.update → ((y : Exits) → GrowsLines (l.body y)) → Grows test L p (loop_lines l x p).0
  loop_grows l x p condition update inside =
      let p1 = label_if l.leaves p in
      let left = p1.labels in
      let q = with_loop (scope_names p1 l.scope) p1 in
      let c = l.condition q in
      let r = label_if l.repeats c.0 in
      let y = loop_exits l.labels left r.labels x in
      then_lines l.update p (l.body y r).0 update
      (then_lines (l.body y) p r (inside y) (label_grows l.repeats p c.0 (then_part test L l.condition p q condition (looped test L (scope_names p1 l.scope) p p1 (label_grows l.leaves p p (stays test L p))))))

  try_grows : (t : Bool) (p : Progress) (b : Lines) (next : Name → Progress → Progress × PlainCode) → Grows test L p b.0 → ((k : Name) (q : Progress) → Grows test L q (next k q).0) → Grows test L p (try_lines t b next).0
  try_grows false p b next g h = g
  try_grows true p b next g h =
      let k = temporary throwable b.0 in joined test L p k.0 (next k.1 k.0).0 (kept test L throwable p b.0 g) (h k.1 k.0)

  above_grows : (m : Option ℕ) (p : Progress) (r : Progress × List Expr) → Grows test L p r.0 → Grows test L p (above_lines m r).0
  above_grows None p r g = g
  above_grows (Some m) p r g = g

  module _ (d : Declarations) (place : Place) where
    call_grows : (locals : List Local) (m : Option ℕ) (e : JavaExpr) (es : JavaExprs) (whole : JavaExpr) (p : Progress) → Grows test L p (call_lines d place locals m e es whole p).0
    call_grows locals None e es whole p = code_grows test L d place locals whole p
    call_grows locals (Some m) e es whole p =
        let t = type_before d place locals e in
        let k = temporary t (code_of d place locals e p).0 in
        joined test L p k.0 (codes_of d place locals es k.0).0 (kept test L t p (code_of d place locals e p).0 (code_grows test L d place locals e p)) (codes_grow test L d place locals es k.0)

    effect_grows : (locals : List Local) (e : JavaExpr) (p : Progress) → Grows test L p (effect_lines d place locals e p).0
    effect_grows locals (java.Assign at o e v) p =
        assign_grows (assignment_operation o) (target_of d place locals e) (code_of d place locals v) p (target_grows test L d place locals e) (code_grows test L d place locals v)
    effect_grows locals (java.Prefix at o e) p = prefix_grows o (target_of d place locals e) p (target_grows test L d place locals e)
    effect_grows locals (java.Postfix at c e) p = change_grows (count_operation c) (target_of d place locals e) one p (target_grows test L d place locals e) (one_grows test L)
    effect_grows locals (java.MethodCall at e m es) p =
        call_grows locals (static_on d m.name (class_before d place locals e) (type_before d place locals e)) e es (java.MethodCall at e m es) p
    effect_grows locals (java.Integer at n) p = code_grows test L d place locals (java.Integer at n) p
    effect_grows locals (java.Boolean at v) p = code_grows test L d place locals (java.Boolean at v) p
    effect_grows locals (java.Null at) p = code_grows test L d place locals (java.Null at) p
    effect_grows locals (java.This at) p = code_grows test L d place locals (java.This at) p
    effect_grows locals (java.Name at x) p = code_grows test L d place locals (java.Name at x) p
    effect_grows locals (java.Field at e x) p = code_grows test L d place locals (java.Field at e x) p
    effect_grows locals (java.Parenthesized at e) p = code_grows test L d place locals (java.Parenthesized at e) p
    effect_grows locals (java.Call at m es) p = code_grows test L d place locals (java.Call at m es) p
    effect_grows locals (java.New at c es) p = code_grows test L d place locals (java.New at c es) p
    effect_grows locals (java.NewArray at e) p = code_grows test L d place locals (java.NewArray at e) p
    effect_grows locals (java.Index at a i) p = code_grows test L d place locals (java.Index at a i) p
    effect_grows locals (java.Cast at w e) p = code_grows test L d place locals (java.Cast at w e) p
    effect_grows locals (java.Infix at o a b) p = code_grows test L d place locals (java.Infix at o a b) p
    effect_grows locals (java.InstanceOf at e w) p = code_grows test L d place locals (java.InstanceOf at e w) p
    effect_grows locals (java.Conditional at c a b) p = code_grows test L d place locals (java.Conditional at c a b) p

    effects_grow : (locals : List Local) (es : List JavaExpr) → GrowsLines (effects_lines d place locals es)
    effects_grow locals [] p = stays test L p
    effects_grow locals (e ∷ es) p = then_lines (effects_lines d place locals es) p (effect_lines d place locals e p).0 (effects_grow locals es) (effect_grows locals e p)

    -- ---- declared locals

    initial_grows : (locals : List Local) (x : PlainIdentifier) (t : ValueType) (e : Option JavaExpr) (p : Progress) → Grows test L p (initial_lines d place locals x t e p).0
    initial_grows locals x t None p = stays test L p
    initial_grows locals x t (Some e) p = by (names x.name e) _ (code_grows test L d place locals e p)
      where
        by : (b : Bool) (r : Lines) → Grows test L p r.0 → Grows test L p (behind_default b (local_name p.names x.name t) t r).0
        by true r g = g
        by false r g = g

    declared_grows : (t : ValueType) (xs : List JavaDeclarator) (locals : List Local) (p : Progress) → (L → DeclaratorsPass test xs) → Grows test L p (declared_lines d place t xs locals p).lines.0
    declared_grows t [] locals p l = stays test L p
    declared_grows t (x ∷ xs) locals p l =
        let scope = in_scope d place x.name t locals in
        let q = with_local x.name.name t p in
        let r = initial_lines d place scope x.name t x.value q in
        joined test L p r.0 (declared_lines d place t xs scope r.0).lines.0
        (joined test L p q r.0 (local test L x.name.name t p p (λ h. (l h).0) (stays test L p)) (initial_grows scope x.name t x.value q)) (declared_grows t xs scope r.0 (λ h. (l h).1))

    start_grows : (first : JavaForStart) (locals : List Local) (p : Progress) → (L → StartPasses test first) → Grows test L p (start d place first locals p).lines.0
    start_grows (java.Declared w xs) locals p l = declared_grows (type_by d.class_named w.written) xs locals p l
    start_grows (java.Evaluated es) locals p l = effects_grow locals es p

    condition_grows : (locals : List Local) (c : Option JavaExpr) → GrowsPart test L (condition_code (code_of d place locals) c)
    condition_grows locals None p = stays test L p
    condition_grows locals (Some e) p = code_grows test L d place locals e p

    return_grows : (locals : List Local) (e : Option JavaExpr) (p : Progress) → Grows test L p (return_lines (code_of d place locals) e p).0
    return_grows locals None p = stays test L p
    return_grows locals (Some e) p = code_grows test L d place locals e p

    -- ---- statements

    mutual
      lines_grow : (s : JavaStmt) → (L → StmtPasses test s) → (ls : List (List ℕ)) (x : Exits) (locals : List Local) (p : Progress) → Grows test L p (lines d place s ls x locals p).lines.0
      lines_grow (Block at ss) l ls x locals p = block_grows ss l x locals p
      lines_grow (Empty at) l ls x locals p = stays test L p
      lines_grow (Declaration at w xs) l ls x locals p = declared_grows (type_by d.class_named w.written) xs locals p l
      lines_grow (Evaluate at e) l ls x locals p = effect_grows locals e p
      lines_grow (Label at j k s) l ls x locals p =
          let q = label_if (leaves_label k s) p in
          joined test L p q (lines d place s (k ∷ ls) (with_exit k q.labels x) locals q).lines.0 (label_grows (leaves_label k s) p p (stays test L p)) (lines_grow s l (k ∷ ls) (with_exit k q.labels x) locals q)
      lines_grow (If at c s) l ls x locals p =
          let q = (code_of d place locals c p).0 in
          joined test L p q (lines d place s [] x locals q).lines.0 (code_grows test L d place locals c p) (lines_grow s l [] x locals q)
      lines_grow (IfElse at c s t) l ls x locals p =
          let q = (code_of d place locals c p).0 in
          let r = (lines d place s [] x locals q).lines.0 in
          joined test L p r (lines d place t [] x locals r).lines.0 (joined test L p q r (code_grows test L d place locals c p) (lines_grow s (λ h. (l h).0) [] x locals q)) (lines_grow t (λ h. (l h).1) [] x locals r)
      lines_grow (While at j c s) l ls x locals p =
          loop_grows
          (record {
            labels = ls;
            leaves = leaves_loop s;
            repeats = repeats_loop ls s;
            scope = locals;
            condition = code_of d place locals c;
            update = nothing_done;
            body = λ y q. (lines d place s [] y locals q).lines;
          }) x p (code_grows test L d place locals c) (λ q. stays test L q) (λ y q. lines_grow s l [] y locals q)
      lines_grow (For at j first c update s) l ls x locals p =
          let b = start d place first locals p in
          let loop : Loop = record {
            labels = ls;
            leaves = leaves_loop s;
            repeats = repeats_loop ls s;
            scope = b.locals;
            condition = condition_code (code_of d place b.locals) c;
            update = effects_lines d place b.locals update;
            body = λ y q. (lines d place s [] y b.locals q).lines;
          } in
          joined test L p b.lines.0 (loop_lines loop x b.lines.0).0 (start_grows first locals p (λ h. (l h).0))
          (loop_grows loop x b.lines.0 (condition_grows b.locals c) (effects_grow b.locals update) (λ y q. lines_grow s (λ h. (l h).1) [] y b.locals q))
      lines_grow (Break at k) l ls x locals p = stays test L p
      lines_grow (Continue at k) l ls x locals p = stays test L p
      lines_grow (Return at e) l ls x locals p = return_grows locals e p
      lines_grow (Throw at e) l ls x locals p = code_grows test L d place locals e p
      lines_grow (Try at ss hs) l ls x locals p =
          try_grows (has_handlers hs) p (block_lines d place ss x locals p) (λ k. handler_lines d place hs k x locals) (block_grows ss (λ h. (l h).0) x locals p) (λ k q. handlers_grow hs (λ h. (l h).1) k x locals q)
      lines_grow (TryFinally at ss hs ts) l ls x locals p =
          let b = try_lines (has_handlers hs) (block_lines d place ss x locals p) (λ k. handler_lines d place hs k x locals) in
          joined test L p b.0 (block_lines d place ts x locals b.0).0
          (try_grows (has_handlers hs) p (block_lines d place ss x locals p) (λ k. handler_lines d place hs k x locals) (block_grows ss (λ h. (l h).0) x locals p) (λ k q. handlers_grow hs (λ h. (l h).1) k x locals q))
          (block_grows ts (λ h. (l h).2) x locals b.0)
      lines_grow (Super at es) l ls x locals p =
          above_grows (above d (d.parent place.class)) p (codes_of d place locals (java_exprs es) p) (codes_grow test L d place locals (java_exprs es) p)

      block_grows : (ss : JavaStmts) → (L → StmtsPass test ss) → (x : Exits) (locals : List Local) (p : Progress) → Grows test L p (block_lines d place ss x locals p).0
      block_grows NoStmts l x locals p = stays test L p
      block_grows (StmtThen s ss) l x locals p =
          let r = lines d place s [] x locals p in
          joined test L p r.lines.0 (block_lines d place ss x r.locals r.lines.0).0 (lines_grow s (λ h. (l h).0) [] x locals p) (block_grows ss (λ h. (l h).1) x r.locals r.lines.0)

      handlers_grow : (hs : JavaHandlers) → (L → HandlersPass test hs) → (k : Name) (x : Exits) (locals : List Local) (p : Progress) → Grows test L p (handler_lines d place hs k x locals p).0
      handlers_grow NoHandlers l k x locals p = stays test L p
      handlers_grow (HandlerThen (Catch at c y ss) hs) l k x locals p =
          let t = types.Class (class_number (d.class_named c.name)) in
          let q = with_local y.name t p in
          let scope = in_scope d place y t locals in
          let r = (block_lines d place ss x scope q).0 in
          joined test L p r (handler_lines d place hs k x locals r).0
          (joined test L p q r (local test L y.name t p p (λ h. (l h).0) (stays test L p)) (block_grows ss (λ h. (l h).1) x scope q)) (handlers_grow hs (λ h. (l h).2) k x locals r)

  -- ---- bodies

  module _ (d : Declarations) where
    parameters_grow : (ps : List JavaParameter) → (L → ParametersPass test ps) → (p : Progress) → Grows test L p (with_parameters d ps p)
    parameters_grow [] l p = stays test L p
    parameters_grow (x ∷ xs) l p =
        let q = with_local x.name.name (type_by d.class_named x.ty.written) p in
        joined test L p q (with_parameters d xs q) (local test L x.name.name (type_by d.class_named x.ty.written) p p (λ h. (l h).0) (stays test L p)) (parameters_grow xs (λ h. (l h).1) q)

    body_grows : (class : ℕ) (m : JavaMethod) → (L → StmtsPass test (java_stmts m.body)) → (p : Progress) → Grows test L p (block_lines d (place_of d class m) (java_stmts m.body) no_exits (parameter_locals d m.parameters []) p).0
    body_grows class m l p = block_grows d (place_of d class m) (java_stmts m.body) l no_exits (parameter_locals d m.parameters []) p

-- whatever the names are
pub begins : (d : Declarations) (class : ℕ) (m : JavaMethod) → (more : List Declared) × ((body_of d class m).variables ≡ (with_parameters d m.parameters (begun (place_of d class m))).variables ++ more)
begins d class m = let g = body_grows (λ x. true) ⊥ d class m (λ none. absurd none) (with_parameters d m.parameters (begun (place_of d class m))) in (g.more, g.is)

receiver_made : (test : List ℕ → Bool) (place : Place) → AllByRecursion (IsMadeOf test) (receiver place)
receiver_made test place = by place.is_static
  where
    by : (b : Bool) → AllByRecursion (IsMadeOf test) (receiver (record { class = place.class; is_static = b }))
    by true = tt
    by false = (the_receiver place.class, tt)

pub made : VariablesAreMadeOfNames
made test d class m is =
    let place = place_of d class m in
    let p = with_parameters d m.parameters (begun place) in
    let g = joined test (Unit {0}) (begun place) p _ (parameters_grow test (Unit {0}) d m.parameters (λ l. is.parameters_) (begun place)) (body_grows test (Unit {0}) d class m (λ l. is.body_) p) in
    All-from_recursion (IsMadeOf test) (body_of d class m).variables (subst (AllByRecursion (IsMadeOf test)) (sym g.is) (all_both test (receiver place) g.more (receiver_made test place) (g.made tt)))
