-- Loops and handlers by their parts.
use Rattle.std.specs.Prelude.{ℕ, Bool, true, false, List, [], ◌∷◌, Option}
use Rattle.jd_syntax.specs.JavaTrees as java
use Rattle.jd_syntax.specs.JavaTrees.{JavaExpr, JavaStmt, JavaStmts, JavaHandler, JavaHandlers, Catch, NoHandlers, HandlerThen}
use Rattle.jd_bodies.specs.Bodies.{Exits, Lines, Loop, block_lines, class_number, condition_code, effects_lines, handler_lines, has_handlers, in_scope, lines, try_lines}
use Rattle.jd_bodies.specs.Codes.{code_of}
use Rattle.jd_bodies.specs.Declarations.{Declarations}
use Rattle.jd_bodies.specs.Jumps.{leaves_loop, repeats_loop}
use Rattle.jd_bodies.specs.Scopes.{Local}
use Rattle.jd_bodies.specs.Variables.{Progress, local_name, with_local}
use Rattle.jd_bodies.specs.declared.place.Place.{Place}
use Rattle.jd_bodies.specs.declared.value.ValueType.TheVariants as types
use Rattle.jd_statement_parts.specs.Catching.{PlainPart}

-- a declaration of locals
abbrev pub declares : JavaStmt → Bool
declares (java.Local at w xs) = true
declares s = false

module _ (d : Declarations) (place : Place) where
  -- what is a loop's behind these labels, where these are in scope
  abbrev pub loop_of : List (List ℕ) → List Local → Option JavaExpr → List JavaExpr → JavaStmt → Loop
  loop_of labels locals c update s = record {
    labels = labels;
    leaves = leaves_loop s;
    repeats = repeats_loop labels s;
    scope = locals;
    condition = condition_code (code_of d place locals) c;
    update = effects_lines d place locals update;
    body = λ y q. (lines d place s [] y locals q).lines;
  }

  -- a `try` without its `finally`
  abbrev pub tried_lines : JavaStmts → JavaHandlers → Exits → List Local → Progress → Lines
  tried_lines ss hs x locals p = try_lines (has_handlers hs) (block_lines d place ss x locals p) (λ k. handler_lines d place hs k x locals)

  -- what is made of a handler, and of each of several
  abbrev pub part_of : JavaHandler → Exits → List Local → Progress → Progress × PlainPart
  part_of (Catch at c y ss) x locals p =
      let t = types.Class (class_number (d.class_named c.name)) in
      let q = with_local y.name t p in
      let r = block_lines d place ss x (in_scope d place y t locals) q in
      (r.0, record { class = class_number (d.class_named c.name); name = local_name q.names y.name t; stmts = r.1 })

  abbrev pub handler_parts : JavaHandlers → Exits → List Local → Progress → Progress × List PlainPart
  handler_parts NoHandlers x locals p = (p, [])
  handler_parts (HandlerThen h hs) x locals p =
      let r = part_of h x locals p in
      let rest = handler_parts hs x locals r.0 in
      (rest.0, r.1 ∷ rest.1)
