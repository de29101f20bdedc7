-- The code of statements and bodies that are not refused is resolved.
use Rattle.std.proofs.Common.{◌≡◌, ◌⊎◌, ◌||◌, ℕ, Bool, true, false, List, [], ◌∷◌, ◌++◌, Option, Some, None, Result, Ok, refl, sym, ap, ◌∙◌}
use Rattle.jd_syntax.specs.JavaTypes.{PlainIdentifier}
use Rattle.jd_syntax.specs.JavaTrees.{JavaExpr, java_exprs, JavaStmt, Block, Empty, Local as Declaration, Evaluate, Label, If, IfElse, While, For, Break, Continue, Return, Throw, Try, TryFinally, Super, JavaStmts, NoStmts, StmtThen, java_stmts, JavaHandlers, Catch, NoHandlers, HandlerThen, JavaParameter, JavaResult, Void, Gives, OfConstructor, JavaMethod}
use Rattle.jd_syntax.specs.Codes as code
use Rattle.jd_syntax.specs.Codes.{Expr, PlainCode, Stmt, exprs_of, stmts_of}
use Rattle.jd_syntax.specs.Names.{Name}
use Rattle.jd_model.specs.Occurrences.{Always, CodeIn}
use Rattle.jd_model.specs.ResolvedBodies.{AreHandlers, NotSpecial}
use Rattle.jd_bodies.specs.declared.fault.Fault.{Fault}
use Rattle.jd_bodies.specs.declared.place.Place.{Place}
use Rattle.jd_bodies.specs.declared.place.Returns.{Returns}
use Rattle.jd_bodies.specs.declared.value.ValueType.{ValueType}
use Rattle.jd_bodies.specs.declared.value.ValueType.TheVariants as types
use Rattle.jd_bodies.specs.Bodies.{Exits, Lines, Loop, above, above_lines, begun, block_if, block_lines, body_of, class_number, condition_code, effects_lines, handler_code, handler_lines, has_handlers, label_if, lines, loop_exits, loop_lines, no_exits, nothing_done, parameter_locals, return_lines, scope_names, start, thrown_again, try_lines, unwritten, with_exit, with_parameters, in_scope}
use Rattle.jd_bodies.specs.Codes.{code_of, codes_of}
use Rattle.jd_bodies.specs.Declarations.{Declarations}
use Rattle.jd_bodies.specs.Jumps.{Asked, jumps, jumps_in, jumps_in_handlers, leaves_label, leaves_loop, repeats_loop}
use Rattle.jd_bodies.specs.Judgements.{and_then}
use Rattle.jd_bodies.specs.Refused.{begins_with_super, body, method, needs_none, place_of, result_known, returns_of, runs_above}
use Rattle.jd_bodies.specs.Refused as refused
use Rattle.jd_bodies.specs.Scopes.{Local, Scope, empty_scope}
use Rattle.jd_bodies.specs.Statements.{caught, for_head, handlers, inside_label, is_loop, out_of, part, stmt, stmts, while_head}
use Rattle.jd_bodies.specs.Types.{throwable}
use Rattle.jd_bodies.specs.Variables.{Progress, local_name, temporary, with_local, with_loop}
use Rattle.jd_resolved_bodies.specs.Laws.{BodiesAreResolved, ConstantsFit, IsResolvedBody}
use Rattle.jd_resolved_bodies.specs.Lexical.{AreLexical, AreLexicalHandlers, AreLexicalStmts, EachLexical, IsLexicalMethod, IsLexicalStmt, MaybeLexical}
use Rattle.jd_resolved_bodies.proofs.Parts.{Good, GoodExprs, GoodPart, GoodStmts, code_good, exprs_good, in_order_good, plain_local}
use Rattle.jd_resolved_bodies.proofs.Expressions.{all_good, good}
use Rattle.jd_resolved_bodies.proofs.Effects.{declaration_good, effect_good, effects_good, start_good}
use Rattle.jd_resolved_bodies.proofs.Exits.{Fits, inside, label_fits, loop_fits, part_fits}
use Rattle.jd_resolved_bodies.proofs.Jumps.{Keeps, and_both, ask, left_it, name_keeps, or_cases, or_left, or_right, stays, then_keeps, through, value_keeps, wider_jumps}
use Rattle.std.proofs.Common.{⊎_elim, bytes_eq, ◌&&◌}
use Rattle.std.specs.List.{list_any}
use Rattle.std.proofs.lemmas.Slice.Eq.{bytes_eq-Decides}
use Rattle.jd_bodies.specs.Statements.{label_named, loop_label}
use Rattle.jd_resolved_bodies.proofs.Targets.{allows, known, last_it, targets, targets_in}

-- ---- forms of statements

block_good : (b : Bool) (n : ℕ) (labels : List ℕ) (ss : List Stmt) → GoodStmts (inside b n labels) ss → GoodStmts labels (block_if b n ss)
block_good true n labels ss g = let c = code_good (n ∷ labels) ss g in ((c.0, c.1), tt)
block_good false n labels ss g = g

if_good : (labels : List ℕ) (c : Expr) (a b : List Stmt) → Good c → GoodStmts labels a → GoodStmts labels b → GoodStmts labels (code.If c (stmts_of a) (stmts_of b) ∷ [])
if_good labels c a b g f h = let x = code_good labels a f in let y = code_good labels b h in (((g.0, x.0, y.0), (g.1, x.1, y.1)), tt)

while_good : (labels : List ℕ) (n : ℕ) (c : Expr) (ss : List Stmt) → Good c → GoodStmts labels ss → GoodStmts labels (code.While n c (stmts_of ss) ∷ [])
while_good labels n c ss g f = let x = code_good labels ss f in (((g.0, x.0), (g.1, x.1)), tt)

-- blocks of a loop
abbrev Inner : Loop → ℕ → ℕ → List ℕ → List ℕ
Inner l left repeated labels = inside l.repeats repeated (inside l.leaves left labels)

loop_good : (l : Loop) (x : Exits) (p : Progress) (labels : List ℕ) → GoodPart l.condition → ((q : Progress) (around : List ℕ) → GoodStmts around (l.update q).1)
    → ((left repeated : ℕ) (q : Progress) → GoodStmts (Inner l left repeated labels) (l.body (loop_exits l.labels left repeated x) q).1) → GoodStmts labels (loop_lines l x p).1
loop_good l x p labels condition update body_ =
    let p1 = label_if l.leaves p in
    let left = p1.labels in
    let q = with_loop (scope_names p1 l.scope) p1 in
    let c = l.condition q in
    let r = label_if l.repeats c.0 in
    let repeated = r.labels in
    let b = l.body (loop_exits l.labels left repeated x) r in
    let outer = inside l.leaves left labels in
    block_good l.leaves left labels (code.While q.loops c.1 (stmts_of (block_if l.repeats repeated b.1 ++ (l.update b.0).1)) ∷ [])
    (while_good outer q.loops c.1 (block_if l.repeats repeated b.1 ++ (l.update b.0).1) (condition q)
    (in_order_good outer (block_if l.repeats repeated b.1) (l.update b.0).1 (block_good l.repeats repeated outer b.1 (body_ left repeated r)) (update b.0 outer)))

abbrev GoodHandlers : List ℕ → Name → PlainCode → Type 0
GoodHandlers labels k c = AreHandlers labels k c × CodeIn Always NotSpecial c

thrown_good : (labels : List ℕ) (k : Name) → GoodHandlers labels k (thrown_again k)
thrown_good labels k = (refl, (tt, tt))

caught_good : (labels : List ℕ) (k : Name) (c : ℕ) (x : Name) (r : Lines) (next : Progress → Progress × PlainCode) → NotSpecial x → GoodStmts labels r.1 → ((q : Progress) → GoodHandlers labels k (next q).1) → GoodHandlers labels k (handler_code k c x r next).1
caught_good labels k c x r next is g h =
    let a = code_good labels (code.Set x (code.Variable k) ∷ r.1) (((tt, (is, tt)), g)) in
    let b = h r.0 in
    ((refl, a.0, b.0), ((tt, a.1, b.1), tt))

try_good : (labels : List ℕ) (b : Lines) (next : Name → Progress → Progress × PlainCode) → GoodStmts labels b.1 → ((k : Name) (q : Progress) → GoodHandlers labels k (next k q).1) → (t : Bool) → GoodStmts labels (try_lines t b next).1
try_good labels b next g h false = g
try_good labels b next g h true =
    let k = temporary throwable b.0 in
    let c = code_good labels b.1 g in
    let r = h k.1 k.0 in
    (((c.0, refl, r.0), (c.1, refl, r.1)), tt)

finally_good : (labels : List ℕ) (a b : List Stmt) → GoodStmts labels a → GoodStmts labels b → GoodStmts labels (code.Finally (stmts_of a) (stmts_of b) ∷ [])
finally_good labels a b g h = let x = code_good labels a g in let y = code_good labels b h in (((x.0, y.0), (x.1, y.1)), tt)

above_good : (labels : List ℕ) (m : Option ℕ) (r : Progress × List Expr) → GoodExprs (exprs_of r.1) → GoodStmts labels (above_lines m r).1
above_good labels None r g = tt
above_good labels (Some m) r g = (((tt, g.0), (tt, g.1)), tt)

module _ (d : Declarations) (constants : ConstantsFit d) (place : Place) (returns : Returns) where
  -- the arguments of what runs above
  each_good : (locals : List Local) (es : List JavaExpr) → EachLexical es → AreLexical (java_exprs es)
  each_good locals [] l = tt
  each_good locals (e ∷ es) l = (l.0, each_good locals es l.1)

  condition_good : (locals : List Local) (c : Option JavaExpr) → MaybeLexical c → GoodPart (condition_code (code_of d place locals) c)
  condition_good locals None l p = (tt, tt)
  condition_good locals (Some e) l p = good d constants place locals false e l p

  return_good : (labels : List ℕ) (locals : List Local) (e : Option JavaExpr) (p : Progress) → MaybeLexical e → GoodStmts labels (return_lines (code_of d place locals) e p).1
  return_good labels locals None p l = ((tt, tt), tt)
  return_good labels locals (Some e) p l = let g = good d constants place locals false e l p in ((g.0, g.1), tt)

  abbrev takes : JavaStmt → Scope → Result Scope Fault
  takes b s = stmt d place returns b s

  -- `continue` goes on with a labelled statement only where that is a loop
  goes_on : (l : List ℕ) (b : JavaStmt) (s t : Scope) → takes b (inside_label l (is_loop b) s) ≡ Ok t → jumps b (ask true false (l ∷ [])) ≡ true → is_loop b ≡ true
  goes_on l b s t e j =
      let h = targets d place returns b (inside_label l (is_loop b) s) t (ask true false (l ∷ [])) e j in
      let it = last_it s.labels l (is_loop b) l (same_name l) in
      by (is_loop b) (sym (ap (λ o. loop_label o || false) it) ∙ h)
    where
      by : (c : Bool) → c || false ≡ true → c ≡ true
      by true e = refl
      by false e = absurd cc

      same_name : (x : List ℕ) → bytes_eq x x ≡ true
      same_name x = (bytes_eq-Decides x x).1 refl

  mutual
    pub stmt_good : (b : JavaStmt) → IsLexicalStmt b → (s t : Scope) → takes b s ≡ Ok t → (own : List (List ℕ)) (x : Exits) (labels : List ℕ) → Fits x labels own (jumps b) (is_loop b) → (locals : List Local) (p : Progress) → GoodStmts labels (lines d place b own x locals p).lines.1
    stmt_good (Block at ss) l s t e own x labels f locals p =
        let h = left_it s (stmts d place returns ss s) t e in
        stmts_good ss l s h.0 h.1 x labels (part_fits x labels own (jumps_in ss) (jumps_in ss) false f (λ a j. j)) locals p
    stmt_good (Empty at) l s t e own x labels f locals p = tt
    stmt_good (Declaration at w xs) l s t e own x labels f locals p = declaration_good d constants place labels w xs locals p l
    stmt_good (Evaluate at a) l s t e own x labels f locals p = effect_good d constants place labels locals a l p
    stmt_good (Label at j k b) l s t e own x labels f locals p =
        let h = left_it s (takes b (inside_label k (is_loop b) s)) t e in
        let q = label_if (leaves_label k b) p in
        block_good (leaves_label k b) q.labels labels (lines d place b (k ∷ own) (with_exit k q.labels x) locals q).lines.1
        (stmt_good b l (inside_label k (is_loop b) s) h.0 h.1 (k ∷ own) (with_exit k q.labels x) (inside (leaves_label k b) q.labels labels)
        (label_fits x labels own (jumps b) (is_loop b) k q.labels (goes_on k b s h.0 h.1) f) locals q)
    stmt_good (If at c b) l s t e own x labels f locals p =
        let h = left_it s _ t e in
        let g = through (takes b) (part d place types.Boolean c s) h.0 h.1 in
        let m = code_of d place locals c p in
        if_good labels m.1 _ [] (good d constants place locals false c l.0 p)
        (stmt_good b l.1 g.0 h.0 g.2 [] x labels (part_fits x labels own (jumps b) (jumps b) (is_loop b) f (λ a j. j)) locals m.0) tt
    stmt_good (IfElse at c b b2) l s t e own x labels f locals p =
        let h = left_it s _ t e in
        let g = through (takes b2) (and_then (takes b) (part d place types.Boolean c s)) h.0 h.1 in
        let i = through (takes b) (part d place types.Boolean c s) g.0 g.1 in
        let m = code_of d place locals c p in
        let first = lines d place b [] x locals m.0 in
        if_good labels m.1 first.lines.1 _ (good d constants place locals false c l.0 p)
        (stmt_good b l.1 i.0 g.0 i.2 [] x labels (part_fits x labels own (λ a. jumps b a || jumps b2 a) (jumps b) (is_loop b) f (λ a j. or_left (jumps b a) (jumps b2 a) j)) locals m.0)
        (stmt_good b2 l.2 g.0 h.0 g.2 [] x labels (part_fits x labels own (λ a. jumps b a || jumps b2 a) (jumps b2) (is_loop b2) f (λ a j. or_right (jumps b a) (jumps b2 a) j)) locals first.lines.0)
    stmt_good (While at j c b) l s t e own x labels f locals p =
        let h = left_it s _ t e in
        let g = through (takes b) (while_head d place c s) h.0 h.1 in
        loop_good (record {
          labels = own;
          leaves = leaves_loop b;
          repeats = repeats_loop own b;
          scope = locals;
          condition = code_of d place locals c;
          update = nothing_done;
          body = λ y q. (lines d place b [] y locals q).lines;
        }) x p labels (good d constants place locals false c l.0) (λ q around. tt)
        (λ left repeated q. stmt_good b l.1 g.0 h.0 g.2 [] (loop_exits own left repeated x) (inside (repeats_loop own b) repeated (inside (leaves_loop b) left labels))
        (loop_fits x labels own (jumps b) (is_loop b) left repeated (wider_jumps b) f) locals q)
    stmt_good (For at j first c update b) l s t e own x labels f locals p =
        let h = left_it s _ t e in
        let g = through (takes b) (for_head d place first c update s) h.0 h.1 in
        let i = start d place first locals p in
        in_order_good labels i.lines.1 _ (start_good d constants place labels first locals p l.0)
        (loop_good (record {
          labels = own;
          leaves = leaves_loop b;
          repeats = repeats_loop own b;
          scope = i.locals;
          condition = condition_code (code_of d place i.locals) c;
          update = effects_lines d place i.locals update;
          body = λ y q. (lines d place b [] y i.locals q).lines;
        }) x i.lines.0 labels (condition_good i.locals c l.1) (λ q around. effects_good d constants place around i.locals update l.2 q)
        (λ left repeated q. stmt_good b l.3 g.0 h.0 g.2 [] (loop_exits own left repeated x) (inside (repeats_loop own b) repeated (inside (leaves_loop b) left labels))
        (loop_fits x labels own (jumps b) (is_loop b) left repeated (wider_jumps b) f) i.locals q))
    stmt_good (Break at None) l s t e own x labels f locals p = ((f.leaves refl, tt), tt)
    stmt_good (Break at (Some k)) l s t e own x labels f locals p = ((f.breaks k.name (or_left (bytes_eq k.name k.name) false ((bytes_eq-Decides k.name k.name).1 refl)), tt), tt)
    stmt_good (Continue at None) l s t e own x labels f locals p = ((f.repeats refl, tt), tt)
    stmt_good (Continue at (Some k)) l s t e own x labels f locals p =
        ((⊎_elim (λ h. absurd (let no : false ≡ true = h.1 in cc)) (λ h. h) (f.continues k.name (or_left (bytes_eq k.name k.name) false ((bytes_eq-Decides k.name k.name).1 refl))), tt), tt)
    stmt_good (Return at a) l s t e own x labels f locals p = return_good labels locals a p l
    stmt_good (Throw at a) l s t e own x labels f locals p = let g = good d constants place locals false a l p in ((g.0, g.1), tt)
    stmt_good (Try at bs hs) l s t e own x labels f locals p =
        let g = through (handlers d place returns hs) (out_of s (stmts d place returns bs s)) t e in
        let i = left_it s (stmts d place returns bs s) g.0 g.1 in
        try_good labels (block_lines d place bs x locals p) (λ k. handler_lines d place hs k x locals)
        (stmts_good bs l.0 s i.0 i.1 x labels (part_fits x labels own (λ a. jumps_in bs a || jumps_in_handlers hs a) (jumps_in bs) false f (λ a j. or_left (jumps_in bs a) (jumps_in_handlers hs a) j)) locals p)
        (λ k q. handlers_good hs l.1 g.0 t g.2 k x labels (part_fits x labels own (λ a. jumps_in bs a || jumps_in_handlers hs a) (jumps_in_handlers hs) false f (λ a j. or_right (jumps_in bs a) (jumps_in_handlers hs a) j)) locals q)
        (has_handlers hs)
    stmt_good (TryFinally at bs hs fs) l s t e own x labels f locals p =
        let h = left_it s _ t e in
        let y = through (stmts d place returns fs) (and_then (handlers d place returns hs) (out_of s (stmts d place returns bs s))) h.0 h.1 in
        let g = through (handlers d place returns hs) (out_of s (stmts d place returns bs s)) y.0 y.1 in
        let i = left_it s (stmts d place returns bs s) g.0 g.1 in
        let asks : Asked → Bool = λ a. (jumps_in bs a || jumps_in_handlers hs a) || jumps_in fs a in
        let first = try_lines (has_handlers hs) (block_lines d place bs x locals p) (λ k. handler_lines d place hs k x locals) in
        finally_good labels first.1 (block_lines d place fs x locals first.0).1
        (try_good labels (block_lines d place bs x locals p) (λ k. handler_lines d place hs k x locals)
        (stmts_good bs l.0 s i.0 i.1 x labels (part_fits x labels own asks (jumps_in bs) false f (λ a j. or_left (jumps_in bs a || jumps_in_handlers hs a) (jumps_in fs a) (or_left (jumps_in bs a) (jumps_in_handlers hs a) j))) locals p)
        (λ k q. handlers_good hs l.1 g.0 y.0 g.2 k x labels (part_fits x labels own asks (jumps_in_handlers hs) false f (λ a j. or_left (jumps_in bs a || jumps_in_handlers hs a) (jumps_in fs a) (or_right (jumps_in bs a) (jumps_in_handlers hs a) j))) locals q)
        (has_handlers hs))
        (stmts_good fs l.2 y.0 h.0 y.2 x labels (part_fits x labels own asks (jumps_in fs) false f (λ a j. or_right (jumps_in bs a || jumps_in_handlers hs a) (jumps_in fs a) j)) locals first.0)
    stmt_good (Super at es) l s t e own x labels f locals p =
        above_good labels (above d (d.parent place.class)) (codes_of d place locals (java_exprs es) p)
        (exprs_good (codes_of d place locals (java_exprs es) p).1 (all_good d constants place locals (java_exprs es) (each_good locals es l) p))

    pub stmts_good : (bs : JavaStmts) → AreLexicalStmts bs → (s t : Scope) → stmts d place returns bs s ≡ Ok t → (x : Exits) (labels : List ℕ) → Fits x labels [] (jumps_in bs) false → (locals : List Local) (p : Progress) → GoodStmts labels (block_lines d place bs x locals p).1
    stmts_good NoStmts l s t e x labels f locals p = tt
    stmts_good (StmtThen b bs) l s t e x labels f locals p =
        let g = through (stmts d place returns bs) (takes b s) t e in
        let r = lines d place b [] x locals p in
        in_order_good labels r.lines.1 (block_lines d place bs x r.locals r.lines.0).1
        (stmt_good b l.0 s g.0 g.1 [] x labels (part_fits x labels [] (λ a. jumps b a || jumps_in bs a) (jumps b) (is_loop b) f (λ a j. or_left (jumps b a) (jumps_in bs a) j)) locals p)
        (stmts_good bs l.1 g.0 t g.2 x labels (part_fits x labels [] (λ a. jumps b a || jumps_in bs a) (jumps_in bs) false f (λ a j. or_right (jumps b a) (jumps_in bs a) j)) r.locals r.lines.0)

    handlers_good : (hs : JavaHandlers) → AreLexicalHandlers hs → (s t : Scope) → handlers d place returns hs s ≡ Ok t → (k : Name) (x : Exits) (labels : List ℕ) → Fits x labels [] (jumps_in_handlers hs) false → (locals : List Local) (p : Progress) → GoodHandlers labels k (handler_lines d place hs k x locals p).1
    handlers_good NoHandlers l s t e k x labels f locals p = thrown_good labels k
    handlers_good (HandlerThen (Catch at c y bs) hs) l s t e k x labels f locals p =
        let g = through (handlers d place returns hs) (out_of s (and_then (stmts d place returns bs) (caught d c y s))) t e in
        let i = left_it s (and_then (stmts d place returns bs) (caught d c y s)) g.0 g.1 in
        let j = through (stmts d place returns bs) (caught d c y s) i.0 i.1 in
        let type = types.Class (class_number (d.class_named c.name)) in
        let q = with_local y.name type p in
        caught_good labels k (class_number (d.class_named c.name)) (local_name q.names y.name type) (block_lines d place bs x (in_scope d place y type locals) q) (handler_lines d place hs k x locals)
        (plain_local q.names y.name type l.0)
        (stmts_good bs l.1 j.0 i.0 j.2 x labels (part_fits x labels [] (λ a. jumps_in bs a || jumps_in_handlers hs a) (jumps_in bs) false f (λ a m. or_left (jumps_in bs a) (jumps_in_handlers hs a) m)) (in_scope d place y type locals) q)
        (λ r. handlers_good hs l.2 g.0 t g.2 k x labels (part_fits x labels [] (λ a. jumps_in bs a || jumps_in_handlers hs a) (jumps_in_handlers hs) false f (λ a m. or_right (jumps_in bs a) (jumps_in_handlers hs a) m)) locals r)

-- ---- bodies

-- nothing is allowed where no label and no loop is around
none_known : (r : Bool) (ls : List (List ℕ)) → list_any (λ l. known r (label_named [] l)) ls ≡ true → ⊥
none_known r [] e = absurd cc
none_known true (l ∷ ls) e = none_known true ls e
none_known false (l ∷ ls) e = none_known false ls e

none_allowed : (a : Asked) → allows [] false a ≡ true → ⊥
none_allowed a e = ⊎_elim (λ h. absurd (let no : false ≡ true = (and_both a.plain false h).1 in cc)) (λ h. none_known a.repeats a.labels h) (or_cases (a.plain && false) (list_any (λ l. known a.repeats (label_named [] l)) a.labels) e)

module _ (d : Declarations) (constants : ConstantsFit d) (class : ℕ) (m : JavaMethod) (lexical : IsLexicalMethod m) where
  result_keeps : (r : JavaResult) (s : Scope) → Keeps s (result_known d r s)
  result_keeps Void s = stays s
  result_keeps (Gives w) s = value_keeps s (λ t. Ok s) _ (λ t. stays s)
  result_keeps OfConstructor s = stays s

  needs_keeps : (at : ℕ) (o : Option (List ValueType)) (s : Scope) → Keeps s (needs_none d at o s)
  needs_keeps at None s = λ t e. absurd cc
  needs_keeps at (Some []) s = stays s
  needs_keeps at (Some (t ∷ ts)) s = λ u e. absurd cc

  above_keeps : (name : PlainIdentifier) (r : JavaResult) (says : Bool) (s : Scope) → Keeps s (runs_above d class name r says s)
  above_keeps name OfConstructor false s = needs_keeps name.at _ s
  above_keeps name OfConstructor true s = stays s
  above_keeps name Void says s = stays s
  above_keeps name (Gives w) says s = stays s

  parameters_keep : (ps : List JavaParameter) (s : Scope) → Keeps s (refused.with_parameters d ps s)
  parameters_keep [] s = stays s
  parameters_keep (p ∷ ps) s = then_keeps s (refused.with_parameters d ps) _ (value_keeps s _ _ (λ t. name_keeps p.name t s)) (parameters_keep ps)

  abbrev head : Scope → Result Scope Fault
  head s = and_then (refused.with_parameters d m.parameters) (and_then (runs_above d class m.name m.result (begins_with_super m.body)) (result_known d m.result s))

  head_keeps : (s : Scope) → Keeps s (head s)
  head_keeps s =
      then_keeps s (refused.with_parameters d m.parameters) (and_then (runs_above d class m.name m.result (begins_with_super m.body)) (result_known d m.result s))
      (then_keeps s (runs_above d class m.name m.result (begins_with_super m.body)) (result_known d m.result s) (result_keeps m.result s) (above_keeps m.name m.result (begins_with_super m.body)))
      (parameters_keep m.parameters)

  abbrev place : Place
  place = place_of d class m

  unwritten_good : (r : JavaResult) (says : Bool) → GoodStmts [] (unwritten d r says class)
  unwritten_good OfConstructor false = above_good [] (above d (d.parent class)) (_, []) (tt, tt)
  unwritten_good OfConstructor true = tt
  unwritten_good Void says = tt
  unwritten_good (Gives w) says = tt

  body_good : (s : Scope) → method d class m empty_scope ≡ Ok s → IsResolvedBody (body_of d class m)
  body_good s e =
      let h = through (body d class m) (head empty_scope) s e in
      let kept = head_keeps empty_scope h.0 h.1 in
      let none : (a : Asked) → jumps_in (java_stmts m.body) a ≡ true → ⊥ =
      λ a j. none_allowed a (ap (λ b. allows [] b a) (sym kept.1) ∙ ap (λ ls. allows ls h.0.in_loop a) (sym kept.0) ∙ targets_in d place (returns_of d m.result) (java_stmts m.body) h.0 s a h.2 j) in
      let fits : Fits no_exits [] [] (jumps_in (java_stmts m.body)) false = record {
        leaves = λ j. absurd (none (ask false true []) j);
        repeats = λ j. absurd (none (ask true true []) j);
        breaks = λ l j. absurd (none (ask false false (l ∷ [])) j);
        continues = λ l j. absurd (none (ask true false (l ∷ [])) j);
      } in
      let first = unwritten d m.result (begins_with_super m.body) class in
      let locals = parameter_locals d m.parameters [] in
      let p = with_parameters d m.parameters (begun place) in
      let ss = (block_lines d place (java_stmts m.body) no_exits locals p).1 in
      let c = code_good [] (first ++ ss) (in_order_good [] first ss (unwritten_good m.result (begins_with_super m.body)) (stmts_good d constants place (returns_of d m.result) (java_stmts m.body) lexical.body_ h.0 s h.2 no_exits [] fits locals p)) in
      record { code = c.0; assigned = c.1 }

pub resolved : BodiesAreResolved
resolved d constants class m lexical s e = body_good d constants class m lexical s e
