-- What is in scope behind a part of a body is what was before it, and perhaps more.
use Rattle.std.proofs.Common.{◌≡◌, ◌++◌, ◌-◌, ℕ, drop, length, take, arith, List, [], ◌∷◌, Bool, true, false, Option, Some, None, Result, Ok, Err, refl, sym, ap, subst, ◌∙◌}
use Rattle.std.specs.Option.{is_none}
use Rattle.std.proofs.lemmas.List.{append_assoc, append-nil, length-append}
use Rattle.std.proofs.Math.Seq.{drop-append_seam, take-append_seam}
use Rattle.jd_syntax.specs.JavaTypes.{PlainIdentifier, PlainWritten}
use Rattle.jd_syntax.specs.JavaTrees as java
use Rattle.jd_syntax.specs.JavaTrees.{JavaExpr, JavaDeclarator, JavaForStart, JavaStmt, JavaStmts, JavaHandlers, java_exprs}
use Rattle.jd_bodies.specs.declared.fault.Fault.{Fault}
use Rattle.jd_bodies.specs.declared.fault.Cause.{Cause}
use Rattle.jd_bodies.specs.declared.fault.Cause.TheVariants.{Redeclared}
use Rattle.jd_bodies.specs.declared.place.Place.{Place}
use Rattle.jd_bodies.specs.declared.place.Returns.{Returns}
use Rattle.jd_bodies.specs.declared.place.Returns.TheVariants as returned_
use Rattle.jd_bodies.specs.declared.value.ValueType.{ValueType}
use Rattle.jd_bodies.specs.declared.value.ValueType.TheVariants as types
use Rattle.jd_bodies.specs.Declarations.{Declarations}
use Rattle.jd_bodies.specs.Judgements.{and_then, only_if}
use Rattle.jd_bodies.specs.Scopes.{Local, Scope, local_named}
use Rattle.jd_bodies.specs.Expressions.{given, value, wanted, written_class, written_type, arguments}
use Rattle.jd_bodies.specs.Statements.{out_of, inside_label, inside_loop, with_local, with_name, part, optional_part, effect, effects, declared_names, declared, for_start, for_head, while_head, returned_value, returned_nothing, returned, constructed, caught, stmt, stmts, handlers}
use Rattle.jd_bodies.specs.Types.{throwable}
use Rattle.jd_naming.specs.Marks.{left_at, marked}

-- the locals and labels of one place are those of another, and perhaps more
pub record Extends (s outer : Scope) : Type 0 where
  pub inner : List Local
  pub locals_ : s.locals ≡ inner ++ outer.locals
  pub within : List (List ℕ × Bool)
  pub labels_ : s.labels ≡ outer.labels ++ within

abbrev ok : Scope → Result Scope Fault
ok s = Ok s

same_scope : (s t : Scope) → ok s ≡ ok t → s ≡ t
same_scope s t e = cc

-- ---- scopes

itself : (s : Scope) → Extends s s
itself s = record { inner = []; locals_ = refl; within = []; labels_ = sym (append-nil s.labels) }

through : (s t u : Scope) → Extends s t → Extends t u → Extends s u
through s t u a b = record {
  inner = a.inner ++ b.inner;
  locals_ = a.locals_ ∙ ap (λ l. a.inner ++ l) b.locals_ ∙ sym (append_assoc a.inner b.inner u.locals);
  within = b.within ++ a.within;
  labels_ = a.labels_ ∙ ap (λ l. l ++ a.within) b.labels_ ∙ append_assoc u.labels b.within a.within;
}

-- as much as was in scope is left of what is
dropped_all : {A : Type 0} (xs ys : List A) → drop (length (xs ++ ys) - length ys) (xs ++ ys) ≡ ys
dropped_all xs ys =
    let same : length (xs ++ ys) - length ys ≡ length xs = (let sum = length-append xs ys in omega arith) in
    ap (λ n. drop n (xs ++ ys)) same ∙ drop-append_seam xs ys

all_left : (t s : Scope) → Extends t s → left_at (marked s) t ≡ s
all_left t s e =
    ap (λ (l : List Local). record { locals = drop (length l - length s.locals) l; labels = take (length s.labels) t.labels; in_loop = s.in_loop }) e.locals_
    ∙ ap (λ (l : List (List ℕ × Bool)). record { locals = drop (length (e.inner ++ s.locals) - length s.locals) (e.inner ++ s.locals); labels = take (length s.labels) l; in_loop = s.in_loop }) e.labels_
    ∙ ap (λ (l : List Local). record { locals = l; labels = take (length s.labels) (s.labels ++ e.within); in_loop = s.in_loop }) (dropped_all e.inner s.locals)
    ∙ ap (λ (l : List (List ℕ × Bool)). record { locals = s.locals; labels = l; in_loop = s.in_loop }) (take-append_seam s.labels e.within)

-- what is in scope behind a result, where there is one
abbrev Grows : Result Scope Fault → Scope → Type 0
Grows r outer = (t : Scope) → r ≡ Ok t → Extends t outer

stays : (s : Scope) → Grows (Ok s) s
stays s t e = let same = same_scope s t e in subst (λ u. Extends u s) same (itself s)

refuses : (f : Fault) (outer : Scope) → Grows (Err f) outer
refuses f outer t e = absurd cc

then_stays : {A : Type 0} (r : Result A Fault) (s : Scope) → Grows (and_then (λ a. Ok s) r) s
then_stays (Ok a) s = stays s
then_stays (Err f) s = refuses f s

then_grows : {A : Type 0} (r : Result A Fault) (f : A → Result Scope Fault) (outer : Scope) → ((a : A) → Grows (f a) outer) → Grows (and_then f r) outer
then_grows (Ok a) f outer each = each a
then_grows (Err e) f outer each = refuses e outer

only_if_stays : (b : Bool) (at : ℕ) (cause : Cause) (s : Scope) → Grows (only_if b at cause s) s
only_if_stays true at cause s = stays s
only_if_stays false at cause s = refuses _ s

-- one part, and then another where the first one ends
in_a_row : (r : Result Scope Fault) (f : Scope → Result Scope Fault) (outer : Scope) → Grows r outer → ((s : Scope) → Grows (f s) s) → Grows (and_then f r) outer
in_a_row (Ok s) f outer first second = λ t e. through t s outer (second s t e) (first s refl)
in_a_row (Err e) f outer first second = refuses e outer

-- ---- parts of statements

name_grows : (x : PlainIdentifier) (t : ValueType) (s : Scope) → Grows (with_name x t s) s
name_grows x t s = within_test (is_none (local_named s.locals x.name))
  where
    within_test : (b : Bool) → Grows (only_if b x.at Redeclared (with_local x.name t s)) s
    within_test true u e =
        let same = same_scope (with_local x.name t s) u e in
        subst (λ v. Extends v s) same (record { inner = record { name = x.name; type = t } ∷ []; locals_ = refl; within = []; labels_ = sym (append-nil s.labels) })
    within_test false u e = absurd cc

module _ (d : Declarations) (place : Place) where
  part_stays : (want : ValueType) (e : JavaExpr) (s : Scope) → Grows (part d place want e s) s
  part_stays want e s = then_grows (value d place s.locals e) _ s (λ t. then_stays (wanted d want _ t) s)

  optional_stays : (want : ValueType) (e : Option JavaExpr) (s : Scope) → Grows (optional_part d place want e s) s
  optional_stays want None s = stays s
  optional_stays want (Some e) s = part_stays want e s

  effect_stays : (e : JavaExpr) (s : Scope) → Grows (effect d place e s) s
  effect_stays e s = then_stays (given d place s.locals e) s

  effects_stay : (es : List JavaExpr) (s : Scope) → Grows (effects d place es s) s
  effects_stay [] s = stays s
  effects_stay (e ∷ es) s = in_a_row (effect d place e s) _ s (effect_stays e s) (effects_stay es)

  names_grow : (t : ValueType) (xs : List JavaDeclarator) (s : Scope) → Grows (declared_names d place t xs s) s
  names_grow t [] s = stays s
  names_grow t (x ∷ xs) s = in_a_row _ _ s (in_a_row (with_name x.name t s) _ s (name_grows x.name t s) (optional_stays t x.value)) (names_grow t xs)

  declared_grows : (w : PlainWritten) (xs : List JavaDeclarator) (s : Scope) → Grows (declared d place w xs s) s
  declared_grows w xs s = then_grows (written_type d w) _ s (λ t. names_grow t xs s)

  start_grows : (start : JavaForStart) (s : Scope) → Grows (for_start d place start s) s
  start_grows (java.Declared w xs) s = declared_grows w xs s
  start_grows (java.Evaluated es) s = effects_stay es s

  loop_grows : (s : Scope) → Grows (Ok (inside_loop s)) s
  loop_grows s t e = let same = same_scope (inside_loop s) t e in subst (λ u. Extends u s) same (record { inner = []; locals_ = refl; within = []; labels_ = sym (append-nil s.labels) })

  head_grows : (start : JavaForStart) (c : Option JavaExpr) (update : List JavaExpr) (s : Scope) → Grows (for_head d place start c update s) s
  head_grows start c update s =
      in_a_row _ _ s (in_a_row _ _ s (in_a_row (for_start d place start s) _ s (start_grows start s) (optional_stays types.Boolean c)) (effects_stay update)) loop_grows

  while_grows : (c : JavaExpr) (s : Scope) → Grows (while_head d place c s) s
  while_grows c s = in_a_row (part d place types.Boolean c s) _ s (part_stays types.Boolean c s) loop_grows

  constructed_stays : (at : ℕ) (es : List JavaExpr) (s : Scope) → Grows (constructed d place at es s) s
  constructed_stays at es s = then_grows (arguments d place s.locals (java_exprs es) _) _ s (λ a. then_stays _ s)

  caught_grows : (c x : PlainIdentifier) (s : Scope) → Grows (caught d c x s) s
  caught_grows c x s = then_grows (written_class d c) _ s (λ k. then_grows (wanted d throwable c.at (types.Class k)) _ s (λ t. name_grows x (types.Class k) s))

  value_stays : (at : ℕ) (r : Returns) (first : ℕ) (t : ValueType) (s : Scope) → Grows (returned_value d place at r first t s) s
  value_stays at returned_.Nothing first t s = refuses _ s
  value_stays at (returned_.Value want) first t s = then_stays (wanted d want first t) s

  nothing_stays : (at : ℕ) (r : Returns) (s : Scope) → Grows (returned_nothing d place at r s) s
  nothing_stays at returned_.Nothing s = stays s
  nothing_stays at (returned_.Value want) s = refuses _ s

  returned_stays : (r : Returns) (at : ℕ) (e : Option JavaExpr) (s : Scope) → Grows (returned d place r at e s) s
  returned_stays r at None s = nothing_stays at r s
  returned_stays r at (Some e) s = then_grows (value d place s.locals e) _ s (λ t. value_stays at r _ t s)

  label_grows : (l : List ℕ) (loop : Bool) (s : Scope) → Extends (inside_label l loop s) s
  label_grows l loop s = record { inner = []; locals_ = refl; within = (l, loop) ∷ []; labels_ = refl }

module _ (d : Declarations) (place : Place) (returns : Returns) where
  out_stays : (s : Scope) (r : Result Scope Fault) → Grows (out_of s r) s
  out_stays s r = then_stays r s

  handlers_stay : (hs : JavaHandlers) (s : Scope) → Grows (handlers d place returns hs s) s
  handlers_stay java.NoHandlers s = stays s
  handlers_stay (java.HandlerThen (java.Catch at c x bs) hs) s = in_a_row (out_of s (and_then (stmts d place returns bs) (caught d c x s))) _ s (out_stays s _) (handlers_stay hs)

  stmt_grows : (b : JavaStmt) (s : Scope) → Grows (stmt d place returns b s) s
  stmt_grows (java.Block at ss) s = out_stays s _
  stmt_grows (java.Empty at) s = stays s
  stmt_grows (java.Local at w xs) s = declared_grows d place w xs s
  stmt_grows (java.Evaluate at e) s = effect_stays d place e s
  stmt_grows (java.Label at j l b) s = out_stays s _
  stmt_grows (java.If at c b) s = out_stays s _
  stmt_grows (java.IfElse at c b e) s = out_stays s _
  stmt_grows (java.While at j c b) s = out_stays s _
  stmt_grows (java.For at j start c update b) s = out_stays s _
  stmt_grows (java.Break at l) s = only_if_stays _ _ _ s
  stmt_grows (java.Continue at l) s = only_if_stays _ _ _ s
  stmt_grows (java.Return at e) s = returned_stays d place returns at e s
  stmt_grows (java.Throw at e) s = part_stays d place _ e s
  stmt_grows (java.Try at bs hs) s = in_a_row (out_of s (stmts d place returns bs s)) _ s (out_stays s _) (handlers_stay hs)
  stmt_grows (java.TryFinally at bs hs fs) s = out_stays s _
  stmt_grows (java.Super at es) s = constructed_stays d place at es s

  stmts_grow : (bs : JavaStmts) (s : Scope) → Grows (stmts d place returns bs s) s
  stmts_grow java.NoStmts s = stays s
  stmts_grow (java.StmtThen b bs) s = in_a_row (stmt d place returns b s) _ s (stmt_grows b s) (stmts_grow bs)

  -- ---- what is left at the end of each statement is what was in scope where it began

  pub block_left : (bs : JavaStmts) (s t : Scope) → stmts d place returns bs s ≡ Ok t → left_at (marked s) t ≡ s
  block_left bs s t e = all_left t s (stmts_grow bs s t e)

  pub label_left : (b : JavaStmt) (l : List ℕ) (loop : Bool) (s t : Scope) → stmt d place returns b (inside_label l loop s) ≡ Ok t → left_at (marked s) t ≡ s
  label_left b l loop s t e = all_left t s (through t _ s (stmt_grows b (inside_label l loop s) t e) (label_grows d place l loop s))

  pub if_left : (c : JavaExpr) (b : JavaStmt) (s u t : Scope) → part d place types.Boolean c s ≡ Ok u → stmt d place returns b u ≡ Ok t → left_at (marked s) t ≡ s
  if_left c b s u t e f = all_left t s (through t u s (stmt_grows b u t f) (part_stays d place types.Boolean c s u e))

  pub else_left : (c : JavaExpr) (b o : JavaStmt) (s u v t : Scope) → part d place types.Boolean c s ≡ Ok u → stmt d place returns b u ≡ Ok v → stmt d place returns o v ≡ Ok t → left_at (marked s) t ≡ s
  else_left c b o s u v t e f g = all_left t s (through t v s (stmt_grows o v t g) (through v u s (stmt_grows b u v f) (part_stays d place types.Boolean c s u e)))

  pub while_left : (c : JavaExpr) (b : JavaStmt) (s u t : Scope) → while_head d place c s ≡ Ok u → stmt d place returns b u ≡ Ok t → left_at (marked s) t ≡ s
  while_left c b s u t e f = all_left t s (through t u s (stmt_grows b u t f) (while_grows d place c s u e))

  pub for_left : (start : JavaForStart) (c : Option JavaExpr) (update : List JavaExpr) (b : JavaStmt) (s u t : Scope) → for_head d place start c update s ≡ Ok u → stmt d place returns b u ≡ Ok t → left_at (marked s) t ≡ s
  for_left start c update b s u t e f = all_left t s (through t u s (stmt_grows b u t f) (head_grows d place start c update s u e))

  pub handler_left : (c x : PlainIdentifier) (bs : JavaStmts) (s u t : Scope) → caught d c x s ≡ Ok u → stmts d place returns bs u ≡ Ok t → left_at (marked s) t ≡ s
  handler_left c x bs s u t e f = all_left t s (through t u s (stmts_grow bs u t f) (caught_grows d place c x s u e))

  pub finally_left : (hs : JavaHandlers) (fs : JavaStmts) (s u t : Scope) → handlers d place returns hs s ≡ Ok u → stmts d place returns fs u ≡ Ok t → left_at (marked s) t ≡ s
  finally_left hs fs s u t e f = all_left t s (through t u s (stmts_grow fs u t f) (handlers_stay hs s u e))
