-- Which jumps leave a statement that is not refused, and which are asked for beside others.
use Rattle.std.proofs.Common.{◌≡◌, ◌⊎◌, ◌||◌, ◌&&◌, inl, inr, ⊎_elim, ℕ, Bool, true, false, not, cond, List, [], ◌∷◌, filter, bytes_eq, Option, Some, None, Result, Ok, Err, refl, sym, ap, ◌∙◌}
use Rattle.std.specs.List.{list_any}
use Rattle.std.proofs.lemmas.Slice.Eq.{bytes_eq-Decides}
use Rattle.jd_syntax.specs.JavaTypes.{PlainIdentifier, PlainWritten}
use Rattle.jd_syntax.specs.JavaTrees.{JavaExpr, java_exprs, JavaDeclarator, JavaForStart, Declared, Evaluated, JavaStmt, Block, Empty, Local as Declaration, Evaluate, Label, If, IfElse, While, For, Break, Continue, Return, Throw, Try, TryFinally, Super, JavaStmts, NoStmts, StmtThen, Catch, JavaHandlers, NoHandlers, HandlerThen}
use Rattle.jd_bodies.specs.declared.fault.Fault.{Fault}
use Rattle.jd_bodies.specs.declared.fault.Cause.{Cause}
use Rattle.jd_bodies.specs.declared.place.Place.{Place}
use Rattle.jd_bodies.specs.declared.place.Returns.{Returns}
use Rattle.jd_bodies.specs.declared.place.Returns.TheVariants.{Nothing, Value}
use Rattle.jd_bodies.specs.declared.value.ValueType.{ValueType}
use Rattle.jd_bodies.specs.declared.value.ValueType.TheVariants.{Boolean, Class}
use Rattle.jd_bodies.specs.Declarations.{Declarations}
use Rattle.jd_bodies.specs.Jumps.{Asked, in_label, in_loop, is_asked, jumps, jumps_in, jumps_in_handlers}
use Rattle.jd_bodies.specs.Judgements.{and_then, only_if}
use Rattle.jd_bodies.specs.Expressions.{arguments, at_of, creation_fits, given, or_nothing, value, value_of, wanted, written_class, written_type}
use Rattle.jd_bodies.specs.Scopes.{Scope}
use Rattle.jd_bodies.specs.Types.{throwable}
use Rattle.jd_bodies.specs.Statements.{above_parameters, caught, constructed, declared, declared_names, effect, effects, for_head, for_start, handlers, inside_loop, may_break, may_continue, optional_part, out_of, part, returned, returned_value, stmt, stmts, while_head, with_name}

-- ---- results in a row

pub through : {A B : Type 0} (f : A → Result B Fault) (r : Result A Fault) (b : B) → and_then f r ≡ Ok b → (a : A) × (r ≡ Ok a) × (f a ≡ Ok b)
through f (Ok a) b e = (a, refl, e)
through f (Err x) b e = absurd cc

same_ok : {A : Type 0} (a b : A) → ◌≡◌ {A = Result A Fault} (Ok a) (Ok b) → a ≡ b
same_ok a b e = cc

pub only_true : {A : Type 0} (b : Bool) (at : ℕ) (cause : Cause) (a t : A) → only_if b at cause a ≡ Ok t → (b ≡ true) × (a ≡ t)
only_true true at cause a t e = (refl, same_ok a t e)
only_true false at cause a t e = absurd cc

pub left_it : (s : Scope) (r : Result Scope Fault) (t : Scope) → out_of s r ≡ Ok t → (u : Scope) × (r ≡ Ok u) × (s ≡ t)
left_it s r t e = let h = through (λ u. Ok s) r t e in (h.0, h.1, same_ok s t h.2)

-- ---- statements leave the labels and the loop around as they are

abbrev pub Around : Scope → Scope → Type 0
Around s t = (t.labels ≡ s.labels) × (t.in_loop ≡ s.in_loop)

abbrev pub Keeps : Scope → Result Scope Fault → Type 0
Keeps s r = (t : Scope) → r ≡ Ok t → Around s t

pub same_around : (s t : Scope) → s ≡ t → Around s t
same_around s t e = (ap (λ (u : Scope). u.labels) (sym e), ap (λ (u : Scope). u.in_loop) (sym e))

pub around_both : (s t u : Scope) → Around s t → Around t u → Around s u
around_both s t u f g = (g.0 ∙ f.0, g.1 ∙ f.1)

pub stays : (s : Scope) → Keeps s (Ok s)
stays s t e = same_around s t (same_ok s t e)

pub then_keeps : (s : Scope) (f : Scope → Result Scope Fault) (r : Result Scope Fault) → Keeps s r → ((t : Scope) → Keeps t (f t)) → Keeps s (and_then f r)
then_keeps s f r first second u e = let h = through f r u e in around_both s h.0 u (first h.0 h.1) (second h.0 u h.2)

pub value_keeps : {A : Type 0} (s : Scope) (f : A → Result Scope Fault) (r : Result A Fault) → ((a : A) → Keeps s (f a)) → Keeps s (and_then f r)
value_keeps s f r each u e = let h = through f r u e in each h.0 u h.2

pub out_keeps : (s : Scope) (r : Result Scope Fault) → Keeps s (out_of s r)
out_keeps s r = value_keeps s (λ t. Ok s) r (λ t. stays s)

pub only_keeps : (s : Scope) (b : Bool) (at : ℕ) (cause : Cause) → Keeps s (only_if b at cause s)
only_keeps s b at cause t e = same_around s t (only_true b at cause s t e).1

pub name_keeps : (x : PlainIdentifier) (t : ValueType) (s : Scope) → Keeps s (with_name x t s)
name_keeps x t s u e = let same = (only_true _ x.at _ _ u e).1 in (ap (λ (v : Scope). v.labels) (sym same), ap (λ (v : Scope). v.in_loop) (sym same))

pub caught_keeps : (d : Declarations) (c x : PlainIdentifier) (s : Scope) → Keeps s (caught d c x s)
caught_keeps d c x s =
    value_keeps s (λ k. and_then (λ t. with_name x (Class k) s) (wanted d throwable c.at (Class k))) (written_class d c)
    (λ k. value_keeps s (λ t. with_name x (Class k) s) (wanted d throwable c.at (Class k)) (λ t. name_keeps x (Class k) s))

module _ (d : Declarations) (place : Place) where
  pub part_keeps : (want : ValueType) (e : JavaExpr) (s : Scope) → Keeps s (part d place want e s)
  part_keeps want e s =
      value_keeps s (λ t. and_then (λ u. Ok s) (wanted d want (at_of e) t)) (value d place s.locals e) (λ t. value_keeps s (λ u. Ok s) (wanted d want (at_of e) t) (λ u. stays s))

  pub optional_keeps : (want : ValueType) (e : Option JavaExpr) (s : Scope) → Keeps s (optional_part d place want e s)
  optional_keeps want None s = stays s
  optional_keeps want (Some e) s = part_keeps want e s

  pub effect_keeps : (e : JavaExpr) (s : Scope) → Keeps s (effect d place e s)
  effect_keeps e s = value_keeps s (λ g. Ok s) (given d place s.locals e) (λ g. stays s)

  pub effects_keeps : (es : List JavaExpr) (s : Scope) → Keeps s (effects d place es s)
  effects_keeps [] s = stays s
  effects_keeps (e ∷ es) s = then_keeps s (effects d place es) (effect d place e s) (effect_keeps e s) (effects_keeps es)

  names_keeps : (t : ValueType) (xs : List JavaDeclarator) (s : Scope) → Keeps s (declared_names d place t xs s)
  names_keeps t [] s = stays s
  names_keeps t (x ∷ xs) s =
      then_keeps s (declared_names d place t xs) (and_then (optional_part d place t x.value) (with_name x.name t s))
      (then_keeps s (optional_part d place t x.value) (with_name x.name t s) (name_keeps x.name t s) (optional_keeps t x.value)) (names_keeps t xs)

  pub declared_keeps : (w : PlainWritten) (xs : List JavaDeclarator) (s : Scope) → Keeps s (declared d place w xs s)
  declared_keeps w xs s = value_keeps s (λ t. declared_names d place t xs s) (written_type d w) (λ t. names_keeps t xs s)

  pub start_keeps : (start : JavaForStart) (s : Scope) → Keeps s (for_start d place start s)
  start_keeps (Declared w xs) s = declared_keeps w xs s
  start_keeps (Evaluated es) s = effects_keeps es s

  value_returned : (at first : ℕ) (r : Returns) (t : ValueType) (s : Scope) → Keeps s (returned_value d place at r first t s)
  value_returned at first Nothing t s = λ u e. absurd cc
  value_returned at first (Value want) t s = value_keeps s (λ u. Ok s) (wanted d want first t) (λ u. stays s)

  returned_keeps : (r : Returns) (at : ℕ) (e : Option JavaExpr) (s : Scope) → Keeps s (returned d place r at e s)
  returned_keeps Nothing at None s = stays s
  returned_keeps (Value want) at None s = λ t e. absurd cc
  returned_keeps r at (Some e) s = value_keeps s (λ t. returned_value d place at r (at_of e) t s) (value d place s.locals e) (λ t. value_returned at (at_of e) r t s)

  constructed_keeps : (at : ℕ) (es : List JavaExpr) (s : Scope) → Keeps s (constructed d place at es s)
  constructed_keeps at es s =
      let wants = above_parameters d (d.parent place.class) in
      value_keeps s (λ a. and_then (λ g. Ok s) (creation_fits at wants (value_of Boolean) a)) (arguments d place s.locals (java_exprs es) (or_nothing wants))
      (λ a. value_keeps s (λ g. Ok s) (creation_fits at wants (value_of Boolean) a) (λ g. stays s))

  -- the head of a loop is around what it was, and in a loop
  pub while_head_gives : (c : JavaExpr) (s t : Scope) → while_head d place c s ≡ Ok t → (t.labels ≡ s.labels) × (t.in_loop ≡ true)
  while_head_gives c s t e =
      let h = through (λ u. Ok (inside_loop u)) (part d place Boolean c s) t e in
      let same = same_ok (inside_loop h.0) t h.2 in
      (ap (λ (u : Scope). u.labels) (sym same) ∙ (part_keeps Boolean c s h.0 h.1).0, ap (λ (u : Scope). u.in_loop) (sym same))

  pub for_head_gives : (start : JavaForStart) (c : Option JavaExpr) (update : List JavaExpr) (s t : Scope) → for_head d place start c update s ≡ Ok t → (t.labels ≡ s.labels) × (t.in_loop ≡ true)
  for_head_gives start c update s t e =
      let h = through (λ u. Ok (inside_loop u)) (and_then (effects d place update) (and_then (optional_part d place Boolean c) (for_start d place start s))) t e in
      let same = same_ok (inside_loop h.0) t h.2 in
      let kept =
      then_keeps s (effects d place update) (and_then (optional_part d place Boolean c) (for_start d place start s))
      (then_keeps s (optional_part d place Boolean c) (for_start d place start s) (start_keeps start s) (optional_keeps Boolean c)) (effects_keeps update) h.0 h.1 in
      (ap (λ (u : Scope). u.labels) (sym same) ∙ kept.0, ap (λ (u : Scope). u.in_loop) (sym same))

module _ (d : Declarations) (place : Place) (returns : Returns) where
  mutual
    pub stmt_keeps : (b : JavaStmt) (s : Scope) → Keeps s (stmt d place returns b s)
    stmt_keeps (Block at ss) s = out_keeps s (stmts d place returns ss s)
    stmt_keeps (Empty at) s = stays s
    stmt_keeps (Declaration at w xs) s = declared_keeps d place w xs s
    stmt_keeps (Evaluate at e) s = effect_keeps d place e s
    stmt_keeps (Label at j l b) s = out_keeps s _
    stmt_keeps (If at c b) s = out_keeps s _
    stmt_keeps (IfElse at c b e) s = out_keeps s _
    stmt_keeps (While at j c b) s = out_keeps s _
    stmt_keeps (For at j start c update b) s = out_keeps s _
    stmt_keeps (Break at l) s = only_keeps s (may_break s l) at _
    stmt_keeps (Continue at l) s = only_keeps s (may_continue s l) at _
    stmt_keeps (Return at e) s = returned_keeps d place returns at e s
    stmt_keeps (Throw at e) s = part_keeps d place _ e s
    stmt_keeps (Try at bs hs) s = then_keeps s (handlers d place returns hs) (out_of s (stmts d place returns bs s)) (out_keeps s _) (handlers_keep hs)
    stmt_keeps (TryFinally at bs hs fs) s = out_keeps s _
    stmt_keeps (Super at es) s = constructed_keeps d place at es s

    pub handlers_keep : (hs : JavaHandlers) (s : Scope) → Keeps s (handlers d place returns hs s)
    handlers_keep NoHandlers s = stays s
    handlers_keep (HandlerThen (Catch at c x bs) hs) s = then_keeps s (handlers d place returns hs) _ (out_keeps s _) (handlers_keep hs)

-- ---- what is asked for

abbrev pub ask : Bool → Bool → List (List ℕ) → Asked
ask repeats plain labels = record { repeats = repeats; plain = plain; labels = labels }

abbrev pub has_label : List (List ℕ) → List ℕ → Bool
has_label ls m = list_any (λ l. bytes_eq l m) ls

-- what is asked of the one is asked of the other
pub record Wider (a b : Asked) : Type 0 where
  pub repeats : a.repeats ≡ b.repeats
  pub plain : a.plain ≡ true → b.plain ≡ true
  pub labels : (m : List ℕ) → has_label a.labels m ≡ true → has_label b.labels m ≡ true

pub or_cases : (a b : Bool) → a || b ≡ true → (a ≡ true) ⊎ (b ≡ true)
or_cases true b e = inl refl
or_cases false b e = inr e

pub or_left : (a b : Bool) → a ≡ true → a || b ≡ true
or_left true b e = refl
or_left false b e = absurd cc

pub or_right : (a b : Bool) → b ≡ true → a || b ≡ true
or_right true b e = refl
or_right false b e = e

pub and_both : (a b : Bool) → a && b ≡ true → (a ≡ true) × (b ≡ true)
and_both true b e = (refl, e)
and_both false b e = absurd cc

pub both_and : (a b : Bool) → a ≡ true → b ≡ true → a && b ≡ true
both_and true b e f = f
both_and false b e f = absurd cc

-- without one label
kept_label : (ls : List (List ℕ)) (l m : List ℕ) → has_label (filter (λ x. not (bytes_eq x l)) ls) m ≡ true → (has_label ls m ≡ true) × (bytes_eq m l ≡ false)
kept_label [] l m e = absurd cc
kept_label (x ∷ xs) l m e = by (bytes_eq x l) refl e (kept_label xs l m)
  where
    here : (b : Bool) → bytes_eq x m ≡ b → bytes_eq x l ≡ false → (has_label (filter (λ y. not (bytes_eq y l)) xs) m ≡ true → (has_label xs m ≡ true) × (bytes_eq m l ≡ false)) → b || has_label (filter (λ y. not (bytes_eq y l)) xs) m ≡ true → (bytes_eq x m || has_label xs m ≡ true) × (bytes_eq m l ≡ false)
    here true is unlike rest e = (or_left (bytes_eq x m) (has_label xs m) is, ap (λ z. bytes_eq z l) (sym ((bytes_eq-Decides x m).0 is)) ∙ unlike)
    here false is unlike rest e = let r = rest e in (or_right (bytes_eq x m) (has_label xs m) r.0, r.1)

    by : (b : Bool) → bytes_eq x l ≡ b → has_label (cond (not b) (x ∷ filter (λ y. not (bytes_eq y l)) xs) (filter (λ y. not (bytes_eq y l)) xs)) m ≡ true → (has_label (filter (λ y. not (bytes_eq y l)) xs) m ≡ true → (has_label xs m ≡ true) × (bytes_eq m l ≡ false)) → (bytes_eq x m || has_label xs m ≡ true) × (bytes_eq m l ≡ false)
    by true is e rest = let r = rest e in (or_right (bytes_eq x m) (has_label xs m) r.0, r.1)
    by false is e rest = here (bytes_eq x m) refl is rest e

label_kept : (ls : List (List ℕ)) (l m : List ℕ) → has_label ls m ≡ true → bytes_eq m l ≡ false → has_label (filter (λ x. not (bytes_eq x l)) ls) m ≡ true
label_kept [] l m e unlike = absurd cc
label_kept (x ∷ xs) l m e unlike = by (bytes_eq x l) refl (or_cases (bytes_eq x m) (has_label xs m) e) (λ h. label_kept xs l m h unlike)
  where
    by : (b : Bool) → bytes_eq x l ≡ b → (bytes_eq x m ≡ true) ⊎ (has_label xs m ≡ true) → (has_label xs m ≡ true → has_label (filter (λ y. not (bytes_eq y l)) xs) m ≡ true) → has_label (cond (not b) (x ∷ filter (λ y. not (bytes_eq y l)) xs) (filter (λ y. not (bytes_eq y l)) xs)) m ≡ true
    by true is (inl same) rest = let other : bytes_eq m l ≡ true = ap (λ z. bytes_eq z l) (sym ((bytes_eq-Decides x m).0 same)) ∙ is in let no_ : bytes_eq m l ≡ false = unlike in cc
    by true is (inr behind) rest = rest behind
    by false is (inl same) rest = or_left (bytes_eq x m) _ same
    by false is (inr behind) rest = or_right (bytes_eq x m) _ (rest behind)

pub wider_label : (l : List ℕ) (a b : Asked) → Wider a b → Wider (in_label l a) (in_label l b)
wider_label l a b w = record {
  repeats = w.repeats;
  plain = w.plain;
  labels = λ m e. let k = kept_label a.labels l m e in label_kept b.labels l m (w.labels m k.0) k.1;
}

pub wider_loop : (a b : Asked) → Wider a b → Wider (in_loop a) (in_loop b)
wider_loop a b w = record { repeats = w.repeats; plain = λ e. e; labels = w.labels }

wider_asked : (a b : Asked) (l : Option PlainIdentifier) → Wider a b → is_asked a l ≡ true → is_asked b l ≡ true
wider_asked a b None w e = w.plain e
wider_asked a b (Some l) w e = w.labels l.name e

wider_or : (a b c e : Bool) → (a ≡ true → c ≡ true) → (b ≡ true → e ≡ true) → a || b ≡ true → c || e ≡ true
wider_or a b c e f g h = ⊎_elim (λ x. or_left c e (f x)) (λ x. or_right c e (g x)) (or_cases a b h)

mutual
  pub wider_jumps : (s : JavaStmt) (a b : Asked) → Wider a b → jumps s a ≡ true → jumps s b ≡ true
  wider_jumps (Block at ss) a b w e = wider_in ss a b w e
  wider_jumps (Empty at) a b w e = e
  wider_jumps (Declaration at t xs) a b w e = e
  wider_jumps (Evaluate at x) a b w e = e
  wider_jumps (Label at j l s) a b w e = wider_jumps s (in_label l a) (in_label l b) (wider_label l a b w) e
  wider_jumps (If at c s) a b w e = wider_jumps s a b w e
  wider_jumps (IfElse at c s t) a b w e = wider_or (jumps s a) (jumps t a) (jumps s b) (jumps t b) (wider_jumps s a b w) (wider_jumps t a b w) e
  wider_jumps (While at j c s) a b w e = wider_jumps s (in_loop a) (in_loop b) (wider_loop a b w) e
  wider_jumps (For at j start c update s) a b w e = wider_jumps s (in_loop a) (in_loop b) (wider_loop a b w) e
  wider_jumps (Break at l) a b w e =
      let h = and_both (not a.repeats) (is_asked a l) e in both_and (not b.repeats) (is_asked b l) (ap not (sym w.repeats) ∙ h.0) (wider_asked a b l w h.1)
  wider_jumps (Continue at l) a b w e = let h = and_both a.repeats (is_asked a l) e in both_and b.repeats (is_asked b l) (sym w.repeats ∙ h.0) (wider_asked a b l w h.1)
  wider_jumps (Return at x) a b w e = e
  wider_jumps (Throw at x) a b w e = e
  wider_jumps (Try at ss hs) a b w e = wider_or (jumps_in ss a) (jumps_in_handlers hs a) (jumps_in ss b) (jumps_in_handlers hs b) (wider_in ss a b w) (wider_handlers hs a b w) e
  wider_jumps (TryFinally at ss hs ts) a b w e =
      wider_or (jumps_in ss a || jumps_in_handlers hs a) (jumps_in ts a) (jumps_in ss b || jumps_in_handlers hs b) (jumps_in ts b)
      (wider_or (jumps_in ss a) (jumps_in_handlers hs a) (jumps_in ss b) (jumps_in_handlers hs b) (wider_in ss a b w) (wider_handlers hs a b w)) (wider_in ts a b w) e
  wider_jumps (Super at es) a b w e = e

  wider_in : (ss : JavaStmts) (a b : Asked) → Wider a b → jumps_in ss a ≡ true → jumps_in ss b ≡ true
  wider_in NoStmts a b w e = e
  wider_in (StmtThen s ss) a b w e = wider_or (jumps s a) (jumps_in ss a) (jumps s b) (jumps_in ss b) (wider_jumps s a b w) (wider_in ss a b w) e

  wider_handlers : (hs : JavaHandlers) (a b : Asked) → Wider a b → jumps_in_handlers hs a ≡ true → jumps_in_handlers hs b ≡ true
  wider_handlers NoHandlers a b w e = e
  wider_handlers (HandlerThen (Catch at c x ss) hs) a b w e = wider_or (jumps_in ss a) (jumps_in_handlers hs a) (jumps_in ss b) (jumps_in_handlers hs b) (wider_in ss a b w) (wider_handlers hs a b w) e
