-- What is asked in two parts.
use Rattle.std.proofs.Common.{◌≡◌, ℕ, Bool, true, false, not, ◌||◌, ◌&&◌, List, [], ◌∷◌, if◌then◌else◌, filter, Option, Some, None, refl, sym, ap, ◌∙◌}
use Rattle.std.specs.List.{list_any}
use Rattle.std.specs.Str.{bytes_eq}
use Rattle.std.proofs.lemmas.Slice.Eq.{bytes_eq-Decides}
use Rattle.jd_syntax.specs.JavaTypes.{PlainIdentifier}
use Rattle.jd_syntax.specs.JavaTrees.{JavaStmt, JavaStmts, JavaHandlers, Block, Empty, Local, Evaluate, Label, If, IfElse, While, For, Break, Continue, Return, Throw, Try, TryFinally, Super, NoStmts, StmtThen, Catch, NoHandlers, HandlerThen}
use Rattle.jd_bodies.specs.Jumps.{Asked, in_label, in_loop, is_asked, jumps, jumps_in, jumps_in_handlers}
use Rattle.jd_effect_code.specs.Asking.{any_repeats, asking}

abbrev pub has : List ℕ → List (List ℕ) → Bool
has m ls = list_any (λ x. bytes_eq x m) ls

-- what is asked is asked by one of two
pub record Splits (whole first second : Asked) : Type 0 where
  pub one : first.repeats ≡ whole.repeats
  pub other : second.repeats ≡ whole.repeats
  pub plain : whole.plain ≡ (first.plain || second.plain)
  pub labelled : (m : List ℕ) → has m whole.labels ≡ (has m first.labels || has m second.labels)

or_four : (a b c d : Bool) → ((a || b) || (c || d)) ≡ ((a || c) || (b || d))
or_four true b c d = refl
or_four false true true d = refl
or_four false true false d = refl
or_four false false c d = refl

and_or : (a b c : Bool) → (a && (b || c)) ≡ ((a && b) || (a && c))
and_or true b c = refl
and_or false b c = refl

both : (a b c d w v : Bool) → w ≡ (a || b) → v ≡ (c || d) → (w || v) ≡ ((a || c) || (b || d))
both a b c d w v first second = ap (λ x. x || v) first ∙ ap (λ x. (a || b) || x) second ∙ or_four a b c d

-- what is left of labels without one
without : (l m : List ℕ) (xs : List (List ℕ)) → has m (filter (λ x. not (bytes_eq x l)) xs) ≡ (not (bytes_eq m l) && has m xs)
without l m [] = by (not (bytes_eq m l))
  where
    by : (b : Bool) → false ≡ (b && false)
    by true = refl
    by false = refl
without l m (x ∷ xs) = choose (bytes_eq x l) refl (without l m xs)
  where
    there : (b c : Bool) → bytes_eq x m ≡ b → bytes_eq m l ≡ c → bytes_eq x l ≡ false → (b || (not c && has m xs)) ≡ (not c && (b || has m xs))
    there true true xm ml xl = absurd (wrong (sym (ap (λ n. bytes_eq n l) ((bytes_eq-Decides x m).0 xm) ∙ ml) ∙ xl))
      where
        wrong : true ≡ false → ⊥
        wrong e = cc
    there true false xm ml xl = refl
    there false true xm ml xl = refl
    there false false xm ml xl = refl

    gone : (b c : Bool) → bytes_eq x m ≡ b → bytes_eq m l ≡ c → bytes_eq x l ≡ true → (not c && has m xs) ≡ (not c && (b || has m xs))
    gone true false xm ml xl = absurd (wrong (sym xl ∙ ap (λ n. bytes_eq n l) ((bytes_eq-Decides x m).0 xm) ∙ ml))
      where
        wrong : true ≡ false → ⊥
        wrong e = cc
    gone true true xm ml xl = refl
    gone false true xm ml xl = refl
    gone false false xm ml xl = refl

    choose : (b : Bool) → bytes_eq x l ≡ b → has m (filter (λ y. not (bytes_eq y l)) xs) ≡ (not (bytes_eq m l) && has m xs) → has m (if not b then x ∷ filter (λ y. not (bytes_eq y l)) xs else filter (λ y. not (bytes_eq y l)) xs) ≡ (not (bytes_eq m l) && has m (x ∷ xs))
    choose true is rest = rest ∙ gone (bytes_eq x m) (bytes_eq m l) refl refl is
    choose false is rest = ap (λ r. bytes_eq x m || r) rest ∙ there (bytes_eq x m) (bytes_eq m l) refl refl is

inside_label : (w f s : Asked) (l : List ℕ) → Splits w f s → Splits (in_label l w) (in_label l f) (in_label l s)
inside_label w f s l h = record {
  one = h.one;
  other = h.other;
  plain = h.plain;
  labelled = λ m. without l m w.labels ∙ ap (λ b. not (bytes_eq m l) && b) (h.labelled m) ∙ and_or (not (bytes_eq m l)) (has m f.labels) (has m s.labels)
      ∙ ap (λ b. b || (not (bytes_eq m l) && has m s.labels)) (sym (without l m f.labels)) ∙ ap (λ b. has m (in_label l f).labels || b) (sym (without l m s.labels));
}

inside_loop : (w f s : Asked) → Splits w f s → Splits (in_loop w) (in_loop f) (in_loop s)
inside_loop w f s h = record { one = h.one; other = h.other; plain = refl; labelled = h.labelled }

asked_split : (w f s : Asked) (l : Option PlainIdentifier) → Splits w f s → is_asked w l ≡ (is_asked f l || is_asked s l)
asked_split w f s None h = h.plain
asked_split w f s (Some l) h = h.labelled l.name

broken : (w f s : Asked) (l : Option PlainIdentifier) → Splits w f s → (not w.repeats && is_asked w l) ≡ ((not f.repeats && is_asked f l) || (not s.repeats && is_asked s l))
broken w f s l h =
    ap (λ b. not w.repeats && b) (asked_split w f s l h) ∙ and_or (not w.repeats) (is_asked f l) (is_asked s l)
    ∙ ap (λ b. (not b && is_asked f l) || (not w.repeats && is_asked s l)) (sym h.one) ∙ ap (λ b. (not f.repeats && is_asked f l) || (not b && is_asked s l)) (sym h.other)

continued : (w f s : Asked) (l : Option PlainIdentifier) → Splits w f s → (w.repeats && is_asked w l) ≡ ((f.repeats && is_asked f l) || (s.repeats && is_asked s l))
continued w f s l h =
    ap (λ b. w.repeats && b) (asked_split w f s l h) ∙ and_or w.repeats (is_asked f l) (is_asked s l)
    ∙ ap (λ b. (b && is_asked f l) || (w.repeats && is_asked s l)) (sym h.one) ∙ ap (λ b. (f.repeats && is_asked f l) || (b && is_asked s l)) (sym h.other)

mutual
  pub split : (t : JavaStmt) (w f s : Asked) → Splits w f s → jumps t w ≡ (jumps t f || jumps t s)
  split (Block at ss) w f s h = split_in ss w f s h
  split (Empty at) w f s h = refl
  split (Local at v xs) w f s h = refl
  split (Evaluate at e) w f s h = refl
  split (Label at j l t) w f s h = split t (in_label l w) (in_label l f) (in_label l s) (inside_label w f s l h)
  split (If at c t) w f s h = split t w f s h
  split (IfElse at c t u) w f s h = both (jumps t f) (jumps t s) (jumps u f) (jumps u s) (jumps t w) (jumps u w) (split t w f s h) (split u w f s h)
  split (While at j c t) w f s h = split t (in_loop w) (in_loop f) (in_loop s) (inside_loop w f s h)
  split (For at j start c update t) w f s h = split t (in_loop w) (in_loop f) (in_loop s) (inside_loop w f s h)
  split (Break at l) w f s h = broken w f s l h
  split (Continue at l) w f s h = continued w f s l h
  split (Return at e) w f s h = refl
  split (Throw at e) w f s h = refl
  split (Try at ss hs) w f s h = both (jumps_in ss f) (jumps_in ss s) (jumps_in_handlers hs f) (jumps_in_handlers hs s) (jumps_in ss w) (jumps_in_handlers hs w) (split_in ss w f s h) (split_handlers hs w f s h)
  split (TryFinally at ss hs ts) w f s h =
      both (jumps_in ss f || jumps_in_handlers hs f) (jumps_in ss s || jumps_in_handlers hs s) (jumps_in ts f) (jumps_in ts s) (jumps_in ss w || jumps_in_handlers hs w) (jumps_in ts w)
      (both (jumps_in ss f) (jumps_in ss s) (jumps_in_handlers hs f) (jumps_in_handlers hs s) (jumps_in ss w) (jumps_in_handlers hs w) (split_in ss w f s h) (split_handlers hs w f s h)) (split_in ts w f s h)
  split (Super at es) w f s h = refl

  split_in : (ss : JavaStmts) (w f s : Asked) → Splits w f s → jumps_in ss w ≡ (jumps_in ss f || jumps_in ss s)
  split_in NoStmts w f s h = refl
  split_in (StmtThen t ss) w f s h = both (jumps t f) (jumps t s) (jumps_in ss f) (jumps_in ss s) (jumps t w) (jumps_in ss w) (split t w f s h) (split_in ss w f s h)

  split_handlers : (hs : JavaHandlers) (w f s : Asked) → Splits w f s → jumps_in_handlers hs w ≡ (jumps_in_handlers hs f || jumps_in_handlers hs s)
  split_handlers NoHandlers w f s h = refl
  split_handlers (HandlerThen (Catch at c x ss) hs) w f s h =
      both (jumps_in ss f) (jumps_in ss s) (jumps_in_handlers hs f) (jumps_in_handlers hs s) (jumps_in ss w) (jumps_in_handlers hs w) (split_in ss w f s h) (split_handlers hs w f s h)

-- one label more
pub one_more : (t : JavaStmt) (l : List ℕ) (ls : List (List ℕ)) → jumps t (asking true (l ∷ ls)) ≡ (jumps t (asking false (l ∷ [])) || jumps t (asking true ls))
one_more t l ls = split t (asking true (l ∷ ls)) (asking false (l ∷ [])) (asking true ls) (record { one = refl; other = refl; plain = refl; labelled = λ m. by (bytes_eq l m) (has m ls) })
  where
    by : (a b : Bool) → (a || b) ≡ ((a || false) || b)
    by true b = refl
    by false b = refl

pub each_asked : (t : JavaStmt) (ls : List (List ℕ)) → any_repeats t ls ≡ jumps t (asking true ls)
each_asked t [] = refl
each_asked t (l ∷ ls) = ap (λ b. jumps t (asking false (l ∷ [])) || b) (each_asked t ls) ∙ sym (one_more t l ls)
