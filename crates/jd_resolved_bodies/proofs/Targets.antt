-- Each jump in a statement that is not refused has its target in it or around it.
use Rattle.std.proofs.Common.{◌≡◌, ◌⊎◌, ◌||◌, ◌&&◌, ⊎_elim, ℕ, Bool, true, false, not, cond, if◌then◌else◌, List, [], ◌∷◌, ◌++◌, filter, bytes_eq, Option, Some, None, Ok, refl, sym, ap, ◌∙◌}
use Rattle.std.specs.List.{list_any}
use Rattle.std.proofs.lemmas.Cmp.{nat_list_eq_equiv}
use Rattle.std.proofs.lemmas.Slice.Eq.{bytes_eq-Decides}
use Rattle.jd_syntax.specs.JavaTypes.{PlainIdentifier}
use Rattle.jd_syntax.specs.JavaTrees.{JavaStmt, Block, Empty, Local as Declaration, Evaluate, Label, If, IfElse, While, For, Break, Continue, Return, Throw, Try, TryFinally, Super, JavaStmts, NoStmts, StmtThen, Catch, JavaHandlers, NoHandlers, HandlerThen}
use Rattle.jd_bodies.specs.declared.place.Place.{Place}
use Rattle.jd_bodies.specs.declared.place.Returns.{Returns}
use Rattle.jd_bodies.specs.declared.value.ValueType.TheVariants.{Boolean}
use Rattle.jd_bodies.specs.Declarations.{Declarations}
use Rattle.jd_bodies.specs.Jumps.{Asked, in_label, in_loop, is_asked, jumps, jumps_in, jumps_in_handlers}
use Rattle.jd_bodies.specs.Scopes.{Scope}
use Rattle.jd_bodies.specs.Statements.{caught, for_head, handlers, inside_label, is_loop, label_named, last_label, loop_label, may_break, may_continue, out_of, part, some_label, stmt, stmts, while_head}
use Rattle.jd_resolved_bodies.proofs.Jumps.{Around, and_both, around_both, both_and, caught_keeps, for_head_gives, handlers_keep, has_label, left_it, only_true, or_cases, or_left, or_right, part_keeps, same_around, stmt_keeps, through, while_head_gives}

-- ---- what the labels around and a loop allow

abbrev pub known : Bool → Option Bool → Bool
known true o = loop_label o
known false o = some_label o

abbrev pub allows : List (List ℕ × Bool) → Bool → Asked → Bool
allows labels loop a = (a.plain && loop) || list_any (λ l. known a.repeats (label_named labels l)) a.labels

abbrev pub may : Scope → Asked → Bool
may s a = allows s.labels s.in_loop a

-- of the labels the last of a name
last_more : (found : Option Bool) (ls : List (List ℕ × Bool)) (l : List ℕ) (b : Bool) (x : List ℕ) → last_label found (ls ++ ((l, b) ∷ [])) x ≡ (if bytes_eq l x then Some b else last_label found ls x)
last_more found [] l b x = refl
last_more found (k ∷ ks) l b x = last_more (if bytes_eq k.0 x then Some k.1 else found) ks l b x

pub last_it : (ls : List (List ℕ × Bool)) (l : List ℕ) (b : Bool) (x : List ℕ) → bytes_eq l x ≡ true → label_named (ls ++ ((l, b) ∷ [])) x ≡ Some b
last_it ls l b x is = last_more None ls l b x ∙ ap (λ t. if t then Some b else last_label None ls x) is

not_last : (ls : List (List ℕ × Bool)) (l : List ℕ) (b : Bool) (x : List ℕ) → bytes_eq x l ≡ false → label_named (ls ++ ((l, b) ∷ [])) x ≡ label_named ls x
not_last ls l b x unlike = last_more None ls l b x ∙ ap (λ t. if t then Some b else last_label None ls x) (nat_list_eq_equiv.symm l x ∙ unlike)

-- one of the labels that are asked for
any_label : (f : List ℕ → Bool) (ls : List (List ℕ)) (m : List ℕ) → has_label ls m ≡ true → f m ≡ true → list_any f ls ≡ true
any_label f [] m e is = absurd cc
any_label f (x ∷ xs) m e is =
    ⊎_elim (λ here. or_left (f x) (list_any f xs) (ap f ((bytes_eq-Decides x m).0 here) ∙ is)) (λ behind. or_right (f x) (list_any f xs) (any_label f xs m behind is)) (or_cases (bytes_eq x m) (has_label xs m) e)

outside_label : (labels : List (List ℕ × Bool)) (l : List ℕ) (b r : Bool) (ls : List (List ℕ)) → list_any (λ x. known r (label_named (labels ++ ((l, b) ∷ [])) x)) (filter (λ x. not (bytes_eq x l)) ls) ≡ true → list_any (λ x. known r (label_named labels x)) ls ≡ true
outside_label labels l b r [] e = absurd cc
outside_label labels l b r (x ∷ xs) e = by (bytes_eq x l) refl e (outside_label labels l b r xs)
  where
    inner : List ℕ → Bool
    inner y = known r (label_named (labels ++ ((l, b) ∷ [])) y)

    outer : List ℕ → Bool
    outer y = known r (label_named labels y)

    by : (t : Bool) → bytes_eq x l ≡ t → list_any inner (cond (not t) (x ∷ filter (λ y. not (bytes_eq y l)) xs) (filter (λ y. not (bytes_eq y l)) xs)) ≡ true → (list_any inner (filter (λ y. not (bytes_eq y l)) xs) ≡ true → list_any outer xs ≡ true) → outer x || list_any outer xs ≡ true
    by true is e rest = or_right (outer x) (list_any outer xs) (rest e)
    by false is e rest =
        ⊎_elim (λ here. or_left (outer x) (list_any outer xs) (ap (known r) (sym (not_last labels l b x is)) ∙ here)) (λ behind. or_right (outer x) (list_any outer xs) (rest behind))
        (or_cases (inner x) (list_any inner (filter (λ y. not (bytes_eq y l)) xs)) e)

past_label : (s : Scope) (l : List ℕ) (b : Bool) (a : Asked) → may (inside_label l b s) (in_label l a) ≡ true → may s a ≡ true
past_label s l b a e =
    ⊎_elim (λ h. or_left (a.plain && s.in_loop) _ h) (λ h. or_right (a.plain && s.in_loop) _ (outside_label s.labels l b a.repeats a.labels h))
    (or_cases (a.plain && s.in_loop) (list_any (λ x. known a.repeats (label_named (s.labels ++ ((l, b) ∷ [])) x)) (filter (λ x. not (bytes_eq x l)) a.labels)) e)

past_loop : (s t : Scope) (a : Asked) → t.labels ≡ s.labels → may t (in_loop a) ≡ true → may s a ≡ true
past_loop s t a same e = or_right (a.plain && s.in_loop) _ (ap (λ ls. list_any (λ x. known a.repeats (label_named ls x)) a.labels) (sym same) ∙ e)

around_may : (s t : Scope) (a : Asked) → Around s t → may t a ≡ true → may s a ≡ true
around_may s t a same e = ap (λ ls. allows ls s.in_loop a) (sym same.0) ∙ ap (λ b. allows t.labels b a) (sym same.1) ∙ e

-- ---- jumps themselves

break_may : (s : Scope) (a : Asked) (l : Option PlainIdentifier) → may_break s l ≡ true → a.repeats ≡ false → is_asked a l ≡ true → may s a ≡ true
break_may s a None is unlike asked = or_left (a.plain && s.in_loop) _ (both_and a.plain s.in_loop asked is)
break_may s a (Some l) is unlike asked = or_right (a.plain && s.in_loop) _ (any_label (λ x. known a.repeats (label_named s.labels x)) a.labels l.name asked (ap (λ r. known r (label_named s.labels l.name)) unlike ∙ is))

continue_may : (s : Scope) (a : Asked) (l : Option PlainIdentifier) → may_continue s l ≡ true → a.repeats ≡ true → is_asked a l ≡ true → may s a ≡ true
continue_may s a None is repeats asked = or_left (a.plain && s.in_loop) _ (both_and a.plain s.in_loop asked is)
continue_may s a (Some l) is repeats asked = or_right (a.plain && s.in_loop) _ (any_label (λ x. known a.repeats (label_named s.labels x)) a.labels l.name asked (ap (λ r. known r (label_named s.labels l.name)) repeats ∙ is))

turned : (b : Bool) → not b ≡ true → b ≡ false
turned true e = absurd cc
turned false e = refl

-- ---- statements

module _ (d : Declarations) (place : Place) (returns : Returns) where
  mutual
    pub targets : (b : JavaStmt) (s t : Scope) (a : Asked) → stmt d place returns b s ≡ Ok t → jumps b a ≡ true → may s a ≡ true
    targets (Block at ss) s t a e j = let h = left_it s (stmts d place returns ss s) t e in targets_in ss s h.0 a h.1 j
    targets (Empty at) s t a e j = absurd cc
    targets (Declaration at w xs) s t a e j = absurd cc
    targets (Evaluate at x) s t a e j = absurd cc
    targets (Label at k l b) s t a e j =
        let h = left_it s (stmt d place returns b (inside_label l (is_loop b) s)) t e in past_label s l (is_loop b) a (targets b (inside_label l (is_loop b) s) h.0 (in_label l a) h.1 j)
    targets (If at c b) s t a e j =
        let h = left_it s _ t e in
        let g = through (stmt d place returns b) (part d place Boolean c s) h.0 h.1 in
        around_may s g.0 a (part_keeps d place Boolean c s g.0 g.1) (targets b g.0 h.0 a g.2 j)
    targets (IfElse at c b x) s t a e j =
        let h = left_it s _ t e in
        let g = through (stmt d place returns x) _ h.0 h.1 in
        let f = through (stmt d place returns b) (part d place Boolean c s) g.0 g.1 in
        let first = part_keeps d place Boolean c s f.0 f.1 in
        let second = around_both s f.0 g.0 first (stmt_keeps d place returns b f.0 g.0 f.2) in
        ⊎_elim (λ k. around_may s f.0 a first (targets b f.0 g.0 a f.2 k)) (λ k. around_may s g.0 a second (targets x g.0 h.0 a g.2 k)) (or_cases (jumps b a) (jumps x a) j)
    targets (While at k c b) s t a e j =
        let h = left_it s _ t e in
        let g = through (stmt d place returns b) (while_head d place c s) h.0 h.1 in
        past_loop s g.0 a (while_head_gives d place c s g.0 g.1).0 (targets b g.0 h.0 (in_loop a) g.2 j)
    targets (For at k start c update b) s t a e j =
        let h = left_it s _ t e in
        let g = through (stmt d place returns b) (for_head d place start c update s) h.0 h.1 in
        past_loop s g.0 a (for_head_gives d place start c update s g.0 g.1).0 (targets b g.0 h.0 (in_loop a) g.2 j)
    targets (Break at l) s t a e j =
        let h = only_true (may_break s l) at _ s t e in let k = and_both (not a.repeats) (is_asked a l) j in break_may s a l h.0 (turned a.repeats k.0) k.1
    targets (Continue at l) s t a e j =
        let h = only_true (may_continue s l) at _ s t e in let k = and_both a.repeats (is_asked a l) j in continue_may s a l h.0 k.0 k.1
    targets (Return at x) s t a e j = absurd cc
    targets (Throw at x) s t a e j = absurd cc
    targets (Try at bs hs) s t a e j =
        let g = through (handlers d place returns hs) (out_of s (stmts d place returns bs s)) t e in
        let f = left_it s (stmts d place returns bs s) g.0 g.1 in
        ⊎_elim (λ k. targets_in bs s f.0 a f.1 k) (λ k. around_may s g.0 a (same_around s g.0 f.2) (targets_handlers hs g.0 t a g.2 k)) (or_cases (jumps_in bs a) (jumps_in_handlers hs a) j)
    targets (TryFinally at bs hs fs) s t a e j =
        let h = left_it s _ t e in
        let x = through (stmts d place returns fs) _ h.0 h.1 in
        let g = through (handlers d place returns hs) (out_of s (stmts d place returns bs s)) x.0 x.1 in
        let f = left_it s (stmts d place returns bs s) g.0 g.1 in
        let first = same_around s g.0 f.2 in
        let second = around_both s g.0 x.0 first (handlers_keep d place returns hs g.0 x.0 g.2) in
        ⊎_elim
        (λ k. ⊎_elim (λ l. targets_in bs s f.0 a f.1 l) (λ l. around_may s g.0 a first (targets_handlers hs g.0 x.0 a g.2 l)) (or_cases (jumps_in bs a) (jumps_in_handlers hs a) k))
        (λ k. around_may s x.0 a second (targets_in fs x.0 h.0 a x.2 k)) (or_cases (jumps_in bs a || jumps_in_handlers hs a) (jumps_in fs a) j)
    targets (Super at es) s t a e j = absurd cc

    pub targets_in : (bs : JavaStmts) (s t : Scope) (a : Asked) → stmts d place returns bs s ≡ Ok t → jumps_in bs a ≡ true → may s a ≡ true
    targets_in NoStmts s t a e j = absurd cc
    targets_in (StmtThen b bs) s t a e j =
        let g = through (stmts d place returns bs) (stmt d place returns b s) t e in
        ⊎_elim (λ k. targets b s g.0 a g.1 k) (λ k. around_may s g.0 a (stmt_keeps d place returns b s g.0 g.1) (targets_in bs g.0 t a g.2 k)) (or_cases (jumps b a) (jumps_in bs a) j)

    targets_handlers : (hs : JavaHandlers) (s t : Scope) (a : Asked) → handlers d place returns hs s ≡ Ok t → jumps_in_handlers hs a ≡ true → may s a ≡ true
    targets_handlers NoHandlers s t a e j = absurd cc
    targets_handlers (HandlerThen (Catch at c x bs) hs) s t a e j =
        let g = through (handlers d place returns hs) _ t e in
        let f = left_it s _ g.0 g.1 in
        let y = through (stmts d place returns bs) (caught d c x s) f.0 f.1 in
        ⊎_elim (λ k. around_may s y.0 a (caught_keeps d c x s y.0 y.1) (targets_in bs y.0 f.0 a y.2 k)) (λ k. around_may s g.0 a (same_around s g.0 f.2) (targets_handlers hs g.0 t a g.2 k))
        (or_cases (jumps_in bs a) (jumps_in_handlers hs a) j)
