-- Formulas without binders: no shift is made under them, and simplified they have none.
use Rattle.std.proofs.Common.{◌≡◌, Bool, true, ◌&&◌, [], ◌∷◌, refl, Ordering, Less as Below, Equal as Same, Greater as Above}
use Rattle.std.specs.List.{filter}
use Rattle.std.specs.Ordering.{match_ordering}
use Rattle.std.proofs.lemmas.Bool.{and_from, and_parts, cond_both, false≢true}
use Rattle.std.proofs.lemmas.List.Elements.{All-cons, All-nil}
use Rattle.jd_syntax.specs.Names.{Name}
use Rattle.jd_syntax.specs.CodeNames.{same_name}
use Rattle.jd_syntax.specs.Codes.{PlainCode}
use Rattle.jd_term.specs.Terms.{PlainTerm, Number, Boolean, NullTerm, ProgramVariable, Constant, Bound, Arithmetic, Negation, Wrap, Length, Select, Sum, Store, Create, Anon, NamedField, CreatedField, ElementField, PlainLoc, NoLocations, AllLocations, Single, ObjectFields, ArrayElements, ElementRange, Union}
use Rattle.jd_term.specs.Formulas.{Pairs, PlainFormula, TrueFormula, FalseFormula, Not, And, Or, Implies, Iff, Equal, Less, LessOrEqual, Forall, Exists, Updated, Modal, InLocations, InInt, WellFormed, Invariant, IsInstance, IsExactInstance}
use Rattle.jd_update.specs.Replace.{look, replace, replace_loc}
use Rattle.jd_update.specs.Push.{in_order, insert_pair, joined, kept, matters, name_order, push, simplified, under}
use Rattle.jd_update.specs.Fits.{JoinFits, PushFits, ReplaceFits, ReplaceLocFits}
use Rattle.jd_update.specs.Binderless.{has_no_binder, has_no_sum, loc_has_no_sum, pairs_have_no_sum}

-- without a sum no shift is made
mutual
  no_sum_fits : (q : Pairs) (t : PlainTerm) → has_no_sum t ≡ true → ReplaceFits q t
  no_sum_fits q (Number n) e = tt
  no_sum_fits q (Boolean b) e = tt
  no_sum_fits q NullTerm e = tt
  no_sum_fits q (ProgramVariable x) e = tt
  no_sum_fits q (Constant c) e = tt
  no_sum_fits q (Bound k s) e = tt
  no_sum_fits q (Arithmetic op t u) e = let b0 = and_parts (has_no_sum t) (has_no_sum u) e in (no_sum_fits q t b0.0, no_sum_fits q u b0.1)
  no_sum_fits q (Negation t) e = no_sum_fits q t e
  no_sum_fits q (Wrap t) e = no_sum_fits q t e
  no_sum_fits q (Length o) e = no_sum_fits q o e
  no_sum_fits q (Select s h o f) e = let b0 = and_parts (has_no_sum h && has_no_sum o) (has_no_sum f) e in let b1 = and_parts (has_no_sum h) (has_no_sum o) b0.0 in (no_sum_fits q h b1.0, no_sum_fits q o b1.1, no_sum_fits q f b0.1)
  no_sum_fits q (Sum t u v) e = absurd (false≢true e)
  no_sum_fits q (Store h o f t) e = let b0 = and_parts ((has_no_sum h && has_no_sum o) && has_no_sum f) (has_no_sum t) e in let b1 = and_parts (has_no_sum h && has_no_sum o) (has_no_sum f) b0.0 in let b2 = and_parts (has_no_sum h) (has_no_sum o) b1.0 in (no_sum_fits q h b2.0, no_sum_fits q o b2.1, no_sum_fits q f b1.1, no_sum_fits q t b0.1)
  no_sum_fits q (Create h o) e = let b0 = and_parts (has_no_sum h) (has_no_sum o) e in (no_sum_fits q h b0.0, no_sum_fits q o b0.1)
  no_sum_fits q (Anon h l g) e = let b0 = and_parts (has_no_sum h && loc_has_no_sum l) (has_no_sum g) e in let b1 = and_parts (has_no_sum h) (loc_has_no_sum l) b0.0 in (no_sum_fits q h b1.0, no_sum_fits_loc q l b1.1, no_sum_fits q g b0.1)
  no_sum_fits q (NamedField f) e = tt
  no_sum_fits q CreatedField e = tt
  no_sum_fits q (ElementField t) e = no_sum_fits q t e

  no_sum_fits_loc : (q : Pairs) (l : PlainLoc) → loc_has_no_sum l ≡ true → ReplaceLocFits q l
  no_sum_fits_loc q NoLocations e = tt
  no_sum_fits_loc q AllLocations e = tt
  no_sum_fits_loc q (Single o f) e = let b0 = and_parts (has_no_sum o) (has_no_sum f) e in (no_sum_fits q o b0.0, no_sum_fits q f b0.1)
  no_sum_fits_loc q (ObjectFields o) e = no_sum_fits q o e
  no_sum_fits_loc q (ArrayElements o) e = no_sum_fits q o e
  no_sum_fits_loc q (ElementRange o t u) e = let b0 = and_parts (has_no_sum o && has_no_sum t) (has_no_sum u) e in let b1 = and_parts (has_no_sum o) (has_no_sum t) b0.0 in (no_sum_fits q o b1.0, no_sum_fits q t b1.1, no_sum_fits q u b0.1)
  no_sum_fits_loc q (Union l m) e = let b0 = and_parts (loc_has_no_sum l) (loc_has_no_sum m) e in (no_sum_fits_loc q l b0.0, no_sum_fits_loc q m b0.1)

-- the right sides of an update without sums may be replaced
pub no_sum_joins : (q u : Pairs) → pairs_have_no_sum u ≡ true → JoinFits q u
no_sum_joins q [] e = All-nil (λ (p : Name × PlainTerm). ReplaceFits q p.1)
no_sum_joins q (p ∷ u) e =
    let b = and_parts (has_no_sum p.1) (pairs_have_no_sum u) e in
    All-cons (λ (r : Name × PlainTerm). ReplaceFits q r.1) p u (no_sum_fits q p.1 b.0) (no_sum_joins q u b.1)

-- whatever a formula without binders is put under, no shift is made
pub binderless_fits_any : (q : Pairs) (f : PlainFormula) → has_no_binder f ≡ true → PushFits q f
binderless_fits_any q TrueFormula e = tt
binderless_fits_any q FalseFormula e = tt
binderless_fits_any q (Not a) e = binderless_fits_any q a e
binderless_fits_any q (And a b) e = let b0 = and_parts (has_no_binder a) (has_no_binder b) e in (binderless_fits_any q a b0.0, binderless_fits_any q b b0.1)
binderless_fits_any q (Or a b) e = let b0 = and_parts (has_no_binder a) (has_no_binder b) e in (binderless_fits_any q a b0.0, binderless_fits_any q b b0.1)
binderless_fits_any q (Implies a b) e = let b0 = and_parts (has_no_binder a) (has_no_binder b) e in (binderless_fits_any q a b0.0, binderless_fits_any q b b0.1)
binderless_fits_any q (Iff a b) e = let b0 = and_parts (has_no_binder a) (has_no_binder b) e in (binderless_fits_any q a b0.0, binderless_fits_any q b b0.1)
binderless_fits_any q (Equal t u) e = let b0 = and_parts (has_no_sum t) (has_no_sum u) e in (no_sum_fits q t b0.0, no_sum_fits q u b0.1)
binderless_fits_any q (Less t u) e = let b0 = and_parts (has_no_sum t) (has_no_sum u) e in (no_sum_fits q t b0.0, no_sum_fits q u b0.1)
binderless_fits_any q (LessOrEqual t u) e = let b0 = and_parts (has_no_sum t) (has_no_sum u) e in (no_sum_fits q t b0.0, no_sum_fits q u b0.1)
binderless_fits_any q (Forall s a) e = absurd (false≢true e)
binderless_fits_any q (Exists s a) e = absurd (false≢true e)
binderless_fits_any q (Updated u a) e = let b0 = and_parts (pairs_have_no_sum u) (has_no_binder a) e in (no_sum_joins q u b0.0, binderless_fits_any (joined q u q) a b0.1)
binderless_fits_any q (Modal m c a) e = tt
binderless_fits_any q (InLocations o f l) e = let b0 = and_parts (has_no_sum o && has_no_sum f) (loc_has_no_sum l) e in let b1 = and_parts (has_no_sum o) (has_no_sum f) b0.0 in (no_sum_fits q o b1.0, no_sum_fits q f b1.1, no_sum_fits_loc q l b0.1)
binderless_fits_any q (InInt t) e = no_sum_fits q t e
binderless_fits_any q (WellFormed h) e = no_sum_fits q h e
binderless_fits_any q (Invariant h o) e = let b0 = and_parts (has_no_sum h) (has_no_sum o) e in (no_sum_fits q h b0.0, no_sum_fits q o b0.1)
binderless_fits_any q (IsInstance k o) e = no_sum_fits q o e
binderless_fits_any q (IsExactInstance k o) e = no_sum_fits q o e

-- the simplification of a formula without binders needs no bound on indices
pub binderless_fits : (f : PlainFormula) → has_no_binder f ≡ true → PushFits [] f
binderless_fits f h = binderless_fits_any [] f h

no_sum_looked : (q : Pairs) (x : Name) → pairs_have_no_sum q ≡ true → has_no_sum (look q x) ≡ true
no_sum_looked [] x none = refl
no_sum_looked (p ∷ q) x none =
    let b = and_parts (has_no_sum p.1) (pairs_have_no_sum q) none in
    cond_both (same_name x p.0) p.1 (look q x) (λ t. has_no_sum t ≡ true) (λ _. b.0) (λ _. no_sum_looked q x b.1)

-- what replaces variables in a term without a sum brings none in
mutual
  no_sum_replaced : (q : Pairs) (t : PlainTerm) → pairs_have_no_sum q ≡ true → has_no_sum t ≡ true → has_no_sum (replace q t) ≡ true
  no_sum_replaced q (Number n) none e = refl
  no_sum_replaced q (Boolean b) none e = refl
  no_sum_replaced q NullTerm none e = refl
  no_sum_replaced q (ProgramVariable x) none e = no_sum_looked q x none
  no_sum_replaced q (Constant c) none e = refl
  no_sum_replaced q (Bound k s) none e = refl
  no_sum_replaced q (Arithmetic op t u) none e = let b0 = and_parts (has_no_sum t) (has_no_sum u) e in and_from (has_no_sum (replace q t)) (has_no_sum (replace q u)) (no_sum_replaced q t none b0.0) (no_sum_replaced q u none b0.1)
  no_sum_replaced q (Negation t) none e = no_sum_replaced q t none e
  no_sum_replaced q (Wrap t) none e = no_sum_replaced q t none e
  no_sum_replaced q (Length o) none e = no_sum_replaced q o none e
  no_sum_replaced q (Select s h o f) none e = let b0 = and_parts (has_no_sum h && has_no_sum o) (has_no_sum f) e in let b1 = and_parts (has_no_sum h) (has_no_sum o) b0.0 in and_from (has_no_sum (replace q h) && has_no_sum (replace q o)) (has_no_sum (replace q f)) (and_from (has_no_sum (replace q h)) (has_no_sum (replace q o)) (no_sum_replaced q h none b1.0) (no_sum_replaced q o none b1.1)) (no_sum_replaced q f none b0.1)
  no_sum_replaced q (Sum t u v) none e = absurd (false≢true e)
  no_sum_replaced q (Store h o f t) none e = let b0 = and_parts ((has_no_sum h && has_no_sum o) && has_no_sum f) (has_no_sum t) e in let b1 = and_parts (has_no_sum h && has_no_sum o) (has_no_sum f) b0.0 in let b2 = and_parts (has_no_sum h) (has_no_sum o) b1.0 in and_from ((has_no_sum (replace q h) && has_no_sum (replace q o)) && has_no_sum (replace q f)) (has_no_sum (replace q t)) (and_from (has_no_sum (replace q h) && has_no_sum (replace q o)) (has_no_sum (replace q f)) (and_from (has_no_sum (replace q h)) (has_no_sum (replace q o)) (no_sum_replaced q h none b2.0) (no_sum_replaced q o none b2.1)) (no_sum_replaced q f none b1.1)) (no_sum_replaced q t none b0.1)
  no_sum_replaced q (Create h o) none e = let b0 = and_parts (has_no_sum h) (has_no_sum o) e in and_from (has_no_sum (replace q h)) (has_no_sum (replace q o)) (no_sum_replaced q h none b0.0) (no_sum_replaced q o none b0.1)
  no_sum_replaced q (Anon h l g) none e = let b0 = and_parts (has_no_sum h && loc_has_no_sum l) (has_no_sum g) e in let b1 = and_parts (has_no_sum h) (loc_has_no_sum l) b0.0 in and_from (has_no_sum (replace q h) && loc_has_no_sum (replace_loc q l)) (has_no_sum (replace q g)) (and_from (has_no_sum (replace q h)) (loc_has_no_sum (replace_loc q l)) (no_sum_replaced q h none b1.0) (no_sum_replaced_loc q l none b1.1)) (no_sum_replaced q g none b0.1)
  no_sum_replaced q (NamedField f) none e = refl
  no_sum_replaced q CreatedField none e = refl
  no_sum_replaced q (ElementField t) none e = no_sum_replaced q t none e

  no_sum_replaced_loc : (q : Pairs) (l : PlainLoc) → pairs_have_no_sum q ≡ true → loc_has_no_sum l ≡ true → loc_has_no_sum (replace_loc q l) ≡ true
  no_sum_replaced_loc q NoLocations none e = refl
  no_sum_replaced_loc q AllLocations none e = refl
  no_sum_replaced_loc q (Single o f) none e = let b0 = and_parts (has_no_sum o) (has_no_sum f) e in and_from (has_no_sum (replace q o)) (has_no_sum (replace q f)) (no_sum_replaced q o none b0.0) (no_sum_replaced q f none b0.1)
  no_sum_replaced_loc q (ObjectFields o) none e = no_sum_replaced q o none e
  no_sum_replaced_loc q (ArrayElements o) none e = no_sum_replaced q o none e
  no_sum_replaced_loc q (ElementRange o t u) none e = let b0 = and_parts (has_no_sum o && has_no_sum t) (has_no_sum u) e in let b1 = and_parts (has_no_sum o) (has_no_sum t) b0.0 in and_from (has_no_sum (replace q o) && has_no_sum (replace q t)) (has_no_sum (replace q u)) (and_from (has_no_sum (replace q o)) (has_no_sum (replace q t)) (no_sum_replaced q o none b1.0) (no_sum_replaced q t none b1.1)) (no_sum_replaced q u none b0.1)
  no_sum_replaced_loc q (Union l m) none e = let b0 = and_parts (loc_has_no_sum l) (loc_has_no_sum m) e in and_from (loc_has_no_sum (replace_loc q l)) (loc_has_no_sum (replace_loc q m)) (no_sum_replaced_loc q l none b0.0) (no_sum_replaced_loc q m none b0.1)

-- nor does an update after another
pub no_sum_joined : (old u q : Pairs) → pairs_have_no_sum old ≡ true → pairs_have_no_sum u ≡ true → pairs_have_no_sum q ≡ true → pairs_have_no_sum (joined old u q) ≡ true
no_sum_joined old [] q first second third = third
no_sum_joined old (p ∷ u) q first second third =
    let b = and_parts (has_no_sum p.1) (pairs_have_no_sum u) second in
    no_sum_joined old u ((p.0, replace old p.1) ∷ q) first b.1 (and_from (has_no_sum (replace old p.1)) (pairs_have_no_sum q) (no_sum_replaced old p.1 first b.0) third)

no_sum_either : (o : Ordering) (below same above : Pairs) → pairs_have_no_sum below ≡ true → pairs_have_no_sum same ≡ true → pairs_have_no_sum above ≡ true → pairs_have_no_sum (match_ordering o below same above) ≡ true
no_sum_either Below below same above a b c = a
no_sum_either Same below same above a b c = b
no_sum_either Above below same above a b c = c

no_sum_inserted : (p : Name × PlainTerm) (ps : Pairs) → has_no_sum p.1 ≡ true → pairs_have_no_sum ps ≡ true → pairs_have_no_sum (insert_pair p ps) ≡ true
no_sum_inserted p [] one none = and_from (has_no_sum p.1) true one refl
no_sum_inserted p (r ∷ rs) one none =
    let b = and_parts (has_no_sum r.1) (pairs_have_no_sum rs) none in
    no_sum_either (name_order p.0 r.0) (p ∷ r ∷ rs) (r ∷ rs) (r ∷ insert_pair p rs) (and_from (has_no_sum p.1) (pairs_have_no_sum (r ∷ rs)) one none) none (and_from (has_no_sum r.1) (pairs_have_no_sum (insert_pair p rs)) b.0 (no_sum_inserted p rs one b.1))

no_sum_ordered : (q done : Pairs) → pairs_have_no_sum q ≡ true → pairs_have_no_sum done ≡ true → pairs_have_no_sum (in_order q done) ≡ true
no_sum_ordered [] done none so_far = so_far
no_sum_ordered (p ∷ q) done none so_far =
    let b = and_parts (has_no_sum p.1) (pairs_have_no_sum q) none in
    no_sum_ordered q (insert_pair p done) b.1 (no_sum_inserted p done b.0 so_far)

no_sum_filtered : (passes : Name × PlainTerm → Bool) (ps : Pairs) → pairs_have_no_sum ps ≡ true → pairs_have_no_sum (filter passes ps) ≡ true
no_sum_filtered passes [] none = refl
no_sum_filtered passes (p ∷ ps) none =
    let b = and_parts (has_no_sum p.1) (pairs_have_no_sum ps) none in
    cond_both (passes p) (p ∷ filter passes ps) (filter passes ps) (λ l. pairs_have_no_sum l ≡ true) (λ _. and_from (has_no_sum p.1) (pairs_have_no_sum (filter passes ps)) b.0 (no_sum_filtered passes ps b.1)) (λ _. no_sum_filtered passes ps b.1)

no_sum_kept : (q : Pairs) (c : PlainCode) (a : PlainFormula) → pairs_have_no_sum q ≡ true → pairs_have_no_sum (kept q c a) ≡ true
no_sum_kept q c a none = no_sum_filtered (matters c a) (in_order q []) (no_sum_ordered q [] none refl)

no_binder_under : (ps : Pairs) (a : PlainFormula) → pairs_have_no_sum ps ≡ true → has_no_binder a ≡ true → has_no_binder (under ps a) ≡ true
no_binder_under [] a none h = h
no_binder_under (p ∷ ps) a none h = and_from (pairs_have_no_sum (p ∷ ps)) (has_no_binder a) none h

-- a replacement whose right sides have no sum brings no binder in
pub binderless_pushed_any : (q : Pairs) (f : PlainFormula) → pairs_have_no_sum q ≡ true → has_no_binder f ≡ true → has_no_binder (push q f) ≡ true
binderless_pushed_any q TrueFormula none e = refl
binderless_pushed_any q FalseFormula none e = refl
binderless_pushed_any q (Not a) none e = binderless_pushed_any q a none e
binderless_pushed_any q (And a b) none e = let b0 = and_parts (has_no_binder a) (has_no_binder b) e in and_from (has_no_binder (push q a)) (has_no_binder (push q b)) (binderless_pushed_any q a none b0.0) (binderless_pushed_any q b none b0.1)
binderless_pushed_any q (Or a b) none e = let b0 = and_parts (has_no_binder a) (has_no_binder b) e in and_from (has_no_binder (push q a)) (has_no_binder (push q b)) (binderless_pushed_any q a none b0.0) (binderless_pushed_any q b none b0.1)
binderless_pushed_any q (Implies a b) none e = let b0 = and_parts (has_no_binder a) (has_no_binder b) e in and_from (has_no_binder (push q a)) (has_no_binder (push q b)) (binderless_pushed_any q a none b0.0) (binderless_pushed_any q b none b0.1)
binderless_pushed_any q (Iff a b) none e = let b0 = and_parts (has_no_binder a) (has_no_binder b) e in and_from (has_no_binder (push q a)) (has_no_binder (push q b)) (binderless_pushed_any q a none b0.0) (binderless_pushed_any q b none b0.1)
binderless_pushed_any q (Equal t u) none e = let b0 = and_parts (has_no_sum t) (has_no_sum u) e in and_from (has_no_sum (replace q t)) (has_no_sum (replace q u)) (no_sum_replaced q t none b0.0) (no_sum_replaced q u none b0.1)
binderless_pushed_any q (Less t u) none e = let b0 = and_parts (has_no_sum t) (has_no_sum u) e in and_from (has_no_sum (replace q t)) (has_no_sum (replace q u)) (no_sum_replaced q t none b0.0) (no_sum_replaced q u none b0.1)
binderless_pushed_any q (LessOrEqual t u) none e = let b0 = and_parts (has_no_sum t) (has_no_sum u) e in and_from (has_no_sum (replace q t)) (has_no_sum (replace q u)) (no_sum_replaced q t none b0.0) (no_sum_replaced q u none b0.1)
binderless_pushed_any q (Forall s a) none e = absurd (false≢true e)
binderless_pushed_any q (Exists s a) none e = absurd (false≢true e)
binderless_pushed_any q (Updated u a) none e = let b0 = and_parts (pairs_have_no_sum u) (has_no_binder a) e in binderless_pushed_any (joined q u q) a (no_sum_joined q u q none b0.0 none) b0.1
binderless_pushed_any q (Modal m c a) none e = no_binder_under (kept q c a) (Modal m c a) (no_sum_kept q c a none) e
binderless_pushed_any q (InLocations o f l) none e = let b0 = and_parts (has_no_sum o && has_no_sum f) (loc_has_no_sum l) e in let b1 = and_parts (has_no_sum o) (has_no_sum f) b0.0 in and_from (has_no_sum (replace q o) && has_no_sum (replace q f)) (loc_has_no_sum (replace_loc q l)) (and_from (has_no_sum (replace q o)) (has_no_sum (replace q f)) (no_sum_replaced q o none b1.0) (no_sum_replaced q f none b1.1)) (no_sum_replaced_loc q l none b0.1)
binderless_pushed_any q (InInt t) none e = no_sum_replaced q t none e
binderless_pushed_any q (WellFormed h) none e = no_sum_replaced q h none e
binderless_pushed_any q (Invariant h o) none e = let b0 = and_parts (has_no_sum h) (has_no_sum o) e in and_from (has_no_sum (replace q h)) (has_no_sum (replace q o)) (no_sum_replaced q h none b0.0) (no_sum_replaced q o none b0.1)
binderless_pushed_any q (IsInstance k o) none e = no_sum_replaced q o none e
binderless_pushed_any q (IsExactInstance k o) none e = no_sum_replaced q o none e

-- a formula without binders has none when it is simplified
pub binderless_pushed : (f : PlainFormula) → has_no_binder f ≡ true → has_no_binder (simplified f) ≡ true
binderless_pushed f h = binderless_pushed_any [] f refl h

pub ruleset fits = (binderless_fits, binderless_fits_any, no_sum_joins)
