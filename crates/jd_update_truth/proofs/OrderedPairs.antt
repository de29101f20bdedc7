-- Pairs in the order of names: one pair for each variable, and what is looked up stays.
use Rattle.std.proofs.Common.{◌≡◌, Bool, true, false, cond, [], ◌∷◌, ◌++◌, Ordering, Less, Equal, Greater, refl, sym, ap, ◌∙◌, subst}
use Rattle.std.specs.Ordering.{match_ordering}
use Rattle.jd_syntax.specs.Names.{Name}
use Rattle.jd_syntax.specs.CodeNames.{same_name}
use Rattle.jd_syntax.proofs.NameTests.{same_name_decides}
use Rattle.jd_term.specs.Terms.{PlainTerm}
use Rattle.jd_term.specs.Formulas.{Pairs}
use Rattle.jd_update.specs.Replace.{look}
use Rattle.jd_update.specs.Push.{name_order, insert_pair, in_order}
use Rattle.jd_update_truth.proofs.NameOrder.{order_equal, order_turned, order_passed, below_apart}

-- the name is before each variable of the pairs
abbrev pub Above : Name → Pairs → Type 0
Above x [] = Unit {0}
Above x (p ∷ l) = (name_order x p.0 ≡ Less) × Above x l

abbrev pub Ascending : Pairs → Type 0
Ascending [] = Unit {0}
Ascending (p ∷ l) = Above p.0 l × Ascending l

-- no pair is of the name
abbrev pub Apart : Name → Pairs → Type 0
Apart x [] = Unit {0}
Apart x (p ∷ l) = (same_name x p.0 ≡ false) × Apart x l

abbrev pub OneEach : Pairs → Type 0
OneEach [] = Unit {0}
OneEach (p ∷ l) = Apart p.0 l × OneEach l

above_apart : (x : Name) (l : Pairs) → Above x l → Apart x l
above_apart x [] h = tt
above_apart x (p ∷ l) h = (below_apart x p.0 h.0, above_apart x l h.1)

pub one_each : (l : Pairs) → Ascending l → OneEach l
one_each [] h = tt
one_each (p ∷ l) h = (above_apart p.0 l h.0, one_each l h.1)

pub apart_same : (x y : Name) (l : Pairs) → same_name x y ≡ true → Apart y l → Apart x l
apart_same x y l e h = subst (λ n. Apart n l) (sym ((same_name_decides x y).0 e)) h

above_passed : (x y : Name) (l : Pairs) → name_order x y ≡ Less → Above y l → Above x l
above_passed x y [] e h = tt
above_passed x y (p ∷ l) e h = (order_passed x y p.0 e h.0, above_passed x y l e h.1)

insert_above : (x : Name) (p : Name × PlainTerm) (l : Pairs) → name_order x p.0 ≡ Less → Above x l → Above x (insert_pair p l)
insert_above x p [] e h = (e, tt)
insert_above x p (r ∷ l) e h = by (insert_above x p l e h.1) (name_order p.0 r.0)
  where
    by : Above x (insert_pair p l) → (o : Ordering) → Above x (match_ordering o (p ∷ r ∷ l) (r ∷ l) (r ∷ insert_pair p l))
    by later Less = (e, h)
    by later Equal = h
    by later Greater = (h.0, later)

insert_ascending : (p : Name × PlainTerm) (l : Pairs) → Ascending l → Ascending (insert_pair p l)
insert_ascending p [] h = (tt, tt)
insert_ascending p (r ∷ l) h = by (insert_ascending p l h.1) (name_order p.0 r.0) refl
  where
    by : Ascending (insert_pair p l) → (o : Ordering) → name_order p.0 r.0 ≡ o → Ascending (match_ordering o (p ∷ r ∷ l) (r ∷ l) (r ∷ insert_pair p l))
    by later Less e = ((e, above_passed p.0 r.0 l e h.0), h)
    by later Equal e = h
    by later Greater e = (insert_above r.0 p l (order_turned p.0 r.0 e) h.0, later)

pub ordered : (q done : Pairs) → Ascending done → Ascending (in_order q done)
ordered [] done h = h
ordered (p ∷ q) done h = ordered q (insert_pair p done) (insert_ascending p done h)

-- ---- what is looked up

look_apart : (x : Name) (l q : Pairs) → Apart x l → look (l ++ q) x ≡ look q x
look_apart x [] q h = refl
look_apart x (r ∷ l) q h = ap (λ c. cond c r.1 (look (l ++ q) x)) h.0 ∙ look_apart x l q h.1

look_without : (x : Name) (p : Name × PlainTerm) (l q : Pairs) → same_name x p.0 ≡ false → look (l ++ p ∷ q) x ≡ look (l ++ q) x
look_without x p [] q e = ap (λ c. cond c p.1 (look q x)) e
look_without x p (r ∷ l) q e = ap (λ t. cond (same_name x r.0) r.1 t) (look_without x p l q e)

-- a pair may stand before pairs of other variables, or after them
look_before : (x : Name) (p : Name × PlainTerm) (l q : Pairs) → Apart p.0 l → look (p ∷ (l ++ q)) x ≡ look (l ++ p ∷ q) x
look_before x p l q h = by (same_name x p.0) refl
  where
    by : (c : Bool) → same_name x p.0 ≡ c → cond c p.1 (look (l ++ q) x) ≡ look (l ++ p ∷ q) x
    by true e = sym (look_apart x l (p ∷ q) (apart_same x p.0 l e h) ∙ ap (λ c. cond c p.1 (look q x)) e)
    by false e = sym (look_without x p l q e)

-- a pair of a variable that has one does not matter
look_again : (x : Name) (p r : Name × PlainTerm) (l q : Pairs) → p.0 ≡ r.0 → look (r ∷ (l ++ q)) x ≡ look (r ∷ (l ++ p ∷ q)) x
look_again x p r l q h = by (same_name x r.0) refl
  where
    by : (c : Bool) → same_name x r.0 ≡ c → cond c r.1 (look (l ++ q) x) ≡ cond c r.1 (look (l ++ p ∷ q) x)
    by true e = refl
    by false e = sym (look_without x p l q (subst (λ n. same_name x n ≡ false) (sym h) e))

look_inserted : (x : Name) (p : Name × PlainTerm) (l q : Pairs) → Ascending l → look (insert_pair p l ++ q) x ≡ look (l ++ p ∷ q) x
look_inserted x p [] q h = refl
look_inserted x p (r ∷ l) q h = by (look_inserted x p l q h.1) (name_order p.0 r.0) refl
  where
    by : look (insert_pair p l ++ q) x ≡ look (l ++ p ∷ q) x → (o : Ordering) → name_order p.0 r.0 ≡ o → look (match_ordering o (p ∷ r ∷ l) (r ∷ l) (r ∷ insert_pair p l) ++ q) x ≡ look (r ∷ (l ++ p ∷ q)) x
    by later Less e = look_before x p (r ∷ l) q (above_apart p.0 (r ∷ l) (e, above_passed p.0 r.0 l e h.0))
    by later Equal e = look_again x p r l q (order_equal p.0 r.0 e)
    by later Greater e = ap (λ t. cond (same_name x r.0) r.1 t) later

with_nothing : (l : Pairs) → l ≡ l ++ []
with_nothing [] = refl
with_nothing (p ∷ l) = ap (λ k. p ∷ k) (with_nothing l)

pub look_in_order : (x : Name) (q done : Pairs) → Ascending done → look (in_order q done) x ≡ look (done ++ q) x
look_in_order x [] done h = ap (λ l. look l x) (with_nothing done)
look_in_order x (p ∷ q) done h = look_in_order x q (insert_pair p done) (insert_ascending p done h) ∙ look_inserted x p done q h
