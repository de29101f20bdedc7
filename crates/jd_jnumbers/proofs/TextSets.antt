-- Sets of texts: what inserting a text makes of a set, and the number of a text in it.
use Rattle.std.proofs.Common.{◌≡◌, ℕ, ◌+◌, ◌<◌, Bool, true, false, cond, if◌then◌else◌, ◌||◌, List, [], ◌∷◌, ◌++◌, length, map, position, eqb, ltb, Option, Some, None, refl, sym, ap, ap₂, ◌∙◌, bytes_eq, arith}
use Rattle.std.proofs.lemmas.Bool.{eqb-true, lt-ltb}
use Rattle.std.proofs.lemmas.Cmp.{nat_list_eq_equiv}
use Rattle.std.proofs.lemmas.Iterator.Adapters.{position_from-zero}
use Rattle.std.proofs.lemmas.List.{map-append}
use Rattle.std.proofs.lemmas.List.Folds.{position_or_len_push}
use Rattle.std.specs.List.{list_any, position_from, position_or_len}
use Rattle.std.specs.Global.{Vec}
use Rattle.indexmap.specs.IndexSet.{insert_key}
use Rattle.jd_jnumbers.specs.Texts.{insert_text, number_in}

abbrev bytes : Vec ℕ → List ℕ
bytes v = v.items

abbrev same_text : Vec ℕ → Vec ℕ → Bool
same_text a b = bytes_eq a.items b.items

any_text : (v : Vec ℕ) (ks : List (Vec ℕ)) → list_any (same_text v) ks ≡ list_any (bytes_eq v.items) (map bytes ks)
any_text v [] = refl
any_text v (k ∷ ks) = ap (λ t. bytes_eq v.items k.items || t) (any_text v ks)

either : (t : Bool) (ks : List (Vec ℕ)) (v : Vec ℕ) → map bytes (if t then ks else ks ++ v ∷ []) ≡ (if t then map bytes ks else map bytes ks ++ v.items ∷ [])
either true ks v = refl
either false ks v = map-append bytes ks (v ∷ [])

pub inserted : (v : Vec ℕ) (old new : List (Vec ℕ)) → new ≡ insert_key same_text old v → map bytes new ≡ insert_text (map bytes old) v.items
inserted v old new h =
    ap (map bytes) h
    ∙ either (list_any (same_text v) old) old v
    ∙ ap (λ t. if t then map bytes old else map bytes old ++ v.items ∷ []) (any_text v old)

-- the number of a text in the list of the set's texts
same_positions : (text : List ℕ) (i : ℕ) (ks : List (Vec ℕ)) → position_from (λ k. bytes_eq text k.items) i ks ≡ position_from (λ t. bytes_eq t text) i (map bytes ks)
same_positions text i [] = refl
same_positions text i (k ∷ ks) = ap₂ (λ t rest. cond t (Some i) rest) (nat_list_eq_equiv.symm text k.items) (same_positions text (i + 1) ks)

pub number_of : (text : List ℕ) (ks : List (Vec ℕ)) (r : Option ℕ) → r ≡ position (λ k. bytes_eq text k.items) ks → r ≡ number_in (map bytes ks) text
number_of text ks r h = h ∙ position_from-zero (λ (k : Vec ℕ). bytes_eq text k.items) ks ∙ same_positions text 0 ks

-- where a text stands once it is inserted
stays : (v : Vec ℕ) (old : List (Vec ℕ)) (t : Bool) → position_or_len (same_text v) (if t then old else old ++ v ∷ []) ≡ position_or_len (same_text v) old
stays v old true = refl
stays v old false =
    position_or_len_push (same_text v) old v
    ∙ ap (λ t. cond (eqb p (length old)) (length old + cond t 0 1) p) (nat_list_eq_equiv.refl v.items)
    ∙ by (eqb p (length old)) refl
  where
    p : ℕ
    p = position_or_len (same_text v) old

    by : (b : Bool) → eqb p (length old) ≡ b → cond b (length old + 0) p ≡ p
    by true e = let same : p ≡ length old = eqb-true p (length old) e in omega (arith, same)
    by false e = refl

pub placed : (v : Vec ℕ) (old new : List (Vec ℕ)) (n : ℕ) → new ≡ insert_key same_text old v → n ≡ position_or_len (same_text v) old → n < length new → number_in (map bytes new) v.items ≡ Some n
placed v old new n made at within =
    let place : n ≡ position_or_len (same_text v) new = at ∙ sym (ap (position_or_len (same_text v)) made ∙ stays v old (list_any (same_text v) old)) in
    sym (sym (found (position_or_len (same_text v) new) (length new) n place within) ∙ position_from-zero (same_text v) new ∙ same_positions v.items 0 new)
  where
    found : (p len n : ℕ) → n ≡ p → n < len → cond (ltb p len) (Some p) None ≡ Some n
    found p len n e lt = let below : p < len = omega (arith, e, lt) in ap (λ t. cond t (Some p) None) (lt-ltb p len below) ∙ ap Some (sym e)
