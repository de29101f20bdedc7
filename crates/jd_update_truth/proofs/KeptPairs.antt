-- What is read after an update of which only pairs that matter were kept.
use Rattle.std.proofs.Common.{◌≡◌, Bool, true, false, not, cond, List, [], ◌∷◌, filter, ◌&&◌, ◌||◌, refl, sym, ap, ◌∙◌, true≢false}
use Rattle.jd_syntax.specs.Names.{Name}
use Rattle.jd_syntax.specs.Codes.{PlainCode}
use Rattle.jd_syntax.specs.CodeNames.{same_name, occurs_in_code}
use Rattle.jd_syntax.proofs.NameTests.{same_name_decides}
use Rattle.jd_term.specs.Terms.{PlainTerm, ProgramVariable}
use Rattle.jd_term.specs.Formulas.{Pairs, PlainFormula}
use Rattle.jd_term.specs.Occurs.{occurs_var_in}
use Rattle.jd_heap.specs.Values.{Value, at_sort}
use Rattle.jd_update.specs.Replace.{look}
use Rattle.jd_update.specs.Push.{in_order, is_itself, matters, kept, live}
use Rattle.jd_model.specs.States.{State, read, write}
use Rattle.jd_model.specs.TermValues.{value, updated}
use Rattle.jd_model.proofs.States.{read-write}
use Rattle.jd_model.proofs.Writes.{read_back, read_there, apart_by}
use Rattle.jd_model.proofs.Coincidence.{Agree, agree_write}
use Rattle.jd_update_truth.proofs.OrderedPairs.{Apart, OneEach, one_each, apart_same, ordered, look_in_order}

module _ (i s : State) (b : List Value) where
  -- pairs of other variables do not change what is read
  not_written : (m : Name × PlainTerm → Bool) (x : Name) (l : Pairs) → Apart x l → (y : State) → read (updated i s b (filter m l) y) x ≡ read y x
  not_written m x [] h y = refl
  not_written m x (p ∷ l) h y = by (λ z. not_written m x l h.1 z) (m p)
    where
      by : ((z : State) → read (updated i s b (filter m l) z) x ≡ read z x) → (c : Bool) → read (updated i s b (cond c (p ∷ filter m l) (filter m l)) y) x ≡ read y x
      by later true = later (write y p.0 (value i s b p.1)) ∙ read_there y p.0 (value i s b p.1) x h.0
      by later false = later y

  -- where a pair of x is left out only if its value is that of x
  module _ (m : Name × PlainTerm → Bool) (x : Name) (left_out : (p : Name × PlainTerm) → same_name x p.0 ≡ true → m p ≡ false → value i s b p.1 ≡ read s x) where
    filtered_reads : (l : Pairs) → OneEach l → (y : State) → read y x ≡ read s x → read (updated i s b (filter m l) y) x ≡ at_sort x.sort (value i s b (look l x))
    filtered_reads [] o y h = h ∙ sym (read_back s x)
    filtered_reads (p ∷ l) o y h = by (λ z e. filtered_reads l o.1 z e) (same_name x p.0) (m p) refl refl
      where
        by : ((z : State) → read z x ≡ read s x → read (updated i s b (filter m l) z) x ≡ at_sort x.sort (value i s b (look l x))) → (c k : Bool) → same_name x p.0 ≡ c → m p ≡ k → read (updated i s b (cond k (p ∷ filter m l) (filter m l)) y) x ≡ at_sort x.sort (value i s b (cond c p.1 (look l x)))
        by later true true e f =
            not_written m x l (apart_same x p.0 l e o.0) (write y p.0 (value i s b p.1))
            ∙ read-write y p.0 (value i s b p.1) x
            ∙ ap (λ c. cond c (at_sort p.0.sort (value i s b p.1)) (read y x)) e
            ∙ ap (λ (n : Name). at_sort n.sort (value i s b p.1)) (sym ((same_name_decides x p.0).0 e))
        by later true false e f = not_written m x l (apart_same x p.0 l e o.0) y ∙ h ∙ sym (ap (at_sort x.sort) (left_out p e f) ∙ read_back s x)
        by later false true e f = later (write y p.0 (value i s b p.1)) (read_there y p.0 (value i s b p.1) x e ∙ h)
        by later false false e f = later y h

  itself_value : (p : Name × PlainTerm) → is_itself p ≡ true → value i s b p.1 ≡ read s p.0
  itself_value (x, ProgramVariable y) e = ap (λ n. read s n) (sym ((same_name_decides x y).0 e))
  itself_value p e = absurd (true≢false (sym e))

  is_dropped : (o k : Bool) → o ≡ true → o && not k ≡ false → k ≡ true
  is_dropped true true e f = refl
  is_dropped true false e f = absurd (true≢false f)
  is_dropped false k e f = absurd (true≢false (sym e))

  not_mattering : (c : PlainCode) (a : PlainFormula) (x : Name) → occurs_in_code x c || occurs_var_in x a ≡ true → (p : Name × PlainTerm) → same_name x p.0 ≡ true → matters c a p ≡ false → value i s b p.1 ≡ read s x
  not_mattering c a x o p e f =
      let same : x ≡ p.0 = (same_name_decides x p.0).0 e in
      let here : occurs_in_code p.0 c || occurs_var_in p.0 a ≡ true = ap (λ n. occurs_in_code n c || occurs_var_in n a) (sym same) ∙ o in
      itself_value p (is_dropped (occurs_in_code p.0 c || occurs_var_in p.0 a) (is_itself p) here f) ∙ ap (λ n. read s n) (sym same)

  -- the pairs that are kept before a modality do what all did, at the names that occur there
  pub kept_reads : (q : Pairs) (c : PlainCode) (a : PlainFormula) (x : Name) → occurs_in_code x c || occurs_var_in x a ≡ true → read (updated i s b (kept q c a) s) x ≡ at_sort x.sort (value i s b (look q x))
  kept_reads q c a x o =
      filtered_reads (matters c a) x (not_mattering c a x o) (in_order q []) (one_each (in_order q []) (ordered q [] tt)) s refl
      ∙ ap (λ t. at_sort x.sort (value i s b t)) (look_in_order x q [] tt)

  -- so do those whose variables occur in a formula
  pub live_agree : (a : PlainFormula) (u : Pairs) (y z : State) → Agree (λ x. occurs_var_in x a ≡ true) y z → Agree (λ x. occurs_var_in x a ≡ true) (updated i s b (live a u) y) (updated i s b u z)
  live_agree a [] y z h = h
  live_agree a (p ∷ u) y z h = by (λ v w e. live_agree a u v w e) (occurs_var_in p.0 a) refl
    where
      by : ((v w : State) → Agree (λ x. occurs_var_in x a ≡ true) v w → Agree (λ x. occurs_var_in x a ≡ true) (updated i s b (live a u) v) (updated i s b u w)) → (k : Bool) → occurs_var_in p.0 a ≡ k → Agree (λ x. occurs_var_in x a ≡ true) (updated i s b (cond k (p ∷ live a u) (live a u)) y) (updated i s b u (write z p.0 (value i s b p.1)))
      by later true e = later (write y p.0 (value i s b p.1)) (write z p.0 (value i s b p.1)) (agree_write (λ x. occurs_var_in x a ≡ true) y z p.0 (value i s b p.1) (value i s b p.1) refl h)
      by later false e = later y (write z p.0 (value i s b p.1)) (λ x o. h x o ∙ sym (read_there z p.0 (value i s b p.1) x (apart_by (λ n. occurs_var_in n a) x p.0 o e)))
