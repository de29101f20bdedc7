-- The numbers of names.
use Rattle.std.proofs.Common.{◌≡◌, ℕ, Bool, true, false, cond, if◌then◌else◌, List, [], ◌∷◌, Option, Some, None, refl, sym, ap, ◌∙◌, bytes_eq, Vec}
use Rattle.std.specs.declared.alloc.Global.{Global}
use Rattle.std.specs.Map.{lookup}
use Rattle.std.specs.Option.{unwrap_or}
use Rattle.std.proofs.lemmas.Cmp.{nat_list_eq_equiv}
use Rattle.std.proofs.lemmas.Slice.Eq.{bytes_eq-Decides}
use Rattle.indexmap.specs.IndexMap.{insert_entry}
use Rattle.jd_code_makers.specs.Held.{number_at}

abbrev pub same_name : Vec ℕ Global → Vec ℕ Global → Bool
same_name a b = bytes_eq a.items b.items

turned : (a b : List ℕ) → bytes_eq a b ≡ bytes_eq b a
turned a b = nat_list_eq_equiv.symm a b

one_entry : (v : ℕ) (b : Bool) → unwrap_or (cond b (Some v) None) 0 ≡ (if b then v else 0)
one_entry v true = refl
one_entry v false = refl

both_named : (v w : ℕ) (r : Option ℕ) (c : Bool) → unwrap_or (cond c (Some v) r) 0 ≡ (if c then v else unwrap_or (cond c (Some w) r) 0)
both_named v w r true = refl
both_named v w r false = refl

-- another name stands first
other_first : (key q name : List ℕ) (v w : ℕ) (new old : Option ℕ) (a : Bool) → bytes_eq q name ≡ a → bytes_eq key name ≡ false → unwrap_or new 0 ≡ (if bytes_eq key q then v else unwrap_or old 0)
    → unwrap_or (cond a (Some w) new) 0 ≡ (if bytes_eq key q then v else unwrap_or (cond a (Some w) old) 0)
other_first key q name v w new old true same apart rest = ap (λ b. if b then v else w) (sym (ap (λ n. bytes_eq key n) ((bytes_eq-Decides q name).0 same) ∙ apart))
other_first key q name v w new old false same apart rest = rest

-- it does
this_first : (key q name : List ℕ) (v w : ℕ) (r : Option ℕ) → bytes_eq key name ≡ true → unwrap_or (cond (bytes_eq q name) (Some v) r) 0 ≡ (if bytes_eq key q then v else unwrap_or (cond (bytes_eq q name) (Some w) r) 0)
this_first key q name v w r is =
    let t : bytes_eq q name ≡ bytes_eq key q = turned q name ∙ ap (λ n. bytes_eq n q) (sym ((bytes_eq-Decides key name).0 is)) in
    ap (λ b. unwrap_or (cond b (Some v) r) 0) t ∙ both_named v w r (bytes_eq key q) ∙ ap (λ b. if bytes_eq key q then v else unwrap_or (cond b (Some w) r) 0) (sym t)

first_or : (e : Vec ℕ Global × ℕ) (es new : List (Vec ℕ Global × ℕ)) (key : Vec ℕ Global) (v : ℕ) (q : List ℕ) (b : Bool) → bytes_eq key.items e.0.items ≡ b → number_at new q ≡ (if bytes_eq key.items q then v else number_at es q)
    → number_at (if b then (e.0, v) ∷ es else e ∷ new) q ≡ (if bytes_eq key.items q then v else number_at (e ∷ es) q)
first_or e es new key v q true is rest = this_first key.items q e.0.items v e.1 (lookup (λ k. bytes_eq q k.items) es) is
first_or e es new key v q false is rest = other_first key.items q e.0.items v e.1 (lookup (λ k. bytes_eq q k.items) new) (lookup (λ k. bytes_eq q k.items) es) (bytes_eq q e.0.items) refl is rest

-- a name with a new number
pub set_at : (es : List (Vec ℕ Global × ℕ)) (key : Vec ℕ Global) (v : ℕ) (q : List ℕ) → number_at (insert_entry same_name es key v) q ≡ (if bytes_eq key.items q then v else number_at es q)
set_at [] key v q = ap (λ b. unwrap_or (cond b (Some v) None) 0) (turned q key.items) ∙ one_entry v (bytes_eq key.items q)
set_at (e ∷ es) key v q = first_or e es (insert_entry same_name es key v) key v q (bytes_eq key.items e.0.items) refl (set_at es key v q)
