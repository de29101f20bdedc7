-- A finite map that holds no entry which a test refuses: so its lookups fix it.
use Rattle.std.specs.Prelude.{◌≡◌, Bool, true, false, cond, not, List, [], ◌∷◌, ◌++◌, ◌-◌, Option, Some, None}
use Rattle.std.proofs.Common.{refl, sym, ap, ◌∙◌, subst, true≢false}
use Rattle.std.specs.Option.{unwrap_or}
use mathlib.Core.HLevel.{Π_prop, is_prop→PathP}
use mathlib.Core.Bool.{Bool-set}
use Rattle.std.specs.FinMap as finite
use Rattle.std.specs.FinMap.{FinMap, get, insert, get-empty, get-insert, get-remove, same_map}
use Rattle.jd_heap.specs.Codings.{Coding, order, order_total, order_same, same, same_decides}

module _ {K X : Type 0} (c : Coding K) (keep : K → X → Bool) where
  pub record SparseMap : Type 0 where
    pub map : FinMap (order c) X
    pub kept : (k : K) (x : X) → get map k ≡ Some x → keep k x ≡ true

  abbrev pub find : SparseMap → K → Option X
  find m k = get m.map k

  kept_prop : (m : FinMap (order c) X) → IsProp ((k : K) (x : X) → get m k ≡ Some x → keep k x ≡ true)
  kept_prop m = Π_prop (λ k. Π_prop (λ x. Π_prop (λ e. Bool-set (keep k x) true)))

  -- two maps that answer alike are equal
  pub sparse_same : (m n : SparseMap) → ((k : K) → find m k ≡ find n k) → m ≡ n
  sparse_same m n h =
      let p : m.map ≡ n.map = same_map (order_total c) (order_same c) m.map n.map h in
      λ i. record { map = p i; kept = is_prop→PathP (λ i. (k : K) (x : X) → get (p i) k ≡ Some x → keep k x ≡ true) (λ i. kept_prop (p i)) m.kept n.kept i }

  not_Some : (x : X) → ¬ (None ≡ Some x)
  not_Some x e = true≢false (ap (λ (o : Option X). elim o [ None ↦ true | Some y ↦ false ]) e)

  pub no_entries : SparseMap
  no_entries = record { map = finite.empty; kept = λ k x e. absurd (not_Some x (sym (get-empty (order c) k) ∙ e)) }

  pub find-no_entries : (k : K) → find no_entries k ≡ None
  unfolding no_entries
  find-no_entries k = get-empty (order c) k

  pub len-no_entries : finite.len no_entries.map ≡ 0
  unfolding no_entries
  len-no_entries = finite.len-empty (order c) X

  some_same : (x y : X) → Some x ≡ Some y → x ≡ y
  some_same x y e = ap (λ o. unwrap_or o x) e

  kept_insert : (m : SparseMap) (k : K) (v : X) → keep k v ≡ true → (q : K) (x : X) (b : Bool) → same c q k ≡ b → cond b (Some v) (get m.map q) ≡ Some x → keep q x ≡ true
  kept_insert m k v ok q x true t e = subst (λ z. keep z x ≡ true) (sym ((same_decides c q k).0 t)) (subst (λ z. keep k z ≡ true) (some_same v x e) ok)
  kept_insert m k v ok q x false t e = m.kept q x e

  kept_remove : (m : SparseMap) (k : K) (q : K) (x : X) (b : Bool) → same c q k ≡ b → cond b None (get m.map q) ≡ Some x → keep q x ≡ true
  kept_remove m k q x true t e = absurd (not_Some x e)
  kept_remove m k q x false t e = m.kept q x e

  put_if : SparseMap → (k : K) (v : X) (b : Bool) → keep k v ≡ b → SparseMap
  put_if m k v true ok = record { map = insert m.map k v; kept = λ q x e. kept_insert m k v ok q x (same c q k) refl (sym (get-insert (order_total c) m.map k v q) ∙ e) }
  put_if m k v false ok = record { map = finite.remove m.map k; kept = λ q x e. kept_remove m k q x (same c q k) refl (sym (get-remove (order_total c) m.map k q) ∙ e) }

  -- sets an entry, or removes it where the value is refused
  pub put : SparseMap → K → X → SparseMap
  put m k v = put_if m k v (keep k v) refl

  abbrev pub kept_value : K → X → Option X
  kept_value k v = cond (keep k v) (Some v) None

  find_put_if : (m : SparseMap) (k : K) (v : X) (b : Bool) (ok : keep k v ≡ b) (q : K) → find (put_if m k v b ok) q ≡ cond (same c q k) (cond b (Some v) None) (find m q)
  unfolding put_if
  find_put_if m k v true ok q = get-insert (order_total c) m.map k v q
  find_put_if m k v false ok q = get-remove (order_total c) m.map k q

  pub find-put : (m : SparseMap) (k : K) (v : X) (q : K) → find (put m k v) q ≡ cond (same c q k) (kept_value k v) (find m q)
  unfolding put
  find-put m k v q = find_put_if m k v (keep k v) refl q

  -- one map at the keys of a test, and another elsewhere
  or_else : Option X → Option X → Option X
  or_else None o = o
  or_else (Some x) o = Some x

  find_two : (q : K) (es fs : List (K × X)) → finite.find (order c) q (es ++ fs) ≡ or_else (finite.find (order c) q es) (finite.find (order c) q fs)
  unfolding or_else
  find_two q [] fs = refl
  find_two q (e ∷ es) fs = elim (same c q e.0) as (λ b. cond b (Some e.1) (finite.find (order c) q (es ++ fs)) ≡ or_else (cond b (Some e.1) (finite.find (order c) q es)) (finite.find (order c) q fs)) [ true ↦ refl | false ↦ find_two q es fs ]

  picked_map : (K → Bool) → FinMap (order c) X → FinMap (order c) X → FinMap (order c) X
  picked_map p m n = finite.from_entries (finite.entries (finite.retain_keys m p) ++ finite.entries (finite.retain_keys n (λ k. not (p k))))

  chosen : (b : Bool) (o u : Option X) → or_else (cond b o None) (cond (not b) u None) ≡ cond b o u
  unfolding or_else
  chosen true None u = refl
  chosen true (Some x) u = refl
  chosen false o u = refl

  get-retain : (m : FinMap (order c) X) (p : K → Bool) (q : K) → finite.find (order c) q (finite.entries (finite.retain_keys m p)) ≡ cond (p q) (get m q) None
  get-retain m p q = sym (finite.get-entries (finite.retain_keys m p) q) ∙ finite.get-retain_keys m p q (λ x t. ap p (sym (order_same c q x t)))

  get-picked : (p : K → Bool) (m n : FinMap (order c) X) (q : K) → get (picked_map p m n) q ≡ cond (p q) (get m q) (get n q)
  unfolding picked_map
  get-picked p m n q =
      finite.get-from_entries (order_total c) (finite.entries (finite.retain_keys m p) ++ finite.entries (finite.retain_keys n (λ k. not (p k)))) q
      ∙ find_two q (finite.entries (finite.retain_keys m p)) (finite.entries (finite.retain_keys n (λ k. not (p k))))
      ∙ (λ i. or_else (get-retain m p q i) (get-retain n (λ k. not (p k)) q i))
      ∙ chosen (p q) (get m q) (get n q)

  kept_picked : (m n : SparseMap) (k : K) (x : X) (b : Bool) → cond b (get m.map k) (get n.map k) ≡ Some x → keep k x ≡ true
  kept_picked m n k x true e = m.kept k x e
  kept_picked m n k x false e = n.kept k x e

  pub pick : (K → Bool) → SparseMap → SparseMap → SparseMap
  pick p m n = record { map = picked_map p m.map n.map; kept = λ k x e. kept_picked m n k x (p k) (sym (get-picked p m.map n.map k) ∙ e) }

  pub find-pick : (p : K → Bool) (m n : SparseMap) (q : K) → find (pick p m n) q ≡ cond (p q) (find m q) (find n q)
  unfolding pick
  find-pick p m n q = get-picked p m.map n.map q

  len_put_if : (m : SparseMap) (k : K) (v : X) (b : Bool) (ok : keep k v ≡ b) → b ≡ false → finite.contains_key m.map k ≡ true → finite.len (put_if m k v b ok).map ≡ finite.len m.map - 1
  unfolding put_if
  len_put_if m k v true ok e h = absurd (true≢false e)
  len_put_if m k v false ok e h = finite.len-remove (order_total c) m.map k ∙ ap (λ b. cond b (finite.len m.map - 1) (finite.len m.map)) h

  -- a refused value takes an entry away
  pub len-put_out : (m : SparseMap) (k : K) (v : X) → keep k v ≡ false → finite.contains_key m.map k ≡ true → finite.len (put m k v).map ≡ finite.len m.map - 1
  unfolding put
  len-put_out m k v e h = len_put_if m k v (keep k v) refl e h
