-- A preorder read from its end.
use Rattle.std.proofs.Common.{◌≡◌, ℕ, zero, suc, ◌+◌, ◌-◌, ◌<◌, ◌≤◌, List, [], ◌∷◌, ◌++◌, map, take, drop, length, get_or, refl, sym, ap, ap₂, subst, ◌∙◌, arith, drop-cons, length-drop, length-append, append_assoc}
use Rattle.std.proofs.lemmas.List.{take_all, append-nil, drop-map}
use Rattle.jd_grammar.specs.declared.table.Symbol.{Symbol}
use Rattle.jd_grammar.specs.declared.table.Symbol.TheVariants.{Token, Name}
use Rattle.jd_grammar.specs.Grammars.{Production, Forest, Done, Leaf, Node, yield, preorder, IsForest}
use Rattle.jd_grammar.specs.Folds.{values, name_count, AritiesFit}
use Rattle.jd_grammar.specs.Nodes.{Stands, StandFor, Evaluates, IsReadAs, Rooted, leaves}
use Rattle.jd_grammar.proofs.Folds.{drop-more, take-here, drop-here}

cut-leaf : (order : List ℕ) (i : ℕ) → i < length order → get_or order i 0 ≡ 0 → leaves (take (suc i) order) ≡ 1 + leaves (take i order)
cut-leaf [] i h e = absurd (omega (arith, h))
cut-leaf (zero ∷ es) zero h e = refl
cut-leaf (suc x ∷ es) zero h e = cc
cut-leaf (zero ∷ es) (suc i) h e = ap (λ n. 1 + n) (cut-leaf es i (omega (arith, h)) e)
cut-leaf (suc x ∷ es) (suc i) h e = cut-leaf es i (omega (arith, h)) e

cut-node : (order : List ℕ) (i : ℕ) → i < length order → (get_or order i 0 ≡ 0 → ⊥) → leaves (take (suc i) order) ≡ leaves (take i order)
cut-node [] i h e = absurd (omega (arith, h))
cut-node (zero ∷ es) zero h e = absurd (e refl)
cut-node (suc x ∷ es) zero h e = refl
cut-node (zero ∷ es) (suc i) h e = ap (λ n. 1 + n) (cut-node es i (omega (arith, h)) e)
cut-node (suc x ∷ es) (suc i) h e = cut-node es i (omega (arith, h)) e

-- one entry less to the left
pub leaf_before : (order : List ℕ) (l : ℕ) → 0 < l → l ≤ length order → get_or order (l - 1) 0 ≡ 0 → leaves (take l order) ≡ 1 + leaves (take (l - 1) order)
leaf_before order l p h e =
    let z : l ≡ suc (l - 1) = omega arith in
    ap (λ k. leaves (take k order)) z ∙ cut-leaf order (l - 1) (omega arith) e

pub node_before : (order : List ℕ) (l : ℕ) → 0 < l → l ≤ length order → (get_or order (l - 1) 0 ≡ 0 → ⊥) → leaves (take l order) ≡ leaves (take (l - 1) order)
node_before order l p h e =
    let z : l ≡ suc (l - 1) = omega arith in
    ap (λ k. leaves (take k order)) z ∙ cut-node order (l - 1) (omega arith) e

-- an entry for a leaf is read
pub leaf_read : {T V : Type 0} (count : ℕ → ℕ) (stands : Stands T V) (order : List ℕ) (ts : List T) (l a : ℕ) (vs : List V) → 0 < l → l ≤ length order → 1 ≤ a → get_or order (l - 1) 0 ≡ 0 → Evaluates count stands (drop l order) (drop a ts) vs → Evaluates count stands (drop (l - 1) order) (drop (a - 1) ts) vs
leaf_read count stands order ts l a vs p h some e v =
    let z : suc (l - 1) ≡ l = omega arith in
    let y : a - 1 + 1 ≡ a = omega arith in
    let next : drop (l - 1) order ≡ 0 ∷ drop l order = drop-cons order (l - 1) 0 (omega arith) ∙ ap₂ (λ x k. x ∷ drop k order) e z in
    subst (λ es. Evaluates count stands es (drop (a - 1) ts) vs) (sym next)
    (subst (λ us. Evaluates count stands (drop l order) us vs) (sym (drop-more (a - 1) 1 ts ∙ ap (λ k. drop k ts) y)) v)

-- an entry for a node is
pub node_read : {T V : Type 0} (count : ℕ → ℕ) (stands : Stands T V) (order : List ℕ) (ts us : List T) (l a n : ℕ) (vs new : List V) → 0 < l → l ≤ length order → (get_or order (l - 1) 0 ≡ 0 → ⊥) → n ≡ get_or order (l - 1) 0 - 1 → us ≡ drop a ts → Evaluates count stands (drop l order) (drop a ts) vs → ((v : V) × stands n us (take (count n) vs) v × (new ≡ v ∷ drop (count n) vs)) → Evaluates count stands (drop (l - 1) order) (drop a ts) new
node_read count stands order ts us l a n vs new p h some is place v made =
    let z : suc (l - 1) ≡ l = omega arith in
    let y : get_or order (l - 1) 0 ≡ suc n = omega (arith, some, is) in
    let next : drop (l - 1) order ≡ suc n ∷ drop l order = drop-cons order (l - 1) 0 (omega arith) ∙ ap₂ (λ x k. x ∷ drop k order) y z in
    subst (λ es. Evaluates count stands es (drop a ts) new) (sym next)
    (subst (λ xs. Evaluates count stands (suc n ∷ drop l order) (drop a ts) xs) (sym made.2)
    (vs, v, subst (λ ws. stands n ws (take (count n) vs) made.0) place made.1, refl))

-- the rest of a slice
pub rest_is : {T : Type 0} (ts : List T) (n : ℕ) → take (length ts - n) (drop n ts) ≡ drop n ts
rest_is ts n = ap (λ k. take k (drop n ts)) (sym (length-drop n ts)) ∙ take_all (length (drop n ts)) (drop n ts) (omega arith)

-- ---- a forest's preorder evaluates to values of the forest

-- what a forest's part of the values is
record Splits {T V : Type 0} (count : ℕ → ℕ) (stands : Stands T V) (f : Forest) (n : ℕ) (es : List ℕ) (ts : List T) (vs : List V) : Type 0 where
  pub own : List V
  pub others : List V
  pub both : vs ≡ own ++ others
  pub counted : length own ≡ n
  pub stand : StandFor stands f ts own
  pub rest : Evaluates count stands es (drop (length (yield f)) ts) others

nodes-first : {T V : Type 0} (count : ℕ → ℕ) (stands : Stands T V) (p : ℕ) (es : List ℕ) (ts : List T) (vs : List V) → Evaluates count stands (suc p ∷ es) ts vs → (v : V) × (ws : List V) × (us : List V) × (vs ≡ v ∷ ws) × Evaluates count stands es ts us × stands p ts (take (count p) us) v × (ws ≡ drop (count p) us)
nodes-first count stands p es ts [] h = absurd h
nodes-first count stands p es ts (v ∷ ws) h = (v, ws, h.0, refl, h.1, h.2, h.3)

splits : {T V : Type 0} (count : ℕ → ℕ) (stands : Stands T V) (g : List Production) (f : Forest) (ss : List Symbol) (after es : List ℕ) (ts : List T) (vs : List V) → AritiesFit g count → IsForest g f ss after → Evaluates count stands (preorder f ++ es) ts vs → Splits count stands f (name_count ss) es ts vs
splits count stands g Done [] after es ts vs fit i h = record { own = []; others = vs; both = refl; counted = refl; stand = refl; rest = h }
splits count stands g Done (x ∷ ss) after es ts vs fit i h = absurd i
splits count stands g (Leaf k f) [] after es ts vs fit i h = absurd i
splits count stands g (Leaf k f) (Token j ∷ ss) after es ts vs fit i h =
    let r = splits count stands g f ss after es (drop 1 ts) vs fit i.1 h in
    let z : 1 + length (yield f) ≡ suc (length (yield f)) = omega arith in
    record {
      own = r.own;
      others = r.others;
      both = r.both;
      counted = r.counted;
      stand = r.stand;
      rest = subst (λ us. Evaluates count stands es us r.others) (drop-more 1 (length (yield f)) ts ∙ ap (λ n. drop n ts) z) r.rest;
    }
splits count stands g (Leaf k f) (Name a ∷ ss) after es ts vs fit i h = absurd i
splits count stands g (Node p c f) [] after es ts vs fit i h = absurd i
splits count stands g (Node p c f) (Token j ∷ ss) after es ts vs fit i h = absurd i
splits {T} {V} count stands g (Node p c f) (Name a ∷ ss) after es ts vs fit i h =
    let first = nodes-first count stands p ((preorder c ++ preorder f) ++ es) ts vs h in
    let below = splits count stands g c i.0.body (yield f ++ after) (preorder f ++ es) ts first.2 fit i.4 (subst (λ xs. Evaluates count stands xs ts first.2) (append_assoc (preorder c) (preorder f) es) first.4) in
    let beside = splits count stands g f ss after es (drop (length (yield c)) ts) below.others fit i.5 below.rest in
    let size : count p ≡ length below.own = fit p i.0 i.1 ∙ sym below.counted in
    let front : take (count p) first.2 ≡ below.own = ap₂ (λ n xs. take n xs) size below.both ∙ take-here below.own below.others in
    let back : drop (count p) first.2 ≡ below.others = ap₂ (λ n xs. drop n xs) size below.both ∙ drop-here below.own below.others in
    let whole : drop (length (yield f)) (drop (length (yield c)) ts) ≡ drop (length (yield c ++ yield f)) ts =
    drop-more (length (yield c)) (length (yield f)) ts ∙ ap (λ n. drop n ts) (sym (length-append (yield c) (yield f))) in
    let count_all : length (first.0 ∷ beside.own) ≡ 1 + name_count ss = omega (arith, beside.counted) in
    record {
      own = first.0 ∷ beside.own;
      others = beside.others;
      both = first.3 ∙ ap (λ xs. first.0 ∷ xs) (first.6 ∙ (back ∙ beside.both));
      counted = count_all;
      stand = (below.own, below.stand, subst (λ ws. stands p ts ws first.0) front first.5, beside.stand);
      rest = subst (λ us. Evaluates count stands es us beside.others) whole beside.rest;
    }

pub forest_values : {T V : Type 0} (count : ℕ → ℕ) (stands : Stands T V) (g : List Production) (f : Forest) (a : ℕ) (ts : List T) (vs : List V) → AritiesFit g count → IsForest g f (Name a ∷ []) [] → Evaluates count stands (preorder f) ts vs → (v : V) × (vs ≡ v ∷ []) × StandFor stands f ts (v ∷ [])
forest_values {T} {V} count stands g f a ts vs fit i h =
    let r = splits count stands g f (Name a ∷ []) [] [] ts vs fit i (subst (λ es. Evaluates count stands es ts vs) (sym (append-nil (preorder f))) h) in
    let all : vs ≡ r.own = r.both ∙ (ap (λ us. r.own ++ us) r.rest ∙ append-nil r.own) in
    one r.own r.counted r.stand all
  where
    one : (ws : List V) → length ws ≡ 1 + 0 → StandFor stands f ts ws → vs ≡ ws → (v : V) × (vs ≡ v ∷ []) × StandFor stands f ts (v ∷ [])
    one [] n s e = absurd (omega (arith, n))
    one (v ∷ []) n s e = (v, e, s)
    one (v ∷ w ∷ ws) n s e = absurd (omega (arith, n))

-- the leaves of a forest's preorder are its tokens
pub leaves-preorder : (f : Forest) → leaves (preorder f) ≡ length (yield f)
leaves-preorder Done = refl
leaves-preorder (Leaf k f) = let i = leaves-preorder f in omega (arith, i)
leaves-preorder (Node p c f) =
    let i = leaves-preorder c in
    let j = leaves-preorder f in
    omega (arith, i, j, leaves-append (preorder c) (preorder f), length-append (yield c) (yield f))
  where
    leaves-append : (xs ys : List ℕ) → leaves (xs ++ ys) ≡ leaves xs + leaves ys
    leaves-append [] ys = omega arith
    leaves-append (zero ∷ xs) ys = let i = leaves-append xs ys in omega (arith, i)
    leaves-append (suc x ∷ xs) ys = leaves-append xs ys

-- where a node may stand only for what is made of what its parts show, so do the nodes of a forest
pub made_values : {T V L P : Type 0} (stands : Stands T V) (show : V → P) (look : T → L) (make : ℕ → List L → List P → P) (f : Forest) (ts : List T) (vs : List V) → ((p : ℕ) (us : List T) (ws : List V) (v : V) → stands p us ws v → show v ≡ make p (map look us) (map show ws)) → StandFor stands f ts vs → map show vs ≡ values make f (map look ts)
made_values stands show look make Done ts vs by h = ap (map show) h
made_values stands show look make (Leaf k f) ts vs by h =
    made_values stands show look make f (drop 1 ts) vs by h ∙ ap (values make f) (sym (drop-map look 1 ts))
made_values stands show look make (Node p c f) ts [] by h = absurd h
made_values stands show look make (Node p c f) ts (v ∷ vs) by h =
    let below = made_values stands show look make c ts h.0 by h.1 in
    let beside = made_values stands show look make f (drop (length (yield c)) ts) vs by h.3 ∙ ap (values make f) (sym (drop-map look (length (yield c)) ts)) in
    ap₂ (λ x xs. x ∷ xs) (by p ts h.0 v h.2 ∙ ap (make p (map look ts)) below) beside

pub leaves_are : (t : Rooted) (count : ℕ → ℕ) (order : List ℕ) (n : ℕ) → IsReadAs t count order n → leaves order ≡ n
leaves_are t count order n is = sym (ap leaves is.order_is) ∙ (leaves-preorder t.forest ∙ is.tokens)
