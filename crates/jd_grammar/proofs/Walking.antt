-- Steps along a preorder that is read from its end.
use Rattle.std.proofs.Common.{◌≡◌, ℕ, zero, suc, ◌+◌, ◌-◌, ◌<◌, ◌≤◌, List, [], ◌∷◌, ◌++◌, length, take, drop, get_or, replicate, refl, sym, ap, ap₂, subst, ◌∙◌, arith}
use Rattle.std.proofs.lemmas.List.{take_all}
use Rattle.jd_grammar.specs.Counted.{IsKept, IsLeft, IsQuiet, IsWalked, KeptStep, QuietStep}
use Rattle.jd_grammar.specs.Nodes.{Stands, StandFor, Evaluates, IsReadAs, Rooted, leaves, top_or}
use Rattle.jd_grammar.proofs.Counting.{drop_first, take_first}
use Rattle.jd_grammar.proofs.Walks.{forest_values, leaf_before, leaf_read, leaves_are, node_before, node_read}

-- ---- values of nothing on top

pub quiet_step : {T V : Type 0} (count : ℕ → ℕ) (stands : Stands T V) (x : V) (p n w k m : ℕ) → IsQuiet count stands x p n → n ≤ w → k ≡ w - n → m ≡ k + 1 → QuietStep count stands x p w m
quiet_step count stands x p n w k m quiet enough less more = record { parts = n; left = k; quiet = quiet; all = omega (arith, enough, less); after = omega (arith, more) }

pub kept_step : {T V : Type 0} (count : ℕ → ℕ) (stands : Stands T V) (x : V) (p n w m : ℕ) (v : V) → IsKept count stands x p n v → n ≤ w → m ≡ w - n → KeptStep count stands x p v w m
kept_step count stands x p n w m v kept enough less = record { parts = n; kept = kept; all = omega (arith, enough, less) }

-- ---- an entry

pub leaf_left : (order : List ℕ) (l a : ℕ) → 0 < l → get_or order (l - 1) 0 ≡ 0 → IsLeft order l a → (0 < a) × IsLeft order (l - 1) (a - 1)
leaf_left order l a some e h =
    let i = leaf_before order l some h.within e in
    let j = h.tokens_left in
    let w = h.within in
    (omega (arith, i, j), record { within = omega (arith, w); tokens_left = omega (arith, i, j) })

pub node_left : (order : List ℕ) (l a : ℕ) → 0 < l → (get_or order (l - 1) 0 ≡ 0 → ⊥) → IsLeft order l a → IsLeft order (l - 1) a
node_left order l a some e h =
    let w = h.within in
    record { within = omega (arith, w); tokens_left = sym (node_before order l some h.within e) ∙ h.tokens_left }

pub left_of : {T V : Type 0} (count : ℕ → ℕ) (stands : Stands T V) (order : List ℕ) (ts : List T) (l a : ℕ) (vs : List V) → IsWalked count stands order ts l a vs → IsLeft order l a
left_of count stands order ts l a vs h = record { within = h.within; tokens_left = h.tokens_left }

pub leaf_walked : {T V : Type 0} (count : ℕ → ℕ) (stands : Stands T V) (order : List ℕ) (ts : List T) (l a : ℕ) (vs : List V) → 0 < l → get_or order (l - 1) 0 ≡ 0 → IsWalked count stands order ts l a vs → IsWalked count stands order ts (l - 1) (a - 1) vs
leaf_walked count stands order ts l a vs some e h =
    let i = leaf_left order l a some e (left_of count stands order ts l a vs h) in
    let k = h.inside in
    let there = i.0 in
    record {
      within = i.1.within;
      tokens_left = i.1.tokens_left;
      inside = omega (arith, k);
      values = leaf_read count stands order ts l a vs some h.within (omega (arith, there)) e h.values;
    }

pub node_walked : {T V : Type 0} (count : ℕ → ℕ) (stands : Stands T V) (order : List ℕ) (ts us : List T) (l a n : ℕ) (vs new : List V) → 0 < l → (get_or order (l - 1) 0 ≡ 0 → ⊥) → n ≡ get_or order (l - 1) 0 - 1 → us ≡ drop a ts → IsWalked count stands order ts l a vs → ((v : V) × stands n us (take (count n) vs) v × (new ≡ v ∷ drop (count n) vs)) → IsWalked count stands order ts (l - 1) a new
node_walked count stands order ts us l a n vs new some e is place h made =
    let i = node_left order l a some e (left_of count stands order ts l a vs h) in
    record {
      within = i.within;
      tokens_left = i.tokens_left;
      inside = h.inside;
      values = node_read count stands order ts us l a n vs new some h.within e is place h.values made;
    }

-- one that stands for nothing as its parts do
pub quiet_walked : {T V : Type 0} (count : ℕ → ℕ) (stands : Stands T V) (x : V) (order : List ℕ) (ts : List T) (l a n w m : ℕ) (rest : List V) → 0 < l → (get_or order (l - 1) 0 ≡ 0 → ⊥) → n ≡ get_or order (l - 1) 0 - 1 → QuietStep count stands x n w m → IsWalked count stands order ts l a (replicate w x ++ rest) → IsWalked count stands order ts (l - 1) a (replicate m x ++ rest)
quiet_walked count stands x order ts l a n w m rest some e is step h =
    let vs = replicate w x ++ rest in
    let names = step.quiet.names in
    let parts : take (count n) vs ≡ replicate step.parts x = ap (λ k. take k vs) names ∙ take_first x step.parts step.left w rest step.all in
    let others : drop (count n) vs ≡ replicate step.left x ++ rest = ap (λ k. drop k vs) names ∙ drop_first x step.parts step.left w rest step.all in
    let whole : replicate m x ++ rest ≡ x ∷ drop (count n) vs = ap (λ k. replicate k x ++ rest) step.after ∙ ap (λ xs. x ∷ xs) (sym others) in
    node_walked count stands order ts (drop a ts) l a n vs (replicate m x ++ rest) some e is refl h
    (x, subst (λ us. stands n (drop a ts) us x) (sym parts) (step.quiet.quiet (drop a ts)), whole)

-- one that stands for its first part
pub kept_walked : {T V : Type 0} (count : ℕ → ℕ) (stands : Stands T V) (x v : V) (order : List ℕ) (ts : List T) (l a n w m : ℕ) (rest : List V) → 0 < l → (get_or order (l - 1) 0 ≡ 0 → ⊥) → n ≡ get_or order (l - 1) 0 - 1 → KeptStep count stands x n v w m → IsWalked count stands order ts l a (v ∷ (replicate w x ++ rest)) → IsWalked count stands order ts (l - 1) a (v ∷ (replicate m x ++ rest))
kept_walked count stands x v order ts l a n w m rest some e is step h =
    let vs = v ∷ (replicate w x ++ rest) in
    let names = step.kept.names in
    let parts : take (count n) vs ≡ v ∷ replicate step.parts x = ap (λ k. take k vs) names ∙ ap (λ xs. v ∷ xs) (take_first x step.parts m w rest step.all) in
    let others : drop (count n) vs ≡ replicate m x ++ rest = ap (λ k. drop k vs) names ∙ drop_first x step.parts m w rest step.all in
    node_walked count stands order ts (drop a ts) l a n vs (v ∷ (replicate m x ++ rest)) some e is refl h
    (v, subst (λ us. stands n (drop a ts) us v) (sym parts) (step.kept.keeps (drop a ts)), ap (λ xs. v ∷ xs) (sym others))

-- ---- the whole

pub all_left : {T V : Type 0} (count : ℕ → ℕ) (stands : Stands T V) (order : List ℕ) (ts : List T) (n m : ℕ) (vs : List V) → n ≡ length order → m ≡ length ts → leaves order ≡ length ts → vs ≡ [] → IsWalked count stands order ts n m vs
all_left count stands order ts n m vs is_n is_m all empty =
    let none : drop n order ≡ [] = ap (λ k. drop k order) is_n ∙ drop_all order in
    record {
      within = omega (arith, is_n);
      tokens_left = ap (λ k. leaves (take k order)) is_n ∙ (ap leaves (take_all (length order) order (omega arith)) ∙ (all ∙ sym is_m));
      inside = omega (arith, is_m);
      values = subst (λ es. Evaluates count stands es (drop m ts) vs) (sym none) empty;
    }
  where
    drop_all : (xs : List ℕ) → drop (length xs) xs ≡ []
    drop_all [] = refl
    drop_all (y ∷ xs) = drop_all xs

pub none_left : {T V : Type 0} (count : ℕ → ℕ) (stands : Stands T V) (order : List ℕ) (ts : List T) (n m : ℕ) (vs : List V) → n ≡ 0 → IsWalked count stands order ts n m vs → Evaluates count stands order ts vs
none_left count stands order ts n m vs none h =
    let at : m ≡ 0 = sym h.tokens_left ∙ ap (λ k. leaves (take k order)) none in
    subst (λ us. Evaluates count stands order us vs) (ap (λ k. drop k ts) at) (subst (λ k. Evaluates count stands (drop k order) (drop m ts) vs) none h.values)

-- the value on top in the end is the tree's
pub top_stands : {T V : Type 0} (count : ℕ → ℕ) (stands : Stands T V) (x : V) (t : Rooted) (order : List ℕ) (ts : List T) (n : ℕ) (vs : List V) (v : V) → IsReadAs t count order n → Evaluates count stands order ts vs → v ≡ top_or x (take 1 vs) → StandFor stands t.forest ts (v ∷ [])
top_stands count stands x t order ts n vs v is h e =
    let r = forest_values count stands t.productions t.forest t.name ts vs is.fits is.tree (subst (λ es. Evaluates count stands es ts vs) (sym is.order_is) h) in
    subst (λ y. StandFor stands t.forest ts (y ∷ [])) (sym (e ∙ ap (λ xs. top_or x (take 1 xs)) r.1)) r.2
