-- What the test of a table says, and which productions its rows name.
use Rattle.std.proofs.Common.{◌≡◌, ◌≢◌, ℕ, zero, suc, ◌+◌, ◌*◌, ◌^◌, ◌<◌, Bool, true, false, not, ◌&&◌, ◌||◌, cond, nat_eq, nat_lt, List, [], ◌∷◌, ◌++◌, drop, length, Some, None, refl, sym, ap, subst, ◌∙◌, arith, eq-eqb}
use Rattle.std.specs.Int.{bit_at}
use Rattle.std.specs.Prelude.{bit_or, slice_index}
use Rattle.std.specs.List.{slice_get}
use Rattle.std.proofs.lemmas.Bool.{and_parts, cond-true, lt-ltb, ltb-true, ne_eqb, and_from}
use Rattle.std.proofs.lemmas.List.{get_or-drop}
use Rattle.std.proofs.lemmas.Nat.Bits.{bit_at-pow_same}
use Rattle.std.proofs.lemmas.Option.{none-some, same_Some}
use Rattle.jd_grammar.specs.declared.table.Symbol.{Symbol}
use Rattle.jd_grammar.specs.declared.table.Symbol.TheVariants.{Token, Name}
use Rattle.jd_grammar.specs.Grammars.{Production, Forest, Done, Leaf, Node, yield, ahead, IsForest}
use Rattle.jd_grammar.specs.Tables.{PlainTable, is_solid, entry, usable, numbered, chosen_by, chosen}
use Rattle.jd_grammar.specs.Tests.{Sets, within, vanishes, all_vanish, first_of, is_followed, covers, lead, has_token, are_known, production_passes, productions_pass, witnesses_pass, starts_pass, is_ll1}
use Rattle.jd_grammar.proofs.Masks.{has-or_left, has-or_right, has-within, covers-entry}

-- what the test of production p says
pub record Passes (s : Sets) (t : PlainTable) (p : ℕ) (r : Production) : Type 0 where
  pub first : within (first_of s r.body 0) (slice_index s.first r.head) ≡ true
  pub vanishing : all_vanish s r.body ≡ true → vanishes s r.head ≡ true
  pub follow : is_followed s r.body (slice_index s.follow r.head) ≡ true
  pub covered : covers t.width 0 r.unless (first_of s r.body (slice_index s.follow r.head)) (drop (r.head * t.width) t.rows) (suc p) ≡ true
  pub light : lead t r.body < slice_index t.weights r.head
  pub solid : is_solid t r.head ≡ true → has_token t r.body ≡ true
  pub known : are_known t.width (length s.ranks) r.body ≡ true

not_or : (x y : Bool) → (not x || y) ≡ true → x ≡ true → y ≡ true
not_or true y h e = h
not_or false y h e = cc

passes : (s : Sets) (t : PlainTable) (p : ℕ) (r : Production) → production_passes s t p r ≡ true → Passes s t p r
passes s t p r h =
    let h1 = and_parts _ _ h in
    let h2 = and_parts _ _ h1.1 in
    let h3 = and_parts _ _ h2.1 in
    let h4 = and_parts _ _ h3.1 in
    let h5 = and_parts _ _ h4.1 in
    let h6 = and_parts _ _ h5.1 in
    record {
      first = h1.0;
      vanishing = not_or (all_vanish s r.body) (vanishes s r.head) h2.0;
      follow = h3.0;
      covered = h4.0;
      light = ltb-true _ _ h5.0;
      solid = not_or (is_solid t r.head) (has_token t r.body) h6.0;
      known = h6.1;
    }

-- each production passes
abbrev pub AllPass : Sets → PlainTable → Type 0
AllPass s t = (p : ℕ) (r : Production) → slice_get t.productions p ≡ Some r → Passes s t p r

passes-at : (s : Sets) (t : PlainTable) (p : ℕ) (rs : List Production) (i q : ℕ) (r : Production) → productions_pass s t p rs ≡ true → slice_get rs i ≡ Some r → q ≡ p + i → Passes s t q r
passes-at s t p [] i q r h e z = absurd (none-some r e)
passes-at s t p (x ∷ rs) zero q r h e z =
    let same : p ≡ q = omega (arith, z) in
    subst (λ n. Passes s t n r) same
    (subst (λ y. Passes s t p y) (same_Some x r e) (passes s t p x (and_parts (production_passes s t p x) (productions_pass s t (suc p) rs) h).0))
passes-at s t p (x ∷ rs) (suc i) q r h e z =
    passes-at s t (suc p) rs i q r (and_parts (production_passes s t p x) (productions_pass s t (suc p) rs) h).1 e (omega (arith, z))

pub all_pass : (s : Sets) (t : PlainTable) → is_ll1 s t ≡ true → AllPass s t
all_pass s t h p r e = passes-at s t 0 t.productions p p r (and_parts (productions_pass s t 0 t.productions) (witnesses_pass s t 0 s.ranks && (starts_pass s t.starts && nat_lt 0 t.width)) h).0 e (omega arith)

nil-parts : (xs ys : List ℕ) → xs ++ ys ≡ [] → (xs ≡ []) × (ys ≡ [])
nil-parts [] ys e = (refl, e)
nil-parts (x ∷ xs) ys e = cc

-- a forest with no leaf
pub vanish : (s : Sets) (t : PlainTable) → AllPass s t → (f : Forest) (ss : List Symbol) (after : List ℕ) → IsForest t.productions f ss after → yield f ≡ [] → all_vanish s ss ≡ true
vanish s t pass Done [] after h e = refl
vanish s t pass Done (x ∷ ss) after h e = absurd h
vanish s t pass (Leaf k f) [] after h e = absurd h
vanish s t pass (Leaf k f) (Token j ∷ ss) after h e = cc
vanish s t pass (Leaf k f) (Name a ∷ ss) after h e = absurd h
vanish s t pass (Node p c f) [] after h e = absurd h
vanish s t pass (Node p c f) (Token j ∷ ss) after h e = absurd h
vanish s t pass (Node p c f) (Name a ∷ ss) after h e =
    let n = nil-parts (yield c) (yield f) e in
    and_from (vanishes s a) (all_vanish s ss)
    (subst (λ b. vanishes s b ≡ true) h.2 ((pass p h.0 h.1).vanishing (vanish s t pass c h.0.body (yield f ++ after) h.4 n.0)))
    (vanish s t pass f ss after h.5 n.1)

-- what is ahead where the names of these symbols vanish
first-vanish : (s : Sets) (ss : List Symbol) (m k : ℕ) → all_vanish s ss ≡ true → bit_at m k ≡ 1 → bit_at (first_of s ss m) k ≡ 1
first-vanish s [] m k v h = h
first-vanish s (Token j ∷ ss) m k v h = cc
first-vanish s (Name a ∷ ss) m k v h =
    let both = and_parts (vanishes s a) (all_vanish s ss) v in
    has-or_right (slice_index s.first a) (cond (vanishes s a) (first_of s ss m) 0) k
    (subst (λ x. bit_at x k ≡ 1) (sym (cond-true (vanishes s a) (first_of s ss m) 0 both.0)) (first-vanish s ss m k both.1 h))

-- the first leaf
pub begin : (s : Sets) (t : PlainTable) → AllPass s t → (f : Forest) (ss : List Symbol) (after : List ℕ) (m k : ℕ) (ks : List ℕ) → IsForest t.productions f ss after → yield f ≡ k ∷ ks → bit_at (first_of s ss m) k ≡ 1
begin s t pass Done [] after m k ks h e = cc
begin s t pass Done (x ∷ ss) after m k ks h e = absurd h
begin s t pass (Leaf i f) [] after m k ks h e = absurd h
begin s t pass (Leaf i f) (Token j ∷ ss) after m k ks h e =
    let same : j ≡ k = h.0 ∙ (let z : i ≡ k = cc in z) in
    subst (λ x. bit_at (2 ^ x) k ≡ 1) (sym same) (bit_at-pow_same k)
begin s t pass (Leaf i f) (Name a ∷ ss) after m k ks h e = absurd h
begin s t pass (Node p c f) [] after m k ks h e = absurd h
begin s t pass (Node p c f) (Token j ∷ ss) after m k ks h e = absurd h
begin s t pass (Node p c f) (Name a ∷ ss) after m k ks h e =
    go (yield c) refl (λ xs z. begin s t pass c h.0.body (yield f ++ after) 0 k xs h.4 z) (λ z. begin s t pass f ss after m k ks h.5 z)
  where
    go : (ys : List ℕ) → yield c ≡ ys → ((xs : List ℕ) → yield c ≡ k ∷ xs → bit_at (first_of s h.0.body 0) k ≡ 1) → (yield f ≡ k ∷ ks → bit_at (first_of s ss m) k ≡ 1) → bit_at (bit_or (slice_index s.first a) (cond (vanishes s a) (first_of s ss m) 0)) k ≡ 1
    go [] z below beside =
        let gone : vanishes s a ≡ true = subst (λ b. vanishes s b ≡ true) h.2 ((pass p h.0 h.1).vanishing (vanish s t pass c h.0.body (yield f ++ after) h.4 z)) in
        let rest : yield f ≡ k ∷ ks = subst (λ ys. ys ++ yield f ≡ k ∷ ks) z e in
        has-or_right (slice_index s.first a) (cond (vanishes s a) (first_of s ss m) 0) k
        (subst (λ x. bit_at x k ≡ 1) (sym (cond-true (vanishes s a) (first_of s ss m) 0 gone)) (beside rest))
    go (y ∷ ys) z below beside =
        let here : y ∷ (ys ++ yield f) ≡ k ∷ ks = subst (λ ys. ys ++ yield f ≡ k ∷ ks) z e in
        let same : y ≡ k = cc in
        has-or_left (slice_index s.first a) (cond (vanishes s a) (first_of s ss m) 0) k
        (subst (λ b. bit_at (slice_index s.first b) k ≡ 1) h.2
        (has-within (first_of s h.0.body 0) (slice_index s.first h.0.head) k (pass p h.0 h.1).first
        (below ys (z ∙ ap (λ w. w ∷ ys) same))))

-- what is ahead of a forest
pub ahead-first : (s : Sets) (t : PlainTable) → AllPass s t → (f : Forest) (ss : List Symbol) (ts : List ℕ) (m : ℕ) → IsForest t.productions f ss ts → bit_at m (ahead ts) ≡ 1 → bit_at (first_of s ss m) (ahead (yield f ++ ts)) ≡ 1
ahead-first s t pass f ss ts m h b = go (yield f) refl
  where
    go : (ys : List ℕ) → yield f ≡ ys → bit_at (first_of s ss m) (ahead (ys ++ ts)) ≡ 1
    go [] z = first-vanish s ss m (ahead ts) (vanish s t pass f ss ts h z) b
    go (y ∷ ys) z = begin s t pass f ss ts m y ys h z

-- the rule of a node is the one that its entry names
pub chosen-rule : (s : Sets) (t : PlainTable) → AllPass s t → (p : ℕ) (r : Production) (a k : ℕ) → slice_get t.productions p ≡ Some r → r.head ≡ a → r.unless ≢ k → bit_at (first_of s r.body (slice_index s.follow a)) k ≡ 1 → chosen t a k ≡ Some (suc p, r.body)
chosen-rule s t pass p r a k e same free b =
    let c = covers-entry t.width 0 r.unless (first_of s r.body (slice_index s.follow r.head)) (drop (r.head * t.width) t.rows) (suc p) k (pass p r e).covered
    (subst (λ x. bit_at (first_of s r.body (slice_index s.follow x)) k ≡ 1) (sym same) b) (λ z. free (omega (arith, z))) in
    let at : entry t r.head k ≡ suc p =
    cond-true (nat_lt k t.width) (slice_index t.rows (r.head * t.width + k)) 0 (lt-ltb k t.width c.0) ∙ (sym (get_or-drop (r.head * t.width) t.rows k 0) ∙ c.1) in
    let here : entry t a k ≡ suc p = subst (λ x. entry t x k ≡ suc p) same at in
    let test : (nat_eq r.head a && not (nat_eq r.unless k)) ≡ true = and_from (nat_eq r.head a) (not (nat_eq r.unless k)) (eq-eqb r.head a same) (ap not (ne_eqb r.unless k free)) in
    ap (λ x. chosen_by t.productions x a k) here ∙ (ap (λ o. numbered (suc p) (usable o a k)) e ∙ ap (numbered (suc p)) (cond-true (nat_eq r.head a && not (nat_eq r.unless k)) (Some r) None test))
