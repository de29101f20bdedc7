-- What the parser's steps do to what is to come.
use Rattle.std.proofs.Common.{◌≡◌, ◌≢◌, ℕ, zero, suc, ◌^◌, Bool, true, false, not, ◌&&◌, cond, nat_eq, nat_lt, List, [], ◌∷◌, ◌++◌, length, Option, Some, None, refl, sym, ap, subst, ◌∙◌, append_assoc, eqb-true}
use Rattle.std.specs.Int.{bit_at}
use Rattle.std.specs.Prelude.{slice_index, bit_or}
use Rattle.std.specs.List.{slice_get}
use Rattle.std.proofs.lemmas.Bool.{and_parts, and_from, eqb-false, not-true, ltb-true}
use Rattle.std.proofs.lemmas.List.{append-nil}
use Rattle.std.proofs.lemmas.Option.{none-some, same_Some}
use Rattle.jd_grammar.specs.declared.table.Symbol.{Symbol}
use Rattle.jd_grammar.specs.declared.table.Symbol.TheVariants.{Token, Name}
use Rattle.jd_grammar.specs.Grammars.{Production, Forest, Done, Leaf, Node, yield, preorder, ahead, IsForest, Spells}
use Rattle.jd_grammar.specs.Tables.{PlainTable, entry, usable, numbered, chosen_by, chosen}
use Rattle.jd_grammar.specs.Tests.{Sets, within, vanishes, first_of, is_followed, are_known, productions_pass, witnesses_pass, starts_pass, is_start, is_ll1}
use Rattle.jd_grammar.specs.Moves.{Leads, NoName}
use Rattle.jd_grammar.specs.Readings.{Begins}
use Rattle.jd_grammar.proofs.Masks.{has-within, within-or, within-all, within-trans}
use Rattle.jd_grammar.proofs.Sets.{AllPass, all_pass, ahead-first, chosen-rule}
use Rattle.jd_grammar.proofs.Forests.{split, join}
use Rattle.jd_grammar.proofs.Witnesses.{all_witnessed, trees_of}
use Rattle.jd_grammar.proofs.Orders.{start_passes}

-- ---- the production that is chosen

pub record IsChoice (t : PlainTable) (a k q : ℕ) (body : List Symbol) : Type 0 where
  pub number : ℕ
  pub production : Production
  pub is : q ≡ suc number
  pub found : slice_get t.productions number ≡ Some production
  pub head : production.head ≡ a
  pub free : production.unless ≢ k
  pub stands : production.body ≡ body

choice-if : (t : PlainTable) (p a k q : ℕ) (body : List Symbol) (r : Production) (b : Bool) → slice_get t.productions p ≡ Some r → (nat_eq r.head a && not (nat_eq r.unless k)) ≡ b → numbered (suc p) (cond b (Some r) None) ≡ Some (q, body) → IsChoice t a k q body
choice-if t p a k q body r true e z h =
    let both = and_parts (nat_eq r.head a) (not (nat_eq r.unless k)) z in
    let same : (suc p, r.body) ≡ (q, body) = same_Some (suc p, r.body) (q, body) h in
    record {
      number = p;
      production = r;
      is = sym (ap (λ x. x.0) same);
      found = e;
      head = eqb-true r.head a both.0;
      free = eqb-false r.unless k (not-true (nat_eq r.unless k) both.1);
      stands = ap (λ x. x.1) same;
    }
choice-if t p a k q body r false e z h = absurd (none-some (q, body) h)

choice-at : (t : PlainTable) (p a k q : ℕ) (body : List Symbol) (o : Option Production) → slice_get t.productions p ≡ o → numbered (suc p) (usable o a k) ≡ Some (q, body) → IsChoice t a k q body
choice-at t p a k q body None e h = absurd (none-some (q, body) h)
choice-at t p a k q body (Some r) e h = choice-if t p a k q body r (nat_eq r.head a && not (nat_eq r.unless k)) e refl h

choice-by : (t : PlainTable) (e a k q : ℕ) (body : List Symbol) → chosen_by t.productions e a k ≡ Some (q, body) → IsChoice t a k q body
choice-by t zero a k q body h = absurd (none-some (q, body) h)
choice-by t (suc p) a k q body h = choice-at t p a k q body (slice_get t.productions p) refl h

pub choice : (t : PlainTable) (a k q : ℕ) (body : List Symbol) → chosen t a k ≡ Some (q, body) → IsChoice t a k q body
choice t a k q body h = choice-by t (entry t a k) a k q body h

-- ---- what may follow, where a body takes the place of its name

first-append : (s : Sets) (xs ss : List Symbol) (m : ℕ) → first_of s (xs ++ ss) m ≡ first_of s xs (first_of s ss m)
first-append s [] ss m = refl
first-append s (Token j ∷ xs) ss m = refl
first-append s (Name a ∷ xs) ss m = ap (λ x. bit_or (slice_index s.first a) (cond (vanishes s a) x 0)) (first-append s xs ss m)

first-more : (s : Sets) (xs : List Symbol) (m n : ℕ) → within m n ≡ true → within (first_of s xs m) (first_of s xs n) ≡ true
first-more s [] m n h = h
first-more s (Token j ∷ xs) m n h = within-all (2 ^ j)
first-more s (Name a ∷ xs) m n h = go (vanishes s a) (first-more s xs m n h)
  where
    go : (b : Bool) → within (first_of s xs m) (first_of s xs n) ≡ true → within (bit_or (slice_index s.first a) (cond b (first_of s xs m) 0)) (bit_or (slice_index s.first a) (cond b (first_of s xs n) 0)) ≡ true
    go true i = within-or (slice_index s.first a) (first_of s xs m) (first_of s xs n) i
    go false i = within-or (slice_index s.first a) 0 0 (within-all 0)

followed-append : (s : Sets) (xs ss : List Symbol) (m n : ℕ) → is_followed s xs n ≡ true → within (first_of s ss m) n ≡ true → is_followed s ss m ≡ true → is_followed s (xs ++ ss) m ≡ true
followed-append s [] ss m n f w g = g
followed-append s (Token j ∷ xs) ss m n f w g = followed-append s xs ss m n f w g
followed-append s (Name a ∷ xs) ss m n f w g =
    let both = and_parts (within (first_of s xs n) (slice_index s.follow a)) (is_followed s xs n) f in
    and_from (within (first_of s (xs ++ ss) m) (slice_index s.follow a)) (is_followed s (xs ++ ss) m)
    (within-trans (first_of s (xs ++ ss) m) (first_of s xs n) (slice_index s.follow a)
    (subst (λ x. within x (first_of s xs n) ≡ true) (sym (first-append s xs ss m)) (first-more s xs (first_of s ss m) n w)) both.0)
    (followed-append s xs ss m n both.1 w g)

known-append : (width n : ℕ) (xs ss : List Symbol) → are_known width n xs ≡ true → are_known width n ss ≡ true → are_known width n (xs ++ ss) ≡ true
known-append width n [] ss h g = g
known-append width n (Token j ∷ xs) ss h g =
    let both = and_parts (nat_lt j width) (are_known width n xs) h in
    and_from (nat_lt j width) (are_known width n (xs ++ ss)) both.0 (known-append width n xs ss both.1 g)
known-append width n (Name a ∷ xs) ss h g =
    let both = and_parts (nat_lt a n) (are_known width n xs) h in
    and_from (nat_lt a n) (are_known width n (xs ++ ss)) both.0 (known-append width n xs ss both.1 g)

-- ---- a name

-- the tree of a name that is to come is by the production that is chosen
record Unfolds (t : PlainTable) (f : Forest) (q : ℕ) (body ss : List Symbol) : Type 0 where
  pub parts : Forest
  pub stand : IsForest t.productions parts (body ++ ss) []
  pub same_yield : yield parts ≡ yield f
  pub same_order : q ∷ preorder parts ≡ preorder f

unfolds : (s : Sets) (t : PlainTable) → AllPass s t → (f : Forest) (a k mask q : ℕ) (body ss : List Symbol) → IsForest t.productions f (Name a ∷ ss) [] → ahead (yield f) ≡ k → is_followed s (Name a ∷ ss) mask ≡ true → bit_at mask 0 ≡ 1 → chosen t a k ≡ Some (q, body) → Unfolds t f q body ss
unfolds s t pass Done a k mask q body ss i w fo b ch = absurd i
unfolds s t pass (Leaf j f) a k mask q body ss i w fo b ch = absurd i
unfolds s t pass (Node p c f) a k mask q body ss i w fo b ch =
    let both = and_parts (within (first_of s ss mask) (slice_index s.follow a)) (is_followed s ss mask) fo in
    let behind = has-within (first_of s ss mask) (slice_index s.follow a) (ahead (yield f ++ [])) both.0 (ahead-first s t pass f ss [] mask i.5 b) in
    let here : ahead (yield c ++ (yield f ++ [])) ≡ k = ap (λ ys. ahead (yield c ++ ys)) (append-nil (yield f)) ∙ w in
    let by = chosen-rule s t pass p i.0 a (ahead (yield c ++ (yield f ++ []))) i.1 i.2 i.3 (ahead-first s t pass c i.0.body (yield f ++ []) (slice_index s.follow a) i.4 behind) in
    let chose : (suc p, i.0.body) ≡ (q, body) = same_Some _ _ (sym by ∙ (ap (λ x. chosen t a x) here ∙ ch)) in
    let r = join t.productions c f i.0.body ss [] i.4 i.5 in
    record {
      parts = r.0;
      stand = subst (λ x. IsForest t.productions r.0 (x ++ ss) []) (ap (λ x. x.1) chose) r.1;
      same_yield = r.2;
      same_order = ap (λ x. x ∷ preorder r.0) (sym (ap (λ x. x.0) chose)) ∙ ap (λ ys. suc p ∷ ys) r.3;
    }

-- a body takes the place of its name
pub used : (s : Sets) (t : PlainTable) (start k : ℕ) (done out : List ℕ) (a q : ℕ) (body ss : List Symbol) → is_ll1 s t ≡ true → chosen t a k ≡ Some (q, body) → Leads s t start (Some k) done out (Name a ∷ ss) → Leads s t start (Some k) done (out ++ q ∷ []) (body ++ ss)
used s t start k done out a q body ss passed ch l =
    let pass = all_pass s t passed in
    let by = choice t a k q body ch in
    let both = and_parts (within (first_of s ss (slice_index s.follow start)) (slice_index s.follow a)) (is_followed s ss (slice_index s.follow start)) l.followed in
    let inside : is_followed s body (slice_index s.follow a) ≡ true =
    subst (λ x. is_followed s x (slice_index s.follow a) ≡ true) by.stands (subst (λ x. is_followed s by.production.body (slice_index s.follow x) ≡ true) by.head (pass by.number by.production by.found).follow) in
    record {
      sound = λ f i w.
          let r = split t.productions f body ss [] i in
          let whole : yield r.0 ++ yield r.1 ≡ yield f = sym r.4 in
          let here : ahead (yield r.0 ++ (yield r.1 ++ [])) ≡ k = ap (λ ys. ahead (yield r.0 ++ ys)) (append-nil (yield r.1)) ∙ (ap ahead whole ∙ w) in
          let node = l.sound (Node by.number r.0 r.1) (by.production, by.found, by.head, λ z. by.free (z ∙ here), subst (λ x. IsForest t.productions r.0 x (yield r.1 ++ [])) (sym by.stands) r.2, r.3) (ap ahead whole ∙ w) in
          let order : out ++ (suc by.number ∷ preorder r.0 ++ preorder r.1) ≡ (out ++ q ∷ []) ++ preorder f =
          ap (λ x. out ++ (x ∷ preorder r.0 ++ preorder r.1)) (sym by.is) ∙ (ap (λ ys. out ++ (q ∷ ys)) (sym r.5) ∙ sym (append_assoc out (q ∷ []) (preorder f))) in
          subst (λ x. Spells t.productions start (done ++ yield f) x) order (subst (λ ys. Spells t.productions start (done ++ ys) (out ++ (suc by.number ∷ preorder r.0 ++ preorder r.1))) whole node);
      complete = λ rest order w h.
          let o = l.complete rest order w h in
          let u = unfolds s t pass o.0 a k (slice_index s.follow start) q body ss o.1 (ap ahead o.2 ∙ w) l.followed l.ended ch in
          (u.parts, u.stand, u.same_yield ∙ o.2, append_assoc out (q ∷ []) (preorder u.parts) ∙ (ap (λ ys. out ++ ys) u.same_order ∙ o.3));
      followed = followed-append s body ss (slice_index s.follow start) (slice_index s.follow a) inside both.0 both.1;
      known = known-append t.width (length s.ranks) body ss (subst (λ x. are_known t.width (length s.ranks) x ≡ true) by.stands (pass by.number by.production by.found).known) (and_parts (nat_lt a (length s.ranks)) (are_known t.width (length s.ranks) ss) l.known).1;
      ended = l.ended;
    }

-- where none is chosen, no tree goes on
pub stopped : (s : Sets) (t : PlainTable) (start k : ℕ) (done out : List ℕ) (a : ℕ) (ss : List Symbol) → is_ll1 s t ≡ true → chosen t a k ≡ None → Leads s t start (Some k) done out (Name a ∷ ss) → (rest order : List ℕ) → ahead rest ≡ k → Spells t.productions start (done ++ rest) order → ⊥
stopped s t start k done out a ss passed no_choice l rest order w h = let o = l.complete rest order w h in go o.0 o.1 (ap ahead o.2 ∙ w)
  where
    go : (f : Forest) → IsForest t.productions f (Name a ∷ ss) [] → ahead (yield f) ≡ k → ⊥
    go Done i e = i
    go (Leaf j f) i e = i
    go (Node p c f) i e =
        let both = and_parts (within (first_of s ss (slice_index s.follow start)) (slice_index s.follow a)) (is_followed s ss (slice_index s.follow start)) l.followed in
        let behind = has-within (first_of s ss (slice_index s.follow start)) (slice_index s.follow a) (ahead (yield f ++ [])) both.0 (ahead-first s t (all_pass s t passed) f ss [] (slice_index s.follow start) i.5 l.ended) in
        let here : ahead (yield c ++ (yield f ++ [])) ≡ k = ap (λ ys. ahead (yield c ++ ys)) (append-nil (yield f)) ∙ e in
        let by = chosen-rule s t (all_pass s t passed) p i.0 a (ahead (yield c ++ (yield f ++ []))) i.1 i.2 i.3 (ahead-first s t (all_pass s t passed) c i.0.body (yield f ++ []) (slice_index s.follow a) i.4 behind) in
        none-some (suc p, i.0.body) (sym no_choice ∙ (ap (λ x. chosen t a x) (sym here) ∙ by))

-- ---- a token

leaf-parts : (g : List Production) (k : ℕ) (ss : List Symbol) (f : Forest) (rest : List ℕ) → IsForest g f (Token k ∷ ss) [] → yield f ≡ k ∷ rest → (h : Forest) × IsForest g h ss [] × (yield h ≡ rest) × (0 ∷ preorder h ≡ preorder f)
leaf-parts g k ss Done rest i e = absurd i
leaf-parts g k ss (Leaf j f) rest i e = (f, i.1, cc, refl)
leaf-parts g k ss (Node p c f) rest i e = absurd i

-- a token that is to come is taken
pub taken : (s : Sets) (t : PlainTable) (start k : ℕ) (done out : List ℕ) (ss : List Symbol) → Leads s t start (Some k) done out (Token k ∷ ss) → Leads s t start None (done ++ k ∷ []) (out ++ 0 ∷ []) ss
taken s t start k done out ss l = record {
  sound = λ f i w.
      subst (λ x. Spells t.productions start x ((out ++ 0 ∷ []) ++ preorder f)) (sym (append_assoc done (k ∷ []) (yield f)))
      (subst (λ x. Spells t.productions start (done ++ (k ∷ yield f)) x) (sym (append_assoc out (0 ∷ []) (preorder f))) (l.sound (Leaf k f) (refl, i) refl));
  complete = λ rest order w h.
      let o = l.complete (k ∷ rest) order refl (subst (λ x. Spells t.productions start x order) (append_assoc done (k ∷ []) rest) h) in
      let r = leaf-parts t.productions k ss o.0 rest o.1 o.2 in
      (r.0, r.1, r.2, append_assoc out (0 ∷ []) (preorder r.0) ∙ (ap (λ ys. out ++ ys) r.3 ∙ o.3));
  followed = l.followed;
  known = (and_parts (nat_lt k t.width) (are_known t.width (length s.ranks) ss) l.known).1;
  ended = l.ended;
}

other-leaf : (g : List Production) (k : ℕ) (ss : List Symbol) (f : Forest) (rest : List ℕ) → NoName (slice_get ss 0) → ((xs : List Symbol) → ss ≡ Token k ∷ xs → ⊥) → IsForest g f ss [] → yield f ≡ k ∷ rest → ⊥
other-leaf g k [] Done rest n u i e = let z : ⊥ = cc in z
other-leaf g k [] (Leaf j f) rest n u i e = i
other-leaf g k [] (Node p c f) rest n u i e = i
other-leaf g k (Token j ∷ ss) Done rest n u i e = i
other-leaf g k (Token j ∷ ss) (Leaf m f) rest n u i e = let same : m ≡ k = cc in u ss (ap (λ x. Token x ∷ ss) (i.0 ∙ same))
other-leaf g k (Token j ∷ ss) (Node p c f) rest n u i e = i
other-leaf g k (Name a ∷ ss) f rest n u i e = n

-- where another symbol is to come, or none, no tree goes on with the token
pub refused : (s : Sets) (t : PlainTable) (start k : ℕ) (done out : List ℕ) (ss : List Symbol) → NoName (slice_get ss 0) → ((xs : List Symbol) → ss ≡ Token k ∷ xs → ⊥) → Leads s t start (Some k) done out ss → (rest order : List ℕ) → slice_get rest 0 ≡ Some k → Spells t.productions start (done ++ rest) order → ⊥
refused s t start k done out ss n u l [] order w h = none-some k w
refused s t start k done out ss n u l (j ∷ rest) order w h =
    let same : j ≡ k = same_Some j k w in
    let o = l.complete (j ∷ rest) order same h in
    other-leaf t.productions k ss o.0 rest n u o.1 (o.2 ∙ ap (λ x. x ∷ rest) same)

-- ---- the end

pub ends : (s : Sets) (t : PlainTable) (start : ℕ) (done out : List ℕ) → Leads s t start (Some 0) done out [] → Spells t.productions start done out
ends s t start done out l =
    subst (λ x. Spells t.productions start x out) (append-nil done) (subst (λ x. Spells t.productions start (done ++ []) x) (append-nil out) (l.sound Done tt refl))

no-leaf : (g : List Production) (ss : List Symbol) (f : Forest) → NoName (slice_get ss 0) → (ss ≡ [] → ⊥) → IsForest g f ss [] → yield f ≡ [] → ⊥
no-leaf g [] f n u i e = u refl
no-leaf g (Token j ∷ ss) Done n u i e = i
no-leaf g (Token j ∷ ss) (Leaf m f) n u i e = let z : ⊥ = cc in z
no-leaf g (Token j ∷ ss) (Node p c f) n u i e = i
no-leaf g (Name a ∷ ss) f n u i e = n

pub goes_on : (s : Sets) (t : PlainTable) (start : ℕ) (done out : List ℕ) (ss : List Symbol) → NoName (slice_get ss 0) → (ss ≡ [] → ⊥) → Leads s t start (Some 0) done out ss → (order : List ℕ) → Spells t.productions start done order → ⊥
goes_on s t start done out ss n u l order h =
    let o = l.complete [] order refl (subst (λ x. Spells t.productions start x order) (sym (append-nil done)) h) in
    no-leaf t.productions ss o.0 n u o.1 o.2

-- ---- the state as a whole

pub narrowed : (s : Sets) (t : PlainTable) (start k : ℕ) (done out : List ℕ) (ss : List Symbol) → Leads s t start None done out ss → Leads s t start (Some k) done out ss
narrowed s t start k done out ss l =
    record { sound = λ f i w. l.sound f i tt; complete = λ rest order w h. l.complete rest order tt h; followed = l.followed; known = l.known; ended = l.ended }

pub begun : (s : Sets) (t : PlainTable) (start : ℕ) → is_ll1 s t ≡ true → is_start t start ≡ true → Leads s t start None [] [] (Name start ∷ [])
begun s t start passed st =
    let at = start_passes s t start passed st in
    record {
      sound = λ f i w. (f, i, refl, refl);
      complete = λ rest order w h. (h.0, h.1, h.2, h.3);
      followed = at.followed;
      known = and_from (nat_lt start (length s.ranks)) true at.known refl;
      ended = at.ended;
    }

-- what was read begins a tree
pub begins : (s : Sets) (t : PlainTable) (start : ℕ) (done out : List ℕ) (ss : List Symbol) → is_ll1 s t ≡ true → Leads s t start None done out ss → Begins t.productions start done
begins s t start done out ss passed l =
    let h1 = and_parts (productions_pass s t 0 t.productions) _ passed in
    let h2 = and_parts (witnesses_pass s t 0 s.ranks) _ h1.1 in
    let h3 = and_parts (starts_pass s t.starts) _ h2.1 in
    let f = trees_of s t (all_pass s t passed) (all_witnessed s t passed) (ltb-true 0 t.width h3.1) ss l.known in
    (yield f.0, out ++ preorder f.0, l.sound f.0 f.1 tt)
