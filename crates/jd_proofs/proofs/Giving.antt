-- How the trees come to the names, one proof after the other.
use Rattle.std.proofs.Common.{◌≡◌, ℕ, zero, suc, ◌+◌, ◌<◌, Bool, true, false, ◌||◌, cond, List, [], ◌∷◌, ◌++◌, length, map, get_or, take, drop, position, is_some, if◌then◌else◌, Option, Some, None, refl, sym, ap, ap₂, append_assoc, subst, ◌∙◌, bytes_eq, inl, inr, arith}
use Rattle.std.proofs.lemmas.Bool.{cases_Bool}
use Rattle.std.proofs.lemmas.Cmp.{nat_list_eq_equiv}
use Rattle.std.proofs.lemmas.List.{drop_more, map-append, take_more, take-append-drop}
use Rattle.std.proofs.lemmas.List.Elements.{Contains-append_right}
use Rattle.std.proofs.lemmas.List.Quantifiers.{position-Some}
use Rattle.std.proofs.lemmas.Slice.Eq.{bytes_eq-Decides}
use Rattle.std.proofs.Math.ListN.{set}
use Rattle.std.specs.Global.{Vec}
use Rattle.std.specs.List.{Contains, list_any}
use Rattle.indexmap.specs.IndexSet.{insert_key}
use Rattle.jd_sequent.specs.Trees.{ProofTree}
use Rattle.jd_scripts.specs.Scripts.{PlainProof, AreDistinct, names_of}
use Rattle.jd_proofs.specs.Outcomes.{UnknownObligation, tree_in, first_unknown, outcome_of}
use Rattle.jd_proofs.specs.Given.{outcome_with, names_view, with_tree}
use Rattle.jd_scripts.proofs.NewNames.{is_new, present}

-- the trees of these proofs, which are the first of all and all of names among these
pub record IsGiven (names : List (List ℕ)) (all done left : List PlainProof) (given : List (Option ProofTree)) : Type 0 where
  pub whole : all ≡ done ++ left
  pub trees : given ≡ map (tree_in done) names
  pub known : first_unknown names done ≡ None

-- ---- names that differ

neither : (a b : Bool) → (a || b) ≡ false → (a ≡ false) × (b ≡ false)
neither true b e = absurd cc
neither false b e = (refl, e)

split_at : (xs : List (List ℕ)) (k : ℕ) (x : List ℕ) → k < length xs → get_or xs k x ≡ x → xs ≡ take k xs ++ x ∷ drop (k + 1) xs
split_at xs k x lt e = sym (take-append-drop k xs) ∙ ap (λ r. take k xs ++ r) (drop_more xs k x lt ∙ ap (λ y. y ∷ drop (k + 1) xs) e)

-- none behind a name is the same
head_new : (n : List ℕ) (ns : List (List ℕ)) → AreDistinct (n ∷ ns) → list_any (bytes_eq n) ns ≡ false
head_new n ns h = elim (cases_Bool (list_any (bytes_eq n) ns)) [
  | inl found ↦ absurd (again (present ns n found))
  | inr new ↦ new
]
  where
    again : Contains ns n → ⊥
    again there =
        h (n ∷ take there.0 ns) (drop (there.0 + 1) ns) n (ap (λ xs. n ∷ xs) (split_at ns there.0 n there.1 there.2)) (0, omega arith, refl)

tail_distinct : (n : List ℕ) (ns : List (List ℕ)) → AreDistinct (n ∷ ns) → AreDistinct ns
tail_distinct n ns h front behind name e there = h (n ∷ front) behind name (ap (λ xs. n ∷ xs) e) (Contains-append_right (n ∷ []) front name there)

-- ---- the trees with one proof more

tree_other : (done : List PlainProof) (p : PlainProof) (n : List ℕ) → bytes_eq p.name n ≡ false → tree_in (done ++ p ∷ []) n ≡ tree_in done n
tree_other [] p n e = ap (λ t. cond t (Some p.tree) None) e
tree_other (q ∷ done) p n e = ap (λ r. cond (bytes_eq q.name n) (Some q.tree) r) (tree_other done p n e)

tree_last : (done : List PlainProof) (p : PlainProof) (n : List ℕ) → bytes_eq p.name n ≡ true → list_any (bytes_eq p.name) (names_of done) ≡ false
    → tree_in (done ++ p ∷ []) n ≡ Some p.tree
tree_last [] p n e new = ap (λ t. cond t (Some p.tree) None) e
tree_last (q ∷ done) p n e new =
    let differ = neither (bytes_eq p.name q.name) (list_any (bytes_eq p.name) (names_of done)) new in
    ap (λ t. cond t (Some q.tree) (tree_in (done ++ p ∷ []) n))
    (ap (bytes_eq q.name) (sym ((bytes_eq-Decides p.name n).0 e)) ∙ nat_list_eq_equiv.symm q.name p.name ∙ differ.0)
    ∙ tree_last done p n e differ.1

others : (done : List PlainProof) (p : PlainProof) (ns : List (List ℕ)) → list_any (bytes_eq p.name) ns ≡ false → map (tree_in (done ++ p ∷ [])) ns ≡ map (tree_in done) ns
others done p [] e = refl
others done p (n ∷ ns) e =
    let differ = neither (bytes_eq p.name n) (list_any (bytes_eq p.name) ns) e in ap₂ ◌∷◌ (tree_other done p n differ.0) (others done p ns differ.1)

one_more : (done : List PlainProof) (p : PlainProof) (ns : List (List ℕ)) → AreDistinct ns → list_any (bytes_eq p.name) (names_of done) ≡ false
    → with_tree ns p (map (tree_in done) ns) ≡ map (tree_in (done ++ p ∷ [])) ns
one_more done p [] h new = refl
one_more done p (n ∷ ns) h new = elim (cases_Bool (bytes_eq p.name n)) [
  | inl same ↦
      ap (λ t. cond t (Some p.tree ∷ map (tree_in done) ns) (tree_in done n ∷ with_tree ns p (map (tree_in done) ns))) same
      ∙ ap₂ ◌∷◌ (sym (tree_last done p n same new))
      (sym (others done p ns (subst (λ m. list_any (bytes_eq m) ns ≡ false) (sym ((bytes_eq-Decides p.name n).0 same)) (head_new n ns h))))
  | inr other ↦
      ap (λ t. cond t (Some p.tree ∷ map (tree_in done) ns) (tree_in done n ∷ with_tree ns p (map (tree_in done) ns))) other
      ∙ ap₂ ◌∷◌ (sym (tree_other done p n other)) (one_more done p ns (tail_distinct n ns h) new)
]

-- where a name is found, the tree is put
put_at : (p : PlainProof) (v : Vec ℕ) (ks : List (Vec ℕ)) (ts : List (Option ProofTree)) (i : ℕ) → i < length ks → bytes_eq p.name (get_or ks i v).items ≡ true
    → ((k : ℕ) → k < i → bytes_eq p.name (get_or ks k v).items ≡ false) → length ts ≡ length ks → set ts i (Some p.tree) ≡ with_tree (names_view ks) p ts
put_at p v [] ts i lt same before e = absurd (omega (arith, lt))
put_at p v (k ∷ ks) [] i lt same before e = absurd (omega (arith, e))
put_at p v (k ∷ ks) (t ∷ ts) zero lt same before e =
    ap (λ b. cond b (Some p.tree ∷ ts) (t ∷ with_tree (names_view ks) p ts)) (sym same)
put_at p v (k ∷ ks) (t ∷ ts) (suc i) lt same before e =
    ap (λ xs. t ∷ xs) (put_at p v ks ts i (omega (arith, lt)) same (λ j below. before (suc j) (omega (arith, below))) (omega (arith, e)))
    ∙ ap (λ b. cond b (Some p.tree ∷ ts) (t ∷ with_tree (names_view ks) p ts)) (sym (before 0 (omega arith)))

-- ---- proofs of no obligation

some_is_not_none : (name : List ℕ) → Some name ≡ None → ⊥
some_is_not_none name e = cc

behind_known : (names : List (List ℕ)) (done more : List PlainProof) → first_unknown names done ≡ None → first_unknown names (done ++ more) ≡ first_unknown names more
behind_known names [] more known = refl
behind_known names (q ∷ done) more known = elim (cases_Bool (list_any (bytes_eq q.name) names)) [
  | inl there ↦
      ap (λ t. cond t (first_unknown names (done ++ more)) (Some q.name)) there
      ∙ behind_known names done more (sym (ap (λ t. cond t (first_unknown names done) (Some q.name)) there) ∙ known)
  | inr none ↦ absurd (some_is_not_none q.name (sym (ap (λ t. cond t (first_unknown names done) (Some q.name)) none) ∙ known))
]

-- ---- one proof after the other

gives : (names : List (List ℕ)) (all done left : List PlainProof) (p : PlainProof) (old new : List (Option ProofTree)) → AreDistinct names → AreDistinct (names_of all)
    → IsGiven names all done (p ∷ left) old → new ≡ with_tree names p old → list_any (bytes_eq p.name) names ≡ true → IsGiven names all (done ++ p ∷ []) left new
gives names all done left p old new h differ given put there = record {
  whole = simp append_assoc given.whole;
  trees = put ∙ ap (with_tree names p) given.trees ∙ one_more done p names h (is_new (names_of done) (names_of left) p.name front);
  known = behind_known names done (p ∷ []) given.known ∙ ap (λ t. cond t None (Some p.name)) there;
}
  where
    front : AreDistinct (names_of done ++ p.name ∷ names_of left)
    front = subst AreDistinct (ap names_of given.whole ∙ map-append (λ (q : PlainProof). q.name) done (p ∷ left)) differ

stops : (names : List (List ℕ)) (all done left : List PlainProof) (p : PlainProof) (old : List (Option ProofTree)) → IsGiven names all done (p ∷ left) old
    → list_any (bytes_eq p.name) names ≡ false → outcome_with names all ≡ UnknownObligation p.name
stops names all done left p old given none =
    ap (outcome_of names all) (ap (first_unknown names) given.whole ∙ behind_known names done (p ∷ left) given.known ∙ ap (λ t. cond t (first_unknown names left) (Some p.name)) none)

-- the same of the code's proofs, over the names in a set
pub gives_next : {X : Type 0} (f : X → PlainProof) (names set : List (List ℕ)) (xs yielded rest next : List X) (x : X) (old new : List (Option ProofTree)) → AreDistinct names
    → AreDistinct (names_of (map f xs)) → set ≡ names → rest ≡ x ∷ next → IsGiven names (map f xs) (map f yielded) (map f rest) old → new ≡ with_tree set (f x) old
    → list_any (bytes_eq (f x).name) set ≡ true → IsGiven names (map f xs) (map f (yielded ++ x ∷ [])) (map f next) new
gives_next f names set xs yielded rest next x old new h differ same e given put there =
    subst (λ done. IsGiven names (map f xs) done (map f next) new) (sym (map-append f yielded (x ∷ [])))
    (gives names (map f xs) (map f yielded) (map f next) (f x) old new h differ
    (subst (λ (left : List PlainProof). IsGiven names (map f xs) (map f yielded) left old) (ap (map f) e) given)
    (put ∙ ap (λ ns. with_tree ns (f x) old) same) (ap (list_any (bytes_eq (f x).name)) (sym same) ∙ there))

pub stops_next : {X : Type 0} (f : X → PlainProof) (names set : List (List ℕ)) (xs yielded rest next : List X) (x : X) (old : List (Option ProofTree)) → set ≡ names → rest ≡ x ∷ next
    → IsGiven names (map f xs) (map f yielded) (map f rest) old → list_any (bytes_eq (f x).name) set ≡ false → outcome_with names (map f xs) ≡ UnknownObligation (f x).name
stops_next f names set xs yielded rest next x old same e given none =
    stops names (map f xs) (map f yielded) (map f next) (f x) old
    (subst (λ (left : List PlainProof). IsGiven names (map f xs) (map f yielded) left old) (ap (map f) e) given)
    (ap (list_any (bytes_eq (f x).name)) (sym same) ∙ none)

-- ---- where a name is found

names_any : (q : List ℕ) (ks : List (Vec ℕ)) → list_any (λ (k : Vec ℕ). bytes_eq q k.items) ks ≡ list_any (bytes_eq q) (names_view ks)
names_any q [] = refl
names_any q (k ∷ ks) = ap (λ b. bytes_eq q k.items || b) (names_any q ks)

pub put_found : (p : PlainProof) (v : Vec ℕ) (ks : List (Vec ℕ)) (ts : List (Option ProofTree)) (q : List ℕ) (r : Option ℕ) (i : ℕ) → q ≡ p.name
    → r ≡ position (λ (k : Vec ℕ). bytes_eq q k.items) ks → r ≡ Some i → length ts ≡ length ks → set ts i (Some p.tree) ≡ with_tree (names_view ks) p ts
put_found p v ks ts q r i named found is e =
    let at = position-Some (λ (k : Vec ℕ). bytes_eq p.name k.items) ks i v (ap (λ n. position (λ (k : Vec ℕ). bytes_eq n k.items) ks) (sym named) ∙ sym found ∙ is) in
    put_at p v ks ts i at.0 at.1 at.2 e

pub is_known : (name q : List ℕ) (ks : List (Vec ℕ)) (r : Option ℕ) (b : Bool) → q ≡ name → is_some r ≡ list_any (λ (k : Vec ℕ). bytes_eq q k.items) ks → is_some r ≡ b
    → list_any (bytes_eq name) (names_view ks) ≡ b
is_known name q ks r b named found is = ap (λ n. list_any (bytes_eq n) (names_view ks)) (sym named) ∙ sym (names_any q ks) ∙ sym found ∙ is

-- ---- names that are hashed

abbrev same_name : Vec ℕ → Vec ℕ → Bool
same_name a b = bytes_eq a.items b.items

pub one_more_name : (names : List (Vec ℕ)) (i : ℕ) (d copy : Vec ℕ) (old new : List (Vec ℕ)) → i < length names → d ≡ get_or names i d → copy.items ≡ d.items
    → AreDistinct (names_view names) → names_view old ≡ names_view (take i names) → new ≡ insert_key same_name old copy → names_view new ≡ names_view (take (i + 1) names)
one_more_name names i d copy old new lt here e h so_far made =
    ap names_view (made ∙ ap (λ b. if b then old else old ++ copy ∷ []) is_none)
    ∙ map-append (λ (n : Vec ℕ). n.items) old (copy ∷ [])
    ∙ ap₂ (λ (xs : List (List ℕ)) x. xs ++ x ∷ []) so_far e
    ∙ sym (map-append (λ (n : Vec ℕ). n.items) (take i names) (d ∷ []))
    ∙ ap names_view (ap (λ x. take i names ++ x ∷ []) here ∙ sym (take_more names i d lt))
  where
    parts : names_view names ≡ names_view (take i names) ++ d.items ∷ names_view (drop (i + 1) names)
    parts =
        ap names_view (sym (take-append-drop i names) ∙ ap (λ r. take i names ++ r) (drop_more names i d lt ∙ ap (λ x. x ∷ drop (i + 1) names) (sym here)))
        ∙ map-append (λ (n : Vec ℕ). n.items) (take i names) (d ∷ drop (i + 1) names)

    is_none : list_any (same_name copy) old ≡ false
    is_none =
        names_any copy.items old
        ∙ ap₂ (λ n xs. list_any (bytes_eq n) xs) e so_far
        ∙ is_new (names_view (take i names)) (names_view (drop (i + 1) names)) d.items (subst AreDistinct parts h)
