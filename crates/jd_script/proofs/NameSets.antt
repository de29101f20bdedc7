-- Names that are hashed, and those of the proofs.
use Rattle.std.proofs.Common.{◌≡◌, ℕ, Bool, true, false, ◌||◌, if◌then◌else◌, List, [], ◌∷◌, ◌++◌, map, refl, sym, ap, ◌∙◌, bytes_eq, inl, inr}
use Rattle.std.proofs.lemmas.Bool.{or_cases}
use Rattle.std.proofs.lemmas.List.{map-append}
use Rattle.std.proofs.lemmas.List.Folds.{list_any-append}
use Rattle.std.proofs.lemmas.Slice.Eq.{bytes_eq-Decides}
use Rattle.std.specs.List.{list_any}
use Rattle.std.specs.Global.{Vec}
use Rattle.indexmap.specs.IndexSet.{insert_key}
use Rattle.jd_script.specs.ProofViews.{AreNames}

abbrev bytes : Vec ℕ → List ℕ
bytes v = v.items

abbrev same_name : Vec ℕ → Vec ℕ → Bool
same_name a b = bytes_eq a.items b.items

any_of : (name : List ℕ) (ks : List (Vec ℕ)) → list_any (λ k. bytes_eq name k.items) ks ≡ list_any (bytes_eq name) (map bytes ks)
any_of name [] = refl
any_of name (k ∷ ks) = ap (λ b. bytes_eq name k.items || b) (any_of name ks)

pub is_among : (name : List ℕ) (ks : List (Vec ℕ)) (names : List (List ℕ)) → AreNames (map bytes ks) names → list_any (λ k. bytes_eq name k.items) ks ≡ list_any (bytes_eq name) names
is_among name ks names h = any_of name ks ∙ h name

absorbed : (a b : Bool) → (b ≡ true → a ≡ true) → a ≡ (a || b)
absorbed true b h = refl
absorbed false true h = h refl
absorbed false false h = refl

inserted : (t : Bool) (name : List ℕ) (copy : Vec ℕ) (old : List (Vec ℕ)) (q : List ℕ) → copy.items ≡ name → list_any (bytes_eq name) (map bytes old) ≡ t
    → list_any (bytes_eq q) (map bytes (if t then old else old ++ copy ∷ [])) ≡ list_any (bytes_eq q) (map bytes old ++ name ∷ [])
inserted false name copy old q e is = ap (list_any (bytes_eq q)) (map-append bytes old (copy ∷ []) ∙ ap (λ n. map bytes old ++ n ∷ []) e)
inserted true name copy old q e is =
    absorbed (list_any (bytes_eq q) (map bytes old)) (list_any (bytes_eq q) (name ∷ [])) (λ h. ap (λ n. list_any (bytes_eq n) (map bytes old)) (same q name h) ∙ is)
    ∙ sym (list_any-append (bytes_eq q) (map bytes old) (name ∷ []))
  where
    same : (q name : List ℕ) → list_any (bytes_eq q) (name ∷ []) ≡ true → q ≡ name
    same q name h = elim (or_cases (bytes_eq q name) false h) [
      | inl found ↦ (bytes_eq-Decides q name).0 found
      | inr none ↦ absurd cc
    ]

-- one name more
pub one_more_name : (name : List ℕ) (copy : Vec ℕ) (old new : List (Vec ℕ)) (names : List (List ℕ)) → copy.items ≡ name → new ≡ insert_key same_name old copy
    → AreNames (map bytes old) names → AreNames (map bytes new) (names ++ name ∷ [])
one_more_name name copy old new names e made h q =
    ap (λ ks. list_any (bytes_eq q) (map bytes ks)) made
    ∙ (inserted (list_any (same_name copy) old) name copy old q e (sym (any_of name old) ∙ ap (λ n. list_any (λ k. bytes_eq n k.items) old) (sym e))
    ∙ (list_any-append (bytes_eq q) (map bytes old) (name ∷ [])
    ∙ (ap (λ b. b || list_any (bytes_eq q) (name ∷ [])) (h q)
    ∙ sym (list_any-append (bytes_eq q) names (name ∷ [])))))

-- and of the proofs
pub names_more : {X : Type 0} (f : X → List ℕ) (old new : List X) (x : X) (set : List (List ℕ)) → new ≡ old ++ x ∷ [] → AreNames set (map f old ++ f x ∷ []) → AreNames set (map f new)
names_more f old new x set e h q = h q ∙ ap (list_any (bytes_eq q)) (sym (ap (map f) e ∙ map-append f old (x ∷ [])))
