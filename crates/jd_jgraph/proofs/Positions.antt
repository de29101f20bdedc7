-- Where names stand in lists.
use Rattle.std.proofs.Common.{◌≡◌, ℕ, suc, ◌+◌, ◌<◌, Bool, true, false, cond, List, [], ◌∷◌, length, map, get_or, Option, Some, None, refl, sym, ap, ◌∙◌, inl, inr, arith, bytes_eq, length-append}
use Rattle.std.specs.List.{position_from, slice_get}
use Rattle.std.proofs.lemmas.List.{get_or_past, length-map}
use Rattle.std.proofs.lemmas.Bool.{cases_lt}
use Rattle.std.proofs.lemmas.Option.{none-some, same_Some, slice_get-get_or}
use Rattle.std.proofs.lemmas.Slice.Eq.{bytes_eq-Decides}
use Rattle.jd_syntax.specs.JavaTrees.{JavaUnit}
use Rattle.jd_jclasses.specs.Classes.{class_names, declared_classes, parents, prelude}
use Rattle.jd_jseen.proofs.Nodes.{length_parents}

-- the place of a name that is found
record IsPlace (names : List (List ℕ)) (name : List ℕ) (i k : ℕ) : Type 0 where
  j : ℕ
  behind : k ≡ i + j
  below : j < length names
  is : get_or names j [] ≡ name

place_of : (names : List (List ℕ)) (name : List ℕ) (i k : ℕ) → position_from (λ t. bytes_eq t name) i names ≡ Some k → IsPlace names name i k
place_of [] name i k h = absurd (none-some k h)
place_of (x ∷ xs) name i k h = by (bytes_eq x name) refl (place_of xs name (i + 1) k) h
  where
    by : (b : Bool) → bytes_eq x name ≡ b → (position_from (λ t. bytes_eq t name) (i + 1) xs ≡ Some k → IsPlace xs name (i + 1) k)
        → cond b (Some i) (position_from (λ t. bytes_eq t name) (i + 1) xs) ≡ Some k → IsPlace (x ∷ xs) name i k
    by true e behind at = record { j = 0; behind = omega (arith, same_Some i k at); below = omega arith; is = (bytes_eq-Decides x name).0 e }
    by false e behind at =
        let p = behind at in
        record { j = suc p.j; behind = omega (arith, p.behind); below = omega (arith, p.below); is = p.is }

pub name_at : (names : List (List ℕ)) (name : List ℕ) (k : ℕ) → position_from (λ t. bytes_eq t name) 0 names ≡ Some k → (k < length names) × (get_or names k [] ≡ name)
name_at names name k h =
    let p = place_of names name 0 k h in
    let same : k ≡ p.j = omega (arith, p.behind) in
    (omega (arith, same, p.below), ap (λ (n : ℕ). get_or names n []) same ∙ p.is)

pub same_name : (names : List (List ℕ)) (s t : List ℕ) (k : ℕ) → position_from (λ x. bytes_eq x s) 0 names ≡ Some k → position_from (λ x. bytes_eq x t) 0 names ≡ Some k → s ≡ t
same_name names s t k a b = sym (name_at names s k a).1 ∙ (name_at names t k b).1

-- a class that has a name has a parent, or none
pub as_many_parents : (units : List JavaUnit) → length (class_names units) ≡ length (parents units)
as_many_parents units =
    length-append (map (λ p. p.0) prelude) (map (λ d. d.tree.name.name) (declared_classes units))
    ∙ ap (λ (n : ℕ). 10 + n) (length-map (declared_classes units) (λ d. d.tree.name.name))
    ∙ sym (length_parents units)

pub parent_at : (parents : List (Option ℕ)) (class p : ℕ) → get_or parents class None ≡ Some p → slice_get parents class ≡ Some (Some p)
parent_at parents class p h =
    elim (cases_lt class (length parents)) [
      | inl lt ↦ slice_get-get_or parents class None lt ∙ ap Some h
      | inr past ↦ absurd (none-some p (sym (get_or_past parents class None past) ∙ h))
    ]
