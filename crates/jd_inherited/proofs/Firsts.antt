-- The least of the indices in a list that have a property, as it is found one by one.
use Rattle.std.proofs.Common.{◌≡◌, ℕ, ◌+◌, ◌<◌, ◌≤◌, List, Option, Some, None, MatchOption, min, length, sym, ap, subst, inl, inr, arith}
use Rattle.std.proofs.lemmas.Bool.{cases_eq, cases_lt}
use Rattle.jd_inherited.specs.declared.items.Item.{Item}
use Rattle.jd_inherited.specs.Disagreements.{Disagrees, IsFirst, NoneDisagrees}
use Rattle.jd_inherited.specs.Orders.{IsOrder, lesser_of}
use Rattle.jd_inherited.proofs.ItemFacts.{inside}
use Rattle.jd_inherited.proofs.Orders.{in_order, index_at}

module _ (P : ℕ → Type 0) (at : ℕ → ℕ) where
  abbrev pub IsLeast : ℕ → Option ℕ → Type 0
  IsLeast count None = (q : ℕ) → q < count → P (at q) → ⊥
  IsLeast count (Some first) = P first × ((q : ℕ) → q < count → P (at q) → first ≤ at q)

  pub none_yet : IsLeast 0 None
  none_yet q lt p = absurd (omega arith)

  pub passed_over : (count : ℕ) (first : Option ℕ) → (P (at count) → ⊥) → IsLeast count first → IsLeast (count + 1) first
  passed_over count None not h = λ q lt p.
      elim (cases_eq q count) [
        | inl last ↦ not (subst (λ k. P (at k)) last p)
        | inr earlier ↦ h q (omega arith) p
      ]
  passed_over count (Some first) not h = (
    h.0,
    λ q lt p.
        elim (cases_eq q count) [
          | inl last ↦ absurd (not (subst (λ k. P (at k)) last p))
          | inr earlier ↦ h.1 q (omega arith) p
        ],
  )

  pub taken : (count : ℕ) (first : Option ℕ) → P (at count) → IsLeast count first → IsLeast (count + 1) (Some (lesser_of first (at count)))
  taken count None has h = (
    has,
    λ q lt p.
        elim (cases_eq q count) [
          | inl last ↦ let e : at q ≡ at count = ap at last in omega (arith, e)
          | inr earlier ↦ absurd (h q (omega arith) p)
        ],
  )
  taken count (Some first) has h = (
    one_of_both,
    λ q lt p.
        elim (cases_eq q count) [
          | inl last ↦ let e : at q ≡ at count = ap at last in omega (arith, e)
          | inr earlier ↦ let le = h.1 q (omega arith) p in omega (arith, le)
        ],
  )
    where
      one_of_both : P (min first (at count))
      one_of_both =
          elim (cases_lt first (at count)) [
            | inl less ↦ let e : first ≡ min first (at count) = omega arith in subst P e h.0
            | inr more ↦ let e : at count ≡ min first (at count) = omega arith in subst P e has
          ]

module _ (parents : List (Option ℕ)) (items : List Item) (order : List (ℕ × ℕ)) (all : IsOrder (length items) order) where
  stands_in : (i : ℕ) → Disagrees parents items i → (q : ℕ) × ((q < length order) × (index_at order q ≡ i))
  stands_in i d = in_order order (length items) i all (inside items i d.x d.stands)

  pub all_seen : (count : ℕ) (first : Option ℕ) → count ≡ length order → IsLeast (Disagrees parents items) (index_at order) count first
      → MatchOption first (NoneDisagrees parents items) (λ i. IsFirst parents items i)
  all_seen count None e h = λ i d.
      let found = stands_in i d in
      h found.0 (omega (arith, found.1.0, e)) (subst (Disagrees parents items) (sym found.1.1) d)
  all_seen count (Some first) e h = record {
    disagrees = h.0;
    none_before = λ j lt d.
        let found = stands_in j d in
        let le = h.1 found.0 (omega (arith, found.1.0, e)) (subst (Disagrees parents items) (sym found.1.1) d) in
        absurd (omega (arith, le, found.1.1));
  }
