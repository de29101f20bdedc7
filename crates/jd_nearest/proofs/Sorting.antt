-- Nodes are put into the order of their depths.
use Rattle.std.proofs.Common.{◌≡◌, refl, ℕ, ◌+◌, ◌<◌, ◌≤◌, List, [], ◌∷◌, ◌++◌, length, get_or, IsPermutation, sym, ap, subst, ◌∙◌, inl, inr, arith}
use Rattle.std.proofs.lemmas.Bool.{cases_eq}
use Rattle.std.proofs.lemmas.List.{get_or_append_left, get_or_push, length-append}
use Rattle.std.proofs.lemmas.List.Sorted.{All-permutation, Contains-permutation}
use Rattle.std.specs.List.Sorted.{IsNonDecreasingBy}
use Rattle.jd_nearest.specs.Orders.{AreNodesAndDepths, IsByDepth}

-- so many nodes from the first on, each behind its depth, where each stands at its number
pub record AreListed (depths : List ℕ) (order : List (ℕ × ℕ)) (done : ℕ) : Type 0 where
  pub count : length order ≡ done
  pub each : (n : ℕ) (d : ℕ × ℕ) → n < done → get_or order n d ≡ (get_or depths n 0, n)

pub none_listed : (depths : List ℕ) (order : List (ℕ × ℕ)) → order ≡ [] → AreListed depths order 0
none_listed depths order e = record {
  count = ap length e;
  each = λ n d lt. absurd (omega arith);
}

pub one_more_listed : (depths : List ℕ) (order : List (ℕ × ℕ)) (n depth : ℕ) → depth ≡ get_or depths n 0 → AreListed depths order n → AreListed depths (order ++ (depth, n) ∷ []) (n + 1)
one_more_listed depths order n depth e before = record {
  count = length-append order ((depth, n) ∷ []) ∙ ap (λ l. l + 1) before.count;
  each = λ m d lt.
      elim (cases_eq m n) [
        | inl last ↦
            get_or_push order (depth, n) d m (before.count ∙ sym last)
            ∙ (let pair : ◌≡◌ {A = ℕ × ℕ} (depth, n) (get_or depths m 0, m) = ap (λ (x : ℕ). (x, n)) (e ∙ ap (λ (i : ℕ). get_or depths i 0) (sym last)) ∙ ap (λ (i : ℕ). (get_or depths m 0, i)) (sym last) in pair)
        | inr earlier ↦ get_or_append_left order ((depth, n) ∷ []) d m (omega (arith, before.count)) ∙ before.each m d (omega arith)
      ];
}

pub sorted_by_depth : (depths : List ℕ) (order sorted : List (ℕ × ℕ)) (count : ℕ) → AreListed depths order count → length depths ≤ count → count ≤ length depths → IsPermutation order sorted
    → IsNonDecreasingBy (λ p. p.0) sorted → IsByDepth depths sorted
sorted_by_depth depths order sorted count listed all few same rising = record {
  nodes = All-permutation (λ (p : ℕ × ℕ). (p.1 < length depths) × (p.0 ≡ get_or depths p.1 0)) order sorted same pairs;
  complete = λ n lt. Contains-permutation order sorted (get_or depths n 0, n) same (n, omega (arith, listed.count), listed.each n (get_or depths n 0, n) (omega arith));
  rising = rising;
}
  where
    pairs : AreNodesAndDepths depths order
    pairs k d lt =
        let here : get_or order k d ≡ (get_or depths k 0, k) = listed.each k d (omega (arith, listed.count)) in
        subst (λ (p : ℕ × ℕ). (p.1 < length depths) × (p.0 ≡ get_or depths p.1 0)) (sym here) (omega (arith, listed.count), refl)
