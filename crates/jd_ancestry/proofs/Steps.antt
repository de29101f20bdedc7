-- A walk, one step after another.
use Rattle.std.proofs.Common.{◌≡◌, ◌≢◌, ℕ, ◌+◌, ◌<◌, ◌==◌, List, length, get_or, set, Option, Some, None, sym, ap, ◌∙◌, inl, inr, arith, cond}
use Rattle.std.proofs.lemmas.Bool.{cases_eq, cond-true, cond-false, eq-eqb, ne_eqb}
use Rattle.std.proofs.lemmas.List.{get_or-set_same, get_or-set_other}
use Rattle.std.proofs.lemmas.List.Sums.{sum_by-set}
use Rattle.std.proofs.lemmas.Grind.{get_or-set_at}
use Rattle.std.proofs.lemmas.Option.{none-some, same_Some}
use Rattle.jd_ancestry.specs.Walks.{EndsAtStamp, IsWalk, ancestor, unstamped}

-- a node that gets a stamp
pub fewer_unstamped : (stamps : List ℕ) (node stamp : ℕ) → node < length stamps → get_or stamps node 0 ≡ 0 → 0 < stamp → unstamped (set stamps node stamp) + 1 ≡ unstamped stamps
fewer_unstamped stamps node stamp lt e positive =
    let changed = sum_by-set (λ (s : ℕ). cond (s == 0) 1 0) stamps node stamp 0 lt in
    let before : ◌≡◌ {A = ℕ} (cond (get_or stamps node 0 == 0) 1 0) 1 = cond-true _ 1 0 (eq-eqb (get_or stamps node 0) 0 e) in
    let after : ◌≡◌ {A = ℕ} (cond (stamp == 0) 1 0) 0 = cond-false _ 1 0 (ne_eqb stamp 0 (λ none. absurd (omega arith))) in
    omega (arith, changed, before, after)

module _ (parents : List (Option ℕ)) (old : List ℕ) (start stamp : ℕ) where
  pub one_more_step : (stamps : List ℕ) (count node : ℕ) → length stamps ≡ length parents → node < length parents → 0 < stamp → get_or stamps node 0 ≡ 0
      → ancestor parents count start ≡ Some node → IsWalk parents old stamps start stamp count → IsWalk parents old (set stamps node stamp) start stamp (count + 1)
  one_more_step stamps count node same inside positive free there walk =
      let new : List ℕ = set stamps node stamp in
      record {
        counted = omega (arith, fewer_unstamped stamps node stamp (omega arith) free positive, walk.counted);
        passed = λ k lt.
            elim (cases_eq k count) [
              | inl last ↦ (node, ap (λ (i : ℕ). ancestor parents i start) last ∙ there, inside, was_free, get_or-set_same stamps node stamp 0 (omega arith))
              | inr other ↦
                  let before = walk.passed k (omega arith) in
                  (before.0, before.1, before.2, before.3, kept before.0 before.4)
            ];
        others = λ x.
            elim (cases_eq x node) [
              | inl here ↦ inr (count, omega arith, there ∙ ap Some (sym here))
              | inr elsewhere ↦
                  elim (walk.others x) [
                    | inl alike ↦ inl (get_or-set_other stamps node x stamp 0 elsewhere ∙ alike)
                    | inr within ↦ inr (within.0, omega (arith, within.1), within.2)
                  ]
            ];
      }
    where
      was_free : get_or old node 0 ≡ 0
      was_free =
          elim (walk.others node) [
            | inl alike ↦ sym alike ∙ free
            | inr within ↦
                let before = walk.passed within.0 within.1 in
                let here : before.0 ≡ node = same_Some before.0 node (sym before.1 ∙ within.2) in
                let stamped : get_or stamps node 0 ≡ stamp = ap (λ (i : ℕ). get_or stamps i 0) (sym here) ∙ before.4 in
                absurd (omega (arith, stamped, free, positive))
          ]

      kept : (x : ℕ) → get_or stamps x 0 ≡ stamp → get_or (set stamps node stamp) x 0 ≡ stamp
      kept x h =
          elim (cases_eq x node) [
            | inl here ↦ get_or-set_at stamps node x stamp 0 here (omega arith)
            | inr elsewhere ↦ get_or-set_other stamps node x stamp 0 elsewhere ∙ h
          ]

-- the walk stops at a node with a stamp
pub stops_there : (parents : List (Option ℕ)) (stamps : List ℕ) (start count node : ℕ) → ancestor parents count start ≡ Some node → get_or stamps node 0 ≢ 0 → EndsAtStamp parents stamps start count
stops_there parents stamps start count node there stamped e found none = stamped (ap (λ (i : ℕ). get_or stamps i 0) (same_Some node e (sym there ∙ found)) ∙ none)

-- the walk stops where there is no further node
pub stops_at_top : (parents : List (Option ℕ)) (stamps : List ℕ) (start count : ℕ) → ancestor parents count start ≡ None → EndsAtStamp parents stamps start count
stops_at_top parents stamps start count top e found = absurd (none-some e (sym top ∙ found))
