-- Depths, written along walks that do not come round.
use Rattle.std.proofs.Common.{◌≡◌, ◌≢◌, refl, ℕ, ◌+◌, ◌<◌, ◌≤◌, ◌==◌, List, length, get_or, set, Option, Some, None, MatchOption, IfSome, sym, ap, ◌∙◌, inl, inr, arith, subst}
use Rattle.std.proofs.lemmas.Bool.{cases_eq}
use Rattle.std.proofs.lemmas.List.{get_or-set_other}
use Rattle.std.proofs.lemmas.List.Sums.{count_by-le-length}
use Rattle.std.proofs.lemmas.Grind.{get_or-set_at}
use Rattle.std.proofs.lemmas.Option.{none-some, same_Some, slice_get-get_or, slice_get_within}
use Rattle.std.specs.List.{slice_get}
use Rattle.std.specs.Option.{unwrap_or}
use Rattle.jd_ancestry.specs.Ancestors.{AreNodes, HasNoCycle}
use Rattle.jd_ancestry.specs.Depths.{IsDepths}
use Rattle.jd_ancestry.specs.Walks.{EndsAtStamp, IsFilled, IsNumbered, IsWalk, IsWithin, ancestor, unstamped}
use Rattle.jd_ancestry.proofs.Ancestry.{higher, next_ancestor}
use Rattle.jd_ancestry.proofs.Marks.{begun_more, closes, end_was_stamped, had_none}

-- one more node has its depth
pub one_more_number : (parents : List (Option ℕ)) (old depths : List ℕ) (start step end node depth : ℕ) → HasNoCycle parents → length depths ≡ length parents → node < length parents
    → ancestor parents step start ≡ Some node → depth + step + 1 ≡ end → IsNumbered parents old depths start step end → IsNumbered parents old (set depths node depth) start (step + 1) end
one_more_number parents old depths start step end node depth acyclic same inside there total before =
    record {
      numbered = λ k x lt e.
          elim (cases_eq k step) [
            | inl last ↦
                let here : x ≡ node = same_Some x node (sym e ∙ ap (λ (i : ℕ). ancestor parents i start) last ∙ there) in
                omega (arith, get_or-set_at depths node x depth 0 here (omega arith))
            | inr other ↦
                let elsewhere : x ≢ node = λ here. acyclic node (higher parents start k step node node (omega arith) (e ∙ ap Some here) there) in
                omega (arith, get_or-set_other depths node x depth 0 elsewhere, before.numbered k x (omega arith) e)
          ];
      others = λ x.
          elim (cases_eq x node) [
            | inl here ↦ inr (step, omega arith, there ∙ ap Some (sym here))
            | inr elsewhere ↦
                elim (before.others x) [
                  | inl alike ↦ inl (get_or-set_other depths node x depth 0 elsewhere ∙ alike)
                  | inr within ↦ inr (within.0, omega (arith, within.1), within.2)
                ]
          ];
    }

-- the depths of a walk stay below the number of nodes
pub room : (end : Option ℕ) (depths : List ℕ) (lowest free nodes : ℕ) → MatchOption end (lowest ≡ 0) (λ e. lowest ≡ get_or depths e 0 + 1) → ((e : ℕ) → end ≡ Some e → get_or depths e 0 + free < nodes) → free ≤ nodes → lowest + free ≤ nodes
room None depths lowest free nodes is few le = omega arith
room (Some e) depths lowest free nodes is few le = omega (arith, is, few e refl)

pub depth_at : (end found : Option ℕ) (depths : List ℕ) (lowest e : ℕ) → MatchOption end (lowest ≡ 0) (λ x. lowest ≡ get_or depths x 0 + 1) → end ≡ found → found ≡ Some e → lowest ≡ get_or depths e 0 + 1
depth_at None found depths lowest e is p q = absurd (none-some e (p ∙ q))
depth_at (Some x) found depths lowest e is p q = is ∙ ap (λ (i : ℕ). get_or depths i 0 + 1) (same_Some x e (p ∙ q))

pub depth_on_top : (end found : Option ℕ) (depths : List ℕ) (lowest : ℕ) → MatchOption end (lowest ≡ 0) (λ x. lowest ≡ get_or depths x 0 + 1) → end ≡ found → found ≡ None → lowest ≡ 0
depth_on_top None found depths lowest is p q = is
depth_on_top (Some x) found depths lowest is p q = absurd (none-some x (sym (p ∙ q)))

-- one more walk
module _ (parents : List (Option ℕ)) (stamps stamps_after depths : List ℕ) (start count : ℕ) (acyclic : HasNoCycle parents) (filled : IsFilled parents stamps depths start)
    (walk : IsWalk parents stamps stamps_after start 1 count)
    (stopped : EndsAtStamp parents stamps_after start count) where
  abbrev positive : 0 < 1
  positive = omega arith

  -- what the walk ended at was passed before, since no walk comes round
  pub end_known : (e : ℕ) → ancestor parents count start ≡ Some e → get_or stamps e 0 ≢ 0
  end_known e there =
      end_was_stamped parents stamps stamps_after start 1 count positive walk stopped e there
      (λ within. acyclic e (higher parents start within.0 count e e within.1 within.2 there))

  pub few_at_end : (end : Option ℕ) → end ≡ ancestor parents count start → (e : ℕ) → end ≡ Some e → get_or depths e 0 + unstamped stamps < length parents
  few_at_end end is e there = filled.few e (end_known e (sym is ∙ there))

  pub fits : (end : Option ℕ) (lowest : ℕ) → end ≡ ancestor parents count start → MatchOption end (lowest ≡ 0) (λ e. lowest ≡ get_or depths e 0 + 1) → lowest + unstamped stamps ≤ length parents
  fits end lowest is found =
      room end depths lowest (unstamped stamps) (length parents) found (few_at_end end is)
      (omega (arith, count_by-le-length (λ (s : ℕ). s == 0) stamps, filled.stamps_length))

  module _ (depths_after : List ℕ) (end : Option ℕ) (lowest : ℕ) (is : end ≡ ancestor parents count start) (found : MatchOption end (lowest ≡ 0) (λ e. lowest ≡ get_or depths e 0 + 1))
      (numbers : IsNumbered parents depths depths_after start count (lowest + count)) where
    -- a node that had a stamp keeps its depth
    kept : (x : ℕ) → get_or stamps x 0 ≢ 0 → get_or depths_after x 0 ≡ get_or depths x 0
    kept x known =
        elim (numbers.others x) [
          | inl alike ↦ alike
          | inr within ↦ absurd (known (had_none parents stamps stamps_after start 1 count positive walk stopped x within))
        ]

    on_top_within : (b : ℕ) → IsWithin parents start count b → slice_get parents b ≡ Some None → get_or depths_after b 0 ≡ 0
    on_top_within b within e =
        let next : ancestor parents (within.0 + 1) start ≡ None = next_ancestor parents start within.0 b None within.2 e in
        let number = numbers.numbered within.0 b within.1 within.2 in
        elim (cases_eq (within.0 + 1) count) [
          | inl last ↦ omega (arith, number, depth_on_top end (ancestor parents count start) depths lowest found is (ap (λ (i : ℕ). ancestor parents i start) (sym last) ∙ next))
          | inr other ↦
              let passed = walk.passed (within.0 + 1) (omega (arith, within.1)) in
              absurd (none-some passed.0 (sym next ∙ passed.1))
        ]

    below_within : (a b : ℕ) → IsWithin parents start count b → slice_get parents b ≡ Some (Some a) → get_or depths_after b 0 ≡ 1 + get_or depths_after a 0
    below_within a b within e =
        let next : ancestor parents (within.0 + 1) start ≡ Some a = next_ancestor parents start within.0 b (Some a) within.2 e in
        let number = numbers.numbered within.0 b within.1 within.2 in
        elim (cases_eq (within.0 + 1) count) [
          | inl last ↦
              let there : ancestor parents count start ≡ Some a = ap (λ (i : ℕ). ancestor parents i start) (sym last) ∙ next in
              omega (arith, number, depth_at end (ancestor parents count start) depths lowest a found is there, kept a (end_known a there))
          | inr other ↦ omega (arith, number, numbers.numbered (within.0 + 1) a (omega (arith, within.1)) next)
        ]

    pub next_filled : length stamps_after ≡ length stamps → length depths_after ≡ length depths → IsFilled parents stamps_after depths_after (start + 1)
    next_filled stamps_length depths_length =
        let space : lowest + unstamped stamps ≤ length parents = fits end lowest is found in
        record {
          stamps_length = stamps_length ∙ filled.stamps_length;
          depths_length = depths_length ∙ filled.depths_length;
          closed = closes parents stamps stamps_after start 1 count positive walk stopped filled.closed;
          begun = begun_more parents stamps stamps_after start 1 count positive walk stopped filled.begun;
          on_top = λ b h e.
              elim (walk.others b) [
                | inl alike ↦ let known : get_or stamps b 0 ≢ 0 = λ none. h (alike ∙ none) in kept b known ∙ filled.on_top b known e
                | inr within ↦ on_top_within b within e
              ];
          below = λ a b h e.
              elim (walk.others b) [
                | inl alike ↦
                    let known : get_or stamps b 0 ≢ 0 = λ none. h (alike ∙ none) in
                    omega (arith, kept b known, filled.below a b known e, kept a (filled.closed a b e known))
                | inr within ↦ below_within a b within e
              ];
          few = λ x h.
              elim (walk.others x) [
                | inl alike ↦
                    let known : get_or stamps x 0 ≢ 0 = λ none. h (alike ∙ none) in
                    omega (arith, kept x known, filled.few x known, walk.counted)
                | inr within ↦ omega (arith, numbers.numbered within.0 x within.1 within.2, walk.counted, space)
              ];
        }

pub all_filled : (parents : List (Option ℕ)) (stamps depths : List ℕ) (start : ℕ) → IsFilled parents stamps depths start → length parents ≤ start → IsDepths parents depths
all_filled parents stamps depths start filled all =
    record {
      count = filled.depths_length;
      on_top = λ b e. filled.on_top b (filled.begun b (omega (arith, slice_get_within parents b None e))) e;
      below = λ a b e. filled.below a b (filled.begun b (omega (arith, slice_get_within parents b (Some a) e))) e;
    }

-- the next node of a walk, and where there is none the same once more
next_node : (parents : List (Option ℕ)) (start step count node next : ℕ) (parent : Option ℕ) → AreNodes parents → node < length parents → slice_get parents node ≡ Some parent → next ≡ unwrap_or parent node
    → (step + 1 < count → (x : ℕ) × (ancestor parents (step + 1) start ≡ Some x)) → ancestor parents step start ≡ Some node → (step + 1 < count → ancestor parents (step + 1) start ≡ Some next) × (next < length parents)
next_node parents start step count node next None nodes inside e is reached there =
    (λ lt. let further = reached lt in absurd (none-some further.0 (sym (next_ancestor parents start step node None there e) ∙ further.1)), omega arith)
next_node parents start step count node next (Some a) nodes inside e is reached there =
    (λ lt. next_ancestor parents start step node (Some a) there e ∙ ap Some (sym is), subst (λ (x : ℕ). x < length parents) (sym is) (nodes a node e))

pub goes_on : (parents : List (Option ℕ)) (start step count node next : ℕ) (d : Option ℕ) → AreNodes parents → node < length parents → next ≡ unwrap_or (get_or parents node d) node
    → (step + 1 < count → (x : ℕ) × (ancestor parents (step + 1) start ≡ Some x)) → ancestor parents step start ≡ Some node → (step + 1 < count → ancestor parents (step + 1) start ≡ Some next) × (next < length parents)
goes_on parents start step count node next d nodes inside = next_node parents start step count node next (get_or parents node d) nodes inside (slice_get-get_or parents node d inside)

pub small_at_end : (end : Option ℕ) (depths : List ℕ) (free nodes limit : ℕ) → ((e : ℕ) → end ≡ Some e → get_or depths e 0 + free < nodes) → nodes ≤ limit → IfSome end (λ e. get_or depths e 0 < limit)
small_at_end None depths free nodes limit few le = tt
small_at_end (Some e) depths free nodes limit few le = omega (arith, few e refl)
