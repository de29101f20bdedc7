-- Walks from each node in turn: what has a stamp, and which of it stands above itself.
use Rattle.std.proofs.Common.{◌≡◌, ◌≢◌, refl, ℕ, ◌+◌, ◌<◌, ◌≤◌, List, length, get_or, Option, Some, None, MatchOption, sym, ap, ◌∙◌, inl, inr, arith, subst}
use Rattle.std.proofs.lemmas.Bool.{cases_eq}
use Rattle.std.proofs.lemmas.Option.{none-some, same_Some}
use Rattle.jd_ancestry.specs.Ancestors.{Above, HasNoCycle}
use Rattle.jd_ancestry.specs.Walks.{AreClosed, EndsAtStamp, IsMarked, IsWalk, IsWithin, ancestor}
use Rattle.jd_ancestry.proofs.Ancestry.{closed_above, comes_back, higher, next_ancestor, round_on, stands_inside}

-- a walk that ended at a node with a stamp, or where there is no further one
module _ (parents : List (Option ℕ)) (old new : List ℕ) (start stamp count : ℕ) (positive : 0 < stamp) (walk : IsWalk parents old new start stamp count)
    (stopped : EndsAtStamp parents new start count) where
  pub had_none : (x : ℕ) → IsWithin parents start count x → get_or old x 0 ≡ 0
  had_none x within =
      let passed = walk.passed within.0 within.1 in
      ap (λ (i : ℕ). get_or old i 0) (same_Some x passed.0 (sym within.2 ∙ passed.1)) ∙ passed.3

  pub has_it : (x : ℕ) → IsWithin parents start count x → get_or new x 0 ≡ stamp
  has_it x within =
      let passed = walk.passed within.0 within.1 in
      ap (λ (i : ℕ). get_or new i 0) (same_Some x passed.0 (sym within.2 ∙ passed.1)) ∙ passed.4

  pub is_stamped : (x : ℕ) → IsWithin parents start count x → get_or new x 0 ≢ 0
  is_stamped x within none = let given = has_it x within in absurd (omega arith)

  pub stays_stamped : (x : ℕ) → get_or old x 0 ≢ 0 → get_or new x 0 ≢ 0
  stays_stamped x h none =
      elim (walk.others x) [
        | inl alike ↦ h (sym alike ∙ none)
        | inr within ↦ is_stamped x within none
      ]

  pub start_stamped : get_or new start 0 ≢ 0
  start_stamped =
      elim (cases_eq count 0) [
        | inl none ↦ stopped start (ap (λ (i : ℕ). ancestor parents i start) none)
        | inr some ↦ is_stamped start (0, omega arith, refl)
      ]

  pub closes : AreClosed parents old → AreClosed parents new
  closes closed a b e h =
      elim (walk.others b) [
        | inl alike ↦ stays_stamped a (closed a b e (λ none. h (alike ∙ none)))
        | inr within ↦
            let next : ancestor parents (within.0 + 1) start ≡ Some a = next_ancestor parents start within.0 b (Some a) within.2 e in
            elim (cases_eq (within.0 + 1) count) [
              | inl last ↦ stopped a (ap (λ (i : ℕ). ancestor parents i start) (sym last) ∙ next)
              | inr other ↦ is_stamped a (within.0 + 1, omega (arith, within.1), next)
            ]
      ]

  -- the end of a walk, where it is not on the walk itself
  pub end_was_stamped : (e : ℕ) → ancestor parents count start ≡ Some e → (IsWithin parents start count e → ⊥) → get_or old e 0 ≢ 0
  end_was_stamped e there outside none =
      elim (walk.others e) [
        | inl alike ↦ stopped e there (alike ∙ none)
        | inr within ↦ outside within
      ]

  pub begun_more : ((x : ℕ) → x < start → get_or old x 0 ≢ 0) → (x : ℕ) → x < start + 1 → get_or new x 0 ≢ 0
  begun_more begun x lt =
      elim (cases_eq x start) [
        | inl same ↦ subst (λ (i : ℕ). get_or new i 0 ≢ 0) (sym same) start_stamped
        | inr other ↦ stays_stamped x (begun x (omega arith))
      ]

-- one more walk
module _ (parents : List (Option ℕ)) (stamps stamps_after marks : List ℕ) (start count : ℕ) (marked : IsMarked parents stamps marks start)
    (walk : IsWalk parents stamps stamps_after start (start + 1) count)
    (stopped : EndsAtStamp parents stamps_after start count)
    (same_length : length stamps_after ≡ length stamps) where
  abbrev positive : 0 < start + 1
  positive = omega arith

  next_marked : (marks_after : List ℕ) → length marks_after ≡ length marks → AreClosed parents marks_after → ((x : ℕ) → get_or marks_after x 0 ≢ 0 → Above parents x x)
      → ((x : ℕ) → get_or marks x 0 ≢ 0 → get_or marks_after x 0 ≢ 0) → ((x : ℕ) → IsWithin parents start count x → Above parents x x → get_or marks_after x 0 ≢ 0)
      → IsMarked parents stamps_after marks_after (start + 1)
  next_marked marks_after marks_length closed sound stay fresh =
      record {
        stamps_length = same_length ∙ marked.stamps_length;
        marks_length = marks_length ∙ marked.marks_length;
        closed = closes parents stamps stamps_after start (start + 1) count positive walk stopped marked.closed;
        marks_closed = closed;
        begun = begun_more parents stamps stamps_after start (start + 1) count positive walk stopped marked.begun;
        earlier = λ x.
            elim (walk.others x) [
              | inl alike ↦ omega (arith, alike, marked.earlier x)
              | inr within ↦ omega (arith, has_it parents stamps stamps_after start (start + 1) count positive walk stopped x within)
            ];
        sound = sound;
        complete = λ x stamped round.
            elim (walk.others x) [
              | inl alike ↦ stay x (marked.complete x (λ none. stamped (alike ∙ none)) round)
              | inr within ↦ fresh x within round
            ];
      }

  -- the walk ended at a node that stands below none
  pub marked_to_top : ancestor parents count start ≡ None → IsMarked parents stamps_after marks (start + 1)
  marked_to_top top =
      next_marked marks refl marked.marks_closed marked.sound (λ x h. h)
      (λ x within round. let further = round_on parents start within.0 count x (omega (arith, within.1)) within.2 round in absurd (none-some further.0 (sym top ∙ further.1)))

  -- the walk ended at a node that an earlier walk had passed
  pub marked_to_known : (e : ℕ) → ancestor parents count start ≡ Some e → get_or stamps_after e 0 ≢ start + 1 → IsMarked parents stamps_after marks (start + 1)
  marked_to_known e there other =
      let known : get_or stamps e 0 ≢ 0 = end_was_stamped parents stamps stamps_after start (start + 1) count positive walk stopped e there
      (λ within. other (has_it parents stamps stamps_after start (start + 1) count positive walk stopped e within)) in
      next_marked marks refl marked.marks_closed marked.sound (λ x h. h)
      (λ x within round.
      let back = comes_back parents e x round (higher parents start within.0 count x e within.1 within.2 there) in
      absurd (closed_above parents stamps marked.closed x e back known (had_none parents stamps stamps_after start (start + 1) count positive walk stopped x within)))

  -- the walk came back to a node that it had passed, and another one marked its cycle
  pub marked_round : (e : ℕ) → ancestor parents count start ≡ Some e → get_or stamps_after e 0 ≡ start + 1 → (marks_after : List ℕ) (marks_count : ℕ) → length marks_after ≡ length marks
      → IsWalk parents marks marks_after e 1 marks_count → EndsAtStamp parents marks_after e marks_count → IsMarked parents stamps_after marks_after (start + 1)
  marked_round e there own marks_after marks_count marks_length second ended =
      let one : 0 < 1 = omega arith in
      let within : IsWithin parents start count e =
      elim (walk.others e) [
        | inl alike ↦ absurd (omega (arith, alike, own, marked.earlier e))
        | inr within ↦ within
      ] in
      let round : Above parents e e = higher parents start within.0 count e e within.1 within.2 there in
      let closed : AreClosed parents marks_after = closes parents marks marks_after e 1 marks_count one second ended marked.marks_closed in
      next_marked marks_after marks_length closed
      (λ x h.
      elim (second.others x) [
        | inl alike ↦ marked.sound x (λ none. h (alike ∙ none))
        | inr fresh ↦
            let further = round_on parents e 0 fresh.0 e (omega arith) refl round in
            subst (λ (i : ℕ). Above parents i i) (same_Some further.0 x (sym further.1 ∙ fresh.2)) further.2
      ])
      (stays_stamped parents marks marks_after e 1 marks_count one second ended)
      (λ x passed back.
      closed_above parents marks_after closed x e (comes_back parents e x back (higher parents start passed.0 count x e passed.1 passed.2 there))
      (start_stamped parents marks marks_after e 1 marks_count one second ended))

-- after all walks the first node with a mark is the first that stands above itself
pub first_is : (parents : List (Option ℕ)) (stamps marks read : List ℕ) (start : ℕ) → IsMarked parents stamps marks start → length parents ≤ start → read ≡ marks → (first : Option ℕ)
    → MatchOption first ((j : ℕ) → j < length read → get_or read j 0 ≡ 0) (λ i. (get_or read i 0 ≢ 0) × ((j : ℕ) → j < i → get_or read j 0 ≡ 0))
    → MatchOption first (HasNoCycle parents) (λ i. Above parents i i × ((j : ℕ) → j < i → Above parents j j → ⊥))
first_is parents stamps marks read start marked all same None h =
    λ a round.
    let inside : a < length parents = stands_inside parents a a round in
    let zero : get_or read a 0 ≡ 0 = h a (omega (arith, marked.marks_length, ap length same)) in
    marked.complete a (marked.begun a (omega arith)) round (ap (λ (l : List ℕ). get_or l a 0) (sym same) ∙ zero)
first_is parents stamps marks read start marked all same (Some i) h = (
  marked.sound i (λ none. h.0 (ap (λ (l : List ℕ). get_or l i 0) same ∙ none)),
  λ j lt round.
      let inside : j < length parents = stands_inside parents j j round in
      marked.complete j (marked.begun j (omega arith)) round (ap (λ (l : List ℕ). get_or l j 0) (sym same) ∙ h.1 j lt),
)
