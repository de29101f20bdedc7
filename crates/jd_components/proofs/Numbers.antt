-- One more label gets its number.
use Rattle.std.proofs.Common.{◌≡◌, ◌≢◌, refl, ℕ, ◌+◌, ◌<◌, ◌≤◌, List, [], ◌∷◌, ◌++◌, length, get_or, slice_set, replicate, max, Option, Some, None, sym, ap, subst, ◌∙◌, inl, inr, arith}
use Rattle.std.proofs.lemmas.Bool.{cases_eq, cases_lt}
use Rattle.std.proofs.lemmas.List.{get_or_append_left, get_or_push, get_or_past, get_or_default, get_or-replicate, get_or-set_other, length-append, length-replicate, length-set, set-get_or}
use Rattle.std.proofs.lemmas.Grind.{get_or-set_at}
use Rattle.std.proofs.lemmas.Option.{none-some, same_Some}
use Rattle.std.specs.Option.{unwrap_or}
use Rattle.jd_components.specs.Numberings.{AreInside, AreNumbered, IsNew, IsNumbering}

nothing_given : (n label : ℕ) (none : Option ℕ) → get_or (replicate n none) label none ≡ none
nothing_given n label none =
    elim (cases_lt label n) [
      | inl inside ↦ get_or-replicate n label none none inside
      | inr past ↦ get_or_past (replicate n none) label none (omega (arith, length-replicate n none))
    ]

-- what is read at a label
pub read_given : (given : List (Option ℕ)) (label : ℕ) (o : Option ℕ) → label < length given → o ≡ get_or given label o → get_or given label None ≡ o
read_given given label o lt e = get_or_default given label None o lt ∙ sym e

pub none_numbered : (labels : List ℕ) (given : List (Option ℕ)) (numbers : List ℕ) → given ≡ replicate (length labels) None → numbers ≡ [] → IsNumbering labels given numbers 0 0
none_numbered labels given numbers e f = record {
  room = ap length e ∙ length-replicate (length labels) None;
  each = ap length f;
  few = omega arith;
  has = λ i lt. absurd (omega arith);
  from = λ label n h. absurd (none-some n (sym (none label) ∙ h));
  lower = λ label n h. absurd (none-some n (sym (none label) ∙ h));
  one = λ label other n h g. absurd (none-some n (sym (none label) ∙ h));
  reached = λ n lt. absurd (omega arith);
  ordered = λ i j lt within new. absurd (omega arith);
}
  where
    none : (label : ℕ) → get_or given label None ≡ None
    none label = ap (λ (l : List (Option ℕ)). get_or l label None) e ∙ nothing_given (length labels) label None

module _ (labels : List ℕ) (given : List (Option ℕ)) (numbers : List ℕ) (count done : ℕ) (before : IsNumbering labels given numbers count done) where
  kept : (f i : ℕ) → i < done → get_or (numbers ++ f ∷ []) i 0 ≡ get_or numbers i 0
  kept f i lt = get_or_append_left numbers (f ∷ []) 0 i (omega (arith, before.each))

  added : (f i : ℕ) → i ≡ done → get_or (numbers ++ f ∷ []) i 0 ≡ f
  added f i e = get_or_push numbers f 0 i (before.each ∙ sym e)

  longer : (f : ℕ) → length (numbers ++ f ∷ []) ≡ done + 1
  longer f = length-append numbers (f ∷ []) ∙ ap (λ l. l + 1) before.each

  -- the order of the earlier numbers stays
  still_ordered : (f i j : ℕ) → i < j → j < done → IsNew labels j → get_or (numbers ++ f ∷ []) i 0 < get_or (numbers ++ f ∷ []) j 0
  still_ordered f i j lt within new = omega (arith, kept f i (omega arith), kept f j within, before.ordered i j lt within new)

  -- a label that has a number
  known : (f : ℕ) → get_or given (get_or labels done 0) None ≡ Some f → IsNumbering labels given (numbers ++ f ∷ []) count (done + 1)
  known f there = record {
    room = before.room;
    each = longer f;
    few = omega (arith, before.few);
    has = λ i lt.
        elim (cases_eq i done) [
          | inl last ↦ ap (λ (k : ℕ). get_or given (get_or labels k 0) None) last ∙ there ∙ ap Some (sym (added f i last))
          | inr earlier ↦ before.has i (omega arith) ∙ ap Some (sym (kept f i (omega arith)))
        ];
    from = λ label n h. let b = before.from label n h in (b.0, omega (arith, b.1), b.2);
    lower = before.lower;
    one = before.one;
    reached = λ n lt. let b = before.reached n lt in (b.0, omega (arith, b.1), kept f b.0 b.1 ∙ b.2);
    ordered = λ i j lt within new.
        elim (cases_eq j done) [
          | inl last ↦
              let b = before.from (get_or labels done 0) f there in
              absurd (new b.0 (omega (arith, b.1)) (b.2 ∙ ap (λ (k : ℕ). get_or labels k 0) (sym last)))
          | inr earlier ↦ still_ordered f i j lt (omega arith) new
        ];
  }

  -- a label that has none gets the next
  new_one : AreInside labels → done < length labels → get_or given (get_or labels done 0) None ≡ None
      → IsNumbering labels (slice_set given (get_or labels done 0) (Some count)) (numbers ++ count ∷ []) (count + 1) (done + 1)
  new_one inside within free = record {
    room = length-set given label (Some count) ∙ before.room;
    each = longer count;
    few = omega (arith, before.few);
    has = λ i lt.
        elim (cases_eq i done) [
          | inl last ↦ here (get_or labels i 0) (ap (λ (k : ℕ). get_or labels k 0) last) ∙ ap Some (sym (added count i last))
          | inr earlier ↦
              let was = before.has i (omega arith) in
              elsewhere (get_or labels i 0) (λ same. none-some (get_or numbers i 0) (sym free ∙ ap (λ (l : ℕ). get_or given l None) (sym same) ∙ was)) ∙ was
              ∙ ap Some (sym (kept count i (omega arith)))
        ];
    from = λ l n h.
        elim (cases_eq l label) [
          | inl same ↦ (done, omega arith, sym same)
          | inr other ↦ let b = before.from l n (sym (elsewhere l other) ∙ h) in (b.0, omega (arith, b.1), b.2)
        ];
    lower = λ l n h.
        elim (cases_eq l label) [
          | inl same ↦ omega (arith, is_count l n same h)
          | inr other ↦ omega (arith, before.lower l n (sym (elsewhere l other) ∙ h))
        ];
    one = λ l m n h g.
        elim (cases_eq l label) [
          | inl same ↦ elim (cases_eq m label) [
            | inl too ↦ same ∙ sym too
            | inr other ↦ absurd (omega (arith, is_count l n same h, before.lower m n (sym (elsewhere m other) ∙ g)))
          ]
          | inr other ↦ elim (cases_eq m label) [
            | inl too ↦ absurd (omega (arith, is_count m n too g, before.lower l n (sym (elsewhere l other) ∙ h)))
            | inr neither ↦ before.one l m n (sym (elsewhere l other) ∙ h) (sym (elsewhere m neither) ∙ g)
          ]
        ];
    reached = λ n lt.
        elim (cases_eq n count) [
          | inl last ↦ (done, omega arith, added count done refl ∙ sym last)
          | inr earlier ↦ let b = before.reached n (omega arith) in (b.0, omega (arith, b.1), kept count b.0 b.1 ∙ b.2)
        ];
    ordered = λ i j lt inside new.
        elim (cases_eq j done) [
          | inl last ↦ omega (arith, added count j last, kept count i (omega arith), before.lower (get_or labels i 0) (get_or numbers i 0) (before.has i (omega arith)))
          | inr earlier ↦ still_ordered count i j lt (omega arith) new
        ];
  }
    where
      label : ℕ
      label = get_or labels done 0

      here : (l : ℕ) → l ≡ label → get_or (slice_set given label (Some count)) l None ≡ Some count
      here l same = get_or-set_at given label l (Some count) None same (omega (arith, inside done within, before.room))

      elsewhere : (l : ℕ) → l ≢ label → get_or (slice_set given label (Some count)) l None ≡ get_or given l None
      elsewhere l other = get_or-set_other given label l (Some count) None other

      is_count : (l n : ℕ) → l ≡ label → get_or (slice_set given label (Some count)) l None ≡ Some n → n ≡ count
      is_count l n same h = same_Some n count (sym h ∙ here l same)

  pub number_fits : (o : Option ℕ) (number : ℕ) → get_or given (get_or labels done 0) None ≡ o → number ≡ unwrap_or o count → number ≤ count
  number_fits None number there is = omega arith
  number_fits (Some f) number there is = omega (arith, before.lower (get_or labels done 0) f there)

  pub one_more_number : (o : Option ℕ) (number next : ℕ) → AreInside labels → done < length labels → get_or given (get_or labels done 0) None ≡ o → number ≡ unwrap_or o count → next ≡ max count (number + 1)
      → IsNumbering labels (slice_set given (get_or labels done 0) (Some number)) (numbers ++ number ∷ []) next (done + 1)
  one_more_number None number next inside within there is raised =
      subst (λ (n : ℕ). IsNumbering labels (slice_set given (get_or labels done 0) (Some number)) (numbers ++ number ∷ []) n (done + 1)) (let e : count + 1 ≡ next = omega arith in e)
      (subst (λ (n : ℕ). IsNumbering labels (slice_set given (get_or labels done 0) (Some n)) (numbers ++ n ∷ []) (count + 1) (done + 1)) (sym is) (new_one inside within there))
  one_more_number (Some f) number next inside within there is raised =
      let low = before.lower (get_or labels done 0) f there in
      let same : slice_set given (get_or labels done 0) (Some number) ≡ given =
      ap (slice_set given (get_or labels done 0)) (ap Some is ∙ sym there) ∙ set-get_or given (get_or labels done 0) None in
      subst (λ (n : ℕ). IsNumbering labels (slice_set given (get_or labels done 0) (Some number)) (numbers ++ number ∷ []) n (done + 1)) (let e : count ≡ next = omega arith in e)
      (subst (λ (l : List (Option ℕ)). IsNumbering labels l (numbers ++ number ∷ []) count (done + 1)) (sym same)
      (subst (λ (n : ℕ). IsNumbering labels given (numbers ++ n ∷ []) count (done + 1)) (sym is) (known f there)))

  pub all_numbered : length labels ≤ done → done ≤ length labels → AreNumbered labels numbers count
  all_numbered all most = record {
    each = omega (arith, before.each);
    same = λ i j lt within. (
      λ e. before.one (get_or labels i 0) (get_or labels j 0) (get_or numbers i 0) (before.has i (omega arith)) (before.has j (omega arith) ∙ ap Some (sym e)),
      λ e. same_Some (get_or numbers i 0) (get_or numbers j 0) (sym (before.has i (omega arith)) ∙ ap (λ (l : ℕ). get_or given l None) e ∙ before.has j (omega arith)),
    );
    ordered = λ i j lt within new. before.ordered i j lt (omega arith) new;
    below = λ i lt. before.lower (get_or labels i 0) (get_or numbers i 0) (before.has i (omega arith));
    reached = λ f lt. let b = before.reached f lt in (b.0, omega (arith, b.1), b.2);
  }
