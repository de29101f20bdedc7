-- Keys that come twice in a class, as they are found one by one.
use Rattle.std.proofs.Common.{◌≡◌, ℕ, ◌+◌, ◌<◌, ◌≤◌, List, Option, Some, None, length, get_or, slice_index, slice_set, length-set, refl, sym, ap, ◌∙◌, subst, inl, inr, arith}
use Rattle.std.proofs.lemmas.Bool.{cases_eq}
use Rattle.std.proofs.lemmas.List.{get_or-set_same, get_or-set_other}
use Rattle.std.proofs.lemmas.Option.{none-some, same_Some, slice_get_within}
use Rattle.std.specs.List.{slice_get}
use Rattle.jd_jclasses.specs.Members.{Declared}
use Rattle.jd_jclasses.specs.Refusals.{FirstAt, Nowhere}
use Rattle.jd_jclashes.specs.declared.compared.Compared.{Compared}
use Rattle.jd_jclashes.specs.Items.{HaveRisingClasses}
use Rattle.jd_jclashes.specs.Repeats.{IsSeenIn, repeat_key, seen_in}
use Rattle.jd_jclashes.proofs.Lists.{same_at}

module _ (compared : Compared) (members : List Declared) (names : List ℕ) (count : ℕ) where
  abbrev pub key_at : ℕ → Declared → Option ℕ
  key_at i m = repeat_key compared m.kind (slice_index names i) count

  -- a member has the key of an earlier one of its class
  pub record IsRepeat (i : ℕ) : Type 0 where
    pub place : ℕ
    pub earlier : place < i
    pub other : Declared
    pub one : Declared
    pub other_there : slice_get members place ≡ Some other
    pub there : slice_get members i ≡ Some one
    pub class : other.class ≡ one.class
    pub key : ℕ
    pub other_key : key_at place other ≡ Some key
    pub one_key : key_at i one ≡ Some key

  -- a member before the bound has this key and this class
  pub record Has (n k class : ℕ) : Type 0 where
    pub place : ℕ
    pub earlier : place < n
    pub one : Declared
    pub there : slice_get members place ≡ Some one
    pub key : key_at place one ≡ Some k
    pub class_ : one.class ≡ class

  -- of each key the last class, after so many members of which none is a repeat
  pub record AreSeen (n : ℕ) (last : List (Option ℕ)) : Type 0 where
    pub keys : length last ≡ count + 1
    pub sound : (k class : ℕ) → get_or last k None ≡ Some class → Has n k class
    pub latest : (j k : ℕ) (m : Declared) → j < n → slice_get members j ≡ Some m → key_at j m ≡ Some k → (class : ℕ) × (get_or last k None ≡ Some class) × (m.class ≤ class)
    pub none : (j : ℕ) → j < n → IsRepeat j → ⊥

  pub none_seen : (last : List (Option ℕ)) → length last ≡ count + 1 → ((k : ℕ) → get_or last k None ≡ None) → AreSeen 0 last
  none_seen last keys empty =
      record {
        keys = keys;
        sound = λ k class h. absurd (none-some class (sym (empty k) ∙ h));
        latest = λ j k m lt at key. absurd (omega (arith, lt));
        none = λ j lt r. absurd (omega (arith, lt));
      }

  Has-more : (n k class : ℕ) → Has n k class → Has (n + 1) k class
  Has-more n k class h = record { place = h.place; earlier = omega (arith, h.earlier); one = h.one; there = h.there; key = h.key; class_ = h.class_ }

  module _ (rising : HaveRisingClasses members) (n : ℕ) (m : Declared) (last : List (Option ℕ)) (there : slice_get members n ≡ Some m) (before : AreSeen n last) where
    -- the key of this member was seen in its class
    pub is_repeat : IsSeenIn last (key_at n m) m.class → IsRepeat n
    is_repeat seen =
        let k = seen.0 in
        let h = before.sound k m.class seen.2 in
        record { place = h.place; earlier = h.earlier; other = h.one; one = m; other_there = h.there; there = there; class = h.class_; key = k; other_key = h.key; one_key = seen.1 }

    pub first_repeat : IsSeenIn last (key_at n m) m.class → FirstAt IsRepeat n
    first_repeat seen = record { here = is_repeat seen; first = before.none }

    was_seen : IsRepeat n → IsSeenIn last (key_at n m) m.class
    was_seen r =
        let one : r.one ≡ m = same_at members n n r.one m refl r.there there in
        let key : key_at n m ≡ Some r.key = ap (key_at n) (sym one) ∙ r.one_key in
        let late = before.latest r.place r.key r.other r.earlier r.other_there r.other_key in
        let h = before.sound r.key late.0 late.1 in
        let above : h.one.class ≤ m.class = rising h.place n h.one m h.earlier h.there there in
        let class : r.one.class ≡ m.class = ap (λ (d : Declared). d.class) one in
        let same : late.0 ≡ m.class = omega (arith, late.2, h.class_, above, class, r.class) in
        (r.key, key, late.1 ∙ ap Some same)

    none_more : (IsSeenIn last (key_at n m) m.class → ⊥) → (j : ℕ) → j < n + 1 → IsRepeat j → ⊥
    none_more not j lt r =
        elim (cases_eq j n) [
          | inl same ↦ not (was_seen (subst IsRepeat same r))
          | inr other ↦ before.none j (omega (arith, lt, other)) r
        ]

    more_without : (new : List (Option ℕ)) → new ≡ last → key_at n m ≡ None → (IsSeenIn last (key_at n m) m.class → ⊥) → AreSeen (n + 1) new
    more_without new made no_key not =
        subst (AreSeen (n + 1)) (sym made)
        (record {
          keys = before.keys;
          sound = λ k class h. Has-more n k class (before.sound k class h);
          latest = λ j k d lt at key.
              elim (cases_eq j n) [
                | inl same ↦ absurd (none-some k (sym no_key ∙ ap (key_at n) (same_at members n j m d (sym same) there at) ∙ ap (λ (i : ℕ). key_at i d) (sym same) ∙ key))
                | inr other ↦ before.latest j k d (omega (arith, lt, other)) at key
              ];
          none = none_more not;
        })

    more_with : (new : List (Option ℕ)) (k : ℕ) → new ≡ slice_set last k (Some m.class) → key_at n m ≡ Some k → k < count + 1 → (IsSeenIn last (key_at n m) m.class → ⊥) → AreSeen (n + 1) new
    more_with new k made is below not =
        subst (AreSeen (n + 1)) (sym made)
        (record {
          keys = simp (length-set) before.keys;
          sound = λ l class h.
              elim (cases_eq l k) [
                | inl same ↦
                    let found : Some m.class ≡ Some class = sym (get_or-set_same last k (Some m.class) None inside) ∙ ap (λ (i : ℕ). get_or (slice_set last k (Some m.class)) i None) (sym same) ∙ h in
                    record { place = n; earlier = omega arith; one = m; there = there; key = is ∙ ap Some (sym same); class_ = same_Some m.class class found }
                | inr other ↦ Has-more n l class (before.sound l class (sym (get_or-set_other last k l (Some m.class) None other) ∙ h))
              ];
          latest = λ j l d lt at key.
              elim (cases_eq l k) [
                | inl same ↦ (m.class, ap (λ (i : ℕ). get_or (slice_set last k (Some m.class)) i None) same ∙ get_or-set_same last k (Some m.class) None inside, up_to j d lt at)
                | inr other ↦ elim (cases_eq j n) [
                  | inl this ↦ absurd (other (same_Some l k (sym key ∙ ap (λ (i : ℕ). key_at i d) this ∙ ap (key_at n) (same_at members j n d m this at there) ∙ is)))
                  | inr earlier ↦
                      let late = before.latest j l d (omega (arith, lt, earlier)) at key in
                      (late.0, get_or-set_other last k l (Some m.class) None other ∙ late.1, late.2)
                ]
              ];
          none = none_more not;
        })
      where
        inside : k < length last
        inside = omega (arith, below, before.keys)

        up_to : (j : ℕ) (d : Declared) → j < n + 1 → slice_get members j ≡ Some d → d.class ≤ m.class
        up_to j d lt at =
            elim (cases_eq j n) [
              | inl same ↦ omega (arith, ap (λ (x : Declared). x.class) (same_at members j n d m same at there))
              | inr earlier ↦ rising j n d m (omega (arith, lt, earlier)) at there
            ]

    pub one_more : (key : Option ℕ) (new : List (Option ℕ)) → key ≡ key_at n m → ((k : ℕ) → key ≡ Some k → k < count + 1) → new ≡ seen_in last key m.class → (IsSeenIn last key m.class → ⊥) → AreSeen (n + 1) new
    one_more None new is below made not = more_without new made (sym is) (λ s. absurd (none-some s.0 (is ∙ s.1)))
    one_more (Some k) new is below made not = more_with new k made (sym is) (below k refl) (λ s. not (s.0, is ∙ s.1, s.2))

  pub nowhere : (n : ℕ) (last : List (Option ℕ)) → n ≡ length members → AreSeen n last → Nowhere IsRepeat
  nowhere n last all seen = λ i r. seen.none i (omega (arith, all, slice_get_within members i r.one r.there)) r
