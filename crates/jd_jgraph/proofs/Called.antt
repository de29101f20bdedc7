-- The edges of the calls of one more member.
use Rattle.std.proofs.Common.{◌≡◌, ◌⊎◌, ◌==◌, ℕ, ◌+◌, ◌<◌, ◌≤◌, Bool, true, false, List, Some, slice_index, sym, ap, ◌∙◌, inl, inr, arith, subst}
use Rattle.std.specs.Prelude.{◌&&◌}
use Rattle.std.specs.Bool.{Decides}
use Rattle.std.specs.List.{Contains, list_any, slice_get}
use Rattle.std.proofs.lemmas.Bool.{cases_lt, or_cases, or_left, or_right, and_from, and_parts}
use Rattle.std.proofs.lemmas.Bool.Decides.{Decides-eqb}
use Rattle.std.proofs.lemmas.Map.Made.{is_member-Decides}
use Rattle.std.proofs.lemmas.Option.{same_Some}
use Rattle.jd_jclasses.specs.Members.{Declared, is_routine}
use Rattle.jd_jseen.specs.Own.{routines_before}
use Rattle.jd_jgraph.specs.Callees.{Lookup, called_by}
use Rattle.jd_jgraph.specs.Edges.{with_edges, IsCalledFrom}

module _ (l : Lookup) (members : List Declared) where
  -- no edge of no members
  pub none_yet : (now : ℕ → ℕ → Bool) → ((x y : ℕ) → now x y ≡ false) → (x y : ℕ) → Decides (now x y) (IsCalledFrom l members 0 x y)
  none_yet now none x y = (λ e. absurd (no_true (now x y) e (none x y)), λ r. absurd (omega (arith, r.before)))
    where
      no_true : (b : Bool) → b ≡ true → b ≡ false → ⊥
      no_true b t f = absurd cc

  module _ (i : ℕ) (a : Declared) (there : slice_get members i ≡ Some a) (now : ℕ → ℕ → Bool) (so_far : (x y : ℕ) → Decides (now x y) (IsCalledFrom l members i x y)) where
    more : (x y : ℕ) → IsCalledFrom l members i x y → IsCalledFrom l members (i + 1) x y
    more x y r =
        record { i = r.i; before = omega (arith, r.before); member = r.member; there = r.there; routine = r.routine; of_one = r.of_one; of_other = r.of_other }

    -- it is the member of this place
    it_is : (x y : ℕ) (r : IsCalledFrom l members (i + 1) x y) → i ≤ r.i → (r.i ≡ i) × (r.member ≡ a)
    it_is x y r not =
        let last : r.i ≡ i = omega (arith, r.before, not) in (last, same_Some r.member a (sym r.there ∙ ap (λ (n : ℕ). slice_get members n) last ∙ there))

    earlier : (x y : ℕ) (r : IsCalledFrom l members (i + 1) x y) → r.i < i → now x y ≡ true
    earlier x y r lt =
        (so_far x y).1 (record { i = r.i; before = lt; member = r.member; there = r.there; routine = r.routine; of_one = r.of_one; of_other = r.of_other })

    no_both : {b : Bool} → b ≡ true → b ≡ false → ⊥
    no_both t f = absurd cc

    pub no_more : is_routine a.kind ≡ false → (x y : ℕ) → Decides (now x y) (IsCalledFrom l members (i + 1) x y)
    no_more other x y = (λ e. more x y ((so_far x y).0 e), λ r. back r (cases_lt r.i i))
      where
        back : (r : IsCalledFrom l members (i + 1) x y) → (r.i < i) ⊎ (i ≤ r.i) → now x y ≡ true
        back r (inl lt) = earlier x y r lt
        back r (inr not) = absurd (no_both (ap (λ (m : Declared). is_routine m.kind) (sym (it_is x y r not).1) ∙ r.routine) other)

    module _ (is : is_routine a.kind ≡ true) (new : ℕ → ℕ → Bool) (step : (x y : ℕ) → new x y ≡ with_edges now (slice_index l.families (routines_before members i)) (called_by l a) x y) where
      abbrev from : ℕ
      from = slice_index l.families (routines_before members i)

      among : (y : ℕ) → Decides (list_any (λ t. y == t) (called_by l a)) (Contains (called_by l a) y)
      among y = is_member-Decides Decides-eqb (called_by l a) y

      pub one_more : (x y : ℕ) → Decides (new x y) (IsCalledFrom l members (i + 1) x y)
      one_more x y =
          (λ e. forth (or_cases (now x y) ((x == from) && list_any (λ t. y == t) (called_by l a)) (sym (step x y) ∙ e)), λ r. step x y ∙ back r (cases_lt r.i i))
        where
          forth : (now x y ≡ true) ⊎ (((x == from) && list_any (λ t. y == t) (called_by l a)) ≡ true) → IsCalledFrom l members (i + 1) x y
          forth (inl e) = more x y ((so_far x y).0 e)
          forth (inr e) =
              let parts = and_parts (x == from) (list_any (λ t. y == t) (called_by l a)) e in
              record { i = i; before = omega arith; member = a; there = there; routine = is; of_one = sym ((Decides-eqb x from).0 parts.0); of_other = (among y).0 parts.1 }

          back : (r : IsCalledFrom l members (i + 1) x y) → (r.i < i) ⊎ (i ≤ r.i) → with_edges now from (called_by l a) x y ≡ true
          back r (inl lt) = or_left (now x y) ((x == from) && list_any (λ t. y == t) (called_by l a)) (earlier x y r lt)
          back r (inr not) =
              let same = it_is x y r not in
              or_right (now x y) ((x == from) && list_any (λ t. y == t) (called_by l a))
              (and_from (x == from) (list_any (λ t. y == t) (called_by l a))
              ((Decides-eqb x from).1 (sym r.of_one ∙ ap (λ (n : ℕ). slice_index l.families (routines_before members n)) same.0))
              ((among y).1 (subst (λ (m : Declared). Contains (called_by l m) y) same.1 r.of_other)))
