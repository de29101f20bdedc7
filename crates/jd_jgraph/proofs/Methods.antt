-- The methods of each name, with one more member.
use Rattle.std.proofs.Common.{◌≡◌, ◌≢◌, ◌⊎◌, ◌↔◌, ℕ, zero, suc, ◌+◌, ◌<◌, ◌≤◌, Bool, true, false, List, [], ◌∷◌, ◌++◌, length, replicate, Some, slice_index, slice_index_or, refl, sym, ap, ◌∙◌, inl, inr, arith, subst}
use Rattle.std.specs.List.{Contains, slice_get}
use Rattle.std.proofs.lemmas.Bool.{cases_eq, cases_lt}
use Rattle.std.proofs.lemmas.Grind.{get_or-set_at}
use Rattle.std.proofs.lemmas.List.{get_or-replicate, get_or-set_other, length-replicate, length-set}
use Rattle.std.proofs.lemmas.List.Elements.{Contains-append_cases, Contains-append_left, Contains-append_right}
use Rattle.std.proofs.lemmas.Option.{same_Some}
use Rattle.jd_jclasses.specs.Members.{Declared, Kind, FieldOf, ConstantOf, RoutineOf, is_method, is_routine}
use Rattle.jd_jseen.specs.Own.{routines_before}
use Rattle.jd_jgraph.specs.Named.{AreNamed, IsMethodOf, put_behind, put_if}

no_both : {b : Bool} → b ≡ true → b ≡ false → ⊥
no_both t f = absurd cc

pub method_is_routine : (kind : Kind) → is_method kind ≡ true → is_routine kind ≡ true
method_is_routine (FieldOf t) h = absurd cc
method_is_routine (ConstantOf n) h = absurd cc
method_is_routine (RoutineOf m) h = refl

pub no_method : (kind : Kind) → is_routine kind ≡ false → is_method kind ≡ false
no_method (FieldOf t) h = refl
no_method (ConstantOf n) h = refl
no_method (RoutineOf m) h = absurd cc

pub as_many : (test : Bool) (old new : List (List ℕ)) (place x count : ℕ) → length old ≡ count → new ≡ put_if test old place x → length new ≡ count
as_many true old new place x count e is = ap length is ∙ length-set old place (slice_index_or old place [] ++ x ∷ []) ∙ e
as_many false old new place x count e is = ap length is ∙ e

-- what a list of one element contains
pub the_one : (x y : ℕ) → Contains (x ∷ []) y → x ≡ y
the_one x y (zero, lt, e) = e
the_one x y (suc k, lt, e) = absurd (omega (arith, lt))

module _ (members : List Declared) (names families : List ℕ) where
  pub none_yet : (lists : List (List ℕ)) (count : ℕ) → lists ≡ replicate count [] → AreNamed members names families 0 lists
  none_yet lists count is name family lt =
      (λ h. absurd (omega (arith, (subst (λ (l : List ℕ). Contains l family) empty h).1)), λ r. absurd (omega (arith, r.before)))
    where
      empty : slice_index_or lists name [] ≡ []
      empty = ap (λ (l : List (List ℕ)). slice_index_or l name []) is ∙ get_or-replicate count name [] [] (omega (arith, lt, ap length is, length-replicate {A = List ℕ} count []))

  module _ (i : ℕ) (a : Declared) (there : slice_get members i ≡ Some a) (lists : List (List ℕ)) (so_far : AreNamed members names families i lists) where
    more : (name family : ℕ) → IsMethodOf members names families i name family → IsMethodOf members names families (i + 1) name family
    more name family r = record { i = r.i; before = omega (arith, r.before); member = r.member; there = r.there; method = r.method; named = r.named; of_family = r.of_family }

    fewer : (name family : ℕ) (r : IsMethodOf members names families (i + 1) name family) → r.i < i → IsMethodOf members names families i name family
    fewer name family r lt = record { i = r.i; before = lt; member = r.member; there = r.there; method = r.method; named = r.named; of_family = r.of_family }

    last_place : (name family : ℕ) (r : IsMethodOf members names families (i + 1) name family) → i ≤ r.i → r.i ≡ i
    last_place name family r not = omega (arith, r.before, not)

    it_is : (name family : ℕ) (r : IsMethodOf members names families (i + 1) name family) → r.i ≡ i → r.member ≡ a
    it_is name family r last = same_Some r.member a (sym r.there ∙ ap (λ (n : ℕ). slice_get members n) last ∙ there)

    pub no_more : is_method a.kind ≡ false → AreNamed members names families (i + 1) lists
    no_more other name family lt = (λ h. more name family ((so_far name family lt).0 h), λ r. back r (cases_lt r.i i))
      where
        back : (r : IsMethodOf members names families (i + 1) name family) → (r.i < i) ⊎ (i ≤ r.i) → Contains (slice_index_or lists name []) family
        back r (inl lt_i) = (so_far name family lt).1 (fewer name family r lt_i)
        back r (inr not) =
            absurd (no_both (ap (λ (m : Declared). is_method m.kind) (sym (it_is name family r (last_place name family r not))) ∙ r.method) other)

    module _ (is : is_method a.kind ≡ true) (within : slice_index names i < length lists) where
      abbrev key : ℕ
      key = slice_index names i

      abbrev value : ℕ
      value = slice_index families (routines_before members i)

      abbrev grown : List ℕ
      grown = slice_index_or lists key [] ++ value ∷ []

      abbrev after : ℕ → List ℕ
      after name = slice_index_or (put_behind lists key value) name []

      module _ (name family : ℕ) (below : name < length lists) where
        module _ (other : name ≢ key) where
          same : after name ≡ slice_index_or lists name []
          same = get_or-set_other lists key name grown [] other

          back_other : (r : IsMethodOf members names families (i + 1) name family) → (r.i < i) ⊎ (i ≤ r.i) → Contains (slice_index_or lists name []) family
          back_other r (inl lt) = (so_far name family below).1 (fewer name family r lt)
          back_other r (inr not) = absurd (other (sym r.named ∙ ap (slice_index names) (last_place name family r not)))

          at_other : Contains (after name) family ↔ IsMethodOf members names families (i + 1) name family
          at_other = (
            λ h. more name family ((so_far name family below).0 (subst (λ (l : List ℕ). Contains l family) same h)),
            λ r. subst (λ (l : List ℕ). Contains l family) (sym same) (back_other r (cases_lt r.i i)),
          )

        module _ (same_key : name ≡ key) where
          is_grown : after name ≡ grown
          is_grown = get_or-set_at lists key name grown [] same_key within

          forth : Contains (slice_index_or lists key []) family ⊎ Contains (value ∷ []) family → IsMethodOf members names families (i + 1) name family
          forth (inl h) = more name family ((so_far name family below).0 (subst (λ (n : ℕ). Contains (slice_index_or lists n []) family) (sym same_key) h))
          forth (inr h) = record { i = i; before = omega arith; member = a; there = there; method = is; named = sym same_key; of_family = the_one value family h }

          back : (r : IsMethodOf members names families (i + 1) name family) → (r.i < i) ⊎ (i ≤ r.i) → Contains grown family
          back r (inl lt) =
              Contains-append_left (slice_index_or lists key []) (value ∷ []) family
              (subst (λ (n : ℕ). Contains (slice_index_or lists n []) family) same_key ((so_far name family below).1 (fewer name family r lt)))
          back r (inr not) =
              Contains-append_right (slice_index_or lists key []) (value ∷ []) family
              (0, omega arith, ap (λ (n : ℕ). slice_index families (routines_before members n)) (sym (last_place name family r not)) ∙ r.of_family)

          at_key : Contains (after name) family ↔ IsMethodOf members names families (i + 1) name family
          at_key = (
            λ h. forth (Contains-append_cases (slice_index_or lists key []) (value ∷ []) family (subst (λ (l : List ℕ). Contains l family) is_grown h)),
            λ r. subst (λ (l : List ℕ). Contains l family) (sym is_grown) (back r (cases_lt r.i i)),
          )

        at_either : (name ≡ key) ⊎ (name ≢ key) → Contains (after name) family ↔ IsMethodOf members names families (i + 1) name family
        at_either (inl same_key) = at_key same_key
        at_either (inr other) = at_other other

      pub one_more : AreNamed members names families (i + 1) (put_behind lists key value)
      one_more name family lt =
          at_either name family (subst (λ (n : ℕ). name < n) (length-set lists key grown) lt) (cases_eq name key)

    -- a method is put behind those of its name
    pub either_way : slice_index names i < length lists → (new : List (List ℕ)) → new ≡ put_if (is_method a.kind) lists (slice_index names i) (slice_index families (routines_before members i)) → AreNamed members names families (i + 1) new
    either_way below new is = by (is_method a.kind) refl is
      where
        by : (b : Bool) → is_method a.kind ≡ b → new ≡ put_if b lists (slice_index names i) (slice_index families (routines_before members i)) → AreNamed members names families (i + 1) new
        by true method e = subst (AreNamed members names families (i + 1)) (sym e) (one_more method below)
        by false other e = subst (AreNamed members names families (i + 1)) (sym e) (no_more other)
