-- Cycles of classes: what is always there stands on none, so the first on one is a class of the files.
use Rattle.std.proofs.Common.{◌≡◌, ℕ, zero, suc, ◌+◌, ◌-◌, ◌<◌, ◌≤◌, ◌⊎◌, Bool, true, false, cond, List, [], ◌∷◌, ◌++◌, length, map, get_or, Option, Some, None, refl, sym, ap, ◌∙◌, subst, inl, inr, arith, bytes_eq, length-append}
use Rattle.std.proofs.lemmas.Bool.{cases_lt}
use Rattle.std.proofs.lemmas.List.{length-map}
use Rattle.std.proofs.lemmas.Option.{none-some, same_Some, slice_get_within}
use Rattle.std.specs.Prelude.{⊤}
use Rattle.std.specs.List.{position_from, slice_get}
use Rattle.jd_ancestry.specs.Ancestors.{Above, AreNodes}
use Rattle.jd_ancestry.specs.Ancestors.Above.{above_child, above_parent}
use Rattle.jd_syntax.specs.JavaTypes.{PlainIdentifier}
use Rattle.jd_jclasses.specs.Classes.{DeclaredClass, parent_by, prelude}
use Rattle.jd_jheads.specs.declared.placed.Placed.{Placed}
use Rattle.jd_jheads.specs.declared.refusal.HeadRefusal.TheVariants as code
use Rattle.jd_jheads.specs.Firsts.{CycleRefused}
use Rattle.jd_jheads.specs.Names.{names_with, parents_by, parents_of, parents_with}
use Rattle.jd_jheads.specs.Placed.{placed_view}
use Rattle.jd_jheads.proofs.ClassLists.{viewed_at}

-- ---- what a class extends is a class

position_within : {X : Type 0} (test : X → Bool) (i : ℕ) (xs : List X) (k : ℕ) → position_from test i xs ≡ Some k → k < i + length xs
position_within test i [] k h = absurd (none-some k h)
position_within test i (x ∷ xs) k h = here (test x) (λ e. position_within test (i + 1) xs k e) h
  where
    here : (b : Bool) → (position_from test (i + 1) xs ≡ Some k → k < (i + 1) + length xs) → cond b (Some i) (position_from test (i + 1) xs) ≡ Some k → k < i + length (x ∷ xs)
    here true behind e = omega (arith, same_Some i k e)
    here false behind e = omega (arith, behind e)

parent_within : (names : List (List ℕ)) (o : Option PlainIdentifier) (a : ℕ) → 0 < length names → parent_by names o ≡ Some a → a < length names
parent_within names None a some h = omega (arith, some, same_Some 0 a h)
parent_within names (Some x) a some h = omega (arith, position_within (λ (n : List ℕ). bytes_eq n x.name) 0 names a h)

parents_within : (names : List (List ℕ)) (ds : List DeclaredClass) (k a : ℕ) → 0 < length names → slice_get (parents_by names ds) k ≡ Some (Some a) → a < length names
parents_within names [] k a some h = absurd (none-some (Some a) h)
parents_within names (d ∷ ds) zero a some h = parent_within names d.tree.parent a some (same_Some (parent_by names d.tree.parent) (Some a) h)
parents_within names (d ∷ ds) (suc k) a some h = parents_within names ds k a some h

-- what stands in two lists, one behind the other, stands in one of them
in_one : {X : Type 0} (ps qs : List X) (b : ℕ) (x : X) → slice_get (ps ++ qs) b ≡ Some x → (slice_get ps b ≡ Some x) ⊎ ((k : ℕ) × (b ≡ length ps + k) × (slice_get qs k ≡ Some x))
in_one [] qs b x h = inr (b, omega arith, h)
in_one (p ∷ ps) qs zero x h = inl h
in_one (p ∷ ps) qs (suc b) x h =
    elim (in_one ps qs b x h) [
      | inl first ↦ inl first
      | inr second ↦ inr (second.0, omega (arith, second.1), second.2)
    ]

-- each stands below one with a smaller number, or below none
abbrev AreEarlier : ℕ → List (Option ℕ) → Type 0
AreEarlier n [] = ⊤
AreEarlier n (None ∷ ps) = AreEarlier (suc n) ps
AreEarlier n (Some a ∷ ps) = (a < n) × AreEarlier (suc n) ps

earlier : (n : ℕ) (ps : List (Option ℕ)) (b a : ℕ) → AreEarlier n ps → slice_get ps b ≡ Some (Some a) → a < n + b
earlier n [] b a all h = absurd (none-some (Some a) h)
earlier n (None ∷ ps) zero a all h = absurd (none-some a (same_Some None (Some a) h))
earlier n (None ∷ ps) (suc b) a all h = omega (arith, earlier (suc n) ps b a all h)
earlier n (Some c ∷ ps) zero a all h = omega (arith, all.0, same_Some c a (same_Some (Some c) (Some a) h))
earlier n (Some c ∷ ps) (suc b) a all h = omega (arith, earlier (suc n) ps b a all.1 h)

abbrev prelude_parents : List (Option ℕ)
prelude_parents = map (λ p. p.1) prelude

prelude_is_earlier : AreEarlier 0 prelude_parents
prelude_is_earlier = (omega arith, (omega arith, (omega arith, (omega arith, (omega arith, (omega arith, (omega arith, (omega arith, (omega arith, tt)))))))))

length_names : (ds : List DeclaredClass) → length (names_with ds) ≡ 10 + length ds
length_names ds = length-append (map (λ p. p.0) prelude) (map (λ d. d.tree.name.name) ds) ∙ ap (λ (n : ℕ). 10 + n) (length-map ds (λ d. d.tree.name.name))

pub length_parents : (ds : List DeclaredClass) → length (parents_with ds) ≡ 10 + length ds
length_parents ds = length-append prelude_parents (parents_of ds) ∙ ap (λ (n : ℕ). 10 + n) (length-map ds (λ d. parent_by (names_with ds) d.tree.parent))

pub are_nodes : (parents : List (Option ℕ)) (ds : List DeclaredClass) → parents ≡ parents_with ds → AreNodes parents
are_nodes parents ds same = subst AreNodes (sym same) (λ a b h.
    let names = length_names ds in
    let all = length_parents ds in
    elim (in_one prelude_parents (parents_of ds) b (Some a) h) [
      | inl first ↦
          let below : b < 10 = slice_get_within prelude_parents b (Some a) first in
          omega (arith, earlier 0 prelude_parents b a prelude_is_earlier first, below, all)
      | inr second ↦ omega (arith, parents_within (names_with ds) ds second.0 a (omega (arith, names)) second.2, names, all)
    ])

-- ---- the first on a cycle

prelude_goes_up : (ds : List DeclaredClass) (a b : ℕ) → b < 10 → slice_get (parents_with ds) b ≡ Some (Some a) → a < b
prelude_goes_up ds a b below h =
    elim (in_one prelude_parents (parents_of ds) b (Some a) h) [
      | inl first ↦ omega (arith, earlier 0 prelude_parents b a prelude_is_earlier first)
      | inr second ↦ let beyond : b ≡ 10 + second.0 = second.1 in absurd (omega (arith, beyond, below))
    ]

above_is_earlier : (ds : List DeclaredClass) (a b : ℕ) → Above (parents_with ds) a b → b < 10 → a < b
above_is_earlier ds a b (above_child _ _ e) below = prelude_goes_up ds a b below e
above_is_earlier ds a b (above_parent _ m _ e p) below =
    let up = prelude_goes_up ds m b below e in
    omega (arith, up, above_is_earlier ds a m p (omega (arith, up, below)))

of_files : (ds : List DeclaredClass) (n : ℕ) → Above (parents_with ds) n n → 10 ≤ n
of_files ds n round =
    elim (cases_lt n 10) [
      | inl below ↦ absurd (omega (arith, above_is_earlier ds n n round below))
      | inr within ↦ within
    ]

stands_inside : (parents : List (Option ℕ)) (a c : ℕ) → Above parents a c → c < length parents
stands_inside parents a c (above_child _ _ e) = slice_get_within parents c (Some a) e
stands_inside parents a c (above_parent _ b _ e p) = slice_get_within parents c (Some b) e

-- a node that stands above itself, before all others that do
abbrev pub IsFirstAboveItself : List (Option ℕ) → ℕ → Type 0
IsFirstAboveItself parents n = Above parents n n × ((j : ℕ) → j < n → Above parents j j → ⊥)

module _ (parents : List (Option ℕ)) (xs : List Placed) (n : ℕ) (same : parents ≡ parents_with (map placed_view xs)) (first : IsFirstAboveItself parents n) where
  round : Above (parents_with (map placed_view xs)) n n
  round = subst (λ (ps : List (Option ℕ)). Above ps n n) same first.0

  pub behind_prelude : 10 ≤ n
  behind_prelude = of_files (map placed_view xs) n round

  pub is_class : n - 10 < length xs
  is_class = omega (arith, behind_prelude, stands_inside (parents_with (map placed_view xs)) n n round, length_parents (map placed_view xs), length-map xs placed_view)

  pub first_cycle : (x : Placed) → x ≡ get_or xs (n - 10) x → CycleRefused (map placed_view xs) (code.CyclicExtends x.file x.class.now.name.at)
  first_cycle x is =
      let number : n ≡ 10 + (n - 10) = omega (arith, behind_prelude) in
      record {
        i = n - 10;
        class = placed_view x;
        there = viewed_at placed_view xs (n - 10) x is is_class;
        holds = subst (λ (m : ℕ). Above (parents_with (map placed_view xs)) m m) number round;
        place = (refl, refl);
        before = λ j d less at above.
            first.1 (10 + j) (omega (arith, less, behind_prelude)) (subst (λ (ps : List (Option ℕ)). Above ps (10 + j) (10 + j)) (sym same) above);
      }
