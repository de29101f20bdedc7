-- The method that is found from a class up is the one that the class sees.
use Rattle.std.proofs.Common.{◌≡◌, ◌⊎◌, ℕ, zero, suc, ◌+◌, ◌<◌, ◌≤◌, true, not, ◌&&◌, nat_eq, List, [], ◌∷◌, ◌++◌, length, map, Option, None, Some, option_map, MatchOption, slice_index, refl, sym, ap, ap₂, ◌∙◌, subst, inl, inr, true≢false, arith}
use Rattle.std.specs.Cmp.{nat_eq_equiv}
use Rattle.std.specs.List.{Contains, enumerate_from, slice_get}
use Rattle.std.specs.Option.{option_and_then, option_or}
use Rattle.std.specs.Str.{bytes_eq}
use Rattle.std.proofs.lemmas.Bool.{and_parts, cases_eq, eq-eqb}
use Rattle.std.proofs.lemmas.Bool.Decides.{nat_tests}
use Rattle.std.proofs.lemmas.List.{length-map}
use Rattle.std.proofs.lemmas.List.Elements.{Contains-get_or}
use Rattle.std.proofs.lemmas.Map.Steps.{le-length_from_below}
use Rattle.std.proofs.lemmas.Map.Views.{list_any-from_Contains}
use Rattle.std.proofs.lemmas.Option.{none-some, same_Some, slice_get-map, slice_get_cases}
use Rattle.jd_ancestry.specs.Ancestors.{Above, AreNodes}
use Rattle.jd_ancestry.specs.Ancestors.Above.{above_child, above_parent}
use Rattle.jd_ancestry.specs.Depths.{IsDepths}
use Rattle.jd_syntax.specs.JavaTrees.{JavaUnit}
use Rattle.jd_jclasses.specs.Classes.{DeclaredClass, class_names, declared_classes, parent_by, parents, prelude, prelude_count, IsSubclass}
use Rattle.jd_jclasses.specs.Laws.{OneMethod}
use Rattle.jd_jclasses.specs.Members.{Kind, FieldOf, ConstantOf, RoutineOf, is_constructor, is_method, is_routine}
use Rattle.jd_jclasses.specs.Methods.{Declares, IsSeen, SeesNone, routines}
use Rattle.jd_jclasses.specs.Refusals.{AreClasses}
use Rattle.jd_jinfos.specs.Infos.{PlainClassInfo, class_infos, declared_info, method_info, method_infos}
use Rattle.jd_jseen.proofs.Nodes.{parents_are_classes}
use Rattle.jd_jseen.proofs.Routines.{routines_are_members}
use Rattle.jd_tforms.specs.Naming.{number_where}
use Rattle.jd_tforms.proofs.Somes.{bytes_same, same_bytes}
use Rattle.jd_names.specs.Tables.{declares, extended, nearest, program_tables, sees}
use Rattle.jd_names.proofs.Firsts.{first_mapped, found_first, none_passes}

-- ---- what a class extends

parents_from : (units : List JavaUnit) (n : ℕ) (ds : List DeclaredClass) → map (λ i. i.parent) (map (declared_info units) (enumerate_from n ds)) ≡ map (λ d. parent_by (class_names units) d.tree.parent) ds
parents_from units n [] = refl
parents_from units n (d ∷ ds) = ap (λ l. parent_by (class_names units) d.tree.parent ∷ l) (parents_from units (n + 1) ds)

pub listed_parents : (units : List JavaUnit) → map (λ i. i.parent) (class_infos units) ≡ parents units
listed_parents units = ap (λ (l : List (Option ℕ)). map (λ p. p.1) prelude ++ l) (parents_from units prelude_count (declared_classes units))

pub as_many_listed : (units : List JavaUnit) → length (class_infos units) ≡ length (parents units)
as_many_listed units = sym (length-map (class_infos units) (λ (i : PlainClassInfo). i.parent)) ∙ ap length (listed_parents units)

joined : (o : Option PlainClassInfo) (q : Option ℕ) → option_map (λ (i : PlainClassInfo). i.parent) o ≡ Some q → option_and_then (λ (i : PlainClassInfo). i.parent) o ≡ q
joined None q e = absurd (none-some q e)
joined (Some i) q e = same_Some i.parent q e

extends : (units : List JavaUnit) (c : ℕ) (q : Option ℕ) → slice_get (parents units) c ≡ Some q → extended (class_infos units) c ≡ q
extends units c q there =
    joined (slice_get (class_infos units) c) q
    (sym (slice_get-map (λ (i : PlainClassInfo). i.parent) (class_infos units) c) ∙ ap (λ (l : List (Option ℕ)). slice_get l c) (listed_parents units) ∙ there)

-- ---- what a class declares

method_of_kind : (k : Kind) → is_routine k ≡ true → not (is_constructor k) ≡ true → is_method k ≡ true
method_of_kind (FieldOf t) r n = absurd (true≢false (sym r))
method_of_kind (ConstantOf z) r n = absurd (true≢false (sym r))
method_of_kind (RoutineOf m) r n = n

pub no_constructor : (k : Kind) → is_method k ≡ true → not (is_constructor k) ≡ true
no_constructor (FieldOf t) e = absurd (true≢false (sym e))
no_constructor (ConstantOf z) e = absurd (true≢false (sym e))
no_constructor (RoutineOf m) e = e

same_number : (a b : ℕ) → nat_eq a b ≡ true → b ≡ a
same_number a b e = grind (arith, nat_tests)

module _ (units : List JavaUnit) (name : List ℕ) where
  declared_is : (c m : ℕ) → number_where (declares c name) (method_infos units) ≡ Some m → Declares units c name m
  declared_is c m e =
      let f = found_first (λ r. declares c name (method_info r)) (routines units) m (sym (first_mapped method_info (declares c name) (routines units)) ∙ e) in
      let r = f.one in
      let front = and_parts (not (is_constructor r.kind) && nat_eq c r.class) (bytes_eq r.name.name name) f.passes in
      let both = and_parts (not (is_constructor r.kind)) (nat_eq c r.class) front.0 in
      record {
        routine = r;
        there = f.there;
        holds = (method_of_kind r.kind (routines_are_members units m r f.there).2 both.0, same_number c r.class both.1, same_bytes r.name.name name front.1);
      }

  pub passes_declared : (c m : ℕ) (d : Declares units c name m) → declares c name (method_info d.routine) ≡ true
  passes_declared c m d =
      let constructs : not (is_constructor d.routine.kind) ≡ true = no_constructor d.routine.kind d.holds.0 in
      let class : nat_eq c d.routine.class ≡ true = eq-eqb c d.routine.class (sym d.holds.1) in
      let called : bytes_eq d.routine.name.name name ≡ true = ap (λ n. bytes_eq n name) d.holds.2 ∙ bytes_same name in
      ap₂ (λ a b. a && b) (ap₂ (λ a b. a && b) constructs class) called

  none_declared : (c : ℕ) → number_where (declares c name) (method_infos units) ≡ None → (m : ℕ) → Declares units c name m → ⊥
  none_declared c e m d =
      true≢false (sym (passes_declared c m d) ∙ none_passes (λ r. declares c name (method_info r)) (routines units) (sym (first_mapped method_info (declares c name) (routines units)) ∙ e) m d.routine d.there)

  -- ---- what it sees

  own_seen : (c m : ℕ) → Declares units c name m → IsSeen units c name m
  own_seen c m d = record { owner = c; declared = d; inherited = inl refl; nearest = λ other n sub declared. sub }

  through_parent : (c p other : ℕ) → slice_get (parents units) c ≡ Some (Some p) → IsSubclass units p other → IsSubclass units c other
  through_parent c p other h (inl same) = inr (above_child other c (h ∙ ap (λ (n : ℕ). Some (Some n)) same))
  through_parent c p other h (inr above) = inr (above_parent other p c h above)

  itself_or_above : (c p other : ℕ) → slice_get (parents units) c ≡ Some (Some p) → IsSubclass units c other → (c ≡ other) ⊎ IsSubclass units p other
  itself_or_above c p other h (inl same) = inl same
  itself_or_above c p other h (inr (above_child a b g)) = inr (inl (same_Some p a (same_Some (Some p) (Some a) (sym h ∙ g))))
  itself_or_above c p other h (inr (above_parent a b d g up)) = inr (inr (subst (λ (n : ℕ). Above (parents units) a n) (same_Some b p (same_Some (Some b) (Some p) (sym g ∙ h))) up))

  on_top : (c other : ℕ) → slice_get (parents units) c ≡ Some None → IsSubclass units c other → c ≡ other
  on_top c other h (inl same) = same
  on_top c other h (inr (above_child a b g)) = absurd (none-some a (same_Some None (Some a) (sym h ∙ g)))
  on_top c other h (inr (above_parent a b d g up)) = absurd (none-some b (same_Some None (Some b) (sym h ∙ g)))

  abbrev pub Sees : ℕ → Option ℕ → Type 0
  Sees c o = MatchOption o (SeesNone units c name) (λ m. IsSeen units c name m)

  module _ (c : ℕ) (none : (m : ℕ) → Declares units c name m → ⊥) where
    inherited : (p : ℕ) → slice_get (parents units) c ≡ Some (Some p) → (o : Option ℕ) → Sees p o → Sees c o
    inherited p h None s = λ owner m sub d. elim (itself_or_above c p owner h sub) [
      | inl same ↦ none m (subst (λ (n : ℕ). Declares units n name m) (sym same) d)
      | inr up ↦ s owner m up d
    ]
    inherited p h (Some m) s = record {
      owner = s.owner;
      declared = s.declared;
      inherited = through_parent c p s.owner h s.inherited;
      nearest = λ other n sub d. elim (itself_or_above c p other h sub) [
        | inl same ↦ absurd (none n (subst (λ (k : ℕ). Declares units k name n) (sym same) d))
        | inr up ↦ s.nearest other n up d
      ];
    }

    on_top_none : slice_get (parents units) c ≡ Some None → SeesNone units c name
    on_top_none h = λ owner m sub d. none m (subst (λ (n : ℕ). Declares units n name m) (sym (on_top c owner h sub)) d)

  nearest_is : (depths : List ℕ) → IsDepths (parents units) depths → (n c : ℕ) → c < length (parents units) → slice_index depths c < n → Sees c (nearest (program_tables units) n name c)
  nearest_is depths deep zero c lt low = absurd (omega (arith, low))
  nearest_is depths deep (suc n) c lt low = by (λ p h. let under = deep.below p c h in nearest_is depths deep n p (parents_are_classes units p c h) (omega (arith, under, low))) (number_where (declares c name) (method_infos units)) refl
    where
      further : ((p : ℕ) → slice_get (parents units) c ≡ Some (Some p) → Sees p (nearest (program_tables units) n name p)) → ((m : ℕ) → Declares units c name m → ⊥)
          → (q : Option ℕ) → slice_get (parents units) c ≡ Some q → Sees c (option_and_then (nearest (program_tables units) n name) q)
      further up none None h = on_top_none c none h
      further up none (Some p) h = inherited c none p h (nearest (program_tables units) n name p) (up p h)

      by : ((p : ℕ) → slice_get (parents units) c ≡ Some (Some p) → Sees p (nearest (program_tables units) n name p))
          → (o : Option ℕ) → number_where (declares c name) (method_infos units) ≡ o → Sees c (option_or o (option_and_then (nearest (program_tables units) n name) (extended (class_infos units) c)))
      by up (Some m) e = own_seen c m (declared_is c m e)
      by up None e = elim (slice_get_cases (parents units) c).1 [
        | inl here ↦ subst (λ q. Sees c (option_and_then (nearest (program_tables units) n name) q)) (sym (extends units c here.0 here.2)) (further up (none_declared c e) here.0 here.2)
        | inr past ↦ absurd (omega (arith, lt, past.0))
      ]

-- ---- there are more classes than lie above one another

module _ (parents : List (Option ℕ)) (depths : List ℕ) (deep : IsDepths parents depths) (nodes : AreNodes parents) where
  each_depth : (d c : ℕ) → slice_index depths c ≡ d → c < length parents → (q : ℕ) → q ≤ d → Contains depths q
  each_depth zero c is lt q le =
      let same : slice_index depths c ≡ q = omega (arith, is, le) in
      subst (Contains depths) same (Contains-get_or depths c 0 (omega (arith, lt, deep.count)))
  each_depth (suc d) c is lt q le =
      elim (cases_eq q (suc d)) [
        | inl same ↦ subst (Contains depths) (is ∙ sym same) (Contains-get_or depths c 0 (omega (arith, lt, deep.count)))
        | inr other ↦
            elim (slice_get_cases parents c).1 [
              | inl here ↦ above (λ p h. let under = deep.below p c h in each_depth d p (omega (arith, under, is)) (nodes p c h) q (omega (arith, le, other))) here.0 here.2
              | inr past ↦ absurd (omega (arith, lt, past.0))
            ]
      ]
    where
      above : ((p : ℕ) → slice_get parents c ≡ Some (Some p) → Contains depths q) → (o : Option ℕ) → slice_get parents c ≡ Some o → Contains depths q
      above up None h = let top = deep.on_top c h in absurd (omega (arith, top, is))
      above up (Some p) h = up p h

  pub depth_within : (c : ℕ) → c < length parents → slice_index depths c < length parents
  depth_within c lt =
      let most = le-length_from_below depths (slice_index depths c + 1)
      (λ q low. list_any-from_Contains nat_eq_equiv q depths (each_depth (slice_index depths c) c refl lt q (omega (arith, low)))) in
      omega (arith, most, deep.count)

pub sees_is : (units : List JavaUnit) (name : List ℕ) (depths : List ℕ) → IsDepths (parents units) depths → (c : ℕ) → c < length (parents units) → Sees units name c (sees (program_tables units) c name)
sees_is units name depths deep c lt =
    let low = depth_within (parents units) depths deep (parents_are_classes units) c lt in
    nearest_is units name depths deep (length (class_infos units)) c lt (omega (arith, low, as_many_listed units))

-- what a class sees is one
pub one_sees : OneMethod → (units : List JavaUnit) (name : List ℕ) → AreClasses units → (c : ℕ) (o p : Option ℕ) → Sees units name c o → Sees units name c p → o ≡ p
one_sees law units name are c None None s t = refl
one_sees law units name are c None (Some n) s t = absurd (law.none_seen units c name n s t)
one_sees law units name are c (Some m) None s t = absurd (law.none_seen units c name m t s)
one_sees law units name are c (Some m) (Some n) s t = ap Some (law.one_seen units c name m n are s t)
