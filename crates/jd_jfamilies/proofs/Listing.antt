-- What the classes see gives for each routine the method that it overrides nearest.
use Rattle.std.proofs.Common.{◌≡◌, ◌+◌, ◌<◌, ℕ, Bool, true, false, cond, List, length, get_or, Option, Some, None, MatchOption, slice_index, refl, sym, ap, ◌∙◌, subst, arith}
use Rattle.std.specs.List.{filter, slice_get}
use Rattle.std.proofs.Math.Seq.{take-length}
use Rattle.std.proofs.lemmas.Option.{same_Some, slice_get-get_or, slice_get_within}
use Rattle.jd_syntax.specs.JavaTrees.{JavaUnit}
use Rattle.jd_jclasses.specs.Classes.{parents}
use Rattle.jd_jclasses.specs.Laws.{OneMethod}
use Rattle.jd_jclasses.specs.Members.{Declared, declared_members, is_method, is_routine, is_static}
use Rattle.jd_jclasses.specs.Methods.{routines}
use Rattle.jd_jclasses.specs.Refusals.{AreClasses}
use Rattle.jd_jseen.specs.Laws.{MembersAreOfClasses, ParentsAreClasses, RoutinesAreMembers}
use Rattle.jd_jseen.specs.Seen.{AreSeen}
use Rattle.jd_jseen.specs.Tables.{AreSomeTables, AreTables}
use Rattle.jd_nearest.specs.Nearest.{column}
use Rattle.jd_jfamilies.specs.Listed.{AreListed, AreOfClasses, seen_above, seen_from}
use Rattle.jd_jfamilies.specs.Overridden.{AreOverridden, OverridesNearest, OverridesNone}
use Rattle.jd_jfamilies.proofs.Nearest.{nearest_above, no_instance, no_method, no_parent, none_above}
use Rattle.jd_jfamilies.proofs.Orders.{some_at}

in_both : {P R : Type 0} {Q S : ℕ → Type 0} (o : Option ℕ) → (P → R) → ((m : ℕ) → Q m → S m) → MatchOption o P Q → MatchOption o R S
in_both None f g h = f h
in_both (Some m) f g h = g m h

module _ (nodes : ParentsAreClasses) (classes : MembersAreOfClasses) (members : RoutinesAreMembers) (law : OneMethod) where
  module _ (units : List JavaUnit) (are : AreClasses units) (names : List ℕ) (count : ℕ) (cells : List (Option ℕ)) (seen : AreSeen units names count cells) where
    abbrev IsNearest : ℕ → Option ℕ → Type 0
    IsNearest m o = MatchOption o (OverridesNone units m) (OverridesNearest units m)

    module _ (m i : ℕ) (a : Declared) (there : slice_get (routines units) m ≡ Some a) (at : slice_get (declared_members units) i ≡ Some a) where
      by_parent : is_method a.kind ≡ true → is_static a.kind ≡ false → (o : Option ℕ) → slice_get (parents units) a.class ≡ Some o → IsNearest m (seen_from count cells (slice_index names i) o)
      by_parent method instance None e = no_parent units m a there e
      by_parent method instance (Some p) e =
          in_both (column (count + 1) cells (slice_index names i) p) (none_above units m a there p e) (nearest_above units m a there p e are members law method instance)
          (seen.methods p i a (nodes units p a.class e) at)

      by_kind : (b s : Bool) → is_method a.kind ≡ b → is_static a.kind ≡ s → IsNearest m (cond b (cond s None (seen_from count cells (slice_index names i) (get_or (parents units) a.class None))) None)
      by_kind false s method static = no_method units m a there method
      by_kind true true method static = no_instance units m a there static
      by_kind true false method static = by_parent method static (get_or (parents units) a.class None) (slice_get-get_or (parents units) a.class None (classes units i a at))

      is_nearest : IsNearest m (seen_above (parents units) count cells a (slice_index names i))
      is_nearest = by_kind (is_method a.kind) (is_static a.kind) refl refl

    module _ (listed : List (Option ℕ)) (all : AreListed (parents units) (declared_members units) names count cells (length (declared_members units)) listed) where
      as_many : length listed ≡ length (routines units)
      as_many = all.each ∙ ap (λ (l : List Declared). length (filter (λ m. is_routine m.kind) l)) (take-length (declared_members units))

      all_nearest : AreOverridden units listed
      all_nearest =
          record {
            each = as_many;
            nearest = λ m o e.
                let a = some_at (routines units) m (omega (arith, slice_get_within listed m o e, as_many)) in
                let i = members units m a.0 a.1 in
                let written = all.written i.0 a.0 (slice_get_within (declared_members units) i.0 a.0 i.1) i.1 i.2 in
                let is : seen_above (parents units) count cells a.0 (slice_index names i.0) ≡ o =
                same_Some (seen_above (parents units) count cells a.0 (slice_index names i.0)) o (sym written ∙ ap (λ (n : ℕ). slice_get listed n) (sym i.3) ∙ e) in
                subst (IsNearest m) is (is_nearest m i.0 a.0 a.1 i.1);
          }

  -- with the tables as the code has them
  module _ (extended : List (Option ℕ)) (given : List Declared) (names : List ℕ) (count : ℕ) where
    pub of_classes : AreSomeTables extended given names count → AreOfClasses given (length extended)
    of_classes (units, tables) i a there =
        subst (λ (l : List (Option ℕ)). a.class < length l) (sym tables.parents_are) (classes units i a (ap (λ (l : List Declared). slice_get l i) (sym tables.members_are) ∙ there))

    pub are_overridden : (cells listed : List (Option ℕ)) (done : ℕ) → done ≡ length given → AreListed extended given names count cells done listed → (units : List JavaUnit) → AreTables units extended given names count → AreSeen units names count cells → AreOverridden units listed
    are_overridden cells listed done whole all units tables seen =
        all_nearest units tables.stand names count cells seen listed
        (subst (λ (l : List (Option ℕ)). AreListed l (declared_members units) names count cells (length (declared_members units)) listed) tables.parents_are
        (subst (λ (l : List Declared). AreListed extended l names count cells (length l) listed) tables.members_are (subst (λ (n : ℕ). AreListed extended given names count cells n listed) whole all)))
