-- Of the members that a class sees by a name there is one of each kind.
use Rattle.std.proofs.Common.{◌≡◌, ◌⊎◌, inl, inr, ⊎_elim, ◌<◌, ◌≤◌, ℕ, Bool, true, false, List, length, take, Option, Some, None, refl, sym, ap, subst, ◌∙◌, arith}
use Rattle.std.specs.List.{filter, slice_get}
use Rattle.std.proofs.lemmas.Bool.{cases_lt}
use Rattle.std.proofs.lemmas.Option.{same_Some}
use Rattle.jd_ancestry.specs.Ancestors.{Above}
use Rattle.jd_ancestry.specs.Ancestors.Above.{above_child, above_parent}
use Rattle.jd_syntax.specs.JavaTrees.{JavaUnit}
use Rattle.jd_jclasses.specs.CallGraph.{DeclaresConstructor}
use Rattle.jd_jclasses.specs.Classes.{IsSubclass, parents}
use Rattle.jd_jclasses.specs.Members.{Declared, declared_members, is_routine, is_variable}
use Rattle.jd_jclasses.specs.Refusals.{AreClasses, IsSecondMember, SameName}
use Rattle.jd_jseen.proofs.Routines.{kept}
use Rattle.jd_classes.proofs.NoCycle.{no_cycle}

module _ (units : List JavaUnit) (stand : AreClasses units) where
  abbrev ps : List (Option ℕ)
  ps = parents units

  -- ---- classes

  -- what stands above something stands above all that is above or below it on the way
  above_both : (a b c : ℕ) → Above ps a b → Above ps b c → Above ps a c
  above_both a b c up (above_child _ _ e) = above_parent a b c e up
  above_both a b c up (above_parent _ d _ e rest) = above_parent a d c e (above_both a b d up rest)

  pub each_other : (a b : ℕ) → IsSubclass units a b → IsSubclass units b a → a ≡ b
  each_other a b (inl same) other = same
  each_other a b (inr above) (inl same) = sym same
  each_other a b (inr above) (inr back) = absurd (no_cycle units stand.classes b (above_both b a b above back))

  -- two classes that stand above one stand one above the other, or are the same
  abbrev InLine : ℕ → ℕ → Type 0
  InLine a b = (a ≡ b) ⊎ (Above ps a b ⊎ Above ps b a)

  one_parent : (c a b : ℕ) → slice_get ps c ≡ Some (Some a) → slice_get ps c ≡ Some (Some b) → a ≡ b
  one_parent c a b e f = same_Some a b (same_Some (Some a) (Some b) (sym e ∙ f))

  both_above : (a b c : ℕ) → Above ps a c → Above ps b c → InLine a b
  both_above a b c (above_child _ _ e) (above_child _ _ f) = inl (one_parent c a b e f)
  both_above a b c (above_child _ _ e) (above_parent _ d _ f rest) = inr (inr (subst (Above ps b) (one_parent c d a f e) rest))
  both_above a b c (above_parent _ d _ e rest) (above_child _ _ f) = inr (inl (subst (Above ps a) (one_parent c d b e f) rest))
  both_above a b c (above_parent _ d _ e rest) (above_parent _ d' _ f rest') = both_above a b d rest (subst (Above ps b) (one_parent c d' d f e) rest')

  pub in_line : (c a b : ℕ) → IsSubclass units c a → IsSubclass units c b → InLine a b
  in_line c a b (inl same) (inl same') = inl (sym same ∙ same')
  in_line c a b (inl same) (inr above) = inr (inr (subst (Above ps b) same above))
  in_line c a b (inr above) (inl same) = inr (inl (subst (Above ps a) same above))
  in_line c a b (inr above) (inr above') = both_above a b c above above'

  -- ---- places: of two members that are refused for one another there is one place

  either_way : (P : Declared → Declared → Type 0) → ((i j : ℕ) (a b : Declared) → i < j → slice_get (declared_members units) i ≡ Some a → slice_get (declared_members units) j ≡ Some b → P a b → ⊥)
      → (i j : ℕ) (a b : Declared) → slice_get (declared_members units) i ≡ Some a → slice_get (declared_members units) j ≡ Some b → P a b → P b a → i ≡ j
  either_way P none i j a b there other one back = by (cases_lt i j) (cases_lt j i)
    where
      by : (i < j) ⊎ (j ≤ i) → (j < i) ⊎ (i ≤ j) → i ≡ j
      by (inl lt) other_way = absurd (none i j a b lt there other one)
      by (inr le) (inl lt) = absurd (none j i b a lt other there back)
      by (inr le) (inr le') = omega (arith, le, le')

  -- a variable that a class sees by a name
  pub record Variable (class : ℕ) (name : List ℕ) : Type 0 where
    pub place : ℕ
    pub one : Declared
    pub there : slice_get (declared_members units) place ≡ Some one
    pub is : is_variable one.kind ≡ true
    pub named : one.name.name ≡ name
    pub seen : IsSubclass units class one.class

  pub one_variable : (class : ℕ) (name : List ℕ) (v w : Variable class name) → v.place ≡ w.place
  one_variable class name v w = by (in_line class v.one.class w.one.class v.seen w.seen)
    where
      names : SameName v.one w.one
      names = v.named ∙ sym w.named

      by : InLine v.one.class w.one.class → v.place ≡ w.place
      by (inl same) =
          either_way IsSecondMember (λ i j a b lt there other h. stand.members.members j (record { place = i; earlier = lt; other = a; one = b; other_there = there; there = other; holds = h }))
          v.place w.place v.one w.one v.there w.there (same, inl (v.is, w.is, names)) (sym same, inl (w.is, v.is, sym names))
      by (inr (inl above)) = absurd (stand.members.variables w.place (record { place = v.place; other = v.one; one = w.one; other_there = v.there; there = w.there; holds = (above, v.is, w.is, names) }))
      by (inr (inr above)) = absurd (stand.members.variables v.place (record { place = w.place; other = w.one; one = v.one; other_there = w.there; there = v.there; holds = (above, w.is, v.is, sym names) }))

  -- ---- routines of a class

  at_same_place : (i j m n : ℕ) → i ≡ j → m ≡ length (filter (λ (x : Declared). is_routine x.kind) (take i (declared_members units))) → n ≡ length (filter (λ (x : Declared). is_routine x.kind) (take j (declared_members units))) → m ≡ n
  at_same_place i j m n same e f = e ∙ ap (λ k. length (filter (λ (x : Declared). is_routine x.kind) (take k (declared_members units)))) same ∙ sym f

  pub one_constructor : (class m n : ℕ) → DeclaresConstructor units class m → DeclaresConstructor units class n → m ≡ n
  one_constructor class m n one other =
      let a = kept (λ (x : Declared). is_routine x.kind) (declared_members units) m one.routine one.there in
      let b = kept (λ (x : Declared). is_routine x.kind) (declared_members units) n other.routine other.there in
      let classes : one.routine.class ≡ other.routine.class = one.holds.1 ∙ sym other.holds.1 in
      at_same_place a.i b.i m n
      (either_way IsSecondMember (λ i j x y lt there at h. stand.members.members j (record { place = i; earlier = lt; other = x; one = y; other_there = there; there = at; holds = h }))
      a.i b.i one.routine other.routine a.there b.there (classes, inr (one.holds.0, other.holds.0)) (sym classes, inr (other.holds.0, one.holds.0)))
      a.number b.number
