-- Files are a program's classes, or are refused for one reason.
use Rattle.std.proofs.Common.{◌≡◌, inl, inr, ℕ, List, Option, Some, refl, sym, ap, ◌∙◌, subst, arith}
use Rattle.std.proofs.lemmas.Bool.{cases_lt}
use Rattle.std.specs.List.{slice_get}
use Rattle.jd_syntax.specs.JavaTypes.{PlainIdentifier}
use Rattle.jd_syntax.specs.JavaTrees.{JavaUnit}
use Rattle.jd_jclasses.specs.Classes.{DeclaredClass, declared_classes}
use Rattle.jd_jclasses.specs.Members.{Declared, declared_members}
use Rattle.jd_jclasses.specs.Refusals.{DuplicateClassAt, UnknownSuperAt, CyclicExtendsAt, DuplicateMemberAt, HidingAt, OverloadAt, BadOverrideAt, Nowhere, FirstAt, ClassPlace, SuperPlace, MemberPlace, FirstPlace, Refusal, DuplicateClass, UnknownSuper, CyclicExtends, DuplicateMember, Hiding, Overload, BadOverride, ManyClasses, ManyMethods, IsRefused, AreClasses}
use Rattle.jd_jclasses.specs.Laws.{OneClassRefusal}

same_some : {A : Type 0} (o : Option A) (a b : A) → o ≡ Some a → o ≡ Some b → a ≡ b
same_some o a b e f = let both : Some a ≡ Some b = sym e ∙ f in cc

-- what holds first holds first at one place
one_first : (P : ℕ → Type 0) (i j : ℕ) → FirstAt P i → FirstAt P j → i ≡ j
one_first P i j p q =
    elim (cases_lt i j) [
      | inl before ↦ absurd (q.first i before p.here)
      | inr within ↦ elim (cases_lt j i) [
        | inl behind ↦ absurd (p.first j behind q.here)
        | inr other ↦ omega (arith, within, other)
      ]
    ]

-- a place is one of one class or member
class_place : (units : List JavaUnit) (i f a g b : ℕ) → ClassPlace units i f a → ClassPlace units i g b → (f ≡ g) × (a ≡ b)
class_place units i f a g b p q =
    let same = same_some (slice_get (declared_classes units) i) p.class q.class p.there q.there in
    (p.holds.0 ∙ ap (λ (d : DeclaredClass). d.file) same ∙ sym q.holds.0, p.holds.1 ∙ ap (λ (d : DeclaredClass). d.tree.name.at) same ∙ sym q.holds.1)

super_place : (units : List JavaUnit) (i f a g b : ℕ) → SuperPlace units i f a → SuperPlace units i g b → (f ≡ g) × (a ≡ b)
super_place units i f a g b p q =
    let same = same_some (slice_get (declared_classes units) i) p.class q.class p.there q.there in
    let name = same_some q.class.tree.parent p.holds.1.0 q.holds.1.0 (sym (ap (λ (d : DeclaredClass). d.tree.parent) same) ∙ p.holds.1.1) q.holds.1.1 in
    (p.holds.0 ∙ ap (λ (d : DeclaredClass). d.file) same ∙ sym q.holds.0, p.holds.1.2 ∙ ap (λ (x : PlainIdentifier). x.at) name ∙ sym q.holds.1.2)

member_place : (units : List JavaUnit) (i f a g b : ℕ) → MemberPlace units i f a → MemberPlace units i g b → (f ≡ g) × (a ≡ b)
member_place units i f a g b p q =
    let same = same_some (slice_get (declared_members units) i) p.one q.one p.there q.there in
    (p.file_ ∙ ap (λ (d : Declared). d.file) same ∙ sym q.file_, p.at_ ∙ ap (λ (d : Declared). d.name.at) same ∙ sym q.at_)

-- and so is the place of what is refused first
one_place : (P : ℕ → Type 0) (Place : ℕ → ℕ → ℕ → Type 0) → ((i f a g b : ℕ) → Place i f a → Place i g b → (f ≡ g) × (a ≡ b)) → (f a g b : ℕ) → FirstPlace P Place f a → FirstPlace P Place g b → (f ≡ g) × (a ≡ b)
one_place P Place law f a g b p q =
    law q.i f a g b (subst (λ (i : ℕ). Place i f a) (one_first P p.i q.i p.holds q.holds) p.place) q.place

placed : (make : ℕ → ℕ → Refusal) (f a g b : ℕ) → (f ≡ g) × (a ≡ b) → make f a ≡ make g b
placed make f a g b same = ap (λ (n : ℕ). make n a) same.0 ∙ ap (make g) same.1

-- what holds nowhere is no reason
excluded : (P : ℕ → Type 0) (Place : ℕ → ℕ → ℕ → Type 0) (f a : ℕ) → Nowhere P → FirstPlace P Place f a → ⊥
excluded P Place f a none p = none p.i p.holds.here

one_refusal : (units : List JavaUnit) (r s : Refusal) → IsRefused units r → IsRefused units s → r ≡ s
one_refusal units (DuplicateClass f a) (DuplicateClass g b) p q = placed DuplicateClass f a g b (one_place (DuplicateClassAt units) (ClassPlace units) (class_place units) f a g b (p) (q))
one_refusal units (DuplicateClass f a) (UnknownSuper g b) p q = absurd (excluded (DuplicateClassAt units) (ClassPlace units) f a (q.0) (p))
one_refusal units (DuplicateClass f a) (CyclicExtends g b) p q = absurd (excluded (DuplicateClassAt units) (ClassPlace units) f a (q.0) (p))
one_refusal units (DuplicateClass f a) (DuplicateMember g b) p q = absurd (excluded (DuplicateClassAt units) (ClassPlace units) f a (q.0.names) (p))
one_refusal units (DuplicateClass f a) (Hiding g b) p q = absurd (excluded (DuplicateClassAt units) (ClassPlace units) f a (q.0.names) (p))
one_refusal units (DuplicateClass f a) (Overload g b) p q = absurd (excluded (DuplicateClassAt units) (ClassPlace units) f a (q.0.names) (p))
one_refusal units (DuplicateClass f a) (BadOverride g b) p q = absurd (excluded (DuplicateClassAt units) (ClassPlace units) f a (q.0.names) (p))
one_refusal units (DuplicateClass f a) ManyClasses p q = absurd (excluded (DuplicateClassAt units) (ClassPlace units) f a (q.0.names) (p))
one_refusal units (DuplicateClass f a) ManyMethods p q = absurd (excluded (DuplicateClassAt units) (ClassPlace units) f a (q.0.names) (p))
one_refusal units (UnknownSuper f a) (DuplicateClass g b) p q = absurd (excluded (DuplicateClassAt units) (ClassPlace units) g b (p.0) (q))
one_refusal units (UnknownSuper f a) (UnknownSuper g b) p q = placed UnknownSuper f a g b (one_place (UnknownSuperAt units) (SuperPlace units) (super_place units) f a g b (p.1) (q.1))
one_refusal units (UnknownSuper f a) (CyclicExtends g b) p q = absurd (excluded (UnknownSuperAt units) (SuperPlace units) f a (q.1) (p.1))
one_refusal units (UnknownSuper f a) (DuplicateMember g b) p q = absurd (excluded (UnknownSuperAt units) (SuperPlace units) f a (q.0.supers) (p.1))
one_refusal units (UnknownSuper f a) (Hiding g b) p q = absurd (excluded (UnknownSuperAt units) (SuperPlace units) f a (q.0.supers) (p.1))
one_refusal units (UnknownSuper f a) (Overload g b) p q = absurd (excluded (UnknownSuperAt units) (SuperPlace units) f a (q.0.supers) (p.1))
one_refusal units (UnknownSuper f a) (BadOverride g b) p q = absurd (excluded (UnknownSuperAt units) (SuperPlace units) f a (q.0.supers) (p.1))
one_refusal units (UnknownSuper f a) ManyClasses p q = absurd (excluded (UnknownSuperAt units) (SuperPlace units) f a (q.0.supers) (p.1))
one_refusal units (UnknownSuper f a) ManyMethods p q = absurd (excluded (UnknownSuperAt units) (SuperPlace units) f a (q.0.supers) (p.1))
one_refusal units (CyclicExtends f a) (DuplicateClass g b) p q = absurd (excluded (DuplicateClassAt units) (ClassPlace units) g b (p.0) (q))
one_refusal units (CyclicExtends f a) (UnknownSuper g b) p q = absurd (excluded (UnknownSuperAt units) (SuperPlace units) g b (p.1) (q.1))
one_refusal units (CyclicExtends f a) (CyclicExtends g b) p q = placed CyclicExtends f a g b (one_place (CyclicExtendsAt units) (ClassPlace units) (class_place units) f a g b (p.2) (q.2))
one_refusal units (CyclicExtends f a) (DuplicateMember g b) p q = absurd (excluded (CyclicExtendsAt units) (ClassPlace units) f a (q.0.no_cycle) (p.2))
one_refusal units (CyclicExtends f a) (Hiding g b) p q = absurd (excluded (CyclicExtendsAt units) (ClassPlace units) f a (q.0.no_cycle) (p.2))
one_refusal units (CyclicExtends f a) (Overload g b) p q = absurd (excluded (CyclicExtendsAt units) (ClassPlace units) f a (q.0.no_cycle) (p.2))
one_refusal units (CyclicExtends f a) (BadOverride g b) p q = absurd (excluded (CyclicExtendsAt units) (ClassPlace units) f a (q.0.no_cycle) (p.2))
one_refusal units (CyclicExtends f a) ManyClasses p q = absurd (excluded (CyclicExtendsAt units) (ClassPlace units) f a (q.0.no_cycle) (p.2))
one_refusal units (CyclicExtends f a) ManyMethods p q = absurd (excluded (CyclicExtendsAt units) (ClassPlace units) f a (q.0.no_cycle) (p.2))
one_refusal units (DuplicateMember f a) (DuplicateClass g b) p q = absurd (excluded (DuplicateClassAt units) (ClassPlace units) g b (p.0.names) (q))
one_refusal units (DuplicateMember f a) (UnknownSuper g b) p q = absurd (excluded (UnknownSuperAt units) (SuperPlace units) g b (p.0.supers) (q.1))
one_refusal units (DuplicateMember f a) (CyclicExtends g b) p q = absurd (excluded (CyclicExtendsAt units) (ClassPlace units) g b (p.0.no_cycle) (q.2))
one_refusal units (DuplicateMember f a) (DuplicateMember g b) p q = placed DuplicateMember f a g b (one_place (DuplicateMemberAt units) (MemberPlace units) (member_place units) f a g b (p.1) (q.1))
one_refusal units (DuplicateMember f a) (Hiding g b) p q = absurd (excluded (DuplicateMemberAt units) (MemberPlace units) f a (q.1) (p.1))
one_refusal units (DuplicateMember f a) (Overload g b) p q = absurd (excluded (DuplicateMemberAt units) (MemberPlace units) f a (q.1) (p.1))
one_refusal units (DuplicateMember f a) (BadOverride g b) p q = absurd (excluded (DuplicateMemberAt units) (MemberPlace units) f a (q.1) (p.1))
one_refusal units (DuplicateMember f a) ManyClasses p q = absurd (excluded (DuplicateMemberAt units) (MemberPlace units) f a (q.1.members) (p.1))
one_refusal units (DuplicateMember f a) ManyMethods p q = absurd (excluded (DuplicateMemberAt units) (MemberPlace units) f a (q.1.members) (p.1))
one_refusal units (Hiding f a) (DuplicateClass g b) p q = absurd (excluded (DuplicateClassAt units) (ClassPlace units) g b (p.0.names) (q))
one_refusal units (Hiding f a) (UnknownSuper g b) p q = absurd (excluded (UnknownSuperAt units) (SuperPlace units) g b (p.0.supers) (q.1))
one_refusal units (Hiding f a) (CyclicExtends g b) p q = absurd (excluded (CyclicExtendsAt units) (ClassPlace units) g b (p.0.no_cycle) (q.2))
one_refusal units (Hiding f a) (DuplicateMember g b) p q = absurd (excluded (DuplicateMemberAt units) (MemberPlace units) g b (p.1) (q.1))
one_refusal units (Hiding f a) (Hiding g b) p q = placed Hiding f a g b (one_place (HidingAt units) (MemberPlace units) (member_place units) f a g b (p.2) (q.2))
one_refusal units (Hiding f a) (Overload g b) p q = absurd (excluded (HidingAt units) (MemberPlace units) f a (q.2) (p.2))
one_refusal units (Hiding f a) (BadOverride g b) p q = absurd (excluded (HidingAt units) (MemberPlace units) f a (q.2) (p.2))
one_refusal units (Hiding f a) ManyClasses p q = absurd (excluded (HidingAt units) (MemberPlace units) f a (q.1.variables) (p.2))
one_refusal units (Hiding f a) ManyMethods p q = absurd (excluded (HidingAt units) (MemberPlace units) f a (q.1.variables) (p.2))
one_refusal units (Overload f a) (DuplicateClass g b) p q = absurd (excluded (DuplicateClassAt units) (ClassPlace units) g b (p.0.names) (q))
one_refusal units (Overload f a) (UnknownSuper g b) p q = absurd (excluded (UnknownSuperAt units) (SuperPlace units) g b (p.0.supers) (q.1))
one_refusal units (Overload f a) (CyclicExtends g b) p q = absurd (excluded (CyclicExtendsAt units) (ClassPlace units) g b (p.0.no_cycle) (q.2))
one_refusal units (Overload f a) (DuplicateMember g b) p q = absurd (excluded (DuplicateMemberAt units) (MemberPlace units) g b (p.1) (q.1))
one_refusal units (Overload f a) (Hiding g b) p q = absurd (excluded (HidingAt units) (MemberPlace units) g b (p.2) (q.2))
one_refusal units (Overload f a) (Overload g b) p q = placed Overload f a g b (one_place (OverloadAt units) (MemberPlace units) (member_place units) f a g b (p.3) (q.3))
one_refusal units (Overload f a) (BadOverride g b) p q = absurd (excluded (OverloadAt units) (MemberPlace units) f a (q.3) (p.3))
one_refusal units (Overload f a) ManyClasses p q = absurd (excluded (OverloadAt units) (MemberPlace units) f a (q.1.overloads) (p.3))
one_refusal units (Overload f a) ManyMethods p q = absurd (excluded (OverloadAt units) (MemberPlace units) f a (q.1.overloads) (p.3))
one_refusal units (BadOverride f a) (DuplicateClass g b) p q = absurd (excluded (DuplicateClassAt units) (ClassPlace units) g b (p.0.names) (q))
one_refusal units (BadOverride f a) (UnknownSuper g b) p q = absurd (excluded (UnknownSuperAt units) (SuperPlace units) g b (p.0.supers) (q.1))
one_refusal units (BadOverride f a) (CyclicExtends g b) p q = absurd (excluded (CyclicExtendsAt units) (ClassPlace units) g b (p.0.no_cycle) (q.2))
one_refusal units (BadOverride f a) (DuplicateMember g b) p q = absurd (excluded (DuplicateMemberAt units) (MemberPlace units) g b (p.1) (q.1))
one_refusal units (BadOverride f a) (Hiding g b) p q = absurd (excluded (HidingAt units) (MemberPlace units) g b (p.2) (q.2))
one_refusal units (BadOverride f a) (Overload g b) p q = absurd (excluded (OverloadAt units) (MemberPlace units) g b (p.3) (q.3))
one_refusal units (BadOverride f a) (BadOverride g b) p q = placed BadOverride f a g b (one_place (BadOverrideAt units) (MemberPlace units) (member_place units) f a g b (p.4) (q.4))
one_refusal units (BadOverride f a) ManyClasses p q = absurd (excluded (BadOverrideAt units) (MemberPlace units) f a (q.1.overrides) (p.4))
one_refusal units (BadOverride f a) ManyMethods p q = absurd (excluded (BadOverrideAt units) (MemberPlace units) f a (q.1.overrides) (p.4))
one_refusal units ManyClasses (DuplicateClass g b) p q = absurd (excluded (DuplicateClassAt units) (ClassPlace units) g b (p.0.names) (q))
one_refusal units ManyClasses (UnknownSuper g b) p q = absurd (excluded (UnknownSuperAt units) (SuperPlace units) g b (p.0.supers) (q.1))
one_refusal units ManyClasses (CyclicExtends g b) p q = absurd (excluded (CyclicExtendsAt units) (ClassPlace units) g b (p.0.no_cycle) (q.2))
one_refusal units ManyClasses (DuplicateMember g b) p q = absurd (excluded (DuplicateMemberAt units) (MemberPlace units) g b (p.1.members) (q.1))
one_refusal units ManyClasses (Hiding g b) p q = absurd (excluded (HidingAt units) (MemberPlace units) g b (p.1.variables) (q.2))
one_refusal units ManyClasses (Overload g b) p q = absurd (excluded (OverloadAt units) (MemberPlace units) g b (p.1.overloads) (q.3))
one_refusal units ManyClasses (BadOverride g b) p q = absurd (excluded (BadOverrideAt units) (MemberPlace units) g b (p.1.overrides) (q.4))
one_refusal units ManyClasses ManyClasses p q = refl
one_refusal units ManyClasses ManyMethods p q = absurd (q.2 p.2)
one_refusal units ManyMethods (DuplicateClass g b) p q = absurd (excluded (DuplicateClassAt units) (ClassPlace units) g b (p.0.names) (q))
one_refusal units ManyMethods (UnknownSuper g b) p q = absurd (excluded (UnknownSuperAt units) (SuperPlace units) g b (p.0.supers) (q.1))
one_refusal units ManyMethods (CyclicExtends g b) p q = absurd (excluded (CyclicExtendsAt units) (ClassPlace units) g b (p.0.no_cycle) (q.2))
one_refusal units ManyMethods (DuplicateMember g b) p q = absurd (excluded (DuplicateMemberAt units) (MemberPlace units) g b (p.1.members) (q.1))
one_refusal units ManyMethods (Hiding g b) p q = absurd (excluded (HidingAt units) (MemberPlace units) g b (p.1.variables) (q.2))
one_refusal units ManyMethods (Overload g b) p q = absurd (excluded (OverloadAt units) (MemberPlace units) g b (p.1.overloads) (q.3))
one_refusal units ManyMethods (BadOverride g b) p q = absurd (excluded (BadOverrideAt units) (MemberPlace units) g b (p.1.overrides) (q.4))
one_refusal units ManyMethods ManyClasses p q = absurd (p.2 q.2)
one_refusal units ManyMethods ManyMethods p q = refl

not_refused : (units : List JavaUnit) (r : Refusal) → AreClasses units → IsRefused units r → ⊥
not_refused units (DuplicateClass f a) c p = excluded (DuplicateClassAt units) (ClassPlace units) f a c.classes.names (p)
not_refused units (UnknownSuper f a) c p = excluded (UnknownSuperAt units) (SuperPlace units) f a c.classes.supers (p.1)
not_refused units (CyclicExtends f a) c p = excluded (CyclicExtendsAt units) (ClassPlace units) f a c.classes.no_cycle (p.2)
not_refused units (DuplicateMember f a) c p = excluded (DuplicateMemberAt units) (MemberPlace units) f a c.members.members (p.1)
not_refused units (Hiding f a) c p = excluded (HidingAt units) (MemberPlace units) f a c.members.variables (p.2)
not_refused units (Overload f a) c p = excluded (OverloadAt units) (MemberPlace units) f a c.members.overloads (p.3)
not_refused units (BadOverride f a) c p = excluded (BadOverrideAt units) (MemberPlace units) f a c.members.overrides (p.4)
not_refused units ManyClasses c p = c.few_classes p.2
not_refused units ManyMethods c p = c.few_methods p.3

pub one_class_refusal : OneClassRefusal
one_class_refusal = record { one_refusal = one_refusal; not_refused = not_refused }
