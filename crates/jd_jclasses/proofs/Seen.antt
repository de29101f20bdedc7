-- A class sees at most one method of a name.
use Rattle.std.proofs.Common.{◌≡◌, inl, inr, ◌<◌, ℕ, true, List, Some, sym, ◌∙◌, subst, arith}
use Rattle.std.proofs.lemmas.Bool.{cases_lt}
use Rattle.std.specs.List.{slice_get}
use Rattle.jd_ancestry.specs.Laws.{AboveIsTransitive}
use Rattle.jd_syntax.specs.JavaTrees.{JavaUnit}
use Rattle.jd_jclasses.specs.Classes.{parents, IsAncestor, IsSubclass}
use Rattle.jd_jclasses.specs.Members.{Declared, declared_members, is_method, is_routine}
use Rattle.jd_jclasses.specs.Methods.{routines, IsSeen, SeesNone}
use Rattle.jd_jclasses.specs.Refusals.{AreClasses, IsSecondMethod}
use Rattle.jd_jclasses.proofs.Numbers.{ordered, routine_class}

-- the class of a routine is not its own ancestor
no_cycle : (units : List JavaUnit) (m : ℕ) (r : Declared) → AreClasses units → slice_get (routines units) m ≡ Some r → IsAncestor units r.class r.class → ⊥
no_cycle units m r are there above =
    let c = routine_class units m r there in
    are.classes.no_cycle c.0 (record { class = c.1; there = c.3; holds = subst (λ (n : ℕ). IsAncestor units n n) c.2 above })

-- two classes that are subclasses of one another
one_class : (units : List JavaUnit) (a b : ℕ) → AboveIsTransitive → (IsAncestor units a a → ⊥) → IsSubclass units a b → IsSubclass units b a → a ≡ b
one_class units a b law none (inl same) q = same
one_class units a b law none (inr above) (inl same) = sym same
one_class units a b law none (inr above) (inr below) = absurd (none (law (parents units) a b a below above))

-- of two methods of a class one has another name
one_before : (units : List JavaUnit) (m n : ℕ) (p q : Declared) → AreClasses units → slice_get (routines units) m ≡ Some p → slice_get (routines units) n ≡ Some q → IsSecondMethod p q → m < n → ⊥
one_before units m n p q are there here second before =
    let o = ordered (λ (x : Declared). is_routine x.kind) (declared_members units) m n p q there here before in
    are.members.overloads o.1 (inl (record { place = o.0; earlier = o.2; other = p; one = q; other_there = o.3; there = o.4; holds = second }))

one_of_two : (units : List JavaUnit) (m n : ℕ) (p q : Declared) → AreClasses units → slice_get (routines units) m ≡ Some p → slice_get (routines units) n ≡ Some q → IsSecondMethod p q → IsSecondMethod q p → m ≡ n
one_of_two units m n p q are there here one other =
    elim (cases_lt m n) [
      | inl before ↦ absurd (one_before units m n p q are there here one before)
      | inr within ↦ elim (cases_lt n m) [
        | inl behind ↦ absurd (one_before units n m q p are here there other behind)
        | inr not ↦ omega (arith, within, not)
      ]
    ]

of_class : (class : ℕ) (name : List ℕ) (p q : Declared) → (is_method p.kind ≡ true) × (p.class ≡ class) × (p.name.name ≡ name) → (is_method q.kind ≡ true) × (q.class ≡ class) × (q.name.name ≡ name) → IsSecondMethod p q
of_class class name p q a b = (a.1 ∙ sym b.1, (a.0, b.0, a.2 ∙ sym b.2))

pub one_seen : AboveIsTransitive → (units : List JavaUnit) (class : ℕ) (name : List ℕ) (m n : ℕ) → AreClasses units → IsSeen units class name m → IsSeen units class name n → m ≡ n
one_seen law units class name m n are a b =
    let none = no_cycle units m a.declared.routine are a.declared.there in
    let owners = one_class units a.owner b.owner law (subst (λ (c : ℕ). IsAncestor units c c → ⊥) a.declared.holds.1 none) (a.nearest b.owner n b.inherited b.declared) (b.nearest a.owner m a.inherited a.declared) in
    let p = a.declared.routine in
    let q = b.declared.routine in
    let ps = a.declared.holds in
    let qs : (is_method q.kind ≡ true) × (q.class ≡ a.owner) × (q.name.name ≡ name) = (b.declared.holds.0, b.declared.holds.1 ∙ sym owners, b.declared.holds.2) in
    one_of_two units m n p q are a.declared.there b.declared.there (of_class a.owner name p q ps qs) (of_class a.owner name q p qs ps)

pub not_both : (units : List JavaUnit) (class : ℕ) (name : List ℕ) (m : ℕ) → SeesNone units class name → IsSeen units class name m → ⊥
not_both units class name m none a = none a.owner m a.inherited a.declared
