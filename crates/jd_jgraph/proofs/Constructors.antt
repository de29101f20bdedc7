-- One constructor at most runs for a class.
use Rattle.std.proofs.Common.{◌≡◌, ◌+◌, ◌<◌, ℕ, suc, true, List, [], ◌∷◌, Some, refl, sym, ap, ◌∙◌, subst, inl, inr, arith}
use Rattle.std.specs.List.{All, slice_get}
use Rattle.std.proofs.lemmas.Bool.{cases_lt}
use Rattle.std.proofs.lemmas.List.Elements.{All-append, All-cons, All-map, All-nil}
use Rattle.std.proofs.lemmas.Option.{slice_get_within, get_or_from_slice_get}
use Rattle.jd_ancestry.specs.Laws.{AboveIsTransitive}
use Rattle.jd_syntax.specs.JavaTrees.{JavaMember, FieldMember, ConstantMember, MethodMember, JavaUnit}
use Rattle.jd_jclasses.specs.CallGraph.{IsConstructorFor}
use Rattle.jd_jclasses.specs.Classes.{DeclaredClass, declared_classes, parents, prelude_count, IsAncestor, IsSubclass}
use Rattle.jd_jclasses.specs.Members.{Declared, declared_members, is_constructor, of_member, of_members, of_classes}
use Rattle.jd_jclasses.specs.Methods.{routines}
use Rattle.jd_jclasses.specs.Refusals.{AreClasses}
use Rattle.jd_jseen.specs.Laws.{RoutinesAreMembers}
use Rattle.jd_jseen.specs.Own.{routines_before}

-- ---- the class of a routine is one of the files, and not its own ancestor

abbrev IsOf : ℕ → Declared → Type 0
IsOf class r = r.class ≡ class

of_member_is_of : (class file place : ℕ) (m : JavaMember) → All (IsOf class) (of_member class file place m)
of_member_is_of class file place (FieldMember f) = All-map (IsOf class) _ f.names (λ k d below. refl)
of_member_is_of class file place (ConstantMember c) = All-cons (IsOf class) _ [] refl (All-nil (IsOf class))
of_member_is_of class file place (MethodMember m) = All-cons (IsOf class) _ [] refl (All-nil (IsOf class))

of_members_are_of : (class file place : ℕ) (ms : List JavaMember) → All (IsOf class) (of_members class file place ms)
of_members_are_of class file place [] = All-nil (IsOf class)
of_members_are_of class file place (m ∷ ms) =
    All-append (IsOf class) (of_member class file place m) (of_members class file (suc place) ms) (of_member_is_of class file place m) (of_members_are_of class file (suc place) ms)

-- it is of one of these classes, of which the first has this number
abbrev IsOfOne : ℕ → List DeclaredClass → Declared → Type 0
IsOfOne first ds r = (i : ℕ) × (d : DeclaredClass) × (r.class ≡ first + i) × (slice_get ds i ≡ Some d)

of_classes_are_of : (first : ℕ) (ds : List DeclaredClass) → All (IsOfOne first ds) (of_classes first ds)
of_classes_are_of first [] = All-nil (IsOfOne first [])
of_classes_are_of first (d ∷ ds) =
    All-append (IsOfOne first (d ∷ ds)) (of_members first d.file 0 d.tree.members) (of_classes (suc first) ds)
    (λ k e below. let same = of_members_are_of first d.file 0 d.tree.members k e below in (0, d, omega (arith, same), refl))
    (λ k e below. let behind = of_classes_are_of (suc first) ds k e below in (suc behind.0, behind.1, omega (arith, behind.2), behind.3))

-- what holds of all holds of one
pub one_of_all : {X : Type 0} (P : X → Type 0) (xs : List X) (i : ℕ) (x : X) → All P xs → slice_get xs i ≡ Some x → P x
one_of_all P xs i x all there = subst P (get_or_from_slice_get xs i x x there) (all i x (slice_get_within xs i x there))

module _ (transitive : AboveIsTransitive) (law : RoutinesAreMembers) (units : List JavaUnit) (are : AreClasses units) where
  no_cycle : (m : ℕ) (r : Declared) → slice_get (routines units) m ≡ Some r → IsAncestor units r.class r.class → ⊥
  no_cycle m r there above =
      let i = law units m r there in
      let c = one_of_all (IsOfOne prelude_count (declared_classes units)) (declared_members units) i.0 r (of_classes_are_of prelude_count (declared_classes units)) i.1 in
      are.classes.no_cycle c.0 (record { class = c.1; there = c.3; holds = subst (λ (n : ℕ). IsAncestor units n n) c.2 above })

  -- ---- two classes that are subclasses of one another

  one_class : (a b : ℕ) → (IsAncestor units a a → ⊥) → IsSubclass units a b → IsSubclass units b a → a ≡ b
  one_class a b none (inl same) q = same
  one_class a b none (inr above) (inl same) = sym same
  one_class a b none (inr above) (inr below) = absurd (none (transitive (parents units) a b a below above))

  -- ---- two constructors of a class

  second : (i j : ℕ) (p q : Declared) → slice_get (declared_members units) i ≡ Some p → slice_get (declared_members units) j ≡ Some q → is_constructor p.kind ≡ true → is_constructor q.kind ≡ true → p.class ≡ q.class → i < j → ⊥
  second i j p q there here one other class before =
      are.members.members j (record { place = i; earlier = before; other = p; one = q; other_there = there; there = here; holds = (class, inr (one, other)) })

  one_member : (i j : ℕ) (p q : Declared) → slice_get (declared_members units) i ≡ Some p → slice_get (declared_members units) j ≡ Some q → is_constructor p.kind ≡ true → is_constructor q.kind ≡ true → p.class ≡ q.class → i ≡ j
  one_member i j p q there here one other class =
      elim (cases_lt i j) [
        | inl before ↦ absurd (second i j p q there here one other class before)
        | inr within ↦ elim (cases_lt j i) [
          | inl behind ↦ absurd (second j i q p here there other one (sym class) behind)
          | inr not ↦ omega (arith, within, not)
        ]
      ]

  pub one_runs : (class m n : ℕ) → IsConstructorFor units class m → IsConstructorFor units class n → m ≡ n
  one_runs class m n a b =
      let p = a.declared.routine in
      let q = b.declared.routine in
      let none = no_cycle m p a.declared.there in
      let owners = one_class a.owner b.owner (subst (λ (c : ℕ). IsAncestor units c c → ⊥) a.declared.holds.1 none) (a.nearest b.owner n b.inherited b.declared) (b.nearest a.owner m a.inherited a.declared) in
      let i = law units m p a.declared.there in
      let j = law units n q b.declared.there in
      let same = one_member i.0 j.0 p q i.1 j.1 a.declared.holds.0 b.declared.holds.0 (a.declared.holds.1 ∙ owners ∙ sym b.declared.holds.1) in
      i.3 ∙ ap (routines_before (declared_members units)) same ∙ sym j.3
