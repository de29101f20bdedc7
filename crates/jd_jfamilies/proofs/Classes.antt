-- The class of a routine is one of the files, and not its own ancestor.
use Rattle.std.proofs.Common.{◌≡◌, ◌+◌, ℕ, suc, List, [], ◌∷◌, Some, refl, subst, arith}
use Rattle.std.specs.List.{All, slice_get}
use Rattle.std.proofs.lemmas.List.Elements.{All-append, All-cons, All-map, All-nil}
use Rattle.std.proofs.lemmas.Option.{slice_get_within, get_or_from_slice_get}
use Rattle.jd_syntax.specs.JavaTrees.{JavaMember, FieldMember, ConstantMember, MethodMember, JavaUnit}
use Rattle.jd_jclasses.specs.Classes.{DeclaredClass, declared_classes, prelude_count, IsAncestor}
use Rattle.jd_jclasses.specs.Members.{Declared, declared_members, of_member, of_members, of_classes}
use Rattle.jd_jclasses.specs.Methods.{routines}
use Rattle.jd_jclasses.specs.Refusals.{AreClasses}
use Rattle.jd_jseen.specs.Laws.{RoutinesAreMembers}

abbrev IsOf : ℕ → Declared → Type 0
IsOf class r = r.class ≡ class

of_member_is_of : (class file place : ℕ) (m : JavaMember) → All (IsOf class) (of_member class file place m)
of_member_is_of class file place (FieldMember f) = All-map (IsOf class) _ f.names (λ k d below. refl)
of_member_is_of class file place (ConstantMember c) = All-cons (IsOf class) _ [] refl (All-nil (IsOf class))
of_member_is_of class file place (MethodMember m) = All-cons (IsOf class) _ [] refl (All-nil (IsOf class))

of_members_are_of : (class file place : ℕ) (ms : List JavaMember) → All (IsOf class) (of_members class file place ms)
of_members_are_of class file place [] = All-nil (IsOf class)
of_members_are_of class file place (m ∷ ms) =
    All-append (IsOf class) (of_member class file place m) (of_members class file (suc place) ms) (of_member_is_of class file place m) (of_members_are_of class file (suc place) ms)

-- it is of one of these classes, of which the first has this number
abbrev IsOfOne : ℕ → List DeclaredClass → Declared → Type 0
IsOfOne first ds r = (i : ℕ) × (d : DeclaredClass) × (r.class ≡ first + i) × (slice_get ds i ≡ Some d)

of_classes_are_of : (first : ℕ) (ds : List DeclaredClass) → All (IsOfOne first ds) (of_classes first ds)
of_classes_are_of first [] = All-nil (IsOfOne first [])
of_classes_are_of first (d ∷ ds) =
    All-append (IsOfOne first (d ∷ ds)) (of_members first d.file 0 d.tree.members) (of_classes (suc first) ds)
    (λ k e below. let same = of_members_are_of first d.file 0 d.tree.members k e below in (0, d, omega (arith, same), refl))
    (λ k e below. let behind = of_classes_are_of (suc first) ds k e below in (suc behind.0, behind.1, omega (arith, behind.2), behind.3))

-- what holds of all holds of one
one_of_all : {X : Type 0} (P : X → Type 0) (xs : List X) (i : ℕ) (x : X) → All P xs → slice_get xs i ≡ Some x → P x
one_of_all P xs i x all there = subst P (get_or_from_slice_get xs i x x there) (all i x (slice_get_within xs i x there))

pub no_cycle : RoutinesAreMembers → (units : List JavaUnit) (m : ℕ) (r : Declared) → AreClasses units → slice_get (routines units) m ≡ Some r → IsAncestor units r.class r.class → ⊥
no_cycle members units m r are there above =
    let i = members units m r there in
    let c = one_of_all (IsOfOne prelude_count (declared_classes units)) (declared_members units) i.0 r (of_classes_are_of prelude_count (declared_classes units)) i.1 in
    are.classes.no_cycle c.0 (record { class = c.1; there = c.3; holds = subst (λ (n : ℕ). IsAncestor units n n) c.2 above })
