-- Where the routines of a program stand among what is declared, and in which classes.
use Rattle.std.proofs.Common.{◌≡◌, ◌<◌, ◌+◌, ℕ, zero, suc, Bool, true, false, cond, List, [], ◌∷◌, Some, refl, subst, arith}
use Rattle.std.specs.List.{All, filter, slice_get}
use Rattle.std.proofs.lemmas.List.Elements.{All-append, All-filter, All-cons, All-map}
use Rattle.std.proofs.lemmas.Option.{slice_get_within, get_or_from_slice_get}
use Rattle.jd_syntax.specs.JavaTrees.{JavaMember, FieldMember, ConstantMember, MethodMember, JavaUnit}
use Rattle.jd_jclasses.specs.Classes.{DeclaredClass, declared_classes, prelude_count}
use Rattle.jd_jclasses.specs.Members.{Declared, of_member, of_members, of_classes, declared_members, is_routine}
use Rattle.jd_jclasses.specs.Methods.{routines}

-- ---- what is kept of a list keeps its order

abbrev Found : {X : Type 0} → List X → X → Type 0
Found {X} xs b = (j : ℕ) × (slice_get xs j ≡ Some b)

found_at : {X : Type 0} (p : X → Bool) (x : X) (xs : List X) (n : ℕ) (b : X) (t : Bool) → ((k : ℕ) → slice_get (filter p xs) k ≡ Some b → Found xs b) → slice_get (cond t (x ∷ filter p xs) (filter p xs)) n ≡ Some b → Found (x ∷ xs) b
found_at p x xs zero b true behind h = (0, h)
found_at p x xs (suc n) b true behind h = let r = behind n h in (suc r.0, r.1)
found_at p x xs n b false behind h = let r = behind n h in (suc r.0, r.1)

found : {X : Type 0} (p : X → Bool) (xs : List X) (n : ℕ) (b : X) → slice_get (filter p xs) n ≡ Some b → Found xs b
found p [] n b h = absurd cc
found p (x ∷ xs) n b h = found_at p x xs n b (p x) (λ k g. found p xs k b g) h

-- two elements, the first before the second
abbrev pub InOrder : {X : Type 0} → List X → X → X → Type 0
InOrder {X} xs a b = (i : ℕ) × (j : ℕ) × (i < j) × (slice_get xs i ≡ Some a) × (slice_get xs j ≡ Some b)

ordered_at : {X : Type 0} (p : X → Bool) (x : X) (xs : List X) (m n : ℕ) (a b : X) (t : Bool) → ((k l : ℕ) → slice_get (filter p xs) k ≡ Some a → slice_get (filter p xs) l ≡ Some b → k < l → InOrder xs a b) → slice_get (cond t (x ∷ filter p xs) (filter p xs)) m ≡ Some a → slice_get (cond t (x ∷ filter p xs) (filter p xs)) n ≡ Some b → m < n → InOrder (x ∷ xs) a b
ordered_at p x xs m zero a b true behind g h before = absurd (omega (arith, before))
ordered_at p x xs zero (suc n) a b true behind g h before = let r = found p xs n b h in (0, suc r.0, omega (arith), g, r.1)
ordered_at p x xs (suc m) (suc n) a b true behind g h before = let r = behind m n g h (omega (arith, before)) in (suc r.0, suc r.1, omega (arith, r.2), r.3, r.4)
ordered_at p x xs m n a b false behind g h before = let r = behind m n g h before in (suc r.0, suc r.1, omega (arith, r.2), r.3, r.4)

pub ordered : {X : Type 0} (p : X → Bool) (xs : List X) (m n : ℕ) (a b : X) → slice_get (filter p xs) m ≡ Some a → slice_get (filter p xs) n ≡ Some b → m < n → InOrder xs a b
ordered p [] m n a b g h before = absurd cc
ordered p (x ∷ xs) m n a b g h before = ordered_at p x xs m n a b (p x) (λ k l e f. ordered p xs k l a b e f) g h before

-- what holds of all holds of one
pub one_of_all : {X : Type 0} (P : X → Type 0) (xs : List X) (j : ℕ) (b : X) → All P xs → slice_get xs j ≡ Some b → P b
one_of_all P xs j b all there = subst P (get_or_from_slice_get xs j b b there) (all j b (slice_get_within xs j b there))

-- ---- the class of what is declared is one of the files

abbrev OfOne : ℕ → Declared → Type 0
OfOne class r = r.class ≡ class

of_one_member : (class file place : ℕ) (m : JavaMember) → All (OfOne class) (of_member class file place m)
of_one_member class file place (FieldMember f) = All-map (OfOne class) _ f.names (λ k d below. refl)
of_one_member class file place (ConstantMember c) = All-cons (OfOne class) _ [] refl (λ k d below. absurd (omega (arith, below)))
of_one_member class file place (MethodMember m) = All-cons (OfOne class) _ [] refl (λ k d below. absurd (omega (arith, below)))

of_one_class : (class file place : ℕ) (ms : List JavaMember) → All (OfOne class) (of_members class file place ms)
of_one_class class file place [] = λ k d below. absurd (omega (arith, below))
of_one_class class file place (m ∷ ms) =
    All-append (OfOne class) (of_member class file place m) (of_members class file (suc place) ms) (of_one_member class file place m) (of_one_class class file (suc place) ms)

abbrev pub IsOfClass : ℕ → List DeclaredClass → Declared → Type 0
IsOfClass first ds r = (i : ℕ) × (d : DeclaredClass) × (r.class ≡ first + i) × (slice_get ds i ≡ Some d)

all_of_classes : (first : ℕ) (ds : List DeclaredClass) → All (IsOfClass first ds) (of_classes first ds)
all_of_classes first [] = λ k d below. absurd (omega (arith, below))
all_of_classes first (d ∷ ds) =
    All-append (IsOfClass first (d ∷ ds)) (of_members first d.file 0 d.tree.members) (of_classes (suc first) ds)
    (λ k e below. let same = of_one_class first d.file 0 d.tree.members k e below in (0, d, omega (arith, same), refl))
    (λ k e below. let there = all_of_classes (suc first) ds k e below in (suc there.0, there.1, omega (arith, there.2), there.3))

pub routine_class : (units : List JavaUnit) (m : ℕ) (r : Declared) → slice_get (routines units) m ≡ Some r → IsOfClass prelude_count (declared_classes units) r
routine_class units m r there =
    one_of_all (IsOfClass prelude_count (declared_classes units)) (routines units) m r
    (All-filter (λ (x : Declared). is_routine x.kind) (IsOfClass prelude_count (declared_classes units)) (declared_members units) (all_of_classes prelude_count (declared_classes units))) there
