-- What classes extend are classes, and members are of classes.
use Rattle.std.proofs.Common.{◌≡◌, ℕ, suc, ◌+◌, ◌<◌, ◌≤◌, Bool, true, false, cond, List, [], ◌∷◌, length, map, Option, Some, None, MatchOption, slice_index_or, ap, ◌∙◌, subst, arith, bytes_eq, length-append}
use Rattle.std.specs.Prelude.{⊤}
use Rattle.std.specs.List.{All, position_from, slice_get}
use Rattle.std.proofs.lemmas.List.{length-map}
use Rattle.std.proofs.lemmas.List.Elements.{All-append, All-cons, All-from_recursion, All-map, All-nil}
use Rattle.std.proofs.lemmas.Option.{get_or_from_slice_get, slice_get_within}
use Rattle.jd_syntax.specs.JavaTypes.{PlainIdentifier}
use Rattle.jd_syntax.specs.JavaTrees.{JavaMember, FieldMember, ConstantMember, MethodMember, JavaUnit}
use Rattle.jd_jclasses.specs.Classes.{DeclaredClass, class_names, declared_classes, parent_by, parents, prelude, prelude_count}
use Rattle.jd_jclasses.specs.Members.{Declared, declared_members, of_classes, of_member, of_members}
use Rattle.jd_jseen.specs.Laws.{MembersAreOfClasses, ParentsAreClasses}

-- what holds of all holds of one
one_of_all : {X : Type 0} (P : X → Type 0) (xs : List X) (i : ℕ) (x : X) → All P xs → slice_get xs i ≡ Some x → P x
one_of_all P xs i x all there = subst P (get_or_from_slice_get xs i x x there) (all i x (slice_get_within xs i x there))

-- ---- how many classes there are

pub length_parents : (units : List JavaUnit) → length (parents units) ≡ prelude_count + length (declared_classes units)
length_parents units =
    length-append (map (λ p. p.1) prelude) (map (λ d. parent_by (class_names units) d.tree.parent) (declared_classes units))
    ∙ ap (λ (n : ℕ). 10 + n) (length-map (declared_classes units) (λ d. parent_by (class_names units) d.tree.parent))

length_names : (units : List JavaUnit) → length (class_names units) ≡ prelude_count + length (declared_classes units)
length_names units = length-append (map (λ p. p.0) prelude) (map (λ d. d.tree.name.name) (declared_classes units)) ∙ ap (λ (n : ℕ). 10 + n) (length-map (declared_classes units) (λ d. d.tree.name.name))

-- ---- what a class extends

abbrev IsBelow : ℕ → Option ℕ → Type 0
IsBelow n o = MatchOption o ⊤ (λ a. a < n)

first_below : {X : Type 0} (test : X → Bool) (i n : ℕ) (xs : List X) → i + length xs ≤ n → IsBelow n (position_from test i xs)
first_below test i n [] le = tt
first_below test i n (x ∷ xs) le = here (test x) (first_below test (i + 1) n xs (omega (arith, le)))
  where
    here : (b : Bool) → IsBelow n (position_from test (i + 1) xs) → IsBelow n (cond b (Some i) (position_from test (i + 1) xs))
    here true behind = let lt : i < n = omega (arith, le) in lt
    here false behind = behind

parent_below : (names : List (List ℕ)) (n : ℕ) (o : Option PlainIdentifier) → 0 < n → length names ≤ n → IsBelow n (parent_by names o)
parent_below names n None some le = some
parent_below names n (Some x) some le = first_below (λ (name : List ℕ). bytes_eq name x.name) 0 n names (omega (arith, le))

prelude_below : (n : ℕ) → 10 ≤ n → All (IsBelow n) (map (λ p. p.1) prelude)
prelude_below n le =
    All-from_recursion (IsBelow n) (map (λ p. p.1) prelude) (tt, (omega arith, (omega arith, (omega arith, (omega arith, (omega arith, (omega arith, (omega arith, (omega arith, (omega arith, tt))))))))))

parents_below : (units : List JavaUnit) (n : ℕ) → prelude_count + length (declared_classes units) ≤ n → All (IsBelow n) (parents units)
parents_below units n le =
    All-append (IsBelow n) (map (λ p. p.1) prelude) (map (λ d. parent_by (class_names units) d.tree.parent) (declared_classes units)) (prelude_below n (omega (arith, le)))
    (All-map (IsBelow n) (λ d. parent_by (class_names units) d.tree.parent) (declared_classes units)
    (λ k d below. parent_below (class_names units) n (slice_index_or (declared_classes units) k d).tree.parent (omega (arith, le)) (omega (arith, le, length_names units))))

pub parents_are_classes : ParentsAreClasses
parents_are_classes units a b h =
    one_of_all (IsBelow (length (parents units))) (parents units) b (Some a) (parents_below units (length (parents units)) (omega (arith, length_parents units))) h

-- ---- the classes of members

abbrev IsOfBelow : ℕ → Declared → Type 0
IsOfBelow n r = r.class < n

of_member_below : (class file place n : ℕ) (m : JavaMember) → class < n → All (IsOfBelow n) (of_member class file place m)
of_member_below class file place n (FieldMember f) lt = All-map (IsOfBelow n) _ f.names (λ k d below. lt)
of_member_below class file place n (ConstantMember c) lt = All-cons (IsOfBelow n) _ [] lt (All-nil (IsOfBelow n))
of_member_below class file place n (MethodMember m) lt = All-cons (IsOfBelow n) _ [] lt (All-nil (IsOfBelow n))

of_members_below : (class file place n : ℕ) (ms : List JavaMember) → class < n → All (IsOfBelow n) (of_members class file place ms)
of_members_below class file place n [] lt = All-nil (IsOfBelow n)
of_members_below class file place n (m ∷ ms) lt =
    All-append (IsOfBelow n) (of_member class file place m) (of_members class file (suc place) ms) (of_member_below class file place n m lt) (of_members_below class file (suc place) n ms lt)

of_classes_below : (first n : ℕ) (ds : List DeclaredClass) → first + length ds ≤ n → All (IsOfBelow n) (of_classes first ds)
of_classes_below first n [] le = All-nil (IsOfBelow n)
of_classes_below first n (d ∷ ds) le =
    All-append (IsOfBelow n) (of_members first d.file 0 d.tree.members) (of_classes (suc first) ds) (of_members_below first d.file 0 n d.tree.members (omega (arith, le)))
    (of_classes_below (suc first) n ds (omega (arith, le)))

pub members_are_of_classes : MembersAreOfClasses
members_are_of_classes units i a there =
    one_of_all (IsOfBelow (length (parents units))) (declared_members units) i a
    (of_classes_below prelude_count (length (parents units)) (declared_classes units) (omega (arith, length_parents units))) there
