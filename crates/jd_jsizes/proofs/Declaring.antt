-- Files have no more classes and members than the sizes of their trees together.
use Rattle.std.proofs.Common.{◌≡◌, ℕ, suc, ◌+◌, ◌≤◌, List, [], ◌∷◌, ◌++◌, length, map, arith}
use Rattle.std.specs.List.{All}
use Rattle.std.proofs.lemmas.List.{length-append, length-map}
use Rattle.std.proofs.lemmas.List.Elements.{All-cons, All-nil}
use Rattle.jd_syntax.specs.JavaTypes.{PlainIdentifier, PlainType}
use Rattle.jd_syntax.specs.JavaTrees.{JavaMember, FieldMember, ConstantMember, MethodMember, JavaClass, JavaUnit}
use Rattle.jd_jclasses.specs.Classes.{DeclaredClass, classes_from}
use Rattle.jd_jclasses.specs.Members.{Declared, FieldOf, of_member, of_members, of_classes}
use Rattle.jd_jsizes.specs.Sizes.{member_size, members_size, class_size, classes_size, files_size}

-- ---- classes

abbrev declared : ℕ → JavaClass → DeclaredClass
declared n c = record { file = n; tree = c }

in_file : (n : ℕ) (cs : List JavaClass) → length cs ≤ classes_size cs
in_file n [] = omega arith
in_file n (c ∷ cs) = omega (arith, in_file n cs)

pub few_classes : (n : ℕ) (units : List JavaUnit) → length (classes_from n units) ≤ files_size units
few_classes n [] = omega arith
few_classes n (u ∷ us) =
    omega (arith, few_classes (suc n) us, in_file n u.classes, length-map u.classes (declared n), length-append (map (declared n) u.classes) (classes_from (suc n) us))

-- ---- the members of one class

as_many : (ms : List JavaMember) → length ms ≤ members_size ms
as_many [] = omega arith
as_many (FieldMember f ∷ ms) = omega (arith, as_many ms)
as_many (ConstantMember c ∷ ms) = omega (arith, as_many ms)
as_many (MethodMember m ∷ ms) = omega (arith, as_many ms)

abbrev IsSmall : ℕ → DeclaredClass → Type 0
IsSmall limit d = length d.tree.members ≤ limit

small_in_file : (limit n : ℕ) (cs : List JavaClass) (ds : List DeclaredClass) → classes_size cs ≤ limit → All (IsSmall limit) ds → All (IsSmall limit) (map (declared n) cs ++ ds)
small_in_file limit n [] ds le all = all
small_in_file limit n (c ∷ cs) ds le all =
    All-cons (IsSmall limit) (declared n c) (map (declared n) cs ++ ds) (omega (arith, as_many c.members, le)) (small_in_file limit n cs ds (omega (arith, le)) all)

pub small_classes : (limit n : ℕ) (units : List JavaUnit) → files_size units ≤ limit → All (IsSmall limit) (classes_from n units)
small_classes limit n [] le = All-nil (IsSmall limit)
small_classes limit n (u ∷ us) le = small_in_file limit n u.classes (classes_from (suc n) us) (omega (arith, le)) (small_classes limit (suc n) us (omega (arith, le)))

-- ---- all members

abbrev of_name : ℕ → ℕ → ℕ → PlainType → PlainIdentifier → Declared
of_name class file place t x = record { class = class; file = file; member = place; name = x; kind = FieldOf t }

of_one : (class file place : ℕ) (m : JavaMember) → length (of_member class file place m) ≤ member_size m
of_one class file place (FieldMember f) = omega (arith, length-map f.names (of_name class file place f.ty.written))
of_one class file place (ConstantMember c) = omega arith
of_one class file place (MethodMember m) = omega arith

of_class : (class file place : ℕ) (ms : List JavaMember) → length (of_members class file place ms) ≤ members_size ms
of_class class file place [] = omega arith
of_class class file place (m ∷ ms) =
    omega (arith, of_one class file place m, of_class class file (suc place) ms, length-append (of_member class file place m) (of_members class file (suc place) ms))

-- the sizes of classes that are declared
abbrev sizes : List DeclaredClass → ℕ
sizes [] = 0
sizes (d ∷ ds) = class_size d.tree + sizes ds

of_all : (class : ℕ) (ds : List DeclaredClass) → length (of_classes class ds) ≤ sizes ds
of_all class [] = omega arith
of_all class (d ∷ ds) =
    omega (arith, of_class class d.file 0 d.tree.members, of_all (suc class) ds, length-append (of_members class d.file 0 d.tree.members) (of_classes (suc class) ds))

sizes_in_file : (n : ℕ) (cs : List JavaClass) (ds : List DeclaredClass) → sizes (map (declared n) cs ++ ds) ≡ classes_size cs + sizes ds
sizes_in_file n [] ds = omega arith
sizes_in_file n (c ∷ cs) ds = omega (arith, sizes_in_file n cs ds)

sizes_of_files : (n : ℕ) (units : List JavaUnit) → sizes (classes_from n units) ≡ files_size units
sizes_of_files n [] = omega arith
sizes_of_files n (u ∷ us) = omega (arith, sizes_in_file n u.classes (classes_from (suc n) us), sizes_of_files (suc n) us)

pub few_members : (class n : ℕ) (units : List JavaUnit) → length (of_classes class (classes_from n units)) ≤ files_size units
few_members class n units = omega (arith, of_all class (classes_from n units), sizes_of_files n units)
