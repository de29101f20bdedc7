-- The methods and constructors of such trees.
use Rattle.std.proofs.Common.{◌≡◌, ℕ, suc, Bool, true, false, List, [], ◌∷◌, map, Some, subst, cond}
use Rattle.std.specs.List.{AllByRecursion as Every, filter, slice_get}
use Rattle.jd_syntax.specs.JavaTrees.{JavaMember, FieldMember, ConstantMember, MethodMember, JavaUnit}
use Rattle.jd_jclasses.specs.Classes.{DeclaredClass, classes_from, declared_classes, prelude_count}
use Rattle.jd_jclasses.specs.Members.{Declared, Kind, FieldOf, ConstantOf, RoutineOf, declared_members, is_routine, of_classes, of_member, of_members}
use Rattle.jd_jclasses.specs.Methods.{routines}
use Rattle.jd_files.specs.Files.{AreTrees}
use Rattle.jd_java_names.proofs.Every.{every_append, every_at, every_mapped}
use Rattle.jd_variable_words.specs.Laws.{VariablesAreCalledByWords}
use Rattle.jd_variable_words.proofs.Filled.{trees_good}
use Rattle.jd_variable_words.proofs.Good.{GoodClass, GoodMember, GoodMethod, GoodUnit, stmts_good}

abbrev GoodKind : Kind → Type 0
GoodKind (FieldOf t) = Unit {0}
GoodKind (ConstantOf n) = Unit {0}
GoodKind (RoutineOf m) = GoodMethod m

abbrev GoodDeclaration : Declared → Type 0
GoodDeclaration d = GoodKind d.kind

abbrev TreeIsGood : DeclaredClass → Type 0
TreeIsGood d = GoodClass d.tree

every_one : {X Y : Type 0} (P : Y → Type 0) (f : X → Y) → ((x : X) → P (f x)) → (xs : List X) → Every P (map f xs)
every_one P f each [] = tt
every_one P f each (x ∷ xs) = (each x, every_one P f each xs)

classes_good : (n : ℕ) (us : List JavaUnit) → Every GoodUnit us → Every TreeIsGood (classes_from n us)
classes_good n [] h = tt
classes_good n (u ∷ us) h =
    every_append TreeIsGood (map (λ c. record { file = n; tree = c }) u.classes) (classes_from (suc n) us)
    (every_mapped GoodClass TreeIsGood (λ c. record { file = n; tree = c }) (λ c k. k) u.classes h.0) (classes_good (suc n) us h.1)

member_good : (class file place : ℕ) (m : JavaMember) → GoodMember m → Every GoodDeclaration (of_member class file place m)
member_good class file place (FieldMember f) h = every_one GoodDeclaration (λ x. record { class = class; file = file; member = place; name = x; kind = FieldOf f.ty.written }) (λ x. tt) f.names
member_good class file place (ConstantMember c) h = (tt, tt)
member_good class file place (MethodMember m) h = (h, tt)

members_good : (class file place : ℕ) (ms : List JavaMember) → Every GoodMember ms → Every GoodDeclaration (of_members class file place ms)
members_good class file place [] h = tt
members_good class file place (m ∷ ms) h =
    every_append GoodDeclaration (of_member class file place m) (of_members class file (suc place) ms) (member_good class file place m h.0) (members_good class file (suc place) ms h.1)

all_good : (class : ℕ) (ds : List DeclaredClass) → Every TreeIsGood ds → Every GoodDeclaration (of_classes class ds)
all_good class [] h = tt
all_good class (d ∷ ds) h =
    every_append GoodDeclaration (of_members class d.file 0 d.tree.members) (of_classes (suc class) ds) (members_good class d.file 0 d.tree.members h.0) (all_good (suc class) ds h.1)

every_kept : {X : Type 0} (P : X → Type 0) (test : X → Bool) (xs : List X) → Every P xs → Every P (filter test xs)
every_kept P test [] h = tt
every_kept P test (x ∷ xs) h = by (test x) (every_kept P test xs h.1)
  where
    by : (b : Bool) → Every P (filter test xs) → Every P (cond b (x ∷ filter test xs) (filter test xs))
    by true k = (h.0, k)
    by false k = k

each_good : (files : List (List ℕ)) (units : List JavaUnit) → AreTrees files units → Every GoodDeclaration (declared_members units)
each_good files units are = all_good prelude_count (declared_classes units) (classes_good 0 units (trees_good files units are))

routine_good : (files : List (List ℕ)) (units : List JavaUnit) → AreTrees files units → (m : ℕ) (r : Declared) → slice_get (routines units) m ≡ Some r → GoodKind r.kind
routine_good files units are m r there =
    every_at GoodDeclaration (routines units) m r (every_kept GoodDeclaration (λ (x : Declared). is_routine x.kind) (declared_members units) (each_good files units are)) there

pub method_words : VariablesAreCalledByWords
method_words files units are m r t there kind = let g = subst GoodKind kind (routine_good files units are m r there) in record { parameters_ = g.parameters_; body_ = stmts_good t.body g.body_ }
