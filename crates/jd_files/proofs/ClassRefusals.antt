-- The file that a refusal of classes names, and what is answered for it.
use Rattle.std.proofs.Common.{◌≡◌, ◌<◌, ◌≤◌, ◌+◌, ℕ, suc, List, [], ◌∷◌, length, map, get_or, Some, subst, arith}
use Rattle.std.specs.List.{All}
use Rattle.std.proofs.lemmas.List.Elements.{All-append, All-cons, All-head, All-map, All-nil, All-tail}
use Rattle.std.proofs.lemmas.Option.{none-some, same_Some}
use Rattle.jd_syntax.specs.JavaTypes.{PlainIdentifier, PlainType}
use Rattle.jd_syntax.specs.JavaTrees.{JavaMember, FieldMember, ConstantMember, MethodMember, JavaClass, JavaUnit}
use Rattle.jd_jclasses.specs.Classes.{DeclaredClass, declared_classes, classes_from, prelude_count}
use Rattle.jd_jclasses.specs.Members.{Declared, FieldOf, declared_members, of_member, of_members, of_classes}
use Rattle.jd_jclasses.specs.Refusals as plain
use Rattle.jd_jclasses.specs.Refusals.{IsRefused, ClassPlace, SuperPlace, MemberPlace}
use Rattle.jd_classes.specs.Refusals.{Refuses}
use Rattle.jd_classes.specs.declared.refusal.ClassRefusal.{ClassRefusal}
use Rattle.jd_classes.specs.declared.refusal.ClassRefusal.TheVariants as code
use Rattle.jd_files.specs.Files.{AreTrees}
use Rattle.jd_files.specs.Refusals as whole
use Rattle.jd_files.specs.Refusals.{IsInFiles, RefusesClasses, class_refusal_of}
use Rattle.jd_files.proofs.Trees.{all_at, as_many_trees}

every : {X : Type 0} (P : X → Type 0) → ((x : X) → P x) → (xs : List X) → All P xs
every P f xs k x lt = f (get_or xs k x)

-- ---- the files of classes and members

abbrev in_file : ℕ → JavaClass → DeclaredClass
in_file n c = record { file = n; tree = c }

in_one_file : (n k : ℕ) (cs : List JavaClass) → n < k → All (λ (d : DeclaredClass). d.file < k) (map (in_file n) cs)
in_one_file n k cs lt = All-map (λ (d : DeclaredClass). d.file < k) (in_file n) cs (every (λ c. n < k) (λ c. lt) cs)

class_files : (n k : ℕ) (units : List JavaUnit) → n + length units ≤ k → All (λ (d : DeclaredClass). d.file < k) (classes_from n units)
class_files n k [] le = All-nil (λ (d : DeclaredClass). d.file < k)
class_files n k (u ∷ us) le =
    All-append (λ (d : DeclaredClass). d.file < k) (map (in_file n) u.classes) (classes_from (suc n) us) (in_one_file n k u.classes (omega (arith, le))) (class_files (suc n) k us (omega (arith, le)))

abbrev of_name : ℕ → ℕ → ℕ → PlainType → PlainIdentifier → Declared
of_name class file place t x = record { class = class; file = file; member = place; name = x; kind = FieldOf t }

of_one_file : (class file place k : ℕ) (m : JavaMember) → file < k → All (λ (d : Declared). d.file < k) (of_member class file place m)
of_one_file class file place k (FieldMember f) lt = All-map (λ (d : Declared). d.file < k) (of_name class file place f.ty.written) f.names (every (λ x. file < k) (λ x. lt) f.names)
of_one_file class file place k (ConstantMember c) lt = All-cons (λ (d : Declared). d.file < k) _ [] lt (All-nil (λ (d : Declared). d.file < k))
of_one_file class file place k (MethodMember m) lt = All-cons (λ (d : Declared). d.file < k) _ [] lt (All-nil (λ (d : Declared). d.file < k))

of_one_class : (class file place k : ℕ) (ms : List JavaMember) → file < k → All (λ (d : Declared). d.file < k) (of_members class file place ms)
of_one_class class file place k [] lt = All-nil (λ (d : Declared). d.file < k)
of_one_class class file place k (m ∷ ms) lt =
    All-append (λ (d : Declared). d.file < k) (of_member class file place m) (of_members class file (suc place) ms) (of_one_file class file place k m lt) (of_one_class class file (suc place) k ms lt)

member_files : (class k : ℕ) (ds : List DeclaredClass) → All (λ (d : DeclaredClass). d.file < k) ds → All (λ (d : Declared). d.file < k) (of_classes class ds)
member_files class k [] all = All-nil (λ (d : Declared). d.file < k)
member_files class k (d ∷ ds) all =
    All-append (λ (e : Declared). e.file < k) (of_members class d.file 0 d.tree.members) (of_classes (suc class) ds) (of_one_class class d.file 0 k d.tree.members (All-head (λ (e : DeclaredClass). e.file < k) d ds all)) (member_files (suc class) k ds (All-tail (λ (e : DeclaredClass). e.file < k) d ds all))

module _ (units : List JavaUnit) (file at i : ℕ) where
  class_in_files : ClassPlace units i file at → file < length units
  class_in_files p =
      let lt = all_at (λ (d : DeclaredClass). d.file < length units) (declared_classes units) i p.class (class_files 0 (length units) units (omega arith)) p.there in
      omega (arith, lt, p.holds.0)

  super_in_files : SuperPlace units i file at → file < length units
  super_in_files p =
      let lt = all_at (λ (d : DeclaredClass). d.file < length units) (declared_classes units) i p.class (class_files 0 (length units) units (omega arith)) p.there in
      omega (arith, lt, p.holds.0)

  member_in_files : MemberPlace units i file at → file < length units
  member_in_files p =
      let lt = all_at (λ (d : Declared). d.file < length units) (declared_members units) i p.one (member_files prelude_count (length units) (declared_classes units) (class_files 0 (length units) units (omega arith))) p.there in
      omega (arith, lt, p.file_)

in_files : (units : List JavaUnit) (e : ClassRefusal) (n : ℕ) → n ≡ length units → Refuses units e → IsInFiles e n
in_files units (code.DuplicateClass file at) n same r = omega (arith, class_in_files units file at r.i r.place, same)
in_files units (code.UnknownSuper file at) n same r = omega (arith, super_in_files units file at r.1.i r.1.place, same)
in_files units (code.CyclicExtends file at) n same r = omega (arith, class_in_files units file at r.2.i r.2.place, same)
in_files units (code.DuplicateMember file at) n same r = omega (arith, member_in_files units file at r.1.i r.1.place, same)
in_files units (code.Hiding file at) n same r = omega (arith, member_in_files units file at r.2.i r.2.place, same)
in_files units (code.Overload file at) n same r = omega (arith, member_in_files units file at r.3.i r.3.place, same)
in_files units (code.BadOverride file at) n same r = omega (arith, member_in_files units file at r.4.i r.4.place, same)
in_files units code.TooManyClasses n same r = tt
in_files units code.TooManyMethods n same r = tt
in_files units code.NoMemory n same r = tt

-- ---- the refusal

refused_so : (units : List JavaUnit) (e : ClassRefusal) (r : plain.Refusal) → class_refusal_of e ≡ Some r → Refuses units e → IsRefused units r
refused_so units (code.DuplicateClass file at) r is refuses = subst (IsRefused units) (same_Some (plain.DuplicateClass file at) r is) refuses
refused_so units (code.UnknownSuper file at) r is refuses = subst (IsRefused units) (same_Some (plain.UnknownSuper file at) r is) refuses
refused_so units (code.CyclicExtends file at) r is refuses = subst (IsRefused units) (same_Some (plain.CyclicExtends file at) r is) refuses
refused_so units (code.DuplicateMember file at) r is refuses = subst (IsRefused units) (same_Some (plain.DuplicateMember file at) r is) refuses
refused_so units (code.Hiding file at) r is refuses = subst (IsRefused units) (same_Some (plain.Hiding file at) r is) refuses
refused_so units (code.Overload file at) r is refuses = subst (IsRefused units) (same_Some (plain.Overload file at) r is) refuses
refused_so units (code.BadOverride file at) r is refuses = subst (IsRefused units) (same_Some (plain.BadOverride file at) r is) refuses
refused_so units code.TooManyClasses r is refuses = subst (IsRefused units) (same_Some plain.ManyClasses r is) refuses
refused_so units code.TooManyMethods r is refuses = subst (IsRefused units) (same_Some plain.ManyMethods r is) refuses
refused_so units code.NoMemory r is refuses = absurd (none-some r is)

pub refuses_classes : (files : List (List ℕ)) (units : List JavaUnit) (e : ClassRefusal) → AreTrees files units → Refuses units e → RefusesClasses files e
refuses_classes files units e trees refuses = record {
  in_files = in_files units e (length files) (as_many_trees files units trees) refuses;
  refused = λ r is. whole.of_classes units r trees (refused_so units e r is refuses);
}
