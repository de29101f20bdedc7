-- What such trees declare is called by identifiers.
use Rattle.std.proofs.Common.{ℕ, suc, List, [], ◌∷◌, map}
use Rattle.std.specs.List.{AllByRecursion as Every}
use Rattle.jd_lex.specs.Parts.{Token}
use Rattle.jd_lex.specs.Lexing.{Spells}
use Rattle.jd_syntax.specs.JavaTrees.{JavaMember, FieldMember, ConstantMember, MethodMember, JavaUnit}
use Rattle.jd_jparse.specs.Parses.{Reads}
use Rattle.jd_jclasses.specs.Classes.{DeclaredClass, classes_from, declared_classes, prelude_count}
use Rattle.jd_jclasses.specs.Members.{Declared, FieldOf, of_member, of_members, of_classes, declared_members}
use Rattle.jd_files.specs.Files.{AreTrees}
use Rattle.jd_names.specs.Identifiers.{AreIdentifiers}
use Rattle.jd_java_names.proofs.Every.{every_append, every_at, every_mapped}
use Rattle.jd_java_names.proofs.Named.{IsNamed, MemberIsNamed, ClassIsNamed, UnitIsNamed}
use Rattle.jd_java_names.proofs.Filled.{read_named, trees_named}

abbrev DeclaredIsNamed : Declared → Type 0
DeclaredIsNamed d = IsNamed d.name

abbrev TreeIsNamed : DeclaredClass → Type 0
TreeIsNamed d = ClassIsNamed d.tree

classes_named : (n : ℕ) (us : List JavaUnit) → Every UnitIsNamed us → Every TreeIsNamed (classes_from n us)
classes_named n [] h = tt
classes_named n (u ∷ us) h =
    every_append TreeIsNamed (map (λ c. record { file = n; tree = c }) u.classes) (classes_from (suc n) us)
    (every_mapped ClassIsNamed TreeIsNamed (λ c. record { file = n; tree = c }) (λ c k. k) u.classes h.0) (classes_named (suc n) us h.1)

member_named : (class file place : ℕ) (m : JavaMember) → MemberIsNamed m → Every DeclaredIsNamed (of_member class file place m)
member_named class file place (FieldMember f) h =
    every_mapped IsNamed DeclaredIsNamed (λ x. record { class = class; file = file; member = place; name = x; kind = FieldOf f.ty.written }) (λ x k. k) f.names h
member_named class file place (ConstantMember c) h = (h, tt)
member_named class file place (MethodMember m) h = (h, tt)

members_named : (class file place : ℕ) (ms : List JavaMember) → Every MemberIsNamed ms → Every DeclaredIsNamed (of_members class file place ms)
members_named class file place [] h = tt
members_named class file place (m ∷ ms) h =
    every_append DeclaredIsNamed (of_member class file place m) (of_members class file (suc place) ms)
    (member_named class file place m h.0) (members_named class file (suc place) ms h.1)

all_named : (class : ℕ) (ds : List DeclaredClass) → Every TreeIsNamed ds → Every DeclaredIsNamed (of_classes class ds)
all_named class [] h = tt
all_named class (d ∷ ds) h =
    every_append DeclaredIsNamed (of_members class d.file 0 d.tree.members) (of_classes (suc class) ds)
    (members_named class d.file 0 d.tree.members h.0.1) (all_named (suc class) ds h.1)

identifiers : (us : List JavaUnit) → Every UnitIsNamed us → AreIdentifiers us
identifiers us h = record {
  classes = λ i d e. (every_at TreeIsNamed (declared_classes us) i d (classes_named 0 us h) e).0;
  members = λ i d e. every_at DeclaredIsNamed (declared_members us) i d (all_named prelude_count (declared_classes us) (classes_named 0 us h)) e;
}

pub read_identifiers : (bytes : List ℕ) (tokens : List Token) (unit : JavaUnit) → Spells bytes tokens → Reads tokens unit → AreIdentifiers (unit ∷ [])
read_identifiers bytes tokens unit s r = identifiers (unit ∷ []) (read_named bytes tokens unit s r, tt)

pub file_identifiers : (files : List (List ℕ)) (units : List JavaUnit) → AreTrees files units → AreIdentifiers units
file_identifiers files units are = identifiers units (trees_named files units are)
