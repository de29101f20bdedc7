-- The tree of a file has identifiers for names, before its JML is read and with it.
use Rattle.std.proofs.Common.{ℕ, List, [], ◌∷◌, sym, subst}
use Rattle.std.specs.List.{AllByRecursion as Every}
use Rattle.jd_lex.specs.Parts.{Token}
use Rattle.jd_lex.specs.Lexing.{Spells}
use Rattle.jd_syntax.specs.JavaTrees.{JavaMember, FieldMember, ConstantMember, MethodMember, JavaClass, JavaUnit}
use Rattle.jd_jparse.specs.Parses.{Reads, seen}
use Rattle.jd_jmlparse.specs.Filled.{bare, bare_member, bare_class}
use Rattle.jd_source.specs.Sources.{IsSource}
use Rattle.jd_files.specs.Files.{AreTrees}
use Rattle.jd_java_names.proofs.Every.{every_mapped, every_before}
use Rattle.jd_java_names.proofs.Named.{MemberIsNamed, ClassIsNamed, UnitIsNamed}
use Rattle.jd_java_names.proofs.Trees.{unit_named}
use Rattle.jd_java_names.proofs.Tokens.{seen_so}

pub read_named : (bytes : List ℕ) (tokens : List Token) (unit : JavaUnit) → Spells bytes tokens → Reads tokens unit → UnitIsNamed unit
read_named bytes tokens unit s r =
    subst UnitIsNamed r.is (unit_named r.file (seen tokens) r.spelled.derived.tree r.spelled.derived.tokens (seen_so bytes tokens s))

-- ---- clauses of JML have no part in it

bare_member_named : (m : JavaMember) → MemberIsNamed m → MemberIsNamed (bare_member m)
bare_member_named (FieldMember f) h = h
bare_member_named (ConstantMember c) h = h
bare_member_named (MethodMember m) h = h

member_before : (m : JavaMember) → MemberIsNamed (bare_member m) → MemberIsNamed m
member_before (FieldMember f) h = h
member_before (ConstantMember c) h = h
member_before (MethodMember m) h = h

bare_class_named : (c : JavaClass) → ClassIsNamed c → ClassIsNamed (bare_class c)
bare_class_named c h = (h.0, every_mapped MemberIsNamed MemberIsNamed bare_member bare_member_named c.members h.1)

class_before : (c : JavaClass) → ClassIsNamed (bare_class c) → ClassIsNamed c
class_before c h = (h.0, every_before MemberIsNamed MemberIsNamed bare_member member_before c.members h.1)

bare_named : (u : JavaUnit) → UnitIsNamed u → UnitIsNamed (bare u)
bare_named u h = every_mapped ClassIsNamed ClassIsNamed bare_class bare_class_named u.classes h

named_before : (u : JavaUnit) → UnitIsNamed (bare u) → UnitIsNamed u
named_before u h = every_before ClassIsNamed ClassIsNamed bare_class class_before u.classes h

-- ---- files

source_named : (bytes : List ℕ) (tree : JavaUnit) → IsSource bytes tree → UnitIsNamed tree
source_named bytes tree s =
    named_before tree (subst UnitIsNamed (sym s.filled.same) (bare_named s.java (read_named bytes s.tokens s.java s.spelled s.read)))

pub trees_named : (files : List (List ℕ)) (units : List JavaUnit) → AreTrees files units → Every UnitIsNamed units
trees_named [] [] h = tt
trees_named [] (u ∷ us) h = absurd h
trees_named (b ∷ bs) [] h = absurd h
trees_named (b ∷ bs) (u ∷ us) h = (source_named b u h.0, trees_named bs us h.1)
