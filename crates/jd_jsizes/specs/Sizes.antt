-- The sizes of the trees of files.
use Rattle.std.specs.Prelude.{ℕ, suc, ◌+◌, ◌*◌, ◌≤◌, List, [], ◌∷◌, length}
use Rattle.std.specs.List.{All}
use Rattle.jd_lex.specs.Parts as lexed
use Rattle.jd_lex.specs.Lexing.{Spells}
use Rattle.jd_syntax.specs.JavaTrees.{JavaMember, FieldMember, ConstantMember, MethodMember, JavaClass, JavaUnit}
use Rattle.jd_grammar.specs.Grammars.{Forest}
use Rattle.jd_java_trees.specs.Meaning.{unit_of}
use Rattle.jd_jparse.specs.Parses.{Derives, seen}
use Rattle.jd_jclasses.specs.Classes.{declared_classes}
use Rattle.jd_jclasses.specs.Members.{declared_members}

-- ---- the size of a tree: its classes and members, and the names of its fields

abbrev pub member_size : JavaMember → ℕ
member_size (FieldMember f) = suc (length f.names)
member_size (ConstantMember c) = 1
member_size (MethodMember m) = 1

abbrev pub members_size : List JavaMember → ℕ
members_size [] = 0
members_size (m ∷ ms) = member_size m + members_size ms

abbrev pub class_size : JavaClass → ℕ
class_size c = suc (members_size c.members)

abbrev pub classes_size : List JavaClass → ℕ
classes_size [] = 0
classes_size (c ∷ cs) = class_size c + classes_size cs

abbrev pub unit_size : JavaUnit → ℕ
unit_size u = classes_size u.classes

-- of all files
abbrev pub files_size : List JavaUnit → ℕ
files_size [] = 0
files_size (u ∷ us) = unit_size u + files_size us

-- ---- what is small

abbrev pub TokensAreFew : Type 0
TokensAreFew = (bytes : List ℕ) (tokens : List lexed.Token) → Spells bytes tokens → length tokens ≤ length bytes

abbrev pub TreesAreSmall : Type 0
TreesAreSmall = (tokens : List lexed.Token) (file : Forest) → Derives tokens file → unit_size (unit_of file (seen tokens)) ≤ 2 * length tokens

abbrev pub ClassesAreFew : Type 0
ClassesAreFew = (units : List JavaUnit) → length (declared_classes units) ≤ files_size units

-- each class has no more members
abbrev pub PlacesAreFew : Type 0
PlacesAreFew = (units : List JavaUnit) → All (λ d. length d.tree.members ≤ files_size units) (declared_classes units)

abbrev pub MembersAreFew : Type 0
MembersAreFew = (units : List JavaUnit) → length (declared_members units) ≤ files_size units
