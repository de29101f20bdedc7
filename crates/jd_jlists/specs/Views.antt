-- A member of the code as it is declared, and which classes have members that can be numbered.
use Rattle.std.specs.Prelude.{ℕ, ◌<◌, ◌^◌, length}
use Rattle.jd_syntax.specs.JavaTypes.{identifier_view, type_view}
use Rattle.jd_syntax.specs.JavaTrees.{JavaClass, method_view}
use Rattle.jd_jclasses.specs.Classes.{DeclaredClass}
use Rattle.jd_jclasses.specs.Members.{Kind, FieldOf, ConstantOf, RoutineOf, Declared}
use Rattle.jd_jlists.specs.declared.member.MemberKind.{MemberKind}
use Rattle.jd_jlists.specs.declared.member.MemberKind.TheVariants as code
use Rattle.jd_jlists.specs.declared.member.MemberOf.{MemberOf}

abbrev pub kind_view : MemberKind → Kind
kind_view (code.Field t) = FieldOf (type_view t.now)
kind_view (code.Constant n) = ConstantOf n
kind_view (code.Routine m) = RoutineOf (method_view m.now)

abbrev pub member_of_view : MemberOf → Declared
member_of_view m = record { class = m.class; file = m.file; member = m.member; name = identifier_view m.name.now; kind = kind_view m.kind }

-- a class of this file
abbrev pub class_in_file : ℕ → JavaClass → DeclaredClass
class_in_file file c = record { file = file; tree = c }

-- each member's place fits 32 bits
abbrev pub HasFewMembers : JavaClass → Type 0
HasFewMembers c = length c.members < 2 ^ 32
