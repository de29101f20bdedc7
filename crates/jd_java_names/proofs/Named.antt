-- Values in which each declared name is an identifier, and what a node of each name of the grammar has of this.
use Rattle.std.proofs.Common.{◌≡◌, ℕ, List, [], ◌∷◌, ◌==◌, true, cond, slice_index_or}
use Rattle.std.specs.List.{AllByRecursion as Every}
use Rattle.jd_java_grammar.specs.declared.names.TheConstants as names
use Rattle.jd_syntax.specs.JavaTypes.{PlainIdentifier}
use Rattle.jd_syntax.specs.JavaTrees.{JavaMember, FieldMember, ConstantMember, MethodMember, JavaClass, JavaUnit}
use Rattle.jd_java_values.specs.Values as values
use Rattle.jd_java_values.specs.Values.{PlainDeclared, PlainValue}
use Rattle.jd_java_values.specs.Parts.{name_of, names_of, declared_of, members_of, classes_of}
use Rattle.jd_names.specs.Identifiers.{is_identifier}

-- ---- trees

abbrev pub IsNamed : PlainIdentifier → Type 0
IsNamed x = is_identifier x.name ≡ true

abbrev pub MemberIsNamed : JavaMember → Type 0
MemberIsNamed (FieldMember f) = Every IsNamed f.names
MemberIsNamed (ConstantMember c) = IsNamed c.name
MemberIsNamed (MethodMember m) = IsNamed m.name

abbrev pub ClassIsNamed : JavaClass → Type 0
ClassIsNamed c = IsNamed c.name × Every MemberIsNamed c.members

abbrev pub UnitIsNamed : JavaUnit → Type 0
UnitIsNamed u = Every ClassIsNamed u.classes

-- ---- values

-- what stands behind a member's name
abbrev pub MoreAreNamed : PlainDeclared → Type 0
MoreAreNamed (values.FieldNames xs) = Every IsNamed xs
MoreAreNamed _ = Unit {0}

-- a declaration
abbrev pub DeclarationIsNamed : PlainValue → Type 0
DeclarationIsNamed (values.Declaration result x d) = IsNamed x × MoreAreNamed d
DeclarationIsNamed _ = Unit {0}

-- what stands behind `int`
abbrev pub IntIsNamed : PlainValue → Type 0
IntIsNamed (values.Declarator array x d) = IsNamed x × MoreAreNamed d
IntIsNamed _ = ⊥

-- what stands behind the name that a declaration begins with
abbrev pub BehindIsNamed : PlainValue → Type 0
BehindIsNamed (values.Declarator array x d) = IsNamed x × MoreAreNamed d
BehindIsNamed v = MoreAreNamed (declared_of v)

-- ---- by name of the grammar

pub data Role : Type 0 where
  Other : Role
  Classes : Role
  Members : Role
  Declaration : Role
  IntDeclaration : Role
  BehindName : Role
  More : Role
  Names : Role
  Identifier : Role

abbrev pub has_role : Role → PlainValue → Type 0
has_role Other v = Unit {0}
has_role Classes v = Every ClassIsNamed (classes_of v)
has_role Members v = Every MemberIsNamed (members_of v)
has_role Declaration v = DeclarationIsNamed v
has_role IntDeclaration v = IntIsNamed v
has_role BehindName v = BehindIsNamed v
has_role More v = MoreAreNamed (declared_of v)
has_role Names v = Every IsNamed (names_of v)
has_role Identifier v = IsNamed (name_of v)

-- of the first names, in their order; those behind them have no part in what is declared, but for the last
abbrev pub roles : List Role
roles =
    Classes
    ∷ Other
    ∷ Classes
    ∷ Classes
    ∷ Other
    ∷ Other
    ∷ Other
    ∷ Members
    ∷ Members
    ∷ Members
    ∷ Other
    ∷ Other
    ∷ Declaration
    ∷ IntDeclaration
    ∷ BehindName
    ∷ More
    ∷ More
    ∷ Other
    ∷ More
    ∷ Names
    ∷ More
    ∷ []

abbrev pub role_of : ℕ → Role
role_of a = cond (a == names.IDENTIFIER) Identifier (slice_index_or roles a Other)

-- a node of that name has this value
abbrev pub Shown : ℕ → PlainValue → Type 0
Shown a v = has_role (role_of a) v
