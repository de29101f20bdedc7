-- What a node of a file, a class or a member stands for, by its action, its tokens from the first on, and what its parts stand for.
use Rattle.std.specs.Prelude.{ℕ, zero, suc, ℤ, pos, negsuc, List, [], ◌∷◌, ◌++◌, Bool, true, false, ◌||◌, cond, Option, Some, None}
use Rattle.jd_grammar.specs.declared.piles.NodeParts.{NodeParts}
use Rattle.jd_java_tokens.specs.Contents.{PlainLexeme}
use Rattle.jd_java_tokens.specs.Heads.{place_of, number_of, run_of, begins_with_run}
use Rattle.jd_syntax.specs.JavaTypes.{PlainIdentifier, PlainWritten, IntType, BooleanType, NamedType}
use Rattle.jd_syntax.specs.SpecTrees.{PlainSpecBlock}
use Rattle.jd_syntax.specs.declared.spec.SpecPlace.{SpecPlace}
use Rattle.jd_syntax.specs.declared.spec.SpecPlace.TheVariants as places
use Rattle.jd_syntax.specs.JavaTrees as java
use Rattle.jd_syntax.specs.JavaTrees.{JavaStmt, JavaResult, JavaParameter, JavaMember, FieldMember, ConstantMember, MethodMember, JavaClass}
use Rattle.jd_java_values.specs.Values.{PlainDeclared, FieldNames, Routine, Constant, PlainValue, Modifiers, Number, Names, Parameters, Declared, Declarator, Declaration, Body, Classes}
use Rattle.jd_java_values.specs.Parts.{name_of, some_name, type_of, statements_of, static_of, blocks_of, names_of, parameters_of, declared_of, members_of, end_of, classes_of}
use Rattle.jd_java_values.specs.Parts as part
use Rattle.jd_java_values.specs.Heads.{identifier_at, type_at, int_type}
use Rattle.jd_java_members.specs.declared.action.Action.{Action}
use Rattle.jd_java_members.specs.declared.action.Action.TheVariants as actions

-- ---- JML: a block at its place; its clauses are read later

abbrev pub block_at : SpecPlace → List PlainLexeme → PlainSpecBlock
block_at place ts = record { place = place; from = (run_of ts).0; to = (run_of ts).1; clauses = [] }

abbrev pub annotated : List PlainLexeme → JavaMember → JavaMember
annotated ts (FieldMember f) = FieldMember (record f { specs = block_at places.Field ts ∷ f.specs })
annotated ts (ConstantMember c) = ConstantMember (record c { specs = block_at places.Field ts ∷ c.specs })
annotated ts (MethodMember m) = MethodMember (record m { specs = block_at places.Method ts ∷ m.specs })

-- JML before the first of these members, or before the closing brace where there is none
abbrev pub annotated_body : List PlainLexeme → List JavaMember → Option PlainSpecBlock → PlainValue
annotated_body ts [] end = Body [] (Some (block_at places.ClassEnd ts))
annotated_body ts (m ∷ ms) end = Body (annotated ts m ∷ ms) end

-- ---- declarations

-- the type of what is given; `void` and a constructor have none
abbrev pub given_type : JavaResult → PlainWritten
given_type (java.Gives t) = t
given_type _ = record { at = 0; written = IntType }

-- a constructor is not static
abbrev pub is_static : Bool → JavaResult → Bool
is_static static java.OfConstructor = false
is_static static _ = static

-- a member that begins at that place, with these modifiers
abbrev pub member_of : ℕ → Bool → List PlainSpecBlock → JavaResult → PlainIdentifier → PlainDeclared → JavaMember
member_of at static blocks result x (FieldNames xs) = FieldMember (record { at = at; specs = blocks; ty = given_type result; names = x ∷ xs })
member_of at static blocks result x (Constant n) = ConstantMember (record { at = at; specs = blocks; name = x; value = n })
member_of at static blocks result x (Routine ps ss) =
    MethodMember (record { at = at; specs = blocks; is_static = is_static static result; result = result; name = x; parameters = ps; body = ss })

abbrev pub member_at : ℕ → Bool → List PlainSpecBlock → PlainValue → PlainValue
member_at at static blocks (Declaration result x d) = Body (member_of at static blocks result x d ∷ []) None
member_at at static blocks _ = Body [] None

-- behind `int`
abbrev pub int_declaration : List PlainLexeme → PlainValue → PlainValue
int_declaration ts (Declarator array x d) = Declaration (java.Gives (type_at ts (int_type array))) x d
int_declaration ts declared = Declaration (java.Gives (type_at ts (int_type false))) (record { at = 0; name = [] }) (declared_of declared)

-- behind a name: of its class, or a constructor
abbrev pub named_declaration : List PlainLexeme → PlainValue → PlainValue
named_declaration ts (Declarator array x d) = Declaration (java.Gives (type_at ts (NamedType (identifier_at ts).name))) x d
named_declaration ts declared = Declaration java.OfConstructor (identifier_at ts) (declared_of declared)

abbrev pub negated : ℕ → ℤ
negated zero = pos zero
negated (suc n) = negsuc n

-- ---- parameters

-- where what may stand behind JML begins
abbrev pub place_behind_run : List PlainLexeme → ℕ
place_behind_run ts = cond (begins_with_run ts) (place_of 1 ts) (place_of 0 ts)

abbrev pub parameter : ℕ → List PlainSpecBlock → PlainWritten → PlainIdentifier → JavaParameter
parameter at blocks t x = record { at = at; specs = blocks; ty = t; name = x }

-- ---- classes

abbrev pub class_of : ℕ → PlainIdentifier → Option PlainIdentifier → List JavaMember → Option PlainSpecBlock → JavaClass
class_of at x parent members end = record { at = at; name = x; parent = parent; members = members; end = end }

-- ---- actions

abbrev pub meaning : Action → List PlainLexeme → NodeParts PlainValue → PlainValue
meaning actions.Third ts parts = parts.third
meaning actions.Classes ts parts = Classes (classes_of parts.first ++ classes_of parts.second)
meaning actions.NoClasses ts parts = Classes []
meaning actions.Class ts parts =
    Classes (class_of (place_of 0 ts) (name_of parts.second) (some_name parts.third) (members_of parts.fourth) (end_of parts.fourth) ∷ [])
meaning actions.Modifiers ts parts =
    Modifiers (static_of parts.first || static_of parts.third) (blocks_of parts.first ++ (blocks_of parts.second ++ blocks_of parts.third))
meaning actions.NoModifiers ts parts = Modifiers false []
meaning actions.Static ts parts = Modifiers true []
meaning actions.Specs ts parts = Modifiers false (block_at places.Modifier ts ∷ [])
meaning actions.Members ts parts = Body (members_of parts.first ++ members_of parts.second) (end_of parts.second)
meaning actions.NoMembers ts parts = Body [] None
meaning actions.SpecsBefore ts parts = annotated_body ts (members_of parts.first) (end_of parts.first)
meaning actions.Member ts parts = member_at (place_of 0 ts) (static_of parts.first) (blocks_of parts.first) parts.second
meaning actions.VoidDeclaration ts parts = Declaration java.Void (name_of parts.first) (declared_of parts.second)
meaning actions.BooleanDeclaration ts parts = Declaration (java.Gives (type_at ts BooleanType)) (name_of parts.first) (declared_of parts.second)
meaning actions.IntDeclaration ts parts = int_declaration ts parts.first
meaning actions.NamedDeclaration ts parts = named_declaration ts parts.first
meaning actions.Declarator ts parts = Declarator false (name_of parts.first) (declared_of parts.second)
meaning actions.ArrayDeclarator ts parts = Declarator true (name_of parts.first) (declared_of parts.second)
meaning actions.Routine ts parts = Declared (Routine (parameters_of parts.first) (statements_of parts.third))
meaning actions.Constant ts parts = Declared (Constant (pos (number_of ts)))
meaning actions.NegatedConstant ts parts = Declared (Constant (negated (part.number_of parts.first)))
meaning actions.Number ts parts = Number (number_of ts)
meaning actions.FieldNames ts parts = Declared (FieldNames (names_of parts.first))
meaning actions.Names ts parts = Names (name_of parts.first ∷ names_of parts.second)
meaning actions.NoNames ts parts = Names []
meaning actions.Parameters ts parts = Parameters (parameters_of parts.first ++ parameters_of parts.second)
meaning actions.NoParameters ts parts = Parameters []
meaning actions.Parameter ts parts =
    Parameters (parameter (place_behind_run ts) (blocks_of parts.first ++ blocks_of parts.second) (type_of parts.third) (name_of parts.fourth) ∷ [])
