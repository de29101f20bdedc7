-- Nodes of members, classes and files have good values where their parts have.
use Rattle.std.proofs.Common.{◌≡◌, ◌≤◌, ℕ, zero, suc, Bool, true, false, List, [], ◌∷◌, Option, refl, ap, arith}
use Rattle.std.specs.List.{AllByRecursion as Every}
use Rattle.jd_grammar.specs.declared.piles.NodeParts.{NodeParts}
use Rattle.jd_java_tokens.specs.Contents.{PlainLexeme}
use Rattle.jd_java_tokens.specs.Heads.{number_of, place_of}
use Rattle.jd_syntax.specs.JavaTypes.{PlainIdentifier}
use Rattle.jd_syntax.specs.SpecTrees.{PlainSpecBlock}
use Rattle.jd_syntax.specs.JavaTrees.{JavaMember, JavaResult, FieldMember, ConstantMember, MethodMember, OfConstructor}
use Rattle.jd_model.specs.WellFormedHeaps.{in_int}
use Rattle.jd_java_values.specs.Values as values
use Rattle.jd_java_values.specs.Values.{PlainDeclared, PlainValue}
use Rattle.jd_java_values.specs.Parts.{blocks_of, classes_of, declared_of, end_of, members_of, name_of, parameters_of, static_of}
use Rattle.jd_java_values.specs.Parts as part
use Rattle.jd_java_members.specs.declared.action.Action.{Action}
use Rattle.jd_java_members.specs.declared.action.Action.TheVariants as actions
use Rattle.jd_java_members.specs.Meaning.{annotated, annotated_body, int_declaration, is_static, meaning, member_at, member_of, named_declaration, negated}
use Rattle.jd_java_names.proofs.Every.{every_append}
use Rattle.jd_resolved_bodies.proofs.Parts.{literal}
use Rattle.jd_program_laws.specs.Laws.{IsParameterName}
use Rattle.jd_java_lexical.proofs.Good.{Good, GoodClass, GoodDeclared, GoodMember, GoodParameters, GoodParts, more_parameters}
use Rattle.jd_java_lexical.proofs.Statements.{name_part, statements_part}
use Rattle.jd_java_lexical.proofs.Tokens.{TokenSo, number_few}

negated_in_int : (n : ℕ) → n ≤ 2147483648 → in_int (negated n) ≡ true
negated_in_int zero le = refl
negated_in_int (suc n) le = grind (arith)

-- ---- parts

word_part : (v : PlainValue) → Good v → IsParameterName (name_of v).name
word_part (values.Named x) h = h.1
word_part v h = record { bytes = refl; no_this = λ e. cc }

declared_part : (v : PlainValue) → Good v → GoodDeclared (declared_of v)
declared_part (values.Declared d) h = h
declared_part v h = tt

parameters_part : (v : PlainValue) → Good v → GoodParameters (parameters_of v)
parameters_part (values.Parameters ps) h = h
parameters_part v h = (tt, tt)

number_part : (v : PlainValue) → Good v → part.number_of v ≤ 2147483648
number_part (values.Number n) h = h
number_part v h = omega arith

members_part : (v : PlainValue) → Good v → Every GoodMember (members_of v)
members_part (values.Body ms end) h = h
members_part v h = tt

classes_part : (v : PlainValue) → Good v → Every GoodClass (classes_of v)
classes_part (values.Classes cs) h = h
classes_part v h = tt

constructor_static : (b : Bool) (r : JavaResult) → r ≡ OfConstructor → is_static b r ≡ false
constructor_static b r e = ap (is_static b) e

member_part : (at : ℕ) (static : Bool) (blocks : List PlainSpecBlock) (result : JavaResult) (x : PlainIdentifier) (d : PlainDeclared) → GoodDeclared d → GoodMember (member_of at static blocks result x d)
member_part at static blocks result x (values.FieldNames xs) h = tt
member_part at static blocks result x (values.Constant n) h = h
member_part at static blocks result x (values.Routine ps ss) h = record { parameters_ = h.0; body_ = h.1; instance = constructor_static static result }

member_at_part : (at : ℕ) (static : Bool) (blocks : List PlainSpecBlock) (v : PlainValue) → Good v → Good (member_at at static blocks v)
member_at_part at static blocks (values.Declaration result x d) h = (member_part at static blocks result x d h, tt)
member_at_part at static blocks v h = tt

annotated_part : (ts : List PlainLexeme) (m : JavaMember) → GoodMember m → GoodMember (annotated ts m)
annotated_part ts (FieldMember f) h = tt
annotated_part ts (ConstantMember c) h = h
annotated_part ts (MethodMember m) h = record { parameters_ = h.parameters_; body_ = h.body_; instance = h.instance }

body_part : (ts : List PlainLexeme) (ms : List JavaMember) (end : Option PlainSpecBlock) → Every GoodMember ms → Good (annotated_body ts ms end)
body_part ts [] end h = tt
body_part ts (m ∷ ms) end h = (annotated_part ts m h.0, h.1)

int_part : (ts : List PlainLexeme) (v : PlainValue) → Good v → Good (int_declaration ts v)
int_part ts (values.Declarator array x d) h = h
int_part ts v h = declared_part v h

named_part : (ts : List PlainLexeme) (v : PlainValue) → Good v → Good (named_declaration ts v)
named_part ts (values.Declarator array x d) h = h
named_part ts v h = declared_part v h

-- ---- actions

-- what an action asks of the first token beside
abbrev pub Needs : Action → List PlainLexeme → Type 0
Needs actions.Constant ts = number_of ts ≤ 2147483647
Needs _ ts = Unit {0}

pub acts : (a : Action) (ts : List PlainLexeme) (parts : NodeParts PlainValue) → Every TokenSo ts → GoodParts parts → Needs a ts → Good (meaning a ts parts)
acts actions.Third ts parts so g n = g.third
acts actions.Classes ts parts so g n = every_append GoodClass (classes_of parts.first) (classes_of parts.second) (classes_part parts.first g.first) (classes_part parts.second g.second)
acts actions.NoClasses ts parts so g n = tt
acts actions.Class ts parts so g n = (members_part parts.fourth g.fourth, tt)
acts actions.Modifiers ts parts so g n = tt
acts actions.NoModifiers ts parts so g n = tt
acts actions.Static ts parts so g n = tt
acts actions.Specs ts parts so g n = tt
acts actions.Members ts parts so g n = every_append GoodMember (members_of parts.first) (members_of parts.second) (members_part parts.first g.first) (members_part parts.second g.second)
acts actions.NoMembers ts parts so g n = tt
acts actions.SpecsBefore ts parts so g n = body_part ts (members_of parts.first) (end_of parts.first) (members_part parts.first g.first)
acts actions.Member ts parts so g n = member_at_part (place_of 0 ts) (static_of parts.first) (blocks_of parts.first) parts.second g.second
acts actions.VoidDeclaration ts parts so g n = declared_part parts.second g.second
acts actions.BooleanDeclaration ts parts so g n = declared_part parts.second g.second
acts actions.IntDeclaration ts parts so g n = int_part ts parts.first g.first
acts actions.NamedDeclaration ts parts so g n = named_part ts parts.first g.first
acts actions.Declarator ts parts so g n = declared_part parts.second g.second
acts actions.ArrayDeclarator ts parts so g n = declared_part parts.second g.second
acts actions.Routine ts parts so g n = (parameters_part parts.first g.first, statements_part parts.third g.third)
acts actions.Constant ts parts so g n = literal (number_of ts) n
acts actions.NegatedConstant ts parts so g n = negated_in_int (part.number_of parts.first) (number_part parts.first g.first)
acts actions.Number ts parts so g n = number_few ts so
acts actions.FieldNames ts parts so g n = tt
acts actions.Names ts parts so g n = tt
acts actions.NoNames ts parts so g n = tt
acts actions.Parameters ts parts so g n = more_parameters (parameters_of parts.first) (parameters_of parts.second) (parameters_part parts.first g.first) (parameters_part parts.second g.second)
acts actions.NoParameters ts parts so g n = (tt, tt)
acts actions.Parameter ts parts so g n = ((name_part parts.fourth g.fourth, tt), (word_part parts.fourth g.fourth, tt))
