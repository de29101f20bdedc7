-- Nodes of members, classes and files have good values where their parts have, and where the names of parameters are words.
use Rattle.std.proofs.Common.{ℕ, Bool, List, [], ◌∷◌, Option}
use Rattle.std.specs.List.{AllByRecursion as Every}
use Rattle.jd_grammar.specs.declared.piles.NodeParts.{NodeParts}
use Rattle.jd_java_tokens.specs.Contents.{PlainLexeme}
use Rattle.jd_java_tokens.specs.Heads.{place_of}
use Rattle.jd_syntax.specs.JavaTypes.{PlainIdentifier}
use Rattle.jd_syntax.specs.SpecTrees.{PlainSpecBlock}
use Rattle.jd_syntax.specs.JavaTrees.{JavaMember, JavaResult, FieldMember, ConstantMember, MethodMember}
use Rattle.jd_java_values.specs.Values as values
use Rattle.jd_java_values.specs.Values.{PlainDeclared, PlainValue}
use Rattle.jd_java_values.specs.Parts.{blocks_of, classes_of, declared_of, end_of, members_of, parameters_of, static_of}
use Rattle.jd_java_members.specs.declared.action.Action.{Action}
use Rattle.jd_java_members.specs.declared.action.Action.TheVariants as actions
use Rattle.jd_java_members.specs.Meaning.{annotated, annotated_body, int_declaration, meaning, member_at, member_of, named_declaration}
use Rattle.jd_java_names.proofs.Every.{every_append}
use Rattle.jd_variable_words.specs.Words.{ParametersHaveWords}
use Rattle.jd_variable_words.proofs.Good.{Good, GoodClass, GoodDeclared, GoodMember, GoodParts, more_parameters}
use Rattle.jd_variable_words.proofs.Statements.{Called, statements_part}

-- ---- parts

declared_part : (v : PlainValue) → Good v → GoodDeclared (declared_of v)
declared_part (values.Declared d) h = h
declared_part v h = tt

parameters_part : (v : PlainValue) → Good v → ParametersHaveWords (parameters_of v)
parameters_part (values.Parameters ps) h = h
parameters_part v h = tt

members_part : (v : PlainValue) → Good v → Every GoodMember (members_of v)
members_part (values.Body ms end) h = h
members_part v h = tt

classes_part : (v : PlainValue) → Good v → Every GoodClass (classes_of v)
classes_part (values.Classes cs) h = h
classes_part v h = tt

member_part : (at : ℕ) (static : Bool) (blocks : List PlainSpecBlock) (result : JavaResult) (x : PlainIdentifier) (d : PlainDeclared) → GoodDeclared d → GoodMember (member_of at static blocks result x d)
member_part at static blocks result x (values.FieldNames xs) h = tt
member_part at static blocks result x (values.Constant n) h = tt
member_part at static blocks result x (values.Routine ps ss) h = record { parameters_ = h.0; body_ = h.1 }

member_at_part : (at : ℕ) (static : Bool) (blocks : List PlainSpecBlock) (v : PlainValue) → Good v → Good (member_at at static blocks v)
member_at_part at static blocks (values.Declaration result x d) h = (member_part at static blocks result x d h, tt)
member_at_part at static blocks v h = tt

annotated_part : (ts : List PlainLexeme) (m : JavaMember) → GoodMember m → GoodMember (annotated ts m)
annotated_part ts (FieldMember f) h = tt
annotated_part ts (ConstantMember c) h = tt
annotated_part ts (MethodMember m) h = record { parameters_ = h.parameters_; body_ = h.body_ }

body_part : (ts : List PlainLexeme) (ms : List JavaMember) (end : Option PlainSpecBlock) → Every GoodMember ms → Good (annotated_body ts ms end)
body_part ts [] end h = tt
body_part ts (m ∷ ms) end h = (annotated_part ts m h.0, h.1)

int_part : (ts : List PlainLexeme) (v : PlainValue) → Good v → Good (int_declaration ts v)
int_part ts (values.Declarator array x d) h = h
int_part ts v h = declared_part v h

named_part : (ts : List PlainLexeme) (v : PlainValue) → Good v → Good (named_declaration ts v)
named_part ts (values.Declarator array x d) h = h
named_part ts v h = declared_part v h

third_part : (parts : NodeParts PlainValue) → GoodParts parts → Good parts.third
third_part parts g = g.third

-- ---- actions

-- which part of it is the name of a parameter
abbrev pub Needs : Action → NodeParts PlainValue → Type 0
Needs actions.Parameter parts = Called parts.fourth
Needs a parts = Unit {0}

pub acts : (a : Action) (ts : List PlainLexeme) (parts : NodeParts PlainValue) → GoodParts parts → Needs a parts → Good (meaning a ts parts)
acts actions.Third ts parts g n = third_part parts g
acts actions.Classes ts parts g n = every_append GoodClass (classes_of parts.first) (classes_of parts.second) (classes_part parts.first g.first) (classes_part parts.second g.second)
acts actions.NoClasses ts parts g n = tt
acts actions.Class ts parts g n = (members_part parts.fourth g.fourth, tt)
acts actions.Modifiers ts parts g n = tt
acts actions.NoModifiers ts parts g n = tt
acts actions.Static ts parts g n = tt
acts actions.Specs ts parts g n = tt
acts actions.Members ts parts g n = every_append GoodMember (members_of parts.first) (members_of parts.second) (members_part parts.first g.first) (members_part parts.second g.second)
acts actions.NoMembers ts parts g n = tt
acts actions.SpecsBefore ts parts g n = body_part ts (members_of parts.first) (end_of parts.first) (members_part parts.first g.first)
acts actions.Member ts parts g n = member_at_part (place_of 0 ts) (static_of parts.first) (blocks_of parts.first) parts.second g.second
acts actions.VoidDeclaration ts parts g n = declared_part parts.second g.second
acts actions.BooleanDeclaration ts parts g n = declared_part parts.second g.second
acts actions.IntDeclaration ts parts g n = int_part ts parts.first g.first
acts actions.NamedDeclaration ts parts g n = named_part ts parts.first g.first
acts actions.Declarator ts parts g n = declared_part parts.second g.second
acts actions.ArrayDeclarator ts parts g n = declared_part parts.second g.second
acts actions.Routine ts parts g n = (parameters_part parts.first g.first, statements_part parts.third g.third)
acts actions.Constant ts parts g n = tt
acts actions.NegatedConstant ts parts g n = tt
acts actions.Number ts parts g n = tt
acts actions.FieldNames ts parts g n = tt
acts actions.Names ts parts g n = tt
acts actions.NoNames ts parts g n = tt
acts actions.Parameters ts parts g n = more_parameters (parameters_of parts.first) (parameters_of parts.second) (parameters_part parts.first g.first) (parameters_part parts.second g.second)
acts actions.NoParameters ts parts g n = tt
acts actions.Parameter ts parts g n = (n, tt)
