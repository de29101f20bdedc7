-- What the nodes of declarations have, where their parts have it.
use Rattle.std.proofs.Common.{ℕ, List, [], ◌∷◌, Bool, Option}
use Rattle.std.specs.List.{AllByRecursion as Every}
use Rattle.jd_java_tokens.specs.Contents.{PlainLexeme}
use Rattle.jd_syntax.specs.JavaTypes.{PlainIdentifier}
use Rattle.jd_syntax.specs.SpecTrees.{PlainSpecBlock}
use Rattle.jd_syntax.specs.JavaTrees.{JavaResult, JavaMember, FieldMember, ConstantMember, MethodMember}
use Rattle.jd_java_values.specs.Values as values
use Rattle.jd_java_values.specs.Values.{PlainDeclared, PlainValue}
use Rattle.jd_java_values.specs.Parts.{members_of}
use Rattle.jd_java_values.specs.Heads.{identifier_at}
use Rattle.jd_java_members.specs.Meaning.{annotated, annotated_body, member_of, member_at, int_declaration, named_declaration}
use Rattle.jd_java_names.proofs.Named.{IsNamed, MemberIsNamed, MoreAreNamed, DeclarationIsNamed, IntIsNamed, BehindIsNamed}

annotated_named : (ts : List PlainLexeme) (m : JavaMember) → MemberIsNamed m → MemberIsNamed (annotated ts m)
annotated_named ts (FieldMember f) h = h
annotated_named ts (ConstantMember c) h = h
annotated_named ts (MethodMember m) h = h

pub body_named : (ts : List PlainLexeme) (ms : List JavaMember) (end : Option PlainSpecBlock) → Every MemberIsNamed ms
    → Every MemberIsNamed (members_of (annotated_body ts ms end))
body_named ts [] end h = tt
body_named ts (m ∷ ms) end h = (annotated_named ts m h.0, h.1)

one_named : (at : ℕ) (static : Bool) (blocks : List PlainSpecBlock) (result : JavaResult) (x : PlainIdentifier) (d : PlainDeclared) → IsNamed x → MoreAreNamed d
    → MemberIsNamed (member_of at static blocks result x d)
one_named at static blocks result x (values.FieldNames xs) h g = (h, g)
one_named at static blocks result x (values.Constant n) h g = h
one_named at static blocks result x (values.Routine ps ss) h g = h

pub member_named : (at : ℕ) (static : Bool) (blocks : List PlainSpecBlock) (v : PlainValue) → DeclarationIsNamed v
    → Every MemberIsNamed (members_of (member_at at static blocks v))
member_named at static blocks (values.Declaration result x d) h = (one_named at static blocks result x d h.0 h.1, tt)
member_named at static blocks v h = tt

pub int_named : (ts : List PlainLexeme) (v : PlainValue) → IntIsNamed v → DeclarationIsNamed (int_declaration ts v)
int_named ts (values.Declarator array x d) h = h
int_named ts v h = absurd h

pub behind_named : (ts : List PlainLexeme) (v : PlainValue) → IsNamed (identifier_at ts) → BehindIsNamed v
    → DeclarationIsNamed (named_declaration ts v)
behind_named ts (values.Declarator array x d) name h = h
behind_named ts v name h = (name, h)
