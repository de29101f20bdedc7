-- What a name of the grammar tells, by its role, and what is to be shown of each production.
use Rattle.std.proofs.Common.{◌≡◌, ◌⊎◌, inl, inr, ℕ, ◌+◌, List, [], ◌∷◌, Option, Some, None, slice_index_or}
use Rattle.jd_grammar.specs.Grammars.{Production}
use Rattle.jd_grammar.specs.declared.piles.NodeParts.{NodeParts}
use Rattle.jd_grammar.specs.declared.table.Symbol.{Symbol}
use Rattle.jd_grammar.specs.declared.table.Symbol.TheVariants.{Token, Name}
use Rattle.jd_jml_tokens.specs.Lexemes.{PlainLexeme}
use Rattle.jd_syntax.specs.JavaTypes.{PlainIdentifier}
use Rattle.jd_syntax.specs.SpecTrees.{PlainSpec}
use Rattle.jd_jml_values.specs.Values as values
use Rattle.jd_jml_values.specs.Values.{PlainValue}
use Rattle.jd_jml_values.specs.Parts.{arguments_of}
use Rattle.jd_jml_attributes.specs.Forms as kinds
use Rattle.jd_jml_attributes.specs.Forms.{PlainKind, Same, NameInParentheses, Other, PlainForm, empty}
use Rattle.jd_jml_attributes.specs.Rules as forms_rest
use Rattle.jd_jml_attributes.specs.Rules.{row_of, made}
use Rattle.jd_jml_trees.specs.Meaning.{action_of, meaning_by}
use Rattle.jd_jml_texts.specs.Kept.{rest, IsProperNode}
use Rattle.jd_jml_proper.proofs.Told.{OfExpr, OfRelational, OfAnd, OfTail}
use Rattle.jd_jml_proper.proofs.Rules.{NoFaults}

-- ---- what is told, by name

pub data Role : Type 0 where
  Plain : Role
  Operand : Role
  RelationalTail : Role
  AndTail : Role
  Tail : Role
  Identifier : Role
  Call : Role
  Parenthesis : Role
  OtherKind : Role
  BehindParenthesis : Role

abbrev pub told_by : Role → PlainValue → PlainForm → Type 0
told_by Plain v f = Unit {0}
told_by Operand v f = OfExpr f.kind v
told_by RelationalTail v f = OfRelational f.kind v
told_by AndTail v f = OfAnd f.kind v
told_by Tail v f = OfTail f.kind v
told_by Identifier v f = (x : PlainIdentifier) × (v ≡ values.Named x) × (f.kind ≡ kinds.Name x.name)
told_by Call v f = ((f.kind ≡ Same) × (arguments_of v ≡ None)) ⊎ (f.kind ≡ Other)
told_by Parenthesis v f = (f.kind ≡ NameInParentheses) ⊎ (f.kind ≡ Other)
told_by OtherKind v f = f.kind ≡ Other
told_by BehindParenthesis v f = ((f.kind ≡ Same) ⊎ (f.kind ≡ Other)) × ((d : PlainSpec) → v ≡ values.Expression d → (at : ℕ) × (f.cast ≡ Some at))

-- in the order of the names
abbrev pub roles : List Role
roles =
    Plain
    ∷ Plain
    ∷ Plain
    ∷ Plain
    ∷ Plain
    ∷ Plain
    ∷ Plain
    ∷ Plain
    ∷ Plain
    ∷ Plain
    ∷ Plain
    ∷ Plain
    ∷ Plain
    ∷ Plain
    ∷ Plain
    ∷ Plain
    ∷ Plain
    ∷ Plain
    ∷ Operand
    ∷ Identifier
    ∷ Plain
    ∷ Plain
    ∷ Plain
    ∷ Plain
    ∷ Plain
    ∷ Plain
    ∷ Plain
    ∷ Plain
    ∷ Operand
    ∷ Plain
    ∷ Plain
    ∷ OtherKind
    ∷ OtherKind
    ∷ Plain
    ∷ Plain
    ∷ Plain
    ∷ Plain
    ∷ Operand
    ∷ Tail
    ∷ Operand
    ∷ Tail
    ∷ Operand
    ∷ Tail
    ∷ Operand
    ∷ Tail
    ∷ Operand
    ∷ AndTail
    ∷ Operand
    ∷ Tail
    ∷ Operand
    ∷ RelationalTail
    ∷ Plain
    ∷ Plain
    ∷ Operand
    ∷ Tail
    ∷ Operand
    ∷ Tail
    ∷ Operand
    ∷ Parenthesis
    ∷ Call
    ∷ Tail
    ∷ Plain
    ∷ BehindParenthesis
    ∷ Plain
    ∷ Plain
    ∷ Plain
    ∷ Plain
    ∷ Plain
    ∷ []

abbrev pub Tells : ℕ → PlainValue → PlainForm → Type 0
Tells a v f = told_by (slice_index_or roles a Plain) v f

pub call_kind : {k : PlainKind} {o : Option (List PlainSpec)} → ((k ≡ Same) × (o ≡ None)) ⊎ (k ≡ Other) → (k ≡ Same) ⊎ (k ≡ Other)
call_kind (inl (e, h)) = inl e
call_kind (inr e) = inr e

-- ---- by production

-- the parts of a node tell what their names say, and there are no others
abbrev pub Fits : List Symbol → NodeParts PlainValue → NodeParts PlainForm → Type 0
Fits [] parts forms = (forms.first ≡ empty) × (forms.second ≡ empty) × (forms.third ≡ empty) × (forms.fourth ≡ empty) × (parts.first ≡ values.Nothing)
Fits (Token kind ∷ ss) parts forms = Fits ss parts forms
Fits (Name a ∷ ss) parts forms = Tells a parts.first forms.first × Fits ss (rest values.Nothing parts) (forms_rest.rest forms)

-- a node without fault is proper, and tells what its name says
abbrev pub Shows : ℕ → Production → Type 0
Shows n r =
    (ts : List PlainLexeme) (parts : NodeParts PlainValue) (forms : NodeParts PlainForm) → Fits r.body parts forms → (made (row_of n).1 ts forms).fault ≡ None
    → IsProperNode (action_of n) parts × Tells r.head (meaning_by (action_of n) ts parts) (made (row_of n).1 ts forms)

abbrev pub Each : ℕ → List Production → Type 0
Each n [] = Unit {0}
Each n (r ∷ rs) = Shows n r × Each (n + 1) rs

-- no other forms than those of the names
abbrev pub Ends : List Symbol → NodeParts PlainForm → Type 0
Ends [] forms = (forms.first ≡ empty) × (forms.second ≡ empty) × (forms.third ≡ empty) × (forms.fourth ≡ empty)
Ends (Token kind ∷ ss) forms = Ends ss forms
Ends (Name a ∷ ss) forms = Ends ss (forms_rest.rest forms)

abbrev pub ShowsNone : ℕ → Production → Type 0
ShowsNone n r = (ts : List PlainLexeme) (forms : NodeParts PlainForm) → Ends r.body forms → (made (row_of n).1 ts forms).fault ≡ None → NoFaults forms

abbrev pub EachNone : ℕ → List Production → Type 0
EachNone n [] = Unit {0}
EachNone n (r ∷ rs) = ShowsNone n r × EachNone (n + 1) rs
