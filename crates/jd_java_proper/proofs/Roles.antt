-- What a name of the grammar tells, by its role, and what is to be shown of each production.
use Rattle.std.proofs.Common.{◌≡◌, ℕ, ◌+◌, ℤ, List, [], ◌∷◌, false, None, slice_index_or, sym, ap, subst, ◌∙◌}
use Rattle.jd_grammar.specs.Grammars.{Production}
use Rattle.jd_grammar.specs.declared.piles.NodeParts.{NodeParts}
use Rattle.jd_grammar.specs.declared.table.Symbol.{Symbol}
use Rattle.jd_grammar.specs.declared.table.Symbol.TheVariants.{Token, Name}
use Rattle.jd_java_tokens.specs.Contents.{PlainLexeme}
use Rattle.jd_syntax.specs.JavaTrees.{JavaExpr}
use Rattle.jd_java_values.specs.Values as values
use Rattle.jd_java_values.specs.Values.{PlainValue}
use Rattle.jd_java_values.specs.Parts.{suffixes_of, static_of, declared_of}
use Rattle.jd_java_attributes.specs.declared.form.Form.{Form}
use Rattle.jd_java_attributes.specs.declared.form.Asked.TheVariants as asks
use Rattle.jd_java_attributes.specs.declared.heading.Declared.TheVariants as declares
use Rattle.jd_java_attributes.specs.Rules.{row_of}
use Rattle.jd_java_attributes.specs.Headings.{PlainHeading, all_joined, misplaced}
use Rattle.jd_java_attributes.specs.Judging.{PlainAttributes, nothing, fault_of, plain_headings, attributes_by}
use Rattle.jd_java_trees.specs.Meaning.{action_of, meaning_by}
use Rattle.jd_java_texts.specs.Kept.{rest, IsStaticAsDeclared, IsProperNode}
use Rattle.jd_java_proper.proofs.Told.{NoName, OfOperand, OfTail, OfCall, same_is_no_name}
use Rattle.jd_java_proper.proofs.Headings.{DeclaredAs, named_part, declared_part, first_static, second_declared, static_as_declared}
use Rattle.jd_java_proper.proofs.Rules.{first_none}

-- ---- what is told of a form, by name

pub data FormRole : Type 0 where
  Plain : FormRole
  Operand : FormRole
  Tail : FormRole
  Call : FormRole
  NotName : FormRole
  BehindParenthesis : FormRole

abbrev pub form_told : FormRole → PlainValue → Form → Type 0
form_told Plain v f = Unit {0}
form_told Operand v f = OfOperand f.kind v
form_told Tail v f = OfTail f.kind v
form_told Call v f = OfCall f.kind v
form_told NotName v f = NoName f.kind
form_told BehindParenthesis v f = NoName f.kind × ((d : JavaExpr) → v ≡ values.Expression d → (at : ℕ) × (f.asked ≡ asks.Class at))

-- in the order of the names
abbrev pub form_roles : List FormRole
form_roles =
    Plain
    ∷ Plain
    ∷ Plain
    ∷ Plain
    ∷ Plain
    ∷ Plain
    ∷ Plain
    ∷ Plain
    ∷ Plain
    ∷ Plain
    ∷ Plain
    ∷ Plain
    ∷ Plain
    ∷ Plain
    ∷ Plain
    ∷ Plain
    ∷ Plain
    ∷ Plain
    ∷ Plain
    ∷ Plain
    ∷ Plain
    ∷ Plain
    ∷ Plain
    ∷ Plain
    ∷ Plain
    ∷ Plain
    ∷ Plain
    ∷ Plain
    ∷ Plain
    ∷ Plain
    ∷ Plain
    ∷ Plain
    ∷ Plain
    ∷ Plain
    ∷ Plain
    ∷ Plain
    ∷ Plain
    ∷ Plain
    ∷ Plain
    ∷ Plain
    ∷ Plain
    ∷ Plain
    ∷ Plain
    ∷ Plain
    ∷ Plain
    ∷ Plain
    ∷ Plain
    ∷ Plain
    ∷ Plain
    ∷ Plain
    ∷ Plain
    ∷ Plain
    ∷ Plain
    ∷ Plain
    ∷ Plain
    ∷ Plain
    ∷ Plain
    ∷ Plain
    ∷ Plain
    ∷ Plain
    ∷ Operand
    ∷ Tail
    ∷ Operand
    ∷ Tail
    ∷ Operand
    ∷ Tail
    ∷ Operand
    ∷ Tail
    ∷ Operand
    ∷ Tail
    ∷ Operand
    ∷ Tail
    ∷ Plain
    ∷ Operand
    ∷ Tail
    ∷ Operand
    ∷ Tail
    ∷ Operand
    ∷ Plain
    ∷ Operand
    ∷ NotName
    ∷ Plain
    ∷ BehindParenthesis
    ∷ Operand
    ∷ NotName
    ∷ Tail
    ∷ Tail
    ∷ Call
    ∷ Plain
    ∷ Plain
    ∷ Tail
    ∷ Tail
    ∷ Plain
    ∷ []

-- ---- what is told of a heading, by name

pub data HeadingRole : Type 0 where
  Free : HeadingRole
  Still : HeadingRole
  Quiet : HeadingRole
  Modifiers : HeadingRole
  Behind : HeadingRole
  Constant : HeadingRole
  Named : HeadingRole
  Declaration : HeadingRole

abbrev pub heading_told : HeadingRole → PlainValue → PlainHeading → Type 0
heading_told Free v h = Unit {0}
heading_told Still v h = h.is_static ≡ false
heading_told Quiet v h = (h.is_static ≡ false) × (h.declared ≡ declares.Nothing)
heading_told Modifiers v h = (h.is_static ≡ static_of v) × (h.declared ≡ declares.Nothing)
heading_told Behind v h = (h.is_static ≡ false) × DeclaredAs h.declared (declared_of v)
heading_told Constant v h = (h.is_static ≡ false) × ((z : ℤ) × (v ≡ values.Declared (values.Constant z)))
heading_told Named v h = (h.is_static ≡ false) × DeclaredAs h.declared (named_part v)
heading_told Declaration v h = (h.is_static ≡ false) × DeclaredAs h.declared (declared_part v)

-- in the order of the names
abbrev pub heading_roles : List HeadingRole
heading_roles =
    Free
    ∷ Free
    ∷ Free
    ∷ Free
    ∷ Free
    ∷ Modifiers
    ∷ Free
    ∷ Free
    ∷ Free
    ∷ Free
    ∷ Modifiers
    ∷ Quiet
    ∷ Declaration
    ∷ Named
    ∷ Named
    ∷ Behind
    ∷ Constant
    ∷ Still
    ∷ Behind
    ∷ Quiet
    ∷ Behind
    ∷ Still
    ∷ Still
    ∷ Still
    ∷ Still
    ∷ Still
    ∷ Still
    ∷ Still
    ∷ Still
    ∷ Still
    ∷ Still
    ∷ Still
    ∷ Still
    ∷ Still
    ∷ Still
    ∷ Still
    ∷ Still
    ∷ Still
    ∷ Still
    ∷ Still
    ∷ Still
    ∷ Still
    ∷ Still
    ∷ Still
    ∷ Still
    ∷ Still
    ∷ Still
    ∷ Still
    ∷ Still
    ∷ Still
    ∷ Still
    ∷ Still
    ∷ Still
    ∷ Still
    ∷ Still
    ∷ Still
    ∷ Still
    ∷ Still
    ∷ Still
    ∷ Still
    ∷ Still
    ∷ Still
    ∷ Still
    ∷ Still
    ∷ Still
    ∷ Still
    ∷ Still
    ∷ Still
    ∷ Still
    ∷ Still
    ∷ Still
    ∷ Still
    ∷ Still
    ∷ Still
    ∷ Still
    ∷ Still
    ∷ Still
    ∷ Still
    ∷ Still
    ∷ Still
    ∷ Still
    ∷ Still
    ∷ Still
    ∷ Still
    ∷ Still
    ∷ Still
    ∷ Still
    ∷ Still
    ∷ Still
    ∷ Still
    ∷ Still
    ∷ Still
    ∷ Quiet
    ∷ []

abbrev pub Tells : ℕ → PlainValue → PlainAttributes → Type 0
Tells a v u = form_told (slice_index_or form_roles a Plain) v u.form × heading_told (slice_index_or heading_roles a Free) v u.heading

-- ---- parts that are not there

pub missing_static : (u : PlainAttributes) → u ≡ nothing → u.heading.is_static ≡ false
missing_static u e = ap (λ (x : PlainAttributes). x.heading.is_static) e

pub missing_declared : (u : PlainAttributes) → u ≡ nothing → u.heading.declared ≡ declares.Nothing
missing_declared u e = ap (λ (x : PlainAttributes). x.heading.declared) e

pub missing_no_name : (u : PlainAttributes) → u ≡ nothing → NoName u.form.kind
missing_no_name u e n = same_is_no_name (sym (ap (λ (x : PlainAttributes). x.form.kind) e) ∙ n)

pub missing_tail : (u : PlainAttributes) (v : PlainValue) → u ≡ nothing → v ≡ values.Nothing → OfTail u.form.kind v
missing_tail u v e i = (missing_no_name u e, λ s. ap suffixes_of i)

-- a member's `static` is as it is declared
pub member_proper : (us : NodeParts PlainAttributes) (v w : PlainValue) (ts : List PlainLexeme) → heading_told Modifiers v us.first.heading → heading_told Declaration w us.second.heading → us.third ≡ nothing → us.fourth ≡ nothing
    → fault_of (attributes_by (row_of 20) ts us) ≡ None → IsStaticAsDeclared (static_of v) w
member_proper us v w ts (sv, dv) (sw, dw) third fourth q =
    let h = all_joined (plain_headings us) in
    let member_none = (first_none (attributes_by (row_of 20) ts us).form.fault (attributes_by (row_of 20) ts us).heading.fault q).1 in
    let unmisplaced = (first_none h.fault (misplaced h) member_none).1 in
    let t = second_declared (plain_headings us) dv (missing_declared us.third third) (missing_declared us.fourth fourth) in
    let s = first_static (plain_headings us) (static_of v) sv sw (missing_static us.third third) (missing_static us.fourth fourth) in
    subst (λ b. IsStaticAsDeclared b w) s (static_as_declared h.declared h.is_static h.is_final w (subst (λ d. DeclaredAs d (declared_part w)) (sym t) dw) unmisplaced)

-- ---- by production

-- the parts of a node tell what their names say, and there are no others
abbrev pub Fits : List Symbol → NodeParts PlainValue → NodeParts PlainAttributes → Type 0
Fits [] parts us =
    (us.first ≡ nothing) × (us.second ≡ nothing) × (us.third ≡ nothing) × (us.fourth ≡ nothing)
    × (parts.first ≡ values.Nothing) × (parts.second ≡ values.Nothing) × (parts.third ≡ values.Nothing) × (parts.fourth ≡ values.Nothing)
Fits (Token kind ∷ ss) parts us = Fits ss parts us
Fits (Name a ∷ ss) parts us = Tells a parts.first us.first × Fits ss (rest values.Nothing parts) (rest nothing us)

-- a node without fault is proper, and tells what its name says
abbrev pub Shows : ℕ → Production → Type 0
Shows n r =
    (ts : List PlainLexeme) (parts : NodeParts PlainValue) (us : NodeParts PlainAttributes) → Fits r.body parts us → fault_of (attributes_by (row_of n) ts us) ≡ None
    → IsProperNode (action_of n) parts × Tells r.head (meaning_by (action_of n) ts parts) (attributes_by (row_of n) ts us)

abbrev pub Each : ℕ → List Production → Type 0
Each n [] = Unit {0}
Each n (r ∷ rs) = Shows n r × Each (n + 1) rs
