-- What a node's rule makes of the attributes of its parts.
use Rattle.std.specs.Prelude.{ℕ, zero, suc, List, slice_index_or, cond, nat_lt, ◌||◌, Bool, true, false, Option, Some, None}
use Rattle.jd_java_tokens.specs.Contents.{PlainLexeme}
use Rattle.jd_java_tokens.specs.Heads.{place_of}
use Rattle.jd_java_attributes.specs.declared.form.Form.{Form}
use Rattle.jd_java_attributes.specs.declared.form.Kind.{Kind}
use Rattle.jd_java_attributes.specs.declared.form.Kind.TheVariants as kinds
use Rattle.jd_java_attributes.specs.declared.form.Asked.{Asked}
use Rattle.jd_java_attributes.specs.declared.form.Asked.TheVariants as asks
use Rattle.jd_java_attributes.specs.declared.form.TheConstants.{EMPTY}
use Rattle.jd_java_attributes.specs.declared.rows.TheConstants.{ROWS, NO_ROW}
use Rattle.jd_java_attributes.specs.declared.rows.Rule.{Rule}
use Rattle.jd_java_attributes.specs.declared.rows.Rule.TheVariants as rules
use Rattle.jd_grammar.specs.declared.piles.NodeParts.{NodeParts}
use Rattle.jd_java_attributes.specs.Forms.{in_order, up, first_of, is_target, inside}

-- ---- the productions' rows

abbrev pub row_of : ℕ → ℕ × ℕ × Rule
row_of p = slice_index_or ROWS p NO_ROW

-- ---- parts

abbrev pub all_in_order : Form → NodeParts Form → Form
all_in_order f parts = in_order (in_order (in_order (in_order f parts.first) parts.second) parts.third) parts.fourth

-- those behind the first
abbrev pub rest : NodeParts Form → NodeParts Form
rest parts = record { first = parts.second; second = parts.third; third = parts.fourth; fourth = EMPTY }

-- so many of the first, in order
abbrev pub operands : ℕ → Form → NodeParts Form → Form
operands zero f parts = f
operands (suc zero) f parts = in_order f parts.first
operands (suc (suc n)) f parts = in_order (in_order f parts.first) parts.second

-- those behind them
abbrev pub behind_operands : ℕ → NodeParts Form → NodeParts Form
behind_operands zero parts = parts
behind_operands (suc zero) parts = rest parts
behind_operands (suc (suc n)) parts = rest (rest parts)

-- ---- what they make

-- so many tokens
abbrev pub only_tokens : ℕ → Form
only_tokens n = record EMPTY { tokens = n }

-- an operand of this kind
abbrev pub operand : Kind → Form → Form
operand kind f = record f { kind = kind }

-- one with these in it
abbrev pub above : Kind → Form → Form
above kind f = record f { height = up f.height; adds = 0; kind = kind; asked = asks.Nothing }

-- what stands behind an operand, with these in it
abbrev pub suffix : Kind → Asked → Form → Form
suffix kind asked f = record f { height = up f.height; adds = 1; kind = kind; asked = asked }

-- an expression asks nothing more, and adds no levels
abbrev pub closed : Form → Form
closed f = record f { adds = 0; asked = asks.Nothing }

-- a fault at the token of that number, if this does not hold
abbrev pub asked_at : List PlainLexeme → ℕ → Bool → Form → Form
asked_at ts n holds f = record f { fault = first_of f.fault (cond holds None (Some (place_of n ts))) }

abbrev pub is_effect : Kind → Bool
is_effect kinds.Effect = true
is_effect _ = false

abbrev pub nested : Form → Form
nested f = record f { nesting = up f.nesting }

-- the place of what is higher than 200, if no part of it is
abbrev pub high_at : List PlainLexeme → Form → Option ℕ → Option ℕ
high_at ts f (Some at) = Some at
high_at ts f None = cond (nat_lt 200 f.height || nat_lt 200 f.nesting) (Some (place_of 0 ts)) None

abbrev pub with_high : List PlainLexeme → Form → Form
with_high ts f = record f { high = high_at ts f f.high }

-- `++` before an operand; whether it may be assigned is told by the token behind it
abbrev pub counted : Form → List PlainLexeme → NodeParts Form → Form
counted f ts parts = asked_at ts (in_order f parts.first).tokens (is_target parts.first.kind) (above kinds.Effect (in_order f parts.first))

-- what is cast to the class in the parentheses before it
abbrev pub cast_operand : Form → List PlainLexeme → NodeParts Form → Form
cast_operand f ts parts = record (above kinds.Other (in_order f parts.first)) { asked = asks.Class (place_of 0 ts) }

-- what stands behind a name; whether it makes it a statement is told by the token behind it
abbrev pub name_effect : Form → List PlainLexeme → NodeParts Form → Form
name_effect f ts parts = asked_at ts (all_in_order f parts).tokens (is_effect (all_in_order f parts).kind) (all_in_order f parts)

-- what a rule makes of parts, with so many tokens beside them
abbrev pub made : Rule → ℕ → List PlainLexeme → NodeParts Form → Form
made rules.Expression n ts parts = closed (all_in_order (only_tokens n) parts)
made (rules.Operand kind) n ts parts = closed (all_in_order (operand kind (only_tokens n)) parts)
made (rules.Above m kind) n ts parts = closed (all_in_order (above kind (operands m (only_tokens n) parts)) (behind_operands m parts))
made rules.Parenthesized n ts parts = closed (all_in_order (above (inside parts.first.kind) (in_order (only_tokens n) parts.first)) (rest parts))
made rules.Count n ts parts = counted (only_tokens n) ts parts
made rules.CastOperand n ts parts = cast_operand (only_tokens n) ts parts
made (rules.Suffix m kind) n ts parts = all_in_order (suffix kind asks.Nothing (operands m (only_tokens n) parts)) (behind_operands m parts)
made (rules.TargetSuffix m) n ts parts =
    all_in_order (suffix kinds.Effect (asks.Target (place_of 0 ts)) (operands m (only_tokens n) parts)) (behind_operands m parts)
made rules.EffectFirst n ts parts = asked_at ts parts.first.tokens (is_effect parts.first.kind) (all_in_order (only_tokens n) parts)
made rules.NameEffect n ts parts = name_effect (only_tokens n) ts parts
made rules.Nested n ts parts = nested (all_in_order (only_tokens n) parts)
made rules.Statements n ts parts = all_in_order (only_tokens n) (record parts { first = nested parts.first })
made _ n ts parts = all_in_order (only_tokens n) parts
