-- What a node's rule makes of the attributes of its parts.
use Rattle.std.specs.Prelude.{ℕ, zero, suc, List, slice_index_or, cond, nat_lt, Bool, Option, Some, None}
use Rattle.jd_grammar.specs.declared.piles.NodeParts.{NodeParts}
use Rattle.jd_jml_tokens.specs.Lexemes.{PlainLexeme, place_of, text_of}
use Rattle.jd_jml_attributes.specs.declared.rows.TheConstants.{ROWS, NO_ROW}
use Rattle.jd_jml_attributes.specs.declared.rows.Rule.{Rule}
use Rattle.jd_jml_attributes.specs.declared.rows.Rule.TheVariants as rules
use Rattle.jd_jml_attributes.specs.Forms.{PlainKind, Same, Name, Other, PlainForm, empty, up, first_of, inside, linked, is_range, in_order}

-- ---- the productions' rows

abbrev pub row_of : ℕ → ℕ × Rule
row_of p = slice_index_or ROWS p NO_ROW

-- ---- parts

abbrev pub all_in_order : PlainForm → NodeParts PlainForm → PlainForm
all_in_order f parts = in_order (in_order (in_order (in_order f parts.first) parts.second) parts.third) parts.fourth

-- those behind the first
abbrev pub rest : NodeParts PlainForm → NodeParts PlainForm
rest parts = record { first = parts.second; second = parts.third; third = parts.fourth; fourth = empty }

-- so many of the first, in order
abbrev pub operands : ℕ → NodeParts PlainForm → PlainForm
operands zero parts = empty
operands (suc zero) parts = in_order empty parts.first
operands (suc (suc n)) parts = in_order (in_order empty parts.first) parts.second

-- those behind them
abbrev pub behind_operands : ℕ → NodeParts PlainForm → NodeParts PlainForm
behind_operands zero parts = parts
behind_operands (suc zero) parts = rest parts
behind_operands (suc (suc n)) parts = rest (rest parts)

-- ---- what they make

abbrev pub of_kind : PlainKind → PlainForm
of_kind kind = record empty { kind = kind }

-- an operand with these in it
abbrev pub above : PlainKind → PlainForm → PlainForm
above kind f = record f { height = up f.height; adds = 0; kind = kind; cast = None }

-- what stands behind an operand, with these in it
abbrev pub suffix : PlainKind → PlainForm → PlainForm
suffix kind f = record f { height = up f.height; adds = 1; kind = kind; cast = None }

-- an expression asks nothing more, and adds no levels
abbrev pub closed : PlainForm → PlainForm
closed f = record f { adds = 0; cast = None }

-- a fault at the token of that number, if this does not hold
abbrev pub asked_at : List PlainLexeme → ℕ → Bool → PlainForm → PlainForm
asked_at ts n holds f = record f { fault = first_of f.fault (cond holds None (Some (place_of n ts))) }

-- an expression in parentheses, and what stands behind it
abbrev pub parenthesized : NodeParts PlainForm → PlainForm
parenthesized parts = closed (all_in_order (above (inside parts.first.kind) (in_order empty parts.first)) (rest parts))

-- what is cast to the class in the parentheses before it
abbrev pub cast_operand : List PlainLexeme → NodeParts PlainForm → PlainForm
cast_operand ts parts = record (above Other (in_order empty parts.first)) { cast = Some (place_of 0 ts) }

-- a sum; whether its range is one is told by the range's first token
abbrev pub sum : List PlainLexeme → NodeParts PlainForm → PlainForm
sum ts parts = asked_at ts 4 (is_range parts.first.kind parts.second.kind) (above Other (all_in_order empty parts))

-- A member or an index of a location, and what stands behind it. The last is the location's own, and no level of an expression.
abbrev pub step_before : PlainKind → NodeParts PlainForm → PlainForm
step_before Same parts = record (in_order parts.first parts.second) { adds = 0; kind = Other; cast = None }
step_before _ parts = in_order (suffix Other (in_order empty parts.first)) parts.second

-- what ends a location
abbrev pub last : NodeParts PlainForm → PlainForm
last parts = record (in_order empty parts.first) { adds = 0; kind = Same; cast = None }

-- what a rule makes of parts
abbrev pub made : Rule → List PlainLexeme → NodeParts PlainForm → PlainForm
made rules.Parts ts parts = all_in_order empty parts
made rules.Expression ts parts = closed (all_in_order empty parts)
made rules.Operand ts parts = of_kind Other
made rules.Identifier ts parts = of_kind (Name (text_of ts))
made rules.Above ts parts = above Other (all_in_order empty parts)
made rules.Parenthesized ts parts = parenthesized parts
made rules.CastOperand ts parts = cast_operand ts parts
made (rules.Suffix n link) ts parts = all_in_order (suffix (linked link parts.first.kind) (operands n parts)) (behind_operands n parts)
made rules.Sum ts parts = sum ts parts
made rules.Step ts parts = step_before parts.second.kind parts
made rules.Last ts parts = last parts

-- the place of what is higher than 200, if no part of it is
abbrev pub high_at : List PlainLexeme → ℕ → Option ℕ → Option ℕ
high_at ts height (Some at) = Some at
high_at ts height None = cond (nat_lt 200 height) (Some (place_of 0 ts)) None

abbrev pub with_high : List PlainLexeme → PlainForm → PlainForm
with_high ts f = record f { high = high_at ts f.height f.high }
