-- The attributes of what nodes stand for, and of one thing before another.
use Rattle.std.specs.Prelude.{ℕ, ◌+◌, min, max, Bool, true, false, cond, Option, Some, None}
use Rattle.jd_java_attributes.specs.declared.form.Form.{Form}
use Rattle.jd_java_attributes.specs.declared.form.Kind.{Kind}
use Rattle.jd_java_attributes.specs.declared.form.Kind.TheVariants as kinds
use Rattle.jd_java_attributes.specs.declared.form.Asked.{Asked}
use Rattle.jd_java_attributes.specs.declared.form.Asked.TheVariants as asks

-- heights above 201 are not told apart
abbrev pub plus : ℕ → ℕ → ℕ
plus a b = min (a + b) 201

abbrev pub up : ℕ → ℕ
up n = plus n 1

abbrev pub tokens_of_both : ℕ → ℕ → ℕ
tokens_of_both a b = min (a + b) 4294967295

abbrev pub first_of : Option ℕ → Option ℕ → Option ℕ
first_of (Some p) (Some q) = Some (min p q)
first_of (Some p) None = Some p
first_of None q = q

-- may be assigned
abbrev pub is_target : Kind → Bool
is_target kinds.Name = true
is_target kinds.NameInParentheses = true
is_target kinds.Target = true
is_target _ = false

abbrev pub inside : Kind → Kind
inside kinds.Name = kinds.NameInParentheses
inside kinds.NameInParentheses = kinds.Target
inside kinds.Target = kinds.Target
inside _ = kinds.Other

-- what an operand becomes by what stands behind it
abbrev pub behind : Kind → Kind → Kind
behind operand kinds.Same = operand
behind operand suffix = suffix

-- whether what is asked is so, of an operand
abbrev pub is_met : Kind → Asked → Bool
is_met kinds.Same asked = true
is_met operand asks.Nothing = true
is_met operand (asks.Target at) = is_target operand
is_met kinds.NameInParentheses (asks.Class at) = true
is_met operand (asks.Class at) = false

abbrev pub place_asked : Asked → Option ℕ
place_asked asks.Nothing = None
place_asked (asks.Target at) = Some at
place_asked (asks.Class at) = Some at

-- the place where something is asked that an operand of this kind is not
abbrev pub unmet : Kind → Asked → Option ℕ
unmet operand asked = cond (is_met operand asked) None (place_asked asked)

-- where nothing stands before, the same is asked of what does
abbrev pub asked_behind : Kind → Asked → Asked → Asked
asked_behind kinds.Same before asked = asked
asked_behind operand before asked = before

abbrev pub asked_of_both : Form → Form → Asked
asked_of_both a b = asked_behind a.kind a.asked b.asked

-- the one before the other; where the second stands behind an operand, it is as many levels above the first as it adds
abbrev pub in_order : Form → Form → Form
in_order a b = record {
  tokens = tokens_of_both a.tokens b.tokens;
  height = max (plus a.height b.adds) b.height;
  adds = plus a.adds b.adds;
  nesting = max a.nesting b.nesting;
  kind = behind a.kind b.kind;
  asked = asked_of_both a b;
  fault = first_of (first_of a.fault b.fault) (unmet a.kind b.asked);
  high = first_of a.high b.high;
}
