-- What the terms of single words are, and which refusals speak of the text.
use Rattle.std.specs.Prelude.{None, Option, Some, ℤ}
use Rattle.jd_base.specs.declared.sort.Sort.{Sort}
use Rattle.jd_term.specs.Terms.{Constant, Number, PlainTerm}
use Rattle.jd_tread.specs.declared.refusal.TermRefusal.{TermRefusal}
use Rattle.jd_tread.specs.declared.refusal.TermRefusal.TheVariants as refusals

abbrev pub literal_in : PlainTerm → Option ℤ
literal_in (Number z) = Some z
literal_in t = None

abbrev pub constant_sort : PlainTerm → Option Sort
constant_sort (Constant c) = Some c.sort
constant_sort t = None

-- it is no want of memory
abbrev pub IsOfText : TermRefusal → Type 0
IsOfText refusals.NoMemory = ⊥
IsOfText e = Unit {0}
