-- Which refusal tells which fault.
use Rattle.std.specs.Prelude.{◌≡◌}
use Rattle.jd_tforms.specs.Answers.{Answer, Refused, NoForm, UnknownSymbol, SortMismatch, TooDeep}
use Rattle.jd_tread.specs.declared.refusal.TermRefusal.{TermRefusal}
use Rattle.jd_tread.specs.declared.refusal.TermRefusal.TheVariants as refusals

-- want of memory tells nothing of the expression
abbrev pub IsFault : {T : Type 0} → TermRefusal → Answer T → Type 0
IsFault refusals.Syntax a = a ≡ Refused NoForm
IsFault refusals.UnknownSymbol a = a ≡ Refused UnknownSymbol
IsFault refusals.SortMismatch a = a ≡ Refused SortMismatch
IsFault refusals.TooDeep a = a ≡ Refused TooDeep
IsFault refusals.NoMemory a = Unit {0}
