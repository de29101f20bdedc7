-- What clauses and words are to the cases of a contract, and to the invariants.
use Rattle.std.specs.Prelude.{List, Option, None}
use Rattle.jd_syntax.specs.SpecTrees.{PlainClause, Also, LoopInvariant, Decreases, Invariant, Pure, Helper, Nullable, NonNull, SpecPublic, SpecProtected}
use Rattle.jd_specifications.specs.WrittenCases.{cases_from, joined, more}
use Rattle.jd_jml_written.specs.declared.cases.Part.{Part}
use Rattle.jd_jml_written.specs.declared.cases.Part.TheVariants as parts

abbrev pub part_of : PlainClause → Part
part_of (Also at) = parts.Next
part_of (LoopInvariant at e) = parts.Word
part_of (Decreases at e) = parts.Word
part_of (Invariant at e) = parts.Word
part_of (Pure at) = parts.Word
part_of (Helper at) = parts.Word
part_of (Nullable at) = parts.Word
part_of (NonNull at) = parts.Word
part_of (SpecPublic at) = parts.Word
part_of (SpecProtected at) = parts.Word
part_of c = parts.Clause

-- the cases from a clause on, by what it is
abbrev pub cases_by : Part → Option (List PlainClause) → PlainClause → List PlainClause → List (List PlainClause)
cases_by parts.Next sofar c cs = joined sofar (cases_from None cs)
cases_by parts.Clause sofar c cs = cases_from (more sofar c) cs
cases_by parts.Word sofar c cs = cases_from sofar cs
