-- What code holds, as plain records.
use Rattle.std.specs.Global.{Vec}
use Rattle.std.specs.Prelude.{ℕ, Bool, List, [], ◌++◌, map, option_map, Option}
use Rattle.jd_syntax.specs.SpecTrees.{PlainClause, PlainSpec, clause_view, location_view, spec_block_view, spec_view}
use Rattle.jd_syntax.specs.declared.spec.Marks.{Marks}
use Rattle.jd_syntax.specs.declared.spec.SpecCase.{SpecCase}
use Rattle.jd_syntax.specs.declared.spec.SpecClause.{SpecClause}
use Rattle.jd_specifications.specs.WrittenCases.{cases_from, is_helper, is_nullable, is_pure}
use Rattle.jd_jml_written.specs.Loops.{PlainLoop, clauses_at}
use Rattle.jd_jml_written.specs.Said.{invariant_in, loop_invariant_in, measure_in}
use Rattle.jd_jml_written.specs.declared.loops.Before.{Before, fold-Before}
use Rattle.jd_jml_written.specs.declared.loops.Before.TheOpen.{Before-F}
use Rattle.jd_jml_written.specs.declared.loops.LoopAnn.{LoopAnn}
use Rattle.jd_jml_written.specs.Marked.{PlainCase, PlainMarks, case_of}
use Rattle.jd_jml_written.specs.declared.cases.Sofar.{Sofar}
use Rattle.jd_jml_written.specs.declared.marks.Mark.{Mark}
use Rattle.jd_jml_written.specs.declared.marks.Mark.TheVariants as words
use Rattle.jd_jml_written.specs.declared.said.Wanted.{Wanted}
use Rattle.jd_jml_written.specs.declared.said.Wanted.TheVariants as wanted

abbrev pub marks_view : Marks → PlainMarks
marks_view m = record { is_pure = m.is_pure; is_helper = m.is_helper; nullable_result = m.nullable_result; nullable_params = m.nullable_params.items }

abbrev pub case_view : SpecCase → PlainCase
case_view c = record { declared = c.declared.0; marks = marks_view c.marks; clauses = map clause_view c.clauses.items }

abbrev pub loop_view : LoopAnn → PlainLoop
loop_view l = record { invariants = map spec_view l.invariants.items; decreases = option_map spec_view l.decreases; assignable = map location_view l.assignable.items }

-- the clauses before a loop's labels, in their order
abbrev pub before_layer : Before-F (List PlainClause) → List PlainClause
before_layer Before-F.Nothing = []
before_layer (Before-F.Behind others b) = others.now ++ clauses_at (option_map spec_block_view b.now)

abbrev pub before_view : Before → List PlainClause
before_view = fold-Before (List PlainClause) before_layer

-- the expressions of a kind that a clause says
abbrev pub said_in : Wanted → PlainClause → List PlainSpec
said_in wanted.LoopInvariants = loop_invariant_in
said_in wanted.Measures = measure_in
said_in wanted.Invariants = invariant_in

abbrev pub mark_test : Mark → PlainClause → Bool
mark_test words.Pure = is_pure
mark_test words.Helper = is_helper
mark_test words.Nullable = is_nullable

abbrev pub current_view : Option (Vec SpecClause) → Option (List PlainClause)
current_view o = option_map (λ (v : Vec SpecClause). map clause_view v.items) o

-- the cases of a declaration with this number and these marks, where these clauses are left
abbrev pub ended_by : ℕ → PlainMarks → Sofar → List PlainClause → List PlainCase
ended_by declared marks s cs = map case_view s.done.items ++ map (case_of declared marks) (cases_from (current_view s.current) cs)
