-- The terms of rows, as plain terms.
use Rattle.jd_syntax.specs.CodeNames.{heap_name}
use Rattle.jd_term.specs.Terms.{PlainTerm, Constant, ProgramVariable}
use Rattle.jd_term.specs.TermViews.{const_view}
use Rattle.jd_model.specs.SpecialNames.{entry_heap, result_variable}
use Rattle.jd_row_makers.specs.declared.terms.Moment.{Moment}
use Rattle.jd_row_makers.specs.declared.terms.Moment.TheVariants as moments
use Rattle.jd_row_makers.specs.declared.terms.Subject.{Subject}
use Rattle.jd_row_makers.specs.declared.terms.Subject.TheVariants as subjects

abbrev pub heap_at : Moment → PlainTerm
heap_at moments.Entry = Constant entry_heap
heap_at moments.End = ProgramVariable heap_name

abbrev pub subject_term : Subject → PlainTerm
subject_term (subjects.Parameter c) = Constant (const_view c.now)
subject_term (subjects.Result s) = ProgramVariable (result_variable s)
