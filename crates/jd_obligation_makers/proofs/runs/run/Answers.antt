use Rattle.std.proofs.Common.{subst, sym}
use Rattle.jd_syntax.specs.Codes.{Catch, Frame, PlainCode, Done}
use Rattle.jd_term.specs.Makers.{GivesCode}
use Rattle.jd_model.specs.Contexts.{one}
use Rattle.jd_model.specs.SpecialNames.{thrown_variable}
use Rattle.jd_oblig.specs.CaseObligations.{result_name}
use Rattle.jd_obligation_makers.proofs.runs.run.Goals as goal

pub returns : goal.returns
returns c = λ b is.
    subst (λ (x : PlainCode). GivesCode c.code_in.result (one (Catch (one (Frame (result_name c.args.sort) x)) thrown_variable Done))) (sym is)
    (c.code_in.ensures _ (c.one_stmt-2.ensures _ (c.caught-caught.ensures _ _ _ (c.one_stmt.ensures _ (c.framed-frame.ensures _ _ c.outcome.ensures c.copy.ensures)) c.thrown_variable.ensures c.no_stmts.ensures)))
