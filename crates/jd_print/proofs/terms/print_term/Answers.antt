use Rattle.std.proofs.Common.{◌≡◌, IfOk, subst}
use Rattle.jd_term.specs.TermViews.{term_view}
use Rattle.jd_tgrammar.specs.Spelling.{term_text}
use Rattle.jd_print.proofs.Spelled.{printed}
use Rattle.jd_print.proofs.terms.print_term.Goals as goal

pub returns : goal.returns
returns g c =
    subst (λ w. IfOk c.term-out.result.bytes (λ v. v.items ≡ w)) (printed (term_text (g.N.NameTexts.table c.args.names.now) (term_view c.args.term.now)))
    (c.term-out.ensures _ c.new.ensures).0
