use Rattle.std.proofs.Common.{inl, inr}
use Rattle.jd_syntax.specs.JavaTypes.{identifier_view}
use Rattle.jd_specifications.specs.WrittenCases as plain
use Rattle.jd_case_clauses.proofs.Large.{many_levels}
use Rattle.jd_case_clauses.proofs.throwing.only.Goals as goal

pub returns-then-xs-gt-LEVEL_LIMIT-clause-why : goal.returns-then-xs-gt-LEVEL_LIMIT-clause-why
returns-then-xs-gt-LEVEL_LIMIT-clause-why g c = λ limit. inl (inr (many_levels identifier_view (plain.class_of (g.D.Declares.declarations c.args.d.now)) c.args.xs.now 1000 c.if-xs-gt-LEVEL_LIMIT.true))
