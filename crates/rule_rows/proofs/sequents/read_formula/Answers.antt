use Rattle.jd_syntax.specs.Sxs.{sx_view}
use Rattle.jd_tforms.specs.Answers.{formula_answer}
use Rattle.jd_tparse.specs.Names.{table_of}
use Rattle.jd_tread.specs.Faults.{IsFault}
use Rattle.rule_rows.proofs.Spelled.{read_spelled}
use Rattle.rule_rows.proofs.sequents.read_formula.Goals as goal

pub returns : goal.returns
returns c =
    read_spelled (table_of c.args.names.now) (sx_view c.args.part.now) c.parse_formula.result (λ e. IsFault e (formula_answer (table_of c.args.names.now) (sx_view c.args.part.now))) c.parse_formula.ensures
