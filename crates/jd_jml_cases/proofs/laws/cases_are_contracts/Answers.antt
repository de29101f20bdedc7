use Rattle.jd_jml_cases.proofs.Agreeing as agreeing
use Rattle.jd_jml_cases.proofs.laws.cases_are_contracts.Goals as goal

pub returns-clause-written : goal.returns-clause-written
returns-clause-written c = agreeing.written_are_contracts

pub returns-clause-cases : goal.returns-clause-cases
returns-clause-cases c = agreeing.cases_are_contracts
