use Rattle.jd_model.proofs.ControlExamples.{return_replaces_exception, method_returns_anyway, exception_goes_on, exception_replaces_return, returned_value_stays, handler_runs, return_passes_handler, stop_passes}
use Rattle.jd_model.proofs.examples.finally_examples.Goals as goal

pub returns-clause-return_replaces_exception : goal.returns-clause-return_replaces_exception
returns-clause-return_replaces_exception c = return_replaces_exception

pub returns-clause-method_returns_anyway : goal.returns-clause-method_returns_anyway
returns-clause-method_returns_anyway c = method_returns_anyway

pub returns-clause-exception_goes_on : goal.returns-clause-exception_goes_on
returns-clause-exception_goes_on c = exception_goes_on

pub returns-clause-exception_replaces_return : goal.returns-clause-exception_replaces_return
returns-clause-exception_replaces_return c = exception_replaces_return

pub returns-clause-returned_value_stays : goal.returns-clause-returned_value_stays
returns-clause-returned_value_stays c = returned_value_stays

pub returns-clause-handler_runs : goal.returns-clause-handler_runs
returns-clause-handler_runs c = handler_runs

pub returns-clause-return_passes_handler : goal.returns-clause-return_passes_handler
returns-clause-return_passes_handler c = return_passes_handler

pub returns-clause-stop_passes : goal.returns-clause-stop_passes
returns-clause-stop_passes c = stop_passes
