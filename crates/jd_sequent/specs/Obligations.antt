-- Plain obligations and tasks, and their views.
use Rattle.std.specs.Prelude.{ℕ, Bool, List, Option, option_map, map}
use Rattle.jd_syntax.specs.Names.{Name, var_view, Declared, decl_view, const_decl_view}
use Rattle.jd_tgrammar.specs.NameTables.{NameTable}
use Rattle.jd_names.specs.Tables.{name_table}
use Rattle.jd_term.specs.Terms.{PlainTerm, PlainLoc}
use Rattle.jd_term.specs.TermViews.{term_view, loc_view}
use Rattle.jd_term.specs.Formulas.{PlainFormula, formula_view}
use Rattle.jd_model.specs.Sequents.{PlainSequent, sequent_view}
use Rattle.jd_model.specs.ContractForms.{PlainContracts, contracts_view}
use Rattle.jd_task_classes.specs.Classes.{PlainClasses, classes_view}
use Rattle.jd_sequent.specs.declared.obligation.LoopForm.{LoopForm}
use Rattle.jd_sequent.specs.declared.obligation.Obligation.{Obligation}
use Rattle.jd_sequent.specs.declared.task.Task.{Task}

-- what is specified of a loop
pub record PlainLoop : Type 0 where
  pub number : ℕ
  pub scope : List Name
  pub assignable : PlainLoc
  pub invariant : PlainFormula
  pub variant : Option PlainTerm

pub record PlainObligation : Type 0 where
  pub name : List ℕ
  pub class : ℕ
  pub method : ℕ
  pub case : ℕ
  pub vars : List Declared
  pub loops : List PlainLoop
  pub consts : List Name
  pub diamond : Bool
  pub sequent : PlainSequent

-- what the rules may look up beside the sequent
pub record PlainTask : Type 0 where
  pub classes : PlainClasses
  pub contracts : PlainContracts
  pub obligation : PlainObligation

-- what is written for the names that the text of a step of the task may use, and that stand in its sequents
abbrev pub names_of : PlainTask → NameTable
names_of t = name_table t.classes.tables (map (λ (v : Declared). v.name) t.obligation.vars)

abbrev pub loop_view : LoopForm → PlainLoop
loop_view l = record {
  number = l.number;
  scope = map var_view l.scope.items;
  assignable = loc_view l.assignable;
  invariant = formula_view l.invariant;
  variant = option_map term_view l.variant;
}

abbrev pub obligation_view : Obligation → PlainObligation
obligation_view o = record {
  name = o.name.items;
  class = o.class.0;
  method = o.method.0;
  case = o.case;
  vars = map decl_view o.vars.items;
  loops = map loop_view o.loops.items;
  consts = map const_decl_view o.consts.items;
  diamond = o.diamond;
  sequent = sequent_view o.sequent;
}

abbrev pub task_view : Task → PlainTask
task_view t = record { classes = classes_view t.classes.now; contracts = contracts_view t.contracts.now; obligation = obligation_view t.obligation.now }
