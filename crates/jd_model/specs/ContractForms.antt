-- Plain tables of contracts, invariants and bodies, and their views.
use Rattle.std.specs.Prelude.{ℕ, Bool, List, Option, map}
use Rattle.jd_base.specs.declared.sort.Sort.{Sort}
use Rattle.jd_syntax.specs.Names.{Declared, decl_view}
use Rattle.jd_syntax.specs.Codes.{PlainCode}
use Rattle.jd_syntax.specs.CodeViews.{code_view}
use Rattle.jd_term.specs.Terms.{PlainTerm, PlainLoc}
use Rattle.jd_term.specs.TermViews.{term_view, loc_view}
use Rattle.jd_term.specs.Formulas.{PlainFormula, formula_view}
use Rattle.jd_model.specs.declared.contracts.CaseForm.{CaseForm}
use Rattle.jd_model.specs.declared.contracts.InvForm.{InvForm}
use Rattle.jd_model.specs.declared.contracts.BodyForm.{BodyForm}
use Rattle.jd_model.specs.declared.contracts.Contracts.{Contracts}

-- one case of a method's contract for one exact class
pub record PlainCase : Type 0 where
  pub method : ℕ
  pub class : ℕ
  pub number : ℕ
  pub entry : List PlainFormula
  pub exit : List PlainFormula
  pub exceptional : List PlainFormula
  pub frame : PlainLoc
  pub measure : PlainTerm
  pub diverges : Bool

-- the invariants that a class declares itself
pub record PlainInvariant : Type 0 where
  pub class : ℕ
  pub formulas : List PlainFormula

-- a body, whose first variables are `this`, where there is one, and the parameters
pub record PlainBody : Type 0 where
  pub method : ℕ
  pub params : ℕ
  pub vars : List Declared
  pub result : Option Sort
  pub code : PlainCode

pub record PlainContracts : Type 0 where
  pub cases : List PlainCase
  pub invariants : List PlainInvariant
  pub bodies : List PlainBody

abbrev pub case_view : CaseForm → PlainCase
case_view c = record {
  method = c.method.0;
  class = c.class.0;
  number = c.number;
  entry = map formula_view c.entry.items;
  exit = map formula_view c.exit.items;
  exceptional = map formula_view c.exceptional.items;
  frame = loc_view c.frame;
  measure = term_view c.measure;
  diverges = c.diverges;
}

abbrev pub invariant_view : InvForm → PlainInvariant
invariant_view i = record { class = i.class.0; formulas = map formula_view i.formulas.items }

abbrev pub body_view : BodyForm → PlainBody
body_view b = record {
  method = b.method.0;
  params = b.params;
  vars = map decl_view b.vars.items;
  result = b.result;
  code = code_view b.code;
}

abbrev pub contracts_view : Contracts → PlainContracts
contracts_view c = record {
  cases = map case_view c.cases.items;
  invariants = map invariant_view c.invariants.items;
  bodies = map body_view c.bodies.items;
}
