-- The formulas that stand for a case of a contract: of `#hpre`, `#r_this`, the parameters' constants, `@heap`, the result's variable and
-- `@rexc`.
use Rattle.std.specs.Prelude.{ℕ, zero, suc, pos, Option, Some, None, List, [], ◌∷◌, map}
use Rattle.jd_syntax.specs.CodeNames.{heap_name}
use Rattle.jd_term.specs.Terms as terms
use Rattle.jd_term.specs.Terms.{PlainTerm}
use Rattle.jd_model.specs.SpecialNames.{entry_heap, receiver, thrown_variable, result_variable}
use Rattle.jd_model.specs.Programs.{Program, type_sort}
use Rattle.jd_model.specs.Cases.{DeclaredType, Parameter, Contract}
use Rattle.jd_jml_meaning.specs.Meaning.{Now, Before}
use Rattle.jd_jml_meaning.specs.Translation.{Spelling, term, formula, locations}
use Rattle.jd_jml_meaning.specs.JmlContracts.{JmlContract}

abbrev pub constant_at : List Parameter → ℕ → PlainTerm
constant_at [] k = terms.Number (pos 0)
constant_at (x ∷ xs) zero = terms.Constant x.constant
constant_at (x ∷ xs) (suc k) = constant_at xs k

abbrev pub result_term : Option DeclaredType → PlainTerm
result_term None = terms.Number (pos 0)
result_term (Some t) = terms.ProgramVariable (result_variable (type_sort t.type))

abbrev pub contract_spelling : List Parameter → Option DeclaredType → Spelling
contract_spelling xs r = record {
  heap = elim [ Now ↦ terms.ProgramVariable heap_name | Before ↦ terms.Constant entry_heap ];
  argument = λ t. constant_at xs;
  this = terms.Constant receiver;
  result = result_term r;
  thrown = terms.ProgramVariable thrown_variable;
}

module _ (p : Program) (c : JmlContract) where
  abbrev spelling : Spelling
  spelling = contract_spelling c.parameters c.result

  -- `requires`, the locations and the measure are read at the entry
  abbrev pub contract_of : Contract
  contract_of = record {
    role = c.role;
    parameters = c.parameters;
    result = c.result;
    behaviour = c.behaviour;
    requires_ = map (formula p spelling Before) c.requires_;
    ensures_ = map (formula p spelling Now) c.ensures_;
    signals = map (λ e. (e.0, formula p spelling Now e.1)) c.signals;
    signals_only = c.signals_only;
    assignable = locations p spelling Before c.assignable;
    measure = term p spelling Before c.measure;
    diverges = c.diverges;
  }
