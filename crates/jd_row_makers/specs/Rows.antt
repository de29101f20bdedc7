-- Rows of contracts.
use Rattle.std.specs.Prelude.{◌≡◌, ℕ, IfOk, List, ◌++◌, map, option_map}
use Rattle.std.specs.Global.{Vec}
use Rattle.std.specs.declared.result.Result.{Result}
use Rattle.jd_base.specs.declared.memory.NoMemory.{NoMemory}
use Rattle.jd_base.specs.declared.sort.Sort.{Sort}
use Rattle.jd_syntax.specs.CodeNames.{heap_name}
use Rattle.jd_term.specs.Formulas.{PlainFormula, formula_view}
use Rattle.jd_term.specs.Terms.{ProgramVariable}
use Rattle.jd_term.specs.TermViews.{loc_view, term_view}
use Rattle.jd_term.specs.declared.formula.Formula.{Formula}
use Rattle.jd_model.specs.Cases.{Contract, Role, Static, Ordinary, Helper, ConstructorOf}
use Rattle.jd_model.specs.ContractForms.{PlainCase}
use Rattle.jd_model.specs.Programs.{Program, field_sort}
use Rattle.jd_case_rows.specs.Rows.{entry_members, exceptional_members, invariant_members, normal_members, only_member, signalled_members}
use Rattle.jd_row_makers.specs.Heads.{behaviour_view, declared_view, parameter_view, role_view}
use Rattle.jd_row_makers.specs.declared.heads.Clauses.{Clauses}
use Rattle.jd_row_makers.specs.declared.heads.Head.{Head}

-- what was made, if memory sufficed, are these formulas
abbrev pub GivesMembers : Result (Vec Formula) NoMemory → List PlainFormula → Type 0
GivesMembers r x = IfOk r (λ v. map formula_view v.items ≡ x)

-- the contract says this beside its clauses
pub record IsHead (h : Head) (k : Contract) : Type 0 where
  pub role : k.role ≡ role_view h.role
  pub parameters : k.parameters ≡ map parameter_view h.parameters.items
  pub outcome : k.result ≡ option_map declared_view h.result
  pub behaviour : k.behaviour ≡ behaviour_view h.behaviour
  pub diverges : k.diverges ≡ h.diverges

-- these are its clauses
pub record AreClauses (c : Clauses) (k : Contract) : Type 0 where
  pub required : map formula_view c.required.items ≡ k.requires_
  pub ensured : map formula_view c.ensured.items ≡ k.ensures_
  pub signals : map formula_view c.signals.items ≡ signalled_members k.signals
  pub signals_only : map formula_view c.signals_only.items ≡ map only_member k.signals_only
  pub assignable : loc_view c.assignable ≡ k.assignable
  pub measure : term_view c.measure ≡ k.measure

-- a constructor's class has these fields, of these sorts
abbrev pub FieldsAre : Program → (ℕ → List ℕ) → Role → List (ℕ × Sort) → Type 0
FieldsAre p own Static fs = Unit {0}
FieldsAre p own Ordinary fs = Unit {0}
FieldsAre p own Helper fs = Unit {0}
FieldsAre p own (ConstructorOf a) fs = fs ≡ map (λ f. (f, field_sort p f)) (own a)

-- a row of a contract, of each class the fields of its objects being listed
abbrev pub row_with : Program → (ℕ → List ℕ) → ℕ → ℕ → ℕ → Contract → PlainCase
row_with p fields method class number k = record {
  method = method;
  class = class;
  number = number;
  entry = entry_members p fields class k;
  exit = normal_members k ++ invariant_members k.role (ProgramVariable heap_name);
  exceptional = exceptional_members p k ++ invariant_members k.role (ProgramVariable heap_name);
  frame = k.assignable;
  measure = k.measure;
  diverges = k.diverges;
}
