-- If the obligation of every case is valid wherever the contracts that it may use are kept, every case is kept.
use Rattle.std.specs.Prelude.{◌≡◌, ◌<◌, ◌++◌, ℕ, ℤ, true, false, option_map, slice_get, Some, List}
use Rattle.jd_base.specs.declared.sort.Sort.{Sort}
use Rattle.jd_base.specs.declared.sort.Sort.TheVariants.{Int as IntSort}
use Rattle.jd_term.specs.Terms.{sort_of_term}
use Rattle.jd_heap.specs.References.{Reference}
use Rattle.jd_heap.specs.Heaps.{Heap}
use Rattle.jd_heap.specs.Values.{Value}
use Rattle.jd_model.specs.Sequents.{PlainSequent}
use Rattle.jd_model.specs.Programs.{Body, type_sort}
use Rattle.jd_model.specs.Validity.{Valid}
use Rattle.jd_model.specs.Cases.{DeclaredType, Case, SpecifiedProgram}
use Rattle.jd_model.specs.KeptCases.{Entry, KeptTo, KeptFrom, Kept, Usable, measure_of}
use Rattle.jd_model.specs.ContractForms.{PlainCase, PlainContracts}
use Rattle.jd_model.specs.Tables.{HasResult, CaseStandsFor, TablesStandFor}
use Rattle.jd_model.specs.ResolvedBodies.{AllResolved}
use Rattle.jd_oblig.specs.CaseObligations.{ObligationParts, invariant_members, obligation_sequent}

abbrev pub sort_of_result : DeclaredType → Sort
sort_of_result t = type_sort t.type

-- the sequent is the obligation of the case
pub record IsObligationOf (p : SpecifiedProgram) (c : Case) (q : PlainSequent) : Type 0 where
  -- the case's row, the body that it runs, and what the row does not tell
  pub row : PlainCase
  pub body : Body
  pub parts : ObligationParts
  -- the sequent is made of these
  pub sequent : q ≡ obligation_sequent row body parts
  -- the program has this body for the case
  pub runs : p.setting.program.body c.body ≡ Some body
  -- the row's formulas mean what the contract asks
  pub stands : CaseStandsFor p c body row
  -- the row's exits are those of the parts, and both have the receiver's invariant or none has
  pub normal : row.exit ≡ parts.normal ++ invariant_members parts.keeps_invariant
  pub exceptional : row.exceptional ≡ parts.exceptional ++ invariant_members parts.keeps_invariant
  -- the result has the declared sort, in the parts and in the body
  pub result : option_map sort_of_result c.contract.result ≡ parts.result
  pub result_of_body : HasResult parts.result body.result
  -- the measure is an integer
  pub measure : sort_of_term row.measure ≡ IntSort

-- the same of the row that tables have for a case, where these are known to stand for the program
pub record IsMadeOfRow (t : PlainContracts) (p : SpecifiedProgram) (κ : ℕ) (c : Case) (q : PlainSequent) : Type 0 where
  -- the case's row, and what it does not tell
  pub row : PlainCase
  pub parts : ObligationParts
  -- the tables have this row for the case
  pub found : slice_get t.cases κ ≡ Some row
  -- the sequent is made of these and of the body that the program has for the case
  pub sequent : (b : Body) → p.setting.program.body c.body ≡ Some b → q ≡ obligation_sequent row b parts
  -- the row's exits are those of the parts, and both have the receiver's invariant or none has
  pub normal : row.exit ≡ parts.normal ++ invariant_members parts.keeps_invariant
  pub exceptional : row.exceptional ≡ parts.exceptional ++ invariant_members parts.keeps_invariant
  -- the result has the declared sort, in the parts and in the body
  pub result : option_map sort_of_result c.contract.result ≡ parts.result
  pub result_of_body : (b : Body) → p.setting.program.body c.body ≡ Some b → HasResult parts.result b.result
  -- the measure is an integer
  pub measure : sort_of_term row.measure ≡ IntSort

abbrev pub RowsMakeObligations : Type 0
RowsMakeObligations = (t : PlainContracts) (p : SpecifiedProgram) → TablesStandFor t p → (κ : ℕ) (c : Case) → p.case κ ≡ Some c → (q : PlainSequent) → IsMadeOfRow t p κ c q → IsObligationOf p c q

-- a valid obligation carries its case: a box to the depth of calls at which it is valid, a diamond from the entry states
-- of the measure at which it is valid, to each depth and to an end
pub record ObligationsCarry : Type 0 where
  pub to_depth : (p : SpecifiedProgram) → AllResolved p.setting.program → (c : Case) (q : PlainSequent) → IsObligationOf p c q → c.contract.diverges ≡ true → (d : ℕ) (m : ℤ) → Valid p.setting d m q → KeptTo p c d
  pub from_measure : (p : SpecifiedProgram) → AllResolved p.setting.program → (c : Case) (q : PlainSequent) → IsObligationOf p c q → c.contract.diverges ≡ false → (d : ℕ) (m : ℤ) → Valid p.setting d m q → (h : Heap) (r : Reference) (vs : List Value) → Entry p c h r vs → measure_of p c h r vs ≡ m → KeptFrom p c h r vs

-- what the class tables' test of reaching must be
pub record IsReachability (p : SpecifiedProgram) : Type 0 where
  -- each family reaches itself
  pub reflexive : (a : ℕ) → p.reaches a a ≡ true
  -- and what is reached by those that it reaches
  pub transitive : (a b c : ℕ) → p.reaches a b ≡ true → p.reaches b c ≡ true → p.reaches a c ≡ true
  -- there are no more families than the program says
  pub bounded : (κ : ℕ) (c : Case) → p.case κ ≡ Some c → c.family < p.families

-- the sequent is valid at each depth and measure at which the contracts are usable by the case
abbrev pub IsValidWhereUsable : SpecifiedProgram → Case → PlainSequent → Type 0
IsValidWhereUsable p c q = (d : ℕ) (m : ℤ) → Usable p c.family d m → Valid p.setting d m q

-- by the order of families, the measure at the entry and the depth of calls
abbrev pub EveryCaseIsKept : Type 0
EveryCaseIsKept =
    (p : SpecifiedProgram) → AllResolved p.setting.program → IsReachability p → (obligation : ℕ → PlainSequent)
    → ((κ : ℕ) (c : Case) → p.case κ ≡ Some c → IsObligationOf p c (obligation κ))
    → ((κ : ℕ) (c : Case) → p.case κ ≡ Some c → IsValidWhereUsable p c (obligation κ))
    → (κ : ℕ) (c : Case) → p.case κ ≡ Some c → Kept p c
