-- What it is that tables of cases, invariants and bodies stand for a program.
use Rattle.std.specs.Prelude.{◌≡◌, ◌↔◌, ℕ, Bool, cond, ◌==◌, if◌then◌else◌, List, [], ◌∷◌, ◌++◌, map, take, slice_get, Option, Some, None, codes}
use Rattle.jd_base.specs.declared.sort.Sort.{Sort}
use Rattle.jd_base.specs.declared.sort.Sort.TheVariants.{Int as IntSort, Bool as BoolSort, Ref as RefSort, Heap as HeapSort, Field as FieldSort}
use Rattle.jd_syntax.specs.Names.{Name, Declared}
use Rattle.jd_syntax.specs.CodeNames.{heap_name}
use Rattle.jd_term.specs.Terms.{ProgramVariable}
use Rattle.jd_term.specs.Formulas.{PlainFormula, WellFormed, IsInstance, IsExactInstance}
use Rattle.jd_heap.specs.References.{Reference, Null, Location}
use Rattle.jd_heap.specs.Values.{Value, RefValue, as_ref, as_heap}
use Rattle.jd_model.specs.SpecialNames.{entry_heap, entry_measure, receiver, thrown_variable, result_variable}
use Rattle.jd_model.specs.States.{State, read, heap_of}
use Rattle.jd_model.specs.Programs.{Body, type_sort}
use Rattle.jd_model.specs.TermValues.{value, within}
use Rattle.jd_model.specs.Validity.{AllTrue}
use Rattle.jd_model.specs.Occurrences.{AllApart}
use Rattle.jd_model.specs.Renamings.{AllFirstOrder}
use Rattle.jd_model.specs.Cases.{DeclaredType, Parameter, Role, Static, Case, SpecifiedProgram}
use Rattle.jd_model.specs.EntryExit.{EntryAs, NormalEnd, ExceptionalEnd, normal_moment, thrown_moment, assignable_at, measure_at}
use Rattle.jd_model.specs.ContractForms.{PlainCase, PlainInvariant, PlainBody, PlainContracts}

-- the letter of a constant's sort
abbrev pub sort_letter : Sort → List ℕ
sort_letter IntSort = codes "i"
sort_letter BoolSort = codes "b"
sort_letter RefSort = codes "r"
sort_letter HeapSort = codes "h"
sort_letter FieldSort = codes "f"

-- a variable's source name: what stands before the mark of later variables of the name
abbrev pub source_name : List ℕ → List ℕ
source_name [] = []
source_name (b ∷ bs) = if b == 39 then [] else (b ∷ source_name bs)

-- the constant of a parameter: `#`, the letter of its sort, `_` and its source name
abbrev pub parameter_constant : Name → Name
parameter_constant x = record { text = codes "#" ++ (sort_letter x.sort ++ (codes "_" ++ source_name x.text)); sort = x.sort }

abbrev pub constants_of_parameters : List Name → List Name
constants_of_parameters xs = map parameter_constant xs

-- an instance in place of the class itself, as at a call
abbrev pub loosened : PlainFormula → PlainFormula
loosened (IsExactInstance k o) = IsInstance k o
loosened a = a

abbrev pub members : Bool → List PlainFormula → List PlainFormula
members exactly l = cond exactly l (map loosened l)

-- what an interpretation and a state say of the moment
abbrev pub receiver_in : Role → State → Reference
receiver_in Static i = Null
receiver_in r i = as_ref (read i receiver)

abbrev pub result_in : Option DeclaredType → State → Value
result_in None s = RefValue Null
result_in (Some t) s = read s (result_variable (type_sort t.type))

-- the parameters' variables have the declared sorts
abbrev pub SortsOf : List Name → List Parameter → Type 0
SortsOf [] [] = Unit {0}
SortsOf (x ∷ xs) (p ∷ ps) = (x.sort ≡ type_sort p.declared.type) × SortsOf xs ps
SortsOf xs ps = ⊥

module _ (p : SpecifiedProgram) where
  -- each of the case's formulas is true exactly where its part of entry and exit holds, the frame holds the assignable
  -- locations and the measure has its value; the formulas are in the names of the parameters of the body that runs
  pub record CaseStandsFor (c : Case) (b : Body) (f : PlainCase) : Type 0 where
    pub method : f.method ≡ c.method
    pub class : f.class ≡ c.class
    pub number : f.number ≡ c.number
    pub diverges : f.diverges ≡ c.contract.diverges
    pub sorts : SortsOf b.parameters c.contract.parameters
    pub apart : AllApart (entry_measure ∷ entry_heap ∷ receiver ∷ constants_of_parameters b.parameters)
    pub entry_first_order : AllFirstOrder (map loosened f.entry)
    pub exit_first_order : AllFirstOrder f.exit
    pub exceptional_first_order : AllFirstOrder f.exceptional
    pub entry : (exactly : Bool) (d : ℕ) (i s : State) → AllTrue p.setting d i s [] (members exactly f.entry) ↔ EntryAs p.setting exactly c.contract c.class (as_heap (read i entry_heap)) (receiver_in c.contract.role i) (map (read i) (constants_of_parameters b.parameters))
    pub exit : (d : ℕ) (i s : State) → AllTrue p.setting d i s [] (WellFormed (ProgramVariable heap_name) ∷ f.exit) ↔ NormalEnd p.setting c.contract (normal_moment p.setting (as_heap (read i entry_heap)) (receiver_in c.contract.role i) (map (read i) (constants_of_parameters b.parameters)) (heap_of s) (result_in c.contract.result s))
    pub exceptional : (d : ℕ) (i s : State) → AllTrue p.setting d i s [] (WellFormed (ProgramVariable heap_name) ∷ f.exceptional) ↔ ExceptionalEnd p.setting c.contract (thrown_moment p.setting (as_heap (read i entry_heap)) (receiver_in c.contract.role i) (map (read i) (constants_of_parameters b.parameters)) (heap_of s) (as_ref (read s thrown_variable)))
    pub frame : (i s : State) (q : Location) → within i s [] f.frame q ≡ assignable_at p.setting c.contract (as_heap (read i entry_heap)) (receiver_in c.contract.role i) (map (read i) (constants_of_parameters b.parameters)) q
    pub measure : (i s : State) → value i s [] f.measure ≡ measure_at p.setting c.contract (as_heap (read i entry_heap)) (receiver_in c.contract.role i) (map (read i) (constants_of_parameters b.parameters))

  -- there is a row exactly where there is a case, with the body that it runs
  abbrev pub CaseAt : Option PlainCase → Option Case → Type 0
  CaseAt None None = Unit {0}
  CaseAt (Some f) (Some c) = (b : Body) × (p.setting.program.body c.body ≡ Some b) × CaseStandsFor c b f
  CaseAt f c = ⊥

-- a class's own invariants in the table
abbrev pub invariants_in : List PlainInvariant → ℕ → List PlainFormula
invariants_in [] c = []
invariants_in (i ∷ is) c = if i.class == c then i.formulas else invariants_in is c

abbrev pub body_in : List PlainBody → ℕ → Option PlainBody
body_in [] m = None
body_in (b ∷ bs) m = if b.method == m then Some b else body_in bs m

-- a body's receiver and parameters are the first variables, and its code and the sort of its result are the row's
abbrev pub receiver_then : Option Name → List Name → List Name
receiver_then None xs = xs
receiver_then (Some x) xs = x ∷ xs

abbrev pub HasResult : Option Sort → Sort → Type 0
HasResult None k = Unit {0}
HasResult (Some s) k = s ≡ k

abbrev pub BodyAt : Option PlainBody → Option Body → Type 0
BodyAt None None = Unit {0}
BodyAt (Some f) (Some b) = (map (λ (v : Declared). v.name) (take f.params f.vars) ≡ receiver_then b.receiver b.parameters) × HasResult f.result b.result × (f.code ≡ b.code)
BodyAt f b = ⊥

-- the tables' cases, invariants and bodies are the program's
pub record TablesStandFor (t : PlainContracts) (p : SpecifiedProgram) : Type 0 where
  pub cases : (κ : ℕ) → CaseAt p (slice_get t.cases κ) (p.case κ)
  pub invariants : (c : ℕ) → invariants_in t.invariants c ≡ p.setting.invariants c
  pub bodies : (m : ℕ) → BodyAt (body_in t.bodies m) (p.setting.program.body m)
