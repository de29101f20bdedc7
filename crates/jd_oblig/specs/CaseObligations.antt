-- The obligation of a case: from each entry state, the run of the body meets the case's exit (The KeY Book, 8.2 and 8.3).
use Rattle.std.specs.Prelude.{Bool, true, false, Option, Some, None, List, [], ◌∷◌, ◌++◌, map}
use Rattle.jd_base.specs.declared.sort.Sort.{Sort}
use Rattle.jd_syntax.specs.Names.{Name}
use Rattle.jd_syntax.specs.CodeNames.{heap_name}
use Rattle.jd_syntax.specs.Codes.{Catch, Frame, PlainCode, Done}
use Rattle.jd_term.specs.declared.formula.Modality.{Modality}
use Rattle.jd_term.specs.declared.formula.Modality.TheVariants.{Necessity, Possibility}
use Rattle.jd_term.specs.Terms.{PlainTerm, NullTerm, ProgramVariable, Constant, PlainLoc, AllLocations}
use Rattle.jd_term.specs.Formulas.{PlainFormula, Not, Implies, Equal, Updated, Modal, WellFormed, Invariant, Pairs}
use Rattle.jd_model.specs.Sequents.{PlainSequent}
use Rattle.jd_model.specs.SpecialNames.{entry_heap, entry_measure, receiver, thrown_variable, result_variable}
use Rattle.jd_model.specs.Contexts.{one}
use Rattle.jd_model.specs.Programs.{Body}
use Rattle.jd_model.specs.Conjunctions.{conjunction, frame}
use Rattle.jd_model.specs.ContractForms.{PlainCase}
use Rattle.jd_model.specs.Tables.{parameter_constant}

-- what a case's row does not tell of its obligation
pub record ObligationParts : Type 0 where
  -- the sort of the method's result, where it has one
  pub result : Option Sort
  -- what is asked of a normal end alone, and of an exceptional end alone
  pub normal : List PlainFormula
  pub exceptional : List PlainFormula
  -- whether the receiver's invariant is asked of both
  pub keeps_invariant : Bool

-- a box where the run may go on for ever
abbrev pub modality_of : Bool → Modality
modality_of true = Necessity
modality_of false = Possibility

-- ---- the entry: the row's, and where the run is to end the measure

abbrev pub measure_members : Bool → PlainTerm → List PlainFormula
measure_members true v = []
measure_members false v = Equal (Constant entry_measure) v ∷ []

abbrev pub entry_formula : PlainCase → PlainFormula
entry_formula f = conjunction (f.entry ++ measure_members f.diverges f.measure)

-- ---- the start: the heap, the receiver and the parameters are what they were at the entry, and nothing is thrown

abbrev pub receiver_pairs : Option Name → Pairs
receiver_pairs None = []
receiver_pairs (Some x) = (x, Constant receiver) ∷ []

abbrev pub parameter_pair : Name → Name × PlainTerm
parameter_pair x = (x, Constant (parameter_constant x))

abbrev pub start_pairs : Body → Pairs
start_pairs b =
    (heap_name, Constant entry_heap)
    ∷ (receiver_pairs b.receiver ++ (map parameter_pair b.parameters ++ ((thrown_variable, NullTerm) ∷ [])))

-- ---- the run: the body in a frame for its result and a catch for what it throws

abbrev pub result_name : Option Sort → Option Name
result_name None = None
result_name (Some k) = Some (result_variable k)

abbrev pub run_code : Option Sort → Body → PlainCode
run_code r b = one (Catch (one (Frame (result_name r) b.code)) thrown_variable Done)

-- ---- the exit

abbrev pub none_thrown : PlainFormula
none_thrown = Equal (ProgramVariable thrown_variable) NullTerm

abbrev pub invariant_members : Bool → List PlainFormula
invariant_members true = Invariant (ProgramVariable heap_name) (Constant receiver) ∷ []
invariant_members false = []

-- where everything may be assigned, nothing is said of the heap
abbrev pub frame_members : PlainLoc → List PlainFormula
frame_members AllLocations = []
frame_members l = frame l (Constant entry_heap) ∷ []

abbrev pub exit_members : PlainCase → ObligationParts → List PlainFormula
exit_members f o =
    WellFormed (ProgramVariable heap_name)
    ∷ Implies none_thrown (conjunction o.normal)
    ∷ Implies (Not none_thrown) (conjunction o.exceptional)
    ∷ (invariant_members o.keeps_invariant ++ frame_members f.frame)

abbrev pub exit_formula : PlainCase → ObligationParts → PlainFormula
exit_formula f o = conjunction (exit_members f o)

-- ---- together

abbrev pub obligation_sequent : PlainCase → Body → ObligationParts → PlainSequent
obligation_sequent f b o = record {
  left = entry_formula f ∷ [];
  right = Updated (start_pairs b) (Modal (modality_of f.diverges) (run_code o.result b) (exit_formula f o)) ∷ [];
}
