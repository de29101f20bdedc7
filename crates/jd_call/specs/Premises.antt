-- The premises of `useContract` (The KeY Book, 3.7.1).
use Rattle.std.specs.Prelude.{Bool, List, None, Option, Some, codes, false, map, pos, true, ◌++◌, ◌∷◌, ℕ, []}
use Rattle.jd_base.specs.declared.sort.Sort.{Sort}
use Rattle.jd_base.specs.declared.sort.Sort.TheVariants.{Heap as HeapSort, Ref as RefSort}
use Rattle.jd_call.specs.Calls.{ConstructorTarget, StaticTarget, Target, VirtualTarget, receiver_constants, receiver_terms, terms_of}
use Rattle.jd_model.specs.Conjunctions.{conjunction}
use Rattle.jd_model.specs.Contexts.{Context, fill, one}
use Rattle.jd_model.specs.ContractForms.{PlainCase}
use Rattle.jd_model.specs.NumberedNames.{numbered_constant, numbered_variable}
use Rattle.jd_model.specs.Renamings.{look, rename_all}
use Rattle.jd_term.specs.Renamings.{Renaming, rename_loc, rename_term}
use Rattle.jd_model.specs.SimpleExpressions.{term_of}
use Rattle.jd_model.specs.SpecialNames.{entry_heap, entry_measure, result_variable, thrown_variable}
use Rattle.jd_model.specs.Tables.{constants_of_parameters, loosened}
use Rattle.jd_syntax.specs.CodeNames.{heap_name}
use Rattle.jd_syntax.specs.Codes.{Done, Exprs, Raise, ThrowUnchecked, Variable}
use Rattle.jd_syntax.specs.Names.{Name}
use Rattle.jd_term.specs.Formulas.{Equal, Implies, Less, LessOrEqual, Modal, Not, PlainFormula, Updated, WellFormed}
use Rattle.jd_term.specs.Terms.{Anon, Constant, NullTerm, Number, PlainTerm, ProgramVariable}
use Rattle.jd_term.specs.declared.formula.Modality.{Modality}

-- the new names of step n: the heaps before and after the call, the result, the exception and the variable that throws it
abbrev pub heap_before : ℕ → Name
heap_before n = numbered_variable HeapSort [] n

abbrev pub heap_after : ℕ → Name
heap_after n = numbered_constant HeapSort [] n

abbrev pub result_constant : Sort → ℕ → Name
result_constant k n = numbered_constant k [] n

abbrev pub exception_constant : ℕ → Name
exception_constant n = numbered_constant RefSort (codes "x") n

abbrev pub exception_variable : ℕ → Name
exception_variable n = numbered_variable RefSort (codes "x") n

abbrev pub result_variables : Option Sort → List Name
result_variables None = []
result_variables (Some k) = result_variable k ∷ []

abbrev pub result_constants : Option Sort → ℕ → List Name
result_constants None n = []
result_constants (Some k) n = result_constant k n ∷ []

abbrev pub result_terms : Option Sort → ℕ → List PlainTerm
result_terms None n = []
result_terms (Some k) n = Constant (result_constant k n) ∷ []

abbrev pub call_variables : ℕ → List Name
call_variables n = heap_before n ∷ (exception_variable n ∷ [])

abbrev pub call_constants : Option Sort → ℕ → List Name
call_constants r n = heap_after n ∷ (exception_constant n ∷ result_constants r n)

-- of a case with these parameters and this sort of a result, for a call with these operands, in step n
module _ (f : PlainCase) (parameters : List Name) (r : Option Sort) (t : Target) (operands : Exprs) (n : ℕ) where
  -- at the call this term stands for the heap before, and the operands for the constants
  abbrev pub constants : PlainTerm → Name → PlainTerm
  constants h c = look (entry_heap ∷ (receiver_constants t ++ constants_of_parameters parameters)) (h ∷ (receiver_terms t ++ terms_of operands)) (Constant c) c

  abbrev pub at_entry : Renaming
  at_entry = record { con = constants (ProgramVariable heap_name); var = λ x. ProgramVariable x }

  -- after it `@h~n` does, and the new constants stand for the result and the exception
  abbrev pub at_exit : Renaming
  at_exit = record {
    con = constants (ProgramVariable (heap_before n));
    var = λ x. look (thrown_variable ∷ result_variables r) (Constant (exception_constant n) ∷ result_terms r n) (ProgramVariable x) x;
  }

  -- only a call on an object may find null
  abbrev pub unless_receiver_is_null : Target → PlainFormula → PlainFormula
  unless_receiver_is_null (VirtualTarget k m a) e = Implies (Not (Equal (term_of a) NullTerm)) e
  unless_receiver_is_null (StaticTarget m) e = e
  unless_receiver_is_null (ConstructorTarget m a) e = e

  -- in a diamond, inside the cluster: the callee's measure is at least 0 and below the caller's
  abbrev pub smaller_measure : Bool → List PlainFormula
  smaller_measure true = LessOrEqual (Number (pos 0)) (rename_term at_entry f.measure) ∷ (Less (rename_term at_entry f.measure) (Constant entry_measure) ∷ [])
  smaller_measure false = []

  -- the callee may be entered: for an instance of the class, in place of an object of exactly the class
  abbrev pub entry_premise : Bool → PlainFormula
  entry_premise in_cluster = unless_receiver_is_null t (conjunction (rename_all at_entry (map loosened f.entry) ++ smaller_measure in_cluster))

  -- the heap that the call leaves: the old one outside what may be assigned
  abbrev pub in_heap_after : PlainFormula → PlainFormula
  in_heap_after e = Updated ((heap_before n, ProgramVariable heap_name) ∷ []) (Updated ((heap_name, Anon (ProgramVariable heap_name) (rename_loc at_entry f.frame) (Constant (heap_after n))) ∷ []) e)

  -- the variable that is set has the result
  abbrev pub with_result_in : Option Name → PlainFormula → PlainFormula
  with_result_in None e = e
  with_result_in (Some x) e = Updated ((x, Constant (result_constant x.sort n)) ∷ []) e

  module _ (m : Modality) (k : Context) (a : PlainFormula) where
    -- a call on null throws
    abbrev pub null_premises : ℕ → Target → List PlainFormula
    null_premises null_pointer (VirtualTarget class method o) = Implies (Equal (term_of o) NullTerm) (Modal m (fill k (one (Raise null_pointer))) a) ∷ []
    null_premises null_pointer (StaticTarget method) = []
    null_premises null_pointer (ConstructorTarget method o) = []

    -- the call ends normally, and the code goes on
    abbrev pub normal_premise : Option Name → PlainFormula
    normal_premise into = in_heap_after (Implies (conjunction (WellFormed (ProgramVariable heap_name) ∷ rename_all at_exit f.exit)) (with_result_in into (Modal m (fill k Done) a)))

    -- the call throws
    abbrev pub exceptional_premise : PlainFormula
    exceptional_premise = in_heap_after (Implies (conjunction (WellFormed (ProgramVariable heap_name) ∷ rename_all at_exit f.exceptional)) (Updated ((exception_variable n, Constant (exception_constant n)) ∷ []) (Modal m (fill k (one (ThrowUnchecked (Variable (exception_variable n))))) a)))

    abbrev pub call_premises : ℕ → Option Name → Bool → List PlainFormula
    call_premises null_pointer into in_cluster = entry_premise in_cluster ∷ (null_premises null_pointer t ++ (normal_premise into ∷ (exceptional_premise ∷ [])))
