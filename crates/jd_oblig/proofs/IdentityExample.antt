-- The conditions of the theorem can be met: a static method that returns its parameter.
use Rattle.std.proofs.Common.{◌≡◌, ◌↔◌, ℕ, Bool, true, false, ℤ, pos, negsuc, int_le, List, [], ◌∷◌, ◌<◌, refl, sym, ap, ◌∙◌, subst, arith}
use Rattle.std.proofs.lemmas.Bool.{le-leb}
use Rattle.jd_base.specs.declared.sort.Sort.TheVariants.{Int as IntSort, Bool as BoolSort, Ref as RefSort}
use Rattle.jd_syntax.specs.CodeNames.{heap_name}
use Rattle.jd_syntax.specs.Names.{Name}
use Rattle.jd_term.specs.Formulas.{PlainFormula, WellFormed, InInt}
use Rattle.jd_term.specs.Terms.{ProgramVariable, Constant}
use Rattle.jd_heap.specs.References.{Null}
use Rattle.jd_heap.specs.Heaps.{Heap}
use Rattle.jd_heap.specs.Values.{Value, IntValue, BoolValue, RefValue, HeapValue, as_int, as_bool, as_ref, as_heap, as_field, select_at, IsOf}
use Rattle.jd_model.specs.SpecialNames.{entry_heap, receiver, thrown_variable, result_variable}
use Rattle.jd_model.specs.States.{State, read, write, heap_of, with_heap, empty_state}
use Rattle.jd_model.proofs.States.{read_of}
use Rattle.jd_model.specs.Programs.{Program}
use Rattle.jd_model.specs.WellFormedHeaps.{in_int, IsWellFormed}
use Rattle.jd_model.specs.Truth.{Setting, Truth}
use Rattle.jd_model.specs.Validity.{AllTrue}
use Rattle.jd_model.specs.Cases.{Case, SpecifiedProgram}
use Rattle.jd_model.specs.EntryExit.{EntryAs, NormalEnd, Holds, normal_moment, is_of}
use Rattle.jd_model.specs.Tables.{members, CaseStandsFor}
use Rattle.jd_model.specs.ResolvedBodies.{IsResolved, AllResolved}
use Rattle.jd_model.proofs.Writes.{read_here, read_own, read_there}
use Rattle.jd_oblig.specs.KeptByObligations.{IsObligationOf, IsReachability, IsValidWhereUsable}
use Rattle.jd_oblig.specs.IdentityExample.{an_int, x_variable, x_constant, at_least_x, id_contract, id_case, id_body, id_program, id_row, id_parts, id_exit, id_sequent, IdentityIsKept}
use Rattle.jd_oblig.proofs.Links.{every_case_is_kept}
use Rattle.jd_oblig.proofs.OneCase.{of_one, itself, onward}

int_is : (g : Setting) (h : Heap) (v : Value) → IsOf IntSort v → is_of g h an_int v ≡ in_int (as_int v)
int_is g h (IntValue z) o = refl
int_is g h v o = absurd o

int_le_refl : (z : ℤ) → int_le z z ≡ true
int_le_refl (pos n) = le-leb n n (omega arith)
int_le_refl (negsuc n) = le-leb n n (omega arith)

module _ (classes : Program) (invariants : ℕ → List PlainFormula) where
  abbrev p : SpecifiedProgram
  p = id_program classes invariants

  resolved : AllResolved p.setting.program
  resolved = of_one IsResolved id_body record {
    code = (tt, tt);
    assigned = (tt, tt);
    receiver = tt;
    parameters = (refl, tt);
  }

  reachability : IsReachability p
  reachability = record {
    reflexive = itself;
    transitive = onward;
    bounded = of_one (λ (c : Case). c.family < 1) id_case (omega arith);
  }

  -- ---- the row's formulas and the case

  entry_means : (exactly : Bool) (d : ℕ) (i s : State) → AllTrue p.setting d i s [] (members exactly (id_row classes invariants).entry) ↔ EntryAs p.setting exactly id_contract 10 (as_heap (read i entry_heap)) Null (read i x_constant ∷ [])
  entry_means true d i s = (
    (λ h. record { well_formed = h.0; receiver = refl; arguments = (int_is p.setting (as_heap (read i entry_heap)) (read i x_constant) (read_of i x_constant) ∙ h.1.0, tt); required = tt; invariant = tt; fields = tt }),
    (λ e. (e.well_formed, (sym (int_is p.setting (as_heap (read i entry_heap)) (read i x_constant) (read_of i x_constant)) ∙ e.arguments.0, tt))),
  )
  entry_means false d i s = (
    (λ h. record { well_formed = h.0; receiver = refl; arguments = (int_is p.setting (as_heap (read i entry_heap)) (read i x_constant) (read_of i x_constant) ∙ h.1.0, tt); required = tt; invariant = tt; fields = tt }),
    (λ e. (e.well_formed, (sym (int_is p.setting (as_heap (read i entry_heap)) (read i x_constant) (read_of i x_constant)) ∙ e.arguments.0, tt))),
  )

  abbrev ires : Name
  ires = result_variable IntSort

  -- the clause at the end's moment is the formula
  clause_means : (h k : Heap) (v w : Value) → Holds p.setting id_contract (normal_moment p.setting h Null (v ∷ []) k w) at_least_x ≡ (int_le (as_int v) (as_int w) ≡ true)
  clause_means h k v w = λ j.
      int_le (as_int (read_here (write (write empty_state entry_heap (HeapValue h)) receiver (RefValue Null)) x_constant v j)) (as_int (read_here (write (with_heap empty_state k) thrown_variable (RefValue Null)) ires w j)) ≡ true

  exit_means : (d : ℕ) (i s : State) → AllTrue p.setting d i s [] (WellFormed (ProgramVariable heap_name) ∷ (id_row classes invariants).exit) ↔ NormalEnd p.setting id_contract (normal_moment p.setting (as_heap (read i entry_heap)) Null (read i x_constant ∷ []) (heap_of s) (read s ires))
  exit_means d i s = (
    (λ h. record {
      well_formed = h.0;
      typed = int_is p.setting (heap_of s) (read s ires) (read_of s ires) ∙ h.1.0;
      ensured = (subst (λ X. X) (sym (clause_means (as_heap (read i entry_heap)) (heap_of s) (read i x_constant) (read s ires))) h.1.1.0, tt);
      invariant = tt;
      allowed = tt;
    }),
    (λ e. (e.well_formed, (sym (int_is p.setting (heap_of s) (read s ires) (read_of s ires)) ∙ e.typed, (subst (λ X. X) (clause_means (as_heap (read i entry_heap)) (heap_of s) (read i x_constant) (read s ires)) e.ensured.0, tt)))),
  )

  stands : CaseStandsFor p id_case id_body (id_row classes invariants)
  stands = record {
    method = refl;
    class = refl;
    number = refl;
    diverges = refl;
    sorts = (refl, tt);
    apart = ((refl, (refl, (refl, tt))), ((refl, (refl, tt)), ((refl, tt), (tt, tt))));
    entry_first_order = (tt, (tt, tt));
    exit_first_order = (tt, (tt, tt));
    exceptional_first_order = (tt, (tt, tt));
    entry = entry_means;
    exit = exit_means;
    exceptional = λ d i s. (
      (λ h. record { well_formed = h.0; thrown = h.1.0; created = ap as_bool h.1.1.0; signalled = tt; only = tt; allowed = tt; invariant = tt }),
      (λ e. (e.well_formed, (e.thrown, (ap BoolValue e.created, tt)))),
    );
    frame = λ i s x. refl;
    measure = λ i s. refl;
  }

  obligation : IsObligationOf p id_case (id_sequent classes invariants)
  obligation = record {
    row = id_row classes invariants;
    body = id_body;
    parts = id_parts classes invariants;
    sequent = refl;
    runs = refl;
    stands = stands;
    normal = refl;
    exceptional = refl;
    result = refl;
    result_of_body = refl;
    measure = refl;
  }

  -- ---- the obligation is valid

  module _ (d : ℕ) (i s : State) (wf : Truth p.setting d i s [] (WellFormed (Constant entry_heap))) (in_range : Truth p.setting d i s [] (InInt (Constant x_constant))) where
    abbrev with_x : State
    with_x = write (write s heap_name (read i entry_heap)) x_variable (read i x_constant)

    abbrev begin : State
    begin = write with_x thrown_variable (RefValue Null)

    abbrev last : State
    last = write begin ires (read begin x_variable)

    last_heap : read last heap_name ≡ read i entry_heap
    last_heap =
        read_there begin ires (read begin x_variable) heap_name refl
        ∙ read_there with_x thrown_variable (RefValue Null) heap_name refl
        ∙ read_there (write s heap_name (read i entry_heap)) x_variable (read i x_constant) heap_name refl
        ∙ read_own s heap_name (read i entry_heap) (read_of i entry_heap)

    last_result : read last ires ≡ read i x_constant
    last_result =
        read_own begin ires (read begin x_variable) (read_of begin x_variable)
        ∙ read_there with_x thrown_variable (RefValue Null) x_variable refl
        ∙ read_own (write s heap_name (read i entry_heap)) x_variable (read i x_constant) (read_of i x_constant)

    last_thrown : read last thrown_variable ≡ RefValue Null
    last_thrown =
        read_there begin ires (read begin x_variable) thrown_variable refl
        ∙ read_own with_x thrown_variable (RefValue Null) tt

    exit_true : Truth p.setting d i last [] (id_exit classes invariants)
    exit_true = (
      subst (λ v. IsWellFormed p.setting.program (as_heap v)) (sym last_heap) wf,
      (
        (λ _. (subst (λ v. in_int (as_int v) ≡ true) (sym last_result) in_range, subst (λ v. int_le (as_int (read i x_constant)) (as_int v) ≡ true) (sym last_result) (int_le_refl (as_int (read i x_constant))))),
        (
          (λ some. absurd (some last_thrown)),
          (λ v _ w _ neither. neither.1 (λ created. created.1 (
            (λ j. select_at IntSort (as_heap (last_heap j)) (as_ref v) (as_field w)),
            ((λ j. select_at BoolSort (as_heap (last_heap j)) (as_ref v) (as_field w)), (λ j. select_at RefSort (as_heap (last_heap j)) (as_ref v) (as_field w))),
          ))),
        ),
      ),
    )

  valid : IsValidWhereUsable p id_case (id_sequent classes invariants)
  valid d m usable i s measure refuted = refuted.1.0 (λ never. never 0 0 (exit_true d i s refuted.0.0.0 refuted.0.0.1.0))

pub identity_is_kept : IdentityIsKept
identity_is_kept = record {
  resolved = resolved;
  reachability = reachability;
  obligation = obligation;
  valid = valid;
  kept = λ classes invariants. every_case_is_kept (id_program classes invariants) (resolved classes invariants) (reachability classes invariants) (λ κ. id_sequent classes invariants)
      (of_one (λ c. IsObligationOf (id_program classes invariants) c (id_sequent classes invariants)) id_case (obligation classes invariants))
      (of_one (λ c. IsValidWhereUsable (id_program classes invariants) c (id_sequent classes invariants)) id_case (valid classes invariants))
      0 id_case refl;
}
