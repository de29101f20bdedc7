-- The conditions of the theorem can be met: an instance method that does nothing, in a class with an invariant.
use Rattle.std.proofs.Common.{◌≡◌, ◌↔◌, ◌<◌, ℕ, Bool, true, false, cond, nat_eq, List, [], ◌∷◌, refl, sym, ap, ◌∙◌, subst, arith}
use Rattle.jd_syntax.specs.CodeNames.{heap_name}
use Rattle.jd_term.specs.Formulas.{WellFormed, Invariant}
use Rattle.jd_term.specs.Terms.{Constant}
use Rattle.jd_heap.specs.References.{Reference, Null, Object, Array}
use Rattle.jd_heap.specs.Heaps.{Heap}
use Rattle.jd_heap.specs.Values.{BoolValue, RefValue, as_bool, as_ref, as_heap}
use Rattle.jd_model.specs.SpecialNames.{entry_heap, receiver, thrown_variable}
use Rattle.jd_model.specs.States.{State, read, write, heap_of}
use Rattle.jd_model.proofs.States.{read_of}
use Rattle.jd_model.specs.Programs.{Program}
use Rattle.jd_model.specs.WellFormedHeaps.{IsWellFormed}
use Rattle.jd_model.specs.Truth.{Truth, EachHolds, InvariantsOf, InvTruth}
use Rattle.jd_model.specs.Validity.{AllTrue}
use Rattle.jd_model.specs.Cases.{Case, SpecifiedProgram}
use Rattle.jd_model.specs.EntryExit.{EntryAs}
use Rattle.jd_model.specs.Tables.{members, CaseStandsFor}
use Rattle.jd_model.specs.ResolvedBodies.{IsResolved, AllResolved}
use Rattle.jd_model.proofs.Writes.{read_own, read_there}
use Rattle.jd_oblig.specs.KeptByObligations.{IsObligationOf, IsReachability, IsValidWhereUsable}
use Rattle.jd_oblig.specs.SkipExample.{field_not_negative, this_variable, skip_contract, skip_case, skip_body, skip_program, skip_row, skip_parts, skip_exit, skip_sequent, SkipIsKept}
use Rattle.jd_oblig.proofs.Links.{every_case_is_kept}
use Rattle.jd_oblig.proofs.OneCase.{of_one, itself, onward}

module _ (classes : Program) where
  abbrev p : SpecifiedProgram
  p = skip_program classes

  resolved : AllResolved p.setting.program
  resolved = of_one IsResolved skip_body record {
    code = tt;
    assigned = tt;
    receiver = refl;
    parameters = tt;
  }

  reachability : IsReachability p
  reachability = record {
    reflexive = itself;
    transitive = onward;
    bounded = of_one (λ (c : Case). c.family < 1) skip_case (omega arith);
  }

  -- ---- the invariant has no modality, so the depth of calls does not matter

  each_same : (d : ℕ) (h : Heap) (o : Reference) (b : Bool) → EachHolds p.setting d h o (cond b (field_not_negative ∷ []) []) ≡ EachHolds p.setting 0 h o (cond b (field_not_negative ∷ []) [])
  each_same d h o true = refl
  each_same d h o false = refl

  all_same : (d : ℕ) (h : Heap) (o : Reference) (cs : List ℕ) → InvariantsOf p.setting d h o cs ≡ InvariantsOf p.setting 0 h o cs
  all_same d h o [] = refl
  all_same d h o (c ∷ cs) = λ j. each_same d h o (nat_eq c 10) j × all_same d h o cs j

  inv_same : (d : ℕ) (h : Heap) (o : Reference) → InvTruth p.setting d h o ≡ InvTruth p.setting 0 h o
  inv_same d h Null = refl
  inv_same d h (Object c n) = all_same d h (Object c n) (classes.superclasses c)
  inv_same d h (Array l n) = refl

  at_zero : (d : ℕ) (h : Heap) (o : Reference) → InvTruth p.setting d h o → InvTruth p.setting 0 h o
  at_zero d h o t = subst (λ X. X) (inv_same d h o) t

  from_zero : (d : ℕ) (h : Heap) (o : Reference) → InvTruth p.setting 0 h o → InvTruth p.setting d h o
  from_zero d h o t = subst (λ X. X) (sym (inv_same d h o)) t

  -- ---- the row's formulas and the case

  entry_means : (exactly : Bool) (d : ℕ) (i s : State) → AllTrue p.setting d i s [] (members exactly (skip_row classes).entry) ↔ EntryAs p.setting exactly skip_contract 10 (as_heap (read i entry_heap)) (as_ref (read i receiver)) []
  entry_means true d i s = (
    (λ h. record { well_formed = h.0; receiver = (h.1.0, ap as_bool h.1.1.0); arguments = tt; required = tt; invariant = at_zero d (as_heap (read i entry_heap)) (as_ref (read i receiver)) h.1.1.1.0; fields = tt }),
    (λ e. (e.well_formed, (e.receiver.0, (ap BoolValue e.receiver.1, (from_zero d (as_heap (read i entry_heap)) (as_ref (read i receiver)) e.invariant, tt))))),
  )
  entry_means false d i s = (
    (λ h. record { well_formed = h.0; receiver = (h.1.0, ap as_bool h.1.1.0); arguments = tt; required = tt; invariant = at_zero d (as_heap (read i entry_heap)) (as_ref (read i receiver)) h.1.1.1.0; fields = tt }),
    (λ e. (e.well_formed, (e.receiver.0, (ap BoolValue e.receiver.1, (from_zero d (as_heap (read i entry_heap)) (as_ref (read i receiver)) e.invariant, tt))))),
  )

  stands : CaseStandsFor p skip_case skip_body (skip_row classes)
  stands = record {
    method = refl;
    class = refl;
    number = refl;
    diverges = refl;
    sorts = tt;
    apart = ((refl, (refl, tt)), ((refl, tt), (tt, tt)));
    entry_first_order = (tt, (tt, (tt, (tt, tt))));
    exit_first_order = (tt, tt);
    exceptional_first_order = (tt, (tt, (tt, tt)));
    entry = entry_means;
    exit = λ d i s. (
      (λ h. record { well_formed = h.0; typed = tt; ensured = tt; invariant = at_zero d (heap_of s) (as_ref (read i receiver)) h.1.0; allowed = tt }),
      (λ e. (e.well_formed, (from_zero d (heap_of s) (as_ref (read i receiver)) e.invariant, tt))),
    );
    exceptional = λ d i s. (
      (λ h. record { well_formed = h.0; thrown = h.1.0; created = ap as_bool h.1.1.0; signalled = tt; only = tt; allowed = tt; invariant = at_zero d (heap_of s) (as_ref (read i receiver)) h.1.1.1.0 }),
      (λ e. (e.well_formed, (e.thrown, (ap BoolValue e.created, (from_zero d (heap_of s) (as_ref (read i receiver)) e.invariant, tt))))),
    );
    frame = λ i s x. refl;
    measure = λ i s. refl;
  }

  obligation : IsObligationOf p skip_case (skip_sequent classes)
  obligation = record {
    row = skip_row classes;
    body = skip_body;
    parts = skip_parts classes;
    sequent = refl;
    runs = refl;
    stands = stands;
    normal = refl;
    exceptional = refl;
    result = refl;
    result_of_body = tt;
    measure = refl;
  }

  -- ---- the obligation is valid

  module _ (d : ℕ) (i s : State) (wf : Truth p.setting d i s [] (WellFormed (Constant entry_heap))) (inv : Truth p.setting d i s [] (Invariant (Constant entry_heap) (Constant receiver))) where
    abbrev with_this : State
    with_this = write (write s heap_name (read i entry_heap)) this_variable (read i receiver)

    abbrev begin : State
    begin = write with_this thrown_variable (RefValue Null)

    begin_heap : read begin heap_name ≡ read i entry_heap
    begin_heap =
        read_there with_this thrown_variable (RefValue Null) heap_name refl
        ∙ read_there (write s heap_name (read i entry_heap)) this_variable (read i receiver) heap_name refl
        ∙ read_own s heap_name (read i entry_heap) (read_of i entry_heap)

    exit_true : Truth p.setting d i begin [] (skip_exit classes)
    exit_true = (
      subst (λ v. IsWellFormed p.setting.program (as_heap v)) (sym begin_heap) wf,
      (
        (λ _. tt),
        (
          (λ some. absurd (some (read_own with_this thrown_variable (RefValue Null) tt))),
          subst (λ v. InvTruth p.setting d (as_heap v) (as_ref (read i receiver))) (sym begin_heap) inv,
        ),
      ),
    )

  valid : IsValidWhereUsable p skip_case (skip_sequent classes)
  valid d m usable i s measure refuted = refuted.1.0 (λ n. exit_true d i s refuted.0.0.0 refuted.0.0.1.1.1)

pub skip_is_kept : SkipIsKept
skip_is_kept = record {
  resolved = resolved;
  reachability = reachability;
  obligation = obligation;
  valid = valid;
  kept = λ classes. every_case_is_kept (skip_program classes) (resolved classes) (reachability classes) (λ κ. skip_sequent classes)
      (of_one (λ c. IsObligationOf (skip_program classes) c (skip_sequent classes)) skip_case (obligation classes))
      (of_one (λ c. IsValidWhereUsable (skip_program classes) c (skip_sequent classes)) skip_case (valid classes))
      0 skip_case refl;
}
