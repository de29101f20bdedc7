-- Where a clause is large, the sequent is.
use Rattle.std.proofs.Common.{◌≡◌, inl, inr, ℕ, true, List, ◌++◌, map}
use Rattle.std.specs.List.{list_all}
use Rattle.jd_syntax.specs.JavaTrees.{JavaUnit}
use Rattle.jd_term.specs.Formulas.{PlainFormula, Modal, Not, Updated}
use Rattle.jd_term.specs.Terms.{Constant}
use Rattle.jd_model.specs.Cases.{Contract}
use Rattle.jd_model.specs.Conjunctions.{conjunction}
use Rattle.jd_model.specs.ContractForms.{PlainCase}
use Rattle.jd_model.specs.Programs.{Body, Program}
use Rattle.jd_model.specs.SpecialNames.{entry_heap}
use Rattle.jd_oblig.specs.CaseObligations as oblig
use Rattle.jd_oblig.specs.CaseObligations.{ObligationParts, entry_formula, exit_formula, frame_members, measure_members, modality_of, none_thrown, run_code, start_pairs}
use Rattle.jd_sequent.specs.Limits.{IsWithinLimits, is_small_formula}
use Rattle.jd_jml_meaning.specs.ContractFormulas.{contract_of}
use Rattle.jd_jml_meaning.specs.JmlCases.{JmlCase}
use Rattle.jd_case_rows.specs.Rows.{entry_members, exceptional_members, field_members, invariant_members, normal_members, only_member, parameter_members, receiver_members, result_members, row_of, signalled_members, spelled_for, established_members, unless_exceptional, unless_normal}
use Rattle.jd_case_clauses.specs.Said.{IsLarge, OneIsLarge}
use Rattle.jd_case_clauses.specs.Whole.{IsTooLarge}
use Rattle.jd_case_obligations.specs.Listed.{case_sequent, parts_of}
use Rattle.jd_large_obligations.specs.Laws.{node_limit}
use Rattle.jd_large_obligations.proofs.Parts.{large_conjunction, large_implied, large_modal, large_updated, and_left, not_small, one_before, one_behind, one_frame}

module _ (p : Program) (fields : ℕ → List ℕ) (class : ℕ) (k : Contract) where
  one_required : OneIsLarge node_limit k.requires_ → OneIsLarge node_limit (entry_members p fields class k)
  one_required one =
      inr (one_behind node_limit (receiver_members k.role class) _
      (one_behind node_limit (parameter_members k.parameters) _
      (one_before node_limit k.requires_ (invariant_members k.role (Constant entry_heap) ++ field_members p fields k.role) one)))

  one_ensured : OneIsLarge node_limit k.ensures_ → OneIsLarge node_limit (normal_members k)
  one_ensured one = one_behind node_limit (result_members k.result) _ (one_before node_limit k.ensures_ (established_members k.role ++ unless_normal k.behaviour) one)

  one_signalled : OneIsLarge node_limit (signalled_members k.signals) → OneIsLarge node_limit (exceptional_members p k)
  one_signalled one = inr (inr (one_before node_limit (signalled_members k.signals) (map only_member k.signals_only ++ unless_exceptional k.behaviour) one))

  one_only : OneIsLarge node_limit (map only_member k.signals_only) → OneIsLarge node_limit (exceptional_members p k)
  one_only one = inr (inr (one_behind node_limit (signalled_members k.signals) _ (one_before node_limit (map only_member k.signals_only) (unless_exceptional k.behaviour) one)))

-- ---- of the row and what it does not tell

module _ (f : PlainCase) (b : Body) (o : ObligationParts) where
  large_entry : OneIsLarge node_limit f.entry → IsLarge node_limit (entry_formula f)
  large_entry one = large_conjunction node_limit (f.entry ++ measure_members f.diverges f.measure) (one_before node_limit f.entry (measure_members f.diverges f.measure) one)

  large_normal : OneIsLarge node_limit o.normal → IsLarge node_limit (exit_formula f o)
  large_normal one = large_conjunction node_limit (oblig.exit_members f o) (inr (inl (large_implied node_limit none_thrown (conjunction o.normal) (large_conjunction node_limit o.normal one))))

  large_exceptional : OneIsLarge node_limit o.exceptional → IsLarge node_limit (exit_formula f o)
  large_exceptional one = large_conjunction node_limit (oblig.exit_members f o) (inr (inr (inl (large_implied node_limit (Not none_thrown) (conjunction o.exceptional) (large_conjunction node_limit o.exceptional one)))))

  large_framed : OneIsLarge node_limit (frame_members f.frame) → IsLarge node_limit (exit_formula f o)
  large_framed one = large_conjunction node_limit (oblig.exit_members f o) (inr (inr (inr (one_behind node_limit (oblig.invariant_members o.keeps_invariant) (frame_members f.frame) one))))

  abbrev shown : PlainFormula
  shown = Modal (modality_of f.diverges) (run_code o.result b) (exit_formula f o)

  large_run : IsLarge node_limit (exit_formula f o) → (list_all is_small_formula (oblig.obligation_sequent f b o).right ≡ true) → ⊥
  large_run large small =
      not_small (Updated (start_pairs b) shown) (and_left (is_small_formula (Updated (start_pairs b) shown)) true small)
      (large_updated node_limit (start_pairs b) shown (large_modal node_limit (modality_of f.diverges) (run_code o.result b) (exit_formula f o) large))

  large_start : IsLarge node_limit (entry_formula f) → (list_all is_small_formula (oblig.obligation_sequent f b o).left ≡ true) → ⊥
  large_start large small = not_small (entry_formula f) (and_left (is_small_formula (entry_formula f)) true small) large

module _ (units : List JavaUnit) (p : Program) (fields : ℕ → List ℕ) (c : JmlCase) (b : Body) where
  abbrev k : Contract
  k = contract_of p (spelled_for b c.contract)

  abbrev row : PlainCase
  row = row_of p fields c b

  pub not_within : IsTooLarge node_limit k → IsWithinLimits (case_sequent units p fields c b) → ⊥
  not_within (inl (inl (inl one))) within = large_start row b (parts_of p k) (large_entry row b (parts_of p k) (one_required p fields c.class k one)) within.left
  not_within (inl (inl (inr one))) within = large_run row b (parts_of p k) (large_normal row b (parts_of p k) (one_ensured p fields c.class k one)) within.right
  not_within (inl (inr (inl one))) within = large_run row b (parts_of p k) (large_exceptional row b (parts_of p k) (one_signalled p fields c.class k one)) within.right
  not_within (inl (inr (inr one))) within = large_run row b (parts_of p k) (large_exceptional row b (parts_of p k) (one_only p fields c.class k one)) within.right
  not_within (inr deep) within = large_run row b (parts_of p k) (large_framed row b (parts_of p k) (one_frame node_limit row.frame deep)) within.right
