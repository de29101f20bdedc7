use Rattle.std.proofs.Common.{◌≡◌, drop, map}
use Rattle.jd_model.specs.ContractForms.{invariant_view}
use Rattle.jd_model.specs.Tables.{invariants_in}
use Rattle.jd_told_tables.proofs.invariants.own_invariants.Given as goal

-- what is left decides
abbrev pub invariant-loop-i : goal.invariant-loop-i
invariant-loop-i l = invariants_in (map invariant_view (drop l.i-index l.task.contracts.now.invariants.items)) l.class ≡ invariants_in (map invariant_view l.task.contracts.now.invariants.items) l.class
