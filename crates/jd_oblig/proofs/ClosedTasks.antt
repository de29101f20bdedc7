-- That every case is kept where its obligation is closed, and which families reach which.
use Rattle.std.proofs.Common.{ℕ, Bool}
use Rattle.jd_oblig.specs.ClosedTasks.{EveryClosedCaseIsKept}
use Rattle.jd_oblig.specs.CallGraphs.{ReachesBy, reaches_itself, reaches_by_call, CallsGiveReachability}
use Rattle.jd_oblig.proofs.Links.{rows_make_obligations, every_case_is_kept}

pub every_closed_case_is_kept : EveryClosedCaseIsKept
every_closed_case_is_kept p all reach t tables obligation made closed = every_case_is_kept p all reach obligation
    (λ κ c has. rows_make_obligations t p tables κ c has (obligation κ) (made κ c has))
    (λ κ c has d m usable. closed κ c has d m usable tt)

joined : (calls : ℕ → ℕ → Bool) (a b c : ℕ) → ReachesBy calls a b → ReachesBy calls b c → ReachesBy calls a c
joined calls a b c (reaches_itself x) h = h
joined calls a b c (reaches_by_call y x z k r) h = reaches_by_call y x c k (joined calls x z c r h)

pub calls_give_reachability : CallsGiveReachability
calls_give_reachability p calls decides bounded = record {
  reflexive = λ a. (decides a a).1 (reaches_itself a);
  transitive = λ a b c r q. (decides a c).1 (joined calls a b c ((decides a b).0 r) ((decides b c).0 q));
  bounded = bounded;
}
