-- Families of methods, and what their bodies call.
use Rattle.std.specs.Prelude.{◌≡◌, ◌<◌, ℕ, Bool, true, Some}
use Rattle.std.specs.Bool.{Decides}
use Rattle.jd_model.specs.Cases.{Case, SpecifiedProgram}
use Rattle.jd_oblig.specs.KeptByObligations.{IsReachability}

-- a family reaches itself, and what a family that it calls reaches
pub data ReachesBy (calls : ℕ → ℕ → Bool) : ℕ → ℕ → Type 0 where
  reaches_itself : (a : ℕ) → ReachesBy calls a a
  reaches_by_call : (a b c : ℕ) → calls a b ≡ true → ReachesBy calls b c → ReachesBy calls a c

-- a test that decides this gives the order in which cases are proved
abbrev pub CallsGiveReachability : Type 0
CallsGiveReachability =
    (p : SpecifiedProgram) (calls : ℕ → ℕ → Bool) → ((a b : ℕ) → Decides (p.reaches a b) (ReachesBy calls a b))
    → ((κ : ℕ) (c : Case) → p.case κ ≡ Some c → c.family < p.families) → IsReachability p
