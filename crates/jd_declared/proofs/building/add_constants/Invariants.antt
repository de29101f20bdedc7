use Rattle.std.proofs.Common.{◌≡◌, ℕ, List, drop, map}
use Rattle.jd_jinfos.specs.Views.{constant_view}
use Rattle.jd_declared.specs.Named.{then_named, value_at}
use Rattle.jd_declared.specs.Owned.{constant_pair}
use Rattle.jd_declared.proofs.building.add_constants.Given as goal

-- those that are left come behind what is there by now
abbrev pub invariant-loop-constant : goal.invariant-loop-constant
invariant-loop-constant l = (q : List ℕ)
    → then_named (value_at l.fn.own q) (map constant_pair (map constant_view l.constants)) q ≡ then_named (value_at l.own q) (map constant_pair (map constant_view (drop l.constant-index l.constants))) q
