use Rattle.std.proofs.Common.{◌≡◌, map, replicate}
use Rattle.jd_jinfos.specs.Infos.{own_nothing}
use Rattle.jd_jinfos.specs.Views.{own_view}
use Rattle.jd_jinfos.proofs.own.nothing_declared.Given as goal

abbrev pub invariant-loop : goal.invariant-loop
invariant-loop l = map own_view l.out.items ≡ replicate l.counter own_nothing
