use Rattle.std.proofs.Common.{◌≡◌, ◌<◌, IfOk, subst, sym}
use Rattle.jd_classes.specs.Tables.{method_count_of}
use Rattle.jd_jmlcheck.specs.Specified.{method_spec}
use Rattle.jd_jmlcheck.specs.Views.{method_spec_view}
use Rattle.jd_jmlcheck.proofs.made.spec_at.Goals as goal

pub method_spec-requires-clause-m : goal.method_spec-requires-clause-m
method_spec-requires-clause-m c = subst (λ k. k < method_count_of c.args.p.classes.now) (sym c.in_ok-id.ensures) c.requires.number

pub returns : goal.returns
returns c = λ units tables trees.
    subst (λ k. IfOk c.method_spec.result (λ s. method_spec_view s ≡ method_spec units k)) c.in_ok-id.ensures (c.method_spec.ensures units tables trees)
