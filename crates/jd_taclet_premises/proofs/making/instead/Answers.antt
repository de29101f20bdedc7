use Rattle.std.proofs.Common.{ap, arith, take, ◌++◌, ◌-◌, ◌∙◌}
use Rattle.jd_taclet_premises.proofs.Instead.{instead_moved}
use Rattle.jd_taclet_premises.proofs.making.instead.Goals as goal

pub returns : goal.returns
returns c =
    let front = c.truncate.ensures.items ∙ ap (take (c.args.index - 1)) c.in_ok-behind.ensures.items in
    let before = c.in_ok-append.ensures.items ∙ ap (λ l. l ++ c.args.new.items) front in
    let whole = c.in_ok-append-2.ensures.items ∙ (ap (λ l. l ++ c.in_ok-behind.behind.items) before ∙ ap (λ l. (take (c.args.index - 1) (take c.args.index c.args.formulas.items) ++ c.args.new.items) ++ l) c.in_ok-behind.ensures.tail) in
    instead_moved c.args.formulas.items c.args.new.items _ c.args.index (c.args.index - 1) (omega (arith, c.requires.some)) (omega (arith, c.requires.some, c.requires.within)) whole
