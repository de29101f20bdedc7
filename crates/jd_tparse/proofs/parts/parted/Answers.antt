use Rattle.std.proofs.Common.{◌+◌, ◌-◌, length, take, drop, Some, sym, ap, ◌∙◌, arith}
use Rattle.std.proofs.lemmas.List.{drop_all, take_all, length-drop}
use Rattle.jd_tforms.specs.Naming as plain
use Rattle.jd_tparse.proofs.Loops.{dot_here, no_dot_here}
use Rattle.jd_tparse.proofs.parts.parted.Goals as goal

pub returns-then-word-at-eq46 : goal.returns-then-word-at-eq46
returns-then-word-at-eq46 c names =
    let w = c.args.word.now in
    let at = c.loop-at.at in
    ap (λ r. Some (take at w, r)) (take_all (length w - (at + 1)) (drop (at + 1) w) (omega (arith, length-drop (at + 1) w)))
    ∙ sym (dot_here names w at c.loop-at-test.true c.if-word-at-eq46.true)
    ∙ c.loop-at.invariant names

pub loop-at-preserved : goal.loop-at-preserved
loop-at-preserved c names =
    sym (no_dot_here names c.args.word.now c.loop-at.at c.loop-at-test.true c.if-word-at-eq46.false) ∙ c.loop-at.invariant names

pub returns : goal.returns
returns c names = sym (ap (plain.parted names (take c.loop-at.at c.args.word.now)) (drop_all c.loop-at.at c.args.word.now c.loop-at-test.false)) ∙ c.loop-at.invariant names
