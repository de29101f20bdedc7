use Rattle.std.proofs.Common.{◌≡◌, drop, map}
use Rattle.jd_syntax.specs.Sxs.{sx_view}
use Rattle.jd_script_print.specs.Writing.{put_insts}
use Rattle.jd_script_print.proofs.steps.write_insts.Given as goal

-- what is left is written behind what is written so far
abbrev pub invariant-loop-inst : goal.invariant-loop-inst
invariant-loop-inst l =
    put_insts l.out (map (λ p. (p.0.items, sx_view p.1)) (drop l.inst-index l.insts)) ≡ put_insts l.fn.out (map (λ p. (p.0.items, sx_view p.1)) l.insts)
