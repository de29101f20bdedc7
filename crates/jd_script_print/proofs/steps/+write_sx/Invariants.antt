use Rattle.std.proofs.Common.{◌≡◌, drop, map}
use Rattle.jd_syntax.specs.Sxs.{bracketed_list, sx_view}
use Rattle.jd_script_print.specs.Writing.{put_all}
use Rattle.jd_script_print.proofs.steps.+write_sx.Given as goal

-- what is left is written behind what is written so far
abbrev pub invariant-write_parts-loop-part : goal.invariant-write_parts-loop-part
invariant-write_parts-loop-part l =
    put_all l.out (bracketed_list (map sx_view (drop l.part-index l.parts))) ≡ put_all l.fn.out (bracketed_list (map sx_view l.parts))
