use Rattle.std.proofs.Common.{◌≡◌, drop, map}
use Rattle.jd_script_print.specs.Views.{named_nodes}
use Rattle.jd_script_print.specs.Writing.{put_proofs}
use Rattle.jd_script_print.proofs.whole.write_proofs.Given as goal

-- what is left is written behind what is written so far
abbrev pub invariant-loop-proof : goal.invariant-loop-proof
invariant-loop-proof l = put_proofs l.out (map named_nodes (drop l.proof-index l.proofs)) ≡ put_proofs l.fn.out (map named_nodes l.proofs)
