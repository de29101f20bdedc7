use Rattle.std.proofs.Common.{◌≡◌, drop, map, option_map}
use Rattle.jd_model.specs.Sequents.{place_view}
use Rattle.jd_script_print.specs.Writing.{put_places}
use Rattle.jd_script_print.proofs.places.write_places.Given as goal

-- what is left is written behind what is written so far
abbrev pub invariant-loop-place : goal.invariant-loop-place
invariant-loop-place l =
    put_places l.out (map (option_map place_view) (drop l.place-index l.places)) ≡ put_places l.fn.out (map (option_map place_view) l.places)
