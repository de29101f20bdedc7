use Rattle.std.proofs.Common.{◌≡◌, ◌++◌, drop}
use Rattle.jd_scripts.specs.Places.{written_path}
use Rattle.jd_script_print.proofs.places.add_path.Given as goal

-- what is left is added to what is added so far
abbrev pub invariant-loop-child : goal.invariant-loop-child
invariant-loop-child l = l.word.items ++ written_path (drop l.child-index l.path) ≡ l.fn.word.items ++ written_path l.path
