use Rattle.std.proofs.Common.{◌≡◌, drop, map}
use Rattle.std.specs.List.{list_all}
use Rattle.jd_syntax.specs.JavaTrees.{parameter_view}
use Rattle.jd_first_form.specs.Forms as plain
use Rattle.jd_first_form.proofs.forms.take_ints.Given as goal

-- those that are left say it
abbrev pub invariant-loop-x : goal.invariant-loop-x
invariant-loop-x l = list_all plain.takes_int (map parameter_view (drop l.x-index l.xs)) ≡ list_all plain.takes_int (map parameter_view l.fn.xs)
