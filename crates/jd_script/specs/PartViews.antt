-- What the code's parts of steps stand for.
use Rattle.jd_bracketed.specs.ReadingViews.{reading_view}
use Rattle.jd_sequent.specs.Steps.{step_view}
use Rattle.jd_scripts.specs.Machine as machine
use Rattle.jd_script.specs.declared.draft.Draft.{Draft}
use Rattle.jd_script.specs.declared.draft.Part.{Part}
use Rattle.jd_script.specs.declared.draft.Part.TheVariants as parts

abbrev pub part_view : Draft → Part → machine.Part
part_view d parts.TreeNext = machine.TreeNext
part_view d parts.RuleNext = machine.RuleNext
part_view d parts.PlaceNext = machine.PlaceNext d.step.rule.items
part_view d parts.AssumesNext = machine.AssumesNext (step_view d.step)
part_view d parts.AssumedNext = machine.AssumedNext (step_view d.step)
part_view d parts.InstsNext = machine.InstsNext (step_view d.step)
part_view d parts.InstNext = machine.InstNext (step_view d.step)
part_view d parts.InstName = machine.InstName (step_view d.step)
part_view d parts.InstBody = machine.InstBody (step_view d.step) d.inst.items (reading_view d.reading)
part_view d parts.TreeEnd = machine.TreeEnd
