-- What the code's steps in a file stand for.
use Rattle.std.specs.Prelude.{List, Result, Ok, Err}
use Rattle.jd_scripts.specs.Scripts.{PlainProof}
use Rattle.jd_scripts.specs.Machine as machine
use Rattle.jd_scripts.specs.Machine.{State, InProof, Fault}
use Rattle.jd_script.specs.PartViews.{part_view}
use Rattle.jd_script.specs.TurnViews.{context_of, nodes_of, places_of, stop_view}
use Rattle.jd_script.specs.declared.nodes.OpenProof.{OpenProof}
use Rattle.jd_script.specs.declared.stage.Stage.{Stage}
use Rattle.jd_script.specs.declared.stage.Stage.TheVariants as stages
use Rattle.jd_script.specs.declared.stage.Turn.{Turn}
use Rattle.jd_script.specs.declared.stage.Turn.TheVariants as turns

abbrev pub state_view : List PlainProof → OpenProof → Stage → State
state_view done p stages.FileNext = machine.FileNext
state_view done p stages.WordNext = machine.WordNext
state_view done p stages.VersionNext = machine.VersionNext
state_view done p stages.ProofNext = machine.ProofNext 1 done
state_view done p stages.ProofWord = machine.ProofWord 1 done
state_view done p stages.NameNext = machine.NameNext 1 done
state_view done p (stages.InProof q) = InProof (context_of done p) (part_view p.draft q) (nodes_of p) (places_of p) p.steps
state_view done p stages.FileEnd = machine.FileEnd 1 done

abbrev pub turn_view : List PlainProof → OpenProof → Turn → Result State Fault
turn_view done p (turns.Goes s) = Ok (state_view done p s)
turn_view done p (turns.Stops s) = Err (stop_view s)
