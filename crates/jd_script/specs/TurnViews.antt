-- What the code's steps in a proof stand for.
use Rattle.std.specs.Prelude.{ℕ, List, map, reverse, Result, Ok, Err}
use Rattle.jd_sequent.specs.Trees.{PlainNode}
use Rattle.jd_sequent.specs.Steps.{node_view}
use Rattle.jd_scripts.specs.Answers as answers
use Rattle.jd_scripts.specs.Answers.{limits_of}
use Rattle.jd_scripts.specs.Scripts.{PlainProof}
use Rattle.jd_scripts.specs.Scripts as scripts
use Rattle.jd_scripts.specs.Machine.{State, InProof, Context, Fault, WrongToken, Over}
use Rattle.jd_script.specs.PartViews.{part_view}
use Rattle.jd_script.specs.declared.draft.Draft.{Draft}
use Rattle.jd_script.specs.declared.nodes.OpenProof.{OpenProof}
use Rattle.jd_script.specs.declared.stop.Limits.{Limits}
use Rattle.jd_script.specs.declared.stop.Stop.{Stop}
use Rattle.jd_script.specs.declared.stop.Stop.TheVariants as stops
use Rattle.jd_script.specs.declared.stop.PartTurn.{PartTurn}
use Rattle.jd_script.specs.declared.stop.PartTurn.TheVariants as part_turns

abbrev pub limits_view : Limits → scripts.Limits
limits_view l = limits_of l.steps l.levels

abbrev pub stop_view : Stop → Fault
stop_view stops.Wrong = WrongToken
stop_view stops.Version = Over answers.Version
stop_view stops.Duplicate = Over answers.Names
stop_view stops.TooManySteps = Over answers.Steps
stop_view stops.TooDeep = Over answers.Levels

abbrev pub nodes_of : OpenProof → List PlainNode
nodes_of p = map node_view p.nodes.items

-- the innermost first
abbrev pub places_of : OpenProof → List ℕ
places_of p = reverse p.open_steps.items

-- the proof that is read, behind those that are done
abbrev pub context_of : List PlainProof → OpenProof → Context
context_of done p = record { version = 1; done = done; name = p.name.items }

abbrev pub turn_at : Context → List PlainNode → List ℕ → ℕ → Draft → PartTurn → Result State Fault
turn_at c ns os k d (part_turns.Goes q) = Ok (InProof c (part_view d q) ns os k)
turn_at c ns os k d (part_turns.Stops s) = Err (stop_view s)

abbrev pub part_turn : List PlainProof → OpenProof → PartTurn → Result State Fault
part_turn done p turn = turn_at (context_of done p) (nodes_of p) (places_of p) p.steps p.draft turn
