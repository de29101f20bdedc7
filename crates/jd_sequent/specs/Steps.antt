-- Plain steps and script nodes, and their views.
use Rattle.std.specs.Prelude.{option_map, map}
use Rattle.std.specs.Global.{Box}
use Rattle.jd_syntax.specs.Sxs.{sx_view}
use Rattle.jd_model.specs.Sequents.{place_view}
use Rattle.jd_sequent.specs.Trees.{PlainStep, PlainNode}
use Rattle.jd_sequent.specs.declared.script.Step.{Step}
use Rattle.jd_sequent.specs.declared.script.ScriptNode.{ScriptNode}

abbrev pub step_view : Step → PlainStep
step_view s = record {
  rule = s.rule.items;
  place = option_map place_view s.place;
  assumes = map (option_map place_view) s.assumes.items;
  insts = map (λ p. (p.0.items, sx_view p.1)) s.insts.items;
}

-- the step of a node, which stands in a box
abbrev pub boxed_view : Box Step → PlainStep
boxed_view b = step_view b.value

abbrev pub node_view : ScriptNode → PlainNode
node_view n = record { step = option_map boxed_view n.step; children = n.children }
