use Rattle.std.proofs.Common.{map, refl, ap, ◌∙◌}
use Rattle.jd_patterns.specs.Bindings.{Equal, Different}
use Rattle.jd_schema_matching.specs.Bound.{looked}
use Rattle.jd_schema_matching.specs.PartViews.{bindings, entry_view, part_view}
use Rattle.jd_schema_matching.proofs.Binding.{bound_as, bound_push}
use Rattle.jd_schema_matching.proofs.found.bind.Goals as goal

pub returns-in_ok-push-in-OtherKind : goal.returns-in_ok-push-in-OtherKind
returns-in_ok-push-in-OtherKind c = bound_push entry_view c.args.found.now.entries.items c.push.new.self.items _ c.args.n.now (part_view c.args.x) refl c.in_ok-push-in-OtherKind.ensures.ok (c.in-OtherKind.ensures ∙ ap (λ l. looked c.args.n.now (part_view c.args.x) (map entry_view l)) c.as_slice.ensures)

pub returns-in-Equal : goal.returns-in-Equal
returns-in-Equal c = bound_as Equal c.args.n.now (part_view c.args.x) (bindings c.args.found.now) (c.in-Equal.ensures ∙ ap (λ l. looked c.args.n.now (part_view c.args.x) (map entry_view l)) c.as_slice.ensures)

pub returns-in-Different : goal.returns-in-Different
returns-in-Different c = bound_as Different c.args.n.now (part_view c.args.x) (bindings c.args.found.now) (c.in-Different.ensures ∙ ap (λ l. looked c.args.n.now (part_view c.args.x) (map entry_view l)) c.as_slice.ensures)
