use Rattle.std.proofs.Common.{◌≡◌, ◌<◌, ◌∷◌, ◌++◌, Some, sym, ap, subst, ◌∙◌, []}
use Rattle.std.specs.Prelude.{reverse}
use Rattle.jd_grammar.specs.declared.table.Symbol.TheVariants.{Name}
use Rattle.jd_grammar.specs.Moves.{chosen_view, Leads}
use Rattle.jd_grammar.specs.Tables.{plain}
use Rattle.jd_grammar.specs.Tests.{lead}
use Rattle.jd_grammar.proofs.Runs.{run_used, run_weighs}
use Rattle.jd_grammar.proofs.Stacks.{put_on, lighter, top_is, top_first}
use Rattle.jd_grammar.proofs.Steps.{used, stopped}
use Rattle.jd_grammar.proofs.machine.Machine.expand.Goals as goal

-- what was to come, and what is now
before : (c : goal.In_ok-push_all) → reverse c.loop-name.self.stack.items ≡ Name c.in-Some-Name.name ∷ reverse c.pop.new.self.items
before c =
    top_is c.loop-name.self.stack.items c.deref.result.now c.pop.new.self.items _ c.in-Some-Name.field-0.now (Name c.in-Some-Name.name) c.deref.ensures.value c.deref.ensures.len c.in-Some-Name.ensures.value c.in-Some-Name.field-0-is c.pop.ensures.rest

after : (c : goal.In_ok-push_all) → reverse c.push_all.new.stack.items ≡ c.in-Some-choose.body.now ++ reverse c.pop.new.self.items
after c = put_on c.pop.new.self.items c.push_all.new.stack.items c.in-Some-choose.body.now c.in_ok-push_all.ensures

pub loop-name-smaller : goal.loop-name-smaller
loop-name-smaller c =
    let t = plain c.args.table.now in
    let less : lead t (c.in-Some-choose.body.now ++ reverse c.pop.new.self.items) < lead t (Name c.in-Some-Name.name ∷ reverse c.pop.new.self.items) =
    lighter c.requires.table.sets t c.in-Some-Name.name c.args.kind c.in-Some-choose.number c.in-Some-choose.body.now (reverse c.pop.new.self.items) c.requires.table.passes (sym c.in-Some-choose.ensures) in
    let moved : lead t (reverse c.push_all.new.stack.items) < lead t (reverse c.loop-name.self.stack.items) =
    subst (λ xs. lead t xs < lead t (reverse c.loop-name.self.stack.items)) (sym (after c)) (subst (λ xs. lead t (c.in-Some-choose.body.now ++ reverse c.pop.new.self.items) < lead t xs) (sym (before c)) less) in
    moved

pub loop-name-preserved : goal.loop-name-preserved
loop-name-preserved c = λ s start done passed l.
    let t = plain c.args.table.now in
    let was = subst (Leads s t start (Some c.args.kind) done c.loop-name.self.order.items) (before c) (c.loop-name.invariant s start done passed l) in
    let is = used s t start c.args.kind done c.loop-name.self.order.items c.in-Some-Name.name c.in-Some-choose.number c.in-Some-choose.body.now (reverse c.pop.new.self.items) passed (sym c.in-Some-choose.ensures) was in
    subst (λ xs. Leads s t start (Some c.args.kind) done xs (reverse c.push_all.new.stack.items)) (sym c.in_ok-put.ensures)
    (subst (Leads s t start (Some c.args.kind) done (c.loop-name.self.order.items ++ c.in-Some-choose.number ∷ [])) (sym (after c)) is)

pub returns-in_default-choose : goal.returns-in_default-choose
returns-in_default-choose c = λ s start done passed l.
    let t = plain c.args.table.now in
    let top = top_first c.loop-name.self.stack.items c.deref.result.now c.in-Some-Name.field-0.now (Name c.in-Some-Name.name) c.deref.ensures.value c.in-Some-Name.ensures.value c.in-Some-Name.field-0-is in
    let was = subst (Leads s t start (Some c.args.kind) done c.loop-name.self.order.items) top (c.loop-name.invariant s start done passed l) in
    stopped s t start c.args.kind done c.loop-name.self.order.items c.in-Some-Name.name _ passed (sym c.choose.ensures ∙ ap chosen_view c.in_default-choose.is) was

pub loop-name-smaller-in_ok-add_all-2 : goal.loop-name-smaller-in_ok-add_all-2
loop-name-smaller-in_ok-add_all-2 c =
    run_weighs (plain c.args.table.now) c.args.kind c.in-Some.order.now c.loop-name.self.stack.items c.truncate.new.self.items c.add_all-in-Some.new.items.items c.in-Some.behind.now c.in-Some.left c.requires.table c.in-Some.ensures c.truncate.ensures.items c.in_ok-add_all-2.ensures

pub loop-name-preserved-in_ok-add_all-2 : goal.loop-name-preserved-in_ok-add_all-2
loop-name-preserved-in_ok-add_all-2 c = λ s start done passed l.
    run_used s (plain c.args.table.now) start c.args.kind done c.loop-name.self.order.items c.in-Some.order.now c.add_all.new.items.items c.loop-name.self.stack.items c.truncate.new.self.items c.add_all-in-Some.new.items.items c.in-Some.behind.now c.in-Some.left c.requires.table passed c.in-Some.ensures c.truncate.ensures.items c.in_ok-add_all-2.ensures c.in_ok-add_all.ensures (c.loop-name.invariant s start done passed l)
