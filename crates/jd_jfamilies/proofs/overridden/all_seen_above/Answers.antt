use Rattle.std.proofs.Common.{◌+◌, ℕ, List, Option, map, subst, sym, ap, ◌∙◌}
use Rattle.jd_jfamilies.specs.Listed.{AreListed}
use Rattle.jd_jseen.specs.Seen.{cells_of, name_count}
use Rattle.jd_jlists.specs.Views.{member_of_view}
use Rattle.jd_jfamilies.proofs.More.{not_listed, one_listed, viewed_at}
use Rattle.jd_jfamilies.proofs.overridden.all_seen_above.Goals as goal
use Rattle.jd_jfamilies.proofs.overridden.all_seen_above.Goals.{then-is_routine+in_ok-push, else-is_routine}

pub seen_above-requires : goal.seen_above-requires
seen_above-requires c =
    let a = c.index-members-index.result in
    c.requires.within c.loop-index.index (member_of_view a) (viewed_at c.args.members.now c.loop-index.index a c.index-members-index.is c.loop-index-test.true)

pub loop-index-preserved : goal.loop-index-preserved
loop-index-preserved c =
    let members = map member_of_view c.args.members.now in
    let a = c.index-members-index.result in
    let i = c.loop-index.index in
    let there = viewed_at c.args.members.now i a c.index-members-index.is c.loop-index-test.true in
    let P = AreListed c.args.parents.now members c.args.names.now (name_count c.args.seen.now) (cells_of c.args.seen.now) in
    elim c.if-is_routine.branch [
      | then-is_routine+in_ok-push w ↦
          subst (λ (l : List (Option ℕ)). P (i + 1) l) (sym (ap (λ v. v.items) w.listed-is ∙ w.in_ok-push.ensures.items))
          (one_listed c.args.parents.now members c.args.names.now (name_count c.args.seen.now) (cells_of c.args.seen.now) i (member_of_view a) c.loop-index.listed.items there c.loop-index.invariant
          (sym c.is_routine.ensures ∙ w.if-is_routine.true) w.seen_above.result w.seen_above.ensures)
      | else-is_routine w ↦
          subst (λ (l : List (Option ℕ)). P (i + 1) l) (sym (ap (λ v. v.items) w.listed-is))
          (not_listed c.args.parents.now members c.args.names.now (name_count c.args.seen.now) (cells_of c.args.seen.now) i (member_of_view a) c.loop-index.listed.items there c.loop-index.invariant
          (sym c.is_routine.ensures ∙ w.if-is_routine.false))
    ]
