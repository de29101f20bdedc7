use Rattle.std.proofs.Common.{◌≡◌, length, map, subst, arith}
use Rattle.std.proofs.lemmas.Bool.{both_ways}
use Rattle.std.proofs.lemmas.List.{length-map}
use Rattle.jd_jlists.specs.Views.{member_of_view}
use Rattle.jd_jclashes.specs.Repeats.{IsSeenIn}
use Rattle.jd_jclashes.proofs.Lists.{viewed_at}
use Rattle.jd_jclashes.proofs.Repeating.{first_repeat, key_at, nowhere, one_more}
use Rattle.jd_jclashes.proofs.Seconds.{first_second, key_below, no_second, reads_key}
use Rattle.jd_jclashes.proofs.repeats.first_repeat.Goals as goal

pub returns-then-see-clause-found : goal.returns-then-see-clause-found
returns-then-see-clause-found c units same =
    let ms = map member_of_view c.args.members.now in
    let m = member_of_view c.index-members-i.result in
    let there = viewed_at member_of_view c.args.members.now c.loop-i.i c.index-members-i.result c.index-members-i.is c.loop-i-test.true in
    let key : c.key-key.result ≡ key_at c.args.compared ms c.args.names.now.of.now c.args.names.now.count c.loop-i.i m = reads_key c.args.compared ms c.args.names.now.of.now c.args.names.now.count c.loop-i.i _ m c.key-key.result c.requires.named there c.key-key.ensures in
    first_second units ms same c.args.names.now.of.now c.args.names.now.count c.requires.named c.args.compared c.loop-i.i
    (first_repeat c.args.compared ms c.args.names.now.of.now c.args.names.now.count c.requires.rising c.loop-i.i m c.loop-i.last.items there c.loop-i.invariant
    (subst (λ k. IsSeenIn c.loop-i.last.items k m.class) key (c.see.ensures.seen.0 c.if-see.true)))

pub loop-i-preserved : goal.loop-i-preserved
loop-i-preserved c =
    let ms = map member_of_view c.args.members.now in
    let m = member_of_view c.index-members-i.result in
    let there = viewed_at member_of_view c.args.members.now c.loop-i.i c.index-members-i.result c.index-members-i.is c.loop-i-test.true in
    let key : c.key-key.result ≡ key_at c.args.compared ms c.args.names.now.of.now c.args.names.now.count c.loop-i.i m = reads_key c.args.compared ms c.args.names.now.of.now c.args.names.now.count c.loop-i.i _ m c.key-key.result c.requires.named there c.key-key.ensures in
    one_more c.args.compared ms c.args.names.now.of.now c.args.names.now.count c.requires.rising c.loop-i.i m c.loop-i.last.items there c.loop-i.invariant
    c.key-key.result c.see.new.last.items key (key_below c.args.compared ms c.args.names.now.of.now c.args.names.now.count c.loop-i.i _ m c.key-key.result c.requires.named there c.key-key.ensures) c.see.ensures.now (λ seen. both_ways c.see.result c.if-see.false (c.see.ensures.seen.1 seen))

pub returns-clause-found : goal.returns-clause-found
returns-clause-found c units same =
    let ms = map member_of_view c.args.members.now in
    let all : c.loop-i.i ≡ length ms = omega (arith, length-map c.args.members.now member_of_view) in
    no_second units ms same c.args.names.now.of.now c.args.names.now.count c.requires.named c.args.compared
    (nowhere c.args.compared ms c.args.names.now.of.now c.args.names.now.count c.loop-i.i c.loop-i.last.items all c.loop-i.invariant)
