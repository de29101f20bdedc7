use Rattle.std.proofs.Common.{◌≡◌, ◌∙◌, length, ap, arith}
use Rattle.std.proofs.lemmas.List.{length-take}
use Rattle.jd_base.proofs.Pieces.{written_back, append_same, long_enough, ended, taken_whole, Reading-start, Reading-more}
use Rattle.jd_base.proofs.whole.read_whole.Goals as goal

pub loop-bytes-init : goal.loop-bytes-init
loop-bytes-init g c =
    (c.in_ok-piece.ensures.len, Reading-start _ _ _ _ _ _ c.new-bytes.ensures.len c.new-bytes.ensures.items, λ _ is. is)

pub returns-in_err-taken-clause-fault : goal.returns-in_err-taken-clause-fault
returns-in_err-taken-clause-fault g c = λ _ low.
    let kept = c.loop-bytes.invariant.1.counts c.args.name.now in
    let rose = c.in_err-taken.ensures.fault low in omega arith

pub returns-in_err-taken-clause-counts : goal.returns-in_err-taken-clause-counts
returns-in_err-taken-clause-counts g c = λ q.
    let kept = c.loop-bytes.invariant.1.counts q in
    let more = c.in_err-taken.ensures.counts q in omega arith

pub returns-in_err-taken-clause-kept : goal.returns-in_err-taken-clause-kept
returns-in_err-taken-clause-kept g c = λ q. c.in_err-taken.ensures.kept q ∙ c.loop-bytes.invariant.1.kept q

pub returns-then-taken-eq0-clause-whole : goal.returns-then-taken-eq0-clause-whole
returns-then-taken-eq0-clause-whole g c = λ told is.
    let begun = c.loop-bytes.invariant.1 in
    let progress = c.in_ok-taken.ensures.progress told (begun.kept c.args.name.now ∙ is) in
    taken_whole told _ _ (begun.begun told is)
    (ended told _ _ _ _ c.len.ensures c.if-taken-eq0.true (omega (arith, c.deref_mut.ensures.len, c.loop-bytes.invariant.0)) progress)

pub returns-then-taken-eq0-clause-not_past_the_limit :
    goal.returns-then-taken-eq0-clause-not_past_the_limit
returns-then-taken-eq0-clause-not_past_the_limit g c = λ told is past.
    let begun = c.loop-bytes.invariant.1 in
    let progress = c.in_ok-taken.ensures.progress told (begun.kept c.args.name.now ∙ is) in
    let end = ended told _ _ _ _ c.len.ensures c.if-taken-eq0.true (omega (arith, c.deref_mut.ensures.len, c.loop-bytes.invariant.0)) progress in
    absurd (omega (arith, begun.within, end))

pub returns-then-taken-eq0-clause-always_fault : goal.returns-then-taken-eq0-clause-always_fault
returns-then-taken-eq0-clause-always_fault g c = λ more.
    let kept = c.loop-bytes.invariant.1.counts c.args.name.now in
    let calm = c.in_ok-taken.ensures.no_fault c.args.name.now in absurd (omega arith)

pub returns-then-taken-eq0-clause-kept : goal.returns-then-taken-eq0-clause-kept
returns-then-taken-eq0-clause-kept g c = λ q. c.in_ok-taken.ensures.kept q ∙ c.loop-bytes.invariant.1.kept q

pub returns-then-taken-limit-clause-too_large : goal.returns-then-taken-limit-clause-too_large
returns-then-taken-limit-clause-too_large g c = λ _ told is.
    let begun = c.loop-bytes.invariant.1 in
    let next = c.in_ok-taken.ensures.bytes told (begun.kept c.args.name.now ∙ is) in
    let long = long_enough told _ _ _ (omega (arith, c.in_ok-taken.ensures.bound, c.read.auto.into)) (omega (arith, c.if-taken-eq0.false)) next in
    omega (arith, long, c.if-taken-limit.true, c.len.ensures, c.len-in-loop-bytes.ensures)

pub returns-then-taken-limit-clause-always_fault :
    goal.returns-then-taken-limit-clause-always_fault
returns-then-taken-limit-clause-always_fault g c = λ more.
    let kept = c.loop-bytes.invariant.1.counts c.args.name.now in
    let calm = c.in_ok-taken.ensures.no_fault c.args.name.now in absurd (omega arith)

pub returns-then-taken-limit-clause-kept : goal.returns-then-taken-limit-clause-kept
returns-then-taken-limit-clause-kept g c = λ q. c.in_ok-taken.ensures.kept q ∙ c.loop-bytes.invariant.1.kept q

pub loop-bytes-preserved : goal.loop-bytes-preserved
loop-bytes-preserved g c =
    let whole : c.deref.result.now ≡ c.read.new.into =
    written_back _ _ _ _ c.deref.ensures.value (omega (arith, c.read.auto.into, c.deref_mut.ensures.len)) in (
      c.loop-bytes.invariant.0,
      Reading-more c.read.new.into _ _ c.in_ok-taken.taken _ c.loop-bytes.invariant.1 c.in_ok-taken.ensures.no_fault c.in_ok-taken.ensures.kept c.len.ensures c.in_ok-taken.ensures.bytes
          (omega (arith, c.if-taken-limit.false, c.len-in-loop-bytes.ensures))
          (omega (arith, c.in_ok-extend_from_slice.ensures.len, length-take c.in_ok-taken.taken c.deref.result.now, c.in_ok-taken.ensures.bound, c.read.auto.into, ap length whole))
          (append_same _ _ _ _ _ c.in_ok-extend_from_slice.ensures.items whole),
      λ q is. c.in_ok-taken.ensures.still_steady q (c.loop-bytes.invariant.2 q is),
    )

pub returns-in_err-extend_from_slice-clause-always_fault :
    goal.returns-in_err-extend_from_slice-clause-always_fault
returns-in_err-extend_from_slice-clause-always_fault g c = λ more.
    let kept = c.loop-bytes.invariant.1.counts c.args.name.now in
    let calm = c.in_ok-taken.ensures.no_fault c.args.name.now in absurd (omega arith)

pub returns-in_err-extend_from_slice-clause-no_memory_no_fault :
    goal.returns-in_err-extend_from_slice-clause-no_memory_no_fault
returns-in_err-extend_from_slice-clause-no_memory_no_fault g c = λ _ q.
    c.in_ok-taken.ensures.no_fault q ∙ c.loop-bytes.invariant.1.counts q

pub returns-in_err-extend_from_slice-clause-counts :
    goal.returns-in_err-extend_from_slice-clause-counts
returns-in_err-extend_from_slice-clause-counts g c = λ q.
    let kept = c.loop-bytes.invariant.1.counts q in
    let calm = c.in_ok-taken.ensures.no_fault q in omega arith

pub returns-in_err-extend_from_slice-clause-kept :
    goal.returns-in_err-extend_from_slice-clause-kept
returns-in_err-extend_from_slice-clause-kept g c = λ q.
    c.in_ok-taken.ensures.kept q ∙ c.loop-bytes.invariant.1.kept q

pub returns-in_err-taken-clause-steadily : goal.returns-in_err-taken-clause-steadily
returns-in_err-taken-clause-steadily g c = λ is _.
    let failed = c.in_err-taken.ensures.steadily (c.loop-bytes.invariant.2 c.args.name.now is) in cc

pub returns-in_err-taken-clause-still_steady : goal.returns-in_err-taken-clause-still_steady
returns-in_err-taken-clause-still_steady g c = λ q is.
    c.in_err-taken.ensures.still_steady q (c.loop-bytes.invariant.2 q is)

pub returns-then-taken-eq0-clause-still_steady : goal.returns-then-taken-eq0-clause-still_steady
returns-then-taken-eq0-clause-still_steady g c = λ q is.
    c.in_ok-taken.ensures.still_steady q (c.loop-bytes.invariant.2 q is)

pub returns-then-taken-limit-clause-still_steady : goal.returns-then-taken-limit-clause-still_steady
returns-then-taken-limit-clause-still_steady g c = λ q is.
    c.in_ok-taken.ensures.still_steady q (c.loop-bytes.invariant.2 q is)

pub returns-in_err-extend_from_slice-clause-still_steady :
    goal.returns-in_err-extend_from_slice-clause-still_steady
returns-in_err-extend_from_slice-clause-still_steady g c = λ q is.
    c.in_ok-taken.ensures.still_steady q (c.loop-bytes.invariant.2 q is)
