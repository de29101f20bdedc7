use Rattle.std.proofs.Common.{rules, ◌+◌, map, sym, subst}
use Rattle.std.specs.Prelude.{IsErrOf}
use Rattle.jd_answer.specs.declared.answer.Stop.TheVariants.{NoMemory, ReadFault}
use Rattle.jd_answer.specs.Words.{word_texts}
use Rattle.jd_answer.proofs.Files.{AreReadTo, all_read, finds_long, has_risen, is_steady, reads_more, same_still, still_same}
use Rattle.jd_answer.proofs.answer.read_files.Goals as goal

pub loop-name-preserved : goal.loop-name-preserved
loop-name-preserved g c =
    let contents = g.L.Library.contents c.args.library.now in
    let read = rw c.in-Some.is at c.in_ok-bytes.ensures.read in
    let more = reads_more contents (g.L.Library.contents c.loop-name.library) c.loop-name.invariant.contents c.args.names.now c.loop-name.name-index c.name-item.result c.as_str.result.now c.loop-name.files.items c.loop-name-test.true c.name-item.is c.as_str.ensures.value
    c.in-Some.bytes read c.loop-name.invariant.read in
    record {
      read = subst (λ l. AreReadTo contents (word_texts c.args.names.now) (c.loop-name.name-index + 1) (map (λ f. f.items) l)) (sym c.in_ok-push.ensures.items) more;
      many = search (rules, c.in_ok-push.ensures.items, c.loop-name.invariant.many);
      within = search (rules, c.in_ok-push.ensures.items, c.in_ok-bytes.ensures.within, c.loop-name.invariant.within);
      contents = same_still contents (g.L.Library.contents c.loop-name.library) _ c.loop-name.invariant.contents c.in_ok-bytes.ensures.kept;
      counts = still_same _ _ _ c.loop-name.invariant.counts c.in_ok-bytes.ensures.no_fault;
      steady = λ q is. c.in_ok-bytes.ensures.still_steady q (c.loop-name.invariant.steady q is);
    }

pub returns-in_default-clause-read : goal.returns-in_default-clause-read
returns-in_default-clause-read g c = λ told.
    let past = rw c.in_default.is at c.in_ok-bytes.ensures.read in
    finds_long (g.L.Library.contents c.args.library.now) (g.L.Library.contents c.loop-name.library) c.loop-name.invariant.contents c.args.names.now c.loop-name.name-index c.name-item.result c.as_str.result.now c.loop-name.files.items c.loop-name-test.true c.name-item.is c.as_str.ensures.value
    past c.loop-name.invariant.read told

pub returns-clause-read : goal.returns-clause-read
returns-clause-read g c = λ told. all_read (g.L.Library.contents c.args.library.now) c.args.names.now c.loop-name.name-index c.loop-name.files.items c.loop-name-test.false c.loop-name.invariant.read told

pub returns-in_err-bytes-clause-fault : goal.returns-in_err-bytes-clause-fault
returns-in_err-bytes-clause-fault g c = λ is.
    let failed : IsErrOf c.read_within.result ReadFault = search (rules, is) in
    has_risen (g.L.Library.contents c.args.library.now) (g.L.Library.contents c.loop-name.library) c.loop-name.invariant.contents c.args.names.now c.loop-name.name-index c.name-item.result c.as_str.result.now c.loop-name.files.items c.loop-name-test.true c.name-item.is c.as_str.ensures.value
    (g.L.Library.faults c.args.library.now) (g.L.Library.faults c.loop-name.library) (g.L.Library.faults c.read_within.new.library) c.loop-name.invariant.counts (c.read_within.ensures.fault failed)

pub returns-in_err-bytes-clause-no_memory_no_fault : goal.returns-in_err-bytes-clause-no_memory_no_fault
returns-in_err-bytes-clause-no_memory_no_fault g c = λ is.
    let failed : IsErrOf c.read_within.result NoMemory = search (rules, is) in
    still_same (g.L.Library.faults c.args.library.now) (g.L.Library.faults c.loop-name.library) (g.L.Library.faults c.read_within.new.library) c.loop-name.invariant.counts (c.read_within.ensures.no_memory_no_fault failed)

pub returns-in_err-bytes-clause-steadily : goal.returns-in_err-bytes-clause-steadily
returns-in_err-bytes-clause-steadily g c = λ all is.
    let failed : IsErrOf c.read_within.result ReadFault = search (rules, is) in
    c.read_within.ensures.steadily (is_steady (g.L.Library.contents c.args.library.now) (g.L.Library.contents c.loop-name.library) c.loop-name.invariant.contents c.args.names.now c.loop-name.name-index c.name-item.result c.as_str.result.now c.loop-name.files.items c.loop-name-test.true c.name-item.is c.as_str.ensures.value
    (g.L.Library.steady c.args.library.now) (g.L.Library.steady c.loop-name.library) all c.loop-name.invariant.steady) failed
