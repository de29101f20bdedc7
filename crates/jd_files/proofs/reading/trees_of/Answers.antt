use Rattle.std.proofs.Common.{◌<◌, length, map, subst, refl, arith}
use Rattle.std.proofs.lemmas.List.{length-map}
use Rattle.jd_syntax.specs.JavaTrees.{unit_view}
use Rattle.jd_files.specs.Readings.{ReadsMore}
use Rattle.jd_files.proofs.Trees.{AreReadTo, a_misfit, all_trees, item_at, reads_a_fault, reads_on}
use Rattle.jd_files.proofs.reading.trees_of.Goals as goal

pub returns-in-Faulty-clause-refused : goal.returns-in-Faulty-clause-refused
returns-in-Faulty-clause-refused c =
    let files = map (λ f. f.items) c.args.files.now in
    let lt : c.loop-number.number < length files = omega (arith, c.loop-number-test.true, length-map c.args.files.now (λ f. f.items)) in
    reads_a_fault files c.loop-number.number c.deref.result.now lt (item_at c.args.files.now c.loop-number.number c.index-files-number.result c.deref.result.now c.loop-number-test.true c.index-files-number.is c.deref.ensures.value)
    c.loop-number.so_far c.loop-number.number c.in-Faulty.refusal refl (subst (ReadsMore c.loop-number.so_far c.loop-number.number c.deref.result.now) c.in-Faulty.is c.in_ok-more.ensures) c.loop-number.invariant

pub loop-number-preserved : goal.loop-number-preserved
loop-number-preserved c =
    let files = map (λ f. f.items) c.args.files.now in
    let lt : c.loop-number.number < length files = omega (arith, c.loop-number-test.true, length-map c.args.files.now (λ f. f.items)) in
    reads_on files c.loop-number.number c.deref.result.now lt (item_at c.args.files.now c.loop-number.number c.index-files-number.result c.deref.result.now c.loop-number-test.true c.index-files-number.is c.deref.ensures.value)
    c.loop-number.so_far c.in-Tokens.more c.loop-number.number refl (subst (ReadsMore c.loop-number.so_far c.loop-number.number c.deref.result.now) c.in-Tokens.is c.in_ok-more.ensures) c.loop-number.invariant

pub returns-in-Trees-clause-trees : goal.returns-in-Trees-clause-trees
returns-in-Trees-clause-trees c =
    let files = map (λ f. f.items) c.args.files.now in
    all_trees files c.loop-number.number (map unit_view c.in-Trees.units.items) (omega (arith, c.loop-number-test.false, length-map c.args.files.now (λ f. f.items)))
    (subst (AreReadTo files c.loop-number.number) c.in-Trees.is c.loop-number.invariant)

pub returns-in-Misfit-clause-refused : goal.returns-in-Misfit-clause-refused
returns-in-Misfit-clause-refused c =
    let files = map (λ f. f.items) c.args.files.now in
    let known = subst (AreReadTo files c.loop-number.number) c.in-Misfit.is c.loop-number.invariant in
    a_misfit files c.loop-number.number c.in-Misfit.number c.in-Misfit.refusal (omega (arith, c.loop-number-test.false, length-map c.args.files.now (λ f. f.items))) known.0 known.1
