use Rattle.std.proofs.Common.{arith}
use Rattle.jd_tgrammar.specs.Spelling.{routine}
use Rattle.jd_tsorts.specs.Returned.{returns_view}
use Rattle.jd_tsorts.proofs.Operands.{too_many, wrong, right, all_there}
use Rattle.jd_tsorts.proofs.code.+is_sorted_code.Goals as goal

pub are_sorted_operands-returns-in_default : goal.are_sorted_operands-returns-in_default
are_sorted_operands-returns-in_default g t c =
    let names = g.N.NameMeanings.table c.args.names.now in
    too_many names (returns_view c.args.returns) (routine names c.args.method.0).parameters c.args.operands.now c.loop-number.number c.index-operands-number.result _ c.loop-number.invariant
    c.loop-number-test.true c.index-operands-number.is c.parameter_sort.ensures c.in_default.is

pub are_sorted_operands-returns-then-not-is_operand : goal.are_sorted_operands-returns-then-not-is_operand
are_sorted_operands-returns-then-not-is_operand g t c =
    let names = g.N.NameMeanings.table c.args.names.now in
    wrong names (returns_view c.args.returns) (routine names c.args.method.0).parameters c.args.operands.now c.loop-number.number c.index-operands-number.result c.in-Some.sort _ _ c.loop-number.invariant
    c.loop-number-test.true c.index-operands-number.is c.parameter_sort.ensures c.in-Some.is c.is_operand.ensures c.if-not-is_operand.true

pub are_sorted_operands-loop-number-preserved : goal.are_sorted_operands-loop-number-preserved
are_sorted_operands-loop-number-preserved g t c =
    let names = g.N.NameMeanings.table c.args.names.now in
    right names (returns_view c.args.returns) (routine names c.args.method.0).parameters c.args.operands.now c.loop-number.number c.index-operands-number.result c.in-Some.sort _ _ c.loop-number.invariant
    c.loop-number-test.true c.index-operands-number.is c.parameter_sort.ensures c.in-Some.is c.is_operand.ensures c.if-not-is_operand.false

pub are_sorted_operands-returns : goal.are_sorted_operands-returns
are_sorted_operands-returns g t c =
    let names = g.N.NameMeanings.table c.args.names.now in
    all_there names (returns_view c.args.returns) (routine names c.args.method.0).parameters c.args.operands.now c.loop-number.number c.parameter_sort-2.result _ c.loop-number.invariant
    (omega arith) c.parameter_sort-2.ensures c.is_none.ensures
