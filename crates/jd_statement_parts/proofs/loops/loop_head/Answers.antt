use Rattle.std.proofs.Common.{option_map}
use Rattle.std.specs.Option.{option_copied}
use Rattle.jd_syntax.specs.JavaTrees.{java_view}
use Rattle.jd_bodies.specs.Bodies.{condition_code, label_if}
use Rattle.jd_bodies.specs.Codes.{code_of}
use Rattle.jd_statement_parts.specs.Turning.{entered}
use Rattle.jd_statement_parts.proofs.Standing.{moves_on, there}
use Rattle.jd_statement_parts.proofs.loops.loop_head.Goals as goal

pub returns-clause-stands : goal.returns-clause-stands
returns-clause-stands g c = λ q ls h.
    moves_on c.condition_code-condition.new.p c.label_if-repeated.new.p (g.S.InScope.scope c.args.scope.now).locals ls ((condition_code (code_of (g.D.Declares.declarations c.args.m.now.declared.now) c.args.m.now.place ls) (option_map java_view (option_copied c.args.c))) (entered c.args.leaves ls q)).0 (label_if c.args.repeats ((condition_code (code_of (g.D.Declares.declarations c.args.m.now.declared.now) c.args.m.now.place ls) (option_map java_view (option_copied c.args.c))) (entered c.args.leaves ls q)).0) c.label_if-repeated.ensures.works (c.condition_code-condition.ensures.stands (entered c.args.leaves ls q) ls (c.entered-number.ensures.stands (label_if c.args.leaves q) ls (moves_on c.args.p.now c.label_if-left.new.p (g.S.InScope.scope c.args.scope.now).locals ls q (label_if c.args.leaves q) c.label_if-left.ensures.works h (c.label_if-left.ensures.progress q)))) (c.label_if-repeated.ensures.progress ((condition_code (code_of (g.D.Declares.declarations c.args.m.now.declared.now) c.args.m.now.place ls) (option_map java_view (option_copied c.args.c))) (entered c.args.leaves ls q)).0)

pub returns-clause-numbers : goal.returns-clause-numbers
returns-clause-numbers g c = λ q ls h.
    c.all_numbers.ensures (label_if c.args.leaves q).labels (entered c.args.leaves ls q).loops (label_if c.args.repeats ((condition_code (code_of (g.D.Declares.declarations c.args.m.now.declared.now) c.args.m.now.place ls) (option_map java_view (option_copied c.args.c))) (entered c.args.leaves ls q)).0).labels (c.label_if-left.ensures.number q (there c.args.p.now (g.S.InScope.scope c.args.scope.now).locals ls q h)) (c.entered-number.ensures.number (label_if c.args.leaves q) ls (moves_on c.args.p.now c.label_if-left.new.p (g.S.InScope.scope c.args.scope.now).locals ls q (label_if c.args.leaves q) c.label_if-left.ensures.works h (c.label_if-left.ensures.progress q)))
    (c.label_if-repeated.ensures.number ((condition_code (code_of (g.D.Declares.declarations c.args.m.now.declared.now) c.args.m.now.place ls) (option_map java_view (option_copied c.args.c))) (entered c.args.leaves ls q)).0 (there c.condition_code-condition.new.p (g.S.InScope.scope c.args.scope.now).locals ls ((condition_code (code_of (g.D.Declares.declarations c.args.m.now.declared.now) c.args.m.now.place ls) (option_map java_view (option_copied c.args.c))) (entered c.args.leaves ls q)).0 (c.condition_code-condition.ensures.stands (entered c.args.leaves ls q) ls (c.entered-number.ensures.stands (label_if c.args.leaves q) ls (moves_on c.args.p.now c.label_if-left.new.p (g.S.InScope.scope c.args.scope.now).locals ls q (label_if c.args.leaves q) c.label_if-left.ensures.works h (c.label_if-left.ensures.progress q))))))

pub returns-clause-condition : goal.returns-clause-condition
returns-clause-condition g c = λ q ls h. c.condition_code-condition.ensures.value (entered c.args.leaves ls q) ls (c.entered-number.ensures.stands (label_if c.args.leaves q) ls (moves_on c.args.p.now c.label_if-left.new.p (g.S.InScope.scope c.args.scope.now).locals ls q (label_if c.args.leaves q) c.label_if-left.ensures.works h (c.label_if-left.ensures.progress q)))
