use Rattle.std.proofs.Common.{[], ◌++◌, map, subst, arith}
use Rattle.jd_syntax.specs.JavaTrees.{java_view}
use Rattle.jd_bodies.specs.Bodies.{Lines, effect_lines, effects_lines}
use Rattle.jd_code_makers.specs.Makers.{GivesStmts}
use Rattle.jd_statement_parts.specs.Standing.{Stands}
use Rattle.jd_statement_parts.proofs.Sequences.{effects_begin, effects_end, next_effect}
use Rattle.jd_statement_parts.proofs.declarations.effects.Goals as goal

pub loop-e-init : goal.loop-e-init
loop-e-init g c = (λ q ls h. ([], q, h, c.no_stmts-made.ensures, effects_begin (g.D.Declares.declarations c.args.m.now.declared.now) c.args.m.now.place ls (map java_view c.args.es.now) q), λ w. w)

pub loop-e-preserved : goal.loop-e-preserved
loop-e-preserved g c = (
  λ q ls h.
      let i = c.loop-e.invariant.0 q ls h in (
        i.0 ++ (effect_lines (g.D.Declares.declarations c.args.m.now.declared.now) c.args.m.now.place ls (java_view c.e-item.result) i.1).1,
        (effect_lines (g.D.Declares.declarations c.args.m.now.declared.now) c.args.m.now.place ls (java_view c.e-item.result) i.1).0,
        c.effect_code.ensures.stands i.1 ls i.2,
        c.appended_stmts-made.ensures i.0 (effect_lines (g.D.Declares.declarations c.args.m.now.declared.now) c.args.m.now.place ls (java_view c.e-item.result) i.1).1 i.3 (c.effect_code.ensures.stmts i.1 ls i.2),
        next_effect (g.D.Declares.declarations c.args.m.now.declared.now) c.args.m.now.place ls c.args.es.now c.loop-e.e-index c.e-item.result i.0 i.1 (effects_lines (g.D.Declares.declarations c.args.m.now.declared.now) c.args.m.now.place ls (map java_view c.args.es.now) q) c.loop-e-test.true c.e-item.is i.4,
      ),
  λ w. c.loop-e.invariant.1 (c.effect_code.ensures.works w),
)

pub returns-clause-stands : goal.returns-clause-stands
returns-clause-stands g c = λ q ls h.
    let i = c.loop-e.invariant.0 q ls h in
    subst (λ (r : Lines). Stands c.loop-e.p (g.S.InScope.scope c.args.scope.now).locals r.0 ls) (effects_end (g.D.Declares.declarations c.args.m.now.declared.now) c.args.m.now.place ls c.args.es.now c.loop-e.e-index i.0 i.1 (effects_lines (g.D.Declares.declarations c.args.m.now.declared.now) c.args.m.now.place ls (map java_view c.args.es.now) q) (omega (arith, c.loop-e-test.false)) i.4) i.2

pub returns-clause-stmts : goal.returns-clause-stmts
returns-clause-stmts g c = λ q ls h.
    let i = c.loop-e.invariant.0 q ls h in
    subst (λ (r : Lines). GivesStmts c.loop-e.made r.1) (effects_end (g.D.Declares.declarations c.args.m.now.declared.now) c.args.m.now.place ls c.args.es.now c.loop-e.e-index i.0 i.1 (effects_lines (g.D.Declares.declarations c.args.m.now.declared.now) c.args.m.now.place ls (map java_view c.args.es.now) q) (omega (arith, c.loop-e-test.false)) i.4) i.3
