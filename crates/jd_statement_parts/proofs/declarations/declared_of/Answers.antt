use Rattle.std.proofs.Common.{[], ◌∷◌, ◌++◌, map, subst, arith}
use Rattle.jd_syntax.specs.JavaTrees.{declarator_view}
use Rattle.jd_bodies.specs.Bodies.{Scoped, declared_lines}
use Rattle.jd_code_makers.specs.Makers.{GivesStmts}
use Rattle.jd_statement_parts.specs.Standing.{Stands, declared_one, local_of}
use Rattle.jd_statement_parts.proofs.Sequences.{declared_begin, declared_end, next_declared}
use Rattle.jd_statement_parts.proofs.declarations.declared_of.Goals as goal

pub loop-x-init : goal.loop-x-init
loop-x-init g c = (λ q ls h. ([], q, ls, h, c.no_stmts-made.ensures, declared_begin (g.D.Declares.declarations c.args.m.now.declared.now) c.args.m.now.place c.args.t (map declarator_view c.args.xs.now) ls q), λ w. w)

pub loop-x-preserved : goal.loop-x-preserved
loop-x-preserved g c = (
  λ q ls h.
      let i = c.loop-x.invariant.0 q ls h in (
        i.0 ++ (declared_one (g.D.Declares.declarations c.args.m.now.declared.now) c.args.m.now.place c.args.t (declarator_view c.x-item.result) i.2 i.1).1,
        (declared_one (g.D.Declares.declarations c.args.m.now.declared.now) c.args.m.now.place c.args.t (declarator_view c.x-item.result) i.2 i.1).0,
        local_of (declarator_view c.x-item.result).name.name c.args.t ∷ i.2,
        c.declare_one.ensures.stands i.1 i.2 i.3,
        c.appended_stmts-made.ensures i.0 (declared_one (g.D.Declares.declarations c.args.m.now.declared.now) c.args.m.now.place c.args.t (declarator_view c.x-item.result) i.2 i.1).1 i.4 (c.declare_one.ensures.stmts i.1 i.2 i.3),
        next_declared (g.D.Declares.declarations c.args.m.now.declared.now) c.args.m.now.place c.args.t c.args.xs.now c.loop-x.x-index c.x-item.result i.0 i.2 i.1 (declared_lines (g.D.Declares.declarations c.args.m.now.declared.now) c.args.m.now.place c.args.t (map declarator_view c.args.xs.now) ls q) c.loop-x-test.true c.x-item.is i.5,
      ),
  λ w. c.loop-x.invariant.1 (c.declare_one.ensures.works w),
)

pub returns-clause-stands : goal.returns-clause-stands
returns-clause-stands g c = λ q ls h.
    let i = c.loop-x.invariant.0 q ls h in
    subst (λ (r : Scoped). Stands c.loop-x.p (g.S.InScope.scope c.loop-x.scope).locals r.lines.0 r.locals) (declared_end (g.D.Declares.declarations c.args.m.now.declared.now) c.args.m.now.place c.args.t c.args.xs.now c.loop-x.x-index i.0 i.2 i.1 (declared_lines (g.D.Declares.declarations c.args.m.now.declared.now) c.args.m.now.place c.args.t (map declarator_view c.args.xs.now) ls q) (omega (arith, c.loop-x-test.false)) i.5) i.3

pub returns-clause-stmts : goal.returns-clause-stmts
returns-clause-stmts g c = λ q ls h.
    let i = c.loop-x.invariant.0 q ls h in
    subst (λ (r : Scoped). GivesStmts c.loop-x.made r.lines.1) (declared_end (g.D.Declares.declarations c.args.m.now.declared.now) c.args.m.now.place c.args.t c.args.xs.now c.loop-x.x-index i.0 i.2 i.1 (declared_lines (g.D.Declares.declarations c.args.m.now.declared.now) c.args.m.now.place c.args.t (map declarator_view c.args.xs.now) ls q) (omega (arith, c.loop-x-test.false)) i.5) i.4
