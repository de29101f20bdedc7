use Rattle.std.proofs.Common.{ap, option_map, sym, ◌∙◌}
use Rattle.jd_bodies.specs.Codes as codes
use Rattle.jd_code_makers.specs.Held.{Holds}
use Rattle.jd_code_makers.specs.Makers.{GivesStmts}
use Rattle.jd_expression_code.specs.Assigning.{begun, begun_view, reading}
use Rattle.jd_syntax.specs.JavaTrees.{java_view}
use Rattle.jd_effect_code.proofs.Changes.{change_none, change_some}
use Rattle.jd_effect_code.proofs.assigned.change.Goals as goal

pub returns-in-Ok-None-clause-progress : goal.returns-in-Ok-None-clause-progress
returns-in-Ok-None-clause-progress g c = λ q h.
    change_none (λ r. Holds c.begin.new.p r.0) c.args.operation (codes.target_of (g.D.Declares.declarations c.args.m.now.declared.now) c.args.m.now.place (g.S.InScope.scope c.args.scope.now).locals (java_view c.args.e.now)) (codes.code_of (g.D.Declares.declarations c.args.m.now.declared.now) c.args.m.now.place (g.S.InScope.scope c.args.scope.now).locals (java_view c.args.v.now)) q (sym (ap (option_map begun_view) c.in-Ok-None.field-0-is) ∙ c.in-Ok-None.ensures.begun q h) (c.begin.ensures.progress q h)

pub returns-in-Ok-None-clause-stmts : goal.returns-in-Ok-None-clause-stmts
returns-in-Ok-None-clause-stmts g c = λ q h.
    change_none (λ r. GivesStmts c.no_stmts.result r.1) c.args.operation (codes.target_of (g.D.Declares.declarations c.args.m.now.declared.now) c.args.m.now.place (g.S.InScope.scope c.args.scope.now).locals (java_view c.args.e.now)) (codes.code_of (g.D.Declares.declarations c.args.m.now.declared.now) c.args.m.now.place (g.S.InScope.scope c.args.scope.now).locals (java_view c.args.v.now)) q (sym (ap (option_map begun_view) c.in-Ok-None.field-0-is) ∙ c.in-Ok-None.ensures.begun q h) c.no_stmts.ensures

pub returns-in-Ok-Some-clause-progress : goal.returns-in-Ok-Some-clause-progress
returns-in-Ok-Some-clause-progress g c = λ q h.
    change_some (λ r. Holds c.code_of.new.p r.0) c.args.operation (codes.target_of (g.D.Declares.declarations c.args.m.now.declared.now) c.args.m.now.place (g.S.InScope.scope c.args.scope.now).locals (java_view c.args.e.now)) (codes.code_of (g.D.Declares.declarations c.args.m.now.declared.now) c.args.m.now.place (g.S.InScope.scope c.args.scope.now).locals (java_view c.args.v.now)) q (begun_view c.in-Ok-Some.b) (sym (ap (option_map begun_view) c.in-Ok-Some.field-0-is) ∙ c.in-Ok-Some.ensures.begun q h)
    (c.code_of.ensures.progress (reading (begun_view c.in-Ok-Some.b) (begun (codes.target_of (g.D.Declares.declarations c.args.m.now.declared.now) c.args.m.now.place (g.S.InScope.scope c.args.scope.now).locals (java_view c.args.e.now)) q).0).0 (c.read-r.ensures.progress (begun (codes.target_of (g.D.Declares.declarations c.args.m.now.declared.now) c.args.m.now.place (g.S.InScope.scope c.args.scope.now).locals (java_view c.args.e.now)) q).0 (c.begin.ensures.progress q h)))

pub returns-in-Ok-Some-clause-stmts : goal.returns-in-Ok-Some-clause-stmts
returns-in-Ok-Some-clause-stmts g c = λ q h.
    change_some (λ r. GivesStmts c.changed.result r.1) c.args.operation (codes.target_of (g.D.Declares.declarations c.args.m.now.declared.now) c.args.m.now.place (g.S.InScope.scope c.args.scope.now).locals (java_view c.args.e.now)) (codes.code_of (g.D.Declares.declarations c.args.m.now.declared.now) c.args.m.now.place (g.S.InScope.scope c.args.scope.now).locals (java_view c.args.v.now)) q (begun_view c.in-Ok-Some.b) (sym (ap (option_map begun_view) c.in-Ok-Some.field-0-is) ∙ c.in-Ok-Some.ensures.begun q h)
    (c.changed.ensures (reading (begun_view c.in-Ok-Some.b) (begun (codes.target_of (g.D.Declares.declarations c.args.m.now.declared.now) c.args.m.now.place (g.S.InScope.scope c.args.scope.now).locals (java_view c.args.e.now)) q).0).1 ((codes.code_of (g.D.Declares.declarations c.args.m.now.declared.now) c.args.m.now.place (g.S.InScope.scope c.args.scope.now).locals (java_view c.args.v.now)) (reading (begun_view c.in-Ok-Some.b) (begun (codes.target_of (g.D.Declares.declarations c.args.m.now.declared.now) c.args.m.now.place (g.S.InScope.scope c.args.scope.now).locals (java_view c.args.e.now)) q).0).0).1 (c.read-r.ensures.reading (begun (codes.target_of (g.D.Declares.declarations c.args.m.now.declared.now) c.args.m.now.place (g.S.InScope.scope c.args.scope.now).locals (java_view c.args.e.now)) q).0 (c.begin.ensures.progress q h)) (c.code_of.ensures.value (reading (begun_view c.in-Ok-Some.b) (begun (codes.target_of (g.D.Declares.declarations c.args.m.now.declared.now) c.args.m.now.place (g.S.InScope.scope c.args.scope.now).locals (java_view c.args.e.now)) q).0).0 (c.read-r.ensures.progress (begun (codes.target_of (g.D.Declares.declarations c.args.m.now.declared.now) c.args.m.now.place (g.S.InScope.scope c.args.scope.now).locals (java_view c.args.e.now)) q).0 (c.begin.ensures.progress q h))))
