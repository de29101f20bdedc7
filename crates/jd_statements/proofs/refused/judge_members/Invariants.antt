use Rattle.std.proofs.Common.{◌≡◌, drop, map}
use Rattle.jd_bodies.specs.Refused as plain
use Rattle.jd_bodies.specs.Scopes.{empty_scope}
use Rattle.jd_naming.specs.Marks.{marked}
use Rattle.jd_syntax.specs.JavaTrees.{member_view}
use Rattle.jd_statements.proofs.refused.judge_members.Given as goal

-- what is left decides, and nothing is in scope
abbrev pub invariant-loop-m : goal.invariant-loop-m
invariant-loop-m g l = record {
  left : plain.members (g.D.Declares.declarations l.d) l.class (map member_view l.members) ≡ plain.members (g.D.Declares.declarations l.d) l.class (map member_view (drop l.m-index l.members));
  empty : g.S.InScope.scope l.scope ≡ empty_scope;
  mark : l.mark ≡ marked empty_scope;
}
