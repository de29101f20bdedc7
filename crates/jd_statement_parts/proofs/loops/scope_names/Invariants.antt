use Rattle.std.proofs.Common.{map, reverse, take}
use Rattle.jd_bodies.specs.Scopes.{Local}
use Rattle.jd_bodies.specs.Variables.{Progress, local_name}
use Rattle.jd_code_makers.specs.Held.{Holds}
use Rattle.jd_code_makers.specs.Makers.{GivesNames}
use Rattle.jd_statement_parts.proofs.loops.scope_names.Given as goal

-- those so far
abbrev pub invariant-loop-index : goal.invariant-loop-index
invariant-loop-index g l =
    (q : Progress) → Holds l.p q → GivesNames l.names (map (λ (k : Local). local_name q.names k.name k.type) (take l.index (reverse (g.S.InScope.scope l.scope).locals)))
