use Rattle.std.proofs.Common.{◌≡◌, None, drop, map}
use Rattle.jd_bodies.specs.Statements.{last_label}
use Rattle.jd_locals.specs.Scoped.{label_of}
use Rattle.jd_locals.proofs.in_body.InBodyInScope.label_named.Given as goal

-- what is found so far, and those that are left
abbrev pub invariant-loop-label : goal.invariant-loop-label
invariant-loop-label l = last_label None (map label_of l.self.labels.items) l.name ≡ last_label l.found (map label_of (drop l.label-index l.self.labels.items)) l.name
