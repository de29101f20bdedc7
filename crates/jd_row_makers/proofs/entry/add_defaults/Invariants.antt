use Rattle.std.proofs.Common.{◌≡◌, ◌++◌, map, drop}
use Rattle.jd_row_makers.specs.Heads.{field_view}
use Rattle.jd_row_makers.specs.Listed.{listed_members}
use Rattle.jd_term.specs.Formulas.{formula_view}
use Rattle.jd_row_makers.proofs.entry.add_defaults.Given as goal

-- what is there, and what those that are left add
abbrev pub invariant-loop-f : goal.invariant-loop-f
invariant-loop-f l = map formula_view l.to.items ++ listed_members (map field_view (drop l.f-index l.fields)) ≡ map formula_view l.fn.to.items ++ listed_members (map field_view l.fn.fields)
