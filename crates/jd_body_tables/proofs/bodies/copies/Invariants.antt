use Rattle.std.proofs.Common.{◌≡◌, ◌++◌, map, drop}
use Rattle.jd_syntax.specs.Names.{decl_view}
use Rattle.jd_body_tables.proofs.bodies.copies.Given as goal

-- those so far, and those that are left
abbrev pub invariant-loop-v : goal.invariant-loop-v
invariant-loop-v l = map decl_view l.made.items ++ map decl_view (drop l.v-index l.variables) ≡ map decl_view l.fn.variables
