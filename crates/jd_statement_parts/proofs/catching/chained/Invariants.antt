use Rattle.std.proofs.Common.{◌≡◌, List, map, vec_len}
use Rattle.jd_code_makers.specs.Makers.{GivesName, GivesStmts}
use Rattle.jd_syntax.specs.Codes.{Stmt}
use Rattle.jd_syntax.specs.Names.{Name}
use Rattle.jd_statement_parts.specs.Catching.{chain, part_view}
use Rattle.jd_statement_parts.proofs.Chaining.{chain_before}
use Rattle.jd_statement_parts.proofs.catching.chained.Given as goal

-- those that are left, before those that are tested
abbrev pub invariant-loop-part : goal.invariant-loop-part
invariant-loop-part l =
    (x : Name) → GivesName l.k x → (ss : List Stmt) × GivesStmts l.chain ss × (chain_before x (map part_view l.parts.items) ss ≡ chain x (map part_view l.fn.parts.items))

abbrev pub decreases-loop-part : goal.decreases-loop-part
decreases-loop-part l = vec_len l.parts
