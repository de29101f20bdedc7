-- Statements that change what is assigned.
use Rattle.std.specs.Prelude.{List, [], ◌∷◌, ◌++◌, Option, Some, None}
use Rattle.jd_syntax.specs.Codes as code
use Rattle.jd_syntax.specs.Codes.{Expr, Stmt}
use Rattle.jd_syntax.specs.declared.code.BinaryOp.{BinaryOp}
use Rattle.jd_bodies.specs.Bodies.{Lines}
use Rattle.jd_bodies.specs.Codes.{Made, variable}
use Rattle.jd_bodies.specs.Variables.{Progress}
use Rattle.jd_expression_code.specs.Assigning.{PlainBegun, PlainReading, reading, write}

-- the new value is computed of the old one and this, and written
abbrev pub changed_stmts : BinaryOp → PlainReading → Expr → List Stmt
changed_stmts op r e = r.begun.stmts ++ write r.begun.assigned (code.Binary op (variable r.old) e) ∷ []

abbrev pub lines_from : BinaryOp → (Progress → Made) → Progress × PlainReading → Lines
lines_from op v r = ((v r.0).0, changed_stmts op r.1 (v r.0).1)

abbrev pub lines_by : BinaryOp → (Progress → Made) → Progress → Option PlainBegun → Lines
lines_by op v p None = (p, [])
lines_by op v p (Some b) = lines_from op v (reading b p)
