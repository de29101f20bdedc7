-- Where a body begins.
use Rattle.std.proofs.Common.{◌≡◌, ℕ, List, [], ap, subst}
use Rattle.jd_syntax.specs.JavaTrees.{JavaMethod, JavaParameter, JavaStmt, java_stmts}
use Rattle.jd_bodies.specs.Bodies.{Exits, PlainBody, begun, block_lines, body_of, no_exits, parameter_locals, unwritten, with_parameters, whole}
use Rattle.jd_bodies.specs.Declarations.{Declarations}
use Rattle.jd_bodies.specs.Refused.{begins_with_super, place_of}
use Rattle.jd_bodies.specs.Scopes.{Scope, empty_scope}
use Rattle.jd_bodies.specs.Variables as plain
use Rattle.jd_code_makers.specs.Held.{Holds}
use Rattle.jd_code_makers.specs.declared.progress.Progress.{Progress}
use Rattle.jd_statement_parts.specs.Standing.{Stands}

-- nothing is in scope
pub begins : (p : Progress) (s : Scope) (q : plain.Progress) → s ≡ empty_scope → Holds p q → Stands p s.locals q []
begins p s q is h = record { held = λ w. (h.held w, ap (λ (k : Scope). k.locals) is) }

-- a body, by its exits, its parameters and its statements
abbrev pub body_with : Declarations → ℕ → JavaMethod → Exits → List JavaParameter → List JavaStmt → PlainBody
body_with d class m x ps ss =
    whole d (unwritten d m.result (begins_with_super m.body) class)
    (block_lines d (place_of d class m) (java_stmts ss) x (parameter_locals d ps []) (with_parameters d ps (begun (place_of d class m))))

pub body_told : (Q : PlainBody → Type 0) (d : Declarations) (class : ℕ) (m : JavaMethod) (x : Exits) (ps : List JavaParameter) (ss : List JavaStmt) → x ≡ no_exits → ps ≡ m.parameters → ss ≡ m.body → Q (body_with d class m x ps ss) → Q (body_of d class m)
body_told Q d class m x ps ss exits parameters stmts given =
    let first = subst (λ y. Q (body_with d class m y ps ss)) exits given in
    let second = subst (λ l. Q (body_with d class m no_exits l ss)) parameters first in
    subst (λ l. Q (body_with d class m no_exits m.parameters l)) stmts second
