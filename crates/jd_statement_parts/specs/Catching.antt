-- Handlers in two steps: what is made of each, and the tests that choose one.
use Rattle.std.specs.Prelude.{◌≡◌, ℕ, List, [], ◌∷◌, map, IfOk}
use Rattle.std.specs.Global.{Vec}
use Rattle.std.specs.declared.result.Result.{Result}
use Rattle.jd_base.specs.declared.memory.NoMemory.{NoMemory}
use Rattle.jd_syntax.specs.Codes as code
use Rattle.jd_syntax.specs.Codes.{OfClass, Stmt, stmts_of}
use Rattle.jd_syntax.specs.CodeViews.{stmt_view}
use Rattle.jd_syntax.specs.Names.{Name, var_view}
use Rattle.jd_bodies.specs.Codes.{variable}
use Rattle.jd_statement_parts.specs.declared.catching.Part.{Part}

-- the class, the name that the thrown object has, and the statements
pub record PlainPart : Type 0 where
  pub class : ℕ
  pub name : Name
  pub stmts : List Stmt

abbrev pub part_view : Part → PlainPart
part_view p = record { class = p.class; name = var_view p.name; stmts = map stmt_view p.stmts.items }

abbrev pub GivesPart : Result Part NoMemory → PlainPart → Type 0
GivesPart r x = IfOk r (λ p. part_view p ≡ x)

abbrev pub GivesParts : Result (Vec Part) NoMemory → List PlainPart → Type 0
GivesParts r xs = IfOk r (λ v. map part_view v.items ≡ xs)

-- the thrown object is in the variable
abbrev pub part_stmts : Name → PlainPart → List Stmt
part_stmts k p = code.Set p.name (variable k) ∷ p.stmts

abbrev pub caught_by : Name → PlainPart → List Stmt → List Stmt
caught_by k p others = code.If (code.InstanceOf (OfClass p.class) (variable k)) (stmts_of (part_stmts k p)) (stmts_of others) ∷ []

-- the first whose class is the thrown object's; else it is thrown again
abbrev pub chain : Name → List PlainPart → List Stmt
chain k [] = code.ThrowUnchecked (variable k) ∷ []
chain k (p ∷ ps) = caught_by k p (chain k ps)

-- the thrown object is caught into the variable
abbrev pub caught_stmts : List Stmt → Name → List PlainPart → List Stmt
caught_stmts ss k ps = code.Catch (stmts_of ss) k (stmts_of (chain k ps)) ∷ []
