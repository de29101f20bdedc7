-- Loops in two steps: what is made before the body, and what is made of both.
use Rattle.std.specs.Prelude.{◌≡◌, ℕ, Bool, List, [], ◌∷◌, ◌++◌, Option, Some, None, IfOk}
use Rattle.std.specs.declared.result.Result.{Result}
use Rattle.jd_base.specs.declared.memory.NoMemory.{NoMemory}
use Rattle.jd_syntax.specs.Codes as code
use Rattle.jd_syntax.specs.Codes.{Expr, Stmt, stmts_of}
use Rattle.jd_syntax.specs.Names.{Name}
use Rattle.jd_bodies.specs.Bodies.{block_if, label_if, scope_names}
use Rattle.jd_bodies.specs.Codes.{Made}
use Rattle.jd_bodies.specs.Scopes.{Local}
use Rattle.jd_bodies.specs.Variables.{Progress, local_name, with_loop}
use Rattle.jd_statement_parts.specs.declared.loops.Numbers.{Numbers}

-- the block that is left, the loop's own number, and the block that is left for the next turn
pub record PlainNumbers : Type 0 where
  pub left : ℕ
  pub number : ℕ
  pub repeated : ℕ

abbrev pub numbers_view : Numbers → PlainNumbers
numbers_view n = record { left = n.left; number = n.number; repeated = n.repeated }

abbrev pub GivesNumbers : Result Numbers NoMemory → PlainNumbers → Type 0
GivesNumbers r n = IfOk r (λ m. numbers_view m ≡ n)

-- what stands before the body of a loop
pub record PlainHead : Type 0 where
  pub progress : Progress
  pub numbers : PlainNumbers
  pub condition : Expr

abbrev pub entered : Bool → List Local → Progress → Progress
entered leaves locals p = with_loop (scope_names (label_if leaves p) locals) (label_if leaves p)

abbrev pub head_behind : Bool → ℕ → ℕ → Made → PlainHead
head_behind repeats left number m =
    let r = label_if repeats m.0 in
    record { progress = r; numbers = record { left = left; number = number; repeated = r.labels }; condition = m.1 }

abbrev pub head_of : Bool → Bool → List Local → (Progress → Made) → Progress → PlainHead
head_of leaves repeats locals condition p = head_behind repeats (label_if leaves p).labels (entered leaves locals p).loops (condition (entered leaves locals p))

-- the loop, in the blocks that are left
abbrev pub looped_stmts : Bool → Bool → PlainNumbers → Expr → List Stmt → List Stmt → List Stmt
looped_stmts leaves repeats n c body update =
    block_if leaves n.left (code.While n.number c (stmts_of (block_if repeats n.repeated body ++ update)) ∷ [])

-- one more name, if there is one
abbrev pub named : Progress → List Name → Option Local → List Name
named q ns None = ns
named q ns (Some l) = ns ++ local_name q.names l.name l.type ∷ []
