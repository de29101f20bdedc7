-- Assignments in two steps: what is done before the value, and what behind it (JLS 15.26).
use Rattle.std.specs.Prelude.{◌≡◌, ℕ, pos, List, [], ◌∷◌, ◌++◌, map, Option, Some, None, option_map, IfOk}
use Rattle.std.specs.declared.result.Result.{Result}
use Rattle.jd_base.specs.declared.memory.NoMemory.{NoMemory}
use Rattle.jd_syntax.specs.Codes as code
use Rattle.jd_syntax.specs.Codes.{Expr, Stmt, stmts_of}
use Rattle.jd_syntax.specs.CodeViews.{stmt_view}
use Rattle.jd_syntax.specs.Names.{Name, var_view}
use Rattle.jd_syntax.specs.declared.code.BinaryOp.{BinaryOp}
use Rattle.jd_bodies.specs.declared.value.ValueType.{ValueType}
use Rattle.jd_bodies.specs.declared.value.ValueType.TheVariants as types
use Rattle.jd_bodies.specs.Codes.{Made, Steps, Target, ToLocal, ToField, ToElement, NoTarget, nothing, variable}
use Rattle.jd_bodies.specs.Variables.{Progress, temporary, local_name}
use Rattle.jd_expression_code.specs.declared.assignments.Assigned.{Assigned}
use Rattle.jd_expression_code.specs.declared.assignments.Assigned.TheVariants as parts
use Rattle.jd_expression_code.specs.declared.assignments.Begun.{Begun}
use Rattle.jd_expression_code.specs.declared.assignments.Reading.{Reading}

-- what is assigned: a local; a field, with its type, of the object in a temporary; an element of the array in one at the index in another
pub data PlainAssigned : Type 0 where
  LocalOf : Name → PlainAssigned
  FieldOf : Name → ℕ → ValueType → PlainAssigned
  ElementOf : Name → Name → PlainAssigned

abbrev pub assigned_view : Assigned → PlainAssigned
assigned_view (parts.Local x) = LocalOf (var_view x)
assigned_view (parts.Field o f t) = FieldOf (var_view o) f t
assigned_view (parts.Element o j) = ElementOf (var_view o) (var_view j)

-- and the statements before that
pub record PlainBegun : Type 0 where
  pub stmts : List Stmt
  pub assigned : PlainAssigned

abbrev pub begun_view : Begun → PlainBegun
begun_view b = record { stmts = map stmt_view b.stmts.items; assigned = assigned_view b.assigned }

-- with the old value in a variable
pub record PlainReading : Type 0 where
  pub begun : PlainBegun
  pub old : Name

abbrev pub reading_view : Reading → PlainReading
reading_view r = record { begun = begun_view r.begun; old = var_view r.old }

abbrev pub GivesAssigned : Result Assigned NoMemory → PlainAssigned → Type 0
GivesAssigned r x = IfOk r (λ a. assigned_view a ≡ x)

abbrev pub GivesBegun : Result (Option Begun) NoMemory → Option PlainBegun → Type 0
GivesBegun r b = IfOk r (λ o. option_map begun_view o ≡ b)

abbrev pub GivesReading : Result Reading NoMemory → PlainReading → Type 0
GivesReading r x = IfOk r (λ y. reading_view y ≡ x)

-- ---- before the value

abbrev pub field_begun : ValueType → ℕ → ValueType → Made → Progress × Option PlainBegun
field_begun ot f t m =
    let k = temporary ot m.0 in
    (k.0, Some (record { stmts = code.Set k.1 m.1 ∷ []; assigned = FieldOf k.1 f t }))

abbrev pub element_begun : Expr → Name → Made → Progress × Option PlainBegun
element_begun array o m =
    let k = temporary types.Int m.0 in
    (k.0, Some (record { stmts = code.Set o array ∷ code.Set k.1 m.1 ∷ []; assigned = ElementOf o k.1 }))

abbrev pub elements_begun : Made → (Progress → Made) → Progress × Option PlainBegun
elements_begun m index =
    let k = temporary types.IntArray m.0 in
    element_begun m.1 k.1 (index k.0)

abbrev pub begun : Target → Progress → Progress × Option PlainBegun
begun (ToLocal x t) p = (p, Some (record { stmts = []; assigned = LocalOf (local_name p.names x t) }))
begun (ToField object ot f t) p = field_begun ot f t (object p)
begun (ToElement a i) p = elements_begun (a p) i
begun NoTarget p = (p, None)

-- what is read of it
abbrev pub old_code : PlainAssigned → Expr
old_code (LocalOf x) = variable x
old_code (FieldOf o f t) = code.ReadField (variable o) f
old_code (ElementOf o j) = code.ReadElement (variable o) (variable j)

-- a local is its old value's variable itself
abbrev pub old_variable : PlainAssigned → Progress → Progress × Name
old_variable (LocalOf x) p = (p, x)
old_variable (FieldOf o f t) p = temporary t p
old_variable (ElementOf o j) p = temporary types.Int p

abbrev pub with_old : PlainAssigned → Name → List Stmt → List Stmt
with_old (LocalOf x) k ss = ss
with_old (FieldOf o f t) k ss = ss ++ code.Set k (code.ReadField (variable o) f) ∷ []
with_old (ElementOf o j) k ss = ss ++ code.Set k (code.ReadElement (variable o) (variable j)) ∷ []

-- the old value is read
abbrev pub reading : PlainBegun → Progress → Progress × PlainReading
reading b p =
    let k = old_variable b.assigned p in
    (k.0, record { begun = record { stmts = with_old b.assigned k.1 b.stmts; assigned = b.assigned }; old = k.1 })

-- ---- behind the value

abbrev pub write : PlainAssigned → Expr → Stmt
write (LocalOf x) e = code.Set x e
write (FieldOf o f t) e = code.WriteField (variable o) f e
write (ElementOf o j) e = code.WriteElement (variable o) (variable j) e

-- the value in the variable, which is written
abbrev pub kept_stmts : PlainBegun → Name → Expr → List Stmt
kept_stmts b k e = (b.stmts ++ code.Set k e ∷ []) ++ write b.assigned (variable k) ∷ []

abbrev pub write_kept : PlainBegun → Name → Expr → Expr
write_kept b k e = code.DoThen (stmts_of (kept_stmts b k e)) (variable k)

-- in a temporary
abbrev pub kept_written : ValueType → PlainBegun → Made → Steps
kept_written t b m =
    let k = temporary t m.0 in
    record { progress = k.0; stmts = kept_stmts b k.1 m.1; value = variable k.1 }

abbrev pub changed : BinaryOp → PlainReading → Made → Steps
changed op r m = kept_written types.Int r.begun (m.0, code.Binary op (variable r.old) m.1)

-- the old value of a local is kept first
abbrev pub local_counted : BinaryOp → Name → Progress → Steps
local_counted op x p =
    let k = temporary types.Int p in
    record {
      progress = k.0;
      stmts = code.Set k.1 (variable x) ∷ code.Set x (code.Binary op (variable x) (code.IntLiteral (pos 1))) ∷ [];
      value = variable k.1;
    }

abbrev pub read_counted : BinaryOp → Progress × PlainReading → Steps
read_counted op r = record {
  progress = r.0;
  stmts = r.1.begun.stmts ++ write r.1.begun.assigned (code.Binary op (variable r.1.old) (code.IntLiteral (pos 1))) ∷ [];
  value = variable r.1.old;
}

abbrev pub counted_by : BinaryOp → PlainAssigned → PlainBegun → Progress → Steps
counted_by op (LocalOf x) b p = local_counted op x p
counted_by op a b p = read_counted op (reading b p)

abbrev pub counted : BinaryOp → PlainBegun → Progress → Steps
counted op b p = counted_by op b.assigned b p

-- ---- the whole

abbrev pub no_steps : Progress → Steps
no_steps p = record { progress = p; stmts = []; value = nothing }

abbrev pub set_by : ValueType → (Progress → Made) → Progress → Option PlainBegun → Steps
set_by t v p None = no_steps p
set_by t v p (Some b) = kept_written t b (v p)

abbrev pub change_from : BinaryOp → (Progress → Made) → Progress × PlainReading → Steps
change_from op v r = changed op r.1 (v r.0)

abbrev pub change_by : BinaryOp → (Progress → Made) → Progress → Option PlainBegun → Steps
change_by op v p None = no_steps p
change_by op v p (Some b) = change_from op v (reading b p)

abbrev pub count_by : BinaryOp → Progress → Option PlainBegun → Steps
count_by op p None = no_steps p
count_by op p (Some b) = counted op b p

abbrev pub assign_by : Option BinaryOp → ValueType → (Progress → Made) → Progress → Option PlainBegun → Steps
assign_by None t v p b = set_by t v p b
assign_by (Some op) t v p b = change_by op v p b
