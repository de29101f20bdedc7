-- Code that is made of parts that may be missing.
use Rattle.std.specs.Prelude.{◌≡◌, ◌∷◌, ◌++◌, [], ℕ, List, map, Option, option_map, IfOk, Ok}
use Rattle.std.specs.Global.{Box, Vec}
use Rattle.std.specs.declared.result.Result.{Result}
use Rattle.jd_base.specs.declared.memory.NoMemory.{NoMemory}
use Rattle.jd_base.specs.declared.ids.ClassId.{ClassId}
use Rattle.jd_syntax.specs.Codes.{Expr, PlainCode, Stmt}
use Rattle.jd_syntax.specs.CodeViews.{code_view, expr_view, stmt_view}
use Rattle.jd_syntax.specs.Names.{Name, var_view}
use Rattle.jd_syntax.specs.declared.code.Code.{Code}
use Rattle.jd_syntax.specs.declared.code.CodeExpr.{CodeExpr}
use Rattle.jd_syntax.specs.declared.code.CodeStmt.{CodeStmt}
use Rattle.jd_syntax.specs.declared.variable.VarId.{VarId}

-- what was made, if memory sufficed, is this
abbrev pub GivesExpr : Result CodeExpr NoMemory → Expr → Type 0
GivesExpr r x = IfOk r (λ e. expr_view e ≡ x)

abbrev pub GivesBoxed : Result (Box CodeExpr) NoMemory → Expr → Type 0
GivesBoxed r x = IfOk r (λ b. expr_view b.value ≡ x)

abbrev pub GivesExprs : Result (Vec CodeExpr) NoMemory → List Expr → Type 0
GivesExprs r xs = IfOk r (λ v. map expr_view v.items ≡ xs)

abbrev pub GivesStmt : Result CodeStmt NoMemory → Stmt → Type 0
GivesStmt r x = IfOk r (λ s. stmt_view s ≡ x)

abbrev pub GivesStmts : Result (Vec CodeStmt) NoMemory → List Stmt → Type 0
GivesStmts r xs = IfOk r (λ v. map stmt_view v.items ≡ xs)

abbrev pub GivesCode : Result Code NoMemory → PlainCode → Type 0
GivesCode r x = IfOk r (λ c. code_view c ≡ x)

abbrev pub GivesName : Result VarId NoMemory → Name → Type 0
GivesName r x = IfOk r (λ v. var_view v ≡ x)

abbrev pub GivesNames : Result (Vec VarId) NoMemory → List Name → Type 0
GivesNames r xs = IfOk r (λ v. map var_view v.items ≡ xs)

abbrev pub GivesNumber : Result ℕ NoMemory → ℕ → Type 0
GivesNumber r n = IfOk r (λ m. m ≡ n)

-- a list with one more item, and the items of two lists
abbrev pub IsAdded : {A : Type 0} → Result (Vec A) NoMemory → Result A NoMemory → Vec A → Type 0
IsAdded items item v = (old : _) × (x : _) × (items ≡ Ok old) × (item ≡ Ok x) × (v.items ≡ old.items ++ x ∷ [])

abbrev pub IsJoined : {A : Type 0} → Result (Vec A) NoMemory → Result (Vec A) NoMemory → Vec A → Type 0
IsJoined items others v = (first : _) × (second : _) × (items ≡ Ok first) × (others ≡ Ok second) × (v.items ≡ first.items ++ second.items)

abbrev pub class_number : Option ClassId → Option ℕ
class_number c = option_map (λ (k : ClassId). k.0) c
