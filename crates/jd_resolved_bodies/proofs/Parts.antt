-- Code that is resolved and assigns no special variable, by its parts.
use Rattle.std.proofs.Common.{◌≡◌, ◌≤◌, ℕ, zero, suc, pos, Bool, true, false, cond, nat_eq, List, [], ◌∷◌, ◌++◌, refl, arith}
use Rattle.std.specs.Prelude.{neg_ℤ}
use Rattle.std.specs.Fmt.{decimal}
use Rattle.jd_syntax.specs.Codes as code
use Rattle.jd_syntax.specs.Codes.{Expr, Exprs, Stmt, PlainCode, exprs_of, stmts_of}
use Rattle.jd_model.specs.Occurrences.{Always, CodeIn, ExprIn, ExprsIn, StmtIn}
use Rattle.jd_model.specs.ResolvedBodies.{AreResolvedExprs, IsResolvedCode, IsResolvedExpr, IsResolvedStmt, NotSpecial}
use Rattle.jd_model.specs.WellFormedHeaps.{in_int}
use Rattle.jd_bodies.specs.declared.value.ValueType.{ValueType}
use Rattle.jd_bodies.specs.Codes.{Arguments, Made, Steps, Target, ToLocal, ToField, ToElement, NoTarget}
use Rattle.jd_bodies.specs.Variables.{Progress, count_of, local_name}
use Rattle.jd_resolved_bodies.specs.Lexical.{IsName}

abbrev pub Good : Expr → Type 0
Good e = IsResolvedExpr e × ExprIn Always NotSpecial e

abbrev pub AllGood : List Expr → Type 0
AllGood [] = Unit {0}
AllGood (e ∷ es) = Good e × AllGood es

abbrev pub GoodExprs : Exprs → Type 0
GoodExprs es = AreResolvedExprs es × ExprsIn Always NotSpecial es

-- inside the blocks of these labels
abbrev pub GoodStmt : List ℕ → Stmt → Type 0
GoodStmt labels s = IsResolvedStmt labels s × StmtIn Always NotSpecial s

abbrev pub GoodStmts : List ℕ → List Stmt → Type 0
GoodStmts labels [] = Unit {0}
GoodStmts labels (s ∷ ss) = GoodStmt labels s × GoodStmts labels ss

abbrev pub GoodCode : List ℕ → PlainCode → Type 0
GoodCode labels c = IsResolvedCode labels c × CodeIn Always NotSpecial c

pub code_good : (labels : List ℕ) (ss : List Stmt) → GoodStmts labels ss → GoodCode labels (stmts_of ss)
code_good labels [] g = (tt, tt)
code_good labels (s ∷ ss) g = let r = code_good labels ss g.1 in ((g.0.0, r.0), (g.0.1, r.1))

pub exprs_good : (es : List Expr) → AllGood es → GoodExprs (exprs_of es)
exprs_good [] g = (tt, tt)
exprs_good (e ∷ es) g = let r = exprs_good es g.1 in ((g.0.0, r.0), (g.0.1, r.1))

pub in_order_good : (labels : List ℕ) (ss ts : List Stmt) → GoodStmts labels ss → GoodStmts labels ts → GoodStmts labels (ss ++ ts)
in_order_good labels [] ts g h = h
in_order_good labels (s ∷ ss) ts g h = (g.0, in_order_good labels ss ts g.1 h)

-- ---- what is made on the way

abbrev pub GoodPart : (Progress → Made) → Type 0
GoodPart f = (p : Progress) → Good (f p).1

abbrev pub GoodList : (Progress → Progress × List Expr) → Type 0
GoodList f = (p : Progress) → AllGood (f p).1

abbrev pub GoodArguments : Arguments → Type 0
GoodArguments a = GoodStmts [] a.sets × AllGood a.values

abbrev pub GoodTarget : Target → Type 0
GoodTarget (ToLocal x t) = IsName x
GoodTarget (ToField object ot f t) = GoodPart object
GoodTarget (ToElement a i) = GoodPart a × GoodPart i
GoodTarget NoTarget = Unit {0}

abbrev pub GoodSteps : Steps → Type 0
GoodSteps s = GoodStmts [] s.stmts × Good s.value

pub steps_good : (s : Steps) → GoodSteps s → Good (code.DoThen (stmts_of s.stmts) s.value)
steps_good s g = let c = code_good [] s.stmts g.0 in ((c.0, g.1.0), (c.1, g.1.1))

-- ---- names

-- a number behind a name changes nothing at its begin
behind : (x more : List ℕ) → IsName x → IsName (x ++ (39 ∷ more))
behind [] more is = refl
behind (c ∷ cs) more is = is

pub plain_local : (names : List (List ℕ)) (x : List ℕ) (t : ValueType) → IsName x → NotSpecial (local_name names x t)
plain_local names x t is = by (nat_eq (count_of x names) 1)
  where
    by : (b : Bool) → IsName (cond b x (x ++ (39 ∷ decimal (count_of x names))))
    by true = is
    by false = behind x (decimal (count_of x names)) is

-- ---- literals

pub literal : (n : ℕ) → n ≤ 2147483647 → in_int (pos n) ≡ true
literal n le = grind (arith)

pub negative : (n : ℕ) → n ≤ 2147483648 → in_int (neg_ℤ (pos n)) ≡ true
negative zero le = refl
negative (suc n) le = grind (arith)
