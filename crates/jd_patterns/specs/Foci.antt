-- The focus of a code at which a row's statement is looked for. The find of a row is bare, where no statement inside it is a focus, or
-- outer, where its first statement is a bare one; so at most one focus of a code is an instance.
use Rattle.std.specs.Prelude.{◌≡◌, Bool, true, false, cond, Option, Some, None}
use Rattle.jd_syntax.specs.Codes.{Stmt, Block, Catch, Finally, Frame, PlainCode, Done, Then}
use Rattle.jd_model.specs.Contexts.{Context, Here, InBlock, InFrame, InCatch, InFinally, fill, one}
use Rattle.jd_patterns.specs.Patterns as pattern
use Rattle.jd_patterns.specs.Patterns.{StmtPattern}

-- no statement inside it is a focus
abbrev pub is_bare : Stmt → Bool
is_bare (Block l (Then s c)) = false
is_bare (Frame r (Then s c)) = false
is_bare (Catch (Then s c) x d) = false
is_bare (Finally (Then s c) d) = false
is_bare s = true

-- its first statement is a focus and bare
abbrev pub is_outer : Stmt → Bool
is_outer (Block l (Then s c)) = is_bare s
is_outer (Frame r (Then s c)) = is_bare s
is_outer (Catch (Then s c) x d) = is_bare s
is_outer (Finally (Then s c) d) = is_bare s
is_outer s = false

-- what the pattern looks for: an outer statement where its first list begins with a statement, else a bare one
abbrev pub sought : StmtPattern → Stmt → Bool
sought (pattern.Block l (pattern.Then s c)) = is_outer
sought (pattern.BlockPast l k c) = is_outer
sought (pattern.Frame r (pattern.Then s c)) = is_outer
sought (pattern.Catch (pattern.Then s c) x d) = is_outer
sought (pattern.Finally (pattern.Then s c) d) = is_outer
sought s = is_bare

abbrev pub wrapped : (Context → Context) → Option (Context × Stmt) → Option (Context × Stmt)
wrapped f None = None
wrapped f (Some q) = Some (f q.0, q.1)

module _ (test : Stmt → Bool) where
  -- the first focus from outside whose statement passes the test, with its context
  abbrev mutual
    pub first_in : PlainCode → Option (Context × Stmt)
    first_in Done = None
    first_in (Then s rest) = cond (test s) (Some (Here rest, s)) (inside s rest)

    pub inside : Stmt → PlainCode → Option (Context × Stmt)
    inside (Block l c) rest = wrapped (λ k. InBlock l k rest) (first_in c)
    inside (Frame r c) rest = wrapped (λ k. InFrame r k rest) (first_in c)
    inside (Catch c x d) rest = wrapped (λ k. InCatch k x d rest) (first_in c)
    inside (Finally c d) rest = wrapped (λ k. InFinally k d rest) (first_in c)
    inside s rest = None

-- what a pattern seeks stands at no two foci of a code
abbrev pub FocusIsOne : Type 0
FocusIsOne = (s : StmtPattern) (k l : Context) (x y : Stmt) → sought s x ≡ true → sought s y ≡ true → fill k (one x) ≡ fill l (one y) → (k ≡ l) × (x ≡ y)
