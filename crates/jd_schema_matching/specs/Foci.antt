-- The focus of code at which a statement is looked for, and the code around it.
use Rattle.std.specs.Prelude.{Bool, true, false, cond}
use Rattle.jd_syntax.specs.Codes.{Stmt, Block, Frame, Catch, Finally, PlainCode, Done, Then}
use Rattle.jd_model.specs.Contexts.{Context, Here, InBlock, InFrame, InCatch, InFinally}
use Rattle.jd_patterns.specs.Foci.{is_bare, is_outer}
use Rattle.jd_schema_matching.specs.declared.contexts.FocusTest.{FocusTest}
use Rattle.jd_schema_matching.specs.declared.contexts.FocusTest.TheVariants.{Bare, Outer}

abbrev pub test_of : FocusTest → Stmt → Bool
test_of Bare = is_bare
test_of Outer = is_outer

abbrev pub has_list : Stmt → Bool
has_list (Block l c) = true
has_list (Frame r c) = true
has_list (Catch c x d) = true
has_list (Finally c d) = true
has_list s = false

-- there is a first statement, and it is bare
abbrev pub begins : PlainCode → Bool
begins Done = false
begins (Then s c) = is_bare s

-- the context of the first focus from outside whose statement passes the test, or as far as there are lists
module _ (test : FocusTest) where
  abbrev mutual
    pub context_at : PlainCode → Context
    context_at Done = Here Done
    context_at (Then s rest) = cond (test_of test s) (Here rest) (context_in s rest)

    pub context_in : Stmt → PlainCode → Context
    context_in (Block l c) rest = InBlock l (context_at c) rest
    context_in (Frame r c) rest = InFrame r (context_at c) rest
    context_in (Catch c x d) rest = InCatch (context_at c) x d rest
    context_in (Finally c d) rest = InFinally (context_at c) d rest
    context_in s rest = Here rest
