-- What a pattern looks for at a focus, as a test.
use Rattle.jd_patterns.specs.Patterns as pattern
use Rattle.jd_patterns.specs.Patterns.{StmtPattern}
use Rattle.jd_schema_matching.specs.declared.contexts.FocusTest.{FocusTest}
use Rattle.jd_schema_matching.specs.declared.contexts.FocusTest.TheVariants.{Bare, Outer}

-- an outer statement where its first list begins with a statement, else a bare one
abbrev pub sought_test : StmtPattern → FocusTest
sought_test (pattern.Block l (pattern.Then s c)) = Outer
sought_test (pattern.BlockPast l k c) = Outer
sought_test (pattern.Frame r (pattern.Then s c)) = Outer
sought_test (pattern.Catch (pattern.Then s c) x d) = Outer
sought_test (pattern.Finally (pattern.Then s c) d) = Outer
sought_test s = Bare
