-- What JML says of the loops of a body (JML Reference Manual, 13.2).
use Rattle.std.specs.Prelude.{List, [], ◌∷◌, ◌++◌, flat_map, Option, Some, None}
use Rattle.std.specs.List.{slice_get}
use Rattle.jd_syntax.specs.SpecTrees.{PlainSpec, PlainLocation, PlainClause, PlainSpecBlock}
use Rattle.jd_syntax.specs.JavaTrees.{JavaStmt, Block, Label, If, IfElse, While, For, Try, TryFinally, JavaStmts, NoStmts, StmtThen, java_stmts, JavaHandlers, NoHandlers, HandlerThen, Catch}
use Rattle.jd_jml_written.specs.Said.{loop_invariant_in, measure_in, locations_in}

pub record PlainLoop : Type 0 where
  pub invariants : List PlainSpec
  pub decreases : Option PlainSpec
  pub assignable : List PlainLocation

-- the clauses of a loop, in the order of the text: all invariants, the first measure, the locations of all lists
abbrev pub loop_of : List PlainClause → PlainLoop
loop_of cs = record { invariants = flat_map loop_invariant_in cs; decreases = slice_get (flat_map measure_in cs) 0; assignable = flat_map locations_in cs }

abbrev pub clauses_at : Option PlainSpecBlock → List PlainClause
clauses_at None = []
clauses_at (Some b) = b.clauses

abbrev mutual
  -- the loops in a statement, an outer one before those inside it, behind the clauses before its labels
  pub loops : List PlainClause → JavaStmt → List PlainLoop
  loops before (Block at ss) = loops_in ss
  loops before (Label at j l s) = loops (before ++ clauses_at j) s
  loops before (If at c s) = loops [] s
  loops before (IfElse at c s other) = loops [] s ++ loops [] other
  loops before (While at j c s) = loop_of (before ++ clauses_at j) ∷ loops [] s
  loops before (For at j start c update s) = loop_of (before ++ clauses_at j) ∷ loops [] s
  loops before (Try at ss hs) = loops_in ss ++ loops_in_handlers hs
  loops before (TryFinally at ss hs ts) = loops_in ss ++ loops_in_handlers hs ++ loops_in ts
  loops before s = []

  pub loops_in : JavaStmts → List PlainLoop
  loops_in NoStmts = []
  loops_in (StmtThen s ss) = loops [] s ++ loops_in ss

  pub loops_in_handlers : JavaHandlers → List PlainLoop
  loops_in_handlers NoHandlers = []
  loops_in_handlers (HandlerThen (Catch at c x ss) hs) = loops_in ss ++ loops_in_handlers hs

-- of a body, by their numbers
abbrev pub loops_of : List JavaStmt → List PlainLoop
loops_of ss = loops_in (java_stmts ss)
