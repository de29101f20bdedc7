-- What is known of the blocks that were gone over, by the first of them that is refused.
use Rattle.std.specs.Prelude.{ℕ, List, ◌++◌, Option, Some, None, All}
use Rattle.jd_lex.specs.Parts as lexed
use Rattle.jd_syntax.specs.SpecTrees.{PlainSpecBlock}
use Rattle.jd_syntax.specs.JavaTrees.{JavaHandler, JavaStmt, handler_layer, stmt_form_layer, stmt_layer}
use Rattle.jd_syntax.specs.declared.java.StmtForm.{StmtForm, fold-StmtForm}
use Rattle.jd_jparse.specs.declared.refusal.ParseRefusal.{ParseRefusal}
use Rattle.jd_jparse.specs.declared.refusal.ParseRefusal.TheVariants as refusals
use Rattle.jd_jmlparse.specs.Filled.{AreNotFilled, HasClauses}
use Rattle.jd_jmlparse.specs.declared.fill.refused.Cause.{Cause}
use Rattle.jd_jmlparse.specs.declared.fill.refused.Cause.TheVariants as causes

-- the refusal that a cause is
abbrev pub refusal_of : Cause → ParseRefusal
refusal_of (causes.Syntax at) = refusals.Syntax 0 at
refusal_of (causes.TooDeep at) = refusals.TooDeep 0 at
refusal_of causes.NoMemory = refusals.NoMemory

-- all have their clauses, or the first that is refused is refused so
abbrev pub Knows : List lexed.Token → Option Cause → List PlainSpecBlock → Type 0
Knows ts None bs = All (HasClauses ts) bs
Knows ts (Some cause) bs = AreNotFilled ts bs (refusal_of cause)

-- what is known of blocks before leads to what is known of these too
pub record Goes (ts : List lexed.Token) (first : Option Cause) (bs : List PlainSpecBlock) (then : Option Cause) : Type 0 where
  pub known : (before : List PlainSpecBlock) → Knows ts first before → Knows ts then (before ++ bs)

-- a form of a statement awaits its offset
abbrev pub form_view : StmtForm → ℕ → JavaStmt
form_view = fold-StmtForm (ℕ → JavaStmt) JavaHandler JavaStmt stmt_form_layer handler_layer stmt_layer
