-- Where names are lexical, no variable is special.
use Rattle.std.proofs.Common.{Bool, List, [], false, not, refl, true, true≢false, ap, sym, ◌∷◌, ◌≡◌, ℕ}
use Rattle.jd_body_variables.proofs.Statements.{made}
use Rattle.jd_body_variables.specs.Laws.{BodyVariablesAreOrdinary}
use Rattle.jd_body_variables.specs.Names.{DeclaratorsPass, HandlersPass, IsMadeOf, ParametersPass, StartPasses, StmtPasses, StmtsPass}
use Rattle.jd_body_variables.specs.Names.IsMadeOf.{a_local, a_temporary, the_receiver}
use Rattle.jd_resolved_bodies.proofs.Parts.{plain_local}
use Rattle.jd_resolved_bodies.specs.Lexical.{AreDeclarators, AreLexicalHandlers, AreLexicalStmts, AreParameters, IsLexicalStmt, IsStart}
use Rattle.jd_syntax.specs.CodeNames.{begins_with_at, is_special}
use Rattle.jd_syntax.specs.JavaTrees.{Block, Break, Catch, Continue, Declared as DeclaredStart, Empty, Evaluate, Evaluated, For, HandlerThen, If, IfElse, JavaDeclarator, JavaForStart, JavaHandlers, JavaParameter, JavaStmt, JavaStmts, Label, Local, NoHandlers, NoStmts, Return, StmtThen, Super, Throw, Try, TryFinally, While, java_stmts}
use Rattle.jd_syntax.specs.Names.{Declared}

abbrev plain : List ℕ → Bool
plain x = not (begins_with_at x)

passes : (x : List ℕ) → begins_with_at x ≡ false → plain x ≡ true
passes x e = ap not e

is_plain : (x : List ℕ) → plain x ≡ true → begins_with_at x ≡ false
is_plain x e = by (begins_with_at x) e
  where
    by : (b : Bool) → not b ≡ true → b ≡ false
    by true h = absurd (true≢false (sym h))
    by false h = refl

-- ---- lexical names pass

declarators_pass : (xs : List JavaDeclarator) → AreDeclarators xs → DeclaratorsPass plain xs
declarators_pass [] h = tt
declarators_pass (x ∷ xs) h = (passes x.name.name h.0, declarators_pass xs h.2)

start_passes : (first : JavaForStart) → IsStart first → StartPasses plain first
start_passes (DeclaredStart w xs) h = declarators_pass xs h
start_passes (Evaluated es) h = tt

mutual
  stmt_passes : (s : JavaStmt) → IsLexicalStmt s → StmtPasses plain s
  stmt_passes (Block at ss) h = stmts_pass ss h
  stmt_passes (Empty at) h = tt
  stmt_passes (Local at w xs) h = declarators_pass xs h
  stmt_passes (Evaluate at e) h = tt
  stmt_passes (Label at j l s) h = stmt_passes s h
  stmt_passes (If at c s) h = stmt_passes s h.1
  stmt_passes (IfElse at c s t) h = (stmt_passes s h.1, stmt_passes t h.2)
  stmt_passes (While at j c s) h = stmt_passes s h.1
  stmt_passes (For at j start c update s) h = (start_passes start h.0, stmt_passes s h.3)
  stmt_passes (Break at l) h = tt
  stmt_passes (Continue at l) h = tt
  stmt_passes (Return at e) h = tt
  stmt_passes (Throw at e) h = tt
  stmt_passes (Try at ss hs) h = (stmts_pass ss h.0, handlers_pass hs h.1)
  stmt_passes (TryFinally at ss hs ts) h = (stmts_pass ss h.0, handlers_pass hs h.1, stmts_pass ts h.2)
  stmt_passes (Super at es) h = tt

  stmts_pass : (ss : JavaStmts) → AreLexicalStmts ss → StmtsPass plain ss
  stmts_pass NoStmts h = tt
  stmts_pass (StmtThen s ss) h = (stmt_passes s h.0, stmts_pass ss h.1)

  handlers_pass : (hs : JavaHandlers) → AreLexicalHandlers hs → HandlersPass plain hs
  handlers_pass NoHandlers h = tt
  handlers_pass (HandlerThen (Catch at c x ss) hs) h = (passes x.name h.0, stmts_pass ss h.1, handlers_pass hs h.2)

parameters_pass : (xs : List JavaParameter) → AreParameters xs → ParametersPass plain xs
parameters_pass [] h = tt
parameters_pass (x ∷ xs) h = (passes x.name.name h.0, parameters_pass xs h.1)

-- ---- variables

is_ordinary : (v : Declared) → IsMadeOf plain v → is_special v.name ≡ false
is_ordinary _ (the_receiver class) = refl
is_ordinary _ (a_temporary number t) = refl
is_ordinary _ (a_local names x t h) = plain_local (x ∷ names) x t (is_plain x h)

pub ordinary : BodyVariablesAreOrdinary
ordinary d class m is = λ k v lt. is_ordinary _ (made plain d class m (record { parameters_ = parameters_pass m.parameters is.parameters_; body_ = stmts_pass (java_stmts m.body) is.body_ }) k v lt)
