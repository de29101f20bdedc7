-- The blocks of a tree without clauses are its blocks without clauses.
use Rattle.std.proofs.Common.{◌≡◌, List, [], ◌∷◌, ◌++◌, Option, Some, None, map, option_map, refl, sym, ap, ◌∙◌}
use Rattle.std.specs.List.{flat_map}
use Rattle.std.specs.Option.{option_to_list}
use Rattle.std.proofs.lemmas.List.{map-append}
use Rattle.jd_syntax.specs.SpecTrees.{PlainSpecBlock}
use Rattle.jd_syntax.specs.JavaTrees.{JavaStmt, Block, Empty, Local, Evaluate, Label, If, IfElse, While, For, Break, Continue, Return, Throw, Try, TryFinally, Super, JavaStmts, NoStmts, StmtThen, java_stmts, JavaHandler, Catch, JavaHandlers, NoHandlers, HandlerThen, JavaParameter, JavaMember, FieldMember, ConstantMember, MethodMember, JavaClass, JavaUnit}
use Rattle.jd_jmlparse.specs.Filled.{stmt_blocks, stmts_blocks, handler_blocks, handlers_blocks, parameter_blocks, member_blocks, class_blocks, blocks_of, bare_block, bare_stmt, bare_stmts, bare_handler, bare_handlers, bare_parameter, bare_member, bare_class, bare}

-- two lists behind one another
joined : {A B : Type 0} (f : A → B) (xs ys : List A) (us vs : List B) → us ≡ map f xs → vs ≡ map f ys → us ++ vs ≡ map f (xs ++ ys)
joined f xs ys us vs p q = ap (λ l. l ++ vs) p ∙ ap (λ l. map f xs ++ l) q ∙ sym (map-append f xs ys)

option_blocks : (j : Option PlainSpecBlock) → option_to_list (option_map bare_block j) ≡ map bare_block (option_to_list j)
option_blocks None = refl
option_blocks (Some b) = refl

mutual
  pub of_stmt : (s : JavaStmt) → stmt_blocks (bare_stmt s) ≡ map bare_block (stmt_blocks s)
  of_stmt (Block at ss) = of_stmts ss
  of_stmt (Empty at) = refl
  of_stmt (Local at t ds) = refl
  of_stmt (Evaluate at e) = refl
  of_stmt (Label at j l s) = joined bare_block (option_to_list j) (stmt_blocks s) (option_to_list (option_map bare_block j)) (stmt_blocks (bare_stmt s)) (option_blocks j) (of_stmt s)
  of_stmt (If at c s) = of_stmt s
  of_stmt (IfElse at c s t) = joined bare_block (stmt_blocks s) (stmt_blocks t) (stmt_blocks (bare_stmt s)) (stmt_blocks (bare_stmt t)) (of_stmt s) (of_stmt t)
  of_stmt (While at j c s) = joined bare_block (option_to_list j) (stmt_blocks s) (option_to_list (option_map bare_block j)) (stmt_blocks (bare_stmt s)) (option_blocks j) (of_stmt s)
  of_stmt (For at j start c update s) = joined bare_block (option_to_list j) (stmt_blocks s) (option_to_list (option_map bare_block j)) (stmt_blocks (bare_stmt s)) (option_blocks j) (of_stmt s)
  of_stmt (Break at l) = refl
  of_stmt (Continue at l) = refl
  of_stmt (Return at e) = refl
  of_stmt (Throw at e) = refl
  of_stmt (Try at ss hs) = joined bare_block (stmts_blocks ss) (handlers_blocks hs) (stmts_blocks (bare_stmts ss)) (handlers_blocks (bare_handlers hs)) (of_stmts ss) (of_handlers hs)
  of_stmt (TryFinally at ss hs ts) = joined bare_block _ _ _ _ (joined bare_block _ _ _ _ (of_stmts ss) (of_handlers hs)) (of_stmts ts)
  of_stmt (Super at es) = refl

  pub of_stmts : (ss : JavaStmts) → stmts_blocks (bare_stmts ss) ≡ map bare_block (stmts_blocks ss)
  of_stmts NoStmts = refl
  of_stmts (StmtThen s ss) = joined bare_block (stmt_blocks s) (stmts_blocks ss) (stmt_blocks (bare_stmt s)) (stmts_blocks (bare_stmts ss)) (of_stmt s) (of_stmts ss)

  pub of_handler : (h : JavaHandler) → handler_blocks (bare_handler h) ≡ map bare_block (handler_blocks h)
  of_handler (Catch at c x ss) = of_stmts ss

  pub of_handlers : (hs : JavaHandlers) → handlers_blocks (bare_handlers hs) ≡ map bare_block (handlers_blocks hs)
  of_handlers NoHandlers = refl
  of_handlers (HandlerThen h hs) = joined bare_block (handler_blocks h) (handlers_blocks hs) (handler_blocks (bare_handler h)) (handlers_blocks (bare_handlers hs)) (of_handler h) (of_handlers hs)

-- of a list, where each element has them so
pub of_list : {A : Type 0} (one : A → List PlainSpecBlock) (strip : A → A) → ((x : A) → one (strip x) ≡ map bare_block (one x)) → (xs : List A) → flat_map one (map strip xs) ≡ map bare_block (flat_map one xs)
of_list one strip each [] = refl
of_list one strip each (x ∷ xs) = joined bare_block (one x) (flat_map one xs) (one (strip x)) (flat_map one (map strip xs)) (each x) (of_list one strip each xs)

-- the statements of a body as a list
pub body_blocks : (ss : List JavaStmt) → stmts_blocks (java_stmts ss) ≡ flat_map stmt_blocks ss
body_blocks [] = refl
body_blocks (s ∷ ss) = ap (λ l. stmt_blocks s ++ l) (body_blocks ss)

of_body : (ss : List JavaStmt) → stmts_blocks (java_stmts (map bare_stmt ss)) ≡ map bare_block (stmts_blocks (java_stmts ss))
of_body ss = body_blocks (map bare_stmt ss) ∙ of_list stmt_blocks bare_stmt of_stmt ss ∙ ap (map bare_block) (sym (body_blocks ss))

of_parameter : (x : JavaParameter) → parameter_blocks (bare_parameter x) ≡ map bare_block (parameter_blocks x)
of_parameter x = refl

pub of_member : (m : JavaMember) → member_blocks (bare_member m) ≡ map bare_block (member_blocks m)
of_member (FieldMember f) = refl
of_member (ConstantMember c) = refl
of_member (MethodMember m) = joined bare_block _ _ _ _ (joined bare_block _ _ _ _ refl (of_list parameter_blocks bare_parameter of_parameter m.parameters)) (of_body m.body)

pub of_class : (c : JavaClass) → class_blocks (bare_class c) ≡ map bare_block (class_blocks c)
of_class c = joined bare_block (flat_map member_blocks c.members) (option_to_list c.end) (flat_map member_blocks (map bare_member c.members)) (option_to_list (option_map bare_block c.end)) (of_list member_blocks bare_member of_member c.members) (option_blocks c.end)

pub of_unit : (u : JavaUnit) → blocks_of (bare u) ≡ map bare_block (blocks_of u)
of_unit u = of_list class_blocks bare_class of_class u.classes

-- trees that differ in clauses alone have their blocks at the same places
pub same_places : (t u : JavaUnit) → bare t ≡ bare u → map bare_block (blocks_of t) ≡ map bare_block (blocks_of u)
same_places t u same = sym (of_unit t) ∙ ap blocks_of same ∙ of_unit u

-- statements that are the same without clauses, as a list
abbrev first_of : JavaStmts → JavaStmt → JavaStmt
first_of NoStmts s = s
first_of (StmtThen s ss) t = s

abbrev rest_of : JavaStmts → JavaStmts
rest_of NoStmts = NoStmts
rest_of (StmtThen s ss) = ss

pub same_list : (xs ys : List JavaStmt) → bare_stmts (java_stmts xs) ≡ bare_stmts (java_stmts ys) → map bare_stmt xs ≡ map bare_stmt ys
same_list [] [] e = refl
same_list [] (y ∷ ys) e = cc
same_list (x ∷ xs) [] e = cc
same_list (x ∷ xs) (y ∷ ys) e = ap (λ ss. first_of ss (bare_stmt x) ∷ map bare_stmt xs) e ∙ ap (λ zs. bare_stmt y ∷ zs) (same_list xs ys (ap rest_of e))
