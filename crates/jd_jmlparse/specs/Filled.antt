-- Units with the clauses of their JML put in, and why there are none.
use Rattle.std.specs.Prelude.{◌≡◌, ℕ, ◌-◌, List, [], ◌∷◌, ◌++◌, map, take, drop, option_map, All}
use Rattle.std.specs.List.{flat_map}
use Rattle.std.specs.Option.{option_to_list}
use Rattle.jd_lex.specs.Parts as lexed
use Rattle.jd_syntax.specs.SpecTrees.{PlainClause, PlainSpecBlock}
use Rattle.jd_syntax.specs.declared.spec.SpecPlace.{SpecPlace}
use Rattle.jd_syntax.specs.JavaTrees.{JavaStmt, Block, Label, If, IfElse, While, For, Try, TryFinally, JavaStmts, NoStmts, StmtThen, java_stmts, JavaHandler, Catch, JavaHandlers, NoHandlers, HandlerThen, JavaParameter, JavaMember, FieldMember, ConstantMember, MethodMember, JavaClass, JavaUnit}
use Rattle.jd_jparse.specs.declared.refusal.ParseRefusal.{ParseRefusal}
use Rattle.jd_jparse.specs.declared.refusal.ParseRefusal.TheVariants as refusals
use Rattle.jd_jmlparse.specs.Parses.{Reads, Refuses, IsNoSpec, IsTooDeep}

-- ---- the blocks of a tree, in its order

abbrev mutual
  pub stmt_blocks : JavaStmt → List PlainSpecBlock
  stmt_blocks (Block at ss) = stmts_blocks ss
  stmt_blocks (Label at j l s) = option_to_list j ++ stmt_blocks s
  stmt_blocks (If at c s) = stmt_blocks s
  stmt_blocks (IfElse at c s t) = stmt_blocks s ++ stmt_blocks t
  stmt_blocks (While at j c s) = option_to_list j ++ stmt_blocks s
  stmt_blocks (For at j start c update s) = option_to_list j ++ stmt_blocks s
  stmt_blocks (Try at ss hs) = stmts_blocks ss ++ handlers_blocks hs
  stmt_blocks (TryFinally at ss hs ts) = stmts_blocks ss ++ handlers_blocks hs ++ stmts_blocks ts
  stmt_blocks _ = []

  pub stmts_blocks : JavaStmts → List PlainSpecBlock
  stmts_blocks NoStmts = []
  stmts_blocks (StmtThen s ss) = stmt_blocks s ++ stmts_blocks ss

  pub handler_blocks : JavaHandler → List PlainSpecBlock
  handler_blocks (Catch at c x ss) = stmts_blocks ss

  pub handlers_blocks : JavaHandlers → List PlainSpecBlock
  handlers_blocks NoHandlers = []
  handlers_blocks (HandlerThen h hs) = handler_blocks h ++ handlers_blocks hs

abbrev pub parameter_blocks : JavaParameter → List PlainSpecBlock
parameter_blocks x = x.specs

abbrev pub member_blocks : JavaMember → List PlainSpecBlock
member_blocks (FieldMember f) = f.specs
member_blocks (ConstantMember c) = c.specs
member_blocks (MethodMember m) = m.specs ++ flat_map parameter_blocks m.parameters ++ stmts_blocks (java_stmts m.body)

abbrev pub class_blocks : JavaClass → List PlainSpecBlock
class_blocks c = flat_map member_blocks c.members ++ option_to_list c.end

abbrev pub blocks_of : JavaUnit → List PlainSpecBlock
blocks_of unit = flat_map class_blocks unit.classes

-- ---- the tree without the clauses of its blocks

abbrev pub bare_block : PlainSpecBlock → PlainSpecBlock
bare_block b = record b { clauses = [] }

abbrev mutual
  pub bare_stmt : JavaStmt → JavaStmt
  bare_stmt (Block at ss) = Block at (bare_stmts ss)
  bare_stmt (Label at j l s) = Label at (option_map bare_block j) l (bare_stmt s)
  bare_stmt (If at c s) = If at c (bare_stmt s)
  bare_stmt (IfElse at c s t) = IfElse at c (bare_stmt s) (bare_stmt t)
  bare_stmt (While at j c s) = While at (option_map bare_block j) c (bare_stmt s)
  bare_stmt (For at j start c update s) = For at (option_map bare_block j) start c update (bare_stmt s)
  bare_stmt (Try at ss hs) = Try at (bare_stmts ss) (bare_handlers hs)
  bare_stmt (TryFinally at ss hs ts) = TryFinally at (bare_stmts ss) (bare_handlers hs) (bare_stmts ts)
  bare_stmt s = s

  pub bare_stmts : JavaStmts → JavaStmts
  bare_stmts NoStmts = NoStmts
  bare_stmts (StmtThen s ss) = StmtThen (bare_stmt s) (bare_stmts ss)

  pub bare_handler : JavaHandler → JavaHandler
  bare_handler (Catch at c x ss) = Catch at c x (bare_stmts ss)

  pub bare_handlers : JavaHandlers → JavaHandlers
  bare_handlers NoHandlers = NoHandlers
  bare_handlers (HandlerThen h hs) = HandlerThen (bare_handler h) (bare_handlers hs)

abbrev pub bare_parameter : JavaParameter → JavaParameter
bare_parameter x = record x { specs = map bare_block x.specs }

abbrev pub bare_member : JavaMember → JavaMember
bare_member (FieldMember f) = FieldMember (record f { specs = map bare_block f.specs })
bare_member (ConstantMember c) = ConstantMember (record c { specs = map bare_block c.specs })
bare_member (MethodMember m) = MethodMember (record m { specs = map bare_block m.specs; parameters = map bare_parameter m.parameters; body = map bare_stmt m.body })

abbrev pub bare_class : JavaClass → JavaClass
bare_class c = record c { members = map bare_member c.members; end = option_map bare_block c.end }

abbrev pub bare : JavaUnit → JavaUnit
bare unit = record { classes = map bare_class unit.classes }

-- ---- what is filled, and what is refused

-- the tokens of a block, those of them that there are
abbrev pub tokens_from : List lexed.Token → ℕ → ℕ → List lexed.Token
tokens_from ts from to = take (to - from) (drop from ts)

abbrev pub block_tokens : List lexed.Token → PlainSpecBlock → List lexed.Token
block_tokens ts b = tokens_from ts b.from b.to

-- a block has the clauses that its tokens spell at its place
abbrev pub HasClauses : List lexed.Token → PlainSpecBlock → Type 0
HasClauses ts b = Reads b.place (block_tokens ts b) b.clauses

-- the same tree but for clauses, which are there those that the tokens spell
pub record Fills (ts : List lexed.Token) (unit filled : JavaUnit) : Type 0 where
  pub same : bare filled ≡ bare unit
  pub read : All (HasClauses ts) (blocks_of filled)

-- the tokens of a block spell clauses
abbrev pub IsRead : List lexed.Token → PlainSpecBlock → Type 0
IsRead ts b = (cs : List PlainClause) × Reads b.place (block_tokens ts b) cs

-- a block is refused, and none before it
pub record IsFirstRefused (ts : List lexed.Token) (bs : List PlainSpecBlock) (IsRefused : SpecPlace → List lexed.Token → Type 0) : Type 0 where
  pub before : List PlainSpecBlock
  pub block : PlainSpecBlock
  pub behind : List PlainSpecBlock
  pub blocks : bs ≡ before ++ block ∷ behind
  pub read : All (IsRead ts) before
  pub refused : IsRefused block.place (block_tokens ts block)

-- the first block that is refused is no JML of its place
abbrev pub HasNoSpec : List lexed.Token → JavaUnit → Type 0
HasNoSpec ts unit = IsFirstRefused ts (blocks_of unit) IsNoSpec

-- the first block that is refused has an expression that is too high
abbrev pub HasDeepSpec : List lexed.Token → JavaUnit → Type 0
HasDeepSpec ts unit = IsFirstRefused ts (blocks_of unit) IsTooDeep

-- of these blocks the first that is refused is refused so; want of memory says nothing
abbrev pub AreNotFilled : List lexed.Token → List PlainSpecBlock → ParseRefusal → Type 0
AreNotFilled ts bs refusals.NoMemory = Unit {0}
AreNotFilled ts bs e = IsFirstRefused ts bs (λ place us. Refuses place us e)

abbrev pub IsNotFilled : List lexed.Token → JavaUnit → ParseRefusal → Type 0
IsNotFilled ts unit e = AreNotFilled ts (blocks_of unit) e
