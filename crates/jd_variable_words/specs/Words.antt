-- Methods whose parameters and locals are called by words: identifiers that are no literal (JLS 3.8, 3.10).
use Rattle.std.specs.Prelude.{◌≡◌, ◌&&◌, ◌||◌, ℕ, Bool, true, not, List, [], ◌∷◌, codes}
use Rattle.std.specs.Str.{bytes_eq}
use Rattle.jd_syntax.specs.JavaTrees.{Block, Break, Catch, Continue, Declared, Empty, Evaluate, Evaluated, For, HandlerThen, If, IfElse, JavaDeclarator, JavaForStart, JavaHandlers, JavaMethod, JavaParameter, JavaStmt, JavaStmts, Label, Local, NoHandlers, NoStmts, Return, StmtThen, Super, Throw, Try, TryFinally, While, java_stmts}
use Rattle.jd_names.specs.Identifiers.{is_identifier}

abbrev pub is_literal_word : List ℕ → Bool
is_literal_word x = bytes_eq (codes "true") x || bytes_eq (codes "false") x || bytes_eq (codes "null") x

abbrev pub is_plain_word : List ℕ → Bool
is_plain_word x = is_identifier x && not (is_literal_word x)

abbrev pub IsWord : List ℕ → Type 0
IsWord x = is_plain_word x ≡ true

abbrev pub DeclaratorsHaveWords : List JavaDeclarator → Type 0
DeclaratorsHaveWords [] = Unit {0}
DeclaratorsHaveWords (x ∷ xs) = IsWord x.name.name × DeclaratorsHaveWords xs

abbrev pub StartHasWords : JavaForStart → Type 0
StartHasWords (Declared w xs) = DeclaratorsHaveWords xs
StartHasWords (Evaluated es) = Unit {0}

-- what is declared in statements
abbrev mutual
  pub HasWords : JavaStmt → Type 0
  HasWords (Block at ss) = HaveWords ss
  HasWords (Empty at) = Unit {0}
  HasWords (Local at w xs) = DeclaratorsHaveWords xs
  HasWords (Evaluate at e) = Unit {0}
  HasWords (Label at j l s) = HasWords s
  HasWords (If at c s) = HasWords s
  HasWords (IfElse at c s t) = HasWords s × HasWords t
  HasWords (While at j c s) = HasWords s
  HasWords (For at j start c update s) = StartHasWords start × HasWords s
  HasWords (Break at l) = Unit {0}
  HasWords (Continue at l) = Unit {0}
  HasWords (Return at e) = Unit {0}
  HasWords (Throw at e) = Unit {0}
  HasWords (Try at ss hs) = HaveWords ss × HandlersHaveWords hs
  HasWords (TryFinally at ss hs ts) = HaveWords ss × HandlersHaveWords hs × HaveWords ts
  HasWords (Super at es) = Unit {0}

  pub HaveWords : JavaStmts → Type 0
  HaveWords NoStmts = Unit {0}
  HaveWords (StmtThen s ss) = HasWords s × HaveWords ss

  pub HandlersHaveWords : JavaHandlers → Type 0
  HandlersHaveWords NoHandlers = Unit {0}
  HandlersHaveWords (HandlerThen (Catch at c x ss) hs) = IsWord x.name × HaveWords ss × HandlersHaveWords hs

abbrev pub ParametersHaveWords : List JavaParameter → Type 0
ParametersHaveWords [] = Unit {0}
ParametersHaveWords (x ∷ xs) = IsWord x.name.name × ParametersHaveWords xs

pub record MethodHasWords (m : JavaMethod) : Type 0 where
  pub parameters_ : ParametersHaveWords m.parameters
  pub body_ : HaveWords (java_stmts m.body)
