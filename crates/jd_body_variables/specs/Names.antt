-- Methods whose parameters and locals have names that pass a test, and variables that are made of such names.
use Rattle.std.specs.Prelude.{Bool, List, [], true, ◌∷◌, ◌≡◌, ℕ}
use Rattle.jd_bodies.specs.declared.value.ValueType.{ValueType}
use Rattle.jd_bodies.specs.declared.value.ValueType.TheVariants as types
use Rattle.jd_bodies.specs.Variables.{declared, local_name, temporary_name, this_name}
use Rattle.jd_syntax.specs.JavaTrees.{Block, Break, Catch, Continue, Declared as DeclaredStart, Empty, Evaluate, Evaluated, For, HandlerThen, If, IfElse, JavaDeclarator, JavaForStart, JavaHandlers, JavaMethod, JavaParameter, JavaStmt, JavaStmts, Label, Local, NoHandlers, NoStmts, Return, StmtThen, Super, Throw, Try, TryFinally, While, java_stmts}
use Rattle.jd_syntax.specs.Names.{Declared}

module _ (test : List ℕ → Bool) where
  abbrev pub Passes : List ℕ → Type 0
  Passes x = test x ≡ true

  abbrev pub DeclaratorsPass : List JavaDeclarator → Type 0
  DeclaratorsPass [] = Unit {0}
  DeclaratorsPass (x ∷ xs) = Passes x.name.name × DeclaratorsPass xs

  abbrev pub StartPasses : JavaForStart → Type 0
  StartPasses (DeclaredStart w xs) = DeclaratorsPass xs
  StartPasses (Evaluated es) = Unit {0}

  -- what is declared in statements
  abbrev mutual
    pub StmtPasses : JavaStmt → Type 0
    StmtPasses (Block at ss) = StmtsPass ss
    StmtPasses (Empty at) = Unit {0}
    StmtPasses (Local at w xs) = DeclaratorsPass xs
    StmtPasses (Evaluate at e) = Unit {0}
    StmtPasses (Label at j l s) = StmtPasses s
    StmtPasses (If at c s) = StmtPasses s
    StmtPasses (IfElse at c s t) = StmtPasses s × StmtPasses t
    StmtPasses (While at j c s) = StmtPasses s
    StmtPasses (For at j start c update s) = StartPasses start × StmtPasses s
    StmtPasses (Break at l) = Unit {0}
    StmtPasses (Continue at l) = Unit {0}
    StmtPasses (Return at e) = Unit {0}
    StmtPasses (Throw at e) = Unit {0}
    StmtPasses (Try at ss hs) = StmtsPass ss × HandlersPass hs
    StmtPasses (TryFinally at ss hs ts) = StmtsPass ss × HandlersPass hs × StmtsPass ts
    StmtPasses (Super at es) = Unit {0}

    pub StmtsPass : JavaStmts → Type 0
    StmtsPass NoStmts = Unit {0}
    StmtsPass (StmtThen s ss) = StmtPasses s × StmtsPass ss

    pub HandlersPass : JavaHandlers → Type 0
    HandlersPass NoHandlers = Unit {0}
    HandlersPass (HandlerThen (Catch at c x ss) hs) = Passes x.name × StmtsPass ss × HandlersPass hs

  abbrev pub ParametersPass : List JavaParameter → Type 0
  ParametersPass [] = Unit {0}
  ParametersPass (x ∷ xs) = Passes x.name.name × ParametersPass xs

  pub record MethodPasses (m : JavaMethod) : Type 0 where
    pub parameters_ : ParametersPass m.parameters
    pub body_ : StmtsPass (java_stmts m.body)

  -- `this`, a temporary, or a parameter or local of such a name, which is the last of those so far
  pub data IsMadeOf : Declared → Type 0 where
    the_receiver : (class : ℕ) → IsMadeOf (declared this_name (types.Class class))
    a_temporary : (number : ℕ) (t : ValueType) → IsMadeOf (declared (temporary_name number t) t)
    a_local : (names : List (List ℕ)) (x : List ℕ) (t : ValueType) → Passes x → IsMadeOf (declared (local_name (x ∷ names) x t) t)
