-- Values whose declared variables are called by words.
use Rattle.std.proofs.Common.{List, [], ◌∷◌, ◌++◌, Option, Some, None}
use Rattle.std.specs.List.{AllByRecursion as Every}
use Rattle.jd_grammar.specs.declared.piles.NodeParts.{NodeParts}
use Rattle.jd_grammar.specs.Nodes.{all_of, filled}
use Rattle.jd_syntax.specs.JavaTrees as java
use Rattle.jd_syntax.specs.JavaTrees.{JavaStmt, JavaHandler, JavaParameter, JavaMember, FieldMember, ConstantMember, MethodMember, JavaMethod, JavaClass, JavaUnit, java_stmts, java_handlers}
use Rattle.jd_java_values.specs.Values as values
use Rattle.jd_java_values.specs.Values.{PlainDeclared, PlainValue, Nothing}
use Rattle.jd_variable_words.specs.Words.{DeclaratorsHaveWords, HandlersHaveWords, HasWords, HaveWords, IsWord, ParametersHaveWords, StartHasWords}

-- ---- parts of trees

abbrev pub EachStmt : List JavaStmt → Type 0
EachStmt [] = Unit {0}
EachStmt (s ∷ ss) = HasWords s × EachStmt ss

abbrev pub GoodHandler : JavaHandler → Type 0
GoodHandler (java.Catch at c x ss) = IsWord x.name × HaveWords ss

abbrev pub EachHandler : List JavaHandler → Type 0
EachHandler [] = Unit {0}
EachHandler (h ∷ hs) = GoodHandler h × EachHandler hs

pub record GoodMethod (m : JavaMethod) : Type 0 where
  pub parameters_ : ParametersHaveWords m.parameters
  pub body_ : EachStmt m.body

abbrev pub GoodMember : JavaMember → Type 0
GoodMember (FieldMember f) = Unit {0}
GoodMember (ConstantMember c) = Unit {0}
GoodMember (MethodMember m) = GoodMethod m

abbrev pub GoodClass : JavaClass → Type 0
GoodClass c = Every GoodMember c.members

abbrev pub GoodUnit : JavaUnit → Type 0
GoodUnit u = Every GoodClass u.classes

-- ---- lists

pub stmts_good : (ss : List JavaStmt) → EachStmt ss → HaveWords (java_stmts ss)
stmts_good [] h = tt
stmts_good (s ∷ ss) h = (h.0, stmts_good ss h.1)

pub handlers_good : (hs : List JavaHandler) → EachHandler hs → HandlersHaveWords (java_handlers hs)
handlers_good [] h = tt
handlers_good (java.Catch at c x ss ∷ hs) h = (h.0.0, h.0.1, handlers_good hs h.1)

pub more_handlers : (xs ys : List JavaHandler) → EachHandler xs → EachHandler ys → EachHandler (xs ++ ys)
more_handlers [] ys h g = g
more_handlers (x ∷ xs) ys h g = (h.0, more_handlers xs ys h.1 g)

pub more_parameters : (xs ys : List JavaParameter) → ParametersHaveWords xs → ParametersHaveWords ys → ParametersHaveWords (xs ++ ys)
more_parameters [] ys h g = g
more_parameters (x ∷ xs) ys h g = (h.0, more_parameters xs ys h.1 g)

-- ---- values

abbrev pub MaybeStmts : Option (List JavaStmt) → Type 0
MaybeStmts None = Unit {0}
MaybeStmts (Some ss) = EachStmt ss

abbrev pub GoodDeclared : PlainDeclared → Type 0
GoodDeclared (values.FieldNames xs) = Unit {0}
GoodDeclared (values.Routine ps ss) = ParametersHaveWords ps × EachStmt ss
GoodDeclared (values.Constant n) = Unit {0}

abbrev pub Good : PlainValue → Type 0
Good (values.Statement s) = HasWords s
Good (values.Statements ss) = EachStmt ss
Good (values.Variables ds) = DeclaratorsHaveWords ds
Good (values.LoopStart s) = StartHasWords s
Good (values.Handlers hs) = EachHandler hs
Good (values.Rescue hs last) = EachHandler hs × MaybeStmts last
Good (values.Parameters ps) = ParametersHaveWords ps
Good (values.Declared d) = GoodDeclared d
Good (values.Declarator b x d) = GoodDeclared d
Good (values.Declaration r x d) = GoodDeclared d
Good (values.Body ms end) = Every GoodMember ms
Good (values.Classes cs) = Every GoodClass cs
Good v = Unit {0}

pub record GoodParts (parts : NodeParts PlainValue) : Type 0 where
  pub first : Good parts.first
  pub second : Good parts.second
  pub third : Good parts.third
  pub fourth : Good parts.fourth

pub good_parts : (vs : List PlainValue) → Every Good vs → GoodParts (filled (all_of Nothing) vs)
good_parts [] h = record { first = tt; second = tt; third = tt; fourth = tt }
good_parts (a ∷ []) h = record { first = h.0; second = tt; third = tt; fourth = tt }
good_parts (a ∷ b ∷ []) h = record { first = h.0; second = h.1.0; third = tt; fourth = tt }
good_parts (a ∷ b ∷ c ∷ []) h = record { first = h.0; second = h.1.0; third = h.1.1.0; fourth = tt }
good_parts (a ∷ b ∷ c ∷ d ∷ more) h = record { first = h.0; second = h.1.0; third = h.1.1.0; fourth = h.1.1.1.0 }
