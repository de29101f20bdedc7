-- Values with names and literals such as tokens give.
use Rattle.std.proofs.Common.{◌≡◌, ◌≤◌, ℕ, true, false, List, [], ◌∷◌, ◌++◌, Option, Some, None}
use Rattle.std.specs.List.{AllByRecursion as Every}
use Rattle.jd_grammar.specs.declared.piles.NodeParts.{NodeParts}
use Rattle.jd_grammar.specs.Nodes.{all_of, filled}
use Rattle.jd_syntax.specs.JavaTrees as java
use Rattle.jd_syntax.specs.JavaTrees.{JavaExpr, JavaStmt, JavaHandler, JavaParameter, JavaMember, FieldMember, ConstantMember, MethodMember, JavaMethod, JavaClass, JavaUnit, OfConstructor, java_exprs, java_stmts, java_handlers}
use Rattle.jd_model.specs.WellFormedHeaps.{in_int}
use Rattle.jd_java_values.specs.Values as values
use Rattle.jd_java_values.specs.Values.{PlainDeclared, PlainStart, PlainSuffix, PlainValue, Nothing}
use Rattle.jd_resolved_bodies.specs.Lexical.{AreDeclarators, AreLexical, AreLexicalHandlers, AreLexicalStmts, AreParameters, EachLexical, IsLexical, IsLexicalStmt, IsName, IsStart}
use Rattle.jd_program_laws.specs.Laws.{AreParameterNames, IsParameterName}

-- ---- parts of trees

abbrev pub IsWord : List ℕ → Type 0
IsWord x = IsName x × IsParameterName x

abbrev pub EachStmt : List JavaStmt → Type 0
EachStmt [] = Unit {0}
EachStmt (s ∷ ss) = IsLexicalStmt s × EachStmt ss

abbrev pub GoodHandler : JavaHandler → Type 0
GoodHandler (java.Catch at c x ss) = IsName x.name × AreLexicalStmts ss

abbrev pub EachHandler : List JavaHandler → Type 0
EachHandler [] = Unit {0}
EachHandler (h ∷ hs) = GoodHandler h × EachHandler hs

abbrev pub GoodParameters : List JavaParameter → Type 0
GoodParameters ps = AreParameters ps × AreParameterNames ps

pub record GoodMethod (m : JavaMethod) : Type 0 where
  pub parameters_ : GoodParameters m.parameters
  pub body_ : EachStmt m.body
  pub instance : m.result ≡ OfConstructor → m.is_static ≡ false

abbrev pub GoodMember : JavaMember → Type 0
GoodMember (FieldMember f) = Unit {0}
GoodMember (ConstantMember c) = in_int c.value ≡ true
GoodMember (MethodMember m) = GoodMethod m

abbrev pub GoodClass : JavaClass → Type 0
GoodClass c = Every GoodMember c.members

abbrev pub GoodUnit : JavaUnit → Type 0
GoodUnit u = Every GoodClass u.classes

-- ---- lists

pub exprs_lexical : (es : List JavaExpr) → EachLexical es → AreLexical (java_exprs es)
exprs_lexical [] h = tt
exprs_lexical (e ∷ es) h = (h.0, exprs_lexical es h.1)

pub stmts_lexical : (ss : List JavaStmt) → EachStmt ss → AreLexicalStmts (java_stmts ss)
stmts_lexical [] h = tt
stmts_lexical (s ∷ ss) h = (h.0, stmts_lexical ss h.1)

pub handlers_lexical : (hs : List JavaHandler) → EachHandler hs → AreLexicalHandlers (java_handlers hs)
handlers_lexical [] h = tt
handlers_lexical (java.Catch at c x ss ∷ hs) h = (h.0.0, h.0.1, handlers_lexical hs h.1)

pub more_handlers : (xs ys : List JavaHandler) → EachHandler xs → EachHandler ys → EachHandler (xs ++ ys)
more_handlers [] ys h g = g
more_handlers (x ∷ xs) ys h g = (h.0, more_handlers xs ys h.1 g)

pub more_parameters : (xs ys : List JavaParameter) → GoodParameters xs → GoodParameters ys → GoodParameters (xs ++ ys)
more_parameters [] ys h g = g
more_parameters (x ∷ xs) ys h g = let r = more_parameters xs ys (h.0.1, h.1.1) g in ((h.0.0, r.0), (h.1.0, r.1))

-- ---- values

abbrev pub GoodSuffix : PlainSuffix → Type 0
GoodSuffix (values.Infix o e) = IsLexical false e
GoodSuffix (values.InstanceOf t) = Unit {0}
GoodSuffix (values.Assign o e) = IsLexical false e
GoodSuffix (values.Choice a b) = IsLexical false a × IsLexical false b
GoodSuffix (values.Member x) = Unit {0}
GoodSuffix (values.Method x es) = EachLexical es
GoodSuffix (values.Element e) = IsLexical false e
GoodSuffix (values.Count o) = Unit {0}

abbrev pub GoodSuffixes : List PlainSuffix → Type 0
GoodSuffixes ss = Every GoodSuffix ss

abbrev pub GoodStart : PlainStart → Type 0
GoodStart (values.Inside e) = IsLexical false e
GoodStart (values.Cast t e) = IsLexical false e
GoodStart (values.Object x es) = EachLexical es
GoodStart (values.Array e) = IsLexical false e

abbrev pub MaybeEach : Option (List JavaExpr) → Type 0
MaybeEach None = Unit {0}
MaybeEach (Some es) = EachLexical es

abbrev pub MaybeStmts : Option (List JavaStmt) → Type 0
MaybeStmts None = Unit {0}
MaybeStmts (Some ss) = EachStmt ss

abbrev pub GoodDeclared : PlainDeclared → Type 0
GoodDeclared (values.FieldNames xs) = Unit {0}
GoodDeclared (values.Routine ps ss) = GoodParameters ps × EachStmt ss
GoodDeclared (values.Constant n) = in_int n ≡ true

abbrev pub Good : PlainValue → Type 0
Good Nothing = Unit {0}
Good (values.Expression e) = IsLexical false e
Good (values.Suffixes ss) = GoodSuffixes ss
Good (values.Started s ss) = GoodStart s × GoodSuffixes ss
Good (values.ArrayOperand e) = IsLexical false e
Good (values.Expressions es) = EachLexical es
Good (values.BehindName args ss es) = MaybeEach args × GoodSuffixes ss × EachLexical es
Good (values.Named x) = IsWord x.name
Good (values.Typed t) = Unit {0}
Good values.Dimension = Unit {0}
Good (values.Statement s) = IsLexicalStmt s
Good (values.Statements ss) = EachStmt ss
Good (values.Variables ds) = AreDeclarators ds
Good (values.LoopStart s) = IsStart s
Good (values.Handlers hs) = EachHandler hs
Good (values.Rescue hs last) = EachHandler hs × MaybeStmts last
Good (values.Modifiers b bs) = Unit {0}
Good (values.Number n) = n ≤ 2147483648
Good (values.Names xs) = Unit {0}
Good (values.Parameters ps) = GoodParameters ps
Good (values.Declared d) = GoodDeclared d
Good (values.Declarator b x d) = GoodDeclared d
Good (values.Declaration r x d) = GoodDeclared d
Good (values.Body ms end) = Every GoodMember ms
Good (values.Classes cs) = Every GoodClass cs

pub record GoodParts (parts : NodeParts PlainValue) : Type 0 where
  pub first : Good parts.first
  pub second : Good parts.second
  pub third : Good parts.third
  pub fourth : Good parts.fourth

pub good_parts : (vs : List PlainValue) → Every Good vs → GoodParts (filled (all_of Nothing) vs)
good_parts [] h = record { first = tt; second = tt; third = tt; fourth = tt }
good_parts (a ∷ []) h = record { first = h.0; second = tt; third = tt; fourth = tt }
good_parts (a ∷ b ∷ []) h = record { first = h.0; second = h.1.0; third = tt; fourth = tt }
good_parts (a ∷ b ∷ c ∷ []) h = record { first = h.0; second = h.1.0; third = h.1.1.0; fourth = tt }
good_parts (a ∷ b ∷ c ∷ d ∷ more) h = record { first = h.0; second = h.1.0; third = h.1.1.0; fourth = h.1.1.1.0 }
