-- The tree of a file is good, before its JML is read and with it.
use Rattle.std.proofs.Common.{ℕ, List, [], ◌∷◌, map, sym, subst}
use Rattle.std.specs.List.{AllByRecursion as Every}
use Rattle.jd_lex.specs.Parts.{Token}
use Rattle.jd_lex.specs.Lexing.{Spells}
use Rattle.jd_syntax.specs.JavaTrees.{JavaStmt, Block, Empty, Local, Evaluate, Label, If, IfElse, While, For, Break, Continue, Return, Throw, Try, TryFinally, Super, JavaStmts, NoStmts, StmtThen, JavaHandlers, Catch, NoHandlers, HandlerThen, JavaParameter, JavaMember, FieldMember, ConstantMember, MethodMember, JavaClass, JavaUnit}
use Rattle.jd_jparse.specs.Parses.{Reads, seen}
use Rattle.jd_jmlparse.specs.Filled.{bare, bare_class, bare_handlers, bare_member, bare_parameter, bare_stmt, bare_stmts}
use Rattle.jd_source.specs.Sources.{IsSource}
use Rattle.jd_files.specs.Files.{AreTrees}
use Rattle.jd_java_names.proofs.Every.{every_mapped, every_before}
use Rattle.jd_variable_words.specs.Words.{HandlersHaveWords, HasWords, HaveWords, ParametersHaveWords}
use Rattle.jd_variable_words.proofs.Good.{EachStmt, GoodClass, GoodMember, GoodUnit}
use Rattle.jd_variable_words.proofs.Tokens.{seen_so}
use Rattle.jd_variable_words.proofs.Trees.{unit_good}

read_good : (bytes : List ℕ) (tokens : List Token) (unit : JavaUnit) → Spells bytes tokens → Reads tokens unit → GoodUnit unit
read_good bytes tokens unit s r = subst GoodUnit r.is (unit_good r.file (seen tokens) r.spelled.derived.tree r.spelled.derived.tokens (seen_so bytes tokens s))

-- ---- clauses of JML have no part in it

abbrev Alike : Type 0 → Type 0 → Type 0
Alike P Q = (P → Q) × (Q → P)

itself : (P : Type 0) → Alike P P
itself P = (λ h. h, λ h. h)

two : {P Q R S : Type 0} → Alike P Q → Alike R S → Alike (P × R) (Q × S)
two f g = (λ h. (f.0 h.0, g.0 h.1), λ h. (f.1 h.0, g.1 h.1))

three : {P Q R S T U : Type 0} → Alike P Q → Alike R S → Alike T U → Alike (P × R × T) (Q × S × U)
three f g k = (λ h. (f.0 h.0, g.0 h.1, k.0 h.2), λ h. (f.1 h.0, g.1 h.1, k.1 h.2))

mutual
  stmt_alike : (s : JavaStmt) → Alike (HasWords s) (HasWords (bare_stmt s))
  stmt_alike (Block at ss) = stmts_alike ss
  stmt_alike (Empty at) = itself _
  stmt_alike (Local at w xs) = itself _
  stmt_alike (Evaluate at e) = itself _
  stmt_alike (Label at j l s) = stmt_alike s
  stmt_alike (If at c s) = stmt_alike s
  stmt_alike (IfElse at c s t) = two (stmt_alike s) (stmt_alike t)
  stmt_alike (While at j c s) = stmt_alike s
  stmt_alike (For at j start c update s) = two (itself _) (stmt_alike s)
  stmt_alike (Break at l) = itself _
  stmt_alike (Continue at l) = itself _
  stmt_alike (Return at e) = itself _
  stmt_alike (Throw at e) = itself _
  stmt_alike (Try at ss hs) = two (stmts_alike ss) (handlers_alike hs)
  stmt_alike (TryFinally at ss hs ts) = three (stmts_alike ss) (handlers_alike hs) (stmts_alike ts)
  stmt_alike (Super at es) = itself _

  stmts_alike : (ss : JavaStmts) → Alike (HaveWords ss) (HaveWords (bare_stmts ss))
  stmts_alike NoStmts = itself _
  stmts_alike (StmtThen s ss) = two (stmt_alike s) (stmts_alike ss)

  handlers_alike : (hs : JavaHandlers) → Alike (HandlersHaveWords hs) (HandlersHaveWords (bare_handlers hs))
  handlers_alike NoHandlers = itself _
  handlers_alike (HandlerThen (Catch at c x ss) hs) = three (itself _) (stmts_alike ss) (handlers_alike hs)

each_alike : (ss : List JavaStmt) → Alike (EachStmt ss) (EachStmt (map bare_stmt ss))
each_alike [] = itself _
each_alike (s ∷ ss) = two (stmt_alike s) (each_alike ss)

parameters_alike : (ps : List JavaParameter) → Alike (ParametersHaveWords ps) (ParametersHaveWords (map bare_parameter ps))
parameters_alike [] = itself _
parameters_alike (p ∷ ps) = two (itself _) (parameters_alike ps)

member_bare : (m : JavaMember) → GoodMember m → GoodMember (bare_member m)
member_bare (FieldMember f) h = tt
member_bare (ConstantMember c) h = tt
member_bare (MethodMember m) h = record { parameters_ = (parameters_alike m.parameters).0 h.parameters_; body_ = (each_alike m.body).0 h.body_ }

member_before : (m : JavaMember) → GoodMember (bare_member m) → GoodMember m
member_before (FieldMember f) h = tt
member_before (ConstantMember c) h = tt
member_before (MethodMember m) h = record { parameters_ = (parameters_alike m.parameters).1 h.parameters_; body_ = (each_alike m.body).1 h.body_ }

class_bare : (c : JavaClass) → GoodClass c → GoodClass (bare_class c)
class_bare c h = every_mapped GoodMember GoodMember bare_member member_bare c.members h

class_before : (c : JavaClass) → GoodClass (bare_class c) → GoodClass c
class_before c h = every_before GoodMember GoodMember bare_member member_before c.members h

unit_bare : (u : JavaUnit) → GoodUnit u → GoodUnit (bare u)
unit_bare u h = every_mapped GoodClass GoodClass bare_class class_bare u.classes h

unit_before : (u : JavaUnit) → GoodUnit (bare u) → GoodUnit u
unit_before u h = every_before GoodClass GoodClass bare_class class_before u.classes h

-- ---- files

source_good : (bytes : List ℕ) (tree : JavaUnit) → IsSource bytes tree → GoodUnit tree
source_good bytes tree s = unit_before tree (subst GoodUnit (sym s.filled.same) (unit_bare s.java (read_good bytes s.tokens s.java s.spelled s.read)))

pub trees_good : (files : List (List ℕ)) (units : List JavaUnit) → AreTrees files units → Every GoodUnit units
trees_good [] [] h = tt
trees_good [] (u ∷ us) h = absurd h
trees_good (b ∷ bs) [] h = absurd h
trees_good (b ∷ bs) (u ∷ us) h = (source_good b u h.0, trees_good bs us h.1)
