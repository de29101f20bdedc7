-- Which token of the JML of a program is refused first.
use Rattle.std.specs.Prelude.{ℕ, suc, Bool, false, List, [], ◌∷◌, Option, Some, None, Result, Ok, Err}
use Rattle.jd_syntax.specs.JavaTypes.{PlainIdentifier, PlainWritten}
use Rattle.jd_syntax.specs.SpecTrees.{PlainSpecBlock}
use Rattle.jd_syntax.specs.JavaTrees.{JavaDeclarator, JavaForStart, Declared, Evaluated, JavaStmt, Block, Label, If, IfElse, While, For, Try, TryFinally, Local as Declaration, JavaStmts, NoStmts, StmtThen, java_stmts, Catch, JavaHandlers, NoHandlers, HandlerThen, JavaParameter, JavaResult, Void, Gives, OfConstructor, JavaMethod, JavaMember, FieldMember, ConstantMember, MethodMember, JavaUnit}
use Rattle.jd_jclasses.specs.Classes.{DeclaredClass, declared_classes, prelude_count}
use Rattle.jd_bodies.specs.declared.place.Place.{Place}
use Rattle.jd_bodies.specs.declared.value.ValueType.{ValueType}
use Rattle.jd_bodies.specs.Declarations.{Declarations, type_by, class_type}
use Rattle.jd_specifications.specs.declared.fault.SpecFault.{SpecFault}
use Rattle.jd_specifications.specs.Scopes.{AParameter, ALocal, SpecLocal, and_then}
use Rattle.jd_specifications.specs.Clauses.{Around, Sofar, at_first, clauses}

module _ (d : Declarations) where
  -- ---- what is in scope; bodies are refused before (JLS 6.3)

  abbrev pub type_written : PlainWritten → ValueType
  type_written w = type_by d.class_named w.written

  abbrev pub local : PlainIdentifier → ValueType → SpecLocal
  local x t = record { name = x.name; named = ALocal; type = t }

  abbrev pub declared_names : ValueType → List JavaDeclarator → List SpecLocal → List SpecLocal
  declared_names t [] locals = locals
  declared_names t (x ∷ xs) locals = declared_names t xs (local x.name t ∷ locals)

  abbrev pub for_locals : JavaForStart → List SpecLocal → List SpecLocal
  for_locals (Declared w xs) locals = declared_names (type_written w) xs locals
  for_locals (Evaluated es) locals = locals

  -- where the loop begins, perhaps behind labels
  abbrev pub loop_locals : JavaStmt → List SpecLocal → List SpecLocal
  loop_locals (For at j start c update s) locals = for_locals start locals
  loop_locals (Label at j l s) locals = loop_locals s locals
  loop_locals s locals = locals

  abbrev pub parameters : List JavaParameter → List SpecLocal → List SpecLocal
  parameters [] locals = locals
  parameters (p ∷ ps) locals = parameters ps (record { name = p.name.name; named = AParameter; type = type_written p.ty } ∷ locals)

  -- ---- the clauses of places, in the order of the text

  abbrev pub blocks : Around → Sofar → List PlainSpecBlock → Result Sofar SpecFault
  blocks a s [] = Ok s
  blocks a s (b ∷ bs) = and_then (λ t. blocks a t bs) (clauses d a s b.clauses)

  abbrev pub optional_block : Around → Sofar → Option PlainSpecBlock → Result Sofar SpecFault
  optional_block a s None = Ok s
  optional_block a s (Some b) = clauses d a s b.clauses

  module _ (place : Place) where
    abbrev pub around : List SpecLocal → Around
    around locals = record { place = place; result = None; locals = locals }

    abbrev pub keeping : List SpecLocal → Result (List SpecLocal) SpecFault → Result (List SpecLocal) SpecFault
    keeping locals r = and_then (λ ls. Ok locals) r

    abbrev mutual
      -- the loops in a statement, where these are in scope; a loop has the clauses before its labels too
      pub stmt : Sofar → JavaStmt → List SpecLocal → Result (List SpecLocal) SpecFault
      stmt s (Block at ss) locals = keeping locals (stmts ss locals)
      stmt s (Declaration at w xs) locals = Ok (declared_names (type_written w) xs locals)
      stmt s (Label at j l body) locals = and_then (λ t. keeping locals (stmt t body locals)) (optional_block (around (loop_locals body locals)) s j)
      stmt s (If at c body) locals = keeping locals (stmt at_first body locals)
      stmt s (IfElse at c body other) locals = and_then (λ ls. keeping locals (stmt at_first other locals)) (stmt at_first body locals)
      stmt s (While at j c body) locals = and_then (λ t. keeping locals (stmt at_first body locals)) (optional_block (around locals) s j)
      stmt s (For at j start c update body) locals = and_then (λ t. keeping locals (stmt at_first body (for_locals start locals))) (optional_block (around (for_locals start locals)) s j)
      stmt s (Try at ss hs) locals = and_then (λ ls. handlers hs locals) (stmts ss locals)
      stmt s (TryFinally at ss hs ts) locals = and_then (λ ls. and_then (λ ms. keeping locals (stmts ts locals)) (handlers hs locals)) (stmts ss locals)
      stmt s other locals = Ok locals

      pub stmts : JavaStmts → List SpecLocal → Result (List SpecLocal) SpecFault
      stmts NoStmts locals = Ok locals
      stmts (StmtThen one more) locals = and_then (λ ls. stmts more ls) (stmt at_first one locals)

      pub handlers : JavaHandlers → List SpecLocal → Result (List SpecLocal) SpecFault
      handlers NoHandlers locals = Ok locals
      handlers (HandlerThen (Catch at c x ss) hs) locals = and_then (λ ls. handlers hs locals) (stmts ss (local x (class_type (d.class_named c.name)) ∷ locals))

  -- ---- members, classes and files

  abbrev pub gives : JavaResult → Option ValueType
  gives Void = None
  gives (Gives w) = Some (type_written w)
  gives OfConstructor = None

  abbrev pub place_of : ℕ → Bool → Place
  place_of class static = record { class = class; is_static = static }

  -- the contract before the method, then the loops in its body
  abbrev pub method : ℕ → JavaMethod → Result (List SpecLocal) SpecFault
  method class m =
      and_then (λ s. stmts (place_of class m.is_static) (java_stmts m.body) (parameters m.parameters []))
      (blocks (record { place = place_of class m.is_static; result = gives m.result; locals = parameters m.parameters [] }) at_first m.specs)

  abbrev pub invariants : ℕ → List PlainSpecBlock → Result (List SpecLocal) SpecFault
  invariants class bs = and_then (λ s. Ok []) (blocks (record { place = place_of class false; result = None; locals = [] }) at_first bs)

  abbrev pub member : ℕ → JavaMember → Result (List SpecLocal) SpecFault
  member class (FieldMember f) = invariants class f.specs
  member class (ConstantMember c) = invariants class c.specs
  member class (MethodMember m) = method class m

  abbrev pub members : ℕ → List JavaMember → Option PlainSpecBlock → Result (List SpecLocal) SpecFault
  members class [] None = Ok []
  members class [] (Some b) = invariants class (b ∷ [])
  members class (m ∷ ms) end = and_then (λ ls. members class ms end) (member class m)

  -- the file of what is refused, and the token
  abbrev pub fault_or : ℕ → Result (List SpecLocal) SpecFault → Option (ℕ × SpecFault) → Option (ℕ × SpecFault)
  fault_or file (Ok ls) rest = rest
  fault_or file (Err fault) rest = Some (file, fault)

  abbrev pub fault_from : ℕ → List DeclaredClass → Option (ℕ × SpecFault)
  fault_from class [] = None
  fault_from class (c ∷ cs) = fault_or c.file (members class c.tree.members c.tree.end) (fault_from (suc class) cs)

  -- none where all JML of the files is a program's
  abbrev pub first_fault : List JavaUnit → Option (ℕ × SpecFault)
  first_fault units = fault_from prelude_count (declared_classes units)
