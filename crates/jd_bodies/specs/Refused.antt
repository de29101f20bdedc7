-- Which token of the bodies of a program is refused first.
use Rattle.std.specs.Prelude.{ℕ, suc, Bool, true, false, List, [], ◌∷◌, Option, Some, None, Result, Ok, Err}
use Rattle.jd_syntax.specs.JavaTypes.{PlainIdentifier}
use Rattle.jd_syntax.specs.JavaTrees.{JavaStmt, Super, java_stmts, JavaParameter, JavaResult, Void, Gives, OfConstructor, JavaMethod, JavaMember, FieldMember, ConstantMember, MethodMember, JavaUnit}
use Rattle.jd_jclasses.specs.Classes.{DeclaredClass, declared_classes, prelude_count}
use Rattle.jd_bodies.specs.declared.fault.Fault.{Fault}
use Rattle.jd_bodies.specs.declared.fault.Cause.TheVariants.{WrongArity}
use Rattle.jd_bodies.specs.declared.place.Place.{Place}
use Rattle.jd_bodies.specs.declared.place.Returns.{Returns}
use Rattle.jd_bodies.specs.declared.place.Returns.TheVariants.{Nothing, Value}
use Rattle.jd_bodies.specs.declared.value.ValueType.{ValueType}
use Rattle.jd_bodies.specs.Declarations.{Declarations, type_by}
use Rattle.jd_bodies.specs.Judgements.{and_then, refused}
use Rattle.jd_bodies.specs.Scopes.{Scope, empty_scope}
use Rattle.jd_bodies.specs.Expressions.{written_type}
use Rattle.jd_bodies.specs.Statements.{with_name, stmts, above_parameters}

-- ---- a method or constructor (JLS 8.4, 8.8)

-- whether it says which constructor runs above it (JLS 8.8.7)
abbrev pub begins_with_super : List JavaStmt → Bool
begins_with_super [] = false
begins_with_super (Super at es ∷ ss) = true
begins_with_super (s ∷ ss) = false

module _ (d : Declarations) where
  abbrev pub returns_of : JavaResult → Returns
  returns_of Void = Nothing
  returns_of (Gives w) = Value (type_by d.class_named w.written)
  returns_of OfConstructor = Nothing

  -- the written type of the result
  abbrev pub result_known : JavaResult → Scope → Result Scope Fault
  result_known Void s = Ok s
  result_known (Gives w) s = and_then (λ t. Ok s) (written_type d w)
  result_known OfConstructor s = Ok s

  -- no arguments fit what runs above
  abbrev pub needs_none : ℕ → Option (List ValueType) → Scope → Result Scope Fault
  needs_none at (Some []) s = Ok s
  needs_none at ts s = refused at WrongArity

  -- a constructor that does not say what runs above it calls that without arguments (JLS 8.8.7)
  abbrev pub runs_above : ℕ → PlainIdentifier → JavaResult → Bool → Scope → Result Scope Fault
  runs_above class name OfConstructor false s = needs_none name.at (above_parameters d (d.parent class)) s
  runs_above class name r says s = Ok s

  -- the parameters, each with its type and its name
  abbrev pub with_parameters : List JavaParameter → Scope → Result Scope Fault
  with_parameters [] s = Ok s
  with_parameters (p ∷ ps) s = and_then (with_parameters ps) (and_then (λ t. with_name p.name t s) (written_type d p.ty))

  abbrev pub place_of : ℕ → JavaMethod → Place
  place_of class m = record { class = class; is_static = m.is_static }

  abbrev pub body : ℕ → JavaMethod → Scope → Result Scope Fault
  body class m s = stmts d (place_of class m) (returns_of m.result) (java_stmts m.body) s

  -- its tokens in order: the type of the result, the name, the parameters, the body
  abbrev pub method : ℕ → JavaMethod → Scope → Result Scope Fault
  method class m s = and_then (body class m) (and_then (with_parameters m.parameters) (and_then (runs_above class m.name m.result (begins_with_super m.body)) (result_known m.result s)))

  -- ---- all bodies: classes in the order of the files, members in that of the class

  abbrev pub member : ℕ → JavaMember → Result Scope Fault
  member class (FieldMember f) = and_then (λ t. Ok empty_scope) (written_type d f.ty)
  member class (ConstantMember c) = Ok empty_scope
  member class (MethodMember m) = method class m empty_scope

  abbrev pub members : ℕ → List JavaMember → Result Scope Fault
  members class [] = Ok empty_scope
  members class (m ∷ ms) = and_then (λ s. members class ms) (member class m)

  -- the file of what is refused, and the token
  abbrev pub fault_or : ℕ → Result Scope Fault → Option (ℕ × Fault) → Option (ℕ × Fault)
  fault_or file (Ok s) rest = rest
  fault_or file (Err fault) rest = Some (file, fault)

  abbrev pub fault_from : ℕ → List DeclaredClass → Option (ℕ × Fault)
  fault_from class [] = None
  fault_from class (c ∷ cs) = fault_or c.file (members class c.tree.members) (fault_from (suc class) cs)

  -- none where each body is one
  abbrev pub first_fault : List JavaUnit → Option (ℕ × Fault)
  first_fault units = fault_from prelude_count (declared_classes units)
