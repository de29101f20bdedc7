-- What the code's values show. Of a list the last part comes first in the code.
use Rattle.std.specs.Prelude.{◌≡◌, List, [], map, option_map, reverse, IfOk}
use Rattle.std.specs.declared.result.Result.{Result}
use Rattle.std.specs.declared.vec.Vec.{Vec}
use Rattle.std.specs.declared.boxed.Box.{Box}
use Rattle.std.specs.declared.alloc.Global.{Global}
use Rattle.jd_base.specs.declared.memory.NoMemory.{NoMemory}
use Rattle.jd_grammar.specs.declared.piles.NodeParts.{NodeParts}
use Rattle.jd_syntax.specs.JavaTypes.{identifier_view, written_view}
use Rattle.jd_syntax.specs.SpecTrees.{spec_block_view}
use Rattle.jd_syntax.specs.declared.java.Stmt.{Stmt}
use Rattle.jd_syntax.specs.JavaTrees.{JavaStmt, java_view, declarator_view, for_start_view, java_stmt_view, result_view, parameter_view, member_view, class_view}
use Rattle.jd_jcalls.specs.Handlers.{java_handler_view}
use Rattle.jd_java_values.specs.declared.values.Suffix.{Suffix}
use Rattle.jd_java_values.specs.declared.values.Suffix.TheVariants as suffixes
use Rattle.jd_java_values.specs.declared.values.Start.{Start}
use Rattle.jd_java_values.specs.declared.values.Start.TheVariants as starts
use Rattle.jd_java_values.specs.declared.values.Declared.TheVariants as declares
use Rattle.jd_java_values.specs.declared.values.Declared.{Declared as CodeDeclared}
use Rattle.jd_java_values.specs.declared.values.Value.{Value}
use Rattle.jd_java_values.specs.declared.values.Value.TheVariants as values
use Rattle.jd_java_values.specs.Values.{PlainSuffix, Infix, InstanceOf, Assign, Choice, Member, Method, Element, Count, PlainStart, Inside, Cast, Object, Array, PlainDeclared, FieldNames, Routine, Constant, PlainValue, Nothing, Expression, Suffixes, Started, ArrayOperand, Expressions, BehindName, Named, Typed, Dimension, Statement, Statements, Variables, LoopStart, Handlers, Rescue, Modifiers, Number, Names, Parameters, Declared, Declarator, Declaration, Body, Classes}

-- a list whose last part comes first
abbrev pub backwards : {A B : Type 0} → (A → B) → Vec A Global → List B
backwards view xs = reverse (map view xs.items)

abbrev pub in_order : {A B : Type 0} → (A → B) → Vec A Global → List B
in_order view xs = map view xs.items

-- a statement in a box
abbrev pub boxed_view : Box Stmt Global → JavaStmt
boxed_view s = java_stmt_view s.value

abbrev pub suffix_view : Suffix → PlainSuffix
suffix_view (suffixes.Infix o e) = Infix o (java_view e)
suffix_view (suffixes.InstanceOf t) = InstanceOf (written_view t)
suffix_view (suffixes.Assign o e) = Assign o (java_view e)
suffix_view (suffixes.Choice a b) = Choice (java_view a) (java_view b)
suffix_view (suffixes.Member x) = Member (identifier_view x)
suffix_view (suffixes.Method x es) = Method (identifier_view x) (in_order java_view es)
suffix_view (suffixes.Element e) = Element (java_view e)
suffix_view (suffixes.Count o) = Count o

abbrev pub start_view : Start → PlainStart
start_view (starts.Inside e) = Inside (java_view e)
start_view (starts.Cast t e) = Cast (written_view t) (java_view e)
start_view (starts.Object x es) = Object (identifier_view x) (in_order java_view es)
start_view (starts.Array e) = Array (java_view e)

abbrev pub declared_view : CodeDeclared → PlainDeclared
declared_view (declares.FieldNames xs) = FieldNames (in_order identifier_view xs)
declared_view (declares.Routine ps ss) = Routine (in_order parameter_view ps) (in_order java_stmt_view ss)
declared_view (declares.Constant n) = Constant n

abbrev pub value_view : Value → PlainValue
value_view values.Nothing = Nothing
value_view (values.Expression e) = Expression (java_view e)
value_view values.NoSuffixes = Suffixes []
value_view (values.Suffixes ss) = Suffixes (backwards suffix_view ss)
value_view (values.Started s ss) = Started (start_view s) (backwards suffix_view ss)
value_view (values.ArrayOperand e) = ArrayOperand (java_view e)
value_view (values.Expressions es) = Expressions (backwards java_view es)
value_view (values.BehindName args ss es) = BehindName (option_map (in_order java_view) args) (backwards suffix_view ss) (backwards java_view es)
value_view (values.Named x) = Named (identifier_view x)
value_view (values.Typed t) = Typed (written_view t)
value_view values.Dimension = Dimension
value_view (values.Statement s) = Statement (boxed_view s)
value_view (values.Statements ss) = Statements (backwards java_stmt_view ss)
value_view (values.Variables ds) = Variables (backwards declarator_view ds)
value_view (values.LoopStart s) = LoopStart (for_start_view s)
value_view (values.Handlers hs) = Handlers (backwards java_handler_view hs)
value_view (values.Rescue hs ss) = Rescue (in_order java_handler_view hs) (option_map (in_order java_stmt_view) ss)
value_view (values.Modifiers static blocks) = Modifiers static (backwards spec_block_view blocks)
value_view (values.Number n) = Number n
value_view (values.Names xs) = Names (backwards identifier_view xs)
value_view (values.Parameters ps) = Parameters (backwards parameter_view ps)
value_view (values.Declared d) = Declared (declared_view d)
value_view (values.Declarator array x d) = Declarator array (identifier_view x) (declared_view d)
value_view (values.Declaration result x d) = Declaration (result_view result) (identifier_view x) (declared_view d)
value_view (values.Body ms end) = Body (backwards member_view ms) (option_map spec_block_view end)
value_view (values.Classes cs) = Classes (backwards class_view cs)

abbrev pub parts_view : NodeParts Value → NodeParts PlainValue
parts_view parts = record { first = value_view parts.first; second = value_view parts.second; third = value_view parts.third; fourth = value_view parts.fourth }

-- where memory does not run out, the result shows this
abbrev pub Gives : {A B : Type 0} → (A → B) → Result A NoMemory → B → Type 0
Gives view r x = IfOk r (λ v. view v ≡ x)
