-- Where expressions and clauses stand, and what clauses say so far, as plain records.
use Rattle.std.specs.Prelude.{false, [], Option, None, Result, Ok, Err}
use Rattle.jd_syntax.specs.JavaTypes.{PlainIdentifier}
use Rattle.jd_syntax.specs.SpecTrees.{PlainSpec}
use Rattle.jd_bodies.specs.Declarations.{Declarations}
use Rattle.jd_bodies.specs.declared.place.Place.{Place}
use Rattle.jd_bodies.specs.declared.value.ValueType.{ValueType}
use Rattle.jd_bodies.specs.declared.value.ValueType.TheVariants as types
use Rattle.jd_specifications.specs.declared.fault.SpecFault.{SpecFault}
use Rattle.jd_specifications.specs.Clauses as plain
use Rattle.jd_specifications.specs.Scopes.{SpecPlace, and_then}
use Rattle.jd_specifications.specs.Types.{expression}
use Rattle.jd_jml_judging.specs.declared.context.Around.{Around}
use Rattle.jd_jml_judging.specs.declared.context.Context.{Context}
use Rattle.jd_jml_judging.specs.declared.context.Sofar.{Sofar}
use Rattle.jd_jml_judging.specs.declared.context.Word.{Word}
use Rattle.jd_jml_judging.specs.declared.context.Word.TheVariants as words
use Rattle.jd_jml_judging.specs.Visible.{locals_of}

abbrev pub context_view : Context → SpecPlace
context_view c = record { place = c.place; result = c.result; old = c.old; invariants = c.invariants }

-- what a place says of the clauses that stand there, whatever is in scope
abbrev pub placed : Place → Option ValueType → plain.Around
placed place result = record { place = place; result = result; locals = [] }

abbrev pub around_view : {D : Type 0} → Around D → plain.Around
around_view a = record { place = a.place; result = a.result; locals = locals_of a.names.now }

abbrev pub word_view : Word → plain.Word
word_view words.Any = plain.NoWord
word_view words.Normal = plain.NormalWord
word_view words.Exceptional = plain.ExceptionalWord

abbrev pub sofar_view : Sofar → plain.Sofar
sofar_view s = record { word = word_view s.word; measure = s.measure; diverges = s.diverges }

-- what is said behind a clause, or the token that is refused
abbrev pub said : Result Sofar SpecFault → Result plain.Sofar SpecFault
said (Ok s) = Ok (sofar_view s)
said (Err f) = Err f

-- ---- what clauses with a context of their own come to

-- an exception of the class, and what holds then
abbrev pub thrown_by : Declarations → plain.Around → PlainIdentifier → Option PlainIdentifier → PlainSpec → Result ValueType SpecFault
thrown_by d a c x e = and_then (λ t. expression d (plain.elsewhere a) types.Boolean (plain.caught d x t a.locals) e) (plain.exception d c)

abbrev pub invariant_by : Declarations → plain.Around → PlainSpec → Result ValueType SpecFault
invariant_by d a e = expression d (plain.in_invariant (placed (record { class = a.place.class; is_static = false }) None)) types.Boolean [] e
