-- Which types fit, and the types that operators give (JLS 4.10, 5, 15).
use Rattle.std.specs.Prelude.{Bool, true, false, ◌||◌, if◌then◌else◌, nat_eq, Option, Some, None}
use Rattle.jd_bodies.specs.Declarations.{Declarations}
use Rattle.jd_bodies.specs.declared.value.ValueType.{ValueType}
use Rattle.jd_bodies.specs.declared.value.ValueType.TheVariants.{Int, Boolean, Null, IntArray, Class, Missing}

-- the first of the classes that are always there, and the second
abbrev pub object : ValueType
object = Class 0

abbrev pub throwable : ValueType
throwable = Class 1

abbrev pub is_reference : ValueType → Bool
is_reference Int = false
is_reference Boolean = false
is_reference t = true

module _ (d : Declarations) where
  -- whether a value of the first type may stand where one of the second is wanted (JLS 4.10.2, 4.10.3, 5.2, 5.3)
  abbrev pub fits : ValueType → ValueType → Bool
  fits Int Int = true
  fits Int Missing = true
  fits Int b = false
  fits Boolean Boolean = true
  fits Boolean Missing = true
  fits Boolean b = false
  fits Null b = is_reference b
  fits IntArray IntArray = true
  fits IntArray (Class c) = nat_eq c 0
  fits IntArray Missing = true
  fits IntArray b = false
  fits (Class a) (Class b) = d.is_subclass a b
  fits (Class a) Missing = true
  fits (Class a) b = false
  fits Missing b = true

  -- up or down the order of types, as what is compared, cast or asked for its class has to be (JLS 5.5, 15.16, 15.20.2, 15.21)
  abbrev pub are_related : ValueType → ValueType → Bool
  are_related a b = fits a b || fits b a

  -- two types of which neither fits the other: of references the nearest that both fit
  abbrev pub common : ValueType → ValueType → Option ValueType
  common (Class a) (Class b) = Some (Class (d.joined a b))
  common (Class a) IntArray = Some object
  common IntArray (Class b) = Some object
  common a b = None

  -- what is one or the other (JLS 15.25)
  abbrev pub joined : ValueType → ValueType → Option ValueType
  joined a b = if fits a b then Some b else if fits b a then Some a else common a b
