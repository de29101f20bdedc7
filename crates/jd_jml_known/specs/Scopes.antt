-- The names in scope with what they stand for, as plain lists.
use Rattle.std.specs.Prelude.{ℕ, ◌-◌, ◌^◌, min, List, [], ◌∷◌, map, reverse}
use Rattle.jd_syntax.specs.JavaTypes.{PlainIdentifier}
use Rattle.jd_syntax.specs.Names.{var_view}
use Rattle.jd_bodies.specs.Variables.{sort_of}
use Rattle.jd_bodies.specs.declared.value.ValueType.{ValueType}
use Rattle.jd_jml_meaning.specs.Resolved as jml
use Rattle.jd_jml_meaning.specs.Resolved.{JmlExpr}
use Rattle.jd_specifications.specs.Resolution as plain
use Rattle.jd_specifications.specs.Resolution.{AnArgument, AVariable, TheException, ABinder}
use Rattle.jd_jml_known.specs.declared.method_names.Entry.{Entry}
use Rattle.jd_jml_known.specs.declared.method_names.Known.{Known}
use Rattle.jd_jml_known.specs.declared.method_names.Known.TheVariants as parts
use Rattle.jd_jml_known.specs.declared.method_names.KnownNames.{KnownNames}
use Rattle.jd_jml_known.specs.declared.names.Meaning.{Meaning}
use Rattle.jd_jml_known.specs.declared.names.Meaning.TheVariants as meanings
use Rattle.jd_jml_known.specs.declared.names.Names.{Names, fold-Names}
use Rattle.jd_jml_known.specs.declared.names.Names.TheOpen.{Names-F}

abbrev pub known_view : Known → plain.Known
known_view (parts.Argument k) = AnArgument k
known_view (parts.Variable x) = AVariable (var_view x)

abbrev pub entry_by : List ℕ → Known → ValueType → plain.Entry
entry_by name k t = record { name = name; known = known_view k; type = t }

abbrev pub entry_view : Entry → plain.Entry
entry_view e = entry_by e.name.items e.known e.value

abbrev pub newest_first : List Entry → List plain.Entry
newest_first es = reverse (map entry_view es)

-- those of a method
abbrev pub known_of : KnownNames → List plain.Entry
known_of m = newest_first m.entries.items

-- what a quantifier binds
abbrev pub binder_by : PlainIdentifier → ValueType → plain.Entry
binder_by x t = record { name = x.name; known = ABinder; type = t }

-- and those that an expression sees
abbrev pub names_layer : Names-F (List plain.Entry) → List plain.Entry
names_layer Names-F.Nothing = []
names_layer (Names-F.Method m) = known_of m.now
names_layer (Names-F.Exception m x t) = record { name = x.now; known = TheException; type = t } ∷ known_of m.now
names_layer (Names-F.Bound outer x t) = record { name = x.now; known = ABinder; type = t } ∷ outer.now

abbrev pub visible : Names → List plain.Entry
visible = fold-Names (List plain.Entry) names_layer

-- ---- what is found, in 32 bits

abbrev pub at_most_32 : ℕ → ℕ
at_most_32 n = min n (2 ^ 32 - 1)

-- a bound variable outside of more binders than 32 bits can count is as one outside of that many
abbrev pub saturated : JmlExpr → JmlExpr
saturated (jml.BoundVariable n s) = jml.BoundVariable (at_most_32 n) s
saturated e = e

abbrev pub meaning_view : Meaning → JmlExpr
meaning_view (meanings.Argument k) = jml.Argument k
meaning_view (meanings.Variable x) = jml.Local (var_view x.now)
meaning_view meanings.Exception = jml.Thrown
meaning_view (meanings.Bound n t) = jml.BoundVariable n (sort_of t)
