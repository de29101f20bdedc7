-- The names that code has in scope, as plain lists.
use Rattle.std.specs.Prelude.{ℕ, Bool, true, false, List, [], ◌∷◌, map, reverse}
use Rattle.jd_specifications.specs.Scopes.{Named, AParameter, ALocal, AnException, ABound, is_local, SpecLocal}
use Rattle.jd_jml_judging.specs.declared.method_names.Entry.{Entry}
use Rattle.jd_jml_judging.specs.declared.method_names.Known.{Known}
use Rattle.jd_jml_judging.specs.declared.method_names.MethodNames.{MethodNames}
use Rattle.jd_jml_judging.specs.declared.names.Names.{Names, fold-Names}
use Rattle.jd_jml_judging.specs.declared.names.Names.TheOpen.{Names-F}

-- what a name in scope is known for
abbrev pub known_of : SpecLocal → Known
known_of l = record { is_local = is_local l.named; value = l.type }

abbrev pub named_by : Bool → Named
named_by true = ALocal
named_by false = AParameter

abbrev pub local_by : List ℕ → Known → SpecLocal
local_by name k = record { name = name; named = named_by k.is_local; type = k.value }

abbrev pub entry_local : Entry → SpecLocal
entry_local e = local_by e.name.items e.known

abbrev pub newest_first : List Entry → List SpecLocal
newest_first es = reverse (map entry_local es)

-- those of a method
abbrev pub locals_of : MethodNames → List SpecLocal
locals_of m = newest_first m.entries.items

-- and those that an expression sees
abbrev pub names_layer : Names-F (List SpecLocal) → List SpecLocal
names_layer Names-F.Nothing = []
names_layer (Names-F.Method m) = locals_of m.now
names_layer (Names-F.Exception m x t) = record { name = x.now; named = AnException; type = t } ∷ locals_of m.now
names_layer (Names-F.Bound outer x t) = record { name = x.now; named = ABound; type = t } ∷ outer.now

abbrev pub visible : Names → List SpecLocal
visible = fold-Names (List SpecLocal) names_layer
