-- The grammar of each place where JML stands.
use Rattle.std.specs.Prelude.{ℕ}
use Rattle.jd_syntax.specs.declared.spec.SpecPlace.{SpecPlace}
use Rattle.jd_syntax.specs.declared.spec.SpecPlace.TheVariants.{Field, Method, Modifier, Loop, ClassEnd}
use Rattle.jd_jml_grammar.specs.declared.names.TheConstants as names

-- the name of the grammar that the JML of a place is of
abbrev pub name_of : SpecPlace → ℕ
name_of Field = names.FIELD_SPECS
name_of Method = names.METHOD_SPECS
name_of Modifier = names.MODIFIER_SPECS
name_of Loop = names.LOOP_SPECS
name_of ClassEnd = names.CLASS_END_SPECS
