-- The views of parts that are made for a step.
use Rattle.std.specs.Global.{Vec}
use Rattle.std.specs.Prelude.{map}
use Rattle.jd_patterns.specs.Bindings.{Bindings, Part, TheFormula, TheKind, TheLiteral, TheName, TheSimple, TheSort, TheTerm}
use Rattle.jd_patterns.specs.Patterns.{SchemaVar}
use Rattle.jd_syntax.specs.CodeViews.{expr_view, kind_view}
use Rattle.jd_syntax.specs.Names.{var_view}
use Rattle.jd_term.specs.Formulas.{formula_view}
use Rattle.jd_term.specs.TermViews.{term_view}
use Rattle.jd_taclet_matching.specs.declared.owned.OwnedEntry.{OwnedEntry}
use Rattle.jd_taclet_matching.specs.declared.owned.OwnedPart.{OwnedPart}
use Rattle.jd_taclet_matching.specs.declared.owned.OwnedPart.TheVariants as parts

abbrev pub owned_part : OwnedPart → Part
owned_part (parts.Formula a) = TheFormula (formula_view a)
owned_part (parts.Term t) = TheTerm (term_view t)
owned_part (parts.Literal z) = TheLiteral z
owned_part (parts.Kind k) = TheKind (kind_view k)
owned_part (parts.Sort s) = TheSort s
owned_part (parts.Name x) = TheName (var_view x)
owned_part (parts.Simple e) = TheSimple (expr_view e)

abbrev pub owned_entry : OwnedEntry → SchemaVar × Part
owned_entry e = (e.name.now, owned_part e.part)

abbrev pub owned_entries : Vec OwnedEntry → Bindings
owned_entries v = map owned_entry v.items
