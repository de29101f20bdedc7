-- The views of parts and of instantiations.
use Rattle.std.specs.Prelude.{map, option_map}
use Rattle.jd_patterns.specs.Bindings as plain
use Rattle.jd_patterns.specs.Bindings.{Bindings, TheClass, TheCode, TheContext, TheField, TheFormula, TheKind, TheLabel, TheLiteral, TheLocations, TheModality, TheName, TheResult, TheReturn, TheSimple, TheSort, TheTerm}
use Rattle.jd_schema.specs.declared.insts.Insts.{Insts}
use Rattle.jd_schema.specs.declared.part.Part.{Part}
use Rattle.jd_schema.specs.declared.part.Part.TheVariants as parts
use Rattle.jd_schema_matching.specs.Foci.{context_at}
use Rattle.jd_syntax.specs.CodeViews.{expr_view, kind_view, stmt_view}
use Rattle.jd_syntax.specs.Codes.{stmts_of}
use Rattle.jd_syntax.specs.Names.{var_view}
use Rattle.jd_term.specs.Formulas.{formula_view}
use Rattle.jd_term.specs.TermViews.{loc_view, term_view}

abbrev pub part : Part → plain.Part
part (parts.Formula a) = TheFormula (formula_view a)
part (parts.Term t) = TheTerm (term_view t)
part (parts.Literal z) = TheLiteral z
part (parts.Locations l) = TheLocations (loc_view l)
part (parts.Kind k) = TheKind (kind_view k)
part (parts.Sort s) = TheSort s
part (parts.Name x) = TheName (var_view x)
part (parts.Result r) = TheResult (option_map var_view r)
part (parts.Field f) = TheField f.0
part (parts.Class c) = TheClass c.0
part (parts.Label l) = TheLabel l
part (parts.Code c) = TheCode (stmts_of (map stmt_view c.items))
part (parts.Return s) = TheReturn (stmt_view s)
part (parts.Simple e) = TheSimple (expr_view e)
part (parts.Modality m) = TheModality m
part (parts.Context c t) = TheContext (context_at t (stmts_of (map stmt_view c.items)))

-- what each variable stands for
abbrev pub insts_view : Insts → Bindings
insts_view i = map (λ p. (p.0.items, part p.1)) i.pairs.items
