-- The views of borrowed parts, of bindings and of verdicts.
use Rattle.std.specs.Prelude.{map, option_map}
use Rattle.jd_syntax.specs.Names.{var_view}
use Rattle.jd_syntax.specs.Codes.{stmts_of}
use Rattle.jd_syntax.specs.CodeViews.{expr_view, kind_view, stmt_view}
use Rattle.jd_term.specs.Formulas.{formula_view}
use Rattle.jd_term.specs.TermViews.{loc_view, term_view}
use Rattle.jd_patterns.specs.Patterns.{SchemaVar}
use Rattle.jd_patterns.specs.Bindings as plain
use Rattle.jd_patterns.specs.Bindings.{Part, TheFormula, TheTerm, TheLiteral, TheLocations, TheKind, TheSort, TheName, TheResult, TheField, TheClass, TheLabel, TheCode, TheReturn, TheSimple, TheModality, TheContext, Bindings}
use Rattle.jd_schema_matching.specs.Foci.{context_at}
use Rattle.jd_schema_matching.specs.declared.parts.PartRef.{PartRef}
use Rattle.jd_schema_matching.specs.declared.parts.PartRef.TheVariants as parts
use Rattle.jd_schema_matching.specs.declared.compare.Verdict.{Verdict}
use Rattle.jd_schema_matching.specs.declared.compare.Verdict.TheVariants as verdicts
use Rattle.jd_schema_matching.specs.declared.found.Entry.{Entry}
use Rattle.jd_schema_matching.specs.declared.found.Found.{Found}

abbrev pub part_view : PartRef → Part
part_view (parts.Formula a) = TheFormula (formula_view a.now)
part_view (parts.Term t) = TheTerm (term_view t.now)
part_view (parts.Literal z) = TheLiteral z
part_view (parts.Locations l) = TheLocations (loc_view l.now)
part_view (parts.Kind k) = TheKind (kind_view k)
part_view (parts.Sort s) = TheSort s
part_view (parts.Name x) = TheName (var_view x.now)
part_view (parts.Result r) = TheResult (option_map var_view r.now)
part_view (parts.Field f) = TheField f.0
part_view (parts.Class c) = TheClass c.0
part_view (parts.Label l) = TheLabel l
part_view (parts.Code c) = TheCode (stmts_of (map stmt_view c.now))
part_view (parts.Return s) = TheReturn (stmt_view s.now)
part_view (parts.Simple e) = TheSimple (expr_view e.now)
part_view (parts.Modality m) = TheModality m
part_view (parts.Context c t) = TheContext (context_at t (stmts_of (map stmt_view c.now)))

abbrev pub verdict_view : Verdict → plain.Verdict
verdict_view verdicts.OtherKind = plain.OtherKind
verdict_view verdicts.Equal = plain.Equal
verdict_view verdicts.Different = plain.Different

abbrev pub entry_view : Entry → SchemaVar × Part
entry_view e = (e.name.now, part_view e.part)

abbrev pub bindings : Found → Bindings
bindings f = map entry_view f.entries.items
