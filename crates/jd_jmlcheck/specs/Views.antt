-- Specifications and refusals as plain records.
use Rattle.std.specs.Prelude.{ℕ, List, map, Option, Some, None}
use Rattle.std.specs.Global.{Vec}
use Rattle.jd_syntax.specs.declared.spec.SpecExpr.{SpecExpr}
use Rattle.jd_syntax.specs.SpecTrees.{PlainSpec, spec_view}
use Rattle.jd_specifications.specs.declared.fault.SpecCause.TheVariants as causes
use Rattle.jd_specifications.specs.declared.fault.SpecFault.{SpecFault}
use Rattle.jd_jml_written.specs.Views.{case_view, loop_view}
use Rattle.jd_jmlcheck.specs.Specified.{PlainMethodSpec, PlainSpecs}
use Rattle.jd_jmlcheck.specs.declared.made.MethodSpec.{MethodSpec}
use Rattle.jd_jmlcheck.specs.declared.made.Specs.{Specs}
use Rattle.jd_jmlcheck.specs.declared.refusal.SpecRefusal.{SpecRefusal}
use Rattle.jd_jmlcheck.specs.declared.refusal.SpecRefusal.TheVariants as refusals

abbrev pub method_spec_view : MethodSpec → PlainMethodSpec
method_spec_view s = record { cases = map case_view s.cases.items; loops = map loop_view s.loops.items }

abbrev pub invariants_view : Vec SpecExpr → List PlainSpec
invariants_view v = map spec_view v.items

abbrev pub specs_view : Specs → PlainSpecs
specs_view s = record { methods = map method_spec_view s.methods.items; classes = map invariants_view s.classes.items }

-- the file, and the token in it; none where memory ran out
abbrev pub refusal_view : SpecRefusal → Option (ℕ × SpecFault)
refusal_view (refusals.UnknownName file at) = Some (file, record { at = at; cause = causes.UnknownName })
refusal_view (refusals.TypeMismatch file at) = Some (file, record { at = at; cause = causes.TypeMismatch })
refusal_view (refusals.ResultHere file at) = Some (file, record { at = at; cause = causes.ResultHere })
refusal_view (refusals.OldHere file at) = Some (file, record { at = at; cause = causes.OldHere })
refusal_view (refusals.InvariantRecursion file at) = Some (file, record { at = at; cause = causes.InvariantRecursion })
refusal_view (refusals.CallInSpec file at) = Some (file, record { at = at; cause = causes.CallInSpec })
refusal_view (refusals.BadClause file at) = Some (file, record { at = at; cause = causes.BadClause })
refusal_view refusals.NoMemory = None
