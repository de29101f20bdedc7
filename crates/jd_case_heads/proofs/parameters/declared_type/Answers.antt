use Rattle.std.proofs.Common.{Bool, ap, ◌∙◌}
use Rattle.jd_model.specs.Cases.{DeclaredType}
use Rattle.jd_model.specs.Programs.{ValueType}
use Rattle.jd_specifications.specs.WrittenCases.{model_type}
use Rattle.jd_case_heads.proofs.parameters.declared_type.Goals as goal

abbrev marked : Bool → ValueType → DeclaredType
marked b t = record { type = t; nullable = b }

pub returns : goal.returns
returns g c = let d = g.D.Declares.declarations c.args.d.now in ap (marked c.args.nullable) (c.contract_type.ensures d ∙ ap (model_type d) c.type_by.ensures)
