use Rattle.std.proofs.Common.{◌++◌, map, refl, subst}
use Rattle.jd_code_makers.specs.Makers.{GivesCode}
use Rattle.jd_syntax.specs.CodeViews.{stmt_view}
use Rattle.jd_schema_instances.proofs.Chains.{chain_codes}
use Rattle.jd_schema_instances.proofs.makers.joined.Goals as goal

pub returns : goal.returns
returns c = subst (GivesCode c.code_in.result) (chain_codes c.args.a c.args.b) (c.code_in.ensures (map stmt_view c.args.a.stmts.items ++ map stmt_view c.args.b.stmts.items) (c.appended_stmts.ensures (map stmt_view c.args.a.stmts.items) (map stmt_view c.args.b.stmts.items) refl refl))
