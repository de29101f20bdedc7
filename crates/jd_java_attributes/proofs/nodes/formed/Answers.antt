use Rattle.std.proofs.Common.{map}
use Rattle.jd_grammar.specs.Counted.{shown}
use Rattle.jd_java_tokens.specs.Lexemes.{lexeme_view}
use Rattle.jd_java_attributes.specs.declared.form.TheConstants.{EMPTY}
use Rattle.jd_java_attributes.proofs.Levels.{alone_form, alone_rest, leaf_form, leaf_rest}
use Rattle.jd_java_attributes.proofs.Views.{drop_as, form_of_parts}
use Rattle.jd_java_attributes.proofs.nodes.formed.Goals as goal

pub returns-in-Some-clause-value : goal.returns-in-Some-clause-value
returns-in-Some-clause-value c =
    alone_form c.args.production (map lexeme_view c.args.tokens.now) (shown EMPTY c.args.piles.now) (shown EMPTY c.take_alone.new.self) c.row-row.result c.in-Some.first c.form_alone-in-Some.result c.row-row.ensures c.in-Some.ensures c.form_alone-in-Some.ensures

pub returns-in-Some-clause-rest : goal.returns-in-Some-clause-rest
returns-in-Some-clause-rest c =
    alone_rest c.args.production (shown EMPTY c.args.piles.now) (shown EMPTY c.take_alone.new.self) c.row-row.result c.in-Some.first c.row-row.ensures c.in-Some.ensures
