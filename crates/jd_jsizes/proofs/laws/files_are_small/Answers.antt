use Rattle.std.proofs.Common.{ap, length, arith}
use Rattle.jd_jsizes.proofs.Declaring.{few_classes, few_members, small_classes}
use Rattle.jd_jsizes.proofs.Spelling.{unit}
use Rattle.jd_jsizes.proofs.Tokens.{few_lexemes, few_tokens}
use Rattle.std.proofs.lemmas.List.{length-map}
use Rattle.jd_jparse.specs.Parses.{seen}
use Rattle.jd_jsizes.specs.Sizes.{files_size}
use Rattle.jd_jclasses.specs.Classes.{prelude_count}
use Rattle.std.specs.Prelude.{false, []}
use Rattle.jd_jsizes.proofs.laws.files_are_small.Goals as goal

pub returns-clause-tokens : goal.returns-clause-tokens
returns-clause-tokens c bytes tokens spelled = few_tokens bytes tokens (c.tokens_are_slices.ensures.slices bytes tokens spelled) (c.tokens_are_slices.ensures.in_order bytes tokens spelled)

pub returns-clause-trees : goal.returns-clause-trees
returns-clause-trees c tokens file is = omega (arith, unit c.rows_fit.ensures file _ [] (seen tokens) is.tree, few_lexemes false 0 tokens, ap length is.tokens, length-map (seen tokens) (λ l. l.kind))

pub returns-clause-classes : goal.returns-clause-classes
returns-clause-classes c units = few_classes 0 units

pub returns-clause-places : goal.returns-clause-places
returns-clause-places c units = small_classes (files_size units) 0 units (omega arith)

pub returns-clause-members : goal.returns-clause-members
returns-clause-members c units = few_members prelude_count 0 units
