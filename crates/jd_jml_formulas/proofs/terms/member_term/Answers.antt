use Rattle.jd_jml_known.specs.declared.members.Member.TheVariants as members
use Rattle.jd_jml_formulas.specs.Spellings.{spelling_view, when_view}
use Rattle.jd_jml_formulas.proofs.Named.{field_read, other_read}
use Rattle.jd_jml_formulas.proofs.terms.member_term.Goals as goal

pub returns-in-Field : goal.returns-in-Field
returns-in-Field g c = λ p o h made. field_read p (spelling_view c.args.m.now.spelled.now) (when_view c.args.t) c.select.result c.args.member c.in-Field.f c.in-Field.value c.sort_of_value.result o c.in-Field.is h c.sort_of_value.ensures (c.select.ensures _ _ _ c.heap.ensures made c.named_field.ensures)

pub returns-in-Length : goal.returns-in-Length
returns-in-Length g c = λ p o h made. other_read p (spelling_view c.args.m.now.spelled.now) (when_view c.args.t) c.one_part.result c.args.member members.Length o c.in-Length.is (c.one_part.ensures _ made)

pub returns-in-Nothing : goal.returns-in-Nothing
returns-in-Nothing g c = λ p o h made. other_read p (spelling_view c.args.m.now.spelled.now) (when_view c.args.t) c.null.result c.args.member members.Nothing o c.in-Nothing.is c.null.ensures
