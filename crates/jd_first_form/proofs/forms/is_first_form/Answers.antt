use Rattle.std.proofs.Common.{[], get_or, length, map, sym, ap, ◌∙◌}
use Rattle.std.proofs.lemmas.List.{length-map}
use Rattle.jd_first_form.proofs.Counting.{as_many}
use Rattle.jd_jinfos.specs.Views.{class_info_view}
use Rattle.jd_jmlcheck.specs.Specified.{PlainSpecs}
use Rattle.jd_jmlcheck.specs.Views.{method_spec_view}
use Rattle.jd_first_form.proofs.Whole.{whole}
use Rattle.jd_first_form.proofs.forms.is_first_form.Goals as goal

pub returns : goal.returns
returns c = λ units d tables files made said.
    c.is_class_form.ensures
    ∙ whole d units _ c.args.files files c.if-files-ne1.false (sym (as_many units) ∙ ap length (sym tables.classes_) ∙ length-map c.args.classes.now.classes.items class_info_view ∙ sym c.class_count.ensures ∙ c.if-class_count-ne11.false) (c.class.ensures units tables) c.invariant_count.result (c.invariant_count.ensures ∙ ap (λ (s : PlainSpecs). length (get_or s.classes 10 [])) said) _ (ap (map method_spec_view) c.deref.ensures.value ∙ ap (λ (s : PlainSpecs). s.methods) said) _ made
