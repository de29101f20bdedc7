use Rattle.std.proofs.Common.{◌≡◌, map, drop}
use Rattle.jd_syntax.specs.Sxs.{bracketed_list, sx_view}
use Rattle.jd_tforms.specs.Forms as plain
use Rattle.jd_tforms.specs.HasForm as plain_forms
use Rattle.jd_twords.specs.Places.{form_view, place_view}
use Rattle.jd_twords.proofs.Parts.{from}
use Rattle.jd_twords.proofs.forms.+has_form.Given as goal

-- what is left decides
abbrev pub invariant-have_form-loop-number : goal.invariant-have_form-loop-number
invariant-have_form-loop-number l =
    plain_forms.have_forms (bracketed_list (map sx_view l.parts)) (form_view l.form).parts (form_view l.form).rest
    ≡ from (map sx_view l.parts) (form_view l.form).parts (form_view l.form).rest l.number

-- the same
abbrev pub invariant-list_form-loop-number : goal.invariant-list_form-loop-number
invariant-list_form-loop-number l =
    plain_forms.any_form (plain_forms.have_forms (bracketed_list (map sx_view l.parts))) (plain.forms (place_view l.place))
    ≡ plain_forms.any_form (plain_forms.have_forms (bracketed_list (map sx_view l.parts))) (drop l.number (plain.forms (place_view l.place)))
