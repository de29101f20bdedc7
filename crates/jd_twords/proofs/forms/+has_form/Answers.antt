use Rattle.std.proofs.Common.{◌≡◌, map, option_map, drop, sym, ap, ◌∙◌, arith}
use Rattle.std.proofs.lemmas.List.{length-map}
use Rattle.jd_syntax.specs.Sxs.{bracketed_list, sx_view}
use Rattle.jd_syntax.proofs.SxLemmas.{list_of}
use Rattle.jd_tforms.specs.Forms as plain
use Rattle.jd_tforms.specs.HasForm as plain_forms
use Rattle.jd_twords.specs.Places.{form_view, place_view}
use Rattle.jd_twords.proofs.Numbered.{form_fails, form_passes, none_left, past_all}
use Rattle.jd_twords.proofs.Parts.{too_few, part_fails, part_passes, no_part, item, mapped_length}
use Rattle.jd_twords.proofs.forms.+has_form.Goals as goal

pub has_form-returns-in-List : goal.has_form-returns-in-List
has_form-returns-in-List t c =
    c.list_form.ensures
    ∙ (ap (λ xs. plain_forms.any_form (plain_forms.have_forms (bracketed_list (map sx_view xs))) (plain.forms (place_view c.args.place))) c.deref-in-List.ensures.value
    ∙ (ap (λ y. plain_forms.has_form y (place_view c.args.place)) (sym (list_of c.in-List.parts))
    ∙ ap (λ y. plain_forms.has_form (sx_view y) (place_view c.args.place)) (sym c.in-List.is)))

pub have_form-returns-then-parts-count : goal.have_form-returns-then-parts-count
have_form-returns-then-parts-count t c =
    let f = form_view c.args.form in
    too_few (map sx_view c.args.parts.now) f.parts f.rest (omega (arith, c.if-parts-count.true, c.part_count-count.ensures, length-map c.args.parts.now sx_view))

pub have_form-returns-in_default : goal.have_form-returns-in_default
have_form-returns-in_default t c =
    let f = form_view c.args.form in
    sym (c.loop-number.invariant
    ∙ no_part (map sx_view c.args.parts.now) f.parts f.rest c.loop-number.number
    (mapped_length c.args.parts.now c.loop-number.number c.loop-number-test.true) (sym (ap (option_map place_view) c.in_default.is) ∙ c.place_in.ensures))

pub have_form-returns-then-not-has_form : goal.have_form-returns-then-not-has_form
have_form-returns-then-not-has_form t c =
    let f = form_view c.args.form in
    part_fails (map sx_view c.args.parts.now) f.parts f.rest c.loop-number.number _ _ (place_view c.in-Some.place) _
    (mapped_length c.args.parts.now c.loop-number.number c.loop-number-test.true) (sym (ap (option_map place_view) c.in-Some.is) ∙ c.place_in.ensures)
    (item c.args.parts.now c.loop-number.number _ _ c.loop-number-test.true c.index-parts-number.is) (sym c.if-not-has_form.true ∙ c.has_form.ensures) c.loop-number.invariant

pub have_form-loop-number-preserved : goal.have_form-loop-number-preserved
have_form-loop-number-preserved t c =
    let f = form_view c.args.form in
    part_passes (map sx_view c.args.parts.now) f.parts f.rest c.loop-number.number _ _ (place_view c.in-Some.place) _
    (mapped_length c.args.parts.now c.loop-number.number c.loop-number-test.true) (sym (ap (option_map place_view) c.in-Some.is) ∙ c.place_in.ensures)
    (item c.args.parts.now c.loop-number.number _ _ c.loop-number-test.true c.index-parts-number.is) (sym c.if-not-has_form.false ∙ c.has_form.ensures) c.loop-number.invariant

-- ---- one form after the other

pub list_form-returns-in_default : goal.list_form-returns-in_default
list_form-returns-in_default t c =
    let go = plain_forms.have_forms (bracketed_list (map sx_view c.args.parts.now)) in
    sym (c.loop-number.invariant ∙ none_left go (plain.forms (place_view c.args.place)) c.loop-number.number (sym (ap (option_map form_view) c.in_default.is) ∙ c.form_at.ensures))

pub list_form-returns-then-have_form : goal.list_form-returns-then-have_form
list_form-returns-then-have_form t c =
    let go = plain_forms.have_forms (bracketed_list (map sx_view c.args.parts.now)) in
    form_passes go (plain.forms (place_view c.args.place)) c.loop-number.number (form_view c.in-Some.form) _
    (sym (ap (option_map form_view) c.in-Some.is) ∙ c.form_at.ensures) (sym c.if-have_form.true ∙ c.have_form.ensures) c.loop-number.invariant

pub list_form-loop-number-preserved : goal.list_form-loop-number-preserved
list_form-loop-number-preserved t c =
    let go = plain_forms.have_forms (bracketed_list (map sx_view c.args.parts.now)) in
    form_fails go (plain.forms (place_view c.args.place)) c.loop-number.number (form_view c.in-Some.form) _
    (sym (ap (option_map form_view) c.in-Some.is) ∙ c.form_at.ensures) (sym c.if-have_form.false ∙ c.have_form.ensures) c.loop-number.invariant

pub list_form-returns : goal.list_form-returns
list_form-returns t c =
    let go = plain_forms.have_forms (bracketed_list (map sx_view c.args.parts.now)) in
    let past : c.loop-number.number ≡ 25 = omega arith in
    sym (c.loop-number.invariant ∙ (ap (λ k. plain_forms.any_form go (drop k (plain.forms (place_view c.args.place)))) past ∙ past_all go (place_view c.args.place)))
