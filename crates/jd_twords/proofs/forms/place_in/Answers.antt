use Rattle.std.proofs.Common.{◌∷◌, map, option_map, sym, ap, ◌∙◌}
use Rattle.jd_tforms.specs.Forms as plain
use Rattle.jd_twords.specs.Places.{place_at, place_view, with_word}
use Rattle.jd_twords.proofs.Parts.{behind_word}
use Rattle.jd_twords.proofs.forms.place_in.Goals as goal

pub returns-in-None : goal.returns-in-None
returns-in-None c =
    let f = c.args.form in
    c.place_at.ensures ∙ ap (λ w. place_at (with_word w (map place_view f.parts.now)) c.args.number (option_map place_view f.rest)) (sym c.in-None.is)

pub returns-then-number-eq0 : goal.returns-then-number-eq0
returns-then-number-eq0 c =
    let f = c.args.form in
    ap (λ i. place_at (plain.WordPlace c.in-Some.word.now ∷ map place_view f.parts.now) i (option_map place_view f.rest)) (sym c.if-number-eq0.true)
    ∙ ap (λ w. place_at (with_word w (map place_view f.parts.now)) c.args.number (option_map place_view f.rest)) (sym c.in-Some.is)

pub returns-else-number-eq0 : goal.returns-else-number-eq0
returns-else-number-eq0 c =
    let f = c.args.form in
    c.place_at-else-number-eq0.ensures
    ∙ (behind_word c.in-Some.word.now (map place_view f.parts.now) c.args.number (option_map place_view f.rest) c.if-number-eq0.false
    ∙ ap (λ w. place_at (with_word w (map place_view f.parts.now)) c.args.number (option_map place_view f.rest)) (sym c.in-Some.is))
