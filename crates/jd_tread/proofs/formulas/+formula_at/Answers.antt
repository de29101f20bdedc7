use Rattle.std.proofs.Common.{◌∷◌, [], Some, option_map, sym, ap, refl, subst, ◌∙◌, arith}
use Rattle.jd_syntax.specs.Sxs.{sx_view}
use Rattle.jd_syntax.proofs.SxLemmas.{list_of}
use Rattle.jd_term.specs.Formulas.{formula_view}
use Rattle.jd_tforms.specs.Heads.{formula_heads, formula_word}
use Rattle.jd_tforms.specs.Reading.{formula_of, read}
use Rattle.jd_tcode.specs.Pairing.{Gives}
use Rattle.jd_tcode.proofs.ByHead.{by_head}
use Rattle.jd_tcode.proofs.Parted.{one_part, three_parts, two_parts}
use Rattle.jd_tread.specs.FormulaMakers.{below}
use Rattle.jd_tread.proofs.MadeFormulas.{bound_made, formulas_made, kind_made, term_made, terms_made}
use Rattle.jd_tread.proofs.formulas.+formula_at.Goals as goal

-- ---- the head

pub formula_at-returns-in-Some-formula_head : goal.formula_at-returns-in-Some-formula_head
formula_at-returns-in-Some-formula_head g t c =
    let names = g.N.NameMeanings.table c.args.at.now.names.now in
    let ctx = c.args.at.now.binders.now in
    by_head formula_view names formula_word formula_heads (formula_of names ctx) (λ r. r.formula ctx) (λ rs. refl) c.formula_behind.result (sx_view c.args.x.now)
    c.deref-in-List.result.now c.deref-in-Some-formula_head.result.now c.in-List.parts.items c.in-Some.word.now c.in-Some-formula_head.head
    (ap sx_view c.in-List.is ∙ list_of c.in-List.parts) c.deref-in-List.ensures.value c.deref-in-Some-formula_head.ensures.value
    (sym (ap (option_map (λ w. w.now)) c.in-Some.is) ∙ c.first_word.ensures) (sym c.in-Some-formula_head.is ∙ c.formula_head.ensures) c.formula_behind.ensures

-- ---- behind each head

pub formula_behind-returns-in-len3 : goal.formula_behind-returns-in-len3
formula_behind-returns-in-len3 g t c =
    let names = g.N.NameMeanings.table c.args.at.now.names.now in
    let ctx = c.args.at.now.binders.now in
    two_parts formula_view names (formula_of names ctx (Some c.args.head)) c.two_formulas.result c.args.parts.now c.a-item-then-parts-lt4.result c.b-item.result _ (omega arith) c.a-item-then-parts-lt4.is c.b-item.is
    (formulas_made names ctx c.args.head _ _ c.in-And.is) (c.two_formulas.ensures _ _ c.read_boxed-in-len3.ensures c.read_boxed-in-len3-2.ensures)

pub formula_behind-returns-in-len3-parts-2 : goal.formula_behind-returns-in-len3-parts-2
formula_behind-returns-in-len3-parts-2 g t c =
    let names = g.N.NameMeanings.table c.args.at.now.names.now in
    let ctx = c.args.at.now.binders.now in
    two_parts formula_view names (formula_of names ctx (Some c.args.head)) c.updated.result c.args.parts.now c.pairs-item.result c.a-item-then-parts-lt4-3.result _ (omega arith) c.pairs-item.is c.a-item-then-parts-lt4-3.is
    (ap (λ h. formula_of names ctx (Some h) (read names (sx_view c.pairs-item.result) ∷ read names (sx_view c.a-item-then-parts-lt4-3.result) ∷ [])) (sym c.in-Updated.is)) (c.updated.ensures _ _ c.read_update.ensures c.read_boxed-in-len3-parts-2.ensures)

pub formula_behind-returns-in-len3-parts-3 : goal.formula_behind-returns-in-len3-parts-3
formula_behind-returns-in-len3-parts-3 g t c =
    let names = g.N.NameMeanings.table c.args.at.now.names.now in
    let ctx = c.args.at.now.binders.now in
    two_parts formula_view names (formula_of names ctx (Some c.args.head)) c.modal.result c.args.parts.now c.code-item.result c.a-item-then-parts-lt4-4.result _ (omega arith) c.code-item.is c.a-item-then-parts-lt4-4.is
    (ap (λ h. formula_of names ctx (Some h) (read names (sx_view c.code-item.result) ∷ read names (sx_view c.a-item-then-parts-lt4-4.result) ∷ [])) (sym c.in-Modal.is)) (c.modal.ensures _ _ c.read_code.ensures c.read_boxed-in-len3-parts-3.ensures)

pub formula_behind-returns-in-len3-parts-4 : goal.formula_behind-returns-in-len3-parts-4
formula_behind-returns-in-len3-parts-4 g t c =
    let names = g.N.NameMeanings.table c.args.at.now.names.now in
    let ctx = c.args.at.now.binders.now in
    two_parts formula_view names (formula_of names ctx (Some c.args.head)) c.two_terms.result c.args.parts.now c.a-item-then-parts-lt4-5.result c.b-item-then-parts-lt4-5.result _ (omega arith) c.a-item-then-parts-lt4-5.is c.b-item-then-parts-lt4-5.is
    (terms_made names ctx c.args.head _ _ c.in-Equal.is) (c.two_terms.ensures _ _ c.read_term.ensures c.read_term-in-len3-parts-4.ensures)

pub formula_behind-returns-in-len2-parts : goal.formula_behind-returns-in-len2-parts
formula_behind-returns-in-len2-parts g t c =
    let names = g.N.NameMeanings.table c.args.at.now.names.now in
    let ctx = c.args.at.now.binders.now in
    one_part formula_view names (formula_of names ctx (Some c.args.head)) c.one_term.result c.args.parts.now c.a-item-then-parts-lt3-7.result _ (omega arith) c.a-item-then-parts-lt3-7.is
    (term_made names ctx c.args.head _ c.in-InInt.is) (c.one_term.ensures _ c.read_term-in-len2-parts.ensures)

pub formula_behind-returns-in-len4 : goal.formula_behind-returns-in-len4
formula_behind-returns-in-len4 g t c =
    let names = g.N.NameMeanings.table c.args.at.now.names.now in
    let ctx = c.args.at.now.binders.now in
    three_parts formula_view names (formula_of names ctx (Some c.args.head)) c.member.result c.args.parts.now c.a-item-then-parts-lt5.result c.b-item-then-parts-lt5.result c.l-item.result _ (omega arith) c.a-item-then-parts-lt5.is c.b-item-then-parts-lt5.is c.l-item.is
    (ap (λ h. formula_of names ctx (Some h) (read names (sx_view c.a-item-then-parts-lt5.result) ∷ read names (sx_view c.b-item-then-parts-lt5.result) ∷ read names (sx_view c.l-item.result) ∷ [])) (sym c.in-In.is)) (c.member.ensures _ _ _ c.read_term-in-len4.ensures c.read_term-in-len4-2.ensures c.read_loc.ensures)

pub formula_behind-returns-in-len3-parts : goal.formula_behind-returns-in-len3-parts
formula_behind-returns-in-len3-parts g t c =
    let names = g.N.NameMeanings.table c.args.at.now.names.now in
    let ctx = c.args.at.now.binders.now in
    two_parts formula_view names (formula_of names ctx (Some c.args.head)) c.read_bound.result c.args.parts.now c.sort-item.result c.a-item-then-parts-lt4-2.result _ (omega arith) c.sort-item.is c.a-item-then-parts-lt4-2.is
    (bound_made names ctx c.args.head (read names (sx_view c.sort-item.result)) (read names (sx_view c.a-item-then-parts-lt4-2.result)) c.in-Forall.is) (subst (λ s. Gives formula_view c.read_bound.result (below c.args.head ctx s (read names (sx_view c.a-item-then-parts-lt4-2.result)))) (c.sort_in.ensures names) c.read_bound.ensures)

pub formula_behind-returns-in-len3-parts-5 : goal.formula_behind-returns-in-len3-parts-5
formula_behind-returns-in-len3-parts-5 g t c =
    let names = g.N.NameMeanings.table c.args.at.now.names.now in
    let ctx = c.args.at.now.binders.now in
    two_parts formula_view names (formula_of names ctx (Some c.args.head)) c.of_kind.result c.args.parts.now c.kind-item.result c.a-item-then-parts-lt4-6.result _ (omega arith) c.kind-item.is c.a-item-then-parts-lt4-6.is
    (kind_made names ctx c.args.head _ _ c.in-Instance.is) (c.of_kind.ensures _ _ c.kind_in.ensures c.read_term-in-Instance.ensures)
