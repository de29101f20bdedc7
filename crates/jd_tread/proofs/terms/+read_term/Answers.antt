use Rattle.std.proofs.Common.{◌∷◌, [], Some, option_map, sym, ap, refl, ◌∙◌, arith}
use Rattle.jd_syntax.specs.Sxs.{sx_view}
use Rattle.jd_syntax.proofs.SxLemmas.{list_of}
use Rattle.jd_term.specs.TermViews.{loc_view, term_view}
use Rattle.jd_tforms.specs.Heads.{loc_heads, loc_word, term_heads, term_word}
use Rattle.jd_tforms.specs.Reading.{loc_of, read, term_of}
use Rattle.jd_tforms.specs.declared.heads.TermHead.TheVariants as heads
use Rattle.jd_tcode.proofs.ByHead.{by_head}
use Rattle.jd_tcode.proofs.Parted.{four_parts, one_part, three_parts, two_parts}
use Rattle.jd_tread.proofs.MadeTerms.{one_made, selected}
use Rattle.jd_tread.proofs.terms.+read_term.Goals as goal

-- ---- the head

pub read_term-returns-in-Some-term_head : goal.read_term-returns-in-Some-term_head
read_term-returns-in-Some-term_head g t c =
    let names = g.N.NameMeanings.table c.args.at.now.names.now in
    let ctx = c.args.at.now.binders.now in
    by_head term_view names term_word term_heads (term_of names ctx) (λ r. r.term ctx) (λ rs. refl) c.term_behind.result (sx_view c.args.x.now)
    c.deref-in-List.result.now c.deref-in-Some-term_head.result.now c.in-List.parts.items c.in-Some.word.now c.in-Some-term_head.head
    (ap sx_view c.in-List.is ∙ list_of c.in-List.parts) c.deref-in-List.ensures.value c.deref-in-Some-term_head.ensures.value
    (sym (ap (option_map (λ w. w.now)) c.in-Some.is) ∙ c.first_word.ensures) (sym c.in-Some-term_head.is ∙ c.term_head.ensures) c.term_behind.ensures

pub read_loc-returns-in-Some-loc_head : goal.read_loc-returns-in-Some-loc_head
read_loc-returns-in-Some-loc_head g t c =
    let names = g.N.NameMeanings.table c.args.at.now.names.now in
    let ctx = c.args.at.now.binders.now in
    by_head loc_view names loc_word loc_heads (loc_of names ctx) (λ r. r.loc ctx) (λ rs. refl) c.loc_behind.result (sx_view c.args.x.now)
    c.deref-in-List.result.now c.deref-in-Some-loc_head.result.now c.in-List.parts.items c.in-Some.word.now c.in-Some-loc_head.head
    (ap sx_view c.in-List.is ∙ list_of c.in-List.parts) c.deref-in-List.ensures.value c.deref-in-Some-loc_head.ensures.value
    (sym (ap (option_map (λ w. w.now)) c.in-Some.is) ∙ c.first_word.ensures) (sym c.in-Some-loc_head.is ∙ c.loc_head.ensures) c.loc_behind.ensures

-- ---- behind each head

pub term_behind-returns-in-len2 : goal.term_behind-returns-in-len2
term_behind-returns-in-len2 g t c =
    let names = g.N.NameMeanings.table c.args.at.now.names.now in
    let ctx = c.args.at.now.binders.now in
    one_part term_view names (term_of names ctx (Some c.args.head)) c.one_term.result c.args.parts.now c.a-item.result _ (omega arith) c.a-item.is
    (one_made names ctx c.args.head _ c.in-Negation.is) (c.one_term.ensures _ c.read_boxed.ensures)

pub term_behind-returns-in-len3 : goal.term_behind-returns-in-len3
term_behind-returns-in-len3 g t c =
    let names = g.N.NameMeanings.table c.args.at.now.names.now in
    let ctx = c.args.at.now.binders.now in
    two_parts term_view names (term_of names ctx (Some c.args.head)) c.arithmetic.result c.args.parts.now c.a-item-then-parts-lt4.result c.b-item.result _ (omega arith) c.a-item-then-parts-lt4.is c.b-item.is
    (ap (λ h. term_of names ctx (Some h) (read names (sx_view c.a-item-then-parts-lt4.result) ∷ read names (sx_view c.b-item.result) ∷ [])) (sym c.in-Arithmetic.is)) (c.arithmetic.ensures _ _ c.read_boxed-in-len3.ensures c.read_boxed-in-len3-2.ensures)

pub term_behind-returns-in-len3-parts : goal.term_behind-returns-in-len3-parts
term_behind-returns-in-len3-parts g t c =
    let names = g.N.NameMeanings.table c.args.at.now.names.now in
    let ctx = c.args.at.now.binders.now in
    two_parts term_view names (term_of names ctx (Some c.args.head)) c.create.result c.args.parts.now c.a-item-then-parts-lt4-2.result c.b-item-then-parts-lt4-2.result _ (omega arith) c.a-item-then-parts-lt4-2.is c.b-item-then-parts-lt4-2.is
    (ap (λ h. term_of names ctx (Some h) (read names (sx_view c.a-item-then-parts-lt4-2.result) ∷ read names (sx_view c.b-item-then-parts-lt4-2.result) ∷ [])) (sym c.in-Create.is)) (c.create.ensures _ _ c.read_boxed-in-len3-parts.ensures c.read_boxed-in-len3-parts-2.ensures)

pub term_behind-returns-in-len4 : goal.term_behind-returns-in-len4
term_behind-returns-in-len4 g t c =
    let names = g.N.NameMeanings.table c.args.at.now.names.now in
    let ctx = c.args.at.now.binders.now in
    three_parts term_view names (term_of names ctx (Some c.args.head)) c.sum.result c.args.parts.now c.a-item-then-parts-lt5.result c.b-item-then-parts-lt5.result c.c-item.result _ (omega arith) c.a-item-then-parts-lt5.is c.b-item-then-parts-lt5.is c.c-item.is
    (ap (λ h. term_of names ctx (Some h) (read names (sx_view c.a-item-then-parts-lt5.result) ∷ read names (sx_view c.b-item-then-parts-lt5.result) ∷ read names (sx_view c.c-item.result) ∷ [])) (sym c.in-Sum.is)) (c.sum.ensures _ _ _ c.read_boxed-in-Sum.ensures c.read_boxed-in-Sum-2.ensures c.read_summand.ensures)

pub term_behind-returns-in-len5 : goal.term_behind-returns-in-len5
term_behind-returns-in-len5 g t c =
    let names = g.N.NameMeanings.table c.args.at.now.names.now in
    let ctx = c.args.at.now.binders.now in
    four_parts term_view names (term_of names ctx (Some c.args.head)) c.store.result c.args.parts.now c.a-item-then-parts-lt6.result c.b-item-then-parts-lt6.result c.c-item-then-parts-lt6.result c.d-item.result _ (omega arith) c.a-item-then-parts-lt6.is c.b-item-then-parts-lt6.is c.c-item-then-parts-lt6.is c.d-item.is
    (ap (λ h. term_of names ctx (Some h) (read names (sx_view c.a-item-then-parts-lt6.result) ∷ read names (sx_view c.b-item-then-parts-lt6.result) ∷ read names (sx_view c.c-item-then-parts-lt6.result) ∷ read names (sx_view c.d-item.result) ∷ [])) (sym c.in-Store.is)) (c.store.ensures _ _ _ _ c.read_boxed-a.ensures c.read_boxed-b.ensures c.read_boxed-in-Store.ensures c.read_boxed-in-Store-2.ensures)

pub term_behind-returns-in-len4-parts : goal.term_behind-returns-in-len4-parts
term_behind-returns-in-len4-parts g t c =
    let names = g.N.NameMeanings.table c.args.at.now.names.now in
    let ctx = c.args.at.now.binders.now in
    three_parts term_view names (term_of names ctx (Some c.args.head)) c.anon.result c.args.parts.now c.a-item-then-parts-lt5-3.result c.l-item.result c.b-item-then-parts-lt5-3.result _ (omega arith) c.a-item-then-parts-lt5-3.is c.l-item.is c.b-item-then-parts-lt5-3.is
    (ap (λ h. term_of names ctx (Some h) (read names (sx_view c.a-item-then-parts-lt5-3.result) ∷ read names (sx_view c.l-item.result) ∷ read names (sx_view c.b-item-then-parts-lt5-3.result) ∷ [])) (sym c.in-Anon.is)) (c.anon.ensures _ _ _ c.read_boxed-in-Anon.ensures c.read_set.ensures c.read_boxed-in-Anon-2.ensures)

pub read_select-returns-in-len4 : goal.read_select-returns-in-len4
read_select-returns-in-len4 g t c =
    let names = g.N.NameMeanings.table c.args.at.now.names.now in
    let ctx = c.args.at.now.binders.now in
    three_parts term_view names (term_of names ctx (Some (heads.Select c.args.sort))) c.select.result c.args.parts.now c.a-item.result c.b-item.result c.c-item.result _ (omega arith) c.a-item.is c.b-item.is c.c-item.is
    (selected names ctx c.args.sort (read names (sx_view c.a-item.result)) (read names (sx_view c.b-item.result)) (read names (sx_view c.c-item.result)) c.in-Int.is) (c.select.ensures _ _ _ c.read_boxed.ensures c.read_boxed-in-len4.ensures c.read_boxed-in-len4-2.ensures)

pub loc_behind-returns-in-len3 : goal.loc_behind-returns-in-len3
loc_behind-returns-in-len3 g t c =
    let names = g.N.NameMeanings.table c.args.at.now.names.now in
    let ctx = c.args.at.now.binders.now in
    two_parts loc_view names (loc_of names ctx (Some c.args.head)) c.single.result c.args.parts.now c.a-item-then-parts-lt4.result c.b-item.result _ (omega arith) c.a-item-then-parts-lt4.is c.b-item.is
    (ap (λ h. loc_of names ctx (Some h) (read names (sx_view c.a-item-then-parts-lt4.result) ∷ read names (sx_view c.b-item.result) ∷ [])) (sym c.in-Single.is)) (c.single.ensures _ _ c.read_boxed-in-len3.ensures c.read_boxed-in-len3-2.ensures)

pub loc_behind-returns-in-len4 : goal.loc_behind-returns-in-len4
loc_behind-returns-in-len4 g t c =
    let names = g.N.NameMeanings.table c.args.at.now.names.now in
    let ctx = c.args.at.now.binders.now in
    three_parts loc_view names (loc_of names ctx (Some c.args.head)) c.range.result c.args.parts.now c.a-item-then-parts-lt5.result c.b-item-then-parts-lt5.result c.c-item.result _ (omega arith) c.a-item-then-parts-lt5.is c.b-item-then-parts-lt5.is c.c-item.is
    (ap (λ h. loc_of names ctx (Some h) (read names (sx_view c.a-item-then-parts-lt5.result) ∷ read names (sx_view c.b-item-then-parts-lt5.result) ∷ read names (sx_view c.c-item.result) ∷ [])) (sym c.in-Range.is)) (c.range.ensures _ _ _ c.read_boxed-in-len4.ensures c.read_boxed-in-len4-2.ensures c.read_boxed-in-len4-3.ensures)

pub loc_behind-returns-in-len3-parts : goal.loc_behind-returns-in-len3-parts
loc_behind-returns-in-len3-parts g t c =
    let names = g.N.NameMeanings.table c.args.at.now.names.now in
    let ctx = c.args.at.now.binders.now in
    two_parts loc_view names (loc_of names ctx (Some c.args.head)) c.union.result c.args.parts.now c.l-item.result c.m-item.result _ (omega arith) c.l-item.is c.m-item.is
    (ap (λ h. loc_of names ctx (Some h) (read names (sx_view c.l-item.result) ∷ read names (sx_view c.m-item.result) ∷ [])) (sym c.in-Union.is)) (c.union.ensures _ _ c.read_set.ensures c.read_set-in-len3-parts.ensures)
