use Rattle.std.proofs.Common.{ℕ, List, ◌∷◌, [], refl, sym, subst}
use Rattle.jd_grammar.specs.Grammars.{Production, Spells, preorder, yield}
use Rattle.jd_grammar.specs.declared.table.Symbol.TheVariants.{Name}
use Rattle.jd_jml_grammar.specs.Jml.{jml}
use Rattle.jd_jml_grammar.specs.Productions.{jml_productions}
use Rattle.jd_jml_grammar.proofs.Passes.{passes, has_productions, starts}
use Rattle.jd_jml_grammar.proofs.laws.one_derivation.Goals as goal

pub returns : goal.returns
returns c place f h is is_f is_h same =
    let spells_f : Spells jml_productions place (yield f) (preorder f) = (f, is_f, refl, refl) in
    let spells_h : Spells jml_productions place (yield f) (preorder h) = (h, is_h, sym same, refl) in
    let moved = λ (order : List ℕ). subst (λ (g : List Production). Spells g place (yield f) order) (sym has_productions) in
    let orders = c.one_order.ensures jml place (yield f) (preorder f) (preorder h) passes (starts place is) (moved (preorder f) spells_f) (moved (preorder h) spells_h) in
    c.one_tree.ensures jml_productions f h (Name place ∷ []) [] [] is_f is_h orders
