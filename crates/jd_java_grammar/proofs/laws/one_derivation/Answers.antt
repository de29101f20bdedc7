use Rattle.std.proofs.Common.{ℕ, List, ◌∷◌, [], refl, sym, subst}
use Rattle.jd_grammar.specs.Grammars.{Production, Spells, preorder, yield}
use Rattle.jd_grammar.specs.declared.table.Symbol.TheVariants.{Name}
use Rattle.jd_java_grammar.specs.Java.{java}
use Rattle.jd_java_grammar.specs.Productions.{java_productions}
use Rattle.jd_java_grammar.specs.declared.names.TheConstants.{COMPILATION_UNIT}
use Rattle.jd_java_grammar.proofs.Passes.{passes, has_productions, starts}
use Rattle.jd_java_grammar.proofs.laws.one_derivation.Goals as goal

pub returns : goal.returns
returns c f h is_f is_h same =
    let spells_f : Spells java_productions COMPILATION_UNIT (yield f) (preorder f) = (f, is_f, refl, refl) in
    let spells_h : Spells java_productions COMPILATION_UNIT (yield f) (preorder h) = (h, is_h, sym same, refl) in
    let moved = λ (order : List ℕ). subst (λ (g : List Production). Spells g COMPILATION_UNIT (yield f) order) (sym has_productions) in
    let orders = c.one_order.ensures java COMPILATION_UNIT (yield f) (preorder f) (preorder h) passes starts (moved (preorder f) spells_f) (moved (preorder h) spells_h) in
    c.one_tree.ensures java_productions f h (Name COMPILATION_UNIT ∷ []) [] [] is_f is_h orders
