-- The children of an update.
use Rattle.std.proofs.Common.{◌≡◌, ℕ, zero, suc, ◌+◌, ◌<◌, List, [], ◌∷◌, ◌++◌, length, map, get_or, Some, sym, ap, ◌∙◌, arith, add-one}
use Rattle.std.specs.Prelude.{slice_get}
use Rattle.jd_syntax.specs.Names.{Name}
use Rattle.jd_term.specs.Terms.{PlainTerm}
use Rattle.jd_term.specs.TermViews.{term_view}
use Rattle.jd_term.specs.Formulas.{pair_view}
use Rattle.jd_term.specs.declared.formula.Elementary.{Elementary}
use Rattle.jd_model.specs.Places.{Part, TermPart, numbered}

abbrev right_side : Name × PlainTerm → Part
right_side p = TermPart p.1

at_pair : (us : List Elementary) (tail : List Part) (k : ℕ) (x : Elementary) → x ≡ get_or us k x → k < length us → slice_get (map right_side (map pair_view us) ++ tail) k ≡ Some (TermPart (term_view x.value))
at_pair [] tail k x e lt = absurd (omega arith)
at_pair (u ∷ us) tail zero x e lt = ap (λ (v : Elementary). Some (TermPart (term_view v.value))) (sym e)
at_pair (u ∷ us) tail (suc k) x e lt = at_pair us tail k x e (omega arith)

pub pair_child : (us : List Elementary) (tail : List Part) (n k : ℕ) (x : Elementary) → n ≡ k + 1 → x ≡ get_or us k x → k < length us → numbered (map right_side (map pair_view us) ++ tail) n ≡ Some (TermPart (term_view x.value))
pair_child us tail n k x is e lt = ap (numbered (map right_side (map pair_view us) ++ tail)) (is ∙ add-one k) ∙ at_pair us tail k x e lt

pub ruleset pairs = pair_child
