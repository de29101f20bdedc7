-- Going on behind the focus.
use Rattle.std.proofs.Common.{◌≡◌, ◌∙◌, refl, sym, ap, Bool, true, false, Option, Some, None}
use Rattle.jd_syntax.specs.Codes.{PlainCode}
use Rattle.jd_term.specs.declared.formula.Modality.{Modality}
use Rattle.jd_term.specs.Formulas.{PlainFormula, Modal}
use Rattle.jd_patterns.specs.Patterns as pattern
use Rattle.jd_patterns.specs.Patterns.{SchemaVar, StmtPattern, CodePattern, FormulaPattern}
use Rattle.jd_patterns.specs.Foci.{first_in, sought}
use Rattle.jd_patterns.specs.Bindings.{TheContext, TheModality, Bindings, bind, next, on}
use Rattle.jd_patterns.specs.Matching.{match_formula, match_stmt}
use Rattle.jd_schema_matching.specs.Bound.{answered}
use Rattle.jd_schema_matching.specs.Tested.{tests}

pub next_next : (o : Option Bindings) (f g : Bindings → Option Bindings) → next (next o f) g ≡ next o (λ υ. next (f υ) g)
next_next None f g = refl
next_next (Some τ) f g = refl

-- what the variables of the modality and of what is around the focus are bound to, and those of the statement there
abbrev pub focused : SchemaVar → SchemaVar → StmtPattern → Modality → PlainCode → Bindings → Option Bindings
focused n k s m d τ = next (bind tests n (TheModality m) τ) (λ υ. on (first_in (sought s) d) (λ q. next (bind tests k (TheContext q.0) υ) (λ φ. match_stmt tests s q.1 φ)))

-- the pattern with a focus, by its form and that of its formula
pub at_focus : (p q : FormulaPattern) (f a : PlainFormula) (n k : SchemaVar) (c r : CodePattern) (s : StmtPattern) (m : Modality) (d : PlainCode) (τ : Bindings) → p ≡ pattern.Focus n k c q → c ≡ pattern.Then s r → r ≡ pattern.Done → f ≡ Modal m d a → next (focused n k s m d τ) (match_formula tests q a) ≡ match_formula tests p f τ
at_focus p q f a n k c r s m d τ e h i j =
    next_next (bind tests n (TheModality m) τ) (λ υ. on (first_in (sought s) d) (λ u. next (bind tests k (TheContext u.0) υ) (λ φ. match_stmt tests s u.1 φ))) (match_formula tests q a)
    ∙ sym (ap (λ g. match_formula tests p g τ) j ∙ ap (λ x. match_formula tests x (Modal m d a) τ) (e ∙ ap (λ x. pattern.Focus n k x q) (h ∙ ap (pattern.Then s) i)))

-- what is found behind it, where it was found
pub goes_on : (b v : Bool) (τ φ : Bindings) (o w : Option Bindings) (g : Bindings → Option Bindings) → b ≡ true → answered b τ ≡ o → answered v φ ≡ g τ → next o g ≡ w → answered v φ ≡ w
goes_on b v τ φ o w g e h k i = k ∙ sym (ap (λ x. next (answered x τ) g) e) ∙ ap (λ x. next x g) h ∙ i

pub ends : (b : Bool) (τ : Bindings) (o w : Option Bindings) (g : Bindings → Option Bindings) → b ≡ false → answered b τ ≡ o → next o g ≡ w → answered b τ ≡ w
ends b τ o w g e h i = ap (λ x. answered x τ) e ∙ sym (ap (λ x. next (answered x τ) g) e) ∙ ap (λ x. next x g) h ∙ i
