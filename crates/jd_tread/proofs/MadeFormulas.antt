-- What heads make of their parts is what stands behind them.
use Rattle.std.proofs.Common.{◌≡◌, ◌⊎◌, List, [], ◌∷◌, Some, option_map, refl}
use Rattle.jd_base.specs.declared.sort.Sort.{Sort}
use Rattle.jd_tgrammar.specs.NameTables.{NameTable}
use Rattle.jd_tforms.specs.Naming.{kind_of, sort_of_word}
use Rattle.jd_tforms.specs.Reading.{Read, both, formula_of, wording}
use Rattle.jd_tforms.specs.declared.heads.FormulaHead.{FormulaHead}
use Rattle.jd_tforms.specs.declared.heads.FormulaHead.TheVariants as heads
use Rattle.jd_tread.specs.FormulaMakers.{below, of_kind, one_term, two_formulas, two_terms}
use Rattle.jd_tcode.proofs.Among.{among_four, among_two}

module _ (names : NameTable) (ctx : List Sort) (h : FormulaHead) where
  pub formulas_made : (a b : Read) → (h ≡ heads.And) ⊎ ((h ≡ heads.Or) ⊎ ((h ≡ heads.Implies) ⊎ (h ≡ heads.Iff))) → both (two_formulas h) (a.formula ctx) (b.formula ctx) ≡ formula_of names ctx (Some h) (a ∷ b ∷ [])
  formulas_made a b is = among_four (λ k. both (two_formulas k) (a.formula ctx) (b.formula ctx) ≡ formula_of names ctx (Some k) (a ∷ b ∷ [])) is refl refl refl refl

  pub bound_made : (a b : Read) → (h ≡ heads.Forall) ⊎ (h ≡ heads.Exists) → below h ctx (wording sort_of_word a) b ≡ formula_of names ctx (Some h) (a ∷ b ∷ [])
  bound_made a b is = among_two (λ k. below k ctx (wording sort_of_word a) b ≡ formula_of names ctx (Some k) (a ∷ b ∷ [])) is refl refl

  pub terms_made : (a b : Read) → (h ≡ heads.Equal) ⊎ ((h ≡ heads.Less) ⊎ ((h ≡ heads.LessOrEqual) ⊎ (h ≡ heads.Invariant))) → both (two_terms h) (a.term ctx) (b.term ctx) ≡ formula_of names ctx (Some h) (a ∷ b ∷ [])
  terms_made a b is = among_four (λ k. both (two_terms k) (a.term ctx) (b.term ctx) ≡ formula_of names ctx (Some k) (a ∷ b ∷ [])) is refl refl refl refl

  pub term_made : (a : Read) → (h ≡ heads.InInt) ⊎ (h ≡ heads.WellFormed) → option_map (one_term h) (a.term ctx) ≡ formula_of names ctx (Some h) (a ∷ [])
  term_made a is = among_two (λ k. option_map (one_term k) (a.term ctx) ≡ formula_of names ctx (Some k) (a ∷ [])) is refl refl

  pub kind_made : (a b : Read) → (h ≡ heads.Instance) ⊎ (h ≡ heads.Exact) → both (of_kind h) (wording (kind_of names) a) (b.term ctx) ≡ formula_of names ctx (Some h) (a ∷ b ∷ [])
  kind_made a b is = among_two (λ k. both (of_kind k) (wording (kind_of names) a) (b.term ctx) ≡ formula_of names ctx (Some k) (a ∷ b ∷ [])) is refl refl
