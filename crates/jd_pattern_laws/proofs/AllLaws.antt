-- The laws.
use Rattle.std.proofs.Common.{subst}
use Rattle.jd_patterns.specs.Variables.{code_variables, term_variables, loc_variables, formula_variables}
use Rattle.jd_pattern_laws.specs.Laws.{MakesTerm, MakesLoc, MakesFormula, MatchingIsExact, MatchingDecides, MatchingBinds, BindingsFixMeaning}
use Rattle.jd_patterns.specs.Chosen.{BoundOnce}
use Rattle.jd_patterns.specs.Matching.{match_term, match_loc, match_formula}
use Rattle.jd_pattern_laws.proofs.Binding.{term_binds, loc_binds, formula_binds}
use Rattle.jd_pattern_laws.proofs.Chosen.{bind_once, decided}
use Rattle.jd_pattern_laws.proofs.Keeping.{term_keeps, loc_keeps, formula_keeps}
use Rattle.jd_pattern_laws.proofs.Meets.{MeetsTerm, MeetsLoc, MeetsFormula}
use Rattle.jd_pattern_laws.proofs.Exact.{alike, term_law, loc_law, formula_law}
use Rattle.jd_pattern_laws.proofs.Filling.{all_same, code_fill, term_fill, loc_fill, formula_fill}
use Rattle.jd_pattern_laws.proofs.Made.{term_is, own_term, term_fits, loc_is, own_loc, loc_fits, formula_is, own_formula, formula_fits}

pub matching : MatchingIsExact
matching = record {
  of_terms = λ p w σ τ a t o. alike σ τ _ _ _ (λ m. (term_fits p σ a t m, term_is p σ a t o m)) (λ m. subst (λ x. MeetsTerm σ a x) m.1 (own_term p σ a o m.0)) (term_law w σ a t τ);
  of_locations = λ p w σ τ a l o. alike σ τ _ _ _ (λ m. (loc_fits p σ a l m, loc_is p σ a l o m)) (λ m. subst (λ x. MeetsLoc σ a x) m.1 (own_loc p σ a o m.0)) (loc_law w σ a l τ);
  of_formulas = λ p w σ τ a f o. alike σ τ _ _ _ (λ m. (formula_fits p σ a f m, formula_is p σ a f o m)) (λ m. subst (λ x. MeetsFormula σ a x) m.1 (own_formula p σ a o m.0)) (formula_law w σ a f τ);
}

pub fixed : BindingsFixMeaning
fixed = record {
  of_codes = λ p σ ρ τ a o h k. code_fill σ ρ p a (all_same σ ρ (code_variables a) τ o h k);
  of_terms = λ p σ ρ τ a o h k. term_fill σ ρ p a (all_same σ ρ (term_variables a) τ o h k);
  of_locations = λ p σ ρ τ a o h k. loc_fill σ ρ p a (all_same σ ρ (loc_variables a) τ o h k);
  of_formulas = λ p σ ρ τ a o h k. formula_fill σ ρ p a (all_same σ ρ (formula_variables a) τ o h k);
}

pub decides : MatchingDecides
decides = record {
  of_terms = λ p w τ a t o once. decided w τ (λ σ. MakesTerm p σ a t) (match_term w a t τ) (λ σ. matching.of_terms p w σ τ a t o) (term_keeps w (BoundOnce w) (bind_once w) a t τ once);
  of_locations = λ p w τ a l o once. decided w τ (λ σ. MakesLoc p σ a l) (match_loc w a l τ) (λ σ. matching.of_locations p w σ τ a l o) (loc_keeps w (BoundOnce w) (bind_once w) a l τ once);
  of_formulas = λ p w τ a f o once. decided w τ (λ σ. MakesFormula p σ a f) (match_formula w a f τ) (λ σ. matching.of_formulas p w σ τ a f o) (formula_keeps w (BoundOnce w) (bind_once w) a f τ once);
}

pub binding : MatchingBinds
binding = record {
  of_terms = λ w τ a t. term_binds w a t τ;
  of_locations = λ w τ a l. loc_binds w a l τ;
  of_formulas = λ w τ a f. formula_binds w a f τ;
}
