-- Pairs that are taken over one by one, where a test passes.
use Rattle.std.proofs.Common.{ℕ, ◌≡◌, ◌+◌, ◌<◌, ◌++◌, Bool, true, false, List, [], ◌∷◌, length, map, take, get_or, cond, sym, ap, ap₂, ◌∙◌}
use Rattle.std.specs.List.{filter}
use Rattle.std.proofs.lemmas.List.{append-nil, map-append, take_more}
use Rattle.std.proofs.lemmas.List.Elements.{filter-append}
use Rattle.jd_syntax.specs.Names.{Name}
use Rattle.jd_term.specs.declared.formula.Elementary.{Elementary}
use Rattle.jd_term.specs.Formulas.{pair_view}
use Rattle.jd_term.specs.Terms.{PlainTerm}

module _ (passes : Name × PlainTerm → Bool) (ps : List Elementary) (i : ℕ) (p : Elementary) (lt : i < length ps) (is : p ≡ get_or ps i p) where
  one_more : filter passes (map pair_view (take (i + 1) ps)) ≡ filter passes (map pair_view (take i ps)) ++ cond (passes (pair_view p)) (pair_view p ∷ []) []
  one_more =
      ap (λ (l : List Elementary). filter passes (map pair_view l)) (take_more ps i p lt)
      ∙ ap (filter passes) (map-append pair_view (take i ps) (get_or ps i p ∷ []))
      ∙ filter-append passes (map pair_view (take i ps)) (pair_view (get_or ps i p) ∷ [])
      ∙ ap (λ (e : Elementary). filter passes (map pair_view (take i ps)) ++ cond (passes (pair_view e)) (pair_view e ∷ []) []) (sym is)

  pub goes_in : (copied : Elementary) (old new : List Elementary) → map pair_view old ≡ filter passes (map pair_view (take i ps)) → passes (pair_view p) ≡ true → pair_view copied ≡ pair_view p → new ≡ old ++ copied ∷ [] → map pair_view new ≡ filter passes (map pair_view (take (i + 1) ps))
  goes_in copied old new so_far holds same pushed =
      ap (map pair_view) pushed
      ∙ map-append pair_view old (copied ∷ [])
      ∙ ap₂ (λ l x. l ++ x ∷ []) so_far same
      ∙ sym (one_more ∙ ap (λ b. filter passes (map pair_view (take i ps)) ++ cond b (pair_view p ∷ []) []) holds)

  pub stays_out : (old new : List Elementary) → map pair_view old ≡ filter passes (map pair_view (take i ps)) → passes (pair_view p) ≡ false → new ≡ old → map pair_view new ≡ filter passes (map pair_view (take (i + 1) ps))
  stays_out old new so_far fails left =
      ap (map pair_view) left
      ∙ so_far
      ∙ sym (one_more ∙ ap (λ b. filter passes (map pair_view (take i ps)) ++ cond b (pair_view p ∷ []) []) fails ∙ append-nil (filter passes (map pair_view (take i ps))))
