-- What heads make of their parts is what stands behind them.
use Rattle.std.proofs.Common.{◌≡◌, ◌⊎◌, List, [], ◌∷◌, Some, option_map, refl}
use Rattle.jd_base.specs.declared.sort.Sort.{Sort}
use Rattle.jd_tgrammar.specs.NameTables.{NameTable}
use Rattle.jd_base.specs.declared.sort.Sort.TheVariants as sorts
use Rattle.jd_term.specs.Terms as terms
use Rattle.jd_tforms.specs.Reading.{Read, loc_of, term_of, three}
use Rattle.jd_tforms.specs.declared.heads.LocHead.{LocHead}
use Rattle.jd_tforms.specs.declared.heads.LocHead.TheVariants as locs
use Rattle.jd_tforms.specs.declared.heads.TermHead.{TermHead}
use Rattle.jd_tforms.specs.declared.heads.TermHead.TheVariants as heads
use Rattle.jd_tread.specs.TermMakers.{one_loc, one_term}
use Rattle.jd_tcode.proofs.Among.{among_four, among_three, among_two}

module _ (names : NameTable) (ctx : List Sort) where
  pub one_made : (h : TermHead) (a : Read) → (h ≡ heads.Negation) ⊎ ((h ≡ heads.Wrap) ⊎ ((h ≡ heads.Length) ⊎ (h ≡ heads.Element))) →
      option_map (one_term h) (a.term ctx) ≡ term_of names ctx (Some h) (a ∷ [])
  one_made h a is = among_four (λ k. option_map (one_term k) (a.term ctx) ≡ term_of names ctx (Some k) (a ∷ [])) is refl refl refl refl

  pub loc_made : (h : LocHead) (a : Read) → (h ≡ locs.Object) ⊎ (h ≡ locs.Elements) → option_map (one_loc h) (a.term ctx) ≡ loc_of names ctx (Some h) (a ∷ [])
  loc_made h a is = among_two (λ k. option_map (one_loc k) (a.term ctx) ≡ loc_of names ctx (Some k) (a ∷ [])) is refl refl

  pub selected : (s : Sort) (a b c : Read) → (s ≡ sorts.Int) ⊎ ((s ≡ sorts.Bool) ⊎ (s ≡ sorts.Ref)) →
      three (terms.Select s) (a.term ctx) (b.term ctx) (c.term ctx) ≡ term_of names ctx (Some (heads.Select s)) (a ∷ b ∷ c ∷ [])
  selected s a b c is = among_three (λ k. three (terms.Select k) (a.term ctx) (b.term ctx) (c.term ctx) ≡ term_of names ctx (Some (heads.Select k)) (a ∷ b ∷ c ∷ [])) is refl refl refl
