-- The sets of a clause, from the last on.
use Rattle.std.proofs.Common.{◌≡◌, ◌==◌, ◌<◌, ◌+◌, ◌-◌, ℕ, zero, suc, Bool, false, List, [], ◌∷◌, get_or, length, map, drop, Result, refl, sym, ap, subst, ◌∙◌, arith}
use Rattle.std.proofs.lemmas.Bool.{false≢true}
use Rattle.std.proofs.lemmas.List.{drop_all, drop_more, length-drop}
use Rattle.jd_base.specs.declared.memory.NoMemory.{NoMemory}
use Rattle.jd_syntax.specs.SpecTrees.{location_form, location_view, spec_view}
use Rattle.jd_syntax.specs.declared.spec.LocExpr.{LocExpr}
use Rattle.jd_syntax.specs.declared.spec.LocForm.TheVariants as forms
use Rattle.jd_syntax.specs.declared.spec.SpecExpr.{SpecExpr}
use Rattle.jd_term.specs.Makers.{GivesLoc}
use Rattle.jd_term.specs.Terms as terms
use Rattle.jd_term.specs.Terms.{PlainLoc}
use Rattle.jd_term.specs.declared.term.Loc.{Loc}
use Rattle.jd_bodies.specs.Declarations.{Declarations}
use Rattle.jd_bodies.specs.declared.value.ValueType.{ValueType}
use Rattle.jd_model.specs.Programs.{Program}
use Rattle.jd_jml_meaning.specs.Meaning.{When}
use Rattle.jd_jml_meaning.specs.Translation.{Spelling}
use Rattle.jd_specifications.specs.Resolution.{Entry}
use Rattle.jd_jml_formulas.specs.Meant.{location_meant, locations_meant, term_meant}

more : (ls : List LocExpr) (i : ℕ) (l : LocExpr) → i < length ls → l ≡ get_or ls i l → drop i ls ≡ l ∷ drop (i + 1) ls
more ls i l lt is = drop_more ls i l lt ∙ ap (λ y. y ∷ drop (i + 1) ls) (sym is)

pub some_there : (n : ℕ) (b : Bool) → b ≡ (n == 0) → b ≡ false → 0 < n
some_there zero b is some = absurd (false≢true (sym (sym is ∙ some)))
some_there (suc n) b is some = omega arith

module _ (p : Program) (d : Declarations) (class : ℕ) (value : ValueType) (sp : Spelling) (t : When) (es : List Entry) where
  abbrev pub One : LocExpr → PlainLoc
  One l = location_meant p d class value sp t es (location_view l)

  abbrev pub All : List LocExpr → PlainLoc
  All ls = locations_meant p d class value sp t es (map location_view ls)

  -- the elements between two indices
  pub range_told : (r : Result Loc NoMemory) (l : LocExpr) (a i j : SpecExpr) → l.form ≡ forms.Range a i j
      → GivesLoc r (terms.ElementRange (term_meant p d class value sp t es (spec_view a)) (term_meant p d class value sp t es (spec_view i)) (term_meant p d class value sp t es (spec_view j))) → GivesLoc r (One l)
  range_told r l a i j is made = subst (λ f. GivesLoc r (location_meant p d class value sp t es (location_form l.at f))) (sym is) made

  before_others : (l : LocExpr) (ls : List LocExpr) → 0 < length ls → All (l ∷ ls) ≡ terms.Union (One l) (All ls)
  before_others l [] some = absurd (omega (arith, some))
  before_others l (m ∷ ls) some = refl

  -- the last set
  pub last_one : (ls : List LocExpr) (left : ℕ) (l : LocExpr) (r : Result Loc NoMemory) → left + 1 ≡ length ls → l ≡ get_or ls left l → GivesLoc r (One l) → GivesLoc r (All (drop left ls))
  last_one ls left l r whole is made =
      subst (λ k. GivesLoc r (All k))
      (sym (more ls left l (omega (arith, whole)) is ∙ ap (λ k. l ∷ k) (drop_all (left + 1) ls (omega (arith, whole)))))
      made

  -- one before others
  pub one_more : (ls : List LocExpr) (left : ℕ) (l : LocExpr) (r : Result Loc NoMemory) → 0 < left → left < length ls → l ≡ get_or ls (left - 1) l
      → GivesLoc r (terms.Union (One l) (All (drop left ls))) → GivesLoc r (All (drop (left - 1) ls))
  one_more ls left l r some lt is made =
      let n : ℕ = left - 1 in
      let whole : n + 1 ≡ left = omega (arith, some) in
      let rest : 0 < length (drop left ls) = omega (arith, length-drop left ls, lt) in
      subst (λ k. GivesLoc r k)
      (sym (ap All (more ls n l (omega (arith, some, lt)) is ∙ ap (λ k. l ∷ drop k ls) whole) ∙ before_others l (drop left ls) rest))
      made
