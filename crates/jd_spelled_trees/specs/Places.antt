-- Sequents of spelled formulas, and what is spelled at their places.
use Rattle.std.specs.Prelude.{List, [], ◌∷◌, ◌≡◌}
use Rattle.jd_base.specs.declared.sort.Sort.{Sort}
use Rattle.jd_model.specs.Places.{put_at}
use Rattle.jd_model.specs.Sequents.{PlainPlace, PlainSequent}
use Rattle.jd_spelled_trees.specs.Spelled.{AtSort, IsSpelled, NarrowFormula, NarrowTerm, SpelledFormula, SpelledTerm}
use Rattle.jd_taclet_steps.specs.PutTerms.{put_term_at}
use Rattle.jd_term.specs.Formulas.{PlainFormula}
use Rattle.jd_term.specs.Terms.{PlainTerm, sort_of_term}
use Rattle.jd_tgrammar.specs.NameTables.{NameTable}

module _ (names : NameTable) where
  -- formulas without free indices, each spelled part by part
  abbrev pub SpelledFormulas : List PlainFormula → Type 0
  SpelledFormulas [] = Unit {0}
  SpelledFormulas (a ∷ l) = SpelledFormula names [] a × SpelledFormulas l

  abbrev pub SpelledSequent : PlainSequent → Type 0
  SpelledSequent s = SpelledFormulas s.left × SpelledFormulas s.right

  -- the grammar spells each formula: the sequents that rules take
  abbrev pub AreSpelled : List PlainFormula → Type 0
  AreSpelled [] = Unit {0}
  AreSpelled (a ∷ l) = IsSpelled names a × AreSpelled l

  abbrev pub IsSpelledSequent : PlainSequent → Type 0
  IsSpelledSequent s = AreSpelled s.left × AreSpelled s.right

abbrev pub NarrowFormulas : List PlainFormula → Type 0
NarrowFormulas [] = Unit {0}
NarrowFormulas (a ∷ l) = NarrowFormula a × NarrowFormulas l

abbrev pub NarrowSequent : PlainSequent → Type 0
NarrowSequent s = NarrowFormulas s.left × NarrowFormulas s.right

-- the formula at the place is spelled under the binders around it, which are none at a whole formula, and another that is spelled under
-- them leaves the sequent spelled
pub record IsSpelledAt (names : NameTable) (s : PlainSequent) (q : PlainPlace) (a : PlainFormula) : Type 0 where
  pub binders : List Sort
  pub spelled : SpelledFormula names binders a
  pub again : (c : PlainFormula) → SpelledFormula names binders c → SpelledSequent names (put_at s q c)
  pub whole : q.path ≡ [] → binders ≡ []
  pub narrow : NarrowSequent s → NarrowFormula a

-- and so a term, with another of its sort
pub record IsTermSpelledAt (names : NameTable) (s : PlainSequent) (q : PlainPlace) (t : PlainTerm) : Type 0 where
  pub binders : List Sort
  pub spelled : SpelledTerm names binders t
  pub again : (u : PlainTerm) → AtSort (sort_of_term t) u (SpelledTerm names binders u) → SpelledSequent names (put_term_at s q u)
  pub narrow : NarrowSequent s → NarrowTerm t
