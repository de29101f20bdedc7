-- What stands at a place of a spelled sequent is spelled, and what is put there keeps it so.
use Rattle.std.proofs.Common.{List, Some, [], refl, subst, sym, ap, ◌++◌, ◌∙◌, ◌∷◌, ◌≡◌, ℕ}
use Rattle.jd_model.specs.Closed.{AllClosed}
use Rattle.jd_model.specs.Holes.{Around, fill_atom, plug}
use Rattle.jd_model.specs.Places.{FormulaPart, TermPart, at_place, put_at}
use Rattle.jd_model.specs.Sequents.{PlainPlace, PlainSequent}
use Rattle.jd_spelled_trees.proofs.FromKnown.{narrow_formula, spelled_formula}
use Rattle.jd_spelled_trees.proofs.Indices.{below_formula}
use Rattle.jd_spelled_trees.proofs.Surroundings.{again, again_atom, at_whole, narrow_in, narrow_in_atom, there, there_atom}
use Rattle.jd_spelled_trees.specs.Places.{AreSpelled, IsSpelledAt, IsSpelledSequent, IsTermSpelledAt, NarrowFormulas, NarrowSequent, SpelledFormulas, SpelledSequent}
use Rattle.jd_spelled_trees.specs.Spelled.{NarrowFormula, SpelledFormula}
use Rattle.jd_spelled_trees.specs.Surroundings.{inside, inside_atom}
use Rattle.jd_taclet_steps.specs.Places.{PlacesAreSurrounded, path_of, place_of}
use Rattle.jd_taclet_steps.specs.PutTerms.{TermsAreReplaced, put_term_at}
use Rattle.jd_taclet_steps.specs.Steps.{AtLeft, AtRight, IsClosed, Spot, whole}
use Rattle.jd_taclet_steps.specs.TermPlaces.{TermPlacesAreSurrounded}
use Rattle.jd_term.specs.Formulas.{PlainFormula}
use Rattle.jd_term.specs.Terms.{PlainTerm}
use Rattle.jd_tgrammar.specs.NameTables.{NameTable}

-- ---- lists of formulas

module _ (names : NameTable) where
  all_spelled : (l : List PlainFormula) → AreSpelled names l → SpelledFormulas names l
  all_spelled [] h = tt
  all_spelled (a ∷ l) h = (spelled_formula names [] a h.0.0 h.0.1, all_spelled l h.1)

  all_narrow : (l : List PlainFormula) → AreSpelled names l → NarrowFormulas l
  all_narrow [] h = tt
  all_narrow (a ∷ l) h = (narrow_formula names [] a h.0.0, all_narrow l h.1)

  all_closed : (l : List PlainFormula) → SpelledFormulas names l → AllClosed l
  all_closed [] h = tt
  all_closed (a ∷ l) h = (below_formula names [] a h.0, all_closed l h.1)

  pub taken_is_spelled : (s : PlainSequent) → IsSpelledSequent names s → SpelledSequent names s
  taken_is_spelled s h = (all_spelled s.left h.0, all_spelled s.right h.1)

  pub taken_is_narrow : (s : PlainSequent) → IsSpelledSequent names s → NarrowSequent s
  taken_is_narrow s h = (all_narrow s.left h.0, all_narrow s.right h.1)

  pub taken_is_closed : (s : PlainSequent) → IsSpelledSequent names s → IsClosed s
  taken_is_closed s h = let k = taken_is_spelled s h in (all_closed s.left k.0, all_closed s.right k.1)

  -- the formula between others, and another there
  spelled_between : (f : List PlainFormula) (a : PlainFormula) (b : List PlainFormula) → SpelledFormulas names (f ++ (a ∷ b)) → SpelledFormula names [] a
  spelled_between [] a b h = h.0
  spelled_between (x ∷ f) a b h = spelled_between f a b h.1

  another_between : (f : List PlainFormula) (a c : PlainFormula) (b : List PlainFormula) → SpelledFormulas names (f ++ (a ∷ b)) → SpelledFormula names [] c → SpelledFormulas names (f ++ (c ∷ b))
  another_between [] a c b h k = (k, h.1)
  another_between (x ∷ f) a c b h k = (h.0, another_between f a c b h.1 k)

  spelled_at : (w : Spot) (a : PlainFormula) → SpelledSequent names (whole w a) → SpelledFormula names [] a
  spelled_at (AtLeft f b r) a h = spelled_between f a b h.0
  spelled_at (AtRight l f b) a h = spelled_between f a b h.1

  another_at : (w : Spot) (a c : PlainFormula) → SpelledSequent names (whole w a) → SpelledFormula names [] c → SpelledSequent names (whole w c)
  another_at (AtLeft f b r) a c h k = (another_between f a c b h.0 k, h.1)
  another_at (AtRight l f b) a c h k = (h.0, another_between f a c b h.1 k)

narrow_between : (f : List PlainFormula) (a : PlainFormula) (b : List PlainFormula) → NarrowFormulas (f ++ (a ∷ b)) → NarrowFormula a
narrow_between [] a b h = h.0
narrow_between (x ∷ f) a b h = narrow_between f a b h.1

narrow_at : (w : Spot) (a : PlainFormula) → NarrowSequent (whole w a) → NarrowFormula a
narrow_at (AtLeft f b r) a h = narrow_between f a b h.0
narrow_at (AtRight l f b) a h = narrow_between f a b h.1

path_there : (w : Spot) (path : List ℕ) → (place_of w path).path ≡ path
path_there (AtLeft f b r) path = refl
path_there (AtRight l f b) path = refl

-- ---- places

module _ (surrounded : PlacesAreSurrounded) (terms : TermPlacesAreSurrounded) (replaced : TermsAreReplaced) (names : NameTable) where
  pub formula_at : (s : PlainSequent) (q : PlainPlace) (a : PlainFormula) → SpelledSequent names s → at_place s q ≡ Some (FormulaPart a) → IsSpelledAt names s q a
  formula_at s q a h e =
      let b = surrounded.each s q a e in
      let here = spelled_at names b.spot (plug b.around a) (subst (SpelledSequent names) b.sequent h) in
      record {
        binders = inside b.around [];
        spelled = there names [] b.around a here;
        again = λ c k. subst (SpelledSequent names) (sym (put b.spot b.around c b.sequent b.place)) (another_at names b.spot (plug b.around a) (plug b.around c) (subst (SpelledSequent names) b.sequent h) (again names [] b.around a c here k));
        whole = λ is. at_whole b.around [] (sym (ap (λ (z : PlainPlace). z.path) b.place ∙ path_there b.spot (path_of b.around)) ∙ is);
        narrow = λ n. narrow_in b.around a (narrow_at b.spot (plug b.around a) (subst NarrowSequent b.sequent n));
      }
    where
      put : (w : Spot) (o : Around) (c : PlainFormula) → s ≡ whole w (plug o a) → q ≡ place_of w (path_of o) → put_at s q c ≡ whole w (plug o c)
      put w o c is at = (λ i. put_at (is i) (at i) c) ∙ surrounded.put w o a c

  pub term_at : (s : PlainSequent) (q : PlainPlace) (t : PlainTerm) → SpelledSequent names s → at_place s q ≡ Some (TermPart t) → IsTermSpelledAt names s q t
  term_at s q t h e =
      let b = terms.each s q t e in
      let here = spelled_at names b.spot (plug b.around (fill_atom b.atom t)) (subst (SpelledSequent names) b.sequent h) in
      let atom = there names [] b.around (fill_atom b.atom t) here in
      record {
        binders = inside_atom b.atom (inside b.around []);
        spelled = there_atom names (inside b.around []) b.atom t atom;
        again = λ u k. subst (SpelledSequent names) (sym ((λ i. put_term_at (b.sequent i) (b.place i) u) ∙ replaced b.spot b.around b.atom t u))
            (another_at names b.spot (plug b.around (fill_atom b.atom t)) (plug b.around (fill_atom b.atom u)) (subst (SpelledSequent names) b.sequent h)
            (again names [] b.around (fill_atom b.atom t) (fill_atom b.atom u) here (again_atom names (inside b.around []) b.atom t u atom k)));
        narrow = λ n. narrow_in_atom b.atom t (narrow_in b.around (fill_atom b.atom t) (narrow_at b.spot (plug b.around (fill_atom b.atom t)) (subst NarrowSequent b.sequent n)));
      }
