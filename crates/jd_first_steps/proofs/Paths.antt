-- What a path reaches in a part: below a term stands no formula, and below a sorted formula no other than sorted ones.
use Rattle.std.proofs.Common.{◌≡◌, ℕ, zero, suc, List, [], ◌∷◌, ◌++◌, map, Option, Some, None}
use Rattle.std.specs.Prelude.{option_and_then, slice_get}
use Rattle.std.specs.Option.{IfSome}
use Rattle.jd_term.specs.Terms.{PlainTerm, Arithmetic, Negation, Wrap, Length, Select, Sum, Store, Create, Anon, ElementField, PlainLoc, Single, ObjectFields, ArrayElements, ElementRange, Union}
use Rattle.jd_term.specs.Formulas.{Pairs, PlainFormula, Not, And, Or, Implies, Iff, Equal, Less, LessOrEqual, Forall, Exists, Updated, Modal, InLocations, InInt, WellFormed, Invariant, IsInstance, IsExactInstance}
use Rattle.jd_model.specs.Places.{Part, FormulaPart, TermPart, LocPart, term_children, loc_children, formula_children, children, part_at}
use Rattle.jd_update_truth.specs.SortedFormulas.{SortedFormula}
use Rattle.jd_first_steps.proofs.Options.{no_some, if_found}

module _ (Q : Part → Type 0) where
  abbrev AllParts : List Part → Type 0
  AllParts [] = Unit {0}
  AllParts (p ∷ ps) = Q p × AllParts ps

  one_part : (ps : List Part) (k : ℕ) → AllParts ps → IfSome (slice_get ps k) Q
  one_part [] k h = tt
  one_part (p ∷ ps) zero h = h.0
  one_part (p ∷ ps) (suc k) h = one_part ps k h.1

  -- what passes to the children is so of all that a path reaches
  reached : ((p : Part) → Q p → AllParts (children p)) → (path : List ℕ) (p : Part) → Q p → IfSome (part_at path p) Q
  reached passed [] p h = h
  reached passed (zero ∷ ks) p h = tt
  reached passed (suc k ∷ ks) p h = by (reached passed ks) (slice_get (children p) k) (one_part (children p) k (passed p h))
    where
      by : ((c : Part) → Q c → IfSome (part_at ks c) Q) → (o : Option Part) → IfSome o Q → IfSome (option_and_then (part_at ks) o) Q
      by more None n = tt
      by more (Some c) n = more c n

-- ---- no formula below a term or a location set

abbrev IsNoFormula : Part → Type 0
IsNoFormula (FormulaPart a) = ⊥
IsNoFormula (TermPart t) = Unit {0}
IsNoFormula (LocPart l) = Unit {0}

children_of_term : (t : PlainTerm) → AllParts IsNoFormula (term_children t)
children_of_term (Arithmetic op t u) = (tt, (tt, tt))
children_of_term (Negation t) = (tt, tt)
children_of_term (Wrap t) = (tt, tt)
children_of_term (Length o) = (tt, tt)
children_of_term (Select s h o f) = (tt, (tt, (tt, tt)))
children_of_term (Sum t u v) = (tt, (tt, (tt, tt)))
children_of_term (Store h o f t) = (tt, (tt, (tt, (tt, tt))))
children_of_term (Create h o) = (tt, (tt, tt))
children_of_term (Anon h l g) = (tt, (tt, (tt, tt)))
children_of_term (ElementField t) = (tt, tt)
children_of_term t = tt

children_of_locations : (l : PlainLoc) → AllParts IsNoFormula (loc_children l)
children_of_locations (Single o f) = (tt, (tt, tt))
children_of_locations (ObjectFields o) = (tt, tt)
children_of_locations (ArrayElements o) = (tt, tt)
children_of_locations (ElementRange o t u) = (tt, (tt, (tt, tt)))
children_of_locations (Union l m) = (tt, (tt, tt))
children_of_locations l = tt

children_are_none : (p : Part) → IsNoFormula p → AllParts IsNoFormula (children p)
children_are_none (FormulaPart a) h = absurd h
children_are_none (TermPart t) h = children_of_term t
children_are_none (LocPart l) h = children_of_locations l

pub no_formula_below : (path : List ℕ) (t : PlainTerm) (a : PlainFormula) → part_at path (TermPart t) ≡ Some (FormulaPart a) → ⊥
no_formula_below path t a e = if_found IsNoFormula (part_at path (TermPart t)) (FormulaPart a) e (reached IsNoFormula children_are_none path (TermPart t) tt)

-- a path to a formula below an update goes through its body
pub below_update : (u : Pairs) (k : ℕ) (ks : List ℕ) (a find : PlainFormula) → option_and_then (part_at ks) (slice_get (map (λ p. TermPart p.1) u ++ (FormulaPart a ∷ [])) k) ≡ Some (FormulaPart find) → part_at ks (FormulaPart a) ≡ Some (FormulaPart find)
below_update [] zero ks a find e = e
below_update [] (suc k) ks a find e = absurd (no_some e)
below_update (p ∷ u) zero ks a find e = absurd (no_formula_below ks p.1 find e)
below_update (p ∷ u) (suc k) ks a find e = below_update u k ks a find e

-- ---- sorted formulas below a sorted one

abbrev pub SortedPart : Part → Type 0
SortedPart (FormulaPart a) = SortedFormula a
SortedPart (TermPart t) = Unit {0}
SortedPart (LocPart l) = Unit {0}

sorted_or_none : (ps : List Part) → AllParts IsNoFormula ps → AllParts SortedPart ps
sorted_or_none [] h = tt
sorted_or_none (FormulaPart a ∷ ps) h = absurd h.0
sorted_or_none (TermPart t ∷ ps) h = (tt, sorted_or_none ps h.1)
sorted_or_none (LocPart l ∷ ps) h = (tt, sorted_or_none ps h.1)

after_pairs : (u : Pairs) (a : PlainFormula) → SortedFormula a → AllParts SortedPart (map (λ p. TermPart p.1) u ++ (FormulaPart a ∷ []))
after_pairs [] a w = (w, tt)
after_pairs (p ∷ u) a w = (tt, after_pairs u a w)

children_of_formula : (a : PlainFormula) → SortedFormula a → AllParts SortedPart (formula_children a)
children_of_formula (Not a) w = (w, tt)
children_of_formula (And a c) w = (w.0, (w.1, tt))
children_of_formula (Or a c) w = (w.0, (w.1, tt))
children_of_formula (Implies a c) w = (w.0, (w.1, tt))
children_of_formula (Iff a c) w = (w.0, (w.1, tt))
children_of_formula (Equal t u) w = (tt, (tt, tt))
children_of_formula (Less t u) w = (tt, (tt, tt))
children_of_formula (LessOrEqual t u) w = (tt, (tt, tt))
children_of_formula (Forall k a) w = (w, tt)
children_of_formula (Exists k a) w = (w, tt)
children_of_formula (Updated u a) w = after_pairs u a w.1
children_of_formula (Modal m c a) w = (w.1, tt)
children_of_formula (InLocations o f l) w = (tt, (tt, (tt, tt)))
children_of_formula (InInt t) w = (tt, tt)
children_of_formula (WellFormed h) w = (tt, tt)
children_of_formula (Invariant h o) w = (tt, (tt, tt))
children_of_formula (IsInstance k o) w = (tt, tt)
children_of_formula (IsExactInstance k o) w = (tt, tt)
children_of_formula a w = tt

children_are_sorted : (p : Part) → SortedPart p → AllParts SortedPart (children p)
children_are_sorted (FormulaPart a) w = children_of_formula a w
children_are_sorted (TermPart t) w = sorted_or_none (term_children t) (children_of_term t)
children_are_sorted (LocPart l) w = sorted_or_none (loc_children l) (children_of_locations l)

pub sorted_below : (path : List ℕ) (a : PlainFormula) → SortedFormula a → IfSome (part_at path (FormulaPart a)) SortedPart
sorted_below path a w = reached SortedPart children_are_sorted path (FormulaPart a) w
