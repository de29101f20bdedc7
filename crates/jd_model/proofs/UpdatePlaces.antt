-- A place below updates, taken apart: what stands before and behind the formula, and the updates above it.
use Rattle.std.proofs.Common.{eqb→eq, map, option_map, ◌≡◌, ◌==◌, if◌then◌else◌, ℕ, zero, suc, Bool, true, false, List, [], ◌∷◌, ◌++◌, length, Option, Some, None, refl, ap, ◌∙◌}
use Rattle.std.specs.Prelude.{option_and_then, slice_get}
use Rattle.std.specs.Bool.{passes}
use Rattle.jd_term.specs.Formulas.{Pairs, PlainFormula, Updated}
use Rattle.jd_model.specs.Sequents.{PlainSequent, PlainPlace}
use Rattle.jd_model.specs.Places.{FormulaPart, TermPart, formula_children, part_at, on_side, numbered, put_formula, put_in, put_side, put_at}
use Rattle.jd_model.specs.UpdatePlaces.{below_updates, IsUpdatePlace, UpdatePlacesArePlaces, through, sequent_with}

no_some : {A : Type 0} {x : A} → None ≡ Some x → ⊥
no_some h = cc

some_same : {A : Type 0} {x y : A} → Some x ≡ Some y → x ≡ y
some_same h = cc

-- the updates from a formula down to the one at the end of a path
record Below (path : List ℕ) (a find : PlainFormula) : Type 0 where
  updates : List Pairs
  is : a ≡ through updates find
  put : (b : PlainFormula) → put_formula path b a ≡ through updates b

below : (path : List ℕ) (a find : PlainFormula) → below_updates path a ≡ Some find → Below path a find
below [] a find e = record { updates = []; is = some_same e; put = λ b. refl }
below (k ∷ ks) (Updated u a) find e = by (below ks a find) (k == suc (length u)) e
  where
    by : (below_updates ks a ≡ Some find → Below ks a find) → (t : Bool) → (if t then below_updates ks a else None) ≡ Some find → Below (k ∷ ks) (Updated u a) find
    by more true h = let r = more h in record { updates = u ∷ r.updates; is = ap (Updated u) r.is; put = λ b. ap (Updated u) (r.put b) }
    by more false h = absurd (no_some h)
below (k ∷ ks) a find e = absurd (no_some e)

-- the formulas around the one of a number
record Split (l : List PlainFormula) (k : ℕ) (a : PlainFormula) : Type 0 where
  front : List PlainFormula
  back : List PlainFormula
  is : l ≡ front ++ (a ∷ back)
  put : (path : List ℕ) (b : PlainFormula) → put_in l k path b ≡ front ++ (put_formula path b a ∷ back)

split : (l : List PlainFormula) (k : ℕ) (a : PlainFormula) → numbered l k ≡ Some a → Split l k a
split l zero a e = absurd (no_some e)
split [] (suc k) a e = absurd (no_some e)
split (c ∷ l) (suc zero) a e = let same : c ≡ a = some_same e in
    record { front = []; back = l; is = ap (λ x. x ∷ l) same; put = λ path b. ap (λ x. put_formula path b x ∷ l) same }
split (c ∷ l) (suc (suc k)) a e = let r = split l (suc k) a e in
    record { front = c ∷ r.front; back = r.back; is = ap (λ x. c ∷ x) r.is; put = λ path b. ap (λ x. c ∷ x) (r.put path b) }

-- a sequent around a place below updates
pub record Around (s : PlainSequent) (p : PlainPlace) (find : PlainFormula) : Type 0 where
  pub front : List PlainFormula
  pub back : List PlainFormula
  pub updates : List Pairs
  pub is : s ≡ sequent_with s.left front back updates find
  pub put : (b : PlainFormula) → put_at s p b ≡ sequent_with s.left front back updates b

pub around_place : (s : PlainSequent) (p : PlainPlace) (find : PlainFormula) → IsUpdatePlace s p find → Around s p find
around_place s p find at = by (numbered s.right p.index) refl at.found
  where
    by : (o : Option PlainFormula) → numbered s.right p.index ≡ o → option_and_then (below_updates p.path) o ≡ Some find → Around s p find
    by None n e = absurd (no_some e)
    by (Some a) n e =
        let x = split s.right p.index a n in
        let y = below p.path a find e in
        record {
          front = x.front;
          back = x.back;
          updates = y.updates;
          is = λ i. record { left = s.left; right = (x.is ∙ ap (λ f. x.front ++ (f ∷ x.back)) y.is) i };
          put = λ b. ap (λ side. put_side side s p.index p.path b) at.right ∙ (λ i. record { left = s.left; right = (x.put p.path b ∙ ap (λ f. x.front ++ (f ∷ x.back)) (y.put b)) i });
        }

-- ---- what is reached through updates is what stands at the place
last_at : (u : Pairs) (a : PlainFormula) → slice_get (map (λ p. TermPart p.1) u ++ (FormulaPart a ∷ [])) (length u) ≡ Some (FormulaPart a)
last_at [] a = refl
last_at (e ∷ u) a = last_at u a

reached : (path : List ℕ) (a find : PlainFormula) → below_updates path a ≡ Some find → part_at path (FormulaPart a) ≡ Some (FormulaPart find)
reached [] a find e = ap (option_map FormulaPart) e
reached (k ∷ ks) (Updated u a) find e = by (reached ks a find) (k == suc (length u)) refl e
  where
    by : (below_updates ks a ≡ Some find → part_at ks (FormulaPart a) ≡ Some (FormulaPart find)) → (t : Bool) → (k == suc (length u)) ≡ t → (if t then below_updates ks a else None) ≡ Some find → part_at (k ∷ ks) (FormulaPart (Updated u a)) ≡ Some (FormulaPart find)
    by more true q h = ap (λ j. option_and_then (part_at ks) (numbered (formula_children (Updated u a)) j)) (eqb→eq k (suc (length u)) (passes (k == suc (length u)) q)) ∙ ap (option_and_then (part_at ks)) (last_at u a) ∙ more h
    by more false q h = absurd (no_some h)
reached (k ∷ ks) a find e = absurd (no_some e)

pub update_places_are_places : UpdatePlacesArePlaces
update_places_are_places s p find at = ap (λ side. option_and_then (λ a. part_at p.path (FormulaPart a)) (numbered (on_side s side) p.index)) at.right ∙ by (numbered s.right p.index) at.found
  where
    by : (o : Option PlainFormula) → option_and_then (below_updates p.path) o ≡ Some find → option_and_then (λ a. part_at p.path (FormulaPart a)) o ≡ Some (FormulaPart find)
    by None e = absurd (no_some e)
    by (Some a) e = reached p.path a find e
