-- A location is in the set of a clause exactly where the clause names it.
use Rattle.std.proofs.Common.{◌≡◌, ◌↔◌, Bool, true, false, ℤ, ◌&&◌, ◌||◌, List, [], ◌∷◌, refl, sym, ap, true≢false}
use Rattle.std.specs.Prelude.{int_le}
use Rattle.jd_heap.specs.Codings.{same, same_decides}
use Rattle.jd_heap.specs.References.{Reference, Field, Named, Created, Index, location}
use Rattle.jd_heap.specs.ReferenceCodings.{reference_coding, location_coding}
use Rattle.jd_heap.specs.Values.{Value, as_ref}
use Rattle.jd_model.specs.States.{State}
use Rattle.jd_model.specs.TermValues.{value, within, in_range, is_index}
use Rattle.jd_model.specs.Truth.{Setting, EitherOf}
use Rattle.jd_jml_meaning.specs.Resolved.{JmlExpr, JmlLocation, Nothing, Everything, FieldLocation, AllFields, Element, Elements, AllElements}
use Rattle.jd_jml_meaning.specs.Meaning.{When, World, meant, Among, AmongAll, IndexIn, IsIndex}
use Rattle.jd_jml_meaning.specs.Translation.{Spelling, term, location as location_of, union_of, locations}
use Rattle.jd_jml_meaning.specs.Standing.{Stands}
use Rattle.jd_jml_meaning.proofs.Spelled.{iff_same, and_iff, either_iff, iff_then, path_iff, spelled, int_at}

pub both_true : (a b : Bool) → (a && b ≡ true) ↔ ((a ≡ true) × (b ≡ true))
both_true true b = (λ e. (refl, e), λ p. p.1)
both_true false b = (λ e. absurd (true≢false (sym e)), λ p. absurd (true≢false (sym p.0)))

pub either_true : (a b : Bool) → (a || b ≡ true) ↔ EitherOf (a ≡ true) (b ≡ true)
either_true true b = (λ e n. n.0 refl, λ h. refl)
either_true false true = (λ e n. n.1 refl, λ h. refl)
either_true false false = (λ e n. n.1 e, λ h. absurd (h (λ e. true≢false (sym e), λ e. true≢false (sym e))))

pub alone_true : (a : Bool) → (a ≡ true) ↔ EitherOf (a ≡ true) ⊥
alone_true true = (λ e n. n.0 refl, λ h. refl)
alone_true false = (λ e n. n.0 e, λ h. absurd (h (λ e. true≢false (sym e), λ x. x)))

ref_true : (o r : Reference) → (same reference_coding o r ≡ true) ↔ (o ≡ r)
ref_true o r = ((same_decides reference_coding o r).0, (same_decides reference_coding o r).1)

location_true : (o r : Reference) (f q : Field) → (same location_coding (location o f) (location r q) ≡ true) ↔ ((o ≡ r) × (f ≡ q))
location_true o r f q = (
  λ e. (ap (λ l. l.at) ((same_decides location_coding (location o f) (location r q)).0 e), ap (λ l. l.field) ((same_decides location_coding (location o f) (location r q)).0 e)),
  λ p. (same_decides location_coding (location o f) (location r q)).1 (λ j. location (p.0 j) (p.1 j)),
)

range_true : (x y : ℤ) (f : Field) → (in_range x y f ≡ true) ↔ IndexIn x y f
range_true x y (Named f) = (λ e. true≢false (sym e), λ p. absurd p)
range_true x y Created = (λ e. true≢false (sym e), λ p. absurd p)
range_true x y (Index k) = both_true (int_le x k) (int_le k y)

index_true : (f : Field) → (is_index f ≡ true) ↔ IsIndex f
index_true (Named f) = (λ e. true≢false (sym e), λ p. absurd p)
index_true Created = (λ e. true≢false (sym e), λ p. absurd p)
index_true (Index k) = (λ e. tt, λ p. refl)

module _ (g : Setting) (sp : Spelling) (i s : State) (w : World) (st : Stands sp i s w) where
  ref_at : (t : When) (b : List Value) (e : JmlExpr) (o : Reference) → (same reference_coding o (as_ref (value i s b (term g.program sp t e))) ≡ true) ↔ (o ≡ as_ref (meant g.program w t b e))
  ref_at t b e o = iff_then (ref_true _ _) (path_iff refl (ap as_ref (spelled g sp i s w st t b e)))

  pub located : (t : When) (b : List Value) (l : JmlLocation) (o : Reference) (f : Field) → (within i s b (location_of g.program sp t l) (location o f) ≡ true) ↔ Among g.program w t b l o f
  located t b Nothing o f = (λ e. true≢false (sym e), λ p. absurd p)
  located t b Everything o f = (λ e. tt, λ p. refl)
  located t b (FieldLocation e q) o f = iff_then (location_true _ _ _ _) (and_iff (path_iff refl (ap as_ref (spelled g sp i s w st t b e))) iff_same)
  located t b (AllFields e) o f = ref_at t b e o
  located t b (Element a e) o f = iff_then (location_true _ _ _ _) (and_iff (path_iff refl (ap as_ref (spelled g sp i s w st t b a))) (path_iff refl (ap Index (int_at g sp i s w st t b e))))
  located t b (Elements a x y) o f = iff_then (both_true _ _) (and_iff (ref_at t b a o) (iff_then (path_iff (λ j. in_range (int_at g sp i s w st t b x j) (int_at g sp i s w st t b y j) f) refl) (range_true _ _ f)))
  located t b (AllElements a) o f = iff_then (both_true _ _) (and_iff (ref_at t b a o) (index_true f))

  located_from : (t : When) (b : List Value) (l : JmlLocation) (ls : List JmlLocation) (o : Reference) (f : Field) → (within i s b (union_of g.program sp t l ls) (location o f) ≡ true) ↔ AmongAll g.program w t b (l ∷ ls) o f
  located_from t b l [] o f = iff_then (alone_true _) (either_iff (located t b l o f) iff_same)
  located_from t b l (m ∷ ls) o f = iff_then (either_true _ _) (either_iff (located t b l o f) (located_from t b m ls o f))

  pub located_all : (t : When) (b : List Value) (ls : List JmlLocation) (o : Reference) (f : Field) → (within i s b (locations g.program sp t ls) (location o f) ≡ true) ↔ AmongAll g.program w t b ls o f
  located_all t b [] o f = (λ e. true≢false (sym e), λ p. absurd p)
  located_all t b (l ∷ ls) o f = located_from t b l ls o f
