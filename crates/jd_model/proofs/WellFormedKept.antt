-- Heaps stay well-formed where an object is created or locations are renewed, and lengths are in range.
use Rattle.std.proofs.Common.{Bool, None, Option, Some, ap, cond, false, int_le, int_lt, negsuc, not, pos, refl, subst, sym, true, true≢false, ◌≡◌, ◌∙◌, ◌||◌, ◌&&◌}
use Rattle.std.proofs.lemmas.Bool.{and_parts}
use Rattle.jd_heap.proofs.Entries.{entry-anon, entry-create}
use Rattle.jd_heap.specs.Codings.{same, same_decides}
use Rattle.jd_heap.specs.Heaps.{BoolEntry, Entry, Heap, IntEntry, RefEntry, anon, bool_in, create, entry, is_created, is_length, is_renewed, length_of}
use Rattle.jd_heap.specs.ReferenceCodings.{location_coding, reference_coding}
use Rattle.jd_heap.specs.References.{Array, Created, Field, Index, Location, Named, Null, Object, Reference, location}
use Rattle.jd_model.proofs.Grows.{create_grows}
use Rattle.jd_model.specs.Bodies.{Grows}
use Rattle.jd_model.specs.Programs.{BooleanType, IntType, Program, ReferenceType, ValueType, is_instance}
use Rattle.jd_model.specs.WellFormedHeaps.{IsWellFormed, in_int, is_allowed, is_typed}

pub both_true : (a b : Bool) → a ≡ true → b ≡ true → a && b ≡ true
both_true true b p q = q
both_true false b p q = absurd (true≢false (sym p))

module _ (p : Program) (h k : Heap) (grows : Grows h k) where
  typed_grows : (t : ValueType) (e : Entry) → is_typed p h t e ≡ true → is_typed p k t e ≡ true
  typed_grows (ReferenceType c) (RefEntry r) q = let two = and_parts (is_instance p c r) (is_created h r) q in both_true (is_instance p c r) (is_created k r) two.0 (grows r two.1)
  typed_grows IntType (IntEntry z) q = q
  typed_grows IntType (BoolEntry z) q = q
  typed_grows IntType (RefEntry z) q = q
  typed_grows BooleanType (IntEntry z) q = q
  typed_grows BooleanType (BoolEntry z) q = q
  typed_grows BooleanType (RefEntry z) q = q
  typed_grows (ReferenceType c) (IntEntry z) q = q
  typed_grows (ReferenceType c) (BoolEntry z) q = q

  pub allowed_grows : (o : Reference) (f : Field) (e : Entry) → is_allowed p h o f e ≡ true → is_allowed p k o f e ≡ true
  allowed_grows o Created e q = refl
  allowed_grows Null (Named f) e q = q
  allowed_grows (Object c n) (Named f) e q = let two = and_parts (p.has_field c f) (is_typed p h (p.field_type f) e) q in both_true (p.has_field c f) (is_typed p k (p.field_type f) e) two.0 (typed_grows (p.field_type f) e two.1)
  allowed_grows (Array l n) (Named f) e q = q
  allowed_grows Null (Index z) e q = q
  allowed_grows (Object c n) (Index z) e q = q
  allowed_grows (Array l n) (Index z) e q = let two = and_parts (int_le (pos 0) z && int_lt z (length_of (Array l n))) (is_typed p h IntType e) q in both_true (int_le (pos 0) z && int_lt z (length_of (Array l n))) (is_typed p k IntType e) two.0 (typed_grows IntType e two.1)

none_some : (e : Entry) → ¬ (None ≡ Some e)
none_some e q = true≢false (ap (λ (o : Option Entry). elim o [ None ↦ true | Some x ↦ false ]) q)

pub create_wf : (p : Program) (h : Heap) (o : Reference) → IsWellFormed p h → IsWellFormed p (create h o)
create_wf p h o wf l e q = by (same location_coding l (location o Created)) (same reference_coding l.at o) refl (sym (entry-create h o l) ∙ q)
  where
    by : (b c : Bool) → same location_coding l (location o Created) ≡ b → cond b (Some (BoolEntry true)) (cond c None (entry h l)) ≡ Some e → is_allowed p (create h o) l.at l.field e ≡ true
    by true c s r = subst (λ m. is_allowed p (create h o) m.at m.field e ≡ true) (sym ((same_decides location_coding l (location o Created)).0 s)) refl
    by false true s r = absurd (none_some e r)
    by false false s r = allowed_grows p h (create h o) (create_grows h o) l.at l.field e (wf l e r)

-- the renewed heap has created what either heap has
module _ (h g : Heap) (L : Location → Bool) where
  at_created : (r : Reference) (x c : Bool) → L (location r Created) ≡ x → is_created h r ≡ c → is_created (anon h L g) r ≡ cond (not c) (is_created g r) (is_created h r)
  at_created r x c p q = ap bool_in (entry-anon h L g (location r Created)) ∙ (λ e. bool_in (cond ((p e && false) || not (q e)) (entry g (location r Created)) (entry h (location r Created)))) ∙ by x c
    where
      by : (x c : Bool) → bool_in (cond ((x && false) || not c) (entry g (location r Created)) (entry h (location r Created))) ≡ cond (not c) (is_created g r) (is_created h r)
      by true true = refl
      by true false = refl
      by false true = refl
      by false false = refl

  pub first_grows : Grows h (anon h L g)
  first_grows r e = at_created r (L (location r Created)) true refl e ∙ e

  pub second_grows : Grows g (anon h L g)
  second_grows r e = by (is_created h r) refl
    where
      by : (c : Bool) → is_created h r ≡ c → is_created (anon h L g) r ≡ true
      by true q = first_grows r q
      by false q = at_created r (L (location r Created)) false refl q ∙ e

pub anon_wf : (p : Program) (h g : Heap) (L : Location → Bool) → IsWellFormed p h → IsWellFormed p g → IsWellFormed p (anon h L g)
anon_wf p h g L wf wg l e q = by (is_renewed h L l) (sym (entry-anon h L g l) ∙ q)
  where
    by : (b : Bool) → cond b (entry g l) (entry h l) ≡ Some e → is_allowed p (anon h L g) l.at l.field e ≡ true
    by true r = allowed_grows p g (anon h L g) (second_grows h g L) l.at l.field e (wg l e r)
    by false r = allowed_grows p h (anon h L g) (first_grows h g L) l.at l.field e (wf l e r)

-- each length is in range
pub length_range : (r : Reference) → (int_le (pos 0) (length_of r) ≡ true) × (in_int (length_of r) ≡ true)
length_range Null = (refl, refl)
length_range (Object c n) = (refl, refl)
length_range (Array l n) = by (is_length (pos l)) refl
  where
    by : (b : Bool) → is_length (pos l) ≡ b → (int_le (pos 0) (cond b (pos l) (pos 0)) ≡ true) × (in_int (cond b (pos l) (pos 0)) ≡ true)
    by false e = (refl, refl)
    by true e = let two = and_parts (int_le (pos 0) (pos l)) (int_le (pos l) (pos 2147483647)) e in (two.0, both_true (int_le (negsuc 2147483647) (pos l)) (int_le (pos l) (pos 2147483647)) refl two.1)
