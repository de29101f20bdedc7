-- References, fields and locations as lists of numbers, so that maps may be keyed by them.
use Rattle.std.specs.Prelude.{◌≡◌, ℕ, zero, suc, List, [], ◌∷◌, pos, negsuc}
use Rattle.std.proofs.Common.{refl}
use Rattle.jd_heap.specs.Codings.{Coding}
use Rattle.jd_heap.specs.References.{Reference, Null, Object, Array, Field, Named, Created, Index, Location}

abbrev pub reference_code : Reference → List ℕ
reference_code Null = 0 ∷ 0 ∷ 0 ∷ []
reference_code (Object c n) = 1 ∷ c ∷ n ∷ []
reference_code (Array l n) = 2 ∷ l ∷ n ∷ []

abbrev pub reference_of : ℕ → ℕ → ℕ → Reference
reference_of zero a b = Null
reference_of (suc zero) a b = Object a b
reference_of (suc (suc n)) a b = Array a b

abbrev pub field_of : ℕ → ℕ → Field
field_of zero a = Named a
field_of (suc zero) a = Created
field_of (suc (suc zero)) a = Index (pos a)
field_of (suc (suc (suc n))) a = Index (negsuc a)

abbrev pub reference_read : List ℕ → Reference
reference_read (t ∷ a ∷ b ∷ l) = reference_of t a b
reference_read l = Null

abbrev pub reference_coding : Coding Reference
reference_coding = record { code = reference_code; read = reference_read; reads = elim [ Null ↦ refl | Object c n ↦ refl | Array l n ↦ refl ] }

abbrev pub field_code : Field → List ℕ
field_code (Named f) = 0 ∷ f ∷ []
field_code Created = 1 ∷ 0 ∷ []
field_code (Index (pos n)) = 2 ∷ n ∷ []
field_code (Index (negsuc n)) = 3 ∷ n ∷ []

abbrev pub field_read : List ℕ → Field
field_read (t ∷ a ∷ l) = field_of t a
field_read l = Created

field_reads : (f : Field) → field_read (field_code f) ≡ f
field_reads (Named f) = refl
field_reads Created = refl
field_reads (Index (pos n)) = refl
field_reads (Index (negsuc n)) = refl

pub field_coding : Coding Field
field_coding = record { code = field_code; read = field_read; reads = field_reads }

abbrev pub three_then : Reference → List ℕ → List ℕ
three_then Null l = 0 ∷ 0 ∷ 0 ∷ l
three_then (Object c n) l = 1 ∷ c ∷ n ∷ l
three_then (Array k n) l = 2 ∷ k ∷ n ∷ l

abbrev pub location_read : List ℕ → Location
location_read (t ∷ a ∷ b ∷ l) = record { at = reference_of t a b; field = field_read l }
location_read l = record { at = Null; field = Created }

location_reads : (r : Reference) (f : Field) → location_read (three_then r (field_code f)) ≡ record { at = r; field = f }
location_reads Null f = λ i. record { at = Null; field = field_reads f i }
location_reads (Object c n) f = λ i. record { at = Object c n; field = field_reads f i }
location_reads (Array k n) f = λ i. record { at = Array k n; field = field_reads f i }

pub location_coding : Coding Location
location_coding = record { code = λ l. three_then l.at (field_code l.field); read = location_read; reads = λ l. location_reads l.at l.field }
