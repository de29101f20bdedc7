-- Well-formed heaps: each entry but `created` is one of the object's class, or of the array's indices, with a value of the declared type.
use Rattle.std.specs.Prelude.{◌≡◌, Bool, true, false, ◌&&◌, ℤ, pos, negsuc, int_lt, int_le, Some}
use Rattle.jd_heap.specs.References.{Reference, Object, Array, Field, Named, Created, Index, Location}
use Rattle.jd_heap.specs.Heaps.{Heap, Entry, IntEntry, BoolEntry, RefEntry, entry, is_created, length_of}
use Rattle.jd_model.specs.Programs.{Program, ValueType, IntType, BooleanType, ReferenceType, is_instance}

-- the 32-bit integers (JLS 4.2.1)
abbrev pub in_int : ℤ → Bool
in_int z = int_le (negsuc 2147483647) z && int_le z (pos 2147483647)

-- an entry has the type: an integer in range, a truth value, or a created instance; null and the other defaults have no entry
abbrev pub is_typed : Program → Heap → ValueType → Entry → Bool
is_typed p h IntType (IntEntry z) = in_int z
is_typed p h BooleanType (BoolEntry b) = true
is_typed p h (ReferenceType k) (RefEntry r) = is_instance p k r && is_created h r
is_typed p h t e = false

-- where a well-formed heap may hold what: an object at the fields of its class, an array at its indices, null nowhere
abbrev pub is_allowed : Program → Heap → Reference → Field → Entry → Bool
is_allowed p h o Created e = true
is_allowed p h (Object c n) (Named f) e = p.has_field c f && is_typed p h (p.field_type f) e
is_allowed p h (Array l n) (Index i) e = int_le (pos 0) i && int_lt i (length_of (Array l n)) && is_typed p h IntType e
is_allowed p h o f e = false

abbrev pub IsWellFormed : Program → Heap → Type 0
IsWellFormed p h = (l : Location) (e : Entry) → entry h l ≡ Some e → is_allowed p h l.at l.field e ≡ true
