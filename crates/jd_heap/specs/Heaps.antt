-- Heaps: finite maps from locations to integers, truth values and references, without default entries (The KeY Book, 2.4.3).
use Rattle.std.specs.Prelude.{◌≡◌, zero, suc, Bool, true, false, cond, not, ◌&&◌, ◌||◌, ℤ, pos, negsuc, int_le, Option, Some}
use Rattle.jd_heap.specs.Codings.{same}
use Rattle.jd_heap.specs.References.{Reference, Null, Object, Array, Field, Created, Location, location, is_null, is_created_field}
use Rattle.jd_heap.specs.ReferenceCodings.{location_coding, reference_coding}
use Rattle.jd_heap.specs.SparseMaps.{SparseMap, find, no_entries, put, pick}

pub data Entry : Type 0 where
  IntEntry : ℤ → Entry
  BoolEntry : Bool → Entry
  RefEntry : Reference → Entry

abbrev pub is_zero : ℤ → Bool
is_zero (pos zero) = true
is_zero (pos (suc n)) = false
is_zero (negsuc n) = false

-- an entry that is no default
abbrev pub is_proper : Location → Entry → Bool
is_proper l (IntEntry z) = not (is_zero z)
is_proper l (BoolEntry b) = b
is_proper l (RefEntry r) = not (is_null r)

abbrev pub Heap : Type 0
Heap = SparseMap location_coding is_proper

abbrev pub entry : Heap → Location → Option Entry
entry h l = find location_coding is_proper h l

-- an entry of another sort, and none, read as the sort's default
abbrev pub int_in : Option Entry → ℤ
int_in (Some (IntEntry z)) = z
int_in o = pos 0

abbrev pub bool_in : Option Entry → Bool
bool_in (Some (BoolEntry b)) = b
bool_in o = false

abbrev pub ref_in : Option Entry → Reference
ref_in (Some (RefEntry r)) = r
ref_in o = Null

-- `selI`, `selB` and `selR`
abbrev pub select_int : Heap → Reference → Field → ℤ
select_int h o f = int_in (entry h (location o f))

abbrev pub select_bool : Heap → Reference → Field → Bool
select_bool h o f = bool_in (entry h (location o f))

abbrev pub select_ref : Heap → Reference → Field → Reference
select_ref h o f = ref_in (entry h (location o f))

abbrev pub is_created : Heap → Reference → Bool
is_created h o = select_bool h o Created

unfoldable pub empty_heap : Heap
empty_heap = no_entries location_coding is_proper

-- sets an entry, or removes it where the value is a default; nothing happens at `created`
unfoldable pub store : Heap → Reference → Field → Entry → Heap
store h o f e = cond (is_created_field f) h (put location_coding is_proper h (location o f) e)

-- `created` at o, and no other entry of o; the book's `create` leaves the other entries
unfoldable pub create : Heap → Reference → Heap
create h o = put location_coding is_proper (pick location_coding is_proper (λ l. same reference_coding l.at o) empty_heap h) (location o Created) (BoolEntry true)

-- where `anon` reads the other heap: within the locations but for `created`, and at what is not created; the book excepts null
abbrev pub is_renewed : Heap → (Location → Bool) → Location → Bool
is_renewed h L l = (L l && not (is_created_field l.field)) || not (is_created h l.at)

unfoldable pub anon : Heap → (Location → Bool) → Heap → Heap
anon h L g = pick location_coding is_proper (is_renewed h L) g h

-- the three selects agree at a location
abbrev pub SameAt : Heap → Heap → Reference → Field → Type 0
SameAt h g o f = (select_int h o f ≡ select_int g o f) × (select_bool h o f ≡ select_bool g o f) × (select_ref h o f ≡ select_ref g o f)

-- the lengths that an array can have (JLS 10.3)
abbrev pub is_length : ℤ → Bool
is_length z = int_le (pos 0) z && int_le z (pos 2147483647)

-- the length of an array; of null, of an object, and of an array whose number is no length it is 0
abbrev pub length_of : Reference → ℤ
length_of Null = pos 0
length_of (Object c n) = pos 0
length_of (Array l n) = cond (is_length (pos l)) (pos l) (pos 0)
