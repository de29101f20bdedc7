-- The laws of heaps, as statements: what is read after each operation, heaps by what is read, and allocation.
use Rattle.std.specs.Prelude.{◌≡◌, ◌<◌, ℕ, Bool, true, false, pos, int_le}
use Rattle.jd_base.specs.declared.sort.Sort.{Sort}
use Rattle.jd_base.specs.declared.sort.Sort.TheVariants.{Int as IntSort, Bool as BoolSort, Ref as RefSort}
use Rattle.jd_heap.specs.References.{Reference, Object, Array, Field, Created, Location, location, is_created_field}
use Rattle.jd_heap.specs.Heaps.{Heap, create, anon, is_created, SameAt, length_of}
use Rattle.jd_heap.specs.Allocation.{fresh_object, fresh_array}
use Rattle.jd_heap.specs.Values.{Value, at_sort, default, select_at, store_value}

-- a heap is read at these sorts
abbrev pub IsEntrySort : Sort → Type 0
IsEntrySort IntSort = Unit {0}
IsEntrySort BoolSort = Unit {0}
IsEntrySort RefSort = Unit {0}
IsEntrySort s = ⊥

-- two heaps of which everything reads alike are equal
abbrev pub AreHeapsBySelects : Type 0
AreHeapsBySelects = (h k : Heap) → ((o : Reference) (f : Field) → SameAt h k o f) → h ≡ k

-- `select` over `store`
pub record SelectOverStore : Type 0 where
  -- there the value is read, and at another sort that sort's default
  pub there : (s : Sort) → IsEntrySort s → (h : Heap) (o : Reference) (f : Field) (v : Value) → is_created_field f ≡ false → select_at s (store_value h o f v) o f ≡ at_sort s v
  -- elsewhere nothing changes
  pub elsewhere : (s : Sort) (h : Heap) (o p : Reference) (f e : Field) (v : Value) → ¬ (location p e ≡ location o f) → select_at s (store_value h o f v) p e ≡ select_at s h p e
  -- and nothing at all by a store to `created`
  pub at_created : (h : Heap) (o : Reference) (v : Value) → store_value h o Created v ≡ h

-- `select` over `create`
pub record SelectOverCreate : Type 0 where
  pub created : (h : Heap) (o : Reference) → is_created (create h o) o ≡ true
  pub fields : (s : Sort) (h : Heap) (o : Reference) (f : Field) → is_created_field f ≡ false → select_at s (create h o) o f ≡ default s
  pub others : (s : Sort) (h : Heap) (o p : Reference) (f : Field) → ¬ (p ≡ o) → select_at s (create h o) p f ≡ select_at s h p f

-- `select` over `anon`
pub record SelectOverAnon : Type 0 where
  -- within the locations, and at what was not created, the other heap is read
  pub inside : (s : Sort) (h k : Heap) (L : Location → Bool) (o : Reference) (f : Field) → L (location o f) ≡ true → is_created_field f ≡ false → select_at s (anon h L k) o f ≡ select_at s k o f
  pub fresh : (s : Sort) (h k : Heap) (L : Location → Bool) (o : Reference) (f : Field) → is_created h o ≡ false → select_at s (anon h L k) o f ≡ select_at s k o f
  -- elsewhere nothing changes
  pub outside : (s : Sort) (h k : Heap) (L : Location → Bool) (o : Reference) (f : Field) → L (location o f) ≡ false → is_created h o ≡ true → select_at s (anon h L k) o f ≡ select_at s h o f
  -- and what was created is created
  pub created : (h k : Heap) (L : Location → Bool) (o : Reference) → is_created h o ≡ true → is_created (anon h L k) o ≡ true

-- what is allocated was free, and each smaller number was taken
pub record AllocatesLeast : Type 0 where
  pub object_free : (h : Heap) (c : ℕ) → is_created h (fresh_object h c) ≡ false
  pub array_free : (h : Heap) (l : ℕ) → is_created h (fresh_array h l) ≡ false
  pub object_least : (h : Heap) (c n m : ℕ) → fresh_object h c ≡ Object c n → m < n → is_created h (Object c m) ≡ true
  pub array_least : (h : Heap) (l n m : ℕ) → fresh_array h l ≡ Array l n → m < n → is_created h (Array l m) ≡ true

-- lengths are 32-bit numbers from 0 on (JLS 10.3)
abbrev pub AreLengthsInRange : Type 0
AreLengthsInRange = (r : Reference) → (int_le (pos 0) (length_of r) ≡ true) × (int_le (length_of r) (pos 2147483647) ≡ true)
