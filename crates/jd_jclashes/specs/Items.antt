-- Members as items, and those that disagree with one of an ancestor.
use Rattle.std.specs.Prelude.{◌≡◌, ◌≢◌, ◌+◌, ◌<◌, ◌≤◌, ℕ, Bool, true, false, List, length, Some, slice_index}
use Rattle.std.specs.List.{slice_get}
use Rattle.jd_syntax.specs.JavaTrees.{JavaUnit}
use Rattle.jd_inherited.specs.declared.items.Item.{Item}
use Rattle.jd_jclasses.specs.Classes.{IsAncestor}
use Rattle.jd_jclasses.specs.Members.{Kind, Declared, declared_members}
use Rattle.jd_jclasses.specs.Refusals.{SameName}

-- a member that is compared has the numbers of its name and of what is to agree; another has numbers past them, of its own
abbrev pub item_of : Bool → ℕ → ℕ → ℕ → ℕ → ℕ → ℕ → Item
item_of true i class name names variant variants = record { node = class; key = name; variant = variant }
item_of false i class name names variant variants = record { node = class; key = names + i; variant = variants + i }

-- the items of the members
pub record AreItemsOf (compared : Kind → Bool) (members : List Declared) (names : List ℕ) (name_count : ℕ) (variants : List ℕ) (variant_count : ℕ) (items : List Item) : Type 0 where
  pub each : length items ≡ length members
  pub items_ : (i : ℕ) (m : Declared) → slice_get members i ≡ Some m
      → slice_get items i ≡ Some (item_of (compared m.kind) i m.class (slice_index names i) name_count (slice_index variants i) variant_count)

-- each member has a number below the count, and two of one number have one name
pub record AreVariants (members : List Declared) (variants : List ℕ) (count : ℕ) : Type 0 where
  pub each : length variants ≡ length members
  pub below : (i : ℕ) → i < length members → slice_index variants i < count
  pub one_name : (i j : ℕ) (a b : Declared) → slice_get members i ≡ Some a → slice_get members j ≡ Some b → slice_index variants i ≡ slice_index variants j → SameName a b

-- the class of each member is one of these
abbrev pub HaveClassesBelow : ℕ → List Declared → Type 0
HaveClassesBelow count members = (i : ℕ) (m : Declared) → slice_get members i ≡ Some m → m.class < count

-- classes come in the order of their numbers
abbrev pub HaveRisingClasses : List Declared → Type 0
HaveRisingClasses members = (i j : ℕ) (a b : Declared) → i < j → slice_get members i ≡ Some a → slice_get members j ≡ Some b → a.class ≤ b.class

-- a compared member has another number than one of its name in an ancestor
pub record DiffersAt (units : List JavaUnit) (compared : Kind → Bool) (variants : List ℕ) (i : ℕ) : Type 0 where
  pub place : ℕ
  pub other : Declared
  pub one : Declared
  pub other_there : slice_get (declared_members units) place ≡ Some other
  pub there : slice_get (declared_members units) i ≡ Some one
  pub above : IsAncestor units other.class one.class
  pub other_compared : compared other.kind ≡ true
  pub compared_ : compared one.kind ≡ true
  pub name : SameName other one
  pub differ : slice_index variants place ≢ slice_index variants i
