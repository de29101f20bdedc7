-- What the classes declare themselves, in a row of cells for each class: one cell for each name, and one for the constructor.
use Rattle.std.specs.Prelude.{◌≡◌, ◌+◌, ◌*◌, ◌<◌, ℕ, cond, List, length, filter, take, Option, Some, None, slice_index}
use Rattle.std.specs.List.{slice_get}
use Rattle.jd_jclasses.specs.Members.{Declared, Kind, FieldOf, ConstantOf, RoutineOf, builds, is_routine}
use Rattle.jd_nearest.specs.Nearest.{column}

-- the column of a member: a method's is its name's number, a constructor's the last; a variable has none
abbrev pub column_of : ℕ → ℕ → Kind → Option ℕ
column_of name count (FieldOf t) = None
column_of name count (ConstantOf n) = None
column_of name count (RoutineOf m) = Some (cond (builds m.result) count name)

-- how many routines stand before the member: the number of the next
abbrev pub routines_before : List Declared → ℕ → ℕ
routines_before members i = length (filter (λ m. is_routine m.kind) (take i members))

-- the member of this place is one of this class and this column
pub record StandsAt (members : List Declared) (names : List ℕ) (count i class k : ℕ) : Type 0 where
  pub member : Declared
  pub there : slice_get members i ≡ Some member
  pub of_class : member.class ≡ class
  pub in_column : column_of (slice_index names i) count member.kind ≡ Some k

-- no two members are of one class and one column
abbrev pub StandAlone : List Declared → List ℕ → ℕ → Type 0
StandAlone members names count = (i j class k : ℕ) → i < j → StandsAt members names count i class k → StandsAt members names count j class k → ⊥

-- the member is of one of the classes, and its name's number below the count
abbrev pub AreWithin : List Declared → List ℕ → ℕ → ℕ → Type 0
AreWithin members names count classes = (i : ℕ) (a : Declared) → slice_get members i ≡ Some a → (a.class < classes) × (slice_index names i < count)

-- a routine among the first `done` members has its number in the cell of its class and column, and each number is one of these
pub record AreOwn (members : List Declared) (names : List ℕ) (count classes done : ℕ) (cells : List (Option ℕ)) : Type 0 where
  pub each : length cells ≡ classes * (count + 1)
  pub written : (i class k : ℕ) → i < done → StandsAt members names count i class k → column (count + 1) cells k class ≡ Some (routines_before members i)
  pub only : (class k m : ℕ) → k < count + 1 → column (count + 1) cells k class ≡ Some m → (i : ℕ) × (i < done) × StandsAt members names count i class k × (m ≡ routines_before members i)
