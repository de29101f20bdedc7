-- Labels, numbered from 0 in the order in which they first stand in a list.
use Rattle.std.specs.Prelude.{◌≡◌, ◌↔◌, ℕ, ◌<◌, ◌≤◌, List, length, get_or, Option, Some, None, slice_index}

-- each label is the number of an element
abbrev pub AreInside : List ℕ → Type 0
AreInside labels = (i : ℕ) → i < length labels → slice_index labels i < length labels

-- no label before it is the same
abbrev pub IsNew : List ℕ → ℕ → Type 0
IsNew labels i = (j : ℕ) → j < i → slice_index labels j ≡ slice_index labels i → ⊥

-- for each element the number of its label
pub record AreNumbered (labels numbers : List ℕ) (count : ℕ) : Type 0 where
  pub each : length numbers ≡ length labels
  pub same : (i j : ℕ) → i < length labels → j < length labels → (slice_index numbers i ≡ slice_index numbers j) ↔ (slice_index labels i ≡ slice_index labels j)
  pub ordered : (i j : ℕ) → i < j → j < length labels → IsNew labels j → slice_index numbers i < slice_index numbers j
  pub below : (i : ℕ) → i < length labels → slice_index numbers i < count
  pub reached : (f : ℕ) → f < count → (i : ℕ) × (i < length labels) × (slice_index numbers i ≡ f)

-- so many labels have their numbers, and each of them is given to its label
pub record IsNumbering (labels : List ℕ) (given : List (Option ℕ)) (numbers : List ℕ) (count done : ℕ) : Type 0 where
  pub room : length given ≡ length labels
  pub each : length numbers ≡ done
  pub few : count ≤ done
  pub has : (i : ℕ) → i < done → get_or given (slice_index labels i) None ≡ Some (slice_index numbers i)
  pub from : (label f : ℕ) → get_or given label None ≡ Some f → (i : ℕ) × (i < done) × (slice_index labels i ≡ label)
  pub lower : (label f : ℕ) → get_or given label None ≡ Some f → f < count
  pub one : (label other f : ℕ) → get_or given label None ≡ Some f → get_or given other None ≡ Some f → label ≡ other
  pub reached : (f : ℕ) → f < count → (i : ℕ) × (i < done) × (slice_index numbers i ≡ f)
  pub ordered : (i j : ℕ) → i < j → j < done → IsNew labels j → slice_index numbers i < slice_index numbers j
