-- The numbers of members, and of their names.
use Rattle.std.specs.Prelude.{◌≡◌, ◌<◌, ℕ, List, length, map, Some, slice_index}
use Rattle.std.specs.List.{Contains, slice_get}
use Rattle.jd_jclasses.specs.Members.{Declared}
use Rattle.jd_jnumbers.specs.declared.numbers.Numbers.{Numbers}
use Rattle.jd_jnumbers.specs.Texts.{distinct, number_in, text_list}

-- the texts that have numbers, in the order of the numbers
abbrev pub texts_of : Numbers → List (List ℕ)
texts_of n = text_list n.texts

abbrev pub count_of : Numbers → ℕ
count_of n = length (texts_of n)

-- each number below the count is one of the numbers
abbrev pub AreAllUsed : List ℕ → ℕ → Type 0
AreAllUsed numbers count = (k : ℕ) → k < count → Contains numbers k

-- these are the texts without repetition, and the numbers of all of them
pub record AreNumbered (distincts : List (List ℕ)) (numbers : List ℕ) (texts : List (List ℕ)) : Type 0 where
  pub in_order : distincts ≡ distinct texts
  pub places : map Some numbers ≡ map (number_in distincts) texts
  pub used : AreAllUsed numbers (length distincts)

abbrev pub member_name : Declared → List ℕ
member_name m = m.name.name

-- these are the members' names by their numbers, and the numbers of the members' names
pub record AreNames (members : List Declared) (names : List (List ℕ)) (numbers : List ℕ) : Type 0 where
  -- each name once, in the order in which they occur first
  pub in_order : names ≡ distinct (map member_name members)
  -- a member's number is that of its name
  pub place : (i : ℕ) (m : Declared) → slice_get members i ≡ Some m → number_in names (member_name m) ≡ Some (slice_index numbers i)
  -- each of the names is a member's
  pub used : (name : List ℕ) → Contains names name → Contains (map member_name members) name
