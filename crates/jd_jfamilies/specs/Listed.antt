-- What stands for each routine in a list, by what the classes see.
use Rattle.std.specs.Prelude.{◌≡◌, ◌+◌, ◌<◌, ℕ, true, cond, List, length, get_or, Option, Some, None, slice_index}
use Rattle.std.specs.List.{slice_get}
use Rattle.jd_jclasses.specs.Members.{Declared, is_method, is_routine, is_static}
use Rattle.jd_jseen.specs.Own.{routines_before}
use Rattle.jd_nearest.specs.Nearest.{column}

-- what a class sees of the name of this number, if there is a class
abbrev pub seen_from : ℕ → List (Option ℕ) → ℕ → Option ℕ → Option ℕ
seen_from count cells name None = None
seen_from count cells name (Some class) = column (count + 1) cells name class

-- for an instance method what the class above its own sees of its name, and nothing for others
abbrev pub seen_above : List (Option ℕ) → ℕ → List (Option ℕ) → Declared → ℕ → Option ℕ
seen_above parents count cells a name = cond (is_method a.kind) (cond (is_static a.kind) None (seen_from count cells name (get_or parents a.class None))) None

-- each class among the members' is one of these
abbrev pub AreOfClasses : List Declared → ℕ → Type 0
AreOfClasses members classes = (i : ℕ) (a : Declared) → slice_get members i ≡ Some a → a.class < classes

-- the routines among the first `done` members have their places, one after the other
pub record AreListed (parents : List (Option ℕ)) (members : List Declared) (names : List ℕ) (count : ℕ) (cells : List (Option ℕ)) (done : ℕ) (listed : List (Option ℕ)) : Type 0 where
  pub each : length listed ≡ routines_before members done
  pub written : (i : ℕ) (a : Declared) → i < done → slice_get members i ≡ Some a → is_routine a.kind ≡ true → slice_get listed (routines_before members i) ≡ Some (seen_above parents count cells a (slice_index names i))
