-- Members of which a class may declare one alone, by keys.
use Rattle.std.specs.Prelude.{◌≡◌, ℕ, Bool, cond, List, Option, Some, None, slice_set, get_or}
use Rattle.jd_jclasses.specs.Members.{Kind, Declared, is_variable, is_constructor, is_method}
use Rattle.jd_jclasses.specs.Refusals.{IsSecondMember, IsSecondMethod}
use Rattle.jd_jclashes.specs.declared.compared.Compared.{Compared}
use Rattle.jd_jclashes.specs.declared.compared.Compared.TheVariants.{Variables, Methods}

-- variables, or methods
abbrev pub is_compared : Compared → Kind → Bool
is_compared Variables kind = is_variable kind
is_compared Methods kind = is_method kind

-- of such members, and of constructors beside the variables, the second of a class is refused
abbrev pub IsSecond : Compared → Declared → Declared → Type 0
IsSecond Variables a b = IsSecondMember a b
IsSecond Methods a b = IsSecondMethod a b

-- what a class may declare once: the number of a name, or for its constructor the number past those
abbrev pub repeat_key : Compared → Kind → ℕ → ℕ → Option ℕ
repeat_key Variables kind name count = cond (is_variable kind) (Some name) (cond (is_constructor kind) (Some count) None)
repeat_key Methods kind name count = cond (is_method kind) (Some name) None

-- the key was seen last in this class
abbrev pub IsSeenIn : List (Option ℕ) → Option ℕ → ℕ → Type 0
IsSeenIn last key class = (k : ℕ) × (key ≡ Some k) × (get_or last k None ≡ Some class)

-- and is from now on
abbrev pub seen_in : List (Option ℕ) → Option ℕ → ℕ → List (Option ℕ)
seen_in last None class = last
seen_in last (Some k) class = slice_set last k (Some class)
