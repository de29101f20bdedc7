-- The variables of a body's code: what they are called, and in which order they are made.
use Rattle.std.specs.Prelude.{ℕ, ◌+◌, List, [], ◌∷◌, ◌++◌, length, filter, nat_eq, cond, if◌then◌else◌, Option, Some, None, codes}
use Rattle.std.specs.Fmt.{decimal}
use Rattle.std.specs.Str.{bytes_eq}
use Rattle.jd_base.specs.declared.sort.Sort.{Sort}
use Rattle.jd_base.specs.declared.sort.Sort.TheVariants as sorts
use Rattle.jd_syntax.specs.Names.{Name, Declared}
use Rattle.jd_bodies.specs.declared.value.ValueType.{ValueType}
use Rattle.jd_bodies.specs.declared.value.ValueType.TheVariants as types

abbrev pub sort_of : ValueType → Sort
sort_of types.Int = sorts.Int
sort_of types.Boolean = sorts.Bool
sort_of t = sorts.Ref

-- a variable of the type
abbrev pub class_of : ValueType → Option ℕ
class_of (types.Class c) = Some c
class_of t = None

abbrev pub declared : Name → ValueType → Declared
declared x t = record { name = x; class = class_of t }

-- ---- what variables are called

abbrev pub this_name : Name
this_name = record { text = codes "this"; sort = sorts.Ref }

-- with an apostrophe and its number
abbrev pub numbered : List ℕ → ℕ → List ℕ
numbered name n = name ++ (codes "'" ++ decimal n)

abbrev pub temporary_name : ℕ → ValueType → Name
temporary_name n t = record { text = numbered [] n; sort = sort_of t }

-- The second, third and so on parameter or local of a name in a method has its number behind it. Those named `created`, as a special
-- field is, count from the second on.
abbrev pub local_text : List ℕ → ℕ → List ℕ
local_text name n = if nat_eq n 1 then name else numbered name n

abbrev pub count_of : List ℕ → List (List ℕ) → ℕ
count_of name names = length (filter (λ n. bytes_eq n name) names) + cond (bytes_eq name (codes "created")) 1 0

-- the last parameter or local of the name, where these are the names of all so far
abbrev pub local_name : List (List ℕ) → List ℕ → ValueType → Name
local_name names name t = record { text = local_text name (count_of name names); sort = sort_of t }

-- ---- what was made so far

-- The names of the parameters and locals; all variables with the temporaries, in the order of their making; how many temporaries,
-- loops and labels there are; and of each loop the parameters and locals where it begins.
pub record Progress : Type 0 where
  pub names : List (List ℕ)
  pub variables : List Declared
  pub temporaries : ℕ
  pub loops : ℕ
  pub labels : ℕ
  pub scopes : List (List Name)

-- a new temporary of the type, by its name
abbrev pub temporary : ValueType → Progress → Progress × Name
temporary t p = (
  record p { variables = p.variables ++ (declared (temporary_name (p.temporaries + 1) t) t ∷ []); temporaries = p.temporaries + 1 },
  temporary_name (p.temporaries + 1) t,
)

-- a new parameter or local
abbrev pub with_local : List ℕ → ValueType → Progress → Progress
with_local name t p = record p {
  names = name ∷ p.names;
  variables = p.variables ++ (declared (local_name (name ∷ p.names) name t) t ∷ []);
}

-- a new label
abbrev pub with_label : Progress → Progress
with_label p = record p { labels = p.labels + 1 }

-- a new loop, which begins where these are in scope
abbrev pub with_loop : List Name → Progress → Progress
with_loop scope p = record p { loops = p.loops + 1; scopes = p.scopes ++ (scope ∷ []) }
