-- What a body's code has by now.
use Rattle.std.specs.Prelude.{◌≡◌, ℕ, false, List, [], ◌∷◌, ◌++◌, length, filter, map}
use Rattle.std.specs.Global.{Vec}
use Rattle.std.specs.Map.{lookup}
use Rattle.std.specs.Option.{unwrap_or}
use Rattle.std.specs.Str.{bytes_eq}
use Rattle.jd_syntax.specs.Names.{Name, Declared, decl_view, var_view}
use Rattle.jd_syntax.specs.declared.variable.VarId.{VarId}
use Rattle.jd_bodies.specs.Variables as plain
use Rattle.jd_bodies.specs.declared.value.ValueType.TheVariants as types
use Rattle.jd_code_makers.specs.declared.progress.Progress.{Progress}

-- how many parameters and locals have the name
abbrev pub number_at : List (Vec ℕ × ℕ) → List ℕ → ℕ
number_at es name = unwrap_or (lookup (λ k. bytes_eq name k.items) es) 0

abbrev pub names_of : Vec VarId → List Name
names_of v = map var_view v.items

-- what is there, in plain lists and numbers
pub record Parts : Type 0 where
  pub numbers : List (Vec ℕ × ℕ)
  pub variables : List Declared
  pub temporaries : ℕ
  pub loops : ℕ
  pub labels : ℕ
  pub scopes : List (List Name)

abbrev pub parts : Progress → Parts
parts p = record {
  numbers = p.names.entries;
  variables = map decl_view p.variables.items;
  temporaries = p.temporaries;
  loops = p.loops;
  labels = p.labels;
  scopes = map names_of p.scopes.items;
}

-- for each name the number of those that have it
abbrev pub Count : List (Vec ℕ × ℕ) → List (List ℕ) → Type 0
Count es names = (name : List ℕ) → number_at es name ≡ length (filter (λ n. bytes_eq n name) names)

-- this is there
pub record IsProgress (x : Parts) (q : plain.Progress) : Type 0 where
  pub numbers_ : Count x.numbers q.names
  pub variables_ : x.variables ≡ q.variables
  pub temporaries_ : x.temporaries ≡ q.temporaries
  pub loops_ : x.loops ≡ q.loops
  pub labels_ : x.labels ≡ q.labels
  pub scopes_ : x.scopes ≡ q.scopes

-- memory has sufficed for all
abbrev pub Works : Progress → Type 0
Works p = p.has_failed ≡ false

-- and then this is there
pub record Holds (p : Progress) (q : plain.Progress) : Type 0 where
  pub held : Works p → IsProgress (parts p) q

-- `this`, an object of the class, behind the variables
abbrev pub with_receiver : ℕ → plain.Progress → plain.Progress
with_receiver class q = record q { variables = q.variables ++ (plain.declared plain.this_name (types.Class class) ∷ []) }
