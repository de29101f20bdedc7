-- The families of the methods of each name.
use Rattle.std.specs.Prelude.{◌≡◌, ◌↔◌, ◌<◌, ◌++◌, ℕ, Bool, true, cond, List, [], ◌∷◌, length, map, set, slice_index, Some}
use Rattle.std.specs.Global.{Vec}
use Rattle.std.specs.List.{Contains, slice_get, slice_index_or}
use Rattle.jd_jclasses.specs.Members.{Declared, is_method}
use Rattle.jd_jseen.specs.Own.{routines_before}

-- among the first `done` members there is a method of this family whose name has this number
pub record IsMethodOf (members : List Declared) (names families : List ℕ) (done name family : ℕ) : Type 0 where
  pub i : ℕ
  pub before : i < done
  pub member : Declared
  pub there : slice_get members i ≡ Some member
  pub method : is_method member.kind ≡ true
  pub named : slice_index names i ≡ name
  pub of_family : slice_index families (routines_before members i) ≡ family

-- the list of each name's number has the families of these methods
abbrev pub AreNamed : List Declared → List ℕ → List ℕ → ℕ → List (List ℕ) → Type 0
AreNamed members names families done lists = (name family : ℕ) → name < length lists → Contains (slice_index_or lists name []) family ↔ IsMethodOf members names families done name family

-- the lists in the code's own form
abbrev pub lists_of : List (Vec ℕ) → List (List ℕ)
lists_of vs = map (λ v. v.items) vs

-- one more element in the list of this place
abbrev pub put_behind : List (List ℕ) → ℕ → ℕ → List (List ℕ)
put_behind lists place x = set lists place (slice_index_or lists place [] ++ x ∷ [])

-- the same where a test holds
abbrev pub put_if : Bool → List (List ℕ) → ℕ → ℕ → List (List ℕ)
put_if test lists place x = cond test (put_behind lists place x) lists
