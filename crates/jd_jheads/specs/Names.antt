-- The names and parents of classes, from the list of the classes of the files.
use Rattle.std.specs.Prelude.{ℕ, List, [], ◌∷◌, ◌++◌, map, Option, if◌then◌else◌}
use Rattle.std.specs.List.{list_any}
use Rattle.std.specs.Str.{bytes_eq}
use Rattle.std.specs.Global.{Vec}
use Rattle.indexmap.specs.IndexSet.{IndexSet}
use Rattle.jd_jclasses.specs.Classes.{DeclaredClass, prelude, parent_by}

-- the names that a set holds, in its order
abbrev pub name_list : {S : Type 0} → IndexSet (Vec ℕ) S → List (List ℕ)
name_list s = map (λ name. name.items) s.keys

-- a name behind the others, where it is none of them
abbrev pub insert_name : List (List ℕ) → List ℕ → List (List ℕ)
insert_name names name = if list_any (bytes_eq name) names then names else names ++ name ∷ []

-- the names of all classes
abbrev pub names_with : List DeclaredClass → List (List ℕ)
names_with ds = map (λ p. p.0) prelude ++ map (λ d. d.tree.name.name) ds

-- what the classes of the files extend, by the names of all
abbrev pub parents_by : List (List ℕ) → List DeclaredClass → List (Option ℕ)
parents_by names ds = map (λ d. parent_by names d.tree.parent) ds

abbrev pub parents_of : List DeclaredClass → List (Option ℕ)
parents_of ds = parents_by (names_with ds) ds

-- what all classes extend
abbrev pub parents_with : List DeclaredClass → List (Option ℕ)
parents_with ds = map (λ p. p.1) prelude ++ parents_of ds
