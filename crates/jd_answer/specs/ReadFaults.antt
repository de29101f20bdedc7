-- Faults of reading the files that the words name.
use Rattle.std.specs.Prelude.{◌≡◌, ℕ, ◌<◌, List, ◌∷◌, Some}
use Rattle.std.specs.List.{Contains}
use Rattle.jd_base.specs.Faults.{Rose}
use Rattle.jd_answer.specs.Words.{command_words}

-- the words name this file
pub record IsNamed (words : List (List ℕ)) (name : List ℕ) : Type 0 where
  pub proof : List ℕ
  pub names : List (List ℕ)
  pub words_ : command_words words ≡ Some (proof, names)
  pub among : Contains (proof ∷ names) name

-- the count of faults of one of these files rose
pub record HasRisen (names : List (List ℕ)) (before after : List ℕ → ℕ) : Type 0 where
  pub name : List ℕ
  pub among : Contains names name
  pub rose : Rose (before name) (after name)

-- the words name files, and the count of faults of one of them rose
pub record IsReadFault (words : List (List ℕ)) (before after : List ℕ → ℕ) : Type 0 where
  pub name : List ℕ
  pub named : IsNamed words name
  pub rose : Rose (before name) (after name)

-- the words name a file whose count of faults is greater than before
pub record HasMoreFaults (words : List (List ℕ)) (before after : List ℕ → ℕ) : Type 0 where
  pub name : List ℕ
  pub named : IsNamed words name
  pub more : before name < after name

-- reading does not fail at any of these files
abbrev pub AreSteady : List (List ℕ) → (List ℕ → Type 0) → Type 0
AreSteady names steady = (name : List ℕ) → Contains names name → steady name

-- reading does not fail at any file that the words name
abbrev pub NamesSteady : List (List ℕ) → (List ℕ → Type 0) → Type 0
NamesSteady words steady = (name : List ℕ) → IsNamed words name → steady name
