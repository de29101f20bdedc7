-- Files and written bytes that are kept in memory, as they are seen.
use Rattle.std.specs.Prelude.{◌≡◌, ℕ, ◌≤◌, ◌-◌, List, [], ◌∷◌, Option, Some, None, is_some, IsSome, Contains, if◌then◌else◌, length, String, string_bytes, Vec}
use Rattle.std.specs.Global.{Global}
use Rattle.std.specs.Str.{bytes_eq}
use Rattle.jd_base.specs.Faults.{next_count}

-- a file as its name and its bytes
abbrev pub file_of : String Global × Vec ℕ Global → List ℕ × List ℕ
file_of file = (string_bytes file.0, file.1.items)

-- the files' names and bytes, the numbers of the calls that fail, how many calls there were, and the
-- counts of faults: one for the names that are held, one for all others
pub record Files : Type 0 where
  pub files : List (List ℕ × List ℕ)
  pub fails : List ℕ
  pub calls : ℕ
  pub faults : ℕ
  pub absent_faults : ℕ

-- the bytes of the first file of that name
abbrev pub contents_of : List (List ℕ × List ℕ) → List ℕ → Option (List ℕ)
contents_of [] name = None
contents_of (file ∷ files) name = if bytes_eq file.0 name then Some file.1 else contents_of files name

-- the count of faults of a name
abbrev pub faults_of : Files → List ℕ → ℕ
faults_of held name = if is_some (contents_of held.files name) then held.faults else held.absent_faults

-- the bytes that were written, how many there may be, the numbers of the calls that fail, how many
-- calls there were, and the count of faults
pub record Written : Type 0 where
  pub bytes : List ℕ
  pub room : ℕ
  pub fails : List ℕ
  pub calls : ℕ
  pub faults : ℕ

-- a call after that many is one of those that fail
abbrev pub FailsNext : List ℕ → ℕ → Type 0
FailsNext fails calls = Contains fails (next_count calls)

-- how many bytes have room still
abbrev pub room_left : Written → ℕ
room_left sink = sink.room - length sink.bytes

-- no call is one of those that fail, and the name is held
abbrev pub IsSteady : Files → List ℕ → Type 0
IsSteady held name = (held.fails ≡ []) × IsSome (contents_of held.files name)

-- no call is one of those that fail, and so many bytes have room still
abbrev pub HasSteadyRoom : Written → ℕ → Type 0
HasSteadyRoom sink n = (sink.fails ≡ []) × (n ≤ room_left sink)
