-- The signs: separators and operators (JLS 3.11, 3.12), and those of JML (JML Reference Manual 4.6).
use Rattle.std.specs.Prelude.{◌≡◌, ◌⊎◌, ◌≤◌, ℕ, List, [], ◌∷◌, ◌++◌, length, Bool, false, cond, codes, ◌==◌}
use Rattle.std.specs.List.{list_any}

abbrev pub java_signs : List (List ℕ)
java_signs =
    codes "(" ∷ codes ")" ∷ codes "{" ∷ codes "}" ∷ codes "[" ∷ codes "]" ∷ codes ";" ∷ codes "," ∷ codes "." ∷ codes "@"
    ∷ codes "=" ∷ codes ">" ∷ codes "<" ∷ codes "!" ∷ codes "~" ∷ codes "?" ∷ codes ":"
    ∷ codes "==" ∷ codes "<=" ∷ codes ">=" ∷ codes "!=" ∷ codes "&&" ∷ codes "||" ∷ codes "++" ∷ codes "--"
    ∷ codes "+" ∷ codes "-" ∷ codes "*" ∷ codes "/" ∷ codes "&" ∷ codes "|" ∷ codes "^" ∷ codes "%"
    ∷ codes "->" ∷ codes "::" ∷ codes "<<" ∷ codes ">>" ∷ codes ">>>"
    ∷ codes "+=" ∷ codes "-=" ∷ codes "*=" ∷ codes "/=" ∷ codes "&=" ∷ codes "|=" ∷ codes "^=" ∷ codes "%="
    ∷ codes "<<=" ∷ codes ">>=" ∷ codes ">>>=" ∷ []

-- implication both ways, equivalence and its negation, and the range of indices
abbrev pub jml_signs : List (List ℕ)
jml_signs = codes "==>" ∷ codes "<==>" ∷ codes "<==" ∷ codes "<=!=>" ∷ codes ".." ∷ java_signs

abbrev pub signs : Bool → List (List ℕ)
signs jml = cond jml jml_signs java_signs

abbrev pub Listed : List ℕ → List (List ℕ) → Type 0
Listed text [] = ⊥
Listed text (sign ∷ table) = (text ≡ sign) ⊎ Listed text table

-- the bytes begin with the text
abbrev pub BeginsWith : List ℕ → List ℕ → Type 0
BeginsWith text bytes = (behind : List ℕ) × (bytes ≡ text ++ behind)

-- the text is a sign of the table, and no longer one stands there where the rest follows it (JLS 3.2)
pub record IsLongest (table : List (List ℕ)) (text rest : List ℕ) : Type 0 where
  pub listed : Listed text table
  pub longest : (other : List ℕ) → Listed other table → BeginsWith other (text ++ rest) → length other ≤ length text

-- no sign of the table stands at the head of the bytes
abbrev pub BeginsNone : List (List ℕ) → List ℕ → Type 0
BeginsNone table bytes = (sign : List ℕ) → Listed sign table → BeginsWith sign bytes → ⊥

-- the signs of one byte with which no other begins
abbrev pub alone : List ℕ
alone = codes "(){}[];,~?@"

abbrev pub stands_alone : ℕ → Bool
stands_alone b = list_any (λ s. b == s) alone

-- such a sign stands at the head of the bytes
abbrev pub begins_alone : List ℕ → Bool
begins_alone [] = false
begins_alone (b ∷ bytes) = stands_alone b
