-- Which tokens a text spells, and which fault is its first.
use Rattle.std.specs.Prelude.{◌≡◌, ◌⊎◌, ℕ, zero, suc, ◌+◌, ◌<◌, ◌≤◌, List, [], ◌∷◌, ◌++◌, length, get_or, Bool, true, false, not, cond, ◌==◌, Option, Some, None}
use Rattle.std.specs.List.{flat_map}
use Rattle.jd_lex.specs.Parts.{Token, Part, Fault, BadByte, OpenComment, place, start_of, IsLineComment, IsBlockComment, IsOpen, jml_text, IsPlain, IsPlainFault}
use Rattle.jd_lex.specs.declared.starts.Start.{Start}
use Rattle.jd_lex.specs.declared.starts.Start.TheVariants.{White, WordStart, NumberStart, LineComment, BlockComment, SignStart}

-- ---- parts in a row

-- a relation of a place, a part that stands there and what follows it
abbrev pub Parts : Type 1
Parts = ℕ → Part → List ℕ → Type 0

-- a relation of a place, the bytes from there on and a fault that is there
abbrev pub Faults : Type 1
Faults = ℕ → List ℕ → Fault → Type 0

-- the bytes from that place on are those parts, and then the rest, which stands at the other place
abbrev pub Reach : Parts → List Part → ℕ → List ℕ → ℕ → List ℕ → Type 0
Reach IsPart [] from bytes at rest = (from ≡ at) × (bytes ≡ rest)
Reach IsPart (p ∷ ps) from bytes at rest =
    (0 < length p.text) × (behind : List ℕ) × (bytes ≡ p.text ++ behind) × IsPart from p behind × Reach IsPart ps (from + length p.text) behind at rest

abbrev pub tokens_of : List Part → List Token
tokens_of ps = flat_map (λ p. p.tokens) ps

-- parts that give those tokens lead to the rest
pub record Leads (IsPart : Parts) (from : ℕ) (bytes : List ℕ) (tokens : List Token) (at : ℕ) (rest : List ℕ) : Type 0 where
  pub parts : List Part
  pub reach : Reach IsPart parts from bytes at rest
  pub given : tokens ≡ tokens_of parts

-- the bytes are parts that give those tokens
pub record Whole (IsPart : Parts) (from : ℕ) (bytes : List ℕ) (tokens : List Token) : Type 0 where
  pub end : ℕ
  pub leads : Leads IsPart from bytes tokens end []

-- behind some parts the fault stands
pub record Stops (IsPart : Parts) (IsFault : Faults) (from : ℕ) (bytes : List ℕ) (fault : Fault) : Type 0 where
  pub tokens : List Token
  pub at : ℕ
  pub rest : List ℕ
  pub leads : Leads IsPart from bytes tokens at rest
  pub here : IsFault at rest fault

-- ---- JML texts

-- Comments in JML give no tokens; where none is closed, its opening is read as signs.
abbrev pub JmlPart : Start → Parts
JmlPart LineComment at p rest = (body : List ℕ) × IsLineComment body p.text rest × (p.tokens ≡ [])
JmlPart BlockComment at p rest =
    ((body : List ℕ) × IsBlockComment body p.text × (p.tokens ≡ [])) ⊎ (IsOpen (p.text ++ rest) × IsPlain SignStart true at p rest)
JmlPart White at p rest = IsPlain White true at p rest
JmlPart WordStart at p rest = IsPlain WordStart true at p rest
JmlPart NumberStart at p rest = IsPlain NumberStart true at p rest
JmlPart SignStart at p rest = IsPlain SignStart true at p rest

abbrev pub IsJmlPart : Parts
IsJmlPart at p rest = JmlPart (start_of true (p.text ++ rest)) at p rest

abbrev pub IsJmlFault : Faults
IsJmlFault at [] fault = ⊥
IsJmlFault at (b ∷ bytes) fault = IsPlainFault (start_of true (b ∷ bytes)) true at (b ∷ bytes) fault

-- ---- Java texts

-- the tokens of a comment at that place are those of its JML text, which begins three bytes behind it
abbrev pub CommentGives : ℕ → Option (List ℕ) → List Token → Type 0
CommentGives at None tokens = tokens ≡ []
CommentGives at (Some text) tokens = Whole IsJmlPart (at + 3) text tokens

abbrev pub CommentFault : ℕ → Option (List ℕ) → Fault → Type 0
CommentFault at None fault = ⊥
CommentFault at (Some text) fault = Stops IsJmlPart IsJmlFault (at + 3) text fault

abbrev pub JavaPart : Start → Parts
JavaPart LineComment at p rest = (body : List ℕ) × IsLineComment body p.text rest × CommentGives at (jml_text false body) p.tokens
JavaPart BlockComment at p rest = (body : List ℕ) × IsBlockComment body p.text × CommentGives at (jml_text true body) p.tokens
JavaPart White at p rest = IsPlain White false at p rest
JavaPart WordStart at p rest = IsPlain WordStart false at p rest
JavaPart NumberStart at p rest = IsPlain NumberStart false at p rest
JavaPart SignStart at p rest = IsPlain SignStart false at p rest

abbrev pub IsJavaPart : Parts
IsJavaPart at p rest = JavaPart (start_of false (p.text ++ rest)) at p rest

-- a fault in the JML text of a line comment, or of a closed comment, at the head of the bytes
pub record LineFault (at : ℕ) (bytes : List ℕ) (fault : Fault) : Type 0 where
  pub body : List ℕ
  pub text : List ℕ
  pub rest : List ℕ
  pub joined : bytes ≡ text ++ rest
  pub comment : IsLineComment body text rest
  pub inside : CommentFault at (jml_text false body) fault

pub record BlockFault (at : ℕ) (bytes : List ℕ) (fault : Fault) : Type 0 where
  pub body : List ℕ
  pub text : List ℕ
  pub rest : List ℕ
  pub joined : bytes ≡ text ++ rest
  pub comment : IsBlockComment body text
  pub inside : CommentFault at (jml_text true body) fault

abbrev pub JavaFault : Start → Faults
JavaFault LineComment at bytes fault = LineFault at bytes fault
JavaFault BlockComment at bytes fault = (IsOpen bytes × (fault ≡ OpenComment at)) ⊎ BlockFault at bytes fault
JavaFault White at bytes fault = ⊥
JavaFault WordStart at bytes fault = ⊥
JavaFault NumberStart at bytes fault = IsPlainFault NumberStart false at bytes fault
JavaFault SignStart at bytes fault = IsPlainFault SignStart false at bytes fault

abbrev pub IsJavaFault : Faults
IsJavaFault at [] fault = ⊥
IsJavaFault at (b ∷ bytes) fault = JavaFault (start_of false (b ∷ bytes)) at (b ∷ bytes) fault

-- ---- Unicode escapes (JLS 3.3)

-- how many backslashes stand directly before that place
abbrev pub backslashes_before : List ℕ → ℕ → ℕ
backslashes_before bytes zero = 0
backslashes_before bytes (suc n) = cond (get_or bytes n 0 == 92) (suc (backslashes_before bytes n)) 0

abbrev pub is_odd : ℕ → Bool
is_odd zero = false
is_odd (suc n) = not (is_odd n)

-- a backslash behind an even number of backslashes, and a `u`
pub record IsEscape (bytes : List ℕ) (at : ℕ) : Type 0 where
  pub within : at + 1 < length bytes
  pub backslash : get_or bytes at 0 ≡ 92
  pub letter : get_or bytes (at + 1) 0 ≡ 117
  pub even : is_odd (backslashes_before bytes at) ≡ false

-- ---- whole texts

-- the text has these tokens
pub record Spells (bytes : List ℕ) (tokens : List Token) : Type 0 where
  pub parts : Whole IsJavaPart 0 bytes tokens
  pub plain : (at : ℕ) → IsEscape bytes at → ⊥

-- the text has that fault: where its parts end, or at a Unicode escape
abbrev pub HasFault : List ℕ → Fault → Type 0
HasFault bytes fault = Stops IsJavaPart IsJavaFault 0 bytes fault ⊎ ((at : ℕ) × IsEscape bytes at × (fault ≡ BadByte at))

pub record IsFirstFault (bytes : List ℕ) (fault : Fault) : Type 0 where
  pub there : HasFault bytes fault
  pub first : (other : Fault) → HasFault bytes other → place fault ≤ place other
