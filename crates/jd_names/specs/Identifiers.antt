-- The words that Java's names and the names of variables are.
use Rattle.std.specs.Prelude.{◌≡◌, ◌≢◌, ◌<◌, ◌==◌, ◌&&◌, ◌||◌, ℕ, Bool, true, false, not, List, [], ◌∷◌, Some}
use Rattle.std.specs.List.{list_all, slice_get}
use Rattle.jd_syntax.specs.JavaTrees.{JavaUnit}
use Rattle.jd_syntax.specs.Names.{Name}
use Rattle.jd_jclasses.specs.Classes.{DeclaredClass, declared_classes}
use Rattle.jd_jclasses.specs.Members.{Declared, declared_members}
use Rattle.jd_tforms.specs.Shapes.{is_digit, is_letter}

-- letters, digits, `_` and `$`
abbrev pub is_java_byte : ℕ → Bool
is_java_byte b = is_letter b || is_digit b || (b == 95) || (b == 36)

-- an identifier (JLS 3.8)
abbrev pub is_identifier : List ℕ → Bool
is_identifier [] = false
is_identifier (b ∷ bs) = not (is_digit b) && list_all is_java_byte (b ∷ bs)

-- what files declare is called by identifiers
pub record AreIdentifiers (units : List JavaUnit) : Type 0 where
  pub classes : (i : ℕ) (d : DeclaredClass) → slice_get (declared_classes units) i ≡ Some d → is_identifier d.tree.name.name ≡ true
  pub members : (i : ℕ) (d : Declared) → slice_get (declared_members units) i ≡ Some d → is_identifier d.name.name ≡ true

-- ---- variables of a method: an identifier, or none, and perhaps `'` with a number

abbrev pub is_variable_byte : ℕ → Bool
is_variable_byte b = is_java_byte b || (b == 39)

abbrev pub is_variable_word : List ℕ → Bool
is_variable_word [] = false
is_variable_word (b ∷ bs) = not (is_digit b) && list_all is_variable_byte (b ∷ bs)

-- each has such a word, and no two have one name
pub record AreVariables (variables : List Name) : Type 0 where
  pub words : (i : ℕ) (x : Name) → slice_get variables i ≡ Some x → is_variable_word x.text ≡ true
  pub apart : (i j : ℕ) (x y : Name) → i < j → slice_get variables i ≡ Some x → slice_get variables j ≡ Some y → x.text ≢ y.text
