-- What is known where one file more is read.
use Rattle.std.specs.Prelude.{◌≡◌, ◌++◌, ℕ, List, [], ◌∷◌, map, Some}
use Rattle.jd_lex.specs.Parts.{Fault}
use Rattle.jd_syntax.specs.JavaTrees.{JavaUnit, unit_view}
use Rattle.jd_source.specs.Sources.{IsSource, IsReason, Reason, Faulty, reason_of}
use Rattle.jd_source.specs.declared.read.SourceRefusal.{SourceRefusal}
use Rattle.jd_source.specs.declared.read.SourceRefusal.TheVariants.{Lexical, Grammatical}
use Rattle.jd_files.specs.Files.{HasTokens}
use Rattle.jd_files.specs.declared.reading.More.{More}
use Rattle.jd_files.specs.declared.reading.More.TheVariants as mores
use Rattle.jd_files.specs.declared.reading.Reading.{Reading}
use Rattle.jd_files.specs.declared.reading.Reading.TheVariants as readings

-- with one more file that has this tree
abbrev pub HasTreeToo : Reading → JavaUnit → Reading → Type 0
HasTreeToo (readings.Trees us) t (readings.Trees vs) = map unit_view vs.items ≡ map unit_view us.items ++ t ∷ []
HasTreeToo (readings.Trees us) t (readings.Misfit n e) = ⊥
HasTreeToo (readings.Misfit n e) t next = next ≡ readings.Misfit n e

-- with one more file, of this number, that is none for this reason though it has tokens
abbrev pub HasMisfitToo : Reading → ℕ → SourceRefusal → Reading → Type 0
HasMisfitToo (readings.Trees us) number why next = next ≡ readings.Misfit number why
HasMisfitToo (readings.Misfit n e) number why next = next ≡ readings.Misfit n e

-- with one more file, of this number, that is refused for this reason
abbrev pub IsRefusedToo : Reading → ℕ → SourceRefusal → More → Type 0
IsRefusedToo so_far number (Lexical e) (mores.Tokens next) = ⊥
IsRefusedToo so_far number (Lexical e) (mores.Faulty why) = why ≡ Lexical e
IsRefusedToo so_far number (Grammatical e) (mores.Tokens next) = HasMisfitToo so_far number (Grammatical e) next
IsRefusedToo so_far number (Grammatical e) (mores.Faulty why) = ⊥

-- with one more file of this number and these bytes
pub data ReadsMore (so_far : Reading) (number : ℕ) (bytes : List ℕ) : More → Type 0 where
  tree : (t : JavaUnit) (next : Reading) → IsSource bytes t → HasTreeToo so_far t next → ReadsMore so_far number bytes (mores.Tokens next)
  misfit : (e : SourceRefusal) (r : Reason) (next : Reading) → reason_of e ≡ Some r → HasTokens bytes → IsReason bytes r → HasMisfitToo so_far number e next → ReadsMore so_far number bytes (mores.Tokens next)
  faulty : (e : SourceRefusal) (fault : Fault) → reason_of e ≡ Some (Faulty fault) → IsReason bytes (Faulty fault) → ReadsMore so_far number bytes (mores.Faulty e)
