-- Files that are read call what they declare by identifiers.
use Rattle.std.specs.Prelude.{ℕ, List, [], ◌∷◌}
use Rattle.jd_lex.specs.Parts.{Token}
use Rattle.jd_lex.specs.Lexing.{Spells}
use Rattle.jd_ancestry.specs.Depths.{IsDepths}
use Rattle.jd_syntax.specs.JavaTrees.{JavaUnit}
use Rattle.jd_syntax.specs.Names.{Name}
use Rattle.jd_jparse.specs.Parses.{Reads}
use Rattle.jd_jclasses.specs.Classes.{parents}
use Rattle.jd_jclasses.specs.Refusals.{AreClasses}
use Rattle.jd_files.specs.Files.{AreTrees}
use Rattle.jd_names.specs.Identifiers.{AreIdentifiers}
use Rattle.jd_names.specs.Laws.{MembersAreKnown}
use Rattle.jd_names.specs.Tables.{name_table, program_tables}

pub record NamesAreIdentifiers : Type 0 where
  -- the tree of one file, before its JML is read
  pub read : (bytes : List ℕ) (tokens : List Token) (unit : JavaUnit) → Spells bytes tokens → Reads tokens unit → AreIdentifiers (unit ∷ [])
  -- the trees of files
  pub files : (files : List (List ℕ)) (units : List JavaUnit) → AreTrees files units → AreIdentifiers units
  -- so each class, field and routine of a program that is read is the one that its word names
  pub known : (files : List (List ℕ)) (units : List JavaUnit) (depths : List ℕ) (variables : List Name) → AreTrees files units → AreClasses units
      → IsDepths (parents units) depths → MembersAreKnown units (name_table (program_tables units) variables)
