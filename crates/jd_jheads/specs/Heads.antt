-- The heads of a program's classes, and when files are refused for them.
use Rattle.std.specs.Prelude.{⊤, ℕ, List}
use Rattle.jd_syntax.specs.JavaTrees.{JavaUnit}
use Rattle.jd_jclasses.specs.Refusals.{IsRefused}
use Rattle.jd_jclasses.specs.Refusals as plain
use Rattle.jd_jheads.specs.Names.{name_list}
use Rattle.jd_jheads.specs.declared.heads.Heads.{Heads}
use Rattle.jd_jheads.specs.declared.refusal.HeadRefusal.{HeadRefusal}
use Rattle.jd_jheads.specs.declared.refusal.HeadRefusal.TheVariants as code

-- the names of the classes, by their numbers
abbrev pub names_of : Heads → List (List ℕ)
names_of h = name_list h.names

-- the files are refused for this reason at this place; want of memory says nothing of them
abbrev pub HeadRefuses : List JavaUnit → HeadRefusal → Type 0
HeadRefuses units (code.DuplicateClass file at) = IsRefused units (plain.DuplicateClass file at)
HeadRefuses units (code.UnknownSuper file at) = IsRefused units (plain.UnknownSuper file at)
HeadRefuses units (code.CyclicExtends file at) = IsRefused units (plain.CyclicExtends file at)
HeadRefuses units code.NoMemory = ⊤
