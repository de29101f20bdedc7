-- The classes of files in the code's own form.
use Rattle.std.specs.Prelude.{ℕ}
use Rattle.jd_syntax.specs.JavaTrees.{JavaClass, class_view}
use Rattle.jd_jclasses.specs.Classes.{DeclaredClass}
use Rattle.jd_jheads.specs.declared.placed.Placed.{Placed}

abbrev pub in_file : ℕ → JavaClass → DeclaredClass
in_file file c = record { file = file; tree = c }

abbrev pub placed_view : Placed → DeclaredClass
placed_view p = in_file p.file (class_view p.class.now)
