-- The view of a handler of a `try`.
use Rattle.std.specs.Prelude.{ℕ}
use Rattle.jd_syntax.specs.declared.java.Handler.{Handler, fold-Handler}
use Rattle.jd_syntax.specs.JavaTrees.{JavaStmt, JavaHandler, handler_layer, stmt_form_layer, stmt_layer}

abbrev pub java_handler_view : Handler → JavaHandler
java_handler_view = fold-Handler (ℕ → JavaStmt) JavaHandler JavaStmt stmt_form_layer handler_layer stmt_layer
