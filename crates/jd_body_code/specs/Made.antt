-- A body as it is made.
use Rattle.std.specs.Prelude.{◌≡◌, map, IfOk}
use Rattle.std.specs.declared.result.Result.{Result}
use Rattle.jd_base.specs.declared.memory.NoMemory.{NoMemory}
use Rattle.jd_syntax.specs.CodeViews.{code_view}
use Rattle.jd_syntax.specs.Names.{decl_view}
use Rattle.jd_bodies.specs.Bodies.{PlainBody}
use Rattle.jd_code_makers.specs.Held.{names_of}
use Rattle.jd_body_code.specs.declared.bodies.Made.{Made}

abbrev pub made_view : Made → PlainBody
made_view b = record { variables = map decl_view b.variables.items; code_ = code_view b.code; scopes = map names_of b.scopes.items }

abbrev pub GivesBody : Result Made NoMemory → PlainBody → Type 0
GivesBody r b = IfOk r (λ m. made_view m ≡ b)
