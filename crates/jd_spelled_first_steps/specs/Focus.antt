-- Code that the grammar spells, and what a `return` at a focus has to give.
use Rattle.std.specs.Prelude.{true, ◌≡◌}
use Rattle.jd_model.specs.Contexts.{Context, Here, InBlock, InCatch, InFinally, InFrame}
use Rattle.jd_syntax.specs.Codes.{PlainCode}
use Rattle.jd_tforms.specs.Known.{CodeKnown}
use Rattle.jd_tforms.specs.Sorted.{Returns, code_sorted, returns_of}
use Rattle.jd_tgrammar.specs.NameTables.{NameTable}

-- each part is known and has the sort of its place, where a `return` has to give this
abbrev pub SpelledCode : NameTable → Returns → PlainCode → Type 0
SpelledCode names r c = CodeKnown names c × (code_sorted names r c ≡ true)

-- what the innermost frame around the focus asks; what the code itself has to give where the context has no frame
abbrev pub returns_at : Returns → Context → Returns
returns_at r (Here rest) = r
returns_at r (InBlock l k rest) = returns_at r k
returns_at r (InFrame q k rest) = returns_at (returns_of q) k
returns_at r (InCatch k x h rest) = returns_at r k
returns_at r (InFinally k f rest) = returns_at r k
