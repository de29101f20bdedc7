-- What the code's pairs of numbers stand for.
use Rattle.std.specs.Prelude.{ℕ}
use Rattle.jd_base.specs.declared.ids.ClassId.{ClassId}
use Rattle.jd_base.specs.declared.ids.MethodId.{MethodId}
use Rattle.jd_syntax.specs.Codes.{Expr, Exprs, VirtualCall}

-- a method and the class that sees it
abbrev pub seen_view : ClassId × MethodId → ℕ × ℕ
seen_view p = (p.0.0, p.1.0)

-- a call of it
abbrev pub seen_call : ℕ × ℕ → Expr → Exprs → Expr
seen_call p receiver operands = VirtualCall p.0 p.1 receiver operands
