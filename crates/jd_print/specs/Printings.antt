-- What a printing holds.
use Rattle.std.specs.Prelude.{◌≡◌, IfOk}
use Rattle.jd_written.specs.Written.{Text}
use Rattle.jd_print.specs.declared.printing.Printing.{Printing}

-- where there was memory for all, this text is written
abbrev pub Holds : Printing → Text → Type 0
Holds p t = IfOk p.bytes (λ v. v.items ≡ t.0) × (p.tight ≡ t.1)
