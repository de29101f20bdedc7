use Rattle.std.proofs.Common.{List, Vec, ap, ℕ, bytes_eq, if◌then◌else◌, ◌∙◌}
use Rattle.std.specs.declared.alloc.Global.{Global}
use Rattle.jd_code_makers.specs.Held.{number_at}
use Rattle.jd_code_makers.proofs.Naming.{set_at}
use Rattle.jd_code_makers.proofs.names.set_number.Goals as goal

pub returns : goal.returns
returns c = λ q.
    ap (λ (es : List (Vec ℕ Global × ℕ)). number_at es q) c.in_ok-insert.ensures.entries
    ∙ set_at c.args.numbers.now.entries c.in_ok-copy_bytes.field-0 c.args.number q
    ∙ ap (λ (n : List ℕ). if bytes_eq n q then c.args.number else number_at c.args.numbers.now.entries q) c.in_ok-copy_bytes.ensures
