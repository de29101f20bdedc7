use Rattle.std.proofs.Common.{List, Vec, ap, sym, ℕ, bytes_eq, ◌∙◌}
use Rattle.std.specs.Map.{lookup}
use Rattle.indexmap.proofs.CallerLemmas.{insert_entry-new}
use Rattle.jd_declared.specs.Named.{or_named}
use Rattle.jd_declared.proofs.Naming.{no_value, pushed}
use Rattle.jd_declared.proofs.named.Named.add.Goals as goal

pub returns : goal.returns
returns g c = λ q.
    let key = c.in_ok-copy_bytes.field-0 in
    ap (lookup (λ (k : Vec ℕ _). bytes_eq q k.items))
    (c.in_ok-insert.ensures.entries
    ∙ insert_entry-new (λ (a b : Vec ℕ _). bytes_eq a.items b.items) c.args.self.now.values key c.args.value
    (ap (λ (n : List ℕ). lookup (λ (k : Vec ℕ _). bytes_eq n k.items) c.args.self.now.values.entries) c.in_ok-copy_bytes.ensures ∙ sym c.get.ensures.value ∙ no_value c.get.result c.is_some.result c.is_some.ensures c.if-is_some.false))
    ∙ pushed q c.args.self.now.values.entries key c.args.value
    ∙ ap (λ (n : List ℕ). or_named (lookup (λ (k : Vec ℕ _). bytes_eq q k.items) c.args.self.now.values.entries) n c.args.value q) c.in_ok-copy_bytes.ensures
