use Rattle.std.proofs.Common.{List, ap, map, ◌∙◌}
use Rattle.indexmap.proofs.CallerLemmas.{insert_entry-new}
use Rattle.jd_bodies.specs.Scopes.{Local}
use Rattle.jd_locals.specs.Scoped.{label_of}
use Rattle.jd_locals.proofs.Newest.{entered, is_new, same_name}
use Rattle.jd_locals.proofs.in_body.InBodyInScope.enter.Goals as goal

pub returns : goal.returns
returns c =
    let key = c.in_ok-copy_bytes.field-0 in
    ap (λ (l : List Local). record { locals = l; labels = map label_of c.args.self.now.labels.items; in_loop = c.args.self.now.in_loop })
    (entered c.args.self.now.locals.entries c.insert.new.self.entries key c.args.name.now c.args.value c.in_ok-copy_bytes.ensures
    (c.in_ok-insert.ensures.entries ∙ insert_entry-new same_name c.args.self.now.locals key c.args.value (is_new c.args.name.now key c.args.self.now.locals.entries c.len-count.ensures.unique c.in_ok-copy_bytes.ensures c.requires.new)))
