use Rattle.std.proofs.Common.{Bool, List, ap, ap₂, map, sym, ℕ, ◌∙◌}
use Rattle.std.proofs.lemmas.List.{take-map}
use Rattle.jd_bodies.specs.Scopes.{Local}
use Rattle.jd_locals.specs.Scoped.{label_of}
use Rattle.jd_locals.proofs.Newest.{left}
use Rattle.jd_locals.proofs.in_body.InBodyInScope.leave.Goals as goal

pub returns : goal.returns
returns c =
    ap₂ (λ (l : List Local) (ls : List (List ℕ × Bool)). record { locals = l; labels = ls; in_loop = c.args.mark.in_loop })
    (left c.args.self.now.locals.entries c.truncate.new.self.entries c.args.mark.locals c.truncate.ensures.entries)
    (ap (map label_of) c.truncate-2.ensures.items ∙ sym (take-map label_of c.args.mark.labels c.args.self.now.labels.items))
