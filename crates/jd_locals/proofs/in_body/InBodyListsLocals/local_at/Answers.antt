use Rattle.std.proofs.Common.{ℕ, List, None, Some, ap, option_map, sym, ◌∙◌}
use Rattle.std.specs.Map.Iter.{deref_pair}
use Rattle.jd_locals.proofs.Newest.{listed}
use Rattle.jd_locals.proofs.in_body.InBodyListsLocals.local_at.Goals as goal

pub returns-in-None : goal.returns-in-None
returns-in-None c = listed c.args.self.now.locals.entries c.args.index None (ap (option_map deref_pair) (sym c.in-None.is) ∙ c.get_index.ensures.entry)

pub returns-in-Some : goal.returns-in-Some
returns-in-Some c =
    ap (λ (n : List ℕ). Some (record { name = n; type = c.in-Some.value.now })) c.deref.ensures.value
    ∙ listed c.args.self.now.locals.entries c.args.index (Some (c.in-Some.name.now, c.in-Some.value.now)) (ap (option_map deref_pair) (sym c.in-Some.is) ∙ c.get_index.ensures.entry)
