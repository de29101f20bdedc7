use Rattle.std.proofs.Common.{◌≡◌, ◌∙◌, map, ap}
use Rattle.std.proofs.lemmas.Result.{IfOk-weaker}
use Rattle.std.specs.Option.{unwrap_or}
use Rattle.jd_components.specs.Roots.{AreRoots}
use Rattle.jd_components.proofs.Tops.{are_roots}
use Rattle.jd_components.proofs.roots.roots.Goals as goal

pub returns : goal.returns
returns c =
    IfOk-weaker c.known.result (λ v. v.items ≡ map (λ o. unwrap_or o 0) c.deref.result.now) (λ v. AreRoots c.args.parents.now v.items)
    (λ v e. are_roots c.args.parents.now c.args.depths.now c.requires.depths c.requires.nodes c.in_ok-tops.tops.items c.in_ok-values.values.items c.in_ok-tops.ensures c.in_ok-values.ensures v.items
    (e ∙ ap (map (λ o. unwrap_or o 0)) c.deref.ensures.value))
    c.known.ensures
