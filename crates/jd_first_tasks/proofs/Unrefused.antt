-- No token of bodies or JML is refused.
use Rattle.std.proofs.Common.{None, Option, Some, ap, option_map, refl, sym, ◌∙◌, ◌≡◌, List}
use Rattle.std.proofs.lemmas.Option.{none-some}
use Rattle.jd_bodies.specs.Declarations.{AreDeclarations, Declarations}
use Rattle.jd_bodies.specs.Refused as bodies
use Rattle.jd_declaration_laws.specs.Laws.{DeclarationsAreOne}
use Rattle.jd_jclasses.specs.Refusals.{AreClasses}
use Rattle.jd_refusals.specs.Refusals.{IsFirst, PlainRefused, of_body, of_jml}
use Rattle.jd_refusals.specs.Refusals.IsFirst.{behind_bodies, in_body}
use Rattle.jd_specifications.specs.Refused as jml
use Rattle.jd_syntax.specs.JavaTrees.{JavaUnit}

none_found : {X : Type 0} (g : X → PlainRefused) (o : Option X) → None ≡ option_map g o → o ≡ None
none_found g None e = refl
none_found g (Some x) e = absurd (none-some (g x) e)

pub record NoneRefused (d : Declarations) (units : List JavaUnit) : Type 0 where
  pub in_bodies : bodies.first_fault d units ≡ None
  pub in_jml : jml.first_fault d units ≡ None

pub refused_at : (law : DeclarationsAreOne) (units : List JavaUnit) → AreClasses units → (d : Declarations) → AreDeclarations units d → (r : Option PlainRefused) → None ≡ r → IsFirst units r → NoneRefused d units
refused_at law units are d is r none (in_body x h) = absurd (none-some x none)
refused_at law units are d is r none (behind_bodies _ h g) = record {
  in_bodies = ap (λ e. bodies.first_fault e units) (law units are d h.first.0 is h.first.1) ∙ sym h.first.2 ∙ none_found of_body h.found h.is;
  in_jml = ap (λ e. jml.first_fault e units) (law units are d g.first.0 is g.first.1) ∙ sym g.first.2 ∙ none_found of_jml g.found (none ∙ g.is);
}
