use Rattle.std.proofs.Common.{List, [], ◌∷◌, map, sym, ap, ◌∙◌}
use Rattle.std.proofs.lemmas.List.{map-append}
use Rattle.jd_statement_parts.specs.Catching.{PlainPart, caught_by, part_view}
use Rattle.jd_statement_parts.specs.declared.catching.Part.{Part}
use Rattle.jd_statement_parts.proofs.Chaining.{chain_before, chain_last}
use Rattle.jd_statement_parts.proofs.catching.chained.Goals as goal

pub loop-part-preserved : goal.loop-part-preserved
loop-part-preserved c = λ x k.
    let i = c.loop-part.invariant x k in (
      caught_by x (part_view c.in-Some.part) i.0,
      c.caught_by-chain.ensures x i.0 k i.1,
      sym (chain_last x (map part_view c.pop.new.self.items) (part_view c.in-Some.part) i.0)
          ∙ sym (ap (λ (l : List PlainPart). chain_before x l i.0) (ap (λ (l : List Part). map part_view l) c.in-Some.ensures.items ∙ map-append part_view c.pop.new.self.items (c.in-Some.part ∷ [])))
          ∙ i.2,
    )
