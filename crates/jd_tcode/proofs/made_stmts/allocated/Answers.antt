use Rattle.std.proofs.Common.{◌≡◌, Option, Some, None, option_map, Result, sym, ap, ◌∙◌, subst}
use Rattle.std.specs.Option.{option_or}
use Rattle.jd_syntax.specs.CodeViews.{stmt_view}
use Rattle.jd_syntax.specs.Codes as trees
use Rattle.jd_tforms.specs.Reading.{both}
use Rattle.jd_tcode.specs.Pairing.{Gives}
use Rattle.jd_tcode.proofs.made_stmts.allocated.Goals as goal

-- no class stands there
no_object : {A T X Y Z E : Type 0} (view : A → T) (made : Result (Option A) E) (f : X → Y → T) (g : X → Z → T) (p : Option X) (q : Option Y) (r : Option Z) →
    None ≡ q → Gives view made (both g p r) → Gives view made (option_or (both f p q) (both g p r))
no_object view made f g p q r none given = subst (λ o. Gives view made (option_or (both f p o) (both g p r))) none (by p given)
  where
    by : (o : Option _) → Gives view made (both g o r) → Gives view made (option_or (both f o None) (both g o r))
    by None h = h
    by (Some x) h = h

pub returns-in-None : goal.returns-in-None
returns-in-None c = λ p q r given is length.
    no_object stmt_view c.array.result trees.AllocObject trees.AllocArray p q r (sym (ap (option_map (λ k. k.0)) c.in-None.is) ∙ is) (c.array.ensures p r given length)
