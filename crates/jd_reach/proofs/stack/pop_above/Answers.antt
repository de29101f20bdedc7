use Rattle.std.proofs.Common.{◌≡◌, ◌++◌, ◌∷◌, [], List, ℕ, sym, ap, ◌∙◌}
use Rattle.jd_reach.proofs.Stacks.{front_in, front_rises, not_the_end}
use Rattle.jd_reach.proofs.stack.pop_above.Goals as goal

pub loop-last-preserved : goal.loop-last-preserved
loop-last-preserved c =
    let end = c.in-Some.ensures.last in
    let ends : c.loop-last.numbers.items ≡ end.0 ++ c.in-Some.last ∷ [] = sym c.deref.ensures.value ∙ end.1 in
    let left : c.drop_last.new.numbers.items ≡ end.0 = c.drop_last.ensures end.0 c.in-Some.last ends in
    let whole : c.loop-last.numbers.items ≡ c.drop_last.new.numbers.items ++ c.in-Some.last ∷ [] =
    ends ∙ ap (λ (l : List ℕ). l ++ c.in-Some.last ∷ []) (sym left) in
    record {
      rising = front_rises c.loop-last.numbers.items c.drop_last.new.numbers.items c.in-Some.last whole c.loop-last.invariant.rising;
      fewer = λ n there. c.loop-last.invariant.fewer n (front_in c.loop-last.numbers.items c.drop_last.new.numbers.items c.in-Some.last whole n there);
      kept = λ n there le.
          not_the_end c.loop-last.numbers.items c.drop_last.new.numbers.items c.in-Some.last whole c.args.limit n c.if-last-limit.false (c.loop-last.invariant.kept n there le) le;
    }
