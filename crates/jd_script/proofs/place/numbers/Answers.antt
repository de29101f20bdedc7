use Rattle.std.proofs.Common.{◌≡◌, ◌+◌, drop, None, Some, [], cond, sym, ap, ◌∙◌, ◌∷◌, ◌++◌}
use Rattle.std.proofs.lemmas.Bool.{eq-eqb, ne_eqb}
use Rattle.jd_script.proofs.Numbers.{same, dot, dot_early, digit, at_end}
use Rattle.jd_script.proofs.place.numbers.Goals as goal
use Rattle.jd_script.proofs.place.numbers.Goals.{then-byte-eq46+else-number-eq0+in_ok-push, else-byte-eq46+in-Some}

pub returns-then-number-eq0 : goal.returns-then-number-eq0
returns-then-number-eq0 c = dot_early c.args.bytes.now c.loop-byte.byte-index c.loop-byte.done.items c.loop-byte.number _ c.loop-byte-test.true c.if-byte-eq46.true c.if-number-eq0.true c.loop-byte.invariant

pub returns-in-None : goal.returns-in-None
returns-in-None c = digit c.args.bytes.now c.loop-byte.byte-index c.loop-byte.done.items c.loop-byte.number None _ c.loop-byte-test.true c.if-byte-eq46.false c.in-None.ensures c.loop-byte.invariant

pub loop-byte-preserved : goal.loop-byte-preserved
loop-byte-preserved c = elim c.if-byte-eq46.branch [
  | then-byte-eq46+else-number-eq0+in_ok-push w ↦
      let items : c.if-byte-eq46.done.items ≡ c.loop-byte.done.items ++ c.loop-byte.number ∷ [] = cc (w.done-is, w.in_ok-push.ensures.items) in
      same (drop (c.loop-byte.byte-index + 1) c.args.bytes.now) _ _ _ _ _ items w.number-is (dot c.args.bytes.now c.loop-byte.byte-index c.loop-byte.done.items c.loop-byte.number _ c.loop-byte-test.true w.if-byte-eq46.true w.if-number-eq0.false c.loop-byte.invariant)
  | else-byte-eq46+in-Some w ↦
      let items : c.if-byte-eq46.done.items ≡ c.loop-byte.done.items = cc (w.done-is) in
      same (drop (c.loop-byte.byte-index + 1) c.args.bytes.now) _ _ _ _ _ items w.number-is (digit c.args.bytes.now c.loop-byte.byte-index c.loop-byte.done.items c.loop-byte.number (Some w.in-Some.more) _ c.loop-byte-test.true w.if-byte-eq46.false w.in-Some.ensures c.loop-byte.invariant)
]

pub returns-then-number-eq0-2 : goal.returns-then-number-eq0-2
returns-then-number-eq0-2 c = ap (λ t. cond t None (Some (c.loop-byte.done.items ++ c.loop-byte.number ∷ []))) (sym (eq-eqb _ _ c.if-number-eq0-2.true)) ∙ at_end c.args.bytes.now c.loop-byte.byte-index c.loop-byte.done.items c.loop-byte.number _ c.loop-byte-test.false c.loop-byte.invariant

pub returns : goal.returns
returns c = ap Some c.in_ok-push-2.ensures.items ∙ (ap (λ t. cond t None (Some (c.loop-byte.done.items ++ c.loop-byte.number ∷ []))) (sym (ne_eqb _ _ c.if-number-eq0-2.false)) ∙ at_end c.args.bytes.now c.loop-byte.byte-index c.loop-byte.done.items c.loop-byte.number _ c.loop-byte-test.false c.loop-byte.invariant)
