use Rattle.std.proofs.Common.{◌++◌, ◌∷◌, [], ◌-◌, take, get_or, sym, ap, ◌∙◌, arith, rules, ne_eqb}
use Rattle.jd_lex.specs.Parts.{without_last_ats}
use Rattle.jd_lex.proofs.Heads.{last_of, without_at, without_other}
use Rattle.jd_lex.proofs.runs.trimmed_len.Goals as goal

pub loop-n-preserved : goal.loop-n-preserved
loop-n-preserved c =
    let n = c.loop-n.n in
    let bytes = c.args.bytes.now in
    record {
      within = omega (arith, c.loop-n.invariant.within);
      same = sym (without_at (take (n - 1) bytes))
          ∙ (ap without_last_ats (ap (λ b. take (n - 1) bytes ++ b ∷ []) (sym c.if-bytes-n-eq64.true) ∙ sym (last_of bytes n c.loop-n-test.true c.loop-n.invariant.within)) ∙ c.loop-n.invariant.same);
    }

pub returns-else-bytes-n-eq64-clause-trimmed : goal.returns-else-bytes-n-eq64-clause-trimmed
returns-else-bytes-n-eq64-clause-trimmed c =
    let n = c.loop-n.n in
    let bytes = c.args.bytes.now in
    let is = last_of bytes n c.loop-n-test.true c.loop-n.invariant.within in
    is ∙ (sym (without_other (take (n - 1) bytes) (get_or bytes (n - 1) 0) (search (rules, ne_eqb, c.if-bytes-n-eq64.false))) ∙ (ap without_last_ats (sym is) ∙ c.loop-n.invariant.same))
