use Rattle.std.proofs.Common.{inl, inr, refl, arith, length, drop, true≢false, sym, ◌∙◌}
use Rattle.std.proofs.lemmas.Slice.Eq.{starts_is}
use Rattle.std.proofs.lemmas.Bool.Decides.{Decides-eqb}
use Rattle.jd_lex.proofs.signs.longer.Goals as goal

pub returns-then-starts_with : goal.returns-then-starts_with
returns-then-starts_with c =
    let s = starts_is Decides-eqb c.args.bytes.now c.args.sign.now c.starts_with.result c.starts_with.ensures.value in
    inr (refl, omega (arith, c.if-sign-best.false), (drop (length c.args.sign.now) c.args.bytes.now, s.0 c.if-starts_with.true))

pub returns-else-starts_with : goal.returns-else-starts_with
returns-else-starts_with c =
    let s = starts_is Decides-eqb c.args.bytes.now c.args.sign.now c.starts_with.result c.starts_with.ensures.value in
    inl (refl, λ b. absurd (true≢false (sym (s.1 b.0 b.1) ∙ c.if-starts_with.false)))
