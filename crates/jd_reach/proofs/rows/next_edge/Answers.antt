use Rattle.std.proofs.Common.{◌+◌, ◌-◌, ◌%◌, inl, inr, arith}
use Rattle.std.proofs.lemmas.Bool.{cases_lt}
use Rattle.jd_reach.specs.Rows.{row_bit}
use Rattle.jd_reach.proofs.Bits.{edge_in_word, word_of_edge}
use Rattle.jd_reach.proofs.Ways.{are_below}
use Rattle.jd_reach.proofs.rows.next_edge.Goals as goal

pub returns-then-found-nodes-clause-found : goal.returns-then-found-nodes-clause-found
returns-then-found-nodes-clause-found c = (
  omega (arith, c.in-Some.ensures.found, c.loop-bit.invariant),
  c.if-found-nodes.true,
  edge_in_word c.args.nodes c.args.width c.args.row c.loop-bit.bit c.args.words.now c.requires.row c.in-Some.place c.in-Some.ensures.found.1 c.in-Some.ensures.found.2 c.if-found-nodes.true,
)

pub returns-then-found-nodes-clause-first : goal.returns-then-found-nodes-clause-first
returns-then-found-nodes-clause-first c b le edge =
    elim (cases_lt b c.loop-bit.bit) [
      | inl passed ↦ absurd (c.loop-bit.invariant.1 b le passed edge)
      | inr ahead ↦ elim (cases_lt b (c.loop-bit.bit - c.loop-bit.bit % 64 + 64)) [
        | inl near ↦
            let word = word_of_edge c.args.nodes c.args.width c.args.row c.loop-bit.bit c.args.words.now b ahead near edge in
            let low = c.in-Some.ensures.lowest (b % 64) word.0 word.2 in
            omega (arith, low, word.1)
        | inr far ↦ omega (arith, far, c.in-Some.ensures.found)
      ]
    ]

pub returns-in-Some-clause-first : goal.returns-in-Some-clause-first
returns-in-Some-clause-first c b le edge =
    let below = ((are_below c.args.nodes (row_bit c.args.width c.args.words.now)).ends c.args.row b edge).1 in
    elim (cases_lt b c.loop-bit.bit) [
      | inl passed ↦ c.loop-bit.invariant.1 b le passed edge
      | inr ahead ↦ elim (cases_lt b (c.loop-bit.bit - c.loop-bit.bit % 64 + 64)) [
        | inl near ↦
            let word = word_of_edge c.args.nodes c.args.width c.args.row c.loop-bit.bit c.args.words.now b ahead near edge in
            let low = c.in-Some.ensures.lowest (b % 64) word.0 word.2 in
            omega (arith, low, word.1, below, c.if-found-nodes.false)
        | inr far ↦ omega (arith, far, below, c.in-Some.ensures.found, c.if-found-nodes.false)
      ]
    ]

pub loop-bit-preserved : goal.loop-bit-preserved
loop-bit-preserved c = (
  omega (arith, c.loop-bit.invariant),
  λ b le near edge.
      elim (cases_lt b c.loop-bit.bit) [
        | inl passed ↦ c.loop-bit.invariant.1 b le passed edge
        | inr ahead ↦
            let word = word_of_edge c.args.nodes c.args.width c.args.row c.loop-bit.bit c.args.words.now b ahead near edge in
            c.in_default.ensures.lowest (b % 64) word.0 word.2
      ],
)
