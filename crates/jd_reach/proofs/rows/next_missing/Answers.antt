use Rattle.std.proofs.Common.{◌+◌, ◌-◌, ◌*◌, ◌/◌, ◌%◌, get_or, inl, inr, arith}
use Rattle.std.proofs.lemmas.Bool.{cases_lt}
use Rattle.jd_reach.specs.Rows.{row_bit}
use Rattle.jd_reach.proofs.Bits.{edge_in_word, lacks, missing_in_word, unset_in_word}
use Rattle.jd_reach.proofs.Ways.{are_below}
use Rattle.jd_reach.proofs.rows.next_missing.Goals as goal

pub returns-then-found-edges-clause-found : goal.returns-then-found-edges-clause-found
returns-then-found-edges-clause-found c =
    let found = c.in-Some.ensures.found in
    let both = lacks (get_or c.args.edges.words.now (c.args.member * c.args.edges.width + c.loop-bit.bit / 64) 0) (get_or c.args.closed.now (c.args.row * c.args.edges.width + c.loop-bit.bit / 64) 0) c.in-Some.place
    (c.type_inv.closed (c.args.row * c.args.edges.width + c.loop-bit.bit / 64)).fits found.1 found.2 in (
      omega (arith, found.0, c.loop-bit.invariant.0),
      c.if-found-edges.true,
      edge_in_word c.args.edges.nodes c.args.edges.width c.args.member c.loop-bit.bit c.args.edges.words.now c.requires.member c.in-Some.place found.1 both.0 c.if-found-edges.true,
      unset_in_word c.args.edges.width c.args.row c.loop-bit.bit c.args.closed.now c.in-Some.place found.1 both.1,
    )

pub returns-then-found-edges-clause-first : goal.returns-then-found-edges-clause-first
returns-then-found-edges-clause-first c b le edge unset =
    elim (cases_lt b c.loop-bit.bit) [
      | inl passed ↦ absurd (c.loop-bit.invariant.1 b le passed edge unset)
      | inr ahead ↦ elim (cases_lt b (c.loop-bit.bit - c.loop-bit.bit % 64 + 64)) [
        | inl near ↦
            let word = missing_in_word c.args.edges.nodes c.args.edges.width c.args.member c.args.row c.loop-bit.bit c.args.edges.words.now c.args.closed.now
            (c.type_inv.closed (c.args.row * c.args.edges.width + c.loop-bit.bit / 64)).fits b ahead near edge unset in
            let low = c.in-Some.ensures.lowest (b % 64) word.0 word.2 in
            omega (arith, low, word.1)
        | inr far ↦ omega (arith, far, c.in-Some.ensures.found)
      ]
    ]

pub returns-in-Some-clause-first : goal.returns-in-Some-clause-first
returns-in-Some-clause-first c b le edge unset =
    let below = ((are_below c.args.edges.nodes (row_bit c.args.edges.width c.args.edges.words.now)).ends c.args.member b edge).1 in
    elim (cases_lt b c.loop-bit.bit) [
      | inl passed ↦ c.loop-bit.invariant.1 b le passed edge unset
      | inr ahead ↦ elim (cases_lt b (c.loop-bit.bit - c.loop-bit.bit % 64 + 64)) [
        | inl near ↦
            let word = missing_in_word c.args.edges.nodes c.args.edges.width c.args.member c.args.row c.loop-bit.bit c.args.edges.words.now c.args.closed.now
            (c.type_inv.closed (c.args.row * c.args.edges.width + c.loop-bit.bit / 64)).fits b ahead near edge unset in
            let low = c.in-Some.ensures.lowest (b % 64) word.0 word.2 in
            omega (arith, low, word.1, below, c.if-found-edges.false)
        | inr far ↦ omega (arith, far, below, c.in-Some.ensures.found, c.if-found-edges.false)
      ]
    ]

pub loop-bit-preserved : goal.loop-bit-preserved
loop-bit-preserved c = (
  omega (arith, c.loop-bit.invariant.0),
  λ b le near edge unset.
      elim (cases_lt b c.loop-bit.bit) [
        | inl passed ↦ c.loop-bit.invariant.1 b le passed edge unset
        | inr ahead ↦
            let word = missing_in_word c.args.edges.nodes c.args.edges.width c.args.member c.args.row c.loop-bit.bit c.args.edges.words.now c.args.closed.now
            (c.type_inv.closed (c.args.row * c.args.edges.width + c.loop-bit.bit / 64)).fits b ahead near edge unset in
            c.in_default.ensures.lowest (b % 64) word.0 word.2
      ],
)
