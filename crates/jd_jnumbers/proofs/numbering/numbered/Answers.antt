use Rattle.std.proofs.Common.{arith}
use Rattle.jd_jnumbers.specs.Texts.{text_list}
use Rattle.jd_jnumbers.proofs.Numberings.{member_more}
use Rattle.jd_jnumbers.proofs.numbering.numbered.Goals as goal

pub loop-member-preserved : goal.loop-member-preserved
loop-member-preserved c =
    record {
      numbered =
          member_more c.args.by c.args.members.now c.loop-member.member-index c.member-item.result (text_list c.loop-member.texts) (text_list c.add_text.new.texts) c.loop-member.numbers.items c.push.new.self.items
          c.in_ok-text_of.field-0.items c.in_ok-number.number c.member-item.is c.loop-member-test.true c.loop-member.invariant.numbered c.in_ok-text_of.ensures c.in_ok-number.ensures.texts c.in_ok-number.ensures.number c.in_ok-push.ensures.items;
      few = let before = c.loop-member.invariant.few in let more = c.in_ok-number.ensures.few in omega (arith, before, more);
    }
