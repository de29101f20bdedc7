use Rattle.std.proofs.Common.{List, map, sym, subst}
use Rattle.jd_jclasses.specs.Members.{Declared}
use Rattle.jd_jclasses.specs.Numbers.{AreNumbers, SameReturn}
use Rattle.jd_jlists.specs.Views.{member_of_view}
use Rattle.jd_jclashes.specs.declared.reason.Reason.{Reason}
use Rattle.jd_jclashes.specs.Clashes.{holds_at}
use Rattle.jd_jclashes.specs.Firsts.{IsFoundFirst}
use Rattle.jd_jclashes.proofs.Reasons.{found_bad, variants_of}
use Rattle.jd_jclashes.proofs.reason.first_place.Goals as goal

pub first_differing-requires-clause-numbered : goal.first_differing-requires-clause-numbered
first_differing-requires-clause-numbered c =
    variants_of SameReturn (map member_of_view c.args.members.now) c.args.numbers.now.returns.of.now c.args.numbers.now.returns.count (λ a b same. same.0) c.requires.given

pub returns-in_ok-place-in-SecondMember-clause-found : goal.returns-in_ok-place-in-SecondMember-clause-found
returns-in_ok-place-in-SecondMember-clause-found c units same same_ups stand =
    subst (λ (r : Reason). IsFoundFirst (holds_at units r) c.in_ok-place-in-SecondMember.place) (sym c.in-SecondMember.is) (c.in_ok-place-in-SecondMember.ensures.found units same)

pub returns-in_ok-place-in-BadlyOverridden-clause-found : goal.returns-in_ok-place-in-BadlyOverridden-clause-found
returns-in_ok-place-in-BadlyOverridden-clause-found c units same same_ups stand =
    let numbers = c.args.numbers.now.returns in
    let given = subst (λ (l : List Declared). AreNumbers SameReturn l numbers.of.now numbers.count) same c.requires.given in
    subst (λ (r : Reason). IsFoundFirst (holds_at units r) c.in_ok-place-in-BadlyOverridden.place) (sym c.in-BadlyOverridden.is)
    (found_bad units numbers.of.now numbers.count given c.in_ok-place-in-BadlyOverridden.place (c.in_ok-place-in-BadlyOverridden.ensures.found units same same_ups))
