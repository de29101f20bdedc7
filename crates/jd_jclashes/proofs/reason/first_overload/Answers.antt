use Rattle.std.proofs.Common.{List, map, sym, subst}
use Rattle.jd_jclasses.specs.Members.{Declared}
use Rattle.jd_jclasses.specs.Numbers.{AreNumbers, SameSignature}
use Rattle.jd_jclasses.specs.Refusals.{EarlierMember, HasOtherParameters, IsSecondMethod, OtherMember, OverloadAt}
use Rattle.jd_jlists.specs.Views.{member_of_view}
use Rattle.jd_jclashes.specs.Firsts.{IsFoundFirst}
use Rattle.jd_jclashes.proofs.Firsts.{one_of_two}
use Rattle.jd_jclashes.proofs.Reasons.{found_other, variants_of}
use Rattle.jd_jclashes.proofs.reason.first_overload.Goals as goal

pub first_differing-requires-clause-numbered : goal.first_differing-requires-clause-numbered
first_differing-requires-clause-numbered c =
    variants_of SameSignature (map member_of_view c.args.members.now) c.args.signatures.now.of.now c.args.signatures.now.count (λ a b same. same.0) c.requires.signed

pub returns-clause-found : goal.returns-clause-found
returns-clause-found c units same same_ups =
    let numbers = c.args.signatures.now in
    let signed = subst (λ (l : List Declared). AreNumbers SameSignature l numbers.of.now numbers.count) same c.requires.signed in
    subst (IsFoundFirst (OverloadAt units)) (sym c.earlier.ensures)
    (one_of_two (λ i. EarlierMember units i IsSecondMethod) (λ i. OtherMember units i (HasOtherParameters units)) c.in_ok-repeat.repeat c.in_ok-other.other
    (c.in_ok-repeat.ensures.found units same)
    (found_other units numbers.of.now numbers.count signed c.in_ok-other.other (c.in_ok-other.ensures.found units same same_ups)))
