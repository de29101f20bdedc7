use Rattle.std.proofs.Common.{◌≤◌, length, arith, map}
use Rattle.std.proofs.lemmas.List.{length-map}
use Rattle.std.proofs.lemmas.Result.{IfOk-weaker}
use Rattle.jd_jclasses.specs.Numbers.{AreNumbers, SameReturn}
use Rattle.jd_jlists.specs.Views.{member_of_view}
use Rattle.jd_jnumbers.specs.declared.numbers.Numbers.{Numbers}
use Rattle.jd_jnumbers.specs.Encoding.{return_text}
use Rattle.jd_jnumbers.specs.Numbered.{AreAllUsed, AreNumbered, count_of, texts_of}
use Rattle.jd_jnumbers.proofs.Encodings.{returns_agree, return_texts}
use Rattle.jd_jnumbers.proofs.Numberings.{are_numbers, few_numbers}
use Rattle.jd_jnumbers.proofs.numbering.member_returns.Goals as goal

pub returns-clause-numbers : goal.returns-clause-numbers
returns-clause-numbers c =
    let members = map member_of_view c.args.members.now in
    IfOk-weaker c.numbered.result (λ (n : Numbers). AreNumbered (texts_of n) n.numbers.items (map return_text members)) (λ (n : Numbers). AreNumbers SameReturn members n.numbers.items (count_of n))
    (λ n numbered. are_numbers return_text members (texts_of n) n.numbers.items numbered SameReturn returns_agree return_texts)
    c.numbered.ensures

pub returns-clause-used : goal.returns-clause-used
returns-clause-used c =
    IfOk-weaker c.numbered.result (λ (n : Numbers). AreNumbered (texts_of n) n.numbers.items (map return_text (map member_of_view c.args.members.now))) (λ (n : Numbers). AreAllUsed n.numbers.items (count_of n))
    (λ n numbered. numbered.used)
    c.numbered.ensures

pub returns-clause-few : goal.returns-clause-few
returns-clause-few c =
    let members = map member_of_view c.args.members.now in
    IfOk-weaker c.numbered.result (λ (n : Numbers). AreNumbered (texts_of n) n.numbers.items (map return_text members)) (λ (n : Numbers). count_of n ≤ length c.args.members.now)
    (λ n numbered. omega (arith, few_numbers return_text members (texts_of n) n.numbers.items numbered, length-map c.args.members.now member_of_view))
    c.numbered.ensures
