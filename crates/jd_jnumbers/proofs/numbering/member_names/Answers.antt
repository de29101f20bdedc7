use Rattle.std.proofs.Common.{◌≤◌, length, arith, map}
use Rattle.std.proofs.lemmas.List.{length-map}
use Rattle.std.proofs.lemmas.Result.{IfOk-weaker}
use Rattle.jd_jclasses.specs.Numbers.{AreNumbers}
use Rattle.jd_jclasses.specs.Refusals.{SameName}
use Rattle.jd_jlists.specs.Views.{member_of_view}
use Rattle.jd_jnumbers.specs.declared.numbers.Numbers.{Numbers}
use Rattle.jd_jnumbers.specs.Numbered.{AreAllUsed, AreNames, AreNumbered, count_of, member_name, texts_of}
use Rattle.jd_jnumbers.proofs.Numberings.{are_names, are_numbers, few_numbers}
use Rattle.jd_jnumbers.proofs.numbering.member_names.Goals as goal

pub returns-clause-numbers : goal.returns-clause-numbers
returns-clause-numbers c =
    let members = map member_of_view c.args.members.now in
    IfOk-weaker c.numbered.result (λ (n : Numbers). AreNumbered (texts_of n) n.numbers.items (map member_name members)) (λ (n : Numbers). AreNumbers SameName members n.numbers.items (count_of n))
    (λ n numbered. are_numbers member_name members (texts_of n) n.numbers.items numbered SameName (λ a b same. same) (λ a b same. same))
    c.numbered.ensures

pub returns-clause-names : goal.returns-clause-names
returns-clause-names c =
    let members = map member_of_view c.args.members.now in
    IfOk-weaker c.numbered.result (λ (n : Numbers). AreNumbered (texts_of n) n.numbers.items (map member_name members)) (λ (n : Numbers). AreNames members (texts_of n) n.numbers.items)
    (λ n numbered. are_names members (texts_of n) n.numbers.items numbered)
    c.numbered.ensures

pub returns-clause-used : goal.returns-clause-used
returns-clause-used c =
    IfOk-weaker c.numbered.result (λ (n : Numbers). AreNumbered (texts_of n) n.numbers.items (map member_name (map member_of_view c.args.members.now))) (λ (n : Numbers). AreAllUsed n.numbers.items (count_of n))
    (λ n numbered. numbered.used)
    c.numbered.ensures

pub returns-clause-few : goal.returns-clause-few
returns-clause-few c =
    let members = map member_of_view c.args.members.now in
    IfOk-weaker c.numbered.result (λ (n : Numbers). AreNumbered (texts_of n) n.numbers.items (map member_name members)) (λ (n : Numbers). count_of n ≤ length c.args.members.now)
    (λ n numbered. omega (arith, few_numbers member_name members (texts_of n) n.numbers.items numbered, length-map c.args.members.now member_of_view))
    c.numbered.ensures
