use Rattle.std.proofs.Common.{◌<◌, ℕ, List, length, Option, MatchOption, sym, ap, subst, ◌∙◌, arith}
use Rattle.jd_syntax.specs.JavaTrees.{JavaUnit}
use Rattle.jd_jclasses.specs.Classes.{parents}
use Rattle.jd_jclasses.specs.Methods.{IsSeen, SeesNone}
use Rattle.jd_jnumbers.specs.Numbered.{count_of, texts_of}
use Rattle.jd_jnumbers.specs.Texts.{number_in}
use Rattle.jd_jseen.specs.Seen.{cells_of, name_count}
use Rattle.jd_classes.specs.Tables.{AreTables}
use Rattle.jd_classes.proofs.Lineages.{none_left}
use Rattle.jd_classes.proofs.Looking.{method_within, none_of_name, seen_of_name}
use Rattle.jd_classes.proofs.classes.Classes.lookup.Goals as goal
use Rattle.jd_classes.proofs.classes.Classes.lookup.Goals.{After-method}

pub returns-in_default-clause-seen : goal.returns-in_default-clause-seen
returns-in_default-clause-seen c units tables =
    none_of_name units (texts_of c.args.self.now.names) c.args.self.now.names.numbers.items tables.names_ c.args.name.now c.args.c.0 c.number_of.result
    (c.number_of.ensures ∙ ap (number_in (texts_of c.args.self.now.names)) c.as_bytes.ensures.value) (none_left c.number_of.result c.in_default.not-Some)

-- what the class sees
found : (c : After-method) (units : List JavaUnit) → AreTables units c.args.self.now → MatchOption c.method.result (SeesNone units c.args.c.0 c.args.name.now) (λ m. IsSeen units c.args.c.0 c.args.name.now m)
found c units tables =
    let there : c.args.c.0 < length (parents units) = omega (arith, c.requires, c.args.self.now.all_classes, ap length tables.parents_) in
    seen_of_name units (texts_of c.args.self.now.names) c.args.self.now.names.numbers.items tables.names_ c.args.name.now c.args.c.0 c.in-Some.number (count_of c.args.self.now.names) (name_count c.args.self.now.seen) (cells_of c.args.self.now.seen) c.method.result
    tables.seen_ tables.name_count_ there (sym (ap (number_in (texts_of c.args.self.now.names)) c.as_bytes.ensures.value) ∙ sym c.number_of.ensures ∙ c.in-Some.is) c.method.ensures

pub returns-in-Some-method-clause-seen : goal.returns-in-Some-method-clause-seen
returns-in-Some-method-clause-seen c units tables =
    subst (λ (o : Option ℕ). MatchOption o (SeesNone units c.args.c.0 c.args.name.now) (λ m. IsSeen units c.args.c.0 c.args.name.now m)) c.in-Some-method.is (found ((goal.at.returns-in-Some-method-clause-seen c).After-method) units tables)

pub returns-in-None-clause-seen : goal.returns-in-None-clause-seen
returns-in-None-clause-seen c units tables =
    subst (λ (o : Option ℕ). MatchOption o (SeesNone units c.args.c.0 c.args.name.now) (λ m. IsSeen units c.args.c.0 c.args.name.now m)) c.in-None.is (found ((goal.at.returns-in-None-clause-seen c).After-method) units tables)

pub returns-in-Some-method-clause-within : goal.returns-in-Some-method-clause-within
returns-in-Some-method-clause-within c units tables =
    let seen = subst (λ (o : Option ℕ). MatchOption o (SeesNone units c.args.c.0 c.args.name.now) (λ m. IsSeen units c.args.c.0 c.args.name.now m)) c.in-Some-method.is (found ((goal.at.returns-in-Some-method-clause-within c).After-method) units tables) in
    omega (arith, method_within units c.args.c.0 c.args.name.now c.in-Some-method.method seen, c.args.self.now.all_methods, tables.routines_)
