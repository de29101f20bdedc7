use Rattle.std.proofs.Common.{ℕ, List, None, Some, cond, sym, ap, ◌∙◌, subst}
use Rattle.jd_jclasses.specs.Methods.{IsSeen, SeesNone}
use Rattle.jd_tparse.proofs.Opening.{less_for_each}
use Rattle.jd_tparse.proofs.Seen.{is_text, none_seen, one_seen}
use Rattle.jd_tparse.proofs.names.Names.method_seen.Goals as goal

pub returns-in-Err : goal.returns-in-Err
returns-in-Err c = absurd (c.in-Err.ensures.cases.0 (is_text c.args.name.now c.requires.name))

pub method-requires : goal.method-requires
method-requires c = less_for_each c.args.self.now.classes.now c.args.self.now.program _ _ c.in-Some.ensures.within

pub returns-in-None : goal.returns-in-None
returns-in-None c units tables vs =
    none_seen c.one_method.ensures c.args.self.now.classes.now units tables vs c.args.class.0 c.args.name.now c.requires.class
    (subst (SeesNone units c.args.class.0) c.in-Ok.ensures.cases.0 (c.in-None.ensures.seen units tables))

pub returns-then-method : goal.returns-then-method
returns-then-method c units tables vs =
    sym (one_seen c.one_method.ensures c.args.self.now.classes.now units tables vs c.args.class.0 c.args.name.now c.requires.class
    c.in-Some.method.0 c.method.result.now (c.method.ensures units tables)
    (subst (λ (n : List ℕ). IsSeen units c.args.class.0 n c.in-Some.method.0) c.in-Ok.ensures.cases.0 (c.in-Some.ensures.seen units tables))
    ∙ ap (λ b. cond b None (Some (c.args.class.0, c.in-Some.method.0))) c.if-method.true)

pub returns-else-method : goal.returns-else-method
returns-else-method c units tables vs =
    sym (one_seen c.one_method.ensures c.args.self.now.classes.now units tables vs c.args.class.0 c.args.name.now c.requires.class
    c.in-Some.method.0 c.method.result.now (c.method.ensures units tables)
    (subst (λ (n : List ℕ). IsSeen units c.args.class.0 n c.in-Some.method.0) c.in-Ok.ensures.cases.0 (c.in-Some.ensures.seen units tables))
    ∙ ap (λ b. cond b None (Some (c.args.class.0, c.in-Some.method.0))) c.if-method.false)
