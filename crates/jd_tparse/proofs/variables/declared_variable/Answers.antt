use Rattle.std.proofs.Common.{Some, sym, ap, ◌∙◌}
use Rattle.std.specs.Str.{bytes_eq}
use Rattle.jd_syntax.specs.Names.{Name}
use Rattle.jd_tforms.specs.Naming.{named}
use Rattle.jd_tparse.specs.Names.{variable}
use Rattle.jd_tparse.proofs.Loops.{found_here}
use Rattle.jd_tparse.proofs.variables.declared_variable.Goals as goal

pub returns-then-eq : goal.returns-then-eq
returns-then-eq c =
    ap (λ n. Some (named n c.declared-item.result.sort)) (c.in_ok-name.ensures ∙ c.deref.ensures.value)
    ∙ found_here (λ (x : Name). bytes_eq x.text c.args.name.now) variable c.args.vars.now c.loop-declared.declared-index c.declared-item.result _ c.loop-declared-test.true c.declared-item.is
    (sym (c.eq.ensures ∙ ap (λ n. bytes_eq n c.args.name.now) c.as_slice.ensures.value) ∙ c.if-eq.true)
    c.loop-declared.invariant
