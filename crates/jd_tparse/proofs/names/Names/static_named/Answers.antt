use Rattle.std.proofs.Common.{sym, ap₂, ◌∙◌, arith}
use Rattle.jd_jclasses.specs.Methods.{routines}
use Rattle.jd_names.specs.Words.{names_static}
use Rattle.jd_names.proofs.Members.{routine_class}
use Rattle.jd_tparse.specs.Least.{least}
use Rattle.jd_tparse.proofs.Opening.{as_many_classes}
use Rattle.jd_tparse.proofs.Owning.{all_below, none_below, one_class_more}
use Rattle.jd_tparse.proofs.names.Names.static_named.Goals as goal

pub loop-class-init : goal.loop-class-init
loop-class-init c units tables = sym (none_below (names_static units c.args.word.now) (routines units))

pub loop-class-preserved : goal.loop-class-preserved
loop-class-preserved c units tables =
    c.least-found.ensures
    ∙ ap₂ least (c.loop-class.invariant units tables) (c.static_in.ensures units tables)
    ∙ sym (one_class_more (names_static units c.args.word.now) (routines units) c.loop-class.class)

pub returns : goal.returns
returns c units tables =
    c.loop-class.invariant units tables
    ∙ all_below (names_static units c.args.word.now) (routines units) c.loop-class.class (λ i d there.
    let below = routine_class units i d there in
    omega (arith, below, as_many_classes c.args.self.now.classes.now units tables, c.loop-class-test.false, c.class_count-class-end.ensures))
