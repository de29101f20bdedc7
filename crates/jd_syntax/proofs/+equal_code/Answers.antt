use Rattle.jd_syntax.proofs.+equal_code.Goals as goal
use Rattle.jd_syntax.proofs.CodeLemmas.{constructor_same, virtual_same}
use Rattle.jd_syntax.specs.CodeViews.{expr_view}
use Rattle.std.proofs.Common.{◌≡◌, ◌↔◌, IsTrue, arith, map}

pub code::CodeExpr::equals-returns-then-equals-10 : goal.code::CodeExpr::equals-returns-then-equals-10
code::CodeExpr::equals-returns-then-equals-10 t c =
    let h = c.in-VirtualCall-VirtualCall in
    let receivers : expr_view h.a.value ≡ expr_view h.b.value = grind arith in
    let lists : IsTrue c.equal_exprs.result ↔ map expr_view h.es.items ≡ map expr_view h.fs.items = grind arith in
    virtual_same h.c h.d h.m h.n h.a h.b h.es h.fs c.args.self.now c.args.other.now h.is-0 h.is-1 (cc) (cc) receivers c.equal_exprs.result lists

pub code::CodeExpr::equals-returns-then-equals-11 : goal.code::CodeExpr::equals-returns-then-equals-11
code::CodeExpr::equals-returns-then-equals-11 t c =
    let h = c.in-ConstructorCall-ConstructorCall in
    let receivers : expr_view h.a.value ≡ expr_view h.b.value = grind arith in
    let lists : IsTrue c.equal_exprs-then-equals-11.result ↔ map expr_view h.es.items ≡ map expr_view h.fs.items = grind arith in
    constructor_same h.m h.n h.a h.b h.es h.fs c.args.self.now c.args.other.now h.is-0 h.is-1 (cc) receivers c.equal_exprs-then-equals-11.result lists
