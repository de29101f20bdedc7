-- The arguments of a call are smaller than the call.
use denote.Param.Weighed.{most}
use Rattle.std.proofs.Common.{rules, ◌≡◌, ℕ, ◌+◌, ◌*◌, ◌<◌, List, ap, arith}
use Rattle.jd_syntax.specs.declared.code.CodeExpr.{CodeExpr, the_lemmas}
use Rattle.jd_syntax.specs.declared.code.CodeExpr.TheViews as views
use Rattle.jd_syntax.proofs.code.CodeExpr.TheLaws.{the_size}

are_smaller : (c : _) (m : _) (a : _) (es : _) → most the_size es.items < the_size (views.VirtualCall c m a es)
are_smaller c m a es = search (rules, the_lemmas)

pub arguments_are_smaller : (c : _) (m : _) (a : _) (es : _) (x : CodeExpr) (xs : List CodeExpr) (t : ℕ) → x ≡ views.VirtualCall c m a es → xs ≡ es.items → 2 * the_size x + 0 ≡ t → 2 * most the_size xs + 1 < t
arguments_are_smaller c m a es x xs t is items size =
    omega (arith, size, ap the_size is, ap (λ (l : List CodeExpr). most the_size l) items, are_smaller c m a es)
