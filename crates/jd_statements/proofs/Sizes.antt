-- What stands in a `try` is smaller than it.
use denote.Param.Weighed.{most}
use Rattle.std.proofs.Common.{rules, ◌≡◌, ℕ, ◌+◌, ◌*◌, ◌<◌, Global, List, Vec, ap, arith}
use Rattle.jd_syntax.specs.declared.java.Handler.{Handler}
use Rattle.jd_syntax.specs.declared.java.Stmt.{Stmt}
use Rattle.jd_syntax.specs.declared.java.StmtForm.{the_lemmas}
use Rattle.jd_syntax.specs.declared.java.StmtForm.TheVariants as forms
use Rattle.jd_syntax.proofs.java.Handler.TheLaws.{the_size as handler_size}
use Rattle.jd_syntax.proofs.java.Stmt.TheLaws.{the_size}

stmts_in_try : (s : Stmt) (ss : Vec Stmt Global) (hs : Vec Handler Global) → s.form ≡ forms.Try ss hs → most the_size ss.items < the_size s
stmts_in_try s ss hs is = search (rules, the_lemmas)

handlers_in_try : (s : Stmt) (ss : Vec Stmt Global) (hs : Vec Handler Global) → s.form ≡ forms.Try ss hs → most handler_size hs.items < the_size s
handlers_in_try s ss hs is = search (rules, the_lemmas)

stmts_in_finally : (s : Stmt) (ss : Vec Stmt Global) (hs : Vec Handler Global) (fs : Vec Stmt Global) → s.form ≡ forms.TryFinally ss hs fs → most the_size ss.items < the_size s
stmts_in_finally s ss hs fs is = search (rules, the_lemmas)

handlers_in_finally : (s : Stmt) (ss : Vec Stmt Global) (hs : Vec Handler Global) (fs : Vec Stmt Global) → s.form ≡ forms.TryFinally ss hs fs → most handler_size hs.items < the_size s
handlers_in_finally s ss hs fs is = search (rules, the_lemmas)

last_in_finally : (s : Stmt) (ss : Vec Stmt Global) (hs : Vec Handler Global) (fs : Vec Stmt Global) → s.form ≡ forms.TryFinally ss hs fs → most the_size fs.items < the_size s
last_in_finally s ss hs fs is = search (rules, the_lemmas)

pub try_stmts : (s : Stmt) (ss : Vec Stmt Global) (hs : Vec Handler Global) (xs : List Stmt) (t : ℕ) → s.form ≡ forms.Try ss hs → xs ≡ ss.items → 2 * the_size s + 0 ≡ t → 2 * most the_size xs + 1 < t
try_stmts s ss hs xs t is items size = omega (arith, size, ap (λ (l : List Stmt). most the_size l) items, stmts_in_try s ss hs is)

pub try_handlers : (s : Stmt) (ss : Vec Stmt Global) (hs : Vec Handler Global) (xs : List Handler) (t : ℕ) → s.form ≡ forms.Try ss hs → xs ≡ hs.items → 2 * the_size s + 0 ≡ t → 2 * most handler_size xs + 0 < t
try_handlers s ss hs xs t is items size = omega (arith, size, ap (λ (l : List Handler). most handler_size l) items, handlers_in_try s ss hs is)

pub finally_stmts : (s : Stmt) (ss : Vec Stmt Global) (hs : Vec Handler Global) (fs : Vec Stmt Global) (xs : List Stmt) (t : ℕ) → s.form ≡ forms.TryFinally ss hs fs → xs ≡ ss.items → 2 * the_size s + 0 ≡ t → 2 * most the_size xs + 1 < t
finally_stmts s ss hs fs xs t is items size = omega (arith, size, ap (λ (l : List Stmt). most the_size l) items, stmts_in_finally s ss hs fs is)

pub finally_handlers : (s : Stmt) (ss : Vec Stmt Global) (hs : Vec Handler Global) (fs : Vec Stmt Global) (xs : List Handler) (t : ℕ) → s.form ≡ forms.TryFinally ss hs fs → xs ≡ hs.items → 2 * the_size s + 0 ≡ t → 2 * most handler_size xs + 0 < t
finally_handlers s ss hs fs xs t is items size = omega (arith, size, ap (λ (l : List Handler). most handler_size l) items, handlers_in_finally s ss hs fs is)

pub finally_last : (s : Stmt) (ss : Vec Stmt Global) (hs : Vec Handler Global) (fs : Vec Stmt Global) (xs : List Stmt) (t : ℕ) → s.form ≡ forms.TryFinally ss hs fs → xs ≡ fs.items → 2 * the_size s + 0 ≡ t → 2 * most the_size xs + 1 < t
finally_last s ss hs fs xs t is items size = omega (arith, size, ap (λ (l : List Stmt). most the_size l) items, last_in_finally s ss hs fs is)
