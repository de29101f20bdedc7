-- What stands in a statement is smaller than it.
use denote.Param.Weighed.{most}
use Rattle.std.proofs.Common.{rules, ◌≡◌, ℕ, ◌+◌, ◌*◌, ◌<◌, max, Box, Global, List, Option, Vec, ap, arith}
use Rattle.jd_syntax.specs.declared.java.Expr.{Expr}
use Rattle.jd_syntax.specs.declared.java.ForStart.{ForStart}
use Rattle.jd_syntax.specs.declared.java.Handler.{Handler, out-Handler}
use Rattle.jd_syntax.specs.declared.java.Stmt.{Stmt}
use Rattle.jd_syntax.specs.declared.java.StmtForm.{the_lemmas}
use Rattle.jd_syntax.specs.declared.java.StmtForm.TheVariants as forms
use Rattle.jd_syntax.specs.declared.spec.SpecBlock.{SpecBlock}
use Rattle.jd_syntax.proofs.java.Handler.TheLaws.{the_size as handler_size}
use Rattle.jd_syntax.proofs.java.Stmt.TheLaws.{the_size}

in_block : (s : Stmt) (ss : Vec Stmt Global) → s.form ≡ forms.Block ss → most the_size ss.items < the_size s
in_block s ss is = search (rules, the_lemmas)

in_label : (s : Stmt) (j : Option SpecBlock) (l : Vec ℕ Global) (b : Box Stmt Global) → s.form ≡ forms.Label j l b → the_size b.value < the_size s
in_label s j l b is = search (rules, the_lemmas)

in_if : (s : Stmt) (e : Expr) (b : Box Stmt Global) → s.form ≡ forms.If e b → the_size b.value < the_size s
in_if s e b is = search (rules, the_lemmas)

first_in_else : (s : Stmt) (e : Expr) (b : Box Stmt Global) (o : Box Stmt Global) → s.form ≡ forms.IfElse e b o → the_size b.value < the_size s
first_in_else s e b o is = search (rules, the_lemmas)

other_in_else : (s : Stmt) (e : Expr) (b : Box Stmt Global) (o : Box Stmt Global) → s.form ≡ forms.IfElse e b o → the_size o.value < the_size s
other_in_else s e b o is = search (rules, the_lemmas)

in_while : (s : Stmt) (j : Option SpecBlock) (e : Expr) (b : Box Stmt Global) → s.form ≡ forms.While j e b → the_size b.value < the_size s
in_while s j e b is = search (rules, the_lemmas)

in_for : (s : Stmt) (j : Option SpecBlock) (f : ForStart) (e : Option Expr) (es : Vec Expr Global) (b : Box Stmt Global) → s.form ≡ forms.For j f e es b → the_size b.value < the_size s
in_for s j f e es b is = search (rules, the_lemmas)

stmts_in_try : (s : Stmt) (ss : Vec Stmt Global) (hs : Vec Handler Global) → s.form ≡ forms.Try ss hs → most the_size ss.items < the_size s
stmts_in_try s ss hs is = search (rules, the_lemmas)

handlers_in_try : (s : Stmt) (ss : Vec Stmt Global) (hs : Vec Handler Global) → s.form ≡ forms.Try ss hs → most handler_size hs.items < the_size s
handlers_in_try s ss hs is = search (rules, the_lemmas)

stmts_in_finally : (s : Stmt) (ss : Vec Stmt Global) (hs : Vec Handler Global) (fs : Vec Stmt Global) → s.form ≡ forms.TryFinally ss hs fs → most the_size ss.items < the_size s
stmts_in_finally s ss hs fs is = search (rules, the_lemmas)

handlers_in_finally : (s : Stmt) (ss : Vec Stmt Global) (hs : Vec Handler Global) (fs : Vec Stmt Global) → s.form ≡ forms.TryFinally ss hs fs → most handler_size hs.items < the_size s
handlers_in_finally s ss hs fs is = search (rules, the_lemmas)

last_in_finally : (s : Stmt) (ss : Vec Stmt Global) (hs : Vec Handler Global) (fs : Vec Stmt Global) → s.form ≡ forms.TryFinally ss hs fs → most the_size fs.items < the_size s
last_in_finally s ss hs fs is = search (rules, the_lemmas)

both_less : (a b n t : ℕ) → a < n → b < n → 8 * n ≡ t → 8 * max a b + 4 < t
both_less a b n t one other size = omega (arith, one, other, size)

pub block_falls : (s : Stmt) (ss : Vec Stmt Global) (xs : List Stmt) (t : ℕ) → s.form ≡ forms.Block ss → xs ≡ ss.items → 8 * the_size s ≡ t → 8 * most the_size xs + 3 < t
block_falls s ss xs t is items size = omega (arith, size, ap (λ (l : List Stmt). most the_size l) items, in_block s ss is)

pub label_falls : (s : Stmt) (j : Option SpecBlock) (l : Vec ℕ Global) (b : Box Stmt Global) (x : Stmt) (t : ℕ) → s.form ≡ forms.Label j l b → x ≡ b.value → 8 * the_size s ≡ t → 8 * the_size x < t
label_falls s j l b x t is same size = omega (arith, size, ap (λ (y : Stmt). the_size y) same, in_label s j l b is)

pub if_falls : (s : Stmt) (e : Expr) (b : Box Stmt Global) (x : Stmt) (t : ℕ) → s.form ≡ forms.If e b → x ≡ b.value → 8 * the_size s ≡ t → 8 * the_size x + 1 < t
if_falls s e b x t is same size = omega (arith, size, ap (λ (y : Stmt). the_size y) same, in_if s e b is)

pub else_falls : (s : Stmt) (e : Expr) (b : Box Stmt Global) (o : Box Stmt Global) (x : Stmt) (t : ℕ) → s.form ≡ forms.IfElse e b o → x ≡ b.value → 8 * the_size s ≡ t → 8 * the_size x + 1 < t
else_falls s e b o x t is same size = omega (arith, size, ap (λ (y : Stmt). the_size y) same, first_in_else s e b o is)

pub other_falls : (s : Stmt) (e : Expr) (b : Box Stmt Global) (o : Box Stmt Global) (x : Stmt) (t : ℕ) → s.form ≡ forms.IfElse e b o → x ≡ o.value → 8 * the_size s ≡ t → 8 * the_size x + 1 < t
other_falls s e b o x t is same size = omega (arith, size, ap (λ (y : Stmt). the_size y) same, other_in_else s e b o is)

pub while_falls : (s : Stmt) (j : Option SpecBlock) (e : Expr) (b : Box Stmt Global) (x : Stmt) (t : ℕ) → s.form ≡ forms.While j e b → x ≡ b.value → 8 * the_size s ≡ t → 8 * the_size x + 2 < t
while_falls s j e b x t is same size = omega (arith, size, ap (λ (y : Stmt). the_size y) same, in_while s j e b is)

pub for_falls : (s : Stmt) (j : Option SpecBlock) (f : ForStart) (e : Option Expr) (es : Vec Expr Global) (b : Box Stmt Global) (x : Stmt) (t : ℕ) → s.form ≡ forms.For j f e es b → x ≡ b.value → 8 * the_size s ≡ t → 8 * the_size x + 2 < t
for_falls s j f e es b x t is same size = omega (arith, size, ap (λ (y : Stmt). the_size y) same, in_for s j f e es b is)

pub try_falls : (s : Stmt) (ss : Vec Stmt Global) (hs : Vec Handler Global) (xs : List Stmt) (ys : List Handler) (t : ℕ) → s.form ≡ forms.Try ss hs → xs ≡ ss.items → ys ≡ hs.items → 8 * the_size s ≡ t → 8 * max (most the_size xs) (most handler_size ys) + 4 < t
try_falls s ss hs xs ys t is one other size =
    both_less (most the_size xs) (most handler_size ys) (the_size s) t (omega (arith, ap (λ (l : List Stmt). most the_size l) one, stmts_in_try s ss hs is)) (omega (arith, ap (λ (l : List Handler). most handler_size l) other, handlers_in_try s ss hs is)) size

pub finally_falls : (s : Stmt) (ss : Vec Stmt Global) (hs : Vec Handler Global) (fs : Vec Stmt Global) (xs : List Stmt) (ys : List Handler) (t : ℕ) → s.form ≡ forms.TryFinally ss hs fs → xs ≡ ss.items → ys ≡ hs.items → 8 * the_size s ≡ t → 8 * max (most the_size xs) (most handler_size ys) + 4 < t
finally_falls s ss hs fs xs ys t is one other size =
    both_less (most the_size xs) (most handler_size ys) (the_size s) t (omega (arith, ap (λ (l : List Stmt). most the_size l) one, stmts_in_finally s ss hs fs is)) (omega (arith, ap (λ (l : List Handler). most handler_size l) other, handlers_in_finally s ss hs fs is)) size

pub last_falls : (s : Stmt) (ss : Vec Stmt Global) (hs : Vec Handler Global) (fs : Vec Stmt Global) (xs : List Stmt) (t : ℕ) → s.form ≡ forms.TryFinally ss hs fs → xs ≡ fs.items → 8 * the_size s ≡ t → 8 * most the_size xs + 3 < t
last_falls s ss hs fs xs t is items size = omega (arith, size, ap (λ (l : List Stmt). most the_size l) items, last_in_finally s ss hs fs is)

in_handler : (h : Handler) → most the_size (out-Handler h).body.items < handler_size h
in_handler h = search (rules, the_lemmas)

pub handler_falls : (h : Handler) (xs : List Stmt) (t : ℕ) → xs ≡ (out-Handler h).body.items → 8 * handler_size h ≡ t → 8 * most the_size xs + 3 < t
handler_falls h xs t items size = omega (arith, size, ap (λ (l : List Stmt). most the_size l) items, in_handler h)
