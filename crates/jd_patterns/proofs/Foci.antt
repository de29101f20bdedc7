-- A statement that is sought stands at one focus: filling a context is found again, and what is found fills to the code.
use Rattle.std.proofs.Common.{◌≡◌, ℕ, Bool, true, false, cond, Option, Some, None, refl, sym, ap, ◌∙◌, true≢false}
use Rattle.jd_syntax.specs.Names.{Name}
use Rattle.jd_syntax.specs.Codes.{Stmt, Block, Catch, Finally, Frame, Return, ReturnVoid, PlainCode, Done, Then}
use Rattle.jd_model.specs.Contexts.{Context, Here, InBlock, InFrame, InCatch, InFinally, fill, one}
use Rattle.jd_model.specs.Programs.{Program}
use Rattle.jd_patterns.specs.Patterns as pattern
use Rattle.jd_patterns.specs.Patterns.{StmtPattern}
use Rattle.jd_patterns.specs.Instances.{Instance, is_return, of_stmt}
use Rattle.jd_patterns.specs.Foci.{is_bare, is_outer, sought, wrapped, first_in, inside, FocusIsOne}
use Rattle.jd_patterns.specs.Finds.{FitsStmt, IsBareFind, IsFocusFind}

-- the test holds of no statement around one that it holds of
pub record Sharp (t : Stmt → Bool) : Type 0 where
  pub block : (l : ℕ) (k : Context) (s : Stmt) → t s ≡ true → t (Block l (fill k (one s))) ≡ false
  pub frame : (r : Option Name) (k : Context) (s : Stmt) → t s ≡ true → t (Frame r (fill k (one s))) ≡ false
  pub catch : (x : Name) (d : PlainCode) (k : Context) (s : Stmt) → t s ≡ true → t (Catch (fill k (one s)) x d) ≡ false
  pub finally : (d : PlainCode) (k : Context) (s : Stmt) → t s ≡ true → t (Finally (fill k (one s)) d) ≡ false

-- what every filled context begins with
headed : (P : PlainCode → Type 0) (s : Stmt) → ((rest : PlainCode) → P (Then s rest)) → ((l : ℕ) (c r : PlainCode) → P (Then (Block l c) r)) → ((x : Option Name) (c r : PlainCode) → P (Then (Frame x c) r)) → ((c : PlainCode) (x : Name) (d r : PlainCode) → P (Then (Catch c x d) r)) → ((c d r : PlainCode) → P (Then (Finally c d) r)) → (k : Context) → P (fill k (one s))
headed P s a b c d e (Here rest) = a rest
headed P s a b c d e (InBlock l k rest) = b l _ rest
headed P s a b c d e (InFrame r k rest) = c r _ rest
headed P s a b c d e (InCatch k x h rest) = d _ x h rest
headed P s a b c d e (InFinally k f rest) = e _ f rest

-- a statement around a focus is not bare
block_over : (l : ℕ) (k : Context) (s : Stmt) → is_bare (Block l (fill k (one s))) ≡ false
block_over l k s = headed (λ c. is_bare (Block l c) ≡ false) s (λ r. refl) (λ l c r. refl) (λ x c r. refl) (λ c x d r. refl) (λ c d r. refl) k

frame_over : (y : Option Name) (k : Context) (s : Stmt) → is_bare (Frame y (fill k (one s))) ≡ false
frame_over y k s = headed (λ c. is_bare (Frame y c) ≡ false) s (λ r. refl) (λ l c r. refl) (λ x c r. refl) (λ c x d r. refl) (λ c d r. refl) k

catch_over : (y : Name) (h : PlainCode) (k : Context) (s : Stmt) → is_bare (Catch (fill k (one s)) y h) ≡ false
catch_over y h k s = headed (λ c. is_bare (Catch c y h) ≡ false) s (λ r. refl) (λ l c r. refl) (λ x c r. refl) (λ c x d r. refl) (λ c d r. refl) k

finally_over : (h : PlainCode) (k : Context) (s : Stmt) → is_bare (Finally (fill k (one s)) h) ≡ false
finally_over h k s = headed (λ c. is_bare (Finally c h) ≡ false) s (λ r. refl) (λ l c r. refl) (λ x c r. refl) (λ c x d r. refl) (λ c d r. refl) k

pub sharp_bare : Sharp is_bare
sharp_bare = record { block = λ l k s e. block_over l k s; frame = λ y k s e. frame_over y k s; catch = λ y h k s e. catch_over y h k s; finally = λ h k s e. finally_over h k s }

outer_not_bare : (s : Stmt) → is_outer s ≡ true → is_bare s ≡ false
outer_not_bare (Block l (Then s c)) e = refl
outer_not_bare (Frame l (Then s c)) e = refl
outer_not_bare (Catch (Then s c) x d) e = refl
outer_not_bare (Finally (Then s c) d) e = refl
outer_not_bare s e = absurd (true≢false (sym e))

-- a wrapper of a filled context looks at the bareness of its head
wrapping : (w : PlainCode → Stmt) → ((c : Stmt) (r : PlainCode) → is_outer (w (Then c r)) ≡ is_bare c) → (k : Context) (s : Stmt) → is_outer s ≡ true → is_outer (w (fill k (one s))) ≡ false
wrapping w h (Here rest) s e = h s rest ∙ outer_not_bare s e
wrapping w h (InBlock l k rest) s e = h (Block l (fill k (one s))) rest ∙ block_over l k s
wrapping w h (InFrame r k rest) s e = h (Frame r (fill k (one s))) rest ∙ frame_over r k s
wrapping w h (InCatch k x d rest) s e = h (Catch (fill k (one s)) x d) rest ∙ catch_over x d k s
wrapping w h (InFinally k f rest) s e = h (Finally (fill k (one s)) f) rest ∙ finally_over f k s

pub sharp_outer : Sharp is_outer
sharp_outer = record {
  block = λ l k s e. wrapping (λ c. Block l c) (λ c r. refl) k s e;
  frame = λ y k s e. wrapping (λ c. Frame y c) (λ c r. refl) k s e;
  catch = λ y h k s e. wrapping (λ c. Catch c y h) (λ c r. refl) k s e;
  finally = λ h k s e. wrapping (λ c. Finally c h) (λ c r. refl) k s e;
}

module _ (t : Stmt → Bool) (sharp : Sharp t) where
  pub found_again : (k : Context) (s : Stmt) → t s ≡ true → first_in t (fill k (one s)) ≡ Some (k, s)
  found_again (Here rest) s e = ap (λ b. cond b (Some (Here rest, s)) (inside t s rest)) e
  found_again (InBlock l k rest) s e = ap (λ b. cond b (Some (Here rest, Block l (fill k (one s)))) (inside t (Block l (fill k (one s))) rest)) (sharp.block l k s e) ∙ ap (wrapped (λ j. InBlock l j rest)) (found_again k s e)
  found_again (InFrame r k rest) s e = ap (λ b. cond b (Some (Here rest, Frame r (fill k (one s)))) (inside t (Frame r (fill k (one s))) rest)) (sharp.frame r k s e) ∙ ap (wrapped (λ j. InFrame r j rest)) (found_again k s e)
  found_again (InCatch k x h rest) s e = ap (λ b. cond b (Some (Here rest, Catch (fill k (one s)) x h)) (inside t (Catch (fill k (one s)) x h) rest)) (sharp.catch x h k s e) ∙ ap (wrapped (λ j. InCatch j x h rest)) (found_again k s e)
  found_again (InFinally k f rest) s e = ap (λ b. cond b (Some (Here rest, Finally (fill k (one s)) f)) (inside t (Finally (fill k (one s)) f) rest)) (sharp.finally f k s e) ∙ ap (wrapped (λ j. InFinally j f rest)) (found_again k s e)

-- what is found is there
abbrev pub Fills : PlainCode → Option (Context × Stmt) → Type 0
Fills c None = Unit {0}
Fills c (Some q) = fill q.0 (one q.1) ≡ c

module _ (t : Stmt → Bool) where
  abbrev outer_of : (Context → Context) → (PlainCode → PlainCode) → Type 0
  outer_of f w = (k : Context) (s : Stmt) → fill (f k) (one s) ≡ w (fill k (one s))

  lifted : (f : Context → Context) (w : PlainCode → PlainCode) → outer_of f w → (c : PlainCode) (o : Option (Context × Stmt)) → Fills c o → Fills (w c) (wrapped f o)
  lifted f w h c None e = tt
  lifted f w h c (Some q) e = h q.0 q.1 ∙ ap w e

  choose : (b : Bool) (c : PlainCode) (o p : Option (Context × Stmt)) → Fills c o → Fills c p → Fills c (cond b o p)
  choose true c o p h k = h
  choose false c o p h k = k

  mutual
    pub found_fills : (c : PlainCode) → Fills c (first_in t c)
    found_fills Done = tt
    found_fills (Then s rest) = choose (t s) (Then s rest) (Some (Here rest, s)) (inside t s rest) refl (inside_fills s rest)

    inside_fills : (s : Stmt) (rest : PlainCode) → Fills (Then s rest) (inside t s rest)
    inside_fills (Block l c) rest = lifted (λ k. InBlock l k rest) (λ d. Then (Block l d) rest) (λ k s. refl) c (first_in t c) (found_fills c)
    inside_fills (Frame r c) rest = lifted (λ k. InFrame r k rest) (λ d. Then (Frame r d) rest) (λ k s. refl) c (first_in t c) (found_fills c)
    inside_fills (Catch c x h) rest = lifted (λ k. InCatch k x h rest) (λ d. Then (Catch d x h) rest) (λ k s. refl) c (first_in t c) (found_fills c)
    inside_fills (Finally c f) rest = lifted (λ k. InFinally k f rest) (λ d. Then (Finally d f) rest) (λ k s. refl) c (first_in t c) (found_fills c)
    inside_fills s rest = tt

-- ---- what a pattern seeks

pub sharp_of : (s : StmtPattern) → Sharp (sought s)
sharp_of (pattern.Block l (pattern.Then s c)) = sharp_outer
sharp_of (pattern.BlockPast l k c) = sharp_outer
sharp_of (pattern.Frame r (pattern.Then s c)) = sharp_outer
sharp_of (pattern.Catch (pattern.Then s c) x d) = sharp_outer
sharp_of (pattern.Finally (pattern.Then s c) d) = sharp_outer
sharp_of s = sharp_bare

return_bare : (s : Stmt) → is_return s ≡ true → is_bare s ≡ true
return_bare (Return e) h = refl
return_bare ReturnVoid h = refl
return_bare s h = absurd (true≢false (sym h))

module _ (q : Program) (σ : Instance) where
  bare_in : (p : StmtPattern) → IsBareFind p → FitsStmt σ p → is_bare (of_stmt q σ p) ≡ true
  bare_in (pattern.ReturnVar n) f j = return_bare (σ.returned n) j
  bare_in (pattern.Block n (pattern.Then s c)) f j = absurd f
  bare_in (pattern.Block n (pattern.CodeThen m c)) f j = absurd f
  bare_in (pattern.BlockPast n m c) f j = absurd f
  bare_in (pattern.Catch (pattern.Then s c) x d) f j = absurd f
  bare_in (pattern.Catch (pattern.CodeThen m c) x d) f j = absurd f
  bare_in (pattern.Finally (pattern.Then s c) d) f j = absurd f
  bare_in (pattern.Finally (pattern.CodeThen m c) d) f j = absurd f
  bare_in (pattern.Frame r (pattern.Then s c)) f j = absurd f
  bare_in (pattern.Frame r (pattern.CodeThen m c)) f j = absurd f
  bare_in p f j = refl

  -- an instance of a find is what is sought
  pub sought_in : (p : StmtPattern) → IsFocusFind p → FitsStmt σ p → sought p (of_stmt q σ p) ≡ true
  sought_in (pattern.Block n (pattern.Then s c)) f j = bare_in s f j.0
  sought_in (pattern.BlockPast n m c) f j = refl
  sought_in (pattern.Catch (pattern.Then s c) x d) f j = bare_in s f j.0.0
  sought_in (pattern.Finally (pattern.Then s c) d) f j = bare_in s f j.0.0
  sought_in (pattern.Frame r (pattern.Then s c)) f j = bare_in s f j.0
  sought_in (pattern.ReturnVar n) f j = return_bare (σ.returned n) j
  sought_in (pattern.Block n (pattern.CodeThen m c)) f j = absurd f
  sought_in (pattern.Catch (pattern.CodeThen m c) x d) f j = absurd f
  sought_in (pattern.Finally (pattern.CodeThen m c) d) f j = absurd f
  sought_in (pattern.Frame r (pattern.CodeThen m c)) f j = absurd f
  sought_in p f j = refl

-- two contexts that are filled to one code with what is sought are one, and so are the statements
pub focus_one : (test : Stmt → Bool) → Sharp test → (k l : Context) (x y : Stmt) → test x ≡ true → test y ≡ true → fill k (one x) ≡ fill l (one y) → (k ≡ l) × (x ≡ y)
focus_one test sharp k l x y e f h = let same : Some (k, x) ≡ Some (l, y) = sym (found_again test sharp k x e) ∙ ap (first_in test) h ∙ found_again test sharp l y f in (ap (λ o. elim o as (λ _. Context) [ None ↦ k | Some q ↦ q.0 ]) same, ap (λ o. elim o as (λ _. Stmt) [ None ↦ x | Some q ↦ q.1 ]) same)

pub one_focus : FocusIsOne
one_focus s k l x y e f h = focus_one (sought s) (sharp_of s) k l x y e f h
