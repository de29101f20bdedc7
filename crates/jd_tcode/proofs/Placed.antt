-- The same where parts may follow, and of an array.
use Rattle.std.proofs.Common.{◌≡◌, ◌≤◌, ℕ, true, List, [], ◌∷◌, length, get_or, map, drop, Option, Some, None, Result, cond, codes, sym, subst, arith}
use Rattle.std.specs.Option.{option_and_then}
use Rattle.std.specs.Str.{bytes_eq}
use Rattle.jd_syntax.specs.declared.sx.Sx.{Sx}
use Rattle.jd_syntax.specs.Codes.{Expr}
use Rattle.jd_syntax.specs.Sxs.{bracketed_list, sx_view}
use Rattle.jd_tgrammar.specs.NameTables.{NameTable}
use Rattle.jd_tforms.specs.Reading.{Read, array_of, read, reads}
use Rattle.jd_tcode.specs.Pairing.{Gives}
use Rattle.jd_tcode.proofs.Parted.{behind_head}

-- the parts of an expression
abbrev pub parts_read : NameTable → List Sx → List Read
parts_read names xs = reads names (bracketed_list (map sx_view xs))

module _ {A T E : Type 0} (view : A → T) (names : NameTable) (go : List Read → Option T) (made : Result (Option A) E) (xs : List Sx) where
  abbrev Made : List Read → Type 0
  Made rs = Gives view made (go rs)

  abbrev first_of : Sx → List Read → List Read
  first_of a rs = read names (sx_view a) ∷ rs

  pub one_and_more : (a : Sx) (tail : List Sx) (o : Option T) → 2 ≤ length xs → a ≡ get_or xs 1 a → tail ≡ drop 2 xs → o ≡ go (first_of a (parts_read names tail)) → Gives view made o → Made (behind_head names xs)
  one_and_more a tail o n ea et same given = by xs n ea et
    where
      here : Made (first_of a (parts_read names tail))
      here = subst (λ z. Gives view made z) same given

      by : (ys : List Sx) → 2 ≤ length ys → a ≡ get_or ys 1 a → tail ≡ drop 2 ys → Made (behind_head names ys)
      by [] m e f = absurd (omega (arith, m))
      by (y ∷ []) m e f = absurd (omega (arith, m))
      by (y ∷ p ∷ ys) m e f = subst (λ zs. Made (first_of p (parts_read names zs))) f (subst (λ z. Made (first_of z (parts_read names tail))) e here)

  pub two_and_more : (a b : Sx) (tail : List Sx) (o : Option T) → 3 ≤ length xs → a ≡ get_or xs 1 a → b ≡ get_or xs 2 b → tail ≡ drop 3 xs → o ≡ go (first_of a (first_of b (parts_read names tail))) → Gives view made o →
      Made (behind_head names xs)
  two_and_more a b tail o n ea eb et same given = by xs n ea eb et
    where
      here : Made (first_of a (first_of b (parts_read names tail)))
      here = subst (λ z. Gives view made z) same given

      by : (ys : List Sx) → 3 ≤ length ys → a ≡ get_or ys 1 a → b ≡ get_or ys 2 b → tail ≡ drop 3 ys → Made (behind_head names ys)
      by [] m e f g = absurd (omega (arith, m))
      by (y ∷ []) m e f g = absurd (omega (arith, m))
      by (y ∷ p ∷ []) m e f g = absurd (omega (arith, m))
      by (y ∷ p ∷ q ∷ ys) m e f g =
          subst (λ zs. Made (first_of p (first_of q (parts_read names zs)))) g
          (subst (λ z. Made (first_of p (first_of z (parts_read names tail)))) f
          (subst (λ z. Made (first_of z (first_of b (parts_read names tail)))) e here))

-- `(arr X)`
pub array_read : {A E : Type 0} (view : A → Expr) (names : NameTable) (made : Result (Option A) E) (xs : List Sx) (head a : Sx) (w : List ℕ) →
    length xs ≡ 2 → head ≡ get_or xs 0 head → a ≡ get_or xs 1 a → (read names (sx_view head)).word ≡ Some w → bytes_eq (codes "arr") w ≡ true →
    Gives view made (read names (sx_view a)).expr → Gives view made (array_of names (parts_read names xs))
array_read view names made xs head a w n eh ea is_word is_arr given = by xs n eh ea
  where
    by : (ys : List Sx) → length ys ≡ 2 → head ≡ get_or ys 0 head → a ≡ get_or ys 1 a → Gives view made (array_of names (parts_read names ys))
    by [] m e f = absurd (omega (arith, m))
    by (y ∷ []) m e f = absurd (omega (arith, m))
    by (y ∷ p ∷ []) m e f =
        subst (λ z. Gives view made (option_and_then (λ v. cond (bytes_eq (codes "arr") v) (read names (sx_view p)).expr None) (read names (sx_view z)).word)) e
        (subst (λ o. Gives view made (option_and_then (λ v. cond (bytes_eq (codes "arr") v) (read names (sx_view p)).expr None) o)) (sym is_word)
        (subst (λ b. Gives view made (cond b (read names (sx_view p)).expr None)) (sym is_arr)
        (subst (λ z. Gives view made (read names (sx_view z)).expr) f given)))
    by (y ∷ p ∷ q ∷ ys) m e f = absurd (omega (arith, m))
