-- What is so of a form's parts is so of what stands behind its head.
use Rattle.std.proofs.Common.{◌≡◌, ℕ, List, [], ◌∷◌, length, get_or, map, Option, Some, Result, subst, arith}
use Rattle.jd_syntax.specs.declared.sx.Sx.{Sx}
use Rattle.jd_syntax.specs.Sxs.{bracketed_list, sx_view}
use Rattle.jd_tgrammar.specs.NameTables.{NameTable}
use Rattle.jd_tforms.specs.Reading.{Read, read, reads}
use Rattle.jd_tcode.specs.Behind.{rest_of}
use Rattle.jd_tcode.specs.Pairing.{Gives}

-- what the parts behind the head are
abbrev pub behind_head : NameTable → List Sx → List Read
behind_head names xs = rest_of (reads names (bracketed_list (map sx_view xs)))

module _ {A T E : Type 0} (view : A → T) (names : NameTable) (go : List Read → Option T) (made : Result (Option A) E) (xs : List Sx) where
  abbrev Made : List Read → Type 0
  Made rs = Gives view made (go rs)

  abbrev first_of : Sx → List Read → List Read
  first_of a rs = read names (sx_view a) ∷ rs

  pub one_part : (a : Sx) (o : Option T) → length xs ≡ 2 → a ≡ get_or xs 1 a → o ≡ go (first_of a []) → Gives view made o → Made (behind_head names xs)
  one_part a o n ea same given = by xs n ea
    where
      here : Made (first_of a [])
      here = subst (λ z. Gives view made z) same given

      by : (ys : List Sx) → length ys ≡ 2 → a ≡ get_or ys 1 a → Made (behind_head names ys)
      by [] m e = absurd (omega (arith, m))
      by (y ∷ []) m e = absurd (omega (arith, m))
      by (y ∷ p ∷ []) m e = subst (λ z. Made (first_of z [])) e here
      by (y ∷ p ∷ q ∷ ys) m e = absurd (omega (arith, m))

  pub two_parts : (a b : Sx) (o : Option T) → length xs ≡ 3 → a ≡ get_or xs 1 a → b ≡ get_or xs 2 b → o ≡ go (first_of a (first_of b [])) → Gives view made o → Made (behind_head names xs)
  two_parts a b o n ea eb same given = by xs n ea eb
    where
      here : Made (first_of a (first_of b []))
      here = subst (λ z. Gives view made z) same given

      by : (ys : List Sx) → length ys ≡ 3 → a ≡ get_or ys 1 a → b ≡ get_or ys 2 b → Made (behind_head names ys)
      by [] m e f = absurd (omega (arith, m))
      by (y ∷ []) m e f = absurd (omega (arith, m))
      by (y ∷ p ∷ []) m e f = absurd (omega (arith, m))
      by (y ∷ p ∷ q ∷ []) m e f = subst (λ z. Made (first_of p (first_of z []))) f (subst (λ z. Made (first_of z (first_of b []))) e here)
      by (y ∷ p ∷ q ∷ r ∷ ys) m e f = absurd (omega (arith, m))

  pub three_parts : (a b c : Sx) (o : Option T) → length xs ≡ 4 → a ≡ get_or xs 1 a → b ≡ get_or xs 2 b → c ≡ get_or xs 3 c → o ≡ go (first_of a (first_of b (first_of c []))) → Gives view made o →
      Made (behind_head names xs)
  three_parts a b c o n ea eb ec same given = by xs n ea eb ec
    where
      here : Made (first_of a (first_of b (first_of c [])))
      here = subst (λ z. Gives view made z) same given

      by : (ys : List Sx) → length ys ≡ 4 → a ≡ get_or ys 1 a → b ≡ get_or ys 2 b → c ≡ get_or ys 3 c → Made (behind_head names ys)
      by [] m e f g = absurd (omega (arith, m))
      by (y ∷ []) m e f g = absurd (omega (arith, m))
      by (y ∷ p ∷ []) m e f g = absurd (omega (arith, m))
      by (y ∷ p ∷ q ∷ []) m e f g = absurd (omega (arith, m))
      by (y ∷ p ∷ q ∷ r ∷ []) m e f g =
          subst (λ z. Made (first_of p (first_of q (first_of z [])))) g
          (subst (λ z. Made (first_of p (first_of z (first_of c [])))) f
          (subst (λ z. Made (first_of z (first_of b (first_of c [])))) e here))
      by (y ∷ p ∷ q ∷ r ∷ s ∷ ys) m e f g = absurd (omega (arith, m))

  pub four_parts : (a b c d : Sx) (o : Option T) → length xs ≡ 5 → a ≡ get_or xs 1 a → b ≡ get_or xs 2 b → c ≡ get_or xs 3 c → d ≡ get_or xs 4 d → o ≡ go (first_of a (first_of b (first_of c (first_of d [])))) → Gives view made o →
      Made (behind_head names xs)
  four_parts a b c d o n ea eb ec ed same given = by xs n ea eb ec ed
    where
      here : Made (first_of a (first_of b (first_of c (first_of d []))))
      here = subst (λ z. Gives view made z) same given

      by : (ys : List Sx) → length ys ≡ 5 → a ≡ get_or ys 1 a → b ≡ get_or ys 2 b → c ≡ get_or ys 3 c → d ≡ get_or ys 4 d → Made (behind_head names ys)
      by [] m e f g h = absurd (omega (arith, m))
      by (y ∷ []) m e f g h = absurd (omega (arith, m))
      by (y ∷ p ∷ []) m e f g h = absurd (omega (arith, m))
      by (y ∷ p ∷ q ∷ []) m e f g h = absurd (omega (arith, m))
      by (y ∷ p ∷ q ∷ r ∷ []) m e f g h = absurd (omega (arith, m))
      by (y ∷ p ∷ q ∷ r ∷ s ∷ []) m e f g h =
          subst (λ z. Made (first_of p (first_of q (first_of r (first_of z []))))) h
          (subst (λ z. Made (first_of p (first_of q (first_of z (first_of d []))))) g
          (subst (λ z. Made (first_of p (first_of z (first_of c (first_of d []))))) f
          (subst (λ z. Made (first_of z (first_of b (first_of c (first_of d []))))) e here)))
      by (y ∷ p ∷ q ∷ r ∷ s ∷ t ∷ ys) m e f g h = absurd (omega (arith, m))
