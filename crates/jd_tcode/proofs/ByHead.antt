-- What stands behind the head of an expression, from parts that are looked at twice.
use Rattle.std.proofs.Common.{◌≡◌, List, ℕ, map, Option, Some, Result, sym, ap, ◌∙◌, subst}
use Rattle.jd_syntax.specs.declared.sx.Sx.{Sx}
use Rattle.jd_syntax.specs.Sxs.{Bracketed, Brackets, bracketed_list, sx_view}
use Rattle.jd_tgrammar.specs.NameTables.{NameTable}
use Rattle.jd_tforms.specs.Heads.{head_of}
use Rattle.jd_tforms.specs.Reading.{Read, behind, read, read_brackets, reads}
use Rattle.jd_tcode.specs.Behind.{first_word, rest_of}
use Rattle.jd_tcode.specs.Pairing.{Gives}
use Rattle.jd_tcode.proofs.Counts.{headed}

module _ {H T A E : Type 0} (view : A → T) (names : NameTable) (word : H → List ℕ) (hs : List H) (go : Option H → List Read → Option T) (at : Read → Option T)
    (is_at : (rs : List Read) → behind names word hs go rs ≡ at (read_brackets names rs)) where
  pub by_head : (made : Result (Option A) E) (x : Bracketed) (first again parts : List Sx) (w : List ℕ) (h : H) →
      x ≡ Brackets (bracketed_list (map sx_view parts)) → first ≡ parts → again ≡ parts → Some w ≡ first_word (bracketed_list (map sx_view first)) → Some h ≡ head_of word hs w →
      Gives view made (go (Some h) (rest_of (reads names (bracketed_list (map sx_view again))))) → Gives view made (at (read names x))
  by_head made x first again parts w h is same this begins found given =
      let all = bracketed_list (map sx_view parts) in
      let begins_all : first_word all ≡ Some w = sym (begins ∙ ap (λ (l : List Sx). first_word (bracketed_list (map sx_view l))) same) in
      subst (λ o. Gives view made o)
      (ap (λ (l : List Sx). go (Some h) (rest_of (reads names (bracketed_list (map sx_view l))))) this
      ∙ (ap (λ o. go o (rest_of (reads names all))) found
      ∙ (sym (headed names word hs go all w begins_all)
      ∙ (is_at (reads names all)
      ∙ ap (λ y. at (read names y)) (sym is)))))
      given
