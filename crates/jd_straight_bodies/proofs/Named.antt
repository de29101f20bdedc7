-- Variables that are made have words that terms read as them too.
use Rattle.std.proofs.Common.{List, None, Option, [], ap, arith, cond, length, map, option_map, refl, subst, sym, true, ◌+◌, ◌<◌, ◌^◌, ◌∙◌, ◌∷◌, ◌≡◌, ◌≤◌, inl, inr, ℕ, Bool, false}
use Rattle.std.specs.Prelude.{codes}
use Rattle.std.specs.Str.{bytes_eq}
use Rattle.jd_bodies.specs.Variables.{local_text}
use Rattle.jd_expression_temporaries.specs.Growing.{BeginsWithMark}
use Rattle.jd_local_texts.specs.Laws.{TextsOfLocalsAreApart}
use Rattle.jd_names.specs.Identifiers.{is_variable_word}
use Rattle.jd_programs.specs.Programs.{variable_name}
use Rattle.jd_spelled_first_steps.specs.TermNames.{AreTermNames, IsTermName}
use Rattle.jd_syntax.specs.Names.{Declared}
use Rattle.jd_tforms.specs.Naming.{constant_of, named, special_sort}
use Rattle.jd_tforms.specs.Shapes.{is_name}
use Rattle.jd_straight_bodies.proofs.Found.{AreMade, IsMade, limit, marked_is, written_whole}
use Rattle.jd_straight_bodies.proofs.Words.{no_sign}

none_both : {A : Type 0} (b : Bool) → ◌≡◌ {A = Option A} (cond b None None) None
none_both true = refl
none_both false = refl

no_constant : (w : List ℕ) → special_sort 35 w ≡ None → constant_of w ≡ None
no_constant w e = ap (λ o. cond (is_name w) (option_map (named w) o) None) e ∙ none_both (is_name w)

no_mark : (bs : List ℕ) → special_sort 35 (39 ∷ bs) ≡ None
no_mark [] = refl
no_mark (b ∷ bs) = refl

module _ (texts : TextsOfLocalsAreApart) (names : List (List ℕ)) (few : length names ≤ limit) where
  not_created : (x : List ℕ) (k : ℕ) → local_text x k ≡ codes "created" → (x ≡ codes "created") × (k ≡ 1) → cond (bytes_eq x (codes "created")) 1 0 + 1 ≤ k → ⊥
  not_created x k e both le =
      let two : 2 ≤ k = subst (λ y. cond (bytes_eq y (codes "created")) 1 0 + 1 ≤ k) both.0 le in
      let one = both.1 in
      omega (arith, two, one)

  made_is_term_name : (v : Declared) → IsMade names v → IsTermName (variable_name v)
  made_is_term_name v (inl marked) =
      let m = marked_is v.name.text marked in
      (λ e. let is : 99 ≡ 39 = subst BeginsWithMark e marked in omega (arith, is), no_constant v.name.text (ap (special_sort 35) m.1 ∙ no_mark m.0))
  made_is_term_name v (inr n) =
      let most = n.most in
      let whole = written_whole n.name names few in
      let lt : n.number < 10 ^ 64 = omega (arith, most, whole) in (
        λ e. not_created n.name n.number (sym n.text ∙ e) (texts.apart n.name (codes "created") n.number 1 n.word refl lt (omega arith) n.some (omega arith) (sym n.text ∙ e)) n.later,
        no_constant v.name.text (no_sign 35 v.name.text refl (ap is_variable_word n.text ∙ texts.word n.name n.number lt n.word)),
      )

  pub made_are_term_names : (vs : List Declared) → AreMade names vs → AreTermNames (map variable_name vs)
  made_are_term_names [] made = tt
  made_are_term_names (v ∷ vs) made = (made_is_term_name v made.0, made_are_term_names vs made.1)
