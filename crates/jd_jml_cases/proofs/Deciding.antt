-- The cases of methods, by what the tables list of them.
use Rattle.std.proofs.Common.{◌≡◌, ℕ, Bool, true, false, ◌||◌, cond, List, [], ◌∷◌, ◌++◌, Option, Some, None, option_map, sym, ap, ◌∙◌, slice_get, flat_map, append_assoc}
use Rattle.std.proofs.lemmas.Grind.{flat_map-append}
use Rattle.std.proofs.lemmas.List.{append-nil}
use Rattle.std.proofs.lemmas.Option.{same_Some, none-some, slice_get-map}
use Rattle.jd_syntax.specs.JavaTrees.{JavaUnit}
use Rattle.jd_jclasses.specs.Members.{Declared}
use Rattle.jd_jclasses.specs.Methods.{routines}
use Rattle.jd_jinfos.specs.Infos.{PlainMethodInfo, method_info, method_infos}
use Rattle.jd_jml_written.specs.Marked.{PlainCase}
use Rattle.jd_jml_cases.specs.Cases.{cases_of_routine, inherited, method_cases, written_at}

module _ (units : List JavaUnit) where
  abbrev by_info : ℕ → PlainMethodInfo → List PlainCase
  by_info m i = cond (i.static || i.constructor) (written_at units m) (inherited units i.name i.class)

  of_routine : (m : ℕ) (o : Option Declared) (i : PlainMethodInfo) → option_map method_info o ≡ Some i → cases_of_routine units m o ≡ by_info m i
  of_routine m None i e = absurd (none-some i e)
  of_routine m (Some r) i e = ap (by_info m) (same_Some (method_info r) i e)

  pub cases_are : (m : ℕ) (i : PlainMethodInfo) → slice_get (method_infos units) m ≡ Some i → method_cases units m ≡ by_info m i
  cases_are m i there = of_routine m (slice_get (routines units) m) i (sym (slice_get-map method_info (routines units) m) ∙ there)

  pub alone : (m : ℕ) (i : PlainMethodInfo) (b : Bool) → slice_get (method_infos units) m ≡ Some i → b ≡ i.static || i.constructor → b ≡ true → method_cases units m ≡ written_at units m
  alone m i b there is so = cases_are m i there ∙ ap (λ c. cond c (written_at units m) (inherited units i.name i.class)) (sym is ∙ so)

  pub with_others : (m : ℕ) (i : PlainMethodInfo) (b : Bool) → slice_get (method_infos units) m ≡ Some i → b ≡ i.static || i.constructor → b ≡ false → method_cases units m ≡ inherited units i.name i.class
  with_others m i b there is not_so = cases_are m i there ∙ ap (λ c. cond c (written_at units m) (inherited units i.name i.class)) (sym is ∙ not_so)

-- ---- one class more

module _ (f : ℕ → List PlainCase) (g : ℕ → List ℕ) where
  pub one_lower : (up : List ℕ) (c : ℕ) (old middle new : List PlainCase) → middle ≡ old ++ flat_map f (flat_map g up) → new ≡ middle ++ flat_map f (g c) → new ≡ old ++ flat_map f (flat_map g (up ++ c ∷ []))
  one_lower up c old middle new first second =
      second
      ∙ ap (λ l. l ++ flat_map f (g c)) first
      ∙ append_assoc old (flat_map f (flat_map g up)) (flat_map f (g c))
      ∙ ap (λ l. old ++ l)
      (sym (flat_map-append f (flat_map g up) (g c))
      ∙ ap (flat_map f) (ap (λ l. flat_map g up ++ l) (sym (append-nil (g c))) ∙ sym (flat_map-append g up (c ∷ []))))
