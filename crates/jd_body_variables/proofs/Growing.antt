-- What is made of a part of a body adds variables behind those that are there.
use Rattle.std.proofs.Common.{◌≡◌, ℕ, ◌+◌, Bool, List, [], ◌∷◌, ◌++◌, refl, sym, ap, ◌∙◌}
use Rattle.std.specs.List.{AllByRecursion}
use Rattle.std.proofs.lemmas.List.{append-nil, append_assoc}
use Rattle.jd_syntax.specs.Names.{Declared, Name}
use Rattle.jd_bodies.specs.declared.value.ValueType.{ValueType}
use Rattle.jd_bodies.specs.Variables.{Progress, declared, local_name, temporary, temporary_name, with_label, with_local, with_loop}
use Rattle.jd_body_variables.specs.Names.{IsMadeOf, Passes}
use Rattle.jd_body_variables.specs.Names.IsMadeOf.{a_local, a_temporary}

-- what is added is made of names that pass the test, if this holds
pub record Grows (test : List ℕ → Bool) (L : Type 0) (p q : Progress) : Type 0 where
  pub more : List Declared
  pub is : q.variables ≡ p.variables ++ more
  pub made : L → AllByRecursion (IsMadeOf test) more

module _ (test : List ℕ → Bool) where
  pub all_both : (xs ys : List Declared) → AllByRecursion (IsMadeOf test) xs → AllByRecursion (IsMadeOf test) ys → AllByRecursion (IsMadeOf test) (xs ++ ys)
  all_both [] ys g h = h
  all_both (x ∷ xs) ys g h = (g.0, all_both xs ys g.1 h)

module _ (test : List ℕ → Bool) (L : Type 0) where
  pub stays : (p : Progress) → Grows test L p p
  stays p = record { more = []; is = sym (append-nil p.variables); made = λ l. tt }

  pub joined : (p q r : Progress) → Grows test L p q → Grows test L q r → Grows test L p r
  joined p q r g h = record {
    more = g.more ++ h.more;
    is = h.is ∙ ap (λ l. l ++ h.more) g.is ∙ append_assoc p.variables g.more h.more;
    made = λ l. all_both test g.more h.more (g.made l) (h.made l);
  }

  -- ---- each way to go on

  pub kept : (t : ValueType) (p q : Progress) → Grows test L p q → Grows test L p (temporary t q).0
  kept t p q g = joined p q (temporary t q).0 g (record { more = declared (temporary_name (q.temporaries + 1) t) t ∷ []; is = refl; made = λ l. (a_temporary (q.temporaries + 1) t, tt) })

  pub local : (x : List ℕ) (t : ValueType) (p q : Progress) → (L → Passes test x) → Grows test L p q → Grows test L p (with_local x t q)
  local x t p q name g =
      joined p q (with_local x t q) g (record { more = declared (local_name (x ∷ q.names) x t) t ∷ []; is = refl; made = λ l. (a_local q.names x t (name l), tt) })

  pub labelled : (p q : Progress) → Grows test L p q → Grows test L p (with_label q)
  labelled p q g = record { more = g.more; is = g.is; made = g.made }

  pub looped : (scope : List Name) (p q : Progress) → Grows test L p q → Grows test L p (with_loop scope q)
  looped scope p q g = record { more = g.more; is = g.is; made = g.made }
