-- What a task tells is what each program has that it stands for.
use Rattle.std.proofs.Common.{Bool, List, None, Some, ap, arith, cond, false, inl, inr, length, reverse, subst, sym, true, ◌<◌, ◌≡◌, ◌≤◌, ◌⊎◌, ◌∙◌, ℕ, []}
use Rattle.std.specs.Prelude.{nat_lt}
use Rattle.std.specs.List.{slice_get}
use Rattle.std.specs.Option.{unwrap_or}
use Rattle.std.proofs.lemmas.Bool.{cases_lt}
use Rattle.std.proofs.lemmas.Bool.Decides.{nat_tests}
use Rattle.std.proofs.lemmas.List.{length-map, reverse-reverse}
use Rattle.jd_jinfos.specs.Infos.{PlainClassInfo}
use Rattle.jd_model.specs.Programs.{Program}
use Rattle.jd_names.specs.Tables.{ClassTables}
use Rattle.jd_task_classes.specs.Classes.{PlainClasses, named_in, parents_in}
use Rattle.jd_task_classes.specs.Standing.{AreItsClasses, AreItsFields, declared_among}
use Rattle.jd_told_programs.specs.Told.{ToldIsThat, line, number_in, superclasses_in, told_program, without_bodies}
use Rattle.jd_told_programs.proofs.Lines.{line_is}

lt_below : (a b : ℕ) → a < b → nat_lt a b ≡ true
lt_below a b e = grind (arith, nat_tests)

not_below : (a b : ℕ) → b ≤ a → nat_lt a b ≡ false
not_below a b e = grind (arith, nat_tests)

module _ (t : ClassTables) (p : Program) (classes : AreItsClasses t p) where
  as_many : length (parents_in t) ≡ length t.classes
  as_many = length-map t.classes (λ (c : PlainClassInfo). c.parent)

  line_of : (c : ℕ) → c < length t.classes → line (parents_in t) (length t.classes) c ≡ reverse (p.superclasses c)
  line_of c lt =
      subst (λ n. line (parents_in t) n c ≡ reverse (p.superclasses c)) as_many
      (line_is (parents_in t) (λ d. reverse (p.superclasses d)) (λ d l. classes.superclasses d (subst (λ n. d < n) as_many l)) c (subst (λ n. c < n) (sym as_many) lt))

  superclasses : (c : ℕ) → superclasses_in t c ≡ p.superclasses c
  superclasses c = by (cases_lt c (length t.classes))
    where
      told : ℕ → Bool → List ℕ
      told c b = cond b (reverse (line (parents_in t) (length t.classes) c)) []

      by : (c < length t.classes) ⊎ (length t.classes ≤ c) → superclasses_in t c ≡ p.superclasses c
      by (inl lt) = ap (told c) (lt_below c (length t.classes) lt) ∙ ap reverse (line_of c lt) ∙ reverse-reverse (p.superclasses c)
      by (inr le) = ap (told c) (not_below c (length t.classes) le) ∙ sym (classes.no_class c le)

  number : (name : List ℕ) (n : ℕ) → named_in t name ≡ Some n → number_in t name ≡ n
  number name n e = ap (λ o. unwrap_or o 0) e

module _ (k : PlainClasses) (p : Program) (classes : AreItsClasses k.tables p) (fields : AreItsFields k.tables p) where
  fields_of : (c f : ℕ) → declared_among (superclasses_in k.tables c) (slice_get k.tables.fields f) ≡ p.has_field c f
  fields_of c f = ap (λ l. declared_among l (slice_get k.tables.fields f)) (superclasses k.tables p classes c) ∙ sym (fields.has_field c f)

  pub program_is : told_program k ≡ without_bodies p
  program_is = λ i. record {
    superclasses = λ c. superclasses k.tables p classes c i;
    object = number k.tables p classes _ p.object classes.object i;
    throwable = number k.tables p classes _ p.throwable classes.throwable i;
    null_pointer = number k.tables p classes _ p.null_pointer classes.null_pointer i;
    arithmetic = number k.tables p classes _ p.arithmetic classes.arithmetic i;
    bounds = number k.tables p classes _ p.bounds classes.bounds i;
    cast = number k.tables p classes _ p.cast classes.cast i;
    negative_size = number k.tables p classes _ p.negative_size classes.negative_size i;
    field_type = λ f. sym (fields.types f) i;
    has_field = λ c f. fields_of c f i;
    lookup = λ c m. None;
    body = λ m. None;
  }

pub told_is_that : ToldIsThat
told_is_that t p c task = λ i. record {
  program = program_is t.classes p.setting.program task.classes.classes task.classes.fields i;
  invariants = λ c. task.tables.invariants c i;
}
