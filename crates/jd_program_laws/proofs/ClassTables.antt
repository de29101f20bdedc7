-- What the tables of files tell is told of them, and it is one.
use Rattle.std.proofs.Common.{◌≡◌, ◌⊎◌, inl, inr, ⊎_elim, ◌<◌, ◌≤◌, ℕ, Bool, true, false, ◌&&◌, List, length, Option, Some, None, refl, sym, subst, ◌∙◌, arith}
use Rattle.std.specs.Prelude.{nat_lt}
use Rattle.std.specs.Bool.{Decides}
use Rattle.std.specs.List.{slice_get}
use Rattle.std.proofs.lemmas.Bool.{cases_lt}
use Rattle.std.proofs.lemmas.Bool.Decides.{nat_tests}
use Rattle.std.proofs.lemmas.List.{get_or_past}
use Rattle.std.proofs.lemmas.Option.{none-some, slice_get_cases, slice_get_within}
use Rattle.jd_ancestry.specs.Depths.{IsDepths}
use Rattle.jd_reach.specs.Graphs.{edge}
use Rattle.jd_reach.specs.Paths.{ReachesBy}
use Rattle.jd_reach.specs.Rows.{within}
use Rattle.jd_syntax.specs.JavaTrees.{JavaUnit}
use Rattle.jd_jclasses.specs.Members.{Declared}
use Rattle.jd_jclasses.specs.Methods.{routines}
use Rattle.jd_task_classes.specs.Classes.{PlainClasses}
use Rattle.jd_program_laws.specs.TaskClasses.{AreClassesOf, ClassesAreOne, TablesAreClasses}
use Rattle.jd_program_laws.proofs.OneFamilies.{one_count, one_number, reached_too}

-- ---- the edges of a graph of so many nodes

inside : (count a b : ℕ) (edges : ℕ → ℕ → Bool) → a < count → b < count → within count edges a b ≡ edges a b
inside count a b edges lt lt' = by (nat_lt a count) (nat_lt b count) (below a lt) (below b lt')
  where
    below : (c : ℕ) → c < count → nat_lt c count ≡ true
    below c l = grind (arith, nat_tests)

    by : (x y : Bool) → x ≡ true → y ≡ true → x && y && edges a b ≡ edges a b
    by true true e f = refl
    by true false e f = absurd cc
    by false y e f = absurd cc

outside : (count a b : ℕ) (edges : ℕ → ℕ → Bool) → (a < count → b < count → ⊥) → within count edges a b ≡ false
outside count a b edges none = by (nat_lt a count) (nat_lt b count) refl refl
  where
    below : (c : ℕ) → nat_lt c count ≡ true → c < count
    below c l = grind (arith, nat_tests)

    by : (x y : Bool) → nat_lt a count ≡ x → nat_lt b count ≡ y → x && y && edges a b ≡ false
    by true true e f = absurd (none (below a e) (below b f))
    by true false e f = refl
    by false true e f = refl
    by false false e f = refl

-- ---- tables

none_beyond : {X : Type 0} (xs : List X) (m : ℕ) → slice_get xs m ≡ None → length xs ≤ m
none_beyond xs m none = ⊎_elim (λ h. absurd (none-some h.0 (sym none ∙ h.2))) (λ h. h.0) (slice_get_cases xs m).1

pub tables_are_classes : TablesAreClasses
tables_are_classes units t tables = record {
  tables = λ i. record { classes = tables.classes_ i; fields = tables.fields_ i; routines = tables.methods_ i };
  depths = t.depths.items;
  are_depths = subst (λ ps. IsDepths ps t.depths.items) tables.parents_ tables.depths_;
  count = t.families.count;
  are_families = tables.families_;
  no_family = λ m none. let le = none_beyond (routines units) m none in let many = tables.routines_ in get_or_past t.families.numbers.items m 0 (omega (arith, le, many));
  calls = tables.graph_.calls.0;
  are_calls = tables.graph_.calls.1;
  reaches = λ a b lt lt'.
      subst (λ x. Decides x (ReachesBy tables.graph_.calls.0 a b)) (sym (inside t.families.count a b (edge t.graph) lt lt'))
      (tables.graph_.reaches tables.graph_.calls.0 tables.graph_.calls.1 a b lt lt');
  none_reached = λ a b none. outside t.families.count a b (edge t.graph) none;
}

-- ---- one

pub decided : {P : Type 0} (a b : Bool) → Decides a P → Decides b P → a ≡ b
decided true true h g = refl
decided true false h g = sym (g.1 (h.0 refl))
decided false true h g = h.1 (g.0 refl)
decided false false h g = refl

module _ (units : List JavaUnit) (k l : PlainClasses) (a : AreClassesOf units k) (b : AreClassesOf units l) where
  numbers : (m : ℕ) → m < length (routines units) → k.families m ≡ l.families m
  numbers = one_number units a.count k.families a.are_families b.count l.families b.are_families

  counts : a.count ≡ b.count
  counts = one_count units a.count k.families a.are_families b.count l.families b.are_families

  families : (m : ℕ) → k.families m ≡ l.families m
  families m = by (slice_get (routines units) m) refl
    where
      by : (o : Option Declared) → slice_get (routines units) m ≡ o → k.families m ≡ l.families m
      by None e = a.no_family m e ∙ sym (b.no_family m e)
      by (Some r) e = numbers m (slice_get_within (routines units) m r e)

  reach : (c d : ℕ) → k.reaches c d ≡ l.reaches c d
  reach c d = by (cases_lt c a.count) (cases_lt d a.count)
    where
      -- one of them is no family
      none : (c < a.count → d < a.count → ⊥) → k.reaches c d ≡ l.reaches c d
      none h = a.none_reached c d h ∙ sym (b.none_reached c d (λ i j. h (subst (λ n. c < n) (sym counts) i) (subst (λ n. d < n) (sym counts) j)))

      both : c < a.count → d < a.count → k.reaches c d ≡ l.reaches c d
      both i j =
          let here = a.reaches c d i j in
          let there = b.reaches c d (subst (λ n. c < n) counts i) (subst (λ n. d < n) counts j) in
          decided (k.reaches c d) (l.reaches c d) here (
            λ e. reached_too units l.families k.families (λ m lt. sym (numbers m lt)) b.calls a.calls b.are_calls a.are_calls c d (there.0 e),
            λ r. there.1 (reached_too units k.families l.families numbers a.calls b.calls a.are_calls b.are_calls c d r),
          )

      by : (c < a.count) ⊎ (a.count ≤ c) → (d < a.count) ⊎ (a.count ≤ d) → k.reaches c d ≡ l.reaches c d
      by (inl i) (inl j) = both i j
      by (inl i) (inr le) = none (λ h g. absurd (omega (arith, g, le)))
      by (inr le) o = none (λ h g. absurd (omega (arith, h, le)))

  one : k ≡ l
  one = λ i. record { tables = (a.tables ∙ sym b.tables) i; families = λ m. families m i; reaches = λ c d. reach c d i }

pub classes_are_one : ClassesAreOne
classes_are_one units k l a b = one units k l a b
