-- The invariants of a class are those of its row; what is no class has none.
use Rattle.std.proofs.Common.{◌≡◌, ◌<◌, ◌≤◌, ◌+◌, ◌==◌, ℕ, zero, suc, Bool, true, false, if◌then◌else◌, List, [], map, length, refl, sym, ap, ◌∙◌, arith, length-append, nat_lt}
use Rattle.std.specs.List.{enumerate_from, range_with_len}
use Rattle.std.specs.Option.{option_and_then}
use Rattle.std.proofs.lemmas.Bool.Decides.{nat_tests}
use Rattle.std.proofs.lemmas.List.{length-map}
use Rattle.std.proofs.lemmas.List.FromFn.{length-enumerate_from}
use Rattle.std.proofs.lemmas.Option.{slice_get_past}
use Rattle.jd_syntax.specs.JavaTrees.{JavaUnit}
use Rattle.jd_jclasses.specs.Classes.{class_names, declared_classes, parent_by, parents, prelude, prelude_count}
use Rattle.jd_jinfos.specs.Infos.{class_infos, declared_info, prelude_info}
use Rattle.jd_model.specs.ContractForms.{PlainInvariant}
use Rattle.jd_model.specs.Programs.{Program}
use Rattle.jd_model.specs.Tables.{invariants_in}
use Rattle.jd_jml_meaning.specs.InvariantFormulas.{invariant_formulas}
use Rattle.jd_jml_meaning.specs.JmlCases.{JmlProgram}
use Rattle.jd_jml_meaning.specs.Resolved.{JmlExpr}
use Rattle.jd_programs.specs.Programs.{IsProgram, invariants_of_tree}
use Rattle.jd_listed_tables.specs.Listed.{invariant_row}

same_number : (a c : ℕ) → (a == c) ≡ true → a ≡ c
same_number a c e = grind (arith, nat_tests)

other_number : (a c : ℕ) → (a == c) ≡ false → (a ≡ c → ⊥)
other_number a c e same = grind (arith, nat_tests)

between : (a c : ℕ) → c < a + 1 → (a ≡ c → ⊥) → c < a
between a c lt apart = grind arith

further : (a n c : ℕ) → a + 1 + n ≤ c → a + suc n ≤ c
further a n c le = omega (arith, le)

module _ (p : Program) (own : ℕ → List JmlExpr) where
  -- of classes from one on
  each : (a n c : ℕ) → (c < a → own c ≡ []) → (a + n ≤ c → own c ≡ []) → invariants_in (map (invariant_row p own) (range_with_len a n)) c ≡ invariant_formulas p (own c)
  each a zero c before behind = sym (ap (invariant_formulas p) (by (nat_lt c a) refl))
    where
      by : (b : Bool) → nat_lt c a ≡ b → own c ≡ []
      by true e = before (grind (arith, nat_tests))
      by false e = behind (grind (arith, nat_tests))
  each a (suc n) c before behind = by (a == c) refl (λ apart. each (a + 1) n c (λ lt. before (between a c lt apart)) (λ le. behind (further a n c le)))
    where
      rest : List PlainInvariant
      rest = map (invariant_row p own) (range_with_len (a + 1) n)

      by : (b : Bool) → (a == c) ≡ b → ((a ≡ c → ⊥) → invariants_in rest c ≡ invariant_formulas p (own c)) → (if b then invariant_formulas p (own a) else invariants_in rest c) ≡ invariant_formulas p (own c)
      by true e more = ap (λ x. invariant_formulas p (own x)) (same_number a c e)
      by false e more = more (other_number a c e)

-- as many classes as their tables list
as_many : (units : List JavaUnit) → length (class_infos units) ≡ length (parents units)
as_many units =
    let listed = map (declared_info units) (enumerate_from prelude_count (declared_classes units)) in
    let extended = map (λ d. parent_by (class_names units) d.tree.parent) (declared_classes units) in
    length-append (map prelude_info prelude) listed
    ∙ ap (λ n. 10 + n) (length-map (enumerate_from prelude_count (declared_classes units)) (declared_info units) ∙ length-enumerate_from prelude_count (declared_classes units) ∙ sym (length-map (declared_classes units) (λ d. parent_by (class_names units) d.tree.parent)))
    ∙ sym (length-append (map (λ p. p.1) prelude) extended)

module _ (units : List JavaUnit) (j : JmlProgram) (is : IsProgram units j) where
  none_behind : (c : ℕ) → length (parents units) ≤ c → j.own c ≡ []
  none_behind c le =
      let past : length (class_infos units) ≤ c = omega (arith, as_many units, le) in
      is.invariants_ c ∙ ap (λ o. invariants_of_tree is.declarations c (option_and_then (λ i. i.decl) o)) (slice_get_past (class_infos units) c past)

  pub invariants_listed : (c : ℕ) → invariants_in (map (invariant_row j.program j.own) (range_with_len 0 (length (parents units)))) c ≡ invariant_formulas j.program (j.own c)
  invariants_listed c = each j.program j.own 0 (length (parents units)) c (λ lt. absurd (omega (arith, lt))) (λ le. none_behind c (omega (arith, le)))
