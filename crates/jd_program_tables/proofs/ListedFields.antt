-- The fields that are listed of a class are those that it or a class above it declares.
use Rattle.std.proofs.Common.{◌≡◌, ◌+◌, ◌||◌, inl, inr, ℕ, Bool, true, false, nat_eq, List, [], ◌∷◌, Option, Some, None, refl, sym, ap, subst, ◌∙◌, arith}
use Rattle.std.specs.List.{list_any, slice_get}
use Rattle.std.proofs.lemmas.Bool.Decides.{nat_tests}
use Rattle.jd_syntax.specs.JavaTrees.{JavaUnit}
use Rattle.jd_jclasses.specs.Members.{Declared}
use Rattle.jd_jclasses.specs.Methods.{fields}
use Rattle.jd_jinfos.specs.Infos.{is_of}
use Rattle.jd_case_rows.specs.Laws.{Listed}
use Rattle.jd_programs.specs.Members.{own}
use Rattle.jd_programs.specs.Programs.{declared_along}
use Rattle.jd_declared.proofs.Declaring.{has_number, numbered}
use Rattle.jd_declared.proofs.Lists.{In}
use Rattle.jd_listed_tables.specs.Listed.{fields_along}
use Rattle.jd_program_laws.proofs.Lists.{among, from_flat, in_flat, same_number}
use Rattle.jd_program_tables.specs.Laws.{ListedFieldsAreThose}

listed : (f : ℕ) (xs : List ℕ) → In f xs → Listed xs f
listed f [] h = absurd h
listed f (x ∷ xs) (inl same) = inl (sym same)
listed f (x ∷ xs) (inr behind) = inr (listed f xs behind)

among_listed : (f : ℕ) (xs : List ℕ) → Listed xs f → In f xs
among_listed f [] h = absurd h
among_listed f (x ∷ xs) (inl same) = inl (sym same)
among_listed f (x ∷ xs) (inr behind) = inr (among_listed f xs behind)

its_own : (c : ℕ) → nat_eq c c ≡ true
its_own c = grind (arith, nat_tests)

has_it : (c : ℕ) (xs : List ℕ) → In c xs → list_any (nat_eq c) xs ≡ true
has_it c [] h = absurd h
has_it c (x ∷ xs) (inl same) = ap (λ b. b || list_any (nat_eq c) xs) (ap (nat_eq c) (sym same) ∙ its_own c)
has_it c (x ∷ xs) (inr behind) = by (nat_eq c x) (has_it c xs behind)
  where
    by : (b : Bool) → list_any (nat_eq c) xs ≡ true → (b || list_any (nat_eq c) xs) ≡ true
    by true h = refl
    by false h = h

module _ (units : List JavaUnit) (lineage : ℕ → List ℕ) (c f : ℕ) where
  declared_listed : (o : Option Declared) → slice_get (fields units) f ≡ o → declared_along (lineage c) o ≡ true → Listed (fields_along units lineage c) f
  declared_listed None there e = absurd cc
  declared_listed (Some r) there e =
      let same : 0 + f ≡ f = omega arith in
      let of_class = subst (λ k. In k (own units r.class).fields) same (has_number (is_of r.class) 0 f (fields units) r there (its_own r.class)) in
      listed f (fields_along units lineage c) (in_flat (λ a. (own units a).fields) (lineage c) r.class f (among r.class (lineage c) e) of_class)

  listed_declared : Listed (fields_along units lineage c) f → declared_along (lineage c) (slice_get (fields units) f) ≡ true
  listed_declared h =
      let from = from_flat (λ a. (own units a).fields) (lineage c) f (among_listed f (fields_along units lineage c) h) in
      let p = numbered (is_of from.0) 0 (fields units) f from.2 in
      let same : p.k ≡ f = omega (arith, p.is) in
      let there : slice_get (fields units) f ≡ Some p.one = subst (λ k. slice_get (fields units) k ≡ Some p.one) same p.there in
      let class : from.0 ≡ p.one.class = same_number from.0 p.one.class p.passes in
      ap (declared_along (lineage c)) there ∙ has_it p.one.class (lineage c) (subst (λ a. In a (lineage c)) class from.1)

pub are_those : ListedFieldsAreThose
are_those units are j is c f =
    let lineage = j.program.superclasses in (
      λ e. declared_listed units lineage c f (slice_get (fields units) f) refl (sym (is.fields_.has_field c f) ∙ e),
      λ h. is.fields_.has_field c f ∙ listed_declared units lineage c f h,
    )
