-- Worked files: which refusal is theirs.
use Rattle.std.proofs.Common.{◌≡◌, ◌<◌, ℕ, zero, suc, Bool, true, false, List, [], ◌∷◌, length, take, codes, Option, Some, None, slice_index_or, refl, sym, ap, ◌∙◌, subst, arith}
use Rattle.std.specs.Prelude.{◌||◌}
use Rattle.std.specs.List.{Contains, list_any}
use Rattle.std.specs.Str.{bytes_eq}
use Rattle.std.proofs.lemmas.Slice.Eq.{bytes_eq-Decides}
use Rattle.jd_ancestry.specs.Ancestors.{above_child}
use Rattle.jd_syntax.specs.JavaTypes.{PlainIdentifier}
use Rattle.jd_jclasses.specs.Classes.{DeclaredClass, class_names, class_named}
use Rattle.jd_jclasses.specs.Refusals.{DuplicateClassAt, UnknownSuperAt}
use Rattle.jd_jclasses.specs.Examples.{ClassExamples, two_of_a_name, own_parent}

or_left : (a b : Bool) → a ≡ true → (a || b) ≡ true
or_left a b h = cc

or_right : (a b : Bool) → b ≡ true → (a || b) ≡ true
or_right true b h = refl
or_right false b h = h

-- a name of a list is found there
is_found : (xs : List (List ℕ)) (x : List ℕ) (k : ℕ) → k < length xs → slice_index_or xs k x ≡ x → list_any (λ n. bytes_eq n x) xs ≡ true
is_found [] x k below same = absurd (omega (arith, below))
is_found (y ∷ ys) x zero below same = or_left (bytes_eq y x) (list_any (λ n. bytes_eq n x) ys) ((bytes_eq-Decides y x).1 same)
is_found (y ∷ ys) x (suc k) below same = or_right (bytes_eq y x) (list_any (λ n. bytes_eq n x) ys) (is_found ys x k (omega (arith, below)) same)

not_there : (xs : List (List ℕ)) (x : List ℕ) → list_any (λ n. bytes_eq n x) xs ≡ false → Contains xs x → ⊥
not_there xs x none c = let yes = is_found xs x c.0 c.1 c.2 in cc

same_some : {A : Type 0} (a b : A) → Some a ≡ Some b → a ≡ b
same_some a b h = cc

first_is_new : (j : ℕ) → j < 1 → DuplicateClassAt two_of_a_name j → ⊥
first_is_new zero before p =
    let same = same_some _ p.class p.there in not_there (take 10 (class_names two_of_a_name)) (codes "A") refl (subst (λ (d : DeclaredClass). Contains (take 10 (class_names two_of_a_name)) d.tree.name.name) (sym same) p.holds)
first_is_new (suc j) before p = absurd (omega (arith, before))

new_name : (i : ℕ) → DuplicateClassAt own_parent i → ⊥
new_name zero p =
    let same = same_some _ p.class p.there in not_there (take 10 (class_names own_parent)) (codes "E") refl (subst (λ (d : DeclaredClass). Contains (take 10 (class_names own_parent)) d.tree.name.name) (sym same) p.holds)
new_name (suc i) p = absurd (let none = p.there in cc)

known : (i : ℕ) → UnknownSuperAt own_parent i → ⊥
known zero p =
    let same = same_some _ p.class p.there in
    let name = same_some _ p.holds.0 (ap (λ (d : DeclaredClass). d.tree.parent) same ∙ p.holds.1) in
    let none : ◌≡◌ {A = Option ℕ} (Some 10) None = ap (λ (x : PlainIdentifier). class_named own_parent x.name) name ∙ p.holds.2 in cc
known (suc i) p = absurd (let none = p.there in cc)

pub class_examples : ClassExamples
class_examples = record {
  duplicate = record {
    i = 1;
    holds = record { here = record { class = _; there = refl; holds = (10, omega (arith), refl) }; first = first_is_new };
    place = record { class = _; there = refl; holds = (refl, refl) };
  };
  cyclic = (
    new_name,
    known,
    record {
      i = 0;
      holds = record { here = record { class = _; there = refl; holds = above_child 10 10 refl }; first = λ j before p. omega (arith, before) };
      place = record { class = _; there = refl; holds = (refl, refl) };
    },
  );
}
