-- What a class sees, by the numbers of names.
use Rattle.std.proofs.Common.{◌≡◌, ℕ, ◌+◌, ◌<◌, List, [], length, map, get_or, Option, None, Some, MatchOption, slice_index, refl, sym, ap, ◌∙◌, subst, inl, inr, arith}
use Rattle.std.specs.List.{Contains, slice_get}
use Rattle.std.specs.Option.{option_map}
use Rattle.std.proofs.lemmas.List.{get_or-map, length-map}
use Rattle.std.proofs.lemmas.List.Elements.{Contains-get_or}
use Rattle.std.proofs.lemmas.Option.{none-some, same_Some, slice_get-map, slice_get_cases, slice_get_read, slice_get_within}
use Rattle.jd_nearest.specs.Nearest.{column}
use Rattle.jd_syntax.specs.JavaTrees.{JavaUnit}
use Rattle.jd_jclasses.specs.Classes.{class_in, class_names, parents}
use Rattle.jd_jclasses.specs.Members.{Declared, declared_members}
use Rattle.jd_jclasses.specs.Methods.{AreFamilies, IsSeen, SeesNone, routines}
use Rattle.jd_jgraph.proofs.Positions.{as_many_parents, name_at}
use Rattle.jd_jnumbers.specs.Numbered.{AreNames, member_name}
use Rattle.jd_jnumbers.specs.Texts.{number_in}
use Rattle.jd_jseen.specs.Seen.{AreSeen}
use Rattle.jd_jseen.proofs.Routines.{routines_are_members}

module _ (units : List JavaUnit) (names : List (List ℕ)) (numbers : List ℕ) (are : AreNames (declared_members units) names numbers) (name : List ℕ) where
  -- a name that has no number is no member's
  pub none_of_name : (class : ℕ) (found : Option ℕ) → found ≡ number_in names name → found ≡ None → SeesNone units class name
  none_of_name class found is none owner m subclass declared =
      let at = routines_are_members units m declared.routine declared.there in
      let placed = are.place at.0 declared.routine at.1 in
      none-some (slice_index numbers at.0) (sym (sym (is ∙ ap (number_in names) (sym declared.holds.2)) ∙ none) ∙ placed)

  -- a name that has one is a member's
  member_of_name : (k : ℕ) → number_in names name ≡ Some k → (i : ℕ) × (a : Declared) × (slice_get (declared_members units) i ≡ Some a) × (member_name a ≡ name)
  member_of_name k is =
      let at = name_at names name k is in
      let used = are.used name (subst (Contains names) at.1 (Contains-get_or names k [] at.0)) in
      elim (slice_get_cases (declared_members units) used.0).1 [
        | inl here ↦ (used.0, here.0, here.2, sym (get_or-map member_name (declared_members units) used.0 here.0 name here.1 ∙ ap member_name here.3) ∙ used.2)
        | inr past ↦ absurd (omega (arith, past.0, used.1, length-map (declared_members units) member_name))
      ]

  pub seen_of_name : (class k count many : ℕ) (cells : List (Option ℕ)) (found : Option ℕ) → AreSeen units numbers count cells → many ≡ count → class < length (parents units) → number_in names name ≡ Some k → found ≡ column (many + 1) cells k class
      → MatchOption found (SeesNone units class name) (λ m. IsSeen units class name m)
  seen_of_name class k count many cells found seen same lt is found_is =
      let m = member_of_name k is in
      let number : slice_index numbers m.0 ≡ k = same_Some (slice_index numbers m.0) k (sym (are.place m.0 m.1 m.2) ∙ ap (number_in names) m.3 ∙ is) in
      subst (λ (o : Option ℕ). MatchOption o (SeesNone units class name) (λ n. IsSeen units class name n)) (sym (found_is ∙ ap (λ (n : ℕ). column (n + 1) cells k class) same ∙ ap (λ (n : ℕ). column (count + 1) cells n class) (sym number)))
      (subst (λ (t : List ℕ). MatchOption (column (count + 1) cells (slice_index numbers m.0) class) (SeesNone units class t) (λ n. IsSeen units class t n)) m.3
      (seen.methods class m.0 m.1 lt m.2))

-- what is read from a table is listed
pub listed : {X Y : Type 0} (view : X → Y) (xs : List X) (ys : List Y) (i : ℕ) (x : X) → map view xs ≡ ys → i < length xs → x ≡ get_or xs i x → slice_get ys i ≡ Some (view x)
listed view xs ys i x are lt is = ap (λ l. slice_get l i) (sym are) ∙ slice_get-map view xs i ∙ ap (option_map view) (slice_get_read xs (length xs) i x refl lt is)

-- the number of a class, a method and a family is below their count
pub class_within : (units : List JavaUnit) (names : List (List ℕ)) (name : List ℕ) (k : ℕ) → names ≡ class_names units → class_in names name ≡ Some k → k < length (parents units)
class_within units names name k same found = omega (arith, (name_at names name k found).0, ap length same, as_many_parents units)

pub method_within : (units : List JavaUnit) (class : ℕ) (name : List ℕ) (m : ℕ) → IsSeen units class name m → m < length (routines units)
method_within units class name m seen = slice_get_within (routines units) m seen.declared.routine seen.declared.there

pub family_within : (units : List JavaUnit) (count : ℕ) (family : ℕ → ℕ) (m : ℕ) → AreFamilies units count family → m < length (routines units) → family m < count
family_within units count family m are lt = elim (slice_get_cases (routines units) m).1 [
  | inl here ↦ are.below m here.0 here.2
  | inr past ↦ absurd (omega (arith, lt, past.0))
]
