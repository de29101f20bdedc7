-- Names that are put one after the other: while all are new, and the first that is not.
use Rattle.std.proofs.Common.{◌≡◌, ℕ, ◌+◌, Bool, true, false, not, if◌then◌else◌, List, [], ◌∷◌, ◌++◌, length, map, take, Some, option_map, refl, sym, ap, ap₂, ◌∙◌, subst, bytes_eq, true≢false, arith}
use Rattle.std.proofs.lemmas.Cmp.{nat_list_eq_equiv}
use Rattle.std.proofs.Math.Seq.{take-append-add}
use Rattle.std.proofs.lemmas.List.{length-map, take_all}
use Rattle.std.proofs.lemmas.Map.Views.{Contains-from_any, list_any-from_Contains}
use Rattle.std.proofs.lemmas.Option.{slice_get-map}
use Rattle.std.proofs.lemmas.Slice.Eq.{bytes_eq-Decides}
use Rattle.std.specs.List.{Contains, list_any, slice_get}
use Rattle.jd_jclasses.specs.Classes.{DeclaredClass, prelude, prelude_count}
use Rattle.jd_jheads.specs.Firsts.{AtName, FirstClass, HasUsedName, NoneBelow}
use Rattle.jd_jheads.specs.Names.{insert_name, names_with}
use Rattle.jd_jheads.proofs.ClassLists.{none_more, taken_more}

-- the names of the first so many classes, those that are always there among them
abbrev pub first_names : List DeclaredClass → ℕ → List (List ℕ)
first_names ds i = take (prelude_count + i) (names_with ds)

abbrev name_of : DeclaredClass → List ℕ
name_of d = d.tree.name.name

name_taken : (ds : List DeclaredClass) (i : ℕ) (d : DeclaredClass) → slice_get ds i ≡ Some d → first_names ds (i + 1) ≡ first_names ds i ++ name_of d ∷ []
name_taken ds i d there = taken_more (map (λ p. p.0) prelude) (map name_of ds) i (name_of d) (slice_get-map name_of ds i ∙ ap (option_map name_of) there)

pub all_names : (ds : List DeclaredClass) → first_names ds (length ds) ≡ names_with ds
all_names ds = take-append-add (map (λ p. p.0) prelude) (map name_of ds) (length ds) ∙ ap (λ ns. map (λ p. p.0) prelude ++ ns) (take_all (length ds) (map name_of ds) (omega (arith, length-map ds name_of)))

not_true : (t : Bool) → not t ≡ true → t ≡ false
not_true true h = sym h
not_true false h = refl

not_false : (t : Bool) → not t ≡ false → t ≡ true
not_false true h = refl
not_false false h = sym h

absent : (names : List (List ℕ)) (name : List ℕ) → list_any (bytes_eq name) names ≡ false → Contains names name → ⊥
absent names name none there = true≢false (sym (list_any-from_Contains nat_list_eq_equiv name names there) ∙ none)

present : (names : List (List ℕ)) (name : List ℕ) → list_any (bytes_eq name) names ≡ true → Contains names name
present names name found = Contains-from_any (λ x y. (bytes_eq-Decides x y).0) name names found

module _ (ds : List DeclaredClass) (i : ℕ) (d : DeclaredClass) (name : List ℕ) (old : List (List ℕ)) (there : slice_get ds i ≡ Some d) (named : name ≡ name_of d) (is : old ≡ first_names ds i) where
  -- a name that was added is one more name
  pub one_more_name : (new : List (List ℕ)) (b : Bool) → new ≡ insert_name old name → b ≡ not (list_any (bytes_eq name) old) → b ≡ true → new ≡ first_names ds (i + 1)
  one_more_name new b made tells added =
      made
      ∙ ap (λ t. if t then old else old ++ name ∷ []) (not_true (list_any (bytes_eq name) old) (sym tells ∙ added))
      ∙ ap₂ (λ o n. o ++ n ∷ []) is named
      ∙ sym (name_taken ds i d there)

  pub one_more_new : (b : Bool) → b ≡ not (list_any (bytes_eq name) old) → b ≡ true → NoneBelow ds (HasUsedName ds) i → NoneBelow ds (HasUsedName ds) (i + 1)
  one_more_new b tells added before =
      none_more ds (HasUsedName ds) i d there before (λ used.
      absent old name (not_true (list_any (bytes_eq name) old) (sym tells ∙ added)) (subst (λ (n : List ℕ). Contains old n) (sym named) (subst (λ (ns : List (List ℕ)). Contains ns (name_of d)) (sym is) used)))

  -- a name that was there already
  pub first_used : (b : Bool) → b ≡ not (list_any (bytes_eq name) old) → b ≡ false → NoneBelow ds (HasUsedName ds) i → FirstClass ds (HasUsedName ds) (AtName d.file d.tree.name.at)
  first_used b tells added before =
      record {
        i = i;
        class = d;
        there = there;
        holds = subst (λ (ns : List (List ℕ)). Contains ns (name_of d)) is (subst (λ (n : List ℕ). Contains old n) named (present old name (not_false (list_any (bytes_eq name) old) (sym tells ∙ added))));
        place = (refl, refl);
        before = before;
      }
