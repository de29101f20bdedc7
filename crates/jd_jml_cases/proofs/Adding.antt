-- What methods, classes and those above them add to the cases so far.
use Rattle.std.proofs.Common.{◌≡◌, ℕ, zero, suc, ◌+◌, ◌<◌, ◌≤◌, Bool, true, false, cond, List, [], ◌∷◌, ◌++◌, length, map, filter, drop, get_or, Option, Some, None, Result, Ok, Err, OnOk, option_map, refl, sym, ap, ap₂, subst, ◌∙◌, slice_get, flat_map, append_assoc}
use Rattle.std.specs.Borrow.{Bor}
use Rattle.std.specs.Option.{option_and_then}
use Rattle.std.specs.Str.{bytes_eq}
use Rattle.std.proofs.lemmas.Grind.{flat_map-append}
use Rattle.std.proofs.lemmas.List.{append-nil, drop_more, map-append}
use Rattle.std.proofs.lemmas.List.Elements.{filter-append}
use Rattle.std.proofs.lemmas.Option.{none-some, same_Some, slice_get-map, slice_get_past, slice_get_read}
use Rattle.jd_ancestry.specs.Walks.{parent_of}
use Rattle.jd_syntax.specs.declared.java.MethodDecl.{MethodDecl}
use Rattle.jd_syntax.specs.declared.spec.SpecCase.{SpecCase}
use Rattle.jd_syntax.specs.JavaTrees.{JavaMethod, JavaUnit}
use Rattle.jd_jclasses.specs.Classes.{parents}
use Rattle.jd_jclasses.specs.Members.{Declared}
use Rattle.jd_jclasses.specs.Methods.{routines}
use Rattle.jd_jinfos.specs.Infos.{PlainClassInfo, PlainMethodInfo, PlainOwnMembers, class_infos, method_info, method_infos}
use Rattle.jd_jseen.proofs.Nodes.{members_are_of_classes, parents_are_classes}
use Rattle.jd_jseen.proofs.Routines.{routines_are_members}
use Rattle.jd_classes.specs.Tables.{AreTables, class_count_of}
use Rattle.jd_classes.specs.declared.classes.Classes.{Classes}
use Rattle.jd_programs.specs.Members.{declared_as, routine_name}
use Rattle.jd_jml_written.specs.Marked.{PlainCase, own_cases}
use Rattle.jd_jml_written.specs.Views.{case_view}
use Rattle.jd_jml_cases.specs.Cases.{classes_up}
use Rattle.jd_jml_cases.specs.Trees.{cases_by, cases_of_tree, tree_view}
use Rattle.jd_jml_cases.proofs.Deciding.{one_lower}
use Rattle.jd_jml_cases.proofs.Listing.{class_count, own_at, parent_at}

-- ---- one method

pub tree_there : (trees : List (Bor MethodDecl)) (n : ℕ) (t : Bor MethodDecl) → n < length trees → t ≡ get_or trees n t → Some (tree_view t) ≡ slice_get (map tree_view trees) n
tree_there trees n t lt is = sym (slice_get-map tree_view trees n ∙ ap (option_map tree_view) (slice_get_read trees (length trees) n t refl lt is))

pub no_tree_there : (trees : List (Bor MethodDecl)) (n : ℕ) → length trees ≤ n → None ≡ slice_get (map tree_view trees) n
no_tree_there trees n past = sym (slice_get-map tree_view trees n ∙ ap (option_map tree_view) (slice_get_past trees n past))

pub at_none : (o : Option (Bor MethodDecl)) (trees : List JavaMethod) (m : ℕ) (old : List PlainCase) → option_map tree_view o ≡ slice_get trees m → o ≡ None → old ≡ old ++ cases_by trees m
at_none o trees m old told is = sym (append-nil old) ∙ ap (λ (t : Option JavaMethod). old ++ cases_of_tree m t) (ap (option_map tree_view) (sym is) ∙ told)

pub at_some : (o : Option (Bor MethodDecl)) (t : Bor MethodDecl) (trees : List JavaMethod) (m : ℕ) (made new own : List SpecCase) → option_map tree_view o ≡ slice_get trees m → o ≡ Some t → new ≡ made ++ own → map case_view own ≡ own_cases m (tree_view t) → map case_view new ≡ map case_view made ++ cases_by trees m
at_some o t trees m made new own told is more its =
    ap (map case_view) more
    ∙ map-append case_view made own
    ∙ ap (λ l. map case_view made ++ l) (its ∙ ap (cases_of_tree m) (ap (option_map tree_view) (sym is) ∙ told))

module _ (units : List JavaUnit) (f : ℕ → List PlainCase) (name : List ℕ) where
  abbrev pub is_so : ℕ → Bool
  is_so k = bytes_eq (routine_name units k) name

  pub added : (m : ℕ) (b : Bool) (old new : List PlainCase) → b ≡ is_so m → b ≡ true → new ≡ old ++ f m → new ≡ old ++ flat_map f (filter is_so (m ∷ []))
  added m b old new is so more =
      more
      ∙ ap (λ l. old ++ l) (sym (append-nil (f m)))
      ∙ ap (λ (c : Bool). old ++ flat_map f (cond c (m ∷ []) [])) (sym so ∙ is)

  pub not_added : (m : ℕ) (b : Bool) (old : List PlainCase) → b ≡ is_so m → b ≡ false → old ≡ old ++ flat_map f (filter is_so (m ∷ []))
  not_added m b old is not_so =
      sym (append-nil old)
      ∙ ap (λ (c : Bool). old ++ flat_map f (cond c (m ∷ []) [])) (sym not_so ∙ is)

  pub one_more : (m : ℕ) (rest : List ℕ) (old new whole : List PlainCase) → new ≡ old ++ flat_map f (filter is_so (m ∷ [])) → old ++ flat_map f (filter is_so (m ∷ rest)) ≡ whole → new ++ flat_map f (filter is_so rest) ≡ whole
  one_more m rest old new whole more so_far =
      ap (λ l. l ++ flat_map f (filter is_so rest)) more
      ∙ append_assoc old (flat_map f (filter is_so (m ∷ []))) (flat_map f (filter is_so rest))
      ∙ ap (λ l. old ++ l)
      (sym (flat_map-append f (filter is_so (m ∷ [])) (filter is_so rest))
      ∙ ap (flat_map f) (sym (filter-append is_so (m ∷ []) rest)))
      ∙ so_far

  pub one_more_at : {X : Type 0} (number : X → ℕ) (xs : List X) (i : ℕ) (d : X) (old new whole : List PlainCase) → i < length xs → new ≡ old ++ flat_map f (filter is_so (number (get_or xs i d) ∷ [])) → old ++ flat_map f (filter is_so (map number (drop i xs))) ≡ whole
      → new ++ flat_map f (filter is_so (map number (drop (i + 1) xs))) ≡ whole
  one_more_at number xs i d old new whole lt more so_far =
      one_more (number (get_or xs i d)) (map number (drop (i + 1) xs)) old new whole more
      (ap (λ l. old ++ flat_map f (filter is_so (map number l))) (sym (drop_more xs i d lt)) ∙ so_far)

  -- ---- one class

  pub methods_of : (class : ℕ) (info : PlainClassInfo) → slice_get (class_infos units) class ≡ Some info → class < length (parents units) → filter is_so info.own.methods ≡ declared_as units name class
  methods_of class info listed lt = ap (λ (o : PlainOwnMembers). filter is_so o.methods) (own_at units class info listed lt)

-- ---- the class above

pub extended_is : (units : List JavaUnit) (class : ℕ) (info : PlainClassInfo) → slice_get (class_infos units) class ≡ Some info → info.parent ≡ parent_of (parents units) class
extended_is units class info listed = sym (ap (option_and_then (λ p. p)) (parent_at units class info listed))

pub extended_within : (units : List JavaUnit) (c : Classes) (class : ℕ) (info : PlainClassInfo) (above : ℕ) → AreTables units c → slice_get (class_infos units) class ≡ Some info → info.parent ≡ Some above → above < class_count_of c
extended_within units c class info above tables listed is =
    subst (λ n. above < n) (sym (class_count units c tables)) (parents_are_classes units above class (parent_at units class info listed ∙ ap Some is))

no_class : (ps : List (Option ℕ)) (n : ℕ) → classes_up ps n None ≡ []
no_class ps zero = refl
no_class ps (suc n) = refl

module _ (f : ℕ → List PlainCase) (g : ℕ → List ℕ) (ps : List (Option ℕ)) where
  pub none_up : (left : ℕ) (class : Option ℕ) (old : List PlainCase) → class ≡ None → old ≡ old ++ flat_map f (flat_map g (classes_up ps left class))
  none_up left class old is = sym (append-nil old) ∙ ap (λ l. old ++ flat_map f (flat_map g l)) (sym (ap (classes_up ps left) is ∙ no_class ps left))

  pub one_class_more : {A E : Type 0} (r : Result A E) (left less : ℕ) (class above : Option ℕ) (c : ℕ) (old middle new : List PlainCase) → left ≡ suc less → class ≡ Some c → above ≡ parent_of ps c
      → middle ≡ old ++ flat_map f (flat_map g (classes_up ps less above)) → OnOk r (new ≡ middle ++ flat_map f (g c)) → OnOk r (new ≡ old ++ flat_map f (flat_map g (classes_up ps left class)))
  one_class_more (Err e) left less class above c old middle new more is up first told = tt
  one_class_more (Ok a) left less class above c old middle new more is up first told =
      one_lower f g (classes_up ps less (parent_of ps c)) c old middle new (first ∙ ap (λ o. old ++ flat_map f (flat_map g (classes_up ps less o))) up) told
      ∙ ap (λ l. old ++ flat_map f (flat_map g l)) (sym (ap₂ (classes_up ps) more is))

-- ---- the class of a method

pub class_within : (units : List JavaUnit) (c : Classes) (m : ℕ) (info : PlainMethodInfo) → AreTables units c → slice_get (method_infos units) m ≡ Some info → info.class < class_count_of c
class_within units c m info tables listed = by (slice_get (routines units) m) refl (sym (slice_get-map method_info (routines units) m) ∙ listed)
  where
    by : (o : Option Declared) → slice_get (routines units) m ≡ o → option_map method_info o ≡ Some info → info.class < class_count_of c
    by None is e = absurd (none-some info e)
    by (Some r) is e =
        let member = routines_are_members units m r is in
        let below : r.class < length (parents units) = members_are_of_classes units member.0 r member.1 in
        subst (λ n. info.class < n) (sym (class_count units c tables)) (subst (λ k. k < length (parents units)) (ap (λ (i : PlainMethodInfo). i.class) (same_Some (method_info r) info e)) below)
