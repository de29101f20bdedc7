-- What the rest of the members, of a file's classes and of the files adds.
use Rattle.std.proofs.Common.{◌≡◌, ℕ, suc, ◌+◌, ◌<◌, ◌^◌, List, [], ◌∷◌, ◌++◌, length, map, drop, get_or, sym, ap, ◌∙◌, subst, arith, All, add-one}
use Rattle.std.proofs.lemmas.List.{append_assoc, length-append, length-map}
use Rattle.std.proofs.lemmas.List.Elements.{All-append, All-cons, All-map}
use Rattle.jd_syntax.specs.declared.java.ClassDecl.{ClassDecl}
use Rattle.jd_syntax.specs.declared.java.Member.{Member}
use Rattle.jd_syntax.specs.declared.java.Unit.{Unit as CodeUnit}
use Rattle.jd_syntax.specs.JavaTypes.{PlainIdentifier, PlainType}
use Rattle.jd_syntax.specs.JavaTrees.{JavaClass, class_view, member_view, unit_view}
use Rattle.jd_syntax.proofs.Lists.{rest_more, at_item}
use Rattle.jd_jclasses.specs.Classes.{DeclaredClass, classes_from}
use Rattle.jd_jclasses.specs.Members.{Declared, FieldOf, of_member, of_members, of_classes}
use Rattle.jd_jlists.specs.Views.{class_in_file, HasFewMembers}

-- fields of one type
abbrev pub fields_of : ℕ → ℕ → ℕ → PlainType → List PlainIdentifier → List Declared
fields_of class file place ty names = map (λ x. record { class = class; file = file; member = place; name = x; kind = FieldOf ty }) names

-- ---- one more member, class or file

pub members_more : (class file i : ℕ) (ms : List Member) (d : Member) → i < length ms → of_members class file i (map member_view (drop i ms)) ≡ of_member class file i (member_view (get_or ms i d)) ++ of_members class file (i + 1) (map member_view (drop (i + 1) ms))
members_more class file i ms d lt =
    ap (of_members class file i) (rest_more member_view ms i d lt)
    ∙ ap (λ n. of_member class file i (member_view (get_or ms i d)) ++ of_members class file n (map member_view (drop (i + 1) ms))) (sym (add-one i))

pub ruleset members = members_more

pub classes_more : (first file i : ℕ) (cs : List ClassDecl) (d : ClassDecl) → i < length cs → of_classes (first + i) (map (class_in_file file) (map class_view (drop i cs))) ≡ of_members (first + i) file 0 (map member_view (get_or cs i d).members.items) ++ of_classes (first + (i + 1)) (map (class_in_file file) (map class_view (drop (i + 1) cs)))
classes_more first file i cs d lt =
    let next : suc (first + i) ≡ first + (i + 1) = omega arith in
    ap (λ l. of_classes (first + i) (map (class_in_file file) l)) (rest_more class_view cs i d lt)
    ∙ ap (λ n. of_members (first + i) file 0 (map member_view (get_or cs i d).members.items) ++ of_classes n (map (class_in_file file) (map class_view (drop (i + 1) cs)))) next

pub ruleset classes = classes_more

pub files_more : (i : ℕ) (us : List CodeUnit) (d : CodeUnit) → i < length us → classes_from i (map unit_view (drop i us)) ≡ map (class_in_file i) (map class_view (get_or us i d).classes.items) ++ classes_from (i + 1) (map unit_view (drop (i + 1) us))
files_more i us d lt =
    ap (classes_from i) (rest_more unit_view us i d lt)
    ∙ ap (λ n. map (class_in_file i) (map class_view (get_or us i d).classes.items) ++ classes_from n (map unit_view (drop (i + 1) us))) (sym (add-one i))

-- ---- the places of members

pub few_members : (cs : List ClassDecl) (i : ℕ) (c : ClassDecl) → c ≡ get_or cs i c → i < length cs → All HasFewMembers (map class_view cs) → length c.members.items < 2 ^ 32
few_members cs i c same lt all = subst (λ n. n < 2 ^ 32) (length-map c.members.items member_view) (at_item HasFewMembers class_view cs i c same lt all)

pub few_in_file : (file : ℕ) (cs : List JavaClass) (ds : List DeclaredClass) → All (λ d. HasFewMembers d.tree) (map (class_in_file file) cs ++ ds) → All HasFewMembers cs
few_in_file file [] ds all = λ k d below. absurd (omega (arith, below))
few_in_file file (c ∷ cs) ds all =
    All-cons HasFewMembers c cs (all 0 (class_in_file file c) (omega arith)) (few_in_file file cs ds (λ k d below. all (suc k) d (omega (arith, below))))

pub few_behind : (file : ℕ) (cs : List JavaClass) (ds : List DeclaredClass) → All (λ d. HasFewMembers d.tree) (map (class_in_file file) cs ++ ds) → All (λ d. HasFewMembers d.tree) ds
few_behind file [] ds all = all
few_behind file (c ∷ cs) ds all = few_behind file cs ds (λ k d below. all (suc k) d (omega (arith, below)))

-- ---- the classes of a file, and those of the files behind it

count_in_file : (file : ℕ) (cs : List ClassDecl) → length (map (class_in_file file) (map class_view cs)) ≡ length cs
count_in_file file cs = length-map (map class_view cs) (class_in_file file) ∙ length-map cs class_view

of_classes_behind : (n : ℕ) (ds es : List DeclaredClass) → of_classes n (ds ++ es) ≡ of_classes n ds ++ of_classes (n + length ds) es
of_classes_behind n [] es = let same : n ≡ n + 0 = omega arith in ap (λ k. of_classes k es) same
of_classes_behind n (d ∷ ds) es =
    let next : suc n + length ds ≡ n + suc (length ds) = omega arith in
    ap (λ l. of_members n d.file 0 d.tree.members ++ l) (of_classes_behind (suc n) ds es)
    ∙ sym (append_assoc (of_members n d.file 0 d.tree.members) (of_classes (suc n) ds) (of_classes (suc n + length ds) es))
    ∙ ap (λ k. of_members n d.file 0 d.tree.members ++ of_classes (suc n) ds ++ of_classes k es) next

-- what is left of the classes of the files from this one on: it has numbers, and places for all members
abbrev pub CanBeListed : ℕ → ℕ → List CodeUnit → Type 0
CanBeListed class i us = (class + length (classes_from i (map unit_view (drop i us))) < 2 ^ 32) × All (λ d. HasFewMembers d.tree) (classes_from i (map unit_view (drop i us)))

module _ (i : ℕ) (us : List CodeUnit) (u : CodeUnit) (same : u ≡ get_or us i u) (lt : i < length us) where
  abbrev here : List DeclaredClass
  here = map (class_in_file i) (map class_view u.classes.items)

  abbrev behind : List DeclaredClass
  behind = classes_from (i + 1) (map unit_view (drop (i + 1) us))

  this_file : classes_from i (map unit_view (drop i us)) ≡ here ++ behind
  this_file = files_more i us u lt ∙ ap (λ (x : CodeUnit). map (class_in_file i) (map class_view x.classes.items) ++ behind) (sym same)

  pub count_from : length (classes_from i (map unit_view (drop i us))) ≡ length u.classes.items + length behind
  count_from = ap length this_file ∙ length-append here behind ∙ ap (λ n. n + length behind) (count_in_file i u.classes.items)

  pub file_places : (class : ℕ) → CanBeListed class i us → All HasFewMembers (map class_view u.classes.items)
  file_places class can = few_in_file i (map class_view u.classes.items) behind (subst (All (λ d. HasFewMembers d.tree)) this_file can.1)

  pub next_file : (class : ℕ) → CanBeListed class i us → CanBeListed (class + length u.classes.items) (i + 1) us
  next_file class can =
      let few = can.0 in
      (omega (arith, few, count_from), few_behind i (map class_view u.classes.items) behind (subst (All (λ d. HasFewMembers d.tree)) this_file can.1))

  pub one_file_more : (class : ℕ) (made more : List Declared) → more ≡ made ++ of_classes class here → more ++ of_classes (class + length u.classes.items) behind ≡ made ++ of_classes class (classes_from i (map unit_view (drop i us)))
  one_file_more class made more added =
      ap (λ l. l ++ of_classes (class + length u.classes.items) behind) added
      ∙ append_assoc made (of_classes class here) (of_classes (class + length u.classes.items) behind)
      ∙ ap (λ n. made ++ (of_classes class here ++ of_classes (class + n) behind)) (sym (count_in_file i u.classes.items))
      ∙ ap (λ l. made ++ l) (sym (of_classes_behind class here behind))
      ∙ ap (λ l. made ++ of_classes class l) (sym this_file)

  -- where the rest has places, so has it together with this file
  pub places_before : All (λ c. length c.members.items < 2 ^ 32) u.classes.items → All (λ d. HasFewMembers d.tree) behind → All (λ d. HasFewMembers d.tree) (classes_from i (map unit_view (drop i us)))
  places_before few rest =
      subst (All (λ d. HasFewMembers d.tree)) (sym this_file)
      (All-append (λ (d : DeclaredClass). HasFewMembers d.tree) here behind
      (All-map (λ (d : DeclaredClass). HasFewMembers d.tree) (class_in_file i) (map class_view u.classes.items)
      (All-map HasFewMembers class_view u.classes.items (λ k d below. subst (λ n. n < 2 ^ 32) (sym (length-map (get_or u.classes.items k d).members.items member_view)) (few k d below))))
      rest)
