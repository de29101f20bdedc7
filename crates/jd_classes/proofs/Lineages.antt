-- A class and its ancestors, and what the tables list of them.
use Rattle.std.proofs.Common.{◌≡◌, ℕ, zero, suc, ◌+◌, ◌-◌, ◌<◌, ◌≤◌, List, [], ◌∷◌, ◌++◌, length, map, take, get_or, Option, None, Some, Result, Ok, Err, IfOk, refl, sym, ap, ◌∙◌, subst, inl, inr, arith, append_assoc}
use Rattle.std.specs.Global.{Vec}
use Rattle.std.specs.List.{All, AllByRecursion, range_with_len, slice_get}
use Rattle.std.specs.Option.{option_map}
use Rattle.std.proofs.lemmas.List.{append-nil, get_or-map, length-map, map-append, take_more}
use Rattle.std.proofs.lemmas.List.Elements.{All-from_recursion}
use Rattle.std.proofs.lemmas.List.FromFn.{length-range_with_len}
use Rattle.std.proofs.lemmas.Option.{same_Some, slice_get-get_or, slice_get-map, slice_get_cases, slice_get_read, slice_get_within}
use Rattle.jd_base.specs.declared.ids.FieldId.{FieldId}
use Rattle.jd_syntax.specs.JavaTrees.{JavaUnit}
use Rattle.jd_jclasses.specs.Classes.{declared_classes, parents, prelude_count}
use Rattle.jd_jclasses.specs.Members.{declared_members}
use Rattle.jd_jclasses.specs.Methods.{fields}
use Rattle.jd_jinfos.specs.Infos.{PlainClassInfo, PlainOwnMembers, class_infos, is_of, own_of, places_from}
use Rattle.jd_jinfos.specs.Views.{class_info_view, field_number}
use Rattle.jd_jinfos.specs.declared.info.ClassInfo.{ClassInfo}
use Rattle.jd_jinfos.proofs.Together.{own_in_infos}
use Rattle.jd_jseen.proofs.Nodes.{length_parents}
use Rattle.jd_classes.specs.Fields.{AreFieldsOf, IsLineage, along, fields_in, own_fields}
use Rattle.jd_classes.specs.Fields.IsLineage.{extends, topmost}
use Rattle.jd_classes.proofs.FieldLists.{are_fields}

-- ---- lineages

-- what completes the lineage so far, from the lowest class that was reached
abbrev pub Completes : List (Option ℕ) → ℕ → List ℕ → ℕ → Type 0
Completes parents class so_far lowest = (above : List ℕ) → IsLineage parents lowest (lowest ∷ above) → IsLineage parents class (so_far ++ above)

module _ (parents : List (Option ℕ)) (class lowest : ℕ) (so_far : List ℕ) (complete : Completes parents class so_far lowest) where
  pub one_higher : (parent : ℕ) → slice_get parents lowest ≡ Some (Some parent) → Completes parents class (so_far ++ parent ∷ []) parent
  one_higher parent h above rest =
      subst (IsLineage parents class) (sym (append_assoc so_far (parent ∷ []) above)) (complete (parent ∷ above) (extends parent lowest (parent ∷ above) h rest))

  pub at_top : slice_get parents lowest ≡ Some None → IsLineage parents class so_far
  at_top h = subst (IsLineage parents class) (append-nil so_far) (complete [] (topmost lowest h))

each_within : (parents : List (Option ℕ)) (class : ℕ) (classes : List ℕ) → IsLineage parents class classes → AllByRecursion (λ c. c < length parents) classes
each_within parents class classes (topmost a h) = (slice_get_within parents a None h, tt)
each_within parents class classes (extends a b above h rest) = (slice_get_within parents b (Some a) h, each_within parents a above rest)

pub all_within : (parents : List (Option ℕ)) (class count : ℕ) (classes : List ℕ) → length parents ≡ count → IsLineage parents class classes → All (λ c. c < count) classes
all_within parents class count classes same is =
    subst (λ n. All (λ c. c < n) classes) same (All-from_recursion (λ c. c < length parents) classes (each_within parents class classes is))

-- ---- one class after the other

along_last : (own : ℕ → List ℕ) (cs : List ℕ) (c : ℕ) → along own (cs ++ c ∷ []) ≡ own c ++ along own cs
along_last own [] c = sym (append-nil (own c))
along_last own (d ∷ cs) c = ap (λ l. l ++ own d) (along_last own cs c) ∙ append_assoc (own c) (along own cs) (own d)

-- the class of this place is the next, where those behind it are done
pub one_class_more : (own : ℕ → List ℕ) (cs : List ℕ) (i d : ℕ) (done new added whole : List ℕ) → i < length cs → new ≡ done ++ added → added ≡ own (get_or cs i d) → done ++ along own (take (i + 1) cs) ≡ whole → new ++ along own (take i cs) ≡ whole
one_class_more own cs i d done new added whole lt is its so_far =
    ap (λ l. l ++ along own (take i cs)) (is ∙ ap (λ l. done ++ l) its)
    ∙ append_assoc done (own (get_or cs i d)) (along own (take i cs))
    ∙ ap (λ l. done ++ l) (sym (ap (along own) (take_more cs i d lt) ∙ along_last own (take i cs) (get_or cs i d)))
    ∙ so_far

-- the same where the fields of the next class are added
pub one_more_class : (infos : List ClassInfo) (cs : List ℕ) (place : ℕ) (info : ClassInfo) (done new added : List FieldId) (whole : List ℕ)
    → 0 < place → place ≤ length cs → All (λ c. c < length infos) cs → info ≡ get_or infos (get_or cs (place - 1) 0) info → added ≡ info.fields.items → new ≡ done ++ added
    → map field_number done ++ along (own_fields infos) (take place cs) ≡ whole → map field_number new ++ along (own_fields infos) (take (place - 1) cs) ≡ whole
one_more_class infos cs place info done new added whole some within below is are more so_far =
    let lt : place - 1 < length cs = omega (arith, some, within) in
    let same : place ≡ place - 1 + 1 = omega (arith, some) in
    let there = slice_get_read infos (length infos) (get_or cs (place - 1) 0) info refl (below (place - 1) 0 lt) is in
    one_class_more (own_fields infos) cs (place - 1) 0 (map field_number done) (map field_number new) (map field_number added) whole lt
    (ap (map field_number) more ∙ map-append field_number done added)
    (ap (map field_number) are ∙ sym (ap fields_in there))
    (ap (λ (n : ℕ). map field_number done ++ along (own_fields infos) (take n cs)) (sym same) ∙ so_far)

pub none_left : (o : Option ℕ) → ((x : ℕ) → o ≡ Some x → ⊥) → o ≡ None
none_left None no_some = refl
none_left (Some x) no_some = absurd (no_some x refl)

-- what a node stands directly below, where it is read
pub parent_at : (parents : List (Option ℕ)) (node : ℕ) (read parent : Option ℕ) → node < length parents → get_or parents node read ≡ parent → slice_get parents node ≡ Some parent
parent_at parents node read parent lt is = slice_get-get_or parents node read lt ∙ ap Some is

-- ---- what the tables list

-- there are as many as classes
pub length_infos : (units : List JavaUnit) → length (class_infos units) ≡ length (parents units)
length_infos units =
    sym (length-map (class_infos units) (λ (i : PlainClassInfo). i.own))
    ∙ ap length (own_in_infos units)
    ∙ length-map (range_with_len 0 (prelude_count + length (declared_classes units))) (own_of (declared_members units))
    ∙ length-range_with_len 0 (prelude_count + length (declared_classes units))
    ∙ sym (length_parents units)

from_range : (n k i : ℕ) → i < k → slice_get (range_with_len n k) i ≡ Some (n + i)
from_range n zero i lt = absurd (omega (arith, lt))
from_range n (suc k) zero lt = let same : n ≡ n + 0 = omega arith in ap Some same
from_range n (suc k) (suc i) lt = let same : n + 1 + i ≡ n + suc i = omega arith in from_range (n + 1) k i (omega (arith, lt)) ∙ ap Some same

from_start : (k i : ℕ) → i < k → slice_get (range_with_len 0 k) i ≡ Some i
from_start k i lt = let same : 0 + i ≡ i = omega arith in from_range 0 k i lt ∙ ap Some same

own_at : (units : List JavaUnit) (class : ℕ) (info : PlainClassInfo) → slice_get (class_infos units) class ≡ Some info → class < length (parents units) → info.own ≡ own_of (declared_members units) class
own_at units class info there lt =
    same_Some info.own (own_of (declared_members units) class)
    (sym (slice_get-map (λ (i : PlainClassInfo). i.own) (class_infos units) class ∙ ap (option_map (λ (i : PlainClassInfo). i.own)) there)
    ∙ ap (λ (l : List PlainOwnMembers). slice_get l class) (own_in_infos units)
    ∙ slice_get-map (own_of (declared_members units)) (range_with_len 0 (prelude_count + length (declared_classes units))) class
    ∙ ap (option_map (own_of (declared_members units))) (from_start (prelude_count + length (declared_classes units)) class (omega (arith, lt, length_parents units))))

module _ (units : List JavaUnit) (infos : List ClassInfo) (are : map class_info_view infos ≡ class_infos units) (same : length (parents units) ≡ length infos) where
  own_is : (class : ℕ) → class < length infos → own_fields infos class ≡ places_from 0 (is_of class) (fields units)
  own_is class lt =
      elim (slice_get_cases infos class).1 [
        | inl here ↦
            ap (λ (o : Option ClassInfo). fields_in o) here.2
            ∙ ap (λ (o : PlainOwnMembers). o.fields)
            (own_at units class (class_info_view here.0)
            (ap (λ l. slice_get l class) (sym are) ∙ slice_get-map class_info_view infos class ∙ ap (option_map class_info_view) here.2) (omega (arith, lt, same)))
        | inr past ↦ absurd (omega (arith, lt, past.0))
      ]

  along_same : (classes : List ℕ) → AllByRecursion (λ c. c < length infos) classes → along (own_fields infos) classes ≡ along (λ c. places_from 0 (is_of c) (fields units)) classes
  along_same [] all = refl
  along_same (c ∷ cs) all = ap (λ l. l ++ own_fields infos c) (along_same cs all.1) ∙ ap (λ l. along (λ c. places_from 0 (is_of c) (fields units)) cs ++ l) (own_is c all.0)

  pub listed_fields : (extended : List (Option ℕ)) (class : ℕ) (classes fs : List ℕ) → extended ≡ parents units → IsLineage extended class classes → fs ≡ along (own_fields infos) classes → AreFieldsOf units class fs
  listed_fields extended class classes fs extended_are is are_fs =
      let lineage = subst (λ ps. IsLineage ps class classes) extended_are is in
      subst (AreFieldsOf units class) (sym (are_fs ∙ along_same classes (subst (λ n. AllByRecursion (λ c. c < n) classes) same (each_within (parents units) class classes lineage))))
      (are_fields units class classes lineage)

pub fields_then : {E : Type 0} (r : Result (Vec FieldId) E) (whole : List ℕ) (P : List ℕ → Type 0) → IfOk r (λ v. map field_number v.items ≡ whole) → ((fs : List ℕ) → fs ≡ whole → P fs) → IfOk r (λ v. P (map field_number v.items))
fields_then (Err e) whole P is then = tt
fields_then (Ok v) whole P is then = then (map field_number v.items) is

-- the numbers of these fields are below that of all fields
pub fields_within : {E : Type 0} (units : List JavaUnit) (class count : ℕ) (r : Result (Vec FieldId) E) → length (fields units) ≡ count → IfOk r (λ v. AreFieldsOf units class (map field_number v.items)) → IfOk r (λ v. All (λ f. f.0 < count) v.items)
fields_within units class count (Err e) same are = tt
fields_within units class count (Ok v) same are = λ k d lt.
    let at = (are.each (field_number (get_or v.items k d))).0 (k, omega (arith, lt, length-map v.items field_number), get_or-map field_number v.items k d (field_number (get_or v.items k d)) lt) in
    omega (arith, same, slice_get_within (fields units) (field_number (get_or v.items k d)) at.field at.there)
