-- What the tables of classes list, class by class.
use Rattle.std.proofs.Common.{◌≡◌, ℕ, zero, suc, ◌+◌, ◌-◌, ◌<◌, Bool, true, false, cond, if◌then◌else◌, List, [], ◌∷◌, ◌++◌, length, map, take, drop, get_or, Option, Some, None, option_map, refl, sym, ap, ap₂, subst, ◌∙◌, arith, bytes_eq, slice_get}
use Rattle.std.specs.List.{enumerate_from, position_from, range_with_len}
use Rattle.std.proofs.lemmas.List.{length-map, map-append}
use Rattle.std.proofs.lemmas.List.FromFn.{length-range_with_len}
use Rattle.std.proofs.lemmas.Option.{same_Some, slice_get-map}
use Rattle.jd_syntax.specs.JavaTrees.{JavaUnit}
use Rattle.jd_jclasses.specs.Classes.{DeclaredClass, class_in, class_names, declared_classes, parent_by, parents, prelude, prelude_count}
use Rattle.jd_jclasses.specs.Members.{declared_members}
use Rattle.jd_jinfos.specs.Infos.{PlainClassInfo, PlainOwnMembers, class_infos, declared_info, own_of, prelude_info}
use Rattle.jd_jinfos.proofs.Together.{own_in_infos}
use Rattle.jd_jseen.proofs.Nodes.{length_parents}
use Rattle.jd_classes.specs.Tables.{AreTables, class_count_of, field_count_of, method_count_of}
use Rattle.jd_classes.specs.declared.classes.Classes.{Classes}
use Rattle.jd_jinfos.specs.Infos.{field_infos, method_infos}
use Rattle.jd_jinfos.specs.Views.{class_info_view, field_info_view, method_info_view}

-- of numbered classes, what does not hang on the number
unnumbered : {X Y : Type 0} (f : X → Y) (n : ℕ) (xs : List X) → map (λ (e : ℕ × X). f e.1) (enumerate_from n xs) ≡ map f xs
unnumbered f n [] = refl
unnumbered f n (x ∷ xs) = ap (λ ys. f x ∷ ys) (unnumbered f (n + 1) xs)

mapped_twice : {X Y Z : Type 0} (g : Y → Z) (f : X → Y) (xs : List X) → map g (map f xs) ≡ map (λ x. g (f x)) xs
mapped_twice g f [] = refl
mapped_twice g f (x ∷ xs) = ap (λ ys. g (f x) ∷ ys) (mapped_twice g f xs)

module _ (units : List JavaUnit) where
  abbrev declared : List (ℕ × DeclaredClass)
  declared = enumerate_from prelude_count (declared_classes units)

  split : {Y : Type 0} (g : PlainClassInfo → Y) → map g (class_infos units) ≡ map (λ p. g (prelude_info p)) prelude ++ map (λ e. g (declared_info units e)) declared
  split g =
      map-append g (map prelude_info prelude) (map (declared_info units) declared)
      ∙ ap₂ ◌++◌ (mapped_twice g prelude_info prelude) (mapped_twice g (declared_info units) declared)

  pub names_listed : map (λ i. i.name) (class_infos units) ≡ class_names units
  names_listed = split (λ i. i.name) ∙ ap (λ l. map (λ p. p.0) prelude ++ l) (unnumbered (λ (d : DeclaredClass). d.tree.name.name) prelude_count (declared_classes units))

  pub parents_listed : map (λ i. i.parent) (class_infos units) ≡ parents units
  parents_listed = split (λ i. i.parent) ∙ ap (λ l. map (λ p. p.1) prelude ++ l) (unnumbered (λ (d : DeclaredClass). parent_by (class_names units) d.tree.parent) prelude_count (declared_classes units))

  -- there are as many as classes
  pub as_many : length (class_infos units) ≡ length (parents units)
  as_many = sym (length-map (class_infos units) (λ (i : PlainClassInfo). i.parent)) ∙ ap length parents_listed

  pub as_many_names : length (class_names units) ≡ length (parents units)
  as_many_names = sym (ap length names_listed) ∙ length-map (class_infos units) (λ (i : PlainClassInfo). i.name) ∙ as_many

  -- what a class declares itself
  from_range : (n k i : ℕ) → i < k → slice_get (range_with_len n k) i ≡ Some (n + i)
  from_range n zero i lt = absurd (omega (arith, lt))
  from_range n (suc k) zero lt = let same : n ≡ n + 0 = omega arith in ap Some same
  from_range n (suc k) (suc i) lt = let same : n + 1 + i ≡ n + suc i = omega arith in from_range (n + 1) k i (omega (arith, lt)) ∙ ap Some same

  from_start : (k i : ℕ) → i < k → slice_get (range_with_len 0 k) i ≡ Some i
  from_start k i lt = let same : 0 + i ≡ i = omega arith in from_range 0 k i lt ∙ ap Some same

  pub own_at : (class : ℕ) (info : PlainClassInfo) → slice_get (class_infos units) class ≡ Some info → class < length (parents units) → info.own ≡ own_of (declared_members units) class
  own_at class info there lt =
      same_Some info.own (own_of (declared_members units) class)
      (sym (slice_get-map (λ (i : PlainClassInfo). i.own) (class_infos units) class ∙ ap (option_map (λ (i : PlainClassInfo). i.own)) there)
      ∙ ap (λ (l : List PlainOwnMembers). slice_get l class) (own_in_infos units)
      ∙ slice_get-map (own_of (declared_members units)) (range_with_len 0 (prelude_count + length (declared_classes units))) class
      ∙ ap (option_map (own_of (declared_members units))) (from_start (prelude_count + length (declared_classes units)) class (omega (arith, lt, length_parents units))))

-- ---- lists that grow with the classes

-- the next of a list
pub taken_more : {X : Type 0} (xs : List X) (i : ℕ) (x : X) → slice_get xs i ≡ Some x → take (i + 1) xs ≡ take i xs ++ x ∷ []
taken_more [] i x e = absurd cc
taken_more (y ∷ ys) zero x e = ap (λ z. z ∷ []) (same_Some y x e)
taken_more (y ∷ ys) (suc i) x e = let next : suc i + 1 ≡ suc (i + 1) = omega arith in ap (λ n. take n (y ∷ ys)) next ∙ ap (λ l. y ∷ l) (taken_more ys i x e)

-- one more of what each stands for
pub one_listed : {X Y : Type 0} (f : X → Y) (infos : List X) (whole new done : List Y) (i : ℕ) (x : X) (y : Y) → map f infos ≡ whole → slice_get infos i ≡ Some x → y ≡ f x → done ≡ take i whole → new ≡ done ++ y ∷ [] → new ≡ take (i + 1) whole
one_listed f infos whole new done i x y all there is so_far more =
    more ∙ ap₂ (λ l z. l ++ z ∷ []) so_far is
    ∙ sym (taken_more whole i (f x) (ap (λ l. slice_get l i) (sym all) ∙ slice_get-map f infos i ∙ ap (option_map f) there))

pub whole_taken : {Y : Type 0} (ys : List Y) → take (length ys) ys ≡ ys
whole_taken [] = refl
whole_taken (y ∷ ys) = ap (λ t. y ∷ t) (whole_taken ys)

-- ---- how many there are

pub class_count : (units : List JavaUnit) (c : Classes) → AreTables units c → class_count_of c ≡ length (parents units)
class_count units c tables = sym (length-map c.classes.items class_info_view) ∙ ap length tables.classes_ ∙ as_many units

pub field_count : (units : List JavaUnit) (c : Classes) → AreTables units c → field_count_of c ≡ length (field_infos units)
field_count units c tables = sym (length-map c.fields.items field_info_view) ∙ ap length tables.fields_

pub method_count : (units : List JavaUnit) (c : Classes) → AreTables units c → method_count_of c ≡ length (method_infos units)
method_count units c tables = sym (length-map c.methods.items method_info_view) ∙ ap length tables.methods_

-- the name of a class
pub name_at : (units : List JavaUnit) (i : ℕ) (info : PlainClassInfo) (name : List ℕ) → slice_get (class_infos units) i ≡ Some info → name ≡ info.name → slice_get (class_names units) i ≡ Some name
name_at units i info name there is =
    ap (λ l. slice_get l i) (sym (names_listed units)) ∙ slice_get-map (λ (x : PlainClassInfo). x.name) (class_infos units) i ∙ ap (option_map (λ (x : PlainClassInfo). x.name)) there ∙ ap Some (sym is)
