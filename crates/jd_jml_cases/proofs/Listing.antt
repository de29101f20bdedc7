-- What the tables of classes list, class by class.
use Rattle.std.proofs.Common.{◌≡◌, ℕ, zero, suc, ◌+◌, ◌<◌, List, [], ◌∷◌, ◌++◌, length, map, take, Option, Some, option_map, refl, sym, ap, ap₂, ◌∙◌, arith, slice_get}
use Rattle.std.specs.List.{enumerate_from, range_with_len}
use Rattle.std.proofs.lemmas.List.{length-map, map-append}
use Rattle.std.proofs.lemmas.Option.{same_Some, none-some, slice_get-map}
use Rattle.jd_syntax.specs.JavaTrees.{JavaUnit}
use Rattle.jd_jclasses.specs.Classes.{DeclaredClass, class_names, declared_classes, parent_by, parents, prelude, prelude_count}
use Rattle.jd_jclasses.specs.Members.{declared_members}
use Rattle.jd_jinfos.specs.Infos.{PlainClassInfo, PlainOwnMembers, class_infos, declared_info, own_of, prelude_info}
use Rattle.jd_jinfos.specs.Views.{class_info_view}
use Rattle.jd_jinfos.proofs.Together.{own_in_infos}
use Rattle.jd_jseen.proofs.Nodes.{length_parents}
use Rattle.jd_classes.specs.Tables.{AreTables, class_count_of}
use Rattle.jd_classes.specs.declared.classes.Classes.{Classes}

-- of numbered classes, what does not hang on the number
unnumbered : {X Y : Type 0} (f : X → Y) (n : ℕ) (xs : List X) → map (λ (e : ℕ × X). f e.1) (enumerate_from n xs) ≡ map f xs
unnumbered f n [] = refl
unnumbered f n (x ∷ xs) = ap (λ ys. f x ∷ ys) (unnumbered f (n + 1) xs)

mapped_twice : {X Y Z : Type 0} (g : Y → Z) (f : X → Y) (xs : List X) → map g (map f xs) ≡ map (λ x. g (f x)) xs
mapped_twice g f [] = refl
mapped_twice g f (x ∷ xs) = ap (λ ys. g (f x) ∷ ys) (mapped_twice g f xs)

-- the next of a list
pub taken_more : {X : Type 0} (xs : List X) (i : ℕ) (x : X) → slice_get xs i ≡ Some x → take (i + 1) xs ≡ take i xs ++ x ∷ []
taken_more [] i x e = absurd (none-some x e)
taken_more (y ∷ ys) zero x e = ap (λ z. z ∷ []) (same_Some y x e)
taken_more (y ∷ ys) (suc i) x e = let next : suc i + 1 ≡ suc (i + 1) = omega arith in ap (λ n. take n (y ∷ ys)) next ∙ ap (λ l. y ∷ l) (taken_more ys i x e)

-- one more of what each stands for
pub one_listed : {X Y : Type 0} (f : X → Y) (infos : List X) (new done : List Y) (i : ℕ) (x : X) (y : Y) → slice_get infos i ≡ Some x → y ≡ f x → done ≡ take i (map f infos) → new ≡ done ++ y ∷ [] → new ≡ take (i + 1) (map f infos)
one_listed f infos new done i x y there is so_far more =
    more
    ∙ ap₂ (λ l z. l ++ z ∷ []) so_far is
    ∙ sym (taken_more (map f infos) i (f x) (slice_get-map f infos i ∙ ap (option_map f) there))

module _ (units : List JavaUnit) where
  abbrev declared : List (ℕ × DeclaredClass)
  declared = enumerate_from prelude_count (declared_classes units)

  -- what each class extends
  pub parents_listed : map (λ i. i.parent) (class_infos units) ≡ parents units
  parents_listed =
      map-append (λ (i : PlainClassInfo). i.parent) (map prelude_info prelude) (map (declared_info units) declared)
      ∙ ap₂ ◌++◌ (mapped_twice (λ (i : PlainClassInfo). i.parent) prelude_info prelude) (mapped_twice (λ (i : PlainClassInfo). i.parent) (declared_info units) declared)
      ∙ ap (λ l. map (λ p. p.1) prelude ++ l) (unnumbered (λ (d : DeclaredClass). parent_by (class_names units) d.tree.parent) prelude_count (declared_classes units))

  pub as_many : length (class_infos units) ≡ length (parents units)
  as_many = sym (length-map (class_infos units) (λ (i : PlainClassInfo). i.parent)) ∙ ap length parents_listed

  from_range : (n k i : ℕ) → i < k → slice_get (range_with_len n k) i ≡ Some (n + i)
  from_range n zero i lt = absurd (omega (arith, lt))
  from_range n (suc k) zero lt = let same : n ≡ n + 0 = omega arith in ap Some same
  from_range n (suc k) (suc i) lt = let same : n + 1 + i ≡ n + suc i = omega arith in from_range (n + 1) k i (omega (arith, lt)) ∙ ap Some same

  from_start : (k i : ℕ) → i < k → slice_get (range_with_len 0 k) i ≡ Some i
  from_start k i lt = let same : 0 + i ≡ i = omega arith in from_range 0 k i lt ∙ ap Some same

  -- what a class declares itself
  pub own_at : (class : ℕ) (info : PlainClassInfo) → slice_get (class_infos units) class ≡ Some info → class < length (parents units) → info.own ≡ own_of (declared_members units) class
  own_at class info there lt =
      same_Some info.own (own_of (declared_members units) class)
      (sym (slice_get-map (λ (i : PlainClassInfo). i.own) (class_infos units) class ∙ ap (option_map (λ (i : PlainClassInfo). i.own)) there)
      ∙ ap (λ (l : List PlainOwnMembers). slice_get l class) (own_in_infos units)
      ∙ slice_get-map (own_of (declared_members units)) (range_with_len 0 (prelude_count + length (declared_classes units))) class
      ∙ ap (option_map (own_of (declared_members units))) (from_start (prelude_count + length (declared_classes units)) class (omega (arith, lt, length_parents units))))

  -- what a class extends, by what is listed of it
  pub parent_at : (class : ℕ) (info : PlainClassInfo) → slice_get (class_infos units) class ≡ Some info → slice_get (parents units) class ≡ Some info.parent
  parent_at class info there = ap (λ (l : List (Option ℕ)). slice_get l class) (sym parents_listed) ∙ slice_get-map (λ (i : PlainClassInfo). i.parent) (class_infos units) class ∙ ap (option_map (λ (i : PlainClassInfo). i.parent)) there

pub class_count : (units : List JavaUnit) (c : Classes) → AreTables units c → class_count_of c ≡ length (parents units)
class_count units c tables = sym (length-map c.classes.items class_info_view) ∙ ap length tables.classes_ ∙ as_many units
