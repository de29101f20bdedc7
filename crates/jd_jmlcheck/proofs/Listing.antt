-- What is made of methods and classes one after the other.
use Rattle.std.proofs.Common.{◌≡◌, ℕ, zero, suc, ◌+◌, List, [], ◌∷◌, ◌++◌, map, Option, Some, None, option_map, refl, sym, ap, ap₂, ◌∙◌, arith, slice_get}
use Rattle.std.specs.List.{range_with_len}
use Rattle.std.proofs.lemmas.List.{map-append}
use Rattle.jd_syntax.specs.JavaTrees.{JavaMethod, JavaUnit}
use Rattle.jd_jclasses.specs.Members.{Declared, Kind, RoutineOf}
use Rattle.jd_jclasses.specs.Methods.{routines}
use Rattle.jd_jml_written.specs.Loops.{PlainLoop}
use Rattle.jd_jml_cases.specs.Trees.{trees_of}
use Rattle.jd_jml_cases.proofs.Written.{kind_at}
use Rattle.jd_jmlcheck.specs.Specified.{loops_at, loops_of_declared, loops_of_kind, loops_of_tree}

range_more : (n k : ℕ) → range_with_len n (k + 1) ≡ range_with_len n k ++ (n + k) ∷ []
range_more n zero = let same : n ≡ n + 0 = omega arith in ap (λ m. m ∷ []) same
range_more n (suc k) =
    let next : suc k + 1 ≡ suc (k + 1) = omega arith in
    let place : n + 1 + k ≡ n + suc k = omega arith in
    ap (range_with_len n) next ∙ ap (λ l. n ∷ l) (range_more (n + 1) k ∙ ap (λ m. range_with_len (n + 1) k ++ m ∷ []) place)

-- one more of what the numbers stand for
pub one_more_number : {Y : Type 0} (f : ℕ → Y) (m : ℕ) (done new : List Y) (y : Y) → done ≡ map f (range_with_len 0 m) → y ≡ f m → new ≡ done ++ y ∷ [] → new ≡ map f (range_with_len 0 (m + 1))
one_more_number f m done new y so_far is more =
    let start : 0 + m ≡ m = omega arith in
    more
    ∙ ap₂ (λ l z. l ++ z ∷ []) so_far is
    ∙ sym (map-append f (range_with_len 0 m) (m ∷ []))
    ∙ ap (λ k. map f (range_with_len 0 m ++ k ∷ [])) (sym start)
    ∙ ap (map f) (sym (range_more 0 m))

module _ (units : List JavaUnit) where
  abbrev by_kind : Option Kind → List PlainLoop
  by_kind None = []
  by_kind (Some k) = loops_of_kind k

  by_declared : (o : Option Declared) → by_kind (option_map (λ r. r.kind) o) ≡ loops_of_declared o
  by_declared None = refl
  by_declared (Some r) = refl

  by_tree : (o : Option JavaMethod) → loops_of_tree o ≡ by_kind (option_map RoutineOf o)
  by_tree None = refl
  by_tree (Some t) = refl

  pub loops_are : (trees : List JavaMethod) (m : ℕ) → trees ≡ trees_of units → loops_of_tree (slice_get trees m) ≡ loops_at units m
  loops_are trees m are =
      ap (λ (l : List JavaMethod). loops_of_tree (slice_get l m)) are
      ∙ by_tree (slice_get (trees_of units) m)
      ∙ ap by_kind (sym (kind_at units m))
      ∙ by_declared (slice_get (routines units) m)
