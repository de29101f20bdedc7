-- What has a number in a list of sorts.
use Rattle.std.proofs.Common.{◌≡◌, ℕ, zero, suc, ◌<◌, ◌≤◌, List, [], ◌∷◌, length, map, get_or, None, Some, option_map, refl, sym, ap, ◌∙◌}
use Rattle.std.specs.List.{slice_get}
use Rattle.std.proofs.lemmas.Option.{slice_get-map, slice_get_past, slice_get_read}
use Rattle.jd_syntax.specs.JavaTypes.{type_view}
use Rattle.jd_syntax.specs.declared.java.JavaType.{JavaType}
use Rattle.jd_tforms.specs.Naming.{at_number}
use Rattle.jd_names.specs.Tables.{sort_of}

numbered : {X Y : Type 0} (f : X → Y) (xs : List X) (k : ℕ) → at_number (map f xs) k ≡ option_map f (slice_get xs k)
numbered f [] k = refl
numbered f (x ∷ xs) zero = refl
numbered f (x ∷ xs) (suc k) = numbered f xs k

module _ (types : List JavaType) (k : ℕ) where
  sorts_at : at_number (map sort_of (map type_view types)) k ≡ option_map sort_of (option_map type_view (slice_get types k))
  sorts_at = numbered sort_of (map type_view types) k ∙ ap (option_map sort_of) (slice_get-map type_view types k)

  pub sort_there : (x : JavaType) → k < length types → x ≡ get_or types k x → Some (sort_of (type_view x)) ≡ at_number (map sort_of (map type_view types)) k
  sort_there x lt is = sym (sorts_at ∙ ap (λ o. option_map sort_of (option_map type_view o)) (slice_get_read types (length types) k x refl lt is))

  pub no_sort_there : length types ≤ k → None ≡ at_number (map sort_of (map type_view types)) k
  no_sort_there le = sym (sorts_at ∙ ap (λ o. option_map sort_of (option_map type_view o)) (slice_get_past types k le))
