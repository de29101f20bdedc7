-- What classes extend: known where each has a number.
use Rattle.std.proofs.Common.{◌≡◌, ℕ, ◌+◌, ◌<◌, List, [], ◌∷◌, ◌++◌, length, map, drop, get_or, Option, Some, None, option_map, refl, sym, ap, ◌∙◌, append_assoc}
use Rattle.std.proofs.lemmas.Option.{none-some}
use Rattle.std.specs.List.{slice_get}
use Rattle.jd_syntax.specs.declared.java.Identifier.{Identifier}
use Rattle.jd_syntax.proofs.Lists.{rest_more}
use Rattle.jd_syntax.specs.JavaTypes.{PlainIdentifier, identifier_view}
use Rattle.jd_jclasses.specs.Classes.{DeclaredClass, class_in, parent_by}
use Rattle.jd_jheads.specs.declared.placed.Placed.{Placed}
use Rattle.jd_jheads.specs.declared.refusal.HeadRefusal.{HeadRefusal}
use Rattle.jd_jheads.specs.declared.refusal.HeadRefusal.TheVariants as code
use Rattle.jd_jheads.specs.Firsts.{HasNoSuper, IsUnknownSuper, NoneBelow, SuperRefused}
use Rattle.jd_jheads.specs.Names.{names_with, parents_by}
use Rattle.jd_jheads.specs.Placed.{placed_view}
use Rattle.jd_jheads.proofs.ClassLists.{none_more}

-- the name behind `extends` that no class has
pub unknown : (names : List (List ℕ)) (o : Option Identifier) (p : Identifier) (name : List ℕ) (r : Option ℕ) → o ≡ Some p → name ≡ p.name.items → r ≡ class_in names name → r ≡ None
    → (x : PlainIdentifier) × (option_map identifier_view o ≡ Some x) × (class_in names x.name ≡ None) × (p.at ≡ x.at)
unknown names o p name r is same found none = (identifier_view p, ap (option_map identifier_view) is, ap (class_in names) (sym same) ∙ sym found ∙ none, refl)

has_super : (names : List (List ℕ)) (o : Option PlainIdentifier) (n : ℕ) (x : PlainIdentifier) → parent_by names o ≡ Some n → o ≡ Some x → class_in names x.name ≡ None → ⊥
has_super names o n x found is none = none-some n (sym none ∙ ap (parent_by names) (sym is) ∙ found)

-- one more class whose super is known
pub one_more_known : (ds : List DeclaredClass) (i : ℕ) (d : DeclaredClass) (names : List (List ℕ)) (n : ℕ) → slice_get ds i ≡ Some d → names ≡ names_with ds → parent_by names d.tree.parent ≡ Some n → NoneBelow ds (HasNoSuper ds) i → NoneBelow ds (HasNoSuper ds) (i + 1)
one_more_known ds i d names n there same found before =
    none_more ds (HasNoSuper ds) i d there before (λ h. has_super (names_with ds) d.tree.parent n h.0 (ap (λ (ns : List (List ℕ)). parent_by ns d.tree.parent) (sym same) ∙ found) h.1 h.2)

-- the first class whose super is unknown
pub first_unknown : (ds : List DeclaredClass) (i : ℕ) (d : DeclaredClass) (names : List (List ℕ)) (e : HeadRefusal) → slice_get ds i ≡ Some d → names ≡ names_with ds → NoneBelow ds (HasNoSuper ds) i → IsUnknownSuper names d e → SuperRefused ds e
first_unknown ds i d names (code.UnknownSuper file at) there same before h =
    let x = h.1 in
    record {
      i = i;
      class = d;
      there = there;
      holds = (x.0, x.1, ap (λ (ns : List (List ℕ)). class_in ns x.0.name) (sym same) ∙ x.2);
      place = (h.0, (x.0, x.1, x.3));
      before = before;
    }
first_unknown ds i d names (code.DuplicateClass file at) there same before h = absurd h
first_unknown ds i d names (code.CyclicExtends file at) there same before h = absurd h
first_unknown ds i d names code.NoMemory there same before h = absurd h

-- what one more class extends, in front of what the rest extend
pub one_more_parent : (names ns : List (List ℕ)) (xs : List Placed) (i : ℕ) (x : Placed) (n : ℕ) (old new whole : List (Option ℕ)) → x ≡ get_or xs i x → i < length xs → names ≡ ns
    → parent_by names (placed_view x).tree.parent ≡ Some n → new ≡ old ++ Some n ∷ [] → old ++ parents_by ns (map placed_view (drop i xs)) ≡ whole → new ++ parents_by ns (map placed_view (drop (i + 1) xs)) ≡ whole
one_more_parent names ns xs i x n old new whole is lt same found made before =
    let rest = parents_by ns (map placed_view (drop (i + 1) xs)) in
    let parent : parent_by ns (placed_view (get_or xs i x)).tree.parent ≡ Some n =
    ap (λ (y : Placed). parent_by ns (placed_view y).tree.parent) (sym is) ∙ ap (λ (m : List (List ℕ)). parent_by m (placed_view x).tree.parent) (sym same) ∙ found in
    let next : parents_by ns (map placed_view (drop i xs)) ≡ Some n ∷ rest = ap (parents_by ns) (rest_more placed_view xs i x lt) ∙ ap (λ (p : Option ℕ). p ∷ rest) parent in
    ap (λ (v : List (Option ℕ)). v ++ rest) made ∙ append_assoc old (Some n ∷ []) rest ∙ ap (λ (t : List (Option ℕ)). old ++ t) (sym next) ∙ before
