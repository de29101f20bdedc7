-- Sets of names: inserting a name, and the number of a name.
use Rattle.std.proofs.Common.{◌≡◌, ℕ, ◌+◌, Bool, true, false, not, cond, if◌then◌else◌, ◌||◌, List, [], ◌∷◌, ◌++◌, map, position, Option, Some, refl, ap, ap₂, ◌∙◌, bytes_eq}
use Rattle.std.proofs.lemmas.Cmp.{nat_list_eq_equiv}
use Rattle.std.proofs.lemmas.Iterator.Adapters.{position_from-zero}
use Rattle.std.proofs.lemmas.List.{map-append}
use Rattle.std.specs.List.{list_any, position_from}
use Rattle.std.specs.Global.{Vec}
use Rattle.indexmap.specs.IndexSet.{insert_key}
use Rattle.jd_jclasses.specs.Classes.{class_in}
use Rattle.jd_jheads.specs.Names.{insert_name}

abbrev bytes : Vec ℕ → List ℕ
bytes v = v.items

abbrev same_name : Vec ℕ → Vec ℕ → Bool
same_name a b = bytes_eq a.items b.items

any_name : (v : Vec ℕ) (name : List ℕ) (ks : List (Vec ℕ)) → v.items ≡ name → list_any (same_name v) ks ≡ list_any (bytes_eq name) (map bytes ks)
any_name v name [] e = refl
any_name v name (k ∷ ks) e = ap₂ ◌||◌ (ap (λ n. bytes_eq n k.items) e) (any_name v name ks e)

either : (t : Bool) (ks : List (Vec ℕ)) (v : Vec ℕ) (name : List ℕ) → v.items ≡ name → map bytes (if t then ks else ks ++ v ∷ []) ≡ (if t then map bytes ks else map bytes ks ++ name ∷ [])
either true ks v name e = refl
either false ks v name e = map-append bytes ks (v ∷ []) ∙ ap (λ n. map bytes ks ++ n ∷ []) e

pub inserted : (v : Vec ℕ) (name : List ℕ) (old new : List (Vec ℕ)) → v.items ≡ name → new ≡ insert_key same_name old v → map bytes new ≡ insert_name (map bytes old) name
inserted v name old new e h =
    ap (map bytes) h
    ∙ either (list_any (same_name v) old) old v name e
    ∙ ap (λ t. if t then map bytes old else map bytes old ++ name ∷ []) (any_name v name old e)

pub was_new : (v : Vec ℕ) (name : List ℕ) (old : List (Vec ℕ)) (b : Bool) → v.items ≡ name → b ≡ not (list_any (same_name v) old) → b ≡ not (list_any (bytes_eq name) (map bytes old))
was_new v name old b e h = h ∙ ap not (any_name v name old e)

same_positions : (name : List ℕ) (i : ℕ) (ks : List (Vec ℕ)) → position_from (λ k. bytes_eq name k.items) i ks ≡ position_from (λ n. bytes_eq n name) i (map bytes ks)
same_positions name i [] = refl
same_positions name i (k ∷ ks) = ap₂ (λ t rest. cond t (Some i) rest) (nat_list_eq_equiv.symm name k.items) (same_positions name (i + 1) ks)

pub number_of : (name : List ℕ) (ks : List (Vec ℕ)) (r : Option ℕ) → r ≡ position (λ k. bytes_eq name k.items) ks → r ≡ class_in (map bytes ks) name
number_of name ks r h = h ∙ position_from-zero (λ (k : Vec ℕ). bytes_eq name k.items) ks ∙ same_positions name 0 ks
