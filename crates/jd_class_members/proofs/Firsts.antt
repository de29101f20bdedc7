-- The first of each name, and what is found by the names.
use Rattle.std.proofs.Common.{◌≡◌, ◌||◌, ℕ, Bool, true, false, nat_eq, List, [], ◌∷◌, ◌++◌, if◌then◌else◌, Option, Some, None, filter_map, MatchOption, refl, sym, ap, ap₂, subst, ◌∙◌, append_assoc}
use Rattle.std.specs.List.{cons_option, list_any}
use Rattle.std.specs.Str.{bytes_eq}
use Rattle.std.specs.Cmp.{both_ways}
use Rattle.std.proofs.lemmas.Bool.Decides.{Decides-eqb}
use Rattle.std.proofs.lemmas.List.{append-nil}
use Rattle.std.proofs.lemmas.List.Folds.{list_any-append}
use Rattle.std.proofs.lemmas.Option.{none-some, same_Some}
use Rattle.std.proofs.lemmas.Slice.Eq.{bytes_eq-Decides}
use Rattle.jd_syntax.specs.JavaTrees.{JavaUnit}
use Rattle.jd_jclasses.specs.Methods.{IsSeen, SeesNone}
use Rattle.jd_bodies.specs.Declarations.{AreDeclarations, Declarations}
use Rattle.jd_programs.specs.Members.{firsts, name_of, routine_name}
use Rattle.jd_class_members.specs.Distinct.{all_inserted, inserted}

flipped : (a b : Bool) → (a || (b || false)) ≡ (b || a)
flipped true true = refl
flipped true false = refl
flipped false true = refl
flipped false false = refl

module _ (units : List JavaUnit) (g : List ℕ → Option ℕ) (named : (x : List ℕ) (k : ℕ) → g x ≡ Some k → routine_name units k ≡ x) where
  abbrev pub name : ℕ → List ℕ
  name m = routine_name units m

  abbrev pub found : ℕ → Option ℕ
  found m = g (name m)

  -- what is found by a name is among these where the name is among those
  abbrev pub Known : List ℕ → List (List ℕ) → Type 0
  Known ks names = (x : List ℕ) (k : ℕ) → g x ≡ Some k → list_any (nat_eq k) ks ≡ list_any (bytes_eq x) names

  alike : (x y : List ℕ) (k j : ℕ) → g x ≡ Some k → g y ≡ Some j → nat_eq k j ≡ bytes_eq x y
  alike x y k j is there =
      both_ways (nat_eq k j) (bytes_eq x y)
      (λ e. (bytes_eq-Decides x y).1 (sym (named x k is) ∙ ap name ((Decides-eqb k j).0 e) ∙ named y j there))
      (λ e. (Decides-eqb k j).1 (same_Some k j (sym is ∙ ap g ((bytes_eq-Decides x y).0 e) ∙ there)))

  -- a name by which nothing is found changes nothing
  without : (m : ℕ) (ks : List ℕ) (names : List (List ℕ)) → g (name m) ≡ None → Known ks names → Known ks (name m ∷ names)
  without m ks names none known x k is = by (bytes_eq x (name m)) refl
    where
      by : (b : Bool) → bytes_eq x (name m) ≡ b → list_any (nat_eq k) ks ≡ (b || list_any (bytes_eq x) names)
      by true e = absurd (none-some k (sym none ∙ ap g (sym ((bytes_eq-Decides x (name m)).0 e)) ∙ is))
      by false e = known x k is

  with_one : (m j : ℕ) (ks : List ℕ) (names : List (List ℕ)) → g (name m) ≡ Some j → Known ks names → Known (ks ++ j ∷ []) (name m ∷ names)
  with_one m j ks names there known x k is =
      list_any-append (nat_eq k) ks (j ∷ [])
      ∙ ap₂ (λ a b. a || (b || false)) (known x k is) (alike x (name m) k j is there)
      ∙ flipped (list_any (bytes_eq x) names) (bytes_eq x (name m))

  pub each_once : (ms : List ℕ) (names : List (List ℕ)) (ks : List ℕ) → Known ks names → all_inserted found ks ms ≡ ks ++ filter_map found (firsts units names ms)
  each_once [] names ks known = sym (append-nil ks)
  each_once (m ∷ ms) names ks known = by (each_once ms) (list_any (bytes_eq (name m)) names) refl (found m) refl
    where
      by : ((others : List (List ℕ)) (js : List ℕ) → Known js others → all_inserted found js ms ≡ js ++ filter_map found (firsts units others ms))
          → (b : Bool) → list_any (bytes_eq (name m)) names ≡ b → (o : Option ℕ) → found m ≡ o
          → all_inserted found (inserted ks o) ms ≡ ks ++ filter_map found (if b then firsts units names ms else (m ∷ firsts units (name m ∷ names) ms))
      by rest true so None is = rest names ks known
      by rest true so (Some j) is = ap (λ c. all_inserted found (if c then ks else (ks ++ j ∷ [])) ms) (known (name m) j is ∙ so) ∙ rest names ks known
      by rest false so None is = rest (name m ∷ names) ks (without m ks names is known) ∙ ap (λ l. ks ++ l) (ap (λ p. cons_option p (filter_map found (firsts units (name m ∷ names) ms))) (sym is))
      by rest false so (Some j) is =
          ap (λ c. all_inserted found (if c then ks else (ks ++ j ∷ [])) ms) (known (name m) j is ∙ so)
          ∙ rest (name m ∷ names) (ks ++ j ∷ []) (with_one m j ks names is known)
          ∙ append_assoc ks (j ∷ []) (filter_map found (firsts units (name m ∷ names) ms))
          ∙ ap (λ l. ks ++ l) (ap (λ p. cons_option p (filter_map found (firsts units (name m ∷ names) ms))) (sym is))

-- a method that is seen by a name has the name
pub seen_by_name : (units : List JavaUnit) (d : Declarations) → AreDeclarations units d → (c : ℕ) (x : List ℕ) (k : ℕ) → d.method c x ≡ Some k → routine_name units k ≡ x
seen_by_name units d are c x k is =
    let seen : IsSeen units c x k = subst (λ o. MatchOption o (SeesNone units c x) (IsSeen units c x)) is (are.methods_ c x) in
    ap name_of seen.declared.there ∙ seen.declared.holds.2

-- each once, the first of each name
pub all_seen : (units : List JavaUnit) (d : Declarations) → AreDeclarations units d → (c : ℕ) (ms : List ℕ) → all_inserted (λ m. d.method c (routine_name units m)) [] ms ≡ filter_map (λ m. d.method c (routine_name units m)) (firsts units [] ms)
all_seen units d are c ms = each_once units (d.method c) (seen_by_name units d are c) ms [] [] (λ x k is. refl)
