-- Parameters and locals in scope are found by their texts among all variables that are made.
use Rattle.std.proofs.Common.{List, None, Some, [], ap, arith, cond, false, inl, inr, length, map, refl, subst, sym, true, true≢false, ◌++◌, ◌+◌, ◌<◌, ◌^◌, ◌∙◌, ◌∷◌, ◌≡◌, ◌≤◌, ◌⊎◌, ℕ, Bool, if◌then◌else◌}
use Rattle.std.specs.List.{AllByRecursion, filter, find}
use Rattle.std.specs.Option.{option_or}
use Rattle.std.specs.Prelude.{codes}
use Rattle.std.specs.Str.{bytes_eq}
use Rattle.std.proofs.lemmas.Bool.{cases_Bool, cond-true}
use Rattle.std.proofs.lemmas.List.{append_assoc, append-nil, map-append}
use Rattle.std.proofs.lemmas.List.Folds.{find-append}
use Rattle.std.proofs.lemmas.Option.{none-some, same_Some}
use Rattle.jd_syntax.specs.Names.{Declared, Name}
use Rattle.jd_bodies.specs.declared.value.ValueType.{ValueType}
use Rattle.jd_bodies.specs.Scopes.{Local, local_named}
use Rattle.jd_bodies.specs.Variables.{Progress, count_of, declared, local_name, local_text, sort_of, with_local}
use Rattle.jd_expression_temporaries.specs.Growing.{BeginsWithMark, Grows, IsTemporary}
use Rattle.jd_local_texts.specs.Laws.{TextsOfLocalsAreApart}
use Rattle.jd_programs.specs.Programs.{variable_name}
use Rattle.jd_tforms.proofs.Somes.{bytes_same, same_bytes}
use Rattle.jd_variable_words.specs.Words.{IsWord}

-- so many parameters and locals at most
abbrev pub limit : ℕ
limit = 2000

-- ---- numbers of parameters and locals

kept_count : (y : List ℕ) (f : List (List ℕ)) (k : ℕ) (b : Bool) → b ≡ true → length (cond b (y ∷ f) f) + k ≡ length f + k + 1
kept_count y f k true e = omega arith
kept_count y f k false e = absurd (true≢false (sym e))

count_new : (y : List ℕ) (names : List (List ℕ)) → count_of y (y ∷ names) ≡ count_of y names + 1
count_new y names = kept_count y (filter (λ n. bytes_eq n y) names) (cond (bytes_eq y (codes "created")) 1 0) (bytes_eq y y) (bytes_same y)

count_other : (x y : List ℕ) (names : List (List ℕ)) → bytes_eq y x ≡ false → count_of x (y ∷ names) ≡ count_of x names
count_other x y names e = ap (λ b. length (cond b (y ∷ filter (λ n. bytes_eq n x) names) (filter (λ n. bytes_eq n x) names)) + cond (bytes_eq x (codes "created")) 1 0) e

more_count : (y : List ℕ) (f : List (List ℕ)) (k : ℕ) (b : Bool) → length f + k ≤ length (cond b (y ∷ f) f) + k
more_count y f k true = omega arith
more_count y f k false = omega arith

count_grows : (x y : List ℕ) (names : List (List ℕ)) → count_of x names ≤ count_of x (y ∷ names)
count_grows x y names = more_count y (filter (λ n. bytes_eq n x) names) (cond (bytes_eq x (codes "created")) 1 0) (bytes_eq y x)

at_most : (b : Bool) (n l : ℕ) → n ≤ l → n + cond b 1 0 ≤ l + 1
at_most true n l le = omega (arith, le)
at_most false n l le = omega (arith, le)

some_kept : (test : List ℕ → Bool) (xs : List (List ℕ)) → length (filter test xs) ≤ length xs
some_kept test [] = omega arith
some_kept test (x ∷ xs) = by (test x) (some_kept test xs)
  where
    by : (b : Bool) → length (filter test xs) ≤ length xs → length (cond b (x ∷ filter test xs) (filter test xs)) ≤ length (x ∷ xs)
    by true le = omega (arith, le)
    by false le = omega (arith, le)

count_few : (x : List ℕ) (names : List (List ℕ)) → count_of x names ≤ length names + 1
count_few x names = at_most (bytes_eq x (codes "created")) (length (filter (λ n. bytes_eq n x) names)) (length names) (some_kept (λ n. bytes_eq n x) names)

-- one that is called `created` has a number from the second on
later_count : (y : List ℕ) (names : List (List ℕ)) → cond (bytes_eq y (codes "created")) 1 0 + 1 ≤ count_of y names + 1
later_count y names = by (length (filter (λ n. bytes_eq n y) names)) (cond (bytes_eq y (codes "created")) 1 0)
  where
    by : (l k : ℕ) → k + 1 ≤ l + k + 1
    by l k = omega arith

pub written_whole : (x : List ℕ) (names : List (List ℕ)) → length names ≤ limit → count_of x names < 10 ^ 64
written_whole x names le = let few = count_few x names in omega (arith, few, le)

-- ---- the first of a text

pub find_kept : (t : Name → Bool) (xs ys : List Name) (x : Name) → find t xs ≡ Some x → find t (xs ++ ys) ≡ Some x
find_kept t xs ys x e = find-append t xs ys ∙ ap (λ o. option_or o (find t ys)) e

find_last : (t : Name → Bool) (xs : List Declared) (x : Declared) → AllByRecursion (λ v. t (variable_name v) ≡ false) xs → t (variable_name x) ≡ true → find t (map variable_name (xs ++ (x ∷ []))) ≡ Some (variable_name x)
find_last t [] x none passes = cond-true (t (variable_name x)) (Some (variable_name x)) None passes
find_last t (y ∷ ys) x none passes = ap (λ b. cond b (Some (variable_name y)) (find t (map variable_name (ys ++ (x ∷ []))))) none.0 ∙ find_last t ys x none.1 passes

-- ---- variables that are made

-- a parameter or local, with its number among those of its name
pub record IsNumbered (names : List (List ℕ)) (v : Declared) : Type 0 where
  pub name : List ℕ
  pub number : ℕ
  pub word : IsWord name
  pub some : 1 ≤ number
  pub most : number ≤ count_of name names
  pub later : cond (bytes_eq name (codes "created")) 1 0 + 1 ≤ number
  pub text : v.name.text ≡ local_text name number

abbrev pub IsMade : List (List ℕ) → Declared → Type 0
IsMade names v = IsTemporary v ⊎ IsNumbered names v

abbrev pub AreMade : List (List ℕ) → List Declared → Type 0
AreMade names vs = AllByRecursion (IsMade names) vs

more_made : (y : List ℕ) (names : List (List ℕ)) (vs : List Declared) → AreMade names vs → AreMade (y ∷ names) vs
more_made y names [] g = tt
more_made y names (v ∷ vs) g = (by g.0, more_made y names vs g.1)
  where
    by : IsMade names v → IsMade (y ∷ names) v
    by (inl marked) = inl marked
    by (inr n) = let le = n.most in let up = count_grows n.name y names in inr (record { name = n.name; number = n.number; word = n.word; some = n.some; most = omega (arith, le, up); later = n.later; text = n.text })

temporaries_made : (names : List (List ℕ)) (vs : List Declared) → AllByRecursion IsTemporary vs → AreMade names vs
temporaries_made names [] g = tt
temporaries_made names (v ∷ vs) g = (inl g.0, temporaries_made names vs g.1)

both_made : (names : List (List ℕ)) (xs ys : List Declared) → AreMade names xs → AreMade names ys → AreMade names (xs ++ ys)
both_made names [] ys g h = h
both_made names (x ∷ xs) ys g h = (g.0, both_made names xs ys g.1 h)

pub marked_is : (w : List ℕ) → BeginsWithMark w → (bs : List ℕ) × (w ≡ 39 ∷ bs)
marked_is [] g = absurd g
marked_is (b ∷ bs) g = (bs, ap (λ c. c ∷ bs) g)

-- ---- what is in scope

-- the local of the name is the last of it, and the first variable of its text
abbrev pub FirstOf : List Name → List ℕ → ValueType → ℕ → Type 0
FirstOf vs x t k = find (λ (v : Name). bytes_eq v.text (local_text x k)) vs ≡ Some (record { text = local_text x k; sort = sort_of t })

pub record IsFound (p : Progress) (x : List ℕ) (t : ValueType) : Type 0 where
  pub word : IsWord x
  pub some : 1 ≤ count_of x p.names
  pub there : FirstOf (map variable_name p.variables) x t (count_of x p.names)

pub record Stands (p : Progress) (locals : List Local) : Type 0 where
  pub made : AreMade p.names p.variables
  pub found : (x : List ℕ) (t : ValueType) → local_named locals x ≡ Some t → IsFound p x t

-- behind it with so many parameters and locals more at most, none of them of a name in scope
pub record Behind (p q : Progress) (locals : List Local) (k : ℕ) : Type 0 where
  pub more : List Declared
  pub is : q.variables ≡ p.variables ++ more
  pub made : AreMade q.names q.variables
  pub same : (x : List ℕ) (t : ValueType) → local_named locals x ≡ Some t → count_of x q.names ≡ count_of x p.names
  pub few : length q.names ≤ length p.names + k

pub first_kept : (p q : Progress) (more : List Declared) (x : List ℕ) (t : ValueType) (k : ℕ) → q.variables ≡ p.variables ++ more → FirstOf (map variable_name p.variables) x t k → FirstOf (map variable_name q.variables) x t k
first_kept p q more x t k is there =
    ap (λ l. find (λ (v : Name). bytes_eq v.text (local_text x k)) (map variable_name l)) is
    ∙ ap (λ l. find (λ (v : Name). bytes_eq v.text (local_text x k)) l) (map-append variable_name p.variables more)
    ∙ find_kept (λ v. bytes_eq v.text (local_text x k)) (map variable_name p.variables) (map variable_name more) _ there

still_found : (p q : Progress) (more : List Declared) (x : List ℕ) (t : ValueType) → q.variables ≡ p.variables ++ more → count_of x q.names ≡ count_of x p.names → IsFound p x t → IsFound q x t
still_found p q more x t is same f = record {
  word = f.word;
  some = subst (λ k. 1 ≤ k) (sym same) f.some;
  there = subst (FirstOf (map variable_name q.variables) x t) (sym same) (first_kept p q more x t (count_of x p.names) is f.there);
}

pub still : (p q : Progress) (locals : List Local) (k : ℕ) → Stands p locals → Behind p q locals k → Stands q locals
still p q locals k s b = record { made = b.made; found = λ x t e. still_found p q b.more x t b.is (b.same x t e) (s.found x t e) }

pub stays : (p : Progress) (locals : List Local) → AreMade p.names p.variables → Behind p p locals 0
stays p locals made = record { more = []; is = sym (append-nil p.variables); made = made; same = λ x t e. refl; few = omega arith }

pub grown : (p q : Progress) (locals : List Local) (k : ℕ) → AreMade p.names p.variables → Grows p q → Behind p q locals k
grown p q locals k made g = record {
  more = g.more;
  is = g.is;
  made = subst (λ l. AreMade l q.variables) (sym g.names) (subst (AreMade p.names) (sym g.is) (both_made p.names p.variables g.more made (temporaries_made p.names g.more g.marked)));
  same = λ x t e. ap (count_of x) g.names;
  few = let e : length q.names ≡ length p.names = ap length g.names in omega (arith, e);
}

pub more_behind : (p q : Progress) (locals : List Local) (j k : ℕ) → j ≤ k → Behind p q locals j → Behind p q locals k
more_behind p q locals j k le g = record { more = g.more; is = g.is; made = g.made; same = g.same; few = let few = g.few in omega (arith, few, le) }

-- where the second has more in scope
pub joined : (p q r : Progress) (locals inner : List Local) (j k : ℕ) → ((x : List ℕ) (t : ValueType) → local_named locals x ≡ Some t → local_named inner x ≡ Some t) → Behind p q locals j → Behind q r inner k → Behind p r locals (j + k)
joined p q r locals inner j k wider g h = record {
  more = g.more ++ h.more;
  is = h.is ∙ ap (λ l. l ++ h.more) g.is ∙ append_assoc p.variables g.more h.more;
  made = h.made;
  same = λ x t e. h.same x t (wider x t e) ∙ g.same x t e;
  few = let a = g.few in let b = h.few in omega (arith, a, b);
}

-- ---- one more in scope

other : (y : List ℕ) (locals : List Local) → local_named locals y ≡ None → (x : List ℕ) (u : ValueType) → local_named locals x ≡ Some u → bytes_eq y x ≡ false
other y locals none x u e = elim (cases_Bool (bytes_eq y x)) [
  | inl same ↦ absurd (none-some u (sym none ∙ ap (local_named locals) (same_bytes y x same) ∙ e))
  | inr differs ↦ differs
]

pub wider : (y : List ℕ) (t : ValueType) (locals : List Local) → local_named locals y ≡ None → (x : List ℕ) (u : ValueType) → local_named locals x ≡ Some u → local_named (record { name = y; type = t } ∷ locals) x ≡ Some u
wider y t locals none x u e = ap (λ b. if b then Some t else local_named locals x) (other y locals none x u e) ∙ e

module _ (texts : TextsOfLocalsAreApart) where
  new_text : (y : List ℕ) (names : List (List ℕ)) (v : Declared) → IsWord y → length names + 1 ≤ limit → IsMade names v → bytes_eq v.name.text (local_text y (count_of y (y ∷ names))) ≡ false
  new_text y names v word few made = elim (cases_Bool (bytes_eq v.name.text (local_text y (count_of y (y ∷ names))))) [
    | inl same ↦ absurd (by made (same_bytes v.name.text (local_text y (count_of y (y ∷ names))) same))
    | inr differs ↦ differs
  ]
    where
      by : IsMade names v → v.name.text ≡ local_text y (count_of y (y ∷ names)) → ⊥
      by (inl marked) e = let m = marked_is v.name.text marked in texts.no_temporary y (count_of y (y ∷ names)) m.0 word (sym e ∙ m.1)
      by (inr n) e =
          let new = count_new y names in
          let low = written_whole n.name names (omega (arith, few)) in
          let up = written_whole y (y ∷ names) (omega (arith, few)) in
          let most = n.most in
          let both = texts.apart n.name y n.number (count_of y (y ∷ names)) n.word word (omega (arith, low, most)) up n.some (omega (arith, new)) (sym n.text ∙ e) in
          let le : n.number ≤ count_of y names = subst (λ l. n.number ≤ count_of l names) both.0 n.most in
          let same = both.1 in
          omega (arith, le, same, new)

  new_texts : (y : List ℕ) (names : List (List ℕ)) (vs : List Declared) → IsWord y → length names + 1 ≤ limit → AreMade names vs → AllByRecursion (λ v. bytes_eq v.name.text (local_text y (count_of y (y ∷ names))) ≡ false) vs
  new_texts y names [] word few made = tt
  new_texts y names (v ∷ vs) word few made = (new_text y names v word few made.0, new_texts y names vs word few made.1)

  pub new_found : (p : Progress) (y : List ℕ) (t : ValueType) → IsWord y → length p.names + 1 ≤ limit → AreMade p.names p.variables → IsFound (with_local y t p) y t
  new_found p y t word few made = record {
    word = word;
    some = let new = count_new y p.names in omega (arith, new);
    there = find_last (λ v. bytes_eq v.text (local_text y (count_of y (y ∷ p.names)))) p.variables (declared (local_name (y ∷ p.names) y t) t) (new_texts y p.names p.variables word few made) (bytes_same (local_text y (count_of y (y ∷ p.names))));
  }

  pub new_behind : (p : Progress) (y : List ℕ) (t : ValueType) (locals : List Local) → local_named locals y ≡ None → IsWord y → AreMade p.names p.variables → Behind p (with_local y t p) locals 1
  new_behind p y t locals none word made = record {
    more = declared (local_name (y ∷ p.names) y t) t ∷ [];
    is = refl;
    made = both_made (y ∷ p.names) p.variables (declared (local_name (y ∷ p.names) y t) t ∷ []) (more_made y p.names p.variables made)
        (inr (record { name = y; number = count_of y (y ∷ p.names); word = word; some = (let new = count_new y p.names in omega (arith, new)); most = omega arith; later = (let new = count_new y p.names in let low = later_count y p.names in omega (arith, new, low)); text = refl }), tt);
    same = λ x u e. count_other x y p.names (other y locals none x u e);
    few = omega arith;
  }

  pub entered : (p : Progress) (y : List ℕ) (t : ValueType) (locals : List Local) → Stands p locals → local_named locals y ≡ None → IsWord y → length p.names + 1 ≤ limit → Stands (with_local y t p) (record { name = y; type = t } ∷ locals)
  entered p y t locals s none word few = record { made = b.made; found = λ x u e. by x u (bytes_eq y x) refl e }
    where
      b : Behind p (with_local y t p) locals 1
      b = new_behind p y t locals none word s.made

      by : (x : List ℕ) (u : ValueType) (c : Bool) → bytes_eq y x ≡ c → (if c then Some t else local_named locals x) ≡ Some u → IsFound (with_local y t p) x u
      by x u true same e = subst (λ l. IsFound (with_local y t p) l u) (same_bytes y x same) (subst (IsFound (with_local y t p) y) (same_Some t u e) (new_found p y t word few s.made))
      by x u false same e = still_found p (with_local y t p) b.more x u b.is (b.same x u e) (s.found x u e)
