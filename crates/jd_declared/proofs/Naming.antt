-- Values by names, one more at a time.
use Rattle.std.proofs.Common.{Bor, ◌≡◌, ◌⊎◌, ℕ, zero, suc, ◌+◌, ◌<◌, ◌≤◌, get_or, map, inl, inr, Bool, true, false, cond, if◌then◌else◌, List, [], ◌∷◌, ◌++◌, length, take, drop, Option, Some, None, refl, sym, ap, subst, ◌∙◌, arith, bytes_eq, slice_get}
use Rattle.std.specs.Global.{Vec}
use Rattle.std.specs.List.{cons_option, filter_map, position_from}
use Rattle.std.specs.Map.{lookup}
use Rattle.std.specs.Option.{is_some, option_and_then, option_copied}
use Rattle.std.proofs.lemmas.Cmp.{nat_list_eq_equiv}
use Rattle.std.proofs.lemmas.Bool.{cases_eq}
use Rattle.std.proofs.lemmas.List.{drop_more, length-append, length-take}
use Rattle.std.proofs.lemmas.Option.{slice_get_within}
use Rattle.jd_jclasses.specs.Classes.{class_in}
use Rattle.jd_declared.specs.Named.{first_named, or_named, then_named, value_at}
use Rattle.jd_declared.specs.Told.{own_value}
use Rattle.jd_declared.specs.declared.named.Named.{Named}
use Rattle.jd_declared.proofs.Listing.{taken_more}

-- ---- maps

-- a new name at the end
pub pushed : {V : Type 0} (q : List ℕ) (es : List (Vec ℕ × V)) (key : Vec ℕ) (v : V) → lookup (λ k. bytes_eq q k.items) (es ++ (key, v) ∷ []) ≡ or_named (lookup (λ k. bytes_eq q k.items) es) key.items v q
pushed q [] key v = ap (λ b. cond b (Some v) None) (nat_list_eq_equiv.symm q key.items)
pushed q (e ∷ es) key v = by _ _ (bytes_eq q e.0.items) (pushed q es key v)
  where
    by : (rest whole : Option _) (b : Bool) → whole ≡ or_named rest key.items v q → cond b (Some e.1) whole ≡ or_named (cond b (Some e.1) rest) key.items v q
    by rest whole true h = refl
    by rest whole false h = h

pub no_value : {V : Type 0} (r : Option (Bor V)) (b : Bool) → b ≡ is_some r → b ≡ false → option_copied r ≡ None
no_value None b is no_ = refl
no_value (Some x) b is no_ = absurd (wrong (sym is ∙ no_))
  where
    wrong : true ≡ false → ⊥
    wrong e = cc

-- ---- numbers of names

named_last : (q : List ℕ) (n : ℕ) (xs : List (List ℕ)) (x : List ℕ) → position_from (λ y. bytes_eq y q) n (xs ++ x ∷ []) ≡ or_named (position_from (λ y. bytes_eq y q) n xs) x (n + length xs) q
named_last q n [] x = let same : n ≡ n + 0 = omega arith in ap (λ k. if bytes_eq x q then Some k else None) same
named_last q n (y ∷ ys) x = by _ _ (bytes_eq y q) (let next : n + 1 + length ys ≡ n + suc (length ys) = omega arith in named_last q (n + 1) ys x ∙ ap (λ k. or_named (position_from (λ z. bytes_eq z q) (n + 1) ys) x k q) next)
  where
    by : (rest whole : Option ℕ) (b : Bool) → whole ≡ or_named rest x (n + suc (length ys)) q → cond b (Some n) whole ≡ or_named (cond b (Some n) rest) x (n + suc (length ys)) q
    by rest whole true e = refl
    by rest whole false e = e

-- the class of the next number
pub number_more : (names : List (List ℕ)) (i : ℕ) (name : List ℕ) (old new : List ℕ → Option ℕ) → slice_get names i ≡ Some name → ((q : List ℕ) → old q ≡ class_in (take i names) q) → ((q : List ℕ) → new q ≡ or_named (old q) name i q) → (q : List ℕ) → new q ≡ class_in (take (i + 1) names) q
number_more names i name old new there so_far more q =
    let within = slice_get_within names i name there in
    let count : i ≡ 0 + length (take i names) = omega (arith, within, length-take i names) in
    more q ∙ ap (λ o. or_named o name i q) (so_far q) ∙ ap (λ k. or_named (class_in (take i names) q) name k q) count
    ∙ sym (named_last q 0 (take i names) name) ∙ ap (λ l. class_in l q) (sym (taken_more names i name there))

-- ---- lists of names with their values

module _ {V : Type 0} where
  pub one_named : (o : Option V) (name : List ℕ) (v : V) (ps : List (List ℕ × V)) (q : List ℕ) → then_named (or_named o name v q) ps q ≡ then_named o ((name, v) ∷ ps) q
  one_named (Some w) name v ps q = refl
  one_named None name v ps q = by (bytes_eq name q)
    where
      by : (b : Bool) → then_named (if b then Some v else None) ps q ≡ (if b then Some v else first_named ps q)
      by true = refl
      by false = refl

  first_of_both : (ps qs : List (List ℕ × V)) (q : List ℕ) → then_named (first_named ps q) qs q ≡ first_named (ps ++ qs) q
  first_of_both [] qs q = refl
  first_of_both (p ∷ ps) qs q = by (bytes_eq p.0 q) (first_of_both ps qs q)
    where
      by : (b : Bool) → then_named (first_named ps q) qs q ≡ first_named (ps ++ qs) q → then_named (if b then Some p.1 else first_named ps q) qs q ≡ (if b then Some p.1 else first_named (ps ++ qs) q)
      by true e = refl
      by false e = e

  nothing_more : (o : Option V) (q : List ℕ) → o ≡ then_named o [] q
  nothing_more (Some v) q = refl
  nothing_more None q = refl

  -- one list, and then another
  pub both_named : (ps qs : List (List ℕ × V)) (none first second : Option V) (q : List ℕ) → none ≡ None → first ≡ then_named none ps q → second ≡ then_named first qs q → second ≡ first_named (ps ++ qs) q
  both_named ps qs none first second q is one two =
      two ∙ ap (λ o. then_named o qs q) (one ∙ ap (λ o. then_named o ps q) is) ∙ first_of_both ps qs q

  pub first_alone : (ps : List (List ℕ × V)) (none first : Option V) (q : List ℕ) → none ≡ None → first ≡ then_named none ps q → first ≡ first_named ps q
  first_alone ps none first q is one = one ∙ ap (λ o. then_named o ps q) is

  -- one list, and then another, behind what is there
  behind_both : (o : Option V) (ps qs : List (List ℕ × V)) (q : List ℕ) → then_named (then_named o ps q) qs q ≡ then_named o (ps ++ qs) q
  behind_both (Some v) ps qs q = refl
  behind_both None ps qs q = first_of_both ps qs q

  pub next_taken : (whole now new : Option V) (all one rest : List (List ℕ × V)) (q : List ℕ) → all ≡ one ++ rest → whole ≡ then_named now all q → new ≡ then_named now one q → whole ≡ then_named new rest q
  next_taken whole now new all one rest q is so_far more = so_far ∙ ap (λ l. then_named now l q) is ∙ sym (behind_both now one rest q) ∙ ap (λ o. then_named o rest q) (sym more)

  pub given_one : (now new : Option V) (name : List ℕ) (v : V) (ps : List (List ℕ × V)) (q : List ℕ) → ps ≡ (name, v) ∷ [] → new ≡ or_named now name v q → new ≡ then_named now ps q
  given_one now new name v ps q is more = nothing_more new q ∙ ap (λ o. then_named o [] q) more ∙ one_named now name v [] q ∙ ap (λ l. then_named now l q) (sym is)

  pub given_nothing : (now : Option V) (ps : List (List ℕ × V)) (q : List ℕ) → ps ≡ [] → now ≡ then_named now ps q
  given_nothing now ps q is = nothing_more now q ∙ ap (λ l. then_named now l q) (sym is)

  -- all are given
  pub all_given : (whole o : Option V) (ps : List (List ℕ × V)) (q : List ℕ) → ps ≡ [] → whole ≡ then_named o ps q → o ≡ whole
  all_given whole o ps q is e = nothing_more o q ∙ ap (λ l. then_named o l q) (sym is) ∙ sym e

  -- the next is given, where the list has it next
  pub next_given : (whole old new : Option V) (name : List ℕ) (v : V) (ps rest : List (List ℕ × V)) (q : List ℕ) → ps ≡ (name, v) ∷ rest → whole ≡ then_named old ps q → new ≡ or_named old name v q → whole ≡ then_named new rest q
  next_given whole old new name v ps rest q is so_far more =
      so_far ∙ ap (λ l. then_named old l q) is ∙ sym (one_named old name v rest q) ∙ ap (λ o. then_named o rest q) (sym more)

  -- or has nothing for it
  pub none_given : (whole old : Option V) (ps rest : List (List ℕ × V)) (q : List ℕ) → ps ≡ rest → whole ≡ then_named old ps q → whole ≡ then_named old rest q
  none_given whole old ps rest q is so_far = so_far ∙ ap (λ l. then_named old l q) is

-- what the first of a list gives, and what the others do
pub one_apart : {X Y : Type 0} (g : X → Option Y) (x : X) (xs : List X) → filter_map g (x ∷ xs) ≡ filter_map g (x ∷ []) ++ filter_map g xs
one_apart g x xs = by (g x)
  where
    by : (o : Option _) → cons_option o (filter_map g xs) ≡ cons_option o [] ++ filter_map g xs
    by None = refl
    by (Some y) = refl

pub one_given : {X Y : Type 0} (g : X → Option Y) (x : X) (y : Y) → g x ≡ Some y → filter_map g (x ∷ []) ≡ y ∷ []
one_given g x y is = ap (λ o. cons_option o []) is

pub no_given : {X Y : Type 0} (g : X → Option Y) (x : X) → g x ≡ None → filter_map g (x ∷ []) ≡ []
no_given g x is = ap (λ o. cons_option o []) is

-- ---- lists that are walked

-- the next of a list is given, by its number
pub next_listed : {X V : Type 0} (g : ℕ → Option (List ℕ × V)) (number : X → ℕ) (xs : List X) (i : ℕ) (d : X) (whole now new : Option V) (q : List ℕ) → i < length xs
    → whole ≡ then_named now (filter_map g (map number (drop i xs))) q → new ≡ then_named now (filter_map g (number (get_or xs i d) ∷ [])) q → whole ≡ then_named new (filter_map g (map number (drop (i + 1) xs))) q
next_listed g number xs i d whole now new q lt so_far more =
    next_taken whole now new (filter_map g (map number (drop i xs))) (filter_map g (number (get_or xs i d) ∷ [])) (filter_map g (map number (drop (i + 1) xs))) q
    (ap (λ l. filter_map g (map number l)) (drop_more xs i d lt) ∙ one_apart g (number (get_or xs i d)) (map number (drop (i + 1) xs))) so_far more

pub past_all : {X : Type 0} (xs : List X) (n : ℕ) → length xs ≤ n → drop n xs ≡ []
past_all [] zero le = refl
past_all [] (suc n) le = refl
past_all (x ∷ xs) zero le = absurd (omega (arith, le))
past_all (x ∷ xs) (suc n) le = past_all xs n (omega (arith, le))

-- ---- what each class has, one class more

at_left : {X : Type 0} (xs ys : List X) (i : ℕ) → i < length xs → slice_get (xs ++ ys) i ≡ slice_get xs i
at_left [] ys i lt = absurd (omega (arith, lt))
at_left (x ∷ xs) ys zero lt = refl
at_left (x ∷ xs) ys (suc i) lt = at_left xs ys i (omega (arith, lt))

at_end : {X : Type 0} (xs : List X) (x : X) → slice_get (xs ++ x ∷ []) (length xs) ≡ Some x
at_end [] x = refl
at_end (y ∷ ys) x = at_end ys x

pub one_longer : {X : Type 0} (old new : List X) (x : X) (n : ℕ) → new ≡ old ++ x ∷ [] → length old ≡ n → length new ≡ n + 1
one_longer old new x n is count = ap length is ∙ length-append old (x ∷ []) ∙ ap (λ k. k + 1) count

pub each_more : {V : Type 0} (old new : List (Named V)) (m : Named V) (n : ℕ) (P : ℕ → List (List ℕ × V)) (q : List ℕ) → new ≡ old ++ m ∷ [] → length old ≡ n
    → ((c : ℕ) → c < n → own_value old q c ≡ first_named (P c) q) → value_at m q ≡ first_named (P n) q → (c : ℕ) → c < n + 1 → own_value new q c ≡ first_named (P c) q
each_more old new m n P q is count so_far its c lt = ap (λ l. own_value l q c) is ∙ by (cases_eq c n)
  where
    by : (c ≡ n) ⊎ (c ≡ n → ⊥) → own_value (old ++ m ∷ []) q c ≡ first_named (P c) q
    by (inl same) =
        ap (λ o. option_and_then (λ x. value_at x q) o) (ap (slice_get (old ++ m ∷ [])) (same ∙ sym count) ∙ at_end old m) ∙ its ∙ ap (λ k. first_named (P k) q) (sym same)
    by (inr other) = let less : c < n = omega (arith, lt, other) in ap (λ o. option_and_then (λ x. value_at x q) o) (at_left old (m ∷ []) c (omega (arith, less, count))) ∙ so_far c less
