-- One text more with its number, and what the numbers of the members' texts tell of the members.
use Rattle.std.proofs.Common.{◌≡◌, ◌⊎◌, ℕ, ◌+◌, ◌<◌, ◌≤◌, Bool, true, false, cond, if◌then◌else◌, List, [], ◌∷◌, ◌++◌, length, map, fold, get_or, take, drop, Option, Some, None, option_map, slice_index, ◌||◌, true≢false, length-append, refl, sym, ap, ap₂, ◌∙◌, subst, inl, inr, bytes_eq, ltb, arith}
use Rattle.std.proofs.lemmas.Bool.{cases_lt, ltb-true}
use Rattle.std.proofs.lemmas.Cmp.{nat_list_eq_equiv}
use Rattle.std.proofs.lemmas.Iterator.Adapters.{position_from-zero}
use Rattle.std.proofs.lemmas.List.{length-map, map-append, take_more}
use Rattle.std.proofs.lemmas.List.Elements.{Contains-append_cases, Contains-append_left, Contains-append_right, Contains-push}
use Rattle.std.proofs.lemmas.List.Sums.{fold-append, passes_at_first}
use Rattle.std.proofs.lemmas.Option.{none-some, same_Some, slice_get_cases, slice_get-get_or, slice_get-map, slice_get_within}
use Rattle.std.proofs.lemmas.Slice.Eq.{bytes_eq-Decides}
use Rattle.std.specs.List.{Contains, list_any, position_from, position_or_len, slice_get}
use Rattle.jd_jclasses.specs.Members.{Declared}
use Rattle.jd_jclasses.specs.Numbers.{AreNumbers}
use Rattle.jd_jlists.specs.declared.member.MemberOf.{MemberOf}
use Rattle.jd_jlists.specs.Views.{member_of_view}
use Rattle.jd_jnumbers.specs.declared.agreement.Agreement.{Agreement}
use Rattle.jd_jnumbers.specs.Encoding.{text_by}
use Rattle.jd_jnumbers.specs.Numbered.{AreAllUsed, AreNames, AreNumbered, member_name}
use Rattle.jd_jnumbers.specs.Texts.{insert_text, number_in}

-- ---- one text more

some_head : {X : Type 0} (a b : X) (xs ys : List X) → a ∷ xs ≡ b ∷ ys → a ≡ b
some_head a b xs ys h = ap (λ l. get_or l 0 a) h

-- a text keeps its number where others come behind it
number_stays : (test : List ℕ → Bool) (i n : ℕ) (xs ys : List (List ℕ)) → position_from test i xs ≡ Some n → position_from test i (xs ++ ys) ≡ Some n
number_stays test i n [] ys h = absurd (none-some n h)
number_stays test i n (x ∷ xs) ys h = by (test x) (λ e. number_stays test (i + 1) n xs ys e) h
  where
    by : (b : Bool) → (position_from test (i + 1) xs ≡ Some n → position_from test (i + 1) (xs ++ ys) ≡ Some n) → cond b (Some i) (position_from test (i + 1) xs) ≡ Some n → cond b (Some i) (position_from test (i + 1) (xs ++ ys)) ≡ Some n
    by true rest e = e
    by false rest e = rest e

number_kept : (texts : List (List ℕ)) (new text : List ℕ) (n : ℕ) → number_in texts text ≡ Some n → number_in (insert_text texts new) text ≡ Some n
number_kept texts new text n h = by (list_any (bytes_eq new) texts)
  where
    by : (b : Bool) → number_in (if b then texts else texts ++ new ∷ []) text ≡ Some n
    by true = h
    by false = number_stays (λ t. bytes_eq t text) 0 n texts (new ∷ []) h

numbers_kept : (texts : List (List ℕ)) (new : List ℕ) (ns : List ℕ) (ts : List (List ℕ)) → map Some ns ≡ map (number_in texts) ts → map Some ns ≡ map (number_in (insert_text texts new)) ts
numbers_kept texts new [] [] h = refl
numbers_kept texts new [] (t ∷ ts) h = absurd (omega (arith, ap length h))
numbers_kept texts new (n ∷ ns) [] h = absurd (omega (arith, ap length h))
numbers_kept texts new (n ∷ ns) (t ∷ ts) h =
    ap₂ ◌∷◌
    (sym (number_kept texts new t n (sym (some_head (Some n) (number_in texts t) (map Some ns) (map (number_in texts) ts) h))))
    (numbers_kept texts new ns ts (ap (drop 1) h))

-- the number of a text that is none of those before it
last_number : (text : List ℕ) (i : ℕ) (xs : List (List ℕ)) → list_any (bytes_eq text) xs ≡ false → position_from (λ t. bytes_eq t text) i (xs ++ text ∷ []) ≡ Some (i + length xs)
last_number text i [] none =
    let all : i ≡ i + 0 = omega arith in
    ap (λ t. cond t (Some i) None) (nat_list_eq_equiv.refl text) ∙ ap Some all
last_number text i (x ∷ xs) none =
    by (bytes_eq x text) (λ e. last_number text (i + 1) xs e) (ap (λ t. t || list_any (bytes_eq text) xs) (nat_list_eq_equiv.symm x text) ∙ none)
  where
    by : (b : Bool) → (list_any (bytes_eq text) xs ≡ false → position_from (λ t. bytes_eq t text) (i + 1) (xs ++ text ∷ []) ≡ Some (i + 1 + length xs)) → (b || list_any (bytes_eq text) xs) ≡ false
        → cond b (Some i) (position_from (λ t. bytes_eq t text) (i + 1) (xs ++ text ∷ [])) ≡ Some (i + length (x ∷ xs))
    by true rest e = absurd (true≢false e)
    by false rest e = let next : i + 1 + length xs ≡ i + length (x ∷ xs) = omega arith in rest e ∙ ap Some next

all_used : (texts : List (List ℕ)) (text : List ℕ) (ns : List ℕ) (n : ℕ) → AreAllUsed ns (length texts) → number_in (insert_text texts text) text ≡ Some n → AreAllUsed (ns ++ n ∷ []) (length (insert_text texts text))
all_used texts text ns n used at = by (list_any (bytes_eq text) texts) refl at
  where
    by : (b : Bool) → list_any (bytes_eq text) texts ≡ b → number_in (if b then texts else texts ++ text ∷ []) text ≡ Some n → AreAllUsed (ns ++ n ∷ []) (length (if b then texts else texts ++ text ∷ []))
    by true e there = λ k lt. Contains-append_left ns (n ∷ []) k (used k lt)
    by false e there = λ k lt.
        let last : n ≡ 0 + length texts = same_Some n (0 + length texts) (sym there ∙ last_number text 0 texts e) in
        let count = length-append texts (text ∷ []) in
        elim (cases_lt k (length texts)) [
          | inl below ↦ Contains-append_left ns (n ∷ []) k (used k below)
          | inr above ↦
              let here : n ≡ k = omega (arith, lt, above, last, count) in
              subst (λ (m : ℕ). Contains (ns ++ n ∷ []) m) here (Contains-push ns n)
        ]

one_more : (texts texts_new : List (List ℕ)) (ns ns_new : List ℕ) (done : List (List ℕ)) (text : List ℕ) (n : ℕ) → AreNumbered texts ns done → texts_new ≡ insert_text texts text → number_in texts_new text ≡ Some n → ns_new ≡ ns ++ n ∷ [] → AreNumbered texts_new ns_new (done ++ text ∷ [])
one_more texts texts_new ns ns_new done text n before made at added =
    record {
      in_order = made ∙ ap (λ (t : List (List ℕ)). insert_text t text) before.in_order ∙ sym (fold-append insert_text [] done (text ∷ []));
      places =
          ap (map Some) added
          ∙ map-append Some ns (n ∷ [])
          ∙ ap₂ (λ (a : List (Option ℕ)) (b : Option ℕ). a ++ b ∷ [])
          (numbers_kept texts text ns done before.places ∙ ap (λ (t : List (List ℕ)). map (number_in t) done) (sym made))
          (sym at)
          ∙ sym (map-append (number_in texts_new) done (text ∷ []));
      used = subst (λ (m : List ℕ). AreAllUsed m (length texts_new)) (sym added) (subst (λ (t : List (List ℕ)). AreAllUsed (ns ++ n ∷ []) (length t)) (sym made)
          (all_used texts text ns n before.used (ap (λ (t : List (List ℕ)). number_in t text) (sym made) ∙ at)));
    }

pub member_more : (by : Agreement) (members : List MemberOf) (i : ℕ) (m : MemberOf) (texts texts_new : List (List ℕ)) (ns ns_new : List ℕ) (text : List ℕ) (n : ℕ) → m ≡ get_or members i m → i < length members
    → AreNumbered texts ns (map (text_by by) (map member_of_view (take i members))) → text ≡ text_by by (member_of_view m) → texts_new ≡ insert_text texts text → number_in texts_new text ≡ Some n → ns_new ≡ ns ++ n ∷ []
    → AreNumbered texts_new ns_new (map (text_by by) (map member_of_view (take (i + 1) members)))
member_more by members i m texts texts_new ns ns_new text n is lt before made_of made at added =
    let views : map member_of_view (take (i + 1) members) ≡ map member_of_view (take i members) ++ member_of_view m ∷ [] =
    ap (map member_of_view) (take_more members i m lt)
    ∙ map-append member_of_view (take i members) (get_or members i m ∷ [])
    ∙ ap (λ (x : MemberOf). map member_of_view (take i members) ++ member_of_view x ∷ []) (sym is) in
    let whole : map (text_by by) (map member_of_view (take (i + 1) members)) ≡ map (text_by by) (map member_of_view (take i members)) ++ text ∷ [] =
    ap (map (text_by by)) views
    ∙ map-append (text_by by) (map member_of_view (take i members)) (member_of_view m ∷ [])
    ∙ ap (λ (t : List ℕ). map (text_by by) (map member_of_view (take i members)) ++ t ∷ []) (sym made_of) in
    subst (AreNumbered texts_new ns_new) (sym whole) (one_more texts texts_new ns ns_new (map (text_by by) (map member_of_view (take i members))) text n before made at added)

-- ---- what a text's number tells of it

stands_at : (texts : List (List ℕ)) (text : List ℕ) (k : ℕ) → number_in texts text ≡ Some k → (k < length texts) × (get_or texts k [] ≡ text)
stands_at texts text k h = by (ltb p (length texts)) refl (position_from-zero test texts ∙ h)
  where
    test : List ℕ → Bool
    test t = bytes_eq t text

    p : ℕ
    p = position_or_len test texts

    by : (b : Bool) → ltb p (length texts) ≡ b → cond b (Some p) None ≡ Some k → (k < length texts) × (get_or texts k [] ≡ text)
    by true e at =
        let same : p ≡ k = same_Some p k at in
        let below : p < length texts = ltb-true p (length texts) e in
        (subst (λ (m : ℕ). m < length texts) same below, subst (λ (m : ℕ). get_or texts m [] ≡ text) same ((bytes_eq-Decides (get_or texts p []) text).0 (passes_at_first test texts [] below)))
    by false e at = absurd (none-some k at)

same_number : (texts : List (List ℕ)) (s t : List ℕ) (j k : ℕ) → number_in texts s ≡ Some j → number_in texts t ≡ Some k → j ≡ k → s ≡ t
same_number texts s t j k at there same = sym (stands_at texts s j at).1 ∙ ap (λ (m : ℕ). get_or texts m []) same ∙ (stands_at texts t k there).1

-- ---- what the numbers tell of the members

module _ (text : Declared → List ℕ) (members : List Declared) (distincts : List (List ℕ)) (numbers : List ℕ) (numbered : AreNumbered distincts numbers (map text members)) where
  each : length numbers ≡ length members
  each = sym (length-map numbers Some) ∙ ap length numbered.places ∙ length-map (map text members) (number_in distincts) ∙ length-map members text

  pub place : (i : ℕ) (m : Declared) → slice_get members i ≡ Some m → number_in distincts (text m) ≡ Some (slice_index numbers i)
  place i m there =
      let within : i < length numbers = omega (arith, slice_get_within members i m there, each) in
      same_Some (number_in distincts (text m)) (Some (slice_index numbers i))
      (sym (ap (option_map (number_in distincts)) (slice_get-map text members i ∙ ap (option_map text) there))
      ∙ sym (slice_get-map (number_in distincts) (map text members) i)
      ∙ ap (λ (l : List (Option ℕ)). slice_get l i) (sym numbered.places)
      ∙ slice_get-map Some numbers i
      ∙ ap (option_map Some) (slice_get-get_or numbers i 0 within))

  pub are_numbers : (Same : Declared → Declared → Type 0) → ((a b : Declared) → text a ≡ text b → Same a b) → ((a b : Declared) → Same a b → text a ≡ text b) → AreNumbers Same members numbers (length distincts)
  are_numbers Same agree texts =
      record {
        each = each;
        below = λ i lt. elim (slice_get_cases members i).1 [
          | inl inside ↦ (stands_at distincts (text inside.0) (slice_index numbers i) (place i inside.0 inside.2)).0
          | inr past ↦ absurd (omega (arith, lt, past.0))
        ];
        same = λ i j a b at there. (
          (λ one. agree a b (same_number distincts (text a) (text b) (slice_index numbers i) (slice_index numbers j) (place i a at) (place j b there) one)),
          (λ same. same_Some (slice_index numbers i) (slice_index numbers j) (sym (place i a at) ∙ ap (number_in distincts) (texts a b same) ∙ place j b there)),
        );
      }

-- ---- how many numbers there are

no_more : (texts : List (List ℕ)) (text : List ℕ) → length (insert_text texts text) ≤ length texts + 1
no_more texts text = by (list_any (bytes_eq text) texts)
  where
    by : (b : Bool) → length (if b then texts else texts ++ text ∷ []) ≤ length texts + 1
    by true = omega arith
    by false = omega (arith, length-append texts (text ∷ []))

few_distinct : (begun texts : List (List ℕ)) → length (fold insert_text begun texts) ≤ length begun + length texts
few_distinct begun [] = omega arith
few_distinct begun (t ∷ ts) = omega (arith, few_distinct (insert_text begun t) ts, no_more begun t)

pub few_numbers : (text : Declared → List ℕ) (members : List Declared) (distincts : List (List ℕ)) (numbers : List ℕ) (numbered : AreNumbered distincts numbers (map text members)) → length distincts ≤ length members
few_numbers text members distincts numbers numbered =
    omega (arith, ap length numbered.in_order, few_distinct [] (map text members), length-map members text)

-- ---- the names

was_there : (texts : List (List ℕ)) (new x : List ℕ) → Contains (insert_text texts new) x → Contains (texts ++ new ∷ []) x
was_there texts new x h = by (list_any (bytes_eq new) texts) h
  where
    by : (b : Bool) → Contains (if b then texts else texts ++ new ∷ []) x → Contains (texts ++ new ∷ []) x
    by true c = Contains-append_left texts (new ∷ []) x c
    by false c = c

all_there : (begun texts : List (List ℕ)) (x : List ℕ) → Contains (fold insert_text begun texts) x → Contains begun x ⊎ Contains texts x
all_there begun [] x h = inl h
all_there begun (t ∷ ts) x h =
    elim (all_there (insert_text begun t) ts x h) [
      | inl first ↦
          elim (Contains-append_cases begun (t ∷ []) x (was_there begun t x first)) [
            | inl before ↦ inl before
            | inr here ↦ inr (Contains-append_left (t ∷ []) ts x here)
          ]
      | inr rest ↦ inr (Contains-append_right (t ∷ []) ts x rest)
    ]

pub are_names : (members : List Declared) (names : List (List ℕ)) (numbers : List ℕ) → AreNumbered names numbers (map member_name members) → AreNames members names numbers
are_names members names numbers numbered =
    record {
      in_order = numbered.in_order;
      place = place member_name members names numbers numbered;
      used = λ x there.
          elim (all_there [] (map member_name members) x (subst (λ (l : List (List ℕ)). Contains l x) numbered.in_order there)) [
            | inl none ↦ absurd (omega (arith, none.1))
            | inr used ↦ used
          ];
    }
