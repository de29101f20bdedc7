-- Lists of files: their bytes, as far as they are told.
use Rattle.std.proofs.Common.{◌≡◌, ◌<◌, ◌≤◌, ◌+◌, ℕ, List, [], ◌∷◌, ◌++◌, length, map, take, drop, get_or, Option, Some, ap, sym, refl, subst, ◌∙◌, arith}
use Rattle.std.specs.Option.{ForSome}
use Rattle.std.proofs.lemmas.List.{drop_more, get_or-map, length-map, map-append, take_all, take_more, take-append-drop}
use Rattle.std.specs.List.{Contains}
use Rattle.std.proofs.lemmas.List.Elements.{Contains-get_or}
use Rattle.std.specs.Prelude.{String, string_bytes}
use Rattle.std.specs.Global.{Global, Vec}
use Rattle.jd_base.specs.Faults.{Rose, SameContents, SameCounts, StaySteady}
use Rattle.jd_answer.specs.ReadFaults.{AreSteady, HasRisen}
use Rattle.jd_answer.specs.Words.{word_texts}
use Rattle.jd_files.specs.Files.{file_limit}
use Rattle.jd_answer.specs.Answers.{AreTold, HaveBytes, HaveLongFile, long, behind}

module _ (contents : List ℕ → Option (List ℕ)) where
  one_more : (ns bs : List (List ℕ)) (n b : List ℕ) → HaveBytes contents ns bs → contents n ≡ Some b → length b ≤ file_limit → HaveBytes contents (ns ++ n ∷ []) (bs ++ b ∷ [])
  one_more [] [] n b have told within = (told, within, tt)
  one_more [] (c ∷ bs) n b have told within = absurd have
  one_more (m ∷ ns) [] n b have told within = absurd have
  one_more (m ∷ ns) (c ∷ bs) n b have told within = (have.0, have.1, one_more ns bs n b have.2 told within)

  long_behind : (ns bs more : List (List ℕ)) (n b : List ℕ) → HaveBytes contents ns bs → contents n ≡ Some b → file_limit < length b → HaveLongFile contents (ns ++ n ∷ more)
  long_behind [] [] more n b have told past = long n b more told past
  long_behind [] (c ∷ bs) more n b have told past = absurd have
  long_behind (m ∷ ns) [] more n b have told past = absurd have
  long_behind (m ∷ ns) (c ∷ bs) more n b have told past = behind m c (ns ++ n ∷ more) have.0 have.1 (long_behind ns bs more n b have.2 told past)

  -- what is known where the first i of the files are read
  abbrev pub AreReadTo : List (List ℕ) → ℕ → List (List ℕ) → Type 0
  AreReadTo ns i bs = AreTold contents ns → AreTold contents (drop i ns) × HaveBytes contents (take i ns) bs

  next_told : (ns : List (List ℕ)) (i : ℕ) (n : List ℕ) → i < length ns → n ≡ get_or ns i n → AreTold contents (drop i ns) → AreTold contents (n ∷ drop (i + 1) ns)
  next_told ns i n lt is told = subst (λ m. AreTold contents (m ∷ drop (i + 1) ns)) (sym is) (subst (λ l. AreTold contents l) (drop_more ns i n lt) told)

  pub next_read : (ns : List (List ℕ)) (i : ℕ) (n : List ℕ) (bs : List (List ℕ)) (b : List ℕ) → i < length ns → n ≡ get_or ns i n → ForSome (contents n) (λ told. (b ≡ told) × (length told ≤ file_limit)) → AreReadTo ns i bs → AreReadTo ns (i + 1) (bs ++ b ∷ [])
  next_read ns i n bs b lt is read so_far told =
      let both = so_far told in
      let here = next_told ns i n lt is both.0 in
      let found = read here.0 here.1 in (
        here.2 found.1,
        subst (λ l. HaveBytes contents l (bs ++ b ∷ [])) (ap (λ m. take i ns ++ m ∷ []) is ∙ sym (take_more ns i n lt)) (one_more (take i ns) bs n b both.1 (here.1 ∙ ap Some (sym found.0)) (subst (λ c. length c ≤ file_limit) (sym found.0) found.1)),
      )

  pub long_there : (ns : List (List ℕ)) (i : ℕ) (n : List ℕ) (bs : List (List ℕ)) → i < length ns → n ≡ get_or ns i n → ForSome (contents n) (λ told. file_limit < length told) → AreReadTo ns i bs → AreTold contents ns → HaveLongFile contents ns
  long_there ns i n bs lt is past so_far told =
      let both = so_far told in
      let here = next_told ns i n lt is both.0 in
      subst (λ l. HaveLongFile contents l) (ap (λ m. take i ns ++ m ∷ drop (i + 1) ns) is ∙ ap (λ l. take i ns ++ l) (sym (drop_more ns i n lt)) ∙ take-append-drop i ns)
      (long_behind (take i ns) bs (drop (i + 1) ns) n here.0 both.1 here.1 (past here.0 here.1))

  -- ---- one list of bytes

  pub one_list : (ns bs cs : List (List ℕ)) → HaveBytes contents ns bs → HaveBytes contents ns cs → bs ≡ cs
  one_list [] [] [] have other = refl
  one_list [] [] (c ∷ cs) have other = absurd other
  one_list [] (b ∷ bs) cs have other = absurd have
  one_list (n ∷ ns) [] cs have other = absurd have
  one_list (n ∷ ns) (b ∷ bs) [] have other = absurd other
  one_list (n ∷ ns) (b ∷ bs) (c ∷ cs) have other =
      let first : b ≡ c = let same = sym have.0 ∙ other.0 in cc in
      let rest = one_list ns bs cs have.2 other.2 in
      ap (λ x. x ∷ bs) first ∙ ap (λ l. c ∷ l) rest

  pub none_long : (ns bs : List (List ℕ)) → HaveBytes contents ns bs → HaveLongFile contents ns → ⊥
  none_long [] bs have past = elim past [ ]
  none_long (n ∷ ns) [] have (long _ b _ told past) = absurd have
  none_long (n ∷ ns) (c ∷ bs) have (long _ b _ told past) =
      let same : c ≡ b = let both = sym have.0 ∙ told in cc in
      omega (arith, ap length same, have.1, past)
  none_long (n ∷ ns) [] have (behind _ b _ told within more) = absurd have
  none_long (n ∷ ns) (c ∷ bs) have (behind _ b _ told within more) = none_long ns bs have.2 more

  pub as_many : (ns bs : List (List ℕ)) → HaveBytes contents ns bs → length ns ≡ length bs
  as_many [] [] have = refl
  as_many [] (b ∷ bs) have = absurd have
  as_many (n ∷ ns) [] have = absurd have
  as_many (n ∷ ns) (b ∷ bs) have = omega (arith, as_many ns bs have.2)

-- ---- reading one file more, of a library whose contents and counts stay

pub same_still : (one two three : List ℕ → Option (List ℕ)) → SameContents one two → SameContents two three → SameContents one three
same_still one two three same more name = more name ∙ same name

pub still_same : (one two three : List ℕ → ℕ) → SameCounts one two → SameCounts two three → SameCounts one three
still_same one two three same more name = more name ∙ same name

for_contents : (contents later : List ℕ → Option (List ℕ)) (n : List ℕ) (P : List ℕ → Type 0) → SameContents contents later → ForSome (later n) P → ForSome (contents n) P
for_contents contents later n P same holds told is = holds told (same n ∙ is)

module _ (contents later : List ℕ → Option (List ℕ)) (same : SameContents contents later) (names : List (String Global)) (i : ℕ) (w : String Global) (n : List ℕ) (fs : List (Vec ℕ)) (lt : i < length names) (is : w ≡ get_or names i w) (text : n ≡ string_bytes w) where
  within_words : i < length (word_texts names)
  within_words = omega (arith, lt, length-map names string_bytes)

  named_so : n ≡ get_or (word_texts names) i n
  named_so = text ∙ ap string_bytes is ∙ sym (get_or-map string_bytes names i w n lt)

  pub reads_more : (v : Vec ℕ) → ForSome (later n) (λ told. (v.items ≡ told) × (length told ≤ file_limit)) → AreReadTo contents (word_texts names) i (map (λ f. f.items) fs) → AreReadTo contents (word_texts names) (i + 1) (map (λ f. f.items) (fs ++ v ∷ []))
  reads_more v read so_far =
      subst (AreReadTo contents (word_texts names) (i + 1)) (sym (map-append (λ (f : Vec ℕ). f.items) fs (v ∷ [])))
      (next_read contents (word_texts names) i n (map (λ f. f.items) fs) v.items within_words named_so (for_contents contents later n (λ told. (v.items ≡ told) × (length told ≤ file_limit)) same read) so_far)

  pub finds_long : ForSome (later n) (λ told. file_limit < length told) → AreReadTo contents (word_texts names) i (map (λ f. f.items) fs) → AreTold contents (word_texts names) → HaveLongFile contents (word_texts names)
  finds_long past so_far told =
      long_there contents (word_texts names) i n (map (λ f. f.items) fs) within_words named_so (for_contents contents later n (λ told. file_limit < length told) same past) so_far told

  pub has_risen : (before after last : List ℕ → ℕ) → SameCounts before after → Rose (after n) (last n) → HasRisen (word_texts names) before last
  has_risen before after last counts rose = record {
    name = n;
    among = subst (Contains (word_texts names)) (sym named_so) (Contains-get_or (word_texts names) i n within_words);
    rose = subst (λ k. Rose k (last n)) (counts n) rose;
  }

  pub is_steady : (steady still : List ℕ → Type 0) → AreSteady (word_texts names) steady → StaySteady steady still → still n
  is_steady steady still all stay =
      stay n (all n (subst (Contains (word_texts names)) (sym named_so) (Contains-get_or (word_texts names) i n within_words)))

pub all_read : (contents : List ℕ → Option (List ℕ)) (names : List (String Global)) (i : ℕ) (fs : List (Vec ℕ)) → length names ≤ i → AreReadTo contents (word_texts names) i (map (λ f. f.items) fs) → AreTold contents (word_texts names) → HaveBytes contents (word_texts names) (map (λ f. f.items) fs)
all_read contents names i fs past so_far told =
    subst (λ l. HaveBytes contents l (map (λ f. f.items) fs)) (take_all i (word_texts names) (omega (arith, past, length-map names string_bytes))) (so_far told).1
