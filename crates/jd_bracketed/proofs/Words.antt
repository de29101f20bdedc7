-- The word at the head of a text.
use Rattle.std.proofs.Common.{◌≡◌, inl, inr, ℕ, suc, ◌≤◌, List, [], ◌∷◌, ◌++◌, length, take, drop, Bool, true, false, cond, ◌==◌, refl, sym, ap, ◌∙◌, true≢false, arith}
use Rattle.std.specs.Prelude.{codes}
use Rattle.std.specs.List.{starts_with}
use Rattle.std.proofs.lemmas.Slice.Eq.{starts_is}
use Rattle.std.proofs.lemmas.Bool.Decides.{Decides-eqb}
use Rattle.std.proofs.Math.Seq.{take-append_seam, drop-append_seam}
use Rattle.std.proofs.lemmas.List.{take-append-drop}
use Rattle.jd_bracketed.specs.Bytes.{is_word_byte}
use Rattle.jd_bracketed.specs.Tokens.{run_length, array_type, word_more}
use Rattle.jd_bracketed.specs.Texts.{AllOfWords, NoneAtHead, BeginsWith, IsRun, IsWord}

-- ---- runs of bytes of words

pub whole_run : (text rest : List ℕ) → AllOfWords text → NoneAtHead rest → run_length (text ++ rest) ≡ length text
whole_run [] [] a n = refl
whole_run [] (b ∷ rest) a n = ap (λ t. cond t (suc (run_length rest)) 0) n
whole_run (b ∷ text) rest a n = ap (λ t. cond t (suc (run_length (text ++ rest))) 0) a.0 ∙ ap suc (whole_run text rest a.1 n)

-- what stands at the head by the length of the run
pub record Runs (bytes : List ℕ) (n : ℕ) : Type 0 where
  pub within : n ≤ length bytes
  pub all : AllOfWords (take n bytes)
  pub none : NoneAtHead (drop n bytes)

pub runs : (bytes : List ℕ) → Runs bytes (run_length bytes)
runs [] = record { within = omega arith; all = tt; none = tt }
runs (b ∷ bytes) = by_byte (runs bytes) (is_word_byte b) refl
  where
    by_byte : Runs bytes (run_length bytes) → (t : Bool) → is_word_byte b ≡ t → Runs (b ∷ bytes) (cond t (suc (run_length bytes)) 0)
    by_byte r true e = record { within = omega (arith, r.within); all = (e, r.all); none = r.none }
    by_byte r false e = record { within = omega arith; all = tt; none = e }

-- ---- the type of arrays

starts : (bytes : List ℕ) → starts_with ◌==◌ bytes array_type ≡ true → BeginsWith array_type bytes
starts bytes e = (drop (length array_type) bytes, (starts_is Decides-eqb bytes array_type _ refl).0 e)

starts_so : (bytes behind : List ℕ) → bytes ≡ array_type ++ behind → starts_with ◌==◌ bytes array_type ≡ true
starts_so bytes behind e = (starts_is Decides-eqb bytes array_type _ refl).1 behind e

-- ---- words

-- a run that the type of arrays begins is `int`
no_array_run : (text rest : List ℕ) → IsRun text rest → starts_with ◌==◌ (text ++ rest) array_type ≡ true → ⊥
no_array_run text rest r e =
    let (behind, is) = starts (text ++ rest) e in
    let three : length text ≡ 3 = sym (whole_run text rest r.parts r.longest) ∙ ap run_length is in
    let front : text ≡ codes "int" = sym (take-append_seam text rest) ∙ (ap (λ n. take n (text ++ rest)) three ∙ ap (take 3) is) in
    let back : rest ≡ codes "[]" ++ behind = sym (drop-append_seam text rest) ∙ (ap (λ n. drop n (text ++ rest)) three ∙ ap (drop 3) is) in
    r.no_array front (behind, back)

pub run_more : (b : ℕ) (text rest : List ℕ) → IsRun (b ∷ text) rest → word_more (b ∷ (text ++ rest)) ≡ length text
run_more b text rest r = by_test (starts_with ◌==◌ (b ∷ (text ++ rest)) array_type) refl
  where
    by_test : (t : Bool) → starts_with ◌==◌ (b ∷ (text ++ rest)) array_type ≡ t → cond t 4 (run_length (text ++ rest)) ≡ length text
    by_test true e = absurd (no_array_run (b ∷ text) rest r e)
    by_test false e = whole_run text rest r.parts.1 r.longest

pub array_more : (b : ℕ) (text rest : List ℕ) → b ∷ text ≡ array_type → word_more (b ∷ (text ++ rest)) ≡ length text
array_more b text rest e = ap (λ t. word_more (t ++ rest)) e ∙ omega (arith, ap length e)

-- what stands at the head by the length of the word
pub record IsHead (b : ℕ) (bytes : List ℕ) (n : ℕ) : Type 0 where
  pub within : n ≤ length bytes
  pub word : IsWord (b ∷ take n bytes) (drop n bytes)

pub head_word : (b : ℕ) (bytes : List ℕ) → is_word_byte b ≡ true → IsHead b bytes (word_more (b ∷ bytes))
head_word b bytes part = by_test (starts_with ◌==◌ (b ∷ bytes) array_type) refl
  where
    no_nil : (xs : List ℕ) → b ∷ xs ≡ [] → ⊥
    no_nil xs e = absurd cc

    by_test : (t : Bool) → starts_with ◌==◌ (b ∷ bytes) array_type ≡ t → IsHead b bytes (cond t 4 (run_length bytes))
    by_test true e =
        let (behind, is) = starts (b ∷ bytes) e in
        record { within = omega (arith, ap length is); word = inl (ap (take 5) is) }
    by_test false e =
        let r = runs bytes in
        let n = run_length bytes in
        record {
          within = r.within;
          word = inr record {
            some = no_nil (take n bytes);
            parts = (part, r.all);
            longest = r.none;
            no_array = λ int (behind, back).
                let is : b ∷ bytes ≡ array_type ++ behind = ap (λ xs. b ∷ xs) (sym (take-append-drop n bytes)) ∙ (ap (λ xs. xs ++ drop n bytes) int ∙ ap (λ xs. codes "int" ++ xs) back) in
                true≢false (sym (starts_so (b ∷ bytes) behind is) ∙ e);
          };
        }
