-- Files are refused in one way, and no program is refused.
use Rattle.std.proofs.Common.{◌≡◌, inl, inr, ◌<◌, ℕ, List, [], ◌∷◌, ap, sym, refl, subst, ◌∙◌, arith}
use Rattle.std.specs.List.{slice_get}
use Rattle.std.proofs.lemmas.Bool.{cases_lt}
use Rattle.std.proofs.lemmas.Option.{same_Some}
use Rattle.jd_lex.specs.Parts.{Fault, Token}
use Rattle.jd_lex.specs.Lexing.{Spells, HasFault}
use Rattle.jd_syntax.specs.JavaTrees.{JavaUnit}
use Rattle.jd_source.specs.Sources.{Reason, Faulty, IsReason, SameReason}
use Rattle.jd_source.specs.Laws.{OneSource}
use Rattle.jd_jclasses.specs.Laws.{OneClassRefusal}
use Rattle.jd_jclasses.specs.Refusals.{AreClasses, IsRefused}
use Rattle.jd_files.specs.Files.{HasTokens, IsFile, AreTrees, IsFirstRefused, IsRefusedFile, for_text, for_grammar, AreProgramClasses}
use Rattle.jd_files.specs.Refusals.{AreRefused, of_file, of_classes, PlainRefusal, OfFile, OfClasses, SameRefusal, of_one_file, same}
use Rattle.jd_files.proofs.Trees.{all_have_tokens, file_at, tokens_at}

-- what is known of one file and of the classes of all
pub record FileLaws : Type 0 where
  pub source : OneSource
  pub no_fault : (bytes : List ℕ) (xs : List Token) (fault : Fault) → Spells bytes xs → HasFault bytes fault → ⊥
  pub classes : OneClassRefusal

module _ (laws : FileLaws) where
  -- bytes that have tokens have no fault, and a file has no reason
  tokens_faultless : (bytes : List ℕ) (fault : Fault) → HasTokens bytes → IsReason bytes (Faulty fault) → ⊥
  tokens_faultless bytes fault has first = laws.no_fault bytes has.tokens fault has.spelled first.there

  file_reasonless : (bytes : List ℕ) (r : Reason) → IsFile bytes → IsReason bytes r → ⊥
  file_reasonless bytes r file reason = laws.source.not_refused bytes file.tree r file.source reason

  -- ---- one file that is named

  module _ (Passes : List ℕ → Type 0) (files : List (List ℕ)) where
    -- the file of one is before that of the other, which then passes
    not_before : (n m : ℕ) (r s : Reason) (one : IsFirstRefused Passes files n r) (two : IsFirstRefused Passes files m s) → (Passes one.bytes → ⊥) → n < m → ⊥
    not_before n m r s one two fails lt = fails (two.before n one.bytes lt one.there)

    one_first : (n m : ℕ) (r s : Reason) (one : IsFirstRefused Passes files n r) (two : IsFirstRefused Passes files m s) → (Passes one.bytes → ⊥) → (Passes two.bytes → ⊥) → (n ≡ m) × SameReason r s
    one_first n m r s one two fails fails' =
        elim (cases_lt n m) [
          | inl lt ↦ absurd (not_before n m r s one two fails lt)
          | inr le ↦ elim (cases_lt m n) [
            | inl lt ↦ absurd (not_before m n s r two one fails' lt)
            | inr ge ↦
                let place : m ≡ n = omega (arith, le, ge) in
                let bytes : two.bytes ≡ one.bytes = same_Some two.bytes one.bytes (sym two.there ∙ ap (slice_get files) place ∙ one.there) in
                (sym place, laws.source.one_reason one.bytes r s one.reason (subst (λ b. IsReason b s) bytes two.reason))
          ]
        ]

  one_file : (files : List (List ℕ)) (n m : ℕ) (r s : Reason) → IsRefusedFile files n r → IsRefusedFile files m s → (n ≡ m) × SameReason r s
  one_file files n m r s (for_text f one) (for_text g two) =
      one_first HasTokens files n m (Faulty f) (Faulty g) one two (λ has. tokens_faultless one.bytes f has one.reason) (λ has. tokens_faultless two.bytes g has two.reason)
  one_file files n m r s (for_text f one) (for_grammar _ all two) = absurd (tokens_faultless one.bytes f (tokens_at files n one.bytes all one.there) one.reason)
  one_file files n m r s (for_grammar _ all one) (for_text g two) = absurd (tokens_faultless two.bytes g (tokens_at files m two.bytes all two.there) two.reason)
  one_file files n m r s (for_grammar _ all one) (for_grammar _ all' two) =
      one_first IsFile files n m r s one two (λ file. file_reasonless one.bytes r file one.reason) (λ file. file_reasonless two.bytes s file two.reason)

  -- ---- files that have trees

  all_files : (files : List (List ℕ)) (units : List JavaUnit) (n : ℕ) (r : Reason) → AreTrees files units → IsRefusedFile files n r → ⊥
  all_files files units n r trees (for_text f one) = tokens_faultless one.bytes f (tokens_at files n one.bytes (all_have_tokens files units trees) one.there) one.reason
  all_files files units n r trees (for_grammar _ all one) = file_reasonless one.bytes r (file_at files units n one.bytes trees one.there) one.reason

  pub one_list : (files : List (List ℕ)) (us vs : List JavaUnit) → AreTrees files us → AreTrees files vs → us ≡ vs
  one_list [] [] [] are other = refl
  one_list [] [] (v ∷ vs) are other = absurd other
  one_list [] (u ∷ us) vs are other = absurd are
  one_list (f ∷ fs) [] vs are other = absurd are
  one_list (f ∷ fs) (u ∷ us) [] are other = absurd other
  one_list (f ∷ fs) (u ∷ us) (v ∷ vs) are other =
      ap (λ t. t ∷ us) (laws.source.one_tree f u v are.0 other.0) ∙ ap (λ l. v ∷ l) (one_list fs us vs are.1 other.1)

  -- ---- one refusal

  pub one : (files : List (List ℕ)) (r s : PlainRefusal) → AreRefused files r → AreRefused files s → SameRefusal r s
  one files r s (of_file n a refused) (of_file m b refused') =
      let both = one_file files n m a b refused refused' in
      subst (λ k. SameRefusal (OfFile n a) (OfFile k b)) both.0 (of_one_file n a b both.1)
  one files r s (of_file n a refused) (of_classes units c trees refused') = absurd (all_files files units n a trees refused)
  one files r s (of_classes units c trees refused) (of_file m b refused') = absurd (all_files files units m b trees refused')
  one files r s (of_classes units c trees refused) (of_classes units' d trees' refused') =
      let units_same : units' ≡ units = one_list files units' units trees' trees in
      let refusals : c ≡ d = laws.classes.one_refusal units c d refused (subst (λ l. IsRefused l d) units_same refused') in
      subst (λ x. SameRefusal (OfClasses c) (OfClasses x)) refusals (same (OfClasses c))

  pub not_refused : (files : List (List ℕ)) (r : PlainRefusal) → AreProgramClasses files → AreRefused files r → ⊥
  not_refused files r stand (of_file n a refused) = all_files files stand.units n a stand.trees refused
  not_refused files r stand (of_classes units c trees refused) =
      laws.classes.not_refused units c (subst AreClasses (one_list files stand.units units stand.trees trees) stand.stand) refused
