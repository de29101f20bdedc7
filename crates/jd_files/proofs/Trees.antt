-- The trees of files, one file after the other.
use Rattle.std.proofs.Common.{◌≡◌, ◌<◌, ◌≤◌, ◌+◌, ℕ, zero, suc, List, [], ◌∷◌, ◌++◌, length, map, take, get_or, false, is_none, true≢false, Some, ap, sym, refl, subst, ◌∙◌, arith}
use Rattle.std.specs.Global.{Vec}
use Rattle.std.specs.List.{All, slice_get}
use Rattle.std.proofs.lemmas.List.{get_or-map, take_more, take_all}
use Rattle.std.proofs.lemmas.List.Elements.{All-append, All-cons, All-get_or, All-nil}
use Rattle.std.proofs.lemmas.Option.{get_or_from_slice_get, none-some, same_Some, slice_get_read, slice_get_within}
use Rattle.jd_lex.specs.Parts.{Fault, Token, BadByte, OpenComment, BigLiteral}
use Rattle.jd_lex.specs.declared.token.LexRefusal.{LexRefusal}
use Rattle.jd_lex.specs.declared.token.LexRefusal.TheVariants as lexical
use Rattle.jd_syntax.specs.JavaTrees.{JavaUnit, unit_view}
use Rattle.jd_jparse.specs.Parses.{IsUnsupported}
use Rattle.jd_jparse.specs.declared.refusal.ParseRefusal.{ParseRefusal}
use Rattle.jd_jparse.specs.declared.refusal.ParseRefusal.TheVariants as grammatical
use Rattle.jd_source.specs.declared.read.SourceRefusal.{SourceRefusal}
use Rattle.jd_source.specs.declared.read.SourceRefusal.TheVariants.{Lexical, Grammatical}
use Rattle.jd_source.specs.Sources.{IsSource, IsReason, IsRefused, LackFile, NestTooDeep, SpellSome, Reason, Faulty, Unsupported, NoFile, TooDeep, reason_of}
use Rattle.jd_files.specs.Files.{HasTokens, IsFile, AreTrees, IsFirstRefused, for_text, for_grammar}
use Rattle.jd_files.specs.Readings.{HasTreeToo, HasMisfitToo, IsRefusedToo, ReadsMore, tree, misfit, faulty}
use Rattle.jd_files.specs.Refusals.{AreRefused, of_file, OfFile, RefusesFile}
use Rattle.jd_files.specs.declared.reading.More.{More}
use Rattle.jd_files.specs.declared.reading.More.TheVariants as mores
use Rattle.jd_files.specs.declared.reading.Reading.{Reading}
use Rattle.jd_files.specs.declared.reading.Reading.TheVariants as readings

-- ---- files and their trees

pub has_tokens : (bytes : List ℕ) → IsFile bytes → HasTokens bytes
has_tokens bytes f = record { tokens = f.source.tokens; spelled = f.source.spelled }

trees_more : (bs : List (List ℕ)) (ts : List JavaUnit) (b : List ℕ) (t : JavaUnit) → AreTrees bs ts → IsSource b t → AreTrees (bs ++ b ∷ []) (ts ++ t ∷ [])
trees_more [] [] b t are is = (is, tt)
trees_more [] (u ∷ ts) b t are is = absurd are
trees_more (c ∷ bs) [] b t are is = absurd are
trees_more (c ∷ bs) (u ∷ ts) b t are is = (are.0, trees_more bs ts b t are.1 is)

pub as_many_trees : (bs : List (List ℕ)) (ts : List JavaUnit) → AreTrees bs ts → length bs ≡ length ts
as_many_trees [] [] are = refl
as_many_trees [] (t ∷ ts) are = absurd are
as_many_trees (b ∷ bs) [] are = absurd are
as_many_trees (b ∷ bs) (t ∷ ts) are = omega (arith, as_many_trees bs ts are.1)

pub file_at : (bs : List (List ℕ)) (ts : List JavaUnit) (j : ℕ) (b : List ℕ) → AreTrees bs ts → slice_get bs j ≡ Some b → IsFile b
file_at [] ts j b are is = absurd (none-some _ is)
file_at (c ∷ bs) [] j b are is = absurd are
file_at (c ∷ bs) (t ∷ ts) zero b are is = subst IsFile (same_Some _ _ is) (record { tree = t; source = are.0 })
file_at (c ∷ bs) (t ∷ ts) (suc j) b are is = file_at bs ts j b are.1 is

pub all_have_tokens : (bs : List (List ℕ)) (ts : List JavaUnit) → AreTrees bs ts → All HasTokens bs
all_have_tokens [] [] are = All-nil HasTokens
all_have_tokens [] (t ∷ ts) are = absurd are
all_have_tokens (b ∷ bs) [] are = absurd are
all_have_tokens (b ∷ bs) (t ∷ ts) are = All-cons HasTokens b bs (has_tokens b (record { tree = t; source = are.0 })) (all_have_tokens bs ts are.1)

more_tokens : (bs : List (List ℕ)) (b : List ℕ) → All HasTokens bs → HasTokens b → All HasTokens (bs ++ b ∷ [])
more_tokens bs b all has = All-append HasTokens bs (b ∷ []) all (All-cons HasTokens b [] has (All-nil HasTokens))

-- what holds of all holds of the element at a place
pub all_at : {A : Type 0} (P : A → Type 0) (xs : List A) (i : ℕ) (x : A) → All P xs → slice_get xs i ≡ Some x → P x
all_at P xs i x all is = subst P (get_or_from_slice_get xs i x x is) (All-get_or P xs i x (slice_get_within xs i x is) all)

pub tokens_at : (bs : List (List ℕ)) (j : ℕ) (b : List ℕ) → All HasTokens bs → slice_get bs j ≡ Some b → HasTokens b
tokens_at bs j b all is = all_at HasTokens bs j b all is

-- ---- elements by their places

get-take : {A : Type 0} (xs : List A) (i j : ℕ) (x : A) → j < i → slice_get xs j ≡ Some x → slice_get (take i xs) j ≡ Some x
get-take [] zero j x lt is = absurd (omega (arith, lt))
get-take [] (suc i) j x lt is = absurd (none-some _ is)
get-take (y ∷ xs) zero j x lt is = absurd (omega (arith, lt))
get-take (y ∷ xs) (suc i) zero x lt is = is
get-take (y ∷ xs) (suc i) (suc j) x lt is = get-take xs i j x (omega (arith, lt)) is

get_there : {A : Type 0} (xs : List A) (i : ℕ) (x : A) → i < length xs → x ≡ get_or xs i x → slice_get xs i ≡ Some x
get_there xs i x lt is = slice_get_read xs (length xs) i x refl lt is

-- ---- what is known where the first i files are read

-- the file of this number is the first that is none though it has tokens
abbrev pub IsMisfit : List (List ℕ) → ℕ → SourceRefusal → Type 0
IsMisfit files number e = (r : Reason) × (reason_of e ≡ Some r) × IsFirstRefused IsFile files number r

abbrev pub AreReadTo : List (List ℕ) → ℕ → Reading → Type 0
AreReadTo files i (readings.Trees us) = AreTrees (take i files) (map unit_view us.items)
AreReadTo files i (readings.Misfit number e) = All HasTokens (take i files) × IsMisfit files number e

module _ (files : List (List ℕ)) (i : ℕ) (bytes : List ℕ) (lt : i < length files) (is : bytes ≡ get_or files i bytes) where
  one_longer : take (i + 1) files ≡ take i files ++ bytes ∷ []
  one_longer = take_more files i bytes lt ∙ ap (λ b. take i files ++ b ∷ []) (sym is)

  tokens_so_far : (so_far : Reading) → AreReadTo files i so_far → All HasTokens (take i files)
  tokens_so_far (readings.Trees us) known = all_have_tokens (take i files) (map unit_view us.items) known
  tokens_so_far (readings.Misfit n e) known = known.0

  longer_tokens : (so_far : Reading) → HasTokens bytes → AreReadTo files i so_far → All HasTokens (take (i + 1) files)
  longer_tokens so_far has known = subst (All HasTokens) (sym one_longer) (more_tokens (take i files) bytes (tokens_so_far so_far known) has)

  reads_a_tree : (so_far next : Reading) (t : JavaUnit) → IsSource bytes t → HasTreeToo so_far t next → AreReadTo files i so_far → AreReadTo files (i + 1) next
  reads_a_tree (readings.Trees us) (readings.Trees vs) t source more known =
      subst (λ l. AreTrees l (map unit_view vs.items)) (sym one_longer) (subst (λ l. AreTrees (take i files ++ bytes ∷ []) l) (sym more) (trees_more (take i files) (map unit_view us.items) bytes t known source))
  reads_a_tree (readings.Trees us) (readings.Misfit n e) t source more known = absurd more
  reads_a_tree (readings.Misfit n e) next t source more known =
      subst (AreReadTo files (i + 1)) (sym more) (longer_tokens (readings.Misfit n e) (has_tokens bytes (record { tree = t; source = source })) known, known.1)

  reads_a_misfit : (so_far next : Reading) (number : ℕ) (e : SourceRefusal) (r : Reason) → number ≡ i → reason_of e ≡ Some r → HasTokens bytes → IsReason bytes r → HasMisfitToo so_far number e next → AreReadTo files i so_far → AreReadTo files (i + 1) next
  reads_a_misfit (readings.Trees us) next number e r numbered why has reason more known =
      let first : IsFirstRefused IsFile files i r = record {
        bytes = bytes;
        there = get_there files i bytes lt is;
        reason = reason;
        before = λ j b less there. file_at (take i files) (map unit_view us.items) j b known (get-take files i j b less there);
      } in
      subst (AreReadTo files (i + 1)) (sym more) (longer_tokens (readings.Trees us) has known, (r, why, subst (λ n. IsFirstRefused IsFile files n r) (sym numbered) first))
  reads_a_misfit (readings.Misfit n f) next number e r numbered why has reason more known =
      subst (AreReadTo files (i + 1)) (sym more) (longer_tokens (readings.Misfit n f) has known, known.1)

  pub reads_on : (so_far next : Reading) (number : ℕ) → number ≡ i → ReadsMore so_far number bytes (mores.Tokens next) → AreReadTo files i so_far → AreReadTo files (i + 1) next
  reads_on so_far next number numbered (tree t _ source more) known = reads_a_tree so_far next t source more known
  reads_on so_far next number numbered (misfit e r _ why has reason more) known = reads_a_misfit so_far next number e r numbered why has reason more known

  pub reads_a_fault : (so_far : Reading) (number : ℕ) (e : SourceRefusal) → number ≡ i → ReadsMore so_far number bytes (mores.Faulty e) → AreReadTo files i so_far → RefusesFile files number (reason_of e)
  reads_a_fault so_far number e numbered (faulty _ fault why reason) known = record {
    in_files = omega (arith, numbered, lt);
    reason = Faulty fault;
    is = why;
    refused = subst (λ n. AreRefused files (OfFile n (Faulty fault))) (sym numbered) (of_file i (Faulty fault) (for_text fault (record {
      bytes = bytes;
      there = get_there files i bytes lt is;
      reason = reason;
      before = λ j b less there. tokens_at (take i files) j b (tokens_so_far so_far known) (get-take files i j b less there);
    })));
  }

-- where all are read
pub all_trees : (files : List (List ℕ)) (i : ℕ) (us : List JavaUnit) → length files ≤ i → AreTrees (take i files) us → AreTrees files us
all_trees files i us past are = subst (λ l. AreTrees l us) (take_all i files past) are

pub a_misfit : (files : List (List ℕ)) (i number : ℕ) (e : SourceRefusal) → length files ≤ i → All HasTokens (take i files) → IsMisfit files number e → RefusesFile files number (reason_of e)
a_misfit files i number e past tokens m = record {
  in_files = slice_get_within files number m.2.bytes m.2.there;
  reason = m.0;
  is = m.1;
  refused = of_file number m.0 (for_grammar m.0 (subst (All HasTokens) (take_all i files past) tokens) m.2);
}

-- ---- one file that is refused

of_tokens : (so_far : Reading) (number : ℕ) (bytes : List ℕ) (e : ParseRefusal) (r : Reason) (more : More) → reason_of (Grammatical e) ≡ Some r → HasTokens bytes → IsReason bytes r → IsRefusedToo so_far number (Grammatical e) more → ReadsMore so_far number bytes more
of_tokens so_far number bytes e r (mores.Tokens next) why has reason too = misfit (Grammatical e) r next why has reason too
of_tokens so_far number bytes e r (mores.Faulty f) why has reason too = absurd too

of_text : (so_far : Reading) (number : ℕ) (bytes : List ℕ) (e : LexRefusal) (fault : Fault) (more : More) → reason_of (Lexical e) ≡ Some (Faulty fault) → IsReason bytes (Faulty fault) → IsRefusedToo so_far number (Lexical e) more → ReadsMore so_far number bytes more
of_text so_far number bytes e fault (mores.Tokens next) why reason too = absurd too
of_text so_far number bytes e fault (mores.Faulty f) why reason too =
    subst (λ w. ReadsMore so_far number bytes (mores.Faulty w)) (sym too) (faulty (Lexical e) fault why reason)

spelled_some : (P : List Token → Type 0) (bytes : List ℕ) → SpellSome bytes P → HasTokens bytes
spelled_some P bytes s = record { tokens = s.tokens; spelled = s.spelled }

pub reads_refused : (so_far : Reading) (number : ℕ) (bytes : List ℕ) (e : SourceRefusal) (more : More) → is_none (reason_of e) ≡ false → IsRefused bytes e → IsRefusedToo so_far number e more → ReadsMore so_far number bytes more
reads_refused so_far number bytes (Lexical (lexical.BadByte file at)) more some refused too = of_text so_far number bytes (lexical.BadByte file at) (BadByte at) more refl refused too
reads_refused so_far number bytes (Lexical (lexical.OpenComment file at)) more some refused too = of_text so_far number bytes (lexical.OpenComment file at) (OpenComment at) more refl refused too
reads_refused so_far number bytes (Lexical (lexical.BigLiteral file at)) more some refused too = of_text so_far number bytes (lexical.BigLiteral file at) (BigLiteral at) more refl refused too
reads_refused so_far number bytes (Lexical lexical.NoMemory) more some refused too = absurd (true≢false some)
reads_refused so_far number bytes (Grammatical (grammatical.Syntax file at)) more some refused too =
    of_tokens so_far number bytes (grammatical.Syntax file at) (NoFile at) more refl (spelled_some (λ ts. LackFile ts at) bytes refused.0) refused too
reads_refused so_far number bytes (Grammatical (grammatical.Unsupported file at what)) more some refused too =
    of_tokens so_far number bytes (grammatical.Unsupported file at what) (Unsupported at what.items) more refl (spelled_some (λ ts. IsUnsupported ts at what.items) bytes refused) refused too
reads_refused so_far number bytes (Grammatical (grammatical.TooDeep file at)) more some refused too =
    of_tokens so_far number bytes (grammatical.TooDeep file at) (TooDeep at) more refl (spelled_some NestTooDeep bytes refused.0) refused too
reads_refused so_far number bytes (Grammatical grammatical.NoMemory) more some refused too = absurd (true≢false some)

-- ---- the code's files

pub item_at : (fs : List (Vec ℕ)) (i : ℕ) (f : Vec ℕ) (bytes : List ℕ) → i < length fs → f ≡ get_or fs i f → bytes ≡ f.items → bytes ≡ get_or (map (λ v. v.items) fs) i bytes
item_at fs i f bytes lt is same =
    same ∙ ap (λ (v : Vec ℕ). v.items) is ∙ sym (get_or-map (λ (v : Vec ℕ). v.items) fs i f f.items lt) ∙ ap (λ d. get_or (map (λ (v : Vec ℕ). v.items) fs) i d) (sym same)
