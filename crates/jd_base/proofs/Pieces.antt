-- A list of bytes that is taken or put piece by piece.
use Rattle.std.proofs.Common.{◌≡◌, ◌<◌, ◌≤◌, ◌+◌, ◌-◌, ◌++◌, ℕ, List, Option, Some, length, take, drop, ap, sym, subst, ◌∙◌, refl, [], arith, append-nil, append_assoc, length-drop}
use Rattle.std.proofs.lemmas.List.{length-take, take_all, take_at}
use Rattle.std.proofs.Math.Seq.{take-add}
use Rattle.std.specs.Option.{ForSome}
use Rattle.jd_base.specs.Faults.{SameCounts, SameContents}

-- the bytes up to a place, and then the next n
pub taken_more : (told taken piece : List ℕ) (at n : ℕ) → taken ≡ take at told → take n piece ≡ take n (drop at told) → taken ++ take n piece ≡ take (at + n) told
taken_more told taken piece at n begun next =
    ap (λ x. x ++ take n piece) begun ∙ ap (λ y. take at told ++ y) next ∙ sym (take-add at n told)

-- a piece of n bytes behind a place shows that the list is that long
pub long_enough : (told piece : List ℕ) (at n : ℕ) → n ≤ length piece → 0 < n → take n piece ≡ take n (drop at told) → at + n ≤ length told
long_enough told piece at n bound more next =
    omega (arith, length-take n piece, length-take n (drop at told), length-drop at told, ap length next)

-- where no byte came though there was room, the list ends
pub ended : (told : List ℕ) (count at room n : ℕ) → at ≡ count → n ≡ 0 → 0 < room → (at < length told → 0 < room → 0 < n) → length told ≤ count
ended told count at room n same none more progress =
    grind (arith, progress)

-- what was taken up to the list's end is the list
pub taken_whole : (told taken : List ℕ) (count : ℕ) → taken ≡ take count told → length told ≤ count → taken ≡ told
taken_whole told taken count begun end = begun ∙ take_all count told end

-- a vector that was lent whole has what was written to it
pub written_back : (now into items : List ℕ) (n : ℕ) → now ≡ take n (into ++ drop (length into) items) → length into ≡ n → now ≡ into
written_back now into items n value whole = value ∙ take_at into (drop (length into) items) n whole

-- the first bytes of an equal piece
pub append_same : (grown taken piece lent : List ℕ) (n : ℕ) → grown ≡ taken ++ take n lent → lent ≡ piece → grown ≡ taken ++ take n piece
append_same grown taken piece lent n is same = is ∙ ap (λ x. taken ++ take n x) same

-- what the loop of `read_whole` keeps: only the bytes that were taken grow
pub record Reading (contents contents' : List ℕ → Option (List ℕ)) (faults faults' : List ℕ → ℕ) (name : List ℕ) (limit count : ℕ) (taken : List ℕ) : Type 0 where
  pub within : count ≤ limit
  pub counts : SameCounts faults faults'
  pub kept : SameContents contents contents'
  pub begun : ForSome (contents name) (λ told. taken ≡ take count told)

-- before the first read
pub Reading-start : (contents : List ℕ → Option (List ℕ)) (faults : List ℕ → ℕ) (name : List ℕ) (limit count : ℕ) (taken : List ℕ) → count ≡ 0 → taken ≡ [] → Reading contents contents faults faults name limit count taken
Reading-start contents faults name limit count taken none empty = record {
  within = omega arith;
  counts = λ _. refl;
  kept = λ _. refl;
  begun = λ told _. rw (empty, none) refl;
}

-- one read more
pub Reading-more : {contents contents' after : List ℕ → Option (List ℕ)} {faults faults' later : List ℕ → ℕ} {name taken : List ℕ} {limit count : ℕ} (piece grown : List ℕ) (at n more : ℕ) → Reading contents contents' faults faults' name limit count taken → SameCounts faults' later → SameContents contents' after → at ≡ count → ForSome (contents' name) (λ told. take n piece ≡ take n (drop at told)) → n ≤ limit - count → more ≡ count + n → grown ≡ taken ++ take n piece → Reading contents after faults later name limit more grown
Reading-more {contents} {contents'} {after} {faults} {faults'} {later} {name} {taken} {limit} {count} piece grown at n more had counts kept same bytes below length_is grown_is =
    let room = had.within in record {
      within = omega arith;
      counts = λ q. counts q ∙ had.counts q;
      kept = λ q. kept q ∙ had.kept q;
      begun = λ told is. rw (grown_is, length_is)
          (taken_more told taken piece count n (had.begun told is) (rw (← same) (bytes told (had.kept name ∙ is))));
    }

-- what the loop of `write_all` keeps: only what was written grows, and it is a prefix
pub record Writing (bytes bytes' : Option (List ℕ)) (faults faults' : ℕ) (steady steady' : ℕ → Type 0) (all : List ℕ) (written : ℕ) : Type 0 where
  pub within : written ≤ length all
  pub count : faults' ≡ faults
  pub added : ForSome bytes (λ told. bytes' ≡ Some (told ++ take written all))
  pub left : (n : ℕ) → steady (written + n) → steady' n

-- before the first write
pub Writing-start : (bytes : Option (List ℕ)) (faults : ℕ) (steady : ℕ → Type 0) (all : List ℕ) → Writing bytes bytes faults faults steady steady all 0
Writing-start bytes faults steady all = record {
  within = omega arith;
  count = refl;
  added = λ told is. is ∙ ap Some (sym (append-nil told));
  left = λ n is. subst steady (omega arith) is;
}

-- one write more, of a piece of the rest
pub Writing-more : {bytes bytes' after : Option (List ℕ)} {faults faults' later : ℕ} {steady steady' still : ℕ → Type 0} (all : List ℕ) (written n : ℕ) → Writing bytes bytes' faults faults' steady steady' all written → n ≤ length (take (length all - written) (drop written all)) → later ≡ faults' → ForSome bytes' (λ told. after ≡ Some (told ++ take n (take (length all - written) (drop written all)))) → ((k : ℕ) → steady' (n + k) → still k) → Writing bytes after faults later steady still all (written + n)
Writing-more {steady = steady} all written n had bound same more fewer =
    let room = had.within in
    let rest : length (drop written all) ≡ length all - written = length-drop written all in
    let whole : take (length all - written) (drop written all) ≡ drop written all = take_all _ (drop written all) (omega arith) in
    let few : n ≤ length (drop written all) = rw whole at bound in
    let grown : (told : List ℕ) → told ++ take written all ++ take n (take (length all - written) (drop written all)) ≡ told ++ take (written + n) all =
    λ told. rw whole (append_assoc told (take written all) (take n (drop written all)) ∙ ap (λ x. told ++ x) (sym (take-add written n all))) in
    record {
      within = omega arith;
      count = same ∙ had.count;
      added = λ told is. more _ (had.added told is) ∙ ap Some (grown told);
      left = λ k is. fewer k (had.left (n + k) (subst steady (omega arith) is));
    }
