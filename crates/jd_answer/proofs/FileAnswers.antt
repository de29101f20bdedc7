-- What is told of files that are refused, and that it is one.
use Rattle.std.proofs.Common.{◌≡◌, ◌⊎◌, inl, inr, ◌<◌, ℕ, List, ◌∷◌, length, get_or, Option, Some, None, ap, sym, refl, subst, ◌∙◌, arith}
use Rattle.std.specs.Prelude.{option_map, IfOk, MatchOption, Result, String, string_bytes}
use Rattle.std.specs.Global.{Global}
use Rattle.std.specs.List.{slice_get}
use Rattle.std.proofs.lemmas.Result.{IfOk-weaker}
use Rattle.std.proofs.lemmas.List.{get_or-map, length-map}
use Rattle.std.proofs.lemmas.Option.{none-some, same_Some, slice_get_read}
use Rattle.jd_source.specs.Sources.{Reason, SameReason}
use Rattle.jd_jclasses.specs.Refusals as classes
use Rattle.jd_files.specs.Laws.{OneFilesRefusal}
use Rattle.jd_files.specs.Refusals.{AreRefused, PlainRefusal, OfFile, OfClasses, SameRefusal, of_one_file, same, RefusesFiles, class_refusal_of}
use Rattle.jd_files.specs.declared.refusal.FilesRefusal.{FilesRefusal}
use Rattle.jd_files.specs.declared.refusal.FilesRefusal.TheVariants as code
use Rattle.jd_files.specs.Files.{AreProgramClasses, AreTrees}
use Rattle.jd_jclasses.specs.Refusals.{AreClasses}
use Rattle.jd_syntax.specs.JavaTrees.{JavaUnit}
use Rattle.jd_refusals.specs.Laws.{OneTokenRefusal}
use Rattle.jd_refusals.specs.Refusals.{IsFirst, PlainRefused}
use Rattle.jd_sequent.specs.Limits.{IsWithinLimits}
use Rattle.jd_sequent.specs.Obligations.{PlainTask}
use Rattle.jd_first_tasks.specs.Laws.{OneFirstTask}
use Rattle.jd_first_tasks.specs.Tasks.{IsFirstTask}
use Rattle.jd_answer.specs.Answers.{SameAnswer, equal, refused_alike}
use Rattle.jd_answer.specs.FileAnswers.{Tells, of_file, of_class, of_many_classes, of_many_methods, IsRefusal, of_files, of_token, of_form, of_size}
use Rattle.jd_base.specs.declared.memory.NoMemory.{NoMemory}
use Rattle.jd_answer.specs.declared.answer.Answer.{Answer}
use Rattle.jd_answer.specs.Refusing.{NamesOneOf, TellsOf, TellsPlace, plain_refusal}
use Rattle.jd_answer.specs.Reports.{class_kind, placed_refusal_text, refusal_text, token_kind, unbuilt_text}
use Rattle.jd_answer.specs.Sources.{AreProgram, AreProgramFiles}
use Rattle.jd_answer.specs.Statuses.{IsJudged}
use Rattle.jd_answer.specs.Words.{word_texts}
use Rattle.jd_answer.specs.declared.status.Status.{Status}
use Rattle.jd_answer.specs.declared.status.Status.TheVariants.{RefusedSource, Limit}

-- ---- what is told

-- a refusal of classes at a place is told by the name of its file
told_by_place : (names : List (List ℕ)) (why : Option PlainRefusal) (r : classes.Refusal) (kind : List ℕ) (number at : ℕ) (status : Status) (text : List ℕ) → why ≡ Some (OfClasses r) → class_kind r ≡ Some (kind, (number, at)) → TellsPlace names kind number at status text → TellsOf names why status text
told_by_place names why r kind number at status text is kind_is told =
    record { refusal = OfClasses r; is = is; tells = rw (told.status_, told.text_) (of_class r told.name kind number at kind_is told.named) }

pub places_told : (names : List (List ℕ)) (why : Option PlainRefusal) (r : classes.Refusal) (kind : List ℕ) (number at : ℕ) (result : Result Answer NoMemory) → why ≡ Some (OfClasses r) → class_kind r ≡ Some (kind, (number, at)) → IfOk result (λ a. TellsPlace names kind number at a.status a.text.items) → IfOk result (λ a. TellsOf names why a.status a.text.items)
places_told names why r kind number at result is kind_is told =
    IfOk-weaker result (λ a. TellsPlace names kind number at a.status a.text.items) (λ a. TellsOf names why a.status a.text.items) (λ a t. told_by_place names why r kind number at a.status a.text.items is kind_is t) told

-- the name of this number
pub word_at : (words : List (String Global)) (n : ℕ) (w : String Global) (text : List ℕ) → n < length words → w ≡ get_or words n w → text ≡ string_bytes w → slice_get (word_texts words) n ≡ Some text
word_at words n w text lt is same_text =
    slice_get_read (word_texts words) (length words) n text (sym (length-map words string_bytes)) lt
    (same_text ∙ ap string_bytes is ∙ sym (get_or-map string_bytes words n w text lt) ∙ ap (λ d. get_or (word_texts words) n d) refl)

-- the name at a place
pub place_told : (names : List (List ℕ)) (number : ℕ) (name kind text : List ℕ) (at : ℕ) → slice_get names number ≡ Some name → text ≡ placed_refusal_text name kind at → TellsPlace names kind number at RefusedSource text
place_told names number name kind text at named is = record { name = name; named = named; status_ = refl; text_ = is }

-- a file that is none is told by its name
pub told_of_file : (names : List (List ℕ)) (number : ℕ) (name : List ℕ) (o : Option Reason) (text : List ℕ) → slice_get names number ≡ Some name → MatchOption o ⊥ (λ r. text ≡ refusal_text name r) → TellsOf names (option_map (OfFile number) o) RefusedSource text
told_of_file names number name None text named told = absurd told
told_of_file names number name (Some r) text named told = record { refusal = OfFile number r; is = refl; tells = rw told (of_file number name r named) }

pub names_one : (files : List (List ℕ)) (e : FilesRefusal) (n : ℕ) → n ≡ length files → RefusesFiles files e → NamesOneOf e n
names_one files (code.File number e) n many refuses = omega (arith, many, refuses.in_files)
names_one files (code.Classes e) n many refuses = subst (NamesOneOf (code.Classes e)) (sym many) refuses.in_files
names_one files code.NoMemory n many refuses = tt

some_of : {A B : Type 0} (f : A → B) (o : Option A) (y : B) → option_map f o ≡ Some y → (x : A) × (o ≡ Some x) × (f x ≡ y)
some_of f None y is = absurd (none-some y is)
some_of f (Some x) y is = (x, refl, same_Some (f x) y is)

are_refused : (files : List (List ℕ)) (e : FilesRefusal) (r : PlainRefusal) → RefusesFiles files e → plain_refusal e ≡ Some r → AreRefused files r
are_refused files (code.File number e) r refuses is =
    subst (AreRefused files) (same_Some (OfFile number refuses.reason) r (ap (option_map (OfFile number)) (sym refuses.is) ∙ is)) refuses.refused
are_refused files (code.Classes e) r refuses is =
    let found = some_of OfClasses (class_refusal_of e) r is in
    subst (AreRefused files) found.2 (refuses.refused found.0 found.1)
are_refused files code.NoMemory r refuses is = absurd (none-some r is)

pub refusal : (names files : List (List ℕ)) (e : FilesRefusal) (status : Status) (text : List ℕ) → RefusesFiles files e → TellsOf names (plain_refusal e) status text → IsRefusal names files status text
refusal names files e status text refuses told = of_files told.refusal status text (are_refused files e told.refusal refuses told.is) told.tells

-- ---- one answer

one_name : (names : List (List ℕ)) (number : ℕ) (name other : List ℕ) → slice_get names number ≡ Some name → slice_get names number ≡ Some other → name ≡ other
one_name names number name other is also = same_Some name other (sym is ∙ also)

same_class : (names : List (List ℕ)) (r : classes.Refusal) (name other kind kind' : List ℕ) (n m at at' : ℕ) → class_kind r ≡ Some (kind, (n, at)) → class_kind r ≡ Some (kind', (m, at')) → slice_get names n ≡ Some name → slice_get names m ≡ Some other → SameAnswer RefusedSource (placed_refusal_text name kind at) RefusedSource (placed_refusal_text other kind' at')
same_class names r name other kind kind' n m at at' is is' named named' =
    let all = same_Some (kind, (n, at)) (kind', (m, at')) (sym is ∙ is') in
    let called : name ≡ other = one_name names m name other (ap (slice_get names) (sym (ap (λ x. x.1.0) all)) ∙ named) named' in
    let text : placed_refusal_text name kind at ≡ placed_refusal_text other kind' at' =
    ap (λ x. placed_refusal_text x kind at) called ∙ ap (λ k. placed_refusal_text other k at) (ap (λ x. x.0) all) ∙ ap (placed_refusal_text other kind') (ap (λ x. x.1.1) all) in
    subst (λ t. SameAnswer RefusedSource (placed_refusal_text name kind at) RefusedSource t) text (equal RefusedSource (placed_refusal_text name kind at))

same_file : (names : List (List ℕ)) (n : ℕ) (name other : List ℕ) (r s : Reason) → SameReason r s → slice_get names n ≡ Some name → slice_get names n ≡ Some other → SameAnswer RefusedSource (refusal_text name r) RefusedSource (refusal_text other s)
same_file names n name other r s alike named named' =
    subst (λ x. SameAnswer RefusedSource (refusal_text name r) RefusedSource (refusal_text x s)) (one_name names n name other named named') (refused_alike name r s alike)

told_the_same : (names : List (List ℕ)) (r : PlainRefusal) (status other : Status) (text another : List ℕ) → Tells names r status text → Tells names r other another → SameAnswer status text other another
told_the_same names r status other text another (of_file n name a named) (of_file _ name' _ named') =
    subst (λ x. SameAnswer RefusedSource (refusal_text name a) RefusedSource (refusal_text x a)) (one_name names n name name' named named') (equal RefusedSource (refusal_text name a))
told_the_same names r status other text another (of_class c name kind n at is named) (of_class _ name' kind' m at' is' named') = same_class names c name name' kind kind' n m at at' is is' named named'
told_the_same names r status other text another (of_class _ name kind n at is named) of_many_classes = absurd (none-some (kind, (n, at)) is)
told_the_same names r status other text another (of_class _ name kind n at is named) of_many_methods = absurd (none-some (kind, (n, at)) is)
told_the_same names r status other text another of_many_classes (of_class _ name kind n at is named) = absurd (none-some (kind, (n, at)) is)
told_the_same names r status other text another of_many_classes of_many_classes = equal Limit _
told_the_same names r status other text another of_many_methods (of_class _ name kind n at is named) = absurd (none-some (kind, (n, at)) is)
told_the_same names r status other text another of_many_methods of_many_methods = equal Limit _

told_alike : (names : List (List ℕ)) (n : ℕ) (a b : Reason) (status other : Status) (text another : List ℕ) → SameReason a b → Tells names (OfFile n a) status text → Tells names (OfFile n b) other another → SameAnswer status text other another
told_alike names n a b status other text another alike (of_file _ name _ named) (of_file _ name' _ named') = same_file names n name name' a b alike named named'

one_telling : (names : List (List ℕ)) (r s : PlainRefusal) (status other : Status) (text another : List ℕ) → SameRefusal r s → Tells names r status text → Tells names s other another → SameAnswer status text other another
one_telling names r s status other text another (of_one_file n a b alike) tells tells' = told_alike names n a b status other text another alike tells tells'
one_telling names r s status other text another (same _) tells tells' = told_the_same names r status other text another tells tells'

are_classes : (files : List (List ℕ)) → AreProgramFiles files → AreProgramClasses files
are_classes files p = record { units = p.units; trees = p.trees; stand = p.stand }

-- a program has one task
pub one_task : OneFilesRefusal → OneFirstTask → (files : List (List ℕ)) (p p' : AreProgramFiles files) (q q' : PlainTask) → IsFirstTask p.units q → IsFirstTask p'.units q' → q ≡ q'
one_task laws tasks files p p' q q' task task' =
    tasks p.units p.stand q q' task (subst (λ us. IsFirstTask us q') (laws.one_list files p'.units p.units p'.trees p.trees) task')

module _ (laws : OneFilesRefusal) (tokens : OneTokenRefusal) (tasks : OneFirstTask) (names files : List (List ℕ)) where
  -- what is refused of the tokens of files is one, and of a program's nothing
  one_token : (us vs : List JavaUnit) (r s : Option PlainRefused) → AreTrees files us → AreTrees files vs → AreClasses us → IsFirst us r → IsFirst vs s → r ≡ s
  one_token us vs r s trees trees' stand first first' = tokens.one us r s stand first (subst (λ l. IsFirst l s) (laws.one_list files vs us trees' trees) first')

  not_refused : (us : List JavaUnit) (r : PlainRefused) → AreTrees files us → AreClasses us → IsFirst us (Some r) → AreProgramFiles files → ⊥
  not_refused us r trees stand first p = none-some r (sym (one_token us p.units (Some r) None trees p.trees stand first p.none))

  same_token : (us vs : List JavaUnit) (r s : PlainRefused) (name other : List ℕ) → AreTrees files us → AreTrees files vs → AreClasses us → IsFirst us (Some r) → IsFirst vs (Some s) → slice_get names r.file ≡ Some name → slice_get names s.file ≡ Some other
      → SameAnswer RefusedSource (placed_refusal_text name (token_kind r.why) r.at) RefusedSource (placed_refusal_text other (token_kind s.why) s.at)
  same_token us vs r s name other trees trees' stand first first' named named' =
      let same : r ≡ s = same_Some r s (one_token us vs (Some r) (Some s) trees trees' stand first first') in
      let called : name ≡ other = one_name names s.file name other (subst (λ (x : PlainRefused). slice_get names x.file ≡ Some name) same named) named' in
      let text : placed_refusal_text name (token_kind r.why) r.at ≡ placed_refusal_text other (token_kind s.why) s.at =
      ap (λ n. placed_refusal_text n (token_kind r.why) r.at) called ∙ ap (λ (x : PlainRefused). placed_refusal_text other (token_kind x.why) x.at) same in
      subst (λ t. SameAnswer RefusedSource (placed_refusal_text name (token_kind r.why) r.at) RefusedSource t) text (equal RefusedSource (placed_refusal_text name (token_kind r.why) r.at))

  not_of_files : (us : List JavaUnit) (r : PlainRefusal) → AreTrees files us → AreClasses us → AreRefused files r → ⊥
  not_of_files us r trees stand refused = laws.not_refused files r (record { units = us; trees = trees; stand = stand }) refused

  no_form : (p : AreProgramFiles files) → ((q : PlainTask) → IsFirstTask p.units q → ⊥) → (p' : AreProgramFiles files) (q : PlainTask) → IsFirstTask p'.units q → ⊥
  no_form p none p' q task = none q (subst (λ us. IsFirstTask us q) (laws.one_list files p'.units p.units p'.trees p.trees) task)

  pub one_refusal : (status other : Status) (text another : List ℕ) → IsRefusal names files status text → IsRefusal names files other another → SameAnswer status text other another
  one_refusal status other text another (of_files r _ _ refused tells) (of_files s _ _ refused' tells') = one_telling names r s status other text another (laws.one files r s refused refused') tells tells'
  one_refusal status other text another (of_files r _ _ refused tells) (of_token us s name trees stand first named) = absurd (not_of_files us r trees stand refused)
  one_refusal status other text another (of_files r _ _ refused tells) (of_form first others is stand none) = absurd (laws.not_refused files r (are_classes files stand) refused)
  one_refusal status other text another (of_files r _ _ refused tells) (of_size stand q task past) = absurd (laws.not_refused files r (are_classes files stand) refused)
  one_refusal status other text another (of_token us s name trees stand first named) (of_files r _ _ refused tells) = absurd (not_of_files us r trees stand refused)
  one_refusal status other text another (of_token us r name trees stand first named) (of_token vs s name' trees' stand' first' named') = same_token us vs r s name name' trees trees' stand first first' named named'
  one_refusal status other text another (of_token us r name trees stand first named) (of_form name' others is stands none) = absurd (not_refused us r trees stand first stands)
  one_refusal status other text another (of_token us r name trees stand first named) (of_size stands q task past) = absurd (not_refused us r trees stand first stands)
  one_refusal status other text another (of_form first others is stand none) (of_files r _ _ refused tells) = absurd (laws.not_refused files r (are_classes files stand) refused)
  one_refusal status other text another (of_form name others is stands none) (of_token us r name' trees stand first named) = absurd (not_refused us r trees stand first stands)
  one_refusal status other text another (of_form first others is stand none) (of_form first' others' is' stand' none') =
      let same_names : first ∷ others ≡ first' ∷ others' = sym is ∙ is' in
      let heads : first ≡ first' = let both = same_names in cc in
      subst (λ n. SameAnswer RefusedSource (unbuilt_text first) RefusedSource (unbuilt_text n)) heads (equal RefusedSource (unbuilt_text first))
  one_refusal status other text another (of_form first others is stand none) (of_size stand' q task past) = absurd (no_form stand none stand' q task)
  one_refusal status other text another (of_size stand q task past) (of_files r _ _ refused tells) = absurd (laws.not_refused files r (are_classes files stand) refused)
  one_refusal status other text another (of_size stands q task past) (of_token us r name trees stand first named) = absurd (not_refused us r trees stand first stands)
  one_refusal status other text another (of_size stand q task past) (of_form first others is stand' none) = absurd (no_form stand' none stand q task)
  one_refusal status other text another (of_size stand q task past) (of_size stand' q' task' past') = equal Limit _

  pub no_program : (status : Status) (text : List ℕ) (q : PlainTask) → IsRefusal names files status text → AreProgram files q → ⊥
  no_program status text q (of_files r _ _ refused tells) program = laws.not_refused files r (are_classes files program.resolved) refused
  no_program status text q (of_token us r name trees stand first named) program = not_refused us r trees stand first program.resolved
  no_program status text q (of_form first others is stand none) program = no_form stand none program.resolved q program.task
  no_program status text q (of_size stand q' task past) program = past (subst (λ (t : PlainTask). IsWithinLimits t.obligation.sequent) (one_task laws tasks files program.resolved stand q q' program.task task) program.within)

-- ---- the status of a refusal

tells_status : (names : List (List ℕ)) (r : PlainRefusal) (status : Status) (text : List ℕ) → Tells names r status text → (status ≡ RefusedSource) ⊎ (status ≡ Limit)
tells_status names r status text (of_file n name a named) = inl refl
tells_status names r status text (of_class c name kind n at is named) = inl refl
tells_status names r status text of_many_classes = inr refl
tells_status names r status text of_many_methods = inr refl

pub refusal_status : (names files : List (List ℕ)) (status : Status) (text : List ℕ) → IsRefusal names files status text → (status ≡ RefusedSource) ⊎ (status ≡ Limit)
refusal_status names files status text (of_files r _ _ refused tells) = tells_status names r status text tells
refusal_status names files status text (of_token us r name trees stand first named) = inl refl
refusal_status names files status text (of_form name others is stand none) = inl refl
refusal_status names files status text (of_size stand q task past) = inr refl

pub refusal_is_judged : (names files : List (List ℕ)) (status : Status) (text : List ℕ) → IsRefusal names files status text → IsJudged status
refusal_is_judged names files status text refusal =
    elim (refusal_status names files status text refusal) [ inl is ↦ rw is tt | inr is ↦ rw is tt ]
