-- The loop rule on states, for boxes and for diamonds: one turn that marks itself and stops stands for each turn of the loop.
use Rattle.std.proofs.Common.{◌≡◌, ℕ, ◌<◌, Bool, true, false, cond, refl, sym, ap, ◌∙◌, subst}
use Rattle.jd_base.specs.declared.sort.Sort.TheVariants.{Bool as BoolSort}
use Rattle.jd_heap.specs.Heaps.{Heap}
use Rattle.jd_heap.specs.Values.{Value, BoolValue, HeapValue, at_sort, as_bool}
use Rattle.jd_model.proofs.Around.{around_alike}
use Rattle.jd_model.proofs.Coincidence.{Alike, by_writes, OutcomesAgree, normal, broke, returned, thrown, stopped, no_length, not_ended, exec_agree, eval_agree, runner_respects}
use Rattle.jd_model.proofs.Contexts.{around, exec-fill, exec-chain}
use Rattle.jd_model.proofs.LoopRuns.{around_open, around_stopped, box_loop, BoxTest, BoxChoice, BoxTurn, diamond_loop, DiamondTest, DiamondChoice, DiamondTurn}
use Rattle.jd_model.proofs.States.{read-write}
use Rattle.jd_model.specs.Bodies.{AtEnd}
use Rattle.jd_model.specs.Contexts.{Context, fill, chain, one}
use Rattle.jd_model.specs.Occurrences.{ExprIn, CodeIn, Always, But, ContextIn}
use Rattle.jd_model.specs.Outcomes.{Outcome, Normal, Broke, Returned, Thrown, Stopped, NoLength, NotEnded, then, loop}
use Rattle.jd_model.specs.Programs.{Program}
use Rattle.jd_model.specs.Runs.{eval, exec, exec_at, runner}
use Rattle.jd_model.specs.States.{State, read, write, with_heap}
use Rattle.jd_model.specs.Truth.{IfEnds, EndsIn}
use Rattle.jd_syntax.proofs.NameTests.{same_name_decides}
use Rattle.jd_syntax.specs.CodeNames.{heap_name}
use Rattle.jd_syntax.specs.Codes.{Expr, BoolLiteral, Set, If, While, Stop, PlainCode, Done, Then}
use Rattle.jd_syntax.specs.Names.{Name}

-- one state, with this value at v
abbrev pub Has : Name → Value → State → State → Type 0
Has v w s t = (s ≡ t) × (read s v ≡ w)

pub has_alike : (v : Name) (w : Value) → But v heap_name → Alike Always (But v) (Has v w)
has_alike v w heap_in = by_writes Always (But v) (Has v w) (λ x o s t h. ap (λ y. read y x) h.0)
    (λ x o u s t h. (ap (λ y. write y x u) h.0, read-write s x u v ∙ ap (λ c. cond c (at_sort x.sort u) (read s v)) o ∙ h.1))
    tt heap_in

pub has_any : (v : Name) (w : Value) → But v heap_name → (k : Heap) (s t : State) → Has v w s t → Has v w (with_heap s k) (with_heap t k)
has_any v w heap_in k s t h = (has_alike v w heap_in).writes heap_name heap_in (HeapValue k) s t h

pub has_end : {A : Type 0} (v : Name) (w : Value) {o q : Outcome A} → OutcomesAgree (Has v w) o q → AtEnd o (λ z. read z v ≡ w)
has_end v w (normal h) = h.1
has_end v w (broke h) = h.1
has_end v w (returned h) = h.1
has_end v w (thrown h) = h.1
has_end v w (stopped h) = h.1
has_end v w no_length = tt
has_end v w not_ended = tt

-- what is asked of an end, given what is known there
at_end_if : {A : Type 0} (o : Outcome A) (I F G : State → Type 0) → AtEnd o I → ((z : State) → I z → F z → G z) → IfEnds o F → IfEnds o G
at_end_if (Normal a z) I F G i h f = h z i f
at_end_if (Broke l z) I F G i h f = tt
at_end_if (Returned v z) I F G i h f = tt
at_end_if (Thrown r z) I F G i h f = tt
at_end_if (Stopped z) I F G i h f = h z i f
at_end_if NoLength I F G i h f = tt
at_end_if NotEnded I F G i h f = tt

-- what is asked of an end that is to be there, given what is known there
pub at_end_in : {A : Type 0} (o : Outcome A) (I F G : State → Type 0) → AtEnd o I → ((z : State) → I z → F z → G z) → EndsIn o F → EndsIn o G
at_end_in (Normal a z) I F G i h f = h z i f
at_end_in (Broke l z) I F G i h f = f
at_end_in (Returned v z) I F G i h f = f
at_end_in (Thrown r z) I F G i h f = f
at_end_in (Stopped z) I F G i h f = h z i f
at_end_in NoLength I F G i h f = tt
at_end_in NotEnded I F G i h f = f

loop_alone : (o : Outcome (Unit {0})) → then o (λ _ z. Normal (tt {0}) z) ≡ o
loop_alone (Normal a z) = refl
loop_alone (Broke l z) = refl
loop_alone (Returned v z) = refl
loop_alone (Thrown r z) = refl
loop_alone (Stopped z) = refl
loop_alone NoLength = refl
loop_alone NotEnded = refl

-- one turn of the loop, marked, and then the end
module _ (e : Expr) (c : PlainCode) (mark : Name) where
  abbrev pub marked : PlainCode
  marked = chain c (Then (Set mark (BoolLiteral true)) (Then Stop Done))

  abbrev pub once : PlainCode
  once = one (If e marked Done)

-- without the mark what is wanted of the whole, with it what a turn is to keep
abbrev pub Wants : Name → (State → Type 0) → (State → Type 0) → State → Type 0
Wants mark A after z = (read z mark ≡ BoolValue false → A z) × (read z mark ≡ BoolValue true → after z)

module _ (p : Program) (k : Context) (e : Expr) (c : PlainCode) (mark : Name) (is_bool : mark.sort ≡ BoolSort) (heap_in : But mark heap_name) (k_in : ContextIn Always (But mark) k) (e_in : ExprIn Always (But mark) e) (c_in : CodeIn Always (But mark) c) (inv keep A : State → Type 0) where
  -- what the loop keeps: the invariant, the mark that is not set, and what no code of the loop changes
  abbrev pub Start : State → Type 0
  Start t = inv t × (read t mark ≡ BoolValue false) × keep t

  set_mark : (w : State) → read (write w mark (BoolValue true)) mark ≡ BoolValue true
  set_mark w = read-write w mark (BoolValue true) mark ∙ ap (λ b. cond b (at_sort mark.sort (BoolValue true)) (read w mark)) ((same_name_decides mark mark).1 refl) ∙ ap (λ q. at_sort q (BoolValue true)) is_bool

  module _ (d n : ℕ) where
    abbrev F : Outcome (Unit {0}) → Outcome (Unit {0})
    F o = around p (runner p d n) n k o

    abbrev test_run : State → Outcome Value
    test_run t = eval p (runner p d n) n e t

    abbrev body_run : State → Outcome (Unit {0})
    body_run t = exec p (runner p d n) n c t

    -- the context leaves the mark
    still_unmarked : (o : Outcome (Unit {0})) → OutcomesAgree (Has mark (BoolValue false)) o o → AtEnd (F o) (λ z. read z mark ≡ BoolValue false)
    still_unmarked o h = has_end mark (BoolValue false) (around_alike Always (But mark) (Has mark (BoolValue false)) (has_alike mark (BoolValue false) heap_in) p (has_any mark (BoolValue false) heap_in) d n k k_in h)

    test_has : (t : State) → read t mark ≡ BoolValue false → OutcomesAgree (Has mark (BoolValue false)) (test_run t) (test_run t)
    test_has t h = eval_agree Always (But mark) (Has mark (BoolValue false)) (has_alike mark (BoolValue false) heap_in) p (runner p d n) n (runner_respects Always (But mark) (Has mark (BoolValue false)) (has_alike mark (BoolValue false) heap_in) p (has_any mark (BoolValue false) heap_in) d n) e e_in t t (refl, h)

    body_has : (t : State) → read t mark ≡ BoolValue false → OutcomesAgree (Has mark (BoolValue false)) (body_run t) (body_run t)
    body_has t h = exec_agree Always (But mark) (Has mark (BoolValue false)) (has_alike mark (BoolValue false) heap_in) p (runner p d n) n (runner_respects Always (But mark) (Has mark (BoolValue false)) (has_alike mark (BoolValue false) heap_in) p (has_any mark (BoolValue false) heap_in) d n) c c_in t t (refl, h)

    abbrev tail_run : State → Outcome (Unit {0})
    tail_run w = exec p (runner p d n) n (Then (Set mark (BoolLiteral true)) (Then Stop Done)) w

    abbrev halt : State → Outcome (Unit {0})
    halt w = Stopped (write w mark (BoolValue true))

    abbrev marked_run : State → Outcome (Unit {0})
    marked_run u = exec p (runner p d n) n (marked e c mark) u

    marked_is : (u : State) → marked_run u ≡ then (body_run u) (λ _ w. tail_run w)
    marked_is u = exec-chain p (runner p d n) n c (Then (Set mark (BoolLiteral true)) (Then Stop Done)) u

    module _ (keeps_test : (t : State) → keep t → AtEnd (test_run t) keep) (keeps_body : (t : State) → keep t → AtEnd (body_run t) keep) where
      -- the box: the mark is set to true, and the invariant does not see it
      module _ (blind : (w : State) → inv (write w mark (BoolValue true)) → inv w) where
        abbrev W : State → Type 0
        W = Wants mark A inv

        left : (o : Outcome (Unit {0})) → OutcomesAgree (Has mark (BoolValue false)) o o → IfEnds (F o) W → IfEnds (F o) A
        left o h w = at_end_if (F o) (λ z. read z mark ≡ BoolValue false) W A (still_unmarked o h) (λ z i f. f.0 i) w

        after_turn : (o : Outcome (Unit {0})) → OutcomesAgree (Has mark (BoolValue false)) o o → AtEnd o keep → IfEnds (F (then (then o (λ _ w. tail_run w)) (λ _ z. Normal tt z))) W → BoxTurn F (around_open p (runner p d n) n k) test_run body_run Start A o
        after_turn (Normal x w) h kp f =
            let g : IfEnds (halt w) W = subst (λ r. IfEnds r W) (around_stopped p (runner p d n) n k (write w mark (BoolValue true))) f in
            (blind w (g.1 (set_mark w)), has_end mark (BoolValue false) h, kp)
        after_turn (Broke l w) h kp f = left (Broke l w) h f
        after_turn (Returned v w) h kp f = left (Returned v w) h f
        after_turn (Thrown r w) h kp f = left (Thrown r w) h f
        after_turn (Stopped w) h kp f = left (Stopped w) h f
        after_turn NoLength h kp f = left NoLength h f
        after_turn NotEnded h kp f = tt

        choose : (b : Bool) (u : State) → read u mark ≡ BoolValue false → keep u → IfEnds (F (then (cond b (marked_run u) (Normal tt u)) (λ _ z. Normal tt z))) W → BoxChoice F (around_open p (runner p d n) n k) test_run body_run Start A b u
        choose true u i kp f = after_turn (body_run u) (body_has u i) (keeps_body u kp)
            (subst (λ r. IfEnds (F (then r (λ _ z. Normal tt z))) W) (marked_is u) f)
        choose false u i kp f = left (Normal tt u) (normal (refl, i)) f

        tested : (o : Outcome Value) → OutcomesAgree (Has mark (BoolValue false)) o o → AtEnd o keep → IfEnds (F (then (then o (λ v u. cond (as_bool v) (marked_run u) (Normal tt u))) (λ _ z. Normal tt z))) W → BoxTest F (around_open p (runner p d n) n k) test_run body_run Start A o
        tested (Normal v u) h kp f = choose (as_bool v) u (has_end mark (BoolValue false) h) kp f
        tested (Broke l u) h kp f = left (Broke l u) (broke (refl, has_end mark (BoolValue false) h)) f
        tested (Returned v u) h kp f = left (Returned v u) (returned (refl, has_end mark (BoolValue false) h)) f
        tested (Thrown r u) h kp f = left (Thrown r u) (thrown (refl, has_end mark (BoolValue false) h)) f
        tested (Stopped u) h kp f = left (Stopped u) (stopped (refl, has_end mark (BoolValue false) h)) f
        tested NoLength h kp f = left NoLength no_length f
        tested NotEnded h kp f = tt

        -- where one marked turn from each state with the invariant does what is wanted, the loop does
        pub box_by_turns : ((t : State) → Start t → IfEnds (exec_at p d n (fill k (once e c mark)) t) W) → (j : ℕ) (t : State) → Start t → IfEnds (exec_at p d n (fill k (one (While j e c))) t) A
        box_by_turns turns j t st =
            subst (λ r. IfEnds r A) (sym (exec-fill p (runner p d n) n k (one (While j e c)) t ∙ ap F (loop_alone (loop n (λ t. test_run t) (λ t. body_run t) t))))
            (box_loop F (around_open p (runner p d n) n k) test_run body_run Start A
            (λ y r. tested (test_run y) (test_has y r.1) (keeps_test y r.2)
            (subst (λ q. IfEnds q W) (exec-fill p (runner p d n) n k (once e c mark) y) (turns y r)))
            n t st)

      -- the diamond: a turn keeps the invariant and lowers the variant
      module _ (var : State → ℕ) (v : ℕ) (blind : (w : State) → inv (write w mark (BoolValue true)) × (var (write w mark (BoolValue true)) < v) → inv w × (var w < v)) where
        abbrev WD : State → Type 0
        WD = Wants mark A (λ z. inv z × (var z < v))

        left_in : (o : Outcome (Unit {0})) → OutcomesAgree (Has mark (BoolValue false)) o o → EndsIn (F o) WD → EndsIn (F o) A
        left_in o h w = at_end_in (F o) (λ z. read z mark ≡ BoolValue false) WD A (still_unmarked o h) (λ z i f. f.0 i) w

        no_end : EndsIn (F NotEnded) WD → ⊥
        no_end f = subst (λ r. EndsIn r WD) (around_open p (runner p d n) n k) f

        after_turn_in : (o : Outcome (Unit {0})) → OutcomesAgree (Has mark (BoolValue false)) o o → AtEnd o keep → EndsIn (F (then (then o (λ _ w. tail_run w)) (λ _ z. Normal tt z))) WD → DiamondTurn p k e c Start var A d n v o
        after_turn_in (Normal x w) h kp f =
            let g : EndsIn (halt w) WD = subst (λ r. EndsIn r WD) (around_stopped p (runner p d n) n k (write w mark (BoolValue true))) f in
            let q = blind w (g.1 (set_mark w)) in
            ((q.0, has_end mark (BoolValue false) h, kp), q.1)
        after_turn_in (Broke l w) h kp f = left_in (Broke l w) h f
        after_turn_in (Returned x w) h kp f = left_in (Returned x w) h f
        after_turn_in (Thrown r w) h kp f = left_in (Thrown r w) h f
        after_turn_in (Stopped w) h kp f = left_in (Stopped w) h f
        after_turn_in NoLength h kp f = left_in NoLength h f
        after_turn_in NotEnded h kp f = no_end f

        choose_in : (b : Bool) (u : State) → read u mark ≡ BoolValue false → keep u → EndsIn (F (then (cond b (marked_run u) (Normal tt u)) (λ _ z. Normal tt z))) WD → DiamondChoice p k e c Start var A d n v b u
        choose_in true u i kp f = after_turn_in (body_run u) (body_has u i) (keeps_body u kp)
            (subst (λ r. EndsIn (F (then r (λ _ z. Normal tt z))) WD) (marked_is u) f)
        choose_in false u i kp f = left_in (Normal tt u) (normal (refl, i)) f

        tested_in : (o : Outcome Value) → OutcomesAgree (Has mark (BoolValue false)) o o → AtEnd o keep → EndsIn (F (then (then o (λ v u. cond (as_bool v) (marked_run u) (Normal tt u))) (λ _ z. Normal tt z))) WD → DiamondTest p k e c Start var A d n v o
        tested_in (Normal x u) h kp f = choose_in (as_bool x) u (has_end mark (BoolValue false) h) kp f
        tested_in (Broke l u) h kp f = left_in (Broke l u) (broke (refl, has_end mark (BoolValue false) h)) f
        tested_in (Returned x u) h kp f = left_in (Returned x u) (returned (refl, has_end mark (BoolValue false) h)) f
        tested_in (Thrown r u) h kp f = left_in (Thrown r u) (thrown (refl, has_end mark (BoolValue false) h)) f
        tested_in (Stopped u) h kp f = left_in (Stopped u) (stopped (refl, has_end mark (BoolValue false) h)) f
        tested_in NoLength h kp f = left_in NoLength no_length f
        tested_in NotEnded h kp f = no_end f

        pub turn_in : (t : State) → Start t → EndsIn (exec_at p d n (fill k (once e c mark)) t) WD → DiamondTest p k e c Start var A d n v (test_run t)
        turn_in t r f = tested_in (test_run t) (test_has t r.1) (keeps_test t r.2) (subst (λ q. EndsIn q WD) (exec-fill p (runner p d n) n k (once e c mark) t) f)

  -- where from each state with the invariant some marked turn ends as wanted, with a lower variant, the loop ends
  module _ (var : State → ℕ) (keeps_test : (d n : ℕ) (t : State) → keep t → AtEnd (eval p (runner p d n) n e t) keep) (keeps_body : (d n : ℕ) (t : State) → keep t → AtEnd (exec p (runner p d n) n c t) keep) (blind : (v : ℕ) (w : State) → inv (write w mark (BoolValue true)) × (var (write w mark (BoolValue true)) < v) → inv w × (var w < v)) where
    pub diamond_by_turns : ((t : State) → Start t → ¬ ((d n : ℕ) → ¬ (EndsIn (exec_at p d n (fill k (once e c mark)) t) (Wants mark A (λ z. inv z × (var z < var t)))))) → (j : ℕ) (t : State) → Start t → ¬ ((d n : ℕ) → ¬ (EndsIn (exec_at p d n (fill k (one (While j e c))) t) A))
    diamond_by_turns turns j t st none = diamond_loop p k e c Start var A
        (λ y r no. turns y r (λ d n f. no d n (turn_in d n (keeps_test d n) (keeps_body d n) var (var y) (blind (var y)) y r f)))
        t st
        (λ d n f. none d n (subst (λ r. EndsIn r A) (sym (exec-fill p (runner p d n) n k (one (While j e c)) t ∙ ap (around p (runner p d n) n k) (loop_alone (loop n (λ t. eval p (runner p d n) n e t) (λ t. exec p (runner p d n) n c t) t)))) f))
