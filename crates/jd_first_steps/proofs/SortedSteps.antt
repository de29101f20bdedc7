-- The premises of a sorted sequent's steps are sorted.
use Rattle.std.proofs.Common.{◌≡◌, ℕ, zero, suc, Bool, true, false, cond, List, [], ◌∷◌, map, Option, Some, None, All, sym, subst, inl, inr, ◌⊎◌}
use Rattle.std.specs.Prelude.{◌==◌, option_and_then, slice_get}
use Rattle.std.specs.Option.{IfSome}
use Rattle.std.proofs.lemmas.List.Elements.{All-nil, All-cons}
use Rattle.jd_base.specs.declared.sort.Sort.{Sort}
use Rattle.jd_syntax.specs.Names.{Name}
use Rattle.jd_syntax.specs.Codes.{Expr, IntLiteral, BoolLiteral, NullLiteral, Variable, Set, Frame, Return, Catch, PlainCode, Done, Then}
use Rattle.jd_term.specs.Terms.{sort_of_term}
use Rattle.jd_term.specs.Formulas.{PlainFormula, TrueFormula, Not, And, Or, Implies, Iff, Forall, Exists, Updated, Modal}
use Rattle.jd_model.specs.Contexts.{Context, Here, InBlock, InFrame, InCatch, InFinally, chain, fill, one}
use Rattle.jd_model.specs.declared.sequent.Side.{Side}
use Rattle.jd_model.specs.declared.sequent.Side.TheVariants.{Left, Right}
use Rattle.jd_model.specs.Sequents.{PlainSequent, PlainPlace}
use Rattle.jd_model.specs.Places.{FormulaPart, part_at, on_side, numbered, at_place, put_formula, put_side, put_at}
use Rattle.jd_update_truth.specs.SortedFormulas.{HasSort, SortedCode, SortedFormula, AllSorted, SortedSequent}
use Rattle.jd_update_truth.proofs.Sorted.{updates_stay_sorted}
use Rattle.jd_first_steps.specs.declared.rules.FirstRule.{FirstRule}
use Rattle.jd_first_steps.specs.declared.rules.FirstRule.TheVariants.{CloseTrue, NotLeft, AndLeft, AndRight, ImpRight, EqRefl, SetSimple, FrameReturn, CatchEmpty, EmptyCode, Simplify}
use Rattle.jd_first_steps.specs.Rows.{Goal, row_goals, goal_premise}
use Rattle.jd_first_steps.specs.Rewrites.{simple_term, Rewrites}
use Rattle.jd_first_steps.specs.Instances.{IsClose, IsRow, IsRewrite}
use Rattle.jd_first_steps.specs.SortedSteps.{result_at, SequentsStaySorted, InstancesKeepSorted}
use Rattle.jd_first_steps.proofs.Options.{no_some, if_found}
use Rattle.jd_first_steps.proofs.FormulaLists.{all_sorted, append_each, instead_each, numbered_each, reached_each, put_each}
use Rattle.jd_first_steps.proofs.Paths.{SortedPart, sorted_below}

-- ---- at a focus

chain_parts : (r : Option Name) (c d : PlainCode) → SortedCode r (chain c d) → SortedCode r c × SortedCode r d
chain_parts r Done d w = (tt, w)
chain_parts r (Then s c) d w = let h = chain_parts r c d w.1 in ((w.0, h.0), h.1)

chain_sorted : (r : Option Name) (c d : PlainCode) → SortedCode r c → SortedCode r d → SortedCode r (chain c d)
chain_sorted r Done d v w = w
chain_sorted r (Then s c) d v w = (v.0, chain_sorted r c d v.1 w)

focused : (r : Option Name) (k : Context) (c : PlainCode) → SortedCode r (fill k c) → SortedCode (result_at r k) c
focused r (Here rest) c w = (chain_parts r c rest w).0
focused r (InBlock l k rest) c w = focused r k c w.0
focused r (InFrame q k rest) c w = focused q k c w.0
focused r (InCatch k x h rest) c w = focused r k c w.0.0
focused r (InFinally k f rest) c w = focused r k c w.0.0

filled : (r : Option Name) (k : Context) (c e : PlainCode) → SortedCode r (fill k c) → SortedCode (result_at r k) e → SortedCode r (fill k e)
filled r (Here rest) c e w v = chain_sorted r e rest v (chain_parts r c rest w).1
filled r (InBlock l k rest) c e w v = (filled r k c e w.0 v, w.1)
filled r (InFrame q k rest) c e w v = (filled q k c e w.0 v, w.1)
filled r (InCatch k x h rest) c e w v = ((filled r k c e w.0.0 v, w.0.1), w.1)
filled r (InFinally k f rest) c e w v = ((filled r k c e w.0.0 v, w.0.1), w.1)

-- ---- at a place

side_sorted : (s : PlainSequent) (side : Side) → SortedSequent s → AllSorted (on_side s side)
side_sorted s Left w = w.left
side_sorted s Right w = w.right

numbered_sorted : (s : PlainSequent) (side : Side) (n : ℕ) (a : PlainFormula) → SortedSequent s → numbered (on_side s side) n ≡ Some a → SortedFormula a
numbered_sorted s side zero a w e = absurd (no_some e)
numbered_sorted s side (suc k) a w e = if_found SortedFormula (slice_get (on_side s side) k) a e (numbered_each SortedFormula AllSorted all_sorted (on_side s side) k (side_sorted s side w))

reached_sorted : (s : PlainSequent) (side : Side) (path : List ℕ) (n : ℕ) → SortedSequent s → IfSome (option_and_then (λ a. part_at path (FormulaPart a)) (numbered (on_side s side) n)) SortedPart
reached_sorted s side path zero w = tt
reached_sorted s side path (suc k) w = reached_each SortedFormula AllSorted all_sorted path SortedPart (sorted_below path) (on_side s side) k (side_sorted s side w)

found : (s : PlainSequent) (p : PlainPlace) (a : PlainFormula) → SortedSequent s → at_place s p ≡ Some (FormulaPart a) → SortedFormula a
found s p a w e = if_found SortedPart (at_place s p) (FormulaPart a) e (reached_sorted s p.side p.path p.index w)

either_sorted : (c : Bool) (x y : PlainFormula) → SortedFormula x → SortedFormula y → SortedFormula (cond c x y)
either_sorted true x y v w = v
either_sorted false x y v w = w

module _ (new : PlainFormula) (n : SortedFormula new) where
  put_both : (k : ℕ) (ks : List ℕ) (a c : PlainFormula) → SortedFormula a → SortedFormula c → SortedFormula (put_formula ks new a) → SortedFormula (put_formula ks new c) → SortedFormula (cond (k == 1) (put_formula ks new a) a) × SortedFormula (cond (k == 1) c (put_formula ks new c))
  put_both k ks a c v w x y = (either_sorted (k == 1) (put_formula ks new a) a x v, either_sorted (k == 1) c (put_formula ks new c) w y)

  put_sorted : (path : List ℕ) (a : PlainFormula) → SortedFormula a → SortedFormula (put_formula path new a)
  put_sorted [] a w = n
  put_sorted (k ∷ ks) (Not a) w = put_sorted ks a w
  put_sorted (k ∷ ks) (And a c) w = put_both k ks a c w.0 w.1 (put_sorted ks a w.0) (put_sorted ks c w.1)
  put_sorted (k ∷ ks) (Or a c) w = put_both k ks a c w.0 w.1 (put_sorted ks a w.0) (put_sorted ks c w.1)
  put_sorted (k ∷ ks) (Implies a c) w = put_both k ks a c w.0 w.1 (put_sorted ks a w.0) (put_sorted ks c w.1)
  put_sorted (k ∷ ks) (Iff a c) w = put_both k ks a c w.0 w.1 (put_sorted ks a w.0) (put_sorted ks c w.1)
  put_sorted (k ∷ ks) (Forall t a) w = put_sorted ks a w
  put_sorted (k ∷ ks) (Exists t a) w = put_sorted ks a w
  put_sorted (k ∷ ks) (Updated u a) w = (w.0, put_sorted ks a w.1)
  put_sorted (k ∷ ks) (Modal m c a) w = (w.0, put_sorted ks a w.1)
  put_sorted (k ∷ ks) a w = w

  put_in_side : (s : PlainSequent) (side : Side) (k : ℕ) (path : List ℕ) (a : PlainFormula) → SortedSequent s → option_and_then (λ c. part_at path (FormulaPart c)) (numbered (on_side s side) k) ≡ Some (FormulaPart a) → SortedSequent (put_side side s k path new)
  put_in_side s side zero path a w e = absurd (no_some e)
  put_in_side s Left (suc k) path a w e = record { left = put_each SortedFormula AllSorted all_sorted path a new (λ c f. put_sorted path c) s.left k e w.left; right = w.right }
  put_in_side s Right (suc k) path a w e = record { left = w.left; right = put_each SortedFormula AllSorted all_sorted path a new (λ c f. put_sorted path c) s.right k e w.right }

pub sequents_stay_sorted : SequentsStaySorted
sequents_stay_sorted = record {
  found = found;
  put = λ s p a new w e n. put_in_side new n s p.side p.index p.path a w e;
  focused = focused;
  filled = filled;
}

-- ---- what the rules put

term_sort : (e : Expr) (k : Sort) → HasSort e k → IfSome (simple_term e) (λ t. sort_of_term t ≡ k)
term_sort (IntLiteral z) k h = h
term_sort (BoolLiteral b) k h = h
term_sort NullLiteral k h = h
term_sort (Variable x) k h = h
term_sort e k h = tt

rewrites_keep_sorted : (rule : FirstRule) (before after : PlainFormula) → Rewrites rule before after → SortedFormula before → SortedFormula after
rewrites_keep_sorted EqRefl before after r w = subst SortedFormula (sym r.made) tt
rewrites_keep_sorted SetSimple before after r w =
    let old : SortedFormula (Modal r.modality (fill r.context (one (Set r.variable r.value))) r.body) = subst SortedFormula r.found w in
    let fits = (focused None r.context (one (Set r.variable r.value)) old.0).0 in
    let same = if_found (λ t. sort_of_term t ≡ r.variable.sort) (simple_term r.value) r.term r.simple (term_sort r.value r.variable.sort fits) in
    subst SortedFormula (sym r.made) ((same, tt), (filled None r.context (one (Set r.variable r.value)) Done old.0 tt, old.1))
rewrites_keep_sorted FrameReturn before after r w =
    let frame = one (Frame (Some r.variable) (Then (Return r.value) r.dropped)) in
    let old : SortedFormula (Modal r.modality (fill r.context frame) r.body) = subst SortedFormula r.found w in
    let fits = (focused None r.context frame old.0).0.0 in
    subst SortedFormula (sym r.made) (filled None r.context frame (one (Set r.variable r.value)) old.0 (fits, tt), old.1)
rewrites_keep_sorted CatchEmpty before after r w =
    let old : SortedFormula (Modal r.modality (fill r.context (one (Catch Done r.variable r.handler))) r.body) = subst SortedFormula r.found w in
    subst SortedFormula (sym r.made) (filled None r.context (one (Catch Done r.variable r.handler)) Done old.0 tt, old.1)
rewrites_keep_sorted EmptyCode before after r w =
    let old : SortedFormula (Modal r.modality Done after) = subst SortedFormula r.found w in
    old.1
rewrites_keep_sorted Simplify before after r w = subst SortedFormula (sym r.made) (updates_stay_sorted.of_formulas [] tt before w)
rewrites_keep_sorted rule before after r w = absurd r

abbrev GoalsSorted : List Goal → Type 0
GoalsSorted [] = Unit {0}
GoalsSorted (q ∷ qs) = (AllSorted q.here × AllSorted q.other) × GoalsSorted qs

row_sorted : (rule : FirstRule) (side : Side) (a : PlainFormula) → SortedFormula a → IfSome (row_goals rule side a) GoalsSorted
row_sorted CloseTrue Right TrueFormula w = tt
row_sorted NotLeft Left (Not a) w = ((tt, (w, tt)), tt)
row_sorted AndLeft Left (And a c) w = (((w.0, (w.1, tt)), tt), tt)
row_sorted AndRight Right (And a c) w = (((w.0, tt), tt), (((w.1, tt), tt), tt))
row_sorted ImpRight Right (Implies a c) w = (((w.1, tt), (w.0, tt)), tt)
row_sorted rule side a w = tt

premise_sorted : (s : PlainSequent) (side : Side) (k : ℕ) (q : Goal) → SortedSequent s → AllSorted q.here × AllSorted q.other → SortedSequent (goal_premise s side (suc k) q)
premise_sorted s Left k q w h = record { left = instead_each SortedFormula AllSorted all_sorted s.left k q.here w.left h.0; right = append_each SortedFormula AllSorted all_sorted s.right q.other w.right h.1 }
premise_sorted s Right k q w h = record { left = append_each SortedFormula AllSorted all_sorted s.left q.other w.left h.1; right = instead_each SortedFormula AllSorted all_sorted s.right k q.here w.right h.0 }

premises_sorted : (s : PlainSequent) (side : Side) (k : ℕ) (goals : List Goal) → SortedSequent s → GoalsSorted goals → All SortedSequent (map (goal_premise s side (suc k)) goals)
premises_sorted s side k [] w h = All-nil SortedSequent
premises_sorted s side k (q ∷ qs) w h = All-cons SortedSequent (goal_premise s side (suc k) q) (map (goal_premise s side (suc k)) qs) (premise_sorted s side k q w h.0) (premises_sorted s side k qs w h.1)

row_keeps : (rule : FirstRule) (s : PlainSequent) (side : Side) (n : ℕ) (a : PlainFormula) (goals : List Goal) → SortedSequent s → numbered (on_side s side) n ≡ Some a → row_goals rule side a ≡ Some goals → All SortedSequent (map (goal_premise s side n) goals)
row_keeps rule s side zero a goals w e row = absurd (no_some e)
row_keeps rule s side (suc k) a goals w e row =
    premises_sorted s side k goals w (if_found GoalsSorted (row_goals rule side a) goals row (row_sorted rule side a (numbered_sorted s side (suc k) a w e)))

pub instances_keep_sorted : InstancesKeepSorted
instances_keep_sorted s p ps w e = by e.step
  where
    by : IsClose e.rule s p ps ⊎ (IsRow e.rule s p ps ⊎ IsRewrite e.rule s p ps) → All SortedSequent ps
    by (inl h) = subst (All SortedSequent) (sym h.premises) (All-nil SortedSequent)
    by (inr (inl h)) = subst (All SortedSequent) (sym h.premises) (row_keeps e.rule s h.place.side h.place.index h.formula h.goals w h.found h.row)
    by (inr (inr h)) =
        let after : SortedFormula h.after = rewrites_keep_sorted e.rule h.before h.after h.rewrites (found s h.place h.before w h.found) in
        subst (All SortedSequent) (sym h.premises) (All-cons SortedSequent (put_at s h.place h.after) [] (sequents_stay_sorted.put s h.place h.before h.after w h.found after) (All-nil SortedSequent))
