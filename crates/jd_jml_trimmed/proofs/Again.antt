-- A node whose word is left out is made anew, as one of the same name that stands for the same.
use Rattle.std.proofs.Common.{◌≡◌, ◌≢◌, inl, inr, ℕ, zero, suc, ◌+◌, Bool, true, false, not, ◌&&◌, nat_eq, true≢false, List, [], ◌∷◌, ◌++◌, drop, length, Some, refl, sym, ap, subst, ◌∙◌, arith}
use Rattle.std.specs.List.{slice_get, list_all}
use Rattle.std.specs.Option.{option_map_or}
use Rattle.std.proofs.lemmas.Bool.{and_parts, both_ways, not-true, eq-eqb}
use Rattle.std.proofs.lemmas.List.{append-nil}
use Rattle.std.proofs.lemmas.Option.{none-some, same_Some}
use Rattle.jd_grammar.specs.Grammars.{Production, produces, Forest, Done, Leaf, Node, yield}
use Rattle.jd_grammar.specs.declared.table.Symbol.{Symbol}
use Rattle.jd_grammar.specs.declared.table.Symbol.TheVariants.{Token, Name}
use Rattle.jd_jml_grammar.specs.Productions.{jml_productions}
use Rattle.jd_jml_grammar.specs.declared.kinds.TheConstants as kinds
use Rattle.jd_jml_grammar.specs.declared.names.TheConstants as names
use Rattle.jd_jml_tokens.specs.Lexemes.{PlainLexeme, kinds_of}
use Rattle.jd_jml_trimmed.specs.Trimmed.{leaves_out, IsTrimmed, IsLeftOut, AreWithout}
use Rattle.jd_jml_trimmed.proofs.Shapes.{IsShape, passes, tested, implies, implied, is_inner, OneOf, one_of}
use Rattle.jd_jml_trimmed.proofs.Near.{two}
use Rattle.jd_jml_trimmed.proofs.Sums.{nothing, beside, node, total, own, alone}
use Rattle.jd_jml_trimmed.proofs.Table.{plain}

-- ---- trimmed trees

abbrev pub keeps_all : ℕ → Type 0
keeps_all p = option_map_or leaves_out (slice_get jml_productions p) false ≡ false

-- but for words right among these trees
abbrev pub AreTrimmedBelow : Forest → Type 0
AreTrimmedBelow Done = Unit {0}
AreTrimmedBelow (Leaf k f) = AreTrimmedBelow f
AreTrimmedBelow (Node p c f) = keeps_all p × IsTrimmed c × AreTrimmedBelow f

abbrev pub all_seen : List Symbol → Bool
all_seen [] = true
all_seen (Token k ∷ ss) = not (nat_eq k kinds.VISIBILITY) && all_seen ss
all_seen (Name a ∷ ss) = all_seen ss

not_this : (j k n : ℕ) → j ≡ k → not (nat_eq j n) ≡ true → k ≢ n
not_this j k n e u is = both_ways (nat_eq j n) (not-true (nat_eq j n) u) (eq-eqb j n (e ∙ is))

pub whole : (f : Forest) (ss : List Symbol) → IsShape f ss → all_seen ss ≡ true → AreTrimmedBelow f → IsTrimmed f
whole Done ss h u t = tt
whole (Leaf k f) [] h u t = absurd h
whole (Leaf k f) (Token j ∷ ss) h u t =
    let (a, b) = and_parts (not (nat_eq j kinds.VISIBILITY)) (all_seen ss) u in
    (not_this j k kinds.VISIBILITY h.0 a, whole f ss h.1 b t)
whole (Leaf k f) (Name a ∷ ss) h u t = absurd h
whole (Node p c f) [] h u t = absurd h
whole (Node p c f) (Token j ∷ ss) h u t = absurd h
whole (Node p c f) (Name a ∷ ss) (r, at, is, below, behind) u (k, t, v) = (k, t, whole f ss behind u v)

-- ---- trees of other names

abbrev all_lower : List Symbol → Bool
all_lower [] = true
all_lower (Token k ∷ ss) = not (nat_eq k kinds.VISIBILITY) && all_lower ss
all_lower (Name a ∷ ss) = not (is_inner a) && all_lower ss

abbrev leads_down : ℕ → Production → Bool
leads_down p r = implies (not (is_inner r.head)) (all_lower r.body && not (leaves_out r))

all_lead_down : passes leads_down 0 jml_productions ≡ true
all_lead_down = refl

down_at : (p : ℕ) (r : Production) → slice_get jml_productions p ≡ Some r → not (is_inner r.head) ≡ true → (all_lower r.body ≡ true) × keeps_all p
down_at p r at u =
    let (a, b) = and_parts (all_lower r.body) (not (leaves_out r)) (implied (not (is_inner r.head)) (all_lower r.body && not (leaves_out r)) (tested leads_down p r all_lead_down at) u) in
    (a, ap (λ o. option_map_or leaves_out o false) at ∙ not-true (leaves_out r) b)

lower : (f : Forest) (ss : List Symbol) → IsShape f ss → all_lower ss ≡ true → IsTrimmed f
lower Done ss h u = tt
lower (Leaf k f) [] h u = absurd h
lower (Leaf k f) (Token j ∷ ss) h u =
    let (a, b) = and_parts (not (nat_eq j kinds.VISIBILITY)) (all_lower ss) u in
    (not_this j k kinds.VISIBILITY h.0 a, lower f ss h.1 b)
lower (Leaf k f) (Name a ∷ ss) h u = absurd h
lower (Node p c f) [] h u = absurd h
lower (Node p c f) (Token j ∷ ss) h u = absurd h
lower (Node p c f) (Name a ∷ ss) (r, at, is, below, behind) u =
    let (v, w) = and_parts (not (is_inner a)) (all_lower ss) u in
    let (b, k) = down_at p r at (ap (λ n. not (is_inner n)) is ∙ v) in
    (k, lower c r.body below b, lower f ss behind w)

-- of a name that is not inner
pub lower_node : (p : ℕ) (r : Production) (c : Forest) → slice_get jml_productions p ≡ Some r → not (is_inner r.head) ≡ true → IsShape c r.body
    → keeps_all p × IsTrimmed c
lower_node p r c at u h =
    let (b, k) = down_at p r at u in
    (k, lower c r.body h b)

-- ---- a node made anew

pub record MadeAnew (p a : ℕ) (d : Forest) (us : List PlainLexeme) : Type 0 where
  pub number : ℕ
  pub below : Forest
  pub tokens : List PlainLexeme
  pub production : Production
  pub at : slice_get jml_productions number ≡ Some production
  pub is : production.head ≡ a
  pub shape : IsShape below production.body
  pub spelled : kinds_of tokens ≡ yield below
  pub kept : keeps_all number
  pub trimmed : IsTrimmed below
  pub without : (ts : List PlainLexeme) → AreWithout us ts → AreWithout tokens ts
  pub same : (cs : List PlainLexeme) → node p d (us ++ cs) ≡ node number below (tokens ++ cs)

pub record CanBeAnew (p a : ℕ) (body : List Symbol) : Type 0 where
  pub anew : (d : Forest) (us : List PlainLexeme) → IsShape d body → kinds_of us ≡ yield d → AreTrimmedBelow d → MadeAnew p a d us

-- as it stands
stays : (p : ℕ) (r : Production) → slice_get jml_productions p ≡ Some r → all_seen r.body ≡ true → leaves_out r ≡ false → CanBeAnew p r.head r.body
stays p r at u l = record {
  anew = λ d us h e t. record {
    number = p;
    below = d;
    tokens = us;
    production = r;
    at = at;
    is = refl;
    shape = h;
    spelled = e;
    kept = ap (λ o. option_map_or leaves_out o false) at ∙ l;
    trimmed = whole d r.body h u t;
    without = λ ts w. w;
    same = λ cs. refl;
  };
}

without_first : (t : PlainLexeme) (us ts : List PlainLexeme) → IsLeftOut t → AreWithout (t ∷ us) ts → AreWithout us ts
without_first t us [] l w = absurd cc
without_first t us (x ∷ ts) l (inl (k, w)) = inl (k, without_first t us ts l w)
without_first t us (x ∷ ts) l (inr (vs, e, w)) =
    let same : t ≡ x = cc in
    let rest : us ≡ vs = cc in
    inl (subst IsLeftOut same l, subst (λ ys. AreWithout ys ts) (sym rest) w)

-- a production, and what it is known by
record Known (p : ℕ) (r : Production) : Type 0 where
  at : slice_get jml_productions p ≡ Some r
  inner : is_inner r.head ≡ true
  bare : (ts : List PlainLexeme) → own p ts ≡ nothing
  all : leaves_out r ≡ false

as_parts : (p : ℕ) (r : Production) → Known p r → (c : Forest) (ts : List PlainLexeme) → IsShape c r.body → node p c ts ≡ total c ts
as_parts p r k = plain p r k.at k.inner k.bare

keeps : (p : ℕ) (r : Production) → Known p r → keeps_all p
keeps p r k = ap (λ o. option_map_or leaves_out o false) k.at ∙ k.all

-- without its first token, in another form
shorter : (p : ℕ) (r : Production) (k : ℕ) (d : Forest) (t : PlainLexeme) (us : List PlainLexeme) (q : ℕ) (s : Production) (e : Forest)
    → slice_get jml_productions p ≡ Some r → is_inner r.head ≡ true → ((ts : List PlainLexeme) → own p ts ≡ nothing) → IsShape (Leaf k d) r.body
    → IsLeftOut t → kinds_of us ≡ yield d
    → Known q s → s.head ≡ r.head → IsShape e s.body → yield e ≡ yield d → IsTrimmed e → ((ts : List PlainLexeme) → total d ts ≡ total e ts)
    → MadeAnew p r.head (Leaf k d) (t ∷ us)
shorter p r k d t us q s e at u o h l y known is shape yields trimmed same = record {
  number = q;
  below = e;
  tokens = us;
  production = s;
  at = known.at;
  is = is;
  shape = shape;
  spelled = y ∙ sym yields;
  kept = keeps q s known;
  trimmed = trimmed;
  without = λ ts w. without_first t us ts l w;
  same = λ cs. plain p r at u o (Leaf k d) (t ∷ us ++ cs) h ∙ same (us ++ cs) ∙ sym (as_parts q s known e (us ++ cs) shape);
}

-- ---- the productions that nodes are made of

abbrev method_specs : Production
method_specs = produces names.METHOD_SPECS (Name names.INVARIANT_CLAUSE ∷ Name names.METHOD_SPECS ∷ [])

abbrev method_contract : Production
method_contract = produces names.METHOD_SPECS (Name names.CONTRACT ∷ [])

abbrev contract_behind_word : Production
contract_behind_word = produces names.METHOD_SPECS_BEHIND_WORD (Name names.CONTRACT ∷ [])

abbrev field_specs : Production
field_specs = produces names.FIELD_SPECS (Name names.INVARIANT_CLAUSE ∷ Name names.FIELD_SPECS ∷ [])

abbrev class_end_specs : Production
class_end_specs = produces names.CLASS_END_SPECS (Name names.INVARIANT_CLAUSE ∷ Name names.CLASS_END_SPECS ∷ [])

abbrev contract : Production
contract = produces names.CONTRACT (Name names.BARE_CASE ∷ Name names.MORE_CASES ∷ Name names.MODIFIER_WORDS ∷ [])

abbrev spec_case : Production
spec_case = produces names.SPEC_CASE (Name names.BARE_CASE ∷ [])

abbrev bare_case : Production
bare_case = produces names.BARE_CASE (Name names.BEHAVIOR_CASE ∷ [])

known0 : Known 0 method_specs
known0 = record { at = refl; inner = refl; bare = λ ts. refl; all = refl }

known2 : Known 2 method_contract
known2 = record { at = refl; inner = refl; bare = λ ts. refl; all = refl }

known8 : Known 8 contract_behind_word
known8 = record { at = refl; inner = refl; bare = λ ts. refl; all = refl }

known11 : Known 11 field_specs
known11 = record { at = refl; inner = refl; bare = λ ts. refl; all = refl }

known17 : Known 17 class_end_specs
known17 = record { at = refl; inner = refl; bare = λ ts. refl; all = refl }

known29 : Known 29 contract
known29 = record { at = refl; inner = refl; bare = λ ts. refl; all = refl }

known31 : Known 31 spec_case
known31 = record { at = refl; inner = refl; bare = λ ts. refl; all = refl }

known32 : Known 32 bare_case
known32 = record { at = refl; inner = refl; bare = λ ts. refl; all = refl }

-- ---- the same parts without the word

visible : (p : ℕ) (r : Production) (q : ℕ) (s : Production) → slice_get jml_productions p ≡ Some r → is_inner r.head ≡ true
    → ((ts : List PlainLexeme) → own p ts ≡ nothing)
    → r.body ≡ Token kinds.VISIBILITY ∷ s.body → Known q s → s.head ≡ r.head → all_seen s.body ≡ true → CanBeAnew p r.head r.body
visible p r q s at u o body known is seen = record { anew = λ d us h e t. by d us (subst (IsShape d) body h) e t }
  where
    by : (d : Forest) (us : List PlainLexeme) → IsShape d (Token kinds.VISIBILITY ∷ s.body) → kinds_of us ≡ yield d → AreTrimmedBelow d
        → MadeAnew p r.head d us
    by Done us h e t = absurd h
    by (Node n c f) us h e t = absurd h
    by (Leaf k f) [] h e t = absurd cc
    by (Leaf k f) (x ∷ us) h e t =
        let first : x.kind ≡ k = cc in
        let more : kinds_of us ≡ yield f = cc in
        shorter p r k f x us q s f at u o (subst (IsShape (Leaf k f)) (sym body) h) (inl (first ∙ sym h.0)) more known is h.1 refl (whole f s.body h.1 seen t) (λ ts. refl)

-- ---- a case of behavior

-- a bare one
abbrev bare : Forest → Forest
bare d = Node 32 d Done

bare_shape : (d : Forest) → IsShape d (Name names.BEHAVIOR_CASE ∷ []) → IsShape (bare d) (Name names.BARE_CASE ∷ [])
bare_shape d h = (bare_case, refl, refl, h, tt)

bare_tells : (d : Forest) (ts : List PlainLexeme) → IsShape d (Name names.BEHAVIOR_CASE ∷ []) → total d ts ≡ total (bare d) ts
bare_tells d ts h = sym (alone 32 d ts ∙ as_parts 32 bare_case known32 d ts h)

visible_case : CanBeAnew 30 names.SPEC_CASE (Token kinds.VISIBILITY ∷ Name names.BEHAVIOR_CASE ∷ [])
visible_case = record { anew = by }
  where
    by : (d : Forest) (us : List PlainLexeme) → IsShape d (Token kinds.VISIBILITY ∷ Name names.BEHAVIOR_CASE ∷ []) → kinds_of us ≡ yield d
        → AreTrimmedBelow d → MadeAnew 30 names.SPEC_CASE d us
    by Done us h e t = absurd h
    by (Node n c f) us h e t = absurd h
    by (Leaf k f) [] h e t = absurd cc
    by (Leaf k f) (x ∷ us) h e t =
        let first : x.kind ≡ k = cc in
        let more : kinds_of us ≡ yield f = cc in
        shorter 30 (produces names.SPEC_CASE (Token kinds.VISIBILITY ∷ Name names.BEHAVIOR_CASE ∷ [])) k f x us 31 spec_case (bare f) refl refl (λ ts. refl) h (inl (first ∙ sym h.0)) more known31 refl
        (bare_shape f h.1)
        (append-nil (yield f))
        (refl, whole f (Name names.BEHAVIOR_CASE ∷ []) h.1 refl t, tt)
        (λ ts. bare_tells f ts h.1)

-- ---- a contract of a case of behavior and what follows it

abbrev behavior_parts : List Symbol
behavior_parts = Name names.BEHAVIOR_CASE ∷ Name names.MORE_CASES ∷ Name names.MODIFIER_WORDS ∷ []

abbrev contract_of : Forest → Forest
contract_of (Node b c f) = Node 29 (Node 32 (Node b c Done) f) Done
contract_of d = d

contract_shape : (d : Forest) → IsShape d behavior_parts → IsShape (contract_of d) (Name names.CONTRACT ∷ [])
contract_shape Done h = absurd h
contract_shape (Leaf k f) h = absurd h
contract_shape (Node b c f) (r, at, is, below, behind) = (contract, refl, refl, (bare_case, refl, refl, (r, at, is, below, tt), behind), tt)

contract_yield : (d : Forest) → IsShape d behavior_parts → yield (contract_of d) ≡ yield d
contract_yield Done h = absurd h
contract_yield (Leaf k f) h = absurd h
contract_yield (Node b c f) h = append-nil ((yield c ++ []) ++ yield f) ∙ ap (λ ks. ks ++ yield f) (append-nil (yield c))

contract_trimmed : (d : Forest) → IsShape d behavior_parts → IsTrimmed d → IsTrimmed (contract_of d)
contract_trimmed Done h t = absurd h
contract_trimmed (Leaf k f) h t = absurd h
contract_trimmed (Node b c f) h (k, t, v) = (refl, (refl, (k, t, tt), v), tt)

-- a node of one tree before others, where it tells what that tree does
one_before : (q b : ℕ) (c f : Forest) (ts : List PlainLexeme) → node q (Node b c Done) ts ≡ node b c ts
    → total (Node q (Node b c Done) f) ts ≡ total (Node b c f) ts
one_before q b c f ts e =
    two beside e (ap (λ ks. total f (drop (length ks) ts)) (append-nil (yield c)))

contract_tells : (d : Forest) (ts : List PlainLexeme) → IsShape d behavior_parts → total d ts ≡ total (contract_of d) ts
contract_tells Done ts h = absurd h
contract_tells (Leaf k f) ts h = absurd h
contract_tells (Node b c f) ts (r, at, is, below, behind) =
    let one : IsShape (Node b c Done) (Name names.BEHAVIOR_CASE ∷ []) = (r, at, is, below, tt) in
    sym
    (alone 29 (Node 32 (Node b c Done) f) ts
    ∙ as_parts 29 contract known29 (Node 32 (Node b c Done) f) ts (bare_case, refl, refl, one, behind)
    ∙ one_before 32 b c f ts (as_parts 32 bare_case known32 (Node b c Done) ts one ∙ alone b c ts))

visible_behind_word : CanBeAnew 9 names.METHOD_SPECS_BEHIND_WORD (Token kinds.VISIBILITY ∷ behavior_parts)
visible_behind_word = record { anew = by }
  where
    by : (d : Forest) (us : List PlainLexeme) → IsShape d (Token kinds.VISIBILITY ∷ behavior_parts) → kinds_of us ≡ yield d → AreTrimmedBelow d
        → MadeAnew 9 names.METHOD_SPECS_BEHIND_WORD d us
    by Done us h e t = absurd h
    by (Node n c f) us h e t = absurd h
    by (Leaf k f) [] h e t = absurd cc
    by (Leaf k f) (x ∷ us) h e t =
        let first : x.kind ≡ k = cc in
        let more : kinds_of us ≡ yield f = cc in
        shorter 9 (produces names.METHOD_SPECS_BEHIND_WORD (Token kinds.VISIBILITY ∷ behavior_parts)) k f x us 8 contract_behind_word (contract_of f) refl refl (λ ts. refl) h (inl (first ∙ sym h.0)) more known8 refl
        (contract_shape f h.1)
        (contract_yield f h.1)
        (contract_trimmed f h.1 (whole f behavior_parts h.1 refl t))
        (λ ts. contract_tells f ts h.1)

-- ---- visibility before a method: what stands behind it is an invariant or a case

abbrev visible_specs : Production
visible_specs = produces names.METHOD_SPECS (Token kinds.VISIBILITY ∷ Name names.METHOD_SPECS_BEHIND_VISIBILITY ∷ [])

abbrev invariant_behind : Production
invariant_behind = produces names.METHOD_SPECS_BEHIND_VISIBILITY (Name names.INVARIANT_CLAUSE ∷ Name names.METHOD_SPECS ∷ [])

abbrev case_behind : Production
case_behind = produces names.METHOD_SPECS_BEHIND_VISIBILITY behavior_parts

known5 : Known 5 invariant_behind
known5 = record { at = refl; inner = refl; bare = λ ts. refl; all = refl }

known6 : Known 6 case_behind
known6 = record { at = refl; inner = refl; bare = λ ts. refl; all = refl }

same_production : (p q : ℕ) (r s : Production) → p ≡ q → slice_get jml_productions p ≡ Some r → slice_get jml_productions q ≡ Some s → r ≡ s
same_production p q r s e at there = same_Some r s (sym at ∙ (ap (slice_get jml_productions) e ∙ there))

abbrev Anew1 : ℕ → ℕ → Forest → PlainLexeme → List PlainLexeme → Type 0
Anew1 k n e x us = MadeAnew 1 names.METHOD_SPECS (Leaf k (Node n e Done)) (x ∷ us)

visible_invariant : (k : ℕ) (e : Forest) (x : PlainLexeme) (us : List PlainLexeme) → kinds.VISIBILITY ≡ k → x.kind ≡ k → kinds_of us ≡ yield e ++ []
    → IsShape e invariant_behind.body → IsTrimmed e
    → Anew1 k 5 e x us
visible_invariant k e x us v first more h t =
    shorter 1 visible_specs k (Node 5 e Done) x us 0 method_specs e refl refl (λ ts. refl) (v, (invariant_behind, refl, refl, h, tt)) (inl (first ∙ sym v)) more known0 refl
    h
    (sym (append-nil (yield e)))
    t
    (λ ts. alone 5 e ts ∙ as_parts 5 invariant_behind known5 e ts h)

visible_contract : (k : ℕ) (e : Forest) (x : PlainLexeme) (us : List PlainLexeme) → kinds.VISIBILITY ≡ k → x.kind ≡ k → kinds_of us ≡ yield e ++ []
    → IsShape e behavior_parts → IsTrimmed e
    → Anew1 k 6 e x us
visible_contract k e x us v first more h t =
    shorter 1 visible_specs k (Node 6 e Done) x us 2 method_contract (contract_of e) refl refl (λ ts. refl) (v, (case_behind, refl, refl, h, tt)) (inl (first ∙ sym v)) more known2 refl
    (contract_shape e h)
    (contract_yield e h ∙ sym (append-nil (yield e)))
    (contract_trimmed e h t)
    (λ ts. alone 6 e ts ∙ as_parts 6 case_behind known6 e ts h ∙ contract_tells e ts h)

visible_method : CanBeAnew 1 names.METHOD_SPECS visible_specs.body
visible_method = record { anew = by }
  where
    which : (k n : ℕ) (e : Forest) (x : PlainLexeme) (us : List PlainLexeme) (r : Production) → kinds.VISIBILITY ≡ k → x.kind ≡ k
        → kinds_of us ≡ yield e ++ [] → slice_get jml_productions n ≡ Some r
        → IsShape e r.body → IsTrimmed e → OneOf n (5 ∷ 6 ∷ []) → Anew1 k n e x us
    which k n e x us r v first more at h t (inl is) =
        subst (λ m. Anew1 k m e x us) (sym is)
        (visible_invariant k e x us v first more (subst (λ (s : Production). IsShape e s.body) (same_production n 5 r invariant_behind is at refl) h) t)
    which k n e x us r v first more at h t (inr (inl is)) =
        subst (λ m. Anew1 k m e x us) (sym is)
        (visible_contract k e x us v first more (subst (λ (s : Production). IsShape e s.body) (same_production n 6 r case_behind is at refl) h) t)
    which k n e x us r v first more at h t (inr (inr q)) = absurd q

    by : (d : Forest) (us : List PlainLexeme) → IsShape d visible_specs.body → kinds_of us ≡ yield d → AreTrimmedBelow d
        → MadeAnew 1 names.METHOD_SPECS d us
    by Done us h e t = absurd h
    by (Node n c f) us h e t = absurd h
    by (Leaf k Done) us h e t = absurd h.1
    by (Leaf k (Leaf j f)) us h e t = absurd h.1
    by (Leaf k (Node n c f)) [] h e t = absurd cc
    by (Leaf k (Node n c Done)) (x ∷ us) (v, (r, at, is, below, behind)) e (kept, t, more_t) =
        let first : x.kind ≡ k = cc in
        let more : kinds_of us ≡ yield c ++ [] = cc in
        which k n c x us r v first more at below t (one_of names.METHOD_SPECS_BEHIND_VISIBILITY n r at is)
    by (Leaf k (Node n c (Leaf j f))) (x ∷ us) (v, (r, at, is, below, behind)) e t = absurd behind
    by (Leaf k (Node n c (Node m d f))) (x ∷ us) (v, (r, at, is, below, behind)) e t = absurd behind

-- ---- a contract that begins with `also`: no case in it is visible any more

abbrev also_contract : Production
also_contract = produces names.CONTRACT (Token kinds.ALSO ∷ Name names.SPEC_CASE ∷ Name names.MORE_CASES ∷ Name names.MODIFIER_WORDS ∷ [])

abbrev case_with_visibility : Production
case_with_visibility = produces names.SPEC_CASE (Token kinds.VISIBILITY ∷ Name names.BEHAVIOR_CASE ∷ [])

abbrev behind_case : List Symbol
behind_case = Name names.MORE_CASES ∷ Name names.MODIFIER_WORDS ∷ []

abbrev Anew28 : ℕ → ℕ → Forest → Forest → PlainLexeme → List PlainLexeme → Type 0
Anew28 k n e f x us = MadeAnew 28 names.CONTRACT (Leaf k (Node n e f)) (x ∷ us)

not_visible : (e : Forest) → IsShape e case_with_visibility.body → IsTrimmed e → ⊥
not_visible Done h t = absurd h
not_visible (Leaf k f) h t = t.0 (sym h.0)
not_visible (Node n c f) h t = absurd h

also_case : (k : ℕ) (e f : Forest) (x : PlainLexeme) (us : List PlainLexeme) → kinds.ALSO ≡ k → x.kind ≡ k → kinds_of us ≡ yield e ++ yield f
    → IsShape e (Name names.BARE_CASE ∷ []) → IsTrimmed e
    → IsShape f behind_case → IsTrimmed f → Anew28 k 31 e f x us
also_case k Done f x us v first more h t i j = absurd h
also_case k (Leaf m d) f x us v first more h t i j = absurd h
also_case k (Node b c (Leaf m d)) f x us v first more (r, at, is, below, behind) t i j = absurd behind
also_case k (Node b c (Node m g d)) f x us v first more (r, at, is, below, behind) t i j = absurd behind
also_case k (Node b c Done) f x us v first more (r, at, is, below, behind) (kept, t, done) i j =
    let one : IsShape (Node b c Done) (Name names.BARE_CASE ∷ []) = (r, at, is, below, tt) in
    shorter 28 also_contract k (Node 31 (Node b c Done) f) x us 29 contract (Node b c f) refl refl (λ ts. refl) (v, (spec_case, refl, refl, one, i)) (inr (first ∙ sym v)) more known29 refl
    (r, at, is, below, i)
    (sym (ap (λ ks. ks ++ yield f) (append-nil (yield c))))
    (kept, t, j)
    (λ ts. one_before 31 b c f ts (as_parts 31 spec_case known31 (Node b c Done) ts one ∙ alone b c ts))

contract_with_also : CanBeAnew 28 names.CONTRACT also_contract.body
contract_with_also = record { anew = by }
  where
    which : (k n : ℕ) (e f : Forest) (x : PlainLexeme) (us : List PlainLexeme) (r : Production) → kinds.ALSO ≡ k → x.kind ≡ k
        → kinds_of us ≡ yield e ++ yield f → slice_get jml_productions n ≡ Some r
        → IsShape e r.body → IsTrimmed e → IsShape f behind_case → IsTrimmed f → OneOf n (30 ∷ 31 ∷ []) → Anew28 k n e f x us
    which k n e f x us r v first more at h t i j (inl is) =
        absurd (not_visible e (subst (λ (s : Production). IsShape e s.body) (same_production n 30 r case_with_visibility is at refl) h) t)
    which k n e f x us r v first more at h t i j (inr (inl is)) =
        subst (λ m. Anew28 k m e f x us) (sym is)
        (also_case k e f x us v first more (subst (λ (s : Production). IsShape e s.body) (same_production n 31 r spec_case is at refl) h) t i j)
    which k n e f x us r v first more at h t i j (inr (inr q)) = absurd q

    by : (d : Forest) (us : List PlainLexeme) → IsShape d also_contract.body → kinds_of us ≡ yield d → AreTrimmedBelow d
        → MadeAnew 28 names.CONTRACT d us
    by Done us h e t = absurd h
    by (Node n c f) us h e t = absurd h
    by (Leaf k Done) us h e t = absurd h.1
    by (Leaf k (Leaf j f)) us h e t = absurd h.1
    by (Leaf k (Node n c f)) [] h e t = absurd cc
    by (Leaf k (Node n c f)) (x ∷ us) (v, (r, at, is, below, behind)) e (kept, t, others) =
        let first : x.kind ≡ k = cc in
        let more : kinds_of us ≡ yield c ++ yield f = cc in
        which k n c f x us r v first more at below t behind (whole f behind_case behind refl others) (one_of names.SPEC_CASE n r at is)

-- ---- all of them

abbrev Line : ℕ → Production → Type 0
Line p r = is_inner r.head ≡ true → CanBeAnew p r.head r.body

abbrev Each : ℕ → List Production → Type 0
Each n [] = Unit {0}
Each n (r ∷ rs) = Line n r × Each (n + 1) rs

no_lines : (n : ℕ) (g : List Production) → list_all (λ r. not (is_inner r.head)) g ≡ true → Each n g
no_lines n [] e = tt
no_lines n (r ∷ g) e =
    let (a, b) = and_parts (not (is_inner r.head)) (list_all (λ s. not (is_inner s.head)) g) e in
    (λ u. absurd (both_ways (is_inner r.head) (not-true (is_inner r.head) a) u), no_lines (n + 1) g b)

lines_from_contracts : Each 28 (drop 28 jml_productions)
lines_from_contracts = (
  λ u. contract_with_also,
  (
    λ u. stays 29 (produces names.CONTRACT (Name names.BARE_CASE ∷ Name names.MORE_CASES ∷ Name names.MODIFIER_WORDS ∷ [])) refl refl refl,
    (
      λ u. visible_case,
      (
        λ u. stays 31 (produces names.SPEC_CASE (Name names.BARE_CASE ∷ [])) refl refl refl,
        (
          λ u. stays 32 (produces names.BARE_CASE (Name names.BEHAVIOR_CASE ∷ [])) refl refl refl,
          (
            λ u. stays 33 (produces names.BARE_CASE (Name names.CLAUSE ∷ Name names.CLAUSES ∷ [])) refl refl refl,
            (
              λ u. stays 34 (produces names.BEHAVIOR_CASE (Token kinds.NORMAL_BEHAVIOR ∷ Name names.CLAUSES ∷ [])) refl refl refl,
              (
                λ u. stays 35 (produces names.BEHAVIOR_CASE (Token kinds.EXCEPTIONAL_BEHAVIOR ∷ Name names.CLAUSES ∷ [])) refl refl refl,
                (
                  λ u. stays 36 (produces names.BEHAVIOR_CASE (Token kinds.BEHAVIOR ∷ Name names.CLAUSES ∷ [])) refl refl refl,
                  (
                    λ u. stays 37 (produces names.MORE_CASES (Token kinds.ALSO ∷ Name names.SPEC_CASE ∷ Name names.MORE_CASES ∷ [])) refl refl refl,
                    (
                      λ u. stays 38 (produces names.MORE_CASES []) refl refl refl,
                      (
                        λ u. stays 39 (produces names.CLAUSES (Name names.CLAUSE ∷ Name names.CLAUSES ∷ [])) refl refl refl,
                        (
                          λ u. stays 40 (produces names.CLAUSES []) refl refl refl,
                          no_lines 41 (drop 41 jml_productions) refl,
                        ),
                      ),
                    ),
                  ),
                ),
              ),
            ),
          ),
        ),
      ),
    ),
  ),
)

lines_from_loops : Each 14 (drop 14 jml_productions)
lines_from_loops = (
  λ u. stays 14 (produces names.MODIFIER_SPECS (Name names.MODIFIER_WORDS ∷ [])) refl refl refl,
  (
    λ u. stays 15 (produces names.LOOP_SPECS (Name names.LOOP_CLAUSE ∷ Name names.LOOP_SPECS ∷ [])) refl refl refl,
    (
      λ u. stays 16 (produces names.LOOP_SPECS []) refl refl refl,
      (
        λ u. stays 17 (produces names.CLASS_END_SPECS (Name names.INVARIANT_CLAUSE ∷ Name names.CLASS_END_SPECS ∷ [])) refl refl refl,
        (
          λ u. visible 18 (produces names.CLASS_END_SPECS (Token kinds.VISIBILITY ∷ Name names.INVARIANT_CLAUSE ∷ Name names.CLASS_END_SPECS ∷ [])) 17 class_end_specs refl refl (λ ts. refl) refl known17 refl refl,
          (
            λ u. stays 19 (produces names.CLASS_END_SPECS []) refl refl refl,
            (
              λ u. stays 20 (produces names.MODIFIER_WORDS (Name names.MODIFIER_WORD ∷ Name names.MODIFIER_WORDS ∷ [])) refl refl refl,
              (
                λ u. stays 21 (produces names.MODIFIER_WORDS []) refl refl refl,
                (
                  λ u. absurd (true≢false (sym u)),
                  (
                    λ u. absurd (true≢false (sym u)),
                    (
                      λ u. absurd (true≢false (sym u)),
                      (
                        λ u. absurd (true≢false (sym u)),
                        (
                          λ u. absurd (true≢false (sym u)),
                          (
                            λ u. absurd (true≢false (sym u)),
                            lines_from_contracts,
                          ),
                        ),
                      ),
                    ),
                  ),
                ),
              ),
            ),
          ),
        ),
      ),
    ),
  ),
)

lines : Each 0 jml_productions
lines = (
  λ u. stays 0 (produces names.METHOD_SPECS (Name names.INVARIANT_CLAUSE ∷ Name names.METHOD_SPECS ∷ [])) refl refl refl,
  (
    λ u. visible_method,
    (
      λ u. stays 2 (produces names.METHOD_SPECS (Name names.CONTRACT ∷ [])) refl refl refl,
      (
        λ u. stays 3 (produces names.METHOD_SPECS (Name names.MODIFIER_WORD ∷ Name names.METHOD_SPECS_BEHIND_WORD ∷ [])) refl refl refl,
        (
          λ u. stays 4 (produces names.METHOD_SPECS []) refl refl refl,
          (
            λ u. stays 5 (produces names.METHOD_SPECS_BEHIND_VISIBILITY (Name names.INVARIANT_CLAUSE ∷ Name names.METHOD_SPECS ∷ [])) refl refl refl,
            (
              λ u. stays 6 (produces names.METHOD_SPECS_BEHIND_VISIBILITY (Name names.BEHAVIOR_CASE ∷ Name names.MORE_CASES ∷ Name names.MODIFIER_WORDS ∷ [])) refl refl refl,
              (
                λ u. stays 7 (produces names.METHOD_SPECS_BEHIND_WORD (Name names.MODIFIER_WORD ∷ Name names.METHOD_SPECS_BEHIND_WORD ∷ [])) refl refl refl,
                (
                  λ u. stays 8 (produces names.METHOD_SPECS_BEHIND_WORD (Name names.CONTRACT ∷ [])) refl refl refl,
                  (
                    λ u. visible_behind_word,
                    (
                      λ u. stays 10 (produces names.METHOD_SPECS_BEHIND_WORD []) refl refl refl,
                      (
                        λ u. stays 11 (produces names.FIELD_SPECS (Name names.INVARIANT_CLAUSE ∷ Name names.FIELD_SPECS ∷ [])) refl refl refl,
                        (
                          λ u. visible 12 (produces names.FIELD_SPECS (Token kinds.VISIBILITY ∷ Name names.INVARIANT_CLAUSE ∷ Name names.FIELD_SPECS ∷ [])) 11 field_specs refl refl (λ ts. refl) refl known11 refl refl,
                          (
                            λ u. stays 13 (produces names.FIELD_SPECS (Name names.MODIFIER_WORDS ∷ [])) refl refl refl,
                            lines_from_loops,
                          ),
                        ),
                      ),
                    ),
                  ),
                ),
              ),
            ),
          ),
        ),
      ),
    ),
  ),
)

line_at : (g : List Production) (n p : ℕ) (r : Production) → Each n g → slice_get g p ≡ Some r → Line (n + p) r
line_at [] n p r h e = absurd (none-some r e)
line_at (x ∷ g) n zero r h e =
    let same : n ≡ n + 0 = omega arith in
    subst (λ m. Line m r) same (subst (Line n) (same_Some x r e) h.0)
line_at (x ∷ g) n (suc p) r h e =
    let same : n + 1 + p ≡ n + suc p = omega arith in
    subst (λ m. Line m r) same (line_at g (n + 1) p r h.1 e)

pub anew_at : (p : ℕ) (r : Production) → slice_get jml_productions p ≡ Some r → is_inner r.head ≡ true → CanBeAnew p r.head r.body
anew_at p r e =
    let same : 0 + p ≡ p = omega arith in
    subst (λ m. Line m r) same (line_at jml_productions 0 p r lines e)
