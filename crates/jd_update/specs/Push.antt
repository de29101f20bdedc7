-- Updates pushed inward (The KeY Book, 3.4.3): a replacement of variables goes down to terms and modalities.
use Rattle.std.specs.Prelude.{ℕ, Bool, false, not, ◌&&◌, ◌||◌, [], ◌∷◌, filter}
use Rattle.std.specs.Ordering.{nat_cmp, match_ordering, ordering_then}
use Rattle.std.specs.Cmp.Lexicographic.{slice_cmp}
use Rattle.std.specs.declared.cmp.Ordering.{Ordering}
use Rattle.jd_base.specs.declared.sort.Sort.{Sort}
use Rattle.jd_base.specs.declared.sort.Sort.TheVariants.{Int, Bool as BoolSort, Ref, Heap, Field}
use Rattle.jd_syntax.specs.Names.{Name}
use Rattle.jd_syntax.specs.Codes.{PlainCode}
use Rattle.jd_syntax.specs.CodeNames.{same_name, occurs_in_code}
use Rattle.jd_term.specs.Terms.{PlainTerm, ProgramVariable}
use Rattle.jd_term.specs.Formulas.{Pairs, PlainFormula, TrueFormula, FalseFormula, Not, And, Or, Implies, Iff, Equal, Less, LessOrEqual, Forall, Exists, Updated, Modal, InLocations, InInt, WellFormed, Invariant, IsInstance, IsExactInstance}
use Rattle.jd_term.specs.Occurs.{occurs_var_in}
use Rattle.jd_update.specs.Replace.{inner, replace, replace_loc}

-- an update after a replacement: its right sides under the old one, the last pair winning
abbrev pub joined : Pairs → Pairs → Pairs → Pairs
joined old [] q = q
joined old (p ∷ u) q = joined old u ((p.0, replace old p.1) ∷ q)

abbrev pub sort_rank : Sort → ℕ
sort_rank Int = 0
sort_rank BoolSort = 1
sort_rank Ref = 2
sort_rank Heap = 3
sort_rank Field = 4

-- names in the order of their bytes, and of their sorts where these agree
abbrev pub name_order : Name → Name → Ordering
name_order x y = ordering_then (slice_cmp nat_cmp x.text y.text) (nat_cmp (sort_rank x.sort) (sort_rank y.sort))

-- the pairs in order with one more; one that is there already stays
abbrev pub insert_pair : Name × PlainTerm → Pairs → Pairs
insert_pair p [] = p ∷ []
insert_pair p (r ∷ rs) = match_ordering (name_order p.0 r.0) (p ∷ r ∷ rs) (r ∷ rs) (r ∷ insert_pair p rs)

-- one pair for each variable, in the order of names, the first pair of a variable winning
abbrev pub in_order : Pairs → Pairs → Pairs
in_order [] done = done
in_order (p ∷ q) done = in_order q (insert_pair p done)

abbrev pub is_itself : Name × PlainTerm → Bool
is_itself (x, ProgramVariable y) = same_name x y
is_itself p = false

-- the pair matters before a modality: its variable occurs there and is not sent to itself
abbrev pub matters : PlainCode → PlainFormula → Name × PlainTerm → Bool
matters c a p = (occurs_in_code p.0 c || occurs_var_in p.0 a) && not (is_itself p)

abbrev pub kept : Pairs → PlainCode → PlainFormula → Pairs
kept q c a = filter (matters c a) (in_order q [])

-- the formula under the pairs as an update, where there are any
abbrev pub under : Pairs → PlainFormula → PlainFormula
under [] a = a
under (p ∷ q) a = Updated (p ∷ q) a

-- the formula under a replacement
abbrev pub push : Pairs → PlainFormula → PlainFormula
push q TrueFormula = TrueFormula
push q FalseFormula = FalseFormula
push q (Not a) = Not (push q a)
push q (And a b) = And (push q a) (push q b)
push q (Or a b) = Or (push q a) (push q b)
push q (Implies a b) = Implies (push q a) (push q b)
push q (Iff a b) = Iff (push q a) (push q b)
push q (Equal t u) = Equal (replace q t) (replace q u)
push q (Less t u) = Less (replace q t) (replace q u)
push q (LessOrEqual t u) = LessOrEqual (replace q t) (replace q u)
push q (Forall s a) = Forall s (push (inner q) a)
push q (Exists s a) = Exists s (push (inner q) a)
push q (Updated u a) = push (joined q u q) a
push q (Modal m c a) = under (kept q c a) (Modal m c a)
push q (InLocations o f l) = InLocations (replace q o) (replace q f) (replace_loc q l)
push q (InInt t) = InInt (replace q t)
push q (WellFormed h) = WellFormed (replace q h)
push q (Invariant h o) = Invariant (replace q h) (replace q o)
push q (IsInstance k o) = IsInstance k (replace q o)
push q (IsExactInstance k o) = IsExactInstance k (replace q o)

-- what `simplify` makes of a formula
abbrev pub simplified : PlainFormula → PlainFormula
simplified a = push [] a

-- the pairs of an update whose variables occur in the formula
abbrev pub live : PlainFormula → Pairs → Pairs
live a u = filter (λ p. occurs_var_in p.0 a) u
