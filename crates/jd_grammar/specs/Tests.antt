-- A test of a table that computes. The sets are given, and only tested: as masks, whose bit k stands for kind k, or for name k.
use Rattle.std.specs.Prelude.{◌≡◌, ℕ, zero, suc, ◌+◌, ◌*◌, ◌/◌, ◌%◌, ◌^◌, List, [], ◌∷◌, ◌++◌, Bool, true, false, not, ◌&&◌, ◌||◌, cond, nat_eq, nat_le, nat_lt, Option, Some, None, slice_index, bit_or, drop, length}
use Rattle.std.specs.Int.{bit_at}
use Rattle.std.specs.List.{slice_get, list_any}
use Rattle.jd_grammar.specs.declared.table.Symbol.{Symbol}
use Rattle.jd_grammar.specs.declared.table.Symbol.TheVariants.{Token, Name}
use Rattle.jd_grammar.specs.Grammars.{Production}
use Rattle.jd_grammar.specs.Tables.{PlainRun, PlainTable, is_solid}

pub record Sets : Type 0 where
  -- the names that can stand for no token
  pub nullable : ℕ
  -- by name, the kinds that it can begin with, and those that can stand behind it
  pub first : List ℕ
  pub follow : List ℕ
  -- by name, a production that leads to names of lower ranks alone, and its rank
  pub witnesses : List ℕ
  pub ranks : List ℕ

-- each bit of m is one of n
abbrev pub within : ℕ → ℕ → Bool
within m n = nat_eq (bit_or m n) n

abbrev pub vanishes : Sets → ℕ → Bool
vanishes s a = nat_eq (bit_at s.nullable a) 1

-- whether these symbols can stand for no token
abbrev pub all_vanish : Sets → List Symbol → Bool
all_vanish s [] = true
all_vanish s (Token k ∷ ss) = false
all_vanish s (Name a ∷ ss) = vanishes s a && all_vanish s ss

-- the kinds that can be ahead where these symbols are to come, and after them one of `after`
abbrev pub first_of : Sets → List Symbol → ℕ → ℕ
first_of s [] after = after
first_of s (Token k ∷ ss) after = 2 ^ k
first_of s (Name a ∷ ss) after = bit_or (slice_index s.first a) (cond (vanishes s a) (first_of s ss after) 0)

-- each name among these symbols can be followed by what comes there
abbrev pub is_followed : Sets → List Symbol → ℕ → Bool
is_followed s [] after = true
is_followed s (Token k ∷ ss) after = is_followed s ss after
is_followed s (Name a ∷ ss) after = within (first_of s ss after) (slice_index s.follow a) && is_followed s ss after

-- of a row whose next entries, w of them, are for the kinds from k on: where m has a bit there is entry e, but for the kind `unless`
abbrev pub covers : ℕ → ℕ → ℕ → ℕ → List ℕ → ℕ → Bool
covers zero k unless m xs e = nat_eq m 0
covers (suc w) k unless m [] e = nat_eq m 0
covers (suc w) k unless m (x ∷ xs) e =
    (nat_eq (m % 2) 0 || (nat_eq unless k || nat_eq x e)) && covers w (suc k) unless (m / 2) xs e

-- what the names among these symbols weigh that are looked at before a token is, at most
abbrev pub lead : PlainTable → List Symbol → ℕ
lead t [] = 0
lead t (Token k ∷ ss) = 0
lead t (Name a ∷ ss) = slice_index t.weights a + cond (is_solid t a) 0 (lead t ss)

-- a token stands among these symbols, or a name that always has one
abbrev pub has_token : PlainTable → List Symbol → Bool
has_token t [] = false
has_token t (Token k ∷ ss) = true
has_token t (Name a ∷ ss) = is_solid t a || has_token t ss

-- the symbols are kinds below the width, and names below n
abbrev pub are_known : ℕ → ℕ → List Symbol → Bool
are_known width n [] = true
are_known width n (Token k ∷ ss) = nat_lt k width && are_known width n ss
are_known width n (Name a ∷ ss) = nat_lt a n && are_known width n ss

-- production p
abbrev pub production_passes : Sets → PlainTable → ℕ → Production → Bool
production_passes s t p r =
    within (first_of s r.body 0) (slice_index s.first r.head)
    && ((not (all_vanish s r.body) || vanishes s r.head)
    && (is_followed s r.body (slice_index s.follow r.head)
    && (covers t.width 0 r.unless (first_of s r.body (slice_index s.follow r.head)) (drop (r.head * t.width) t.rows) (suc p)
    && (nat_lt (lead t r.body) (slice_index t.weights r.head)
    && ((not (is_solid t r.head) || has_token t r.body) && are_known t.width (length s.ranks) r.body)))))

-- the productions from number p on
abbrev pub productions_pass : Sets → PlainTable → ℕ → List Production → Bool
productions_pass s t p [] = true
productions_pass s t p (r ∷ rs) = production_passes s t p r && productions_pass s t (suc p) rs

-- the names among these symbols have ranks below n
abbrev pub are_lower : Sets → ℕ → List Symbol → Bool
are_lower s n [] = true
are_lower s n (Token k ∷ ss) = are_lower s n ss
are_lower s n (Name a ∷ ss) = nat_lt (slice_index s.ranks a) n && are_lower s n ss

-- the witness of name a, of this rank, is used before each kind, and leads to lower ranks
abbrev pub witness_passes : Sets → PlainTable → ℕ → ℕ → Option Production → Bool
witness_passes s t a n None = false
witness_passes s t a n (Some r) = nat_eq r.head a && (nat_le t.width r.unless && are_lower s n r.body)

-- the names from a on, with their ranks
abbrev pub witnesses_pass : Sets → PlainTable → ℕ → List ℕ → Bool
witnesses_pass s t a [] = true
witnesses_pass s t a (n ∷ ns) =
    witness_passes s t a n (slice_get t.productions (slice_index s.witnesses a)) && witnesses_pass s t (suc a) ns

-- a whole text may be of each of these names
abbrev pub starts_pass : Sets → List ℕ → Bool
starts_pass s [] = true
starts_pass s (a ∷ names) =
    (nat_eq (bit_at (slice_index s.follow a) 0) 1 && nat_lt a (length s.ranks)) && starts_pass s names

abbrev pub is_ll1 : Sets → PlainTable → Bool
is_ll1 s t =
    productions_pass s t 0 t.productions && (witnesses_pass s t 0 s.ranks && (starts_pass s t.starts && nat_lt 0 t.width))

-- ---- runs

abbrev pub same_symbol : Symbol → Symbol → Bool
same_symbol (Token k) (Token j) = nat_eq k j
same_symbol (Name a) (Name b) = nat_eq a b
same_symbol _ _ = false

abbrev pub same_symbols : List Symbol → List Symbol → Bool
same_symbols [] [] = true
same_symbols (x ∷ xs) (y ∷ ys) = same_symbol x y && same_symbols xs ys
same_symbols _ _ = false

-- this production is the one of name a before kind k
abbrev pub is_used : Sets → ℕ → ℕ → Option Production → Bool
is_used s a k None = false
is_used s a k (Some r) = nat_eq r.head a && (not (nat_eq r.unless k) && nat_eq (bit_at (first_of s r.body (slice_index s.follow a)) k) 1)

abbrev pub body_of : Option Production → List Symbol
body_of None = []
body_of (Some r) = r.body

-- these productions, each as one more than its number, lead before kind k from these symbols to those
abbrev pub leads : Sets → PlainTable → ℕ → List ℕ → List Symbol → List Symbol → Bool
leads s t k [] xs ys = same_symbols xs ys
leads s t k (suc p ∷ qs) (Name a ∷ xs) ys =
    is_used s a k (slice_get t.productions p) && leads s t k qs (body_of (slice_get t.productions p) ++ xs) ys
leads s t k (q ∷ qs) xs ys = false

abbrev pub run_passes : Sets → PlainTable → PlainRun → Bool
run_passes s t r = nat_lt 0 (length r.order) && leads s t r.kind r.order r.before r.behind

abbrev pub runs_pass : Sets → PlainTable → List PlainRun → Bool
runs_pass s t [] = true
runs_pass s t (r ∷ rs) = run_passes s t r && runs_pass s t rs

-- some sets show that the table is that of an LL(1) grammar (Aho, Sethi and Ullman, 4.4)
pub record IsLl1 (t : PlainTable) : Type 0 where
  pub sets : Sets
  pub passes : is_ll1 sets t ≡ true
  pub runs : runs_pass sets t t.runs ≡ true

-- a whole text may be of this name
abbrev pub is_start : PlainTable → ℕ → Bool
is_start t a = list_any (nat_eq a) t.starts
