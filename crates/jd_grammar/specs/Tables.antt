-- A table as plain data.
use Rattle.std.specs.Prelude.{◌≡◌, ℕ, zero, suc, ◌+◌, ◌*◌, List, map, reverse, not, ◌&&◌, cond, nat_eq, nat_lt, Option, Some, None, slice_range, slice_index, slice_index_or, Bool, false}
use Rattle.std.specs.List.{slice_get}
use Rattle.jd_grammar.specs.declared.table.Symbol.{Symbol}
use Rattle.jd_grammar.specs.declared.table.Table.{Table}
use Rattle.jd_grammar.specs.Grammars.{Production}

-- productions that are used one after the other before a kind, each as one more than its number, with the symbols that are to come before
-- and behind them
pub record PlainRun : Type 0 where
  pub kind : ℕ
  pub order : List ℕ
  pub before : List Symbol
  pub behind : List Symbol

-- the productions; by name and kind of the token ahead the production to use, and one more; how many kinds there are, the end
-- among them; the names that a whole text may be of; by name, what it weighs, and whether each tree of it has a token; runs
pub record PlainTable : Type 0 where
  pub productions : List Production
  pub rows : List ℕ
  pub width : ℕ
  pub starts : List ℕ
  pub weights : List ℕ
  pub solid : List Bool
  pub runs : List PlainRun

abbrev pub production : List Symbol → ℕ × ℕ × ℕ × ℕ → Production
production symbols r = record { head = r.0; unless = r.1; body = slice_range symbols r.2 r.3 }

abbrev pub plain_run : List ℕ → List Symbol → ℕ × ℕ × ℕ × ℕ × ℕ × ℕ × ℕ → PlainRun
plain_run orders symbols r = record { kind = r.0; order = slice_range orders r.1 r.2; before = reverse (slice_range symbols r.3 r.4); behind = reverse (slice_range symbols r.5 r.6) }

abbrev pub plain : Table → PlainTable
plain t = record {
  productions = map (production t.symbols.now) t.rules.now;
  rows = t.rows.now;
  width = t.width;
  starts = t.starts.now;
  weights = t.weights.now;
  solid = t.solid.now;
  runs = map (plain_run t.run_order.now t.run_symbols.now) t.runs.now;
}

abbrev pub is_solid : PlainTable → ℕ → Bool
is_solid t a = slice_index_or t.solid a false

-- the entry of a name and a kind
abbrev pub entry : PlainTable → ℕ → ℕ → ℕ
entry t a k = cond (nat_lt k t.width) (slice_index t.rows (a * t.width + k)) 0

-- the production with this number, if it is of this name and may be used before this kind
abbrev pub usable : Option Production → ℕ → ℕ → Option Production
usable None a k = None
usable (Some r) a k = cond (nat_eq r.head a && not (nat_eq r.unless k)) (Some r) None

-- what an entry says to use: the entry, and what stands for the name
abbrev pub numbered : ℕ → Option Production → Option (ℕ × List Symbol)
numbered q None = None
numbered q (Some r) = Some (q, r.body)

abbrev pub chosen_by : List Production → ℕ → ℕ → ℕ → Option (ℕ × List Symbol)
chosen_by g zero a k = None
chosen_by g (suc p) a k = numbered (suc p) (usable (slice_get g p) a k)

-- the production to use for a name before a kind
abbrev pub chosen : PlainTable → ℕ → ℕ → Option (ℕ × List Symbol)
chosen t a k = chosen_by t.productions (entry t a k) a k

-- the table has this run
abbrev pub HasRun : PlainTable → ℕ → List ℕ → List Symbol → List Symbol → Type 0
HasRun t k order before behind = (n : ℕ) × (slice_get t.runs n ≡ Some (record { kind = k; order = order; before = before; behind = behind }))
