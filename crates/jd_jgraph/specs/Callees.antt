-- Which families the calls in a routine reach, by the tables of a program.
use Rattle.std.specs.Prelude.{◌+◌, ◌<◌, ◌++◌, ℕ, cond, List, [], ◌∷◌, get_or, Option, None, Some}
use Rattle.std.specs.List.{All, slice_get, slice_index_or}
use Rattle.jd_nearest.specs.Nearest.{column}
use Rattle.jd_jcalls.specs.Called.{PlainCalled, MethodNamed, ConstructorOf, ConstructorAbove}
use Rattle.jd_jclasses.specs.CallGraph.{calls_in}
use Rattle.jd_jclasses.specs.Classes.{class_in}
use Rattle.jd_jclasses.specs.Members.{Declared, is_constructor}
use Rattle.jd_jheads.specs.Heads.{names_of}
use Rattle.jd_jnumbers.specs.Numbered.{texts_of}
use Rattle.jd_jnumbers.specs.Texts.{number_in}
use Rattle.jd_jseen.specs.Seen.{cells_of, name_count}
use Rattle.jd_jgraph.specs.Named.{lists_of}
use Rattle.jd_jgraph.specs.declared.callees.Callees.{Callees}

-- what calls are looked up in
pub record Lookup : Type 0 where
  -- the names of the classes, and what they extend
  pub classes : List (List ℕ)
  pub extended : List (Option ℕ)
  -- the names of the members, and for each the families of the methods of this name
  pub names : List (List ℕ)
  pub named : List (List ℕ)
  -- the constructor that runs for a class
  pub runs : ℕ → Option ℕ
  -- the family of each routine
  pub families : List ℕ

abbrev pub lookup : Callees → Lookup
lookup c =
    record {
      classes = names_of c.heads.now;
      extended = c.heads.now.parents.items;
      names = texts_of c.names.now;
      named = lists_of c.by_name.now;
      runs = λ class. column (name_count c.seen.now + 1) (cells_of c.seen.now) (name_count c.seen.now) class;
      families = c.families.now;
    }

-- ---- what one call reaches

abbrev pub family_of : List ℕ → Option ℕ → Option ℕ
family_of families None = None
family_of families (Some m) = slice_get families m

-- the family of the constructor that runs for a class, if there is a class
abbrev pub constructor_of : Lookup → Option ℕ → Option ℕ
constructor_of l None = None
constructor_of l (Some class) = family_of l.families (l.runs class)

abbrev pub class_above : Lookup → ℕ → Option ℕ
class_above l class = get_or l.extended class None

abbrev pub list_at : List (List ℕ) → Option ℕ → List ℕ
list_at lists None = []
list_at lists (Some place) = slice_index_or lists place []

abbrev pub at_most_one : Option ℕ → List ℕ
at_most_one None = []
at_most_one (Some x) = x ∷ []

-- the families that a call reaches that stands in a class
abbrev pub reached : Lookup → ℕ → PlainCalled → List ℕ
reached l class (MethodNamed name) = list_at l.named (number_in l.names name)
reached l class (ConstructorOf name) = at_most_one (constructor_of l (class_in l.classes name))
reached l class ConstructorAbove = at_most_one (constructor_of l (class_above l class))

-- ---- what a routine reaches

abbrev pub reached_by : Lookup → ℕ → List PlainCalled → List ℕ
reached_by l class [] = []
reached_by l class (c ∷ cs) = reached l class c ++ reached_by l class cs

-- a constructor reaches one above it (JLS 8.8.7)
abbrev pub implied : Lookup → Declared → List ℕ
implied l r = cond (is_constructor r.kind) (reached l r.class ConstructorAbove) []

abbrev pub called_by : Lookup → Declared → List ℕ
called_by l r = reached_by l r.class (calls_in r.kind) ++ implied l r

-- ---- all families have numbers below this

pub record AreBelow (l : Lookup) (count : ℕ) : Type 0 where
  pub families : All (λ f. f < count) l.families
  pub named : (place : ℕ) → All (λ f. f < count) (slice_index_or l.named place [])
