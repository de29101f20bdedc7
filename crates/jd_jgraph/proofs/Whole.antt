-- What the tables of the files give the graph.
use Rattle.std.proofs.Common.{◌≡◌, ◌<◌, ℕ, Bool, List, [], length, MatchOption, slice_index, slice_index_or, ap, ◌∙◌, subst, inl, inr, arith}
use Rattle.std.specs.Bool.{Decides}
use Rattle.std.specs.List.{All, Contains}
use Rattle.std.proofs.Math.Seq.{take-length}
use Rattle.std.proofs.lemmas.Bool.{cases_lt}
use Rattle.std.proofs.lemmas.List.{get_or_past}
use Rattle.std.proofs.lemmas.List.Elements.{All-contains_itself}
use Rattle.std.proofs.lemmas.Option.{slice_get_cases}
use Rattle.jd_syntax.specs.JavaTrees.{JavaUnit}
use Rattle.jd_jclasses.specs.CallGraph.{IsConstructorFor}
use Rattle.jd_jclasses.specs.Classes.{parents}
use Rattle.jd_jclasses.specs.Members.{Declared, declared_members}
use Rattle.jd_jclasses.specs.Methods.{routines}
use Rattle.jd_jnumbers.specs.Numbered.{AreNames}
use Rattle.jd_jseen.specs.Own.{routines_before}
use Rattle.jd_jseen.specs.Seen.{RunsNone}
use Rattle.jd_jgraph.specs.Callees.{Lookup}
use Rattle.jd_jgraph.specs.Edges.{IsCalledFrom}
use Rattle.jd_jgraph.specs.Named.{AreNamed}
use Rattle.jd_jgraph.specs.Tables.{AreNamedTables, routine_count}
use Rattle.jd_jgraph.proofs.Counting.{IsLookup}
use Rattle.jd_jgraph.proofs.Methods.{method_is_routine}
use Rattle.jd_jgraph.proofs.Positions.{name_at}
use Rattle.jd_jgraph.proofs.Routines.{within}

pub number_below : (members : List Declared) (names : List (List ℕ)) (numbers : List ℕ) → AreNames members names numbers → (i : ℕ) → i < length members → slice_index numbers i < length names
number_below members names numbers are i lt =
    elim (slice_get_cases members i).1 [
      | inl here ↦ (name_at names here.0.name.name (slice_index numbers i) (are.place i here.0 here.2)).0
      | inr past ↦ absurd (omega (arith, lt, past.0))
    ]

module _ (members : List Declared) (numbers families : List ℕ) (count done : ℕ) (named : List (List ℕ)) (whole : done ≡ length members) (are : AreNamed members numbers families done named) (each : length families ≡ routines_before members done) (below : All (λ f. f < count) families) where
  family_below : (place f : ℕ) → place < length named → Contains (slice_index_or named place []) f → f < count
  family_below place f lt c =
      let r = (are place f lt).0 c in
      let inside : routines_before members r.i < length families =
      omega (arith, within members r.i r.member r.there (method_is_routine r.member.kind r.method), each, ap (routines_before members) whole) in
      subst (λ (n : ℕ). n < count) r.of_family (below (routines_before members r.i) 0 inside)

  pub named_below : (place : ℕ) → All (λ f. f < count) (slice_index_or named place [])
  named_below place k d lt =
      elim (cases_lt place (length named)) [
        | inl inside ↦ family_below place (slice_index_or (slice_index_or named place []) k d) inside (All-contains_itself (slice_index_or named place []) k d lt)
        | inr past ↦ absurd (omega (arith, lt, ap length (get_or_past named place [] past)))
      ]

pub count_before : (members : List Declared) (done : ℕ) → done ≡ length members → routines_before members done ≡ routine_count members
count_before members done whole = ap (routines_before members) whole ∙ ap routine_count (take-length members)

module _ (units : List JavaUnit) (l : Lookup) (members : List Declared) (numbers : List ℕ) (count done : ℕ) (tables : AreNamedTables units l.classes l.extended members numbers count) (whole : done ≡ length members) where
  are_members : members ≡ declared_members units
  are_members = tables.tables.members_are

  all_done : done ≡ length (declared_members units)
  all_done = whole ∙ ap length are_members

  all_routines : routines_before members done ≡ length (routines units)
  all_routines = count_before members done whole ∙ ap routine_count are_members

  pub is_lookup : AreNames members l.names numbers → AreNamed members numbers l.families done l.named → length l.named ≡ length l.names → length l.families ≡ routines_before members done
      → ((class : ℕ) → class < length (parents units) → MatchOption (l.runs class) (RunsNone units class) (IsConstructorFor units class)) → IsLookup units numbers l
  is_lookup names named as_many each run =
      record {
        classes_are = tables.classes_are;
        extended_are = tables.tables.parents_are;
        names_are = subst (λ (ms : List Declared). AreNames ms l.names numbers) are_members names;
        named_are =
            subst (λ (n : ℕ). AreNamed (declared_members units) numbers l.families n l.named) all_done (subst (λ (ms : List Declared). AreNamed ms numbers l.families done l.named) are_members named);
        as_many = as_many;
        run = run;
        each = each ∙ all_routines;
      }

  pub all_edges : (b : Bool) (x y : ℕ) → Decides b (IsCalledFrom l members done x y) → Decides b (IsCalledFrom l (declared_members units) (length (declared_members units)) x y)
  all_edges b x y d =
      subst (λ (n : ℕ). Decides b (IsCalledFrom l (declared_members units) n x y)) all_done (subst (λ (ms : List Declared). Decides b (IsCalledFrom l ms done x y)) are_members d)
