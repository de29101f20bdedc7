-- What classes declare and take from the nearest of their ancestors is what they see.
use Rattle.std.proofs.Common.{◌≡◌, ℕ, ◌+◌, ◌*◌, ◌<◌, List, length, Option, Some, None, MatchOption, slice_index, sym, ap, ◌∙◌, subst, inl, inr, arith}
use Rattle.std.specs.List.{slice_get}
use Rattle.std.proofs.lemmas.Option.{slice_get_within}
use Rattle.jd_syntax.specs.JavaTrees.{JavaUnit}
use Rattle.jd_jclasses.specs.CallGraph.{DeclaresConstructor, IsConstructorFor}
use Rattle.jd_jclasses.specs.Classes.{parents, IsSubclass}
use Rattle.jd_jclasses.specs.Members.{Declared, declared_members}
use Rattle.jd_jclasses.specs.Methods.{routines, Declares, IsSeen, SeesNone}
use Rattle.jd_jclasses.specs.Numbers.{AreNumbers}
use Rattle.jd_jclasses.specs.Refusals.{SameName}
use Rattle.jd_nearest.specs.Nearest.{AreNearest, AtOrAbove, IsInherited, column}
use Rattle.jd_jseen.specs.Own.{AreOwn, StandsAt, column_of, routines_before}
use Rattle.jd_jseen.specs.Seen.{AreSeen, RunsNone}
use Rattle.jd_jseen.specs.Tables.{AreTables}
use Rattle.jd_jseen.proofs.Columns.{column_of_constructor, column_of_method, of_column, routine_has_column}
use Rattle.jd_jseen.proofs.Routines.{members_are_routines, routines_are_members}

-- ---- classes above, and subclasses

subclass : (units : List JavaUnit) (owner class : ℕ) → AtOrAbove (parents units) owner class → IsSubclass units class owner
subclass units owner class (inl same) = inl (sym same)
subclass units owner class (inr over) = inr over

above : (units : List JavaUnit) (owner class : ℕ) → IsSubclass units class owner → AtOrAbove (parents units) owner class
above units owner class (inl same) = inl (sym same)
above units owner class (inr over) = inr over

in_both : {P R : Type 0} {Q S : ℕ → Type 0} (o : Option ℕ) → (P → R) → ((m : ℕ) → Q m → S m) → MatchOption o P Q → MatchOption o R S
in_both None f g h = f h
in_both (Some m) f g h = g m h

-- ---- one cell: what is in the own cells is what the classes declare

module _ (units : List JavaUnit) (own : ℕ → Option ℕ) where
  pub see_method : (name : List ℕ) (class : ℕ) (value : Option ℕ) → ((owner m : ℕ) → own owner ≡ Some m → Declares units owner name m) → ((owner m : ℕ) → Declares units owner name m → own owner ≡ Some m)
      → IsInherited (parents units) own class value → MatchOption value (SeesNone units class name) (IsSeen units class name)
  see_method name class value to from h =
      in_both value (λ none owner m sub declared. none owner m (above units owner class sub) (from owner m declared))
      (λ m seen. record {
        owner = seen.owner;
        declared = to seen.owner m seen.has;
        inherited = subclass units seen.owner class seen.there;
        nearest = λ other n sub declared. subclass units other seen.owner (seen.nearest other n (above units other class sub) (from other n declared));
      }) h

  pub see_constructor : (class : ℕ) (value : Option ℕ) → ((owner m : ℕ) → own owner ≡ Some m → DeclaresConstructor units owner m) → ((owner m : ℕ) → DeclaresConstructor units owner m → own owner ≡ Some m)
      → IsInherited (parents units) own class value → MatchOption value (RunsNone units class) (IsConstructorFor units class)
  see_constructor class value to from h =
      in_both value (λ none owner m sub declared. none owner m (above units owner class sub) (from owner m declared))
      (λ m seen. record {
        owner = seen.owner;
        declared = to seen.owner m seen.has;
        inherited = subclass units seen.owner class seen.there;
        nearest = λ other n sub declared. subclass units other seen.owner (seen.nearest other n (above units other class sub) (from other n declared));
      }) h

-- ---- all cells

module _ (units : List JavaUnit) (names : List ℕ) (count classes : ℕ) (own : List (Option ℕ)) (numbered : AreNumbers SameName (declared_members units) names count)
    (are_own : AreOwn (declared_members units) names count classes (length (declared_members units)) own) where
  below : (i : ℕ) (a : Declared) → slice_get (declared_members units) i ≡ Some a → slice_index names i < count
  below i a there = numbered.below i (slice_get_within (declared_members units) i a there)

  -- the routine that stands in a cell
  routine_at : (class k m j : ℕ) → (s : StandsAt (declared_members units) names count j class k) → m ≡ routines_before (declared_members units) j → slice_get (routines units) m ≡ Some s.member
  routine_at class k m j s is =
      ap (λ (n : ℕ). slice_get (routines units) n) is
      ∙ members_are_routines units j s.member s.there (routine_has_column (slice_index names j) count k s.member.kind s.in_column)

  -- a routine has its number in the cell of its class and its column
  in_cell : (class k m : ℕ) (r : Declared) → slice_get (routines units) m ≡ Some r → r.class ≡ class → ((i : ℕ) → slice_get (declared_members units) i ≡ Some r → column_of (slice_index names i) count r.kind ≡ Some k)
      → column (count + 1) own k class ≡ Some m
  in_cell class k m r there of_class in_column =
      let p = routines_are_members units m r there in
      are_own.written p.0 class k (slice_get_within (declared_members units) p.0 r p.1) (record { member = r; there = p.1; of_class = of_class; in_column = in_column p.0 p.1 })
      ∙ ap Some (sym p.3)

  module _ (i : ℕ) (a : Declared) (there : slice_get (declared_members units) i ≡ Some a) where
    declares : (owner m : ℕ) → column (count + 1) own (slice_index names i) owner ≡ Some m → Declares units owner a.name.name m
    declares owner m h =
        let o = are_own.only owner (slice_index names i) m (omega (arith, below i a there)) h in
        elim (of_column (slice_index names o.0) count (slice_index names i) o.2.member.kind o.2.in_column) [
          | inl built ↦ absurd (omega (arith, built.1, below i a there))
          | inr named ↦ record {
            routine = o.2.member;
            there = routine_at owner (slice_index names i) m o.0 o.2 o.3;
            holds = (named.0, o.2.of_class, (numbered.same o.0 i o.2.member a o.2.there there).0 named.1);
          }
        ]

    declared : (owner m : ℕ) → Declares units owner a.name.name m → column (count + 1) own (slice_index names i) owner ≡ Some m
    declared owner m d =
        in_cell owner (slice_index names i) m d.routine d.there d.holds.1
        (λ j at. column_of_method (slice_index names j) count d.routine.kind d.holds.0 ∙ ap Some ((numbered.same j i d.routine a at there).1 d.holds.2))

  constructs : (owner m : ℕ) → column (count + 1) own count owner ≡ Some m → DeclaresConstructor units owner m
  constructs owner m h =
      let o = are_own.only owner count m (omega arith) h in
      elim (of_column (slice_index names o.0) count count o.2.member.kind o.2.in_column) [
        | inl built ↦ record { routine = o.2.member; there = routine_at owner count m o.0 o.2 o.3; holds = (built.0, o.2.of_class) }
        | inr named ↦ absurd (omega (arith, named.1, below o.0 o.2.member o.2.there))
      ]

  constructed : (owner m : ℕ) → DeclaresConstructor units owner m → column (count + 1) own count owner ≡ Some m
  constructed owner m d = in_cell owner count m d.routine d.there d.holds.1 (λ j at. column_of_constructor (slice_index names j) count d.routine.kind d.holds.0)

  module _ (cells : List (Option ℕ)) (all : classes ≡ length (parents units)) (nearest : AreNearest (parents units) (count + 1) own cells) where
    all_seen : AreSeen units names count cells
    all_seen =
        record {
          each = nearest.count ∙ are_own.each ∙ ap (λ (n : ℕ). n * (count + 1)) all;
          methods = λ class i a lt there.
              see_method units (column (count + 1) own (slice_index names i)) a.name.name class (column (count + 1) cells (slice_index names i) class) (declares i a there) (declared i a there)
              (nearest.each class (slice_index names i) lt (omega (arith, below i a there)));
          constructors = λ class lt.
              see_constructor units (column (count + 1) own count) class (column (count + 1) cells count class) constructs constructed (nearest.each class count lt (omega arith));
        }

-- with the tables as the code has them
pub are_seen : (extended : List (Option ℕ)) (members : List Declared) (names : List ℕ) (count done : ℕ) (own cells : List (Option ℕ)) → done ≡ length members
    → AreOwn members names count (length extended) done own → AreNearest extended (count + 1) own cells
    → (units : List JavaUnit) → AreTables units extended members names count → AreSeen units names count cells
are_seen extended members names count done own cells whole are_own nearest units tables =
    all_seen units names count (length extended) own (subst (λ (l : List Declared). AreNumbers SameName l names count) tables.members_are tables.numbers_are)
    (subst (λ (l : List Declared). AreOwn l names count (length extended) (length l) own) tables.members_are (subst (λ (n : ℕ). AreOwn members names count (length extended) n own) whole are_own)) cells
    (ap length tables.parents_are) (subst (λ (l : List (Option ℕ)). AreNearest l (count + 1) own cells) tables.parents_are nearest)
