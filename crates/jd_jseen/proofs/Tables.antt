-- What the tables of a program's classes and members give the code.
use Rattle.std.proofs.Common.{◌≡◌, ℕ, ◌<◌, List, length, Option, Some, slice_index, sym, ap, ◌∙◌, subst, inl, inr, arith}
use Rattle.std.specs.List.{slice_get}
use Rattle.std.proofs.lemmas.Option.{slice_get_within}
use Rattle.jd_ancestry.specs.Ancestors.{AreNodes}
use Rattle.jd_syntax.specs.JavaTrees.{JavaUnit}
use Rattle.jd_jclasses.specs.Members.{Declared, declared_members}
use Rattle.jd_jseen.specs.Own.{AreWithin, StandAlone}
use Rattle.jd_jseen.specs.Tables.{AreSomeTables, AreTables}
use Rattle.jd_jseen.proofs.Columns.{OfColumn, of_column}
use Rattle.jd_jseen.proofs.Nodes.{members_are_of_classes, parents_are_classes}

module _ (extended : List (Option ℕ)) (members : List Declared) (names : List ℕ) (count : ℕ) (units : List JavaUnit) (tables : AreTables units extended members names count) where
  are_nodes : AreNodes extended
  are_nodes = subst AreNodes (sym tables.parents_are) (parents_are_classes units)

  declared_at : (i : ℕ) (a : Declared) → slice_get members i ≡ Some a → slice_get (declared_members units) i ≡ Some a
  declared_at i a there = ap (λ (l : List Declared). slice_get l i) (sym tables.members_are) ∙ there

  are_within : AreWithin members names count (length extended)
  are_within i a there =
      (subst (λ (l : List (Option ℕ)). a.class < length l) (sym tables.parents_are) (members_are_of_classes units i a (declared_at i a there)), tables.numbers_are.below i (slice_get_within members i a there))

  stand_alone : StandAlone members names count
  stand_alone i j class k before s t = clash (of_column (slice_index names i) count k s.member.kind s.in_column) (of_column (slice_index names j) count k t.member.kind t.in_column)
    where
      one_class : s.member.class ≡ t.member.class
      one_class = s.of_class ∙ sym t.of_class

      below : (l : ℕ) (a : Declared) → slice_get members l ≡ Some a → slice_index names l < count
      below l a there = (are_within l a there).1

      clash : OfColumn (slice_index names i) count k s.member.kind → OfColumn (slice_index names j) count k t.member.kind → ⊥
      clash (inl a) (inl b) =
          tables.stand.members.members j (record {
            place = i;
            earlier = before;
            other = s.member;
            one = t.member;
            other_there = declared_at i s.member s.there;
            there = declared_at j t.member t.there;
            holds = (one_class, inr (a.0, b.0));
          })
      clash (inl a) (inr b) = absurd (omega (arith, a.1, b.1, below j t.member t.there))
      clash (inr a) (inl b) = absurd (omega (arith, a.1, b.1, below i s.member s.there))
      clash (inr a) (inr b) =
          tables.stand.members.overloads j (inl (record {
            place = i;
            earlier = before;
            other = s.member;
            one = t.member;
            other_there = declared_at i s.member s.there;
            there = declared_at j t.member t.there;
            holds = (one_class, (a.0, b.0, (tables.numbers_are.same i j s.member t.member s.there t.there).0 (a.1 ∙ sym b.1)));
          }))

-- ---- of some files

module _ (extended : List (Option ℕ)) (members : List Declared) (names : List ℕ) (count : ℕ) (some : AreSomeTables extended members names count) where
  pub nodes : AreNodes extended
  nodes = are_nodes extended members names count some.0 some.1

  pub within : AreWithin members names count (length extended)
  within = are_within extended members names count some.0 some.1

  pub alone : StandAlone members names count
  alone = stand_alone extended members names count some.0 some.1
