-- The truth of an object's invariants is what JML says of them.
use Rattle.std.proofs.Common.{◌↔◌, ℕ, List, [], ◌∷◌, refl}
use mathlib.Core.HLevel.{Stable}
use Rattle.jd_syntax.specs.CodeNames.{heap_name}
use Rattle.jd_heap.specs.References.{Reference, Null, Object, Array}
use Rattle.jd_heap.specs.Heaps.{Heap}
use Rattle.jd_heap.specs.Values.{RefValue, HeapValue}
use Rattle.jd_model.specs.SpecialNames.{receiver}
use Rattle.jd_model.specs.States.{write, empty_state, with_heap}
use Rattle.jd_model.specs.Programs.{Program}
use Rattle.jd_model.specs.Truth.{no_inv, EachHolds, InvariantsOf, InvTruth}
use Rattle.jd_model.proofs.Stable.{stable_×, stable_unit}
use Rattle.jd_model.proofs.Writes.{read_here}
use Rattle.jd_jml_meaning.specs.Resolved.{JmlExpr}
use Rattle.jd_jml_meaning.specs.Meaning.{Now, world_at}
use Rattle.jd_jml_meaning.specs.Standing.{Stands}
use Rattle.jd_jml_meaning.specs.InvariantFormulas.{invariant_spelling, invariant_formulas, setting_of}
use Rattle.jd_jml_meaning.specs.JmlContracts.{EachInvariant, InvariantsFrom, InvariantHolds}
use Rattle.jd_jml_meaning.proofs.Spelled.{iff_same, and_iff, holds}
use Rattle.jd_jml_meaning.proofs.StableHolds.{stable_holds}

pub world_stands : (h : Heap) (o : Reference) → Stands invariant_spelling (write empty_state receiver (RefValue o)) (with_heap empty_state h) (world_at h o)
world_stands h o = record {
  heap = λ t b. read_here empty_state heap_name (HeapValue h);
  argument = λ t k b. refl;
  local = λ x. refl;
  this = λ b. read_here empty_state receiver (RefValue o);
  result = λ b. refl;
  thrown = λ b. refl;
}

module _ (p : Program) (own : ℕ → List JmlExpr) (d : ℕ) (h : Heap) (o : Reference) where
  each_means : (es : List JmlExpr) → EachHolds (setting_of p own) d h o (invariant_formulas p es) ↔ EachInvariant p own h o es
  each_means [] = iff_same
  each_means (e ∷ es) = and_iff (holds (setting_of p own) invariant_spelling _ _ (world_at h o) (world_stands h o) d no_inv no_inv (λ _ _. iff_same) Now [] e) (each_means es)

  from_means : (cs : List ℕ) → InvariantsOf (setting_of p own) d h o cs ↔ InvariantsFrom p own h o cs
  from_means [] = iff_same
  from_means (c ∷ cs) = and_iff (each_means (own c)) (from_means cs)

pub invariants_mean : (p : Program) (own : ℕ → List JmlExpr) (d : ℕ) (h : Heap) (o : Reference) → InvTruth (setting_of p own) d h o ↔ InvariantHolds p own h o
invariants_mean p own d h Null = iff_same
invariants_mean p own d h (Object c n) = from_means p own d h (Object c n) (p.superclasses c)
invariants_mean p own d h (Array l n) = iff_same

module _ (p : Program) (own : ℕ → List JmlExpr) where
  each_stable : (h : Heap) (o : Reference) (es : List JmlExpr) → Stable (EachInvariant p own h o es)
  each_stable h o [] = stable_unit
  each_stable h o (e ∷ es) = stable_× (stable_holds p (world_at h o) no_inv (λ _ _. stable_unit) Now [] e) (each_stable h o es)

  from_stable : (h : Heap) (o : Reference) (cs : List ℕ) → Stable (InvariantsFrom p own h o cs)
  from_stable h o [] = stable_unit
  from_stable h o (c ∷ cs) = stable_× (each_stable h o (own c)) (from_stable h o cs)

  pub invariants_stable : (h : Heap) (o : Reference) → Stable (InvariantHolds p own h o)
  invariants_stable h Null = stable_unit
  invariants_stable h (Object c n) = from_stable h (Object c n) (p.superclasses c)
  invariants_stable h (Array l n) = stable_unit
