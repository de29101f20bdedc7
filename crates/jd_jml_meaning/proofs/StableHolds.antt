-- What an expression says is stable.
use Rattle.std.proofs.Common.{true, false, List, ◌∷◌}
use mathlib.Core.HLevel.{Stable}
use Rattle.jd_heap.specs.References.{Reference}
use Rattle.jd_heap.specs.Heaps.{Heap}
use Rattle.jd_heap.specs.Values.{Value, IntValue, BoolValue, RefValue}
use Rattle.jd_model.specs.Programs.{Program}
use Rattle.jd_model.proofs.Stable.{stable_×, stable_Π, stable_→, stable_¬, stable_unit, stable_⊥, stable_bool, stable_value}
use Rattle.jd_jml_meaning.specs.Resolved.{QuantifiedType, OverInt, OverBigint, OverBoolean, OverReference, JmlExpr, BooleanLiteral, Cast, Old, Equal, Unequal, Less, LessOrEqual, Greater, GreaterOrEqual, Not, And, Or, Implies, Equivalent, Inequivalent, Conditional, InstanceOf, Fresh, InvariantFor, Forall, Exists, ForallIn, ExistsIn}
use Rattle.jd_jml_meaning.specs.Meaning.{When, Before, World, Each, Holds}

module _ (p : Program) (w : World) (inv : Heap → Reference → Type 0) (stable_inv : (h : Heap) (o : Reference) → Stable (inv h o)) where
  stable_each : (k : QuantifiedType) (h : Heap) (P : Value → Type 0) → ((v : Value) → Stable (P v)) → Stable (Each p k h P)
  stable_each OverInt h P st = stable_Π (λ z. stable_→ (st (IntValue z)))
  stable_each OverBigint h P st = stable_Π (λ z. st (IntValue z))
  stable_each OverBoolean h P st = stable_Π (λ z. st (BoolValue z))
  stable_each (OverReference k) h P st = stable_Π (λ z. stable_→ (stable_→ (st (RefValue z))))

  pub stable_holds : (t : When) (b : List Value) (e : JmlExpr) → Stable (Holds p w inv t b e)
  stable_holds t b (BooleanLiteral true) = stable_unit
  stable_holds t b (BooleanLiteral false) = stable_⊥
  stable_holds t b (Cast e) = stable_holds t b e
  stable_holds t b (Old e) = stable_holds Before b e
  stable_holds t b (Equal x y) = stable_value _ _
  stable_holds t b (Unequal x y) = stable_¬
  stable_holds t b (Less x y) = stable_bool _ _
  stable_holds t b (LessOrEqual x y) = stable_bool _ _
  stable_holds t b (Greater x y) = stable_bool _ _
  stable_holds t b (GreaterOrEqual x y) = stable_bool _ _
  stable_holds t b (Not e) = stable_¬
  stable_holds t b (And x y) = stable_× (stable_holds t b x) (stable_holds t b y)
  stable_holds t b (Or x y) = stable_¬
  stable_holds t b (Implies x y) = stable_→ (stable_holds t b y)
  stable_holds t b (Equivalent x y) = stable_× (stable_→ (stable_holds t b y)) (stable_→ (stable_holds t b x))
  stable_holds t b (Inequivalent x y) = stable_¬
  stable_holds t b (Conditional c x y) = stable_× (stable_→ (stable_holds t b x)) (stable_→ (stable_holds t b y))
  stable_holds t b (InstanceOf k e) = stable_bool _ _
  stable_holds t b (Fresh e) = stable_× stable_¬ stable_¬
  stable_holds t b (InvariantFor e) = stable_inv _ _
  stable_holds t b (Forall k e) = stable_each k (w.heap t) _ (λ v. stable_holds t (v ∷ b) e)
  stable_holds t b (ForallIn k r e) = stable_each k (w.heap t) _ (λ v. stable_→ (stable_holds t (v ∷ b) e))
  stable_holds t b (Exists k e) = stable_¬
  stable_holds t b (ExistsIn k r e) = stable_¬
  stable_holds t b e = stable_value _ _
