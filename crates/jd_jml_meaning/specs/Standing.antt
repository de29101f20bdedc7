-- When terms, read in an interpretation and a state, stand for what an expression speaks of.
use Rattle.std.specs.Prelude.{◌≡◌, ℕ, List}
use Rattle.jd_syntax.specs.Names.{Name}
use Rattle.jd_heap.specs.Values.{Value, HeapValue, RefValue}
use Rattle.jd_model.specs.States.{State, read}
use Rattle.jd_model.specs.TermValues.{value}
use Rattle.jd_jml_meaning.specs.Meaning.{When, World}
use Rattle.jd_jml_meaning.specs.Translation.{Spelling}

pub record Stands (sp : Spelling) (i s : State) (w : World) : Type 0 where
  pub heap : (t : When) (b : List Value) → value i s b (sp.heap t) ≡ HeapValue (w.heap t)
  pub argument : (t : When) (k : ℕ) (b : List Value) → value i s b (sp.argument t k) ≡ w.argument t k
  pub local : (x : Name) → read s x ≡ w.local x
  pub this : (b : List Value) → value i s b sp.this ≡ RefValue w.this
  pub result : (b : List Value) → value i s b sp.result ≡ w.result
  pub thrown : (b : List Value) → value i s b sp.thrown ≡ RefValue w.thrown
