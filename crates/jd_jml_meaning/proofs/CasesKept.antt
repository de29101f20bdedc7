-- A case is kept by its formulas exactly where it is kept by JML.
use Rattle.std.proofs.Common.{◌↔◌, ℕ, true, List}
use Rattle.jd_heap.specs.References.{Reference}
use Rattle.jd_heap.specs.Heaps.{Heap}
use Rattle.jd_heap.specs.Values.{Value, at_sort, default}
use Rattle.jd_model.specs.States.{heap_of}
use Rattle.jd_model.specs.Programs.{Body}
use Rattle.jd_model.specs.Outcomes.{Outcome, Normal, Broke, Returned, Thrown, Stopped, NoLength, NotEnded, given}
use Rattle.jd_model.specs.KeptCases.{Entry, Exit, KeptTo, Kept}
use Rattle.jd_jml_meaning.specs.Laws.{HasOwnConstants, ContractMeans}
use Rattle.jd_jml_meaning.specs.JmlCases.{JmlProgram, JmlCase, CaseEntry, CaseExit, JmlKeptTo, JmlKept, body_run, case_of, specified}
use Rattle.jd_jml_meaning.proofs.Spelled.{iff_same}
use Rattle.jd_jml_meaning.proofs.ContractsMean.{contract_means}

module _ (j : JmlProgram) (c : JmlCase) (apart : HasOwnConstants c.contract) where
  means : ContractMeans j.program j.own c.contract
  means = contract_means j.program j.own c.contract apart

  exit_means : (b : Body) (h : Heap) (r : Reference) (vs : List Value) (o : Outcome (Unit {0})) → Exit (specified j) (case_of j.program c).contract b h r vs o ↔ CaseExit j c.contract b h r vs o
  exit_means b h r vs (Normal u t) = means.normal_exit h r vs (heap_of t) (default b.result)
  exit_means b h r vs (Returned v t) = means.normal_exit h r vs (heap_of t) (at_sort b.result (given b.result v))
  exit_means b h r vs (Thrown x t) = means.exceptional_exit h r vs (heap_of t) x
  exit_means b h r vs (Broke l t) = iff_same
  exit_means b h r vs (Stopped t) = iff_same
  exit_means b h r vs NoLength = iff_same
  exit_means b h r vs NotEnded = iff_same

  entry_means : (h : Heap) (r : Reference) (vs : List Value) → Entry (specified j) (case_of j.program c) h r vs ↔ CaseEntry j c h r vs
  entry_means h r vs = means.entry true c.class h r vs

  to_means : (e : ℕ) → KeptTo (specified j) (case_of j.program c) e ↔ JmlKeptTo j c e
  to_means e = (
    λ x h r vs en b is f n le. (exit_means b h r vs (body_run j b f n h r vs)).0 (x h r vs ((entry_means h r vs).1 en) b is f n le),
    λ x h r vs en b is f n le. (exit_means b h r vs (body_run j b f n h r vs)).1 (x h r vs ((entry_means h r vs).0 en) b is f n le),
  )

  pub kept_alike : Kept (specified j) (case_of j.program c) ↔ JmlKept j c
  kept_alike = (
    λ x. (λ e. (to_means e).0 (x.0 e), λ d h r vs en. x.1 d h r vs ((entry_means h r vs).1 en)),
    λ x. (λ e. (to_means e).1 (x.0 e), λ d h r vs en. x.1 d h r vs ((entry_means h r vs).0 en)),
  )
