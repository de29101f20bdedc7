-- The formulas of a contract say of entries and ends what JML says.
use Rattle.std.proofs.Common.{◌≡◌, ◌↔◌, ℕ, Bool, true, false, List, [], ◌∷◌, map, refl, sym, ap, true≢false}
use Rattle.jd_heap.specs.References.{Reference, Field, location}
use Rattle.jd_heap.specs.Heaps.{Heap}
use Rattle.jd_heap.specs.Values.{Value, as_int}
use Rattle.jd_model.specs.Programs.{Program}
use Rattle.jd_model.specs.Truth.{Setting, InvTruth}
use Rattle.jd_model.specs.Cases.{Role, Static, Ordinary, Helper, ConstructorOf, Contract}
use Rattle.jd_model.specs.EntryExit.{Moment, interpretation_of, state_of, AllHold, AllSignalled, RoleInvariant, RoleEnd, EntryAs, NormalEnd, ExceptionalEnd, Framed, assignable_at, measure_at, entry_moment, normal_moment, thrown_moment}
use Rattle.jd_jml_meaning.specs.Resolved.{JmlExpr}
use Rattle.jd_jml_meaning.specs.Meaning.{When, Now, Before, AmongAll}
use Rattle.jd_jml_meaning.specs.Translation.{formula}
use Rattle.jd_jml_meaning.specs.InvariantFormulas.{setting_of}
use Rattle.jd_jml_meaning.specs.JmlContracts.{JmlContract, world_of, InvariantHolds, ClausesHold, SignalsHold, ReceiverInvariant, InvariantAtEnd, JmlEntry, FrameKept, JmlNormalEnd, JmlExceptionalEnd, measured}
use Rattle.jd_jml_meaning.specs.ContractFormulas.{contract_spelling, contract_of}
use Rattle.jd_jml_meaning.specs.Laws.{HasOwnConstants, ContractMeans}
use Rattle.jd_jml_meaning.proofs.Spelled.{iff_same, and_iff, imp_iff, spelled, holds}
use Rattle.jd_jml_meaning.proofs.Located.{located_all}
use Rattle.jd_jml_meaning.proofs.InvariantsHold.{invariants_mean}
use Rattle.jd_jml_meaning.proofs.ContractWorlds.{contract_stands}

-- a test that fails exactly where what it decides does not hold
false_iff : (b : Bool) {A : Type 0} → (b ≡ true) ↔ A → (b ≡ false) ↔ (¬ A)
false_iff true h = (λ e. absurd (true≢false e), λ n. absurd (n (h.0 refl)))
false_iff false h = (λ e a. true≢false (sym (h.1 a)), λ n. refl)

module _ (p : Program) (own : ℕ → List JmlExpr) where
  abbrev g : Setting
  g = setting_of p own

  receiver_means : (r : Role) (h : Heap) (o : Reference) → RoleInvariant g r h o ↔ ReceiverInvariant p own r h o
  receiver_means Static h o = iff_same
  receiver_means Ordinary h o = invariants_mean p own 0 h o
  receiver_means Helper h o = iff_same
  receiver_means (ConstructorOf a) h o = iff_same

  end_means : (r : Role) (h : Heap) (o : Reference) → RoleEnd g r h o ↔ InvariantAtEnd p own r h o
  end_means Static h o = iff_same
  end_means Ordinary h o = invariants_mean p own 0 h o
  end_means Helper h o = iff_same
  end_means (ConstructorOf a) h o = imp_iff iff_same (invariants_mean p own 0 h o)

  module _ (c : JmlContract) (apart : HasOwnConstants c) where
    abbrev k : Contract
    k = contract_of p c

    module _ (m : Moment) where
      clauses_mean : (t : When) (es : List JmlExpr) → AllHold g k m (map (formula p (contract_spelling c.parameters c.result) t) es) ↔ ClausesHold p own t c m es
      clauses_mean t [] = iff_same
      clauses_mean t (e ∷ es) = and_iff (holds g (contract_spelling c.parameters c.result) (interpretation_of k m) (state_of k m) (world_of c m) (contract_stands p c apart m) 0 (InvTruth g 0) (InvariantHolds p own) (invariants_mean p own 0) t [] e) (clauses_mean t es)

      signals_mean : (es : List (ℕ × JmlExpr)) → AllSignalled g k m (map (λ e. (e.0, formula p (contract_spelling c.parameters c.result) Now e.1)) es) ↔ SignalsHold p own c m es
      signals_mean [] = iff_same
      signals_mean (e ∷ es) = and_iff (imp_iff iff_same (holds g (contract_spelling c.parameters c.result) (interpretation_of k m) (state_of k m) (world_of c m) (contract_stands p c apart m) 0 (InvTruth g 0) (InvariantHolds p own) (invariants_mean p own 0) Now [] e.1)) (signals_mean es)

      normal_end_means : NormalEnd g k m ↔ JmlNormalEnd p own c m
      normal_end_means = (
        λ x. record { well_formed = x.well_formed; typed = x.typed; ensured = (clauses_mean Now c.ensures_).0 x.ensured; invariant = (end_means c.role m.after m.this).0 x.invariant; allowed = x.allowed },
        λ x. record { well_formed = x.well_formed; typed = x.typed; ensured = (clauses_mean Now c.ensures_).1 x.ensured; invariant = (end_means c.role m.after m.this).1 x.invariant; allowed = x.allowed },
      )

      exceptional_end_means : ExceptionalEnd g k m ↔ JmlExceptionalEnd p own c m
      exceptional_end_means = (
        λ x. record { well_formed = x.well_formed; thrown = x.thrown; created = x.created; signalled = (signals_mean c.signals).0 x.signalled; only = x.only; allowed = x.allowed; invariant = (receiver_means c.role m.after m.this).0 x.invariant },
        λ x. record { well_formed = x.well_formed; thrown = x.thrown; created = x.created; signalled = (signals_mean c.signals).1 x.signalled; only = x.only; allowed = x.allowed; invariant = (receiver_means c.role m.after m.this).1 x.invariant },
      )

    module _ (h : Heap) (r : Reference) (vs : List Value) where
      abbrev start : Moment
      start = entry_moment g h r vs

      entry_means : (exactly : Bool) (class : ℕ) → EntryAs g exactly k class h r vs ↔ JmlEntry p own exactly c class h r vs
      entry_means exactly class = (
        λ x. record { well_formed = x.well_formed; receiver = x.receiver; arguments = x.arguments; required = (clauses_mean start Before c.requires_).0 x.required; invariant = (receiver_means c.role h r).0 x.invariant; fields = x.fields },
        λ x. record { well_formed = x.well_formed; receiver = x.receiver; arguments = x.arguments; required = (clauses_mean start Before c.requires_).1 x.required; invariant = (receiver_means c.role h r).1 x.invariant; fields = x.fields },
      )

      outside : (o : Reference) (f : Field) → (assignable_at g k h r vs (location o f) ≡ false) ↔ (¬ (AmongAll p (world_of c start) Before [] c.assignable o f))
      outside o f = false_iff (assignable_at g k h r vs (location o f)) (located_all g (contract_spelling c.parameters c.result) (interpretation_of k start) (state_of k start) (world_of c start) (contract_stands p c apart start) Before [] c.assignable o f)

      frame_means : (e : Heap) → Framed g (assignable_at g k h r vs) h e ↔ FrameKept p own c h r vs e
      frame_means e = (λ x o f n. x o f ((outside o f).1 n), λ x o f n. x o f ((outside o f).0 n))

      measure_means : as_int (measure_at g k h r vs) ≡ measured p own c h r vs
      measure_means = ap as_int (spelled g (contract_spelling c.parameters c.result) (interpretation_of k start) (state_of k start) (world_of c start) (contract_stands p c apart start) Before [] c.measure)

    pub contract_means : ContractMeans p own c
    contract_means = record {
      entry = λ exactly class h r vs. entry_means h r vs exactly class;
      normal_end = normal_end_means;
      exceptional_end = exceptional_end_means;
      normal_exit = λ h r vs e v. and_iff (normal_end_means (normal_moment g h r vs e v)) (frame_means h r vs e);
      exceptional_exit = λ h r vs e x. and_iff (exceptional_end_means (thrown_moment g h r vs e x)) (frame_means h r vs e);
      measure = measure_means;
    }
