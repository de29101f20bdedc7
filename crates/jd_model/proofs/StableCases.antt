-- Entry, exit, ends, kept, validity and usable are stable: where the denial fails, the statement holds.
use Rattle.std.proofs.Common.{ℕ, ℤ, Bool, true, false, Option, Some, None, List, [], ◌∷◌}
use mathlib.Core.HLevel.{Stable}
use Rattle.jd_term.specs.Formulas.{PlainFormula}
use Rattle.jd_heap.specs.References.{Reference, Field, Location, Named}
use Rattle.jd_heap.specs.Heaps.{Heap, SameAt, select_int, select_bool, select_ref}
use Rattle.jd_heap.specs.Values.{Value, default, select_at}
use Rattle.jd_model.specs.Sequents.{PlainSequent}
use Rattle.jd_model.specs.Programs.{Body, field_sort}
use Rattle.jd_model.specs.Outcomes.{Outcome, Normal, Broke, Returned, Thrown, Stopped, NoLength, NotEnded}
use Rattle.jd_model.specs.WellFormedHeaps.{IsWellFormed}
use Rattle.jd_model.specs.Truth.{Setting}
use Rattle.jd_model.specs.Validity.{Valid}
use Rattle.jd_model.specs.Cases.{DeclaredType, Parameter, Role, Static, Ordinary, Helper, ConstructorOf, Behaviour, AnyEnd, NormalOnly, ExceptionalOnly, Contract, Case, SpecifiedProgram}
use Rattle.jd_model.specs.EntryExit.{Moment, AllHold, AreOf, Receiver, RoleInvariant, RoleFields, RoleEnd, EntryAs, Framed, ResultOf, MayEnd, AllSignalled, AllOneOf, NormalEnd, ExceptionalEnd, NormalExit, ExceptionalExit, assignable_at}
use Rattle.jd_model.specs.KeptCases.{Exit, MeetsTo, EndsFrom, KeptTo, KeptFrom, Kept, Usable}
use Rattle.jd_model.proofs.Stable.{stable_×, stable_Π, stable_→, stable_¬, stable_unit, stable_⊥, stable_bool, stable_int, stable_reference, stable_value, stable_invariant, stable_Truth}

-- from a denied denial of a record to that of a field
within_field : {A B : Type 0} (f : A → B) → Stable B → ¬ (¬ A) → B
within_field f st n = st (λ no. n (λ a. no (f a)))

module _ (g : Setting) where
  stable_well_formed : (h : Heap) → Stable (IsWellFormed g.program h)
  stable_well_formed h = stable_Π (λ l. stable_Π (λ e. stable_→ (stable_bool _ _)))

  stable_hold : (c : Contract) (m : Moment) (l : List PlainFormula) → Stable (AllHold g c m l)
  stable_hold c m [] = stable_unit
  stable_hold c m (a ∷ l) = stable_× (stable_Truth g 0 _ _ [] a) (stable_hold c m l)

  stable_are_of : (h : Heap) (xs : List Parameter) (vs : List Value) → Stable (AreOf g h xs vs)
  stable_are_of h [] [] = stable_unit
  stable_are_of h (x ∷ xs) (v ∷ vs) = stable_× (stable_bool _ _) (stable_are_of h xs vs)
  stable_are_of h [] (v ∷ vs) = stable_⊥
  stable_are_of h (x ∷ xs) [] = stable_⊥

  stable_receiver : (exactly : Bool) (r : Role) (c : ℕ) (h : Heap) (o : Reference) → Stable (Receiver g exactly r c h o)
  stable_receiver exactly Static c h o = stable_reference _ _
  stable_receiver exactly Ordinary c h o = stable_× (stable_bool _ _) (stable_bool _ _)
  stable_receiver exactly Helper c h o = stable_× (stable_bool _ _) (stable_bool _ _)
  stable_receiver exactly (ConstructorOf a) c h o = stable_× (stable_bool _ _) (stable_bool _ _)

  stable_role_invariant : (r : Role) (h : Heap) (o : Reference) → Stable (RoleInvariant g r h o)
  stable_role_invariant Static h o = stable_unit
  stable_role_invariant Ordinary h o = stable_invariant g 0 h o
  stable_role_invariant Helper h o = stable_unit
  stable_role_invariant (ConstructorOf a) h o = stable_unit

  stable_fields : (r : Role) (h : Heap) (o : Reference) → Stable (RoleFields g r h o)
  stable_fields Static h o = stable_unit
  stable_fields Ordinary h o = stable_unit
  stable_fields Helper h o = stable_unit
  stable_fields (ConstructorOf a) h o = stable_Π (λ f. stable_→ (stable_value (select_at (field_sort g.program f) h o (Named f)) (default (field_sort g.program f))))

  stable_end : (r : Role) (h : Heap) (o : Reference) → Stable (RoleEnd g r h o)
  stable_end Static h o = stable_unit
  stable_end Ordinary h o = stable_invariant g 0 h o
  stable_end Helper h o = stable_unit
  stable_end (ConstructorOf a) h o = stable_→ (stable_invariant g 0 h o)

  pub stable_entry : (exactly : Bool) (c : Contract) (k : ℕ) (h : Heap) (o : Reference) (vs : List Value) → Stable (EntryAs g exactly c k h o vs)
  stable_entry exactly c k h o vs n = record {
    well_formed = within_field (λ (e : EntryAs g exactly c k h o vs). e.well_formed) (stable_well_formed h) n;
    receiver = within_field (λ (e : EntryAs g exactly c k h o vs). e.receiver) (stable_receiver exactly c.role k h o) n;
    arguments = within_field (λ (e : EntryAs g exactly c k h o vs). e.arguments) (stable_are_of h c.parameters vs) n;
    required = within_field (λ (e : EntryAs g exactly c k h o vs). e.required) (stable_hold c _ c.requires_) n;
    invariant = within_field (λ (e : EntryAs g exactly c k h o vs). e.invariant) (stable_role_invariant c.role h o) n;
    fields = within_field (λ (e : EntryAs g exactly c k h o vs). e.fields) (stable_fields c.role h o) n;
  }

  stable_same : (h k : Heap) (o : Reference) (f : Field) → Stable (SameAt h k o f)
  stable_same h k o f n = (
    stable_int (select_int h o f) (select_int k o f) (λ no. n (λ e. no e.0)),
    stable_bool (select_bool h o f) (select_bool k o f) (λ no. n (λ e. no e.1)),
    stable_reference (select_ref h o f) (select_ref k o f) (λ no. n (λ e. no e.2)),
  )

  stable_framed : (L : Location → Bool) (h k : Heap) → Stable (Framed g L h k)
  stable_framed L h k = stable_Π (λ o. stable_Π (λ f. stable_→ (stable_→ (stable_same h k o f))))

  stable_result : (h : Heap) (t : Option DeclaredType) (v : Value) → Stable (ResultOf g h t v)
  stable_result h None v = stable_unit
  stable_result h (Some t) v = stable_bool _ _

  stable_may_end : (b : Behaviour) (normally : Bool) → Stable (MayEnd g b normally)
  stable_may_end AnyEnd normally = stable_unit
  stable_may_end NormalOnly normally = stable_bool _ _
  stable_may_end ExceptionalOnly normally = stable_bool _ _

  stable_signalled : (c : Contract) (m : Moment) (l : List (ℕ × PlainFormula)) → Stable (AllSignalled g c m l)
  stable_signalled c m [] = stable_unit
  stable_signalled c m (e ∷ l) = stable_× (stable_→ (stable_Truth g 0 _ _ [] e.1)) (stable_signalled c m l)

  stable_one_of : (l : List (List ℕ)) (o : Reference) → Stable (AllOneOf g l o)
  stable_one_of [] o = stable_unit
  stable_one_of (cs ∷ l) o = stable_× (stable_bool _ _) (stable_one_of l o)

  pub stable_normal_end : (c : Contract) (m : Moment) → Stable (NormalEnd g c m)
  stable_normal_end c m n = record {
    well_formed = within_field (λ (e : NormalEnd g c m). e.well_formed) (stable_well_formed m.after) n;
    typed = within_field (λ (e : NormalEnd g c m). e.typed) (stable_result m.after c.result m.result) n;
    ensured = within_field (λ (e : NormalEnd g c m). e.ensured) (stable_hold c m c.ensures_) n;
    invariant = within_field (λ (e : NormalEnd g c m). e.invariant) (stable_end c.role m.after m.this) n;
    allowed = within_field (λ (e : NormalEnd g c m). e.allowed) (stable_may_end c.behaviour true) n;
  }

  pub stable_exceptional_end : (c : Contract) (m : Moment) → Stable (ExceptionalEnd g c m)
  stable_exceptional_end c m n = record {
    well_formed = within_field (λ (e : ExceptionalEnd g c m). e.well_formed) (stable_well_formed m.after) n;
    thrown = within_field (λ (e : ExceptionalEnd g c m). e.thrown) (stable_bool _ _) n;
    created = within_field (λ (e : ExceptionalEnd g c m). e.created) (stable_bool _ _) n;
    signalled = within_field (λ (e : ExceptionalEnd g c m). e.signalled) (stable_signalled c m c.signals) n;
    only = within_field (λ (e : ExceptionalEnd g c m). e.only) (stable_one_of c.signals_only m.thrown) n;
    allowed = within_field (λ (e : ExceptionalEnd g c m). e.allowed) (stable_may_end c.behaviour false) n;
    invariant = within_field (λ (e : ExceptionalEnd g c m). e.invariant) (stable_role_invariant c.role m.after m.this) n;
  }

  stable_normal_exit : (c : Contract) (h : Heap) (o : Reference) (vs : List Value) (k : Heap) (v : Value) → Stable (NormalExit g c h o vs k v)
  stable_normal_exit c h o vs k v = stable_× (stable_normal_end c _) (stable_framed (assignable_at g c h o vs) h k)

  stable_exceptional_exit : (c : Contract) (h : Heap) (o : Reference) (vs : List Value) (k : Heap) (x : Reference) → Stable (ExceptionalExit g c h o vs k x)
  stable_exceptional_exit c h o vs k x = stable_× (stable_exceptional_end c _) (stable_framed (assignable_at g c h o vs) h k)

  pub stable_valid : (d : ℕ) (m : ℤ) (q : PlainSequent) → Stable (Valid g d m q)
  stable_valid d m q = stable_Π (λ i. stable_Π (λ s. stable_→ stable_¬))

module _ (p : SpecifiedProgram) where
  pub stable_exit : (c : Contract) (b : Body) (h : Heap) (o : Reference) (vs : List Value) (e : Outcome (Unit {0})) → Stable (Exit p c b h o vs e)
  stable_exit c b h o vs (Normal u t) = stable_normal_exit p.setting c h o vs _ _
  stable_exit c b h o vs (Returned v t) = stable_normal_exit p.setting c h o vs _ _
  stable_exit c b h o vs (Thrown x t) = stable_exceptional_exit p.setting c h o vs _ x
  stable_exit c b h o vs (Broke l t) = stable_⊥
  stable_exit c b h o vs (Stopped t) = stable_⊥
  stable_exit c b h o vs NoLength = stable_⊥
  stable_exit c b h o vs NotEnded = stable_unit

  stable_meets : (c : Case) (e : ℕ) (h : Heap) (o : Reference) (vs : List Value) → Stable (MeetsTo p c e h o vs)
  stable_meets c e h o vs = stable_Π (λ b. stable_→ (stable_Π (λ f. stable_Π (λ n. stable_→ (stable_exit c.contract b h o vs _)))))

  pub stable_ends : (c : Case) (h : Heap) (o : Reference) (vs : List Value) → Stable (EndsFrom p c h o vs)
  stable_ends c h o vs = stable_Π (λ b. stable_→ stable_¬)

  pub stable_kept_to : (c : Case) (e : ℕ) → Stable (KeptTo p c e)
  stable_kept_to c e = stable_Π (λ h. stable_Π (λ o. stable_Π (λ vs. stable_→ (stable_meets c e h o vs))))

  pub stable_kept_from : (c : Case) (h : Heap) (o : Reference) (vs : List Value) → Stable (KeptFrom p c h o vs)
  stable_kept_from c h o vs = stable_× (stable_Π (λ e. stable_meets c e h o vs)) (stable_ends c h o vs)

  pub stable_kept : (c : Case) → Stable (Kept p c)
  stable_kept c = stable_× (stable_Π (λ e. stable_kept_to c e)) (stable_→ (stable_Π (λ h. stable_Π (λ o. stable_Π (λ vs. stable_→ (stable_ends c h o vs))))))

  pub stable_usable : (own d : ℕ) (m : ℤ) → Stable (Usable p own d m)
  stable_usable own d m n = record {
    below = within_field (λ (u : Usable p own d m). u.below) (stable_Π (λ κ. stable_Π (λ c. stable_→ (stable_Π (λ e. stable_→ (stable_kept_to c e)))))) n;
    lower = within_field (λ (u : Usable p own d m). u.lower) (stable_Π (λ κ. stable_Π (λ c. stable_→ (stable_→ (stable_→ (stable_→ (stable_kept c))))))) n;
    smaller = within_field (λ (u : Usable p own d m). u.smaller) (stable_Π (λ κ. stable_Π (λ c. stable_→ (stable_→ (stable_→ (stable_→ (stable_Π (λ h. stable_Π (λ o. stable_Π (λ vs. stable_→ (stable_→ (stable_→ (stable_kept_from c h o vs))))))))))))) n;
  }
