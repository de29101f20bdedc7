-- What a stage answers once all is matched, or not.
use Rattle.std.proofs.Common.{Bool, Err, IfOk, Ok, Option, ap, false, refl, subst, sym, true, ◌≡◌}
use Rattle.std.specs.declared.result.Result.{Result}
use Rattle.jd_base.specs.declared.memory.NoMemory.{NoMemory}
use Rattle.jd_patterns.specs.Bindings.{Bindings}
use Rattle.jd_schema_matching.specs.Bound.{answered}
use Rattle.jd_sequent.specs.declared.bad.Bad.{Bad}
use Rattle.jd_sequent.specs.declared.bad.Bad.TheVariants as causes
use Rattle.jd_taclet_matching.specs.Answers.{Answers, IsRefusal, ended}
use Rattle.jd_taclet_stages.specs.Stages.{Refuses, going}

refused : (b : Bad) → IsRefusal b (Refuses b)
refused causes.UnknownRule = refl
refused causes.NoFormula = refl
refused causes.NoPlace = refl
refused causes.WrongPlaceKind = refl
refused causes.NoMatch = refl
refused causes.MissingInst = refl
refused causes.BadInst = refl
refused causes.NoAssume = refl
refused causes.NotFresh = refl
refused causes.SideCondition = refl
refused causes.NoContract = refl
refused causes.NoDecreases = refl
refused causes.TooLarge = refl
refused causes.NoMemory = tt

by_whole : {T : Type 0} (view : T → Bindings) (whole : Bool) (x : T) (b : Bad) (o : Option Bindings) → answered whole (view x) ≡ o → Answers view (ended (Ok whole) x b) (going b o)
by_whole view true x b o is = sym (ap (going b) is)
by_whole view false x b o is = subst (λ (p : Option Bindings). IsRefusal b (going b p)) is (refused b)

pub answers_of : {T : Type 0} (view : T → Bindings) (r : Result Bool NoMemory) (x : T) (b : Bad) (o : Option Bindings) → IfOk r (λ whole. answered whole (view x) ≡ o) → Answers view (ended r x b) (going b o)
answers_of view (Ok whole) x b o is = by_whole view whole x b o is
answers_of view (Err e) x b o is = tt

-- the answer of a call
pub answered_by : {T : Type 0} (view : T → Bindings) (r : Result Bool NoMemory) (x : T) (b : Bad) (o : Option Bindings) (e : Result T Bad) → e ≡ ended r x b → IfOk r (λ whole. answered whole (view x) ≡ o) → Answers view e (going b o)
answered_by {T} view r x b o e is told = subst (λ (a : Result T Bad). Answers view a (going b o)) (sym is) (answers_of view r x b o told)
