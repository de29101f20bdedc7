-- Where the cases of a program come from.
use Rattle.std.proofs.Common.{◌≡◌, ◌⊎◌, inl, inr, ⊎_elim, ℕ, suc, ◌+◌, ◌<◌, List, [], ◌∷◌, length, flat_map, Option, Some, None, option_map, refl, sym, ap, subst, arith}
use Rattle.std.specs.List.{range_with_len}
use Rattle.std.proofs.lemmas.Option.{same_Some, none-some}
use Rattle.jd_syntax.specs.JavaTrees.{JavaUnit}
use Rattle.jd_jclasses.specs.Classes.{parents}
use Rattle.jd_model.specs.Cases.{Case}
use Rattle.jd_model.specs.Programs.{Program}
use Rattle.jd_bodies.specs.Declarations.{Declarations}
use Rattle.jd_jml_meaning.specs.JmlContracts.{JmlContract}
use Rattle.jd_jml_meaning.specs.JmlCases.{JmlCase, case_of}
use Rattle.jd_programs.specs.Cases.{all_cases, cases_of, constructor_cases, contracts_in, method_cases, numbered, written_at}
use Rattle.jd_programs.specs.Members.{constructors_run, methods_seen}
use Rattle.jd_declared.proofs.Lists.{In, in_either, in_left, in_right}
use Rattle.jd_program_laws.proofs.Lists.{from_flat, from_range, in_flat, in_range}

module _ (units : List JavaUnit) (lineage : ℕ → List ℕ) (d : Declarations) (family : ℕ → ℕ) where
  -- a case of a class, for a method or constructor, with this contract
  pub record IsCaseFor (c m : ℕ) (x : JmlContract) (k : JmlCase) : Type 0 where
    pub contract : k.contract ≡ x
    pub class : k.class ≡ c
    pub method : k.method ≡ m
    pub body : k.body ≡ m
    pub family_ : k.family ≡ family m

  pub from_numbered : (n c m : ℕ) (xs : List JmlContract) (k : JmlCase) → In k (numbered units lineage d family n c m xs) → (x : JmlContract) × In x xs × IsCaseFor c m x k
  from_numbered n c m [] k h = absurd h
  from_numbered n c m (x ∷ xs) k (inl same) =
      (x, inl refl, record { contract = ap (λ (e : JmlCase). e.contract) same; class = ap (λ (e : JmlCase). e.class) same; method = ap (λ (e : JmlCase). e.method) same; body = ap (λ (e : JmlCase). e.body) same; family_ = ap (λ (e : JmlCase). e.family) same })
  from_numbered n c m (x ∷ xs) k (inr behind) = let r = from_numbered (suc n) c m xs k behind in (r.0, inr r.1, r.2)

  pub in_numbered : (n c m : ℕ) (xs : List JmlContract) (x : JmlContract) → In x xs → (k : JmlCase) × In k (numbered units lineage d family n c m xs) × IsCaseFor c m x k
  in_numbered n c m [] x h = absurd h
  in_numbered n c m (y ∷ ys) x (inl same) =
      (record { contract = y; class = c; method = m; number = n; body = m; family = family m }, inl refl, record { contract = sym same; class = refl; method = refl; body = refl; family_ = refl })
  in_numbered n c m (y ∷ ys) x (inr behind) = let r = in_numbered (suc n) c m ys x behind in (r.0, inr r.1, r.2)

  -- a constructor's case, or a method's
  pub data Origin (c m : ℕ) (x : JmlContract) : Type 0 where
    of_constructor : In m (constructors_run units lineage c) → In x (written_at units lineage d m) → Origin c m x
    of_method : In m (methods_seen units lineage d c) → In x (contracts_in units lineage d c m) → Origin c m x

  pub record Comes (k : JmlCase) : Type 0 where
    pub c : ℕ
    pub m : ℕ
    pub x : JmlContract
    pub is_class : c < length (parents units)
    pub is : IsCaseFor c m x k
    pub origin : Origin c m x

  pub comes : (k : JmlCase) → In k (all_cases units lineage d family) → Comes k
  comes k h =
      let of = from_flat (cases_of units lineage d family) (range_with_len 0 (length (parents units))) k h in
      let below = from_range 0 (length (parents units)) of.0 of.1 in
      let lt : of.0 < length (parents units) = omega (arith, below) in
      ⊎_elim
      (λ first.
      let r = from_flat (constructor_cases units lineage d family of.0) (constructors_run units lineage of.0) k first in
      let s = from_numbered 1 of.0 r.0 (written_at units lineage d r.0) k r.2 in
      record { c = of.0; m = r.0; x = s.0; is_class = lt; is = s.2; origin = of_constructor r.1 s.1 })
      (λ second.
      let r = from_flat (method_cases units lineage d family of.0) (methods_seen units lineage d of.0) k second in
      let s = from_numbered 1 of.0 r.0 (contracts_in units lineage d of.0 r.0) k r.2 in
      record { c = of.0; m = r.0; x = s.0; is_class = lt; is = s.2; origin = of_method r.1 s.1 })
      (in_either k (flat_map (constructor_cases units lineage d family of.0) (constructors_run units lineage of.0)) (flat_map (method_cases units lineage d family of.0) (methods_seen units lineage d of.0)) of.2)

  of_class : (c : ℕ) (k : JmlCase) → c < length (parents units) → In k (cases_of units lineage d family c) → In k (all_cases units lineage d family)
  of_class c k lt h =
      let same : 0 + c ≡ c = omega arith in
      in_flat (cases_of units lineage d family) (range_with_len 0 (length (parents units))) c k (subst (λ i. In i (range_with_len 0 (length (parents units)))) same (in_range 0 (length (parents units)) c lt)) h

  pub there_is : (c m : ℕ) (x : JmlContract) → c < length (parents units) → Origin c m x → (k : JmlCase) × In k (all_cases units lineage d family) × IsCaseFor c m x k
  there_is c m x lt (of_constructor runs written) =
      let r = in_numbered 1 c m (written_at units lineage d m) x written in
      (r.0, of_class c r.0 lt (in_left r.0 (flat_map (constructor_cases units lineage d family c) (constructors_run units lineage c)) (flat_map (method_cases units lineage d family c) (methods_seen units lineage d c)) (in_flat (constructor_cases units lineage d family c) (constructors_run units lineage c) m r.0 runs r.1)), r.2)
  there_is c m x lt (of_method seen has) =
      let r = in_numbered 1 c m (contracts_in units lineage d c m) x has in
      (r.0, of_class c r.0 lt (in_right r.0 (flat_map (constructor_cases units lineage d family c) (constructors_run units lineage c)) (flat_map (method_cases units lineage d family c) (methods_seen units lineage d c)) (in_flat (method_cases units lineage d family c) (methods_seen units lineage d c) m r.0 seen r.1)), r.2)

-- ---- cases by formulas are those of JML

pub behind_formulas : (p : Program) (o : Option JmlCase) (c : Case) → option_map (case_of p) o ≡ Some c → (k : JmlCase) × (o ≡ Some k) × (c ≡ case_of p k)
behind_formulas p None c e = absurd (none-some c e)
behind_formulas p (Some k) c e = (k, refl, sym (same_Some (case_of p k) c e))
