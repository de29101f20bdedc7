-- Families reach what they call.
use Rattle.std.proofs.Common.{◌≡◌, ◌<◌, ℕ, Bool, List, [], length, Option, Some, None, option_map, sym, ap, subst, ◌∙◌, MatchOption}
use Rattle.std.proofs.lemmas.Option.{same_Some, none-some}
use Rattle.jd_reach.specs.Paths.{ReachesBy}
use Rattle.jd_reach.specs.Paths.ReachesBy.{reaches_by_edge, reaches_itself}
use Rattle.jd_syntax.specs.JavaTrees.{JavaUnit}
use Rattle.jd_jclasses.specs.Classes.{parents}
use Rattle.jd_jclasses.specs.Methods.{IsSeen, SeesNone}
use Rattle.jd_model.specs.Cases.{Case}
use Rattle.jd_oblig.specs.KeptByObligations.{IsReachability}
use Rattle.jd_jml_meaning.specs.JmlContracts.{JmlContract}
use Rattle.jd_jml_meaning.specs.JmlCases.{JmlCase, JmlProgram, case_of, specified}
use Rattle.jd_programs.specs.Cases.{all_cases}
use Rattle.jd_programs.specs.Members.{firsts, members_along, methods_seen, own, routine_name}
use Rattle.jd_programs.specs.Programs.{IsProgram}
use Rattle.jd_declared.proofs.Lists.{In, at_place, in_filter_map}
use Rattle.jd_program_laws.proofs.Cases.{Origin, behind_formulas, comes}
use Rattle.jd_program_laws.proofs.Cases.Origin.{of_constructor, of_method}
use Rattle.jd_program_laws.proofs.Members.{Routine, own_constructor}

joined : (edges : ℕ → ℕ → Bool) (a b c : ℕ) → ReachesBy edges a b → ReachesBy edges b c → ReachesBy edges a c
joined edges a b c (reaches_itself _) q = q
joined edges a b c (reaches_by_edge _ x _ e rest) q = reaches_by_edge a x c e (joined edges x b c rest q)

module _ (units : List JavaUnit) (j : JmlProgram) (is : IsProgram units j) where
  abbrev lineage : ℕ → List ℕ
  lineage = j.program.superclasses

  -- what a class sees by a name
  pub seen_by : (c : ℕ) (name : List ℕ) (m : ℕ) (o : Option ℕ) → MatchOption o (SeesNone units c name) (IsSeen units c name) → o ≡ Some m → IsSeen units c name m
  seen_by c name m None h e = absurd (none-some m e)
  seen_by c name m (Some n) h e = subst (IsSeen units c name) (same_Some n m e) h

  pub record Seen (c m : ℕ) : Type 0 where
    pub named : ℕ
    pub among : In named (firsts units [] (members_along units lineage c))
    pub gives : is.declarations.method c (routine_name units named) ≡ Some m

  pub seen_there : (c m : ℕ) → In m (methods_seen units lineage is.declarations c) → Seen c m
  seen_there c m h =
      let r = in_filter_map (λ n. is.declarations.method c (routine_name units n)) (firsts units [] (members_along units lineage c)) m h in
      record { named = r.from; among = r.in_; gives = r.gives }

  pub sees : (c : ℕ) → c < length (parents units) → (m : ℕ) (s : Seen c m) → IsSeen units c (routine_name units s.named) m
  sees c lt m s =
      seen_by c (routine_name units s.named) m (is.declarations.method c (routine_name units s.named)) (is.are_declarations.methods_ c (routine_name units s.named)) s.gives

  -- a case is one of a method or constructor
  pub routine_of : (c m : ℕ) (x : JmlContract) → c < length (parents units) → Origin units lineage is.declarations is.family c m x → Routine units m
  routine_of c m x lt (of_constructor runs written) =
      let r = in_filter_map (λ a. (own units a).constructor) (lineage c) m runs in
      let o = own_constructor units r.from m r.gives in
      record { it = o.it; there = o.there }
  routine_of c m x lt (of_method among has) =
      let d = (sees c lt m (seen_there c m among)).declared in
      record { it = d.routine; there = d.there }

  -- a case by formulas is one of these
  pub record Known (c : Case) : Type 0 where
    pub case : JmlCase
    pub among : In case (all_cases units lineage is.declarations is.family)
    pub same : c ≡ case_of j.program case

  pub known : (κ : ℕ) (c : Case) → option_map (case_of j.program) (j.case κ) ≡ Some c → Known c
  known κ c e =
      let b = behind_formulas j.program (j.case κ) c e in
      record { case = b.0; among = at_place (all_cases units lineage is.declarations is.family) κ b.0 (sym (is.cases κ) ∙ b.1); same = b.2 }

  bounded : (κ : ℕ) (c : Case) → option_map (case_of j.program) (j.case κ) ≡ Some c → c.family < j.families
  bounded κ c e =
      let k = known κ c e in
      let from = comes units lineage is.declarations is.family k.case k.among in
      let r = routine_of from.c from.m from.x from.is_class from.origin in
      subst (λ (f : ℕ). f < j.families) (sym (ap (λ (x : Case). x.family) k.same ∙ from.is.family_)) (is.are_families.below from.m r.it r.there)

  pub reach : IsReachability (specified j)
  reach = record {
    reflexive = λ a. (is.reaches a a).1 (reaches_itself a);
    transitive = λ a b c e f. (is.reaches a c).1 (joined is.calls a b c ((is.reaches a b).0 e) ((is.reaches b c).0 f));
    bounded = bounded;
  }
