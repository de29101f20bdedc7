-- The tables of one class stand for its program.
use Rattle.std.proofs.Common.{List, Option, Some, ap, arith, refl, reverse, subst, suc, sym, true, zero, ◌<◌, ◌≡◌, ◌≤◌, ◌∷◌, ℕ, []}
use Rattle.std.specs.List.{slice_get}
use Rattle.std.specs.Option.{option_and_then, unwrap_or}
use Rattle.jd_classes.specs.Fields.{IsLineage}
use Rattle.jd_classes.specs.Fields.IsLineage.{extends, topmost}
use Rattle.jd_jinfos.specs.Infos.{PlainMethodInfo}
use Rattle.jd_model.specs.Cases.{SpecifiedProgram}
use Rattle.jd_model.specs.Programs.{Body, Program, is_subclass}
use Rattle.jd_names.specs.Tables.{sees}
use Rattle.jd_task_classes.specs.Classes.{methods_of, parents_in}
use Rattle.jd_task_classes.specs.Methods.{MethodsStandFor}
use Rattle.jd_task_classes.specs.OneClass.{HaveResults, lineages, one_class, one_class_tables, program_of, the_class}
use Rattle.jd_task_classes.specs.ResolvedCalls.{CallsAreResolved}
use Rattle.jd_task_classes.specs.Standing.{AreItsClasses, AreItsFields, AreItsMethods, ClassesStandFor}

module _ (methods : List PlainMethodInfo) where
  abbrev ps : List (Option ℕ)
  ps = parents_in (one_class_tables methods)

  object : IsLineage ps 0 (0 ∷ [])
  object = topmost 0 refl

  throwable : IsLineage ps 1 (1 ∷ 0 ∷ [])
  throwable = extends 0 1 (0 ∷ []) refl object

  exception : IsLineage ps 2 (2 ∷ 1 ∷ 0 ∷ [])
  exception = extends 1 2 (1 ∷ 0 ∷ []) refl throwable

  unchecked : IsLineage ps 3 (3 ∷ 2 ∷ 1 ∷ 0 ∷ [])
  unchecked = extends 2 3 (2 ∷ 1 ∷ 0 ∷ []) refl exception

  below_unchecked : (c : ℕ) → slice_get ps c ≡ Some (Some 3) → IsLineage ps c (c ∷ 3 ∷ 2 ∷ 1 ∷ 0 ∷ [])
  below_unchecked c e = extends 3 c (3 ∷ 2 ∷ 1 ∷ 0 ∷ []) e unchecked

  lines : (c : ℕ) → c < 11 → IsLineage ps c (reverse (unwrap_or (slice_get lineages c) []))
  lines zero lt = object
  lines (suc zero) lt = throwable
  lines (suc (suc zero)) lt = exception
  lines (suc (suc (suc zero))) lt = unchecked
  lines (suc (suc (suc (suc zero)))) lt = below_unchecked 4 refl
  lines (suc (suc (suc (suc (suc zero))))) lt = below_unchecked 5 refl
  lines (suc (suc (suc (suc (suc (suc zero)))))) lt = below_unchecked 6 refl
  lines (suc (suc (suc (suc (suc (suc (suc zero))))))) lt = below_unchecked 7 refl
  lines (suc (suc (suc (suc (suc (suc (suc (suc zero)))))))) lt = below_unchecked 8 refl
  lines (suc (suc (suc (suc (suc (suc (suc (suc (suc zero))))))))) lt = extends 6 9 (6 ∷ 3 ∷ 2 ∷ 1 ∷ 0 ∷ []) refl (below_unchecked 6 refl)
  lines (suc (suc (suc (suc (suc (suc (suc (suc (suc (suc zero)))))))))) lt = extends 0 10 (0 ∷ []) refl object
  lines (suc (suc (suc (suc (suc (suc (suc (suc (suc (suc (suc c))))))))))) lt = absurd (omega (arith, lt))

  none : (c : ℕ) → 11 ≤ c → unwrap_or (slice_get lineages c) [] ≡ []
  none zero le = absurd (omega (arith, le))
  none (suc zero) le = absurd (omega (arith, le))
  none (suc (suc zero)) le = absurd (omega (arith, le))
  none (suc (suc (suc zero))) le = absurd (omega (arith, le))
  none (suc (suc (suc (suc zero)))) le = absurd (omega (arith, le))
  none (suc (suc (suc (suc (suc zero))))) le = absurd (omega (arith, le))
  none (suc (suc (suc (suc (suc (suc zero)))))) le = absurd (omega (arith, le))
  none (suc (suc (suc (suc (suc (suc (suc zero))))))) le = absurd (omega (arith, le))
  none (suc (suc (suc (suc (suc (suc (suc (suc zero)))))))) le = absurd (omega (arith, le))
  none (suc (suc (suc (suc (suc (suc (suc (suc (suc zero))))))))) le = absurd (omega (arith, le))
  none (suc (suc (suc (suc (suc (suc (suc (suc (suc (suc zero)))))))))) le = absurd (omega (arith, le))
  none (suc (suc (suc (suc (suc (suc (suc (suc (suc (suc (suc c))))))))))) le = refl

  module _ (body_ : ℕ → Option Body) where
    abbrev p : Program
    p = program_of methods body_

    -- no class stands below it
    pub alone : (c : ℕ) → is_subclass p c the_class ≡ true → c ≡ the_class
    alone zero e = absurd cc
    alone (suc zero) e = absurd cc
    alone (suc (suc zero)) e = absurd cc
    alone (suc (suc (suc zero))) e = absurd cc
    alone (suc (suc (suc (suc zero)))) e = absurd cc
    alone (suc (suc (suc (suc (suc zero))))) e = absurd cc
    alone (suc (suc (suc (suc (suc (suc zero)))))) e = absurd cc
    alone (suc (suc (suc (suc (suc (suc (suc zero))))))) e = absurd cc
    alone (suc (suc (suc (suc (suc (suc (suc (suc zero)))))))) e = absurd cc
    alone (suc (suc (suc (suc (suc (suc (suc (suc (suc zero))))))))) e = absurd cc
    alone (suc (suc (suc (suc (suc (suc (suc (suc (suc (suc zero)))))))))) e = refl
    alone (suc (suc (suc (suc (suc (suc (suc (suc (suc (suc (suc c))))))))))) e = absurd cc

    classes : AreItsClasses (one_class_tables methods) p
    classes = record {
      superclasses = lines;
      no_class = none;
      object = refl;
      throwable = refl;
      null_pointer = refl;
      arithmetic = refl;
      bounds = refl;
      cast = refl;
      negative_size = refl;
    }

    fields : AreItsFields (one_class_tables methods) p
    fields = record { types = λ f. refl; has_field = λ c f. refl }

    seen : (c m : ℕ) (i : PlainMethodInfo) → slice_get methods m ≡ Some i → p.lookup c m ≡ sees (one_class_tables methods) c i.name
    seen c m i e = ap (option_and_then (λ (j : PlainMethodInfo). sees (one_class_tables methods) c j.name)) e

    pub one_class_stands : HaveResults methods body_ → (q : SpecifiedProgram) → q.setting.program ≡ p → MethodsStandFor (methods_of (one_class methods)) q → CallsAreResolved q → ClassesStandFor (one_class methods) q
    one_class_stands results q is cases calls = record {
      classes = subst (AreItsClasses (one_class_tables methods)) (sym is) classes;
      fields = subst (AreItsFields (one_class_tables methods)) (sym is) fields;
      methods = subst (AreItsMethods (one_class_tables methods)) (sym is) (record { lookup = λ c m i lt e. seen c m i e; results = results });
      cases = cases;
      calls = calls;
    }
