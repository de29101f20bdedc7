-- When a call ends with its report, and where reading and writing do not fail.
use Rattle.std.proofs.Common.{◌≡◌, ◌⊎◌, inl, inr, ℕ, List, [], ◌∷◌, Option, Some, None, sym, refl, subst, ◌∙◌}
use Rattle.std.specs.Prelude.{IsSome}
use Rattle.std.specs.List.{Contains}
use Rattle.std.proofs.lemmas.List.Elements.{Contains-append_left, Contains-append_right, Contains-push}
use Rattle.jd_base.specs.Faults.{Rose}
use Rattle.jd_base.specs.InMemory.{contents_of}
use Rattle.jd_model.specs.Sequents.{PlainSequent}
use Rattle.jd_sequent.specs.Trees.{PlainStep}
use Rattle.jd_sequent.specs.Obligations.{PlainTask}
use Rattle.jd_answer.specs.Words.{command_words}
use Rattle.jd_answer.specs.Answers.{AreTold, IsTold}
use Rattle.jd_answer.specs.ReadFaults.{IsNamed, IsReadFault}
use Rattle.jd_answer.specs.Statuses.{IsWritten}
use Rattle.jd_answer.specs.declared.status.Status.{Status}
use Rattle.jd_answer.specs.declared.status.Status.TheVariants.{Done, NotAccepted, Usage, ReadFault, WriteFault, RefusedSource, RefusedScript, Limit, NoMemory}
use Rattle.jdl.specs.Outcomes.{IsSourceRefused, IsScriptRefused, IsPastLimit}
use Rattle.jdl.specs.Completeness.{IsInOrder, NoCountRose, MayEndInOrder, AreHeld}

-- an answer that is written is no fault
pub written_is_no_fault : (status : Status) → IsWritten status → (status ≡ ReadFault) ⊎ (status ≡ WriteFault) → ⊥
written_is_no_fault status written (inl is) = subst IsWritten is written
written_is_no_fault status written (inr is) = subst IsWritten is written

-- a call that has an answer does not end with a fault of reading
pub no_read_fault : (ended status : Status) → IsWritten status → (ended ≡ status) ⊎ (ended ≡ WriteFault) → ended ≡ ReadFault → ⊥
no_read_fault ended status written (inl same) is = written_is_no_fault status written (inl (sym same ∙ is))
no_read_fault ended status written (inr fault) is = absurd cc

module _ (leads : PlainTask → PlainSequent → PlainStep → List PlainSequent → Type 0) (causes : PlainTask → PlainSequent → PlainStep → ℕ → Type 0) (words : List (List ℕ)) (contents : List ℕ → Option (List ℕ)) (before after : List ℕ → ℕ) (sink_before sink_after : ℕ) where
  -- a status whose causes are all excluded is one of the others
  pub ends_in_order : (ended : Status) → IsInOrder leads causes words contents → NoCountRose words before after sink_before sink_after → (ended ≡ Usage → command_words words ≡ None) → (ended ≡ ReadFault → IsReadFault words before after) → (ended ≡ WriteFault → Rose sink_before sink_after) → (ended ≡ RefusedSource → IsSourceRefused words contents) → (ended ≡ RefusedScript → IsScriptRefused words contents) → (ended ≡ Limit → IsPastLimit leads causes words contents) → MayEndInOrder ended
  ends_in_order Done order calm usage read write source script limit = tt
  ends_in_order NotAccepted order calm usage read write source script limit = tt
  ends_in_order Usage order calm usage read write source script limit = order.command (usage refl)
  ends_in_order ReadFault order calm usage read write source script limit = calm.reading (read refl)
  ends_in_order WriteFault order calm usage read write source script limit = calm.writing (write refl)
  ends_in_order RefusedSource order calm usage read write source script limit = order.source (source refl)
  ends_in_order RefusedScript order calm usage read write source script limit = order.script_ (script refl)
  ends_in_order Limit order calm usage read write source script limit = order.limits (limit refl)
  ends_in_order NoMemory order calm usage read write source script limit = tt

-- ---- in memory

found : (o : Option (List ℕ)) → IsSome o → (bytes : List ℕ) × (o ≡ Some bytes)
found (Some bytes) is = (bytes, refl)
found None is = absurd cc

module _ (contents : List ℕ → Option (List ℕ)) where
  each_told : (names : List (List ℕ)) → ((name : List ℕ) → Contains names name → IsSome (contents name)) → AreTold contents names
  each_told [] held = tt
  each_told (n ∷ ns) held =
      let here = found (contents n) (held n (Contains-append_left (n ∷ []) ns n (Contains-push [] n))) in
      (here.0, here.1, λ within. each_told ns (λ name among. held name (Contains-append_right (n ∷ []) ns name among)))

named_so : (words : List (List ℕ)) (proof : List ℕ) (names : List (List ℕ)) (name : List ℕ) → command_words words ≡ Some (proof, names) → Contains (proof ∷ names) name → IsNamed words name
named_so words proof names name are among = record { proof = proof; names = names; words_ = are; among = among }

-- files that are held are told
pub held_is_told : (words : List (List ℕ)) (files : List (List ℕ × List ℕ)) → AreHeld words files → IsTold words (contents_of files)
held_is_told words files held proof names are few =
    let here = found (contents_of files proof) (held proof (named_so words proof names proof are (Contains-append_left (proof ∷ []) names proof (Contains-push [] proof)))) in
    (here.0, here.1, λ within. each_told (contents_of files) names (λ name among. held name (named_so words proof names name are (Contains-append_right (proof ∷ []) names name among))))
