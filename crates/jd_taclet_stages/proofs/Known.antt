-- Variables that are among known ones are bound where those are.
use Rattle.std.proofs.Common.{List, [], ap, inl, inr, refl, sym, true, true≢false, unwrap_or, ⊎_elim, ◌≡◌, ◌∙◌, ◌∷◌, ℕ}
use Rattle.std.proofs.lemmas.Bool.{and_parts, eqb-true, or_cases}
use Rattle.std.proofs.lemmas.Slice.Eq.{bytes_eq-Decides}
use Rattle.std.specs.List.{list_any, slice_get}
use Rattle.jd_patterns.specs.Bindings.{Bindings}
use Rattle.jd_patterns.specs.Chosen.{AllBound, IsBound, number_of}
use Rattle.jd_patterns.specs.Variables.{ClassKind, CodeKind, ContextKind, FieldKind, FormulaKind, KindKind, LabelKind, LiteralKind, LocKind, ModalityKind, NameKind, ResultKind, ReturnKind, SimpleKind, SortKind, TermKind, VarKind, Variable}
use Rattle.jd_taclet_stages.specs.Ready.{are_among, is_same_variable}

-- ---- kinds by their numbers

abbrev all_kinds : List VarKind
all_kinds = FormulaKind ∷ TermKind ∷ LiteralKind ∷ LocKind ∷ KindKind ∷ SortKind ∷ NameKind ∷ ResultKind ∷ FieldKind ∷ ClassKind ∷ LabelKind ∷ CodeKind ∷ ReturnKind ∷ SimpleKind ∷ ModalityKind ∷ ContextKind ∷ []

abbrev kind_numbered : ℕ → VarKind
kind_numbered n = unwrap_or (slice_get all_kinds n) FormulaKind

numbered_so : (k : VarKind) → kind_numbered (number_of k) ≡ k
numbered_so FormulaKind = refl
numbered_so TermKind = refl
numbered_so LiteralKind = refl
numbered_so LocKind = refl
numbered_so KindKind = refl
numbered_so SortKind = refl
numbered_so NameKind = refl
numbered_so ResultKind = refl
numbered_so FieldKind = refl
numbered_so ClassKind = refl
numbered_so LabelKind = refl
numbered_so CodeKind = refl
numbered_so ReturnKind = refl
numbered_so SimpleKind = refl
numbered_so ModalityKind = refl
numbered_so ContextKind = refl

one_kind : (j k : VarKind) → number_of j ≡ number_of k → j ≡ k
one_kind j k e = sym (numbered_so j) ∙ (ap kind_numbered e ∙ numbered_so k)

-- ---- one variable

same_bound : (v x : Variable) (τ : Bindings) → v.0 ≡ x.0 → v.1 ≡ x.1 → IsBound x τ → IsBound v τ
same_bound v x [] k n b = absurd b
same_bound v x (e ∷ τ) k n (inl b) = inl (b.0 ∙ sym k, b.1 ∙ sym n)
same_bound v x (e ∷ τ) k n (inr b) = inr (same_bound v x τ k n b)

same_variable : (v x : Variable) (τ : Bindings) → is_same_variable v x ≡ true → IsBound x τ → IsBound v τ
same_variable v x τ e b =
    let h = and_parts _ _ e in
    same_bound v x τ (one_kind v.0 x.0 (eqb-true (number_of v.0) (number_of x.0) h.0)) ((bytes_eq-Decides v.1 x.1).0 h.1) b

one_of_known : (v : Variable) (known : List Variable) (τ : Bindings) → list_any (is_same_variable v) known ≡ true → AllBound known τ → IsBound v τ
one_of_known v [] τ e a = absurd (true≢false (sym e))
one_of_known v (x ∷ known) τ e a = ⊎_elim (λ h. same_variable v x τ h a.0) (λ h. one_of_known v known τ h a.1) (or_cases (is_same_variable v x) (list_any (is_same_variable v) known) e)

-- ---- lists

pub known_bound : (vs known : List Variable) (τ : Bindings) → are_among vs known ≡ true → AllBound known τ → AllBound vs τ
known_bound [] known τ e a = tt
known_bound (v ∷ vs) known τ e a =
    let h = and_parts (list_any (is_same_variable v) known) (are_among vs known) e in
    (one_of_known v known τ h.0 a, known_bound vs known τ h.1 a)
