use Rattle.std.proofs.Common.{◌≡◌, ◌<◌, ℕ, Bool, List, true, false, refl, length, ap, sym, subst, inl, inr, arith}
use Rattle.std.specs.List.{Contains}
use Rattle.std.proofs.lemmas.Bool.{cases_lt, both_ways}
use Rattle.std.proofs.lemmas.List.Elements.{Contains-push}
use Rattle.jd_reach.specs.Rows.{row_bit, within}
use Rattle.jd_reach.specs.States.{HasVisited}
use Rattle.jd_reach.proofs.Opening.{none_opened, opened_state, seen_is_finished, still_seen}
use Rattle.jd_reach.proofs.search.Search.run.Goals as goal

pub loop-position-init : goal.loop-position-init
loop-position-init c =
    let edges : ℕ → ℕ → Bool = within c.args.nodes (row_bit c.args.width c.args.words.now) in
    let unseen : HasVisited c.args.width c.args.self.now c.args.root → ⊥ =
    λ seen. elim seen [
      | inl closed ↦ both_ways _ c.requires.unseen closed
      | inr there ↦ omega (arith, there.1, c.requires.none)
    ] in
    record {
      state = opened_state c.args.nodes c.args.width edges c.args.self.now c.visit.new.self c.args.root c.requires.state c.in_ok-visit.ensures c.requires.root unseen
          (λ i inside. absurd (omega (arith, inside, c.requires.none)));
      root = inr (subst (λ (l : List ℕ). Contains l c.args.root) (sym c.in_ok-visit.ensures.opened) (Contains-push c.args.self.now.opened.items c.args.root));
      kept = λ v below closed. still_seen c.args.nodes c.args.width edges c.args.self.now c.visit.new.self c.args.root c.requires.state c.in_ok-visit.ensures v (inl closed);
    }

-- no frame is left
no_frame : (xs ys : List ℕ) → ys ≡ xs → (0 < length ys → false ≡ true) → length xs ≡ 0
no_frame xs ys same some =
    elim (cases_lt 0 (length ys)) [
      | inl more ↦ absurd (both_ways false refl (some more))
      | inr empty ↦ omega (arith, empty, ap length same)
    ]

pub returns-clause-none : goal.returns-clause-none
returns-clause-none c =
    none_opened c.args.nodes c.args.width (within c.args.nodes (row_bit c.args.width c.args.words.now)) c.loop-position.self c.loop-position.invariant.state
    (no_frame c.loop-position.self.frames.items c.deref.result.now c.deref.ensures.value c.in_default.ensures.some)

pub returns-clause-finished : goal.returns-clause-finished
returns-clause-finished c =
    seen_is_finished c.args.nodes c.args.width (within c.args.nodes (row_bit c.args.width c.args.words.now)) c.loop-position.self c.loop-position.invariant.state
    (no_frame c.loop-position.self.frames.items c.deref.result.now c.deref.ensures.value c.in_default.ensures.some) c.args.root c.loop-position.invariant.root

pub returns-clause-kept : goal.returns-clause-kept
returns-clause-kept c v below closed =
    seen_is_finished c.args.nodes c.args.width (within c.args.nodes (row_bit c.args.width c.args.words.now)) c.loop-position.self c.loop-position.invariant.state
    (no_frame c.loop-position.self.frames.items c.deref.result.now c.deref.ensures.value c.in_default.ensures.some) v (c.loop-position.invariant.kept v below closed)
