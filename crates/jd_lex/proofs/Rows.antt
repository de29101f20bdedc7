-- Parts in a row: how they grow along a text, and that a text has one row of them.
use Rattle.std.proofs.Common.{◌≡◌, ℕ, ◌+◌, ◌<◌, List, [], ◌∷◌, ◌++◌, length, take, drop, refl, sym, ap, subst, ◌∙◌, append_assoc, arith}
use Rattle.std.proofs.lemmas.List.{append-nil, take-append-drop, length-take, length-drop, append_cancel_left}
use Rattle.jd_lex.specs.Parts as plain
use Rattle.jd_lex.specs.Parts.{Part, Fault}
use Rattle.jd_lex.specs.Lexing.{Parts, Faults, Reach, tokens_of, Leads, Whole, Stops}
use Rattle.jd_lex.specs.View.{tokens_view, Refuses, Took, Added}
use Rattle.jd_lex.specs.declared.token.Token.{Token}
use Rattle.jd_lex.specs.declared.token.LexRefusal.{LexRefusal}
use Rattle.jd_lex.specs.declared.token.LexRefusal.TheVariants as refusals

tokens_more : (ps : List Part) (p : Part) → tokens_of (ps ++ p ∷ []) ≡ tokens_of ps ++ p.tokens
tokens_more [] p = append-nil p.tokens
tokens_more (q ∷ ps) p = ap (λ t. q.tokens ++ t) (tokens_more ps p) ∙ sym (append_assoc q.tokens (tokens_of ps) p.tokens)

-- nothing longer than nothing is nothing
pub not_nil : (text behind : List ℕ) → 0 < length text → [] ≡ text ++ behind → ⊥
not_nil [] behind lt e = let no : ⊥ = omega arith in no
not_nil (b ∷ text) behind lt e = let no : ⊥ = omega (arith, ap length e) in no

module _ (R : Parts) where
  reach_more : (ps : List Part) (from : ℕ) (bytes : List ℕ) (at : ℕ) (rest : List ℕ) (p : Part) (behind : List ℕ) → Reach R ps from bytes at rest
      → 0 < length p.text → rest ≡ p.text ++ behind → R at p behind → Reach R (ps ++ p ∷ []) from bytes (at + length p.text) behind
  reach_more [] from bytes at rest p behind h some is part =
      (some, behind, h.1 ∙ is, subst (λ n. R n p behind) (sym h.0) part, (ap (λ n. n + length p.text) h.0, refl))
  reach_more (q ∷ ps) from bytes at rest p behind (long, after, joined, here, more) some is part =
      (long, after, joined, here, reach_more ps (from + length q.text) after at rest p behind more some is part)

  -- the tokens added so far are those of parts that lead to the rest
  pub record Front (from : ℕ) (bytes : List ℕ) (old new : List Token) (at : ℕ) (rest : List ℕ) : Type 0 where
    pub tokens : List plain.Token
    pub added : tokens_view new ≡ tokens_view old ++ tokens
    pub leads : Leads R from bytes tokens at rest
    pub long : at + length rest ≡ from + length bytes

  pub front_none : (from : ℕ) (bytes : List ℕ) (old : List Token) → Front from bytes old old from bytes
  front_none from bytes old = record {
    tokens = [];
    added = sym (append-nil (tokens_view old));
    leads = record { parts = []; reach = (refl, refl); given = refl };
    long = refl;
  }

  pub front_step : (from : ℕ) (bytes : List ℕ) (old mid new : List Token) (at : ℕ) (rest : List ℕ) (n : ℕ) → Front from bytes old mid at rest → Took R at rest mid new n
      → Front from bytes old new (at + n) (drop n rest)
  front_step from bytes old mid new at rest n f t =
      let part : Part = record { text = take n rest; tokens = t.tokens } in
      let taken : length (take n rest) ≡ n = length-take n rest ∙ omega (arith, t.within) in
      let left = length-drop n rest in
      record {
        tokens = f.tokens ++ t.tokens;
        added = t.added ∙ (ap (λ ts. ts ++ t.tokens) f.added ∙ append_assoc (tokens_view old) f.tokens t.tokens);
        leads = record {
          parts = f.leads.parts ++ part ∷ [];
          reach = subst (λ m. Reach R (f.leads.parts ++ part ∷ []) from bytes (at + m) (drop n rest)) taken
              (reach_more f.leads.parts from bytes at rest part (drop n rest) f.leads.reach (subst (λ m. 0 < m) (sym taken) t.some) (sym (take-append-drop n rest)) t.part);
          given = ap (λ ts. ts ++ t.tokens) f.leads.given ∙ sym (tokens_more f.leads.parts part);
        };
        long = omega (arith, f.long, left, t.within);
      }

  pub front_end : (from : ℕ) (bytes : List ℕ) (old new : List Token) (at : ℕ) (rest : List ℕ) → length rest ≡ 0 → Front from bytes old new at rest → Added R from bytes old new
  front_end from bytes old new at [] e f = record { tokens = f.tokens; added = f.added; whole = record { end = at; leads = f.leads } }
  front_end from bytes old new at (b ∷ rest) e f = let no : ⊥ = omega arith in absurd no

  pub front_stop : (F : Faults) (from : ℕ) (bytes : List ℕ) (old new : List Token) (at : ℕ) (rest : List ℕ) (e : LexRefusal) → Front from bytes old new at rest
      → Refuses (F at rest) e → Refuses (Stops R F from bytes) e
  front_stop F from bytes old new at rest (refusals.BadByte file n) f h = (h.0, record { tokens = f.tokens; at = at; rest = rest; leads = f.leads; here = h.1 })
  front_stop F from bytes old new at rest (refusals.OpenComment file n) f h = (h.0, record { tokens = f.tokens; at = at; rest = rest; leads = f.leads; here = h.1 })
  front_stop F from bytes old new at rest (refusals.BigLiteral file n) f h = (h.0, record { tokens = f.tokens; at = at; rest = rest; leads = f.leads; here = h.1 })
  front_stop F from bytes old new at rest refusals.NoMemory f h = tt

-- ---- one row

-- two parts at the head of a text are the same
abbrev pub OnePart : Parts → Type 0
OnePart R = (at : ℕ) (p q : Part) (behind after : List ℕ) → 0 < length p.text → 0 < length q.text → R at p behind → R at q after
    → p.text ++ behind ≡ q.text ++ after → (p.text ≡ q.text) × (p.tokens ≡ q.tokens)

-- no part stands at the head
abbrev pub Stuck : Parts → ℕ → List ℕ → Type 0
Stuck R at rest = (p : Part) (behind : List ℕ) → 0 < length p.text → rest ≡ p.text ++ behind → R at p behind → ⊥

-- a fault is where no part is, and one
pub record OneFault (R : Parts) (F : Faults) : Type 0 where
  pub stuck : (at : ℕ) (rest : List ℕ) (fault : Fault) → F at rest fault → Stuck R at rest
  pub some : (at : ℕ) (fault : Fault) → F at [] fault → ⊥
  pub only : (at : ℕ) (rest : List ℕ) (fault other : Fault) → F at rest fault → F at rest other → fault ≡ other

module _ (R : Parts) (one : OnePart R) where
  abbrev make : List ℕ → List plain.Token → Part
  make text tokens = record { text = text; tokens = tokens }

  pub record Meet (ps qs : List Part) (at at' : ℕ) (rest rest' : List ℕ) : Type 0 where
    pub parts : ps ≡ qs
    pub place : at ≡ at'
    pub left : rest ≡ rest'

  pub one_end : (ps qs : List Part) (from : ℕ) (bytes : List ℕ) (at : ℕ) (rest : List ℕ) (at' : ℕ) (rest' : List ℕ) → Reach R ps from bytes at rest → Reach R qs from bytes at' rest'
      → Stuck R at rest → Stuck R at' rest' → Meet ps qs at at' rest rest'
  one_end [] [] from bytes at rest at' rest' h k s t = record { parts = refl; place = sym h.0 ∙ k.0; left = sym h.1 ∙ k.1 }
  one_end [] (q ∷ qs) from bytes at rest at' rest' h (some, behind, is, part, more) s t =
      absurd (s q behind some (sym h.1 ∙ is) (subst (λ n. R n q behind) h.0 part))
  one_end (p ∷ ps) [] from bytes at rest at' rest' (some, behind, is, part, more) k s t =
      absurd (t p behind some (sym k.1 ∙ is) (subst (λ n. R n p behind) k.0 part))
  one_end (p ∷ ps) (q ∷ qs) from bytes at rest at' rest' (some, behind, is, part, more) (some', behind', is', part', more') s t =
      let joined : p.text ++ behind ≡ q.text ++ behind' = sym is ∙ is' in
      let e = one from p q behind behind' some some' part part' joined in
      let left : behind ≡ behind' = append_cancel_left q.text behind behind' (ap (λ u. u ++ behind) (sym e.0) ∙ joined) in
      let other : Reach R qs (from + length p.text) behind at' rest' =
      subst (λ n. Reach R qs n behind at' rest') (ap (λ u. from + length u) (sym e.0)) (subst (λ u. Reach R qs (from + length q.text) u at' rest') (sym left) more') in
      let m = one_end ps qs (from + length p.text) behind at rest at' rest' more other s t in
      let first : p ≡ q = ap (λ u. make u p.tokens) e.0 ∙ ap (make q.text) e.1 in
      record { parts = ap (λ u. u ∷ ps) first ∙ ap (λ us. q ∷ us) m.parts; place = m.place; left = m.left }

  pub stuck_nil : (at : ℕ) → Stuck R at []
  stuck_nil at p behind some e part = not_nil p.text behind some e

  pub one_whole : (from : ℕ) (bytes : List ℕ) (xs ys : List plain.Token) → Whole R from bytes xs → Whole R from bytes ys → xs ≡ ys
  one_whole from bytes xs ys h k =
      let m = one_end h.leads.parts k.leads.parts from bytes h.end [] k.end [] h.leads.reach k.leads.reach (stuck_nil h.end) (stuck_nil k.end) in
      h.leads.given ∙ (ap tokens_of m.parts ∙ sym k.leads.given)

  module _ (F : Faults) (fault : OneFault R F) where
    pub one_stop : (from : ℕ) (bytes : List ℕ) (f g : Fault) → Stops R F from bytes f → Stops R F from bytes g → f ≡ g
    one_stop from bytes f g h k =
        let m = one_end h.leads.parts k.leads.parts from bytes h.at h.rest k.at k.rest h.leads.reach k.leads.reach (fault.stuck h.at h.rest f h.here) (fault.stuck k.at k.rest g k.here) in
        fault.only h.at h.rest f g h.here (subst (λ n. F n h.rest g) (sym m.place) (subst (λ r. F k.at r g) (sym m.left) k.here))

    pub not_both : (from : ℕ) (bytes : List ℕ) (xs : List plain.Token) (f : Fault) → Whole R from bytes xs → Stops R F from bytes f → ⊥
    not_both from bytes xs f h k =
        let m = one_end h.leads.parts k.leads.parts from bytes h.end [] k.at k.rest h.leads.reach k.leads.reach (stuck_nil h.end) (fault.stuck k.at k.rest f k.here) in
        fault.some k.at f (subst (λ r. F k.at r f) (sym m.left) k.here)
