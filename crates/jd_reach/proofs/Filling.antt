-- The row of a group, as it is made.
use Rattle.std.proofs.Common.{◌≡◌, ◌≢◌, ℕ, ◌+◌, ◌<◌, ◌≤◌, ◌&&◌, ◌||◌, ◌==◌, ◌⊎◌, Bool, true, false, List, refl, sym, ◌∙◌, subst, inl, inr, arith, eq-eqb, eqb-true}
use Rattle.std.specs.List.{Contains}
use Rattle.std.proofs.lemmas.Bool.{cases_eq, cases_lt, and_parts, and_from, or_cases, or_left, or_right, both_ways}
use Rattle.jd_reach.specs.Paths.{ReachesBy}
use Rattle.jd_reach.specs.Paths.ReachesBy.{reaches_itself, reaches_by_edge}
use Rattle.jd_reach.specs.Searches.{AreClosed, AreKept, IsGroup, IsFilled}
use Rattle.jd_reach.proofs.Ways.{reaches_on, one_edge, AreBelow}

-- the rows, with more bits in one of them
pub record Adds (nodes : ℕ) (rows new : ℕ → ℕ → Bool) (into : ℕ) (more : ℕ → Bool) : Type 0 where
  pub bits : (a b : ℕ) → b < nodes → new a b ≡ (rows a b || ((a == into) && more b))

module _ (nodes : ℕ) (rows new : ℕ → ℕ → Bool) (into : ℕ) (more : ℕ → Bool) (step : Adds nodes rows new into more) where
  pub join_keeps : AreKept nodes rows new
  join_keeps a b below set = step.bits a b below ∙ or_left (rows a b) _ set

  pub join_adds : (b : ℕ) → b < nodes → more b ≡ true → new into b ≡ true
  join_adds b below set = step.bits into b below ∙ or_right (rows into b) _ (and_from (into == into) (more b) (eq-eqb into into refl) set)

  pub join_only : (a b : ℕ) → b < nodes → new a b ≡ true → (rows a b ≡ true) ⊎ ((a ≡ into) × (more b ≡ true))
  join_only a b below set =
      elim (or_cases (rows a b) ((a == into) && more b) (sym (step.bits a b below) ∙ set)) [
        | inl old ↦ inl old
        | inr added ↦ let parts = and_parts (a == into) (more b) added in inr (eqb-true a into parts.0, parts.1)
      ]

  pub keeps_on : (old : ℕ → ℕ → Bool) → AreKept nodes old rows → AreKept nodes old new
  keeps_on old kept a b below set = join_keeps a b below (kept a b below set)

module _ (nodes : ℕ) (edges : ℕ → ℕ → Bool) (bounded : AreBelow nodes edges) where
  -- a group stays one where nothing that is set is cleared
  pub group_stays : (rows new : ℕ → ℕ → Bool) (members : List ℕ) → IsGroup nodes edges rows members → AreKept nodes rows new → IsGroup nodes edges new members
  group_stays rows new members g kept = record {
    below = g.below;
    joined = g.joined;
    leads = λ m v c e.
        elim (g.leads m v c e) [
          | inl member ↦ inl member
          | inr closed ↦ inr (kept v v (bounded.ends m v e).1 closed)
        ];
  }

  -- the members' bits are set
  pub begun : (rows new : ℕ → ℕ → Bool) (members : List ℕ) (row : ℕ) → AreClosed nodes edges rows → IsGroup nodes edges rows members → Contains members row
      → AreKept nodes rows new
      → ((a b : ℕ) → b < nodes → new a b ≡ true → (rows a b ≡ true) ⊎ ((a ≡ row) × Contains members b))
      → ((m : ℕ) → Contains members m → new row m ≡ true)
      → IsFilled nodes edges new members row
  begun rows new members row closed g member kept only added = record {
    group = group_stays rows new members g kept;
    member = member;
    sound = λ a b p q set.
        elim (only a b q set) [
          | inl old ↦ closed.sound a b p q old
          | inr more ↦ subst (λ (x : ℕ). ReachesBy edges x b) (sym more.0) (g.joined row b member more.1)
        ];
    whole = λ a b c other p q r set way.
        elim (only a b q set) [
          | inl old ↦ kept a c r (closed.whole a b c p q r old way)
          | inr more ↦ absurd (other more.0)
        ];
    members_set = added;
    others = λ v p set.
        elim (only row v p set) [
          | inl old ↦ inr (λ b q way. kept row b q (closed.whole row v b (g.below row member) p q old (reaches_on edges row v b (closed.sound row v (g.below row member) p old) way)))
          | inr more ↦ inl more.1
        ];
  }

  -- the row of a node that a member leads to is joined to that of the group
  module _ (rows new : ℕ → ℕ → Bool) (members : List ℕ) (row m v : ℕ) (filled : IsFilled nodes edges rows members row) (step : Adds nodes rows new row (rows v)) where
    abbrev kept : AreKept nodes rows new
    kept = join_keeps nodes rows new row (rows v) step

    pub joined_to : Contains members m → edges m v ≡ true → rows row v ≡ false → IsFilled nodes edges new members row × (new row v ≡ true)
    joined_to member e unset =
        let row_below : row < nodes = filled.group.below row filled.member in
        let below : v < nodes = (bounded.ends m v e).1 in
        let foreign : v ≢ row = λ same. both_ways (rows row v) unset (subst (λ (x : ℕ). rows row x ≡ true) (sym same) (filled.members_set row filled.member)) in
        let closed : rows v v ≡ true =
        elim (filled.group.leads m v member e) [
          | inl is_member ↦ absurd (both_ways (rows row v) unset (filled.members_set v is_member))
          | inr is_closed ↦ is_closed
        ] in
        let way_to : ReachesBy edges row v = reaches_on edges row m v (filled.group.joined row m filled.member member) (one_edge edges m v e) in (
          record {
            group = group_stays rows new members filled.group kept;
            member = filled.member;
            sound = λ a b p q set.
                elim (join_only nodes rows new row (rows v) step a b q set) [
                  | inl old ↦ filled.sound a b p q old
                  | inr more ↦ subst (λ (x : ℕ). ReachesBy edges x b) (sym more.0) (reaches_on edges row v b way_to (filled.sound v b below q more.1))
                ];
            whole = λ a b c other p q r set way.
                elim (join_only nodes rows new row (rows v) step a b q set) [
                  | inl old ↦ kept a c r (filled.whole a b c other p q r old way)
                  | inr more ↦ absurd (other more.0)
                ];
            members_set = λ k c. kept row k (filled.group.below k c) (filled.members_set k c);
            others = λ w p set.
                elim (join_only nodes rows new row (rows v) step row w p set) [
                  | inl old ↦ elim (filled.others w p old) [
                    | inl is_member ↦ inl is_member
                    | inr has ↦ inr (λ b q way. kept row b q (has b q way))
                  ]
                  | inr more ↦ inr (λ b q way.
                      join_adds nodes rows new row (rows v) step b q
                      (filled.whole v v b foreign below below q closed (reaches_on edges v w b (filled.sound v w below p more.1) way)))
                ];
          },
          join_adds nodes rows new row (rows v) step v below closed,
        )

  -- the row has what each member has an edge to
  module _ (rows : ℕ → ℕ → Bool) (members : List ℕ) (row : ℕ) (filled : IsFilled nodes edges rows members row)
      (covered : (m v : ℕ) → Contains members m → edges m v ≡ true → rows row v ≡ true) where
    all_reached : (m b : ℕ) → Contains members m → b < nodes → ReachesBy edges m b → rows row b ≡ true
    all_reached m b member below (reaches_itself _) = filled.members_set m member
    all_reached m b member below (reaches_by_edge _ d _ e rest) =
        elim (filled.others d (bounded.ends m d e).1 (covered m d member e)) [
          | inl is_member ↦ all_reached d b is_member below rest
          | inr has ↦ has b below rest
        ]

    pub all_filled : AreClosed nodes edges rows
    all_filled = record {
      sound = filled.sound;
      whole = λ a b c p q r set way.
          elim (cases_eq a row) [
            | inl same ↦ subst (λ (x : ℕ). rows x c ≡ true) (sym same) (all_reached row c filled.member r (subst (λ (x : ℕ). ReachesBy edges x c) same way))
            | inr other ↦ filled.whole a b c other p q r set way
          ];
    }

-- the row has what a member has edges to below a number
pub record Takes (nodes : ℕ) (edges old new : ℕ → ℕ → Bool) (row member count : ℕ) : Type 0 where
  pub kept : AreKept nodes old new
  pub filled : (members : List ℕ) → Contains members member → IsFilled nodes edges old members row → IsFilled nodes edges new members row
  pub covered : (members : List ℕ) → Contains members member → IsFilled nodes edges old members row → (v : ℕ) → v < count → edges member v ≡ true → new row v ≡ true

-- the next edge that is missing is the first from the number on
next_covered : (edges rows : ℕ → ℕ → Bool) (row member count to v : ℕ) → ((b : ℕ) → count ≤ b → edges member b ≡ true → rows row b ≡ false → to ≤ b) → v < to + 1 → edges member v ≡ true
    → (v < count) ⊎ ((rows row v ≡ true) ⊎ (v ≡ to))
next_covered edges rows row member count to v first below e =
    elim (cases_lt v count) [
      | inl before ↦ inl before
      | inr from ↦ inr (missing_or_not (rows row v) (first v from e))
    ]
  where
    missing_or_not : (t : Bool) → (t ≡ false → to ≤ v) → (t ≡ true) ⊎ (v ≡ to)
    missing_or_not true le = inl refl
    missing_or_not false le = let up = le refl in inr (omega arith)

module _ (nodes : ℕ) (edges : ℕ → ℕ → Bool) where
  pub takes_more : AreBelow nodes edges → (old cur new : ℕ → ℕ → Bool) (row member count to : ℕ) → Takes nodes edges old cur row member count
      → edges member to ≡ true → cur row to ≡ false → ((b : ℕ) → count ≤ b → edges member b ≡ true → cur row b ≡ false → to ≤ b) → Adds nodes cur new row (cur to)
      → Takes nodes edges old new row member (to + 1)
  takes_more bounded old cur new row member count to t e unset first step = record {
    kept = keeps_on nodes cur new row (cur to) step old t.kept;
    filled = λ members there f. (joined_to nodes edges bounded cur new members row member to (t.filled members there f) step there e unset).0;
    covered = λ members there f v below edge.
        elim (next_covered edges cur row member count to v first below edge) [
          | inl before ↦ join_keeps nodes cur new row (cur to) step row v (bounded.ends member v edge).1 (t.covered members there f v before edge)
          | inr now ↦ elim now [
            | inl has ↦ join_keeps nodes cur new row (cur to) step row v (bounded.ends member v edge).1 has
            | inr same ↦ subst (λ (x : ℕ). new row x ≡ true) (sym same) (joined_to nodes edges bounded cur new members row member to (t.filled members there f) step there e unset).1
          ]
        ];
  }

  -- where no edge is missing from the number on
  pub takes_all : (old cur : ℕ → ℕ → Bool) (row member count : ℕ) → Takes nodes edges old cur row member count
      → ((b : ℕ) → count ≤ b → edges member b ≡ true → cur row b ≡ false → ⊥)
      → (members : List ℕ) → Contains members member → IsFilled nodes edges old members row → (v : ℕ) → edges member v ≡ true → cur row v ≡ true
  takes_all old cur row member count t none members there f v edge =
      elim (cases_lt v count) [
        | inl before ↦ t.covered members there f v before edge
        | inr from ↦ set_or_missing (cur row v) (none v from edge)
      ]
    where
      set_or_missing : (b : Bool) → (b ≡ false → ⊥) → b ≡ true
      set_or_missing true missing = refl
      set_or_missing false missing = absurd (missing refl)

  -- the row of a group is copied to a member
  pub copied : (rows new : ℕ → ℕ → Bool) (m row : ℕ) → AreClosed nodes edges rows → m < nodes → row < nodes → rows row row ≡ true
      → ReachesBy edges m row → ReachesBy edges row m → Adds nodes rows new m (rows row) → AreClosed nodes edges new
  copied rows new m row closed m_below row_below set_row to_row from_row step = record {
    sound = λ a b p q set.
        elim (join_only nodes rows new m (rows row) step a b q set) [
          | inl old ↦ closed.sound a b p q old
          | inr more ↦ subst (λ (x : ℕ). ReachesBy edges x b) (sym more.0) (reaches_on edges m row b to_row (closed.sound row b row_below q more.1))
        ];
    whole = λ a b c p q r set way.
        elim (join_only nodes rows new m (rows row) step a b q set) [
          | inl old ↦ join_keeps nodes rows new m (rows row) step a c r (closed.whole a b c p q r old way)
          | inr more ↦ subst (λ (x : ℕ). new x c ≡ true) (sym more.0)
              (join_adds nodes rows new m (rows row) step c r
              (closed.whole row row c row_below row_below r set_row
              (reaches_on edges row m c from_row (subst (λ (x : ℕ). ReachesBy edges x c) more.0 way))))
        ];
  }
