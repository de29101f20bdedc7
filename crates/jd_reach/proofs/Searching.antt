-- The steps of a search for the nodes that reach one another.
use Rattle.std.proofs.Common.{◌≡◌, ◌≢◌, refl, ℕ, ◌+◌, ◌-◌, ◌*◌, ◌<◌, ◌≤◌, ◌⊎◌, ◌++◌, ◌∷◌, [], Bool, true, false, List, length, get_or, take, drop, set, replicate, sym, ap, ◌∙◌, subst, inl, inr, arith}
use Rattle.std.specs.List.{Contains, sum_by}
use Rattle.std.proofs.lemmas.List.Sums.{sum_by-set}
use Rattle.std.proofs.lemmas.Bool.{cases_eq, cases_lt, both_ways}
use Rattle.std.proofs.lemmas.List.{get_or-set_same, get_or-set_other, get_or-take, get_or-drop, get_or-replicate, length-set, length-drop, length-replicate, length-take-le, length_push}
use Rattle.std.proofs.lemmas.List.Elements.{Contains-append_left, Contains-push, Contains-push_cases}
use Rattle.jd_reach.specs.Paths.{ReachesBy}
use Rattle.jd_reach.specs.Paths.ReachesBy.{reaches_itself}
use Rattle.jd_reach.specs.Searches.{AreClosed, AreKept, EndsIn, IsGroup, IsNotBelow, IsRising, IsSearch, IsSettled, IsVisited}
use Rattle.jd_reach.proofs.Stacks.{at_end, at_place, below_end, in_front, none_rising, place_of, rising_front, rising_push, up_to_last, has_last}
use Rattle.jd_reach.proofs.Ways.{AreBelow, reaches_on, one_edge}

-- nothing is in an empty list
in_nothing : (x : ℕ) → Contains [] x → ⊥
in_nothing x c = omega (arith, c.1)

-- before the first node is visited
pub none_visited : (nodes : ℕ) (edges rows : ℕ → ℕ → Bool) (place next : List ℕ) → ((a b : ℕ) → a < nodes → b < nodes → rows a b ≡ false) → length place ≡ nodes → next ≡ replicate nodes 0
    → IsSearch nodes edges rows [] [] [] place next
none_visited nodes edges rows place next empty places zeros = record {
  closed = record {
    sound = λ a b p q set. absurd (both_ways (rows a b) (empty a b p q) set);
    whole = λ a b c p q r set way. absurd (both_ways (rows a b) (empty a b p q) set);
  };
  places = places;
  nexts = ap length zeros ∙ length-replicate nodes 0;
  below = λ i inside. absurd (omega arith);
  placed = λ i inside. absurd (omega arith);
  joined = λ i j inside. absurd (omega arith);
  looked = λ i v inside. absurd (omega arith);
  pending = λ i inside. absurd (omega arith);
  framed = λ s c. absurd (in_nothing s c);
  inside = λ s c. absurd (in_nothing s c);
  bottom = λ some. absurd (omega arith);
  frames_rise = none_rising;
  starts_rise = none_rising;
  fresh = λ v below some. absurd (let e : get_or next v 0 ≡ 0 = ap (λ (l : List ℕ). get_or l v 0) zeros ∙ get_or-replicate nodes v 0 0 below in omega (arith, some, e));
}

module _ (nodes : ℕ) (edges rows : ℕ → ℕ → Bool) (opened starts frames place next : List ℕ) (run : IsSearch nodes edges rows opened starts frames place next) where
  -- a node stands at one position
  one_position : (i j : ℕ) → i < length opened → j < length opened → get_or opened i 0 ≡ get_or opened j 0 → i ≡ j
  one_position i j p q same = sym (run.placed i p) ∙ ap (λ k. get_or place k 0) same ∙ run.placed j q

  -- no group starts above the last frame
  pub starts_up_to : (p : ℕ) → EndsIn frames p → (s : ℕ) → Contains starts s → s ≤ p
  starts_up_to p end s c = up_to_last frames p run.frames_rise end s (run.framed s c)

  -- where no frame is left, no node is open
  pub all_finished : length frames ≡ 0 → length opened ≡ 0
  all_finished none =
      elim (cases_lt 0 (length opened)) [
        | inl some ↦ let f = run.framed 0 (run.bottom some) in absurd (omega (arith, f.1))
        | inr empty ↦ omega arith
      ]

  -- a node is visited that each open one reaches
  module _ (node : ℕ) (below : node < nodes) (unseen : IsVisited rows opened node → ⊥) (reached : (i : ℕ) → i < length opened → ReachesBy edges (get_or opened i 0) node) where
    abbrev more : List ℕ
    more = opened ++ node ∷ []

    abbrev starts_more : List ℕ
    starts_more = starts ++ length opened ∷ []

    other_node : (i : ℕ) → i < length opened → get_or opened i 0 ≢ node
    other_node i inside same = unseen (inr (at_place opened node i inside same))

    -- below the new node, or at it
    at_new : (i : ℕ) → i < length more → (i < length opened) ⊎ (i ≡ length opened)
    at_new i inside =
        elim (cases_lt i (length opened)) [
          | inl lower ↦ inl lower
          | inr last ↦ inr (omega (arith, length_push opened node))
        ]

    new_node : (i : ℕ) → i ≡ length opened → get_or more i 0 ≡ node
    new_node i same = ap (λ k. get_or more k 0) same ∙ at_end opened node

    lower_start : (i j : ℕ) → IsNotBelow starts_more i j → IsNotBelow starts i j
    lower_start i j h s c le = h s (Contains-append_left starts (length opened ∷ []) s c) le

    still_settled : (i v : ℕ) → i < length opened → IsSettled rows opened starts i v → IsSettled rows more starts_more i v
    still_settled i v inside settled =
        elim settled [
          | inl closed ↦ inl closed
          | inr at ↦ inr (
            at.0,
            omega (arith, at.1, length_push opened node),
            in_front opened node at.0 at.1 ∙ at.2,
            λ s c le. elim (Contains-push_cases starts (length opened) s c) [
              | inl old ↦ at.3 s old le
              | inr new ↦ absurd (omega (arith, new, le, inside))
            ],
          )
        ]

    pub visited_more : IsSearch nodes edges rows more starts_more (frames ++ length opened ∷ []) (set place node (length opened)) next
    visited_more = record {
      closed = run.closed;
      places = length-set place node (length opened) ∙ run.places;
      nexts = run.nexts;
      below = λ i inside.
          elim (at_new i inside) [
            | inl lower ↦ rw (in_front opened node i lower) (run.below i lower)
            | inr last ↦ rw (new_node i last) below
          ];
      placed = λ i inside.
          elim (at_new i inside) [
            | inl lower ↦ rw (in_front opened node i lower) (get_or-set_other place node (get_or opened i 0) (length opened) 0 (other_node i lower) ∙ run.placed i lower)
            | inr last ↦ rw (new_node i last) (get_or-set_same place node (length opened) 0 (omega (arith, run.places)) ∙ sym last)
          ];
      joined = λ i j p q h.
          elim (at_new j q) [
            | inl lower ↦ elim (at_new i p) [
              | inl under ↦ rw (in_front opened node i under, in_front opened node j lower) (run.joined i j under lower (lower_start i j h))
              | inr last ↦ absurd (let le = h (length opened) (Contains-push starts (length opened)) (omega (arith, last)) in omega (arith, le, lower))
            ]
            | inr new ↦ elim (at_new i p) [
              | inl under ↦ rw (in_front opened node i under, new_node j new) (reached i under)
              | inr last ↦ rw (new_node i last, new_node j new) (reaches_itself node)
            ]
          ];
      looked = λ i v p lt e.
          elim (at_new i p) [
            | inl lower ↦
                let same = in_front opened node i lower in
                still_settled i v lower (run.looked i v lower (subst (λ (x : ℕ). v < get_or next x 0) same lt) (subst (λ (x : ℕ). edges x v ≡ true) same e))
            | inr last ↦ absurd (unseen (run.fresh node below (let some : v < get_or next node 0 = subst (λ (x : ℕ). v < get_or next x 0) (new_node i last) lt in omega arith)))
          ];
      pending = λ i p.
          elim (at_new i p) [
            | inl lower ↦ elim (run.pending i lower) [
              | inl frame ↦ inl (Contains-append_left frames (length opened ∷ []) i frame)
              | inr all ↦ inr (λ v e. rw (in_front opened node i lower) (all v (subst (λ (x : ℕ). edges x v ≡ true) (in_front opened node i lower) e)))
            ]
            | inr last ↦ inl (subst (Contains (frames ++ length opened ∷ [])) (sym last) (Contains-push frames (length opened)))
          ];
      framed = λ s c.
          elim (Contains-push_cases starts (length opened) s c) [
            | inl old ↦ Contains-append_left frames (length opened ∷ []) s (run.framed s old)
            | inr new ↦ subst (Contains (frames ++ length opened ∷ [])) new (Contains-push frames (length opened))
          ];
      inside = λ f c.
          elim (Contains-push_cases frames (length opened) f c) [
            | inl old ↦ omega (arith, run.inside f old, length_push opened node)
            | inr new ↦ omega (arith, new, length_push opened node)
          ];
      bottom = λ some.
          elim (cases_lt 0 (length opened)) [
            | inl old ↦ Contains-append_left starts (length opened ∷ []) 0 (run.bottom old)
            | inr empty ↦ let zero_is : length opened ≡ 0 = omega arith in subst (Contains starts_more) zero_is (Contains-push starts (length opened))
          ];
      frames_rise = rising_push frames (length opened) run.frames_rise run.inside;
      starts_rise = rising_push starts (length opened) run.starts_rise (λ s c. run.inside s (run.framed s c));
      fresh = λ v p some.
          elim (run.fresh v p some) [
            | inl closed ↦ inl closed
            | inr open_node ↦ inr (Contains-append_left opened (node ∷ []) v open_node)
          ];
    }

  -- the groups above position j are joined to its group: an edge leads there from the last frame
  module _ (lower : List ℕ) (p j : ℕ) (end : EndsIn frames p) (inside : j < length opened) (edge : edges (get_or opened p 0) (get_or opened j 0) ≡ true)
      (rising : IsRising lower) (fewer : (s : ℕ) → Contains lower s → Contains starts s × (s ≤ j)) (kept : (s : ℕ) → Contains starts s → s ≤ j → Contains lower s) where
    under_lower : (i k : ℕ) → IsNotBelow starts i k → IsNotBelow lower i k
    under_lower i k h s c le = h s (fewer s c).0 le

    last_inside : p < length opened
    last_inside = run.inside p (has_last frames p end)

    pub contracted : IsSearch nodes edges rows opened lower frames place next
    contracted = record {
      closed = run.closed;
      places = run.places;
      nexts = run.nexts;
      below = run.below;
      placed = run.placed;
      joined = λ i k a b h.
          elim (cases_lt j i) [
            | inl above ↦
                reaches_on edges (get_or opened i 0) (get_or opened p 0) (get_or opened k 0)
                (run.joined i p a last_inside (λ s c le. starts_up_to p end s c))
                (reaches_on edges (get_or opened p 0) (get_or opened j 0) (get_or opened k 0) (one_edge edges _ _ edge)
                (run.joined j k inside b (λ s c le. h s (kept s c le) (omega arith))))
            | inr beneath ↦ run.joined i k a b (λ s c le. h s (kept s c (omega arith)) le)
          ];
      looked = λ i v a lt e.
          elim (run.looked i v a lt e) [
            | inl closed ↦ inl closed
            | inr at ↦ inr (at.0, at.1, at.2, under_lower i at.0 at.3)
          ];
      pending = run.pending;
      framed = λ s c. run.framed s (fewer s c).0;
      inside = run.inside;
      bottom = λ some. kept 0 (run.bottom some) (omega arith);
      frames_rise = run.frames_rise;
      starts_rise = rising;
      fresh = run.fresh;
    }

    pub contracted_settles : IsSettled rows opened lower p (get_or opened j 0)
    contracted_settles = inr (j, inside, refl, λ s c le. (fewer s c).1)

  -- one more edge is looked at
  module _ (p v : ℕ) (inside : p < length opened) (below : v < nodes) (from : get_or next (get_or opened p 0) 0 ≤ v)
      (first : (b : ℕ) → get_or next (get_or opened p 0) 0 ≤ b → edges (get_or opened p 0) b ≡ true → v ≤ b) (settled : IsSettled rows opened starts p v) where
    abbrev node_of : ℕ
    node_of = get_or opened p 0

    abbrev next_more : List ℕ
    next_more = set next node_of (v + 1)

    at_node : get_or next_more node_of 0 ≡ v + 1
    at_node = get_or-set_same next node_of (v + 1) 0 (omega (arith, run.nexts, run.below p inside))

    elsewhere : (x : ℕ) → x ≢ node_of → get_or next_more x 0 ≡ get_or next x 0
    elsewhere x other = get_or-set_other next node_of x (v + 1) 0 other

    looked_at : (i w : ℕ) → i < length opened → w < get_or next_more (get_or opened i 0) 0 → edges (get_or opened i 0) w ≡ true → IsSettled rows opened starts i w
    looked_at i w a lt e =
        elim (cases_eq i p) [
          | inl same ↦
              let lt_v : w < v + 1 = omega (arith, lt, ap (λ k. get_or next_more (get_or opened k 0) 0) same, at_node) in
              let e_p : edges node_of w ≡ true = subst (λ (k : ℕ). edges (get_or opened k 0) w ≡ true) same e in
              elim (cases_lt w (get_or next node_of 0)) [
                | inl old ↦ subst (λ (k : ℕ). IsSettled rows opened starts k w) (sym same) (run.looked p w inside old e_p)
                | inr new ↦
                    let le = first w new e_p in
                    let is_v : v ≡ w = omega (arith, le, lt_v) in
                    subst (λ (k : ℕ). IsSettled rows opened starts k w) (sym same) (subst (IsSettled rows opened starts p) is_v settled)
              ]
          | inr other ↦ run.looked i w a (subst (λ (n : ℕ). w < n) (elsewhere (get_or opened i 0) (λ same. other (one_position i p a inside same))) lt) e
        ]

    pub looked_more : IsSearch nodes edges rows opened starts frames place next_more
    looked_more = record {
      closed = run.closed;
      places = run.places;
      nexts = length-set next node_of (v + 1) ∙ run.nexts;
      below = run.below;
      placed = run.placed;
      joined = run.joined;
      looked = looked_at;
      pending = λ i a.
          elim (run.pending i a) [
            | inl frame ↦ inl frame
            | inr all ↦ inr (λ w e.
                let lt = all w e in
                elim (cases_eq i p) [
                  | inl same ↦ omega (arith, lt, ap (λ k. get_or next_more (get_or opened k 0) 0) same, ap (λ k. get_or next (get_or opened k 0) 0) same, at_node, from)
                  | inr other ↦ omega (arith, lt, elsewhere (get_or opened i 0) (λ same. other (one_position i p a inside same)))
                ])
          ];
      framed = run.framed;
      inside = run.inside;
      bottom = run.bottom;
      frames_rise = run.frames_rise;
      starts_rise = run.starts_rise;
      fresh = λ x b some.
          elim (cases_eq x node_of) [
            | inl same ↦ inr (at_place opened x p inside (sym same))
            | inr other ↦ run.fresh x b (subst (λ (n : ℕ). 0 < n) (elsewhere x other) some)
          ];
    }

  -- the last frame is left, all of whose edges are looked at
  module _ (front : List ℕ) (p : ℕ) (last : frames ≡ front ++ p ∷ []) (exhausted : (b : ℕ) → edges (get_or opened p 0) b ≡ true → b < get_or next (get_or opened p 0) 0) where
    frame_cases : (f : ℕ) → Contains frames f → Contains front f ⊎ (p ≡ f)
    frame_cases f c = Contains-push_cases front p f (subst (λ (l : List ℕ). Contains l f) last c)

    front_stays : (f : ℕ) → Contains front f → Contains frames f
    front_stays f c = subst (λ (l : List ℕ). Contains l f) (sym last) (Contains-append_left front (p ∷ []) f c)

    rising_frames : IsRising (front ++ p ∷ [])
    rising_frames = subst IsRising last run.frames_rise

    pub frame_left : (Contains starts p → ⊥) → IsSearch nodes edges rows opened starts front place next
    frame_left no_start = record {
      closed = run.closed;
      places = run.places;
      nexts = run.nexts;
      below = run.below;
      placed = run.placed;
      joined = run.joined;
      looked = run.looked;
      pending = λ i a.
          elim (run.pending i a) [
            | inl frame ↦ elim (frame_cases i frame) [
              | inl still ↦ inl still
              | inr same ↦ inr (λ b e. subst (λ (k : ℕ). b < get_or next (get_or opened k 0) 0) same (exhausted b (subst (λ (k : ℕ). edges (get_or opened k 0) b ≡ true) (sym same) e)))
            ]
            | inr all ↦ inr all
          ];
      framed = λ s c.
          elim (frame_cases s (run.framed s c)) [
            | inl still ↦ still
            | inr same ↦ absurd (no_start (subst (Contains starts) (sym same) c))
          ];
      inside = λ f c. run.inside f (front_stays f c);
      bottom = run.bottom;
      frames_rise = rising_front front p rising_frames;
      starts_rise = run.starts_rise;
      fresh = run.fresh;
    }

    -- a group starts at the last frame
    module _ (below_it : List ℕ) (last_start : starts ≡ below_it ++ p ∷ []) where
      end : EndsIn frames p
      end = (front, last)

      starts_here : Contains starts p
      starts_here = subst (λ (l : List ℕ). Contains l p) (sym last_start) (Contains-push below_it p)

      p_inside : p < length opened
      p_inside = run.inside p (subst (λ (l : List ℕ). Contains l p) (sym last) (Contains-push front p))

      -- a member's position
      member_at : (m : ℕ) → Contains (drop p opened) m → (i : ℕ) × (p ≤ i) × (i < length opened) × (get_or opened i 0 ≡ m)
      member_at m c =
          let k = place_of (drop p opened) m c in
          (p + k.0, omega arith, omega (arith, k.1, length-drop p opened), sym (get_or-drop p opened k.0 0) ∙ k.2)

      pub member_from : (i m : ℕ) → p ≤ i → i < length opened → get_or opened i 0 ≡ m → Contains (drop p opened) m
      member_from i m le inside same =
          let i_is : p + (i - p) ≡ i = omega arith in
          at_place (drop p opened) m (i - p) (omega (arith, length-drop p opened)) (get_or-drop p opened (i - p) 0 ∙ ap (λ k. get_or opened k 0) i_is ∙ same)

      all_looked : (i v : ℕ) → p ≤ i → i < length opened → edges (get_or opened i 0) v ≡ true → v < get_or next (get_or opened i 0) 0
      all_looked i v le inside e =
          elim (run.pending i inside) [
            | inl frame ↦
                let up = up_to_last frames p run.frames_rise end i frame in
                let same : p ≡ i = omega arith in
                subst (λ (k : ℕ). v < get_or next (get_or opened k 0) 0) same (exhausted v (subst (λ (k : ℕ). edges (get_or opened k 0) v ≡ true) (sym same) e))
            | inr all ↦ all v e
          ]

      pub is_group : IsGroup nodes edges rows (drop p opened)
      is_group = record {
        below = λ m c. let i = member_at m c in subst (λ (x : ℕ). x < nodes) i.3 (run.below i.0 i.2);
        joined = λ m k c d.
            let i = member_at m c in
            let j = member_at k d in
            subst (λ (x : ℕ). ReachesBy edges x k) i.3 (subst (ReachesBy edges (get_or opened i.0 0)) j.3
            (run.joined i.0 j.0 i.2 j.2 (λ s st le. let up = starts_up_to p end s st in omega (arith, up, j.1))));
        leads = λ m v c e.
            let i = member_at m c in
            let e_i : edges (get_or opened i.0 0) v ≡ true = subst (λ (x : ℕ). edges x v ≡ true) (sym i.3) e in
            elim (run.looked i.0 v i.2 (all_looked i.0 v i.1 i.2 e_i) e_i) [
              | inl closed ↦ inr closed
              | inr at ↦ inl (member_from at.0 v (at.3 p starts_here i.1) at.1 at.2)
            ];
      }

      pub some_member : 0 < length (drop p opened)
      some_member = omega (arith, length-drop p opened, p_inside)

      -- its members' rows are closed, and it is left
      module _ (new : ℕ → ℕ → Bool) (bounded : AreBelow nodes edges) (closed : AreClosed nodes edges new) (kept : AreKept nodes rows new)
          (finished : (m : ℕ) → Contains (drop p opened) m → new m m ≡ true) where
        abbrev rest : List ℕ
        rest = take p opened

        rest_long : length rest ≡ p
        rest_long = length-take-le p opened (omega (arith, p_inside))

        rest_at : (i : ℕ) → i < p → get_or rest i 0 ≡ get_or opened i 0
        rest_at i lt = get_or-take p opened i 0 lt

        open_cases : (j v : ℕ) → j < length opened → get_or opened j 0 ≡ v → (j < p) ⊎ (new v v ≡ true)
        open_cases j v inside same =
            elim (cases_lt j p) [
              | inl lower ↦ inl lower
              | inr upper ↦ inr (finished v (member_from j v upper inside same))
            ]

        pub still_visited : (v : ℕ) → v < nodes → IsVisited rows opened v → IsVisited new rest v
        still_visited v below seen =
            elim seen [
              | inl closed_row ↦ inl (kept v v below closed_row)
              | inr at ↦
                  let k = place_of opened v at in
                  elim (open_cases k.0 v k.1 k.2) [
                    | inl lower ↦ inr (at_place rest v k.0 (omega (arith, lower, rest_long)) (rest_at k.0 lower ∙ k.2))
                    | inr done ↦ inl done
                  ]
            ]

        start_cases : (s : ℕ) → Contains starts s → Contains below_it s ⊎ (p ≡ s)
        start_cases s c = Contains-push_cases below_it p s (subst (λ (l : List ℕ). Contains l s) last_start c)

        lower_stays : (s : ℕ) → Contains below_it s → Contains starts s
        lower_stays s c = subst (λ (l : List ℕ). Contains l s) (sym last_start) (Contains-append_left below_it (p ∷ []) s c)

        rising_starts : IsRising (below_it ++ p ∷ [])
        rising_starts = subst IsRising last_start run.starts_rise

        pub group_left : IsSearch nodes edges new rest below_it front place next
        group_left = record {
          closed = closed;
          places = run.places;
          nexts = run.nexts;
          below = λ i a. let lt : i < p = omega (arith, a, rest_long) in rw (rest_at i lt) (run.below i (omega (arith, p_inside)));
          placed = λ i a. let lt : i < p = omega (arith, a, rest_long) in rw (rest_at i lt) (run.placed i (omega (arith, p_inside)));
          joined = λ i j a b h.
              let lt_i : i < p = omega (arith, a, rest_long) in
              let lt_j : j < p = omega (arith, b, rest_long) in
              rw (rest_at i lt_i, rest_at j lt_j) (run.joined i j (omega (arith, p_inside)) (omega (arith, p_inside)) (λ s c le.
              elim (start_cases s c) [
                | inl lower ↦ h s lower le
                | inr same ↦ absurd (omega (arith, same, le, lt_i))
              ]));
          looked = λ i v a lt e.
              let lt_i : i < p = omega (arith, a, rest_long) in
              let same = rest_at i lt_i in
              elim (run.looked i v (omega (arith, p_inside)) (subst (λ (x : ℕ). v < get_or next x 0) same lt) (subst (λ (x : ℕ). edges x v ≡ true) same e)) [
                | inl closed_row ↦ inl (kept v v (bounded.ends (get_or rest i 0) v e).1 closed_row)
                | inr at ↦ elim (open_cases at.0 v at.1 at.2) [
                  | inl lower ↦ inr (at.0, omega (arith, lower, rest_long), rest_at at.0 lower ∙ at.2, λ s c le. at.3 s (lower_stays s c) le)
                  | inr done ↦ inl done
                ]
              ];
          pending = λ i a.
              let lt_i : i < p = omega (arith, a, rest_long) in
              elim (run.pending i (omega (arith, p_inside))) [
                | inl frame ↦ elim (frame_cases i frame) [
                  | inl still ↦ inl still
                  | inr same ↦ absurd (omega (arith, same, lt_i))
                ]
                | inr all ↦ inr (λ v e. rw (rest_at i lt_i) (all v (subst (λ (x : ℕ). edges x v ≡ true) (rest_at i lt_i) e)))
              ];
          framed = λ s c.
              elim (frame_cases s (run.framed s (lower_stays s c))) [
                | inl still ↦ still
                | inr same ↦ absurd (let lt = below_end below_it p rising_starts s c in omega (arith, lt, same))
              ];
          inside = λ f c. let lt = below_end front p rising_frames f c in omega (arith, lt, rest_long);
          bottom = λ some.
              elim (start_cases 0 (run.bottom (omega (arith, p_inside)))) [
                | inl lower ↦ lower
                | inr same ↦ absurd (omega (arith, same, some, rest_long))
              ];
          frames_rise = rising_front front p rising_frames;
          starts_rise = rising_front below_it p rising_starts;
          fresh = λ v b some. still_visited v b (run.fresh v b some);
        }

-- the same lists under other names
pub same_search : (nodes : ℕ) (edges rows : ℕ → ℕ → Bool) (opened starts frames place next opened2 starts2 frames2 place2 next2 : List ℕ)
    → opened2 ≡ opened → starts2 ≡ starts → frames2 ≡ frames → place2 ≡ place → next2 ≡ next
    → IsSearch nodes edges rows opened starts frames place next → IsSearch nodes edges rows opened2 starts2 frames2 place2 next2
same_search nodes edges rows opened starts frames place next opened2 starts2 frames2 place2 next2 o s f p n run = rw (o, s, f, p, n) run

-- an edge from the last frame
module _ (nodes : ℕ) (edges rows : ℕ → ℕ → Bool) (opened starts frames place next : List ℕ) (run : IsSearch nodes edges rows opened starts frames place next)
    (p : ℕ) (end : EndsIn frames p) where
  pub frame_inside : p < length opened
  frame_inside = run.inside p (has_last frames p end)

  pub reached_to : (to : ℕ) → edges (get_or opened p 0) to ≡ true → (i : ℕ) → i < length opened → ReachesBy edges (get_or opened i 0) to
  reached_to to edge i inside =
      reaches_on edges (get_or opened i 0) (get_or opened p 0) to
      (run.joined i p inside frame_inside (λ s c le. starts_up_to nodes edges rows opened starts frames place next run p end s c)) (one_edge edges _ to edge)

  -- it leads to a node that is opened
  pub new_settled : (to : ℕ) → IsSettled rows (opened ++ to ∷ []) (starts ++ length opened ∷ []) p to
  new_settled to = inr (
    length opened,
    omega (arith, length_push opened to),
    at_end opened to,
    λ s c le. omega (arith, le, frame_inside),
  )

pub seen_more : (rows : ℕ → ℕ → Bool) (opened : List ℕ) (to v : ℕ) → IsVisited rows opened v → IsVisited rows (opened ++ to ∷ []) v
seen_more rows opened to v seen =
    elim seen [
      | inl closed ↦ inl closed
      | inr open_node ↦ inr (Contains-append_left opened (to ∷ []) v open_node)
    ]

-- an edge more is looked at, and at most one frame more is there
pub fewer_left : (nodes node to : ℕ) (next next2 frames frames2 : List ℕ) → next2 ≡ next → node < length next → get_or next node 0 ≤ to → to < nodes → length frames2 ≤ length frames + 1
    → 2 * sum_by (λ k. nodes - k) (set next2 node (to + 1)) + length frames2 < 2 * sum_by (λ k. nodes - k) next + length frames
fewer_left nodes node to next next2 frames frames2 same inside from below frame =
    let left = sum_by-set (λ (k : ℕ). nodes - k) next node (to + 1) 0 inside in
    rw same (omega (arith, left))
