-- A step leads from the cells of a state to those of the state after it.
use Rattle.std.proofs.Common.{◌≡◌, ℕ, ◌+◌, ◌-◌, ◌≤◌, inl, inr, List, [], ◌∷◌, ◌++◌, length, length-append, Contains, None, refl, sym, ap, ◌∙◌, arith, subst}
use Rattle.std.specs.Prelude.{slice_index_or, option_to_list}
use Rattle.dimension_core.specs.Setting.{Setting}
use Rattle.plan_core.specs.Plan.{changes_of, route_at, with_routes}
use Rattle.board_rules.specs.declared.call.Entry.{Entry}
use Rattle.board_rules.specs.State.{BoardState}
use Rattle.board_rules.specs.History.{state_after}
use Rattle.board_rules.specs.Good.{IsGood}
use Rattle.board_rules.specs.Delta.{AreChangesOf}
use Rattle.published_board.specs.declared.change.Change.{Change}
use Rattle.published_board.specs.declared.shown.Mark.{Mark}
use Rattle.published_board.specs.declared.shown.Shelf.{Shelf}
use Rattle.published_board.specs.Reached.{Reached}
use Rattle.published_board.specs.Told.{told}
use Rattle.published_board.specs.Changed.{IsChange}
use Rattle.published_board.specs.Lanes.{lane_at}
use Rattle.published_board.specs.Shelves.{Shows, IsLane, cells_after}
use Rattle.published_board.proofs.Lanes.{sized_after, lanes_both, lane_cases, route_kept}
use Rattle.published_board.proofs.Renewed.{list_same}
use Rattle.published_board.proofs.Staying.{stays_on, stays_new, since_right}
use Rattle.published_board.proofs.Written.{Tests, written_right, test_number, test_option, none_in}

-- where nothing changed, all values are the same
unchanged : {V : Type 0} (none : V) (n : ℕ) (xs ys : List V) (changes : List (ℕ × V)) → Tests V → length xs ≡ n → length ys ≡ n
    → AreChangesOf n (λ k. slice_index_or xs (k - 1) none) (λ k. slice_index_or ys (k - 1) none) changes → changes ≡ [] → ys ≡ xs
unchanged none n xs ys changes test sized_x sized_y are empty =
    list_same none ys xs (sized_y ∙ sym sized_x) (λ k below.
    let at : k + 1 - 1 ≡ k = omega arith in
    ap (λ (j : ℕ). slice_index_or ys j none) (sym at) ∙ (elim (test (slice_index_or ys (k + 1 - 1) none) (slice_index_or xs (k + 1 - 1) none)) [
      | inl same ↦ same
      | inr other ↦ absurd (none_in _ (subst (λ (cs : List (ℕ × _)). Contains cs (k + 1, slice_index_or ys (k + 1 - 1) none)) empty (are.all (k + 1) (omega arith) (omega (arith, below, sized_x)) other)))
    ] ∙ ap (λ (j : ℕ). slice_index_or xs j none) at))

pub shows_after : (s : Setting) (es : List Entry) (e : Entry) (base : Reached) (n : ℕ) (p : Shelf) (c : Change)
    → IsGood s (state_after s es) → IsGood s (state_after s (es ++ e ∷ [])) → Shows s es p
    → IsChange s (state_after s es) (state_after s (es ++ e ∷ [])) c
    → told base ≡ state_after s (es ++ e ∷ []) → n ≡ length es + 1 → Shows s (es ++ e ∷ []) (cells_after base n p c)
shows_after s es e base n p c was good a is tells count =
    let more : List Entry = es ++ e ∷ [] in
    let old : BoardState = state_after s es in
    let new : BoardState = state_after s more in
    let longer : length more ≡ length es + 1 = length-append es (e ∷ []) in
    let long : length more ≤ n = omega (arith, longer, count) in
    let r = is.routes in
    let routes = option_to_list c.first ++ option_to_list c.second in
    let both = lanes_both base n p.lanes (option_to_list c.first) (option_to_list c.second) in
    record {
      sized = ap length (sym both) ∙ (sized_after base n routes p.lanes ∙ a.sized);
      lanes = λ v low high.
          let sized = a.sized in
          let at = ap (λ (ms : List Mark). lane_at ms v) both in
          elim (lane_cases base n (length old.routes) v routes p.lanes r.apart low (omega (arith, sized, high))) [
            | inl came ↦ subst (λ (m : Mark). IsLane s more v m) (sym came ∙ at) (record {
              vehicle = refl;
              route = ap (λ (x : BoardState). route_at x.routes v) tells;
              stays = stays_new (λ xs. route_at (state_after s xs).routes v) n more long;
            })
            | inr stood ↦
                let lane = a.lanes v low high in
                let same : route_at new.routes v ≡ route_at old.routes v = ap (λ (rs : List (List ℕ)). route_at rs v) (sym r.routes) ∙ route_kept (length old.routes) v (changes_of routes) old.routes r.apart low stood.1 in
                subst (λ (m : Mark). IsLane s more v m) (sym stood.0 ∙ at) (record {
                  vehicle = lane.vehicle;
                  route = lane.route ∙ sym same;
                  stays = stays_on (λ xs. route_at (state_after s xs).routes v) (lane_at p.lanes v).entry es e lane.stays same;
                })
          ];
      pins = written_right s.customers None _ _ p.pins c.pins.items (test_option test_number) a.pins is.pins;
      frozen = written_right s.vehicles 0 _ _ p.frozen (option_to_list c.front) test_number a.frozen is.front;
      version = is.version;
      entries = count ∙ sym longer;
      moved = since_right (λ xs. (state_after s xs).routes) _ n more (option_to_list c.second) long (λ no_second.
          since_right (λ xs. (state_after s xs).routes) p.moved n more (option_to_list c.first) long (λ no_first.
          stays_on (λ xs. (state_after s xs).routes) p.moved es e a.moved (sym r.routes ∙ (λ i. with_routes (changes_of (no_first i ++ no_second i)) old.routes))));
      turned = since_right (λ xs. (state_after s xs).pins) _ n more (option_to_list c.front) long (λ no_front.
          since_right (λ xs. (state_after s xs).pins) p.turned n more c.pins.items long (λ no_pin.
          let pins = unchanged None s.customers old.pins.pins new.pins.pins c.pins.items (test_option test_number) was.pinned good.pinned is.pins no_pin in
          let fronts = unchanged 0 s.vehicles old.pins.fronts new.pins.fronts (option_to_list c.front) test_number was.frozen good.frozen is.front no_front in
          stays_on (λ xs. (state_after s xs).pins) p.turned es e a.turned (λ i. record { pins = pins i; fronts = fronts i })));
    }
