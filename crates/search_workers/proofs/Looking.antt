-- What a worker sees, and what it finds there.
use Rattle.std.proofs.Common.{◌≡◌, ℕ, List, Option, Some, MatchOption, ap, sym, subst, ◌∙◌}
use Rattle.dimension_core.specs.Setting.{Setting}
use Rattle.pin_core.specs.View.{ViewState}
use Rattle.move_core.specs.declared.moves.Move.{Move}
use Rattle.move_judge.specs.View.{IsViewOf}
use Rattle.neighbourhood.specs.Best.{IsBest, IsIdle}
use Rattle.board_rules.specs.declared.call.Entry.{Entry}
use Rattle.board_rules.specs.History.{Opening, History, IsLegal, state_after}
use Rattle.board_rules.specs.Good.{IsGood, state_of}
use Rattle.board_lock.specs.Commits.{Legal}
use Rattle.published_board.specs.Shelves.{view_of}
use Rattle.search_workers.specs.declared.finder.Found.{Found}
use Rattle.search_workers.specs.Kinds.{Round, entries_of}
use Rattle.search_workers.specs.Skips.{skip_at}
use Rattle.search_workers.specs.Jobs.{Job, view_after, first_vehicle, second_vehicle}
use Rattle.search_workers.specs.Rounds.{number_after, NoneCounts, IsBestIn}
use Rattle.search_workers.specs.Steps.{IsFound, AreSkipped}

-- the view that was brought up is that of what was seen
pub shown : (o : Opening) (viewed : Option (List Entry)) (seen : List Entry) (view : ViewState) → viewed ≡ Some seen → MatchOption viewed ⊥ (λ es. view ≡ view_of (state_after o.setting es)) → view ≡ view_after o seen
shown o viewed seen view is shows = subst (λ (v : Option (List Entry)). MatchOption v ⊥ (λ es. view ≡ view_of (state_after o.setting es))) is shows

-- a view of what was seen is a view of a feasible plan
pub is_view : ((h : History) → IsLegal h → IsGood h.opening.setting (state_of h)) → (o : Opening) (seen : List Entry) (view : ViewState) → Legal o seen → view ≡ view_after o seen → IsViewOf o.setting view
is_view good o seen view legal is = subst (IsViewOf o.setting) (sym is) there where
  there : IsViewOf o.setting (view_after o seen)
  there =
      let h : History = record { opening = o; entries = seen } in
      let g : IsGood o.setting (state_of h) = good h legal in
      record {
        plan = g.plan;
        vehicles = g.sized;
        pinned = g.pinned;
        frozen = g.frozen;
        feasible = g.feasible;
        holding = g.pins;
        fitting = g.fronts;
      }

-- what is found in the view is found in the state
pub found_in : (s : Setting) (o : Opening) (seen : List Entry) (view : ViewState) (skip moves : List Move) (v w : ℕ) (found : Option Found) → s ≡ o.setting → view ≡ view_after o seen → skip ≡ moves → IsFound s view skip v w found
    → IsFound o.setting (view_after o seen) moves v w found
found_in s o seen view skip moves v w found setting_is view_is skip_is there =
    subst (λ (ms : List Move). IsFound o.setting (view_after o seen) ms v w found) skip_is
    (subst (λ (x : ViewState). IsFound o.setting x skip v w found) view_is (subst (λ (t : Setting). IsFound t view skip v w found) setting_is there))

-- the moves that are kept are those that the round skips
skip_is : (job : Job) (done : List Round) (seen : List Entry) (at : ℕ) (moves : List Move) → at ≡ (view_after job.opening seen).version → AreSkipped done at moves → moves ≡ skip_at (view_after job.opening seen).version (entries_of done)
skip_is job done seen at moves at_is skipped = skipped.moves_are ∙ ap (λ n. skip_at n (entries_of done)) at_is

pub best_in : (job : Job) (done : List Round) (seen : List Entry) (at round v w : ℕ) (moves : List Move) (mv : Move) (gain : ℕ) → at ≡ (view_after job.opening seen).version → AreSkipped done at moves
    → number_after done ≡ round → v ≡ first_vehicle job round → w ≡ second_vehicle job round → IsBest job.opening.setting (view_after job.opening seen) moves v w mv gain → IsBestIn job done seen mv gain
best_in job done seen at round v w moves mv gain at_is skipped number first second best =
    let view : ViewState = view_after job.opening seen in
    let one = subst (λ (ms : List Move). IsBest job.opening.setting view ms v w mv gain) (skip_is job done seen at moves at_is skipped) best in
    let two = subst (λ (x : ℕ). IsBest job.opening.setting view (skip_at view.version (entries_of done)) x w mv gain) (first ∙ ap (first_vehicle job) (sym number)) one in
    subst (λ (x : ℕ). IsBest job.opening.setting view (skip_at view.version (entries_of done)) (first_vehicle job (number_after done)) x mv gain) (second ∙ ap (second_vehicle job) (sym number)) two

pub none_in : (job : Job) (done : List Round) (seen : List Entry) (at round v w : ℕ) (moves : List Move) → at ≡ (view_after job.opening seen).version → AreSkipped done at moves
    → number_after done ≡ round → v ≡ first_vehicle job round → w ≡ second_vehicle job round → IsIdle job.opening.setting (view_after job.opening seen) moves v w → NoneCounts job done seen
none_in job done seen at round v w moves at_is skipped number first second idle =
    let view : ViewState = view_after job.opening seen in
    let one = subst (λ (ms : List Move). IsIdle job.opening.setting view ms v w) (skip_is job done seen at moves at_is skipped) idle in
    let two = subst (λ (x : ℕ). IsIdle job.opening.setting view (skip_at view.version (entries_of done)) x w) (first ∙ ap (first_vehicle job) (sym number)) one in
    subst (λ (x : ℕ). IsIdle job.opening.setting view (skip_at view.version (entries_of done)) (first_vehicle job (number_after done)) x) (second ∙ ap (second_vehicle job) (sym number)) two
