-- Work that follows other work.
use Rattle.std.proofs.Common.{◌≡◌, ℕ, ◌+◌, ◌≤◌, ◌∙◌, List, refl, ap, subst, arith, Result, Ok, Err, Option, Some, None}
use Rattle.std.specs.Prelude.{IfErr, IfNone}
use Rattle.callback_store.specs.declared.meter.Meter.{Meter}
use Rattle.callback_store.specs.Meter.{Asks, AsksAtMost, after_probe}
use Rattle.dimension_core.specs.Setting.{Setting}
use Rattle.plan_core.specs.declared.touch.Touch.{Touch}
use Rattle.plan_core.specs.Drafts.{DraftState, drafts_of}
use Rattle.plan_core.specs.Plan.{Changes, with_routes}
use Rattle.move_core.specs.declared.moves.Move.{Move}
use Rattle.move_core.specs.Moves.{changes_by}
use Rattle.move_core.specs.Touched.{touched_by}
use Rattle.board_rules.specs.Rules.{routes_after}
use Rattle.board_rules.specs.declared.reply.Denial.{Denial}
use Rattle.board_state.specs.Held.{HeldState}
use Rattle.board_state.specs.declared.stop.Stop.{Stop}
use Rattle.board_state.specs.declared.stop.Stop.TheVariants.{Denied, NoMemory}
use Rattle.board_state.specs.Verdicts.{IsEarly, ComesEarly, IsLateAt, IsLate, IsPinnedAt, IsPinned, IsWorkOfMove, IsWorkOfPins, asks_most, probes_least, probes_most, early_least, stop_asks, stop_asks_least, stop_least, stop_most}
use Rattle.board_state.specs.Work.{Works, WorksJust, WorksAtMost, Stage, at_vehicles, at_facts, at_customers, at_fronts, at_pins, at_bounds, stage_of, least_at, most_at, asks_at, asks_least_at, leaving, leaving_by, leaving_with}

-- nothing was counted
pub idle : (m : Meter) (asks probes : ℕ) → WorksAtMost m m asks probes
idle m asks probes = record {
  walks = refl;
  asks_low = omega arith;
  asks_least = omega arith;
  asks_high = omega arith;
  probes_low = omega arith;
  probes_least = omega arith;
  probes_high = omega arith;
}

pub just_idle : (m : Meter) → WorksJust m m 0 0
just_idle m = idle m 0 0

-- bounds may be wider
pub within : (old new : Meter) (i asks j probes k more_asks l more_probes : ℕ) → Works old new i asks j probes → k ≤ i → asks ≤ more_asks → l ≤ j → probes ≤ more_probes
    → Works old new k more_asks l more_probes
within old new i asks j probes k more_asks l more_probes h less_asks few_asks less_probes few_probes = record {
  walks = h.walks;
  asks_low = h.asks_low;
  asks_least = omega (arith, h.asks_least);
  asks_high = omega (arith, h.asks_high);
  probes_low = h.probes_low;
  probes_least = omega (arith, h.probes_least);
  probes_high = omega (arith, h.probes_high);
}

pub wider : {i j : ℕ} (old new : Meter) (asks probes more_asks more_probes : ℕ) → Works old new i asks j probes → asks ≤ more_asks → probes ≤ more_probes
    → WorksAtMost old new more_asks more_probes
wider {i} {j} old new asks probes more_asks more_probes h few_asks few_probes =
    within old new i asks j probes 0 more_asks 0 more_probes h (omega arith) few_asks (omega arith) few_probes

-- two pieces of work, one after the other, count what both count together
pub both : (a b c : Meter) (i m j n k o l p : ℕ) → Works a b i m j n → Works b c k o l p → Works a c (i + k) (m + o) (j + l) (n + p)
both a b c i m j n k o l p h q = record {
  walks = q.walks ∙ h.walks;
  asks_low = omega (arith, h.asks_low, q.asks_low);
  asks_least = omega (arith, h.asks_least, h.asks_low, q.asks_least, q.asks_low);
  asks_high = omega (arith, h.asks_high, q.asks_high);
  probes_low = omega (arith, h.probes_low, q.probes_low);
  probes_least = omega (arith, h.probes_least, h.probes_low, q.probes_least, q.probes_low);
  probes_high = omega (arith, h.probes_high, q.probes_high);
}

pub both_within : (a b c : Meter) (i m j n k o l p i' m' j' n' : ℕ) → Works a b i m j n → Works b c k o l p → i' ≤ i + k → m + o ≤ m' → j' ≤ j + l → n + p ≤ n'
    → Works a c i' m' j' n'
both_within a b c i m j n k o l p i' m' j' n' h q less_asks few_asks less_probes few_probes =
    within a c (i + k) (m + o) (j + l) (n + p) i' m' j' n' (both a b c i m j n k o l p h q) less_asks few_asks less_probes few_probes

pub then : {i j k l : ℕ} (a b c : Meter) (asks probes more_asks more_probes all_asks all_probes : ℕ) → Works a b i asks j probes → Works b c k more_asks l more_probes
    → asks + more_asks ≤ all_asks → probes + more_probes ≤ all_probes → WorksAtMost a c all_asks all_probes
then {i} {j} {k} {l} a b c asks probes more_asks more_probes all_asks all_probes h q few_asks few_probes =
    both_within a b c i asks j probes k more_asks l more_probes 0 all_asks 0 all_probes h q (omega arith) few_asks (omega arith) few_probes

-- one probe more, exactly
pub probe_more : (a b c : Meter) (n : ℕ) → WorksJust a b 0 n → WorksJust b c 0 1 → WorksJust a c 0 (n + 1)
probe_more a b c n h q = both a b c 0 0 n n 0 0 1 1 h q

-- one probe is no more than one
pub probe_most : (old new : Meter) → WorksJust old new 0 1 → WorksAtMost old new 0 1
probe_most old new one = wider old new 0 1 0 1 one (omega arith) (omega arith)

-- a count of asks alone
pub asks_alone : (a b : Meter) (i asks : ℕ) → Asks a b i asks → Works a b i asks 0 0
asks_alone a b i asks h =
    let same = h.probes in
    record {
      walks = h.walks;
      asks_low = h.rises;
      asks_least = h.low;
      asks_high = h.high;
      probes_low = omega arith;
      probes_least = omega arith;
      probes_high = omega arith;
    }

-- one probe
pub probed : (a b : Meter) → b ≡ after_probe a → a.probes ≤ 18446744073709551615 → WorksJust a b 0 1
probed a b h small = rw h (record {
  walks = refl;
  asks_low = omega arith;
  asks_least = omega arith;
  asks_high = omega arith;
  probes_low = omega arith;
  probes_least = omega arith;
  probes_high = omega arith;
})

pub if_none : {X : Type 0} (o : Option X) (P : Type 0) → P → IfNone o P
if_none None P p = p
if_none (Some x) P p = tt

pub where_none : {X : Type 0} (o : Option X) (P : Type 0) → IfNone o P → o ≡ None → P
where_none {X} o P h e = subst (λ (x : Option X). IfNone x P) e h

-- ---- judgements

-- a whole judgement counts no less than any part of it, and no more
all_probes : (n t l : ℕ) (at : Stage) → most_at n t l at ≤ n + t + l
all_probes n t l at_vehicles = omega arith
all_probes n t l at_facts = omega arith
all_probes n t l at_customers = omega arith
all_probes n t l at_fronts = omega arith
all_probes n t l at_pins = omega arith
all_probes n t l (at_bounds v d) = omega arith

pub most_probes : {C : Type 0} (n t l : ℕ) (r : Result C Stop) → probes_most n t l r ≤ n + t + l
most_probes n t l (Ok new) = omega arith
most_probes n t l (Err NoMemory) = omega arith
most_probes n t l (Err (Denied denial)) = all_probes n t l (stage_of denial)

all_asks : (m : ℕ) (at : Stage) → asks_at m at ≤ m
all_asks m at_vehicles = omega arith
all_asks m at_facts = omega arith
all_asks m at_customers = omega arith
all_asks m at_fronts = omega arith
all_asks m at_pins = omega arith
all_asks m (at_bounds v d) = omega arith

pub most_asks : {C : Type 0} (m : ℕ) (r : Result C Stop) → asks_most m r ≤ m
most_asks m (Ok new) = omega arith
most_asks m (Err NoMemory) = omega arith
most_asks m (Err (Denied denial)) = all_asks m (stage_of denial)

-- the rules from the touched customers on, after the probes of the named vehicles
named_least_at : (n t l : ℕ) (at : Stage) → least_at n t l at ≤ n + least_at 0 t l at
named_least_at n t l at_vehicles = omega arith
named_least_at n t l at_facts = omega arith
named_least_at n t l at_customers = omega arith
named_least_at n t l at_fronts = omega arith
named_least_at n t l at_pins = omega arith
named_least_at n t l (at_bounds v d) = omega arith

named_least : {C : Type 0} (n t l : ℕ) (r : Result C Stop) → probes_least n t l r ≤ n + probes_least 0 t l r
named_least n t l (Ok new) = omega arith
named_least n t l (Err NoMemory) = omega arith
named_least n t l (Err (Denied denial)) = named_least_at n t l (stage_of denial)

named_most_at : (n t l : ℕ) (at : Stage) → n + most_at 0 t l at ≤ most_at n t l at
named_most_at n t l at_vehicles = omega arith
named_most_at n t l at_facts = omega arith
named_most_at n t l at_customers = omega arith
named_most_at n t l at_fronts = omega arith
named_most_at n t l at_pins = omega arith
named_most_at n t l (at_bounds v d) = omega arith

named_most : {C : Type 0} (n t l : ℕ) (r : Result C Stop) → n + probes_most 0 t l r ≤ probes_most n t l r
named_most n t l (Ok new) = omega arith
named_most n t l (Err NoMemory) = omega arith
named_most n t l (Err (Denied denial)) = named_most_at n t l (stage_of denial)

pub after_named : {C : Type 0} (a b c : Meter) (n t l i m : ℕ) (r : Result C Stop) → WorksJust a b 0 n → Works b c i m (probes_least 0 t l r) (probes_most 0 t l r)
    → Works a c i m (probes_least n t l r) (probes_most n t l r)
after_named a b c n t l i m r h q =
    both_within a b c 0 0 n n i m _ _ i m _ _ h q (omega arith) (omega arith) (named_least n t l r) (named_most n t l r)

-- the rules on the new routes, after the probes of the touched customers
touched_least_at : (t l : ℕ) (at : Stage) → least_at 0 t l at ≤ t + least_at 0 0 l at
touched_least_at t l at_vehicles = omega arith
touched_least_at t l at_facts = omega arith
touched_least_at t l at_customers = omega arith
touched_least_at t l at_fronts = omega arith
touched_least_at t l at_pins = omega arith
touched_least_at t l (at_bounds v d) = omega arith

touched_least : {C : Type 0} (t l : ℕ) (r : Result C Stop) → probes_least 0 t l r ≤ t + probes_least 0 0 l r
touched_least t l (Ok new) = omega arith
touched_least t l (Err NoMemory) = omega arith
touched_least t l (Err (Denied denial)) = touched_least_at t l (stage_of denial)

touched_most_at : (t l : ℕ) (at : Stage) → IsLateAt at → t + most_at 0 0 l at ≤ most_at 0 t l at
touched_most_at t l at_vehicles late = absurd late
touched_most_at t l at_facts late = absurd late
touched_most_at t l at_customers late = absurd late
touched_most_at t l at_fronts late = omega arith
touched_most_at t l at_pins late = omega arith
touched_most_at t l (at_bounds v d) late = omega arith

touched_most : {C : Type 0} (t l : ℕ) (r : Result C Stop) → IfErr r IsLate → t + probes_most 0 0 l r ≤ probes_most 0 t l r
touched_most t l (Ok new) late = omega arith
touched_most t l (Err NoMemory) late = omega arith
touched_most t l (Err (Denied denial)) late = touched_most_at t l (stage_of denial) late

pub after_touched : {C : Type 0} (a b c : Meter) (t l i m : ℕ) (r : Result C Stop) → IfErr r IsLate → WorksJust a b 0 t → Works b c i m (probes_least 0 0 l r) (probes_most 0 0 l r)
    → Works a c i m (probes_least 0 t l r) (probes_most 0 t l r)
after_touched a b c t l i m r late h q =
    both_within a b c 0 0 t t i m _ _ i m _ _ h q (omega arith) (omega arith) (touched_least t l r) (touched_most t l r late)

-- a denial by one of the first rules
pub denied_early : (a b : Meter) (n t l m : ℕ) (dimensions : ℕ) (routes : List (List ℕ)) (changes : Changes) (denial : Denial) → ComesEarly denial → Works a b 0 0 (early_least n (Some denial)) n
    → Works a b (asks_least_at dimensions routes changes (stage_of denial)) (asks_at m (stage_of denial)) (least_at n t l (stage_of denial)) (most_at n t l (stage_of denial))
denied_early a b n t l m dimensions routes changes denial early h = by_stage (stage_of denial) early h
  where
    by_stage : (at : Stage) → IsEarly at → Works a b 0 0 (least_at n 0 0 at) n
        → Works a b (asks_least_at dimensions routes changes at) (asks_at m at) (least_at n t l at) (most_at n t l at)
    by_stage at_vehicles early h = h
    by_stage at_facts early h = h
    by_stage at_customers early h = absurd early
    by_stage at_fronts early h = absurd early
    by_stage at_pins early h = absurd early
    by_stage (at_bounds v d) early h = absurd early

-- what judging pins and fronts counted, where it let the new routes pass, and where it stopped them
pub pinned_whole : {C : Type 0} (a b : Meter) (l : ℕ) (r : Result C Stop) {x : C} → r ≡ Ok x → Works a b 0 0 (probes_least 0 0 l r) l → WorksJust a b 0 l
pinned_whole {C} a b l r {x} e h =
    let here : probes_least 0 0 l r ≡ l = ap (λ (q : Result C Stop). probes_least 0 0 l q) e ∙ none_before l in
    subst (λ (n : ℕ). Works a b 0 0 n l) here h
  where
    none_before : (n : ℕ) → 0 + 0 + n ≡ n
    none_before n = omega arith

-- the work of judging the pins of the drafts of a move is that of the move
pub pins_work : {C : Type 0} (held : HeldState) (mv : Move) (drafts : List DraftState) (ts all : List Touch) (r : Result C Stop) (a b : Meter)
    → drafts_of held.plan.routes drafts ≡ changes_by held.plan.routes mv → ts ≡ all → all ≡ touched_by held.plan.routes mv
    → IsWorkOfPins (leaving_with held drafts ts) r a b → IsWorkOfPins (leaving_by held.pins held.plan.routes mv) r a b
pins_work held mv drafts ts all r a b same read listed work =
    subst (λ (us : List Touch). IsWorkOfPins (leaving held.pins (routes_after held.plan.routes mv) us) r a b) (read ∙ listed)
    (subst (λ (cs : Changes). IsWorkOfPins (leaving held.pins (with_routes cs held.plan.routes) ts) r a b) same work)

-- the bounds are judged after the pins, to an end or as far as memory allows
pub pins_and_bounds : (a b c : Meter) (l i m : ℕ) → WorksJust a b 0 l → Asks b c i m → Works a c i m (0 + 0 + l) (0 + 0 + l)
pins_and_bounds a b c l i m h q =
    both_within a b c 0 0 l l i m 0 0 i m (0 + 0 + l) (0 + 0 + l) h (asks_alone b c i m q) (omega arith) (omega arith) (omega arith) (omega arith)

pub pins_and_some : (a b c : Meter) (l m : ℕ) → WorksJust a b 0 l → AsksAtMost b c m → Works a c 0 m 0 (0 + 0 + l)
pins_and_some a b c l m h q =
    both_within a b c 0 0 l l 0 m 0 0 0 m 0 (0 + 0 + l) h (asks_alone b c 0 m q) (omega arith) (omega arith) (omega arith) (omega arith)

-- the work of a move is the same where what is held is
pub work_as : {C : Type 0} (s : Setting) (a b : HeldState) (mv : Move) (r : Result C Stop) (old new : Meter) → a ≡ b → IsWorkOfMove s a mv 0 0 r old new → IsWorkOfMove s b mv 0 0 r old new
work_as s a b mv r old new e h = subst (λ (x : HeldState). IsWorkOfMove s x mv 0 0 r old new) e h

-- where all that would leave were probed, that is enough for a stop by a pin, and for one by a front
pub all_probed : (a b : Meter) (l : ℕ) → WorksJust a b 0 l → Works a b 0 0 (0 + 0 + l) l
all_probed a b l h = within a b 0 0 l l 0 0 (0 + 0 + l) l h (omega arith) (omega arith) (omega arith) (omega arith)

pub some_probed : (a b : Meter) (l : ℕ) → WorksJust a b 0 l → Works a b 0 0 (0 + 0) l
some_probed a b l h = within a b 0 0 l l 0 0 (0 + 0) l h (omega arith) (omega arith) (omega arith) (omega arith)

-- no judgement of a proposal counts more than a whole one
pub early_most : (a b : Meter) (i n t l m : ℕ) → Works a b 0 0 i n → WorksAtMost a b m (n + t + l)
early_most a b i n t l m h = wider a b 0 n m (n + t + l) h (omega arith) (omega arith)

pub move_most : {C : Type 0} (a b c : Meter) (n t l i m : ℕ) (r : Result C Stop) → WorksJust a b 0 n → Works b c i (asks_most m r) (probes_least 0 t l r) (probes_most 0 t l r)
    → WorksAtMost a c m (n + t + l)
move_most a b c n t l i m r h q =
    wider a c (asks_most m r) (probes_most n t l r) m (n + t + l) (after_named a b c n t l i (asks_most m r) r h q) (most_asks m r) (most_probes n t l r)

-- what stops new routes by a pin or a front stops them late
pub late_if_pinned : (stop : Stop) → IsPinned stop → IsLate stop
late_if_pinned NoMemory pinned = tt
late_if_pinned (Denied denial) pinned = by_stage (stage_of denial) pinned
  where
    by_stage : (at : Stage) → IsPinnedAt at → IsLateAt at
    by_stage at_vehicles pinned = absurd pinned
    by_stage at_facts pinned = absurd pinned
    by_stage at_customers pinned = absurd pinned
    by_stage at_fronts pinned = tt
    by_stage at_pins pinned = tt
    by_stage (at_bounds v d) pinned = absurd pinned

pub pinned_stop : (a b : Meter) (l m dimensions : ℕ) (routes : List (List ℕ)) (changes : Changes) (stop : Stop) → IsPinned stop → Works a b 0 0 (stop_least 0 0 l stop) l
    → Works a b (stop_asks_least dimensions routes changes stop) (stop_asks m stop) (stop_least 0 0 l stop) (stop_most 0 0 l stop)
pinned_stop a b l m dimensions routes changes NoMemory pinned h = within a b 0 0 0 l 0 m 0 _ h (omega arith) (omega arith) (omega arith) (omega arith)
pinned_stop a b l m dimensions routes changes (Denied denial) pinned h = by_stage (stage_of denial) pinned h
  where
    by_stage : (at : Stage) → IsPinnedAt at → Works a b 0 0 (least_at 0 0 l at) l
        → Works a b (asks_least_at dimensions routes changes at) (asks_at m at) (least_at 0 0 l at) (most_at 0 0 l at)
    by_stage at_vehicles pinned h = absurd pinned
    by_stage at_facts pinned h = absurd pinned
    by_stage at_customers pinned h = absurd pinned
    by_stage at_fronts pinned h = within a b 0 0 _ l _ _ _ _ h (omega arith) (omega arith) (omega arith) (omega arith)
    by_stage at_pins pinned h = within a b 0 0 _ l _ _ _ _ h (omega arith) (omega arith) (omega arith) (omega arith)
    by_stage (at_bounds v d) pinned h = absurd pinned
