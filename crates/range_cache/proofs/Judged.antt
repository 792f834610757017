-- What holds of the new routes that are left to be judged holds of all of them.
use Rattle.std.proofs.Common.{◌≡◌, ℕ, ◌+◌, ◌-◌, ◌*◌, ◌==◌, ◌≤◌, Bool, true, false, ◌∙◌, refl, ap, sym, subst, arith, List, [], ◌∷◌, ◌++◌, append_assoc, length}
use Rattle.std.specs.Prelude.{All, if◌then◌else◌}
use Rattle.std.proofs.Math.Nat.{mul-le-mul_right}
use Rattle.std.proofs.lemmas.Bool.Decides.{nat_tests}
use Rattle.std.proofs.lemmas.List.{append-nil}
use Rattle.std.proofs.lemmas.List.Elements.{All-cons}
use Rattle.std.proofs.lemmas.List.Sums.{sum_by-append, sum_by-cons}
use Rattle.callback_store.specs.declared.meter.Meter.{Meter}
use Rattle.callback_store.specs.Meter.{Asks, AsksJust, AsksAtMost, none_asked, asks_after, asks_both}
use Rattle.dimension_core.specs.Feasible.{FitsAll, IsFirstOut}
use Rattle.dimension_core.specs.NewRoutes.{Changes, AllFit, AllKnown, IsOut}
use Rattle.dimension_core.specs.Setting.{Setting}
use Rattle.plan_core.specs.Plan.{route_at}
use Rattle.range_cache.specs.Asks.{walk_asks, judge_asks, asks_before, fault_asks}
use Rattle.range_cache.specs.Cache.{RowState, CacheState, IsRowOf}
use Rattle.range_cache.specs.Pending.{NewRows, AreWithin, AreNewRows, IsJudgeFault}
use Rattle.range_cache.specs.declared.fault.JudgeFault.{JudgeFault}
use Rattle.range_cache.specs.declared.fault.JudgeFault.TheVariants.{Bound, NoMemory}
use Rattle.range_cache.specs.Row.{IsRowFault, row_asks}
use Rattle.range_cache.proofs.Caches.{not_out}

-- the new routes that are left to be walked
pub record IsRest (s : Setting) (all rest : Changes) : Type 0 where
  pub fits : AllFit s rest → AllFit s all
  pub outs : (v d : ℕ) → IsOut s rest v d → IsOut s all v d
  pub known : AllKnown s rest

pub rest_all : (s : Setting) (all : Changes) → AllKnown s all → IsRest s all all
rest_all s all known = record { fits = λ f. f; outs = λ v d o. o; known = known }

pub rest_next : (s : Setting) (all rest next : Changes) (c : ℕ × List ℕ) → IsRest s all rest → rest ≡ c ∷ next → FitsAll s c.0 c.1 → IsRest s all next
rest_next s all rest next c r e fits =
    let r' = subst (λ (cs : Changes). IsRest s all cs) e r in
    record {
      fits = λ f. r'.fits (fits, f);
      outs = λ v d o. r'.outs v d ((λ none. absurd (none fits)), (λ yes. o));
      known = r'.known.1;
    }

rest_out : (s : Setting) (all rest next : Changes) (c : ℕ × List ℕ) (d : ℕ) → IsRest s all rest → rest ≡ c ∷ next → IsFirstOut s c.0 c.1 d → IsOut s all c.0 d
rest_out s all rest next c d r e out =
    let r' = subst (λ (cs : Changes). IsRest s all cs) e r in
    r'.outs c.0 d ((λ none. (refl, out)), (λ fits. absurd (not_out s c.0 c.1 d fits out)))

pub first_known : (s : Setting) (rest next : Changes) (c : ℕ × List ℕ) → AllKnown s rest → rest ≡ c ∷ next
    → (1 ≤ c.0) × (c.0 ≤ s.vehicles) × All (λ customer. customer ≤ s.customers) c.1
first_known s rest next c known e = (subst (λ (cs : Changes). AllKnown s cs) e known).0

pub rest_none : (s : Setting) (all rest : Changes) → IsRest s all rest → rest ≡ [] → AllFit s all
rest_none s all rest r e = (subst (λ (cs : Changes). IsRest s all cs) e r).fits tt

pub rest_fault : (s : Setting) (all rest next : Changes) (c : ℕ × List ℕ) (e : JudgeFault) → IsRest s all rest → rest ≡ c ∷ next → IsRowFault s c.0 c.1 e → IsJudgeFault s all e
rest_fault s all rest next c (Bound v d) r e f = subst (λ (w : ℕ). IsOut s all w d) (sym f.0) (rest_out s all rest next c d r e f.1)
rest_fault s all rest next c NoMemory r e f = tt

-- these rows, and those of the new routes that are left, are the rows of all new routes
pub record RowsGoOn (s : Setting) (all rest : Changes) (rows : NewRows) : Type 0 where
  pub known : AllKnown s rest
  pub made : (more : NewRows) → AreNewRows s rest more → AreNewRows s all (rows ++ more)

pub go_on_all : (s : Setting) (all : Changes) → AllKnown s all → RowsGoOn s all all []
go_on_all s all known = record { known = known; made = λ more m. m }

pub go_on_next : (s : Setting) (all rest next : Changes) (rows : NewRows) (c : ℕ × List ℕ) (row : RowState) → RowsGoOn s all rest rows → rest ≡ c ∷ next
    → IsRowOf s c.0 c.1 row → RowsGoOn s all next (rows ++ (c.0, row) ∷ [])
go_on_next s all rest next rows c row r e new =
    let r' = subst (λ (cs : Changes). RowsGoOn s all cs rows) e r in
    record {
      known = r'.known.1;
      made = λ more m.
          subst (λ (xs : NewRows). AreNewRows s all xs) (sym (append_assoc rows ((c.0, row) ∷ []) more))
          (r'.made ((c.0, row) ∷ more) ((r'.known.0.0, r'.known.0.1, refl, new), m));
    }

pub go_on_none : (s : Setting) (all rest : Changes) (rows : NewRows) → RowsGoOn s all rest rows → rest ≡ [] → AreNewRows s all rows
go_on_none s all rest rows r e =
    let r' = subst (λ (cs : Changes). RowsGoOn s all cs rows) e r in
    subst (λ (xs : NewRows). AreNewRows s all xs) (append-nil rows) (r'.made [] tt)

-- the rows are for vehicles of the cache
pub rows_within : (s : Setting) (changes : Changes) (rows : NewRows) (cache : CacheState) → length cache.rows ≡ s.vehicles → AreNewRows s changes rows → AreWithin cache rows
rows_within s [] [] cache sized new = λ k d h. absurd (omega arith)
rows_within s (c ∷ cs) (r ∷ rs) cache sized new =
    let e : r.0 ≡ c.0 = new.0.2 in
    let low : 1 ≤ c.0 = new.0.0 in
    let high : c.0 ≤ s.vehicles = new.0.1 in
    All-cons (λ (x : ℕ × RowState). (1 ≤ x.0) × (x.0 ≤ length cache.rows)) r rs (omega arith, omega arith) (rows_within s cs rs cache sized new.1)
rows_within s [] (r ∷ rs) cache sized new = absurd new
rows_within s (c ∷ cs) [] cache sized new = absurd new

-- for the new routes before those that are left all was asked
abbrev pub AreAsked : ℕ → List (List ℕ) → Changes → Changes → Meter → Meter → Type 0
AreAsked n routes all rest from to = (done : Changes) × (all ≡ done ++ rest) × AsksJust from to (judge_asks n routes done)

pub asked_none : (n : ℕ) (routes : List (List ℕ)) (all : Changes) (m : Meter) → AreAsked n routes all all m m
asked_none n routes all m = ([], refl, none_asked m)

pub asked_next : (n : ℕ) (routes : List (List ℕ)) (all rest next : Changes) (c : ℕ × List ℕ) (from a b : Meter) → AreAsked n routes all rest from a → rest ≡ c ∷ next
    → AsksJust a b (n * walk_asks (route_at routes c.0) c.1) → AreAsked n routes all next from b
asked_next n routes all rest next c from a b p e q =
    let done : Changes = p.0 in
    let parts = sum_by-append (λ (x : ℕ × List ℕ). n * walk_asks (route_at routes x.0) x.1) done (c ∷ []) in
    let one = sum_by-cons (λ (x : ℕ × List ℕ). n * walk_asks (route_at routes x.0) x.1) c [] in (
      done ++ c ∷ [],
      p.1 ∙ ap (λ (cs : Changes). done ++ cs) e ∙ sym (append_assoc done (c ∷ []) next),
      asks_both from a b _ _ _ _ _ _ p.2 q (omega (arith, parts, one)) (omega (arith, parts, one)),
    )

pub asked_out : (n : ℕ) (routes : List (List ℕ)) (all rest next : Changes) (c : ℕ × List ℕ) (from a b : Meter) → AreAsked n routes all rest from a → rest ≡ c ∷ next
    → AsksAtMost a b (n * walk_asks (route_at routes c.0) c.1) → AsksAtMost from b (judge_asks n routes all)
asked_out n routes all rest next c from a b p e q =
    let more = sum_by-cons (λ (x : ℕ × List ℕ). n * walk_asks (route_at routes x.0) x.1) c next in
    let whole : judge_asks n routes all ≡ judge_asks n routes p.0 + judge_asks n routes (c ∷ next) =
    ap (judge_asks n routes) (p.1 ∙ ap (λ (cs : Changes). p.0 ++ cs) e) ∙ sum_by-append (λ (x : ℕ × List ℕ). n * walk_asks (route_at routes x.0) x.1) p.0 (c ∷ next) in
    asks_after from a b _ _ _ p.2 q (omega (arith, whole, more))

pub asked_all : (n : ℕ) (routes : List (List ℕ)) (all rest : Changes) (from to : Meter) → AreAsked n routes all rest from to → rest ≡ []
    → AsksJust from to (judge_asks n routes all)
asked_all n routes all rest from to p e =
    let whole : all ≡ p.0 = p.1 ∙ ap (λ (cs : Changes). p.0 ++ cs) e ∙ append-nil p.0 in
    subst (λ (cs : Changes). AsksJust from to (judge_asks n routes cs)) (sym whole) p.2

-- where the judgement ends with a fault, what was asked before the vehicle's dimension
before_least : (n : ℕ) (routes : List (List ℕ)) (done next : Changes) (c : ℕ × List ℕ) (d : ℕ) → d ≤ n
    → asks_before n routes (done ++ c ∷ next) c.0 d ≤ judge_asks n routes done + (d - 1) * walk_asks (route_at routes c.0) c.1
before_least n routes [] next c d few = grind (arith, nat_tests)
before_least n routes (x ∷ done) next c d few =
    let rest = before_least n routes done next c d few in
    let one = sum_by-cons (λ (y : ℕ × List ℕ). n * walk_asks (route_at routes y.0) y.1) x done in
    step (x.0 == c.0) ((d - 1) * walk_asks (route_at routes x.0) x.1) (n * walk_asks (route_at routes x.0) x.1) _ _ _ _
    (mul-le-mul_right (walk_asks (route_at routes x.0) x.1) (omega (arith, few))) rest one
  where
    step : (b : Bool) (part whole rest_least done_all later all : ℕ) → part ≤ whole → rest_least ≤ done_all + later → all ≡ whole + done_all
        → (if b then part else whole + rest_least) ≤ all + later
    step true part whole rest_least done_all later all small rest is = omega (arith, small, is)
    step false part whole rest_least done_all later all small rest is = omega (arith, rest, is)

pub asked_stop : (n : ℕ) (routes : List (List ℕ)) (s : Setting) (all rest next : Changes) (c : ℕ × List ℕ) (e : JudgeFault) (from a b : Meter) → n ≡ length s.dimensions
    → AreAsked n routes all rest from a → rest ≡ c ∷ next → IsRowFault s c.0 c.1 e
    → Asks a b (row_asks (walk_asks (route_at routes c.0) c.1) e) (n * walk_asks (route_at routes c.0) c.1) → Asks from b (fault_asks n routes all e) (judge_asks n routes all)
asked_stop n routes s all rest next c NoMemory from a b is p e f q =
    asked_out n routes all rest next c from a b p e q
asked_stop n routes s all rest next c (Bound v d) from a b is p e f q =
    let more = sum_by-cons (λ (x : ℕ × List ℕ). n * walk_asks (route_at routes x.0) x.1) c next in
    let split : all ≡ p.0 ++ c ∷ next = p.1 ∙ ap (λ (cs : Changes). p.0 ++ cs) e in
    let whole : judge_asks n routes all ≡ judge_asks n routes p.0 + judge_asks n routes (c ∷ next) =
    ap (judge_asks n routes) split ∙ sum_by-append (λ (x : ℕ × List ℕ). n * walk_asks (route_at routes x.0) x.1) p.0 (c ∷ next) in
    let named : asks_before n routes all v d ≡ asks_before n routes (p.0 ++ c ∷ next) c.0 d = λ i. asks_before n routes (split i) (f.0 i) d in
    let high : d ≤ length s.dimensions = f.1.high in
    let least = before_least n routes p.0 next c d (omega (arith, high, is)) in
    asks_both from a b _ _ _ _ _ _ p.2 q (omega (arith, named, least)) (omega (arith, whole, more))
