-- From the live lines and the workers to the end of a run.
use Rattle.std.proofs.Common.{◌≡◌, ◌∙◌, ◌≤◌, ℕ, zero, suc, List, ◌∷◌, length, arith, refl, sym, ap, subst, inl, inr, Option, Some, None, Result, Ok, Err}
use Rattle.std.specs.Prelude.{◌⊎◌, ◌≢◌, IfOk, IfErr, IfSome, MatchResult, option_map}
use Rattle.std.specs.Option.{IsSomeAnd}
use Rattle.std.specs.Io.KnownBytes.{Appends}
use Rattle.board_rules.specs.declared.call.Entry.{Entry}
use Rattle.board_rules.specs.History.{Opening}
use Rattle.board_lock.specs.Watches.{Watch, watch_at}
use Rattle.line_engine.specs.Running.{AppendsPrefix}
use Rattle.line_engine.specs.declared.run_fault.Counts.{Counts}
use Rattle.line_engine.specs.declared.run_fault.RunFault.{RunFault}
use Rattle.line_engine.specs.declared.run_fault.RunFault.TheVariants as runs
use Rattle.desk_text.specs.DeskRuns.{IsHeld, IsHeldAtStop}
use Rattle.search_workers.specs.declared.tally.Tally.{Tally}
use Rattle.program_parts.specs.declared.stop.Stop.{Stop}
use Rattle.program_parts.specs.declared.stop.Stop.TheVariants as stops
use Rattle.worker_runs.specs.declared.orders.Orders.{Orders}
use Rattle.worker_runs.proofs.Halls.{desks_many}
use Rattle.worker_runs.specs.Halls.{AllSearched, Closes, Found, IsClosedShort, IsClosing, IsEnd, IsHallRun, IsHallShort, IsLive, IsSearched, MayClose, worker_desks}

pub few_by : (es : List Entry) (n : ℕ) (ws : List Watch) → ws ≡ worker_desks es n → n ≤ 63 → length ws ≤ 63
few_by es n ws e h =
    let many : length ws ≡ n = ap length e ∙ desks_many es n in
    omega (arith, many, h)

module _ (o : Opening) (orders : Orders) (entries : List Entry) (left_old left_new was : Option (List ℕ)) where
  abbrev Answered : Watch → Watch → Option (List ℕ) → Counts → Type 0
  Answered first desk mid counts = IsHeld o first desk left_old left_new was mid counts.lines counts.refused

  abbrev Stopped : Watch → Watch → Option (List ℕ) → RunFault → Type 0
  Stopped first desk mid fault = IsHeldAtStop o fault first desk left_old left_new was mid

  abbrev Hall : Option (List ℕ) → Result ℕ Stop → Type 0
  Hall now r = MatchResult r (IsHallRun o orders entries left_old left_new was now) (IsHallShort o orders entries left_old left_new was now)

  live : (first desk : Watch) (mid : Option (List ℕ)) (counts : Counts) → first ≡ watch_at entries 1 → Answered first desk mid counts → IsLive o entries left_old left_new was mid desk counts.refused
  live first desk mid counts e a = record { answers = counts.lines; held = subst (λ (w : Watch). Answered w desk mid counts) e a }

  closes_none : (n : ℕ) (desk : Watch) (now : Option (List ℕ)) → n ≡ 0 → Closes n o orders entries desk now now
  closes_none n desk now none = subst (λ (k : ℕ). Closes k o orders entries desk now now) (sym none) refl

  closes_by : (n : ℕ) (desk : Watch) (mid now : Option (List ℕ)) (text : List ℕ) → n ≢ 0 → IsSearched o orders entries desk text → Appends mid now text → Closes n o orders entries desk mid now
  closes_by zero desk mid now text some s a = absurd (some refl)
  closes_by (suc n) desk mid now text some s a = (text, s, a)

  abbrev Early : Watch → Option (List ℕ) → Option (List ℕ) → Type 0
  Early desk mid now = (now ≡ mid) ⊎ ((text : List ℕ) × IsSearched o orders entries desk text × AppendsPrefix mid now text)

  may_none : (n : ℕ) (fault : RunFault) (desk : Watch) (now : Option (List ℕ)) → n ≡ 0 → MayClose n fault o orders entries desk now now
  may_none n fault desk now none = subst (λ (k : ℕ). MayClose k fault o orders entries desk now now) (sym none) refl

  may_close : (n : ℕ) (fault : RunFault) (desk : Watch) (mid now : Option (List ℕ)) → n ≢ 0 → (fault ≡ runs.Write → now ≡ mid) → Early desk mid now → MayClose n fault o orders entries desk mid now
  may_close zero fault desk mid now some write early = absurd (some refl)
  may_close (suc n) runs.Write desk mid now some write early = write refl
  may_close (suc n) runs.Read desk mid now some write early = early
  may_close (suc n) runs.LongLine desk mid now some write early = early
  may_close (suc n) runs.NoMemory desk mid now some write early = early

  -- without workers
  pub alone : (first desk : Watch) (now : Option (List ℕ)) (answered : Result Counts RunFault) (r : Result ℕ Stop) → first ≡ watch_at entries 1 → orders.workers ≡ 0
      → IfOk answered (Answered first desk now) → IfErr answered (Stopped first desk now)
      → MatchResult answered (λ counts. r ≡ Ok counts.refused) (λ fault. r ≡ Err (stops.Run fault)) → Hall now r
  alone first desk now (Ok counts) r e none ok err is =
      subst (Hall now) (sym is) (record { desk = desk; mid = now; live = live first desk now counts e ok; closes = closes_none orders.workers desk now none })
  alone first desk now (Err fault) r e none ok err is =
      subst (Hall now) (sym is) (inl (record { desk = desk; mid = now; stopped = subst (λ (w : Watch). Stopped w desk now fault) e err; may = may_none orders.workers fault desk now none }))

  searched : (desk : Watch) (afters : List Watch) (tallies : List Tally) (text : List ℕ) → AllSearched o orders (worker_desks entries orders.workers) afters tallies → IsClosing o (desk ∷ afters) tallies text → IsSearched o orders entries desk text
  searched desk afters tallies text all c = record { afters = afters; tallies = tallies; searched = all; closing = c }

  abbrev AreFound : Found → Type 0
  AreFound found = IfSome found (λ f. AllSearched o orders (worker_desks entries orders.workers) f.0 f.1)

  unclosed : (first desk : Watch) (mid now : Option (List ℕ)) (counts : Counts) (afters : List Watch) (tallies : List Tally) (stop : Stop) → first ≡ watch_at entries 1 → orders.workers ≢ 0 → Answered first desk mid counts
      → AllSearched o orders (worker_desks entries orders.workers) afters tallies → IsClosedShort o (desk ∷ afters) tallies mid now stop → IsHallShort o orders entries left_old left_new was now stop
  unclosed first desk mid now counts afters tallies stops.Open e some a all c = inr (record { desk = desk; refusals = counts.refused; mid = mid; some = some; live = live first desk mid counts e a; why = inr (afters, tallies, all, c) })
  unclosed first desk mid now counts afters tallies (stops.Run fault) e some a all c = inr (record { desk = desk; refusals = counts.refused; mid = mid; some = some; live = live first desk mid counts e a; why = inr (afters, tallies, all, c) })
  unclosed first desk mid now counts afters tallies (stops.Instance kind line) e some a all c = absurd c

  early : (found : Found) (desk : Watch) (mid now : Option (List ℕ)) → AreFound found → (now ≡ mid) ⊎ IsSomeAnd found (λ f. (text : List ℕ) × IsClosing o (desk ∷ f.0) f.1 text × AppendsPrefix mid now text) → Early desk mid now
  early None desk mid now all c = elim c [ inl e ↦ inl e | inr t ↦ absurd t ]
  early (Some f) desk mid now all c = elim c [ inl e ↦ inl e | inr t ↦ inr (t.0, searched desk f.0 f.1 t.0 all t.1, t.2) ]

  pub found_by : {A : Type 0} (m : Option A) (f : A → List Watch × List Tally) (befores : List Watch) → befores ≡ worker_desks entries orders.workers → IfSome m (λ s. AllSearched o orders befores (f s).0 (f s).1) → AreFound (option_map f m)
  found_by None f befores e h = tt
  found_by (Some s) f befores e h = subst (λ (ws : List Watch). AllSearched o orders ws (f s).0 (f s).1) e h

  -- beside them
  pub with_workers : (first desk : Watch) (mid now : Option (List ℕ)) (answered : Result Counts RunFault) (found : Found) (r : Result ℕ Stop) → first ≡ watch_at entries 1 → orders.workers ≢ 0
      → IfOk answered (Answered first desk mid) → IfErr answered (Stopped first desk mid) → AreFound found → IsEnd o desk answered found mid now r → Hall now r
  with_workers first desk mid now (Ok counts) (Some f) (Ok refusals) e some ok err all end =
      subst (IsHallRun o orders entries left_old left_new was now) (sym end.0) (record { desk = desk; mid = mid; live = live first desk mid counts e ok; closes = closes_by orders.workers desk mid now end.1 some (searched desk f.0 f.1 end.1 all end.2) end.3 })
  with_workers first desk mid now (Ok counts) (Some f) (Err stop) e some ok err all end = unclosed first desk mid now counts f.0 f.1 stop e some ok all end
  with_workers first desk mid now (Ok counts) None (Err stop) e some ok err all end =
      subst (IsHallShort o orders entries left_old left_new was now) (sym end.0) (inr (record { desk = desk; refusals = counts.refused; mid = mid; some = some; live = live first desk mid counts e ok; why = inl (refl, end.1) }))
  with_workers first desk mid now (Ok counts) None (Ok refusals) e some ok err all end = absurd end
  with_workers first desk mid now (Err fault) found (Err stop) e some ok err all end =
      subst (IsHallShort o orders entries left_old left_new was now) (sym end.0) (inl (record { desk = desk; mid = mid; stopped = subst (λ (w : Watch). Stopped w desk mid fault) e err; may = may_close orders.workers fault desk mid now some end.1 (early found desk mid now all end.2) }))
  with_workers first desk mid now (Err fault) found (Ok refusals) e some ok err all end = absurd end
