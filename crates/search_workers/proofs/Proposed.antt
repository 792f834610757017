-- The round of a proposal that was answered.
use Rattle.std.proofs.Common.{◌≡◌, ℕ, ◌+◌, ◌≤◌, List, [], ◌∷◌, ◌++◌, length, length-append, take, Some, None, All, refl, ap, sym, subst, ◌∙◌, arith, if◌then◌else◌}
use Rattle.std.specs.Prelude.{slice_get}
use Rattle.std.proofs.Math.Logic.{∥∥₁_elim}
use Rattle.std.proofs.Math.Seq.{take-append_seam}
use Rattle.std.proofs.Props.{props}
use Rattle.callback_store.specs.Tables.{Table, table_at}
use Rattle.plan_core.specs.Cost.{cost_of}
use Rattle.plan_core.specs.Plan.{route_at}
use Rattle.plan_core.specs.Commits.{IsCurrentAt}
use Rattle.move_core.specs.declared.moves.Move.{Move}
use Rattle.move_core.specs.Moves.{named_by, changes_by, effect}
use Rattle.move_core.specs.Laws.{AgreeOnNamed}
use Rattle.board_rules.specs.declared.call.Call.{Call}
use Rattle.board_rules.specs.declared.call.Call.TheVariants.{Propose}
use Rattle.board_rules.specs.declared.call.Entry.{Entry}
use Rattle.board_rules.specs.declared.reply.Reply.{Reply}
use Rattle.board_rules.specs.declared.reply.Reply.TheVariants as replies
use Rattle.board_rules.specs.State.{BoardState}
use Rattle.board_rules.specs.Step.{IsReply, after}
use Rattle.board_rules.specs.History.{Opening, History, IsNext, state_after}
use Rattle.board_rules.specs.Proposals.{MayCommit}
use Rattle.board_lock.specs.Commits.{Legal}
use Rattle.search_workers.specs.Kinds.{Round, Denied, Committed, entries_of, outcome_of}
use Rattle.search_workers.specs.Jobs.{Job, view_after, cost_at}
use Rattle.search_workers.specs.Rounds.{IsProposal, IsRound}
use Rattle.search_workers.specs.Steps.{outcome_by}
use Rattle.search_workers.specs.Given.{Laws}

-- the last entry, and those before it
at_end : (es : List Entry) (e : Entry) → (slice_get (es ++ e ∷ []) (length es) ≡ Some e) × (take (length es) (es ++ e ∷ []) ≡ es)
at_end [] e = (refl, refl)
at_end (x ∷ es) e = let r = at_end es e in (r.0, ap (λ xs. x ∷ xs) r.1)

pub next_of : (o : Opening) (es : List Entry) (e : Entry) → Legal o (es ++ e ∷ []) → IsNext o es e
next_of o es e legal = let here = at_end es e in subst (λ (before : List Entry). IsNext o before e) here.1 (legal (length es) e here.0)

-- both facts of each element make a third
all_both : {A : Type 0} (P Q R : A → Type 0) (xs : List A) → ((x : A) → P x → Q x → R x) → All P xs → All Q xs → All R xs
all_both P Q R xs f p q k d inside = f _ (p k d inside) (q k d inside)

-- the entry of a proposal that stands behind what had been seen
module _ (laws : Laws) (o : Opening) (seen between : List Entry) (e : Entry) (session : ℕ) (mv : Move)
    (legal : Legal o ((seen ++ between) ++ e ∷ [])) (call_is : e.call ≡ Propose session (view_after o seen).version mv) where
  abbrev es : List Entry
  es = seen ++ between

  abbrev base : ℕ
  base = (view_after o seen).version

  abbrev state : BoardState
  state = state_after o.setting es

  legal_es : Legal o es
  legal_es = laws.begins o es (e ∷ []) legal

  right : ∥ IsReply o.setting state (Propose session base mv) e.reply ∥₁
  right = subst (λ (call : Call). ∥ IsReply o.setting state call e.reply ∥₁) call_is (next_of o es e legal).reply

  -- the vehicles that a committed move names have the routes that were seen
  agree : MayCommit o.setting state session base mv → AgreeOnNamed mv (view_after o seen).routes state.routes
  agree may = all_both (λ v. (1 ≤ v) × (v ≤ o.setting.vehicles)) (IsCurrentAt state.commits base) (λ v. route_at state.routes v ≡ route_at (view_after o seen).routes v) (named_by mv) one may.fleet may.current where
    front : take (length seen) es ≡ seen
    front = take-append_seam seen between

    one : (v : ℕ) → (1 ≤ v) × (v ≤ o.setting.vehicles) → IsCurrentAt state.commits base v → route_at state.routes v ≡ route_at (view_after o seen).routes v
    one v known current =
        let h : History = record { opening = o; entries = es } in
        let few : length seen ≤ length es = omega (arith, length-append seen between) in
        let made : length (state_after o.setting (take (length seen) es)).commits ≡ base = ap (λ (xs : List Entry). length (state_after o.setting xs).commits) front in
        let kept = laws.current h (length seen) base v legal_es few made known.0 current in
        subst (λ (xs : List Entry). route_at state.routes v ≡ route_at (state_after o.setting xs).routes v) front (sym kept)

  -- a committed move lowers the cost by what it saves in the state that was seen
  lowers_by : (n gain : ℕ) → e.reply ≡ replies.Committed n → effect o.setting.customers (view_after o seen).routes mv ≡ Some (changes_by (view_after o seen).routes mv)
      → cost_of (table_at o.setting.tables o.setting.cost) (after (state_after o.setting seen) (Propose session base mv) (replies.Committed n)).routes + gain ≡ cost_at o seen
      → MayCommit o.setting state session base mv → cost_at o (es ++ e ∷ []) + gain ≡ cost_at o es
  lowers_by n gain is possible gained may =
      let t : Table = table_at o.setting.tables o.setting.cost in
      let saved : cost_of t (after state (Propose session base mv) (replies.Committed n)).routes + gain ≡ cost_of t state.routes =
      laws.same.saved t o.setting.customers (view_after o seen).routes state.routes mv gain (agree may) possible may.possible gained in
      let grown : state_after o.setting (es ++ e ∷ []) ≡ after state (Propose session base mv) (replies.Committed n) =
      laws.grows o.setting es e ∙ (λ i. after state (call_is i) (is i)) in
      ap (λ (s : BoardState). cost_of t s.routes + gain) grown ∙ saved

  pub lowers : (n gain : ℕ) → e.reply ≡ replies.Committed n → effect o.setting.customers (view_after o seen).routes mv ≡ Some (changes_by (view_after o seen).routes mv)
      → cost_of (table_at o.setting.tables o.setting.cost) (after (state_after o.setting seen) (Propose session base mv) (replies.Committed n)).routes + gain ≡ cost_at o seen
      → cost_at o (es ++ e ∷ []) + gain ≡ cost_at o es
  lowers n gain is possible gained =
      ∥∥₁_elim right (hlevel props) (λ reply. lowers_by n gain is possible gained (laws.may (record { opening = o; entries = es }) session base n mv legal_es (subst (IsReply o.setting state (Propose session base mv)) is reply)))

  -- the number of a commit is the version
  pub numbered : (n : ℕ) → e.reply ≡ replies.Committed n → e.reply ≡ replies.Committed (view_after o (es ++ e ∷ [])).version
  numbered n is = is ∙ ap replies.Committed (sym (laws.last o es e n legal is))

  -- a proposal has no other reply
  pub no_other : (reply : Reply) → (IsReply o.setting state (Propose session base mv) reply → ⊥) → e.reply ≡ reply → ⊥
  no_other reply none is = ∥∥₁_elim right (hlevel props) (λ there. none (subst (IsReply o.setting state (Propose session base mv)) is there))

-- a round that left the entry of a proposal, and ended by its reply
pub record IsMade (job : Job) (done : List Round) (before after : List Entry) (e : Entry) (reply : Reply) : Type 0 where
  pub round : Round
  pub is : IsRound job done before after round
  pub outcome_is : outcome_of round ≡ outcome_by reply
  pub entries_are : entries_of (round ∷ []) ≡ e ∷ []

pub made : (laws : Laws) (job : Job) (done : List Round) (before after : List Entry) (e : Entry) (p : IsProposal job done before after e) (reply : Reply) → Legal job.opening after → e.reply ≡ reply → IsMade job done before after e reply
made laws job done before after e p (replies.Committed n) legal is =
    let o : Opening = job.opening in
    let legal_end : Legal o ((p.seen ++ p.between) ++ e ∷ []) = subst (Legal o) p.after_is legal in
    let possible : effect o.setting.customers (view_after o p.seen).routes p.mv ≡ Some (changes_by (view_after o p.seen).routes p.mv) =
    ap (λ b. if b then Some (changes_by (view_after o p.seen).routes p.mv) else None) p.best.counts.possible in
    let low : cost_at o ((p.seen ++ p.between) ++ e ∷ []) + p.gain ≡ cost_at o (p.seen ++ p.between) =
    lowers laws o p.seen p.between e job.session p.mv legal_end p.call_is n p.gain is possible p.best.gained in
    record {
      round = Committed e;
      is = record {
        proposal = p;
        reply_is = subst (λ (xs : List Entry). e.reply ≡ replies.Committed (view_after o xs).version) (sym p.after_is) (numbered laws o p.seen p.between e job.session p.mv legal_end p.call_is n is);
        lowers = subst (λ (xs : List Entry). cost_at o xs + p.gain ≡ cost_at o (p.seen ++ p.between)) (sym p.after_is) low;
      };
      outcome_is = refl;
      entries_are = refl;
    }
made laws job done before after e p (replies.Denied d) legal is = record {
  round = Denied e;
  is = record { proposal = p; denial = d; reply_is = is };
  outcome_is = refl;
  entries_are = refl;
}
made laws job done before after e p replies.Done legal is =
    absurd (no_other laws job.opening p.seen p.between e job.session p.mv (subst (Legal job.opening) p.after_is legal) p.call_is replies.Done (λ h. h) is)
made laws job done before after e p (replies.Session n) legal is =
    absurd (no_other laws job.opening p.seen p.between e job.session p.mv (subst (Legal job.opening) p.after_is legal) p.call_is (replies.Session n) (λ h. h) is)
made laws job done before after e p (replies.Refused r) legal is =
    absurd (no_other laws job.opening p.seen p.between e job.session p.mv (subst (Legal job.opening) p.after_is legal) p.call_is (replies.Refused r) (λ h. h) is)
