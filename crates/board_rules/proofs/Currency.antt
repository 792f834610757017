-- A vehicle that is current at a base has the route that it had when the version was that base.
use Rattle.std.proofs.Common.{◌≡◌, ℕ, zero, suc, ◌+◌, ◌-◌, ◌≤◌, inl, inr, sym, ap, subst, refl, arith, ◌∙◌, List, [], ◌∷◌, ◌++◌, length, take, Option, Some, length-append}
use Rattle.std.specs.Prelude.{slice_index_or, Contains}
use Rattle.std.proofs.Math.Logic.{∥∥₁_elim}
use Rattle.std.proofs.Math.Seq.{get_or-append_seam}
use Rattle.std.proofs.Props.{props}
use Rattle.std.proofs.lemmas.List.{append_assoc, take_all, append-nil}
use Rattle.dimension_core.specs.Setting.{Setting}
use Rattle.plan_core.specs.Plan.{Changes, IsNamed, route_at}
use Rattle.plan_core.specs.Commits.{IsChange, IsCurrentAt, named_vehicles}
use Rattle.move_core.specs.declared.moves.Move.{Move}
use Rattle.move_core.specs.Moves.{named_by, changes_by, effect}
use Rattle.board_rules.specs.declared.call.Call.{Call}
use Rattle.board_rules.specs.declared.call.Call.TheVariants.{Propose, Pin, Unpin, Freeze, Thaw, Policy}
use Rattle.board_rules.specs.declared.call.Entry.{Entry}
use Rattle.board_rules.specs.declared.reply.Reply.{Reply}
use Rattle.board_rules.specs.declared.reply.Reply.TheVariants.{Done, Session, Committed, Denied, Refused}
use Rattle.board_rules.specs.State.{BoardState}
use Rattle.board_rules.specs.Rules.{basis_of}
use Rattle.board_rules.specs.RuleLaws.{effect_by_all}
use Rattle.board_rules.specs.Step.{IsReply, after, committed}
use Rattle.board_rules.specs.History.{Opening, state_after, IsLegal}
use Rattle.board_rules.specs.Given.{Laws}
use Rattle.board_rules.proofs.Histories.{entry_at, state_after-push}

-- a named vehicle is among those that are named
among_named : (changes : Changes) (v : ℕ) → IsNamed changes v → Contains (named_vehicles changes) v
among_named [] v h = absurd h
among_named (c ∷ cs) v (inl same) = (zero, omega arith, sym same)
among_named (c ∷ cs) v (inr later) =
    let r = among_named cs v later in
    let below = r.1 in
    (suc r.0, omega (arith, below), r.2)

module _ (law : Laws) (s : Setting) (v : ℕ) (low : 1 ≤ v) (final : BoardState) where
  -- A state on the way to the final one: its commits are the first of all commits, and the vehicle's route is the final one where no later
  -- commit changed it.
  IsBefore : BoardState → Type 0
  IsBefore state =
      ((rest : List (List ℕ)) × (state.commits ++ rest ≡ final.commits))
      × ((base : ℕ) → base ≤ length state.commits → IsCurrentAt final.commits base v → route_at state.routes v ≡ route_at final.routes v)

  has_effect : (state : BoardState) (session base n : ℕ) (mv : Move) → ∥ IsReply s state (Propose session base mv) (Committed n) ∥₁
      → effect s.customers state.routes mv ≡ Some (changes_by state.routes mv)
  has_effect state session base n mv h = ∥∥₁_elim h (alone (effect s.customers state.routes mv) (Some (changes_by state.routes mv))) (λ right. (effect_by_all s (basis_of state session) base mv right.1).1)
    where
      alone : (a b : Option Changes) → IsProp (a ≡ b)
      alone a b = hlevel props

  before_commit : (state : BoardState) (session base n : ℕ) (mv : Move) → ∥ IsReply s state (Propose session base mv) (Committed n) ∥₁
      → IsBefore (committed state mv) → IsBefore state
  unfolding IsBefore
  before_commit state session base n mv right later =
      let e = has_effect state session base n mv right in
      let changes : Changes = changes_by state.routes mv in
      let named : named_vehicles changes ≡ named_by mv = law.names.named s.customers state.routes mv changes e in
      let rest : List (List ℕ) = named_by mv ∷ later.0.0 in
      let all : state.commits ++ rest ≡ final.commits = sym (append_assoc state.commits (named_by mv ∷ []) later.0.0) ∙ later.0.1 in (
        (rest, all),
        (λ b few current.
            let not_named : ¬ IsNamed changes v = λ is.
            let index : (length state.commits + 1) - 1 ≡ length state.commits = omega arith in
            let set : slice_index_or final.commits ((length state.commits + 1) - 1) [] ≡ named_by mv =
            ap (λ k. slice_index_or final.commits k []) index
            ∙ (ap (λ cs. slice_index_or cs (length state.commits) []) (sym all) ∙ get_or-append_seam state.commits (named_by mv) later.0.0 []) in
            let count : length state.commits + suc (length later.0.0) ≡ length final.commits = sym (length-append state.commits rest) ∙ ap length all in
            let change : IsChange final.commits (length state.commits + 1) v = record {
              low = omega arith;
              high = omega (arith, count);
              changed = subst (λ (vs : List ℕ). Contains vs v) (sym set) (subst (λ (vs : List ℕ). Contains vs v) named (among_named changes v is));
            } in
            current (length state.commits + 1) (omega (arith, few)) change in
            let more : b ≤ length (state.commits ++ named_by mv ∷ []) = omega (arith, few, length-append state.commits (named_by mv ∷ [])) in
            sym (law.routes.others changes state.routes v (law.names.changes s.customers state.routes mv changes e).apart low not_named)
            ∙ later.1 b more current),
      )

  before_step : (state : BoardState) (call : Call) (reply : Reply) → ∥ IsReply s state call reply ∥₁ → IsBefore (after state call reply) → IsBefore state
  unfolding IsBefore
  before_step state (Propose session base mv) (Committed n) right h = before_commit state session base n mv right h
  before_step state (Propose session base mv) Done right h = h
  before_step state (Propose session base mv) (Session m) right h = h
  before_step state (Propose session base mv) (Denied d) right h = h
  before_step state (Propose session base mv) (Refused r) right h = h
  before_step state (Pin session c) Done right h = h
  before_step state (Pin session c) _ right h = h
  before_step state (Unpin session c) Done right h = h
  before_step state (Unpin session c) _ right h = h
  before_step state (Freeze session w n) Done right h = h
  before_step state (Freeze session w n) _ right h = h
  before_step state (Thaw session w n) Done right h = h
  before_step state (Thaw session w n) _ right h = h
  before_step state (Policy session command) Done right h = h
  before_step state (Policy session command) (Session m) right h = h
  before_step state (Policy session command) _ right h = h

module _ (law : Laws) (o : Opening) (es : List Entry) (legal : IsLegal (record { opening = o; entries = es })) (v : ℕ) (low : 1 ≤ v) where
  final : BoardState
  final = state_after o.setting es

  back : (d j : ℕ) → j + d ≡ length es → IsBefore law o.setting v low final (state_after o.setting (take j es))
  unfolding IsBefore final
  back zero j h =
      let whole : take j es ≡ es = take_all j es (omega (arith, h)) in
      subst (λ (xs : List Entry). IsBefore law o.setting v low final (state_after o.setting xs)) (sym whole)
      (([], append-nil (state_after o.setting es).commits), (λ base few current. refl))
  back (suc d) j h =
      let r = entry_at es j (omega (arith, h)) in
      let state : BoardState = state_after o.setting (take j es) in
      let later = back d (suc j) (omega (arith, h)) in
      let here : IsBefore law o.setting v low final (after state r.0.call r.0.reply) =
      subst (IsBefore law o.setting v low final) (state_after-push o.setting (take j es) r.0)
      (subst (λ (xs : List Entry). IsBefore law o.setting v low final (state_after o.setting xs)) r.2 later) in
      before_step law o.setting v low final state r.0.call r.0.reply ((legal j r.0 r.1).reply) here

  pub same_route : (k base : ℕ) → k ≤ length es → base ≤ length (state_after o.setting (take k es)).commits → IsCurrentAt (state_after o.setting es).commits base v
      → route_at (state_after o.setting (take k es)).routes v ≡ route_at (state_after o.setting es).routes v
  unfolding IsBefore final
  same_route k base h few current = (back (length es - k) k (omega (arith, h))).1 base few current
