-- One round more, and the end.
use Rattle.std.proofs.Common.{◌≡◌, ℕ, ◌+◌, ◌≤◌, Bool, cond, List, [], ◌∷◌, ◌++◌, length, length-append, append_assoc, refl, ap, sym, subst, ◌∙◌, arith, if◌then◌else◌}
use Rattle.std.proofs.lemmas.List.Sums.{sum_by_push}
use Rattle.std.proofs.lemmas.List.{append-nil}
use mathlib.Core.List.{IsPrefix}
use Rattle.move_core.specs.declared.moves.Move.{Move}
use Rattle.board_rules.specs.declared.call.Call.TheVariants.{Propose}
use Rattle.board_rules.specs.declared.call.Entry.{Entry}
use Rattle.board_rules.specs.declared.reply.Reply.{Reply}
use Rattle.board_rules.specs.History.{Opening, turns_of}
use Rattle.board_lock.specs.Commits.{entry, Submitted, Looked}
use Rattle.board_lock.specs.Watches.{Watch}
use Rattle.search_workers.specs.declared.tally.Outcome.{Outcome}
use Rattle.search_workers.specs.declared.tally.Outcome.TheVariants as outcomes
use Rattle.search_workers.specs.declared.tally.Tally.{Tally}
use Rattle.search_workers.specs.Kinds.{Round, Refused, Idle, Denied, Committed, entries_of, outcome_of, is_committed, is_denied, is_refused, is_idle, ended}
use Rattle.search_workers.specs.Counts.{AreCounted}
use Rattle.search_workers.specs.Skips.{is_final}
use Rattle.search_workers.specs.Jobs.{Job, job_of, view_after}
use Rattle.search_workers.specs.Rounds.{NoneCounts, IsBestIn, IsProposal, IsRound, Rounds}
use Rattle.search_workers.specs.Given.{Laws}
use Rattle.search_workers.specs.Steps.{outcome_by, AreSkipped, IsDone, AreDone}
use Rattle.search_workers.specs.Works.{Worked}
use Rattle.search_workers.proofs.Prefixes.{prefix_self, prefix_trans}
use Rattle.search_workers.proofs.Skipping.{entries_more, skipped_none, skipped_one}
use Rattle.search_workers.proofs.Proposed.{IsMade, made}
use Rattle.search_workers.proofs.Exact.{exact}

-- a round that a fault ended
pub done_refused : (job : Job) (done : List Round) (before after : Watch) (version : ℕ) (moves : List Move) → IsPrefix before.seen after.seen → after.number ≡ before.number → after.own ≡ before.own
    → AreSkipped done version moves → IsDone job done before after version moves outcomes.Refused
done_refused job done before after version moves grows number own skipped = record {
  round = Refused;
  is = record { grows = grows };
  outcome_is = refl;
  number_is = number;
  own = omega (arith, own);
  skipped = skipped_none done Refused version moves refl skipped;
}

-- a round in which no move counted
pub done_idle : (job : Job) (done : List Round) (before after : Watch) (version : ℕ) (moves : List Move) → IsPrefix before.seen after.seen → after.number ≡ before.number → after.own ≡ before.own
    → NoneCounts job done after.seen → AreSkipped done version moves → IsDone job done before after version moves outcomes.Idle
done_idle job done before after version moves grows number own none skipped = record {
  round = Idle;
  is = record { grows = grows; none = none };
  outcome_is = refl;
  number_is = number;
  own = omega (arith, own);
  skipped = skipped_none done Idle version moves refl skipped;
}

-- a round that began with more seen
proposal_from : (job : Job) (done : List Round) (before mid after : List Entry) (e : Entry) → IsPrefix before mid → IsProposal job done mid after e → IsProposal job done before after e
proposal_from job done before mid after e on p = record {
  seen = p.seen;
  grows = prefix_trans before mid p.seen on p.grows;
  between = p.between;
  after_is = p.after_is;
  mv = p.mv;
  gain = p.gain;
  best = p.best;
  desk_is = p.desk_is;
  call_is = p.call_is;
}

round_from : (job : Job) (done : List Round) (before mid after : List Entry) (round : Round) → IsPrefix before mid → IsRound job done mid after round → IsRound job done before after round
unfolding proposal_from
round_from job done before mid after Refused on is = record { grows = prefix_trans before mid after on is.grows }
round_from job done before mid after Idle on is = record { grows = prefix_trans before mid after on is.grows; none = is.none }
round_from job done before mid after (Denied e) on is = record { proposal = proposal_from job done before mid after e on is.proposal; denial = is.denial; reply_is = is.reply_is }
round_from job done before mid after (Committed e) on is = record { proposal = proposal_from job done before mid after e on is.proposal; reply_is = is.reply_is; lowers = is.lowers }

pub done_from : (job : Job) (done : List Round) (before mid after : Watch) (version : ℕ) (moves : List Move) (outcome : Outcome) → IsPrefix before.seen mid.seen → mid.number ≡ before.number → mid.own ≡ before.own
    → IsDone job done mid after version moves outcome → IsDone job done before after version moves outcome
done_from job done before mid after version moves outcome on number own one = record {
  round = one.round;
  is = round_from job done before.seen mid.seen after.seen one.round on one.is;
  outcome_is = one.outcome_is;
  number_is = one.number_is ∙ number;
  own = one.own ∙ ap (λ n. n + length (entries_of (one.round ∷ []))) own;
  skipped = one.skipped;
}

rounds_more : (job : Job) (done each : List Round) (before mid after : List Entry) (round : Round) → Rounds job done each before mid → IsRound job (done ++ each) mid after round → Rounds job done (each ++ round ∷ []) before after
rounds_more job done [] before mid after round run is =
    (after, subst (λ (xs : List Entry). IsRound job done xs after round) (sym run) (subst (λ (ds : List Round). IsRound job ds mid after round) (append-nil done) is), refl)
rounds_more job done (r ∷ each) before mid after round run is =
    (run.0, run.1, rounds_more job (done ++ r ∷ []) each run.0 mid after round run.2 (subst (λ (ds : List Round). IsRound job ds mid after round) (sym (append_assoc done (r ∷ []) each)) is))

-- a count of rounds, one round more
count_more : (p : Outcome → Bool) (each : List Round) (round : Round) (outcome : Outcome) (old new : ℕ) → outcome_of round ≡ outcome → old ≡ ended p each → new ≡ old + (if p outcome then 1 else 0) → new ≡ ended p (each ++ round ∷ [])
count_more p each round outcome old new is was now =
    now ∙ ((λ i. was i + (if p (sym is i) then 1 else 0)) ∙ sym (sum_by_push (λ r. cond (p (outcome_of r)) 1 0) each round))

pub counted_more : (each : List Round) (round : Round) (outcome : Outcome) (old new : Tally) → outcome_of round ≡ outcome → AreCounted each old
    → new.committed ≡ old.committed + (if is_committed outcome then 1 else 0) → new.denied ≡ old.denied + (if is_denied outcome then 1 else 0)
    → new.refused ≡ old.refused + (if is_refused outcome then 1 else 0) → new.idle ≡ old.idle + (if is_idle outcome then 1 else 0) → AreCounted (each ++ round ∷ []) new
counted_more each round outcome old new is was c d r i = record {
  committed_is = count_more is_committed each round outcome old.committed new.committed is was.committed_is c;
  denied_is = count_more is_denied each round outcome old.denied new.denied is was.denied_is d;
  refused_is = count_more is_refused each round outcome old.refused new.refused is was.refused_is r;
  idle_is = count_more is_idle each round outcome old.idle new.idle is was.idle_is i;
}

pub going_more : (job : Job) (start before after : Watch) (n at version : ℕ) (moves now : List Move) (outcome : Outcome) (old new : Tally) (going : AreDone job start before n at moves old)
    (one : IsDone job going.each before after version now outcome) → AreCounted (going.each ++ one.round ∷ []) new → AreDone job start after (n + 1) version now new
going_more job start before after n at version moves now outcome old new going one counted =
    let many = going.many in
    let had = going.own in
    let has = one.own in
    let entries = ap length (entries_more going.each one.round) ∙ length-append (entries_of going.each) (entries_of (one.round ∷ [])) in
    record {
      number_is = one.number_is ∙ going.number_is;
      each = going.each ++ one.round ∷ [];
      many = length-append going.each (one.round ∷ []) ∙ ap (λ k. k + 1) many;
      run = rounds_more job [] going.each start.seen before.seen after.seen one.round going.run one.is;
      own = omega arith;
      skipped = one.skipped;
      counted = counted;
    }

pub going_first : (job : Job) (start : Watch) (moves : List Move) (tally : Tally) → moves ≡ [] → AreCounted [] tally → AreDone job start start 0 0 moves tally
going_first job start moves tally none counted = record {
  number_is = refl;
  each = [];
  many = refl;
  run = refl;
  own = omega arith;
  skipped = record { moves_are = none; later = λ n above. refl };
  counted = counted;
}

pub worked : (o : Opening) (session seed rounds version : ℕ) (moves : List Move) (before now after : Watch) (tally : Tally) → AreDone (job_of o before.number session seed) before now rounds version moves tally
    → Looked o now.number now.own now.seen after.seen → after.number ≡ now.number → after.own ≡ now.own → before.own ≤ turns_of before.number before.seen → tally.tried + tally.idle ≡ rounds
    → Worked o session seed rounds before after tally
worked o session seed rounds version moves before now after tally going looked number own held sum =
    let job : Job = job_of o before.number session seed in
    let turns : turns_of before.number after.seen ≡ before.own + length (entries_of going.each) = ap (λ k. turns_of k after.seen) (sym going.number_is) ∙ (looked.turns_are ∙ going.own) in
    let exactly = exact job [] before.own going.each before.seen now.seen after.seen going.run looked.grows held turns in
    record {
      number_is = number ∙ going.number_is;
      each = going.each;
      many = going.many;
      seen = now.seen;
      run = going.run;
      last = looked.grows;
      legal = looked.legal;
      added = exactly.added;
      added_is = exactly.final_is;
      entries = exactly.entries_are;
      own = own ∙ going.own;
      counted = going.counted;
      sum = sum;
    }

-- a round whose proposal was answered
pub done_made : (laws : Laws) (o : Opening) (done : List Round) (before after : Watch) (session seed version at now_at : ℕ) (moves now : List Move) (mv : Move) (gain : ℕ) (reply : Reply)
    → version ≡ (view_after o before.seen).version → at ≡ (view_after o before.seen).version → now_at ≡ at → now ≡ (if is_final reply then moves ++ mv ∷ [] else moves) → AreSkipped done at moves
    → IsBestIn (job_of o before.number session seed) done before.seen mv gain → after.number ≡ before.number → after.own ≡ before.own + 1
    → Submitted o before.number before.own (Propose session version mv) reply before.seen after.seen → IsDone (job_of o before.number session seed) done before after now_at now (outcome_by reply)
done_made laws o done before after session seed version at now_at moves now mv gain reply version_is at_is now_at_is now_is skipped best number own sub =
    let job : Job = job_of o before.number session seed in
    let e : Entry = entry before.number (before.own + 1) (Propose session version mv) reply in
    let p : IsProposal job done before.seen after.seen e = record {
      seen = before.seen;
      grows = prefix_self before.seen;
      between = sub.between;
      after_is = sub.after_is;
      mv = mv;
      gain = gain;
      best = best;
      desk_is = refl;
      call_is = ap (λ n. Propose session n mv) version_is;
    } in
    let one : IsMade job done before.seen after.seen e reply = made laws job done before.seen after.seen e p reply sub.legal refl in
    let call_at : e.call ≡ Propose session at mv = ap (λ n. Propose session n mv) (version_is ∙ sym at_is) in
    let kept : AreSkipped (done ++ one.round ∷ []) at now = skipped_one done one.round at session moves now mv e one.entries_are call_at now_is skipped in
    record {
      round = one.round;
      is = one.is;
      outcome_is = one.outcome_is;
      number_is = number;
      own = own ∙ ap (λ (es : List Entry). before.own + length es) (sym one.entries_are);
      skipped = subst (λ n. AreSkipped (done ++ one.round ∷ []) n now) (sym now_at_is) kept;
    }
