-- Each round, seen from the desk's last list.
use Rattle.std.proofs.Common.{List, [], ◌∷◌, ◌++◌, subst}
use mathlib.Core.List.{IsPrefix}
use Rattle.board_rules.specs.declared.call.Entry.{Entry}
use Rattle.search_workers.specs.Kinds.{Round, Refused, Idle, Denied, Committed}
use Rattle.search_workers.specs.Jobs.{Job}
use Rattle.search_workers.specs.Rounds.{IsProposal, IsRound, Rounds}
use Rattle.search_workers.specs.Laws.{AllWithin}
use Rattle.search_workers.proofs.Prefixes.{prefix_self, prefix_trans, prefix_of}

proposal_grows : (job : Job) (done : List Round) (before after : List Entry) (e : Entry) → IsProposal job done before after e → IsPrefix before after
proposal_grows job done before after e p = prefix_trans before p.seen after p.grows (prefix_of p.seen p.between after e p.after_is)

pub round_grows : (job : Job) (done : List Round) (before after : List Entry) (round : Round) → IsRound job done before after round → IsPrefix before after
round_grows job done before after Refused is = is.grows
round_grows job done before after Idle is = is.grows
round_grows job done before after (Denied e) is = proposal_grows job done before after e is.proposal
round_grows job done before after (Committed e) is = proposal_grows job done before after e is.proposal

rounds_grow : (job : Job) (done each : List Round) (before after : List Entry) → Rounds job done each before after → IsPrefix before after
rounds_grow job done [] before after run = subst (IsPrefix before) run (prefix_self before)
rounds_grow job done (r ∷ each) before after run =
    prefix_trans before run.0 after (round_grows job done before run.0 r run.1) (rounds_grow job (done ++ r ∷ []) each run.0 after run.2)

pub all_within : (job : Job) (done each : List Round) (first before seen last : List Entry) → IsPrefix first before → Rounds job done each before seen → IsPrefix seen last → AllWithin job done first last each
all_within job done [] first before seen last from run on = tt
all_within job done (r ∷ each) first before seen last from run on =
    let mid : List Entry = run.0 in
    let to_mid = prefix_trans first before mid from (round_grows job done before mid r run.1) in
    let onto = prefix_trans mid seen last (rounds_grow job (done ++ r ∷ []) each mid seen run.2) on in
    (record { before = before; after = mid; from = from; is = run.1; on = onto }, all_within job (done ++ r ∷ []) each first mid seen last to_mid run.2 on)
