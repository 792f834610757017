use Rattle.std.proofs.Common.{◌≢◌, ◌-◌, arith, List, ℕ, subst}
use Rattle.std.specs.Prelude.{OnOk}
use Rattle.std.proofs.lemmas.List.{set_comm}
use Rattle.move_core.specs.Drafted.{AddsDraft}
use Rattle.move_core.specs.Moves.{customer_at}
use Rattle.move_core.proofs.parts.swapped_within.Goals as goal

pub returns : goal.returns
returns c =
    let r = c.args.route.now in
    let low = c.requires.low in
    let at_low = c.requires.at_low in
    let apart : c.args.at - 1 ≢ c.args.place - 1 = λ same. c.requires.apart (omega arith) in
    let e = set_comm r (c.args.at - 1) (c.args.place - 1) (customer_at r c.args.place) (customer_at r c.args.at) apart in
    subst (λ (xs : List ℕ). OnOk c.exchanged-2.result (AddsDraft c.args.vehicle r xs c.args.drafts.now c.exchanged-2.new.drafts)) e c.exchanged-2.ensures
