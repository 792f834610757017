use Rattle.std.proofs.Common.{[], ◌∷◌, refl, sym, subst}
use Rattle.policy_core.specs.State.{PolicyState}
use Rattle.permission_table.specs.Compiled.{SameAccessBut}
use Rattle.board_state.proofs.Opened.{before_session, opened_alone}
use Rattle.board_state.proofs.state.opening_tables.Goals as goal

pub returns-clause-compiled : goal.returns-clause-compiled
returns-clause-compiled c =
    let a = c.args in
    let before = before_session a.customers a.vehicles in
    let same = subst (λ (p : PolicyState). SameAccessBut (1 ∷ []) before p) (sym c.requires.opening) (opened_alone a.customers a.vehicles) in
    c.put.ensures.compiled a.policy.now (c.in_ok-rows.ensures.compiled before (c.in_ok-tables.ensures.compiled before refl) same)
