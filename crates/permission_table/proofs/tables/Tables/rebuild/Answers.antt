use Rattle.std.proofs.Common.{◌≡◌, ℕ, List, subst, ap, ◌∙◌, sym}
use Rattle.permission_table.specs.Bits.{SessionAccess}
use Rattle.permission_table.specs.Tables.{TablesState}
use Rattle.permission_table.specs.Compiled.{AreCompiled, HasSizes}
use Rattle.permission_table.proofs.CompiledLaws as laws
use Rattle.permission_table.proofs.tables.Tables.rebuild.Goals as goal

pub returns-clause-rebuilt : goal.returns-clause-rebuilt
returns-clause-rebuilt c =
    laws.rebuilt c.args.policy.now c.of.result.value c.in_ok-changes.changes.items c.args.sessions.now c.in_ok-changes.ensures.rows c.in_ok-changes.ensures.sessions

pub returns-clause-compiled : goal.returns-clause-compiled
returns-clause-compiled c before =
    let old : TablesState = c.args.self.now in
    let t : TablesState = c.of.result.value in
    let room : ℕ = c.reserve.new.self.room in
    let grown : t ≡ record old { room = room } =
    c.of.ensures
    ∙ ap (λ (es : List (ℕ × SessionAccess)). record { customers = c.self.inside.customers; vehicles = c.self.inside.vehicles; rows = es; room = room }) c.in_ok-reserve.ensures.entries
    ∙ ap (λ (s : TablesState). record s { room = room }) c.self.view_is in
    λ were. laws.compiled c.args.policy.now t c.in_ok-changes.changes.items c.args.sessions.now c.in_ok-changes.ensures.rows c.in_ok-changes.ensures.sessions
    (subst (HasSizes c.args.policy.now) (sym grown) (record { customers = c.requires.sizes.customers; vehicles = c.requires.sizes.vehicles }))
    before (subst (λ (s : TablesState). AreCompiled s before) (sym grown) were)
