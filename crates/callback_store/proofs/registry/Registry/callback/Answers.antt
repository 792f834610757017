use Rattle.callback_store.specs.Tables.{slot_table}
use Rattle.callback_store.proofs.Slots.{kept_at, kept_size}
use Rattle.callback_store.proofs.registry.Registry.callback.Goals as goal

pub returns-clause-table : goal.returns-clause-table
returns-clause-table g c = kept_at slot_table _ _ _ _ c.id.view_is c.requires.registered c.index.ensures

pub returns-clause-nodes : goal.returns-clause-nodes
returns-clause-nodes g c = kept_size slot_table _ _ _ _ c.args.self.now.tables c.id.view_is c.requires.registered c.index.ensures
