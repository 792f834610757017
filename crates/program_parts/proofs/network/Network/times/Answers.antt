use Rattle.std.proofs.Common.{◌∙◌, ◌*◌, sym, ap, subst, map, List, All}
use Rattle.callback_store.specs.Tables.{matrix_table}
use Rattle.solomon_reader.specs.declared.instance.Node.{Node}
use Rattle.solomon_reader.specs.Instances.{IsNode}
use Rattle.program_parts.specs.Network.{Sites, IsNetwork}
use Rattle.program_parts.proofs.Listed.{stays, times_listed}
use Rattle.program_parts.proofs.network.Network.times.Goals as goal

pub services_of-requires : goal.services_of-requires
services_of-requires c = subst (λ (ns : List Node). All IsNode ns) (sym c.as_slice-nodes.ensures.value) c.self.invariant.nodes

pub new-requires : goal.new-requires
new-requires c =
    let nodes = c.as_slice-nodes.ensures.value ∙ ap (λ (s : Sites). s.nodes) c.self.view_is in
    stays c.args.self.now _ (matrix_table c.in_ok-travel_matrix.field-0) (subst IsNetwork c.self.view_is c.self.invariant)
    (c.in_ok-services.ensures ∙ ap (λ (ns : List Node). map (λ n. n.service * 10) ns) nodes) c.in_ok-travel_matrix.ensures

pub returns : goal.returns
returns c =
    let nodes = c.as_slice-nodes.ensures.value ∙ ap (λ (s : Sites). s.nodes) c.self.view_is in
    c.new.ensures
    ∙ times_listed c.args.self.now _ (matrix_table c.in_ok-travel_matrix.field-0)
    (c.in_ok-services.ensures ∙ ap (λ (ns : List Node). map (λ n. n.service * 10) ns) nodes) c.in_ok-travel_matrix.ensures
