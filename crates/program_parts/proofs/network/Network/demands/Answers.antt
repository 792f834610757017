use Rattle.std.proofs.Common.{◌∙◌, ap, subst, map, List}
use Rattle.solomon_reader.specs.declared.instance.Node.{Node}
use Rattle.program_parts.specs.Network.{Sites, IsNetwork}
use Rattle.program_parts.proofs.Listed.{demands_few, demands_listed, demands_small}
use Rattle.program_parts.proofs.network.Network.demands.Goals as goal

pub new-requires-clause-few : goal.new-requires-clause-few
new-requires-clause-few c =
    let nodes = c.as_slice-nodes.ensures.value ∙ ap (λ (s : Sites). s.nodes) c.self.view_is in
    demands_few c.args.self.now _ (subst IsNetwork c.self.view_is c.self.invariant) (c.in_ok-demands_of.ensures ∙ ap (λ (ns : List Node). map (λ n. n.demand) ns) nodes)

pub new-requires-clause-limited : goal.new-requires-clause-limited
new-requires-clause-limited c =
    let nodes = c.as_slice-nodes.ensures.value ∙ ap (λ (s : Sites). s.nodes) c.self.view_is in
    demands_small c.args.self.now _ (subst IsNetwork c.self.view_is c.self.invariant) (c.in_ok-demands_of.ensures ∙ ap (λ (ns : List Node). map (λ n. n.demand) ns) nodes)

pub returns : goal.returns
returns c =
    let nodes = c.as_slice-nodes.ensures.value ∙ ap (λ (s : Sites). s.nodes) c.self.view_is in
    c.new.ensures ∙ demands_listed c.args.self.now _ (c.in_ok-demands_of.ensures ∙ ap (λ (ns : List Node). map (λ n. n.demand) ns) nodes)
