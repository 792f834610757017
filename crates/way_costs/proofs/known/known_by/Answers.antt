use Rattle.way_costs.proofs.known.known_by.Goals as goal

pub known_hop-requires-clause-known : goal.known_hop-requires-clause-known
known_hop-requires-clause-known g c = c.requires.known

pub known_hop-requires-clause-from : goal.known_hop-requires-clause-from
known_hop-requires-clause-from g c = c.requires.to

pub known_hop-requires-clause-to : goal.known_hop-requires-clause-to
known_hop-requires-clause-to g c = c.requires.from

pub known_hop-requires-else-turned-clause-known : goal.known_hop-requires-else-turned-clause-known
known_hop-requires-else-turned-clause-known g c = c.requires.known

pub known_hop-requires-else-turned-clause-from : goal.known_hop-requires-else-turned-clause-from
known_hop-requires-else-turned-clause-from g c = c.requires.from

pub known_hop-requires-else-turned-clause-to : goal.known_hop-requires-else-turned-clause-to
known_hop-requires-else-turned-clause-to g c = c.requires.to
