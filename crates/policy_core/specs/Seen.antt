-- What contracts see of a policy's fields.
use Rattle.policy_core.specs.State.{PolicyState}
use Rattle.policy_core.specs.declared.policy.Policy.TheInside.{Inside}

abbrev pub state_of : Inside → PolicyState
state_of a = record {
  customers = a.customers;
  vehicles = a.vehicles;
  users = a.users.entries;
  roles = a.roles.entries;
  order = a.order;
  grants = a.grants;
  ssd = a.ssd;
  dsd = a.dsd;
  counting = a.counting;
  sessions = a.sessions.entries;
  last = a.last;
}
