use Rattle.std.proofs.lemmas.Result.{err_from_is_err_and}
use Rattle.dimension_core.specs.Setup.{setting}
use Rattle.route_parts.proofs.Keeping.{known_of, short_of, kept_as, kept_both, some_as, behind_some, ok_then}
use Rattle.route_parts.proofs.kept.Kept.keep_between.Goals as goal

pub keep_alone-requires-clause-view : goal.keep_alone-requires-clause-view
keep_alone-requires-clause-view g c = c.requires.view

pub keep_alone-requires-clause-v : goal.keep_alone-requires-clause-v
keep_alone-requires-clause-v g c = c.requires.v

pub customers-requires : goal.customers-requires
customers-requires g c = record { low = c.requires.w.0; high = rw c.requires.view.vehicles c.requires.w.1 }

pub keep_behind-requires : goal.keep_behind-requires
keep_behind-requires g c = record {
  laws = c.laws_below.ensures;
  known = known_of c.laws_below.ensures (setting c.args.setup.now) c.args.view.now c.args.w _ c.requires.view c.customers.ensures;
  short = short_of c.laws_below.ensures (setting c.args.setup.now) c.args.view.now c.args.w _ c.requires.view c.args.setup.now.sound.few_customers c.customers.ensures;
  low = c.requires.v.0;
  high = c.requires.v.1;
}

pub returns-in_err-keep_alone : goal.returns-in_err-keep_alone
returns-in_err-keep_alone g c =
    let p = err_from_is_err_and c.from_residual.result c.from_residual.ensures.1 in
    record { kept = rw p.1 tt; some = rw p.1 tt }

pub returns : goal.returns
returns g c =
    let s = setting c.args.setup.now in
    let own = kept_as _ _ _ _ _ _ c.self.view_is c.in_ok-keep_alone.ensures.kept in
    let some = some_as _ _ c.self.view_is c.in_ok-keep_alone.ensures.some in
    record {
      kept = ok_then c.keep_behind.result _ _ (λ over. kept_both s c.args.view.now.routes c.args.v c.args.w _ _ c.keep_behind.new.self c.customers.ensures own over) c.keep_behind.ensures;
      some = ok_then c.keep_behind.result _ _ (λ over. (some.0, some.1, behind_some s c.args.v _ _ over)) c.keep_behind.ensures;
    }
