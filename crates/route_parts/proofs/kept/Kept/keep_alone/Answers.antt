use Rattle.std.proofs.lemmas.Result.{err_from_is_err_and}
use Rattle.dimension_core.specs.Setup.{setting}
use Rattle.route_parts.proofs.Keeping.{known_of, short_of, kept_alone, ahead_some, behind_some, ok_then}
use Rattle.route_parts.proofs.kept.Kept.keep_alone.Goals as goal

pub customers-own-requires : goal.customers-own-requires
customers-own-requires g c = record { low = c.requires.v.0; high = rw c.requires.view.vehicles c.requires.v.1 }

pub keep_ahead-requires : goal.keep_ahead-requires
keep_ahead-requires g c = record {
  laws = c.laws_below.ensures;
  known = known_of c.laws_below.ensures (setting c.args.setup.now) c.args.view.now c.args.v _ c.requires.view c.customers-own.ensures;
  short = short_of c.laws_below.ensures (setting c.args.setup.now) c.args.view.now c.args.v _ c.requires.view c.customers-customers.ensures.sound.few_customers c.customers-own.ensures;
  low = c.requires.v.0;
  high = c.requires.v.1;
}

pub keep_behind-requires : goal.keep_behind-requires
keep_behind-requires g c = record {
  laws = c.laws_below.ensures;
  known = known_of c.laws_below.ensures (setting c.args.setup.now) c.args.view.now c.args.v _ c.requires.view c.customers-own.ensures;
  short = short_of c.laws_below.ensures (setting c.args.setup.now) c.args.view.now c.args.v _ c.requires.view c.customers-customers.ensures.sound.few_customers c.customers-own.ensures;
  low = c.requires.v.0;
  high = c.requires.v.1;
}

pub returns-in_err-keep_ahead : goal.returns-in_err-keep_ahead
returns-in_err-keep_ahead g c =
    let p = err_from_is_err_and c.from_residual.result c.from_residual.ensures.1 in
    record { kept = rw p.1 tt; some = rw p.1 tt }

pub returns : goal.returns
returns g c =
    let s = setting c.args.setup.now in
    let ahead = c.in_ok-keep_ahead.ensures in
    record {
      kept = ok_then c.keep_behind.result _ _ (λ behind. kept_alone s c.args.view.now.routes c.args.v _ c.keep_ahead.new.self c.keep_behind.new.self _
          c.customers-own.ensures ahead behind) c.keep_behind.ensures;
      some = ok_then c.keep_behind.result _ _ (λ behind. (ahead_some s c.args.v _ _ ahead, behind_some s c.args.v _ _ behind)) c.keep_behind.ensures;
    }
