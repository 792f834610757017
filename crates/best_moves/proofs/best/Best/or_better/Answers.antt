use Rattle.std.proofs.Common.{◌≡◌, ◌-◌, ◌≤◌, ◌<◌, arith, sym, ◌∙◌}
use Rattle.std.proofs.lemmas.Bool.{false≢true}
use Rattle.best_moves.specs.Search.{gain_of}
use Rattle.best_moves.specs.Searched.{searched, new_cost, old_cost}
use Rattle.best_moves.proofs.Betters.{kept_by_gain, kept_by_rule, taken_by_gain}
use Rattle.best_moves.proofs.best.Best.or_better.Goals as goal

pub returns-then-gain : goal.returns-then-gain
returns-then-gain g c = λ bound next so_far.
    let q = searched c.args.search.now in
    let saving = c.requires.saving in
    let e : c.saturating_sub-gain.result ≡ old_cost q - new_cost q c.args.mv = let d = c.saturating_sub-gain.ensures in omega arith in
    let h : c.saturating_sub-gain.result ≤ gain_of c.args.self.found = let d = c.gain.ensures.value in let t = c.if-gain.true in omega arith in
    kept_by_gain q c.args.mv c.saturating_sub-gain.result c.args.self.found bound e h next so_far

pub returns-then-not-is_allowed : goal.returns-then-not-is_allowed
returns-then-not-is_allowed g c = λ bound next so_far.
    kept_by_rule (searched c.args.search.now) c.args.mv c.args.self.found bound (λ a. false≢true (sym c.if-not-is_allowed.true ∙ c.is_allowed.ensures.1 a)) next so_far

pub returns : goal.returns
returns g c = λ bound next so_far.
    let q = searched c.args.search.now in
    let saving = c.requires.saving in
    let e : c.saturating_sub-gain.result ≡ old_cost q - new_cost q c.args.mv = let d = c.saturating_sub-gain.ensures in omega arith in
    let h : gain_of c.args.self.found < c.saturating_sub-gain.result = let d = c.gain.ensures.value in let t = c.if-gain.false in omega arith in
    taken_by_gain q c.args.mv c.saturating_sub-gain.result c.args.self.found bound e h
    c.requires.near c.requires.possible (c.is_allowed.ensures.0 c.if-not-is_allowed.false) next so_far
