use Rattle.std.proofs.Common.{◌≡◌, refl, length, arith}
use Rattle.separation_core.proofs.IndexLaws.{kept_grown}
use Rattle.separation_core.proofs.index.provide.Goals as goal

kept_len : (c : goal.In-Ok) → length c.resize.new.self.items ≡ 256
kept_len c = omega (arith, c.in-Ok.ensures.len)

pub returns-in-Ok-clause-kept : goal.returns-in-Ok-clause-kept
returns-in-Ok-clause-kept c = kept_grown c.args.rows.now.items c.resize.new.self.items (kept_len c)
    (λ k h i. c.in-Ok.ensures.by_index.0 k 0 h (omega (arith, i)))
    (λ k h i. c.in-Ok.ensures.by_index.1 k 0 refl (omega (arith, h)) i)
