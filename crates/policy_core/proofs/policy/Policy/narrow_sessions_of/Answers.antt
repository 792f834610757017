use Rattle.std.proofs.Common.{◌≡◌, ℕ, List, map, ap, ◌∙◌, rules}
use Rattle.std.proofs.lemmas.Map.Made.{map_same_pairs}
use Rattle.policy_core.specs.declared.session.Session.{Session}
use Rattle.policy_core.specs.Seen.{state_of}
use Rattle.policy_core.specs.State.{PolicyState}
use Rattle.policy_core.specs.Commands.{kept_session, narrowed}
use Rattle.policy_core.specs.KeptLaws.{kept_within}
use Rattle.policy_core.proofs.FewerLaws.{narrowed_sessions}
use Rattle.policy_core.proofs.policy.Policy.narrow_sessions_of.Goals as goal

pub invariant_of-self : goal.invariant_of-self
invariant_of-self c =
    let k : Session → Session = kept_session c.args.user c.args.allowed in
    narrowed_sessions (state_of c.self.inside) c.self.invariant c.is_order.ensures k (kept_within c.args.user c.args.allowed) c.retain.new.self.entries
    (map_same_pairs _ k _ (λ key v b w f' t. search rules) _ _ c.retain.ensures.filtered)

pub returns : goal.returns
returns c =
    let k : Session → Session = kept_session c.args.user c.args.allowed in
    let es = c.self.inside.sessions.entries in
    let kept : c.retain.new.self.entries ≡ map (λ e. (e.0, k e.1)) es = map_same_pairs _ k _ (λ key v b w f' t. search rules) _ _ c.retain.ensures.filtered in
    let made : List (ℕ × Session) → PolicyState = λ xs. record (state_of c.self.inside) { sessions = xs } in
    ap made kept ∙ ap (λ s. narrowed s c.args.user c.args.allowed) c.self.view_is
