use Rattle.std.proofs.Common.{ℕ, List, bytes_eq, sym, ap, ◌∙◌}
use Rattle.indexmap.specs.IndexMap.{insert_entry}
use Rattle.policy_core.proofs.Inserted.{put_back}
use Rattle.policy_core.proofs.users.add_new.Goals as goal

pub returns-in-Ok-clause-kept : goal.returns-in-Ok-clause-kept
returns-in-Ok-clause-kept c is =
    c.in-Ok.ensures.entries
    ∙ ap (λ (es : List (List ℕ × ℕ)). insert_entry bytes_eq es c.args.user c.in-Ok-Some.roles) c.in-Ok-Some.ensures.entries
    ∙ put_back c.args.users.now.entries c.args.user c.new.result c.in-Ok-Some.roles (sym c.in-Ok-Some.ensures.old ∙ c.in-Ok-Some.field-0-is)
