use Rattle.std.proofs.Common.{◌≡◌, ◌∙◌, ℕ, List, [], ◌∷◌, ◌++◌, ap, append_assoc, append-nil, sym}
use Rattle.std.specs.List.{flat_map}
use Rattle.std.specs.Prelude.{string_bytes, chars}
use Rattle.std.proofs.lemmas.Iterator.{YieldsList-from_chars}
use Rattle.std.proofs.lemmas.Iterator.Consumers.{YieldsList-end}
use Rattle.std.proofs.lemmas.List.{map-id}
use Rattle.std.proofs.lemmas.List.Concat.{flat_map-append}
use Rattle.plan_marks.specs.Names.{escaped, escaped_char}
use Rattle.plan_marks.proofs.escape.push_escaped.Goals as goal

pub returns : goal.returns
unfolding escaped
returns c =
    let t = YieldsList-end (YieldsList-from_chars c.args.name.now c.utf8.name cc) c.loop-c.yielded _ c.loop-c.yielded_by _ _ c.in-None.is c.next.ensures.steps in
    let all : c.loop-c.yielded ≡ chars c.args.name.now = sym (map-id c.loop-c.yielded) ∙ t.0 in
    c.loop-c.invariant ∙ ap (λ (l : List ℕ). string_bytes c.args.out.now ++ flat_map escaped_char l) all

pub loop-c-init : goal.loop-c-init
loop-c-init c = sym (append-nil (string_bytes c.args.out.now))

pub loop-c-preserved : goal.loop-c-preserved
loop-c-preserved c =
    let old = string_bytes c.args.out.now in
    let before = flat_map escaped_char c.loop-c.yielded in
    let more = escaped_char c.in-Some.c in
    c.in_ok-push_escaped_char.ensures ∙ ap (λ (l : List ℕ). l ++ more) c.loop-c.invariant ∙ append_assoc old before more
    ∙ ap (λ (l : List ℕ). old ++ (before ++ l)) (sym (append-nil more))
    ∙ ap (λ (l : List ℕ). old ++ l) (sym (flat_map-append escaped_char c.loop-c.yielded (c.in-Some.c ∷ [])))
