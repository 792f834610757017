use Rattle.std.proofs.Common.{◌≡◌, ◌<◌, ◌++◌, ◌||◌, ◌&&◌, length, get_or, take, drop, sym, ap, ◌∙◌, subst, arith, false}
use Rattle.std.specs.Prelude.{◌==◌, bytes_eq}
use Rattle.indexmap.proofs.CallerLemmas.{insert_entry-new}
use Rattle.role_hierarchy.specs.Roles.{has}
use Rattle.role_hierarchy.specs.Rows.{written}
use Rattle.separation_core.specs.Groups.{is_named, with_set}
use Rattle.separation_core.specs.GroupLaws.{lookup_none, AreSets-with_set}
use Rattle.separation_core.specs.Index.{IsKept, IsIndex}
use Rattle.separation_core.proofs.IndexLaws.{index_with}
use Rattle.separation_core.proofs.sets.Sets.append.Goals as goal

pub invariant_of-self-in-Ok : goal.invariant_of-self-in-Ok
invariant_of-self-in-Ok c =
    let entries = c.self.inside.groups.entries in
    let fresh : is_named entries c.args.name ≡ false = ap (λ gs. is_named gs c.args.name) c.self.view_is ∙ c.requires.fresh in
    let made : c.insert.new.self.entries ≡ with_set entries c.args.name c.args.limit = c.in-Ok.ensures.entries ∙ insert_entry-new bytes_eq c.self.inside.groups c.args.name _ (lookup_none c.args.name entries fresh) in
    let old = c.provide.new.rows.items in
    let kept : IsKept entries old = c.provide.ensures.kept entries c.self.invariant in
    let room : length entries < 64 = subst (λ gs. length gs < 64) (sym c.self.view_is) c.requires.room in
    let whole : length old ≡ 256 = c.in_ok-provide.ensures.ok in
    let rows_are : take c.provide.new.rows.len (c.mark.new.rows ++ drop (length c.mark.new.rows) old) ≡ c.mark.new.rows = written _ c.mark.new.rows _ (omega arith) in
    let index : IsIndex c.mark.new.rows (with_set entries c.args.name c.args.limit) = index_with entries old c.mark.new.rows (c.args.name, c.args.limit) (omega arith) whole kept.index
    (λ role q h. c.mark.ensures role q h
    ∙ ap (λ rows. has (get_or rows role 0) q || ((q == c.len.result) && has c.args.limit.roles role)) c.deref_mut.ensures.value
    ∙ ap (λ n. has (get_or old role 0) q || ((q == n) && has c.args.limit.roles role)) c.len.ensures.len) in
    let done : IsKept (with_set entries c.args.name c.args.limit) c.mark.new.rows = record {
      sets = AreSets-with_set entries c.args.name c.args.limit room c.requires.sound c.self.invariant.sets;
      whole = λ some. omega arith;
      index = index;
    } in
    subst (IsKept c.insert.new.self.entries) (sym rows_are) (subst (λ gs. IsKept gs c.mark.new.rows) (sym made) done)

pub returns-in-Ok-clause-ok : goal.returns-in-Ok-clause-ok
returns-in-Ok-clause-ok c =
    let entries = c.self.inside.groups.entries in
    let fresh : is_named entries c.args.name ≡ false = ap (λ gs. is_named gs c.args.name) c.self.view_is ∙ c.requires.fresh in
    let made : c.insert.new.self.entries ≡ with_set entries c.args.name c.args.limit = c.in-Ok.ensures.entries ∙ insert_entry-new bytes_eq c.self.inside.groups c.args.name _ (lookup_none c.args.name entries fresh) in
    made ∙ ap (λ gs. with_set gs c.args.name c.args.limit) c.self.view_is
