use Rattle.std.proofs.Common.{◌≡◌, ◌+◌, ◌<◌, ℕ, Bool, List, false, length, replicate, rules, arith, sym, ◌∙◌, subst}
use Rattle.std.specs.Prelude.{slice_index_or}
use Rattle.dimension_core.specs.Setup.{setting}
use Rattle.move_core.specs.Moves.{is_placed}
use Rattle.board_core.proofs.Listings.{listed}
use Rattle.board_core.proofs.Marks.{marks_tell, written_back}
use Rattle.board_core.proofs.listing.rows.Goals as goal

pub returns : goal.returns
returns g c = λ board holds.
    let s = setting c.args.setup.now in
    let none : c.in_ok-placed.placed.items ≡ replicate c.customers-customers.result false = search (rules, c.in_ok-placed.ensures.items_if_clones_equal, c.in_ok-placed.ensures.items) in
    let marked = c.in_ok-push_placed.ensures.placed in
    let long : c.in_ok-placed.placed.len ≡ length c.push_placed.new.placed = omega (arith, c.deref_mut.ensures.len, marked.sized) in
    let back = written_back c.in_ok-placed.placed.len c.push_placed.new.placed _ long in
    listed s board c.args.session c.in_ok-rows.rows.items _ _ c.in_ok-rows.ensures.items (c.in_ok-push_placed.ensures.rows board holds)
    (c.in_ok-push_unassigned.ensures board holds
    (subst (λ (xs : List Bool). (k : ℕ) → k < length xs → slice_index_or xs k false ≡ is_placed board.routes (k + 1)) (sym (c.deref.ensures.value ∙ back))
    (marks_tell c.args.state.now.plan.routes board.routes c.customers-customers.result c.deref_mut.result.now c.push_placed.new.placed (c.deref_mut.ensures.value ∙ none) holds.routes marked)))
