use Rattle.std.proofs.Common.{◌≡◌, ◌∙◌, ◌≤◌, ℕ, Bool, true, false, List, [], length, drop, Option, Some, Ok, ap, sym, subst}
use Rattle.std.proofs.lemmas.Result.{err_from_is_err_and}
use Rattle.std.specs.Fmt.{option_append}
use Rattle.solomon_reader.specs.Instances.{view}
use Rattle.solomon_reader.specs.Reading.{read_of}
use Rattle.program_parts.specs.Head.{halves, AreRead}
use Rattle.program_parts.specs.Stops.{IsUnread}
use Rattle.program_parts.specs.declared.stop.Stop.{Stop}
use Rattle.board_program.specs.Joined.{IsEnd}
use Rattle.board_program.proofs.Joining.{if_known, parts_on, parts_off, behind_used, board_end, board_ran, unread_ended, instance_ended}
use Rattle.board_program.proofs.joined_input.run_joined.Goals as goal

pub returns-then-goes_on-clause-known : goal.returns-then-goes_on-clause-known
returns-then-goes_on-clause-known g c =
    let read : read_of c.in_ok-instance.field-0.instance.items ≡ Ok (view c.in_ok-instance-2.instance) = ap read_of (sym c.as_slice.ensures.value) ∙ c.in_ok-instance-2.ensures.exact in
    let parts = subst (λ (b : Bool). AreRead (g.I.Read.remaining c.args.reader.now) (g.I.Read.remaining c.read_parts.new.reader) c.in_ok-instance.field-0.instance.items (drop c.in_ok-instance.field-0.used c.in_ok-instance.field-0.piece.items) b) c.if-goes_on.true c.in_ok-instance.ensures.parts in
    if_known (g.I.Read.remaining c.args.reader.now) (λ bytes. IsEnd (halves bytes) (g.W.Write.contents c.args.writer.now) (g.W.Write.contents c.run_board.new.writer) c.run_board.result) (λ bytes e.
    let here = subst (λ (k : Option (List ℕ)). AreRead k (g.I.Read.remaining c.read_parts.new.reader) c.in_ok-instance.field-0.instance.items (drop c.in_ok-instance.field-0.used c.in_ok-instance.field-0.piece.items) true) e parts in
    let p = parts_on bytes (g.I.Read.remaining c.read_parts.new.reader) c.in_ok-instance.field-0.instance.items (drop c.in_ok-instance.field-0.used c.in_ok-instance.field-0.piece.items) here in
    let left = c.chain-script.ensures.bytes ∙ ap (λ (xs : List ℕ). option_append (Some xs) (g.I.Read.remaining c.read_parts.new.reader)) (behind_used c.in_ok-instance.field-0.used c.in_ok-instance.field-0.piece.items c.deref.result.now c.deref.ensures.value) ∙ p.2 in
    board_end c.run_board.result (halves bytes) (view c.in_ok-instance-2.instance) c.in_ok-instance.field-0.instance.items p.0 _ _ _ _ p.1 read c.in_ok-instance.ensures.short left c.run_board.ensures.ok c.run_board.ensures.err)

pub returns-clause-known : goal.returns-clause-known
returns-clause-known g c =
    let read : read_of c.in_ok-instance.field-0.instance.items ≡ Ok (view c.in_ok-instance-2.instance) = ap read_of (sym c.as_slice.ensures.value) ∙ c.in_ok-instance-2.ensures.exact in
    let parts = subst (λ (b : Bool). AreRead (g.I.Read.remaining c.args.reader.now) (g.I.Read.remaining c.read_parts.new.reader) c.in_ok-instance.field-0.instance.items (drop c.in_ok-instance.field-0.used c.in_ok-instance.field-0.piece.items) b) c.if-goes_on.false c.in_ok-instance.ensures.parts in
    if_known (g.I.Read.remaining c.args.reader.now) (λ bytes. IsEnd (halves bytes) (g.W.Write.contents c.args.writer.now) (g.W.Write.contents c.run_board-else-goes_on.new.writer) c.run_board-else-goes_on.result) (λ bytes e.
    let here = subst (λ (k : Option (List ℕ)). AreRead k (g.I.Read.remaining c.read_parts.new.reader) c.in_ok-instance.field-0.instance.items (drop c.in_ok-instance.field-0.used c.in_ok-instance.field-0.piece.items) false) e parts in
    let p = parts_off bytes (g.I.Read.remaining c.read_parts.new.reader) c.in_ok-instance.field-0.instance.items (drop c.in_ok-instance.field-0.used c.in_ok-instance.field-0.piece.items) here in
    board_end c.run_board-else-goes_on.result (halves bytes) (view c.in_ok-instance-2.instance) c.in_ok-instance.field-0.instance.items [] _ _ _ _ p.0 read c.in_ok-instance.ensures.short (ap (λ (xs : List ℕ). Some xs) (behind_used c.in_ok-instance.field-0.used c.in_ok-instance.field-0.piece.items c.deref-else-goes_on.result.now c.deref-else-goes_on.ensures.value) ∙ p.1) c.run_board-else-goes_on.ensures.ok c.run_board-else-goes_on.ensures.err)

pub returns-then-goes_on-clause-ran : goal.returns-then-goes_on-clause-ran
returns-then-goes_on-clause-ran g c =
    let read : read_of c.in_ok-instance.field-0.instance.items ≡ Ok (view c.in_ok-instance-2.instance) = ap read_of (sym c.as_slice.ensures.value) ∙ c.in_ok-instance-2.ensures.exact in
    board_ran c.run_board.result (view c.in_ok-instance-2.instance) c.in_ok-instance.field-0.instance.items _ _ _ _ read c.in_ok-instance.ensures.short c.run_board.ensures.ok c.run_board.ensures.err

pub returns-clause-ran : goal.returns-clause-ran
returns-clause-ran g c =
    let read : read_of c.in_ok-instance.field-0.instance.items ≡ Ok (view c.in_ok-instance-2.instance) = ap read_of (sym c.as_slice.ensures.value) ∙ c.in_ok-instance-2.ensures.exact in
    board_ran c.run_board-else-goes_on.result (view c.in_ok-instance-2.instance) c.in_ok-instance.field-0.instance.items _ _ _ _ read c.in_ok-instance.ensures.short c.run_board-else-goes_on.ensures.ok c.run_board-else-goes_on.ensures.err

pub returns-in_err-instance-clause-ran : goal.returns-in_err-instance-clause-ran
returns-in_err-instance-clause-ran g c =
    let p = err_from_is_err_and c.from_residual.result c.from_residual.ensures.1 in
    unread_ended p.0 c.from_residual.result _ p.1 (subst (λ (s : Stop). IsUnread s) (sym p.2) c.in_err-instance.ensures.fault)

pub returns-in_err-instance-2-clause-ran : goal.returns-in_err-instance-2-clause-ran
returns-in_err-instance-2-clause-ran g c =
    let p = err_from_is_err_and c.from_residual-in_err-instance-2.result c.from_residual-in_err-instance-2.ensures.1 in
    let short = subst (λ (l : List ℕ). length l ≤ 16777216) (sym c.as_slice.ensures.value) c.in_ok-instance.ensures.short in
    instance_ended c.in_err-instance-2.field-0.0 p.0 c.from_residual-in_err-instance-2.result c.as_slice.result.now _ p.1 p.2 c.in_err-instance-2.ensures.exact short
