use Rattle.std.proofs.Common.{◌≡◌, ◌++◌, Bool, [], rules, subst, sym}
use Rattle.std.proofs.lemmas.List.{append-nil}
use Rattle.std.proofs.lemmas.Result.{err_from_is_err_and}
use Rattle.board_text.specs.Pieces.{AreRead}
use Rattle.board_text.proofs.Bytes.{Consumes-none, Consumes-then}
use Rattle.board_text.proofs.Pieces.{first_next, last_part, no_memory, read_more, unread_next}
use Rattle.board_text.proofs.feed.Feed.next.Goals as goal

pub returns-in-Some : goal.returns-in-Some
returns-in-Some g c =
    let i = c.reads.invariant in
    first_next c.args.self.now.held.items c.reads.self.held.items c.first.new.self.held.items (g.I.Read.remaining c.args.reader.now) (g.I.Read.remaining c.reads.reader) i.0 c.in-Some.piece i.1 i.2 (rw c.in-Some.is at c.in_ok-piece.ensures)

pub returns-in_err-read_on : goal.returns-in_err-read_on
returns-in_err-read_on g c =
    let i = c.reads.invariant in
    let p = err_from_is_err_and c.from_residual-in_err-read_on.result c.from_residual-in_err-read_on.ensures.1 in
    rw (p.1, p.2) (unread_next c.args.self.now.held.items c.reads.self.held.items c.first.new.self.held.items c.read_on.new.self.held.items (g.I.Read.remaining c.args.reader.now) (g.I.Read.remaining c.reads.reader) (g.I.Read.remaining c.read_on.new.reader) i.0 c.in_err-read_on.field-0.0
    i.1 i.2 (rw c.in_default.is at c.in_ok-piece.ensures) c.in_err-read_on.ensures.err)

pub reads-init : goal.reads-init
reads-init g c = ([], Consumes-none (g.I.Read.remaining c.args.reader.now), sym (append-nil c.args.self.now.held.items))

pub returns-in_err-piece : goal.returns-in_err-piece
returns-in_err-piece g c =
    let i = c.reads.invariant in
    let p = err_from_is_err_and c.from_residual.result c.from_residual.ensures.1 in
    rw p.1 (no_memory c.args.self.now.held.items c.first.new.self.held.items (g.I.Read.remaining c.args.reader.now) (g.I.Read.remaining c.reads.reader) i.0 p.0 p.2 i.1)

pub returns-then-not-branch : goal.returns-then-not-branch
returns-then-not-branch g c =
    let i = c.reads.invariant in
    let r = subst (λ (b : Bool). AreRead b c.first.new.self.held.items c.read_on.new.self.held.items (g.I.Read.remaining c.reads.reader) (g.I.Read.remaining c.read_on.new.reader)) c.if-not-branch.true c.in_ok-read_on.ensures.ok in
    let same : c.replace-rest.result.items ≡ c.read_on.new.self.held.items = search rules in (
      i.0 ++ [],
      Consumes-then (g.I.Read.remaining c.args.reader.now) (g.I.Read.remaining c.reads.reader) (g.I.Read.remaining c.read_on.new.reader) i.0 [] i.1 r.0,
      last_part c.args.self.now.held.items c.reads.self.held.items c.first.new.self.held.items c.read_on.new.self.held.items c.replace-rest.result.items (g.I.Read.remaining c.reads.reader) (g.I.Read.remaining c.read_on.new.reader) i.0 i.2 (rw c.in_default.is at c.in_ok-piece.ensures) r same,
    )

pub reads-preserved : goal.reads-preserved
reads-preserved g c =
    let i = c.reads.invariant in
    let r = subst (λ (b : Bool). AreRead b c.first.new.self.held.items c.read_on.new.self.held.items (g.I.Read.remaining c.reads.reader) (g.I.Read.remaining c.read_on.new.reader)) c.if-not-branch.false c.in_ok-read_on.ensures.ok in
    read_more c.args.self.now.held.items c.reads.self.held.items c.first.new.self.held.items c.read_on.new.self.held.items (g.I.Read.remaining c.args.reader.now) (g.I.Read.remaining c.reads.reader) (g.I.Read.remaining c.read_on.new.reader) i.0 i.1 i.2 (rw c.in_default.is at c.in_ok-piece.ensures) r

pub returns : goal.returns
returns g c = (c.reads.invariant.0, c.reads.invariant.1, tt)
