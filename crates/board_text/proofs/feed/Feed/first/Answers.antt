use Rattle.std.proofs.Common.{◌≤◌, ◌<◌, length, arith, refl}
use Rattle.board_text.proofs.Pieces.{cut_of, long_line, long_part, plain_of, short_line}
use Rattle.board_text.proofs.feed.Feed.first.Goals as goal

pub returns : goal.returns
returns c =
    let cut = cut_of c.args.self.now.held.items _ _ _ c.as_slice.ensures.value (rw c.in-Some.is at c.in_ok-line.ensures) in
    let few : length c.in-Some.line.items ≤ 4097 = omega (arith, c.in-Some.line.ok.0) in
    short_line _ _ _ cut few

pub returns-then-len : goal.returns-then-len
returns-then-len c =
    let cut = cut_of c.args.self.now.held.items _ _ _ c.as_slice.ensures.value (rw c.in-Some.is at c.in_ok-line.ensures) in
    let many : 4097 < length c.in-Some.line.items = omega (arith, c.in-Some.line.ok.0) in
    long_line _ _ _ cut many

pub returns-in_default : goal.returns-in_default
returns-in_default c =
    let plain = plain_of c.args.self.now.held.items _ c.as_slice.ensures.value (rw c.in_default.is at c.in_ok-line.ensures) in
    let few : length c.args.self.now.held.items ≤ 4096 = omega (arith, c.args.self.now.held.ok.0) in
    (record { plain = plain; short = few }, refl)

pub returns-then-len-gt-LONGEST_LINE : goal.returns-then-len-gt-LONGEST_LINE
returns-then-len-gt-LONGEST_LINE c =
    let plain = plain_of c.args.self.now.held.items _ c.as_slice.ensures.value (rw c.in_default.is at c.in_ok-line.ensures) in
    let many : 4096 < length c.args.self.now.held.items = omega (arith, c.args.self.now.held.ok.0) in
    long_part _ plain many
