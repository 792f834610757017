use Rattle.std.proofs.Common.{arith, ap, subst, ◌≡◌, ◌∙◌, ◌<◌, ◌≤◌, ◌++◌, ℕ, List, length, take, drop, Option, refl}
use Rattle.std.specs.Prelude.{IfSome}
use Rattle.std.proofs.lemmas.List.{length-take, length-take-le}
use Rattle.program_parts.specs.Head.{Fed, IsMarked}
use Rattle.program_parts.proofs.Halves.{head_none, taken_none, short_none, taken_more, behind_mark, chunk_front, given_front, Keeps-end}
use Rattle.program_parts.proofs.head.read_parts.Goals as goal

pub loop-init : goal.loop-init
loop-init g c = record {
  taken = taken_none (g.I.Read.remaining c.args.reader.now) c.new-head.result.text.items c.new-head.ensures.text;
  head = head_none c.new-head.result.text.items c.new-head.result.line c.new-head.ensures.text c.new-head.ensures.line;
  room = omega (arith, c.in_ok-chunk.ensures.len);
  short = short_none c.new-head.result.line c.new-head.ensures.line;
}

pub loop-preserved : goal.loop-preserved
loop-preserved g c =
    let front : take c.in-Ok.count c.deref.result.now ≡ take c.in-Ok.count c.read.new.buf = given_front c.in-Ok.count c.loop.chunk.len (length c.as_mut_slice.result.now) c.read.new.buf (drop (length c.read.new.buf) c.loop.chunk.items) c.deref.result.now c.deref.ensures.value c.deref.ensures.len c.read.auto.buf c.as_mut_slice.ensures.len c.in-Ok.ensures.bound.0 in
    let fed = subst (λ (u : Option ℕ). Fed c.loop.head.text.items c.feed.new.self.text.items c.feed.new.self.line (take c.in-Ok.count c.deref.result.now) u) c.in_default-2.is c.in_ok-used.ensures.fed in
    record {
      taken = taken_more (g.I.Read.remaining c.args.reader.now) (g.I.Read.remaining c.loop.reader) (g.I.Read.remaining c.read.new.self) c.loop.head.text.items c.feed.new.self.text.items (take c.in-Ok.count c.deref.result.now) (take c.in-Ok.count c.read.new.buf) c.loop.invariant.taken c.in-Ok.ensures.bytes.0 front fed.0;
      head = fed.1;
      room = c.loop.invariant.room;
      short = fed.2;
    }

pub returns-then-count-eq0-clause-parts : goal.returns-then-count-eq0-clause-parts
returns-then-count-eq0-clause-parts g c =
    let some : 0 < length c.read.new.buf = omega (arith, c.read.auto.buf, c.as_mut_slice.ensures.len, c.loop.invariant.room) in (
      c.loop.head.text.items,
      Keeps-end (g.I.Read.remaining c.args.reader.now) (g.I.Read.remaining c.loop.reader) (g.I.Read.remaining c.read.new.self) c.loop.head.text.items (take c.in-Ok.count c.read.new.buf) c.loop.invariant.taken c.in-Ok.ensures.bytes.0 (ap (λ (n : ℕ). take n c.read.new.buf) c.if-count-eq0.true),
      (c.in-Ok.ensures.bytes.1 c.if-count-eq0.true some, c.new.ensures.items, c.in_ok-finish.ensures.halves),
    )

pub returns-in-Some-clause-parts : goal.returns-in-Some-clause-parts
returns-in-Some-clause-parts g c =
    let n = c.in-Ok.count in
    let used = c.in-Some.used in
    let text = c.loop.head.text.items in
    let given = take n c.read.new.buf in
    let piece = take n c.deref.result.now in
    let front : piece ≡ given = given_front c.in-Ok.count c.loop.chunk.len (length c.as_mut_slice.result.now) c.read.new.buf (drop (length c.read.new.buf) c.loop.chunk.items) c.deref.result.now c.deref.ensures.value c.deref.ensures.len c.read.auto.buf c.as_mut_slice.ensures.len c.in-Ok.ensures.bound.0 in
    let fed = subst (λ (u : Option ℕ). Fed text c.feed.new.self.text.items c.feed.new.self.line piece u) c.in-Some.is c.in_ok-used.ensures.fed in
    let within = subst (λ (u : Option ℕ). IfSome u (λ k. k ≤ length piece)) c.in-Some.is c.in_ok-used.ensures.within in
    let fits : used ≤ n = omega (arith, within, length-take n c.deref.result.now) in
    let kept : c.truncate.new.self.items ≡ given = c.truncate.ensures.items ∙ chunk_front n c.loop.chunk.len c.read.new.buf (drop (length c.read.new.buf) c.loop.chunk.items) c.in-Ok.ensures.bound.0 (omega (arith, c.read.auto.buf, c.as_mut_slice.ensures.len, c.in-Ok.ensures.bound.0)) in
    let behind : drop used c.truncate.new.self.items ≡ drop used given = ap (λ (xs : List ℕ). drop used xs) kept in (
      text ++ given,
      taken_more (g.I.Read.remaining c.args.reader.now) (g.I.Read.remaining c.loop.reader) (g.I.Read.remaining c.read.new.self) text (text ++ given) given given c.loop.invariant.taken c.in-Ok.ensures.bytes.0 refl refl,
      behind_mark text given (drop used c.truncate.new.self.items) c.feed.new.self.text.items used behind (subst (λ (xs : List ℕ). IsMarked (text ++ take used xs) c.feed.new.self.text.items) front fed.0),
    )

pub returns-in-Some-clause-within : goal.returns-in-Some-clause-within
returns-in-Some-clause-within g c =
    let n = c.in-Ok.count in
    let used = c.in-Some.used in
    let kept : c.truncate.new.self.items ≡ take n c.read.new.buf = c.truncate.ensures.items ∙ chunk_front n c.loop.chunk.len c.read.new.buf (drop (length c.read.new.buf) c.loop.chunk.items) c.in-Ok.ensures.bound.0 (omega (arith, c.read.auto.buf, c.as_mut_slice.ensures.len, c.in-Ok.ensures.bound.0)) in
    let within = subst (λ (u : Option ℕ). IfSome u (λ k. k ≤ length (take n c.deref.result.now))) c.in-Some.is c.in_ok-used.ensures.within in
    let fits : used ≤ n = omega (arith, within, length-take n c.deref.result.now) in
    let long : length c.truncate.new.self.items ≡ length (take n c.read.new.buf) = ap length kept in
    let most : length (take n c.read.new.buf) ≡ n = length-take-le n c.read.new.buf c.in-Ok.ensures.bound.0 in
    omega (arith, fits, long, most)
