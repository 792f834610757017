use Rattle.std.proofs.Common.{◌∙◌, sym, ap}
use Rattle.callback_store.specs.Tables.{slot_table}
use Rattle.dimension_core.specs.Setup.{setting}
use Rattle.range_cache.proofs.Walking.{asked_id, asked_size, asked_table}
use Rattle.range_cache.proofs.walk.walk.Goals as goal

pub callback-requires : goal.callback-requires
callback-requires g c =
    let s = setting c.args.setup.now in
    let k = c.args.axis.dimension in
    record {
      registered = asked_id s k c.dimensions.result.now c.index-dimensions-axis.result c.dimensions.ensures.sound c.dimensions.ensures.value c.requires.dimension c.index-dimensions-axis.is _ _ c.registry.ensures.value c.id.ensures;
    }

pub walk_by-requires : goal.walk_by-requires
walk_by-requires g c =
    let s = setting c.args.setup.now in
    let k = c.args.axis.dimension in
    let r = c.requires in
    let nodes = asked_size s _ _ c.dimensions.ensures.sound c.registry.ensures.value (sym (ap (λ x. (slot_table x).size) c.in-Pair.is) ∙ c.callback.ensures.nodes) in
    let answers = asked_table s k c.dimensions.result.now c.index-dimensions-axis.result c.dimensions.ensures.sound c.dimensions.ensures.value c.requires.dimension c.index-dimensions-axis.is _ _ _ c.registry.ensures.value c.id.ensures (sym (ap (λ x. slot_table x) c.in-Pair.is) ∙ c.callback.ensures.table) in
    record { answers = answers; nodes = nodes; low = r.low; high = r.high; dimension = r.dimension; some = r.some; known = r.known; each = r.each; kept = r.kept; room = r.room }

pub walk_by-requires-in-Node : goal.walk_by-requires-in-Node
walk_by-requires-in-Node g c =
    let s = setting c.args.setup.now in
    let k = c.args.axis.dimension in
    let r = c.requires in
    let nodes = asked_size s _ _ c.dimensions.ensures.sound c.registry.ensures.value (sym (ap (λ x. (slot_table x).size) c.in-Node.is) ∙ c.callback.ensures.nodes) in
    let answers = asked_table s k c.dimensions.result.now c.index-dimensions-axis.result c.dimensions.ensures.sound c.dimensions.ensures.value c.requires.dimension c.index-dimensions-axis.is _ _ _ c.registry.ensures.value c.id.ensures (sym (ap (λ x. slot_table x) c.in-Node.is) ∙ c.callback.ensures.table) in
    record { answers = answers; nodes = nodes; low = r.low; high = r.high; dimension = r.dimension; some = r.some; known = r.known; each = r.each; kept = r.kept; room = r.room }

pub walk_by-requires-in-Listed : goal.walk_by-requires-in-Listed
walk_by-requires-in-Listed g c =
    let s = setting c.args.setup.now in
    let k = c.args.axis.dimension in
    let r = c.requires in
    let nodes = asked_size s _ _ c.dimensions.ensures.sound c.registry.ensures.value (sym (ap (λ x. (slot_table x).size) c.in-Listed.is) ∙ c.callback.ensures.nodes) in
    let answers = asked_table s k c.dimensions.result.now c.index-dimensions-axis.result c.dimensions.ensures.sound c.dimensions.ensures.value c.requires.dimension c.index-dimensions-axis.is _ _ _ c.registry.ensures.value c.id.ensures (sym (ap (λ x. slot_table x) c.in-Listed.is) ∙ c.callback.ensures.table) in
    record { answers = answers; nodes = nodes; low = r.low; high = r.high; dimension = r.dimension; some = r.some; known = r.known; each = r.each; kept = r.kept; room = r.room }

pub walk_by-requires-in-Values : goal.walk_by-requires-in-Values
walk_by-requires-in-Values g c =
    let s = setting c.args.setup.now in
    let k = c.args.axis.dimension in
    let r = c.requires in
    let nodes = asked_size s _ _ c.dimensions.ensures.sound c.registry.ensures.value (sym (ap (λ x. (slot_table x).size) c.in-Values.is) ∙ c.callback.ensures.nodes) in
    let answers = asked_table s k c.dimensions.result.now c.index-dimensions-axis.result c.dimensions.ensures.sound c.dimensions.ensures.value c.requires.dimension c.index-dimensions-axis.is _ _ _ c.registry.ensures.value c.id.ensures (sym (ap (λ x. slot_table x) c.in-Values.is) ∙ c.callback.ensures.table) in
    record { answers = answers; nodes = nodes; low = r.low; high = r.high; dimension = r.dimension; some = r.some; known = r.known; each = r.each; kept = r.kept; room = r.room }

pub walk_by-requires-in-Stayed : goal.walk_by-requires-in-Stayed
walk_by-requires-in-Stayed g c =
    let s = setting c.args.setup.now in
    let k = c.args.axis.dimension in
    let r = c.requires in
    let nodes = asked_size s _ _ c.dimensions.ensures.sound c.registry.ensures.value (sym (ap (λ x. (slot_table x).size) c.in-Stayed.is) ∙ c.callback.ensures.nodes) in
    let answers = asked_table s k c.dimensions.result.now c.index-dimensions-axis.result c.dimensions.ensures.sound c.dimensions.ensures.value c.requires.dimension c.index-dimensions-axis.is _ _ _ c.registry.ensures.value c.id.ensures (sym (ap (λ x. slot_table x) c.in-Stayed.is) ∙ c.callback.ensures.table) in
    record { answers = answers; nodes = nodes; low = r.low; high = r.high; dimension = r.dimension; some = r.some; known = r.known; each = r.each; kept = r.kept; room = r.room }

pub returns-in-Pair : goal.returns-in-Pair
returns-in-Pair g c =
    let e = c.walk_by.ensures in
    record { bounds = e.bounds; ranges = e.ranges; capacity = e.capacity; asks = e.asks; whole = e.whole; missed = e.missed }

pub returns-in-Node : goal.returns-in-Node
returns-in-Node g c =
    let e = c.walk_by-in-Node.ensures in
    record { bounds = e.bounds; ranges = e.ranges; capacity = e.capacity; asks = e.asks; whole = e.whole; missed = e.missed }

pub returns-in-Listed : goal.returns-in-Listed
returns-in-Listed g c =
    let e = c.walk_by-in-Listed.ensures in
    record { bounds = e.bounds; ranges = e.ranges; capacity = e.capacity; asks = e.asks; whole = e.whole; missed = e.missed }

pub returns-in-Values : goal.returns-in-Values
returns-in-Values g c =
    let e = c.walk_by-in-Values.ensures in
    record { bounds = e.bounds; ranges = e.ranges; capacity = e.capacity; asks = e.asks; whole = e.whole; missed = e.missed }

pub returns-in-Stayed : goal.returns-in-Stayed
returns-in-Stayed g c =
    let e = c.walk_by-in-Stayed.ensures in
    record { bounds = e.bounds; ranges = e.ranges; capacity = e.capacity; asks = e.asks; whole = e.whole; missed = e.missed }
