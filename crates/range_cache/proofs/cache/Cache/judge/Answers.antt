use Rattle.range_cache.proofs.cache.Cache.judge.Goals as goal

pub judge_in-requires : goal.judge_in-requires
judge_in-requires g c = record { cache = c.requires.cache; known = c.requires.known; short = c.requires.short; fronts = c.requires.fronts }

pub returns : goal.returns
returns g c =
    let e = c.judge_in.ensures in
    record { of = e.of; fits = e.fits; rows = e.rows; fault = e.fault; asks = e.asks; whole = e.whole; least = e.least; missed = e.missed }
