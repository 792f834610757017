-- The desk that is made of what it begins with.
use Rattle.published_board.specs.declared.trail.Naming.{Ghosts}
use Rattle.board_lock.specs.declared.ready.Ready.{Ready}
use Rattle.board_lock.specs.Watches.{Watch}

module _ {X : Type 0} {g : Ghosts X} where
  abbrev pub watch_of : Ready X g → Watch
  watch_of r = record { number = r.number; own = r.own; seen = r.eye.seen; viewed = r.eye.viewed }
