-- Notes as text.
use Rattle.std.specs.Prelude.{ℕ, ◌-◌, ◌==◌, List, ◌++◌, codes, if◌then◌else◌}
use Rattle.std.specs.Fmt.{decimal}
use Rattle.board_rules.specs.declared.reply.Denial.{Denial}
use Rattle.board_rules.specs.declared.reply.Denial.TheVariants as denials
use Rattle.board_text.specs.declared.cause.Cause.{Cause}
use Rattle.board_text.specs.declared.cause.Cause.TheVariants as causes
use Rattle.board_text.specs.declared.note.Note.{Note}
use Rattle.board_text.specs.declared.note.Note.TheVariants as notes

-- where a vehicle would be late: at a customer, or back at the depot
abbrev pub stop_text : ℕ → ℕ → ℕ → List ℕ
stop_text v place node =
    if node == 0 then codes "vehicle " ++ (decimal v ++ codes " would be back at the depot at ")
    else codes "vehicle " ++ (decimal v ++ (codes " would serve customer " ++ (decimal node ++ (codes " at place " ++ (decimal place ++ codes " at ")))))

-- when it would be there, and by how much that is late
abbrev pub times_text : ℕ → ℕ → List ℕ
times_text least most = decimal least ++ (codes " at the earliest, " ++ (decimal (least - most) ++ (codes " after its due date " ++ decimal most)))

abbrev pub late_text : ℕ → ℕ → ℕ → ℕ → ℕ → List ℕ
late_text v place node least most = stop_text v place node ++ times_text least most

abbrev pub cause_text : Cause → List ℕ
cause_text (causes.NoVehicle v) = codes "there is no vehicle " ++ decimal v
cause_text (causes.NoCustomer c most) = codes "customer " ++ (decimal c ++ (codes " is not from 1 to " ++ decimal most))
cause_text (causes.Planned c) = codes "customer " ++ (decimal c ++ codes " is planned already")
cause_text (causes.NoPlace v p most) = codes "place " ++ (decimal p ++ (codes " of vehicle " ++ (decimal v ++ (codes " is not from 1 to " ++ decimal most))))
cause_text (causes.TooLong v p n) =
    codes "vehicle " ++ (decimal v ++ (codes " has fewer than " ++ (decimal n ++ (codes " customers from place " ++ (decimal p ++ codes " on")))))
cause_text causes.Empty = codes "no customer is to be shifted"
cause_text causes.SamePlace = codes "both places are the same"
cause_text (causes.Order first last) = codes "place " ++ (decimal first ++ (codes " is not before place " ++ decimal last))
cause_text (causes.NoKeep v k most) = codes "vehicle " ++ (decimal v ++ (codes " has " ++ (decimal most ++ (codes " customers and cannot keep " ++ decimal k))))
cause_text (causes.SameVehicle v) = codes "both vehicles are " ++ decimal v
cause_text causes.NoTails = codes "neither vehicle has a customer to exchange"
cause_text causes.Nothing = codes "the move has no effect"

-- which rule of the board failed
abbrev pub rule_text : Denial → List ℕ
rule_text denials.NoSession = codes "there is no such session"
rule_text denials.BadVehicle = codes "a vehicle that the move names is not in the fleet"
rule_text (denials.AccessVehicle v) = codes "the session may not move vehicle " ++ decimal v
rule_text denials.Ahead = codes "the base is above the version"
rule_text (denials.Stale v) = codes "vehicle " ++ (decimal v ++ codes " has changed since the base")
rule_text denials.BadPlace = codes "the move has no effect"
rule_text (denials.AccessCustomer v p) = codes "the session may not move the customer of vehicle " ++ (decimal v ++ (codes " at place " ++ decimal p))
rule_text (denials.Frozen v) = codes "frozen stops of vehicle " ++ (decimal v ++ codes " would change")
rule_text (denials.Pinned v p) = codes "the customer of vehicle " ++ (decimal v ++ (codes " at place " ++ (decimal p ++ codes " is pinned to its vehicle")))
rule_text (denials.Bound v d) = codes "vehicle " ++ (decimal v ++ (codes " would be out of bounds in dimension " ++ decimal d))

abbrev pub note_text : Note → List ℕ
note_text (notes.Load v total most) =
    codes "vehicle " ++ (decimal v ++ (codes " would carry " ++ (decimal total ++ (codes ", " ++ (decimal (total - most) ++ (codes " above its capacity " ++ decimal most))))))
note_text (notes.Late v place node least most) = late_text v place node least most
note_text (notes.Start v) = codes "vehicle " ++ (decimal v ++ codes " could not leave the depot")
note_text (notes.Customer v p c) =
    codes "the session may not move customer " ++ (decimal c ++ (codes ", at place " ++ (decimal p ++ (codes " of vehicle " ++ decimal v))))
note_text (notes.Stale v commit version) =
    codes "commit " ++ (decimal commit ++ (codes " changed vehicle " ++ (decimal v ++ (codes ", and the version is " ++ decimal version))))
note_text (notes.Ahead version) = codes "the version is " ++ decimal version
note_text (notes.Place cause) = cause_text cause
note_text (notes.Rule denial) = rule_text denial
