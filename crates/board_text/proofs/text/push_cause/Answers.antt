use Rattle.board_text.proofs.text.push_cause.Goals as goal

pub returns-in-NoVehicle : goal.returns-in-NoVehicle
returns-in-NoVehicle c = rw c.in-NoVehicle.is c.push_last.ensures

pub returns-in-NoCustomer : goal.returns-in-NoCustomer
returns-in-NoCustomer c = rw c.in-NoCustomer.is c.push_two.ensures

pub returns-in-Planned : goal.returns-in-Planned
returns-in-Planned c = rw c.in-Planned.is c.push_one.ensures

pub returns-in-NoPlace : goal.returns-in-NoPlace
returns-in-NoPlace c = rw c.in-NoPlace.is c.push_no_place.ensures

pub returns-in-TooLong : goal.returns-in-TooLong
returns-in-TooLong c = rw c.in-TooLong.is c.push_too_long.ensures

pub returns-in-Empty : goal.returns-in-Empty
returns-in-Empty c = rw c.in-Empty.is c.push_text.ensures

pub returns-in-SamePlace : goal.returns-in-SamePlace
returns-in-SamePlace c = rw c.in-SamePlace.is c.push_text-in-SamePlace.ensures

pub returns-in-Order : goal.returns-in-Order
returns-in-Order c = rw c.in-Order.is c.push_two-in-Order.ensures

pub returns-in-NoKeep : goal.returns-in-NoKeep
returns-in-NoKeep c = rw c.in-NoKeep.is c.push_no_keep.ensures

pub returns-in-SameVehicle : goal.returns-in-SameVehicle
returns-in-SameVehicle c = rw c.in-SameVehicle.is c.push_last-in-SameVehicle.ensures

pub returns-in-NoTails : goal.returns-in-NoTails
returns-in-NoTails c = rw c.in-NoTails.is c.push_text-in-NoTails.ensures

pub returns-in-Nothing : goal.returns-in-Nothing
returns-in-Nothing c = rw c.in-Nothing.is c.push_text-in-Nothing.ensures
