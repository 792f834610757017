use Rattle.std.proofs.lemmas.Result.{err_from_is_err_and}
use Rattle.std.specs.Prelude.{string_bytes}
use Rattle.text_words.specs.Words.{words}
use Rattle.solomon_reader.specs.Cuts.{full_left, number_after}
use Rattle.solomon_reader.specs.Fields.{trimmed}
use Rattle.solomon_reader.specs.declared.fault.Kind.TheVariants.{Vehicle, Fleet, Customer, Heading}
use Rattle.solomon_reader.specs.Checks.{name_checks, heading_checks, fleet_checks, rows_checks, first_text, value_at, is_vehicle, is_fleet_heading, is_customer, is_node_heading}
use Rattle.solomon_reader.specs.Reading.{instance_of, read_of}
use Rattle.solomon_reader.proofs.Whole.{from_vehicle, from_fleet_heading, from_fleet, from_customer, from_heading, start, passed, stopped, stopped_last, made}
use Rattle.solomon_reader.proofs.reading.all.Goals as goal

pub returns-in_err-name : goal.returns-in_err-name
returns-in_err-name c =
    let m0 = number_after 1 c.args.text.now in
    let l0 = full_left 1 c.args.text.now in
    let v = instance_of l0 in
    let whole = read_of c.args.text.now in
    let s0 = start m0 l0 in
    let p = err_from_is_err_and c.from_residual.result c.from_residual.ensures.1 in
    rw (p.1, p.2) (stopped c.in_err-name.field-0.0 name_checks from_vehicle m0 l0 (trimmed (first_text l0)) v whole s0 c.in_err-name.ensures.read)

pub returns-in_err-heading : goal.returns-in_err-heading
returns-in_err-heading c =
    let m0 = number_after 1 c.args.text.now in
    let l0 = full_left 1 c.args.text.now in
    let v = instance_of l0 in
    let whole = read_of c.args.text.now in
    let s0 = start m0 l0 in
    let m1 = number_after c.name.new.lines.number c.name.new.lines.rest.now in
    let l1 = full_left c.name.new.lines.number c.name.new.lines.rest.now in
    let s1 = passed name_checks from_vehicle m0 m1 l0 l1 (trimmed (first_text l0)) (string_bytes c.in_ok-name.name) v whole s0 c.in_ok-name.ensures.read c.in_ok-name.ensures.rest c.in_ok-name.ensures.count in
    let p = err_from_is_err_and c.from_residual-in_err-heading.result c.from_residual-in_err-heading.ensures.1 in
    rw (p.1, p.2) (stopped c.in_err-heading.field-0.0 (heading_checks Vehicle is_vehicle) from_fleet_heading m1 l1 tt v whole s1 c.in_err-heading.ensures.read)

pub returns-in_err-heading-2 : goal.returns-in_err-heading-2
returns-in_err-heading-2 c =
    let m0 = number_after 1 c.args.text.now in
    let l0 = full_left 1 c.args.text.now in
    let v = instance_of l0 in
    let whole = read_of c.args.text.now in
    let s0 = start m0 l0 in
    let m1 = number_after c.name.new.lines.number c.name.new.lines.rest.now in
    let l1 = full_left c.name.new.lines.number c.name.new.lines.rest.now in
    let s1 = passed name_checks from_vehicle m0 m1 l0 l1 (trimmed (first_text l0)) (string_bytes c.in_ok-name.name) v whole s0 c.in_ok-name.ensures.read c.in_ok-name.ensures.rest c.in_ok-name.ensures.count in
    let m2 = number_after c.heading.new.lines.number c.heading.new.lines.rest.now in
    let l2 = full_left c.heading.new.lines.number c.heading.new.lines.rest.now in
    let s2 = passed (heading_checks Vehicle is_vehicle) from_fleet_heading m1 m2 l1 l2 tt tt v whole s1 c.in_ok-heading.ensures.read c.in_ok-heading.ensures.rest c.in_ok-heading.ensures.count in
    let p = err_from_is_err_and c.from_residual-in_err-heading-2.result c.from_residual-in_err-heading-2.ensures.1 in
    rw (p.1, p.2) (stopped c.in_err-heading-2.field-0.0 (heading_checks Fleet is_fleet_heading) from_fleet m2 l2 tt v whole s2 c.in_err-heading-2.ensures.read)

pub returns-in_err-vehicles : goal.returns-in_err-vehicles
returns-in_err-vehicles c =
    let m0 = number_after 1 c.args.text.now in
    let l0 = full_left 1 c.args.text.now in
    let v = instance_of l0 in
    let whole = read_of c.args.text.now in
    let s0 = start m0 l0 in
    let m1 = number_after c.name.new.lines.number c.name.new.lines.rest.now in
    let l1 = full_left c.name.new.lines.number c.name.new.lines.rest.now in
    let s1 = passed name_checks from_vehicle m0 m1 l0 l1 (trimmed (first_text l0)) (string_bytes c.in_ok-name.name) v whole s0 c.in_ok-name.ensures.read c.in_ok-name.ensures.rest c.in_ok-name.ensures.count in
    let m2 = number_after c.heading.new.lines.number c.heading.new.lines.rest.now in
    let l2 = full_left c.heading.new.lines.number c.heading.new.lines.rest.now in
    let s2 = passed (heading_checks Vehicle is_vehicle) from_fleet_heading m1 m2 l1 l2 tt tt v whole s1 c.in_ok-heading.ensures.read c.in_ok-heading.ensures.rest c.in_ok-heading.ensures.count in
    let m3 = number_after c.heading-2.new.lines.number c.heading-2.new.lines.rest.now in
    let l3 = full_left c.heading-2.new.lines.number c.heading-2.new.lines.rest.now in
    let s3 = passed (heading_checks Fleet is_fleet_heading) from_fleet m2 m3 l2 l3 tt tt v whole s2 c.in_ok-heading-2.ensures.read c.in_ok-heading-2.ensures.rest c.in_ok-heading-2.ensures.count in
    let p = err_from_is_err_and c.from_residual-in_err-vehicles.result c.from_residual-in_err-vehicles.ensures.1 in
    rw (p.1, p.2) (stopped c.in_err-vehicles.field-0.0 fleet_checks from_customer m3 l3 (value_at 0 (words (first_text l3)), value_at 1 (words (first_text l3))) v whole s3 c.in_err-vehicles.ensures.read)

pub returns-in_err-heading-3 : goal.returns-in_err-heading-3
returns-in_err-heading-3 c =
    let m0 = number_after 1 c.args.text.now in
    let l0 = full_left 1 c.args.text.now in
    let v = instance_of l0 in
    let whole = read_of c.args.text.now in
    let s0 = start m0 l0 in
    let m1 = number_after c.name.new.lines.number c.name.new.lines.rest.now in
    let l1 = full_left c.name.new.lines.number c.name.new.lines.rest.now in
    let s1 = passed name_checks from_vehicle m0 m1 l0 l1 (trimmed (first_text l0)) (string_bytes c.in_ok-name.name) v whole s0 c.in_ok-name.ensures.read c.in_ok-name.ensures.rest c.in_ok-name.ensures.count in
    let m2 = number_after c.heading.new.lines.number c.heading.new.lines.rest.now in
    let l2 = full_left c.heading.new.lines.number c.heading.new.lines.rest.now in
    let s2 = passed (heading_checks Vehicle is_vehicle) from_fleet_heading m1 m2 l1 l2 tt tt v whole s1 c.in_ok-heading.ensures.read c.in_ok-heading.ensures.rest c.in_ok-heading.ensures.count in
    let m3 = number_after c.heading-2.new.lines.number c.heading-2.new.lines.rest.now in
    let l3 = full_left c.heading-2.new.lines.number c.heading-2.new.lines.rest.now in
    let s3 = passed (heading_checks Fleet is_fleet_heading) from_fleet m2 m3 l2 l3 tt tt v whole s2 c.in_ok-heading-2.ensures.read c.in_ok-heading-2.ensures.rest c.in_ok-heading-2.ensures.count in
    let m4 = number_after c.fleet.new.lines.number c.fleet.new.lines.rest.now in
    let l4 = full_left c.fleet.new.lines.number c.fleet.new.lines.rest.now in
    let s4 = passed fleet_checks from_customer m3 m4 l3 l4 (value_at 0 (words (first_text l3)), value_at 1 (words (first_text l3))) (c.in_ok-vehicles.vehicles, c.in_ok-vehicles.capacity) v whole s3 c.in_ok-vehicles.ensures.read c.in_ok-vehicles.ensures.rest c.in_ok-vehicles.ensures.count in
    let p = err_from_is_err_and c.from_residual-in_err-heading-3.result c.from_residual-in_err-heading-3.ensures.1 in
    rw (p.1, p.2) (stopped c.in_err-heading-3.field-0.0 (heading_checks Customer is_customer) from_heading m4 l4 tt v whole s4 c.in_err-heading-3.ensures.read)

pub returns-in_err-heading-4 : goal.returns-in_err-heading-4
returns-in_err-heading-4 c =
    let m0 = number_after 1 c.args.text.now in
    let l0 = full_left 1 c.args.text.now in
    let v = instance_of l0 in
    let whole = read_of c.args.text.now in
    let s0 = start m0 l0 in
    let m1 = number_after c.name.new.lines.number c.name.new.lines.rest.now in
    let l1 = full_left c.name.new.lines.number c.name.new.lines.rest.now in
    let s1 = passed name_checks from_vehicle m0 m1 l0 l1 (trimmed (first_text l0)) (string_bytes c.in_ok-name.name) v whole s0 c.in_ok-name.ensures.read c.in_ok-name.ensures.rest c.in_ok-name.ensures.count in
    let m2 = number_after c.heading.new.lines.number c.heading.new.lines.rest.now in
    let l2 = full_left c.heading.new.lines.number c.heading.new.lines.rest.now in
    let s2 = passed (heading_checks Vehicle is_vehicle) from_fleet_heading m1 m2 l1 l2 tt tt v whole s1 c.in_ok-heading.ensures.read c.in_ok-heading.ensures.rest c.in_ok-heading.ensures.count in
    let m3 = number_after c.heading-2.new.lines.number c.heading-2.new.lines.rest.now in
    let l3 = full_left c.heading-2.new.lines.number c.heading-2.new.lines.rest.now in
    let s3 = passed (heading_checks Fleet is_fleet_heading) from_fleet m2 m3 l2 l3 tt tt v whole s2 c.in_ok-heading-2.ensures.read c.in_ok-heading-2.ensures.rest c.in_ok-heading-2.ensures.count in
    let m4 = number_after c.fleet.new.lines.number c.fleet.new.lines.rest.now in
    let l4 = full_left c.fleet.new.lines.number c.fleet.new.lines.rest.now in
    let s4 = passed fleet_checks from_customer m3 m4 l3 l4 (value_at 0 (words (first_text l3)), value_at 1 (words (first_text l3))) (c.in_ok-vehicles.vehicles, c.in_ok-vehicles.capacity) v whole s3 c.in_ok-vehicles.ensures.read c.in_ok-vehicles.ensures.rest c.in_ok-vehicles.ensures.count in
    let m5 = number_after c.heading-3.new.lines.number c.heading-3.new.lines.rest.now in
    let l5 = full_left c.heading-3.new.lines.number c.heading-3.new.lines.rest.now in
    let s5 = passed (heading_checks Customer is_customer) from_heading m4 m5 l4 l5 tt tt v whole s4 c.in_ok-heading-3.ensures.read c.in_ok-heading-3.ensures.rest c.in_ok-heading-3.ensures.count in
    let p = err_from_is_err_and c.from_residual-in_err-heading-4.result c.from_residual-in_err-heading-4.ensures.1 in
    rw (p.1, p.2) (stopped c.in_err-heading-4.field-0.0 (heading_checks Heading is_node_heading) (λ m l. rows_checks m 0 l) m5 l5 tt v whole s5 c.in_err-heading-4.ensures.read)

pub returns-in_err-nodes : goal.returns-in_err-nodes
returns-in_err-nodes c =
    let m0 = number_after 1 c.args.text.now in
    let l0 = full_left 1 c.args.text.now in
    let v = instance_of l0 in
    let whole = read_of c.args.text.now in
    let s0 = start m0 l0 in
    let m1 = number_after c.name.new.lines.number c.name.new.lines.rest.now in
    let l1 = full_left c.name.new.lines.number c.name.new.lines.rest.now in
    let s1 = passed name_checks from_vehicle m0 m1 l0 l1 (trimmed (first_text l0)) (string_bytes c.in_ok-name.name) v whole s0 c.in_ok-name.ensures.read c.in_ok-name.ensures.rest c.in_ok-name.ensures.count in
    let m2 = number_after c.heading.new.lines.number c.heading.new.lines.rest.now in
    let l2 = full_left c.heading.new.lines.number c.heading.new.lines.rest.now in
    let s2 = passed (heading_checks Vehicle is_vehicle) from_fleet_heading m1 m2 l1 l2 tt tt v whole s1 c.in_ok-heading.ensures.read c.in_ok-heading.ensures.rest c.in_ok-heading.ensures.count in
    let m3 = number_after c.heading-2.new.lines.number c.heading-2.new.lines.rest.now in
    let l3 = full_left c.heading-2.new.lines.number c.heading-2.new.lines.rest.now in
    let s3 = passed (heading_checks Fleet is_fleet_heading) from_fleet m2 m3 l2 l3 tt tt v whole s2 c.in_ok-heading-2.ensures.read c.in_ok-heading-2.ensures.rest c.in_ok-heading-2.ensures.count in
    let m4 = number_after c.fleet.new.lines.number c.fleet.new.lines.rest.now in
    let l4 = full_left c.fleet.new.lines.number c.fleet.new.lines.rest.now in
    let s4 = passed fleet_checks from_customer m3 m4 l3 l4 (value_at 0 (words (first_text l3)), value_at 1 (words (first_text l3))) (c.in_ok-vehicles.vehicles, c.in_ok-vehicles.capacity) v whole s3 c.in_ok-vehicles.ensures.read c.in_ok-vehicles.ensures.rest c.in_ok-vehicles.ensures.count in
    let m5 = number_after c.heading-3.new.lines.number c.heading-3.new.lines.rest.now in
    let l5 = full_left c.heading-3.new.lines.number c.heading-3.new.lines.rest.now in
    let s5 = passed (heading_checks Customer is_customer) from_heading m4 m5 l4 l5 tt tt v whole s4 c.in_ok-heading-3.ensures.read c.in_ok-heading-3.ensures.rest c.in_ok-heading-3.ensures.count in
    let m6 = number_after c.heading-4.new.lines.number c.heading-4.new.lines.rest.now in
    let l6 = full_left c.heading-4.new.lines.number c.heading-4.new.lines.rest.now in
    let s6 = passed (heading_checks Heading is_node_heading) (λ m l. rows_checks m 0 l) m5 m6 l5 l6 tt tt v whole s5 c.in_ok-heading-4.ensures.read c.in_ok-heading-4.ensures.rest c.in_ok-heading-4.ensures.count in
    let p = err_from_is_err_and c.from_residual-in_err-nodes.result c.from_residual-in_err-nodes.ensures.1 in
    rw (p.1, p.2) (stopped_last c.in_err-nodes.field-0.0 m6 l6 v whole s6 c.in_err-nodes.ensures)

pub returns : goal.returns
returns c =
    let m0 = number_after 1 c.args.text.now in
    let l0 = full_left 1 c.args.text.now in
    let v = instance_of l0 in
    let whole = read_of c.args.text.now in
    let s0 = start m0 l0 in
    let m1 = number_after c.name.new.lines.number c.name.new.lines.rest.now in
    let l1 = full_left c.name.new.lines.number c.name.new.lines.rest.now in
    let s1 = passed name_checks from_vehicle m0 m1 l0 l1 (trimmed (first_text l0)) (string_bytes c.in_ok-name.name) v whole s0 c.in_ok-name.ensures.read c.in_ok-name.ensures.rest c.in_ok-name.ensures.count in
    let m2 = number_after c.heading.new.lines.number c.heading.new.lines.rest.now in
    let l2 = full_left c.heading.new.lines.number c.heading.new.lines.rest.now in
    let s2 = passed (heading_checks Vehicle is_vehicle) from_fleet_heading m1 m2 l1 l2 tt tt v whole s1 c.in_ok-heading.ensures.read c.in_ok-heading.ensures.rest c.in_ok-heading.ensures.count in
    let m3 = number_after c.heading-2.new.lines.number c.heading-2.new.lines.rest.now in
    let l3 = full_left c.heading-2.new.lines.number c.heading-2.new.lines.rest.now in
    let s3 = passed (heading_checks Fleet is_fleet_heading) from_fleet m2 m3 l2 l3 tt tt v whole s2 c.in_ok-heading-2.ensures.read c.in_ok-heading-2.ensures.rest c.in_ok-heading-2.ensures.count in
    let m4 = number_after c.fleet.new.lines.number c.fleet.new.lines.rest.now in
    let l4 = full_left c.fleet.new.lines.number c.fleet.new.lines.rest.now in
    let s4 = passed fleet_checks from_customer m3 m4 l3 l4 (value_at 0 (words (first_text l3)), value_at 1 (words (first_text l3))) (c.in_ok-vehicles.vehicles, c.in_ok-vehicles.capacity) v whole s3 c.in_ok-vehicles.ensures.read c.in_ok-vehicles.ensures.rest c.in_ok-vehicles.ensures.count in
    let m5 = number_after c.heading-3.new.lines.number c.heading-3.new.lines.rest.now in
    let l5 = full_left c.heading-3.new.lines.number c.heading-3.new.lines.rest.now in
    let s5 = passed (heading_checks Customer is_customer) from_heading m4 m5 l4 l5 tt tt v whole s4 c.in_ok-heading-3.ensures.read c.in_ok-heading-3.ensures.rest c.in_ok-heading-3.ensures.count in
    let m6 = number_after c.heading-4.new.lines.number c.heading-4.new.lines.rest.now in
    let l6 = full_left c.heading-4.new.lines.number c.heading-4.new.lines.rest.now in
    let s6 = passed (heading_checks Heading is_node_heading) (λ m l. rows_checks m 0 l) m5 m6 l5 l6 tt tt v whole s5 c.in_ok-heading-4.ensures.read c.in_ok-heading-4.ensures.rest c.in_ok-heading-4.ensures.count in
    made m0 m3 m6 l0 l1 l2 l3 l4 l5 l6 (string_bytes c.in_ok-name.name) (c.in_ok-vehicles.vehicles, c.in_ok-vehicles.capacity) c.in_ok-nodes.nodes.items whole c.in_ok-name.ensures.rest c.in_ok-heading.ensures.rest c.in_ok-heading-2.ensures.rest c.in_ok-vehicles.ensures.rest c.in_ok-heading-3.ensures.rest c.in_ok-heading-4.ensures.rest c.in_ok-name.ensures.read c.in_ok-vehicles.ensures.read c.in_ok-nodes.ensures s6
