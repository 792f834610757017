use Rattle.std.proofs.Common.{ℕ, List, Result, Ok, Err}
use Rattle.std.specs.Prelude.{IfOk, IfErr}
use Rattle.solomon_reader.specs.declared.instance.Instance.{Instance}
use Rattle.solomon_reader.specs.declared.fault.ReadFault.{ReadFault}
use Rattle.solomon_reader.specs.declared.fault.ReadFault.TheVariants.{NoMemory, At}
use Rattle.solomon_reader.specs.Cuts.{full_left, number_after}
use Rattle.solomon_reader.specs.Checks.{checks}
use Rattle.solomon_reader.specs.Reading.{Gives, IsFault, instance_of, read_of}
use Rattle.solomon_reader.specs.Instances.{IsInstance, IsSound, view}
use Rattle.solomon_reader.proofs.Faults.{first_failing, failing_first}
use Rattle.solomon_reader.proofs.Relation.{read_is_instance, instance_is_read}
use Rattle.solomon_reader.proofs.Soundness.{instance_is_sound}
use Rattle.solomon_reader.proofs.reading.read.Goals as goal

found_from : (r : Result Instance ReadFault) (text : List ℕ) → Gives view r (read_of text) → IfOk r (λ i. IsInstance (full_left 1 text) (view i))
found_from (Ok i) text h = read_is_instance (number_after 1 text) (full_left 1 text) (view i) h
found_from (Err e) text h = tt

sound_from : (r : Result Instance ReadFault) (text : List ℕ) → IfOk r (λ i. IsInstance (full_left 1 text) (view i)) → IfOk r (λ i. IsSound (view i))
sound_from (Ok i) text h = instance_is_sound (full_left 1 text) (view i) h
sound_from (Err e) text h = tt

fault_from : (r : Result Instance ReadFault) (text : List ℕ) → Gives view r (read_of text) → IfErr r (λ e. IsFault text e)
fault_from (Ok i) text h = tt
fault_from (Err NoMemory) text h = tt
fault_from (Err (At kind line)) text h = first_failing (checks (number_after 1 text) (full_left 1 text)) (instance_of (full_left 1 text)) kind line h

pub returns-clause-found : goal.returns-clause-found
returns-clause-found c = found_from c.all.result c.args.text.now c.all.ensures

pub returns-clause-only : goal.returns-clause-only
returns-clause-only c = λ i h. rw (← (instance_is_read (number_after 1 c.args.text.now) (full_left 1 c.args.text.now) i h)) c.all.ensures

pub returns-clause-fault : goal.returns-clause-fault
returns-clause-fault c = fault_from c.all.result c.args.text.now c.all.ensures

pub returns-clause-fault_only : goal.returns-clause-fault_only
returns-clause-fault_only c = λ kind line h. rw (← (failing_first (checks (number_after 1 c.args.text.now) (full_left 1 c.args.text.now)) (instance_of (full_left 1 c.args.text.now)) kind line h)) c.all.ensures

pub returns-clause-sound : goal.returns-clause-sound
returns-clause-sound c = sound_from c.all.result c.args.text.now (found_from c.all.result c.args.text.now c.all.ensures)
