use Rattle.permission_core.proofs.NumberLaws.{numbers_apart}
use Rattle.permission_core.proofs.laws.objects_have_numbers_of_their_own.Goals as goal

pub returns : goal.returns
returns c customers vehicles few = numbers_apart customers vehicles few
