use Rattle.pin_core.proofs.Fronts.{fits_again}
use Rattle.pin_core.proofs.laws.front_still_fits.Goals as goal

pub returns : goal.returns
returns c = fits_again
