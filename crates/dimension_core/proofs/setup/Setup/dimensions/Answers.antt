use Rattle.dimension_core.specs.Setup.{setting}
use Rattle.dimension_core.proofs.Outs.{served_at}
use Rattle.dimension_core.proofs.setup.Setup.dimensions.Goals as goal

pub returns-clause-served : goal.returns-clause-served
returns-clause-served g c = λ k h. served_at (setting c.args.self.now) k c.args.self.now.sound h
