use Rattle.nv_serve.proofs.Traced.{traces_meant}
use Rattle.nv_serve.proofs.laws.traces_are_meant.Goals as goal

pub returns : goal.returns
returns c = traces_meant
