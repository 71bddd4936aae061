-- What was read.
use Rattle.map.proofs.words.parsed.Goals as goal

pub returns : goal.returns
returns g c = (c.parse.result, c.parse.ensures.value, c.ok.ensures.value)
