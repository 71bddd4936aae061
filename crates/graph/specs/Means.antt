-- What a graph of the trait means, of the members that say it.
use Rattle.graph.specs.Meaning.{Meaning, meaning}
use Rattle.graph.specs.declared.questions.Graph.{Ghosts}

abbrev pub means : {S N C : Type 0} → Ghosts S N C → S → Meaning
means G g = meaning (G.holds g) (G.zones g) (G.counts g) (G.roads g) (G.goals g)
