-- The number and the words by which each refusal of a chart is reported.
use Rattle.std.specs.Prelude.{ℕ, List, ◌++◌, codes}
use Rattle.std.specs.Fmt.{decimal}
use Rattle.chart.specs.declared.refusal.ChartRefusal.{ChartRefusal}
use Rattle.chart.specs.declared.refusal.ChartRefusal.TheVariants.{Header, Station, Road}

abbrev pub number_of : ChartRefusal → ℕ
number_of Header = 5
number_of (Station station) = 6
number_of (Road road) = 6

abbrev pub message_of : ChartRefusal → List ℕ
message_of Header = codes "expected a header of 1 to 1024 stations and at most 4000 roads, and no byte more or less"
message_of (Station station) = codes "the first road or the zone of station " ++ decimal station ++ codes " is wrong"
message_of (Road road) = codes "road " ++ decimal road ++ codes " leads to no station"
