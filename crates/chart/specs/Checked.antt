-- What checking the bytes of a chart answers, for every string of bytes.
use Rattle.std.specs.Prelude.{ℕ, Bool, cond, not, List, Some, None, Ok, Err, Option, Result}
use Rattle.std.specs.List.{find, range_with_len}
use Rattle.chart.specs.declared.refusal.ChartRefusal.{ChartRefusal}
use Rattle.chart.specs.declared.refusal.ChartRefusal.TheVariants.{Header, Station, Road}
use Rattle.chart.specs.Format.{station_count, road_count}
use Rattle.chart.specs.Rules.{header_keeps, station_keeps, road_keeps}

-- the first number that breaks a rule, of those below a count
abbrev pub first_breaking : (ℕ → Bool) → (count : ℕ) → Option ℕ
first_breaking keeps count = find (λ n. not (keeps n)) (range_with_len 0 count)

-- the first station and the first road that break their rules
abbrev pub bad_station : List ℕ → Option ℕ
bad_station bytes = first_breaking (station_keeps bytes) (station_count bytes)

abbrev pub bad_road : List ℕ → Option ℕ
bad_road bytes = first_breaking (road_keeps bytes) (road_count bytes)

-- by the first road that breaks its rule
abbrev pub by_roads : Option ℕ → Result (Unit {0}) ChartRefusal
by_roads (Some road) = Err (Road road)
by_roads None = Ok tt

-- by the first station that breaks its rule, and then by the roads
abbrev pub by_stations : Option ℕ → Option ℕ → Result (Unit {0}) ChartRefusal
by_stations (Some station) roads = Err (Station station)
by_stations None roads = by_roads roads

-- by the header and the length, then by the stations, then by the roads
unfoldable pub checked : List ℕ → Result (Unit {0}) ChartRefusal
checked bytes = cond (header_keeps bytes) (by_stations (bad_station bytes) (bad_road bytes)) (Err Header)
