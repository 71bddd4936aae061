-- The bytes of the chart that is drawn: a header, the stations, the roads.
use Rattle.std.specs.Prelude.{ℕ, ◌+◌, ◌*◌, ◌==◌, List, ◌++◌, length, min, if◌then◌else◌, nat_lt, Some, None, Option}
use Rattle.std.specs.List.{filter, flat_map, range_with_len}
use Rattle.std.specs.Int.{to_le_bytes, w32}
use Rattle.trials.specs.declared.drawing.Road.{Road}
use Rattle.trials.specs.declared.drawing.Guess.{Guess}
use Rattle.trials.specs.declared.drawing.Drawing.{Drawing}

abbrev pub word_bytes : ℕ → List ℕ
word_bytes n = to_le_bytes w32 n

-- a count, or the greatest word where it is more
abbrev pub count_bytes : ℕ → List ℕ
count_bytes n = word_bytes (min n 4294967295)

-- the guess at a station, which is zero where none is drawn
abbrev pub guess_drawn : Option Guess → ℕ → ℕ
guess_drawn None station = 0
guess_drawn (Some g) station = if g.station == station then g.millis else 0

-- a goal has 256
abbrev pub mark_drawn : (goal station : ℕ) → ℕ
mark_drawn goal station = if station == goal then 256 else 0

-- how many roads begin before a station
abbrev pub roads_before : List Road → ℕ → ℕ
roads_before roads station = length (filter (λ road. nat_lt road.from station) roads)

abbrev pub header_bytes : Drawing → List ℕ
header_bytes d =
    word_bytes d.stations ++ count_bytes (length d.roads.now) ++ word_bytes 16 ++ count_bytes (16 + 16 * d.stations)

-- its first road, its guess, and 256 at the goal; each is in zone 0
abbrev pub station_bytes : Drawing → ℕ → List ℕ
station_bytes d station =
    count_bytes (roads_before d.roads.now station) ++ word_bytes 0 ++ word_bytes (guess_drawn d.guess station) ++ word_bytes (mark_drawn d.goal station)

abbrev pub road_bytes : Road → List ℕ
road_bytes road = word_bytes road.to ++ word_bytes road.cost.trims ++ word_bytes road.cost.millis

abbrev pub chart_bytes : Drawing → List ℕ
chart_bytes d = header_bytes d ++ flat_map (station_bytes d) (range_with_len 0 d.stations) ++ flat_map road_bytes d.roads.now
