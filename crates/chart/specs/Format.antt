-- What stands where in the bytes of a chart: a header of 16 bytes, 16 bytes for each station, 12 bytes for each road.
use Rattle.std.specs.Prelude.{ℕ, ◌+◌, ◌*◌, List}
use Rattle.chart.specs.Words.{word_at}

-- the header: how many stations and roads there are, and where the two tables begin
abbrev pub station_count : List ℕ → ℕ
station_count bytes = word_at bytes 0

abbrev pub road_count : List ℕ → ℕ
road_count bytes = word_at bytes 4

abbrev pub station_table : List ℕ → ℕ
station_table bytes = word_at bytes 8

abbrev pub road_table : List ℕ → ℕ
road_table bytes = word_at bytes 12

-- a station: its first road, the two parts of its guess, and its zone, plus 256 at a goal
abbrev pub first_road : List ℕ → ℕ → ℕ
first_road bytes station = word_at bytes (16 + 16 * station)

abbrev pub guess_trims : List ℕ → ℕ → ℕ
guess_trims bytes station = word_at bytes (20 + 16 * station)

abbrev pub guess_millis : List ℕ → ℕ → ℕ
guess_millis bytes station = word_at bytes (24 + 16 * station)

abbrev pub last_word : List ℕ → ℕ → ℕ
last_word bytes station = word_at bytes (28 + 16 * station)

-- a road: the station that it leads to, and the two parts of its cost
abbrev pub target : List ℕ → ℕ → ℕ
target bytes road = word_at bytes (16 + 16 * station_count bytes + 12 * road)

abbrev pub road_trims : List ℕ → ℕ → ℕ
road_trims bytes road = word_at bytes (20 + 16 * station_count bytes + 12 * road)

abbrev pub road_millis : List ℕ → ℕ → ℕ
road_millis bytes road = word_at bytes (24 + 16 * station_count bytes + 12 * road)
