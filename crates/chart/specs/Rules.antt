-- The rules that the header, each station and each road of a chart keep.
use Rattle.std.specs.Prelude.{ℕ, ◌+◌, ◌-◌, ◌*◌, Bool, cond, ◌&&◌, ◌||◌, List, length, ◌==◌, nat_le, nat_lt}
use Rattle.chart.specs.Format.{station_count, road_count, station_table, road_table, first_road, last_word, target}

-- 1 to 1,024 stations, at most 4,000 roads, the tables one after the other behind the header, and nothing behind them
abbrev pub header_keeps : List ℕ → Bool
header_keeps bytes =
    nat_le 16 (length bytes)
    && nat_le 1 (station_count bytes)
    && nat_le (station_count bytes) 1024
    && nat_le (road_count bytes) 4000
    && station_table bytes == 16
    && road_table bytes == 16 + 16 * station_count bytes
    && length bytes == 16 + 16 * station_count bytes + 12 * road_count bytes

-- the last word of a station is a zone below 64, or that and 256
abbrev pub last_keeps : ℕ → Bool
last_keeps last = nat_lt last 64 || (nat_le 256 last && nat_lt last 320)

-- the roads of station 0 begin at 0, and those of a later one no earlier than those of the station before, and not past
-- the last road
abbrev pub first_keeps : List ℕ → ℕ → Bool
first_keeps bytes station =
    cond
    (station == 0)
    (first_road bytes station == 0)
    (nat_le (first_road bytes (station - 1)) (first_road bytes station) && nat_le (first_road bytes station) (road_count bytes))

-- the rule of a station
abbrev pub station_keeps : List ℕ → ℕ → Bool
station_keeps bytes station = first_keeps bytes station && last_keeps (last_word bytes station)

-- the rule of a road: it leads to a station
abbrev pub road_keeps : List ℕ → ℕ → Bool
road_keeps bytes road = nat_lt (target bytes road) (station_count bytes)
