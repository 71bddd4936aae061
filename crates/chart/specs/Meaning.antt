-- What a chart says as a graph, read off its bytes: the keys are the numbers of its stations.
use Rattle.std.specs.Prelude.{ℕ, ◌+◌, ◌-◌, ◌%◌, Bool, cond, ◌&&◌, List, nat_le, nat_lt}
use Rattle.kinds.specs.Trims.{weight_of}
use Rattle.graph.specs.Meaning.{Road, opened, closed, Meaning, meaning}
use Rattle.chart.specs.Format.{station_count, road_count, first_road, guess_trims, guess_millis, last_word, target, road_trims, road_millis}

-- the stations are held, and nothing else
abbrev pub held_in : List ℕ → ℕ → Bool
held_in bytes k = nat_lt k (station_count bytes)

-- the zone is the last word without the mark of a goal
abbrev pub zone_in : List ℕ → ℕ → ℕ
zone_in bytes k = cond (held_in bytes k) (last_word bytes k % 256) 0

-- where the roads of a station end: where those of the next begin, or with the last road
abbrev pub roads_end : List ℕ → ℕ → ℕ
roads_end bytes k = cond (held_in bytes (k + 1)) (first_road bytes (k + 1)) (road_count bytes)

abbrev pub count_in : List ℕ → ℕ → ℕ
count_in bytes k = cond (held_in bytes k) (roads_end bytes k - first_road bytes k) 0

-- a road of the road table, as an open road
abbrev pub opened_in : List ℕ → ℕ → Road
opened_in bytes road =
    opened (target bytes road) (weight_of (road_trims bytes road) (road_millis bytes road))

-- the ranks of a station below its count are its roads in the order of the table
abbrev pub road_in : List ℕ → (key rank : ℕ) → Road
road_in bytes k rank =
    cond (nat_lt rank (count_in bytes k)) (opened_in bytes (first_road bytes k + rank)) closed

abbrev pub guess_in : List ℕ → ℕ → ℕ
guess_in bytes k = cond (held_in bytes k) (weight_of (guess_trims bytes k) (guess_millis bytes k)) 0

-- a goal has 256 in its last word
abbrev pub goal_in : List ℕ → ℕ → Bool
goal_in bytes k = held_in bytes k && nat_le 256 (last_word bytes k)

-- the meaning of a chart's bytes
abbrev pub meaning_in : List ℕ → Meaning
meaning_in bytes =
    meaning (held_in bytes) (zone_in bytes) (count_in bytes) (road_in bytes) (goal_in bytes)
