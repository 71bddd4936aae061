-- What an answer of the check says of the bytes.
use Rattle.std.specs.Prelude.{◌≡◌, ℕ, ◌<◌, Bool, true, false, List, Ok, Err, Result}
use Rattle.chart.specs.declared.refusal.ChartRefusal.{ChartRefusal}
use Rattle.chart.specs.declared.refusal.ChartRefusal.TheVariants.{Header, Station, Road}
use Rattle.chart.specs.Format.{station_count, road_count}
use Rattle.chart.specs.Rules.{header_keeps, station_keeps, road_keeps}

-- of the numbers below a count, the first that breaks a rule
pub record First (keeps : ℕ → Bool) (count n : ℕ) : Type 0 where
  pub within : n < count
  pub breaks : keeps n ≡ false
  pub before : (j : ℕ) → j < n → keeps j ≡ true

-- every part keeps its rule
pub record Keeps (bytes : List ℕ) : Type 0 where
  pub header : header_keeps bytes ≡ true
  pub stations : (k : ℕ) → k < station_count bytes → station_keeps bytes k ≡ true
  pub roads : (i : ℕ) → i < road_count bytes → road_keeps bytes i ≡ true

-- a station is the first part that breaks its rule
pub record BadStation (bytes : List ℕ) (station : ℕ) : Type 0 where
  pub header : header_keeps bytes ≡ true
  pub first : First (station_keeps bytes) (station_count bytes) station

-- a road is the first part that breaks its rule
pub record BadRoad (bytes : List ℕ) (road : ℕ) : Type 0 where
  pub header : header_keeps bytes ≡ true
  pub stations : (k : ℕ) → k < station_count bytes → station_keeps bytes k ≡ true
  pub first : First (road_keeps bytes) (road_count bytes) road

-- a pass says that every part keeps its rule, a refusal which is the first that does not
unfoldable pub Says : List ℕ → Result (Unit {0}) ChartRefusal → Type 0
Says bytes (Ok _) = Keeps bytes
Says bytes (Err Header) = header_keeps bytes ≡ false
Says bytes (Err (Station station)) = BadStation bytes station
Says bytes (Err (Road road)) = BadRoad bytes road
