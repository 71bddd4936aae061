-- What a batch of searches over a chart tells its caller, and what it writes.
use Rattle.std.specs.Prelude.{◌≡◌, ℕ, ◌-◌, suc, zero, Bool, true, false, ◌⊎◌, List, ◌++◌, drop, length, Some, None, Ok, Err, Option, Result}
use Rattle.kinds.specs.declared.station.Station.{Station}
use Rattle.kinds.specs.declared.trims.Trims.{Trims}
use Rattle.kinds.specs.Trims.{weight_of, trims_kind}
use Rattle.chart.specs.declared.refusal.ChartRefusal.{ChartRefusal}
use Rattle.chart.specs.Checked.{checked}
use Rattle.chart.specs.Meaning.{guess_in}
use Rattle.chart.specs.Meaning.{meaning_in}
use Rattle.search.specs.declared.method.Method.{Method}
use Rattle.search.specs.Calls.{Held}
use Rattle.planner.specs.Making.{sizes_of, fit, made_in}
use Rattle.planner.specs.declared.refusal.MakeRefusal.TheVariants.{Counts as WrongCounts}
use Rattle.routes.specs.Came.{Came, Calls}
use Rattle.capi.specs.declared.told.Told.{Told}
use Rattle.capi.specs.declared.failure.Failure.{Failure}
use Rattle.capi.specs.declared.failure.Failure.TheVariants.{NoMethod, NoMemory, NoRoute, Chart, Planner, Route}
use Rattle.capi.specs.Codes.{method_numbered, bare_code, code_of}

-- stations are known by their numbers
abbrev pub station_key : Station → ℕ
station_key s = s.id

abbrev pub trims_weight : Trims → ℕ
trims_weight c = weight_of c.trims c.millis

-- ---- the seeks of a batch, in room for a route of so many stations
module _ (m : Method) (bytes : List ℕ) (room : ℕ) where
  -- one seek over the chart from station 0, whose route is taken: from what the planner held before to what it holds then
  abbrev pub OneSeek : Held → Came → Held → Type 0
  OneSeek s came t = Calls trims_kind m (meaning_in bytes) (guess_in bytes) 0 room s came t

  -- so many of them, each on what the one before left
  pub data Seeks (s : Held) : ℕ → Held → Type 0 where
    no_seek : Seeks s zero s
    one_more : {n : ℕ} {t u : Held} (came : Came) → Seeks s n t → OneSeek t came u → Seeks s (suc n) u

  -- so many, and then one more that comes to this
  pub record LastSeek (n : ℕ) (s : Held) (came : Came) : Type 0 where
    pub before : Held
    pub left : Held
    pub seeks : Seeks s n before
    pub last : OneSeek before came left

-- ---- what is told of the last
-- it fails so: the code of the failure is told, and nothing is written
abbrev pub Fails : Failure → Told → (before after : List ℕ) → Type 0
Fails e t before after = (t ≡ bare_code (code_of e)) × (after ≡ before)

-- a route's cost and its length are told, and its stations are written; or why there is none
abbrev pub Says : Came → Told → (before after : List ℕ) → Type 0
Says (Ok (Some p)) t before after =
    (t.code ≡ 0) × (weight_of t.trims t.millis ≡ p.cost) × (t.length ≡ length p.keys) × (after ≡ p.keys ++ drop (length p.keys) before)
Says (Ok None) t before after = Fails NoRoute t before after
Says (Err e) t before after = Fails (Route e) t before after

-- so many seeks by a planner, and one at least; and the last is told
pub record Ran (m : Method) (bytes : List ℕ) (times : ℕ) (s : Held) (t : Told) (before after : List ℕ) : Type 0 where
  pub came : Came
  pub seeks : LastSeek m bytes (length before) (times - 1) s came
  pub says : Says came t before after

-- by a planner that is made over so many rows and links
abbrev pub Batch : Method → List ℕ → (rows links times : ℕ) → Told → (before after : List ℕ) → Type 0
Batch m bytes rows links times t before after = Ran m bytes times (made_in (sizes_of rows links)) t before after

-- where a planner is made over so many; unless the heap has no memory left
abbrev pub ByRows : Bool → Method → List ℕ → (rows links times : ℕ) → Told → (before after : List ℕ) → Type 0
ByRows true m bytes rows links times t before after = Fails NoMemory t before after ⊎ Batch m bytes rows links times t before after
ByRows false m bytes rows links times t before after = Fails (Planner WrongCounts) t before after

-- where the bytes are a chart
abbrev pub ByChart : Result (Unit {0}) ChartRefusal → Method → List ℕ → (rows links times : ℕ) → Told → (before after : List ℕ) → Type 0
ByChart (Ok u) m bytes rows links times t before after = ByRows (fit (sizes_of rows links)) m bytes rows links times t before after
ByChart (Err e) m bytes rows links times t before after = Fails (Chart e) t before after

-- where a search has the number
abbrev pub ByMethod : Option Method → List ℕ → (rows links times : ℕ) → Told → (before after : List ℕ) → Type 0
ByMethod (Some m) bytes rows links times t before after = ByChart (checked bytes) m bytes rows links times t before after
ByMethod None bytes rows links times t before after = Fails NoMethod t before after

-- what is told of the search of a number, and what `out` holds before and after
abbrev pub Tells : (method : ℕ) → (bytes : List ℕ) → (rows links times : ℕ) → Told → (before after : List ℕ) → Type 0
Tells method bytes rows links times t before after = ByMethod (method_numbered method) bytes rows links times t before after
