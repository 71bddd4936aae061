-- The graph that a drawing stands for, its field under its fences and tolls; and what a search over it answers.
use Rattle.std.specs.Prelude.{◌≢◌, ℕ, ◌<◌, ◌≤◌, List, length, Option, Result, Err}
use Rattle.kinds.specs.Cell.{cell_key}
use Rattle.kinds.specs.Millis.{millis_kind}
use Rattle.kinds.specs.declared.cell.Cell.{Cell}
use Rattle.kinds.specs.declared.millis.Millis.{Millis}
use Rattle.graph.specs.declared.layers.Layer.{Layer}
use Rattle.graph.specs.declared.layers.Layers.{Layers}
use Rattle.graph.specs.Meaning.{Meaning}
use Rattle.graph.specs.Layers.{laid, laid_guess}
use Rattle.field.specs.declared.layout.Layout.{Layout}
use Rattle.field.specs.declared.grid.Field.{Field}
use Rattle.field.specs.Means.{field_meaning, field_guess}
use Rattle.search.specs.Calls.{Held}
use Rattle.search.specs.declared.method.Method.{Method}
use Rattle.search.specs.Taken.{Cheapest}
use Rattle.routes.specs.declared.priced_route.PricedRoute.{PricedRoute}
use Rattle.routes.specs.declared.refusal.RouteRefusal.{RouteRefusal}
use Rattle.routes.specs.declared.refusal.RouteRefusal.TheVariants.{HandOut}
use Rattle.routes.specs.Came.{came_of, Answered, Calls}
use Rattle.search.specs.declared.refusal.HandOutRefusal.{HandOutRefusal}
use Rattle.map.specs.declared.drawing.Drawing.{Drawing}

abbrev pub key_of : Cell → ℕ
key_of cell = cell_key cell.column cell.row

abbrev pub weight_of : Millis → ℕ
weight_of cost = cost.millis

-- what a search with its route answers
abbrev pub Answers : Type 0
Answers = Result (Option (PricedRoute Cell Millis)) RouteRefusal

-- the graph of a field under layers, and its guess
abbrev pub field_under : List (Layer Millis) → Layout → List ℕ → Meaning
field_under layers layout map = laid millis_kind weight_of layers (field_meaning layout map)

abbrev pub guess_under : List (Layer Millis) → Layout → List ℕ → ℕ → ℕ
guess_under layers layout map = laid_guess millis_kind weight_of layers (field_meaning layout map) (field_guess layout map)

-- those of a drawing
abbrev pub ground : Drawing → Meaning
ground d = field_under d.plan.layers d.plan.layout d.map.items

abbrev pub ground_guess : Drawing → ℕ → ℕ
ground_guess d = guess_under d.plan.layers d.plan.layout d.map.items

-- and those of a field that lies under layers
abbrev pub meant : Layers Field Millis → Meaning
meant pile = field_under pile.layers.now pile.bottom.layout pile.bottom.map.now

abbrev pub guessed : Layers Field Millis → ℕ → ℕ
guessed pile = guess_under pile.layers.now pile.bottom.layout pile.bottom.map.now

-- what a search over a graph answers: a cheapest route from its start, with its cost; or none, where none begins there; or a refusal
abbrev pub SurveyedFrom : Meaning → (start : ℕ) → Answers → Type 0
SurveyedFrom M start result = Answered (Cheapest M start) M start (came_of key_of weight_of result)

-- and the calls that it makes, which say when it is refused
abbrev pub CallsFrom : Meaning → (guess : ℕ → ℕ) → (start : ℕ) → Method → (room : List Cell) → Held → Answers → Held → Type 0
CallsFrom M guess start method room s result t =
    Calls millis_kind method M guess start (length room) s (came_of key_of weight_of result) t

-- the same of a field under layers
abbrev pub PileSurveyed : Layers Field Millis → (start : Cell) → Answers → Type 0
PileSurveyed pile start result = SurveyedFrom (meant pile) (key_of start) result

abbrev pub PileCalls : Layers Field Millis → (start : Cell) → Method → (room : List Cell) → Held → Answers → Held → Type 0
PileCalls pile start method room s result t = CallsFrom (meant pile) (guessed pile) (key_of start) method room s result t

-- and of a drawing, from the start of its plan
abbrev pub Surveyed : Drawing → Answers → Type 0
Surveyed d result = SurveyedFrom (ground d) (key_of d.plan.start) result

abbrev pub SurveyCalls : Drawing → Method → (room : List Cell) → Held → Answers → Held → Type 0
SurveyCalls d method room s result t =
    CallsFrom (ground d) (ground_guess d) (key_of d.plan.start) method room s result t

-- with room for as many cells as the planner has rows, and for one at least, no route is too long
abbrev pub HasRoom : Held → (room : List Cell) → Answers → Type 0
HasRoom s room result =
    0 < length room → s.capacity.rows ≤ length room → (r : HandOutRefusal) → result ≢ Err (HandOut r)
