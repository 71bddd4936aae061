-- A map with a route drawn on it, as the numbers of its characters.
use Rattle.std.specs.Prelude.{ℕ, ◌+◌, ◌*◌, if◌then◌else◌, List, map, fold, length, nat_lt, slice_set}
use Rattle.kinds.specs.declared.cell.Cell.{Cell}
use Rattle.map.specs.declared.drawing.Drawing.{Drawing}
use Rattle.map.specs.Signs.{sign_of}

-- signs with one at this position in place of what was there, if there is such a position
abbrev pub put_at : ℕ → ℕ → List ℕ → List ℕ
put_at sign position signs = if nat_lt position (length signs) then slice_set signs position sign else signs

-- rows of so many columns with a sign at a cell
abbrev pub marked : ℕ → ℕ → Cell → List ℕ → List ℕ
marked sign columns cell signs = put_at sign (cell.row * columns + cell.column) signs

-- the same at each cell of a list
abbrev pub marked_all : ℕ → ℕ → List Cell → List ℕ → List ℕ
marked_all sign columns cells signs = fold (λ drawn cell. marked sign columns cell drawn) signs cells

-- the signs of a map's bytes, with '*' at the cells of the route, '!' at the target and '@' at the start
abbrev pub picture : ℕ → (start target : Cell) → List Cell → List ℕ → List ℕ
picture columns start target route bytes =
    marked 64 columns start (marked 33 columns target (marked_all 42 columns route (map sign_of bytes)))

-- that of a drawing
abbrev pub picture_of : Drawing → (route : List Cell) → List ℕ
picture_of d route = picture d.plan.layout.columns d.plan.start d.plan.layout.target route d.map.items
