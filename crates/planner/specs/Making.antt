-- Over which memory a planner can be made, and what it then holds.
use Rattle.std.specs.Prelude.{ℕ, Bool, List, codes, ◌&&◌, [], ◌==◌, nat_le, nat_lt}
use Rattle.search.specs.Calls.{Held}
use Rattle.planner.specs.declared.lent.Sizes.{Sizes}
use Rattle.planner.specs.declared.refusal.MakeRefusal.{MakeRefusal}
use Rattle.planner.specs.declared.refusal.MakeRefusal.TheVariants.{Counts}

-- so many rows with what each of them needs, and so many links
abbrev pub sizes_of : (rows links : ℕ) → Sizes
sizes_of rows links =
    record { rows = rows; slots = rows; heads = rows; only = rows; sinks = rows; neighbours = rows; tried = rows; links = links }

-- as many entries of each other part as there are rows
abbrev pub even : Sizes → Bool
even s = s.slots == s.rows && s.heads == s.rows && s.only == s.rows && s.sinks == s.rows && s.neighbours == s.rows && s.tried == s.rows

-- a planner can be made: 1 to 32,768 rows, as many entries of each other part, and at most 65,535 links
abbrev pub fit : Sizes → Bool
fit s = nat_lt 0 s.rows && nat_le s.rows 32768 && nat_le s.links 65535 && even s

-- the number of the refusal
abbrev pub make_number : MakeRefusal → ℕ
make_number Counts = 1

-- what it says
abbrev pub make_message : MakeRefusal → List ℕ
make_message Counts = codes "expected 1 to 32768 rows, as many entries of each other part, and at most 65535 links"

-- a planner that was made over this memory has nothing to hand out
abbrev pub made_in : Sizes → Held
made_in s = record { capacity = record { rows = s.rows; links = s.links }; pending = [] }
