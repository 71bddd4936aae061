-- How much memory there is for a planner and its routes.
use Rattle.std.specs.Prelude.{ℕ}
use Rattle.planner.specs.declared.lent.Sizes.{Sizes}
use Rattle.planner.specs.Making.{sizes_of}

-- what is lent to a planner, and nodes of a route
pub record Stock : Type 0 where
  pub lent : Sizes
  pub nodes : ℕ

-- for so many rows and links, with room for a route of so many nodes
abbrev pub stocked : (rows links nodes : ℕ) → Stock
stocked rows links nodes = record { lent = sizes_of rows links; nodes = nodes }
