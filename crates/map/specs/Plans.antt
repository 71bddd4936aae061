-- What the lines before the map say.
use Rattle.std.specs.Prelude.{List, Option}
use Rattle.kinds.specs.declared.cell.Cell.{Cell}
use Rattle.kinds.specs.declared.millis.Millis.{Millis}
use Rattle.graph.specs.declared.layers.Layer.{Layer}
use Rattle.field.specs.declared.layout.Layout.{Layout}
use Rattle.map.specs.declared.header.Size.{Size}

-- a whole plan: a field, a start, and the layers over the field, the lowest first
pub record Planned : Type 0 where
  pub layout : Layout
  pub start : Cell
  pub layers : List (Layer Millis)

-- what was said so far
pub record Said : Type 0 where
  pub size : Option Size
  pub start : Option Cell
  pub target : Option Cell
  pub layers : List (Layer Millis)
