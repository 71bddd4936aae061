-- The cells so far are drawn at.
use Rattle.std.proofs.Common.{◌≡◌, take}
use Rattle.map.specs.Picture.{marked_all}
use Rattle.map.proofs.canvas.Canvas.mark_all.Given as goal

abbrev pub invariant-loop-cell : goal.invariant-loop-cell
invariant-loop-cell l = record {
  signs : l.self.signs.items ≡ marked_all l.sign l.initial.self.columns (take l.cell-index l.route) l.initial.self.signs.items;
  columns : l.self.columns ≡ l.initial.self.columns;
}
