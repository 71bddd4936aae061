-- The guess of a field is true: every step changes one of the two distances by one.
use Rattle.std.proofs.Common.{◌≡◌, ℕ, ◌+◌, ◌<◌, ◌≤◌, List, Ok, le_refl, arith}
use Rattle.std.specs.Int.{abs_diff}
use Rattle.std.proofs.lemmas.Grind.{common_steps}
use Rattle.std.proofs.lemmas.Nat.{mul-le}
use Rattle.graph.specs.Routes.{Weighs, ends, goes, IsTrueGuess}
use Rattle.field.specs.declared.layout.Layout.{Layout}
use Rattle.field.specs.Cells.{guess_at}
use Rattle.field.specs.Means.{column_of, row_of, field_meaning, field_guess, HasTrueGuess}
use Rattle.field.specs.Checking.{verdict}
use Rattle.field.specs.Laws.{Neighbour, neighbour, held_column, column_of_key, row_of_key, few_columns}
use Rattle.field.proofs.Passed.{passed}

-- from a place that is one apart, another is farther by one at most
one_apart : (a b c d x y : ℕ) → abs_diff a b + abs_diff c d ≡ 1 → abs_diff a x + abs_diff c y ≤ abs_diff b x + abs_diff d y + 1
one_apart a b c d x y n = omega arith

module _ (l : Layout) (map : List ℕ) (few : l.columns ≤ 256) where
  -- the guess at a cell and at a neighbour differ by one step at most
  nearer : (column row to w v : ℕ) → Neighbour l map column row to w → guess_at l (column_of to) (row_of to) ≤ v → guess_at l column row ≤ w + v
  nearer column row to w v n le =
      let s = n.steps in
      let c : n.to_column < 65536 = omega (arith, held_column l map n.to_column n.to_row s.lands) in
      let e : column_of to ≡ n.to_column = cc (s.there, column_of_key n.to_column n.to_row c) in
      let f : row_of to ≡ n.to_row = cc (s.there, row_of_key n.to_column n.to_row c) in
      let m = mul-le _ _ _ _ (one_apart column n.to_column row n.to_row l.target.column l.target.row n.near) (le_refl l.step) in
      let ahead : guess_at l n.to_column n.to_row ≤ v = rw (← e, ← f) le in
      omega (arith, m, s.costs)

  least : {k w : ℕ} {ks : List ℕ} → Weighs (field_meaning l map) k ks w → guess_at l (column_of k) (row_of k) ≤ w
  least (ends {k} h g) = grind (arith, common_steps)
  least (goes {k} {to} {w} {v} h s r) =
      nearer (column_of k) (row_of k) to w v (neighbour l map (column_of k) (row_of k) s.rank to w (grind (arith, common_steps))) (least r)

  pub guess_true : IsTrueGuess (field_meaning l map) (field_guess l map)
  guess_true k ks w h r = rw h (least r)

-- the same for what the check passed
pub passed_true : (l : Layout) (map : List ℕ) → verdict l map ≡ Ok tt → HasTrueGuess l map
passed_true l map e = guess_true l map (few_columns l (passed l map e).range)
