-- What is read of the first n elements of a list.
use Rattle.std.proofs.Common.{◌≡◌, ℕ, ◌<◌, ◌≤◌, List, map, length, get_or, take, ◌∙◌, arith}
use Rattle.std.proofs.lemmas.List.{length-map, length-take-le}
use Rattle.std.proofs.lemmas.Grind.{common_steps}

module _ {X Y : Type 0} (f : X → Y) (xs : List X) where
  pub length_front : (n : ℕ) → n ≤ length xs → length (map f (take n xs)) ≡ n
  length_front n ln = length-map (take n xs) f ∙ length-take-le n xs ln

  pub read_front : (n k : ℕ) (d : X) (e : Y) → n ≤ length xs → k < n → get_or (map f (take n xs)) k e ≡ f (get_or xs k d)
  read_front n k d e ln lk = grind (arith, common_steps)
