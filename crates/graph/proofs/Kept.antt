-- Every pile keeps the laws of graphs and the truth of its bottom graph's guess.
use Rattle.graph.specs.Lawful.{fenced_lawful, tolled_lawful}
use Rattle.graph.specs.Pile.{bare, under_fence, under_toll, PilesKeepTruth, PilesNest}
use Rattle.graph.proofs.Below.{fenced_true, tolled_true}

pub piles_keep_truth : PilesKeepTruth
piles_keep_truth K bottom bottom_guess _ _ bare = (λ l. l, λ t. t)
piles_keep_truth K bottom bottom_guess _ _ (under_fence {M} {guess} barred p) =
    let i = piles_keep_truth K bottom bottom_guess M guess p in
    (λ l. fenced_lawful barred M guess (i.0 l), λ t. fenced_true barred M guess (i.1 t))
piles_keep_truth K bottom bottom_guess _ _ (under_toll {M} {guess} charged toll p) =
    let i = piles_keep_truth K bottom bottom_guess M guess p in
    (λ l. tolled_lawful K charged toll M guess (i.0 l), λ t. tolled_true K charged toll M guess (i.1 t))

pub piles_nest : PilesNest
piles_nest K bottom bottom_guess middle middle_guess _ _ p bare = p
piles_nest K bottom bottom_guess middle middle_guess _ _ p (under_fence barred q) = under_fence barred (piles_nest K bottom bottom_guess middle middle_guess _ _ p q)
piles_nest K bottom bottom_guess middle middle_guess _ _ p (under_toll charged toll q) = under_toll charged toll (piles_nest K bottom bottom_guess middle middle_guess _ _ p q)
