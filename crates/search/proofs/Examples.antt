-- The worked examples, by computation.
use Rattle.std.proofs.Common.{refl, arith}
use Rattle.std.proofs.lemmas.Grind.{common_steps}
use Rattle.kinds.specs.Millis.{millis_kind}
use Rattle.graph.specs.Meaning.{IsLawful}
use Rattle.graph.specs.Pile.{bare}
use Rattle.search.specs.Laws.{Founded}
use Rattle.search.specs.Ends.{last, next}
use Rattle.search.specs.Rows.{routes_by}
use Rattle.search.specs.Roads.{relax, along}
use Rattle.search.specs.Best as best
use Rattle.search.specs.Bag as bag
use Rattle.search.specs.Fringe as fringe
use Rattle.search.specs.Deepening as deepening
use Rattle.search.specs.History.{made, after}
use Rattle.search.specs.Worked.{rows_and_links, diamond, no_guess, ThreeSeeks, Worked}
use Rattle.search.proofs.Histories.{whole}

-- a history of a planner of 512 rows and four links
three_seeks : ThreeSeeks
unfolding routes_by relax along best.taken best.best bag.taken bag.bag
three_seeks =
    whole millis_kind _ _
    (after (after (after (after (after (after (after (after (after (after (after (after (made (rows_and_links 512 4))
    _ _ (record { gives = refl; leaves = refl }))
    _ _ (record { outcome = _; comes = next refl (next refl (next refl (last refl))); answers = refl; leaves = refl }))
    _ _ (record { gives = refl; leaves = refl }))
    _ _ (record { gives = refl; leaves = refl }))
    _ _ (record { gives = refl; leaves = refl }))
    _ _ (record { outcome = _; comes = next refl (next refl (next refl (next refl (last refl)))); answers = refl; leaves = refl }))
    _ _ (record { gives = refl; leaves = refl }))
    _ _ (record { outcome = _; comes = next refl (next refl (next refl (next refl (last refl)))); answers = refl; leaves = refl }))
    _ _ (record { gives = refl; leaves = refl }))
    _ _ (record { gives = refl; leaves = refl }))
    _ _ (record { gives = refl; leaves = refl }))
    _ _ (record { gives = refl; leaves = refl }))

diamond_lawful : IsLawful diamond no_guess
diamond_lawful = grind (arith, common_steps)

diamond_founded : Founded millis_kind diamond no_guess
diamond_founded = record { bottom = diamond; bottom_guess = no_guess; pile = bare; truth = λ k ks w h r. omega arith }

pub worked : Worked
unfolding routes_by relax along best.taken best.best bag.taken bag.bag fringe.passed fringe.within fringe.limited fringe.summed fringe.fringe deepening.tries deepening.try_each deepening.deeper deepening.pass
worked =
    record {
      diamond_dijkstra = next refl (next refl (next refl (last refl)));
      diamond_astar = next refl (next refl (next refl (last refl)));
      diamond_astar_bag = next refl (next refl (next refl (next refl (last refl))));
      diamond_fringe = next refl (next refl (next refl (next refl (next refl (next refl (next refl (next refl (last refl))))))));
      diamond_idastar = next refl (next refl (last refl));
      diamond_full = next refl (last refl);
      diamond_path = next refl (next refl (last refl));
      diamond_linked = next refl (next refl (next refl (next refl (last refl))));
      diamond_unlinked = next refl (next refl (last refl));
      detour_astar = next refl (next refl (next refl (next refl (last refl))));
      high_guess_astar = next refl (last refl);
      high_guess_idastar = next refl (last refl);
      greatest_dijkstra = next refl (last refl);
      above_greatest_dijkstra = next refl (last refl);
      above_greatest_idastar = next refl (last refl);
      zero_astar = next refl (last refl);
      zero_astar_bag = last refl;
      trims_dijkstra = next refl (next refl (last refl));
      trims_astar = next refl (next refl (last refl));
      alone_dijkstra = last refl;
      alone_astar = last refl;
      alone_idastar = last refl;
      start_row_idastar = last refl;
      order_idastar = next refl (next refl (next refl (last refl)));
      faulty_idastar = last refl;
      diamond_lawful = diamond_lawful;
      detour_lawful = grind (arith, common_steps);
      three_seeks = three_seeks;
      diamond_all = (three_seeks.seeks.1.1.0 diamond_lawful).gives_all refl diamond_founded (λ r. cc);
    }
