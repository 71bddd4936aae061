use Rattle.std.proofs.Common.{map, ap, ◌∙◌}
use Rattle.listing.specs.Handing.{key_at, keys_in}
use Rattle.listing.proofs.Bridge.{all_rows}
use Rattle.listing.proofs.hand_out.begin.Goals as goal

pub returns-clause-come : goal.returns-clause-come
returns-clause-come c rows e =
    ap (map (map (key_at (keys_in rows)))) c.begin_latest.ensures.come ∙ all_rows rows c.args.parents.now.lists e c.args.sinks.now.sinks
