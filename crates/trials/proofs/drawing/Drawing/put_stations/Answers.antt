use Rattle.std.proofs.Common.{◌∙◌, ap, sym, ◌++◌, arith, [], ◌∷◌}
use Rattle.std.specs.List.{flat_map, range_with_len}
use Rattle.std.proofs.lemmas.List.{flat_map_more, map-id}
use Rattle.std.proofs.lemmas.List.FromFn.{map-range_with_len_more}
use Rattle.trials.specs.Drawn.{station_bytes}
use Rattle.trials.proofs.drawing.Drawing.put_stations.Goals as goal

pub loop-station-preserved : goal.loop-station-preserved
loop-station-preserved c =
    let before = c.args.bytes.now.items in
    let n = c.loop-station.station in
    let more = sym (map-id _) ∙ map-range_with_len_more (λ k. k) 0 n n (omega arith) ∙ ap (λ l. l ++ n ∷ []) (map-id _) in
    c.in_ok-put_station.ensures ∙ ap (λ b. b ++ station_bytes c.args.self.now n) c.loop-station.invariant
    ∙ flat_map_more (station_bytes c.args.self.now) before (range_with_len 0 n) n
    ∙ ap (λ l. before ++ flat_map (station_bytes c.args.self.now) l) (sym more)
