use Rattle.std.proofs.Common.{◌∙◌, ap, sym, ◌++◌, [], ◌∷◌, take}
use Rattle.std.specs.List.{flat_map}
use Rattle.std.proofs.lemmas.List.{flat_map_more, take_more}
use Rattle.trials.specs.Drawn.{road_bytes}
use Rattle.trials.proofs.drawing.Drawing.put_roads.Goals as goal

pub loop-road-preserved : goal.loop-road-preserved
loop-road-preserved c =
    let roads = c.args.self.now.roads.now in
    let before = c.args.bytes.now.items in
    let i = c.loop-road.road-index in
    c.in_ok-put_road.ensures ∙ ap (λ b. b ++ road_bytes c.road-item.result) c.loop-road.invariant
    ∙ flat_map_more road_bytes before (take i roads) c.road-item.result
    ∙ ap (λ road. before ++ flat_map road_bytes (take i roads ++ road ∷ [])) c.road-item.is
    ∙ ap (λ l. before ++ flat_map road_bytes l) (sym (take_more roads i c.road-item.result c.loop-road-test.true))
