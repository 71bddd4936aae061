-- one seek more on each turn, and one after them
use Rattle.std.proofs.Common.{◌≡◌, ℕ, suc, List, arith}
use Rattle.search.specs.declared.method.Method.{Method}
use Rattle.search.specs.Calls.{Held}
use Rattle.routes.specs.Came.{Came}
use Rattle.routes.specs.Took.{came_in}
use Rattle.capi.specs.Tells.{station_key, trims_weight, OneSeek, Seeks, no_seek, one_more, LastSeek}
use Rattle.capi.proofs.batch.Batch.often.Goals as goal

module _ (m : Method) (bytes : List ℕ) (room room' n k : ℕ) (s t u : Held) (came : Came) (same : room' ≡ room) where
  another : k ≡ suc n → Seeks m bytes room s n t → OneSeek m bytes room' t came u → Seeks m bytes room s k u
  another e before o = rw e (one_more came before (rw same at o))

  and_last : k ≡ n → Seeks m bytes room s n t → OneSeek m bytes room' t came u → LastSeek m bytes room k s came
  and_last e before o = record { before = t; left = u; seeks = rw e before; last = rw same at o }

pub loop-turn-init : goal.loop-turn-init
loop-turn-init c = no_seek

pub loop-turn-preserved : goal.loop-turn-preserved
loop-turn-preserved c =
    another _ _ _ _ _ _ _ _ _ (came_in station_key trims_weight c.once.result c.once.new.nodes) c.loop-turn.auto.nodes
    (omega arith) c.loop-turn.invariant c.once.ensures.seek

pub returns-clause-seeks : goal.returns-clause-seeks
returns-clause-seeks c =
    and_last _ _ _ _ _ _ _ _ _ (came_in station_key trims_weight c.once-2.result c.once-2.new.nodes) c.loop-turn.auto.nodes
    (grind arith) c.loop-turn.invariant c.once-2.ensures.seek
