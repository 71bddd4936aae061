use Rattle.std.proofs.Common.{refl, arith}
use Rattle.std.proofs.lemmas.List.Sorted.{IsPermutation-cons, IsPermutation-trans}
use Rattle.store.proofs.Seats.{length_entries}
use Rattle.store.proofs.Turns.{taken, last_taken}
use Rattle.store.proofs.places.drop_first.Goals as goal

pub sink-requires : goal.sink-requires
sink-requires g c =
    let xs = c.args.slots.now in
    let d = c.index-slots-len.result in
    let t = taken g.C.CostKind.weight xs _ c.args.len d d refl (omega (arith, c.if-len-eq0.false)) c.requires.kept c.requires.heap in
    record {
      inside = omega (arith, c.if-len-eq0.false);
      fits = omega (arith, c.requires.kept.fits);
      few = c.requires.kept.few;
      row_in = t.row_in;
      hole = t.hole;
      loose = t.loose;
    }

pub returns-then-len-eq0 : goal.returns-then-len-eq0
returns-then-len-eq0 g c =
    let xs = c.args.slots.now in
    let z = c.if-len-eq0.true in
    let l = length_entries xs c.args.len (omega (arith, c.requires.kept.fits)) in
    record {
      kept = record { fits = omega (arith, c.requires.kept.fits); few = c.requires.kept.few; placed = λ k d lk. absurd (omega (arith, z)) };
      heap = λ d p i ci li. absurd (omega (arith, z, l));
      taken = λ d. rw z (last_taken xs 1 d refl (omega (arith, c.requires.kept.fits, z)));
      long = refl;
    }

pub returns : goal.returns
returns g c =
    let xs = c.args.slots.now in
    let s = c.sink.ensures in
    record {
      kept = s.kept;
      heap = s.heap;
      taken = λ d. IsPermutation-trans _ _ _ (taken g.C.CostKind.weight xs _ c.args.len d c.index-slots-len.result refl (omega (arith, c.if-len-eq0.false)) c.requires.kept c.requires.heap).mixed (IsPermutation-cons _ _ _ s.same);
      long = s.long;
    }
