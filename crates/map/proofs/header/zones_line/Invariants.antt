-- The zones so far with those of the words that are left are the zones of all words.
use Rattle.std.proofs.Common.{◌≡◌, false, replicate}
use Rattle.map.specs.Headers.{zones_with}
use Rattle.map.proofs.header.zones_line.Given as goal

abbrev pub invariant-loop-word : goal.invariant-loop-word
invariant-loop-word l =
    (goal.iterator-loop-word).can_next l.word-iterator ×
    (goal.iterator-loop-word).is_finite l.word-iterator ×
    (zones_with l.zones l.word-iterator ≡ zones_with (replicate 64 false) l.fn.words)
