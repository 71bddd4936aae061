-- Bytes that the check passes keep every rule, so that a chart keeps the laws of graphs. A chart cites this as its law.
use Rattle.std.specs.Prelude.{◌≡◌, ℕ, zero, suc, ◌+◌, ◌*◌, ◌%◌, ◌<◌, ◌≤◌, Bool, true, false, not, List, length, Some, None, Option}
use Rattle.std.specs.List.{find, range_with_len}
use Rattle.std.proofs.Common.{arith}
use Rattle.std.proofs.lemmas.Grind.{common_steps}
use Rattle.graph.specs.Meaning.{IsLawful}
use Rattle.chart.specs.Format.{station_count, road_count, first_road, last_word, target}
use Rattle.chart.specs.Rules.{station_keeps, road_keeps}
use Rattle.chart.specs.Checked.{checked}
use Rattle.chart.specs.Verdict.{Keeps, Says}
use Rattle.chart.specs.Sound.{sound}
use Rattle.chart.specs.Meaning.{held_in, roads_end, count_in, guess_in, meaning_in}

-- what a search from a number on has found
abbrev Found : (ℕ → Bool) → (start count : ℕ) → Option ℕ → Type 0
Found keeps start count (Some n) =
    (start ≤ n) × (n < start + count) × (keeps n ≡ false) × ((j : ℕ) → start ≤ j → j < n → keeps j ≡ true)
Found keeps start count None = (j : ℕ) → start ≤ j → j < start + count → keeps j ≡ true

finds :
    (keeps : ℕ → Bool) (start count : ℕ) →
    Found keeps start count (find (λ n. not (keeps n)) (range_with_len start count))
finds keeps start zero = λ j a b. absurd (omega arith)
finds keeps start (suc count) = grind (arith, common_steps, finds keeps (start + 1) count)

-- what the definition answers is so
pub says_checked : (bytes : List ℕ) → Says bytes (checked bytes)
unfolding Says checked
says_checked bytes =
    grind (
      arith,
      common_steps,
      finds (station_keeps bytes) 0 (station_count bytes),
      finds (road_keeps bytes) 0 (road_count bytes),
    )

-- bytes that the check passes keep every rule
pub keeps_all : (bytes : List ℕ) → sound bytes ≡ true → Keeps bytes
unfolding Says
keeps_all bytes e = grind (arith, says_checked bytes)

-- what the header of a chart says of its numbers
pub record Sizes (bytes : List ℕ) : Type 0 where
  pub header : 16 ≤ length bytes
  pub some : 1 ≤ station_count bytes
  pub stations : station_count bytes ≤ 1024
  pub roads : road_count bytes ≤ 4000
  pub whole : length bytes ≡ 16 + 16 * station_count bytes + 12 * road_count bytes

pub sizes : (bytes : List ℕ) → sound bytes ≡ true → Sizes bytes
sizes bytes ok = let e = (keeps_all bytes ok).header in grind (arith, common_steps)

-- the roads of a station begin no later than the last road ends
pub first_within :
    (bytes : List ℕ) → sound bytes ≡ true → (k : ℕ) → k < station_count bytes →
    first_road bytes k ≤ road_count bytes
first_within bytes ok k h = let e = (keeps_all bytes ok).stations k h in grind (arith, common_steps)

-- and no later than those of the next station
rises :
    (bytes : List ℕ) → sound bytes ≡ true → (k : ℕ) → k + 1 < station_count bytes →
    first_road bytes k ≤ first_road bytes (k + 1)
rises bytes ok k h = let e = (keeps_all bytes ok).stations (k + 1) h in grind (arith, common_steps)

-- the roads of a station end no earlier than they begin, and no later than the last road
pub ends_within :
    (bytes : List ℕ) → sound bytes ≡ true → (k : ℕ) → k < station_count bytes →
    (first_road bytes k ≤ roads_end bytes k) × (roads_end bytes k ≤ road_count bytes)
ends_within bytes ok k h =
    grind (arith, common_steps, first_within bytes ok k, first_within bytes ok (k + 1), rises bytes ok k)

-- the zone of a station is below 64
pub zone_within :
    (bytes : List ℕ) → sound bytes ≡ true → (k : ℕ) → k < station_count bytes →
    last_word bytes k % 256 < 64
zone_within bytes ok k h = let e = (keeps_all bytes ok).stations k h in grind (arith, common_steps)

-- a road of the table leads to a station
pub leads_within :
    (bytes : List ℕ) → sound bytes ≡ true → (i : ℕ) → i < road_count bytes →
    held_in bytes (target bytes i) ≡ true
leads_within bytes ok i h = (keeps_all bytes ok).roads i h

-- a rank below the count is a road of the table
pub rank_within :
    (bytes : List ℕ) → sound bytes ≡ true → (k rank : ℕ) → rank < count_in bytes k →
    first_road bytes k + rank < road_count bytes
rank_within bytes ok k rank h = grind (arith, common_steps, ends_within bytes ok k)

pub chart_lawful : (bytes : List ℕ) → sound bytes ≡ true → IsLawful (meaning_in bytes) (guess_in bytes)
chart_lawful bytes ok =
    grind (
      arith,
      common_steps,
      zone_within bytes ok,
      sizes bytes ok,
      ends_within bytes ok,
      rank_within bytes ok,
      leads_within bytes ok,
    )
