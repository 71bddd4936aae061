-- What the next line adds to a reading.
use Rattle.std.proofs.Common.{◌≡◌, ℕ, ◌+◌, ◌≤◌, List, [], ◌∷◌, ◌⊎◌, inl, inr, sym, subst, arith, Bool, false, Result, Ok, Err}
use Rattle.std.proofs.lemmas.Bool.Decides.{nat_tests}
use Rattle.field.specs.declared.layout.Layout.{Layout}
use Rattle.map.specs.declared.mistake.Mistake.{Mistake}
use Rattle.map.specs.declared.mistake.Mistake.TheVariants.{Memory}
use Rattle.map.specs.declared.mistake.Problem.{Problem}
use Rattle.map.specs.Plans.{Planned, Said}
use Rattle.map.specs.Lines.{LinesLeft}
use Rattle.map.specs.Readings.{TakesHeading, ReadsPlan, rows_read}

-- a line of the heading, before these
pub heading_line : (taken : ℕ) (left more : List (List ℕ)) (line : List ℕ) (old now : Said) (reading : Result (Planned × LinesLeft) Problem)
    → left ≡ line ∷ more → TakesHeading old line (Ok false) now → ReadsPlan now (taken + 1) more reading → ReadsPlan old taken left reading
heading_line taken left more line old now reading e takes h = subst (λ ls. ReadsPlan old taken ls reading) (sym e) (Ok false, now, takes, h)

-- what a line was taken for, where there was memory
pub was_taken : (old now : Said) (line : List ℕ) (r : Result Bool Mistake) (b : Bool) → (r ≡ Err Memory) ⊎ TakesHeading old line r now → r ≡ Ok b → TakesHeading old line (Ok b) now
was_taken old now line r b (inl e) q = cc
was_taken old now line r b (inr h) q = rw q at h

-- below the last row
pub rows_done : (layout : Layout) (found : ℕ) (bytes : List ℕ) (taken : ℕ) (left : List (List ℕ)) → layout.rows ≤ found
    → rows_read layout found bytes taken left ≡ Ok (bytes, record { taken = taken; lines = left })
rows_done layout found bytes taken [] h = grind (arith, nat_tests)
rows_done layout found bytes taken (line ∷ more) h = grind (arith, nat_tests)
