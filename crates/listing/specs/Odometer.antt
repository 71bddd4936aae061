-- What the odometer keeps, and what its steps leave.
use Rattle.std.specs.Prelude.{◌≡◌, ℕ, zero, suc, ◌<◌, List, [], ◌∷◌, ◌++◌, drop, slice_set}
use Rattle.links.specs.Listings.{at}
use Rattle.search.specs.Members.{In}
use Rattle.listing.specs.Routes.{follow}

-- levels fall from a row to its parents
abbrev pub Falls : (ℕ → ℕ) → (ℕ → List ℕ) → Type 0
Falls lv par = (r p : ℕ) → In p (par r) → lv p < lv r

-- xs is an end of ys
abbrev pub End : List ℕ → List ℕ → Type 0
End xs ys = (zs : List ℕ) × (ys ≡ zs ++ xs)

abbrev pub SoundOf : (List ℕ) → (List ℕ) → (ℕ → Type 0) → Type 0
SoundOf [] ps f = ps ≡ []
SoundOf (p ∷ qs) ps f = End (p ∷ qs) ps × f p

-- along the chosen route what is left of each row is an end of its parents
abbrev pub Sound : (par ch : ℕ → List ℕ) → ℕ → ℕ → Type 0
Sound par ch zero r = Unit {0}
Sound par ch (suc n) r = SoundOf (ch r) (par r) (λ p. Sound par ch n p)

abbrev pub FreshAt : List ℕ → (ℕ → Type 0) → Type 0
FreshAt [] f = Unit {0}
FreshAt (p ∷ qs) f = f p

-- along the chosen route each row has all of its parents left
abbrev pub Fresh : (par ch : ℕ → List ℕ) → ℕ → ℕ → Type 0
Fresh par ch zero r = Unit {0}
Fresh par ch (suc n) r = (ch r ≡ par r) × FreshAt (par r) (λ p. Fresh par ch n p)

-- row r, its latest parent, and so on to the start have all of their parents left again
unfoldable pub anew : (ℕ → List ℕ) → ℕ → ℕ → List (List ℕ) → List (List ℕ)
anew par zero r left = left
anew par (suc n) r left = follow (par r) (slice_set left r (par r)) (λ p. anew par n p (slice_set left r (par r)))

-- row b goes on to its next older parent, and the rows nearer the start begin anew
abbrev pub turned : (ℕ → List ℕ) → ℕ → ℕ → List (List ℕ) → List (List ℕ)
turned par n b left =
    let on = slice_set left b (drop 1 (at left b)) in
    follow (at on b) on (λ p. anew par n p on)
