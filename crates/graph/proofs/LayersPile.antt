-- Layers over a graph are a pile, and what the pile answers.
use Rattle.std.proofs.Common.{◌≡◌, ℕ, Bool, true, false, cond, List, [], ◌∷◌, ◌+◌, fold, refl, arith}
use Rattle.std.specs.List.{list_any}
use Rattle.std.proofs.lemmas.List.Folds.{fold_stays}
use Rattle.kinds.specs.Kind.{Kind}
use Rattle.graph.specs.Meaning.{Road, opened, closed, faulty, Meaning}
use Rattle.graph.specs.Deeper.{deeper}
use Rattle.graph.specs.Zones.{in_table}
use Rattle.graph.specs.Fenced.{fenced_road, fenced, fenced_guess}
use Rattle.graph.specs.Tolled.{tolled}
use Rattle.graph.specs.Layers.{bars, past_road, laid, laid_guess}
use Rattle.graph.specs.Pile.{Pile, bare, under_fence, under_toll}
use Rattle.graph.specs.declared.layers.Layer.{Layer}
use Rattle.graph.specs.declared.layers.Layer.TheVariants.{Fence, Toll}
use Rattle.graph.proofs.Kept.{piles_nest}

-- two graphs with one zone for a key bar it alike
bars_alike :
    {C : Type 0} (M M' : Meaning) (k : ℕ) (layers : List (Layer C)) → M'.zone k ≡ M.zone k →
    list_any (bars M' k) layers ≡ list_any (bars M k) layers
bars_alike M M' k [] e = refl
bars_alike M M' k (Fence barred ∷ above) e = rw (e, bars_alike M M' k above e) refl
bars_alike M M' k (Toll cost charged ∷ above) e = bars_alike M M' k above e

module _ {C : Type 0} (K : Kind) (weight : C → ℕ) where
  pub laid_pile :
      (layers : List (Layer C)) (M : Meaning) (guess : ℕ → ℕ) →
      Pile K M guess (laid K weight layers M) (laid_guess K weight layers M guess)
  laid_pile [] M guess = bare
  laid_pile (Fence barred ∷ above) M guess =
      piles_nest K M guess _ _ _ _ (under_fence barred bare) (laid_pile above _ _)
  laid_pile (Toll cost charged ∷ above) M guess =
      piles_nest K M guess _ _ _ _ (under_toll charged (weight cost) bare) (laid_pile above _ _)

  -- what a fence takes from the keys that it bars, and a toll leaves as it is, the layers take from the keys that one of
  -- them bars
  taken :
      {A : Type 0} (none : A) (of : Meaning → (ℕ → ℕ) → ℕ → A) →
      ((barred : List Bool) (M : Meaning) (guess : ℕ → ℕ) (k : ℕ) →
      of (fenced barred M) (fenced_guess barred M guess) k ≡ cond (in_table barred M k) none (of M guess k)) →
      ((charged : List Bool) (toll : ℕ) (M : Meaning) (guess : ℕ → ℕ) (k : ℕ) →
      of (tolled K charged toll M) guess k ≡ of M guess k) →
      (layers : List (Layer C)) (M : Meaning) (guess : ℕ → ℕ) (k : ℕ) →
      of (laid K weight layers M) (laid_guess K weight layers M guess) k
      ≡ cond (list_any (bars M k) layers) none (of M guess k)
  taken none of fence toll [] M guess k = refl
  taken none of fence toll (Fence barred ∷ above) M guess k =
      grind (
        arith,
        taken none of fence toll above (fenced barred M) (fenced_guess barred M guess) k,
        fence barred M guess k,
        bars_alike M (fenced barred M) k above,
      )
  taken none of fence toll (Toll cost charged ∷ above) M guess k =
      grind (
        arith,
        taken none of fence toll above (tolled K charged (weight cost) M) guess k,
        toll charged (weight cost) M guess k,
        bars_alike M (tolled K charged (weight cost) M) k above refl,
      )

  -- the same of what does not speak of the guess
  taken_plain :
      {A : Type 0} (none : A) (of : Meaning → ℕ → A) →
      ((barred : List Bool) (M : Meaning) (k : ℕ) →
      of (fenced barred M) k ≡ cond (in_table barred M k) none (of M k)) →
      ((charged : List Bool) (toll : ℕ) (M : Meaning) (k : ℕ) → of (tolled K charged toll M) k ≡ of M k) →
      (layers : List (Layer C)) (M : Meaning) (k : ℕ) →
      of (laid K weight layers M) k ≡ cond (list_any (bars M k) layers) none (of M k)
  taken_plain none of fence toll layers M k =
      taken none (λ M _. of M) (λ barred M _. fence barred M) (λ charged t M _. toll charged t M) layers M (λ _. 0) k

  pub laid_held :
      (layers : List (Layer C)) (M : Meaning) (k : ℕ) →
      (laid K weight layers M).held k ≡ cond (list_any (bars M k) layers) false (M.held k)
  laid_held = taken_plain false (λ M. M.held) (λ barred M k. refl) (λ charged toll M k. refl)

  pub laid_zone :
      (layers : List (Layer C)) (M : Meaning) (k : ℕ) →
      (laid K weight layers M).zone k ≡ cond (list_any (bars M k) layers) 0 (M.zone k)
  laid_zone = taken_plain 0 (λ M. M.zone) (λ barred M k. refl) (λ charged toll M k. refl)

  pub laid_count :
      (layers : List (Layer C)) (M : Meaning) (k : ℕ) →
      (laid K weight layers M).count k ≡ cond (list_any (bars M k) layers) 0 (M.count k)
  laid_count = taken_plain 0 (λ M. M.count) (λ barred M k. refl) (λ charged toll M k. refl)

  pub laid_goal :
      (layers : List (Layer C)) (M : Meaning) (k : ℕ) →
      (laid K weight layers M).goal k ≡ cond (list_any (bars M k) layers) false (M.goal k)
  laid_goal = taken_plain false (λ M. M.goal) (λ barred M k. refl) (λ charged toll M k. refl)

  pub laid_guess_at :
      (layers : List (Layer C)) (M : Meaning) (guess : ℕ → ℕ) (k : ℕ) →
      laid_guess K weight layers M guess k ≡ cond (list_any (bars M k) layers) 0 (guess k)
  laid_guess_at = taken 0 (λ M guess. guess) (λ barred M guess k. refl) (λ charged toll M guess k. refl)

  -- two graphs with one zone for a road's end
  abbrev Alike : Meaning → Meaning → Road → Type 0
  Alike M M' (opened to w) = M'.zone to ≡ M.zone to
  Alike M M' closed = Unit {0}
  Alike M M' (faulty f) = Unit {0}

  -- layers over them answer the road alike
  road_alike :
      (M M' : Meaning) (rank : ℕ) (layers : List (Layer C)) (rd : Road) → Alike M M' rd →
      fold (past_road K weight M' rank) rd layers ≡ fold (past_road K weight M rank) rd layers
  road_alike M M' rank [] rd e = refl
  road_alike M M' rank (Fence barred ∷ above) (opened to w) e = grind (arith, e, road_alike M M' rank above (opened to w) e, road_alike M M' rank above closed tt)
  road_alike M M' rank (Toll cost charged ∷ above) (opened to w) e =
      grind (arith, e, road_alike M M' rank above (opened to w) e, road_alike M M' rank above (opened to (w + weight cost)) e, road_alike M M' rank above (faulty (record { rank = rank; depth = 0 })) tt)
  road_alike M M' rank (Fence barred ∷ above) closed e = road_alike M M' rank above closed tt
  road_alike M M' rank (Toll cost charged ∷ above) closed e = road_alike M M' rank above closed tt
  road_alike M M' rank (Fence barred ∷ above) (faulty f) e = road_alike M M' rank above (faulty (deeper f)) tt
  road_alike M M' rank (Toll cost charged ∷ above) (faulty f) e = road_alike M M' rank above (faulty (deeper f)) tt

  -- a closed road stays closed
  stays_closed : (M : Meaning) (rank : ℕ) (layers : List (Layer C)) → fold (past_road K weight M rank) closed layers ≡ closed
  stays_closed M rank = fold_stays (past_road K weight M rank) closed (elim [ Fence barred ↦ refl | Toll cost charged ↦ refl ])

  -- a road past a fence leads to no barred key
  fence_alike : (barred : List Bool) (M : Meaning) (rd : Road) → Alike M (fenced barred M) (fenced_road barred M rd)
  fence_alike barred M closed = tt
  fence_alike barred M (faulty f) = tt
  fence_alike barred M (opened to w) = go (in_table barred M to) refl
    where
      go : (b : Bool) → in_table barred M to ≡ b → Alike M (fenced barred M) (cond b closed (opened to w))
      go true e = tt
      go false e = rw e refl

  -- a toll leaves every zone as it is
  toll_alike :
      (charged : List Bool) (toll : ℕ) (M : Meaning) (rd : Road) → Alike M (tolled K charged toll M) rd
  toll_alike charged toll M (opened to w) = refl
  toll_alike charged toll M closed = tt
  toll_alike charged toll M (faulty f) = tt

  pub laid_road :
      (layers : List (Layer C)) (M : Meaning) (k rank : ℕ) →
      (laid K weight layers M).road k rank
      ≡ cond (list_any (bars M k) layers) closed (fold (past_road K weight M rank) (M.road k rank) layers)
  laid_road [] M k rank = refl
  laid_road (Fence barred ∷ above) M k rank =
      grind (arith, laid_road above (fenced barred M) k rank, bars_alike M (fenced barred M) k above, stays_closed (fenced barred M) rank above, road_alike M (fenced barred M) rank above (fenced_road barred M (M.road k rank)) (fence_alike barred M (M.road k rank)))
  laid_road (Toll cost charged ∷ above) M k rank =
      let rd = past_road K weight M rank (M.road k rank) (Toll cost charged) in
      grind (arith, laid_road above (tolled K charged (weight cost) M) k rank, bars_alike M (tolled K charged (weight cost) M) k above refl, road_alike M (tolled K charged (weight cost) M) rank above rd (toll_alike charged (weight cost) M rd))
