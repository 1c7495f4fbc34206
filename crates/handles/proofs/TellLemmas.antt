-- A number with the same generation in the end was free at no moment from the first on.
use Rattle.std.proofs.Common.{◌≡◌, ◌⊎◌, inl, inr, ℕ, ◌+◌, ◌≤◌, ◌<◌, List, [], ◌∷◌, refl, arith}
use Rattle.std.specs.Prelude.{nat_lt, All}
use Rattle.std.proofs.lemmas.Bool.{cases_lt, cond_both, ltb-false}
use Rattle.std.proofs.lemmas.List.Elements.{All-nil, All-cons}
use Rattle.station.specs.declared.station.Station.{Ghosts}
use Rattle.model.specs.declared.limits.TheConstants.{GREATEST_GENERATION}
use Rattle.model.specs.Generations.{next_generation, GivesNumbers, GivesAll}
use Rattle.model.specs.Trees.{Tree, IsUsed}
use Rattle.handles.specs.Handles.{FollowInTurn, Names, Stage, generations_of, last_stage}

-- the next generation is the one behind it, below the greatest one
next_more : (g : ℕ) → g < GREATEST_GENERATION → next_generation g ≡ g + 1
next_more g low =
    cond_both (nat_lt g GREATEST_GENERATION) (g + 1) g (λ k. k ≡ g + 1) (λ e. refl) (λ e. let high : GREATEST_GENERATION ≤ g = ltb-false g GREATEST_GENERATION e in absurd (omega (arith, low, high)))

next_no_less : (g : ℕ) → g ≤ next_generation g
next_no_less g = cond_both (nat_lt g GREATEST_GENERATION) (g + 1) g (λ k. g ≤ k) (λ e. omega arith) (λ e. omega arith)

module _ {S : Type 0} {G : Ghosts S} where
  abbrev tree_of : Stage S G → Tree
  tree_of stage = stage.state.tree

  abbrev told : Stage S G → ℕ → ℕ
  told stage = generations_of stage.numbered

  -- the generations go from each stage to the next
  abbrev AllGo : Stage S G → List (Stage S G) → Type 0
  AllGo now [] = Unit {0}
  AllGo now (next ∷ rest) = (GivesNumbers (tree_of now) (tree_of next) (told now) (told next) ⊎ GivesAll (told now) (told next)) × AllGo next rest

  all_go : (now : Stage S G) (rest : List (Stage S G)) → Names now.numbered now.state → FollowInTurn now rest → AllGo now rest
  all_go now [] names follow = tt
  all_go now (next ∷ rest) names (follows, more) =
      let step = follows.keeps now.state next.state follows.kept names follows.allowed follows.shows in
      (step.1, all_go next rest step.0 more)

  module _ (n : ℕ) where
    -- no generation falls
    step_rises : (now next : Stage S G) → GivesNumbers (tree_of now) (tree_of next) (told now) (told next) ⊎ GivesAll (told now) (told next) → told now n ≤ told next n
    step_rises now next (inr all) = let same = all n in omega (arith, same, next_no_less (told now n))
    step_rises now next (inl gives) =
        elim (cases_lt (told next n) (told now n)) [
          | inr fine ↦ fine
          | inl less ↦
              let free : ¬ IsUsed (tree_of next) n = λ used.
              let was_free : ¬ IsUsed (tree_of now) n = λ was. let same = gives.kept n (inl was) in omega (arith, same, less) in
              let raised = gives.given n was_free used in
              omega (arith, raised, less, next_no_less (told now n)) in
              let same = gives.kept n (inr free) in
              absurd (omega (arith, same, less))
        ]

    rises : (now : Stage S G) (rest : List (Stage S G)) → AllGo now rest → told now n ≤ told (last_stage now rest) n
    rises now [] go = omega arith
    rises now (next ∷ rest) go = let one = step_rises now next go.0 in let more = rises next rest go.1 in omega (arith, one, more)

    -- a number that is free, and in use in the end, gets another generation
    given_later : (now : Stage S G) (rest : List (Stage S G)) → AllGo now rest → told now n < GREATEST_GENERATION → ¬ IsUsed (tree_of now) n → IsUsed (tree_of (last_stage now rest)) n
        → told now n < told (last_stage now rest) n
    given_later now [] go low unused used = absurd (unused used)
    given_later now (next ∷ rest) (inr all, more) low unused used =
        let one = all n in let then_on = rises next rest more in let by_one = next_more (told now n) low in omega (arith, one, then_on, by_one)
    given_later now (next ∷ rest) (inl gives, more) low unused used =
        elim (cases_lt (told now n) (told (last_stage next rest) n)) [
          | inl less ↦ less
          | inr high ↦
              let then_on = rises next rest more in
              let free : ¬ IsUsed (tree_of next) n = λ is.
              let one = gives.given n unused is in
              let by_one = next_more (told now n) low in
              omega (arith, one, by_one, then_on, high) in
              let same : told next n ≡ told now n = gives.kept n (inr free) in
              let later = given_later next rest more (omega (arith, same, low)) free used in
              absurd (omega (arith, same, later, high))
        ]

    never_free : (now : Stage S G) (rest : List (Stage S G)) → AllGo now rest → told now n < GREATEST_GENERATION → IsUsed (tree_of (last_stage now rest)) n → told (last_stage now rest) n ≤ told now n
        → All (λ (stage : Stage S G). ¬ (¬ IsUsed (tree_of stage) n)) (now ∷ rest)
    never_free now [] go low used same =
        All-cons (λ (stage : Stage S G). ¬ (¬ IsUsed (tree_of stage) n)) now [] (λ unused. unused used) (All-nil (λ (stage : Stage S G). ¬ (¬ IsUsed (tree_of stage) n)))
    never_free now (next ∷ rest) go low used same =
        let one = step_rises now next go.0 in
        let then_on = rises next rest go.1 in
        All-cons (λ (stage : Stage S G). ¬ (¬ IsUsed (tree_of stage) n)) now (next ∷ rest)
        (λ unused. let later = given_later now (next ∷ rest) go low unused used in omega (arith, later, same))
        (never_free next rest go.1 (omega (arith, then_on, same, low)) used (omega (arith, one, same)))

  pub handles_tell : (first : Stage S G) (stages : List (Stage S G)) (n : ℕ) → Names first.numbered first.state → FollowInTurn first stages → generations_of first.numbered n < GREATEST_GENERATION
      → IsUsed (last_stage first stages).state.tree n → generations_of (last_stage first stages).numbered n ≡ generations_of first.numbered n
      → All (λ (stage : Stage S G). ¬ (¬ IsUsed stage.state.tree n)) (first ∷ stages)
  handles_tell first stages n names follow low used same = never_free n first stages (all_go first stages names follow) low used (omega (arith, same))
