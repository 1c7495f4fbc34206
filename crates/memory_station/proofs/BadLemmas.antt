-- The list of a disk's sectors that can't be read, and what the sectors hold after a write and after a loss.
use Rattle.std.proofs.Common.{◌≡◌, ◌⊎◌, inl, inr, ℕ, ◌+◌, ◌-◌, ◌*◌, ◌/◌, ◌%◌, ◌<◌, ◌≤◌, Bool, true, false, List, [], ◌∷◌, length, take, drop, refl, sym, subst, ◌∙◌, arith, get_or, replicate, Result}
use Rattle.std.specs.Prelude.{nat_le, nat_lt, ◌&&◌, ◌||◌, ◌==◌, All, MatchResult, filter, if◌then◌else◌}
use Rattle.std.specs.List.{insert}
use Rattle.std.specs.List.Sorted.{IsStrictlyIncreasing, IsBinarySearchResult}
use Rattle.std.proofs.lemmas.Bool.{cases_lt, cases_eq, false≢true}
use Rattle.std.proofs.lemmas.Bool.Decides.{nat_tests}
use Rattle.std.proofs.lemmas.List.{take_more}
use Rattle.std.proofs.lemmas.List.Edits.{get_or-insert_at, get_or-insert_below, get_or-insert_above, length-insert}
use Rattle.std.proofs.lemmas.List.Folds.{list_any-append, list_any_at}
use Rattle.std.proofs.lemmas.List.Sorted.{IsPermutation-insert, list_any-IsPermutation, searched}
use Rattle.std.proofs.lemmas.Map.Keys.{non_decreasing_from_sorted, sorted_from_strictly_increasing}
use Rattle.std.specs.Ordering.{nat_cmp}
use Rattle.std.proofs.lemmas.Map.Views.{any-filter_same}
use Rattle.station.specs.Images.{unreadable, disk_with, nvram_with, sectors_of}
use Rattle.station.proofs.DiskLemmas.{cases_reach, sectors_of-write}
use Rattle.memory_station.specs.Disk.{is_bad, sectors_with, HasZeros}
use Rattle.memory_station.proofs.KeptLemmas.{disk_with-one}

-- what holds of each number that the list has
pub All-is_bad : (P : ℕ → Type 0) (bad : List ℕ) → ((n : ℕ) → is_bad bad n ≡ true → P n) → All P bad
All-is_bad P bad each k d lt =
    let same : (get_or bad k d == get_or bad k d) ≡ true = grind (arith, nat_tests) in
    each (get_or bad k d) (list_any_at (λ b. b == get_or bad k d) bad k d lt same)

-- a number that is there
pub is_bad-there : (bad : List ℕ) (place n m : ℕ) → place < length bad → get_or bad place 0 ≡ n → is_bad bad m ≡ (n == m || is_bad bad m)
is_bad-there bad place n m lt there = elim (cases_eq n m) [
  | inl same ↦
      let is : (n == m) ≡ true = grind (arith, nat_tests) in
      let at : (get_or bad place 0 == m) ≡ true = rw there is in
      rw is (list_any_at (λ b. b == m) bad place 0 lt at)
  | inr other ↦
      let is : (n == m) ≡ false = grind (arith, nat_tests) in
      rw is refl
]

-- a number put at its place
pub is_bad-insert : (bad now : List ℕ) (place n m : ℕ) → now ≡ insert bad place n → is_bad now m ≡ (n == m || is_bad bad m)
is_bad-insert bad now place n m put = rw put (sym (list_any-IsPermutation (λ b. b == m) (n ∷ bad) (insert bad place n) (IsPermutation-insert bad place n)))

-- that place: all before it are below the number, and all behind it above
abbrev IsPlace : List ℕ → ℕ → ℕ → Type 0
IsPlace bad n place = (place ≤ length bad) × ((k : ℕ) → k < place → get_or bad k 0 < n) × ((k : ℕ) → place ≤ k → k < length bad → n < get_or bad k 0)

-- what a search in the list says
pub found : (items bad : List ℕ) (n : ℕ) (answer : Result ℕ ℕ) → items ≡ bad → IsStrictlyIncreasing bad → IsBinarySearchResult (λ y. nat_cmp y n) items answer → MatchResult answer (λ place. (place < length bad) × (get_or bad place 0 ≡ n)) (IsPlace bad n)
found items bad n answer is rising says = searched bad n answer (subst (λ xs. IsBinarySearchResult (λ y. nat_cmp y n) xs answer) is says)
    (λ i j le lt. non_decreasing_from_sorted bad (sorted_from_strictly_increasing bad rising) i j 0 le lt)

pub rising-insert : (bad now : List ℕ) (place n : ℕ) → now ≡ insert bad place n → IsStrictlyIncreasing bad → IsPlace bad n place → IsStrictlyIncreasing now
rising-insert bad now place n put rising (within, below, above) = rw put go
  where
    after : (j : ℕ) → place ≤ j → j + 1 < length bad → get_or (insert bad place n) (j + 1) 0 < get_or (insert bad place n) (j + 1 + 1) 0
    after j from lt = omega (arith, get_or-insert_above bad place n 0 j from within, get_or-insert_above bad place n 0 (j + 1) (omega arith) within, rising j lt)

    go : IsStrictlyIncreasing (insert bad place n)
    go k lt = elim (cases_lt (k + 1) place) [
      | inl before ↦ omega (arith, get_or-insert_below bad place n 0 k (omega arith) within, get_or-insert_below bad place n 0 (k + 1) before within, rising k (omega arith))
      | inr from ↦ elim (cases_eq (k + 1) place) [
        | inl at ↦ omega (arith, get_or-insert_below bad place n 0 k (omega arith) within, subst (λ i. get_or (insert bad place n) i 0 ≡ n) (sym at) (get_or-insert_at bad place n 0 within), below k (omega arith))
        | inr past ↦ elim (cases_eq k place) [
          | inl at ↦ omega (arith, subst (λ i. get_or (insert bad place n) i 0 ≡ n) (sym at) (get_or-insert_at bad place n 0 within), get_or-insert_above bad place n 0 k (omega arith) within, above k (omega arith) (omega (arith, length-insert bad place n within)))
          | inr later ↦
              let e : k - 1 + 1 ≡ k = omega arith in
              subst (λ i. get_or (insert bad place n) i 0 < get_or (insert bad place n) (i + 1) 0) e (after (k - 1) (omega arith) (omega (arith, length-insert bad place n within)))
        ]
      ]
    ]

-- the sectors of a list that begins with these numbers
pub sectors_with-more : (disk bad : List ℕ) (i d n : ℕ) → i < length bad → sectors_with disk (take (i + 1) bad) n ≡ (if get_or bad i d == n then unreadable else sectors_with disk (take i bad) n)
sectors_with-more disk bad i d n lt = rw (take_more bad i d lt, list_any-append (λ b. b == n) (take i bad) (get_or bad i d ∷ [])) (
    elim (get_or bad i d == n) as (λ b. (if is_bad (take i bad) n || (b || false) then unreadable else sectors_of disk n) ≡ (if b then unreadable else sectors_with disk (take i bad) n)) [
      | true ↦ elim (is_bad (take i bad) n) as (λ b. (if b || true then unreadable else sectors_of disk n) ≡ unreadable) [ true ↦ refl | false ↦ refl ]
      | false ↦ elim (is_bad (take i bad) n) as (λ b. (if b || false then unreadable else sectors_of disk n) ≡ (if b then unreadable else sectors_of disk n)) [ true ↦ refl | false ↦ refl ]
    ])

-- a sector that can be read
pub read-whole : (out slice list bytes bad : List ℕ) (n from size : ℕ) → out ≡ take size (drop from slice) → slice ≡ bytes → list ≡ bad → from ≡ 512 * n → size ≡ 512 → is_bad list n ≡ false → out ≡ sectors_with bytes bad n
read-whole out slice list bytes bad n from size after is has place whole none = after ∙ rw (is, place, whole, ← has, none) refl

-- one that can't
pub read-lost : (list bytes bad : List ℕ) (n : ℕ) → list ≡ bad → is_bad list n ≡ true → sectors_with bytes bad n ≡ unreadable
read-lost list bytes bad n has is = rw (← has, is) refl

-- the numbers that stay in the list after a write of these bytes from sector first on
abbrev pub stays : ℕ → List ℕ → ℕ → Bool
stays first bytes n = nat_lt n first || nat_le (first + length bytes / 512) n

right : (a b : Bool) → (a && b) ≡ true → b ≡ true
right true b both = both
right false b both = absurd (false≢true both)

module _ (disk bytes bad now kept : List ℕ) (first : ℕ) (fits : 512 * first + length bytes ≤ length disk) (whole : length bytes % 512 ≡ 0) (put : now ≡ nvram_with (512 * first) bytes disk) (filtered : kept ≡ filter (stays first bytes) bad) where
  is_bad-stays : (n : ℕ) → is_bad kept n ≡ (stays first bytes n && is_bad bad n)
  is_bad-stays n = rw filtered (any-filter_same (λ b. b == n) (stays first bytes) (stays first bytes n) (λ k same. let is : k ≡ n = grind (arith, nat_tests) in rw is refl) bad)

  off-stays : (n : ℕ) → (n < first ⊎ (first ≤ n × length bytes ≤ 512 * (n - first))) → stays first bytes n ≡ true
  off-stays n (inl below) = grind (arith, nat_tests)
  off-stays n (inr past) = grind (arith, nat_tests)

  on-stays : (n : ℕ) → first ≤ n → 512 * (n - first) < length bytes → stays first bytes n ≡ false
  on-stays n from within = grind (arith, nat_tests)

  -- what the sectors hold after the write
  pub sectors_with-write : (n : ℕ) → sectors_with now kept n ≡ disk_with first bytes (sectors_with disk bad) n
  sectors_with-write n = rw (is_bad-stays n, put, sectors_of-write disk bytes first n fits whole) (elim (cases_reach first bytes n) [
    | inl within ↦ rw (on-stays n within.0 within.1, within.2) refl
    | inr off ↦ rw (off-stays n off.0, off.1) refl
  ])

  -- what can't be read after it couldn't be read before, and has what it had
  pub was_bad : (n : ℕ) → is_bad kept n ≡ true → is_bad bad n ≡ true
  was_bad n is = right (stays first bytes n) (is_bad bad n) (sym (is_bad-stays n) ∙ is)

  pub zeros-write : HasZeros disk bad → HasZeros now kept
  zeros-write zeros n is = rw (put, sectors_of-write disk bytes first n fits whole) (elim (cases_reach first bytes n) [
    | inl within ↦ absurd (false≢true (rw (on-stays n within.0 within.1) at (sym (is_bad-stays n) ∙ is)))
    | inr off ↦ rw off.1 (zeros n (was_bad n is))
  ])

-- after the loss of a sector
module _ (disk bad now : List ℕ) (n : ℕ) (fits : 512 * n + 512 ≤ length disk) (lost : (m : ℕ) → is_bad now m ≡ (n == m || is_bad bad m)) where
  pub within-lose : ((m : ℕ) → is_bad bad m ≡ true → 512 * m + 512 ≤ length disk) → (m : ℕ) → is_bad now m ≡ true → 512 * m + 512 ≤ length disk
  within-lose within m is = elim (cases_eq n m) [
    | inl same ↦ omega (arith, same, fits)
    | inr other ↦
        let apart : (n == m) ≡ false = grind (arith, nat_tests) in
        within m (rw apart at (sym (lost m) ∙ is))
  ]

  module _ (bytes : List ℕ) (put : bytes ≡ nvram_with (512 * n) (replicate 512 0) disk) where
    zeroed : (m : ℕ) → sectors_of bytes m ≡ (if n == m then replicate 512 0 else sectors_of disk m)
    zeroed m = rw put (sectors_of-write disk (replicate 512 0) n m fits refl ∙ disk_with-one record { sector = n; bytes = replicate 512 0 } (sectors_of disk) m refl)

    pub sectors_with-lose : (m : ℕ) → sectors_with bytes now m ≡ (if n == m then unreadable else sectors_with disk bad m)
    sectors_with-lose m = rw (lost m, zeroed m) (elim (n == m) as (λ b. (if b || is_bad bad m then unreadable else (if b then replicate 512 0 else sectors_of disk m)) ≡ (if b then unreadable else sectors_with disk bad m)) [ true ↦ refl | false ↦ refl ])

    pub zeros-lose : HasZeros disk bad → HasZeros bytes now
    zeros-lose zeros m is = zeroed m ∙ (elim (n == m) as (λ b. (b || is_bad bad m) ≡ true → (if b then replicate 512 0 else sectors_of disk m) ≡ replicate 512 0) [
      | true ↦ λ _. refl
      | false ↦ λ before. zeros m before
    ]) (sym (lost m) ∙ is)
