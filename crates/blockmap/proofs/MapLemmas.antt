-- Entries of the map, where one of them changes.
use Rattle.std.proofs.Common.{suc, ◌≡◌, ◌≢◌, ℕ, ◌+◌, ◌*◌, ◌/◌, ◌%◌, ◌<◌, ◌≤◌, Bool, true, false, List, length, take, zero, inl, inr, refl, ap, sym, subst, ◌∙◌, arith}
use Rattle.std.specs.Prelude.{slice_index, slice_index_or, slice_set, ◌==◌}
use Rattle.std.specs.Int.{bit_at}
use Rattle.std.proofs.lemmas.Bool.{cases_eq}
use Rattle.std.proofs.lemmas.Bool.Decides.{nat_tests}
use Rattle.std.proofs.lemmas.Grind.{common_steps}
use Rattle.std.proofs.lemmas.List.{get_or-set_same, get_or-set_other, get_or_default, take_all}
use Rattle.std.proofs.lemmas.List.Sums.{count_by_more_yes, count_by_more_no}
use Rattle.blockmap.specs.Bits.{HasBit, SetsBit, SetsPlane}
use Rattle.blockmap.specs.Parts.{HasSet, Part, free_entries}
use Rattle.blockmap.specs.Maps.{no_part, entry_at, settled_at, free_below, HasSetAt, IsFree}

-- the bit of the entry that is changed
pub bit_set : (parts : List Part) (block b entry value k : ℕ) (is_in : Bool) (p new : Part) → b ≡ block → b / 1024 < length parts → p ≡ slice_index_or parts (b / 1024) p
    → entry ≡ slice_index p.entries (b % 1024) → slice_index new.entries (b % 1024) ≡ value → SetsBit k is_in entry value
    → SetsBit k is_in (entry_at parts block) (entry_at (slice_set parts (b / 1024) new) block)
bit_set parts block b entry value k is_in p new same within at was now bit =
    let old_is : entry_at parts b ≡ entry = ap (λ (q : Part). slice_index q.entries (b % 1024)) (get_or_default parts (b / 1024) no_part p within ∙ sym at) ∙ sym was in
    let new_is : entry_at (slice_set parts (b / 1024) new) b ≡ value = ap (λ (q : Part). slice_index q.entries (b % 1024)) (get_or-set_same parts (b / 1024) new no_part within) ∙ now in
    subst (λ (x : ℕ). SetsBit k is_in (entry_at parts x) (entry_at (slice_set parts (b / 1024) new) x)) same (rw (old_is, new_is) bit)

-- a block's settled entry is one of its part's
pub settled_in : (parts : List Part) (b j : ℕ) (p : Part) → b / 1024 ≡ j → j < length parts → p ≡ slice_index_or parts j p → settled_at parts b ≡ slice_index p.settled (b % 1024)
settled_in parts b j p is within at =
    ap (λ (n : ℕ). slice_index (slice_index_or parts n no_part).settled (b % 1024)) is
    ∙ ap (λ (q : Part). slice_index q.settled (b % 1024)) (get_or_default parts j no_part p within ∙ sym at)

-- entry i of part j is that of this block
pub free_there : (parts : List Part) (j i : ℕ) (p : Part) → i < 1024 → j < length parts → p ≡ slice_index_or parts j p → slice_index p.settled i ≡ 0 → IsFree parts (1024 * j + i)
free_there parts j i p small within at free =
    let place : (1024 * j + i) % 1024 ≡ i = omega arith in
    settled_in parts (1024 * j + i) j p (omega arith) within at ∙ ap (slice_index p.settled) place ∙ free

-- in the rest of a part before an entry nothing is free
pub none_before : (parts : List Part) (from i b : ℕ) (p : Part) → from / 1024 < length parts → p ≡ slice_index_or parts (from / 1024) p
    → ((k : ℕ) → from % 1024 ≤ k → k < i → slice_index p.settled k ≡ 0 → ⊥) → i ≤ 1024 → from ≤ b → b < 1024 * (from / 1024) + i → IsFree parts b → ⊥
none_before parts from i b p within at none small low high free =
    let here : b / 1024 ≡ from / 1024 = omega arith in
    none (b % 1024) (omega arith) (omega arith) (sym (settled_in parts b (from / 1024) p here within at) ∙ free)

-- an entry of a part is one of the map's
pub entry_in : (parts : List Part) (j i : ℕ) (p : Part) → i < 1024 → j < length parts → p ≡ slice_index_or parts j p → slice_index p.entries i ≡ entry_at parts (1024 * j + i)
entry_in parts j i p small within at =
    let part : (1024 * j + i) / 1024 ≡ j = omega arith in
    let place : (1024 * j + i) % 1024 ≡ i = omega arith in
    sym (ap (λ (n : ℕ). slice_index (slice_index_or parts n no_part).entries ((1024 * j + i) % 1024)) part
    ∙ ap (λ (q : Part). slice_index q.entries ((1024 * j + i) % 1024)) (get_or_default parts j no_part p within ∙ sym at)
    ∙ ap (slice_index p.entries) place)

-- an entry of block j of the map, where that is there or not
entry_of : (parts : List Part) (j i : ℕ) → i < 1024 → entry_at parts (1024 * j + i) ≡ slice_index (slice_index_or parts j no_part).entries i
entry_of parts j i small =
    let part : (1024 * j + i) / 1024 ≡ j = omega arith in
    let place : (1024 * j + i) % 1024 ≡ i = omega arith in
    ap (λ (n : ℕ). slice_index (slice_index_or parts n no_part).entries ((1024 * j + i) % 1024)) part ∙ ap (slice_index (slice_index_or parts j no_part).entries) place

-- where the entries of a block of the map are the same, so are its sets
pub same_sets : (old new : List Part) (j k : ℕ) → ((i : ℕ) → i < 1024 → entry_at new (1024 * j + i) ≡ entry_at old (1024 * j + i)) → HasSetAt k new j → HasSetAt k old j
same_sets old new j k same (i, small, bit) = (i, small, subst (λ (e : ℕ). HasBit k e) (sym (entry_of new j i small) ∙ same i small ∙ entry_of old j i small) bit)

-- a part is that of its place
pub set_of_part : (parts : List Part) (j k : ℕ) (p : Part) → j < length parts → p ≡ slice_index_or parts j p → HasSet k p.entries → HasSetAt k parts j
set_of_part parts j k p within at (i, small, bit) = (i, small, subst (λ (e : ℕ). HasBit k e) (entry_in parts j i p small within at ∙ entry_of parts j i small) bit)

pub part_of_set : (parts : List Part) (j k : ℕ) (p : Part) → j < length parts → p ≡ slice_index_or parts j p → HasSetAt k parts j → HasSet k p.entries
part_of_set parts j k p within at (i, small, bit) = (i, small, subst (λ (e : ℕ). HasBit k e) (sym (entry_of parts j i small) ∙ sym (entry_in parts j i p small within at)) bit)

-- what a part that is set has as it was before, each part has as before
pub same_field : {X : Type 0} (f : Part → X) (parts : List Part) (j i : ℕ) (p new : Part) → j < length parts → p ≡ slice_index_or parts j p → f new ≡ f p
    → f (slice_index_or (slice_set parts j new) i no_part) ≡ f (slice_index_or parts i no_part)
same_field f parts j i p new within at same = elim (cases_eq i j) [
  | inl is ↦
      let here = ap f (get_or-set_same parts j new no_part within) ∙ same ∙ sym (ap f (get_or_default parts j no_part p within ∙ sym at)) in
      subst (λ (n : ℕ). f (slice_index_or (slice_set parts j new) n no_part) ≡ f (slice_index_or parts n no_part)) (sym is) here
  | inr other ↦ ap f (get_or-set_other parts j i new no_part other)
]

-- an entry of another part than the one that is set
pub entry_elsewhere : (parts : List Part) (j b : ℕ) (new : Part) → b / 1024 ≢ j → entry_at (slice_set parts j new) b ≡ entry_at parts b
entry_elsewhere parts j b new other = ap (λ (q : Part). slice_index q.entries (b % 1024)) (get_or-set_other parts j (b / 1024) new no_part other)

-- one part more of which a set is empty
pub plane_part : (first : ℕ → ℕ) (parts : List Part) (j k : ℕ) (p new : Part) → j < length parts → p ≡ slice_index_or parts j p
    → SetsPlane 1024 k (λ i. 0) (slice_index p.entries) (slice_index new.entries) → ((b : ℕ) → 1024 * j ≤ b → entry_at parts b ≡ first b)
    → SetsPlane (1024 * j) k (λ b. 0) first (entry_at parts) → SetsPlane (1024 * (j + 1)) k (λ b. 0) first (entry_at (slice_set parts j new))
plane_part first parts j k p new within at here rest so_far =
    let now : (b : ℕ) → b / 1024 ≡ j → entry_at (slice_set parts j new) b ≡ slice_index new.entries (b % 1024) = λ b is.
    ap (λ (n : ℕ). slice_index (slice_index_or (slice_set parts j new) n no_part).entries (b % 1024)) is
    ∙ ap (λ (q : Part). slice_index q.entries (b % 1024)) (get_or-set_same parts j new no_part within) in
    let was : (b : ℕ) → b / 1024 ≡ j → slice_index p.entries (b % 1024) ≡ first b = λ b is.
    sym (ap (λ (n : ℕ). slice_index (slice_index_or parts n no_part).entries (b % 1024)) is
    ∙ ap (λ (q : Part). slice_index q.entries (b % 1024)) (get_or_default parts j no_part p within ∙ sym at)) ∙ rest b (omega (arith, is)) in
    record {
      there = λ b below. elim (cases_eq (b / 1024) j) [
        | inl is ↦ ap (λ n. bit_at n k) (now b is) ∙ here.there (b % 1024) (omega arith)
        | inr other ↦ ap (λ n. bit_at n k) (entry_elsewhere parts j b new other) ∙ so_far.there b (omega (arith, below, other))
      ];
      others = λ b i below differ. elim (cases_eq (b / 1024) j) [
        | inl is ↦ ap (λ n. bit_at n i) (now b is) ∙ here.others (b % 1024) i (omega arith) differ ∙ ap (λ n. bit_at n i) (was b is)
        | inr other ↦ ap (λ n. bit_at n i) (entry_elsewhere parts j b new other) ∙ so_far.others b i (omega (arith, below, other)) differ
      ];
    }

-- one block more is counted, where it is free
pub free_here : (parts : List Part) (b n : ℕ) → n ≡ free_below parts b → IsFree parts b → n + 1 ≡ free_below parts (b + 1)
unfolding free_below
free_here parts b n so_far free =
    let yes : (settled_at parts b == 0) ≡ true = grind (arith, nat_tests, free) in
    let next : suc b ≡ b + 1 = omega arith in
    subst (λ (k : ℕ). n + 1 ≡ free_below parts k) next (rw yes (ap (λ (k : ℕ). k + 1) so_far))

pub free_not : (parts : List Part) (b n : ℕ) → n ≡ free_below parts b → (IsFree parts b → ⊥) → n ≡ free_below parts (b + 1)
unfolding free_below
free_not parts b n so_far taken =
    let no : (settled_at parts b == 0) ≡ false = grind (arith, nat_tests, taken) in
    let next : suc b ≡ b + 1 = omega arith in
    subst (λ (k : ℕ). n ≡ free_below parts k) next (rw no (omega (arith, so_far)))

pub free_none : (parts : List Part) → 0 ≡ free_below parts 0
unfolding free_below
free_none parts = λ i. 0

-- so many entries of a part are counted
free_first : (parts : List Part) (j n : ℕ) (p : Part) → j < length parts → p ≡ slice_index_or parts j p → length p.settled ≡ 1024 → n ≤ 1024
    → free_below parts (1024 * j + n) ≡ free_below parts (1024 * j) + free_entries (take n p.settled)
free_first parts j zero p within at size small = grind (arith, common_steps)
free_first parts j (suc n) p within at size small =
    let here : settled_at parts (1024 * j + n) ≡ slice_index p.settled n =
    settled_in parts (1024 * j + n) j p (omega arith) within at ∙ ap (slice_index p.settled) (omega arith) in
    let below = free_first parts j n p within at size (omega arith) in
    let more : suc n ≡ n + 1 = omega arith in
    let next : 1024 * j + (n + 1) ≡ 1024 * j + n + 1 = omega arith in
    rw (more, next) (elim (cases_eq (slice_index p.settled n) 0) [
      | inl free ↦
          let one = free_here parts (1024 * j + n) (free_below parts (1024 * j + n)) refl (here ∙ free) in
          let counted = count_by_more_yes (λ (e : ℕ). e == 0) p.settled n 0 (omega (arith, size)) (grind (arith, nat_tests, free)) in
          omega (arith, one, counted, below)
      | inr taken ↦
          let one = free_not parts (1024 * j + n) (free_below parts (1024 * j + n)) refl (λ free. taken (sym here ∙ free)) in
          let counted = count_by_more_no (λ (e : ℕ). e == 0) p.settled n 0 (omega (arith, size)) (grind (arith, nat_tests, taken)) in
          omega (arith, one, counted, below)
    ])

-- all entries of a part are counted
pub free_part : (parts : List Part) (j : ℕ) (p : Part) → j < length parts → p ≡ slice_index_or parts j p → length p.settled ≡ 1024
    → free_below parts (1024 * (j + 1)) ≡ free_below parts (1024 * j) + free_entries p.settled
free_part parts j p within at size =
    let all = free_first parts j 1024 p within at size (omega arith) in
    let whole : take 1024 p.settled ≡ p.settled = take_all 1024 p.settled (omega (arith, size)) in
    let next : 1024 * (j + 1) ≡ 1024 * j + 1024 = omega arith in
    rw next (rw whole at all)
