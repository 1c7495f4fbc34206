-- Groups of a file's blocks, each under one indirect block of the third height.
use Rattle.std.proofs.Common.{◌≡◌, ◌∙◌, ℕ, zero, suc, ◌+◌, ◌-◌, ◌*◌, ◌/◌, ◌<◌, ◌≤◌, ◌⊎◌, inl, inr, true, false, refl, ap, sym, arith}
use Rattle.std.specs.Prelude.{min, ◌==◌, if◌then◌else◌}
use Rattle.std.specs.Ordering.{nat_cmp}
use Rattle.std.specs.BTreeMap as tree
use Rattle.std.proofs.lemmas.Bool.{cases_eq}
use Rattle.std.proofs.lemmas.Bool.Decides.{nat_tests}
use Rattle.layout.specs.declared.TheConstants.{BODY_POINTERS}
use Rattle.blocktree.specs.Places.{block_count}
use Rattle.blocktree.specs.Trees.{slot_stores, IsChanged}
use Rattle.blocktree.specs.declared.tree.BlockTree.{BlockTree}
use Rattle.blocktree.proofs.SlotLaws.{changed_slot, slot_is}
use Rattle.images.specs.Sums.{sum_below}
use Rattle.images.proofs.SumLaws.{gap_counts, is_in_sum, sum_of_none, sums_each}
use Rattle.inode.specs.Room.{far_tops, more_over, top_over, tops_over, TOP_BLOCKS}
use Rattle.inode.specs.declared.file.File.{File}

-- ---- sums with one more at a number

pub sum_both : (f g : ℕ → ℕ) (n : ℕ) → sum_below (λ i. f i + g i) n ≡ sum_below f n + sum_below g n
unfolding sum_below
sum_both f g zero = refl
sum_both f g (suc n) = omega (arith, sum_both f g n)

-- so much at one number
abbrev pub at_one : ℕ → ℕ → ℕ → ℕ
at_one x more i = if i == x then more else 0

pub at_here : (x more i : ℕ) → i ≡ x → at_one x more i ≡ more
at_here x more i is = let yes : (i == x) ≡ true = grind (arith, nat_tests, is) in rw yes refl

pub at_other : (x more i : ℕ) → (i ≡ x → ⊥) → at_one x more i ≡ 0
at_other x more i not = let no : (i == x) ≡ false = grind (arith, nat_tests, not) in rw no refl

at_most : (x more i : ℕ) → at_one x more i ≤ more
at_most x more i = elim (cases_eq i x) [ inl is ↦ omega (arith, at_here x more i is) | inr other ↦ omega (arith, at_other x more i other) ]

ones_before : (x more n : ℕ) → n ≤ x → sum_below (at_one x more) n ≡ 0
unfolding sum_below
ones_before x more zero le = refl
ones_before x more (suc n) le = omega (arith, ones_before x more n (omega (arith, le)), at_other x more n (λ is. omega (arith, le, is)))

pub ones_most : (x more n : ℕ) → sum_below (at_one x more) n ≤ more
unfolding sum_below
ones_most x more zero = omega arith
ones_most x more (suc n) = elim (cases_eq n x) [
  | inl is ↦ omega (arith, ones_before x more n (omega (arith, is)), at_here x more n is)
  | inr other ↦ omega (arith, ones_most x more n, at_other x more n other)
]

-- behind the first number none where it is at that
pub ones_far : (x more n : ℕ) → more ≤ 1 → sum_below (λ i. at_one x more (suc i)) n ≤ min 1 x
ones_far zero more n one =
    let none = gap_counts (λ i. at_one 0 more (suc i)) 0 n (omega arith) (λ i low high. at_other 0 more (suc i) (λ is. omega (arith, is))) in
    omega (arith, none, sum_of_none (λ i. at_one 0 more (suc i)))
ones_far (suc x) more n one =
    let each = sums_each (λ i. at_one (suc x) more (suc i)) (at_one x more) n (λ i. elim (cases_eq i x) [
      | inl is ↦ omega (arith, at_most (suc x) more (suc i), at_here x more i is)
      | inr other ↦ omega (arith, at_other (suc x) more (suc i) (λ is. other (omega (arith, is))))
    ]) in
    omega (arith, each, ones_most x more n, one)

-- the first, and those behind it
pub first_and : (f : ℕ → ℕ) (n : ℕ) → sum_below f (suc n) ≡ f 0 + sum_below (λ i. f (suc i)) n
unfolding sum_below
first_and f zero = omega arith
first_and f (suc n) = omega (arith, first_and f n)

-- ---- changed blocks of a group

abbrev pub group_changed : BlockTree → ℕ → ℕ
group_changed t g = sum_below (λ k. slot_stores (tree.get nat_cmp t.slots (TOP_BLOCKS * g + k))) TOP_BLOCKS

-- one where there is one
abbrev pub changed_top : BlockTree → ℕ → ℕ
changed_top t g = min 1 (group_changed t g)

-- how many groups have one
abbrev pub changed_tops : BlockTree → ℕ
changed_tops t = sum_below (changed_top t) BODY_POINTERS

no_slot : (t : BlockTree) (i : ℕ) → (IsChanged t i → ⊥) → slot_stores (tree.get nat_cmp t.slots i) ≡ 0
no_slot t i not = elim (slot_is (tree.get nat_cmp t.slots i)) [ inl none ↦ none | inr changed ↦ absurd (not changed) ]

pub none_in_group : (t : BlockTree) (g : ℕ) → ((i : ℕ) → i / TOP_BLOCKS ≡ g → IsChanged t i → ⊥) → group_changed t g ≡ 0
none_in_group t g none =
    gap_counts (λ k. slot_stores (tree.get nat_cmp t.slots (TOP_BLOCKS * g + k))) 0 TOP_BLOCKS (omega arith)
    (λ k low high. no_slot t (TOP_BLOCKS * g + k) (none (TOP_BLOCKS * g + k) (omega (arith, high))))
    ∙ sum_of_none (λ k. slot_stores (tree.get nat_cmp t.slots (TOP_BLOCKS * g + k)))

counts_in_group : (t : BlockTree) (i g : ℕ) → i / TOP_BLOCKS ≡ g → IsChanged t i → 1 ≤ group_changed t g
counts_in_group t i g in_it changed =
    let f : ℕ → ℕ = λ k. slot_stores (tree.get nat_cmp t.slots (TOP_BLOCKS * g + k)) in
    let at : TOP_BLOCKS * g + (i - TOP_BLOCKS * g) ≡ i = omega (arith, in_it) in
    let one : f (i - TOP_BLOCKS * g) ≡ 1 = ap (λ (n : ℕ). slot_stores (tree.get nat_cmp t.slots n)) at ∙ changed_slot (tree.get nat_cmp t.slots i) changed in
    let all = is_in_sum f (i - TOP_BLOCKS * g) TOP_BLOCKS (omega (arith, in_it)) in
    omega (arith, one, all)

-- where each changed block of a group was so before, it counts no more
pub group_keeps : (t u : BlockTree) (g : ℕ) → ((i : ℕ) → i / TOP_BLOCKS ≡ g → IsChanged u i → IsChanged t i) → min 1 (group_changed u g) ≤ group_changed t g
group_keeps t u g keeps = elim (cases_eq (group_changed t g) 0) [
  | inr some ↦ omega (arith, some)
  | inl none ↦
      let empty : group_changed u g ≡ 0 = none_in_group u g (λ i in_it changed. omega (arith, none, counts_in_group t i g in_it (keeps i in_it changed))) in
      omega (arith, empty)
]

-- so where each of the others is of one of these groups
pub group_adds : (t u : BlockTree) (p q g : ℕ) → ((i : ℕ) → IsChanged u i → ((i / TOP_BLOCKS ≡ p) ⊎ (i / TOP_BLOCKS ≡ q)) ⊎ IsChanged t i)
    → min 1 (group_changed u g) ≤ group_changed t g + at_one p 1 g + at_one q 1 g
group_adds t u p q g only = elim (cases_eq g p) [
  | inl is ↦ omega (arith, at_here p 1 g is)
  | inr other ↦ elim (cases_eq g q) [
    | inl is ↦ omega (arith, at_here q 1 g is)
    | inr too ↦ omega (
      arith,
      group_keeps t u g (λ i in_it changed. elim (only i changed) [
        | inl new ↦ elim new [ inl at ↦ absurd (other (sym in_it ∙ at)) | inr at ↦ absurd (too (sym in_it ∙ at)) ]
        | inr old ↦ old
      ]),
    )
  ]
]

-- where a block more is changed, a group more has one
pub one_top : (t u : BlockTree) (i : ℕ) → ((j : ℕ) → IsChanged u j → (j ≡ i) ⊎ IsChanged t j) → changed_tops u ≤ changed_tops t + 1
one_top t u i only =
    let each = sums_each (changed_top u) (λ g. changed_top t g + at_one (i / TOP_BLOCKS) 1 g) BODY_POINTERS here in
    omega (arith, each, sum_both (changed_top t) (at_one (i / TOP_BLOCKS) 1) BODY_POINTERS, ones_most (i / TOP_BLOCKS) 1 BODY_POINTERS)
  where
    here : (g : ℕ) → changed_top u g ≤ changed_top t g + at_one (i / TOP_BLOCKS) 1 g
    here g = elim (cases_eq g (i / TOP_BLOCKS)) [
      | inl is ↦ omega (arith, at_here (i / TOP_BLOCKS) 1 g is)
      | inr other ↦ omega (
        arith,
        group_keeps t u g (λ j in_it changed. elim (only j changed) [
          | inl same ↦ absurd (other (sym in_it ∙ ap (λ (n : ℕ). n / TOP_BLOCKS) same))
          | inr old ↦ old
        ]),
      )
    ]

-- where none is, none
pub none_top : (t u : BlockTree) → ((j : ℕ) → IsChanged u j → IsChanged t j) → changed_tops u ≤ changed_tops t
none_top t u only = sums_each (changed_top u) (changed_top t) BODY_POINTERS (λ g. omega (arith, group_keeps t u g (λ j in_it changed. only j changed)))

-- ---- indirect blocks of the third height

-- where the last settled block that counts is
abbrev pub mark : File → ℕ
mark f = (min f.tree.kept (block_count f.size) - 1) / TOP_BLOCKS

pub more_at_most : (f : File) → more_over f ≤ 1
more_at_most f = elim_more (f.tree.depth)
  where
    elim_more : (d : ℕ) → more_over f ≤ 1
    elim_more d = grind (arith, nat_tests)

pub top_at_most : (f : File) (g : ℕ) → top_over f g ≤ 1
top_at_most f g = omega arith

-- all of them
pub tops_all : (f : File) → tops_over f ≡ sum_below (top_over f) BODY_POINTERS
tops_all f = omega (arith, first_and (top_over f) (BODY_POINTERS - 1))

-- those with a changed block are among them, and all but one are
pub tops_changed : (f : File) → changed_tops f.tree ≤ tops_over f
tops_changed f =
    let each = sums_each (changed_top f.tree) (top_over f) BODY_POINTERS (λ g. omega arith) in
    omega (arith, each, tops_all f)

pub tops_most : (f : File) → tops_over f ≤ changed_tops f.tree + 1
tops_most f =
    let each = sums_each (top_over f) (λ g. changed_top f.tree g + at_one (mark f) (more_over f) g) BODY_POINTERS (λ g. omega arith) in
    omega (arith, each, tops_all f, sum_both (changed_top f.tree) (at_one (mark f) (more_over f)) BODY_POINTERS, ones_most (mark f) (more_over f) BODY_POINTERS, more_at_most f)

-- none behind the first, where the changed blocks and the last settled one are before
pub none_far : (f : File) → ((i : ℕ) → IsChanged f.tree i → i < TOP_BLOCKS) → mark f ≡ 0 → far_tops f ≡ 0
none_far f low first =
    gap_counts (λ g. top_over f (suc g)) 0 (BODY_POINTERS - 1) (omega arith) (λ g le lt.
    let none = none_in_group f.tree (suc g) (λ i in_it changed. omega (arith, in_it, low i changed)) in
    let not = at_other (mark f) (more_over f) (suc g) (λ is. omega (arith, is, first)) in
    omega (arith, none, not))
    ∙ sum_of_none (λ g. top_over f (suc g))

-- Where each block that is changed and wasn't is of one of two groups, there are two more behind the first, and one where the last settled
-- block that counts is.
pub far_adds : (f g : File) (p q : ℕ) → ((i : ℕ) → IsChanged g.tree i → ((i / TOP_BLOCKS ≡ p) ⊎ (i / TOP_BLOCKS ≡ q)) ⊎ IsChanged f.tree i)
    → far_tops g ≤ far_tops f + min 1 p + min 1 q + min 1 (mark g)
far_adds f g p q only =
    let n : ℕ = BODY_POINTERS - 1 in
    let old : ℕ → ℕ = λ x. top_over f (suc x) in
    let a : ℕ → ℕ = λ x. at_one p 1 (suc x) in
    let b : ℕ → ℕ = λ x. at_one q 1 (suc x) in
    let m : ℕ → ℕ = λ x. at_one (mark g) (more_over g) (suc x) in
    let each : far_tops g ≤ sum_below (λ x. old x + (a x + (b x + m x))) n = sums_each (λ x. top_over g (suc x)) (λ x. old x + (a x + (b x + m x))) n (λ x.
    omega (arith, group_adds f.tree g.tree p q (suc x) only)) in
    omega (
      arith,
      each,
      sum_both old (λ x. a x + (b x + m x)) n,
      sum_both a (λ x. b x + m x) n,
      sum_both b m n,
      ones_far p 1 n (omega arith),
      ones_far q 1 n (omega arith),
      ones_far (mark g) (more_over g) n (more_at_most g),
    )

-- Where it is of the group where the last settled block that counts is, there is one more in all.
pub tops_add : (f g : File) → ((i : ℕ) → IsChanged g.tree i → (i / TOP_BLOCKS ≡ mark g) ⊎ IsChanged f.tree i) → tops_over g ≤ tops_over f + 1
tops_add f g only =
    let each = sums_each (top_over g) (λ x. top_over f x + at_one (mark g) 1 x) BODY_POINTERS here in
    omega (arith, each, tops_all f, tops_all g, sum_both (top_over f) (at_one (mark g) 1) BODY_POINTERS, ones_most (mark g) 1 BODY_POINTERS)
  where
    here : (x : ℕ) → top_over g x ≤ top_over f x + at_one (mark g) 1 x
    here x = elim (cases_eq x (mark g)) [
      | inl is ↦ omega (arith, at_here (mark g) 1 x is)
      | inr other ↦
          let not = at_other (mark g) (more_over g) x other in
          let keeps = group_keeps f.tree g.tree x (λ i in_it changed. elim (only i changed) [
            | inl at ↦ absurd (other (sym in_it ∙ at))
            | inr old ↦ old
          ]) in
          omega (arith, not, keeps)
    ]

-- none where no block is changed, and no more over them
pub tops_none : (f : File) → more_over f ≡ 0 → ((i : ℕ) → IsChanged f.tree i → ⊥) → tops_over f ≡ 0
tops_none f none not =
    let zero_at : (g : ℕ) → top_over f g ≡ 0 = λ g.
    let empty = none_in_group f.tree g (λ i in_it changed. not i changed) in
    let most = at_most (mark f) (more_over f) g in
    omega (arith, empty, most, none) in
    tops_all f ∙ gap_counts (top_over f) 0 BODY_POINTERS (omega arith) (λ g le lt. zero_at g) ∙ sum_of_none (top_over f)
