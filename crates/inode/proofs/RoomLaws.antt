-- What a change of a file adds to what a consistency point may store of it.
use Rattle.std.proofs.Common.{◌≡◌, ℕ, zero, suc, ◌+◌, ◌-◌, ◌*◌, ◌/◌, ◌%◌, ◌<◌, ◌≤◌, ◌⊎◌, inl, inr, length, true, false, refl, ap, sym, subst, arith}
use Rattle.std.specs.Prelude.{min, max, nat_lt, ◌==◌}
use Rattle.std.specs.Ordering.{nat_cmp}
use Rattle.std.specs.BTreeMap as tree
use Rattle.std.proofs.lemmas.Bool.{cases_eq, cases_lt}
use Rattle.std.proofs.lemmas.Bool.Decides.{nat_tests}
use Rattle.layout.specs.declared.TheConstants.{BODY_POINTERS, INLINE_BYTES}
use Rattle.layout.specs.Trees.{greatest_size, level_of}
use Rattle.layout.specs.declared.trees.Layout.{Layout}
use Rattle.layout.specs.declared.trees.Layout.TheVariants.{Plain}
use Rattle.layout.proofs.SizeLaws.{level_low, level_some}
use Rattle.blocktree.specs.Places.{block_count, depth_of}
use Rattle.blocktree.specs.Trees.{slot_stores, IsChanged}
use Rattle.blocktree.specs.declared.tree.BlockTree.{BlockTree}
use Rattle.blocktree.proofs.SlotLaws.{changed_slot, one_at_most, slot_is}
use Rattle.images.specs.Sums.{sum_below}
use Rattle.images.proofs.SumLaws.{sums_each}
use Rattle.inode.specs.Files.{IsCommitted, IsSameFile}
use Rattle.inode.specs.Room.{changed_below, changed_count, edit_room, far_tops, file_room, level_room, more_over, top_over, tops_over, write_room, StoresMore, TOP_BLOCKS}
use Rattle.inode.specs.declared.file_update.FileUpdate.{FileUpdate}
use Rattle.inode.specs.declared.file.File.{File}
use Rattle.inode.proofs.GroupLaws.{at_one, changed_tops, far_adds, group_keeps, mark, none_far, tops_add, tops_changed, tops_most, tops_none}
pub use Rattle.inode.proofs.GroupLaws.{more_at_most, none_top, one_top, top_at_most}

-- ---- changed blocks

-- of the first n numbers, those of so many from one on
abbrev reached : ℕ → ℕ → ℕ → ℕ
reached first many n = min (n - first) many

-- where only so many blocks from one on are changed beside those that are counted, there are no more of them
few_over : (u : BlockTree) (base : ℕ → ℕ) (first many : ℕ) → ((i : ℕ) → IsChanged u i → ((first ≤ i) × (i < first + many)) ⊎ (base i ≡ 1))
    → (n : ℕ) → changed_below u n ≤ sum_below base n + reached first many n
unfolding sum_below
few_over u base first many only zero = omega arith
few_over u base first many only (suc n) =
    let below = few_over u base first many only n in
    let one = one_at_most (tree.get nat_cmp u.slots n) in
    elim (slot_is (tree.get nat_cmp u.slots n)) [
      | inl none ↦ omega (arith, below, none)
      | inr changed ↦ elim (only n changed) [
        | inl piece ↦ omega (arith, below, one, piece.0, piece.1)
        | inr counted ↦ omega (arith, below, one, counted)
      ]
    ]

-- beside those that were changed
pub few_changed : (t u : BlockTree) (first many : ℕ) → ((i : ℕ) → IsChanged u i → ((first ≤ i) × (i < first + many)) ⊎ IsChanged t i)
    → (n : ℕ) → changed_below u n ≤ changed_below t n + reached first many n
few_changed t u first many only =
    few_over u (λ i. slot_stores (tree.get nat_cmp t.slots i)) first many (λ i changed. elim (only i changed) [
      | inl piece ↦ inl piece
      | inr old ↦ inr (changed_slot (tree.get nat_cmp t.slots i) old)
    ])

-- where one is
pub one_changed : (t u : BlockTree) (i : ℕ) → ((j : ℕ) → IsChanged u j → (j ≡ i) ⊎ IsChanged t j) → (n : ℕ) → changed_below u n ≤ changed_below t n + 1
one_changed t u i only n =
    let few = few_changed t u i 1 (λ j changed. elim (only j changed) [ inl is ↦ inl (omega (arith, is), omega (arith, is)) | inr old ↦ inr old ]) n in
    omega (arith, few)

-- where none is
pub none_changed : (t u : BlockTree) → ((j : ℕ) → IsChanged u j → IsChanged t j) → (n : ℕ) → changed_below u n ≤ changed_below t n
none_changed t u only n =
    let few = few_changed t u 0 0 (λ j changed. inr (only j changed)) n in
    omega (arith, few)

-- ---- the bound at a level

room_least_zero : (level changed more top : ℕ) → 2 * (changed - 1) ≤ level_room level changed more top
room_least_zero zero changed more top = omega arith
room_least_zero (suc zero) changed more top = omega arith
room_least_zero (suc (suc zero)) changed more top = omega arith
room_least_zero (suc (suc (suc level))) changed more top = omega arith

room_least : (level changed more top : ℕ) → 1 ≤ level → 2 * changed ≤ level_room level changed more top
room_least zero changed more top some = absurd (omega (arith, some))
room_least (suc zero) changed more top some = omega arith
room_least (suc (suc zero)) changed more top some = omega arith
room_least (suc (suc (suc level))) changed more top some = omega arith

room_most : (level changed more top : ℕ) → level_room level changed more top ≤ 2 * changed + more + top
room_most zero changed more top = omega arith
room_most (suc zero) changed more top = omega arith
room_most (suc (suc zero)) changed more top = omega arith
room_most (suc (suc (suc level))) changed more top = omega arith

room_most_low : (level changed more top : ℕ) → level ≤ 2 → level_room level changed more top ≤ 2 * changed + more
room_most_low zero changed more top low = omega arith
room_most_low (suc zero) changed more top low = omega arith
room_most_low (suc (suc zero)) changed more top low = omega arith
room_most_low (suc (suc (suc level))) changed more top low = absurd (omega (arith, low))

room_none : (level changed more top : ℕ) → level ≡ 0 → level_room level changed more top ≡ 2 * (changed - 1)
room_none level changed more top is = rw is refl

room_three : (level changed more top : ℕ) → 3 ≤ level → level_room level changed more top ≡ 2 * changed + more + top
room_three zero changed more top some = absurd (omega (arith, some))
room_three (suc zero) changed more top some = absurd (omega (arith, some))
room_three (suc (suc zero)) changed more top some = absurd (omega (arith, some))
room_three (suc (suc (suc level))) changed more top some = refl

-- ---- levels

-- what the size of a file tells of its level
level_tells : (size : ℕ) → (size ≤ INLINE_BYTES → level_of Plain size ≡ 0) × (INLINE_BYTES < size → 1 ≤ level_of Plain size) × (size ≤ 67108864 → level_of Plain size ≤ 2) × (67108864 < size → 3 ≤ level_of Plain size)
level_tells size = (λ low. grind (arith, nat_tests, low), λ high. grind (arith, nat_tests, high), λ low. grind (arith, nat_tests, low), λ high. grind (arith, nat_tests, high))

level_three : (size : ℕ) → 67108864 < size → 3 ≤ level_of Plain size
level_three size high = (level_tells size).3 high

-- a file of level 0 has a block at the most
few_blocks : (size : ℕ) → level_of Plain size ≡ 0 → block_count size ≤ 1
few_blocks size flat = elim (cases_lt INLINE_BYTES size) [
  | inl large ↦ absurd (omega (arith, flat, (level_tells size).1 large))
  | inr small ↦ omega (arith, small)
]

-- ---- a file that another one became

-- of a file that a third height doesn't lead to, whose changed blocks are before its end
far_low : (f : File) → f.size ≤ 67108864 → ((i : ℕ) → IsChanged f.tree i → i < block_count f.size) → far_tops f ≡ 0
far_low f small low = none_far f (λ i changed. omega (arith, low i changed, small)) (omega (arith, small))

module _ (f g : File) (k : ℕ) (few : changed_count g.tree ≤ changed_count f.tree + k) where
  -- so many changed blocks more raise the bound by twice as many, and three
  pub any_low : g.size ≤ 67108864 → far_tops g ≡ 0 → file_room g ≤ file_room f + (2 * k + 3)
  any_low small none =
      let high = room_most_low (level_of Plain g.size) (changed_count g.tree) (more_over g) (top_over g 0) (level_low Plain g.size small) in
      let low = room_least_zero (level_of Plain f.size) (changed_count f.tree) (more_over f) (top_over f 0) in
      omega (arith, few, high, low, none, more_at_most g)

  -- by one, where a file that stands in its inode gets no changed block as it leaves it
  pub kept_low : g.size ≤ 67108864 → far_tops g ≡ 0 → ((1 ≤ level_of Plain f.size) ⊎ (level_of Plain g.size ≡ 0)) → file_room g ≤ file_room f + (2 * k + 1)
  kept_low small none (inl some) =
      let high = room_most_low (level_of Plain g.size) (changed_count g.tree) (more_over g) (top_over g 0) (level_low Plain g.size small) in
      let low = room_least (level_of Plain f.size) (changed_count f.tree) (more_over f) (top_over f 0) some in
      omega (arith, few, high, low, none, more_at_most g)
  kept_low small none (inr flat) =
      let high = room_none (level_of Plain g.size) (changed_count g.tree) (more_over g) (top_over g 0) flat in
      let low = room_least_zero (level_of Plain f.size) (changed_count f.tree) (more_over f) (top_over f 0) in
      omega (arith, few, high, low, none)

  -- of a file that a third height leads to, whose groups get so many more
  pub any_high : (h : ℕ) → g.tree.kept ≤ f.tree.kept → far_tops g ≤ far_tops f + h + min 1 (mark g) → file_room g ≤ file_room f + (2 * k + 4 + h)
  any_high h kept far =
      let high = room_most (level_of Plain g.size) (changed_count g.tree) (more_over g) (top_over g 0) in
      let one = more_at_most g in
      let top = top_at_most g 0 in
      elim (cases_eq (level_of Plain f.size) 0) [
        | inl flat ↦
            let low = room_least_zero (level_of Plain f.size) (changed_count f.tree) (more_over f) (top_over f 0) in
            let first : mark g ≡ 0 = omega (arith, kept, f.kept, few_blocks f.size flat) in
            omega (arith, few, high, low, far, first, one, top)
        | inr some ↦
            let low = room_least (level_of Plain f.size) (changed_count f.tree) (more_over f) (top_over f 0) (omega (arith, some)) in
            omega (arith, few, high, low, far, one, top)
      ]

  -- and of one that a third height led to
  pub same_high : (h : ℕ) → 3 ≤ level_of Plain f.size → tops_over g ≤ tops_over f + h → file_room g ≤ file_room f + (2 * k + 1 + h)
  same_high h three tops =
      let high = room_most (level_of Plain g.size) (changed_count g.tree) (more_over g) (top_over g 0) in
      let low = room_three (level_of Plain f.size) (changed_count f.tree) (more_over f) (top_over f 0) three in
      omega (arith, few, high, low, tops, more_at_most g)

-- What an edit of so many blocks adds: it leaves a file that no third height leads to, or one that is no larger.
pub edit_grows : (f g : File) (k : ℕ) → changed_count g.tree ≤ changed_count f.tree + k → changed_tops g.tree ≤ changed_tops f.tree + k → ((i : ℕ) → IsChanged g.tree i → i < block_count g.size)
    → ((g.size ≤ 67108864) ⊎ (g.size ≤ f.size)) → file_room g ≤ file_room f + edit_room k
edit_grows f g k few tops low grown = elim (cases_lt 67108864 g.size) [
  | inr small ↦ omega (arith, any_low f g k few small (far_low g small low))
  | inl large ↦ elim grown [
    | inl small ↦ absurd (omega (arith, large, small))
    | inr less ↦ omega (arith, same_high f g k few (k + 1) (level_three f.size (omega (arith, large, less))) (omega (arith, tops, tops_most g, tops_changed f)))
  ]
]

module _ (f : File) (w : FileUpdate) where
  -- a change brings as many changed blocks as it has, at the most
  pieces_more : (g : File) → IsCommitted f w g → changed_count g.tree ≤ changed_count f.tree + length w.pieces.items
  pieces_more g done =
      let few = few_changed f.tree g.tree w.first (length w.pieces.items) (λ i changed. elim (done.only i changed) [ inl piece ↦ inl piece | inr old ↦ inr old.0 ]) (block_count (greatest_size Plain)) in
      omega (arith, few)

  -- none is changed past its end then
  ends : (g : File) → IsCommitted f w g → (i : ℕ) → IsChanged g.tree i → i < block_count g.size
  ends g done i changed = elim (done.only i changed) [
    | inl piece ↦ omega (arith, piece.1, w.fits.1, done.size)
    | inr old ↦ omega (arith, old.1, done.size)
  ]

  fewer : (g : File) → IsCommitted f w g → g.tree.kept ≤ f.tree.kept
  fewer g done = omega (arith, done.kept)

  -- where a third height doesn't lead to it then
  stores_low : w.size ≤ 67108864 → StoresMore f w (2 * length w.pieces.items + 3)
  stores_low small g done =
      let here : g.size ≤ 67108864 = omega (arith, small, done.size) in
      any_low f g (length w.pieces.items) (pieces_more g done) here (far_low g here (ends g done))

  stores_kept : w.size ≤ 67108864 → ((1 ≤ level_of Plain f.size) ⊎ (level_of Plain w.size ≡ 0)) → StoresMore f w (2 * length w.pieces.items + 1)
  stores_kept small kept g done =
      let here : g.size ≤ 67108864 = omega (arith, small, done.size) in
      let levels : (1 ≤ level_of Plain f.size) ⊎ (level_of Plain g.size ≡ 0) = subst (λ (n : ℕ). (1 ≤ level_of Plain f.size) ⊎ (level_of Plain n ≡ 0)) (sym done.size) kept in
      kept_low f g (length w.pieces.items) (pieces_more g done) here (far_low g here (ends g done)) levels

  -- and where one does, by pieces in two groups
  stores_high : length w.pieces.items ≤ TOP_BLOCKS → StoresMore f w (2 * length w.pieces.items + 6)
  stores_high short g done =
      let p = w.first / TOP_BLOCKS in
      let far = far_adds f g p (p + 1) (λ i changed. elim (done.only i changed) [
        | inl piece ↦ elim (cases_lt i (TOP_BLOCKS * (p + 1))) [
          | inl before ↦ inl (inl (omega (arith, before, piece.0)))
          | inr after ↦ inl (inr (omega (arith, after, piece.1, short)))
        ]
        | inr old ↦ inr old.0
      ]) in
      omega (arith, any_high f g (length w.pieces.items) (pieces_more g done) 2 (fewer g done) (omega (arith, far)))

  -- without a piece
  pub stores_none : length w.pieces.items ≡ 0 → StoresMore f w 4
  stores_none none g done =
      let far = far_adds f g 0 0 (λ i changed. elim (done.only i changed) [
        | inl piece ↦ absurd (omega (arith, piece.0, piece.1, none))
        | inr old ↦ inr old.0
      ]) in
      omega (arith, none, any_high f g (length w.pieces.items) (pieces_more g done) 0 (fewer g done) (omega (arith, far)))

  -- With one piece, which is the last block then, and was settled or changed.
  stores_end : 67108864 < f.size → length w.pieces.items ≡ 1 → block_count w.size ≡ w.first + 1 → ((w.first < f.tree.kept) ⊎ IsChanged f.tree w.first) → StoresMore f w 4
  stores_end large one last was g done =
      let three = level_three f.size large in
      omega (
        arith,
        one,
        same_high f g 1 (omega (arith, pieces_more g done, one)) 1 three (tops_add f g (λ i changed. elim (done.only i changed) [
          | inr old ↦ inr old.0
          | inl piece ↦
              let is : i ≡ w.first = omega (arith, piece.0, piece.1, one) in
              elim was [
                | inl kept ↦ inl (omega (arith, is, done.kept, done.size, last, kept))
                | inr old ↦ inr (subst (λ (n : ℕ). IsChanged f.tree n) (sym is) old)
              ]
        ])),
      )

-- ---- what is prepared

-- a write that has as many pieces as blocks are touched
pub stores_write : (f : File) (w : FileUpdate) (size offset count : ℕ) → w.size ≡ max size (offset + count) → count ≤ 65536 → offset / 4096 + length w.pieces.items ≤ block_count (offset + count)
    → StoresMore f w (write_room size offset count)
stores_write f w size offset count is short pieces = elim (cases_lt 67108864 (max size (offset + count))) [
  | inl large ↦ (λ g done.
      let yes : nat_lt 67108864 (max size (offset + count)) ≡ true = grind (arith, nat_tests, large) in
      rw yes (omega (arith, pieces, stores_high f w (omega (arith, pieces, short)) g done)))
  | inr small ↦ (λ g done.
      let no : nat_lt 67108864 (max size (offset + count)) ≡ false = grind (arith, nat_tests, small) in
      rw no (omega (arith, pieces, stores_low f w (omega (arith, is, small)) g done)))
]

-- A new size with a piece: of a file that stays at its level, or has none then.
pub stores_truncated : (f : File) (w : FileUpdate) → length w.pieces.items ≡ 1 → w.first ≡ w.size / 4096 → (w.size % 4096 ≡ 0 → ⊥) → ((w.size < f.size) ⊎ (w.size ≤ INLINE_BYTES))
    → ((w.size ≤ INLINE_BYTES) ⊎ (w.first < f.tree.kept) ⊎ IsChanged f.tree w.first) → StoresMore f w 4
stores_truncated f w one first part how was = elim (cases_lt 67108864 w.size) [
  | inl large ↦
      let old : 67108864 < f.size = elim how [ inl less ↦ omega (arith, less, large) | inr small ↦ absurd (omega (arith, small, large)) ] in
      elim was [
        | inl small ↦ absurd (omega (arith, small, large))
        | inr there ↦ stores_end f w old one (omega (arith, first, part)) there
      ]
  | inr small ↦
      let levels : (1 ≤ level_of Plain f.size) ⊎ (level_of Plain w.size ≡ 0) = elim how [
        | inr low ↦ inr ((level_tells w.size).0 low)
        | inl less ↦ elim (cases_lt INLINE_BYTES w.size) [
          | inl high ↦ inl ((level_tells f.size).1 (omega (arith, less, high)))
          | inr low ↦ inr ((level_tells w.size).0 low)
        ]
      ] in
      (λ g done. omega (arith, one, stores_kept f w small levels g done))
]

-- ---- files that stay the same, and those that are loaded

level_rises : (level changed changed' more top top' : ℕ) → changed' ≤ changed → top' ≤ top → level_room level changed' more top' ≤ level_room level changed more top
level_rises zero changed changed' more top top' few low = omega (arith, few)
level_rises (suc zero) changed changed' more top top' few low = omega (arith, few)
level_rises (suc (suc zero)) changed changed' more top top' few low = omega (arith, few)
level_rises (suc (suc (suc level))) changed changed' more top top' few low = omega (arith, few, low)

same_more : (old new : File) → IsSameFile old new → more_over new ≡ more_over old
same_more old new same = cc (same.size, same.changes.kept, same.changes.settled.layout, same.changes.settled.count, same.changes.settled.depth)

same_mark : (old new : File) → IsSameFile old new → mark new ≡ mark old
same_mark old new same = omega (arith, same.size, same.changes.kept)

-- the indirect blocks of the third height that are counted
same_top : (old new : File) → IsSameFile old new → (g : ℕ) → top_over new g ≤ top_over old g
same_top old new same g =
    let keeps = group_keeps old.tree new.tree g (λ i in_it changed. same.changes.only i changed) in
    let more : at_one (mark new) (more_over new) g ≡ at_one (mark old) (more_over old) g = cc (same_mark old new same, same_more old new same) in
    omega (arith, keeps, more)

pub same_room : (old new : File) → IsSameFile old new → file_room new ≤ file_room old
same_room old new same =
    let few = none_changed old.tree new.tree same.changes.only _ in
    let far : far_tops new ≤ far_tops old = sums_each (λ g. top_over new (suc g)) (λ g. top_over old (suc g)) (BODY_POINTERS - 1) (λ g. same_top old new same (suc g)) in
    let rises = level_rises (level_of Plain old.size) (changed_count old.tree) (changed_count new.tree) (more_over old) (top_over old 0) (top_over new 0) few (same_top old new same 0) in
    let levels : level_room (level_of Plain new.size) (changed_count new.tree) (more_over new) (top_over new 0) ≡ level_room (level_of Plain old.size) (changed_count new.tree) (more_over old) (top_over new 0) = cc (same.size, same_more old new same) in
    omega (arith, far, rises, levels)

no_sum : (n : ℕ) → sum_below (λ i. 0) n ≡ 0
unfolding sum_below
no_sum zero = refl
no_sum (suc n) = omega (arith, no_sum n)

-- where no block is changed but some of the first so many
first_alone : (t : BlockTree) (many n : ℕ) → ((i : ℕ) → IsChanged t i → i < many) → changed_below t n ≤ many
first_alone t many n only =
    let few = few_over t (λ i. 0) 0 many (λ i changed. inl (omega arith, omega (arith, only i changed))) n in
    omega (arith, few, no_sum n)

-- all settled blocks of a file count, and it has its settled level
pub none_more : (f : File) → f.tree.kept ≡ f.tree.count → f.tree.count ≡ block_count f.size → f.tree.depth ≡ depth_of f.tree.layout f.size → more_over f ≡ 0
none_more f kept count depth =
    let no : nat_lt (min f.tree.kept (block_count f.size)) f.tree.count ≡ false = grind (arith, nat_tests, kept, count) in
    let yes : (f.tree.depth == depth_of f.tree.layout f.size) ≡ true = grind (arith, nat_tests, depth) in
    rw (no, yes) refl

-- a file of level 0, of whose blocks at the most the first is changed
flat_room : (f : File) → level_of Plain f.size ≡ 0 → ((i : ℕ) → IsChanged f.tree i → i ≡ 0) → file_room f ≡ 0
flat_room f flat few =
    let one = first_alone f.tree 1 (block_count (greatest_size Plain)) (λ i changed. omega (arith, few i changed)) in
    let level = room_none (level_of Plain f.size) (changed_count f.tree) (more_over f) (top_over f 0) flat in
    let far = none_far f (λ i changed. omega (arith, few i changed)) (omega (arith, few_blocks f.size flat)) in
    omega (arith, one, level, far)

-- one with nothing changed and nothing more over it
still_room : (f : File) → more_over f ≡ 0 → ((i : ℕ) → IsChanged f.tree i → ⊥) → file_room f ≡ 0
still_room f none not =
    let all = first_alone f.tree 0 (block_count (greatest_size Plain)) (λ i changed. absurd (not i changed)) in
    let tops = tops_none f none not in
    let most = room_most (level_of Plain f.size) (changed_count f.tree) (more_over f) (top_over f 0) in
    omega (arith, all, none, tops, most)

-- each layout has the same files of level 0
flat_plain : (l : Layout) (size : ℕ) → level_of l size ≡ 0 → level_of Plain size ≡ 0
flat_plain l size flat = elim (cases_lt INLINE_BYTES size) [
  | inl large ↦ absurd (omega (arith, flat, level_some l size large))
  | inr small ↦ (level_tells size).0 small
]

-- a file as it is loaded
pub loaded_none : (f : File) → (1 ≤ level_of f.tree.layout f.size → f.tree.kept ≡ f.tree.count) → (1 ≤ level_of f.tree.layout f.size → f.tree.count ≡ block_count f.size)
    → (1 ≤ level_of f.tree.layout f.size → f.tree.depth ≡ depth_of f.tree.layout f.size) → (1 ≤ level_of f.tree.layout f.size → (i : ℕ) → IsChanged f.tree i → ⊥)
    → (level_of f.tree.layout f.size ≡ 0 → (i : ℕ) → IsChanged f.tree i → i ≡ 0) → file_room f ≡ 0
loaded_none f kept count depth none few = elim (cases_eq (level_of f.tree.layout f.size) 0) [
  | inl flat ↦ flat_room f (flat_plain f.tree.layout f.size flat) (few flat)
  | inr other ↦ (let high : 1 ≤ level_of f.tree.layout f.size = omega (arith, other) in still_room f (none_more f (kept high) (count high) (depth high)) (none high))
]

-- a file without bytes, of which no block is changed
pub empty_room : (f : File) → f.size ≡ 0 → ((i : ℕ) → IsChanged f.tree i → ⊥) → file_room f ≡ 0
empty_room f empty none = flat_room f (ap (level_of Plain) empty) (λ i changed. absurd (none i changed))
