use Rattle.std.proofs.Common.{rules, nat_cmp, None, unwrap_or, subst, ◌+◌, ◌<◌, ◌⊎◌, ◌≡◌, ◌∙◌, ℕ, ◌*◌, ◌/◌, ◌%◌, ◌≤◌, ◌==◌, if◌then◌else◌, List, length, slice_index, ap, sym, arith, inl, inr, ltb}
use Rattle.std.specs.BTreeMap as tree
use Rattle.std.proofs.lemmas.Bool.{cases_eq, cases_lt, cond-false, cond-true, eq-eqb, le-ltb, lt-ltb, ne_eqb}
use Rattle.layout.specs.Bytes.{zeros}
use Rattle.layout.proofs.ZeroLaws.{length-zeros}
use Rattle.layout.specs.declared.TheConstants.{SINGLE_BYTES}
use Rattle.blocktree.specs.Places.{block_count}
use Rattle.blocktree.specs.Trees.{IsChanged}
use Rattle.inode.specs.Files.{file_block}
use Rattle.inode.specs.Room.{changed_below}
use Rattle.inode.proofs.BytePositions.{slice_index-zeros}
use Rattle.inode.proofs.GroupLaws.{none_top, one_top}
use Rattle.inode.proofs.RoomLaws.{edit_grows, none_changed, one_changed}
use Rattle.dirs.proofs.KnownLaws.{none_in}
use Rattle.dirs.proofs.edit.Edit.commit.Goals as goal

pub returns-clause-ends : goal.returns-clause-ends
returns-clause-ends c = λ disk p past.
    let size = 4096 * c.from.result in
    let is : c.set_size.new.self.size ≡ size = c.set_size.ensures.size in
    let beyond : block_count size ≤ p / 4096 = omega (arith, past, is) in
    let gone : file_block disk c.set_size.new.self (p / 4096) ≡ zeros 4096 =
    c.set_size.ensures.blocks disk (p / 4096) ∙ cond-false (ltb (p / 4096) (block_count size)) (file_block disk c.loop-i.file (p / 4096)) (zeros 4096) (le-ltb (p / 4096) (block_count size) beyond) in
    ap (λ (b : List ℕ). slice_index b (p % 4096)) gone ∙ slice_index-zeros 4096 (p % 4096)

put_whole : (i j : ℕ) (old : ℕ → List ℕ) (block after : List ℕ) → length block ≡ 4096 → after ≡ (if j == i then block else old j) → length (old j) ≡ 4096 → length after ≡ 4096
put_whole i j old block after long is was = elim (cases_eq j i) [
  | inl here ↦ ap length (is ∙ cond-true (j == i) block (old j) (eq-eqb j i here)) ∙ long
  | inr other ↦ ap length (is ∙ cond-false (j == i) block (old j) (ne_eqb j i other)) ∙ was
]

pub loop-i-preserved : goal.loop-i-preserved
loop-i-preserved c = record {
  fits = search rules;
  same = search rules;
  layout = c.set_block.ensures.settled.layout ∙ c.loop-i.invariant.layout;
  base = λ settled based. c.set_block.ensures.base settled (c.loop-i.invariant.base settled based);
  whole = λ disk was j.
      let now = c.loop-i.invariant.whole disk was in
      put_whole c.in-Some.i j (file_block disk c.loop-i.file) c.in-Some.block (file_block disk c.set_block.new.self j) c.is_whole.ensures (c.set_block.ensures.blocks disk j) (now j);
  sound = λ blocks disk i is. c.set_block.ensures.sound blocks disk i (c.loop-i.invariant.sound blocks disk i is);
  few = λ n.
      let one = one_changed c.loop-i.file.tree c.set_block.new.self.tree c.in-Some.i c.set_block.ensures.only n in
      let len : tree.btree_map_len c.pop_first.new.self + 1 ≡ tree.btree_map_len c.loop-i.changed = c.in-Some.ensures.len in
      omega (arith, one, len, c.loop-i.invariant.few n);
  tops =
      let one = one_top c.loop-i.file.tree c.set_block.new.self.tree c.in-Some.i c.set_block.ensures.only in
      let len : tree.btree_map_len c.pop_first.new.self + 1 ≡ tree.btree_map_len c.loop-i.changed = c.in-Some.ensures.len in
      omega (arith, one, len, c.loop-i.invariant.tops);
}

pub returns-clause-whole : goal.returns-clause-whole
returns-clause-whole c = λ disk was j.
    let size = 4096 * c.from.result in
    elim (cases_lt j (block_count size)) [
      | inl lt ↦ ap length (c.set_size.ensures.blocks disk j ∙ cond-true (ltb j (block_count size)) (file_block disk c.loop-i.file j) (zeros 4096) (lt-ltb j (block_count size) lt)) ∙ c.loop-i.invariant.whole disk was j
      | inr le ↦ ap length (c.set_size.ensures.blocks disk j ∙ cond-false (ltb j (block_count size)) (file_block disk c.loop-i.file j) (zeros 4096) (le-ltb j (block_count size) (omega (arith, le)))) ∙ length-zeros 4096
    ]

pub returns-clause-base : goal.returns-clause-base
returns-clause-base c = λ settled based. c.set_size.ensures.base settled (c.loop-i.invariant.base settled based)

pub returns-clause-few : goal.returns-clause-few
returns-clause-few c =
    let few : (n : ℕ) → changed_below c.set_size.new.self.tree n ≤ changed_below c.args.file.now.tree n + tree.btree_map_len c.args.self.changed =
    λ n. omega (arith, none_changed c.loop-i.file.tree c.set_size.new.self.tree c.set_size.ensures.changed n, c.loop-i.invariant.few n) in
    let tops = none_top c.loop-i.file.tree c.set_size.new.self.tree c.set_size.ensures.changed in
    let grown : (c.set_size.new.self.size ≤ SINGLE_BYTES) ⊎ (c.set_size.new.self.size ≤ c.args.file.now.size) =
    elim c.requires.grown [
      | inl had ↦ inr (omega (arith, had, c.set_size.ensures.size))
      | inr low ↦ inl (omega (arith, low, c.set_size.ensures.size))
    ] in
    record {
      changed = few;
      room = edit_grows c.args.file.now c.set_size.new.self (tree.btree_map_len c.args.self.changed) (few _) (omega (arith, tops, c.loop-i.invariant.tops)) past grown;
    }
  where
    past : (j : ℕ) → IsChanged c.set_size.new.self.tree j → j < block_count c.set_size.new.self.size
    past j changed = subst (λ n. j < block_count n) (sym c.set_size.ensures.size) (c.set_size.ensures.past j changed)

pub returns-clause-sound : goal.returns-clause-sound
returns-clause-sound c = λ blocks disk i is. c.set_size.ensures.sound blocks disk i (c.loop-i.invariant.sound blocks disk i is)

pub returns-clause-knows : goal.returns-clause-knows
returns-clause-knows c = λ inodes disk knows. c.forget_from.ensures.knows inodes _ _ knows (λ i below.
    let size = 4096 * c.from.result in
    let cut : file_block disk c.set_size.new.self i ≡ file_block disk c.loop-i.file i =
    c.set_size.ensures.blocks disk i ∙ cond-true (ltb i (block_count size)) (file_block disk c.loop-i.file i) (zeros 4096) (lt-ltb i (block_count size) (omega (arith, below, c.from.ensures))) in
    let none : tree.btree_map_len c.loop-i.changed ≡ 0 = elim (cases_lt 0 (tree.btree_map_len c.loop-i.changed)) [
      | inl some ↦ absurd (search (rules, c.in_default.ensures.variant.1 some))
      | inr least ↦ omega (arith, least)
    ] in
    let empty : tree.get nat_cmp c.loop-i.changed i ≡ None = none_in c.loop-i.changed.entries i none in
    cut ∙ sym (ap (λ o. unwrap_or o (file_block disk c.loop-i.file i)) empty) ∙ c.loop-i.invariant.same disk i)
