use Rattle.std.proofs.Common.{rules, arith, length, ◌≡◌, ◌<◌, ◌≤◌, ◌⊎◌, inl, inr, ◌+◌, ◌∙◌, ap, slice_index, List, [], ℕ, refl, subst, sym, ◌/◌, ◌%◌}
use Rattle.blocktree.specs.Trees.{IsSoundAt}
use Rattle.inode.specs.Files.{file_block, byte_at}
use Rattle.inode.proofs.BytePositions.{truncated_laid_hole, truncated_laid_none, truncated_laid_one, truncated_same}
use Rattle.std.proofs.lemmas.List.{length_push}
use Rattle.inode.proofs.EdgeLaws.{list_of_truncated}
use Rattle.inode.proofs.RoomLaws.{stores_truncated, stores_none}
use Rattle.std.proofs.lemmas.Bool.{cases_eq, cases_lt, false≢true}
use Rattle.layout.proofs.ZeroLaws.{length-zeros}
use Rattle.images.specs.Edges.{EndsIn}
use Rattle.inode.proofs.ChangeLaws.{AreWhole, truncated_level, kept_block, one_more, past_length, put_length, same_length}
use Rattle.inode.proofs.file.File.prepare_truncate.Goals as goal

pub returns-then-keeps_last_block-clause-bytes : goal.returns-then-keeps_last_block-clause-bytes
returns-then-keeps_last_block-clause-bytes g c = λ disk shows whole p.
    truncated_laid_none (file_block disk c.args.self.now) c.args.self.now.size c.args.size (c.args.size / 4096) _ c.new-pieces.ensures.items (c.keeps_last_block.ensures.whole c.if-keeps_last_block.true) whole p

pub returns-then-keeps_last_block-clause-list : goal.returns-then-keeps_last_block-clause-list
returns-then-keeps_last_block-clause-list g c = λ disk shows whole.
    list_of_truncated (byte_at disk c.args.self.now) _ c.args.self.now.size c.args.size whole (returns-then-keeps_last_block-clause-bytes g c disk shows whole)

pub returns-then-in_hole-clause-bytes : goal.returns-then-in_hole-clause-bytes
returns-then-in_hole-clause-bytes g c = λ disk shows whole p.
    truncated_laid_hole (file_block disk c.args.self.now) c.args.size (c.args.size / 4096) _ c.new-pieces.ensures.items (c.in_ok-in_hole.ensures.hole disk shows c.if-in_hole.true) p

pub returns-then-in_hole-clause-list : goal.returns-then-in_hole-clause-list
returns-then-in_hole-clause-list g c = λ disk shows whole.
    list_of_truncated (byte_at disk c.args.self.now) _ c.args.self.now.size c.args.size whole (returns-then-in_hole-clause-bytes g c disk shows whole)

pub returns-clause-sound : goal.returns-clause-sound
returns-clause-sound g c = λ disk shows truncates.
    c.in_ok-in_hole.ensures.sound disk shows

pub returns-in_err-block-clause-damaged : goal.returns-in_err-block-clause-damaged
returns-in_err-block-clause-damaged g c = λ disk shows bad sound.
    c.in_err-block.ensures.damaged disk (c.in_ok-in_hole.ensures.reads.same disk shows) (search rules) (c.make_room.ensures.sound (g.B.Blocks.count c.ends_in_hole.new.blocks) disk (c.args.size / 4096)
    (subst (λ (n : ℕ). IsSoundAt n disk c.args.self.now.tree (c.args.size / 4096)) (sym c.in_ok-in_hole.ensures.reads.count) (sound (c.keeps_last_block.ensures.truncates c.if-keeps_last_block.false))))

pub returns-clause-bytes : goal.returns-clause-bytes
returns-clause-bytes g c = λ disk shows whole p.
    truncated_laid_one (file_block disk c.args.self.now) c.args.size (c.args.size / 4096) (c.args.size % 4096) c.truncate.new.self _ refl refl (c.keeps_last_block.ensures.truncates c.if-keeps_last_block.false).within (search rules)
    (λ r lt. c.truncate.ensures.bytes r ∙ truncated_same (slice_index c.in_ok-block.block) (slice_index (file_block disk c.args.self.now (c.args.size / 4096))) (c.args.size % 4096) r
    (ap (λ (b : List ℕ). slice_index b r) (c.in_ok-block.ensures.bytes disk (c.in_ok-in_hole.ensures.reads.same disk shows) ∙ c.make_room.ensures.same.blocks disk (c.args.size / 4096))))
    p

pub returns-clause-list : goal.returns-clause-list
returns-clause-list g c = λ disk shows whole.
    list_of_truncated (byte_at disk c.args.self.now) _ c.args.self.now.size c.args.size whole (returns-clause-bytes g c disk shows whole)

pub returns-then-keeps_last_block-clause-stores : goal.returns-then-keeps_last_block-clause-stores
returns-then-keeps_last_block-clause-stores g c = stores_none c.args.self.now _ (ap length c.new-pieces.ensures.items)

pub returns-then-in_hole-clause-stores : goal.returns-then-in_hole-clause-stores
returns-then-in_hole-clause-stores g c = stores_none c.args.self.now _ (ap length c.new-pieces.ensures.items)

pub returns-clause-stores : goal.returns-clause-stores
returns-clause-stores g c =
    let none : length c.new-pieces.result.items ≡ 0 = ap length c.new-pieces.ensures.items in
    let one : length c.push.new.self.items ≡ length c.new-pieces.result.items + 1 = ap length c.in_ok-push.ensures.items ∙ length_push c.new-pieces.result.items c.in_ok-shared.shared in
    let truncates = c.keeps_last_block.ensures.truncates c.if-keeps_last_block.false in
    stores_truncated c.make_room.new.self _ (omega (arith, none, one)) refl truncates.within
    (subst (λ (n : ℕ). (c.args.size < n) ⊎ (c.args.size ≤ 128)) (sym c.make_room.ensures.same.size) (truncated_level c.args.self.now.size c.args.size truncates.how))
    (elim (c.in_ok-in_hole.ensures.stands c.if-in_hole.false) [
      | inl small ↦ inl small
      | inr there ↦ inr (elim there [
        | inl kept ↦ inl (subst (λ (n : ℕ). c.args.size / 4096 < n) (sym c.make_room.ensures.kept) kept)
        | inr changed ↦ inr (c.make_room.ensures.changed (c.args.size / 4096) changed)
      ])
    ])

-- a change without pieces
none_put : (blocks : ℕ → List ℕ) (size : ℕ) (pieces : List (List ℕ)) (i : ℕ) → pieces ≡ [] → (i < size / 4096) ⊎ (size / 4096 + length pieces ≤ i)
none_put blocks size pieces i none =
    let few : length pieces ≡ 0 = ap length none in
    elim (cases_lt i (size / 4096)) [
      | inl below ↦ inl below
      | inr reached ↦ inr (omega (arith, few, reached))
    ]

pub returns-then-keeps_last_block-clause-blocks : goal.returns-then-keeps_last_block-clause-blocks
returns-then-keeps_last_block-clause-blocks g c = λ disk shows.
    let blocks = file_block disk c.args.self.now in
    let never : (i : ℕ) → EndsIn c.args.self.now.size c.args.size i → ⊥ = λ i is. false≢true (sym (c.keeps_last_block.ensures.only is.0) ∙ c.if-keeps_last_block.true) in
    record {
      read = λ i is. absurd (never i is);
      put = λ i is. absurd (never i is);
      past = λ i past. past_length blocks c.args.size (c.args.size / 4096) c.new-pieces.result.items i past;
      rest = λ i out lt. kept_block blocks c.args.size (c.args.size / 4096) c.new-pieces.result.items i lt (none_put blocks c.args.size c.new-pieces.result.items i c.new-pieces.ensures.items);
    }

pub returns-then-in_hole-clause-blocks : goal.returns-then-in_hole-clause-blocks
returns-then-in_hole-clause-blocks g c = λ disk shows.
    let blocks = file_block disk c.args.self.now in
    let hole : (i : ℕ) → EndsIn c.args.self.now.size c.args.size i → length (blocks i) ≡ 4096 =
    λ i is. ap (λ (k : ℕ). length (blocks k)) is.1 ∙ ap length (c.in_ok-in_hole.ensures.hole disk shows c.if-in_hole.true) ∙ length-zeros 4096 in
    record {
      read = hole;
      put = λ i is.
          same_length blocks c.args.size (c.args.size / 4096) c.new-pieces.result.items i (none_put blocks c.args.size c.new-pieces.result.items i c.new-pieces.ensures.items) (hole i is);
      past = λ i past. past_length blocks c.args.size (c.args.size / 4096) c.new-pieces.result.items i past;
      rest = λ i out lt. kept_block blocks c.args.size (c.args.size / 4096) c.new-pieces.result.items i lt (none_put blocks c.args.size c.new-pieces.result.items i c.new-pieces.ensures.items);
    }

pub returns-clause-blocks : goal.returns-clause-blocks
returns-clause-blocks g c = λ disk shows.
    let blocks = file_block disk c.args.self.now in
    let none : length c.new-pieces.result.items ≡ 0 = ap length c.new-pieces.ensures.items in
    let one : length c.push.new.self.items ≡ length c.new-pieces.result.items + 1 = ap length c.in_ok-push.ensures.items ∙ length_push c.new-pieces.result.items c.in_ok-shared.shared in
    let whole : AreWhole c.push.new.self.items =
    one_more c.new-pieces.result.items c.push.new.self.items c.in_ok-shared.shared c.in_ok-push.ensures.items (λ j lt. absurd (omega (arith, none, lt))) (ap length c.in_ok-shared.ensures ∙ c.truncate.ensures.length) in
    record {
      read = λ i is. ap (λ (k : ℕ). length (blocks k)) is.1
          ∙ ap length (sym (c.in_ok-block.ensures.bytes disk (c.in_ok-in_hole.ensures.reads.same disk shows) ∙ c.make_room.ensures.same.blocks disk (c.args.size / 4096)))
          ∙ c.in_ok-block.ensures.whole;
      put = λ i is. put_length blocks c.args.size (c.args.size / 4096) c.push.new.self.items i (omega (arith, is.1)) (omega (arith, is.1, none, one)) whole;
      past = λ i past. past_length blocks c.args.size (c.args.size / 4096) c.push.new.self.items i past;
      rest = λ i out lt. kept_block blocks c.args.size (c.args.size / 4096) c.push.new.self.items i lt (elim (cases_lt i (c.args.size / 4096)) [
        | inl below ↦ inl below
        | inr reached ↦ elim (cases_eq i (c.args.size / 4096)) [
          | inl is ↦ absurd (out (c.keeps_last_block.ensures.truncates c.if-keeps_last_block.false, is))
          | inr other ↦ inr (omega (arith, none, one, reached, other))
        ]
      ]);
    }
