-- The block map's own file is planned.
use Rattle.layout.specs.Trees.{single_bytes}
use Rattle.layout.specs.declared.trees.Layout.TheVariants.{Plain}
use Rattle.layout.specs.declared.trees.Layout.{Layout}
use Rattle.std.proofs.Common.{◌≡◌, ◌≢◌, ◌⊎◌, inl, inr, ℕ, ◌*◌, ◌/◌, ◌%◌, ◌<◌, ◌≤◌, Bool, false, List, length, refl, ap, sym, subst, ◌∙◌, arith}
use Rattle.std.proofs.lemmas.Bool.{cases_lt}
use Rattle.std.proofs.lemmas.Bool.Decides.{nat_tests}
use Rattle.std.specs.Int.{div_ceil}
use Rattle.layout.specs.Inode.{FitsKind}
use Rattle.layout.specs.Limits.{AreSizes, Sizes}
use Rattle.layout.specs.Maps.{map_entry}
use Rattle.layout.specs.Places.{Blocks}
use Rattle.layout.specs.Trees.{level_of}
use Rattle.layout.specs.declared.inode.Inode.{Inode}
use Rattle.layout.specs.declared.kind.Kind.{Kind}
use Rattle.layout.specs.declared.pointer.Pointer.{Pointer}
use Rattle.layout.specs.declared.pointer.Pointer.TheVariants.{Hole}
use Rattle.blockmap.specs.Maps.{entry_at, settled_at}
use Rattle.blockmap.specs.declared.map.BlockMap.{BlockMap}
use Rattle.conspoint.specs.Drafts.{Grows, HasAll}
use Rattle.conspoint.specs.Groups.{pointer_at}
use Rattle.conspoint.specs.MapFiles.{IsMapOn, IsSettledMap, PlansMap}
use Rattle.conspoint.specs.declared.draft.Draft.{Draft}
use Rattle.images.specs.BlockMap.{NamesOnce, entry}
use Rattle.images.specs.Nodes.{Agrees, file_block, held}
use Rattle.images.specs.Roots.{HeldTree, Reach}
use Rattle.images.specs.Soundness.{HasNoHole, nodes_of_size}
use Rattle.images.proofs.ReadingLaws as reading
use Rattle.inode.specs.declared.file.File.{File}
use Rattle.inofile.specs.Settled.{AreSettled}
use Rattle.placement.specs.Files.{IsPlaced}
use Rattle.planning.specs.Plans.{HasBlockMap, HasEntries, IsBlockMapOn}
use Rattle.planning.specs.Progress.{Before, IsExactPlane, IsMarked, IsProgress, PlannedInodes, with_planned_file}
use Rattle.planning.specs.Steps.{settled_tree}
use Rattle.planning.proofs.JoinLaws.{progress_more}
use Rattle.planning.proofs.OwnLaws.{inode_is, used_block}

entries_in : (t : HeldTree) (b : ℕ) → entry t b ≡ map_entry (file_block (t 2) (b / 1024)) (b % 1024)
unfolding entry
entries_in t b = refl

level_two : (layout : Layout) (size : ℕ) → level_of layout size ≡ 2 → 65536 < size
level_two layout size is = grind (arith, nat_tests)

-- how large the settled block map is
blocks_size : {version : ℕ} (count : ℕ) (disk : Blocks) (s : Sizes) (top : File) (settled_of : ℕ → Inode) → AreSettled count disk version s top settled_of → (settled_of 2).size ≡ 4 * s.blocks
blocks_size count disk s top settled_of are =
    (subst (λ (k : Kind). FitsKind k s (settled_of 2).attributes (settled_of 2).links (settled_of 2).size) (are.fits 2) (inode_is s disk (settled_of 2) (are.sound 2)).kind).2

-- a map has just the parts that its entries need
parts_of : (m : BlockMap) → length m.parts.items ≡ div_ceil m.count 1024
parts_of m = omega (arith, m.covers, m.just)

has_over : {version : ℕ} (count parts : ℕ) (disk : Blocks) (s : Sizes) (top : File) (settled_of : ℕ → Inode) → AreSettled count disk version s top settled_of → parts ≡ div_ceil s.blocks 1024 → level_of (settled_of 2).layout (settled_of 2).size ≡ 2 → 16 < parts
has_over count parts disk s top settled_of are is level =
    let size = blocks_size count disk s top settled_of are in let large = level_two (settled_of 2).layout (settled_of 2).size level in omega arith

-- no block of a settled map is a hole
stored_block : (s : Sizes) (disk : Blocks) (f : Inode) (parts k : ℕ) → f.layout ≡ Plain → HasNoHole (held disk f) → f.size ≡ 4 * s.blocks → 64 ≤ s.blocks → s.blocks ≤ 1048576 → parts ≡ div_ceil s.blocks 1024 → k < parts
    → (held disk f).place 0 k ≢ Hole
unfolding held nodes_of_size
stored_block s disk f parts k plain no_hole size least most parts_are lt = no_hole k (some (cases_lt 65536 f.size)) (omega (arith, size, parts_are, lt))
  where
    some : (65536 < f.size) ⊎ (f.size ≤ 65536) → 1 ≤ level_of f.layout f.size
    some (inl big) = omega (arith, reading.level_two f.layout f.size big (subst (λ (l : Layout). f.size ≤ single_bytes l) (sym plain) (omega (arith, size, most))))
    some (inr small) = omega (arith, reading.level_one f.layout f.size (omega (arith, size, least)) small)

pub settled_map : {version : ℕ} (count : ℕ) (draft : Draft) (disk : Blocks) (s : Sizes) (top : File) (settled_of : ℕ → Inode) (before : Before) (f : Inode) (nodes : List Pointer) → AreSettled count disk version s top settled_of
    → AreSizes s → s.layout ≡ Plain → count ≡ draft.map.count
    → NamesOnce (settled_tree disk settled_of) → IsExactPlane (settled_tree disk settled_of) before → ((b : ℕ) → settled_at draft.map.parts.items b ≡ before.entry b)
    → HasEntries draft before.entry (settled_tree disk settled_of) → HasNoHole (held disk (settled_of 2)) → f ≡ settled_of 2
    → ((k : ℕ) → k < length draft.map.parts.items → pointer_at nodes k ≡ (held disk f).place 0 k)
    → (16 < length draft.map.parts.items → pointer_at nodes (length draft.map.parts.items) ≡ (held disk f).place 1 0)
    → IsSettledMap s disk (settled_of 2) draft.map nodes
settled_map count draft disk s top settled_of before f nodes are sizes plain count_is once exact same entries no_hole is lowest over = record {
  sizes = sizes;
  plain = plain;
  blocks = sym (are.count ∙ count_is);
  kind = are.fits 2;
  sound = are.sound 2;
  no_hole = λ k lt not. stored_block s disk (settled_of 2) (length draft.map.parts.items) k ((inode_is s disk (settled_of 2) (are.sound 2)).layout ∙ plain) no_hole (blocks_size count disk s top settled_of are) sizes.least_blocks sizes.most_blocks
      (parts_of draft.map ∙ ap (λ n. div_ceil n 1024) (sym (are.count ∙ count_is))) lt;
  once = once.each 2;
  entries = λ b not. same b ∙ entries b not ∙ entries_in (settled_tree disk settled_of) b;
  used = λ b names. used_block draft disk settled_of before exact same 2 b names;
  lowest = subst (λ (x : Inode). (k : ℕ) → k < length draft.map.parts.items → pointer_at nodes k ≡ (held disk x).place 0 k) is lowest;
  over = λ level. subst (λ (x : Inode). pointer_at nodes (length draft.map.parts.items) ≡ (held disk x).place 1 0) is
      (over (has_over count (length draft.map.parts.items) disk s top settled_of are (parts_of draft.map ∙ ap (λ n. div_ceil n 1024) (sym (are.count ∙ count_is))) level));
}

map_placed : (s : Sizes) (d e : Blocks) (old new : Inode) (taken freed : ℕ → Bool) (entry_of : ℕ → ℕ) → IsMapOn s d e old new taken freed entry_of → IsPlaced s e (held d old) new taken freed
map_placed s d e old new taken freed entry_of on = record {
  moves = on.moves;
  named = on.named;
  stays = on.stays;
  freed_are = on.freed_are;
  once = on.once;
  sound = on.sound;
}

module _ (old new : Draft) (disk : Blocks) (before : Before) (s : Sizes) (settled_of : ℕ → Inode) (p : PlannedInodes) (nodes : List Pointer) (f : Inode) (once : NamesOnce (settled_tree disk settled_of))
    (exact : IsExactPlane (settled_tree disk settled_of) before) (same : (b : ℕ) → settled_at old.map.parts.items b ≡ before.entry b)
    (fresh : p.changed 2 ≡ false) (grows : Grows old new) (plan : PlansMap old new nodes f) (settled : IsSettledMap s disk (settled_of 2) old.map nodes) where
  stands : (e : Blocks) → HasAll e new.blocks.items → Agrees (Reach (settled_tree disk settled_of)) disk e → IsMapOn s disk e (settled_of 2) f plan.taken plan.freed (entry_at new.map.parts.items)
  stands e has agrees = plan.stands e has s disk (settled_of 2) settled (λ b names. agrees b (record { file = 2; names = names }))

  marked : IsMarked plan.taken plan.freed (entry_at old.map.parts.items) (entry_at new.map.parts.items)
  marked = record { active = plan.active; others = plan.others }

  pub map_file_planned : HasBlockMap old p new disk before s (settled_tree disk settled_of) f
  map_file_planned = record {
    taken = plan.taken;
    progress = λ e has agrees.
        let on = stands e has agrees in
        progress_more old new before s (settled_tree disk settled_of) p 2 f plan.taken plan.freed once exact same fresh grows plan.was_taken marked
        e (map_placed s disk e (settled_of 2) f plan.taken plan.freed (entry_at new.map.parts.items) on) on.kind;
    map = λ e has agrees. let on = stands e has agrees in record { entries = on.entries; no_hole = on.no_hole };
    anew = λ touched e has agrees. plan.anew touched e has s disk (settled_of 2) settled (λ b names. agrees b (record { file = 2; names = names }));
  }

-- the same once a block more is planned
pub map_file_later : (start old new : Draft) (disk : Blocks) (before : Before) (s : Sizes) (t : HeldTree) (p : PlannedInodes) (f : Inode) → Grows old new → new.map ≡ old.map → HasBlockMap start p old disk before s t f → HasBlockMap start p new disk before s t f
map_file_later start old new disk before s t p f grows same has_map = record {
  taken = has_map.taken;
  progress = λ e has agrees so_far. subst (λ (m : BlockMap). IsProgress s t e m.next before (entry_at m.parts.items) (with_planned_file 2 f has_map.taken p)) (sym same) (has_map.progress e (grows.has e has) agrees so_far);
  map = λ e has agrees. subst (λ (m : BlockMap). IsBlockMapOn (entry_at m.parts.items) (held e f)) (sym same) (has_map.map e (grows.has e has) agrees);
  anew = λ touched e has agrees. has_map.anew touched e (grows.has e has) agrees;
}
