-- The parts of a whole plan, put together.
use Rattle.std.proofs.Common.{◌≡◌, ◌≢◌, ◌↔◌, inl, inr, ℕ, ◌+◌, ◌-◌, ◌*◌, ◌/◌, ◌%◌, ◌<◌, ◌≤◌, Bool, true, false, List, length, drop, refl, ap, sym, subst, ◌∙◌, arith, length-append, length-drop, length-take}
use Rattle.std.proofs.Math.Path.{fun_ext}
use Rattle.std.proofs.lemmas.Bool.{cases_eq, cases_lt, cond-true, cond-false, cond_below, cond_above, eq-eqb, ne_eqb, cases_Bool}
use Rattle.std.specs.Int.{div_ceil}
use Rattle.std.specs.Prelude.{nat_lt, if◌then◌else◌, ◌==◌}
use Rattle.layout.specs.Bytes.{zeros}
use Rattle.layout.specs.Inode.{inode_bytes}
use Rattle.layout.specs.Limits.{Sizes}
use Rattle.layout.specs.Places.{Blocks}
use Rattle.layout.specs.declared.inode.Inode.{Inode}
use Rattle.buffers.specs.Disks.{IsWhole}
use Rattle.blocktree.specs.Places.{block_count}
use Rattle.conspoint.specs.Drafts.{Grows, HasAll, OnEach}
use Rattle.conspoint.specs.Space.{TakesAtMost}
use Rattle.conspoint.specs.declared.draft.Draft.{Draft}
use Rattle.conspoint.proofs.DraftLemmas.{grows_twice}
use Rattle.images.specs.Contents.{Content, content_of}
use Rattle.images.specs.InodeFiles.{spliced_at}
use Rattle.images.specs.Nodes.{held, Agrees}
use Rattle.images.specs.Nodes as nodes
use Rattle.images.specs.Roots.{HeldTree, Reach, inode_bytes_at, inode_part}
use Rattle.inode.specs.Files.{file_block}
use Rattle.inode.specs.declared.object.Object.{Object}
use Rattle.inofile.specs.Inodes.{IsChanged}
use Rattle.inofile.specs.declared.inode_file.InodeFile.{InodeFile}
use Rattle.placement.specs.Files.{object_block}
use Rattle.planning.specs.Inodes.{AreSpelled, with_inode_at, with_number}
use Rattle.planning.specs.Plans.{HasBlockMap, HasInodeMap, HasTop, IsAllPlanned, IsProgressOf, OnEachOver}
use Rattle.planning.specs.Progress.{Before, PlannedInodes, with_planned_file}
use Rattle.planning.specs.Space.{CountsBlocks, map_stores, nodes_below, top_nodes}
use Rattle.planning.proofs.SpellingLaws.{PutsOneByOne, one_spelled}
use Rattle.images.proofs.EmptyLaws.{part_zeros, behind_zeros}

length-spliced : (at : ℕ) (ys xs : List ℕ) → at + length ys ≤ length xs → length (spliced_at at ys xs) ≡ length xs
length-spliced at ys xs le = simp (length-append, length-take, length-drop) (omega (arith, le))

-- ---- blocks of zeros behind the last one spell no inode

module _ (inodes count : ℕ) (block : ℕ → List ℕ) (inode : ℕ → Inode) (spelled : AreSpelled inodes block inode) (some : 1 ≤ count) (enough : div_ceil inodes 21 ≤ count) where
  abbrev cut_off : ℕ → List ℕ
  cut_off i = if nat_lt i count then block i else zeros 4096

  same_bytes : (n : ℕ) → n / 21 < count → inode_bytes_at cut_off n ≡ inode_bytes_at block n
  same_bytes n lt = ap (λ (b : List ℕ). inode_part b (n % 21)) (sym (cond_below (n / 21) count (block (n / 21)) (zeros 4096) lt))

  past_bytes : (n : ℕ) → inodes ≤ n → inode_bytes_at cut_off n ≡ zeros 192
  past_bytes n past = elim (cases_lt (n / 21) count) [
    | inl lt ↦ same_bytes n lt ∙ spelled.past n past
    | inr ge ↦ ap (λ (b : List ℕ). inode_part b (n % 21)) (sym (cond_above (n / 21) count (block (n / 21)) (zeros 4096) (zeros 4096) ge refl)) ∙ part_zeros (n % 21) (omega arith)
  ]

  behind_all : (i : ℕ) → drop (192 * 21) (cut_off i) ≡ zeros (4096 - 192 * 21)
  behind_all i = elim (cases_lt i count) [
    | inl lt ↦ ap (drop (192 * 21)) (sym (cond_below i count (block i) (zeros 4096) lt)) ∙ spelled.behind i
    | inr ge ↦ ap (drop (192 * 21)) (sym (cond_above i count (block i) (zeros 4096) (zeros 4096) ge refl)) ∙ behind_zeros
  ]

  pub cut_spelled : AreSpelled inodes cut_off inode
  cut_spelled = record {
    each = λ n low high. same_bytes n (omega arith) ∙ spelled.each n low high;
    first = same_bytes 0 (omega arith) ∙ spelled.first;
    past = past_bytes;
    behind = behind_all;
  }

-- ---- all parts

module _ (puts : PutsOneByOne) (start low mid last : Draft) (disk : Blocks) (before : Before) (s : Sizes) (t : HeldTree) (found : ℕ → Content) (inodes : InodeFile) (top : Object) (f map : Inode) (first : ℕ) (block : List ℕ)
    (changed : ℕ → Bool) (just : (n : ℕ) → (changed n ≡ true) ↔ IsChanged inodes n) (within : (n : ℕ) → IsChanged inodes n → n < s.inodes) (least : 3 ≤ s.inodes)
    (numbers : HasInodeMap inodes.numbers.bytes.items changed start.map.next low disk before s t found top.file) (has_top : HasTop numbers.way.plan mid disk before s t top f first)
    (has_map : HasBlockMap mid (with_planned_file 0 f has_top.taken numbers.way.plan) last disk before s t map) (size : top.file.size ≡ 4096 * div_ceil s.inodes 21)
    (begun : Grows start low) (one : Grows low mid) (two : Grows mid last)
    (few : (w : ℕ → ℕ) → CountsBlocks w inodes.numbers.bytes.items (nodes.file_block (t 1)) → TakesAtMost (nodes_below inodes inodes.geometry.inodes + map_stores w inodes + top_nodes inodes (t 0).inode.size) start mid) (stored : OnEach last (λ e. e first ≡ block))
    (put : block ≡ spliced_at (192 * (2 % 21)) (inode_bytes map) (file_block disk top.file (2 / 21))) (whole : length (file_block disk top.file (2 / 21)) ≡ 4096) (long : length (inode_bytes map) ≡ 192) where
  abbrev p : PlannedInodes
  p = numbers.way.plan

  abbrev q : PlannedInodes
  q = with_planned_file 2 map has_map.taken (with_planned_file 0 f has_top.taken p)

  at_mid : (e : Blocks) → HasAll e last.blocks.items → HasAll e mid.blocks.items
  at_mid e has = two.has e has

  at_low : (e : Blocks) → HasAll e last.blocks.items → HasAll e low.blocks.items
  at_low e has = one.has e (at_mid e has)

  first_whole : (e : Blocks) → HasAll e last.blocks.items → IsWhole (e first)
  first_whole e has = ap length (stored e has ∙ put) ∙ length-spliced (192 * (2 % 21)) (inode_bytes map) (file_block disk top.file (2 / 21)) (omega (arith, whole, long)) ∙ whole

  progress_all : OnEachOver t disk last (λ e. IsProgressOf last s t e before q)
  progress_all e has agrees = has_map.progress e has agrees (has_top.progress e (at_mid e has) agrees (first_whole e has))

  -- which are changed
  as_before : (n : ℕ) → 3 ≤ n → q.changed n ≡ changed n
  as_before n least =
      cond-false (n == 2) true ((with_planned_file 0 f has_top.taken p).changed n) (ne_eqb n 2 (λ is. absurd (omega arith)))
      ∙ cond-false (n == 0) true (p.changed n) (ne_eqb n 0 (λ is. absurd (omega arith)))
      ∙ numbers.others n (λ is. absurd (omega arith))

  past_all : (n : ℕ) → s.inodes ≤ n → q.changed n ≡ false
  past_all n past = elim (cases_Bool (changed n)) [
    | inl is ↦ (let lt = within n ((just n).0 is) in absurd (omega arith))
    | inr isnt ↦ as_before n (omega arith) ∙ isnt
  ]

  inode_there : (n : ℕ) → 3 ≤ n → q.inode n ≡ p.inode n
  inode_there n least =
      cond-false (n == 2) map ((with_planned_file 0 f has_top.taken p).inode n) (ne_eqb n 2 (λ is. absurd (omega arith)))
      ∙ cond-false (n == 0) f (p.inode n) (ne_eqb n 0 (λ is. absurd (omega arith)))

  changed_there : (n : ℕ) → 3 ≤ n → q.changed n ≡ p.changed n
  changed_there n least =
      cond-false (n == 2) true ((with_planned_file 0 f has_top.taken p).changed n) (ne_eqb n 2 (λ is. absurd (omega arith)))
      ∙ cond-false (n == 0) true (p.changed n) (ne_eqb n 0 (λ is. absurd (omega arith)))

  contents_all : OnEachOver t disk last (λ e. (n : ℕ) → 3 ≤ n → q.changed n ≡ true → content_of (held e (q.inode n)) ≡ found n)
  contents_all e has agrees n least is =
      ap (λ (i : Inode). content_of (held e i)) (inode_there n least) ∙ numbers.way.contents e (at_low e has) agrees n least (sym (changed_there n least) ∙ is)

  -- what the inode file spells
  count_is : block_count top.file.size ≡ div_ceil s.inodes 21
  count_is = omega (arith, size)

  abbrev kept : ℕ → List ℕ
  kept = object_block disk top

  first_there : kept (2 / 21) ≡ file_block disk top.file (2 / 21)
  first_there = sym (cond_below (2 / 21) (block_count top.file.size) (file_block disk top.file (2 / 21)) (zeros 4096) (omega (arith, count_is)))

  kept_spelled : AreSpelled s.inodes kept p.inode
  kept_spelled = cut_spelled s.inodes (block_count top.file.size) (file_block disk top.file) p.inode numbers.way.spelled (omega (arith, count_is)) (omega (arith, count_is))

  blocks_all : (e : Blocks) → HasAll e last.blocks.items → Agrees (Reach t) disk e → (i : ℕ) → nodes.file_block (held e f) i ≡ with_inode_at kept 2 map i
  blocks_all e has agrees i = elim (cases_eq i 0) [
    | inl is ↦
        has_top.blocks e (at_mid e has) agrees i ∙ cond-true (i == 0) (e first) (kept i) (eq-eqb i 0 is) ∙ stored e has ∙ put
        ∙ ap (spliced_at (192 * (2 % 21)) (inode_bytes map)) (sym first_there)
        ∙ sym (cond-true (i == 2 / 21) (spliced_at (192 * (2 % 21)) (inode_bytes map) (kept (2 / 21))) (kept i) (eq-eqb i 0 is))
    | inr other ↦
        has_top.blocks e (at_mid e has) agrees i ∙ cond-false (i == 0) (e first) (kept i) (ne_eqb i 0 other)
        ∙ sym (cond-false (i == 2 / 21) (spliced_at (192 * (2 % 21)) (inode_bytes map) (kept (2 / 21))) (kept i) (ne_eqb i 0 other))
  ]

  with_map : AreSpelled s.inodes (with_inode_at kept 2 map) (with_number p.inode 2 map)
  with_map = one_spelled puts s.inodes kept p.inode 2 map kept_spelled (omega arith) (omega arith) (ap (λ (b : List ℕ). length b) first_there ∙ whole) long

  number_is : (n : ℕ) → 1 ≤ n → with_number p.inode 2 map n ≡ q.inode n
  number_is n low = elim (cases_eq n 2) [
    | inl is ↦ cond-true (n == 2) map (p.inode n) (eq-eqb n 2 is) ∙ sym (cond-true (n == 2) map ((with_planned_file 0 f has_top.taken p).inode n) (eq-eqb n 2 is))
    | inr other ↦
        cond-false (n == 2) map (p.inode n) (ne_eqb n 2 other)
        ∙ sym (cond-false (n == 2) map ((with_planned_file 0 f has_top.taken p).inode n) (ne_eqb n 2 other) ∙ cond-false (n == 0) f (p.inode n) (ne_eqb n 0 (λ is. absurd (omega arith))))
  ]

  spelled_all : OnEachOver t disk last (λ e. AreSpelled s.inodes (nodes.file_block (held e f)) q.inode)
  spelled_all e has agrees =
      subst (λ (g : ℕ → List ℕ). AreSpelled s.inodes g q.inode) (sym (fun_ext (blocks_all e has agrees))) (record {
        each = λ n low high. with_map.each n low high ∙ ap inode_bytes (number_is n low);
        first = with_map.first;
        past = with_map.past;
        behind = with_map.behind;
      })

  to_mid : Grows start mid
  to_mid = grows_twice start low mid begun one

  from_all : OnEachOver t disk last (λ e. (n b : ℕ) → q.taken n b ≡ true → start.map.next ≤ b)
  from_all e has agrees n b is = let high = (progress_all e has agrees).behind n b is in omega (arith, high, numbers.from_is)

  below_all : OnEachOver t disk last (λ e. (n b : ℕ) → n ≢ 2 → q.taken n b ≡ true → b < mid.map.next)
  below_all e has agrees n b other is =
      (has_top.progress e (at_mid e has) agrees (first_whole e has)).below n b
      (sym (ap (λ g. g b) (cond-false (n == 2) has_map.taken ((with_planned_file 0 f has_top.taken p).taken n) (ne_eqb n 2 other))) ∙ is)

  pub all_planned : IsAllPlanned start last disk before s t found inodes f
  all_planned = record {
    plan = q;
    top_is = refl;
    first = refl;
    progress = progress_all;
    past = past_all;
    changed = λ n least. (λ is. (just n).0 (sym (as_before n least) ∙ is), λ is. as_before n least ∙ (just n).1 is);
    contents = contents_all;
    spelled = spelled_all;
    inode_map = λ e has agrees. numbers.map e (at_low e has) agrees;
    block_map = has_map.map;
    middle = mid;
    begins = to_mid;
    goes_on = two;
    few = few;
    from = from_all;
    below = below_all;
    first_taken = λ e has agrees. has_top.first_taken e (at_mid e has) agrees (first_whole e has);
    anew = λ touched. has_map.anew (λ j lt. to_mid.settled.touched j (touched j (omega (arith, lt, to_mid.settled.count))));
  }
