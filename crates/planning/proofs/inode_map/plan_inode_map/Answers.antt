use Rattle.std.proofs.Common.{◌≡◌, ◌≤◌, inl, inr, ℕ, List, Result, length, ap, sym, subst, ◌∙◌, arith, rules}
use Rattle.blocktree.specs.Places.{block_count}
use Rattle.blocktree.specs.Trees.{IsSoundAt}
use Rattle.buffers.specs.Positions.{IsPart}
use Rattle.buffers.specs.declared.blocks.Blocks.{Ghosts}
use Rattle.images.specs.Contents.{Content, content_bytes}
use Rattle.images.specs.Nodes.{held}
use Rattle.images.specs.Nodes as nodes
use Rattle.images.specs.Soundness.{IsSoundFile}
use Rattle.inode.specs.Files.{IsAsHeld, byte_at, file_block}
use Rattle.inofile.specs.declared.inode_file.InodeFile.{InodeFile}
use Rattle.layout.specs.declared.inode.Inode.{Inode}
use Rattle.placement.specs.Files.{is_one}
use Rattle.placement.specs.Space.{file_stores}
use Rattle.planning.specs.Plans.{IsInodeMapOn}
use Rattle.planning.specs.Promises.{CountsMap, PlansFiles, PlansParts}
use Rattle.planning.specs.Space.{map_stores}
use Rattle.planning.specs.Steps.{HasSettled, OverTree, found_in, tree_of}
use Rattle.conspoint.specs.declared.draft.Draft.{Draft}
use Rattle.conspoint.specs.declared.error.PlanError.{PlanError}
use Rattle.planning.proofs.JoinLaws.{map_planned, map_stays, marked_over}
use Rattle.conspoint.proofs.DraftLemmas.{grows_twice, taken_later}
use Rattle.planning.proofs.OwnLaws.{IsMapOver, held_bytes, inode_is, kind_of, map_over, map_size_is}
use Rattle.planning.proofs.TellLaws.{counts_one, few_stored}
use Rattle.planning.proofs.inode_map.plan_inode_map.Given.{Over}
use Rattle.planning.proofs.inode_map.plan_inode_map.Goals as goal
use Rattle.planning.proofs.inode_map.plan_inode_map.Goals.{In_ok-object, In_ok-put_parts}
use Rattle.images.proofs.EmptyLaws.{held_inode}
use Rattle.planning.proofs.PromiseLaws.{parts_of, plans_after, plans_err, plans_file, plans_marks, plans_out, plans_read, plans_reads, plans_then, plans_unread, read_of}
use Rattle.images.specs.Sums.{sum_below}

-- what was read is the settled inode map, and a file over it
module _ (g : Over) (c : In_ok-object g) (o : OverTree g.B.Blocks c.args.blocks.now c.args.inodes.now) where
  now : c.in_ok-settled.settled ≡ o.settled 1
  now = c.in_ok-settled.ensures.read o.disk o.settled o.shows o.memory.inodes

  sound : IsSoundFile c.args.inodes.now.geometry (held o.disk c.in_ok-settled.settled)
  sound = subst (λ (x : Inode). IsSoundFile c.args.inodes.now.geometry (held o.disk x)) (sym now) (o.memory.inodes.sound 1)

  sound_at : (i : ℕ) → IsSoundAt c.args.inodes.now.geometry.blocks o.disk c.in_ok-object.object.file.tree i
  sound_at i = c.based_trees_are_sound.ensures.at _ c.args.inodes.now.geometry o.disk c.in_ok-settled.settled c.in_ok-object.object.file.tree i sound sound.bytes.readable c.in_ok-object.ensures.base

pub returns-in_err-settled-clause-damaged : goal.returns-in_err-settled-clause-damaged
returns-in_err-settled-clause-damaged g c = λ o same below bad. c.in_err-settled.ensures.damaged o.disk o.settled o.shows o.memory.inodes (search rules)

pub has_bytes-requires : goal.has_bytes-requires
has_bytes-requires g c = omega (arith, c.map_bytes.ensures.length, c.requires.sizes.most_inodes)

pub put_parts-requires : goal.put_parts-requires
put_parts-requires g c = omega (arith, c.map_bytes-2.ensures.length, c.requires.sizes.most_inodes)

pub returns-in_err-is_there-clause-damaged : goal.returns-in_err-is_there-clause-damaged
returns-in_err-is_there-clause-damaged g c = λ o same below bad.
    let at = (goal.at.returns-in_err-is_there-clause-damaged g c).In_ok-object in
    c.in_err-is_there.ensures.damaged o.disk (c.settled_map.ensures.reads.same o.disk o.shows) (search rules)
    (λ i. subst (λ n. IsSoundAt n o.disk c.in_ok-object.object.file.tree i) (o.memory.inodes.count ∙ sym c.settled_map.ensures.reads.count) (sound_at g at o i))

pub returns-then-is_there-clause-planned : goal.returns-then-is_there-clause-planned
returns-then-is_there-clause-planned g c = λ o no_hole way fresh.
    let at = (goal.at.returns-then-is_there-clause-planned g c).In_ok-object in
    let s = c.args.inodes.now.geometry in
    let bytes = c.args.inodes.now.numbers.bytes.items in
    let file = c.in_ok-object.object.file in
    let there = held_bytes o.disk (o.settled 1) file bytes (subst (λ (x : Inode). IsAsHeld o.disk x file) (now g at o) (c.in_ok-object.ensures.held _ s o.disk (sound g at o)))
    (map_size_is (g.B.Blocks.count c.args.blocks.now) o.disk s c.args.inodes.now.file o.settled o.memory.inodes ∙ sym (sym (ap (λ (xs : List ℕ). length xs) c.map_bytes.ensures.bytes) ∙ c.map_bytes.ensures.length))
    (subst (λ (xs : List ℕ). IsPart (byte_at o.disk file) 0 xs) c.map_bytes.ensures.bytes (c.in_ok-is_there.ensures.same o.disk (c.settled_map.ensures.reads.same o.disk o.shows) c.if-is_there.true)) no_hole in
    map_stays c.args.draft.now o.disk o.before s (tree_of o) (found_in o) c.args.file.now bytes way (λ e has agrees.
    subst (λ h. IsInodeMapOn bytes h) (sym (ap (held e) ((way.progress e has agrees).stays 1 fresh ∙ held_inode o.disk (o.settled 1))
    ∙ c.disks_that_agree_hold_the_same.ensures.file o.disk e (o.settled 1) (λ b names. agrees b (record { file = 1; names = names })))) there)

pub returns-in_err-put_parts-clause-damaged : goal.returns-in_err-put_parts-clause-damaged
returns-in_err-put_parts-clause-damaged g c = λ o same below bad.
    let at = (goal.at.returns-in_err-put_parts-clause-damaged g c).In_ok-object in
    c.in_err-put_parts.ensures.damaged o.disk (c.has_bytes.ensures.reads.same o.disk (c.settled_map.ensures.reads.same o.disk o.shows)) (search rules)
    (λ i. subst (λ n. IsSoundAt n o.disk c.in_ok-object.object.file.tree i) (o.memory.inodes.count ∙ sym c.settled_map.ensures.reads.count ∙ sym c.has_bytes.ensures.reads.count) (sound_at g at o i))

module _ (g : Over) (c : In_ok-put_parts g) (o : OverTree g.B.Blocks c.args.blocks.now c.args.inodes.now) where
  settled_is : c.in_ok-settled.settled ≡ o.settled 1
  settled_is = c.in_ok-settled.ensures.read o.disk o.settled o.shows o.memory.inodes

  is_sound : IsSoundFile c.args.inodes.now.geometry (held o.disk c.in_ok-settled.settled)
  is_sound = subst (λ (x : Inode). IsSoundFile c.args.inodes.now.geometry (held o.disk x)) (sym settled_is) (o.memory.inodes.sound 1)

  shown : g.B.Blocks.Shows c.has_bytes.new.blocks o.disk
  shown = c.has_bytes.ensures.reads.same o.disk (c.settled_map.ensures.reads.same o.disk o.shows)

  -- the file that is placed, over the settled one
  map_now : HasSettled c.args.draft.now o.before.entry → IsMapOver c.args.inodes.now.geometry c.args.draft.now o.disk (o.settled 1) (record c.in_ok-object.object { file = c.put_parts.new.file }) c.args.inodes.now.numbers.bytes.items
  map_now same =
      map_over (g.B.Blocks.count c.args.blocks.now) c.args.draft.now o.disk c.args.inodes.now.geometry c.args.inodes.now.file o.settled o.before c.in_ok-settled.settled c.in_ok-object.object.file _ c.args.inodes.now.numbers.bytes.items
      o.memory.inodes o.once o.exact same c.requires.disk settled_is
      c.in_ok-object.ensures.size (c.in_ok-object.ensures.ends c.args.inodes.now.geometry o.disk is_sound) c.in_ok-object.ensures.settled c.in_ok-object.ensures.status c.put_parts.ensures.file.settled c.put_parts.ensures.file.kept c.put_parts.ensures.file.size
      (sym (ap (λ (xs : List ℕ). length xs) c.map_bytes.ensures.bytes) ∙ c.map_bytes.ensures.length) (rw c.map_bytes-2.ensures.bytes at (c.in_ok-put_parts.ensures.here o.disk shown)) (rw c.map_bytes-2.ensures.bytes at (c.in_ok-put_parts.ensures.others o.disk))

  -- no more of it is stored than counts
  few_counted : (w : ℕ → ℕ) → CountsMap o w → file_stores c.put_parts.new.file ≤ map_stores w c.args.inodes.now
  few_counted w counts =
      let s = c.args.inodes.now.geometry in
      let bytes = c.args.inodes.now.numbers.bytes.items in
      let first = c.in_ok-object.object.file in
      let only = rw c.map_bytes-2.ensures.bytes at (c.put_parts.ensures.only o.disk shown) in
      let few = few_stored c.in_ok-settled.settled.layout w c.in_ok-settled.settled.body s.blocks c.in_ok-settled.settled.size first c.put_parts.new.file (inode_is s o.disk c.in_ok-settled.settled is_sound).body
      (omega (arith, c.in_ok-settled.ensures.size, c.requires.sizes.most_inodes)) (c.put_parts.ensures.file.size ∙ c.in_ok-object.ensures.size) c.in_ok-object.ensures.unchanged
      (λ i changed. elim (only i changed) [
        | inl other ↦ inl (counts_one w bytes (nodes.file_block (held o.disk (o.settled 1))) (file_block o.disk first i) i counts
            (c.in_ok-object.ensures.held _ s o.disk is_sound i ∙ ap (λ (x : Inode). nodes.file_block (held o.disk x) i) settled_is) other)
        | inr before ↦ inr before
      ]) in
      let all = ap (λ (n : ℕ). sum_below w (block_count n)) c.in_ok-settled.ensures.size in
      omega (arith, few, all)

pub returns-in_err-placed-clause-damaged : goal.returns-in_err-placed-clause-damaged
returns-in_err-placed-clause-damaged g c = λ o same below bad.
    let at = (goal.at.returns-in_err-placed-clause-damaged g c).In_ok-put_parts in
    c.in_err-placed.ensures.damaged c.args.inodes.now.geometry o.disk (o.settled 1) (c.put_parts.ensures.reads.same o.disk (shown g at o)) (map_now g at o same).change (search rules)

pub returns-clause-planned : goal.returns-clause-planned
returns-clause-planned g c = λ o no_hole way fresh.
    let at = (goal.at.returns-clause-planned g c).In_ok-put_parts in
    let s = c.args.inodes.now.geometry in
    let read = c.put_parts.ensures.reads.same o.disk (shown g at o) in
    let old = c.args.draft.now in
    let mid = c.place_file.new.draft in
    let new = c.mark_placed.new.draft in
    let goes = c.mark_placed.ensures.step.grows in
    let placed = c.in_ok-placed.placed in
    let taken = is_one placed.taken.items in
    let freed = is_one placed.freed.items in
    let map = map_now g at o way.settled in
    let there = c.in_ok-placed.ensures.placed s o.disk (o.settled 1) read map.change in
    let said = c.inodes_are_put_one_by_one.ensures in
    let shown_last = c.place_file.ensures.step.reads.same o.disk read in
    map_planned (record { there = said.there; others = said.others; behind = said.behind }) old new o.disk o.before s (tree_of o) (found_in o) c.args.file.now c.put_inode.new.file placed.inode c.args.inodes.now.numbers.bytes.items
    taken freed way o.once o.exact fresh (omega (arith, c.requires.sizes.least_inodes)) (grows_twice old mid new c.place_file.ensures.step.grows goes) (λ b is. taken_later old mid new b (c.in_ok-placed.ensures.blocks.given b is) goes)
    (λ e has agrees. there.placed e (goes.has e has) agrees)
    (λ e has agrees. kind_of e placed.inode _ _ (there.content e (goes.has e has) agrees) map.kind)
    (marked_over taken freed old.map.parts.items mid.map.parts.items new.map.parts.items c.place_file.ensures.step.parts c.in_ok-mark_placed.ensures.marked)
    (λ e has agrees. record {
      bytes_are = ap (λ (x : Content). content_bytes x) (there.content e (goes.has e has) agrees) ∙ map.bytes_are;
      no_hole = there.no_hole (map.whole no_hole) e (goes.has e has) agrees;
    })
    (c.in_ok-put_inode.ensures.put o.disk shown_last) (c.in_ok-put_inode.ensures.whole o.disk shown_last) c.in_ok-put_inode.ensures.long

-- what is read takes nothing
read_alone : {B T : Type 0} {G : Ghosts B} {inodes : InodeFile} {x y : B} {d : Draft} {r : Result T PlanError} → PlansFiles G 0 x y d d r → PlansParts G inodes (λ w. map_stores w inodes) x y d d r
read_alone part = parts_of part (λ o w counts. omega arith)

-- and behind it the file takes as much as is counted
read_before : (g : Over) (c : In_ok-put_parts g) {T : Type 0} {z : g.row.B.Denot} {d : Draft} {r : Result T PlanError} → PlansFiles g.B.Blocks (file_stores c.put_parts.new.file) c.put_parts.new.blocks z c.args.draft.now d r
    → PlansParts g.B.Blocks c.args.inodes.now (λ w. map_stores w c.args.inodes.now) c.args.blocks.now z c.args.draft.now d r
read_before g c part =
    parts_of (plans_after c.in_ok-settled.ensures.reads (plans_after (read_of c.in_ok-is_there.ensures.reads) (plans_after (read_of c.in_ok-put_parts.ensures.reads) part))) (λ o w counts. few_counted g c o w counts)

pub returns-in_err-settled-clause-step : goal.returns-in_err-settled-clause-step
returns-in_err-settled-clause-step g c = read_alone (plans_err c.from_residual.result c.from_residual.ensures.1 (plans_read c.in_err-settled.ensures.reads c.in_err-settled.ensures.why))

pub returns-in_err-object-clause-step : goal.returns-in_err-object-clause-step
returns-in_err-object-clause-step g c = read_alone (plans_after c.in_ok-settled.ensures.reads (plans_out c.from_residual-in_err-object.result c.from_residual-in_err-object.ensures.1))

pub returns-in_err-is_there-clause-step : goal.returns-in_err-is_there-clause-step
returns-in_err-is_there-clause-step g c =
    read_alone (plans_after c.in_ok-settled.ensures.reads (plans_unread c.from_residual-in_err-is_there.result c.from_residual-in_err-is_there.ensures.1 c.in_err-is_there.ensures.reads))

pub returns-then-is_there-clause-step : goal.returns-then-is_there-clause-step
returns-then-is_there-clause-step g c = read_alone (plans_after c.in_ok-settled.ensures.reads (plans_reads c.in_ok-is_there.ensures.reads))

pub returns-in_err-put_parts-clause-step : goal.returns-in_err-put_parts-clause-step
returns-in_err-put_parts-clause-step g c =
    read_alone (plans_after c.in_ok-settled.ensures.reads (plans_after (read_of c.in_ok-is_there.ensures.reads) (plans_unread c.from_residual-in_err-put_parts.result c.from_residual-in_err-put_parts.ensures.1 c.in_err-put_parts.ensures.reads)))

pub returns-in_err-placed-clause-step : goal.returns-in_err-placed-clause-step
returns-in_err-placed-clause-step g c =
    read_before g (goal.at.returns-in_err-placed-clause-step g c).In_ok-put_parts (plans_err c.from_residual-in_err-placed.result c.from_residual-in_err-placed.ensures.1 (plans_file c.in_err-placed.ensures.step))

pub returns-in_err-mark_placed-clause-step : goal.returns-in_err-mark_placed-clause-step
returns-in_err-mark_placed-clause-step g c =
    read_before g (goal.at.returns-in_err-mark_placed-clause-step g c).In_ok-put_parts
    (plans_err c.from_residual-in_err-mark_placed.result c.from_residual-in_err-mark_placed.ensures.1 (plans_then (plans_file c.in_ok-placed.ensures.step) (plans_marks c.in_err-mark_placed.ensures.step tt) (omega arith)))

pub returns-in_err-put_inode-clause-step : goal.returns-in_err-put_inode-clause-step
returns-in_err-put_inode-clause-step g c =
    read_before g (goal.at.returns-in_err-put_inode-clause-step g c).In_ok-put_parts (plans_then {n = file_stores c.put_parts.new.file} (plans_then (plans_file c.in_ok-placed.ensures.step) (plans_marks c.in_ok-mark_placed.ensures.step c.in_ok-mark_placed.ensures.marked.others) (omega arith))
    (plans_unread {n = 0} c.from_residual-in_err-put_inode.result c.from_residual-in_err-put_inode.ensures.1 c.in_err-put_inode.ensures.reads) (omega arith))

pub returns-clause-step : goal.returns-clause-step
returns-clause-step g c =
    read_before g (goal.at.returns-clause-step g c).In_ok-put_parts (plans_then {n = file_stores c.put_parts.new.file} (plans_then (plans_file c.in_ok-placed.ensures.step) (plans_marks c.in_ok-mark_placed.ensures.step c.in_ok-mark_placed.ensures.marked.others) (omega arith))
    (plans_reads {n = 0} c.in_ok-put_inode.ensures.reads) (omega arith))

pub returns-in_err-put_inode-clause-file : goal.returns-in_err-put_inode-clause-file
returns-in_err-put_inode-clause-file g c = c.put_inode.ensures.file

pub returns-clause-file : goal.returns-clause-file
returns-clause-file g c = c.put_inode.ensures.file
