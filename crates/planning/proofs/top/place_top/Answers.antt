use Rattle.std.proofs.Common.{arith, inl, inr, sym, ap, ◌∙◌}
use Rattle.blockmap.specs.Maps.{settled_at}
use Rattle.layout.proofs.PointerLaws.{block_same}
use Rattle.layout.specs.declared.inode.Inode.{Inode}
use Rattle.images.specs.Contents.{Content}
use Rattle.images.specs.Nodes.{Agrees, Names, held}
use Rattle.images.specs.Roots.{Reach}
use Rattle.layout.specs.Places.{Blocks}
use Rattle.placement.specs.Files.{is_one}
use Rattle.planning.specs.Steps.{tree_of}
use Rattle.planning.proofs.JoinLaws.{marked_over, progress_more}
use Rattle.conspoint.proofs.DraftLemmas.{grows_twice, taken_later}
use Rattle.planning.proofs.top.place_top.Goals as goal
use Rattle.images.proofs.EmptyLaws.{held_inode}
use Rattle.planning.proofs.PromiseLaws.{plans_err, plans_file, plans_marks, plans_ok, plans_then}

pub returns-clause-planned : goal.returns-clause-planned
returns-clause-planned g c = λ inodes o change kind same p fresh progress.
    let old = c.args.draft.now in
    let mid = c.place_file_but_first.new.draft in
    let new = c.mark_placed.new.draft in
    let placed = c.in_ok-all.all.0 in
    let taken = is_one placed.taken.items in
    let freed = is_one placed.freed.items in
    let goes = c.mark_placed.ensures.step.grows in
    let grows = grows_twice old mid new c.place_file_but_first.ensures.step.grows goes in
    let there = c.in_ok-all.ensures.placed inodes.geometry o.disk (o.settled 0) o.shows change in
    let mine : (e : Blocks) → Agrees (Reach (tree_of o)) o.disk e → Agrees (Names (held o.disk (o.settled 0))) o.disk e = λ e agrees b names. agrees b (record { file = 0; names = names }) in
    record {
      taken = taken;
      progress = λ e has agrees whole.
          progress_more old new o.before inodes.geometry (tree_of o) p 0 placed.inode taken freed o.once o.exact same fresh grows
          (λ b is. taken_later old mid new b (c.in_ok-all.ensures.blocks.given b is) goes)
          (marked_over taken freed old.map.parts.items mid.map.parts.items new.map.parts.items c.place_file_but_first.ensures.step.parts c.in_ok-mark_placed.ensures.marked)
          e (there.placed e (goes.has e has) (mine e agrees) whole)
          (sym (ap (λ (i : Inode). i.kind) (held_inode e placed.inode)) ∙ ap (λ (x : Content). x.kind) (there.content e (goes.has e has) (mine e agrees)) ∙ kind)
          (progress e (grows.has e has) agrees);
      first_taken = λ e has agrees whole b is. elim ((there.placed e (goes.has e has) (mine e agrees) whole).moves 0 0 b is) [
        | inr came ↦ came
        | inl was ↦
            let at = block_same b c.in_ok-all.all.1 (sym is ∙ there.there e (goes.has e has) (mine e agrees)) in
            absurd (change.used b (record { height = 0; index = 0; is = was })
            (ap (settled_at old.map.parts.items) at ∙ sym (c.place_file_but_first.ensures.step.grows.settled.settled c.in_ok-all.all.1) ∙ c.in_ok-all.ensures.reserved.free))
      ];
      blocks = λ e has agrees i. ap (λ (x : Content). x.block i) (there.content e (goes.has e has) (mine e agrees));
    }

pub returns-in_err-all-clause-step : goal.returns-in_err-all-clause-step
returns-in_err-all-clause-step g c = plans_err c.from_residual.result c.from_residual.ensures.1 (plans_file c.in_err-all.ensures.step)

pub returns-in_err-mark_placed-clause-step : goal.returns-in_err-mark_placed-clause-step
returns-in_err-mark_placed-clause-step g c =
    plans_err c.from_residual-in_err-mark_placed.result c.from_residual-in_err-mark_placed.ensures.1 (plans_then (plans_file c.in_ok-all.ensures.step) (plans_marks c.in_err-mark_placed.ensures.step tt) (omega arith))

pub returns-clause-step : goal.returns-clause-step
returns-clause-step g c =
    plans_ok (plans_then (plans_file c.in_ok-all.ensures.step) (plans_marks c.in_ok-mark_placed.ensures.step c.in_ok-mark_placed.ensures.marked.others) (omega arith))
