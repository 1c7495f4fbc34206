use Rattle.std.proofs.Common.{◌+◌, Option, IfSome, is_some, IsTrue, refl, ap, sym, subst, ◌∙◌, arith}
use Rattle.std.specs.Ordering.{nat_cmp}
use Rattle.std.specs.BTreeMap as tree
use Rattle.std.proofs.lemmas.Bool.{both_ways, false≢true}
use Rattle.layout.specs.StateLimits.{limits_of}
use Rattle.model.specs.declared.limits.Limits.{Limits}
use Rattle.model.specs.Records.{with_file_bytes}
use Rattle.model.specs.Volumes.{Node, is_file_node, with_node}
use Rattle.inofile.specs.Inodes.{loaded}
use Rattle.records.specs.Contents.{KeepsRewriteBounds, RewriteRoom, RewritesIn, bytes_after, mode_after, rewriting}
use Rattle.records.specs.Steps.{TakesUpdate, with_given_mode}
use Rattle.records.specs.declared.steps.Update.TheVariants as updates
use Rattle.records.proofs.DetailLaws.{known_of}
use Rattle.records.proofs.ContentLaws.{bars_rewriting, bounds_kept, file_changed, rewrite_within, rewriting_applied, rewriting_applies, rewriting_knows, rewriting_place, tells_rewriting}
use Rattle.records.proofs.Deciding.{decides, obstructs, stops}
use Rattle.records.proofs.SizeLaws.{loaded_bytes}
use Rattle.records.proofs.StandLaws.{no_look}
use Rattle.records.proofs.contents.plan_bytes.Goals as goal

pub returns-then-not-keeps_bounds-clause-decides : goal.returns-then-not-keeps_bounds-clause-decides
returns-then-not-keeps_bounds-clause-decides g c = obstructs no_look (tells_rewriting c.args.number c.args.rewrite.now) (λ detail disk settled v stands volume. bars_rewriting _ v c.args.number c.args.rewrite.now (λ can.
    both_ways c.keeps_bounds.result c.if-not-keeps_bounds.true
    (c.keeps_bounds.ensures.1 (subst (λ (l : Limits). KeepsRewriteBounds l c.args.rewrite.now) (sym c.limits.ensures) (bounds_kept (limits_of c.args.inodes.now.geometry) v c.args.number c.args.rewrite.now can)))))

pub plan_number-requires-clause-bounds : goal.plan_number-requires-clause-bounds
plan_number-requires-clause-bounds g c = subst (λ (l : Limits). KeepsRewriteBounds l c.args.rewrite.now) c.limits.ensures (c.keeps_bounds.ensures.0 c.if-not-keeps_bounds.false)

pub returns-then-not-is_number-clause-decides : goal.returns-then-not-is_number-clause-decides
returns-then-not-is_number-clause-decides g c = obstructs no_look (tells_rewriting c.args.number c.args.rewrite.now) (λ detail disk settled v stands volume. bars_rewriting _ v c.args.number c.args.rewrite.now (λ can.
    false≢true (subst (λ (o : Option Node). IsTrue (is_file_node o)) (c.is_number.ensures.no c.if-not-is_number.true detail v (known_of detail (limits_of c.args.inodes.now.geometry) (rewriting c.args.number c.args.rewrite.now) v volume))
    (file_changed (limits_of c.args.inodes.now.geometry) v c.args.number c.args.rewrite.now can))))

pub returns-in_err-planned-clause-decides : goal.returns-in_err-planned-clause-decides
returns-in_err-planned-clause-decides g c = stops c.from_residual.result c.from_residual.ensures.1 c.in_err-planned.ensures.looks c.in_err-planned.ensures.damaged

pub returns-in_default-clause-decides : goal.returns-in_default-clause-decides
returns-in_default-clause-decides g c = obstructs c.in_ok-planned.ensures.looks (tells_rewriting c.args.number c.args.rewrite.now) (λ detail disk settled v stands volume. bars_rewriting _ v c.args.number c.args.rewrite.now (λ can.
    both_ways (is_file_node (v c.args.number)) (sym (c.in_ok-planned.ensures.planned detail disk settled v stands).0 ∙ ap is_some c.in_default.is)
    (file_changed (limits_of c.args.inodes.now.geometry) v c.args.number c.args.rewrite.now can)))

pub returns-clause-decides : goal.returns-clause-decides
returns-clause-decides g c =
    let n = c.args.number in
    let planned = c.in_ok-planned.ensures in
    let s = c.plan_number.new.inodes in
    let f = bytes_after c.args.rewrite.now in
    decides planned.looks
    (record {
      first = subst (λ m. TakesUpdate s n (updates.Bytes c.in-Some.change m)) (sym c.mode.ensures) (subst (λ o. IfSome o (λ x. TakesUpdate s n (updates.Bytes x (mode_after c.args.rewrite.now)))) c.in-Some.is planned.ready);
      next = tt;
      last = tt;
      next_apart = tt;
      last_apart = tt;
      apart = tt;
    })
    (λ detail disk settled v stands.
    let told = planned.planned detail disk settled v stands in
    let is : IsTrue (is_file_node (v n)) = sym told.0 ∙ ap is_some c.in-Some.is in
    let gives = subst (λ o. IfSome o (RewritesIn detail disk f (loaded s n))) c.in-Some.is told.1 in
    let mode = c.mode.result in
    let w = with_node n (with_given_mode mode (with_file_bytes f (v n))) v in
    let now = planned.looks.kept {detail = detail} disk settled v stands in
    let same = loaded_bytes detail disk s.geometry.inodes (settled n) (v n) (tree.get nat_cmp s.slots n) (now.volume.objects n) is in
    let room = rewrite_within n c.args.rewrite.now (loaded s n) c.in-Some.change v same (subst (λ o. IfSome o (RewriteRoom c.args.rewrite.now (loaded s n))) c.in-Some.is planned.stores) in
    record {
      between = w;
      second = w;
      first = (with_given_mode mode (with_file_bytes f (v n)), (f, is, gives, refl), refl);
      next = refl;
      last = rewriting_applied n c.args.rewrite.now v ∙ ap (λ m. with_node n (with_given_mode m (with_file_bytes f (v n))) v) (sym c.mode.ensures);
      next_beside = tt;
      last_beside = tt;
      beside = tt;
      firsts = room.0 + 2;
      nexts = 0;
      lasts = 0;
      first_room = (room.0, omega arith, room.1);
      next_room = tt;
      last_room = tt;
      within = omega (arith, room.2);
      knows = rewriting_knows n c.args.rewrite.now s (subst (λ o. IfSome o (λ x. TakesUpdate s n (updates.Bytes x (mode_after c.args.rewrite.now)))) c.in-Some.is planned.ready).at_hand.known;
    })
    (λ detail disk settled v stands.
    rewriting_applies (limits_of c.args.inodes.now.geometry) v n c.args.rewrite.now (sym (planned.planned detail disk settled v stands).0 ∙ ap is_some c.in-Some.is)
    (subst (λ (l : Limits). KeepsRewriteBounds l c.args.rewrite.now) c.limits.ensures (c.keeps_bounds.ensures.0 c.if-not-keeps_bounds.false)))
    (λ detail disk settled v stands. rewriting_place (limits_of c.args.inodes.now.geometry) v n c.args.rewrite.now)
    (λ detail disk settled v stands. planned.parts detail disk settled v stands (sym (planned.planned detail disk settled v stands).0 ∙ ap is_some c.in-Some.is))

pub returns-clause-bounds : goal.returns-clause-bounds
returns-clause-bounds g c = subst (λ (l : Limits). KeepsRewriteBounds l c.args.rewrite.now) c.limits.ensures (c.keeps_bounds.ensures.0 c.if-not-keeps_bounds.false)
