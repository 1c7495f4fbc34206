use Rattle.std.proofs.Common.{rules, ◌≡◌, ◌≤◌, Option, IfOk, IfSome, ap, sym, subst, ◌∙◌}
use Rattle.layout.specs.StateLimits.{limits_of}
use Rattle.layout.specs.Limits.{Sizes}
use Rattle.layout.specs.Trees.{greatest_size}
use Rattle.layout.specs.declared.trees.Layout.{Layout}
use Rattle.inode.specs.declared.object.Object.{Object}
use Rattle.inofile.specs.Objects.{IsObjectOrNone}
use Rattle.inode.proofs.BaseLaws.{based_layout}
use Rattle.inofile.proofs.RoomLaws.{back_needs}
use Rattle.paths.proofs.Looks.{looks_err, looks_more}
use Rattle.records.specs.Contents.{RewriteRoom, RewritesIn, bytes_after, end_of}
use Rattle.records.proofs.BlockLaws.{parts_read, reads_sound}
use Rattle.records.proofs.ContentLaws.{end_within, record_bounds, told_both}
use Rattle.paths.proofs.Objects.{object_or_none}
use Rattle.records.proofs.StandLaws.{settled_layout, stands_over}
use Rattle.records.proofs.contents.plan_number.Goals as goal

pub plan_object-planned-requires : goal.plan_object-planned-requires
plan_object-planned-requires g c = record_bounds (limits_of c.args.inodes.now.geometry) c.args.rewrite.now c.requires.bounds

pub returns-in_err-load_to_change-clause-looks : goal.returns-in_err-load_to_change-clause-looks
returns-in_err-load_to_change-clause-looks g c = looks_err c.from_residual.result c.from_residual.ensures.1 c.in_err-load_to_change.ensures.looks

pub returns-in_err-load_to_change-clause-damaged : goal.returns-in_err-load_to_change-clause-damaged
returns-in_err-load_to_change-clause-damaged g c = λ detail disk settled v stands reads is. c.in_err-load_to_change.ensures.damaged {detail = detail} disk settled v stands (search rules)

pub returns-clause-looks : goal.returns-clause-looks
returns-clause-looks g c =
    let count = g.B.Blocks.count c.load_to_change.new.blocks in
    let take = c.take-object.ensures in
    let plan = c.plan_object-planned.ensures in
    looks_more c.in_ok-load_to_change.ensures.looks (record {
      reads = plan.reads;
      geometry = c.put_back.ensures.geometry ∙ take.geometry;
      needs = back_needs c.load_to_change.new.inodes c.take-object.new.self c.put_back.new.self c.get-n.result c.take-object.result c.plan_object-planned.new.object plan.same take.slots take.back c.put_back.ensures.slots c.put_back.ensures.here;
      kept = λ {detail} disk settled v now.
          stands_over c.load_to_change.new.blocks c.plan_object-planned.new.blocks c.put_back.new.self plan.reads.count (plan.reads.same disk now.shows)
          (c.put_back.ensures.volume _ c.take-object.result count disk settled v (take.without _ count disk settled v now.volume) plan.same (plan.knows _ disk));
    })

pub returns-clause-planned : goal.returns-clause-planned
returns-clause-planned g c = rw (sym c.get-n.ensures) (λ detail disk settled v stands.
    let count = g.B.Blocks.count c.load_to_change.new.blocks in
    let take = c.take-object.ensures in
    let plan = c.plan_object-planned.ensures in
    let n = c.get-n.result in
    let inodes = c.load_to_change.new.inodes.geometry.inodes in
    let now = c.in_ok-load_to_change.ensures.looks.kept {detail = detail} disk settled v stands in
    let o = object_or_none detail disk inodes (settled n) c.take-object.result (v n) (take.stands _ count disk settled v now.volume) (take.stands_for_none _ count disk settled v now.volume) in
    told_both c.plan_object-planned.result _ _ (plan.told detail disk inodes (settled n) (v n) o)
    (subst (λ (x : Option Object). IfOk c.plan_object-planned.result (λ w. IfSome w (RewritesIn detail disk (bytes_after c.args.rewrite.now) x))) (sym c.put_back.ensures.loaded)
    (plan.rewrites detail disk inodes (settled n) (v n) now.shows o)))

pub returns-clause-parts : goal.returns-clause-parts
returns-clause-parts g c = rw (sym c.get-n.ensures) (λ detail disk settled v stands file.
    let count = g.B.Blocks.count c.load_to_change.new.blocks in
    let take = c.take-object.ensures in
    let n = c.get-n.result in
    let inodes = c.load_to_change.new.inodes.geometry.inodes in
    let now = c.in_ok-load_to_change.ensures.looks.kept {detail = detail} disk settled v stands in
    let o = object_or_none detail disk inodes (settled n) c.take-object.result (v n) (take.stands _ count disk settled v now.volume) (take.stands_for_none _ count disk settled v now.volume) in
    parts_read detail disk inodes (settled n) v n c.take-object.result c.args.rewrite.now c.plan_object-planned.result o file (λ object some. c.plan_object-planned.ensures.whole disk object now.shows some))

pub returns-clause-damaged : goal.returns-clause-damaged
returns-clause-damaged g c = rw (sym c.get-n.ensures) (λ detail disk settled v stands reads is.
    let count = g.B.Blocks.count c.load_to_change.new.blocks in
    let take = c.take-object.ensures in
    let n = c.get-n.result in
    let s = c.load_to_change.new.inodes in
    let now = c.in_ok-load_to_change.ensures.looks.kept {detail = detail} disk settled v stands in
    let o = object_or_none detail disk s.geometry.inodes (settled n) c.take-object.result (v n) (take.stands _ count disk settled v now.volume) (take.stands_for_none _ count disk settled v now.volume) in
    c.plan_object-planned.ensures.damaged disk now.shows is (λ object some.
    let there = subst (λ (x : Option Object). IsObjectOrNone detail disk s.geometry.inodes (settled n) x (v n)) some o in
    let layout : object.file.tree.layout ≡ c.args.inodes.now.geometry.layout =
    based_layout (settled n) object.file.tree there.base
    ∙ settled_layout c.load_to_change.new.blocks s n now
    ∙ ap (λ (z : Sizes). z.layout) c.in_ok-load_to_change.ensures.looks.geometry in
    λ kind. (
      reads_sound disk s.geometry.inodes (settled n) v n object detail c.args.rewrite.now count there
          (λ i can. c.objects_stand_in_their_grammar.ensures detail count disk settled s v n i object (v n) now.volume there can) reads kind,
      subst (λ (l : Layout). end_of c.args.rewrite.now ≤ greatest_size l) (sym layout) (end_within (limits_of c.args.inodes.now.geometry) c.args.rewrite.now c.requires.bounds),
    )))

pub returns-clause-stores : goal.returns-clause-stores
returns-clause-stores g c =
    rw (sym c.get-n.ensures) (subst (λ (x : Option Object). IfOk c.plan_object-planned.result (λ w. IfSome w (RewriteRoom c.args.rewrite.now x))) (sym c.put_back.ensures.loaded) c.plan_object-planned.ensures.stores)
