use Rattle.std.proofs.Common.{◌≡◌, ℕ, Option, IfOk, ap, sym, subst, ◌∙◌, arith}
use Rattle.model.specs.declared.limits.Limits.{Limits}
use Rattle.layout.specs.StateLimits.{limits_of}
use Rattle.layout.specs.Limits.{Sizes}
use Rattle.inode.specs.declared.object.Object.{Object}
use Rattle.inofile.specs.Objects.{IsObjectOrNone, StaysKnown}
use Rattle.inofile.specs.Settled.{content_of_object}
use Rattle.inofile.proofs.DetailLaws.{directory_readable}
use Rattle.inofile.proofs.RoomLaws.{back_needs}
use Rattle.records.specs.Entering.{PreparesEdit}
use Rattle.paths.proofs.Objects.{object_or_none}
use Rattle.records.proofs.StandLaws.{stands_over}
use Rattle.records.proofs.directory_names.edit_known.Goals as goal

pub edit_object-edit-requires-clause-few : goal.edit_object-edit-requires-clause-few
edit_object-edit-requires-clause-few g c = omega (arith, ap (λ (l : Limits). l.directory_names) c.limits-limits.ensures)

pub returns-clause-edit : goal.returns-clause-edit
returns-clause-edit g c =
    let count = g.B.Blocks.count c.args.blocks.now in
    let take = c.take-object.ensures in
    let edit = c.edit_object-edit.ensures in
    let n = c.get-n.result in
    let before = c.args.inodes.now.geometry.inodes in
    let same : c.limits-limits.result.inodes ≡ before = ap (λ (l : Limits). l.inodes) c.limits-limits.ensures in
    rw (sym c.get-n.ensures) (record {
      looks = record {
        reads = edit.reads;
        geometry = c.put_back.ensures.geometry ∙ take.geometry;
        needs = back_needs c.args.inodes.now c.take-object.new.self c.put_back.new.self n c.take-object.result c.edit_object-edit.new.object edit.same take.slots take.back c.put_back.ensures.slots c.put_back.ensures.here;
        kept = λ {detail} disk settled v stands.
            stands_over c.args.blocks.now c.edit_object-edit.new.blocks c.put_back.new.self edit.reads.count (edit.reads.same disk stands.shows)
            (c.put_back.ensures.volume _ c.take-object.result count disk settled v (take.without _ count disk settled v stands.volume) edit.same
            (subst (λ (k : ℕ). StaysKnown k disk c.take-object.result c.edit_object-edit.new.object) (same ∙ sym (ap (λ (s : Sizes). s.inodes) take.geometry)) (edit.knows disk)));
      };
      stays = λ k is. c.put_back.ensures.stays k (take.stays k is);
      keeps = λ k is. c.put_back.ensures.keeps k (take.keeps k is);
      found = λ {detail} disk settled v stands.
          let o = object_or_none detail disk before (settled n) c.take-object.result (v n) (take.stands _ count disk settled v stands.volume) (take.stands_for_none _ count disk settled v stands.volume) in
          let at = subst (λ (k : ℕ). IsObjectOrNone detail disk k (settled n) c.take-object.result (v n)) (sym same) o in
          let after : limits_of c.put_back.new.self.geometry ≡ limits_of c.args.inodes.now.geometry = ap (λ (s : Sizes). limits_of s) (c.put_back.ensures.geometry ∙ take.geometry) in
          subst (λ (x : Option Object). IfOk c.edit_object-edit.result (PreparesEdit disk (limits_of c.put_back.new.self.geometry) c.args.wanted.now (v n) x)) (sym c.put_back.ensures.loaded)
          (subst (λ (l : Limits). IfOk c.edit_object-edit.result (PreparesEdit disk l c.args.wanted.now (v n) c.edit_object-edit.new.object)) (c.limits-limits.ensures ∙ sym after)
          (edit.edits detail disk (settled n) (v n) stands.shows at));
      damaged = λ {detail} disk settled v stands is.
          let o = object_or_none detail disk before (settled n) c.take-object.result (v n) (take.stands _ count disk settled v stands.volume) (take.stands_for_none _ count disk settled v stands.volume) in
          edit.damaged detail disk (settled n) (v n) stands.shows is (subst (λ (k : ℕ). IsObjectOrNone detail disk k (settled n) c.take-object.result (v n)) (sym same) o)
          (λ object some kind i.
          let stands_for = subst (λ (x : Option Object). IsObjectOrNone detail disk before (settled n) x (v n)) some o in
          c.objects_stand_in_their_grammar.ensures _ count disk settled c.args.inodes.now v n i object (v n) stands.volume stands_for
          (directory_readable detail object.status.kind before (content_of_object disk object) (v n) stands_for.stands kind i));
    })
