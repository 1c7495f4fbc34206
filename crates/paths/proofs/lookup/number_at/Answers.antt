use Rattle.std.proofs.Common.{rules, ◌≡◌, ◌∙◌, ℕ, Option, sym, ap, subst}
use Rattle.inode.specs.declared.object.Object.{Object}
use Rattle.inofile.proofs.DetailLaws.{directory_readable}
use Rattle.inofile.proofs.RoomLaws.{back_needs}
use Rattle.inofile.specs.Objects.{IsObjectOrNone, StaysKnown}
use Rattle.inofile.specs.Settled.{content_of_object}
use Rattle.layout.specs.Limits.{Sizes}
use Rattle.paths.proofs.LookingUp.{fails_into}
use Rattle.paths.proofs.Looks.{loads_more, looks_more, stands_over}
use Rattle.paths.proofs.Objects.{object_or_none}
use Rattle.paths.proofs.lookup.number_at.Goals as goal

pub returns-in_err-load : goal.returns-in_err-load
returns-in_err-load g c = fails_into c.from_residual.result c.from_residual.ensures.1 c.in_err-load.ensures.looks c.load.ensures.loads (λ detail disk settled v stands. c.in_err-load.ensures.damaged {detail = detail} disk settled v stands)

pub returns : goal.returns
returns g c =
    let take = c.take-object.ensures in
    let find = c.find_in-found.ensures in
    let put = c.put_back.ensures in
    let n = c.get-n.result in
    let memory = c.load.new.inodes in
    let before = memory.geometry.inodes in
    let same : c.inodes-count.result ≡ before = c.inodes-count.ensures.value ∙ ap (λ (s : Sizes). s.inodes) c.geometry.ensures in
    rw (sym c.get-n.ensures, c.numbered.ensures) (record {
      looks = looks_more c.in_ok-load.ensures.looks (record {
        reads = find.reads;
        geometry = put.geometry ∙ take.geometry;
        needs = back_needs memory c.take-object.new.self c.put_back.new.self n c.take-object.result c.find_in-found.new.object find.same take.slots take.back put.slots put.here;
        kept = λ {detail} disk settled v stands.
            stands_over c.load.new.blocks c.find_in-found.new.blocks c.put_back.new.self find.reads.count (find.reads.same disk stands.shows)
            (put.volume _ c.take-object.result _ disk settled v (take.without _ _ disk settled v stands.volume) find.same
            (subst (λ (k : ℕ). StaysKnown k disk c.take-object.result c.find_in-found.new.object) (same ∙ sym (ap (λ (s : Sizes). s.inodes) take.geometry)) (find.knows disk stands.shows)));
      });
      loads = loads_more c.args.inodes.now memory c.put_back.new.self c.load.ensures.loads (record {
        known = λ k is. put.stays k (take.stays k is);
        room = λ k is. put.keeps k (take.keeps k is);
        changed = λ k. (λ is. (take.changed k).0 ((put.changed k).0 is), λ is. (put.changed k).1 ((take.changed k).1 is));
      });
      within = search rules;
      found = λ {detail} disk settled v stands.
          let now = c.load.ensures.looks.kept disk settled v stands in
          let o = object_or_none detail disk before (settled n) c.take-object.result (v n) (take.stands _ _ disk settled v now.volume) (take.stands_for_none _ _ disk settled v now.volume) in
          find.found detail disk (settled n) (v n) now.shows (subst (λ (k : ℕ). IsObjectOrNone detail disk k (settled n) c.take-object.result (v n)) (sym same) o);
      damaged = λ {detail} disk settled v stands is.
          let now = c.load.ensures.looks.kept disk settled v stands in
          let o = object_or_none detail disk before (settled n) c.take-object.result (v n) (take.stands _ _ disk settled v now.volume) (take.stands_for_none _ _ disk settled v now.volume) in
          find.damaged detail disk (settled n) (v n) now.shows is (subst (λ (k : ℕ). IsObjectOrNone detail disk k (settled n) c.take-object.result (v n)) (sym same) o)
          (λ object some kind i.
          let stands_for = subst (λ (x : Option Object). IsObjectOrNone detail disk before (settled n) x (v n)) some o in
          c.objects_stand_in_their_grammar.ensures _ _ disk settled memory v n i object (v n) now.volume stands_for
          (directory_readable detail object.status.kind before (content_of_object disk object) (v n) stands_for.stands kind i));
    })
