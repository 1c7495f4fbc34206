use Rattle.std.proofs.Common.{rules, ◌≡◌, ◌≤◌, ◌<◌, ℕ, List, IsTrue, refl, sym, ap, subst, ◌∙◌}
use Rattle.std.proofs.lemmas.Bool.{both_ways}
use Rattle.std.proofs.lemmas.Result.{IfOk-weaker}
use Rattle.layout.specs.StateLimits.{limits_of}
use Rattle.layout.specs.Limits.{Sizes}
use Rattle.layout.specs.Record.{KeepsMadeLimits, made_of, permissions_of_made}
use Rattle.layout.specs.Trees.{has_attributes}
use Rattle.layout.specs.declared.inode.Inode.{Inode}
use Rattle.layout.specs.declared.trees.Layout.{Layout}
use Rattle.model.specs.Attributes.{FitAttributes, new_attributes}
use Rattle.model.specs.Records.{IsMade, Made, TakesName, create, directory, file, symbolic_link}
use Rattle.model.specs.Volumes.{Volume}
use Rattle.model.specs.declared.errno.Errno.TheVariants.{DIRFULL}
use Rattle.paths.specs.Standing.{StandsIn}
use Rattle.paths.proofs.Looks.{looks_more, looks_reads}
use Rattle.records.specs.Obstacles.{BarsEdit, may_bar}
use Rattle.images.specs.Soundness.{Detail}
use Rattle.records.specs.Planning.{IsKnownVolume}
use Rattle.records.proofs.DetailLaws.{known_of}
use Rattle.records.proofs.Deciding.{obstructs, reads_in, stops}
use Rattle.records.proofs.Failures.{refusal_is}
use Rattle.records.proofs.StandLaws.{no_look, settled_layout}
use Rattle.records.proofs.plans.plan_create.Goals as goal

-- what a file system of these formats may have made, a record may say
made_kept : (s : Sizes) (made : Made) → IsMade (limits_of s) made → KeepsMadeLimits made
made_kept s (file permissions) is = tt
made_kept s (directory permissions) is = tt
made_kept s (symbolic_link permissions text) is = (is.1, is.2)

-- and its attributes are kept
made_fits : (s : Sizes) (made : Made) → IsMade (limits_of s) made → FitAttributes (has_attributes s.layout) (new_attributes (permissions_of_made made))
made_fits s (file permissions) is = is
made_fits s (directory permissions) is = is
made_fits s (symbolic_link permissions text) is = is.0

pub returns-then-not-is_made-clause-decides : goal.returns-then-not-is_made-clause-decides
returns-then-not-is_made-clause-decides g c = obstructs no_look refl (λ detail disk settled v stands volume may. both_ways c.is_made.result c.if-not-is_made.true ((c.is_made.ensures c.args.inodes.now.geometry (sym (c.layout-layout.ensures ∙ ap (λ (s : Sizes). s.layout) c.geometry-2.ensures))).1 may.2))

pub returns-in_err-vacant-clause-decides : goal.returns-in_err-vacant-clause-decides
returns-in_err-vacant-clause-decides g c = stops c.from_residual.result c.from_residual.ensures.1 c.in_err-vacant.ensures.looks (λ detail disk settled v stands reads. c.in_err-vacant.ensures.damaged {detail = detail} disk settled v stands)

pub returns-then-not-vacant-clause-decides : goal.returns-then-not-vacant-clause-decides
returns-then-not-vacant-clause-decides g c = obstructs c.in_ok-vacant.ensures.looks refl (λ detail disk settled v stands volume may.
    both_ways c.in_ok-vacant.vacant c.if-not-vacant.true (c.in_ok-vacant.ensures.found disk settled v stands ∙ may.3))

pub new_object-requires-clause-limits : goal.new_object-requires-clause-limits
new_object-requires-clause-limits g c =
    let layout : c.args.inodes.now.geometry.layout ≡ c.layout-layout.result = sym (c.layout-layout.ensures ∙ ap (λ (s : Sizes). s.layout) c.geometry-2.ensures) in
    made_kept c.args.inodes.now.geometry (made_of c.args.object.now) ((c.is_made.ensures c.args.inodes.now.geometry layout).0 c.if-not-is_made.false)

pub new_object-requires-clause-kept : goal.new_object-requires-clause-kept
new_object-requires-clause-kept g c =
    let layout : c.args.inodes.now.geometry.layout ≡ c.layout-layout.result = sym (c.layout-layout.ensures ∙ ap (λ (s : Sizes). s.layout) c.geometry-2.ensures) in
    let made = made_of c.args.object.now in
    subst (λ (l : Layout). FitAttributes (has_attributes l) (new_attributes (permissions_of_made made))) layout
    (made_fits c.args.inodes.now.geometry made ((c.is_made.ensures c.args.inodes.now.geometry layout).0 c.if-not-is_made.false))

pub returns-in_err-new-clause-decides : goal.returns-in_err-new-clause-decides
returns-in_err-new-clause-decides g c = stops c.from_residual-in_err-new.result c.from_residual-in_err-new.ensures.1 (looks_reads c.in_ok-vacant.ensures.looks c.in_err-new.ensures.reads) (λ detail disk settled v stands reads is.
    c.in_err-new.ensures.damaged disk (c.in_ok-vacant.ensures.looks.kept disk settled v stands).shows is)

pub returns-clause-decides : goal.returns-clause-decides
returns-clause-decides g c =
    let vacant = c.in_ok-vacant.ensures in
    let made = c.in_ok-new.ensures in
    let new = c.plan_new.ensures in
    let before = looks_reads vacant.looks made.reads in
    let low : 4 ≤ c.args.number = search rules in
    let high : c.args.number < c.args.inodes.now.geometry.inodes = search rules in
    let layout : c.args.inodes.now.geometry.layout ≡ c.layout-layout.result = sym (c.layout-layout.ensures ∙ ap (λ (s : Sizes). s.layout) c.geometry-2.ensures) in
    let good : IsMade (limits_of c.args.inodes.now.geometry) (made_of c.args.object.now) = (c.is_made.ensures c.args.inodes.now.geometry layout).0 c.if-not-is_made.false in
    let is_free = λ (detail : Detail) (disk : ℕ → List ℕ) (settled : ℕ → Inode) (v : Volume) (stands : StandsIn detail g.B.Blocks disk settled v c.args.blocks.now c.args.inodes.now).
    sym (vacant.found disk settled v stands) ∙ c.if-not-vacant.false in
    record {
      looks = looks_more before new.looks;
      own = refusal_is (λ e. IsTrue (may_bar (create c.args.number c.args.parent (made_of c.args.object.now) c.args.name.now) e)) (λ e. e ≡ DIRFULL) c.plan_new.result new.full new.full (λ is. refl);
      ready = new.ready;
      does = λ {detail} disk settled v stands.
          new.does detail disk settled v (made_of c.args.object.now) (before.kept disk settled v stands) (is_free detail disk settled v stands)
          (λ k.
          let now = vacant.looks.kept disk settled v stands in
          made.object detail disk now.shows k (settled c.args.number) (settled_layout c.is_vacant.new.blocks c.is_vacant.new.inodes c.args.number now ∙ ap (λ (s : Sizes). s.layout) vacant.looks.geometry ∙ layout)) made.room;
      applies = λ {detail} disk settled v stands.
          IfOk-weaker c.plan_new.result _ _ (λ p taken. record {
            low = low;
            high = high;
            vacant = is_free detail disk settled v stands;
            takes = subst (λ (s : Sizes). TakesName (limits_of s) v c.args.parent c.args.name.now) before.geometry taken;
            good = good;
          })
          (new.takes detail disk settled v (before.kept disk settled v stands));
      place = λ disk settled v stands. IfOk-weaker c.plan_new.result _ _ (λ p taken. tt) (new.takes _ disk settled v (before.kept disk settled v stands));
      refused = λ {detail} disk settled v stands volume.
          refusal_is (BarsEdit (limits_of c.args.inodes.now.geometry) v (create c.args.number c.args.parent (made_of c.args.object.now) c.args.name.now))
          (λ e. TakesName (limits_of c.is_vacant.new.inodes.geometry) v c.args.parent c.args.name.now → ⊥) c.plan_new.result new.full
          (new.refused detail disk settled v (before.kept disk settled v stands) (subst (λ (s : Sizes). IsKnownVolume detail (limits_of s) v) (sym before.geometry) (known_of detail (limits_of c.args.inodes.now.geometry) (create c.args.number c.args.parent (made_of c.args.object.now) c.args.name.now) v volume)))
          (λ full. (
            (low, high, good, is_free detail disk settled v stands),
            λ takes. full (subst (λ (s : Sizes). TakesName (limits_of s) v c.args.parent c.args.name.now) (sym before.geometry) takes),
          ));
      reads = λ {detail} disk settled v stands.
          IfOk-weaker c.plan_new.result _ _ (λ p taken. reads_in detail v (create c.args.number c.args.parent (made_of c.args.object.now) c.args.name.now) tt)
          (new.takes detail disk settled v (before.kept disk settled v stands));
      damaged = λ {detail} disk settled v stands reads is. new.damaged detail disk settled v (before.kept disk settled v stands) is;
    }
