use Rattle.std.proofs.Common.{rules, ◌∙◌, ℕ, List, Some, Err, IfErr, IfOk, inl, refl, sym, ap, subst}
use Rattle.std.proofs.lemmas.Bool.{false≢true}
use Rattle.layout.specs.StateLimits.{limits_of}
use Rattle.layout.specs.Limits.{Sizes}
use Rattle.layout.specs.Record.{permissions_of_made}
use Rattle.model.specs.Attributes.{FitAttributes, new_attributes}
use Rattle.model.specs.Records.{Made, IsMade, TakesName, create, is_vacant, node_of, stamped}
use Rattle.model.specs.Volumes.{IsVolume}
use Rattle.model.specs.declared.errno.Errno.TheVariants.{DIRFULL}
use Rattle.inofile.specs.Objects.{IsObject}
use Rattle.paths.proofs.Looks.{looks_more}
use Rattle.records.specs.Failures.{read_outcome}
use Rattle.records.specs.Prepared.{Does}
use Rattle.records.specs.declared.failure.Failure.{Failure}
use Rattle.records.specs.declared.prepared.Prepared.{Prepared}
use Rattle.images.specs.Soundness.{by_bytes}
use Rattle.records.proofs.StandLaws.{looks_beside, looks_of_reads, settled_layout, stands_over, stands_with}
use Rattle.calls.specs.Changing.{made_by}
use Rattle.calls.specs.Making.{CreatesObject, IsLeastFree, MakesIn}
use Rattle.calls.proofs.AttributeLaws.{fit_where}
use Rattle.calls.proofs.PrepareSteps.{fails_by, follows, grants, refuses, stops, stops_later}
use Rattle.calls.proofs.making.make_in.Goals as goal

pub returns-in_err-new-clause-prepares : goal.returns-in_err-new-clause-prepares
returns-in_err-new-clause-prepares g c = stops c.from_residual.result c.from_residual.ensures.1 (looks_of_reads c.in_err-new.ensures.reads) (λ disk settled v stands. c.in_err-new.ensures.damaged disk stands.shows)

pub returns-in_default-clause-prepares : goal.returns-in_default-clause-prepares
returns-in_default-clause-prepares g c =
    follows (looks_beside c.in_ok-new.ensures.reads c.least_free.ensures.geometry c.least_free.ensures.slots c.least_free.ensures.volume) c.refuse_in.ensures.prepares (λ disk settled v table stands volume mounted r makes.
    let limits = limits_of c.args.inodes.now.geometry in
    let made = made_by c.args.object in
    let read = stands_over {G = g.B.Blocks} c.args.blocks.now c.new_object.new.blocks c.args.inodes.now c.new_object.ensures.reads.count (c.new_object.ensures.reads.same disk stands.shows) stands.volume in
    subst (λ (x : List ℕ). MakesIn limits c.args.now v c.args.parent x made r) c.as_slice.ensures.value (makes made (c.in_default.ensures.none _ disk settled v read.volume)))

pub returns-in_err-vacant-clause-prepares : goal.returns-in_err-vacant-clause-prepares
returns-in_err-vacant-clause-prepares g c =
    stops_later c.from_residual-in_err-vacant.result c.from_residual-in_err-vacant.ensures.1
    (looks_beside c.in_ok-new.ensures.reads c.least_free.ensures.geometry c.least_free.ensures.slots c.least_free.ensures.volume) c.in_err-vacant.ensures.looks (λ disk settled v stands. c.in_err-vacant.ensures.damaged disk settled v stands)

pub returns-then-not-vacant-clause-prepares : goal.returns-then-not-vacant-clause-prepares
returns-then-not-vacant-clause-prepares g c =
    let before = looks_more (looks_beside c.in_ok-new.ensures.reads c.least_free.ensures.geometry c.least_free.ensures.slots c.least_free.ensures.volume) c.in_ok-vacant.ensures.looks in
    record {
      looks = record {
        reads = search rules;
        geometry = before.geometry;
        needs = before.needs;
        kept = before.kept;
      };
      own = tt;
      ready = tt;
      timed = tt;
      does = λ disk settled v stands. tt;
      answers = λ disk settled v table stands volume mounted. tt;
      damaged = λ disk settled v stands is.
          let read = stands_over c.args.blocks.now c.new_object.new.blocks c.args.inodes.now c.new_object.ensures.reads.count (c.new_object.ensures.reads.same disk stands.shows) stands.volume in
          let now = stands_with c.new_object.new.blocks c.args.inodes.now c.least_free.new.self c.least_free.ensures.volume read in
          let free = c.in-Some.ensures.free _ disk settled v read.volume in
          absurd (false≢true (sym c.if-not-vacant.true ∙ c.in_ok-vacant.ensures.found disk settled v now ∙ ap (λ n. is_vacant (v n)) c.new-number.ensures ∙ ap is_vacant free));
    }

pub returns-in_default-new-clause-prepares : goal.returns-in_default-new-clause-prepares
returns-in_default-new-clause-prepares g c =
    refuses (looks_more (looks_beside c.in_ok-new.ensures.reads c.least_free.ensures.geometry c.least_free.ensures.slots c.least_free.ensures.volume) c.in_ok-vacant.ensures.looks) refl
    (λ disk settled v table stands volume mounted. inl (refl, λ takes. c.in_default-new.ensures.none takes.name))

pub returns-in_err-prepared-clause-prepares : goal.returns-in_err-prepared-clause-prepares
returns-in_err-prepared-clause-prepares g c =
    let before = looks_more (looks_beside c.in_ok-new.ensures.reads c.least_free.ensures.geometry c.least_free.ensures.slots c.least_free.ensures.volume) c.in_ok-vacant.ensures.looks in
    let all = c.in_err-prepared.ensures in
    fails_by {X = Prepared} DIRFULL refl _ c.from_residual-in_err-prepared.result c.from_residual-in_err-prepared.ensures.1 (looks_more before all.looks) all.full
    (λ disk settled v stands is. all.damaged by_bytes disk settled v (before.kept disk settled v stands) is)
    (λ disk settled v table stands volume mounted is.
    let not = subst (λ (f : Failure). IfOk (read_outcome {T = Prepared} (Err f)) (λ r. IfErr r (λ _. TakesName (limits_of c.is_vacant.new.inodes.geometry) v c.args.parent c.deref.result.now → ⊥))) is
    (all.refused by_bytes disk settled v (before.kept disk settled v stands) (subst (λ (s : Sizes). IsVolume (limits_of s) v) (sym before.geometry) volume)) in
    inl (
      refl,
      subst (λ (x : List ℕ). TakesName (limits_of c.args.inodes.now.geometry) v c.args.parent x → ⊥) (c.deref.ensures.value ∙ c.in-Some-new.ensures.some)
          (subst (λ (z : Sizes). TakesName (limits_of z) v c.args.parent c.deref.result.now → ⊥) before.geometry not),
    ))

pub returns-clause-prepares : goal.returns-clause-prepares
returns-clause-prepares g c =
    let before = looks_more (looks_beside c.in_ok-new.ensures.reads c.least_free.ensures.geometry c.least_free.ensures.slots c.least_free.ensures.volume) c.in_ok-vacant.ensures.looks in
    let made = made_by c.args.object in
    let name = c.in-Some-new.name.bytes.items in
    let n = c.new-number.result in
    let limits = limits_of c.args.inodes.now.geometry in
    rw c.note_made.ensures (grants (looks_more before c.in_ok-prepared.ensures.looks) c.in_ok-prepared.ensures.ready (refl, c.requires.kept)
    (λ disk settled v stands.
    let read = stands_over {G = g.B.Blocks} c.args.blocks.now c.new_object.new.blocks c.args.inodes.now c.new_object.ensures.reads.count (c.new_object.ensures.reads.same disk stands.shows) stands.volume in
    let free = ap v c.new-number.ensures ∙ c.in-Some.ensures.free _ disk settled v read.volume in
    let there = λ (k : ℕ). subst (λ (m : Made). IsObject disk k (settled n) c.in_ok-new.new (Some (node_of m))) c.as_new.ensures.says (c.in_ok-new.ensures.object by_bytes disk stands.shows k (settled n) (settled_layout c.args.blocks.now c.args.inodes.now n stands ∙ sym (c.layout-layout.ensures ∙ ap (λ s. s.layout) c.geometry.ensures))) in
    subst (λ (x : List ℕ). Does disk settled c.prepare_new.new.inodes v c.in_ok-prepared.prepared (stamped c.args.now (create n c.args.parent made x))) c.deref.ensures.value
    (c.in_ok-prepared.ensures.does _ disk settled v made (before.kept disk settled v stands) (ap is_vacant free) there c.in_ok-new.ensures.room))
    (λ disk settled v table stands volume mounted.
    let read = stands_over {G = g.B.Blocks} c.args.blocks.now c.new_object.new.blocks c.args.inodes.now c.new_object.ensures.reads.count (c.new_object.ensures.reads.same disk stands.shows) stands.volume in
    let least : IsLeastFree c.args.inodes.now.geometry.inodes v c.in-Some.free = record {
      low = c.in-Some.ensures.within.0;
      high = c.in-Some.ensures.within.1;
      free = c.in-Some.ensures.free _ disk settled v read.volume;
      least = c.in-Some.ensures.least _ disk settled v read.volume;
    } in (
      n,
      ap (λ (x : List ℕ). stamped c.args.now (create n c.args.parent made x)) c.in-Some-new.ensures.some,
      subst (IsMade limits) c.as_new.ensures.says (c.as_new.ensures.good c.args.inodes.now.geometry
          (subst (λ (m : Made). FitAttributes limits.has_attributes (new_attributes (permissions_of_made m))) (sym c.as_new.ensures.says) (fit_where limits.has_attributes c.args.now _ c.requires.now c.requires.kept))),
      subst (λ (x : List ℕ). TakesName (limits_of c.args.inodes.now.geometry) v c.args.parent x) (c.deref.ensures.value ∙ c.in-Some-new.ensures.some)
          (subst (λ (z : Sizes). TakesName (limits_of z) v c.args.parent c.deref.result.now) before.geometry (c.in_ok-prepared.ensures.takes _ disk settled v (before.kept disk settled v stands))),
      subst (IsLeastFree c.args.inodes.now.geometry.inodes v) (sym c.new-number.ensures) least,
    )))

pub returns-in_default-clause-creates : goal.returns-in_default-clause-creates
returns-in_default-clause-creates g c =
    subst (λ (s : Sizes). IfOk c.refuse_in.result (λ x. CreatesObject s.inodes x.change)) c.least_free.ensures.geometry c.refuse_in.ensures.creates
