use Rattle.std.proofs.Common.{Err, ◌≡◌, ◌≤◌, ◌+◌, ◌∙◌, ◌⊎◌, ℕ, Option, ap, arith, inl, sym, subst}
use Rattle.std.specs.Prelude.{IsErrOf}
use Rattle.std.proofs.lemmas.Bool.{false≢true}
use Rattle.layout.specs.Limits.{Sizes}
use Rattle.layout.specs.StateLimits.{limits_of}
use Rattle.station.specs.Images.{Images}
use Rattle.station.specs.Moments.{EachCut, Meaning}
use Rattle.station.proofs.Moments.{started, weaker}
use Rattle.layout.specs.Places.{blocks_of}
use Rattle.layout.specs.Record.{change_of}
use Rattle.model.specs.Records.{applied, work_of}
use Rattle.model.specs.Room.{cost}
use Rattle.model.specs.States.{State}
use Rattle.model.specs.Trees.{Description}
use Rattle.model.specs.Volumes.{IsMounted, Volume, swept}
use Rattle.descriptors.specs.Fits.{FitsVolume}
use Rattle.descriptors.specs.Tables.{table_of}
use Rattle.descriptors.specs.declared.table.Descriptors.{Descriptors}
use Rattle.inofile.specs.Room.{memory_room}
use Rattle.inofile.specs.Volumes.{IsVolumeOf}
use Rattle.inofile.specs.declared.inode_file.InodeFile.{InodeFile}
use Rattle.images.specs.Roots.{whole}
use Rattle.loading.specs.Images.{inodes_of}
use Rattle.records.specs.Prepared.{Does}
use Rattle.oplog.specs.declared.log.AppendError.{AppendError}
use Rattle.oplog.specs.declared.log.AppendError.TheVariants.{Device, LogFull, NoMemory}
use Rattle.system.specs.Errors.{log_error}
use Rattle.system.specs.Images.{OpensTo}
use Rattle.system.specs.declared.error.CallError.{CallError}
use Rattle.system.specs.declared.error.CallError.TheVariants.{NoRoom}
use Rattle.system.specs.Serving.{LeavesEither}
use Rattle.replay.specs.Costs.{IsSizeBefore, KnowsFile}
use Rattle.system.specs.Systems.{HasState, Parts, disk_of, system_parts}
use Rattle.system.proofs.system.System.log.Given.{Over}
use Rattle.system.proofs.system.System.log.Goals.{After-size_before-size}
use Rattle.system.proofs.system.System.log.Goals as goal

-- where nothing is done a cut leaves the state before it
before : (m : Meaning) (s t : State) → EachCut m (OpensTo m s) → LeavesEither m m s t
before m s t opens = weaker m m (OpensTo m s) (λ (i : Images). OpensTo m s i ⊎ OpensTo m t i) (started m (OpensTo m s) opens) (λ i here. inl here)

-- the size of the file, as it is before the record
sized : (g : Over) (c : After-size_before-size g) (table : ℕ → Option Description) (s : State) (serves : HasState {G = g.S.Station} c.args.self.now table s) → KnowsFile c.args.self.now.inodes (change_of c.args.change.now)
    → IsSizeBefore serves.running (change_of c.args.change.now) c.size_before-size.result
sized g c table s serves knows =
    let f = c.args.self.now in
    let disk = blocks_of (disk_of {G = g.S.Station} f) in
    c.size_before-size.ensures _ f.root.geometry.blocks disk (inodes_of (whole disk f.root).active) serves.running serves.memory.stands knows

-- an append fails for no want of room
other_reason : (e : AppendError) (x : CallError) → x ≡ log_error e → IsErrOf {T = Unit {0}} (Err x) NoRoom → ⊥
other_reason NoMemory x is err = cc
other_reason Device x is err = cc
other_reason LogFull x is err = cc

pub returns-then-not-has_room-clause-told : goal.returns-then-not-has_room-clause-told
returns-then-not-has_room-clause-told g c = λ table s serves knows.
    let size = sized g (goal.at.returns-then-not-has_room-clause-told g c).After-size_before-size table s serves knows in
    record {
      room = tt;
      short = λ is room. false≢true (sym c.if-not-has_room.true ∙ (c.has_room.ensures.told serves.running size).1 room);
      any_moment = λ advances. before _ s _ (c.served_states_open.ensures table s serves);
      done = λ advances does. tt;
    }

pub returns-then-ne-clause-told : goal.returns-then-ne-clause-told
returns-then-ne-clause-told g c = λ table s serves knows. record {
  room = tt;
  short = λ is room. cc;
  any_moment = λ advances. before _ s _ (c.served_states_open.ensures table s serves);
  done = λ advances does. tt;
}

pub returns-in-Err-clause-refused : goal.returns-in-Err-clause-refused
returns-in-Err-clause-refused g c =
    let old = system_parts {G = g.S.Station} c.args.self.now in
    let new = c.log_record.new.self in
    let stays = c.in-Err.ensures.stays in (
      stays.0 ∙ ap (λ (p : ℕ). let parts : Parts = record old { log = new.log; pledged = p; pledged_then = new.pledged_then } in parts) stays.1.0
          ∙ ap (λ (p : ℕ). let parts : Parts = record old { log = new.log; pledged = c.args.self.now.pledged; pledged_then = p } in parts) stays.1.1,
      λ written. c.in-Err.ensures.refused (λ is. written (c.log_error.ensures ∙ ap log_error is)),
    )

pub returns-in-Err-clause-told : goal.returns-in-Err-clause-told
returns-in-Err-clause-told g c = λ table s serves knows.
    let size = sized g (goal.at.returns-in-Err-clause-told g c).After-size_before-size table s serves knows in
    record {
      room = tt;
      short = λ is room. other_reason c.in-Err.error c.log_error.result c.log_error.ensures is;
      any_moment = λ advances. (c.log_record.ensures.told table s serves size advances).any_moment;
      done = λ advances does. tt;
    }

pub returns-clause-told : goal.returns-clause-told
returns-clause-told g c = λ table s serves knows.
    let size = sized g (goal.at.returns-clause-told g c).After-size_before-size table s serves knows in
    record {
      room = (c.has_room.ensures.told serves.running size).0 c.if-not-has_room.false;
      short = λ is room. cc;
      any_moment = λ advances. (c.log_record.ensures.told table s serves size advances).any_moment;
      done = λ advances does.
          let f = c.args.self.now in
          let change = change_of c.args.change.now in
          let v = serves.running in
          let disk = blocks_of (disk_of {G = g.S.Station} f) in
          let settled = inodes_of (whole disk f.root).active in
          let count = f.root.geometry.blocks in
          let stays = c.log_record.ensures.stays.0 in
          let same = sym (ap (λ (k : Parts). k.inodes) stays) in
          let files : f.files ≡ c.log_record.new.self.files = sym (ap (λ (k : Parts). k.files) stays) in
          let opened : table ≡ table_of c.log_record.new.self.files = serves.opened ∙ ap table_of files in
          let after : (ℕ → Option Description) → Volume = λ t. swept t (applied change v) in
          let over = subst (λ (i : InodeFile). IsVolumeOf count disk settled i v) same serves.memory.stands in
          let doing = subst (λ (i : InodeFile). Does disk settled i v c.args.prepared change) same does in
          let mounted = subst (λ (t : ℕ → Option Description). IsMounted v t) opened serves.mounted in
          let within = subst (λ (z : Sizes). memory_room serves.first c.commit_swept.new.inodes (after (table_of c.log_record.new.self.files)) ≤ memory_room serves.first f.inodes v + cost (limits_of z).costs (work_of v change)) f.sizes
          (subst (λ (i : InodeFile). memory_room serves.first c.commit_swept.new.inodes (after (table_of c.log_record.new.self.files)) ≤ memory_room serves.first i v + cost (limits_of i.geometry).costs (work_of v change))
          (sym same) (c.commit_swept.ensures.room serves.first count disk settled v change over doing mounted)) in
          let stored = subst (λ (t : ℕ → Option Description). memory_room serves.first c.commit_swept.new.inodes (after t) ≤ c.log_record.new.self.pledged_then) (sym opened)
          (omega (arith, within, serves.stored, (c.in_default.ensures.pledges v size).1)) in
          (c.in_default.ensures.told table s serves size advances).logged c.commit_swept.new.inodes c.commit_swept.new.files
          (subst (λ (t : ℕ → Option Description). IsVolumeOf count disk settled c.commit_swept.new.inodes (after t)) (sym opened)
          (c.commit_swept.ensures.volume count disk settled v change over doing mounted))
          stored
          (opened ∙ sym c.commit_swept.ensures.opened)
          (subst (λ (t : ℕ → Option Description). FitsVolume c.commit_swept.new.files (after t)) (sym opened)
          (c.commit_swept.ensures.fits count disk settled v change over doing mounted
          (subst (λ (d : Descriptors). FitsVolume d v) files serves.fits)
          (subst (λ (t : ℕ → Option Description). IsMounted (after t) t) opened advances.mounted)));
    }
