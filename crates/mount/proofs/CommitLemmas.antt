-- What comes of a commit, and of slices behind it.
use Rattle.std.proofs.Common.{◌≡◌, ◌≢◌, ◌⊎◌, inl, inr, ℕ, true, false, Option, None, Result, Ok, Err, refl, ap, sym, subst, ◌∙◌}
use Rattle.std.specs.Prelude.{IsFalse, IsTrue}
use Rattle.std.proofs.lemmas.Bool.{false≢true}
use Rattle.station.specs.Images.{Images}
use Rattle.station.specs.Moments.{EachCut, LeavesOnly, Meaning}
use Rattle.station.specs.declared.station.Station.{Ghosts}
use Rattle.station.proofs.Calls.{uses_none, uses_twice}
use Rattle.station.proofs.Moments.{joined, started, weaker}
use Rattle.model.specs.States.{State}
use Rattle.model.specs.Trees.{Description}
use Rattle.model.specs.declared.errno.Errno.{Errno}
use Rattle.model.specs.declared.errno.Errno.TheVariants.{EIO, FAILED}
use Rattle.oplog.specs.LogEnd.{LogEnd}
use Rattle.system.specs.Ahead.{HasStateAhead}
use Rattle.system.specs.Images.{OpensTo}
use Rattle.system.specs.Serving.{ServesState}
use Rattle.system.specs.Slicing.{Steps}
use Rattle.system.specs.Systems as systems
use Rattle.system.specs.Systems.{HasState}
use Rattle.system.specs.Waits.{Waits, none_waits}
use Rattle.system.specs.declared.error.PointError.{PointError}
use Rattle.mount.specs.Applying.{NoWriteFailed}
use Rattle.mount.specs.Batching.{CommitsAll, LogsAll, LogsTogether, MakesSlices, Shows, meaning_of}
use Rattle.mount.specs.declared.fs.Fs.{Fs}
use Rattle.mount.specs.declared.waiting.Waiting.{Waiting}
use Rattle.mount.proofs.StationLemmas.{moved}
use Rattle.mount.proofs.CountLemmas.{failed_after}
use Rattle.mount.proofs.WaitingLemmas.{run_commits, run_loses}

-- ---- slices

module _ {S : Type 0} {G : Ghosts S} where
  pub slices_none : (f : Fs S G) → IsFalse f.has_failed → ((s : State) → ServesState f.system s → EachCut (systems.meaning_of f.system) (OpensTo (systems.meaning_of f.system) s)) → MakesSlices f f (Ok tt)
  slices_none f runs opens = record {
    uses = uses_none (systems.meaning_of f.system);
    eio = tt;
    written = refl;
    epoch = refl;
    own = tt;
    goes = runs;
    fails = tt;
    leaves = λ s serves. started (systems.meaning_of f.system) (OpensTo (systems.meaning_of f.system) s) (opens s serves);
    serves = λ s serves. serves;
  }

  module _ (old mid new : Fs S G) where
    abbrev m : Meaning
    m = systems.meaning_of old.system

    abbrev i : Meaning
    i = systems.meaning_of mid.system

    abbrev l : Meaning
    l = systems.meaning_of new.system

    leaves_twice : (u : Unit {0}) → MakesSlices old mid (Ok u) → {r : Result (Unit {0}) Errno} → MakesSlices mid new r → (s : State) → ServesState old.system s → LeavesOnly m l (OpensTo m s)
    leaves_twice u first second s serves =
        joined m i l (OpensTo m s) (first.leaves s serves)
        (weaker i l (OpensTo i s) (OpensTo m s) (second.leaves s (first.serves s serves)) (λ c here. moved i m s c (sym first.uses.same.sectors) here))

    pub slices_more : (u v : Unit {0}) → MakesSlices old mid (Ok u) → MakesSlices mid new (Ok v) → MakesSlices old new (Ok v)
    slices_more u v first second = record {
      uses = uses_twice m i l first.uses second.uses;
      eio = tt;
      written = second.written ∙ first.written;
      epoch = second.epoch ∙ first.epoch;
      own = tt;
      goes = second.goes;
      fails = tt;
      leaves = leaves_twice u first second;
      serves = λ s serves. second.serves s (first.serves s serves);
    }

    pub slices_fail : (u : Unit {0}) (e : Errno) → MakesSlices old mid (Ok u) → MakesSlices mid new (Err e) → MakesSlices old new (Err e)
    slices_fail u e first second = record {
      uses = uses_twice m i l first.uses second.uses;
      eio = failed_after m i l first.uses second.eio;
      written = tt;
      epoch = second.epoch ∙ first.epoch;
      own = second.own;
      goes = tt;
      fails = second.fails;
      leaves = leaves_twice u first second;
      serves = λ s serves. tt;
    }

-- a slice of the point under way was written
module _ {S : Type 0} {G : Ghosts S} (old new : Fs S G) (pending : old.system.blocks.pending ≢ None) where
  pub slice_done : (u : Unit {0}) → IsFalse new.has_failed → Steps old.system new.system (Ok u) → MakesSlices old new (Ok u)
  slice_done u goes told = record {
    uses = told.counted.uses;
    eio = tt;
    written = told.counted.writes;
    epoch = ap (λ (l : LogEnd). l.epoch) (told.same pending).0;
    own = tt;
    goes = goes;
    fails = tt;
    leaves = λ s serves. told.leaves s.tree.descriptors s serves;
    serves = λ s serves. (told.rest s.tree.descriptors s serves).serves;
  }

  -- or a write failed
  pub slice_failed : (e : PointError) → IsTrue new.has_failed → Steps old.system new.system (Err e) → MakesSlices old new (Err EIO)
  slice_failed e fails told = record {
    uses = told.counted.uses;
    eio = inr told.counted.writes;
    written = tt;
    epoch = ap (λ (l : LogEnd). l.epoch) (told.same pending).0;
    own = refl;
    goes = tt;
    fails = fails;
    leaves = λ s serves. told.leaves s.tree.descriptors s serves;
    serves = λ s serves. tt;
  }

-- ---- the log took what waited, or it didn't
module _ {S : Type 0} {G : Ghosts S} where
  pub all_logged : (old new : Waiting S G) (u : Unit {0}) → LogsTogether old.fs new.fs old.records new.records (Ok u) → LogsAll old new (Ok u)
  all_logged old new u told = record {
    logs = record {
      counted = told.counted;
      epoch = told.epoch;
      own = tt;
      goes = told.goes;
      fails = tt;
      emptied = refl;
      leaves = told.leaves;
      serves = told.serves;
    };
    emptied = told.emptied;
  }

  pub none_logged : (old new : Waiting S G) (after : Waits) (e : Errno) → LogsTogether old.fs new.fs old.records after (Err e) → new.records ≡ none_waits → LogsAll old new (Err e)
  none_logged old new after e told none = record {
    logs = record {
      counted = told.counted;
      epoch = told.epoch;
      own = told.own;
      goes = tt;
      fails = told.fails;
      emptied = tt;
      leaves = told.leaves;
      serves = told.serves;
    };
    emptied = none;
  }

-- ---- a commit

module _ {S : Type 0} {G : Ghosts S} (old mid new : Waiting S G) (runs : IsFalse old.fs.has_failed) where
  abbrev before : Meaning
  before = meaning_of old

  abbrev behind : Meaning
  behind = meaning_of mid

  abbrev now : Meaning
  now = meaning_of new

  abbrev Either : State → State → Images → Type 0
  Either kept s c = OpensTo before kept c ⊎ OpensTo before s c

  -- what the log left, and slices behind it
  both_leave : (u : Unit {0}) → LogsAll old mid (Ok u) → {r : Result (Unit {0}) Errno} → MakesSlices mid.fs new.fs r → (s kept : State) → Shows old s kept → LeavesOnly before now (Either kept s)
  both_leave u logged sliced s kept shows =
      joined before behind now (Either kept s) (logged.logs.leaves s.tree.descriptors s kept shows.ahead)
      (weaker behind now (OpensTo behind s) (Either kept s) (sliced.leaves s (logged.logs.serves s.tree.descriptors s kept shows.ahead)) (λ c here. inr (moved behind before s c (sym logged.logs.counted.uses.same.sectors) here)))

  pub commits : (u v : Unit {0}) → LogsAll old mid (Ok u) → MakesSlices mid.fs new.fs (Ok v) → new.records ≡ none_waits → old.records ≢ none_waits
      → ((s : State) → ServesState new.fs.system s → EachCut now (OpensTo now s))
      → ((table : ℕ → Option Description) (s : State) → HasState new.fs.system table s → HasStateAhead new.fs.system none_waits table s s) → CommitsAll old new (Ok v)
  commits u v logged sliced none busy opens begins =
      let uses = uses_twice before behind now logged.logs.counted.uses sliced.uses in
      let writes : NoWriteFailed before now = sliced.written ∙ logged.logs.counted.writes in
      let serves : (s kept : State) → Shows old s kept → ServesState new.fs.system s = λ s kept shows. sliced.serves s (logged.logs.serves s.tree.descriptors s kept shows.ahead) in
      let shown : (s kept : State) → Shows old s kept → Shows new s s = λ s kept shows. record {
        honest = uses.same.honest.0 shows.honest;
        goes = sliced.goes;
        ahead = subst (λ (w : Waits). HasStateAhead new.fs.system w s.tree.descriptors s s) (sym none) (begins s.tree.descriptors s (serves s kept shows));
      } in
      record {
        uses = uses;
        eio = λ is. cc;
        written = writes;
        epoch = sliced.epoch ∙ logged.logs.epoch;
        failed = λ stopped. absurd (false≢true (sym runs ∙ stopped));
        goes = sliced.goes;
        fails = tt;
        own = λ _. tt;
        idle = λ _ rests. absurd (busy rests);
        emptied = none;
        shows = shown;
        goes_on = λ first s batches steps run _.
            let t = run.last.state in
            let kept = run.border.state in
            let here = run.shows runs in
            run_commits old new t kept here first s batches steps run refl refl uses (both_leave u logged sliced t kept here) writes (shown t kept here) (opens t (serves t kept here));
      }

  pub commits_sliced_not : (u : Unit {0}) (errno : Errno) → LogsAll old mid (Ok u) → MakesSlices mid.fs new.fs (Err errno) → new.records ≡ none_waits → old.records ≢ none_waits → CommitsAll old new (Err errno)
  commits_sliced_not u errno logged sliced none busy =
      let uses = uses_twice before behind now logged.logs.counted.uses sliced.uses in
      record {
        uses = uses;
        eio = λ is. failed_after before behind now logged.logs.counted.uses sliced.eio;
        written = tt;
        epoch = sliced.epoch ∙ logged.logs.epoch;
        failed = λ stopped. absurd (false≢true (sym runs ∙ stopped));
        goes = tt;
        fails = sliced.fails;
        own = λ _. sliced.own;
        idle = λ _ rests. absurd (busy rests);
        emptied = none;
        shows = λ s kept shows. tt;
        goes_on = λ first s batches steps run _.
            let t = run.last.state in
            let kept = run.border.state in
            let here = run.shows runs in
            run_loses old new t kept here first s batches steps run refl refl uses (both_leave u logged sliced t kept here) sliced.fails;
      }

-- whether all slices were written or not
pub commits_so : {S : Type 0} {G : Ghosts S} (old mid new : Waiting S G) (runs : IsFalse old.fs.has_failed) (u : Unit {0}) (r : Result (Unit {0}) Errno) → LogsAll old mid (Ok u) → MakesSlices mid.fs new.fs r
    → new.records ≡ none_waits → old.records ≢ none_waits → ((s : State) → ServesState new.fs.system s → EachCut (meaning_of new) (OpensTo (meaning_of new) s))
    → ((table : ℕ → Option Description) (s : State) → HasState new.fs.system table s → HasStateAhead new.fs.system none_waits table s s) → CommitsAll old new r
commits_so old mid new runs u (Ok v) logged sliced none busy opens begins = commits old mid new runs u v logged sliced none busy opens begins
commits_so old mid new runs u (Err e) logged sliced none busy opens begins = commits_sliced_not old mid new runs u e logged sliced none busy

-- there was nothing to commit
pub commits_none : {S : Type 0} {G : Ghosts S} (w : Waiting S G) → IsFalse w.fs.has_failed → w.records ≡ none_waits
    → ((table : ℕ → Option Description) (s kept : State) → HasStateAhead w.fs.system none_waits table s kept → HasState w.fs.system table s)
    → ((table : ℕ → Option Description) (s : State) → HasState w.fs.system table s → HasStateAhead w.fs.system none_waits table s s)
    → ((table : ℕ → Option Description) (s kept : State) → HasStateAhead w.fs.system none_waits table s kept → EachCut (meaning_of w) (OpensTo (meaning_of w) kept))
    → CommitsAll w w (Ok tt)
commits_none w runs none ends begins opens =
    let m = meaning_of w in
    let ahead : (s kept : State) → Shows w s kept → HasStateAhead w.fs.system none_waits s.tree.descriptors s kept =
    λ s kept shows. subst (λ (waits : Waits). HasStateAhead w.fs.system waits s.tree.descriptors s kept) none shows.ahead in
    let again : (s kept : State) → Shows w s kept → HasStateAhead w.fs.system none_waits s.tree.descriptors s s =
    λ s kept shows. begins s.tree.descriptors s (ends s.tree.descriptors s kept (ahead s kept shows)) in
    let shown : (s kept : State) → Shows w s kept → Shows w s s = λ s kept shows. record {
      honest = shows.honest;
      goes = shows.goes;
      ahead = subst (λ (waits : Waits). HasStateAhead w.fs.system waits s.tree.descriptors s s) (sym none) (again s kept shows);
    } in
    record {
      uses = uses_none m;
      eio = λ is. cc;
      written = refl;
      epoch = refl;
      failed = λ stopped. absurd (false≢true (sym runs ∙ stopped));
      goes = runs;
      fails = tt;
      own = λ _. tt;
      idle = λ _ rests. refl;
      emptied = none;
      shows = shown;
      goes_on = λ first s batches steps run _.
          let t = run.last.state in
          let kept = run.border.state in
          let here = run.shows runs in
          let open_now = opens t.tree.descriptors t t (again t kept here) in
          let open_kept = opens t.tree.descriptors t kept (ahead t kept here) in
          run_commits w w t kept here first s batches steps run refl refl (uses_none m)
          (weaker m m (OpensTo m kept) (λ c. OpensTo m kept c ⊎ OpensTo m t c) (started m (OpensTo m kept) open_kept) (λ c one. inl one)) refl (shown t kept here) open_now;
    }

-- the log refused it
pub commits_not : {S : Type 0} {G : Ghosts S} (old new : Waiting S G) → IsFalse old.fs.has_failed → old.records ≢ none_waits → (errno : Errno) → LogsAll old new (Err errno) → CommitsAll old new (Err errno)
commits_not old new runs busy errno logged = record {
  uses = logged.logs.counted.uses;
  eio = λ is. inr logged.logs.counted.writes;
  written = tt;
  epoch = logged.logs.epoch;
  failed = λ stopped. absurd (false≢true (sym runs ∙ stopped));
  goes = tt;
  fails = logged.logs.fails;
  own = λ _. logged.logs.own;
  idle = λ _ rests. absurd (busy rests);
  emptied = logged.emptied;
  shows = λ s kept shows. tt;
  goes_on = λ first s batches steps run _.
      let t = run.last.state in
      let kept = run.border.state in
      let here = run.shows runs in
      run_loses old new t kept here first s batches steps run refl refl logged.logs.counted.uses (logged.logs.leaves t.tree.descriptors t kept here.ahead) logged.logs.fails;
}

-- the system had failed
pub commits_failed : {S : Type 0} {G : Ghosts S} (w : Waiting S G) → IsTrue w.fs.has_failed → w.records ≡ none_waits → CommitsAll w w (Err FAILED)
commits_failed w stopped none = record {
  uses = uses_none (meaning_of w);
  eio = λ is. cc;
  written = tt;
  epoch = refl;
  failed = λ _. (refl, refl);
  goes = tt;
  fails = stopped;
  own = λ runs. absurd (false≢true (sym runs ∙ stopped));
  idle = λ runs. absurd (false≢true (sym runs ∙ stopped));
  emptied = none;
  shows = λ s kept shows. tt;
  goes_on = λ first s batches steps run runs. absurd (false≢true (sym runs ∙ stopped));
}
