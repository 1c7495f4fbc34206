-- What each call of a station in memory is, in the words of its meaning.
use Rattle.std.proofs.Common.{◌≡◌, ◌⊎◌, inl, inr, ℕ, ◌≤◌, Bool, true, false, List, [], length, take, refl, ap, sym, subst, ◌∙◌, arith, Result, Ok, Err, take_all, append-nil, take-append-drop, add-zero}
use Rattle.std.specs.Prelude.{OnOk, OnErr, is_ok}
use Rattle.station.specs.Images.{Images, disk_with, nvram_with, Unchanged, SomeSectorsWritten, SectorsWritten, NvramWritten, NvramPrefixWritten}
use Rattle.station.specs.Moments.{Went, MayLeave, LeavesJust, IsSameStation, SeenGoes, LeftGoes}
use Rattle.station.specs.Calls.{ReadCall, WriteCall}
use Rattle.memory_station.specs.Disk.{sectors_with, images_with}
use Rattle.memory_station.specs.Sectors.{sectors_at}
use Rattle.memory_station.specs.Device.{fresh, reads_of, after, after_all, MayBeLeft}
use Rattle.memory_station.specs.DeviceLaws.{LeftAt-end, LeftAt-at_end, seen_is_held}
use Rattle.memory_station.specs.Media.{IsLoadedFrom, HasCalls, Same, Adds, AddsWrite, AddsNvWrite}
use Rattle.memory_station.specs.Sim.{known, sim_meaning, first_of, device_of, plan_of, was_cut, bad_of, FollowsPlan, FollowsRead, FollowsWrite, FollowsNvWrite, FollowsSync, next_read, next_write, next_sync, IsLoaded, IsLeftByCut, HasCountedRead, HasCountedWrite}
use Rattle.memory_station.specs.FaultPlan.{FaultPlan, planned, fate_of_write, kept_of, is_done, cuts_power}
use Rattle.memory_station.specs.declared.faults.Fate.{Fate}
use Rattle.memory_station.specs.declared.faults.Fate.TheVariants.{Done, Fails, IsCut}
use Rattle.memory_station.specs.declared.history.Call.{Call}
use Rattle.memory_station.specs.declared.history.Call.TheVariants.{Read, Write, NvWrite, Sync}
use Rattle.memory_station.specs.declared.media.Media.{Media}
use Rattle.memory_station.specs.declared.sim.Sim.{Sim}
use Rattle.std.proofs.Math.Path.{fun_ext}
use Rattle.memory_station.proofs.TiedLemmas.{tied-may_be_left}
use Rattle.memory_station.proofs.DeviceLemmas.{after_all-push}
use Rattle.memory_station.proofs.GoesLemmas.{IsStep, IsOneOf-single, goes_stays, goes_call, is_step-read, is_step-sync, is_step-write, is_step-nv_write, left_after_sync}

-- what follows from what an Ok says
pub on_ok : {T E P Q : Type 0} (result : Result T E) → (P → Q) → OnOk result P → OnOk result Q
on_ok (Ok x) f p = f p
on_ok (Err e) f p = tt

-- no more than all
pub kept_of-le : (p : FaultPlan) (fate : Fate) (n : ℕ) → kept_of p fate n ≤ n
kept_of-le p Done n = omega arith
kept_of-le p Fails n = omega arith
kept_of-le p IsCut n = omega arith

kept_of-all : (p : FaultPlan) (fate : Fate) (n : ℕ) → is_done fate ≡ true → kept_of p fate n ≡ n
kept_of-all p Done n done = refl
kept_of-all p Fails n done = cc
kept_of-all p IsCut n done = cc

-- what a call that followed the plan added
module _ (old new : Sim) (fate : Fate) where
  follows_ok : {T E : Type 0} (K : Bool → Type 0) (result : Result T E) → FollowsPlan fate (K (is_done fate)) old new result → OnOk result (K true)
  follows_ok K (Ok x) follows = elim follows.call [ inl none ↦ absurd none.err | inr it ↦ subst K (sym it.0.answer) it.1 ]
  follows_ok K (Err e) follows = tt

  follows_err : {T E : Type 0} (K : Bool → Type 0) (result : Result T E) → FollowsPlan fate (K (is_done fate)) old new result → OnErr result (Same old.media new.media ⊎ K false)
  follows_err K (Ok x) follows = tt
  follows_err K (Err e) follows = elim follows.call [ inl none ↦ inl none.same | inr it ↦ inr (subst K (sym it.0.answer) it.1) ]

module _ (old new : Sim) where
  same_first : (list : List Call) → HasCalls old.media new.media list → first_of new ≡ first_of old
  same_first list has i = fresh (has.disk i) (has.nvram i) (has.bad i)

  -- after one call more
  pub device-adds : (call : Call) → Adds old.media new.media call → device_of new ≡ after (device_of old) call
  device-adds call adds = rw (same_first _ adds, adds.calls) (after_all-push _ old.media.calls.items call)

  pub stays : (step : Images → Images → Type 0) → ((c : Images) → step c c) → Same old.media new.media → Went step (sim_meaning old) (sim_meaning new)
  stays step reflexive same = goes_stays step _ _ _ _ _ _ _ _ _ _ _ _ (same_first _ same) same.calls reflexive

  pub goes : (step : Images → Images → Type 0) (call : Call) → Adds old.media new.media call → IsStep step (device_of old) call → Went step (sim_meaning old) (sim_meaning new)
  goes step call adds is = goes_call step _ _ _ _ _ _ _ _ _ _ _ _ call (same_first _ adds) adds.calls is

  same-has : (list : List Call) → HasCalls old.media new.media list → IsSameStation (sim_meaning old) (sim_meaning new)
  same-has list has = record { sectors = has.sectors; nvram_bytes = has.nvram_bytes; honest = (λ is. is, λ is. is) }

  same-either : (P : Type 0) → (P → (list : List Call) × HasCalls old.media new.media list) → Same old.media new.media ⊎ P → IsSameStation (sim_meaning old) (sim_meaning new)
  same-either P adds (inl same) = same-has _ same
  same-either P adds (inr more) = same-has _ (adds more).1

  pub goes-read : Same old.media new.media ⊎ Adds old.media new.media Read → Went Unchanged (sim_meaning old) (sim_meaning new)
  goes-read media = elim media [
    | inl same ↦ stays Unchanged (λ c. refl) same
    | inr adds ↦ goes Unchanged Read adds (is_step-read _)
  ]

  -- what the call of a read is
  call-read : {T E : Type 0} (result : Result T E) → Same old.media new.media ⊎ Adds old.media new.media Read → HasCountedRead old new result → ReadCall (sim_meaning old) (sim_meaning new) result
  call-read result media counts = record {
    same = same-either (Adds old.media new.media Read) (λ adds. (_, adds)) media;
    counts = counts;
    goes = λ honest. goes-read media;
  }

  goes-sync_of : (done : Bool) → Adds old.media new.media (Sync done) → Went Unchanged (sim_meaning old) (sim_meaning new)
  goes-sync_of done adds = goes Unchanged (Sync done) adds (is_step-sync _ done (seen_is_held old))

  pub goes-sync : {T E : Type 0} (result : Result T E) → OnOk result (Adds old.media new.media (Sync true)) → OnErr result (Same old.media new.media ⊎ Adds old.media new.media (Sync false)) → Went Unchanged (sim_meaning old) (sim_meaning new)
  goes-sync (Ok x) ok err = goes-sync_of true ok
  goes-sync (Err e) ok err = elim err [ inl same ↦ stays Unchanged (λ c. refl) same | inr adds ↦ goes-sync_of false adds ]

  call-sync : {T E : Type 0} (result : Result T E) → OnOk result (Adds old.media new.media (Sync true)) → OnErr result (Same old.media new.media ⊎ Adds old.media new.media (Sync false)) → HasCountedWrite old new result
      → WriteCall Unchanged (sim_meaning old) (sim_meaning new) result
  call-sync {T = T} {E = E} (Ok x) ok err counts = record { same = same-has _ ok; counts = counts; goes = λ honest. goes-sync {T = T} {E = E} (Ok x) ok err }
  call-sync {T = T} {E = E} (Err e) ok err counts = record {
    same = same-either (Adds old.media new.media (Sync false)) (λ adds. (_, adds)) err;
    counts = counts;
    goes = λ honest. goes-sync {T = T} {E = E} (Err e) ok err;
  }

  -- a sync that succeeded
  settled-sync : Adds old.media new.media (Sync true) → LeavesJust (sim_meaning new) (sim_meaning old).seen
  settled-sync adds honest c left = left_after_sync (device_of old) c (subst (λ d. MayBeLeft d c) (device-adds (Sync true) adds) (LeftAt-end _ new.media.calls.items c left))

  goes-write_of : (first : ℕ) (bytes : List ℕ) (done : Bool) → AddsWrite old.media new.media first bytes done → Went (SomeSectorsWritten first bytes) (sim_meaning old) (sim_meaning new)
  goes-write_of first bytes done adds = subst (λ b. Went (SomeSectorsWritten first b) (sim_meaning old) (sim_meaning new)) adds.1 (goes (SomeSectorsWritten first adds.0.items) (Write first adds.0 done) adds.2 (is_step-write _ first adds.0 done (seen_is_held old)))

  pub goes-write : {T E : Type 0} (first : ℕ) (bytes : List ℕ) (result : Result T E) → OnOk result (AddsWrite old.media new.media first bytes true) → OnErr result (Same old.media new.media ⊎ AddsWrite old.media new.media first bytes false) → Went (SomeSectorsWritten first bytes) (sim_meaning old) (sim_meaning new)
  goes-write first bytes (Ok x) ok err = goes-write_of first bytes true ok
  goes-write first bytes (Err e) ok err = elim err [
    | inl same ↦ stays (SomeSectorsWritten first bytes) (λ c. record { nvram = refl; disk = λ n. inl refl }) same
    | inr adds ↦ goes-write_of first bytes false adds
  ]

  call-write : {T E : Type 0} (first : ℕ) (bytes : List ℕ) (result : Result T E) → OnOk result (AddsWrite old.media new.media first bytes true) → OnErr result (Same old.media new.media ⊎ AddsWrite old.media new.media first bytes false)
      → HasCountedWrite old new result → WriteCall (SomeSectorsWritten first bytes) (sim_meaning old) (sim_meaning new) result
  call-write {T = T} {E = E} first bytes (Ok x) ok err counts = record { same = same-has _ ok.2; counts = counts; goes = λ honest. goes-write {T = T} {E = E} first bytes (Ok x) ok err }
  call-write {T = T} {E = E} first bytes (Err e) ok err counts = record {
    same = same-either (AddsWrite old.media new.media first bytes false) (λ adds. (_, adds.2)) err;
    counts = counts;
    goes = λ honest. goes-write {T = T} {E = E} first bytes (Err e) ok err;
  }

  -- a write that succeeded
  written-write : (first : ℕ) (bytes : List ℕ) → AddsWrite old.media new.media first bytes true → SeenGoes (SectorsWritten first bytes) (sim_meaning old) (sim_meaning new)
  unfolding after
  written-write first bytes adds honest = ap reads_of (device-adds (Write first adds.0 true) adds.2) ∙ ap (λ b. reads_of record { seen = disk_with first b (device_of old).seen; held = (device_of old).held; nvram = (device_of old).nvram }) adds.1

  goes-nv_write_of : (at : ℕ) (bytes : List ℕ) (kept : ℕ) → kept ≤ length bytes → AddsNvWrite old.media new.media at bytes kept → Went (NvramPrefixWritten at bytes) (sim_meaning old) (sim_meaning new)
  goes-nv_write_of at bytes kept within adds = subst (λ b. Went (NvramPrefixWritten at b) (sim_meaning old) (sim_meaning new)) adds.1 (goes (NvramPrefixWritten at adds.0.items) (NvWrite at adds.0 kept) adds.2 (is_step-nv_write _ at adds.0 kept (rw adds.1 within)))

  may_write_nothing : (at : ℕ) (bytes : List ℕ) (c : Images) → NvramPrefixWritten at bytes c c
  may_write_nothing at bytes c =
      let same : nvram_with at [] c.nvram ≡ c.nvram = rw (append-nil, add-zero) (take-append-drop at c.nvram) in
      record { kept = 0; within = omega arith; writes = λ i. record { disk = c.disk; nvram = sym same i } }

  pub goes-nv_write : {T E : Type 0} (at : ℕ) (bytes : List ℕ) (kept : ℕ) (result : Result T E) → kept ≤ length bytes → OnOk result (AddsNvWrite old.media new.media at bytes (length bytes)) → OnErr result (Same old.media new.media ⊎ AddsNvWrite old.media new.media at bytes kept) → Went (NvramPrefixWritten at bytes) (sim_meaning old) (sim_meaning new)
  goes-nv_write at bytes kept (Ok x) within ok err = goes-nv_write_of at bytes (length bytes) (omega arith) ok
  goes-nv_write at bytes kept (Err e) within ok err = elim err [
    | inl same ↦ stays (NvramPrefixWritten at bytes) (may_write_nothing at bytes) same
    | inr adds ↦ goes-nv_write_of at bytes kept within adds
  ]

  call-nv_write : {T E : Type 0} (at : ℕ) (bytes : List ℕ) (kept : ℕ) (result : Result T E) → kept ≤ length bytes → OnOk result (AddsNvWrite old.media new.media at bytes (length bytes)) → OnErr result (Same old.media new.media ⊎ AddsNvWrite old.media new.media at bytes kept)
      → HasCountedWrite old new result → WriteCall (NvramPrefixWritten at bytes) (sim_meaning old) (sim_meaning new) result
  call-nv_write {T = T} {E = E} at bytes kept (Ok x) within ok err counts = record { same = same-has _ ok.2; counts = counts; goes = λ honest. goes-nv_write {T = T} {E = E} at bytes kept (Ok x) within ok err }
  call-nv_write {T = T} {E = E} at bytes kept (Err e) within ok err counts = record {
    same = same-either (AddsNvWrite old.media new.media at bytes kept) (λ adds. (_, adds.2)) err;
    counts = counts;
    goes = λ honest. goes-nv_write {T = T} {E = E} at bytes kept (Err e) within ok err;
  }

  -- an NVRAM write that succeeded
  module _ (at : ℕ) (bytes : List ℕ) (adds : AddsNvWrite old.media new.media at bytes (length bytes)) where
    whole : take (length bytes) adds.0.items ≡ bytes
    whole = rw adds.1 (take_all (length bytes) bytes (omega arith))

    written-nv_write : SeenGoes (NvramWritten at bytes) (sim_meaning old) (sim_meaning new)
    unfolding after
    written-nv_write honest = ap reads_of (device-adds (NvWrite at adds.0 (length bytes)) adds.2) ∙ ap (λ b. reads_of record (device_of old) { nvram = nvram_with at b (device_of old).nvram }) whole

    kept-nv_write : LeftGoes (NvramWritten at bytes) (sim_meaning old) (sim_meaning new)
    unfolding after
    kept-nv_write honest c left =
        let now : MayBeLeft (after (device_of old) (NvWrite at adds.0 (length bytes))) c = subst (λ d. MayBeLeft d c) (device-adds (NvWrite at adds.0 (length bytes)) adds.2) (LeftAt-end _ new.media.calls.items c left) in (
          record { disk = c.disk; nvram = (device_of old).nvram },
          LeftAt-at_end _ old.media.calls.items _ record { disk = now.disk; nvram = refl },
          λ i. record { disk = c.disk; nvram = (now.nvram ∙ ap (λ b. nvram_with at b (device_of old).nvram) whole) i },
        )

-- a read that succeeded, before a cut
pub sector-read : (old new : Sim) (n : ℕ) → Same old.media new.media ⊎ Adds old.media new.media Read → new.media.is_cut ≡ false → sectors_at new.media.disk n ≡ (sim_meaning old).seen.disk n
sector-read old new n media power = new.media.tied.seen power n ∙ ap (λ c. c.disk n) ((goes-read old new media).seen)

pub nvram-read : (old new : Sim) → Same old.media new.media ⊎ Adds old.media new.media Read → new.media.nvram.items ≡ (sim_meaning old).seen.nvram
nvram-read old new media = sym new.media.tied.nvram_is ∙ ap (λ c. c.nvram) ((goes-read old new media).seen)

-- what a cut may leave now
pub may_leave-images : (s : Sim) (disk nvram : List ℕ) → disk ≡ s.media.disk.bytes.items → nvram ≡ s.media.nvram.items → MayLeave (sim_meaning s) (images_with disk nvram (bad_of s))
may_leave-images s disk nvram d n = rw (d, n) (LeftAt-at_end _ s.media.calls.items _ (tied-may_be_left (device_of s) _ _ _ _ _ s.media.is_cut (seen_is_held s) s.media.tied))

-- right after the load
pub is_loaded : (disk nvram bad : List ℕ) (m : Media) → IsLoadedFrom disk nvram bad m → IsLoaded disk nvram bad (known m.sectors m.nvram_bytes 0 0 (fresh m.first_disk.items m.first_nvram.items m.first_bad.items) m.calls.items)
unfolding after_all
is_loaded disk nvram bad m from = record {
  sectors = from.sectors;
  nvram_bytes = from.nvram_bytes;
  failed_reads = refl;
  failed_writes = refl;
  moment = rw from.calls refl;
  honest = tt;
  seen = ap reads_of device;
  left = λ honest c left. left_fresh c (subst (λ d. MayBeLeft d c) device (LeftAt-end _ m.calls.items c left));
}
  where
    device : after_all (fresh m.first_disk.items m.first_nvram.items m.first_bad.items) m.calls.items ≡ fresh disk nvram bad
    device = rw (from.calls, from.first_disk, from.first_nvram, from.first_bad) refl

    left_fresh : (c : Images) → MayBeLeft (fresh disk nvram bad) c → c ≡ images_with disk nvram bad
    left_fresh c left =
        let each : c.disk ≡ sectors_with disk bad = fun_ext (λ n. IsOneOf-single _ _ (left.disk n)) in
        λ i. record { disk = each i; nvram = left.nvram i }

-- THE CALLS THAT FOLLOWED THE PLAN

-- a step that changes neither media nor plan
pub follows_after : {T E : Type 0} (old mid new : Sim) (fate : Fate) (K : Media → Type 0) (answer result : Result T E) → result ≡ answer → new.media ≡ mid.media → new.faults ≡ mid.faults
    → FollowsPlan fate (K mid.media) old mid answer → FollowsPlan fate (K new.media) old new result
follows_after {T = T} {E = E} old mid new fate K answer result r m f follows = record {
  call = rw (r, m) follows.call;
  plan = λ on. ap planned f ∙ follows.plan (sym (ap (λ (x : Media). x.is_cut) m) ∙ on);
}

-- a device write that was kept
pub next_write_is : (s : Sim) (fate : Fate) → fate ≡ fate_of_write (planned s.faults) s.faults.calls s.faults.writes → fate ≡ next_write s
next_write_is s fate is = same_fate (plan_of s) _ _ _ _ s.numbered.all s.numbered.writes fate is
  where
    same_fate : (p : FaultPlan) (a b m n : ℕ) → a ≡ b → m ≡ n → (f : Fate) → f ≡ fate_of_write p a m → f ≡ fate_of_write p b n
    same_fate p a b m n e g f of = of ∙ rw (e, g) refl

pub write_follows : {T E : Type 0} (old new : Sim) (fate : Fate) (P : Type 0) (result : Result T E) → old.media.is_cut ≡ false → fate ≡ next_write old → is_ok result ≡ is_done fate → new.media.is_cut ≡ cuts_power fate
    → (cuts_power fate ≡ true → new.media.keep ≡ (plan_of old).keep) → (cuts_power fate ≡ false → plan_of new ≡ plan_of old) → P → FollowsPlan (next_write old) P old new result
write_follows old new fate P result on is answer power keep plan kept = record {
  call = inr (record { was_on = on; answer = rw (← is) answer; power = rw (← is) power; kept = λ cut. keep (rw is cut) }, kept);
  plan = λ off. plan (sym power ∙ off);
}

-- what succeeds doesn't cut the power
done_stays : (fate : Fate) → is_done fate ≡ true → cuts_power fate ≡ false
done_stays Done done = refl
done_stays Fails done = refl
done_stays IsCut done = cc

module _ {T E : Type 0} (old new : Sim) (result : Result T E) where
  pub read_media : FollowsRead old new result → Same old.media new.media ⊎ Adds old.media new.media Read
  read_media follows = elim follows.call [ inl none ↦ inl none.same | inr it ↦ inr it.1 ]

  pub does-read : FollowsRead old new result → HasCountedRead old new result → ReadCall (sim_meaning old) (sim_meaning new) result
  does-read follows counts = call-read old new result (read_media follows) counts

  module _ (first : ℕ) (bytes : List ℕ) (follows : FollowsWrite first bytes old new result) where
    wrote : OnOk result (AddsWrite old.media new.media first bytes true)
    wrote = follows_ok old new (next_write old) (λ done. AddsWrite old.media new.media first bytes done) result follows

    pub does-write : HasCountedWrite old new result → WriteCall (SomeSectorsWritten first bytes) (sim_meaning old) (sim_meaning new) result
    does-write counts = call-write old new first bytes result wrote (follows_err old new (next_write old) (λ done. AddsWrite old.media new.media first bytes done) result follows) counts

    pub done-write : OnOk result (SeenGoes (SectorsWritten first bytes) (sim_meaning old) (sim_meaning new))
    done-write = on_ok result (written-write old new first bytes) wrote

  module _ (follows : FollowsSync old new result) where
    synced : OnOk result (Adds old.media new.media (Sync true))
    synced = follows_ok old new (next_sync old) (λ done. Adds old.media new.media (Sync done)) result follows

    pub does-sync : HasCountedWrite old new result → WriteCall Unchanged (sim_meaning old) (sim_meaning new) result
    does-sync counts = call-sync old new result synced (follows_err old new (next_sync old) (λ done. Adds old.media new.media (Sync done)) result follows) counts

    pub done-sync : OnOk result (LeavesJust (sim_meaning new) (sim_meaning old).seen)
    done-sync = on_ok result (settled-sync old new) synced

-- a read that succeeded
pub on_after_read : {T E : Type 0} (old new : Sim) (x : T) → FollowsRead {E = E} old new (Ok x) → new.media.is_cut ≡ false
on_after_read old new x follows = elim follows.call [ inl none ↦ absurd none.err | inr it ↦ it.0.power ∙ done_stays (next_read old) (sym it.0.answer) ]

module _ (old new : Sim) (at : ℕ) (bytes : List ℕ) where
  wrote_nvram : {T E : Type 0} (result : Result T E) → FollowsNvWrite at bytes old new result → OnOk result (AddsNvWrite old.media new.media at bytes (length bytes))
  wrote_nvram (Ok x) follows = elim follows.call [
    | inl none ↦ absurd none.err
    | inr it ↦ subst (λ n. AddsNvWrite old.media new.media at bytes n) (kept_of-all (plan_of old) (next_write old) (length bytes) (sym it.0.answer)) it.1
  ]
  wrote_nvram (Err e) follows = tt

  failed_nvram : {T E : Type 0} (result : Result T E) → FollowsNvWrite at bytes old new result → OnErr result (Same old.media new.media ⊎ AddsNvWrite old.media new.media at bytes (kept_of (plan_of old) (next_write old) (length bytes)))
  failed_nvram (Ok x) follows = tt
  failed_nvram (Err e) follows = elim follows.call [ inl none ↦ inl none.same | inr it ↦ inr it.1 ]

  pub does-nv_write : {T E : Type 0} (result : Result T E) → FollowsNvWrite at bytes old new result → HasCountedWrite old new result → WriteCall (NvramPrefixWritten at bytes) (sim_meaning old) (sim_meaning new) result
  does-nv_write result follows counts =
      call-nv_write old new at bytes (kept_of (plan_of old) (next_write old) (length bytes)) result (kept_of-le (plan_of old) (next_write old) (length bytes)) (wrote_nvram result follows) (failed_nvram result follows) counts

  pub done-nv_write : {T E : Type 0} (result : Result T E) → FollowsNvWrite at bytes old new result → OnOk result (SeenGoes (NvramWritten at bytes) (sim_meaning old) (sim_meaning new))
  done-nv_write result follows = on_ok result (written-nv_write old new at bytes) (wrote_nvram result follows)

  pub left-nv_write : {T E : Type 0} (result : Result T E) → FollowsNvWrite at bytes old new result → OnOk result (LeftGoes (NvramWritten at bytes) (sim_meaning old) (sim_meaning new))
  left-nv_write result follows = on_ok result (kept-nv_write old new at bytes) (wrote_nvram result follows)

-- what a cut left of the disk
pub left-by_cut : (s : Sim) (disk nvram : List ℕ) → disk ≡ s.media.disk.bytes.items → was_cut s ≡ true → IsLeftByCut s (images_with disk nvram (bad_of s))
left-by_cut s disk nvram d cut n = rw (d, s.media.tied.left cut n, s.media.tied.held n, ← s.media.listed) refl
