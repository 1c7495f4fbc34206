-- A call whose record waits, on a system that is ahead of what a cut leaves.
use Rattle.std.proofs.Common.{◌≡◌, ◌+◌, ◌≤◌, ◌∙◌, ℕ, List, Option, ap, arith, subst, sym}
use Rattle.model.specs.declared.session.Session.{Session}
use Rattle.model.specs.declared.limits.Limits.{Limits}
use Rattle.layout.specs.StateLimits.{limits_of}
use Rattle.station.specs.Moments.{Meaning}
use Rattle.station.specs.declared.station.Station.{Ghosts}
use Rattle.layout.specs.declared.root.Root.{Root}
use Rattle.model.specs.Paths.{Name}
use Rattle.model.specs.Room.{cost, headroom}
use Rattle.model.specs.States.{State}
use Rattle.model.specs.Trees.{Description, Tree}
use Rattle.model.specs.Volumes.{IsMounted, Volume}
use Rattle.model.specs.declared.command.Command.{Command}
use Rattle.model.specs.declared.reply.Reply.{Reply}
use Rattle.descriptors.specs.Fits.{FitsVolume}
use Rattle.descriptors.specs.Tables.{table_of}
use Rattle.descriptors.specs.declared.table.Descriptors.{Descriptors}
use Rattle.system.specs.Ahead.{HasStateAhead, IsAhead}
use Rattle.system.specs.Systems.{Parts, state_with}
use Rattle.system.specs.Waits.{Waits}
use Rattle.system.specs.declared.system.System.{System}
use Rattle.system.proofs.RoomLaws.{free_of, free_with}
use Rattle.dispatch.specs.Waiting.{IfLogs, IsDoneAhead}
use Rattle.dispatch.proofs.ShowingLaws.{AheadOn, led_ahead}

-- behind a record, with other open files of the same volume
pub moved_behind : {m : Meaning} {k : Parts} {waits : Waits} {table : ℕ → Option Description} (limits : Limits) (said : Session) {v : Volume} (snapshots : List (Name × Tree)) {kept : State}
    (ahead : IsAhead m k waits table (state_with limits said v table snapshots) kept) → ahead.shown.running ≡ v → (now_files : Descriptors) (after : ℕ → Option Description)
    → after ≡ table_of now_files → FitsVolume now_files v → IsMounted v after → IsAhead m (record k { files = now_files }) waits after (state_with limits said v after snapshots) kept
moved_behind {k = k} limits said {v} snapshots ahead running now_files after opened fits mounted =
    led_ahead ahead k.inodes now_files k.session ahead.shown.running after (state_with limits said v after snapshots) (λ last extends. extends) ahead.shown.memory (omega arith)
    (subst (λ (w : Volume). IsMounted w after) (sym running) mounted) opened (subst (λ (w : Volume). FitsVolume now_files w) (sym running) fits)
    (ap (λ (u : State). record u { tree = record u.tree { descriptors = after } }) ahead.shown.state)

-- as many blocks are free behind a look
pub same_free : {S : Type 0} {G : Ghosts S} (f mid : System S G) {waits : Waits} {s kept : State} (ahead : HasStateAhead f waits s.tree.descriptors s kept) {running : Volume} → AheadOn f mid ahead s running → mid.free ≡ f.free
same_free {G = G} f mid {s = s} {kept = kept} ahead on =
    free_with {G = G} on.still.then_inodes on.still.then_files on.still.then_session mid on.still.then_table kept on.still.served ∙ ap free_of on.settled
    ∙ sym (free_with {G = G} ahead.then_inodes ahead.then_files ahead.then_session f ahead.then_table kept ahead.served)

-- it is done behind another system that has the same room
pub done_from : {S : Type 0} {G : Ghosts S} (old mid new : System S G) (before after : Waits) (s kept : State) (call : Command) → mid.pledged ≡ old.pledged → mid.root ≡ old.root → mid.free ≡ old.free
    → (reply : Reply) → IsDoneAhead mid new before after s kept call reply → IsDoneAhead old new before after s kept call reply
done_from old mid new before after s kept call pledged root free reply done =
    let Room = λ (p : ℕ) (r : Root) (n : ℕ). IfLogs done.need (λ work. p + before.pledged + cost (limits_of r.geometry).costs work + (limits_of r.geometry).costs.point + headroom (limits_of r.geometry).costs work ≤ n) in
    record {
      next = done.next;
      need = done.need;
      step = done.step;
      room = subst (λ (n : ℕ). Room old.pledged old.root n) free (subst (λ (r : Root). Room old.pledged r mid.free) root (subst (λ (p : ℕ). Room p mid.root mid.free) pledged done.room));
      ahead = done.ahead;
    }
