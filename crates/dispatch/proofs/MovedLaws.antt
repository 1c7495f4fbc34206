-- A system whose open files change, while its log and its disk stay as they are.
use Rattle.std.proofs.Common.{◌≡◌, ◌⊎◌, inl, inr, ℕ, zero, suc, ◌≤◌, List, Option, Some, None, Bool, true, false, refl, sym, subst, ◌∙◌, arith}
use Rattle.std.specs.Prelude.{IsSome, IsTrue}
use Rattle.model.specs.declared.session.Session.{Session}
use Rattle.model.specs.declared.limits.Limits.{Limits}
use Rattle.layout.specs.StateLimits.{limits_of}
use Rattle.station.specs.Images.{Images}
use Rattle.station.specs.Moments.{Meaning}
use Rattle.station.proofs.Moments.{weaker}
use Rattle.layout.specs.Places.{blocks_of}
use Rattle.model.specs.Paths.{Name}
use Rattle.model.specs.Records.{Extends, is_vacant}
use Rattle.model.specs.States.{State}
use Rattle.model.specs.Trees.{Description, Tree}
use Rattle.model.specs.declared.limits.TheConstants.{OPEN_FILES}
use Rattle.model.specs.Volumes.{IsMounted, Node, Volume, directory_node, file_node, is_open, link_node, swept, swept_node}
use Rattle.inofile.specs.Room.{memory_room}
use Rattle.inofile.specs.declared.inode_file.InodeFile.{InodeFile}
use Rattle.descriptors.specs.Fits.{FitsVolume}
use Rattle.descriptors.specs.Tables.{table_of}
use Rattle.descriptors.specs.declared.table.Descriptors.{Descriptors}
use Rattle.oplog.specs.LogEnd.{Bodies}
use Rattle.system.specs.Images.{IsReplayed, OpensTo}
use Rattle.system.specs.Memory.{IsInMemory}
use Rattle.system.specs.Serving.{LeavesEither}
use Rattle.system.specs.Systems.{Parts, IsServing, disk_over, state_with}

-- what opens to a state opens to it with other open files
pub opens_moved : (m : Meaning) (limits : Limits) (said : Session) (v : Volume) (table after : ℕ → Option Description) (snapshots : List (Name × Tree)) (c : Images)
    → OpensTo m (state_with limits said v table snapshots) c → OpensTo m (state_with limits said v after snapshots) c
opens_moved m limits said v table after snapshots c to =
    let o = to.opens in
    record {
      opens = record {
        root = o.root;
        newest = o.newest;
        size = o.size;
        first = o.first;
        snapshots = o.snapshots;
        holds = o.holds;
        changes = o.changes;
        log = o.log;
        room = o.room;
        last = o.last;
        replays = o.replays;
        state = record {
          tree = record {
            objects = o.state.tree.objects;
            descriptors = o.state.tree.descriptors;
            kept = o.state.tree.kept;
            gone = o.state.tree.gone;
          };
          rest = o.state.rest;
        };
      };
    }

pub leaves_moved : (old new : Meaning) (s : State) (limits : Limits) (said : Session) (v : Volume) (table after : ℕ → Option Description) (snapshots : List (Name × Tree))
    → LeavesEither old new s (state_with limits said v table snapshots) → LeavesEither old new s (state_with limits said v after snapshots)
leaves_moved old new s limits said v table after snapshots leaves =
    weaker old new (λ c. OpensTo old s c ⊎ OpensTo old (state_with limits said v table snapshots) c) (λ c. OpensTo old s c ⊎ OpensTo old (state_with limits said v after snapshots) c) leaves (λ c either. elim either [
      | inl before ↦ inl before
      | inr behind ↦ inr (opens_moved old limits said v table after snapshots c behind)
    ])

-- ---- what a replay keeps that is dropped

-- what a sweep leaves is as it was
left_same : (open_now : Bool) (o : Option Node) → IsSome (swept_node open_now o) → swept_node open_now o ≡ o
left_same open_now None some = cc
left_same open_now (Some (directory_node attributes names)) some = refl
left_same open_now (Some (link_node attributes text)) some = refl
left_same true (Some (file_node attributes zero bytes)) some = refl
left_same false (Some (file_node attributes zero bytes)) some = cc
left_same open_now (Some (file_node attributes (suc links) bytes)) some = refl

-- what it drops has no name
dropped_vacant : (open_now : Bool) (o kept : Option Node) → (IsSome o → kept ≡ o) → (o ≡ None → IsTrue (is_vacant kept)) → swept_node open_now o ≡ None → IsTrue (is_vacant kept)
dropped_vacant open_now None kept same vacant none = vacant refl
dropped_vacant open_now (Some (directory_node attributes names)) kept same vacant none = cc
dropped_vacant open_now (Some (link_node attributes text)) kept same vacant none = cc
dropped_vacant true (Some (file_node attributes zero bytes)) kept same vacant none = cc
dropped_vacant false (Some (file_node attributes zero bytes)) kept same vacant none = subst (λ (x : Option Node). IsTrue (is_vacant x)) (sym (same refl)) refl
dropped_vacant open_now (Some (file_node attributes (suc links) bytes)) kept same vacant none = cc

-- a replayed volume extends what is left of the running one
pub sweep_extends : (running replayed : Volume) (table : ℕ → Option Description) → Extends running replayed → Extends (swept table running) replayed
sweep_extends running replayed table extends = record {
  kept = λ n some.
      let same = left_same (is_open table OPEN_FILES n) (running n) some in
      extends.kept n (subst (λ (o : Option Node). IsSome o) same some) ∙ sym same;
  rest = λ n none. dropped_vacant (is_open table OPEN_FILES n) (running n) (replayed n) (extends.kept n) (extends.rest n) none;
}

-- ---- the system

-- records lead to another volume where what they led to extends that too
abbrev pub led_on : {limits : Limits} {bodies : Bodies} {first before running : Volume} → ((last : Volume) → Extends before last → Extends running last) → IsReplayed limits bodies first before
    → IsReplayed limits bodies first running
led_on replays was = record {
  changes = was.changes;
  are = was.are;
  spelled = was.spelled;
  last = was.last;
  replays = was.replays;
  extends = replays was.last was.extends;
}

module _ {m : Meaning} {k : Parts} {table : ℕ → Option Description} {s : State} (serves : IsServing m k table s) where
  -- A system serves another state, by a volume that its records lead to too, of which a point stores no more.
  abbrev pub led : (now_inodes : InodeFile) (now_files : Descriptors) (now_session : Session) (running : Volume) (after : ℕ → Option Description) (next : State)
      → ((last : Volume) → Extends serves.running last → Extends running last) → IsInMemory (blocks_of (disk_over k m.seen.disk)) k.root now_inodes running
      → memory_room serves.first now_inodes running ≤ memory_room serves.first k.inodes serves.running
      → IsMounted running after → after ≡ table_of now_files → FitsVolume now_files running → next ≡ state_with (limits_of k.root.geometry) now_session running after serves.snapshots
      → IsServing m (record k { inodes = now_inodes; files = now_files; session = now_session }) after next
  led now_inodes now_files now_session running after next replays memory stores mounted opened fits state =
      let lasts = serves.lasts in
      record {
        honest = serves.honest;
        shows = serves.shows;
        first = serves.first;
        snapshots = serves.snapshots;
        under = serves.under;
        running = running;
        mounted = mounted;
        memory = memory;
        view = serves.view;
        settled = serves.settled;
        lasts = record {
          newest = lasts.newest;
          holds = lasts.holds;
          bodies = lasts.bodies;
          replayed = led_on replays lasts.replayed;
          pledges = lasts.pledges;
          reserved = lasts.reserved;
        };
        left = serves.left;
        entries = serves.entries;
        bridge = elim serves.bridge [
          | inl rests ↦ inl rests
          | inr coming ↦ inr (record {
            point = coming.point;
            is = coming.is;
            way = let way = coming.way in record {
              slot = way.slot;
              planned = way.planned;
              epoch = way.epoch;
              stays = way.stays;
              since = led_on replays way.since;
              pledges = way.pledges;
              saves = way.saves;
            };
            sound = coming.sound;
            place = coming.place;
            to_come = coming.to_come;
          })
        ];
        goes = serves.goes;
        stored = omega (arith, stores, serves.stored);
        opened = opened;
        fits = fits;
        state = state;
      }
