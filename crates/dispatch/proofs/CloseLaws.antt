-- A descriptor that is freed, on a system that shows a state.
use Rattle.std.proofs.Common.{◌≡◌, ◌⊎◌, inl, inr, ℕ, Option, Some, None, Result, refl, ap, sym, subst, ◌∙◌, arith}
use Rattle.std.specs.Prelude.{IsFalse, IsTrue, ◌↔◌}
use Rattle.std.specs.Option.{option_map}
use Rattle.std.proofs.lemmas.Bool.{cases_Bool, false≢true}
use Rattle.model.specs.declared.session.Session.{Session}
use Rattle.model.specs.declared.limits.Limits.{Limits}
use Rattle.layout.specs.StateLimits.{limits_of}
use Rattle.station.specs.declared.station.Station.{Ghosts}
use Rattle.model.specs.Circumstances.{IsSure}
use Rattle.model.specs.Descriptors.{closes}
use Rattle.model.specs.Room.{nothing}
use Rattle.model.specs.States.{State}
use Rattle.model.specs.Trees.{Description, HasPath, Tree}
use Rattle.model.specs.Volumes.{IsMounted, IsVolume, Volume, is_file_node, is_orphan, swept, tree_of}
use Rattle.model.specs.declared.command.Command.TheVariants as command
use Rattle.model.specs.declared.errno.Errno.{Errno}
use Rattle.model.specs.declared.reply.Reply.{Reply}
use Rattle.buffers.specs.Errors.{IsFault}
use Rattle.buffers.specs.declared.error.BlockError.{BlockError}
use Rattle.inofile.specs.declared.inode_file.InodeFile.{InodeFile}
use Rattle.overlay.specs.declared.overlay.Overlay.{Overlay}
use Rattle.paths.specs.Standing.{Looks}
use Rattle.descriptors.specs.Files.{description_of}
use Rattle.descriptors.specs.Tables.{table_of}
use Rattle.files.specs.Closing.{Closes, IsOpenOrphan}
use Rattle.files.specs.Opened.{tree_with}
use Rattle.files.specs.Replies.{done_reply}
use Rattle.system.specs.Laws.{RecordLaws}
use Rattle.system.specs.Systems.{blocks_with, state_with}
use Rattle.system.specs.declared.system.System.{System}
use Rattle.dispatch.specs.Answering.{IsAnswered}
use Rattle.dispatch.specs.Serving.{IsSureOn}
use Rattle.dispatch.specs.Showing.{ShowsState}
use Rattle.dispatch.proofs.LookedLaws.{disk_under, inodes_under, its_table, looked_memory, looked_stored}
use Rattle.dispatch.proofs.MovedLaws.{sweep_extends}

-- a file of a volume stands at a path just where it has a name
abbrev pub NamedHavePaths : Type 0
NamedHavePaths =
    (limits : Limits) (n : ℕ) (v : Volume) (table : ℕ → Option Description) → IsVolume limits v → IsTrue (is_file_node (v n)) → HasPath (tree_of v table) n ↔ IsFalse (is_orphan (v n))

-- the file that is open by this description, if one is, stands at a path
abbrev IsSureAt : Tree → Option Description → Type 0
IsSureAt t o = elim o [ Some f ↦ HasPath t f.number | None ↦ Unit {0} ]

sure_or_not : NamedHavePaths → (limits : Limits) (v : Volume) (table : ℕ → Option Description) → IsVolume limits v → IsMounted v table → (t : Tree) → t ≡ tree_of v table → (fd : ℕ) (o : Option Description)
    → table fd ≡ o → IsSureAt t o ⊎ ¬ IsSureAt t o
sure_or_not law limits v table volume mounted t is fd None none = inl tt
sure_or_not law limits v table volume mounted t is fd (Some f) some =
    let has = law limits f.number v table volume (mounted.files fd f some) in
    subst (λ (u : Tree). HasPath u f.number ⊎ ¬ HasPath u f.number) (sym is) (elim (cases_Bool (is_orphan (v f.number))) [
      | inl orphans ↦ inr (λ path. false≢true (sym (has.0 path) ∙ orphans))
      | inr named ↦ inl (has.1 named)
    ])

module _ {S : Type 0} {G : Ghosts S} (law : NamedHavePaths) (f : System S G) (s : State) (shown : ShowsState f s) (fd : ℕ) where
  tree : s.tree ≡ tree_of shown.running s.tree.descriptors
  tree = ap (λ (u : State). u.tree) shown.state

  -- not for a file with no name
  pub orphans_not_sure : IsOpenOrphan shown.running f.files fd → ¬ IsSure s (command.Close fd)
  orphans_not_sure opened sure =
      let file = opened.0 in
      let here : s.tree.descriptors fd ≡ Some (description_of file) = ap (λ (t : ℕ → Option Description). t fd) shown.opened ∙ ap (option_map description_of) opened.1 in
      let path : HasPath s.tree file.number = subst (λ (o : Option Description). IsSureAt s.tree o) here sure in
      let has = law (limits_of f.root.geometry) file.number shown.running s.tree.descriptors shown.memory.volume (shown.mounted.files fd (description_of file) here) in
      false≢true (sym (has.0 (subst (λ (t : Tree). HasPath t file.number) tree path)) ∙ opened.2)

  -- whether it has to be answered; no block is read then
  pub close_sure : (new : System S G) → ((IsOpenOrphan shown.running f.files fd → ⊥) → new.blocks ≡ f.blocks) → IsSureOn f new s (command.Close fd) ⊎ ¬ IsSure s (command.Close fd)
  close_sure new still = elim (sure_or_not law (limits_of f.root.geometry) shown.running s.tree.descriptors shown.memory.volume shown.mounted s.tree tree fd (s.tree.descriptors fd) refl) [
    | inl sure ↦ inl (record { sure = sure; still = ap (λ (b : Overlay S G). b.buffers.station) (still (λ opened. orphans_not_sure opened sure)) })
    | inr not ↦ inr not
  ]

-- what the system shows once it is freed, behind a look
pub close_leads : {S : Type 0} {G : Ghosts S} (records : RecordLaws) (f new : System S G) {s : State} (shown : ShowsState f s) (fd : ℕ) (reply : Reply) (said : new.session ≡ f.session) {after : Overlay S G} {inodes : InodeFile} {T : Type 0} {r : Result T BlockError}
    → (looks : Looks (blocks_with G) IsFault f.blocks after f.inodes inodes r) → {U : Type 0} {closed : Result U Errno} → Closes inodes new.inodes f.files new.files fd closed → done_reply closed ≡ reply → IsAnswered f new shown (command.Close fd) reply
close_leads {S} {G} records f new {s} shown fd reply said {after} {inodes} looks {U} {closed} closes_so is =
    let limits = limits_of f.root.geometry in
    let v = shown.running in
    let table = table_of new.files in
    let left : Tree = tree_of (swept table v) table in
    let mounted = its_table f shown in
    let memory = looked_memory f shown looks in
    let tree : s.tree ≡ tree_of v (table_of f.files) = ap (λ (u : State). u.tree) shown.state ∙ ap (λ (t : ℕ → Option Description). tree_of v t) shown.opened in
    let told : closes (tree_with f.files v) fd reply left nothing = subst (λ (answer : Reply). closes (tree_with f.files v) fd answer left nothing) is (closes_so.answers limits v shown.memory.volume mounted) in
    let count = f.root.geometry.blocks in
    record {
      next = state_with limits f.session (swept table v) table shown.snapshots;
      step = λ room stored. (subst (λ (t : Tree). closes t fd reply left nothing) (sym tree) told, ap (λ (u : State). record u { tree = left }) (sym shown.state));
      shows = record {
        running = swept table v;
        replays = λ last. sweep_extends v last table;
        memory = record {
          stands = closes_so.volume count (disk_under f) (inodes_under f) v memory.stands mounted shown.fits;
          volume = records.sweeps limits v table shown.memory.volume;
        };
        stored = λ first. omega (arith, closes_so.room first count (disk_under f) (inodes_under f) v memory.stands mounted shown.fits, looked_stored f shown looks first);
        mounted = closes_so.mounted v mounted;
        opened = refl;
        fits = closes_so.fits v shown.fits;
        state = ap (λ (x : Session). state_with limits x (swept table v) table shown.snapshots) (sym said);
      };
    }
