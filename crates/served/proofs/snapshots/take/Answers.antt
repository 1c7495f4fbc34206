use Rattle.std.proofs.Common.{◌≡◌, ◌∙◌, List, ℕ, Option, Some, None, is_some, refl, sym, subst, Bor}
use Rattle.std.specs.Option.{option_map}
use Rattle.model.specs.declared.errno.Errno.TheVariants as errno
use Rattle.served.specs.Known.{FindsName, Known, Seen, known_of, seen_of, with_snapshot}
use Rattle.served.specs.Looking.{no_memory}
use Rattle.served.specs.Setting.{Told, or_no_memory, refused}
use Rattle.served.specs.Snapshots.{take_noted, take_snapshot}
use Rattle.served.specs.Turns.{Came, Turn, either, gives, gives_some}
use Rattle.served.specs.declared.answer.Answer.TheVariants as answer
use Rattle.served.specs.declared.memory.Snapshot.{Snapshot}
use Rattle.served.proofs.TurnLaws.{came_else, came_gives, came_kept, came_lost, came_some, came_then, came_then_if}
use Rattle.served.proofs.snapshots.take.Goals as goal

is_seen : (found : Option (Bor Snapshot)) → is_some (option_map (λ s. seen_of s.now) found) ≡ is_some found
is_seen None = refl
is_seen (Some s) = refl

abbrev rest : Known → List ℕ → Option Seen → Turn Told
rest k name found = either (is_some found) (refused k errno.EEXIST) (or_no_memory k (take_noted (with_snapshot name k) name))

pub returns-then-is_some : goal.returns-then-is_some
unfolding take_snapshot
returns-then-is_some g c =
    let G = g.F.FileSystem in
    let k = known_of c.args.memory.now in
    let name = c.args.name.now in
    let found = option_map (λ s. seen_of s.now) c.snapshot_by_name.result in
    came_then G c.args.files.now c.args.files.now c.args.files.now (gives_some (FindsName k name)) (rest k name) found (answer.Refused errno.EEXIST, k)
    (came_some G c.args.files.now (FindsName k name) found c.snapshot_by_name.ensures)
    (came_then_if G c.args.files.now c.args.files.now (is_some found) (refused k errno.EEXIST) (or_no_memory k (take_noted (with_snapshot name k) name)) (answer.Refused errno.EEXIST, k)
    (is_seen c.snapshot_by_name.result ∙ sym c.is_some.ensures ∙ c.if-is_some.true) (came_gives G c.args.files.now (answer.Refused errno.EEXIST, k)))

pub returns-in-Ok : goal.returns-in-Ok
unfolding take_snapshot
returns-in-Ok g c =
    let G = g.F.FileSystem in
    let k = known_of c.args.memory.now in
    let name = c.args.name.now in
    let found = option_map (λ s. seen_of s.now) c.snapshot_by_name.result in
    let r : Told = (c.take_noted.result, known_of c.take_noted.new.memory) in
    came_then G c.args.files.now c.args.files.now c.take_noted.new.files (gives_some (FindsName k name)) (rest k name) found r
    (came_some G c.args.files.now (FindsName k name) found c.snapshot_by_name.ensures)
    (came_else G c.args.files.now c.take_noted.new.files (is_some found) (refused k errno.EEXIST) (or_no_memory k (take_noted (with_snapshot name k) name)) r
    (is_seen c.snapshot_by_name.result ∙ sym c.is_some.ensures ∙ c.if-is_some.false)
    (came_kept G c.args.files.now c.take_noted.new.files {R = Told} (gives (no_memory, k)) (take_noted (with_snapshot name k) name) r
    (subst (λ (known : Known). Came G c.args.files.now c.take_noted.new.files (take_noted known name) r) c.in-Ok.ensures.ok c.take_noted.ensures)))

pub returns-in-Err : goal.returns-in-Err
unfolding take_snapshot
returns-in-Err g c =
    let G = g.F.FileSystem in
    let k = known_of c.args.memory.now in
    let name = c.args.name.now in
    let found = option_map (λ s. seen_of s.now) c.snapshot_by_name.result in
    let done = or_no_memory k (take_noted (with_snapshot name k) name) in
    subst (λ (known : Known). Came G c.args.files.now c.args.files.now (take_snapshot k name) (no_memory, known)) (sym c.in-Err.ensures.err)
    (came_then G c.args.files.now c.args.files.now c.args.files.now (gives_some (FindsName k name)) (rest k name) found (no_memory, k)
    (came_some G c.args.files.now (FindsName k name) found c.snapshot_by_name.ensures)
    (came_else G c.args.files.now c.args.files.now (is_some found) (refused k errno.EEXIST) done (no_memory, k)
    (is_seen c.snapshot_by_name.result ∙ sym c.is_some.ensures ∙ c.if-is_some.false)
    (came_lost G c.args.files.now c.args.files.now {R = Told} (gives (no_memory, k)) (take_noted (with_snapshot name k) name) (no_memory, k) (came_gives G c.args.files.now (no_memory, k)))))
