-- A command has at most one outcome.
use Rattle.std.proofs.Common.{◌≡◌, ℕ, [], ◌∷◌, ◌++◌, true, false, Option, Some, None, bytes_eq, sym, ap, subst, ◌∙◌}
use Rattle.std.specs.Prelude.{ℤ, not, is_none, filter}
use Rattle.model.specs.declared.limits.TheConstants.{OPEN_FILES}
use Rattle.model.specs.declared.errno.Errno.TheVariants.{EBUSY, EROFS, NOSNAP}
use Rattle.model.specs.declared.reply.Reply.{Reply}
use Rattle.model.specs.declared.reply.Reply.TheVariants as reply
use Rattle.model.specs.declared.command.Command.TheVariants as command
use Rattle.model.specs.declared.command.PathCall.{PathCall}
use Rattle.model.specs.Paths.{Name, Tests, first_refusal}
use Rattle.model.specs.Trees.{Tree, IsUsed}
use Rattle.model.specs.Room.{Room, Need, nothing, a_snapshot, a_restore}
use Rattle.model.specs.Outcomes.{Outcome}
use Rattle.model.specs.Reading as reading
use Rattle.model.specs.Reading.{attribute_tests}
use Rattle.model.specs.Descriptors as descriptors
use Rattle.model.specs.States.{State, now_of, permissions_in, with_tree, with_snapshots, ForgetsOpenFiles}
use Rattle.model.specs.Steps.{Step, says, passing, on_tree, calls, is_reading_call, frozen, take_tests, takes, deletes, has_open_below, restores, tells_usage, usage_of, views, at_tests, sets_time, sets_owner}
use Rattle.model.specs.Laws.{HasOneOutcome}
use Rattle.model.proofs.CountLemmas.{counts_once, number_apart}
use Rattle.model.proofs.OnceLemmas.{Once, forgets_once, once_path, once_open, once_close, once_read, once_write, once_pread, once_pwrite, once_seek, once_ftruncate, once_fchmod, once_fchown, once_futimens, once_fattr, once_fstat, once_fsync, once_extent}

-- the commands

abbrev OnceStep : Step → Type 0
OnceStep step = (a b : Reply) (t u : State) (m n : Need) → step a t m → step b u n → (a ≡ b) × (t ≡ u) × (m ≡ n)

once_on_tree : (s : State) (outcome : Outcome) → Once outcome → OnceStep (on_tree s outcome)
once_on_tree s outcome once a b t u m n one other =
    let same = once a b t.tree u.tree m n one.0 other.0 in
    (same.reply, one.1 ∙ ap (λ x. with_tree x s) same.tree ∙ sym other.1, same.need)

once_says : (s : State) (r : Reply) → OnceStep (says s r)
once_says s r a b t u m n one other = (one.0 ∙ sym other.0, one.1 ∙ sym other.1, one.2 ∙ sym other.2)

once_passing : (s : State) (tests : Tests) (rest : Step) → OnceStep rest → OnceStep (passing s tests rest)
once_passing s tests rest once =
    elim (first_refusal tests) as (λ o. OnceStep (elim o as (λ _. Step) [ Some errno ↦ says s (reply.Refused errno) | None ↦ rest ])) [
      | Some errno ↦ once_says s (reply.Refused errno)
      | None ↦ once
    ]

once_takes : (s : State) (name : Name) → OnceStep (takes s name)
once_takes s name =
    once_passing s (take_tests s name) (λ answer new need.
    (answer ≡ reply.Done) × ((t : Tree) × ForgetsOpenFiles s.tree t × (new ≡ with_snapshots (s.snapshots ++ (name, t) ∷ []) s)) × (need ≡ a_snapshot)) (λ a b t u m n one other. (
      one.0 ∙ sym other.0,
      one.1.2 ∙ ap (λ x. with_snapshots (s.snapshots ++ (name, x) ∷ []) s) (forgets_once s.tree one.1.0 other.1.0 one.1.1 other.1.1) ∙ sym other.1.2,
      one.2 ∙ sym other.2,
    ))

once_deletes : (s : State) (name : Name) → OnceStep (deletes s name)
once_deletes s name =
    once_passing s ((is_none (frozen s name), NOSNAP) ∷ [])
    (λ answer new need. (answer ≡ reply.Done) × (new ≡ with_snapshots (filter (λ pair. not (bytes_eq pair.0 name)) s.snapshots) s) × (need ≡ nothing))
    (λ a b t u m n one other. (one.0 ∙ sym other.0, one.1 ∙ sym other.1, one.2 ∙ sym other.2))

-- the pair that a name has is one
found_pair : {X : Type 0} (o : Option X) (x y : X) → o ≡ Some x → o ≡ Some y → x ≡ y
found_pair o x y one other = cc

once_restores : (room : Room) (s : State) (name : Name) → OnceStep (restores room s name)
once_restores room s name =
    once_passing s ((is_none (frozen s name), NOSNAP) ∷ (has_open_below s.tree OPEN_FILES, EBUSY) ∷ [])
    (λ answer new need. (answer ≡ reply.Done) × ((pair : Name × Tree) × (frozen s name ≡ Some pair) × (new ≡ with_tree pair.1 s)) × (need ≡ a_restore (room.orphans_of name)))
    (λ a b t u m n one other. (
      one.0 ∙ sym other.0,
      one.1.2 ∙ ap (λ (pair : Name × Tree). with_tree pair.1 s) (found_pair (frozen s name) one.1.0 other.1.0 one.1.1 other.1.1) ∙ sym other.1.2,
      one.2 ∙ sym other.2,
    ))

once_views : (s : State) (name : Name) (c : PathCall) → OnceStep (views s name c)
once_views s name c =
    elim (frozen s name) as (λ o. OnceStep (elim o as (λ _. Step) [
      | None ↦ says s (reply.Refused NOSNAP)
      | Some pair ↦ passing s ((not (is_reading_call c), EROFS) ∷ []) (λ answer new need. calls s.limits s.session pair.1 c answer pair.1 need × (new ≡ s))
    ])) [
      | None ↦ once_says s (reply.Refused NOSNAP)
      | Some pair ↦ once_passing s ((not (is_reading_call c), EROFS) ∷ []) (λ answer new need. calls s.limits s.session pair.1 c answer pair.1 need × (new ≡ s)) (λ a b t u m n one other.
          let same = once_path s.limits s.session pair.1 c a b pair.1 pair.1 m n one.0 other.0 in
          (same.reply, one.1 ∙ sym other.1, same.need))
    ]

once_time : (s : State) (seconds : ℤ) (nanoseconds : ℕ) → OnceStep (sets_time s seconds nanoseconds)
once_time s seconds nanoseconds =
    once_passing s (at_tests s nanoseconds) _ (λ a b t u m n one other. (one.0 ∙ sym other.0, one.1 ∙ sym other.1, one.2 ∙ sym other.2))

once_owner : (s : State) (owner group : ℕ) → OnceStep (sets_owner s owner group)
once_owner s owner group =
    once_passing s (attribute_tests s.limits) _ (λ a b t u m n one other. (one.0 ∙ sym other.0, one.1 ∙ sym other.1, one.2 ∙ sym other.2))

once_usage : (room : Room) (s : State) → OnceStep (tells_usage room s)
once_usage room s a b t u m n (taken, counts, done) (others, another, again) =
    once_says s (reply.Usage (usage_of room s taken)) a b t u m n done
    (subst (λ (k : ℕ). says s (reply.Usage (usage_of room s k)) b u n) (counts_once (IsUsed s.tree) number_apart others taken another counts) again)

pub has_one_outcome : HasOneOutcome
has_one_outcome room s (command.Path c) = once_on_tree s (calls s.limits s.session s.tree c) (once_path s.limits s.session s.tree c)
has_one_outcome room s (command.Open path flags mode below) =
    once_on_tree s (descriptors.opens false below s.limits (now_of s) s.tree path flags (permissions_in s mode)) (once_open false below s.limits (now_of s) s.tree path flags (permissions_in s mode))
has_one_outcome room s (command.OpenStat path flags mode below) =
    once_on_tree s (descriptors.opens true below s.limits (now_of s) s.tree path flags (permissions_in s mode)) (once_open true below s.limits (now_of s) s.tree path flags (permissions_in s mode))
has_one_outcome room s (command.Close fd) = once_on_tree s (descriptors.closes s.tree fd) (once_close s.tree fd)
has_one_outcome room s (command.Read fd count) = once_on_tree s (descriptors.reads s.tree fd count) (once_read s.tree fd count)
has_one_outcome room s (command.Write fd given) = once_on_tree s (descriptors.writes s.limits (now_of s) s.tree fd given) (once_write s.limits (now_of s) s.tree fd given)
has_one_outcome room s (command.Pread fd offset count) = once_on_tree s (descriptors.reads_from s.tree fd offset count) (once_pread s.tree fd offset count)
has_one_outcome room s (command.Pwrite fd offset given) = once_on_tree s (descriptors.writes_to s.limits (now_of s) s.tree fd offset given) (once_pwrite s.limits (now_of s) s.tree fd offset given)
has_one_outcome room s (command.Lseek fd from offset) = once_on_tree s (descriptors.seeks s.tree fd from offset) (once_seek s.tree fd from offset)
has_one_outcome room s (command.Ftruncate fd size) = once_on_tree s (descriptors.truncates_open s.limits (now_of s) s.tree fd size) (once_ftruncate s.limits (now_of s) s.tree fd size)
has_one_outcome room s (command.Fchmod fd mode) = once_on_tree s (descriptors.changes_open_mode (now_of s) s.tree fd mode) (once_fchmod (now_of s) s.tree fd mode)
has_one_outcome room s (command.Fchown fd owner group) = once_on_tree s (descriptors.changes_open_owners s.limits (now_of s) s.tree fd owner group) (once_fchown s.limits (now_of s) s.tree fd owner group)
has_one_outcome room s (command.Futimens fd time) = once_on_tree s (descriptors.changes_open_times s.limits (now_of s) s.tree fd time) (once_futimens s.limits (now_of s) s.tree fd time)
has_one_outcome room s (command.Fstat fd) = once_on_tree s (descriptors.stats_open s.tree fd) (once_fstat s.tree fd)
has_one_outcome room s (command.Fattr fd) = once_on_tree s (descriptors.attributes_open s.limits s.tree fd) (once_fattr s.limits s.tree fd)
has_one_outcome room s (command.Fsync fd) = once_on_tree s (descriptors.syncs_open s.tree fd) (once_fsync s.tree fd)
has_one_outcome room s (command.Extent path offset) = once_on_tree s (reading.tells_extent s.limits s.tree room.stored path offset) (once_extent s.limits s.tree room.stored path offset)
has_one_outcome room s (command.At seconds nanoseconds) = once_time s seconds nanoseconds
has_one_outcome room s (command.As owner group) = once_owner s owner group
has_one_outcome room s command.Sync = once_says s _
has_one_outcome room s command.Df = once_says s _
has_one_outcome room s command.Statfs = once_usage room s
has_one_outcome room s (command.SnapTake name) = once_takes s name
has_one_outcome room s (command.SnapDelete name) = once_deletes s name
has_one_outcome room s (command.SnapRestore name) = once_restores room s name
has_one_outcome room s command.SnapList = once_says s _
has_one_outcome room s (command.Within name c) = once_views s name c
