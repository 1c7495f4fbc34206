-- A reply of a command's kind is a refusal or of that kind.
use Rattle.std.proofs.Common.{◌≡◌, ◌≢◌, ℕ, List, refl, subst}
use Rattle.station.specs.declared.station.Station.{Ghosts}
use Rattle.model.specs.Replies.{IsAttributes, IsData, IsDescriptor, IsDone, IsEntries, IsExtent, IsNames, IsOffset, IsOpened, IsReplyTo, IsSnapshots, IsSpace, IsStat, IsTextOf, IsUsage, IsWritten}
use Rattle.model.specs.declared.attributes.Attributes.{Attributes}
use Rattle.model.specs.declared.command.Command.{Command}
use Rattle.model.specs.declared.entries.Entry.{Entry}
use Rattle.model.specs.declared.errno.Errno.{Errno}
use Rattle.model.specs.declared.reply.Reply.{Reply}
use Rattle.model.specs.declared.reply.Reply.TheVariants as replies
use Rattle.model.specs.declared.reply.Stat.{Stat}
use Rattle.model.specs.declared.reply.Extent.{Extent}
use Rattle.model.specs.declared.reply.Usage.{Usage}
use Rattle.mount.specs.Applying.{AppliesCommand, HasOnlyAnswers}
use Rattle.mount.specs.declared.fs.Fs.{Fs}

-- it is no other one
not_other : (P : Reply → Type 0) (command : Command) (reply : Reply) → HasOnlyAnswers command P → IsReplyTo command reply → ((errno : Errno) → reply ≢ replies.Refused errno) → P reply
not_other P command (replies.Refused errno) answers is other = absurd (other errno refl)
not_other P command reply answers is other = answers reply is

pub only_done : (command : Command) (reply : Reply) → HasOnlyAnswers command IsDone → IsReplyTo command reply → (reply ≢ replies.Done) → ((errno : Errno) → reply ≢ replies.Refused errno) → ⊥
only_done command reply answers is not other = by_kind reply (not_other IsDone command reply answers is other) not
  where
    by_kind : (reply : Reply) → IsDone reply → (reply ≢ replies.Done) → ⊥
    by_kind replies.Done kind not = not refl
    by_kind reply kind not = kind

pub only_descriptor : (command : Command) (reply : Reply) → HasOnlyAnswers command IsDescriptor → IsReplyTo command reply → ((a : ℕ) → reply ≢ replies.Fd a) → ((errno : Errno) → reply ≢ replies.Refused errno) → ⊥
only_descriptor command reply answers is not other = by_kind reply (not_other IsDescriptor command reply answers is other) not
  where
    by_kind : (reply : Reply) → IsDescriptor reply → ((a : ℕ) → reply ≢ replies.Fd a) → ⊥
    by_kind (replies.Fd a) kind not = not a refl
    by_kind reply kind not = kind

pub only_opened : (command : Command) (reply : Reply) → HasOnlyAnswers command IsOpened → IsReplyTo command reply → ((a : ℕ) (b : Stat) → reply ≢ replies.Opened a b) → ((errno : Errno) → reply ≢ replies.Refused errno) → ⊥
only_opened command reply answers is not other = by_kind reply (not_other IsOpened command reply answers is other) not
  where
    by_kind : (reply : Reply) → IsOpened reply → ((a : ℕ) (b : Stat) → reply ≢ replies.Opened a b) → ⊥
    by_kind (replies.Opened a b) kind not = not a b refl
    by_kind reply kind not = kind

pub only_data : (command : Command) (reply : Reply) → HasOnlyAnswers command IsData → IsReplyTo command reply → ((a : List ℕ) → reply ≢ replies.Data a) → ((errno : Errno) → reply ≢ replies.Refused errno) → ⊥
only_data command reply answers is not other = by_kind reply (not_other IsData command reply answers is other) not
  where
    by_kind : (reply : Reply) → IsData reply → ((a : List ℕ) → reply ≢ replies.Data a) → ⊥
    by_kind (replies.Data a) kind not = not a refl
    by_kind reply kind not = kind

pub only_written : (command : Command) (reply : Reply) → HasOnlyAnswers command IsWritten → IsReplyTo command reply → ((a : ℕ) → reply ≢ replies.Wrote a) → ((errno : Errno) → reply ≢ replies.Refused errno) → ⊥
only_written command reply answers is not other = by_kind reply (not_other IsWritten command reply answers is other) not
  where
    by_kind : (reply : Reply) → IsWritten reply → ((a : ℕ) → reply ≢ replies.Wrote a) → ⊥
    by_kind (replies.Wrote a) kind not = not a refl
    by_kind reply kind not = kind

pub only_offset : (command : Command) (reply : Reply) → HasOnlyAnswers command IsOffset → IsReplyTo command reply → ((a : ℕ) → reply ≢ replies.At a) → ((errno : Errno) → reply ≢ replies.Refused errno) → ⊥
only_offset command reply answers is not other = by_kind reply (not_other IsOffset command reply answers is other) not
  where
    by_kind : (reply : Reply) → IsOffset reply → ((a : ℕ) → reply ≢ replies.At a) → ⊥
    by_kind (replies.At a) kind not = not a refl
    by_kind reply kind not = kind

pub only_text : (command : Command) (reply : Reply) → HasOnlyAnswers command IsTextOf → IsReplyTo command reply → ((a : List ℕ) → reply ≢ replies.Text a) → ((errno : Errno) → reply ≢ replies.Refused errno) → ⊥
only_text command reply answers is not other = by_kind reply (not_other IsTextOf command reply answers is other) not
  where
    by_kind : (reply : Reply) → IsTextOf reply → ((a : List ℕ) → reply ≢ replies.Text a) → ⊥
    by_kind (replies.Text a) kind not = not a refl
    by_kind reply kind not = kind

pub only_names : (command : Command) (reply : Reply) → HasOnlyAnswers command IsNames → IsReplyTo command reply → ((a : List (List ℕ)) → reply ≢ replies.Names a) → ((errno : Errno) → reply ≢ replies.Refused errno) → ⊥
only_names command reply answers is not other = by_kind reply (not_other IsNames command reply answers is other) not
  where
    by_kind : (reply : Reply) → IsNames reply → ((a : List (List ℕ)) → reply ≢ replies.Names a) → ⊥
    by_kind (replies.Names a) kind not = not a refl
    by_kind reply kind not = kind

pub only_entries : (command : Command) (reply : Reply) → HasOnlyAnswers command IsEntries → IsReplyTo command reply → ((a : List Entry) → reply ≢ replies.Entries a) → ((errno : Errno) → reply ≢ replies.Refused errno) → ⊥
only_entries command reply answers is not other = by_kind reply (not_other IsEntries command reply answers is other) not
  where
    by_kind : (reply : Reply) → IsEntries reply → ((a : List Entry) → reply ≢ replies.Entries a) → ⊥
    by_kind (replies.Entries a) kind not = not a refl
    by_kind reply kind not = kind

pub only_snapshots : (command : Command) (reply : Reply) → HasOnlyAnswers command IsSnapshots → IsReplyTo command reply → ((a : List (List ℕ)) → reply ≢ replies.Snaps a) → ((errno : Errno) → reply ≢ replies.Refused errno) → ⊥
only_snapshots command reply answers is not other = by_kind reply (not_other IsSnapshots command reply answers is other) not
  where
    by_kind : (reply : Reply) → IsSnapshots reply → ((a : List (List ℕ)) → reply ≢ replies.Snaps a) → ⊥
    by_kind (replies.Snaps a) kind not = not a refl
    by_kind reply kind not = kind

pub only_stat : (command : Command) (reply : Reply) → HasOnlyAnswers command IsStat → IsReplyTo command reply → ((a : Stat) → reply ≢ replies.Stat a) → ((errno : Errno) → reply ≢ replies.Refused errno) → ⊥
only_stat command reply answers is not other = by_kind reply (not_other IsStat command reply answers is other) not
  where
    by_kind : (reply : Reply) → IsStat reply → ((a : Stat) → reply ≢ replies.Stat a) → ⊥
    by_kind (replies.Stat a) kind not = not a refl
    by_kind reply kind not = kind

pub only_attributes : (command : Command) (reply : Reply) → HasOnlyAnswers command IsAttributes → IsReplyTo command reply → ((a : Stat) (b : Attributes) → reply ≢ replies.Attributes a b) → ((errno : Errno) → reply ≢ replies.Refused errno) → ⊥
only_attributes command reply answers is not other = by_kind reply (not_other IsAttributes command reply answers is other) not
  where
    by_kind : (reply : Reply) → IsAttributes reply → ((a : Stat) (b : Attributes) → reply ≢ replies.Attributes a b) → ⊥
    by_kind (replies.Attributes a b) kind not = not a b refl
    by_kind reply kind not = kind

pub only_space : (command : Command) (reply : Reply) → HasOnlyAnswers command IsSpace → IsReplyTo command reply → ((a : ℕ) (b : ℕ) (c : ℕ) → reply ≢ replies.Space a b c) → ((errno : Errno) → reply ≢ replies.Refused errno) → ⊥
only_space command reply answers is not other = by_kind reply (not_other IsSpace command reply answers is other) not
  where
    by_kind : (reply : Reply) → IsSpace reply → ((a : ℕ) (b : ℕ) (c : ℕ) → reply ≢ replies.Space a b c) → ⊥
    by_kind (replies.Space a b c) kind not = not a b c refl
    by_kind reply kind not = kind

pub only_usage : (command : Command) (reply : Reply) → HasOnlyAnswers command IsUsage → IsReplyTo command reply → ((a : Usage) → reply ≢ replies.Usage a) → ((errno : Errno) → reply ≢ replies.Refused errno) → ⊥
only_usage command reply answers is not other = by_kind reply (not_other IsUsage command reply answers is other) not
  where
    by_kind : (reply : Reply) → IsUsage reply → ((a : Usage) → reply ≢ replies.Usage a) → ⊥
    by_kind (replies.Usage a) kind not = not a refl
    by_kind reply kind not = kind

pub only_extent : (command : Command) (reply : Reply) → HasOnlyAnswers command IsExtent → IsReplyTo command reply → ((a : Extent) → reply ≢ replies.Extent a) → ((errno : Errno) → reply ≢ replies.Refused errno) → ⊥
only_extent command reply answers is not other = by_kind reply (not_other IsExtent command reply answers is other) not
  where
    by_kind : (reply : Reply) → IsExtent reply → ((a : Extent) → reply ≢ replies.Extent a) → ⊥
    by_kind (replies.Extent a) kind not = not a refl
    by_kind reply kind not = kind

-- what is promised of a command, of one in other words
pub applied_so : {S : Type 0} {G : Ghosts S} {old new : Fs S G} {given asked : Command} {reply : Reply} → given ≡ asked → AppliesCommand old new given reply → AppliesCommand old new asked reply
applied_so {old = old} {new = new} {reply = reply} is told = subst (λ (c : Command). AppliesCommand old new c reply) is told
