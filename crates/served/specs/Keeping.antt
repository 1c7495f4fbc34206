-- What the server keeps of objects whose last name goes, since the kernel may know them for longer. `k` is
-- what the server knows.
use Rattle.std.specs.Prelude.{ℕ, ◌+◌, ◌-◌, ◌==◌, min, Bool, false, List, [], ◌∷◌, Option, Some, None, Result, Ok, Err}
use Rattle.file_system.specs.declared.handle.Handle.{Handle}
use Rattle.fuse.specs.declared.forgets.Forget.{Forget}
use Rattle.model.specs.declared.command.Command.TheVariants as command
use Rattle.model.specs.declared.command.PathCall.TheVariants as call
use Rattle.model.specs.declared.errno.Errno.{Errno}
use Rattle.model.specs.declared.errno.Errno.TheVariants as errno
use Rattle.model.specs.declared.limits.TheConstants.{OPEN_FILES}
use Rattle.model.specs.declared.reply.FileType.TheVariants.{File, Dir, Link}
use Rattle.model.specs.declared.reply.Reply.TheVariants as reply
use Rattle.model.specs.declared.reply.Stat.{Stat}
use Rattle.served.specs.Commands.{opening}
use Rattle.served.specs.Known.{Known, marks_at, with_gone, without_removed}
use Rattle.served.specs.Marks.{changed}
use Rattle.served.specs.Nodes.{node_of}
use Rattle.served.specs.Turns.{Turn, ◌▹◌, asks, asks_for, either, gives, if_memory, told_done}
use Rattle.served.specs.declared.keeping.Kept.{Kept}
use Rattle.served.specs.declared.keeping.Kept.TheVariants as kept
use Rattle.served.specs.declared.marks.Asker.{Asker}
use Rattle.served.specs.declared.memory.Removed.{Removed}

-- a file is opened, the text of a link is read, a directory needs nothing; where that is refused
-- nothing is kept
abbrev pub keeps : List ℕ → Stat → Turn Kept
keeps path stat = elim stat.kind [
  | File ↦ asks_for reply.Fd (command.Open path (opening false false) 0 OPEN_FILES) (λ e. gives kept.Nothing) (λ fd. gives (kept.Open fd))
  | Link ↦ asks_for reply.Text (command.Path (call.Readlink path)) (λ e. gives kept.Nothing) (λ text. gives (kept.Text text))
  | Dir ↦ gives kept.Nothing
]

abbrev pub descriptor_of : Kept → Option ℕ
descriptor_of (kept.Open fd) = Some fd
descriptor_of _ = None

abbrev pub text_of : Kept → Option (List ℕ)
text_of (kept.Text text) = Some text
text_of _ = None

-- what is kept by a descriptor is closed
abbrev pub lets_go : Option ℕ → Turn (Unit {0})
lets_go None = gives tt
lets_go (Some fd) = asks told_done (command.Close fd) ▹ (λ done. gives tt)

-- an object whose last name goes, as it is told of for as long as the kernel knows it
abbrev pub gone : Known → Asker → Handle → Stat → Kept → Removed
gone k asker handle stat what = record {
  stat = record stat { links = 0 };
  marks = changed asker.now (marks_at k handle);
  held = descriptor_of what;
  opens = 0;
}

abbrev pub remembered : Known → Asker → Handle → Stat → Kept → Known
remembered k asker handle stat what = with_gone (node_of handle) (gone k asker handle stat what) (text_of what) k

-- an object is kept and remembered, or there is no memory for that; the descriptor is told
abbrev pub remembers : Known → Asker → Handle → List ℕ → Stat → Turn (Result (Option ℕ) Errno × Known)
remembers k asker handle path stat = keeps path stat ▹ (λ what.
    if_memory
    (lets_go (descriptor_of what) ▹ (λ d. gives (Err errno.ENOMEM, without_removed (node_of handle) k)))
    (gives (Ok (descriptor_of what), remembered k asker handle stat what)))

-- it keeps its name after all
abbrev pub gives_up : Known → Handle → Option ℕ → Turn Known
gives_up k handle held = lets_go held ▹ (λ d. gives (without_removed (node_of handle) k))

-- FORGET: the kernel doesn't know a node any more, but one that it has open by what is kept
abbrev pub forgets_removed : Known → ℕ → Option Removed → Turn Known
forgets_removed k node None = gives k
forgets_removed k node (Some removed) =
    either (removed.opens == 0) (lets_go removed.held ▹ (λ d. gives (without_removed node k))) (gives k)

abbrev pub forgets : Known → ℕ → Turn Known
forgets k node = forgets_removed k node (k.removed node)

-- BATCH_FORGET
unfoldable pub forgets_all : Known → List Forget → Turn Known
forgets_all k [] = gives k
forgets_all k (f ∷ fs) = forgets k f.node ▹ (λ known. forgets_all known fs)

-- a removed file is opened once more by what is kept, or closed; more often than 2^32 - 1 times isn't counted
abbrev pub opened_more : Removed → Removed
opened_more removed = record removed { opens = min (removed.opens + 1) 4294967295 }

abbrev pub closed_once : Removed → Removed
closed_once removed = record removed { opens = removed.opens - 1 }

-- whether a removed file is kept by this descriptor
abbrev pub is_held : Option ℕ → ℕ → Bool
is_held (Some held) fd = held == fd
is_held None fd = false

-- the size that a removed object has: that of the open file, where one is kept
abbrev pub removed_size : Removed → Turn (Result ℕ Errno)
removed_size removed = elim removed.held [
  | Some fd ↦ asks_for reply.Stat (command.Fstat fd) (λ e. gives (Err e)) (λ now. gives (Ok now.size))
  | None ↦ gives (Ok removed.stat.size)
]
