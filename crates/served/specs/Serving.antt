-- What a server does with the messages of the kernel.
use Rattle.std.specs.Io.KnownBytes.{Appends, Consumes}
use Rattle.std.specs.List.{flat_map}
use Rattle.std.specs.Prelude.{◌≡◌, ◌⊎◌, ℕ, ◌≤◌, ◌==◌, Bool, IsFalse, List, [], ◌∷◌, ◌++◌, length, map, Option, Some, None, IfSome, unwrap_or, if◌then◌else◌, Result, Ok, Err}
use Rattle.channel.specs.Sending.{Asked, Went}
use Rattle.channel.specs.declared.channel.Channel.{Ghosts as Channel}
use Rattle.channel.specs.declared.channel.Ended.{Ended}
use Rattle.channel.specs.declared.channel.Ended.TheVariants as ended
use Rattle.channel.specs.declared.channel.Sent.{Sent}
use Rattle.file_system.specs.declared.file_system.FileSystem.{Ghosts}
use Rattle.fuse.specs.Head.{head}
use Rattle.fuse.specs.Replies.{error_text}
use Rattle.fuse.specs.Request.{IsRequest, RequestValue}
use Rattle.fuse.specs.Retrieval.{retrieval_text}
use Rattle.fuse.specs.declared.head.Head.{Head}
use Rattle.fuse.specs.declared.time.Time.{Time}
use Rattle.model.specs.declared.errno.Errno.{Errno}
use Rattle.model.specs.declared.errno.Errno.TheVariants as errno
use Rattle.served.specs.Durability.{answers_in, is_due, settles}
use Rattle.served.specs.Known.{Known, nothing_known}
use Rattle.served.specs.Marks.{made}
use Rattle.served.specs.Replying.{linux_number, spelled}
use Rattle.served.specs.Snapshots.{learns}
use Rattle.served.specs.Turns.{Came, gives, if_memory}
use Rattle.served.specs.declared.answer.Answer.{Answer}
use Rattle.served.specs.declared.durability.Durability.{Durability}
use Rattle.served.specs.declared.durability.Durability.TheVariants.{Together, Deferred}
use Rattle.served.specs.declared.marks.Asker.{Asker}
use Rattle.served.specs.declared.numbers.TheConstants.{REQUEST_BYTES}
use Rattle.served.specs.declared.serving.Ending.{Ending}
use Rattle.served.specs.declared.serving.Ending.TheVariants.{Unmounted, Failed, NoMemory, Refused, Lost}
use Rattle.served.specs.declared.serving.Owner.{Owner}

-- who asks, and when
abbrev pub asker_of : Head → Time → Asker
asker_of h now = record { uid = h.uid; gid = h.gid; now = now }

-- a message is refused by its number, which its head tells; one without a head isn't
abbrev pub refusal_of : Errno → List ℕ → List ℕ
refusal_of e message = elim (head.at message) [
  | Some found ↦ error_text (found.0).1.1.0 (linux_number e)
  | None ↦ []
]

-- what is no request is refused so
abbrev pub refused_text : List ℕ → List ℕ
refused_text message = refusal_of errno.EINVAL message

-- A message led from one file system, and from what the server knew, to the next, and has this
-- reply: that of the table where it is a request.
pub record IsAnswered {S : Type 0} (G : Ghosts S) (d : Durability) (old new : S) (k known : Known) (now : Time) (message reply : List ℕ) : Type 0 where
  pub request : (r : RequestValue) → IsRequest message r →
      (told : Answer) × Came G old new (answers_in d k (asker_of r.head now) r.head.node r.operation) (told, known)
      × (reply ≡ spelled r.head.unique told)
  pub other : ((r : RequestValue) → IsRequest message r → ⊥) →
      (new ≡ old) × (known ≡ k) × (reply ≡ refused_text message)

-- As far as serving came: the file system, what the server knows, the channel, and since when
-- something waits whose replies went already.
pub record Stage (S C : Type 0) : Type 0 where
  pub files : S
  pub known : Known
  pub channel : C
  pub since : Option Time

abbrev pub stage : {S C : Type 0} → S → Known → C → Option Time → Stage S C
stage files known channel since = record { files = files; known = known; channel = channel; since = since }

-- a message, the time of its answer, the reply to it, and what went of a question to the kernel
-- behind it
pub record Exchange : Type 0 where
  pub message : List ℕ
  pub now : Time
  pub reply : List ℕ
  pub asked : List ℕ

-- Messages whose replies go together, and what went of these.
pub record Batch : Type 0 where
  pub exchanges : List Exchange
  pub went : List ℕ

-- all messages, and all that went: questions, and replies behind them
abbrev pub messages_of : List Exchange → List ℕ
messages_of exchanges = flat_map (λ e. e.message) exchanges

abbrev pub questions_of : List Exchange → List ℕ
questions_of exchanges = flat_map (λ e. e.asked) exchanges

abbrev pub came_of : List Batch → List ℕ
came_of batches = flat_map (λ b. messages_of b.exchanges) batches

abbrev pub gone_of : List Batch → List ℕ
gone_of batches = flat_map (λ b. questions_of b.exchanges ++ b.went) batches

-- What is told in the place of a reply where what was done isn't durable: that the request failed.
-- Where there is no reply there is none then.
abbrev pub lost_text : List ℕ → List ℕ → List ℕ
lost_text message [] = []
lost_text message reply = refusal_of errno.EIO message

-- what is told behind a commit: the reply, if it came to this
abbrev pub told_behind : Result (Unit {0}) Errno → Exchange → List ℕ
told_behind (Ok done) e = e.reply
told_behind (Err why) e = lost_text e.message e.reply

-- how serving ends where the channel did, and where the snapshots weren't learnt
abbrev pub ending_of : Ended → Ending
ending_of ended.Unmounted = Unmounted
ending_of ended.Failed = Failed

abbrev pub unlearnt : Errno → Ending
unlearnt errno.ENOMEM = NoMemory
unlearnt e = Refused e

-- how it ends behind the last commit
abbrev pub ending_behind : Ending → Result (Unit {0}) Errno → Ending
ending_behind why (Ok done) = why
ending_behind why (Err e) = Lost

-- what a server of so many numbers knows at the mount
abbrev pub known_at_mount : ℕ → Owner → Time → Known
known_at_mount numbers owner now = nothing_known numbers (made owner.uid owner.gid now)

module _ {C : Type 0} (H : Channel C) where
  -- the next message is waited for, with room for the longest
  abbrev pub Hears : C → C → Result (List ℕ) Ended → Type 0
  Hears old new found = H.receives old new REQUEST_BYTES found

  -- The kernel may be asked, by any node, for a message behind those that wait.
  abbrev pub MayAsk : C → C → List ℕ → Type 0
  MayAsk old new part = ((new ≡ old) × (part ≡ []))
      ⊎ ((node : ℕ) × (is_taken : Bool) × H.asks old new (retrieval_text node) is_taken × Asked (retrieval_text node) is_taken part)

  -- An empty reply is none. Another is sent, once, and that is done where it went whole or nobody
  -- waits for it.
  abbrev pub IsSent : C → C → List ℕ → List ℕ → Result (Unit {0}) Ended → Type 0
  IsSent old new [] part result = (new ≡ old) × (part ≡ []) × (result ≡ Ok tt)
  IsSent old new reply part (Ok done) = (sent : Sent) × H.sends old new reply (Ok sent) × Went reply (Ok sent) part
  IsSent old new reply part (Err ended) = H.sends old new reply (Err ended) × Went reply (Err ended) part

  -- Replies are sent in their order, each behind the one before it, until the channel ends.
  abbrev pub AreSent : C → C → List (List ℕ) → List ℕ → Result (Unit {0}) Ended → Type 0
  AreSent old new [] went result = (new ≡ old) × (went ≡ []) × (result ≡ Ok tt)
  AreSent old new (reply ∷ replies) went result =
      ((next : C) × (part : List ℕ) × (rest : List ℕ) × IsSent old next reply part (Ok tt) × (went ≡ part ++ rest) × AreSent next new replies rest result)
      ⊎ ((ended : Ended) × IsSent old new reply went (Err ended) × (result ≡ Err ended))

  -- the known bytes that came were the messages of these, and the known bytes that went grew by what
  -- went of their questions and replies
  abbrev pub Passed : C → C → List Batch → Type 0
  Passed old new batches =
      Consumes (H.coming old) (H.coming new) (came_of batches) × Appends (H.gone old) (H.gone new) (gone_of batches)

-- since when something waits, where so many bytes wait behind an answer at this time
abbrev pub since_behind : ℕ → Option Time → Time → Option Time
since_behind waiting since now = if waiting == 0 then None else Some (unwrap_or since now)

module _ {S C : Type 0} (G : Ghosts S) where
  -- all that was applied is made durable, or that fails
  pub record IsCommitted (old new : Stage S C) (done : Result (Unit {0}) Errno) : Type 0 where
    pub commits : G.commits old.files new.files done
    pub since : new.since ≡ None

  -- What was done may wait on behind its reply: the message doesn't ask that it be durable, and no
  -- more bytes wait than these, nor since longer than that.
  pub record WaitsOn (milliseconds bytes : ℕ) (old new : Stage S C) (e : Exchange) : Type 0 where
    pub asks_none : (r : RequestValue) → IsRequest e.message r → IsFalse (settles r.operation)
    pub files : new.files ≡ old.files
    pub since : new.since ≡ since_behind (G.waits old.files) old.since e.now
    pub few : G.waits old.files ≤ bytes
    pub young : IfSome new.since (λ since. IsFalse (is_due milliseconds since e.now))

  -- What has to be done before the replies of a batch go. Together, a commit. Deferred, a batch is one
  -- message at the most, and what it did may wait on.
  abbrev pub Settles : Durability → Stage S C → Stage S C → List Exchange → Result (Unit {0}) Errno → Type 0
  Settles Together old new exchanges done = IsCommitted old new done
  Settles (Deferred milliseconds bytes) old new exchanges done = (IsCommitted old new done × (length exchanges ≤ 1))
      ⊎ ((e : Exchange) × (exchanges ≡ e ∷ []) × WaitsOn milliseconds bytes old new e × (done ≡ Ok tt))

module _ {S C : Type 0} (G : Ghosts S) (H : Channel C) (d : Durability) where
  -- A message came, and was answered. The kernel may be asked behind it.
  pub record IsHeard (old new : Stage S C) (e : Exchange) : Type 0 where
    -- the channel once the message had come
    pub heard : C
    pub came : Hears H old.channel heard (Ok e.message)
    pub answered : IsAnswered G d old.files new.files old.known new.known e.now e.message e.reply
    pub asks : MayAsk H heard new.channel e.asked
    pub since : new.since ≡ old.since

  -- one message after the other came, and was answered before the next was waited for
  abbrev pub AreHeard : Stage S C → Stage S C → List Exchange → Type 0
  AreHeard old new [] = new ≡ old
  AreHeard old new (e ∷ es) = (next : Stage S C) × IsHeard old next e × AreHeard next new es

  -- Messages came and were answered, what that did was settled, and then the replies went, in order, to
  -- all but those for which there was no memory.
  pub record IsBatch (old new : Stage S C) (kept unkept : List Exchange) (went : List ℕ) (result : Result (Unit {0}) Ended) : Type 0 where
    -- once all messages were answered
    pub heard : Stage S C
    pub each : AreHeard old heard (kept ++ unkept)
    -- what the commit came to
    pub done : Result (Unit {0}) Errno
    pub settled : Settles G d heard new (kept ++ unkept) done
    pub known : new.known ≡ heard.known
    pub sent : AreSent H heard.channel new.channel (map (told_behind done) kept) went result

  -- one batch after the other: no message is waited for before all replies of the batch before it went
  abbrev pub AreBatches : Stage S C → Stage S C → List Batch → Type 0
  AreBatches old new [] = new ≡ old
  AreBatches old new (b ∷ bs) = (next : Stage S C) × IsBatch old next b.exchanges [] b.went (Ok tt) × AreBatches next new bs

  -- the channel ended while a message was waited for: no reply goes to those before it in their batch
  pub record IsSilent (old new : Stage S C) (last : Batch) (ended : Ended) : Type 0 where
    pub heard : C
    pub each : AreHeard old (stage new.files new.known heard new.since) last.exchanges
    pub ends : Hears H heard new.channel (Err ended)
    pub none : last.went ≡ []

  -- the channel ended, then or while replies were sent
  abbrev pub IsEndedBy : Stage S C → Stage S C → Batch → Ended → Type 0
  IsEndedBy old new last ended =
      IsSilent old new last ended ⊎ IsBatch old new last.exchanges [] last.went (Err ended)

  -- there was no memory to begin with, or for the reply to one message
  abbrev pub LacksMemory : Stage S C → Stage S C → Batch → Type 0
  LacksMemory old new last = ((new ≡ old) × (last ≡ record { exchanges = []; went = [] }))
      ⊎ ((kept : List Exchange) × (e : Exchange) × (result : Result (Unit {0}) Ended)
      × (last.exchanges ≡ kept ++ e ∷ []) × IsBatch old new kept (e ∷ []) last.went result)

  -- why no more messages are answered
  abbrev pub Stops : Stage S C → Stage S C → Batch → Ending → Type 0
  Stops old new last Unmounted = IsEndedBy old new last ended.Unmounted
  Stops old new last Failed = IsEndedBy old new last ended.Failed
  Stops old new last NoMemory = LacksMemory old new last
  Stops old new last (Refused e) = ⊥
  Stops old new last Lost = ⊥

  -- batches were served whole, and one more as far as that went
  pub record HasStopped (old new : Stage S C) (why : Ending) : Type 0 where
    pub batches : List Batch
    pub between : Stage S C
    pub last : Batch
    pub each : AreBatches old between batches
    pub stops : Stops between new last why
    pub passed : Passed H old.channel new.channel (batches ++ last ∷ [])

  -- In the end all that was applied is made durable; where that fails, the ending tells it.
  pub record HasEnded (old new : Stage S C) (ending : Ending) : Type 0 where
    pub stopped : Stage S C
    pub why : Ending
    pub done : Result (Unit {0}) Errno
    pub served : HasStopped old stopped why
    pub committed : IsCommitted G stopped new done
    pub known : new.known ≡ stopped.known
    pub channel : new.channel ≡ stopped.channel
    pub tells : ending ≡ ending_behind why done

  -- behind the learning of the snapshots messages are answered, or serving ends where it failed
  abbrev pub EndsBehind : Stage S C → Stage S C → Ending → Result (Unit {0}) Errno → Type 0
  EndsBehind old new ending (Ok done) = HasEnded old new ending
  EndsBehind old new ending (Err e) = (new ≡ old) × (ending ≡ unlearnt e)

  -- Serving, from the mount on, over a file system and a channel: if there is memory, the snapshots
  -- are learnt before a message may come, and messages are answered then.
  pub record Serves (numbers : ℕ) (owner : Owner) (old new : S × C) (ending : Ending) : Type 0 where
    -- the time of the mount
    pub now : Time
    -- what the learning came to, and the file system and what is known behind it
    pub found : Result (Unit {0}) Errno
    pub files : S
    pub learnt : Known
    -- what is known in the end
    pub known : Known
    pub came : let k = known_at_mount numbers owner now in
        Came G old.0 files (if_memory (gives (Err errno.ENOMEM, k)) (learns k)) (found, learnt)
    pub ends : EndsBehind (stage files learnt old.1 None) (stage new.0 known new.1 None) ending found
