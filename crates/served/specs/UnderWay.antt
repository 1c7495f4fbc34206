-- How far a batch is: which messages came, and which replies are kept.
use Rattle.std.specs.Io.KnownBytes.{Appends, Consumes}
use Rattle.std.specs.Prelude.{◌≡◌, ◌++◌, Bool, List, [], ◌∷◌, map, Result, Ok}
use Rattle.channel.specs.declared.channel.Channel.{Ghosts as Channel}
use Rattle.file_system.specs.declared.file_system.FileSystem.{Ghosts}
use Rattle.fuse.specs.Request.{IsRequest, RequestValue}
use Rattle.fuse.specs.declared.time.Time.{Time}
use Rattle.model.specs.declared.errno.Errno.{Errno}
use Rattle.served.specs.Durability.{settles}
use Rattle.served.specs.Kept.{Owed, owed_behind}
use Rattle.served.specs.Serving.{AreBatches, AreHeard, Batch, Exchange, Hears, IsAnswered, Stage, came_of, gone_of, messages_of, questions_of, told_behind}
use Rattle.served.specs.declared.durability.Durability.{Durability}
use Rattle.served.specs.declared.durability.Durability.TheVariants.{Together, Deferred}

-- the kept replies are those to these messages, whatever the commit comes to
unfoldable pub AreOwed : List Owed → List Exchange → Type 0
AreOwed kept exchanges =
    (done : Result (Unit {0}) Errno) → map (owed_behind done) kept ≡ map (told_behind done) exchanges

-- deferred, nothing is kept while a message is waited for
abbrev pub KeepsNone : Durability → List Exchange → Type 0
KeepsNone Together exchanges = Unit {0}
KeepsNone (Deferred milliseconds bytes) exchanges = exchanges ≡ []

module _ {S C : Type 0} (G : Ghosts S) (H : Channel C) (d : Durability) where
  -- whole batches were served, and behind them these messages came and were answered
  pub record HasCome (begun now : Stage S C) (exchanges : List Exchange) : Type 0 where
    pub batches : List Batch
    pub between : Stage S C
    pub each : AreBatches G H d begun between batches
    pub heard : AreHeard G H d between now exchanges
    pub coming : Consumes (H.coming begun.channel) (H.coming now.channel) (came_of batches ++ messages_of exchanges)
    pub gone : Appends (H.gone begun.channel) (H.gone now.channel) (gone_of batches ++ questions_of exchanges)

  -- the replies to them are kept, and another message may be waited for
  pub record IsUnderWay (begun now : Stage S C) (kept : List Owed) : Type 0 where
    pub exchanges : List Exchange
    pub come : HasCome begun now exchanges
    pub owes : AreOwed kept exchanges
    pub free : KeepsNone d exchanges

  -- behind such messages one more came, and was answered; the kernel wasn't asked yet
  pub record HasAnswered (begun now : Stage S C) (before : List Exchange) (e : Exchange) : Type 0 where
    pub old : Stage S C
    pub come : HasCome begun old before
    pub free : KeepsNone d before
    pub hears : Hears H old.channel now.channel (Ok e.message)
    pub answered : IsAnswered G d old.files now.files old.known now.known e.now e.message e.reply
    pub since : now.since ≡ old.since
    pub coming : Consumes (H.coming old.channel) (H.coming now.channel) e.message
    pub gone : H.gone now.channel ≡ H.gone old.channel

  -- its reply is kept too; it came at this time, and asks that what was done be durable, or doesn't
  pub record HasKept (begun now : Stage S C) (kept : List Owed) (at : Time) (is_asked : Bool) : Type 0 where
    pub before : List Exchange
    pub last : Exchange
    pub answered : HasAnswered begun now before last
    pub owes : AreOwed kept (before ++ last ∷ [])
    pub time : last.now ≡ at
    pub asks : (r : RequestValue) → IsRequest last.message r → is_asked ≡ settles r.operation
