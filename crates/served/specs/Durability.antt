-- When what was answered is durable.
use Rattle.std.specs.Prelude.{ℕ, ◌+◌, ◌*◌, ◌/◌, ◌&&◌, ◌||◌, nat_le, nat_lt, Bool, true, false}
use Rattle.fuse.specs.Operation as asked
use Rattle.fuse.specs.Operation.{OperationValue}
use Rattle.fuse.specs.declared.time.Time.{Time}
use Rattle.served.specs.Known.{Known}
use Rattle.served.specs.Requests.{answers}
use Rattle.served.specs.Setting.{Told, told}
use Rattle.served.specs.Turns.{Turn, either}
use Rattle.served.specs.declared.answer.Answer.TheVariants as answer
use Rattle.served.specs.declared.durability.Durability.{Durability}
use Rattle.served.specs.declared.durability.Durability.TheVariants.{Together, Deferred}
use Rattle.served.specs.declared.marks.Asker.{Asker}

abbrev pub is_deferred : Durability → Bool
is_deferred Together = false
is_deferred (Deferred milliseconds bytes) = true

-- FSYNC, FSYNCDIR and FLUSH ask that what was done be durable
abbrev pub asks_durable : OperationValue → Bool
asks_durable (asked.sync handle data_only) = true
asks_durable (asked.sync_directory handle data_only) = true
asks_durable (asked.flush handle) = true
asks_durable _ = false

-- what was done is durable when these are answered, and STATFS
abbrev pub settles : OperationValue → Bool
settles asked.stat_file_system = true
settles operation = asks_durable operation

-- The answer is the table's; but where replies go before what they tell is durable, those that ask for
-- it are served.
unfoldable pub answers_in : Durability → Known → Asker → ℕ → OperationValue → Turn Told
answers_in d k by node operation =
    either (is_deferred d && asks_durable operation) (told k answer.Done) (answers k by node operation)

-- milliseconds since 1970
abbrev pub instant : Time → ℕ
instant t = t.seconds * 1000 + t.nanoseconds / 1000000

-- so many milliseconds passed, or the clock went back
abbrev pub is_due : ℕ → Time → Time → Bool
is_due milliseconds since now = nat_lt (instant now) (instant since) || nat_le (instant since + milliseconds) (instant now)
