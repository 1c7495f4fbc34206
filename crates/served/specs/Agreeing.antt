-- What kernel and server agree on.
use Rattle.std.specs.Prelude.{ℕ, ◌==◌, ◌&&◌, nat_le, bit_and, if◌then◌else◌}
use Rattle.fuse.specs.declared.init_reply.TheConstants.{MAJOR_VERSION, MINOR_VERSION}
use Rattle.served.specs.declared.agreeing.TheConstants.{OFFERED}
use Rattle.served.specs.declared.answer.Answer.{Answer}
use Rattle.served.specs.declared.answer.Answer.TheVariants as answer
use Rattle.served.specs.declared.numbers.TheConstants.{MOST_BYTES}

-- INIT of a kernel that speaks this version or a later one: what of its offer the server can do, and
-- requests of at most MOST_BYTES
abbrev pub agree : ℕ → ℕ → ℕ → ℕ → Answer
agree major minor max_readahead flags =
    if (major == MAJOR_VERSION) && nat_le MINOR_VERSION minor
    then answer.Agreed (record {
      max_readahead = max_readahead;
      flags = bit_and flags OFFERED;
      max_background = 16;
      congestion_threshold = 12;
      max_write = MOST_BYTES;
      time_granularity = 1;
      max_pages = 256;
    })
    else answer.OtherVersion
