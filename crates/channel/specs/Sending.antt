-- What goes of a reply, and of a question.
use Rattle.std.specs.Prelude.{ℕ, ◌≡◌, ◌++◌, Bool, true, false, List, [], Result, Ok, Err}
use Rattle.channel.specs.declared.channel.Ended.{Ended}
use Rattle.channel.specs.declared.channel.Sent.{Sent}
use Rattle.channel.specs.declared.channel.Sent.TheVariants.{Whole, Unwanted}

-- what went of a reply, by what its sending came to: all of it, nothing where nobody waits for it,
-- and a beginning where the channel ended
abbrev pub Went : List ℕ → Result Sent Ended → List ℕ → Type 0
Went reply (Ok Whole) part = part ≡ reply
Went reply (Ok Unwanted) part = part ≡ []
Went reply (Err ended) part = (rest : List ℕ) × (reply ≡ part ++ rest)

-- what went of a question, by whether the kernel took it: all of it, or a beginning
abbrev pub Asked : List ℕ → Bool → List ℕ → Type 0
Asked question true part = part ≡ question
Asked question false part = (rest : List ℕ) × (question ≡ part ++ rest)
